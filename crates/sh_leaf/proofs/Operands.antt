-- What utilities do for their operands is valid where it comes, in every state.
use Rattle.std.proofs.Common.{ℕ, Bool, true, false, List, [], ◌∷◌, refl}
use Rattle.std.specs.Prelude.{if◌then◌else◌}
use Rattle.hs_world.proofs.Passing.{valid_append}
use Rattle.hs_world.specs.Paths.{resolve}
use Rattle.hs_world.specs.World.{WorldData, Applied, AllValid}
use Rattle.hs_view.specs.Acts.{then_by}
use Rattle.hs_view.specs.Steps.{Done, nothing}
use Rattle.util_common.specs.Operands.{Progress, Writer, content_in, content_taken, content_written, input_taken, none_yet, operand_written, operands_written, or_input}
use Rattle.util_common.specs.declared.content.Content.{Content}
use Rattle.util_common.specs.declared.content.Content.TheVariants.{Bytes, Refused}

abbrev pub Valid : {A : Type 0} → (WorldData → Done A) → Type 0
Valid meaning = (w : WorldData) → AllValid (meaning w).effects w

pub valid_then : {A C : Type 0} (one : WorldData → Done A) (rest : A → WorldData → Done C) → Valid one → ((x : A) → Valid (rest x)) → Valid (λ w. then_by (one w) rest w)
valid_then one rest a b = λ w. valid_append (one w).effects (rest (one w).answer (Applied (one w).effects w)).effects w (a w) (b (one w).answer (Applied (one w).effects w))

-- ---- operands that are read

pub taken_by : (dash : Bool) (content : Content) (w : WorldData) → AllValid (if dash then input_taken w else nothing content w).effects w
taken_by true content w = (refl, tt)
taken_by false content w = tt

written_by : (name : List ℕ) (text : Writer) (so_far : Progress) (word : List ℕ) (content : Content) → Valid (content_written name text so_far word content)
written_by name text so_far word (Bytes bytes) w = (refl, tt)
written_by name text so_far word (Refused why) w = (refl, tt)

operand_valid : (name : List ℕ) (text : Writer) (so_far : Progress) (word : List ℕ) → Valid (operand_written name text so_far word)
operand_valid name text so_far word = valid_then (content_taken word) (content_written name text so_far word) (λ w. taken_by _ (content_in w.tree (resolve w.cwd word)) w) (written_by name text so_far word)

pub operands_valid : (name : List ℕ) (text : Writer) (so_far : Progress) (words : List (List ℕ)) → Valid (operands_written name text so_far words)
operands_valid name text so_far [] w = tt
operands_valid name text so_far (word ∷ words) w =
    valid_then (operand_written name text so_far word) (λ next. operands_written name text next words) (operand_valid name text so_far word) (λ next. operands_valid name text next words) w

-- one text for each operand, or for standard input
pub filters_valid : (name : List ℕ) (text : Writer) (operands : List (List ℕ)) → Valid (operands_written name text none_yet (or_input operands))
filters_valid name text operands w = operands_valid name text none_yet (or_input operands) w
