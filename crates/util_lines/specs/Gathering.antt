-- Contents of several operands, which are all read before anything is written.
use Rattle.std.specs.Prelude.{ℕ, List, [], ◌∷◌, ◌++◌}
use Rattle.hs_world.specs.World.{WorldData}
use Rattle.hs_world.specs.declared.effect.Effect.TheVariants.{Emit}
use Rattle.hs_world.specs.declared.effect.Fd.TheVariants.{Two}
use Rattle.hs_view.specs.Acts.{only, then_by}
use Rattle.hs_view.specs.Steps.{Done, nothing}
use Rattle.util_common.specs.Messages.{message_on}
use Rattle.util_common.specs.Operands.{content_taken}
use Rattle.util_common.specs.declared.content.Content.{Content}
use Rattle.util_common.specs.declared.content.Content.TheVariants.{Bytes, Refused}
use Rattle.util_common.specs.declared.messages.Why.{Why}
use Rattle.util_lines.specs.declared.gathering.Gathered.{Gathered}

abbrev pub gathered : List (List ℕ) → ℕ → Gathered
gathered contents status = record { contents = contents; status = status }

abbrev pub none_yet : Gathered
none_yet = gathered [] 0

-- An operand that is refused gives its message and this status, and adds no content.
abbrev pub refused_gathered : List ℕ → ℕ → Gathered → List ℕ → Why → WorldData → Done Gathered
refused_gathered utility bad so_far word why w = only (Emit Two (message_on utility word why)) (gathered so_far.contents bad) w

abbrev pub content_gathered : List ℕ → ℕ → Gathered → List ℕ → Content → WorldData → Done Gathered
content_gathered utility bad so_far word (Bytes bytes) w = nothing (gathered (so_far.contents ++ bytes ∷ []) so_far.status) w
content_gathered utility bad so_far word (Refused why) w = refused_gathered utility bad so_far word why w

abbrev pub operand_gathered : List ℕ → ℕ → Gathered → List ℕ → WorldData → Done Gathered
operand_gathered utility bad so_far word w = then_by (content_taken word w) (content_gathered utility bad so_far word) w

abbrev pub operands_gathered : List ℕ → ℕ → Gathered → List (List ℕ) → WorldData → Done Gathered
operands_gathered utility bad so_far [] w = nothing so_far w
operands_gathered utility bad so_far (word ∷ words) w = then_by (operand_gathered utility bad so_far word w) (λ next. operands_gathered utility bad next words) w
