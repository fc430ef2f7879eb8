-- The meaning computed on small scripts.
use Rattle.std.proofs.Common.{◌≡◌, ℕ, List, [], ◌∷◌, ◌++◌, map, refl, ap, ◌∙◌}
use Rattle.std.specs.Prelude.{codes, replicate, true, false, Some, None, Ok, Err}
use Rattle.std.specs.FinMap.{empty}
use Rattle.hs_world.specs.declared.effect.Effect.TheVariants.{Emit, PopInput, PushInput, SetInput, SetStatus, SetVar, UnsetVar}
use Rattle.hs_world.specs.declared.effect.Fd.TheVariants.{One, Two}
use Rattle.hs_world.specs.declared.var.Var.{Var}
use Rattle.hs_world.specs.World.{WorldData, new_world, output, errors}
use Rattle.hs_view.specs.Acts.{answering, then_by}
use Rattle.hs_view.specs.Steps.{Done}
use Rattle.hs_view.specs.declared.halt.SpentKind.TheVariants.{Turns, Bytes}
use Rattle.sh_syntax.specs.declared.tree.Part.{Plain, Single, Command}
use Rattle.sh_syntax.specs.declared.tree.Part.TheOpen as open_part
use Rattle.sh_syntax.specs.declared.tree.Word.{Word}
use Rattle.sh_syntax.specs.declared.tree.Command.TheVariants.{Simple}
use Rattle.sh_syntax.specs.declared.tree.Pipeline.{Pipeline}
use Rattle.sh_syntax.specs.declared.tree.Script.{Script}
use Rattle.sh_param.specs.Parts.{Meaning, opened, parts_of}
use Rattle.sh_param.specs.Plans.{expanded_by}
use Rattle.sh_param.specs.Words.{plan_with, word_parts}
use Rattle.sh_param.specs.declared.mode.Context.TheVariants as context
use Rattle.sh_expand.specs.Sums.{sums}
use Rattle.sh_expand.proofs.Folds.{fold_plain}
use Rattle.sh_leaf.proofs.Nested.{command_built, plain_built, single_built}
use Rattle.sh_leaf.specs.Assigning.{given_back, set_over}
use Rattle.sh_leaf.specs.Built.{is_built, is_built_part}
use Rattle.sh_leaf.specs.Command.{call, command, kept, measured_run, texts_run, told}
use Rattle.sh_leaf.specs.Cut.{Serial}
use Rattle.sh_leaf.specs.Do.{Do, most_frames, most_nested}
use Rattle.sh_leaf.specs.Expanding.{came_then, fields_told, measured, paths_come}
use Rattle.sh_leaf.specs.Run.{Done as Ended, Stopped, whole_run}
use Rattle.sh_leaf.specs.State.{Ends, Gave, Ran_out, begin, make, state_of}
use Rattle.sh_leaf.specs.Utilities.{named}
use Rattle.sh_leaf.specs.declared.outcome.Outcome.{Outcome}
use Rattle.sh_leaf.specs.declared.outcome.Outcome.TheVariants.{Status, Exit}
use Rattle.sh_leaf.specs.declared.utility.Utility.TheVariants.{Wc}

-- standard input has `in` and a newline
abbrev w₀ : WorldData
w₀ = new_world empty [] (codes "hs") [] (codes "in\n") (record { bytes = 1024; turns = 1 })

abbrev plain : List ℕ → Word
plain bytes = record { parts = Plain bytes ∷ [] }

abbrev leaf : List Word → Pipeline
leaf words = record { bang = false; stages = Simple [] words [] ∷ [] }

-- two commands without a word
abbrev two : Script
two = record {
  lists = record { items = record { first = 0; rest = [] } ∷ record { first = 1; rest = [] } ∷ [] } ∷ [];
  bodies = [];
  leaves = leaf [] ∷ leaf [] ∷ [];
}

-- one command
abbrev one : List Word → Script
one words = record { lists = record { items = record { first = 0; rest = [] } ∷ [] } ∷ []; bodies = []; leaves = leaf words ∷ [] }

abbrev nothing_in : Script
nothing_in = record { lists = record { items = [] } ∷ []; bodies = []; leaves = [] }

-- ---- runs

two_run : Serial two w₀ 10 [] ≡ record { effects = SetStatus 0 ∷ SetStatus 0 ∷ []; ending = Ended 0 }
two_run = refl

two_turns : (whole_run two w₀ 10 []).state.turns ≡ 8
two_turns = refl

two_leaves : (whole_run two w₀ 10 []).state.leaves ≡ 2
two_leaves = refl

-- one turn is not enough
two_spent : Serial two w₀ 1 [] ≡ record { effects = SetStatus 0 ∷ []; ending = Stopped (Ran_out Turns) }
two_spent = refl

none_spent : Serial two w₀ 0 [] ≡ record { effects = []; ending = Stopped (Ran_out Turns) }
none_spent = refl

nothing_runs : Serial nothing_in w₀ 1 [] ≡ record { effects = SetStatus 0 ∷ []; ending = Ended 0 }
nothing_runs = refl

-- the last effect that a world takes is the first of the script
two_cut : Serial two (record w₀ { count = 4611686018427387903 }) 10 [] ≡ record { effects = SetStatus 0 ∷ []; ending = Stopped (Ran_out Bytes) }
two_cut = refl

written_out : output (Emit One (codes "a\n") ∷ SetStatus 0 ∷ Emit One (codes "b c\n") ∷ []) w₀ ≡ codes "a\nb c\n"
written_out = refl

nothing_wrong : errors (Emit One (codes "a\n") ∷ SetStatus 0 ∷ Emit One (codes "b c\n") ∷ []) w₀ ≡ []
nothing_wrong = refl

-- ---- leaves

takes_a_turn : Do two most_nested most_frames 1 (begin w₀ 3 []) ≡ Gave (Status 0) (make (SetStatus 0 ∷ []) (begin w₀ 2 []))
takes_a_turn = refl

has_no_turn : Do two most_nested most_frames 1 (begin w₀ 0 []) ≡ Ends (Ran_out Turns) (begin w₀ 0 [])
has_no_turn = refl

-- A leaf that the script does not have sets the status alone.
no_leaf : (state_of (Do two most_nested most_frames 2 (begin w₀ 1 []))).effects ≡ SetStatus 0 ∷ []
no_leaf = refl

-- ---- commands, by their texts

echoes : texts_run [] 0 (codes "echo" ∷ codes "a" ∷ codes "b" ∷ []) w₀ ≡ record { effects = Emit One (codes "a b\n") ∷ SetStatus 0 ∷ []; answer = Ok (Status 0) }
echoes = refl

reads_input : texts_run [] 0 (codes "cat" ∷ []) w₀ ≡ record { effects = SetInput [] ∷ Emit One (codes "in\n") ∷ SetStatus 0 ∷ []; answer = Ok (Status 0) }
reads_input = refl

-- `-` twice is empty the second time
reads_input_once : (texts_run [] 0 (codes "cat" ∷ codes "-" ∷ codes "-" ∷ []) w₀).effects ≡ SetInput [] ∷ Emit One (codes "in\n") ∷ SetInput [] ∷ Emit One [] ∷ SetStatus 0 ∷ []
reads_input_once = refl

no_path : texts_run [] 0 (codes "cat" ∷ [] ∷ []) w₀ ≡ record { effects = Emit Two (codes "hs: cat: : no such file\n") ∷ SetStatus 1 ∷ []; answer = Ok (Status 1) }
no_path = refl

first_lines : (texts_run [] 0 (codes "head" ∷ []) w₀).effects ≡ SetInput [] ∷ Emit One (codes "in\n") ∷ SetStatus 0 ∷ []
first_lines = refl

no_utility : texts_run [] 0 (codes "ls" ∷ []) w₀ ≡ record { effects = SetStatus 127 ∷ []; answer = Ok (Status 127) }
no_utility = refl

-- Words that become nothing are no command, whatever the status was.
no_texts : texts_run [] 3 [] w₀ ≡ record { effects = SetStatus 0 ∷ []; answer = Ok (Status 0) }
no_texts = refl

last_name : named (codes "wc") ≡ Some Wc
last_name = refl

longer_name : named (codes "wcs") ≡ None
longer_name = refl

-- ---- texts that are measured

short_texts : measured (replicate 1023 97 ∷ []) ≡ []
short_texts = refl

long_texts : measured (replicate 1022 97 ∷ codes "b" ∷ []) ≡ PushInput (replicate 1022 97 ++ 10 ∷ 98 ∷ 10 ∷ []) ∷ PopInput ∷ []
long_texts = refl

-- ---- variables

abbrev bare : List ℕ → Var
bare text = record { value = Some text; exported = false; readonly = false }

abbrev sent : List ℕ → Var
sent text = record { value = Some text; exported = true; readonly = false }

set_alone : set_over false None (codes "x") (codes "2") w₀ ≡ record { effects = SetVar (codes "x") (bare (codes "2")) ∷ []; answer = Ok None }
set_alone = refl

-- A mark for export stays.
set_shared : set_over false (Some (sent (codes "1"))) (codes "x") (codes "2") w₀ ≡ record { effects = SetVar (codes "x") (sent (codes "2")) ∷ []; answer = Ok (Some (sent (codes "1"))) }
set_shared = refl

set_before_a_name : set_over true None (codes "x") (codes "2") w₀ ≡ record { effects = SetVar (codes "x") (sent (codes "2")) ∷ []; answer = Ok None }
set_before_a_name = refl

set_fixed : set_over false (Some (record { value = Some (codes "1"); exported = true; readonly = true })) (codes "x") (codes "2") w₀ ≡ record { effects = []; answer = Err (codes "hs: x: is read only\n") }
set_fixed = refl

-- What was assigned twice is what it was at first.
given_twice : given_back ((codes "x", Some (sent (codes "1"))) ∷ (codes "x", None) ∷ []) ≡ SetVar (codes "x") (sent (codes "1")) ∷ UnsetVar (codes "x") ∷ []
given_twice = refl

called : call (codes "echo") (codes "a" ∷ []) ((codes "x", None) ∷ []) w₀ ≡ record { effects = Emit One (codes "a\n") ∷ UnsetVar (codes "x") ∷ SetStatus 0 ∷ []; answer = Ok (Status 0) }
called = refl

kept_alone : kept ((codes "x", None) ∷ []) w₀ ≡ record { effects = SetStatus 0 ∷ []; answer = Ok (Status 0) }
kept_alone = refl

-- A message ends the shell.
ends_so : told (Err (codes "hs: x: no\n")) w₀ ≡ record { effects = Emit Two (codes "hs: x: no\n") ∷ SetStatus 2 ∷ []; answer = Exit 2 }
ends_so = refl

-- ---- commands, by their words

abbrev shown : List ℕ → List Meaning
shown t = opened sums (open_part.Plain t) ∷ []

plainly : (ts : List (List ℕ)) → map (word_parts sums) (map plain ts) ≡ map shown ts
plainly [] = refl
plainly (t ∷ ts) =
    ap (λ (x : Meaning). (x ∷ []) ∷ map (word_parts sums) (map plain ts)) (fold_plain Meaning (List Meaning) (opened sums) parts_of t)
    ∙ ap (λ (ms : List (List Meaning)). shown t ∷ ms) (plainly ts)

-- the command whose words mean this
abbrev meant : List (List Meaning) → WorldData → Done Outcome
meant ms w = then_by (came_then (came_then (answering fields_told (expanded_by (plan_with ms context.Command w.status) [] w)) paths_come w) (measured_run [] w.status) w) told w

echoes_words : command [] (map plain (codes "echo" ∷ codes "a" ∷ [])) w₀ ≡ record { effects = Emit One (codes "a\n") ∷ SetStatus 0 ∷ []; answer = Status 0 }
echoes_words = ap (λ (ms : List (List Meaning)). meant ms w₀) (plainly (codes "echo" ∷ codes "a" ∷ []))

-- ---- what is built

two_is_built : is_built two ≡ true
two_is_built = refl

name_is_built : is_built (one (plain (codes "cat") ∷ [])) ≡ true
name_is_built = refl

other_name_is_not : is_built (one (plain (codes "ls") ∷ [])) ≡ false
other_name_is_not = refl

bracket_is : is_built (one (plain (codes "[") ∷ [])) ≡ true
bracket_is = refl

quoted_name_is_not : is_built (one (record { parts = Single (codes "echo") ∷ [] } ∷ [])) ≡ false
quoted_name_is_not = refl

pattern_is_built : is_built_part (Plain (codes "a*")) ≡ true
pattern_is_built = plain_built (codes "a*")

quoted_is_built : is_built_part (Single (codes "a")) ≡ true
quoted_is_built = single_built (codes "a")

substitution_is_not : is_built_part (Command 1) ≡ false
substitution_is_not = command_built 1

bang_is_not : is_built (record two { leaves = record { bang = true; stages = (leaf []).stages } ∷ [] }) ≡ false
bang_is_not = refl
