-- What a simple command does (POSIX.1-2017, XCU 2.9.1): its words are expanded and measured, then its assignments are made from left to
-- right, and then its utility runs.
use Rattle.std.specs.Prelude.{ℕ, true, false, List, [], ◌∷◌, Option, Some, None, Ok, Err}
use Rattle.hs_world.specs.World.{WorldData}
use Rattle.hs_world.specs.declared.effect.Effect.TheVariants.{Emit, SetStatus}
use Rattle.hs_world.specs.declared.effect.Fd.TheVariants.{Two}
use Rattle.hs_view.specs.Acts.{answering, only, then_by}
use Rattle.hs_view.specs.Steps.{Done, nothing}
use Rattle.sh_syntax.specs.declared.tree.Command.{Command}
use Rattle.sh_syntax.specs.declared.tree.Command.TheVariants.{Simple}
use Rattle.sh_syntax.specs.declared.tree.Pipeline.{Pipeline}
use Rattle.sh_syntax.specs.declared.tree.Word.{Word}
use Rattle.sh_leaf.specs.Assigning.{Befores, all_assigned, given_back}
use Rattle.sh_leaf.specs.Expanding.{Came, came_then, measured_done, texts_of}
use Rattle.sh_leaf.specs.Utilities.{found, named}
use Rattle.sh_leaf.specs.declared.outcome.Outcome.{Outcome}
use Rattle.sh_leaf.specs.declared.outcome.Outcome.TheVariants.{Status, Exit}

-- the status is set last, and is what the command comes to
abbrev pub set_status : ℕ → WorldData → Done Outcome
set_status status w = only (SetStatus status) (Status status) w

-- ---- with a name

-- the utility of a name
abbrev pub utility : List ℕ → List (List ℕ) → WorldData → Done ℕ
utility name args w = found (named name) args w

-- Assignments before a utility last for it alone.
abbrev pub gives_back : Befores → ℕ → WorldData → Done ℕ
gives_back befores status w = record { effects = given_back befores; answer = status }

abbrev pub lent : List ℕ → List (List ℕ) → Befores → WorldData → Done ℕ
lent name args befores w = then_by (utility name args w) (gives_back befores) w

abbrev pub call : List ℕ → List (List ℕ) → Befores → WorldData → Done (Came Outcome)
call name args befores w = answering Ok (then_by (lent name args befores w) set_status w)

-- ---- without one

-- Assignments without a name stay, and the status is 0.
abbrev pub kept : Befores → WorldData → Done (Came Outcome)
kept befores w = answering Ok (set_status 0 w)

-- ---- the whole

-- The first text is the name. What is assigned before it is exported.
abbrev pub texts_run : List (List ℕ × Word) → ℕ → List (List ℕ) → WorldData → Done (Came Outcome)
texts_run assigns status [] w = came_then (all_assigned false status assigns [] w) kept w
texts_run assigns status (name ∷ args) w = came_then (all_assigned true status assigns [] w) (call name args) w

abbrev pub measured_run : List (List ℕ × Word) → ℕ → List (List ℕ) → WorldData → Done (Came Outcome)
measured_run assigns status texts w = then_by (measured_done texts w) (λ x. texts_run assigns status texts) w

-- where `$?` gives this status, in words and in assignments
abbrev pub command_came : List (List ℕ × Word) → List Word → ℕ → WorldData → Done (Came Outcome)
command_came assigns words status w = came_then (texts_of words status w) (measured_run assigns status) w

-- An error of an expansion or of an assignment has its message and status 2, and ends the shell (XCU 2.8.1).
abbrev pub told : Came Outcome → WorldData → Done Outcome
told (Ok outcome) w = nothing outcome w
told (Err why) w = record { effects = Emit Two why ∷ SetStatus 2 ∷ []; answer = Exit 2 }

abbrev pub command : List (List ℕ × Word) → List Word → WorldData → Done Outcome
command assigns words w = then_by (command_came assigns words w.status w) told w

-- ---- a leaf that is one simple command

abbrev pub stage_assigns : List Command → List (List ℕ × Word)
stage_assigns [] = []
stage_assigns (Simple assigns words redirs ∷ cs) = assigns
stage_assigns (_ ∷ cs) = []

abbrev pub stage_words : List Command → List Word
stage_words [] = []
stage_words (Simple assigns words redirs ∷ cs) = words
stage_words (_ ∷ cs) = []

-- none where the script doesn't have the leaf
abbrev pub leaf_stages : Option Pipeline → List Command
leaf_stages None = []
leaf_stages (Some pipeline) = pipeline.stages

abbrev pub leaf_done : Option Pipeline → WorldData → Done Outcome
leaf_done pipeline w = command (stage_assigns (leaf_stages pipeline)) (stage_words (leaf_stages pipeline)) w
