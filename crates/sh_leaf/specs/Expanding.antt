-- What the words of a simple command become (POSIX.1-2017, XCU 2.6 and 2.9.1), or why they become nothing.
use Rattle.std.specs.Prelude.{ℕ, Bool, List, [], ◌∷◌, ◌++◌, ◌+◌, length, Some, Result, Ok, Err, if◌then◌else◌, nat_lt}
use Rattle.hs_world.specs.World.{WorldData}
use Rattle.hs_world.specs.declared.effect.Effect.{Effect}
use Rattle.hs_world.specs.declared.effect.Effect.TheVariants.{PushInput, PopInput}
use Rattle.hs_view.specs.Acts.{answering, then_by}
use Rattle.hs_view.specs.Steps.{Done, nothing}
use Rattle.sh_syntax.specs.declared.tree.Word.{Word}
use Rattle.sh_glob.specs.Paths.{paths_done}
use Rattle.sh_param.specs.Words.{expand}
use Rattle.sh_param.specs.declared.answer.Expanded.{Expanded}
use Rattle.sh_param.specs.declared.answer.Expanded.TheVariants as answer
use Rattle.sh_param.specs.declared.mode.Context.{Context}
use Rattle.sh_param.specs.declared.mode.Context.TheVariants as context
use Rattle.sh_expand.specs.Sums.{sums}

-- ---- parts of a command that may fail

-- something, or the message that says why there is nothing
abbrev pub Came : Type 0 → Type 0
Came A = Result A (List ℕ)

-- A message ends a command.
abbrev pub came_by : {A C : Type 0} → (A → WorldData → Done (Came C)) → Came A → WorldData → Done (Came C)
came_by rest (Ok x) w = rest x w
came_by rest (Err why) w = nothing (Err why) w

abbrev pub came_then : {A C : Type 0} → Done (Came A) → (A → WorldData → Done (Came C)) → WorldData → Done (Came C)
came_then d rest w = then_by d (came_by rest) w

-- ---- words

-- In a script that is built no output of a list is wanted, since no word has a command substitution.
abbrev pub fields_told : Expanded → Came (List (List (ℕ × Bool)))
fields_told (answer.Fields fs) = Ok fs
fields_told (answer.Wants n) = Err []
fields_told (answer.Error why) = Err why

-- where `$?` gives this status
abbrev pub fields_of : List Word → Context → ℕ → WorldData → Done (Came (List (List (ℕ × Bool))))
fields_of words c status w = answering fields_told (expand sums words c (Some status) [] w)

abbrev pub paths_come : List (List (ℕ × Bool)) → WorldData → Done (Came (List (List ℕ)))
paths_come fields w = answering Ok (paths_done fields w)

-- The words of a command: expansions, field splitting, pathnames and quote removal, in this order.
abbrev pub texts_of : List Word → ℕ → WorldData → Done (Came (List (List ℕ)))
texts_of words status w = came_then (fields_of words context.Command status w) paths_come w

-- ---- how long they are

-- in bytes, and one more for each text
abbrev pub list_length : List (List ℕ) → ℕ
list_length [] = 0
list_length (t ∷ ts) = length t + 1 + list_length ts

abbrev pub lines_of : List (List ℕ) → List ℕ
lines_of [] = []
lines_of (t ∷ ts) = t ++ 10 ∷ lines_of ts

-- Longer texts are measured: they are put in place of standard input as one text, and taken away. That changes nothing, and doesn't fit
-- where the text is longer than a value may be. Every limit takes 1,024 bytes.
abbrev pub measured : List (List ℕ) → List Effect
measured ts = if nat_lt 1024 (list_length ts) then PushInput (lines_of ts) ∷ PopInput ∷ [] else []

abbrev pub taken_away : List ℕ → WorldData → Done (Unit {0})
taken_away text w = record { effects = PushInput text ∷ PopInput ∷ []; answer = tt }

abbrev pub measured_done : List (List ℕ) → WorldData → Done (Unit {0})
measured_done ts w = record { effects = measured ts; answer = tt }
