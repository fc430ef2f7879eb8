-- `uniq` (POSIX.1-2017, XCU, `uniq`): the runs of equal lines of its input.
use Rattle.std.specs.Prelude.{ℕ, Bool, true, false, List, [], ◌∷◌, Option, Some, None, Result, Ok, Err, codes}
use Rattle.hs_world.specs.World.{WorldData}
use Rattle.hs_world.specs.declared.effect.Fd.TheVariants.{One}
use Rattle.hs_view.specs.Acts.{then_by}
use Rattle.hs_view.specs.Steps.{Done, nothing}
use Rattle.util_common.specs.Operands.{dash, emitted, refused}
use Rattle.util_common.specs.Words.{is_given, words_of}
use Rattle.util_common.specs.declared.messages.Why.{Why}
use Rattle.util_common.specs.declared.messages.Why.TheVariants.{Excluding, ExtraOperand}
use Rattle.util_opts.specs.declared.options.Options.{Options}
use Rattle.util_lines.specs.Filing.{file_written}
use Rattle.util_lines.specs.Gathering.{none_yet, operands_gathered}
use Rattle.util_lines.specs.Runs.{uniq}
use Rattle.util_lines.specs.declared.gathering.Gathered.{Gathered}
use Rattle.util_lines.specs.declared.runs.Mode.{Mode}
use Rattle.util_lines.specs.declared.runs.Mode.TheVariants.{All, Counted, Repeated, Single}

abbrev pub uniq_options : List (ℕ × Bool)
uniq_options = (99, false) ∷ (100, false) ∷ (117, false) ∷ []

-- `-c`, `-d` and `-u`; two of them exclude each other
abbrev pub mode_of : Bool → Bool → Bool → Option Mode
mode_of false false false = Some All
mode_of true false false = Some Counted
mode_of false true false = Some Repeated
mode_of false false true = Some Single
mode_of false true true = None
mode_of true false true = None
mode_of true true false = None
mode_of true true true = None

abbrev pub mode_by : List (ℕ × Option (List ℕ)) → Option Mode
mode_by given = mode_of (is_given 99 given) (is_given 100 given) (is_given 117 given)

-- to standard output, or to the file that a word names
abbrev pub text_written : Option (List ℕ) → List ℕ → ℕ → WorldData → Done ℕ
text_written None text status w = emitted One text status w
text_written (Some word) text status w = file_written text word status w

-- Nothing is written where the input is refused.
abbrev pub contents_written : Mode → Option (List ℕ) → List (List ℕ) → ℕ → WorldData → Done ℕ
contents_written mode output [] status w = nothing status w
contents_written mode output (content ∷ more) status w = text_written output (uniq mode content) status w

abbrev pub runs_written : Mode → Option (List ℕ) → Gathered → WorldData → Done ℕ
runs_written mode output input w = contents_written mode output input.contents input.status w

abbrev pub input_uniqued : Mode → List (List ℕ) → Option (List ℕ) → WorldData → Done ℕ
input_uniqued mode input output w = then_by (operands_gathered (codes "uniq") 1 none_yet input w) (runs_written mode output) w

-- the input, where one is named, and the output, where one is
abbrev pub files_uniqued : Mode → List (List ℕ) → WorldData → Done ℕ
files_uniqued mode [] w = input_uniqued mode (dash ∷ []) None w
files_uniqued mode (input ∷ []) w = input_uniqued mode (input ∷ []) None w
files_uniqued mode (input ∷ output ∷ []) w = input_uniqued mode (input ∷ []) (Some output) w
files_uniqued mode (input ∷ output ∷ third ∷ more) w = refused (codes "uniq") ExtraOperand w

abbrev pub uniq_of : Option Mode → List (List ℕ) → WorldData → Done ℕ
uniq_of None operands w = refused (codes "uniq") Excluding w
uniq_of (Some mode) operands w = files_uniqued mode operands w

abbrev pub uniq_by : Result Options Why → WorldData → Done ℕ
uniq_by (Ok options) w = uniq_of (mode_by options.given) options.operands w
uniq_by (Err why) w = refused (codes "uniq") why w

abbrev pub uniq_command : List (List ℕ) → WorldData → Done ℕ
uniq_command args w = uniq_by (words_of uniq_options args) w

-- ---- the operands as the code takes them

abbrev pub second : List (List ℕ) → Option (List ℕ)
second [] = None
second (input ∷ []) = None
second (input ∷ output ∷ more) = Some output
