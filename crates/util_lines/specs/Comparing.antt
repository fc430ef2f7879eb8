-- `comm` (POSIX.1-2017, XCU, `comm`): the lines of two operands, in three columns.
use Rattle.std.specs.Prelude.{ℕ, Bool, false, not, List, [], ◌∷◌, Option, Result, Ok, Err, codes}
use Rattle.hs_world.specs.World.{WorldData}
use Rattle.hs_world.specs.declared.effect.Fd.TheVariants.{One}
use Rattle.hs_view.specs.Acts.{then_by}
use Rattle.hs_view.specs.Steps.{Done, nothing}
use Rattle.util_common.specs.Operands.{emitted, refused}
use Rattle.util_common.specs.Words.{is_given, words_of}
use Rattle.util_common.specs.declared.messages.Why.{Why}
use Rattle.util_common.specs.declared.messages.Why.TheVariants.{ExtraOperand, MissingOperand}
use Rattle.util_opts.specs.declared.options.Options.{Options}
use Rattle.util_lines.specs.Gathering.{none_yet, operands_gathered}
use Rattle.util_lines.specs.Merging.{comm}
use Rattle.util_lines.specs.declared.gathering.Gathered.{Gathered}
use Rattle.util_lines.specs.declared.merging.Columns.{Columns}

-- `-1`, `-2` and `-3` leave a column out.
abbrev pub comm_options : List (ℕ × Bool)
comm_options = (49, false) ∷ (50, false) ∷ (51, false) ∷ []

abbrev pub columns_by : List (ℕ × Option (List ℕ)) → Columns
columns_by given = record { first = not (is_given 49 given); second = not (is_given 50 given); both = not (is_given 51 given) }

-- Nothing is written where one of the two is refused.
abbrev pub contents_compared : Columns → List (List ℕ) → ℕ → WorldData → Done ℕ
contents_compared columns [] status w = nothing status w
contents_compared columns (one ∷ []) status w = nothing status w
contents_compared columns (one ∷ two ∷ more) status w = emitted One (comm columns one two) status w

abbrev pub merge_written : Columns → Gathered → WorldData → Done ℕ
merge_written columns read w = contents_compared columns read.contents read.status w

abbrev pub two_compared : Columns → List (List ℕ) → WorldData → Done ℕ
two_compared columns operands w = then_by (operands_gathered (codes "comm") 1 none_yet operands w) (merge_written columns) w

abbrev pub files_compared : Columns → List (List ℕ) → WorldData → Done ℕ
files_compared columns [] w = refused (codes "comm") MissingOperand w
files_compared columns (one ∷ []) w = refused (codes "comm") MissingOperand w
files_compared columns (one ∷ two ∷ []) w = two_compared columns (one ∷ two ∷ []) w
files_compared columns (one ∷ two ∷ third ∷ more) w = refused (codes "comm") ExtraOperand w

abbrev pub comm_by : Result Options Why → WorldData → Done ℕ
comm_by (Ok options) w = files_compared (columns_by options.given) options.operands w
comm_by (Err why) w = refused (codes "comm") why w

abbrev pub comm_command : List (List ℕ) → WorldData → Done ℕ
comm_command args w = comm_by (words_of comm_options args) w
