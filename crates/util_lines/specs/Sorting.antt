-- `sort` (POSIX.1-2017, XCU, `sort`): all lines of the operands, in order.
use Rattle.std.specs.Prelude.{ℕ, Bool, false, List, [], ◌∷◌, Option, Result, Ok, Err, codes}
use Rattle.hs_world.specs.World.{WorldData}
use Rattle.hs_world.specs.declared.effect.Fd.TheVariants.{One}
use Rattle.hs_view.specs.Acts.{then_by}
use Rattle.hs_view.specs.Steps.{Done}
use Rattle.util_common.specs.Operands.{emitted, or_input, refused}
use Rattle.util_common.specs.Words.{is_given, words_of}
use Rattle.util_common.specs.declared.messages.Why.{Why}
use Rattle.util_opts.specs.declared.options.Options.{Options}
use Rattle.util_lines.specs.Gathering.{none_yet, operands_gathered}
use Rattle.util_lines.specs.Orders.{sort}
use Rattle.util_lines.specs.declared.gathering.Gathered.{Gathered}
use Rattle.util_lines.specs.declared.ordering.Sorting.{Sorting}

abbrev pub sort_options : List (ℕ × Bool)
sort_options = (110, false) ∷ (114, false) ∷ (117, false) ∷ []

abbrev pub sorting_by : List (ℕ × Option (List ℕ)) → Sorting
sorting_by given = record { numeric = is_given 110 given; reverse = is_given 114 given; unique = is_given 117 given }

abbrev pub sorted_written : Sorting → Gathered → WorldData → Done ℕ
sorted_written sorting read w = emitted One (sort sorting read.contents) read.status w

-- An operand that is refused has its message, and the status is 2 then.
abbrev pub words_sorted : Sorting → List (List ℕ) → WorldData → Done ℕ
words_sorted sorting words w = then_by (operands_gathered (codes "sort") 2 none_yet words w) (sorted_written sorting) w

abbrev pub files_sorted : Sorting → List (List ℕ) → WorldData → Done ℕ
files_sorted sorting operands w = words_sorted sorting (or_input operands) w

abbrev pub sort_by : Result Options Why → WorldData → Done ℕ
sort_by (Ok options) w = files_sorted (sorting_by options.given) options.operands w
sort_by (Err why) w = refused (codes "sort") why w

abbrev pub sort_command : List (List ℕ) → WorldData → Done ℕ
sort_command args w = sort_by (words_of sort_options args) w
