-- `cat` (POSIX.1-2017, XCU, `cat`): the contents of the operands, in order.
use Rattle.std.specs.Prelude.{ℕ, Bool, false, List, [], ◌∷◌, Result, Ok, Err, codes}
use Rattle.hs_world.specs.World.{WorldData}
use Rattle.hs_view.specs.Acts.{answering}
use Rattle.hs_view.specs.Steps.{Done}
use Rattle.util_common.specs.Operands.{Writer, none_yet, operands_written, or_input, refused, status_of}
use Rattle.util_common.specs.Words.{words_of}
use Rattle.util_common.specs.declared.messages.Why.{Why}
use Rattle.util_opts.specs.declared.options.Options.{Options}

-- `-u` changes nothing: each content is written at once.
abbrev pub cat_options : List (ℕ × Bool)
cat_options = (117, false) ∷ []

abbrev pub unchanged : Writer
unchanged before word content = content

abbrev pub files_written : List (List ℕ) → WorldData → Done ℕ
files_written operands w = answering status_of (operands_written (codes "cat") unchanged none_yet (or_input operands) w)

abbrev pub cat_by : Result Options Why → WorldData → Done ℕ
cat_by (Ok options) w = files_written options.operands w
cat_by (Err why) w = refused (codes "cat") why w

abbrev pub cat : List (List ℕ) → WorldData → Done ℕ
cat args w = cat_by (words_of cat_options args) w
