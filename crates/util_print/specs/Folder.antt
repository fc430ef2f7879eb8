-- `pwd` (POSIX.1-2017, XCU, `pwd`).
use Rattle.std.specs.Prelude.{ℕ, Bool, true, false, List, [], ◌∷◌, ◌++◌, Result, Ok, Err, codes, if◌then◌else◌}
use Rattle.hs_world.specs.Paths.{Path}
use Rattle.hs_world.specs.World.{WorldData}
use Rattle.hs_world.specs.declared.effect.Fd.TheVariants.{One}
use Rattle.hs_view.specs.Steps.{Done}
use Rattle.util_common.specs.Operands.{emitted, refused}
use Rattle.util_common.specs.Words.{words_of}
use Rattle.util_common.specs.declared.messages.Why.{Why}
use Rattle.util_common.specs.declared.messages.Why.TheVariants.{ExtraOperand}
use Rattle.util_opts.specs.declared.options.Options.{Options}
use Rattle.util_print.specs.Components.{no_options}

-- each name with a slash before it
abbrev pub names_text : Path → List ℕ
names_text [] = []
names_text (name ∷ names) = 47 ∷ (name ++ names_text names)

-- The root is a slash alone.
abbrev pub path_text : Path → List ℕ
path_text [] = 47 ∷ []
path_text (name ∷ names) = names_text (name ∷ names)

abbrev pub path_line : Path → List ℕ
path_line path = path_text path ++ 10 ∷ []

abbrev pub folder_written : WorldData → Done ℕ
folder_written w = emitted One (path_line w.cwd) 0 w

abbrev pub has_words : List (List ℕ) → Bool
has_words [] = false
has_words (word ∷ words) = true

abbrev pub pwd_of : List (List ℕ) → WorldData → Done ℕ
pwd_of words w = if has_words words then refused (codes "pwd") ExtraOperand w else folder_written w

abbrev pub pwd_by : Result Options Why → WorldData → Done ℕ
pwd_by (Ok options) w = pwd_of options.operands w
pwd_by (Err why) w = refused (codes "pwd") why w

abbrev pub pwd : List (List ℕ) → WorldData → Done ℕ
pwd args w = pwd_by (words_of no_options args) w
