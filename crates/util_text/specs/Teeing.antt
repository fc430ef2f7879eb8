-- `tee` (POSIX.1-2017, XCU, `tee`): standard input to standard output, and then to each file.
use Rattle.std.specs.Prelude.{ℕ, Bool, true, false, not, ◌&&◌, List, [], ◌∷◌, Option, Some, None, Result, Ok, Err, codes}
use Rattle.hs_world.specs.Files.{Files, entry_at, is_dir, is_other, kind_of}
use Rattle.hs_world.specs.Paths.{Path, parent, resolve}
use Rattle.hs_world.specs.World.{WorldData}
use Rattle.hs_world.specs.declared.effect.Effect.{Effect}
use Rattle.hs_world.specs.declared.effect.Effect.TheVariants.{Append, Put}
use Rattle.hs_world.specs.declared.effect.Fd.TheVariants.{One, Two}
use Rattle.hs_world.specs.declared.entry.Entry.{Entry}
use Rattle.hs_world.specs.declared.entry.Kind.{Kind}
use Rattle.hs_world.specs.declared.entry.Kind.TheVariants as kind
use Rattle.hs_view.specs.Acts.{only, then_by}
use Rattle.hs_view.specs.Steps.{Done, nothing}
use Rattle.util_common.specs.Messages.{message_on}
use Rattle.util_common.specs.Operands.{emitted, input_read, refused}
use Rattle.util_common.specs.Words.{is_given, words_of}
use Rattle.util_common.specs.declared.messages.Why.{Why}
use Rattle.util_common.specs.declared.messages.Why.TheVariants.{BadName, IsFolder, NoSuchFolder, OtherKind}
use Rattle.util_opts.specs.declared.options.Options.{Options}

-- With `-a` files are appended to.
abbrev pub tee_options : List (ℕ × Bool)
tee_options = (97, false) ∷ []

-- ---- one file

-- A file is made where a folder is for it.
abbrev pub made_in : Bool → Path → List ℕ → Result Effect Why
made_in true path text = Ok (Put path text)
made_in false path text = Err NoSuchFolder

-- a file that is there
abbrev pub written_over : Bool → Bool → Path → List ℕ → Result Effect Why
written_over true folder path text = Ok (Append path text)
written_over false folder path text = made_in folder path text

-- by what is at the path, and whether a folder is for it
abbrev pub written_at : Bool → Kind → Bool → Path → List ℕ → Result Effect Why
written_at append kind.File folder path text = written_over append folder path text
written_at append kind.Absent folder path text = made_in folder path text
written_at append kind.Dir folder path text = Err IsFolder
written_at append kind.Other folder path text = Err OtherKind

-- How the text is written to a path, or why it is not. A word that is no path is no name of a file.
abbrev pub writing : Bool → List ℕ → Files → Option Path → Result Effect Why
writing append text tree None = Err BadName
writing append text tree (Some path) = written_at append (kind_of (entry_at tree path)) (is_dir (entry_at tree (parent path))) path text

abbrev pub told : List ℕ → ℕ → Result Effect Why → WorldData → Done ℕ
told word status (Ok e) w = only e status w
told word status (Err why) w = emitted Two (message_on (codes "tee") word why) 1 w

abbrev pub path_written : Bool → List ℕ → List ℕ → ℕ → Option Path → WorldData → Done ℕ
path_written append text word status path w = told word status (writing append text w.tree path) w

abbrev pub file_written : Bool → List ℕ → List ℕ → ℕ → WorldData → Done ℕ
file_written append text word status w = path_written append text word status (resolve w.cwd word) w

-- ---- all files

abbrev pub files_written : Bool → List ℕ → ℕ → List (List ℕ) → WorldData → Done ℕ
files_written append text status [] w = nothing status w
files_written append text status (word ∷ words) w = then_by (file_written append text word status w) (λ next. files_written append text next words) w

abbrev pub copied : Bool → List (List ℕ) → List ℕ → WorldData → Done ℕ
copied append words text w = then_by (emitted One text 0 w) (λ status. files_written append text status words) w

abbrev pub input_copied : Bool → List (List ℕ) → WorldData → Done ℕ
input_copied append words w = then_by (input_read w) (copied append words) w

abbrev pub tee_by : Result Options Why → WorldData → Done ℕ
tee_by (Ok options) w = input_copied (is_given 97 options.given) options.operands w
tee_by (Err why) w = refused (codes "tee") why w

abbrev pub tee : List (List ℕ) → WorldData → Done ℕ
tee args w = tee_by (words_of tee_options args) w

-- ---- where a file may be made

abbrev pub is_folder : Kind → Bool
is_folder kind.Dir = true
is_folder kind.File = false
is_folder kind.Other = false
is_folder kind.Absent = false

abbrev pub is_free : Option Entry → Bool
is_free e = not (is_dir e) && not (is_other e)
