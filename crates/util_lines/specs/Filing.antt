-- A text that is written to a file, which is made, or made anew.
use Rattle.std.specs.Prelude.{ℕ, Bool, true, false, not, ◌&&◌, List, [], ◌∷◌, Option, Some, None, Result, Ok, Err, codes}
use Rattle.hs_world.specs.Files.{Files, entry_at, is_dir, is_other, kind_of}
use Rattle.hs_world.specs.Paths.{Path, parent, resolve}
use Rattle.hs_world.specs.World.{WorldData}
use Rattle.hs_world.specs.declared.effect.Effect.{Effect}
use Rattle.hs_world.specs.declared.effect.Effect.TheVariants.{Put}
use Rattle.hs_world.specs.declared.effect.Fd.TheVariants.{Two}
use Rattle.hs_world.specs.declared.entry.Entry.{Entry}
use Rattle.hs_world.specs.declared.entry.Kind.{Kind}
use Rattle.hs_world.specs.declared.entry.Kind.TheVariants as kind
use Rattle.hs_view.specs.Acts.{only}
use Rattle.hs_view.specs.Steps.{Done}
use Rattle.util_common.specs.Messages.{message_on}
use Rattle.util_common.specs.Operands.{emitted}
use Rattle.util_common.specs.declared.messages.Why.{Why}
use Rattle.util_common.specs.declared.messages.Why.TheVariants.{BadName, IsFolder, NoSuchFolder, OtherKind}

-- A file is made where a folder is for it.
abbrev pub made_in : Bool → Path → List ℕ → Result Effect Why
made_in true path text = Ok (Put path text)
made_in false path text = Err NoSuchFolder

-- by what is at the path, and whether a folder is for it
abbrev pub written_at : Kind → Bool → Path → List ℕ → Result Effect Why
written_at kind.File folder path text = made_in folder path text
written_at kind.Absent folder path text = made_in folder path text
written_at kind.Dir folder path text = Err IsFolder
written_at kind.Other folder path text = Err OtherKind

-- How the text is written to a path, or why it is not. A word that is no path is no name of a file.
abbrev pub writing : List ℕ → Files → Option Path → Result Effect Why
writing text tree None = Err BadName
writing text tree (Some path) = written_at (kind_of (entry_at tree path)) (is_dir (entry_at tree (parent path))) path text

-- with the status, or a message on the word and the status 1
abbrev pub told : List ℕ → ℕ → Result Effect Why → WorldData → Done ℕ
told word status (Ok e) w = only e status w
told word status (Err why) w = emitted Two (message_on (codes "uniq") word why) 1 w

abbrev pub path_written : List ℕ → List ℕ → ℕ → Option Path → WorldData → Done ℕ
path_written text word status path w = told word status (writing text w.tree path) w

abbrev pub file_written : List ℕ → List ℕ → ℕ → WorldData → Done ℕ
file_written text word status w = path_written text word status (resolve w.cwd word) w

-- ---- where a file may be made

abbrev pub is_folder : Kind → Bool
is_folder kind.Dir = true
is_folder kind.File = false
is_folder kind.Other = false
is_folder kind.Absent = false

abbrev pub is_free : Option Entry → Bool
is_free e = not (is_dir e) && not (is_other e)
