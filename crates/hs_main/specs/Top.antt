-- What the whole program does.
use Rattle.std.specs.Prelude.{◌≡◌, ◌⊎◌, ℕ, ◌≤◌, List, [], ◌∷◌, ◌<◌, false, true, Option, Some, Result, Ok, Err, IfSome, length, codes}
use Rattle.hs_outside.specs.Hosts.{one_more}
use Rattle.hs_world.specs.Files.{Files, is_over}
use Rattle.sh_syntax.specs.declared.tree.Script.{Script}
use Rattle.sh_script.specs.Answers.{IsScript, IsBad}
use Rattle.sh_script.specs.Longest.{longest}
use Rattle.sh_script.specs.declared.error.ParseErr.{ParseErr}
use Rattle.sh_script.specs.declared.error.ParseErr.TheVariants as err
use Rattle.sh_syntax.specs.declared.fault.Fault.{Fault}
use Rattle.sh_syntax.specs.declared.fault.Fault.TheVariants.{TooLong}
use Rattle.sh_leaf.specs.Built.{is_built}
use Rattle.hs_drive.specs.declared.ending.Ending.{Ending}
use Rattle.hs_drive.specs.declared.ending.Ending.TheVariants as ending
use Rattle.hs_drive.specs.declared.ending.Report.{Report}
use Rattle.hs_drive.specs.Ending.{line_of, IsTold}
use Rattle.hs_drive.specs.Commit.{Streams}
use Rattle.hs_view.specs.declared.halt.SpentKind.TheVariants.{Tree}
use Rattle.hs_main.specs.Start.{Environ, default_turns, start}
use Rattle.sh_leaf.specs.Cut.{Serial}
use Rattle.hs_drive.specs.Plain.{Runs, IsComplete}

-- ---- the words (POSIX.1-2017, XCU, sh: the option -c)

abbrev pub Asks : List (List ℕ) → List ℕ → Type 0
Asks words text = words ≡ codes "-c" ∷ text ∷ []

-- the one script of a text, which is short enough
pub record IsScriptOf (script : Script) (text : List ℕ) : Type 0 where
  pub short : length text ≤ longest
  pub is : IsScript script text

-- The text is longer than a script may be, or it has a first bad token, with this fault on this line, and spells no script.
abbrev pub IsRefused : List ℕ → ℕ → Fault → Type 0
IsRefused text line fault = ((longest < length text) × (fault ≡ TooLong) × (line ≡ 1)) ⊎ ((length text ≤ longest) × IsBad fault line text)

-- What reading a text comes to.
abbrev pub Parsed : Result Script ParseErr → List ℕ → Type 0
Parsed (Ok script) text = IsScriptOf script text
Parsed (Err (err.Syntax line fault)) text = IsRefused text line fault
Parsed (Err err.NoMemory) text = Unit {0}

-- The text's script is not built.
pub record IsUnbuilt (text : List ℕ) : Type 0 where
  pub script : Script
  pub found : IsScriptOf script text
  pub unbuilt : is_built script ≡ false

-- What a text comes to: the script, which is built, or an ending without a run.
abbrev pub Finds : Result Script Ending → List ℕ → Type 0
Finds (Ok script) text = IsScriptOf script text × (is_built script ≡ true)
Finds (Err (ending.Syntax line fault)) text = IsRefused text line fault
Finds (Err ending.Unbuilt) text = IsUnbuilt text
Finds (Err ending.NoMemory) text = Unit {0}
Finds (Err _) text = ⊥

-- ---- the files

-- These are the host's files, where it tells them, and they are within the limit of a tree.
pub record IsLoaded (told : Option Files) (files : Files) : Type 0 where
  pub is : IfSome told (λ f. files ≡ f)
  pub within : is_over files ≡ false

-- What loading the files comes to: they are there, or an ending without a run. `host` says that the host's count of faults rose.
abbrev pub FilesOf : (host : Type 0) → Option Files → Result Files Ending → Type 0
FilesOf host told (Ok files) = IsLoaded told files
FilesOf host told (Err ending.HostFault) = host
FilesOf host told (Err (ending.Spent Tree)) = IfSome told (λ f. is_over f ≡ true)
FilesOf host told (Err ending.NoMemory) = Unit {0}
FilesOf host told (Err _) = ⊥

abbrev pub no_report : Report
no_report = record { head = 0; turns = 0; count = 0 }

-- ---- how it ends

-- Of the line a front went out on standard error.
pub record IsLine (line : List ℕ) (old new : Streams) : Type 0 where
  pub out : new.out ≡ old.out
  pub told : IsTold line old.err new.err

pub record IsUnrun (report : Report) (old new : Streams) : Type 0 where
  pub report_is : report ≡ no_report
  pub streams : new ≡ old

-- The words hand over a script, which ran over the loaded files.
pub record IsRun (out err : Type 0) (env : Environ) (told : Option Files) (words : List (List ℕ)) (old new : Streams) (ends : Ending) (report : Report) : Type 0 where
  pub text : List ℕ
  pub asks : Asks words text
  pub files : Files
  pub loaded : IsLoaded told files
  pub script : Script
  pub found : IsScriptOf script text
  pub built : is_built script ≡ true
  pub runs : Runs out err script (start env files) default_turns old new ends report

-- The words hand over a text, which ends without a run once the files were loaded.
pub record IsEnded (told : Option Files) (words : List (List ℕ)) (ends : Ending) : Type 0 where
  pub text : List ℕ
  pub asks : Asks words text
  pub files : Files
  pub loaded : IsLoaded told files
  pub finds : Finds (Err ends) text

-- the words hand over no text
abbrev pub AskNothing : List (List ℕ) → Type 0
AskNothing words = (text : List ℕ) → Asks words text → ⊥

-- The host is asked once where the words hand over a text, and else not at all.
pub record IsAsked (words : List (List ℕ)) (old new : Option ℕ) : Type 0 where
  pub once : (text : List ℕ) → Asks words text → new ≡ one_more old
  pub never : AskNothing words → new ≡ old

-- The words hand over a text, and the host's files pass the limit of a tree.
pub record IsTooLarge (told : Option Files) (words : List (List ℕ)) : Type 0 where
  pub text : List ℕ
  pub asks : Asks words text
  pub over : IfSome told (λ f. is_over f ≡ true)

-- The words hand over a text, and the host failed.
pub record IsFailed (host : Type 0) (words : List (List ℕ)) : Type 0 where
  pub text : List ℕ
  pub asks : Asks words text
  pub rose : host

-- What the words come to: they hand over no text, or one for which the files can't be loaded, or one that ends without a run, or a
-- script that runs. `host`, `out` and `err` say that the counts of faults rose.
abbrev pub RunsWords : (host out err : Type 0) → Environ → Option Files → List (List ℕ) → Streams → Streams → Ending → Report → Type 0
RunsWords host out err env told words old new ending.Unbuilt report = (AskNothing words ⊎ IsEnded told words ending.Unbuilt) × IsUnrun report old new
RunsWords host out err env told words old new (ending.Syntax line fault) report = IsEnded told words (ending.Syntax line fault) × IsUnrun report old new
RunsWords host out err env told words old new ending.HostFault report = IsFailed host words × IsUnrun report old new
RunsWords host out err env told words old new (ending.Spent Tree) report =
    (IsTooLarge told words × IsUnrun report old new) ⊎ IsRun out err env told words old new (ending.Spent Tree) report
RunsWords host out err env told words old new ending.NoMemory report = IsUnrun report old new ⊎ IsRun out err env told words old new ending.NoMemory report
RunsWords host out err env told words old new ends report = IsRun out err env told words old new ends report

-- Then the line that says how it ended is tried on standard error.
pub record Tops (host out err : Type 0) (env : Environ) (told : Option Files) (words : List (List ℕ)) (old new : Streams) (ends : Ending) (report : Report) : Type 0 where
  pub ran : Streams
  pub runs : RunsWords host out err env told words old ran ends report
  pub line : IsLine (line_of ends) ran new

-- Where the words hand over a script that is built, and the host tells files within the limit and does not fail, its run is complete.
abbrev pub IsCompleteFor : (host out err : Type 0) → Environ → Option Files → List (List ℕ) → Ending → Type 0
IsCompleteFor host out err env told words ends = (text : List ℕ) (script : Script) (files : Files) → Asks words text → IsScriptOf script text → is_built script ≡ true →
    told ≡ Some files → is_over files ≡ false → (host → ⊥) → IsComplete out err (Serial script (start env files) default_turns []) ends
