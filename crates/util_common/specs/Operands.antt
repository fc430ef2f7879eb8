-- What utilities read of their operands, and what they do for each.
use Rattle.std.specs.Prelude.{◌≡◌, ℕ, Bool, false, ◌==◌, List, [], ◌∷◌, ◌++◌, Option, Some, None, Result, Ok, Err, IfOk, if◌then◌else◌}
use Rattle.hs_world.specs.Files.{Files, entry_at}
use Rattle.hs_world.specs.Paths.{Path, resolve}
use Rattle.hs_world.specs.World.{WorldData}
use Rattle.hs_world.specs.declared.effect.Effect.TheVariants.{Emit, SetInput}
use Rattle.hs_world.specs.declared.effect.Fd.{Fd}
use Rattle.hs_world.specs.declared.effect.Fd.TheVariants.{One, Two}
use Rattle.hs_world.specs.declared.entry.Entry.{Entry}
use Rattle.hs_world.specs.declared.entry.Entry.TheVariants.{File, Dir, Other}
use Rattle.hs_view.specs.Acts.{Acts, answering, then_by, only}
use Rattle.hs_view.specs.Seen.{Shows}
use Rattle.hs_view.specs.Steps.{Done, nothing}
use Rattle.hs_view.specs.View.{Viewed}
use Rattle.hs_view.specs.declared.halt.Halt.{Halt}
use Rattle.util_common.specs.Messages.{message, message_on}
use Rattle.util_common.specs.declared.content.Content.{Content}
use Rattle.util_common.specs.declared.content.Content.TheVariants.{Bytes, Refused}
use Rattle.util_common.specs.declared.messages.Why.{Why}
use Rattle.util_common.specs.declared.messages.Why.TheVariants.{NoSuchFile, IsFolder, OtherKind}

-- ---- the content of an operand

abbrev pub content_of : Option Entry → Content
content_of None = Refused NoSuchFile
content_of (Some (File bytes)) = Bytes bytes
content_of (Some Dir) = Refused IsFolder
content_of (Some Other) = Refused OtherKind

-- what is at a path that has a file, by its bytes
abbrev pub bytes_content : Option (List ℕ) → Content
bytes_content None = Refused NoSuchFile
bytes_content (Some bytes) = Bytes bytes

-- A word that names no path names no file.
abbrev pub content_in : Files → Option Path → Content
content_in tree None = Refused NoSuchFile
content_in tree (Some path) = content_of (entry_at tree path)

abbrev pub dash : List ℕ
dash = 45 ∷ []

abbrev pub is_dash : List ℕ → Bool
is_dash [] = false
is_dash (b ∷ []) = b == 45
is_dash (b ∷ c ∷ r) = false

-- all of standard input, of which nothing is left then
abbrev pub input_read : WorldData → Done (List ℕ)
input_read w = only (SetInput []) w.input w

abbrev pub input_taken : WorldData → Done Content
input_taken w = answering Bytes (input_read w)

-- `-` is standard input; any other word names a file, seen from the current folder.
abbrev pub content_taken : List ℕ → WorldData → Done Content
content_taken word w = if is_dash word then input_taken w else nothing (content_in w.tree (resolve w.cwd word)) w

-- without operands standard input is read
abbrev pub or_input : List (List ℕ) → List (List ℕ)
or_input [] = dash ∷ []
or_input (word ∷ words) = word ∷ words

-- ---- for each operand, one text is written

-- the contents that were read so far, and the status
pub record Progress : Type 0 where
  pub contents : List (List ℕ)
  pub status : ℕ

abbrev pub progress_of : List (List ℕ) → ℕ → Progress
progress_of contents status = record { contents = contents; status = status }

abbrev pub none_yet : Progress
none_yet = progress_of [] 0

-- the text for an operand: from the contents before it, the word, and its content
abbrev pub Writer : Type 0
Writer = List (List ℕ) → List ℕ → List ℕ → List ℕ

abbrev pub content_written : List ℕ → Writer → Progress → List ℕ → Content → WorldData → Done Progress
content_written utility text so_far word (Bytes bytes) w = only (Emit One (text so_far.contents word bytes)) (progress_of (so_far.contents ++ bytes ∷ []) so_far.status) w
content_written utility text so_far word (Refused why) w = only (Emit Two (message_on utility word why)) (progress_of so_far.contents 1) w

abbrev pub operand_written : List ℕ → Writer → Progress → List ℕ → WorldData → Done Progress
operand_written utility text so_far word w = then_by (content_taken word w) (content_written utility text so_far word) w

-- An operand that is no file gives its message, the next operand follows, and the status is 1 in the end.
abbrev pub operands_written : List ℕ → Writer → Progress → List (List ℕ) → WorldData → Done Progress
operands_written utility text so_far [] w = nothing so_far w
operands_written utility text so_far (word ∷ words) w = then_by (operand_written utility text so_far word w) (λ next. operands_written utility text next words) w

abbrev pub status_of : Progress → ℕ
status_of p = p.status

-- ---- one text

abbrev pub emitted : Fd → List ℕ → ℕ → WorldData → Done ℕ
emitted fd text status w = only (Emit fd text) status w

-- A fault of options, of the number of operands, or of numbers and lists has status 2, and nothing else happens.
abbrev pub refused : List ℕ → Why → WorldData → Done ℕ
refused utility why w = emitted Two (message utility why) 2 w

-- ---- what a filter has done to a view

abbrev pub status_in : Result Progress Halt → Result ℕ Halt
status_in (Ok p) = Ok p.status
status_in (Err h) = Err h

-- The meaning was done, and the filter stands behind the contents that were read.
pub record Filtered {B : Type 0} (stands : List (List ℕ) → Type 0) (seen : Shows B) (meaning : WorldData → Done Progress) (old new : Viewed B) (result : Result ℕ Halt) : Type 0 where
  pub progress : Result Progress Halt
  pub is : result ≡ status_in progress
  pub acts : Acts seen meaning old new progress
  pub behind : IfOk progress (λ p. stands p.contents)
