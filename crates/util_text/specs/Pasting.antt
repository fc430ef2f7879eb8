-- `paste` (POSIX.1-2017, XCU, `paste`): the lines of its operands side by side, or with `-s` those of each in one line.
use Rattle.std.specs.Prelude.{◌≡◌, ℕ, zero, suc, Bool, true, false, List, [], ◌∷◌, Option, Some, None, Result, Ok, Err, codes, if◌then◌else◌}
use Rattle.hs_world.specs.World.{WorldData}
use Rattle.hs_world.specs.declared.effect.Fd.TheVariants.{One}
use Rattle.hs_view.specs.Acts.{answering, then_by}
use Rattle.hs_view.specs.Steps.{Done, nothing}
use Rattle.util_common.specs.Operands.{Writer, emitted, is_dash, none_yet, operands_written, refused, status_of}
use Rattle.util_common.specs.Words.{is_given, last_value, words_of}
use Rattle.util_common.specs.declared.messages.Why.{Why}
use Rattle.util_common.specs.declared.messages.Why.TheVariants.{BadList, MissingOperand}
use Rattle.util_opts.specs.declared.options.Options.{Options}
use Rattle.util_text.specs.Gathering.{none_gathered, operands_gathered}
use Rattle.util_text.specs.Lines.{lines}
use Rattle.util_text.specs.Paste.{delimiters_of, paste, serial}
use Rattle.util_text.specs.Turns.{turns}
use Rattle.util_text.specs.declared.column.Column.{Column}
use Rattle.util_text.specs.declared.column.Column.TheVariants.{File, Input}
use Rattle.util_text.specs.declared.pasting.Serials.{Serials}

-- `-d` takes a list of delimiters; with `-s` each operand has a line of its own.
abbrev pub paste_options : List (ℕ × Bool)
paste_options = (100, true) ∷ (115, false) ∷ []

-- a tab, where no list is given
abbrev pub delimiters_wanted : Option (List ℕ) → Option (List (Option ℕ))
delimiters_wanted None = Some (Some 9 ∷ [])
delimiters_wanted (Some list) = delimiters_of list

-- ---- side by side

-- what a column takes its lines from; `-` is standard input
abbrev pub column : List ℕ → List ℕ → Column
column word content = if is_dash word then Input else File (lines content)

abbrev pub columns : List (List ℕ) → List (List ℕ) → List Column
columns (word ∷ words) (content ∷ contents) = column word content ∷ columns words contents
columns _ _ = []

-- the content of the first `-`, which is all of standard input
abbrev pub input_in : List (List ℕ) → List (List ℕ) → List ℕ
input_in (word ∷ words) (content ∷ contents) = if is_dash word then content else input_in words contents
input_in _ _ = []

-- Where an operand was refused, no line is written.
abbrev pub gathered_written : List (Option ℕ) → List (List ℕ) → List (List ℕ) → ℕ → WorldData → Done ℕ
gathered_written ds words contents zero w = emitted One (paste ds (columns words contents) (lines (input_in words contents))) 0 w
gathered_written ds words contents (suc n) w = nothing (suc n) w

abbrev pub columns_written : List (Option ℕ) → List (List ℕ) → WorldData → Done ℕ
columns_written ds words w = then_by (operands_gathered (codes "paste") none_gathered words w) (λ read. gathered_written ds words read.contents read.status) w

-- ---- one after another

abbrev pub serials : List (Option ℕ) → Writer
serials ds before word content = serial ds content

abbrev pub serials_written : List (Option ℕ) → List (List ℕ) → WorldData → Done ℕ
serials_written ds words w = answering status_of (operands_written (codes "paste") (serials ds) none_yet words w)

-- ---- the command

abbrev pub lines_written : Bool → List (Option ℕ) → List (List ℕ) → WorldData → Done ℕ
lines_written true ds words w = serials_written ds words w
lines_written false ds words w = columns_written ds words w

-- at least one operand
abbrev pub operands_pasted : Bool → List (Option ℕ) → List (List ℕ) → WorldData → Done ℕ
operands_pasted apart ds [] w = refused (codes "paste") MissingOperand w
operands_pasted apart ds (word ∷ words) w = lines_written apart ds (word ∷ words) w

abbrev pub paste_of : Bool → List (List ℕ) → Option (List (Option ℕ)) → WorldData → Done ℕ
paste_of apart operands None w = refused (codes "paste") BadList w
paste_of apart operands (Some ds) w = operands_pasted apart ds operands w

abbrev pub paste_by : Result Options Why → WorldData → Done ℕ
paste_by (Ok options) w = paste_of (is_given 115 options.given) options.operands (delimiters_wanted (last_value 100 options.given)) w
paste_by (Err why) w = refused (codes "paste") why w

abbrev pub paste_command : List (List ℕ) → WorldData → Done ℕ
paste_command args w = paste_by (words_of paste_options args) w

-- ---- what the code keeps of it

-- The filter writes so.
abbrev pub SerialsWritten : Serials → Writer → Type 0
SerialsWritten filter text = text ≡ serials (turns filter.delimiters)
