-- `tail` (POSIX.1-2017, XCU, `tail`): the last lines of its operand, or those from a line on.
use Rattle.std.specs.Prelude.{◌≡◌, ℕ, Bool, true, List, [], ◌∷◌, Option, Some, None, Result, Ok, Err, codes, if◌then◌else◌}
use Rattle.hs_world.specs.World.{WorldData}
use Rattle.hs_view.specs.Acts.{answering}
use Rattle.hs_view.specs.Steps.{Done}
use Rattle.util_common.specs.Operands.{Writer, none_yet, operands_written, or_input, refused, status_of}
use Rattle.util_common.specs.Words.{last_value, words_of}
use Rattle.util_common.specs.declared.messages.Why.{Why}
use Rattle.util_common.specs.declared.messages.Why.TheVariants.{BadNumber, ExtraOperand}
use Rattle.util_opts.specs.declared.options.Options.{Options}
use Rattle.util_text.specs.Head.{is_several}
use Rattle.util_text.specs.Tail.{AreEnds, ends_of, tail}
use Rattle.util_text.specs.declared.ends.Ends.{Ends}
use Rattle.util_text.specs.declared.ends.Ends.TheVariants.{Last}
use Rattle.util_text.specs.declared.tailing.Tails.{Tails}

-- `-n` takes a number of lines, or that of a line.
abbrev pub tail_options : List (ℕ × Bool)
tail_options = (110, true) ∷ []

abbrev pub ends_wanted : Option (List ℕ) → Option Ends
ends_wanted None = Some (Last 10)
ends_wanted (Some word) = ends_of word

abbrev pub tails : Ends → Writer
tails ends before word content = tail ends content

-- one operand at most
abbrev pub tails_written : Ends → List (List ℕ) → WorldData → Done ℕ
tails_written ends operands w =
    if is_several operands then refused (codes "tail") ExtraOperand w
    else answering status_of (operands_written (codes "tail") (tails ends) none_yet (or_input operands) w)

abbrev pub tail_of : List (List ℕ) → Option Ends → WorldData → Done ℕ
tail_of operands None w = refused (codes "tail") BadNumber w
tail_of operands (Some ends) w = tails_written ends operands w

abbrev pub tail_by : Result Options Why → WorldData → Done ℕ
tail_by (Ok options) w = tail_of options.operands (ends_wanted (last_value 110 options.given)) w
tail_by (Err why) w = refused (codes "tail") why w

abbrev pub tail_command : List (List ℕ) → WorldData → Done ℕ
tail_command args w = tail_by (words_of tail_options args) w

-- ---- what the code keeps of it

-- The filter writes so.
pub record Tailing (filter : Tails) (text : Writer) : Type 0 where
  pub exact : Ends
  pub stands : AreEnds filter.ends exact
  pub is : text ≡ tails exact
