-- Which lines `tail` copies (POSIX.1-2017, XCU, `tail`), by the value of `-n`.
use Rattle.std.specs.Prelude.{ℕ, Bool, false, List, [], ◌∷◌, drop, ◌==◌, Option, None, Some, if◌then◌else◌}
use Rattle.util_text.specs.declared.ends.Ends.{Ends}
use Rattle.util_text.specs.declared.ends.Ends.TheVariants.{Last, From}
use Rattle.util_text.specs.Count.{number, StandsFor}
use Rattle.util_text.specs.Lines.{last_lines, lines_from}

abbrev pub last_of : Option ℕ → Option Ends
last_of None = None
last_of (Some n) = Some (Last n)

abbrev pub from_of : Option ℕ → Option Ends
from_of None = None
from_of (Some n) = Some (From n)

abbrev pub begins : ℕ → List ℕ → Bool
begins byte [] = false
begins byte (b ∷ bs) = b == byte

-- `+` begins the number of a line, `-` or nothing a count
abbrev pub ends_of : List ℕ → Option Ends
ends_of word =
    if begins 43 word then from_of (number (drop 1 word))
    else (if begins 45 word then last_of (number (drop 1 word))
    else last_of (number word))

-- counts that stand for these numbers
abbrev pub AreEnds : Ends → Ends → Type 0
AreEnds (Last count) (Last n) = StandsFor count n
AreEnds (Last count) (From n) = ⊥
AreEnds (From count) (Last n) = ⊥
AreEnds (From count) (From n) = StandsFor count n

abbrev pub tail : Ends → List ℕ → List ℕ
tail (Last n) text = last_lines n text
tail (From n) text = lines_from n text
