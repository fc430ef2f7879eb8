-- Counts in the words of a command: decimal digits of any length.
use Rattle.std.specs.Prelude.{◌≡◌, ℕ, ◌+◌, ◌*◌, ◌-◌, ◌^◌, min, List, [], ◌∷◌, Option, Some, None, if◌then◌else◌}
use Rattle.std.specs.Char.{is_ascii_digit}

-- the number that digits write, behind digits that write this number; none where a byte is no digit
abbrev pub number_from : ℕ → List ℕ → Option ℕ
number_from n [] = Some n
number_from n (b ∷ bs) = if is_ascii_digit b then number_from (n * 10 + (b - 48)) bs else None

-- the number that a word writes, where it has digits and nothing else
abbrev pub number : List ℕ → Option ℕ
number [] = None
number (b ∷ bs) = number_from 0 (b ∷ bs)

-- A count stands for a number: it is that number, or the greatest count, where no text has so many bytes.
abbrev pub StandsFor : ℕ → ℕ → Type 0
StandsFor count n = count ≡ min n (2 ^ 64 - 1)
