-- The counts of `wc` (POSIX.1-2017, XCU, `wc`). A word is a run of bytes other than space and 9 to 13.
use Rattle.std.specs.Prelude.{ℕ, ◌+◌, ◌-◌, ◌^◌, min, Bool, true, not, ◌&&◌, ◌||◌, ◌==◌, nat_le, List, [], ◌∷◌, length, if◌then◌else◌}
use Rattle.std.specs.List.{sum_by}
use Rattle.util_text.specs.declared.counting.Counts.{Counts}

abbrev pub newline : ℕ → ℕ
newline b = if b == 10 then 1 else 0

abbrev pub newlines : List ℕ → ℕ
newlines [] = 0
newlines (b ∷ bs) = newline b + newlines bs

-- the byte stands between words
abbrev pub is_space : ℕ → Bool
is_space b = b == 32 || (nat_le 9 b && nat_le b 13)

-- a word that comes before these bytes ends there
abbrev pub ends_word : List ℕ → Bool
ends_word [] = true
ends_word (b ∷ bs) = is_space b

-- how many words there are, each counted where it ends
abbrev pub words : List ℕ → ℕ
words [] = 0
words (b ∷ bs) = (if not (is_space b) && ends_word bs then 1 else 0) + words bs

abbrev pub counts : List ℕ → Counts
counts text = record { lines = newlines text; words = words text; bytes = length text }

-- the counts but for the words, which are left at none
abbrev pub without_words : Counts → Counts
without_words counts = record { lines = counts.lines; words = 0; bytes = counts.bytes }

-- ---- several texts

-- the sum of each count over the texts
abbrev pub total : List (List ℕ) → Counts
total texts = record { lines = sum_by newlines texts; words = sum_by words texts; bytes = sum_by length texts }

abbrev pub plus : Counts → Counts → Counts
plus a b = record { lines = a.lines + b.lines; words = a.words + b.words; bytes = a.bytes + b.bytes }

-- each count, or the greatest one of 128 bits where it is greater
abbrev pub capped : Counts → Counts
capped counts = record { lines = min counts.lines (2 ^ 128 - 1); words = min counts.words (2 ^ 128 - 1); bytes = min counts.bytes (2 ^ 128 - 1) }
