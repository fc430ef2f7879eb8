-- The line that `wc` writes (POSIX.1-2017, XCU, `wc`): the chosen counts in the order lines, words, bytes, and the name.
use Rattle.std.specs.Prelude.{ℕ, Bool, true, false, not, ◌||◌, List, [], ◌∷◌, ◌++◌, Option, None, Some, decimal, if◌then◌else◌}
use Rattle.std.specs.List.{join_with_byte}
use Rattle.util_text.specs.declared.counting.Counts.{Counts}
use Rattle.util_text.specs.declared.chosen.Chosen.{Chosen}

abbrev pub where_chosen : Bool → ℕ → List (List ℕ)
where_chosen chosen n = if chosen then decimal n ∷ [] else []

-- the counts that are chosen, as they are written
abbrev pub chosen_counts : Chosen → Counts → List (List ℕ)
chosen_counts chosen counts =
    where_chosen chosen.lines counts.lines ++ (where_chosen chosen.words counts.words ++ where_chosen chosen.bytes counts.bytes)

-- where none is chosen, all are
abbrev pub or_all : Chosen → Chosen
or_all chosen =
    let none = not (chosen.lines || chosen.words || chosen.bytes) in
    record { lines = chosen.lines || none; words = chosen.words || none; bytes = chosen.bytes || none }

-- the end of the line, which has a name where there is one
abbrev pub named : Option (List ℕ) → List ℕ
named None = 10 ∷ []
named (Some name) = 32 ∷ (name ++ 10 ∷ [])

abbrev pub counts_line : Chosen → Counts → Option (List ℕ) → List ℕ
counts_line chosen counts name = join_with_byte 32 (chosen_counts (or_all chosen) counts) ++ named name

-- ---- count by count

abbrev pub shown : Bool → Bool → ℕ → List ℕ
shown behind chosen n = if chosen then (if behind then 32 ∷ decimal n else decimal n) else []

abbrev pub written : Chosen → Counts → List ℕ
written chosen counts = join_with_byte 32 (chosen_counts chosen counts)
