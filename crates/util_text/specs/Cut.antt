-- What `cut` makes of a text (POSIX.1-2017, XCU, `cut`).
use Rattle.std.specs.Prelude.{ℕ, suc, Bool, ◌==◌, List, [], ◌∷◌, ◌++◌, if◌then◌else◌}
use Rattle.std.specs.List.{flat_map, join_with_byte, list_any}
use Rattle.util_text.specs.Lines.{lines}
use Rattle.util_text.specs.Parts.{parts}

-- the items whose places pass the test, in order; the first one stands at this place
abbrev pub chosen : {X : Type 0} → (ℕ → Bool) → ℕ → List X → List X
chosen test place [] = []
chosen test place (x ∷ xs) = if test place then x ∷ chosen test (suc place) xs else chosen test (suc place) xs

-- ---- bytes

abbrev pub bytes_of_line : (ℕ → Bool) → List ℕ → List ℕ
bytes_of_line test line = chosen test 1 line ++ 10 ∷ []

abbrev pub cut_bytes : (ℕ → Bool) → List ℕ → List ℕ
cut_bytes test text = flat_map (λ line. bytes_of_line test line) (lines text)

-- ---- fields, which a byte delimits

abbrev pub fields : ℕ → List ℕ → List (List ℕ)
fields d line = parts (λ b. b == d) line

-- A line without the delimiter passes whole, or not at all where only lines with it are to.
abbrev pub fields_of_line : (ℕ → Bool) → ℕ → Bool → List ℕ → List ℕ
fields_of_line test d only line =
    if list_any (λ b. b == d) line then join_with_byte d (chosen test 1 (fields d line)) ++ 10 ∷ []
    else (if only then [] else line ++ 10 ∷ [])

abbrev pub cut_fields : (ℕ → Bool) → ℕ → Bool → List ℕ → List ℕ
cut_fields test d only text = flat_map (λ line. fields_of_line test d only line) (lines text)

-- ---- field by field

-- a field where it is selected, with the delimiter before it where it comes behind another
abbrev pub field_shown : ℕ → Bool → Bool → List ℕ → List ℕ
field_shown d selected behind field = if selected then (if behind then d ∷ field else field) else []
