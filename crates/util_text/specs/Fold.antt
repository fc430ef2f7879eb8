-- What `fold` makes of a text (POSIX.1-2017, XCU, `fold`): each byte is one column.
use Rattle.std.specs.Prelude.{ℕ, zero, suc, ◌-◌, List, [], ◌∷◌}
use Rattle.std.specs.List.{flat_map}
use Rattle.util_text.specs.Lines.{lines}

-- A newline stands before a byte that comes after n bytes without one, and at the end. So many bytes may come before the next one.
abbrev pub cut_from : ℕ → ℕ → List ℕ → List ℕ
cut_from n room [] = 10 ∷ []
cut_from n zero (b ∷ bs) = 10 ∷ b ∷ cut_from n (n - 1) bs
cut_from n (suc room) (b ∷ bs) = b ∷ cut_from n room bs

abbrev pub fold_line : ℕ → List ℕ → List ℕ
fold_line n line = cut_from n n line

abbrev pub fold : ℕ → List ℕ → List ℕ
fold n text = flat_map (λ line. fold_line n line) (lines text)
