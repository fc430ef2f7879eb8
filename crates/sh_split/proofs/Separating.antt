-- Tables with an entry for each byte.
use Rattle.std.proofs.Common.{◌≡◌, ◌≢◌, ℕ, ◌+◌, ◌<◌, Bool, true, false, List, length, take, get_or, refl, sym, ◌∙◌, ap, inl, inr}
use Rattle.std.specs.Prelude.{◌||◌, ◌==◌}
use Rattle.std.proofs.lemmas.Bool.{cases_eq, eq-eqb, ne_eqb, or_right}
use Rattle.std.proofs.lemmas.List.Folds.{list_any_more}
use Rattle.sh_split.specs.Fields.{delimits}

or_no : (x y : Bool) → y ≡ false → (x || y) ≡ x
or_no true y h = refl
or_no false y h = h

-- one byte more
pub separator_added : (ifs : List ℕ) (i byte b : ℕ) (old new : List Bool) → i < length ifs → byte ≡ get_or ifs i 0 → get_or old b false ≡ delimits (take i ifs) b
    → get_or new byte false ≡ true → (b ≢ byte → get_or new b false ≡ get_or old b false) → get_or new b false ≡ delimits (take (i + 1) ifs) b
separator_added ifs i byte b old new h is w here other =
    let next : delimits (take (i + 1) ifs) b ≡ (delimits (take i ifs) b || byte == b) =
    list_any_more (λ (x : ℕ). x == b) ifs i 0 h ∙ ap (λ (y : ℕ). delimits (take i ifs) b || y == b) (sym is) in
    elim (cases_eq b byte) [
      | inl e ↦ (ap (λ (k : ℕ). get_or new k false) e ∙ here ∙ sym (next ∙ or_right (delimits (take i ifs) b) (byte == b) (eq-eqb byte b (sym e))))
      | inr n ↦ (other n ∙ w ∙ sym (next ∙ or_no (delimits (take i ifs) b) (byte == b) (ne_eqb byte b (λ q. n (sym q)))))
    ]
