-- Names on a path.
use Rattle.std.proofs.Common.{◌≡◌, ℕ, ◌-◌, List, [], ◌∷◌, ◌++◌, Bool, true, false, ◌&&◌, T, length, take, suc, arith, refl, sym, ap, ◌∙◌, subst}
use Rattle.hs_world.specs.Paths.{Path, are_names, is_name, parent}

left : (a b : Bool) → (a && b) ≡ true → a ≡ true
left true b h = refl
left false b h = h

right : (a b : Bool) → (a && b) ≡ true → b ≡ true
right true b h = h
right false b h = absurd (subst T (sym h) tt)

pair : (a b : Bool) → a ≡ true → b ≡ true → (a && b) ≡ true
pair true b h k = k
pair false b h k = h

pub names-push : (p : Path) (n : List ℕ) → are_names p ≡ true → is_name n ≡ true → are_names (p ++ n ∷ []) ≡ true
names-push [] n h k = pair (is_name n) true k refl
names-push (x ∷ xs) n h k = pair (is_name x) _ (left (is_name x) (are_names xs) h) (names-push xs n (right (is_name x) (are_names xs) h) k)

pub names-parent : (p : Path) → are_names p ≡ true → are_names (parent p) ≡ true
names-parent [] h = refl
names-parent (x ∷ []) h = refl
names-parent (x ∷ y ∷ ys) h = pair (is_name x) _ (left (is_name x) (are_names (y ∷ ys)) h) (names-parent (y ∷ ys) (right (is_name x) (are_names (y ∷ ys)) h))

pub parent-take : (p : Path) → take (length p - 1) p ≡ parent p
parent-take [] = refl
parent-take (x ∷ []) = refl
parent-take (x ∷ y ∷ ys) =
    let k : length (x ∷ y ∷ ys) - 1 ≡ suc (length (y ∷ ys) - 1) = omega arith in
    ap (λ j. take j (x ∷ y ∷ ys)) k ∙ ap (λ l. x ∷ l) (parent-take (y ∷ ys))

pub not_true : (b : Bool) → (b ≡ true → ⊥) → false ≡ b
not_true true h = absurd (h refl)
not_true false h = refl
