-- Lists of lines, and what their order makes of them.
use Rattle.std.proofs.Common.{◌≡◌, ℕ, Bool, true, false, cond, List, [], ◌∷◌, ◌++◌, refl, sym, ◌∙◌, ap, append_assoc}
use Rattle.std.specs.Prelude.{map}
use Rattle.std.specs.List.{dedup, dedup_from}
use Rattle.std.specs.Ordering.{is_gt, on}
use Rattle.std.specs.declared.cmp.Ordering.{Ordering}
use Rattle.std.proofs.lemmas.List.{reverse-append}
use Rattle.util_lines.specs.Fronts.{shown_lines}
use Rattle.util_lines.specs.Orders.{inserted, sorted}
use mathlib.Core.List.{reverse}
use denote.Ref.{Bor}

map-cond : {X Y : Type 0} (f : X → Y) (b : Bool) (us vs : List X) → map f (cond b us vs) ≡ cond b (map f us) (map f vs)
map-cond f true us vs = refl
map-cond f false us vs = refl

map-append : {X Y : Type 0} (f : X → Y) (us vs : List X) → map f (us ++ vs) ≡ map f us ++ map f vs
map-append f [] vs = refl
map-append {Y} f (u ∷ us) vs = ap (λ (ys : List Y). f u ∷ ys) (map-append f us vs)

-- ---- sorted

map-inserted : {X Y : Type 0} (f : X → Y) (R : Y → Y → Ordering) (x : X) (xs : List X) → map f (inserted (on f R) x xs) ≡ inserted R (f x) (map f xs)
map-inserted f R x [] = refl
map-inserted {Y} f R x (y ∷ xs) =
    map-cond f (is_gt (R (f x) (f y))) (y ∷ inserted (on f R) x xs) (x ∷ y ∷ xs)
    ∙ ap (λ (ys : List Y). cond (is_gt (R (f x) (f y))) (f y ∷ ys) (f x ∷ f y ∷ map f xs)) (map-inserted f R x xs)

pub map_sorted : {X Y : Type 0} (f : X → Y) (R : Y → Y → Ordering) (xs : List X) → map f (sorted (on f R) xs) ≡ sorted R (map f xs)
map_sorted f R [] = refl
map_sorted {Y} f R (x ∷ xs) = map-inserted f R x (sorted (on f R) xs) ∙ ap (λ (ys : List Y). inserted R (f x) ys) (map_sorted f R xs)

-- ---- the first of equal neighbours

map-dedup-from : {X Y : Type 0} (f : X → Y) (E : Y → Y → Bool) (k : X) (xs : List X) → map f (dedup_from (λ x y. E (f x) (f y)) k xs) ≡ dedup_from E (f k) (map f xs)
map-dedup-from f E k [] = refl
map-dedup-from {Y} f E k (x ∷ xs) =
    map-cond f (E (f x) (f k)) (dedup_from (λ x y. E (f x) (f y)) k xs) (k ∷ dedup_from (λ x y. E (f x) (f y)) x xs)
    ∙ ap (λ (ys : List Y). cond (E (f x) (f k)) ys (f k ∷ map f (dedup_from (λ x y. E (f x) (f y)) x xs))) (map-dedup-from f E k xs)
    ∙ ap (λ (ys : List Y). cond (E (f x) (f k)) (dedup_from E (f k) (map f xs)) (f k ∷ ys)) (map-dedup-from f E x xs)

pub map_dedup : {X Y : Type 0} (f : X → Y) (E : Y → Y → Bool) (xs : List X) → map f (dedup (λ x y. E (f x) (f y)) xs) ≡ dedup E (map f xs)
map_dedup f E [] = refl
map_dedup f E (x ∷ xs) = map-dedup-from f E x xs

-- ---- the other way round

pub map_reverse : {X Y : Type 0} (f : X → Y) (xs : List X) → map f (reverse xs) ≡ reverse (map f xs)
map_reverse f [] = refl
map_reverse {Y} f (x ∷ xs) =
    ap (map f) (reverse-append (x ∷ []) xs) ∙ map-append f (reverse xs) (x ∷ []) ∙ ap (λ (ys : List Y). ys ++ f x ∷ []) (map_reverse f xs) ∙ sym (reverse-append (f x ∷ []) (map f xs))

-- ---- lines at the end

pub line_added : (whole lines more : List (List ℕ)) (line : List ℕ) (old new : List (Bor (List ℕ))) (item : Bor (List ℕ)) → lines ≡ line ∷ more → item.now ≡ line → new ≡ old ++ item ∷ []
    → shown_lines old ++ lines ≡ whole → shown_lines new ++ more ≡ whole
line_added whole lines more line old new item is now added sofar =
    ap (λ (us : List (Bor (List ℕ))). shown_lines us ++ more) added
    ∙ ap (λ (us : List (List ℕ)). us ++ more) (map-append (λ (b : Bor (List ℕ)). b.now) old (item ∷ []))
    ∙ append_assoc (shown_lines old) (item.now ∷ []) more
    ∙ ap (λ (u : List ℕ). shown_lines old ++ u ∷ more) now
    ∙ ap (λ (us : List (List ℕ)). shown_lines old ++ us) (sym is)
    ∙ sofar
