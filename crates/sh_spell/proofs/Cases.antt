-- Cases on tests.
use Rattle.std.proofs.Common.{◌≡◌, ℕ, ◌==◌, Bool, true, false, ◌&&◌, ◌||◌, not, refl, sym, subst}
use Rattle.std.proofs.lemmas.Bool.{eqb-true}
use Rattle.std.specs.Prelude.{if◌then◌else◌}

pub chosen : {A : Type 0} (P : A → Type 0) (c : Bool) {x y : A} → (c ≡ true → P x) → (c ≡ false → P y) → P (elim c as (λ q. A) [ true ↦ x | false ↦ y ])
chosen P true f g = f refl
chosen P false f g = g refl

pub chosen_if : {A : Type 0} (P : A → Type 0) (c : Bool) {x y : A} → (c ≡ true → P x) → (c ≡ false → P y) → P (if c then x else y)
chosen_if P true f g = f refl
chosen_if P false f g = g refl

pub takes : {A : Type 0} (c : Bool) (x y : A) → c ≡ true → elim c as (λ q. A) [ true ↦ x | false ↦ y ] ≡ x
takes true x y e = refl
takes false x y e = absurd cc

pub passes : {A : Type 0} (c : Bool) (x y : A) → c ≡ false → elim c as (λ q. A) [ true ↦ x | false ↦ y ] ≡ y
passes true x y e = absurd cc
passes false x y e = refl

pub takes_if : {A : Type 0} (c : Bool) (x y : A) → c ≡ true → (if c then x else y) ≡ x
takes_if true x y e = refl
takes_if false x y e = absurd cc

pub passes_if : {A : Type 0} (c : Bool) (x y : A) → c ≡ false → (if c then x else y) ≡ y
passes_if true x y e = absurd cc
passes_if false x y e = refl

pub both : (a b : Bool) → (a && b) ≡ true → (a ≡ true) × (b ≡ true)
both true b e = (refl, e)
both false b e = absurd cc

pub neither : (a b : Bool) → (a || b) ≡ false → (a ≡ false) × (b ≡ false)
neither true b e = absurd cc
neither false b e = (refl, e)

pub either_if : {A : Type 0} (P : A → Type 0) (a b : Bool) (x : A) → (a ≡ true → P x) → (b ≡ true → P x) → (a || b) ≡ true → P x
either_if P true b x f g e = f refl
either_if P false b x f g e = g e

pub at : (P : ℕ → Type 0) (b n : ℕ) → P n → (b == n) ≡ true → P b
at P b n p e = subst P (sym (eqb-true b n e)) p

pub opposite : (a : Bool) → not a ≡ true → a ≡ false
opposite true e = absurd cc
opposite false e = refl
