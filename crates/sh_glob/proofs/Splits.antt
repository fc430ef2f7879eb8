-- The components of a field, as its bytes come.
use Rattle.std.proofs.Common.{◌≡◌, ℕ, Bool, true, false, List, [], ◌∷◌, ◌++◌, map, refl, sym, ap, ◌∙◌, append_assoc, append-nil}
use Rattle.std.proofs.lemmas.Bool.{eqb-true}
use Rattle.std.specs.Prelude.{◌==◌, if◌then◌else◌}
use Rattle.hs_world.specs.Paths.{slash}
use Rattle.sh_glob.specs.declared.part.Part.{Part}
use Rattle.sh_glob.specs.Parts.{behind, part_of, put_first, split}

pub differs : (a b : ℕ) → (a ≡ b → ⊥) → (a == b) ≡ false
differs a b n = elim (a == b) as (λ r. (a == b) ≡ r → r ≡ false) [ true ↦ λ e. absurd (n (eqb-true a b e)) | false ↦ λ e. refl ] refl

abbrev Text : Type 0
Text = List (ℕ × Bool)

front_none : (x : ℕ × Bool) (ps : List Text) → behind [] (put_first x ps) ≡ put_first x ps
front_none x [] = refl
front_none x (p ∷ ps) = refl

-- nothing comes before
pub behind-nil : (r : Text) → behind [] (split r) ≡ split r
behind-nil [] = refl
behind-nil (x ∷ r) = elim (x.0 == slash) as (λ b. behind [] (if b then [] ∷ split r else put_first x (split r)) ≡ (if b then [] ∷ split r else put_first x (split r))) [
  | true ↦ refl
  | false ↦ front_none x (split r)
]

-- a slash ends the component
pub behind-slash : (f : Text) (x : ℕ × Bool) (r : Text) → (x.0 == slash) ≡ true → behind f (split (x ∷ r)) ≡ f ∷ behind [] (split r)
behind-slash f x r h =
    ap (λ (b : Bool). behind f (if b then [] ∷ split r else put_first x (split r))) h
    ∙ ap (λ (p : Text). p ∷ split r) (append-nil f)
    ∙ ap (λ (ps : List Text). f ∷ ps) (sym (behind-nil r))

front_more : (f : Text) (x : ℕ × Bool) (ps : List Text) → behind f (put_first x ps) ≡ behind (f ++ x ∷ []) ps
front_more f x [] = refl
front_more f x (p ∷ ps) = ap (λ (q : Text). q ∷ ps) (sym (append_assoc f (x ∷ []) p))

-- another byte goes to its end
pub behind-byte : (f : Text) (x : ℕ × Bool) (r : Text) → (x.0 == slash) ≡ false → behind f (split (x ∷ r)) ≡ behind (f ++ x ∷ []) (split r)
behind-byte f x r h = ap (λ (b : Bool). behind f (if b then [] ∷ split r else put_first x (split r))) h ∙ front_more f x (split r)

-- the parts that were read, and those that come
pub parts-slash : (ps : List Part) (f : Text) (x : ℕ × Bool) (r : Text) → (x.0 == slash) ≡ true
    → (ps ++ part_of f ∷ []) ++ map part_of (behind [] (split r)) ≡ ps ++ map part_of (behind f (split (x ∷ r)))
parts-slash ps f x r h =
    append_assoc ps (part_of f ∷ []) (map part_of (behind [] (split r)))
    ∙ ap (λ (qs : List Text). ps ++ map part_of qs) (sym (behind-slash f x r h))

pub parts-byte : (ps : List Part) (f : Text) (x : ℕ × Bool) (r : Text) → (x.0 == slash) ≡ false
    → ps ++ map part_of (behind (f ++ x ∷ []) (split r)) ≡ ps ++ map part_of (behind f (split (x ∷ r)))
parts-byte ps f x r h = ap (λ (qs : List Text). ps ++ map part_of qs) (sym (behind-byte f x r h))

-- all bytes have come
pub parts-end : (ps : List Part) (f : Text) → ps ++ map part_of (behind f (split [])) ≡ ps ++ part_of f ∷ []
parts-end ps f = ap (λ (p : Text). ps ++ part_of p ∷ []) (append-nil f)
