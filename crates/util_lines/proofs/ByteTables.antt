-- Tables with an entry for each byte.
use Rattle.std.proofs.Common.{◌≡◌, ◌≢◌, ℕ, zero, suc, ◌+◌, ◌<◌, Bool, true, false, cond, List, [], ◌∷◌, length, take, drop, get_or, refl, sym, ◌∙◌, ap, subst, inl, inr, eqb, arith}
use Rattle.std.specs.Prelude.{Option, None, Some, unwrap_or, ◌||◌, ◌==◌}
use Rattle.std.specs.List.{list_any}
use Rattle.std.proofs.lemmas.Bool.{cases_eq, cond-true, cond-false, eq-eqb, ne_eqb, or_right}
use Rattle.std.proofs.lemmas.List.Folds.{list_any_more}
use Rattle.util_lines.specs.ByteSet.{has}
use Rattle.util_lines.specs.Transliterate.{behind_first, first_or, image}

-- ---- members

or_no : (x y : Bool) → y ≡ false → (x || y) ≡ x
or_no true y h = refl
or_no false y h = h

-- one byte more in the set
pub member_added : (set : List ℕ) (i byte b : ℕ) (old new : List Bool) → i < length set → byte ≡ get_or set i 0 → get_or old b false ≡ has (take i set) b
    → get_or new byte false ≡ true → (b ≢ byte → get_or new b false ≡ get_or old b false) → get_or new b false ≡ has (take (i + 1) set) b
member_added set i byte b old new h is w here other =
    let next : has (take (i + 1) set) b ≡ (has (take i set) b || byte == b) =
    list_any_more (λ (x : ℕ). x == b) set i 0 h ∙ ap (λ (y : ℕ). has (take i set) b || y == b) (sym is) in
    elim (cases_eq b byte) [
      | inl e ↦ (ap (λ (k : ℕ). get_or new k false) e ∙ here ∙ sym (next ∙ or_right (has (take i set) b) (byte == b) (eq-eqb byte b (sym e))))
      | inr n ↦ (other n ∙ w ∙ sym (next ∙ or_no (has (take i set) b) (byte == b) (ne_eqb byte b (λ q. n (sym q)))))
    ]

-- ---- images

pub no_image : (from : List ℕ) (b : ℕ) → image from [] b ≡ b
no_image [] b = refl
no_image (a ∷ more) b = refl

image_here : (a c : ℕ) (more cs : List ℕ) → image (a ∷ more) (c ∷ cs) a ≡ c
image_here a c more cs = cond-true (a == a) c (image more (behind_first (c ∷ cs)) a) (eq-eqb a a refl)

image_other : (a b c : ℕ) (more cs : List ℕ) → b ≢ a → image (a ∷ more) (c ∷ cs) b ≡ image more (behind_first (c ∷ cs)) b
image_other a b c more cs n = cond-false (a == b) c (image more (behind_first (c ∷ cs)) b) (ne_eqb a b (λ q. n (sym q)))

filled : (o : Option ℕ) (c b : ℕ) → unwrap_or (Some (unwrap_or o c)) b ≡ unwrap_or o c
filled None c b = refl
filled (Some x) c b = refl

-- one byte more has its image
image_found : (a b c : ℕ) (more cs next : List ℕ) (old new : List (Option ℕ)) (whole : ℕ) → next ≡ behind_first (c ∷ cs) → whole ≡ unwrap_or (get_or old b None) (image (a ∷ more) (c ∷ cs) b)
    → get_or new a None ≡ Some (unwrap_or (get_or old a None) c) → (b ≢ a → get_or new b None ≡ get_or old b None)
    → whole ≡ unwrap_or (get_or new b None) (image more next b)
image_found a b c more cs next old new whole n w here other = elim (cases_eq b a) [
  | inl e ↦ (w
      ∙ ap (λ (k : ℕ). unwrap_or (get_or old k None) (image (a ∷ more) (c ∷ cs) k)) e
      ∙ ap (unwrap_or (get_or old a None)) (image_here a c more cs)
      ∙ sym (filled (get_or old a None) c (image more next b))
      ∙ ap (λ (o : Option ℕ). unwrap_or o (image more next b)) (sym here ∙ ap (λ (k : ℕ). get_or new k None) (sym e)))
  | inr d ↦ (w
      ∙ ap (unwrap_or (get_or old b None)) (image_other a b c more cs d)
      ∙ ap (λ (t : List ℕ). unwrap_or (get_or old b None) (image more t b)) (sym n)
      ∙ ap (λ (o : Option ℕ). unwrap_or o (image more next b)) (sym (other d)))
]

same_entry : (a b : ℕ) (old new : List (Option ℕ)) → get_or new a None ≡ get_or old a None → (b ≢ a → get_or new b None ≡ get_or old b None) → get_or old b None ≡ get_or new b None
same_entry a b old new here other = elim (cases_eq b a) [
  | inl e ↦ (ap (λ (k : ℕ). get_or old k None) e ∙ sym here ∙ ap (λ (k : ℕ). get_or new k None) (sym e))
  | inr d ↦ sym (other d)
]

pub image_added : (a b : ℕ) (more left next : List ℕ) (old new : List (Option ℕ)) (whole : ℕ) → next ≡ behind_first left → whole ≡ unwrap_or (get_or old b None) (image (a ∷ more) left b)
    → get_or new a None ≡ first_or (get_or old a None) left → (b ≢ a → get_or new b None ≡ get_or old b None)
    → whole ≡ unwrap_or (get_or new b None) (image more next b)
image_added a b more [] next old new whole n w here other =
    w
    ∙ ap (λ (o : Option ℕ). unwrap_or o b) (same_entry a b old new here other)
    ∙ ap (unwrap_or (get_or new b None)) (sym (no_image more b) ∙ ap (λ (t : List ℕ). image more t b) (sym n))
image_added a b more (c ∷ cs) next old new whole n w here other = image_found a b c more cs next old new whole n w here other

-- the same where the list of bytes is what is left
pub image_next : (from : List ℕ) (i a b : ℕ) (left next : List ℕ) (old new : List (Option ℕ)) (whole : ℕ) → drop i from ≡ a ∷ drop (i + 1) from → next ≡ behind_first left
    → whole ≡ unwrap_or (get_or old b None) (image (drop i from) left b) → get_or new a None ≡ first_or (get_or old a None) left → (b ≢ a → get_or new b None ≡ get_or old b None)
    → whole ≡ unwrap_or (get_or new b None) (image (drop (i + 1) from) next b)
image_next from i a b left next old new whole d n w here other =
    image_added a b (drop (i + 1) from) left next old new whole n (w ∙ ap (λ (u : List ℕ). unwrap_or (get_or old b None) (image u left b)) d) here other
