-- A text of which nothing is deleted and nothing squeezed.
use Rattle.std.proofs.Common.{◌≡◌, ℕ, zero, suc, ◌<◌, Bool, true, false, not, cond, List, [], ◌∷◌, ◌++◌, map, refl, sym, ap, subst, ◌∙◌}
use Rattle.std.specs.Prelude.{Option, None, Some, Result, Ok, Err, IfOk, ◌&&◌, slice_index_or, unwrap_or}
use Rattle.std.specs.List.{filter, list_any}
use Rattle.util_lines.specs.ByteSet.{has}
use Rattle.util_lines.specs.Transliterate.{Job, StandFor, image, kept, repeats, squeezed, translated, transliterated}
use Rattle.util_lines.specs.declared.transliterating.Tables.{Tables}

-- each is a byte
abbrev pub Bytes : List ℕ → Type 0
Bytes xs = (i : ℕ) → slice_index_or xs i 0 < 256

no_member : (table : List Bool) (b : ℕ) → list_any (λ m. m) table ≡ false → slice_index_or table b false ≡ false
no_member [] b e = refl
no_member (true ∷ ms) zero e = e
no_member (false ∷ ms) zero e = refl
no_member (true ∷ ms) (suc b) e = absurd cc
no_member (false ∷ ms) (suc b) e = no_member ms b e

one_stays : (r h : Bool) (xs ys : List ℕ) → h ≡ false → cond (r && h) xs ys ≡ ys
one_stays true true xs ys k = absurd cc
one_stays true false xs ys k = refl
one_stays false h xs ys k = refl

stay : (set : List ℕ) (b : ℕ) (last : Option ℕ) (bs : List ℕ) → has set b ≡ false → squeezed set last (b ∷ bs) ≡ b ∷ squeezed set (Some b) bs
stay set b last bs e = one_stays (repeats last b) (has set b) (squeezed set last bs) (b ∷ squeezed set (Some b) bs) e

none_squeezed : (set : List ℕ) (last : Option ℕ) (xs : List ℕ) → ((b : ℕ) → b < 256 → has set b ≡ false) → Bytes xs → squeezed set last xs ≡ xs
none_squeezed set last [] none fits = refl
none_squeezed set last (b ∷ bs) none fits = stay set b last bs (none b (fits 0)) ∙ ap (λ (ys : List ℕ). b ∷ ys) (none_squeezed set (Some b) bs none (λ i. fits (suc i)))

none_deleted : (job : Job) (text : List ℕ) → ((b : ℕ) → b < 256 → has job.deletes b ≡ false) → Bytes text → kept job text ≡ text
none_deleted job [] none fits = refl
none_deleted job (b ∷ bs) none fits =
    ap (λ (d : Bool). cond (not d) (b ∷ kept job bs) (kept job bs)) (none b (fits 0)) ∙ ap (λ (ys : List ℕ). b ∷ ys) (none_deleted job bs none (λ i. fits (suc i)))

same_images : (f g : ℕ → ℕ) (text : List ℕ) → ((b : ℕ) → b < 256 → f b ≡ g b) → Bytes text → map f text ≡ map g text
same_images f g [] e fits = refl
same_images f g (b ∷ bs) e fits = ap (λ (y : ℕ). y ∷ map f bs) (e b (fits 0)) ∙ ap (λ (ys : List ℕ). g b ∷ ys) (same_images f g bs e (λ i. fits (suc i)))

one_more : (xs : List ℕ) (x : ℕ) → Bytes xs → x < 256 → Bytes (xs ++ x ∷ [])
one_more [] x all h zero = h
one_more [] x all h (suc i) = all 0
one_more (y ∷ ys) x all h zero = all 0
one_more (y ∷ ys) x all h (suc i) = one_more ys x (λ k. all (suc k)) h i

pub plain : (tables : Tables) (job : Job) (text out : List ℕ) → StandFor tables job → list_any (λ m. m) tables.deletes ≡ false → list_any (λ m. m) tables.squeezes ≡ false → Bytes text → Bytes out
    → out ≡ map (λ b. unwrap_or (slice_index_or tables.images b None) b) text → out ≡ transliterated job text
plain tables job text out stands deletes squeezes fits made e =
    let no_deletes : (b : ℕ) → b < 256 → has job.deletes b ≡ false = λ b h. sym (stands.deletes b h) ∙ no_member tables.deletes b deletes in
    let no_squeezes : (b : ℕ) → b < 256 → has job.squeezes b ≡ false = λ b h. sym (stands.squeezes b h) ∙ no_member tables.squeezes b squeezes in
    let images : out ≡ translated job text =
    e
    ∙ same_images (λ b. unwrap_or (slice_index_or tables.images b None) b) (λ b. image job.from job.to b) text stands.images fits
    ∙ ap (map (λ b. image job.from job.to b)) (sym (none_deleted job text no_deletes fits)) in
    sym (none_squeezed job.squeezes None out no_squeezes made) ∙ ap (squeezed job.squeezes None) images

-- one byte more
pub bytes_more : (xs ys : List ℕ) (x : ℕ) → Bytes xs → x < 256 → ys ≡ xs ++ x ∷ [] → Bytes ys
bytes_more xs ys x all h e i = subst (λ (zs : List ℕ). slice_index_or zs i 0 < 256) (sym e) (one_more xs x all h i)

pub both_ok : {A E : Type 0} (r : Result A E) (P Q R : A → Type 0) → ((a : A) → P a → Q a → R a) → IfOk r P → IfOk r Q → IfOk r R
both_ok (Ok a) P Q R f p q = f a p q
both_ok (Err e) P Q R f p q = tt
