-- Why the first place is enough behind a star: what it leaves to the next star holds all that a later place leaves.
use Rattle.std.proofs.Common.{◌≡◌, ℕ, suc, ◌-◌, ◌<◌, ◌≤◌, drop, Bool, true, false, ◌||◌, ◌&&◌, List, [], ◌∷◌, length, refl, sym, ◌∙◌, ap, inl, inr, arith}
use Rattle.std.proofs.lemmas.Bool.{or_cases, or_left, or_right, or_parts, or_from, and_parts, false_from_ne_true, cases_lt}
use Rattle.std.proofs.Math.Bool.{or-false}
use Rattle.std.specs.List.{list_any}
use Rattle.sh_pattern.specs.declared.item.Item.{Item}
use Rattle.sh_pattern.specs.declared.item.Item.TheVariants.{Star, Any, Byte, OneOf}
use Rattle.sh_pattern.specs.Match.{matched, front, some_rest, takes, is_star}

-- two tests that are true together are one
both_true : (a b : Bool) → (a ≡ true → b ≡ true) → (b ≡ true → a ≡ true) → a ≡ b
both_true true b f g = sym (f refl)
both_true false true f g = g refl
both_true false false f g = refl

-- ---- one item

pub front-takes : (item : Item) (test : List ℕ → Bool) (b : ℕ) (bs : List ℕ) → is_star item ≡ false → front item test (b ∷ bs) ≡ (takes item b && test bs)
front-takes Star test b bs h = absurd cc
front-takes Any test b bs h = refl
front-takes (Byte c) test b bs h = refl
front-takes (OneOf set) test b bs h = refl

pub front-empty : (item : Item) (test : List ℕ → Bool) → is_star item ≡ false → front item test [] ≡ false
front-empty Star test h = absurd cc
front-empty Any test h = refl
front-empty (Byte c) test h = refl
front-empty (OneOf set) test h = refl

-- an item that takes its byte
pub matched-takes : (item : Item) (items : List Item) (b : ℕ) (bs : List ℕ) → is_star item ≡ false → takes item b ≡ true → matched (item ∷ items) (b ∷ bs) ≡ matched items bs
matched-takes item items b bs h t = front-takes item (matched items) b bs h ∙ ap (λ (x : Bool). x && matched items bs) t

pub matched-refuses : (item : Item) (items : List Item) (b : ℕ) (bs : List ℕ) → is_star item ≡ false → takes item b ≡ false → matched (item ∷ items) (b ∷ bs) ≡ false
matched-refuses item items b bs h t = front-takes item (matched items) b bs h ∙ ap (λ (x : Bool). x && matched items bs) t

-- ---- rests

pub some_rest-here : (test : List ℕ → Bool) (bs : List ℕ) → test bs ≡ true → some_rest test bs ≡ true
some_rest-here test [] h = h
some_rest-here test (b ∷ bs) h = or_left _ _ h

-- a star takes all that two take
pub some_rest-twice : (test : List ℕ → Bool) (bs : List ℕ) → some_rest (some_rest test) bs ≡ some_rest test bs
some_rest-twice test [] = refl
some_rest-twice test (b ∷ bs) = both_true _ _
    (λ h. elim (or_cases _ _ h) [ inl x ↦ x | inr x ↦ or_right (test (b ∷ bs)) _ (sym (some_rest-twice test bs) ∙ x) ])
    (λ h. or_left _ _ h)

-- where an item takes its byte at some place, the rest comes at a later one
some_rest-after : (item : Item) (test : List ℕ → Bool) (bs : List ℕ) → is_star item ≡ false → some_rest (front item test) bs ≡ true → some_rest test bs ≡ true
some_rest-after item test [] n h = let wrong : false ≡ true = sym (front-empty item test n) ∙ h in absurd cc
some_rest-after item test (b ∷ bs) n h = elim (or_cases _ _ h) [
  | inl x ↦ or_right (test (b ∷ bs)) _ (some_rest-here test bs ((and_parts (takes item b) (test bs) (sym (front-takes item test b bs n) ∙ x)).1))
  | inr x ↦ or_right (test (b ∷ bs)) _ (some_rest-after item test bs n x)
]

-- and not before the place where it can first come
pub later-takes : (item : Item) (items : List Item) (b : ℕ) (bs : List ℕ) → is_star item ≡ false →
    matched (Star ∷ item ∷ items) (b ∷ bs) ≡ true → matched (Star ∷ items) bs ≡ true
later-takes item items b bs n h = elim (or_cases _ _ h) [
  | inl x ↦ some_rest-here (matched items) bs ((and_parts (takes item b) (matched items bs) (sym (front-takes item (matched items) b bs n) ∙ x)).1)
  | inr x ↦ some_rest-after item (matched items) bs n x
]

-- what a star finds where the items behind it do not go at once
pub matched-later : (items : List Item) (b : ℕ) (bs : List ℕ) → matched items (b ∷ bs) ≡ false → matched (Star ∷ items) (b ∷ bs) ≡ matched (Star ∷ items) bs
matched-later items b bs h = ap (λ (x : Bool). x || some_rest (matched items) bs) h

-- a star that comes at once, or behind items that go from the first place
pub settled : (items more : List Item) (bytes rest : List ℕ) → matched items bytes ≡ matched (Star ∷ more) rest →
    (matched (Star ∷ items) bytes ≡ true → matched (Star ∷ Star ∷ more) rest ≡ true) →
    matched (Star ∷ items) bytes ≡ matched (Star ∷ more) rest
settled items more bytes rest here later = both_true _ _
    (λ h. sym (some_rest-twice (matched more) rest) ∙ later h)
    (λ h. some_rest-here (matched items) bytes (here ∙ h))

-- ---- the step of a loop over the items and the bytes

pub step-here : (left items : List Item) (rest bs : List ℕ) (item : Item) (b : ℕ) → left ≡ item ∷ items → rest ≡ b ∷ bs →
    is_star item ≡ false → takes item b ≡ true → matched left rest ≡ matched items bs
step-here left items rest bs item b e f n t =
    ap (λ (x : List Item). matched x rest) e ∙ ap (λ (x : List ℕ). matched (item ∷ items) x) f ∙ matched-takes item items b bs n t

pub step-later : (left items : List Item) (rest bs : List ℕ) (item : Item) (b : ℕ) → left ≡ item ∷ items → rest ≡ b ∷ bs →
    is_star item ≡ false → takes item b ≡ true → matched (Star ∷ left) rest ≡ true → matched (Star ∷ items) bs ≡ true
step-later left items rest bs item b e f n t h =
    later-takes item items b bs n
    (sym (ap (λ (x : List Item). matched (Star ∷ x) rest) e ∙ ap (λ (x : List ℕ). matched (Star ∷ item ∷ items) x) f) ∙ h)

star-of : (item : Item) → is_star item ≡ true → item ≡ Star
star-of Star h = refl
star-of Any h = absurd cc
star-of (Byte b) h = absurd cc
star-of (OneOf set) h = absurd cc

-- where a star comes
pub stop-settled : (orig left items : List Item) (bytes rest : List ℕ) (item : Item) → left ≡ item ∷ items → is_star item ≡ true →
    matched orig bytes ≡ matched left rest → (matched (Star ∷ orig) bytes ≡ true → matched (Star ∷ left) rest ≡ true) →
    matched (Star ∷ orig) bytes ≡ matched (Star ∷ items) rest
stop-settled orig left items bytes rest item e s here later =
    let f : left ≡ Star ∷ items = e ∙ ap (λ (x : Item). x ∷ items) (star-of item s) in
    settled orig items bytes rest
    (here ∙ ap (λ (x : List Item). matched x rest) f)
    (λ h. sym (ap (λ (x : List Item). matched (Star ∷ x) rest) f) ∙ later h)

-- the next place
pub next-place : (items : List Item) (rest bs : List ℕ) (b : ℕ) → rest ≡ b ∷ bs → matched items rest ≡ false →
    matched (Star ∷ items) rest ≡ matched (Star ∷ items) bs
next-place items rest bs b e h =
    ap (λ (x : List ℕ). matched (Star ∷ items) x) e ∙ matched-later items b bs (ap (λ (x : List ℕ). matched items x) (sym e) ∙ h)

pub no-place : (items : List Item) (rest : List ℕ) → length rest ≡ 0 → matched items rest ≡ false → matched (Star ∷ items) rest ≡ false
no-place items [] e h = h
no-place items (b ∷ bs) e h = absurd (omega arith)

pub at-place : (items : List Item) (rest : List ℕ) → matched items rest ≡ true → matched (Star ∷ items) rest ≡ true
at-place items rest h = some_rest-here (matched items) rest h

-- ---- behind the last star

-- items without a star match texts of their number alone
length-single : (items : List Item) (bs : List ℕ) → list_any is_star items ≡ false → matched items bs ≡ true → length bs ≡ length items
length-single [] [] n h = refl
length-single [] (b ∷ bs) n h = absurd cc
length-single (item ∷ items) [] n h =
    let single = or_parts (is_star item) (list_any is_star items) n in
    let wrong : false ≡ true = sym (front-empty item (matched items) single.0) ∙ h in absurd cc
length-single (item ∷ items) (b ∷ bs) n h =
    let single = or_parts (is_star item) (list_any is_star items) n in
    let rest = and_parts (takes item b) (matched items bs) (sym (front-takes item (matched items) b bs single.0) ∙ h) in
    ap suc (length-single items bs single.1 rest.1)

not-matched : (items : List Item) (bs : List ℕ) → list_any is_star items ≡ false → (length bs ≡ length items → ⊥) → matched items bs ≡ false
not-matched items bs n h = false_from_ne_true (matched items bs) (λ m. h (length-single items bs n m))

pub too-short : (items : List Item) (bs : List ℕ) → list_any is_star items ≡ false → length bs < length items → matched (Star ∷ items) bs ≡ false
too-short items [] n h = not-matched items [] n (λ e. absurd (omega (arith, e)))
too-short items (b ∷ bs) n h =
    or_from (matched items (b ∷ bs)) (some_rest (matched items) bs) (not-matched items (b ∷ bs) n (λ e. absurd (omega (arith, e)))) (too-short items bs n (omega arith))

pub only-end : (items : List Item) (bs : List ℕ) → list_any is_star items ≡ false → length items ≤ length bs →
    matched (Star ∷ items) bs ≡ matched items (drop (length bs - length items) bs)
only-end items [] n h = let zero-is : length {A = ℕ} [] - length items ≡ 0 = omega arith in
    ap (λ (k : ℕ). matched items (drop k [])) (sym zero-is)
only-end items (b ∷ bs) n h = elim (cases_lt (length bs) (length items)) [
  | inl short ↦ (let none : suc (length bs) - length items ≡ 0 = omega arith in
      ap (λ (x : Bool). matched items (b ∷ bs) || x) (too-short items bs n short)
      ∙ or-false (matched items (b ∷ bs))
      ∙ ap (λ (k : ℕ). matched items (drop k (b ∷ bs))) (sym none))
  | inr long ↦ (let one : suc (length bs) - length items ≡ suc (length bs - length items) = omega arith in
      ap (λ (x : Bool). x || some_rest (matched items) bs) (not-matched items (b ∷ bs) n (λ e. absurd (omega (arith, e))))
      ∙ only-end items bs n long
      ∙ ap (λ (k : ℕ). matched items (drop k (b ∷ bs))) (sym one))
]
