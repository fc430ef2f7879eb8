-- Tables that say for each rest of a text whether the closing bracket comes.
use Rattle.std.proofs.Common.{◌≡◌, ℕ, ◌+◌, ◌-◌, ◌<◌, ◌≤◌, Bool, false, List, [], ◌∷◌, ◌++◌, length, drop, get_or, set, sym, ◌∙◌, ap, arith, length-drop, subst, ◌||◌, Option, Some, None, inl, inr, get_or-set_other, get_or-set_same}
use Rattle.std.proofs.lemmas.Bool.{cases_eq, cond-false}
use Rattle.std.proofs.lemmas.List.{drop-drop, get_or-drop}
use Rattle.sh_pattern.specs.declared.bracket.Element.{Element}
use Rattle.sh_pattern.specs.declared.item.ByteRange.{ByteRange}
use Rattle.sh_pattern.specs.Items.{plain, element, ranges_of, more, behind, elements, elements_first, closes, IsClosings}
use Rattle.sh_pattern.proofs.Listed.{behind-behind, taken, closes-cons, first-closes}

-- from a place on
pub from-place : (i : ℕ) (table : List Bool) (text : List (ℕ × Bool)) → i ≤ length text → length table ≡ length text + 1 →
    ((k : ℕ) → i ≤ k → k ≤ length text → get_or table k false ≡ closes (drop k text)) → IsClosings (drop i table) (drop i text)
from-place i table text w l each = record {
  len = omega (arith, length-drop i table, length-drop i text);
  each = λ k h.
      get_or-drop i table k false
      ∙ each (i + k) (omega arith) (omega (arith, length-drop i text))
      ∙ ap (λ (x : List (ℕ × Bool)). closes x) (sym (drop-drop k i text));
}

pub IsClosings-drop : (i : ℕ) (table : List Bool) (text : List (ℕ × Bool)) → i ≤ length text → IsClosings table text → IsClosings (drop i table) (drop i text)
IsClosings-drop i table text w t = from-place i table text w t.len (λ k _ h. t.each k h)

pub IsClosings-behind : (i : ℕ) (table : List Bool) (text : List (ℕ × Bool)) → i < length text → length table ≡ length text + 1 →
    ((k : ℕ) → i + 1 ≤ k → k ≤ length text → get_or table k false ≡ closes (drop k text)) → IsClosings (drop (i + 1) table) (drop 1 (drop i text))
IsClosings-behind i table text w l each = rw (drop-drop 1 i text) (from-place (i + 1) table text (omega arith) l each)

-- one place more
pub one-place : (i : ℕ) (table : List Bool) (text : List (ℕ × Bool)) (here : Bool) → i < length table → here ≡ closes (drop i text) →
    ((k : ℕ) → i + 1 ≤ k → k ≤ length text → get_or table k false ≡ closes (drop k text)) →
    (k : ℕ) → i ≤ k → k ≤ length text → get_or (set table i here) k false ≡ closes (drop k text)
one-place i table text here w e each k h l = elim (cases_eq k i) [
  | inl same ↦ rw same (get_or-set_same table i here false w ∙ e)
  | inr other ↦ (get_or-set_other table i k here false other ∙ each k (omega arith) l)
]

-- what the table says behind an element
pub behind-element : (table : List Bool) (text rest : List (ℕ × Bool)) (x : ℕ × Bool) (e : Element) (m : ℕ) → text ≡ x ∷ rest →
    IsClosings table (drop 1 text) → e ≡ element x rest → m ≡ more e → m ≤ length rest →
    get_or table m false ≡ closes (drop (more (element x rest)) rest)
behind-element table text rest x e m s t f g w =
    let t' = subst (λ (y : List (ℕ × Bool)). IsClosings table (drop 1 y)) s t in
    t'.each m w ∙ ap (λ (n : ℕ). closes (drop n rest)) (g ∙ ap more f)

pub closes-table : (table : List Bool) (text rest : List (ℕ × Bool)) (x : ℕ × Bool) (e : Element) (m : ℕ) → text ≡ x ∷ rest →
    IsClosings table (drop 1 text) → plain 93 x ≡ false → e ≡ element x rest → m ≡ more e → m ≤ length rest →
    get_or table m false ≡ closes text
closes-table table text rest x e m s t p f g w =
    behind-element table text rest x e m s t f g w
    ∙ sym (ap (λ (y : List (ℕ × Bool)). closes y) s ∙ closes-cons x rest ∙ ap (λ (b : Bool). b || closes (drop (more (element x rest)) rest)) p)

-- where it does not come behind the first element, there is no bracket expression
pub no-elements : (table : List Bool) (text rest : List (ℕ × Bool)) (x : ℕ × Bool) (e : Element) (m : ℕ) → text ≡ x ∷ rest →
    IsClosings table text → e ≡ element x rest → m ≡ more e → m ≤ length rest → get_or table (1 + m) false ≡ false → elements_first text ≡ None
no-elements table text rest x e m s t f g w h =
    let inside : 1 ≤ length text = rw s (omega arith) in
    let behind = behind-element (drop 1 table) text rest x e m s (IsClosings-drop 1 table text inside t) f g w in
    let says : closes (drop (more (element x rest)) rest) ≡ false = sym behind ∙ get_or-drop 1 table m false ∙ h in
    ap elements_first s ∙ first-closes x rest says

-- ---- the step of a loop over the elements

-- one element more
pub element-taken : (text rest after rest' : List (ℕ × Bool)) (x : ℕ × Bool) (ranges ranges' : List ByteRange) (e : Element) (m : ℕ) →
    elements_first text ≡ behind ranges (length text - length rest) (elements 0 rest) → rest ≡ x ∷ after → plain 93 x ≡ false →
    e ≡ element x after → m ≡ more e → ranges' ≡ ranges ++ ranges_of e → rest' ≡ drop m after → m ≤ length after → length rest ≤ length text →
    elements_first text ≡ behind ranges' (length text - length rest') (elements 0 rest')
element-taken text rest after rest' x ranges ranges' e m found s p f g r d w l =
    let n = length text - length rest in
    let here : ℕ = more (element x after) in
    let m-is : m ≡ here = g ∙ ap more f in
    let after-is : rest' ≡ drop here after = d ∙ ap (λ (k : ℕ). drop k after) m-is in
    let one : elements 0 rest ≡ behind (ranges_of (element x after)) (here + 1) (elements 0 (drop here after)) =
    ap (λ (y : List (ℕ × Bool)). elements 0 y) s
    ∙ cond-false (plain 93 x) (Some ([], 1)) (behind (ranges_of (element x after)) 1 (elements here after)) p
    ∙ taken x after in
    let lists : ranges ++ ranges_of (element x after) ≡ ranges' = sym (r ∙ ap (λ (y : Element). ranges ++ ranges_of y) f) in
    let count : (here + 1) + n ≡ length text - length rest' = omega (arith, m-is, ap length s, ap length d, length-drop m after) in
    found
    ∙ ap (λ (o : Option (List ByteRange × ℕ)). behind ranges n o) one
    ∙ behind-behind ranges (ranges_of (element x after)) n (here + 1) (elements 0 (drop here after))
    ∙ ap (λ (y : List ByteRange). behind y ((here + 1) + n) (elements 0 (drop here after))) lists
    ∙ ap (λ (k : ℕ). behind ranges' k (elements 0 (drop here after))) count
    ∙ ap (λ (y : List (ℕ × Bool)). behind ranges' (length text - length rest') (elements 0 y)) (sym after-is)

-- the first element
pub element-first : (text after rest' : List (ℕ × Bool)) (x : ℕ × Bool) (ranges : List ByteRange) (e : Element) (m : ℕ) →
    text ≡ x ∷ after → e ≡ element x after → m ≡ more e → ranges ≡ ranges_of e → rest' ≡ drop m after → m ≤ length after →
    elements_first text ≡ behind ranges (length text - length rest') (elements 0 rest')
element-first text after rest' x ranges e m s f g r d w =
    let here : ℕ = more (element x after) in
    let m-is : m ≡ here = g ∙ ap more f in
    let after-is : rest' ≡ drop here after = d ∙ ap (λ (k : ℕ). drop k after) m-is in
    let lists : ranges_of (element x after) ≡ ranges = sym (r ∙ ap ranges_of f) in
    let count : here + 1 ≡ length text - length rest' = omega (arith, m-is, ap length s, ap length d, length-drop m after) in
    ap elements_first s
    ∙ taken x after
    ∙ ap (λ (y : List ByteRange). behind y (here + 1) (elements 0 (drop here after))) lists
    ∙ ap (λ (k : ℕ). behind ranges k (elements 0 (drop here after))) count
    ∙ ap (λ (y : List (ℕ × Bool)). behind ranges (length text - length rest') (elements 0 y)) (sym after-is)

pub IsClosings-next : (table : List Bool) (text after : List (ℕ × Bool)) (x : ℕ × Bool) → text ≡ x ∷ after → IsClosings table text → IsClosings (drop 1 table) after
IsClosings-next table text after x s t =
    let inside : 1 ≤ length text = rw s (omega arith) in
    subst (λ (y : List (ℕ × Bool)). IsClosings (drop 1 table) y) (ap (λ (y : List (ℕ × Bool)). drop 1 y) s) (IsClosings-drop 1 table text inside t)
