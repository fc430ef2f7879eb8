-- The items of a field, one after another.
use Rattle.std.proofs.Common.{◌≡◌, ℕ, zero, suc, Bool, List, [], ◌∷◌, ◌++◌, drop, refl, sym, ◌∙◌, ap, append_assoc}
use Rattle.sh_pattern.specs.declared.item.Item.{Item}
use Rattle.sh_pattern.specs.Items.{item_at, items_from}

-- bytes that belong to an item before
items-skipped : (k : ℕ) (text : List (ℕ × Bool)) → items_from k text ≡ items_from 0 (drop k text)
items-skipped zero text = refl
items-skipped (suc k) [] = refl
items-skipped (suc k) (x ∷ r) = items-skipped k r

-- one item more
pub item-read : (items : List Item) (rest after rest' : List (ℕ × Bool)) (x : ℕ × Bool) (item : Item) (more : ℕ) → rest ≡ x ∷ after →
    (item, more) ≡ item_at x after → rest' ≡ drop more after → items ++ items_from 0 rest ≡ (items ++ item ∷ []) ++ items_from 0 rest'
item-read items rest after rest' x item more s f d =
    let one : items_from 0 rest ≡ item ∷ items_from 0 rest' =
    ap (λ (y : List (ℕ × Bool)). items_from 0 y) s
    ∙ ap (λ (p : Item × ℕ). p.0 ∷ items_from p.1 after) (sym f)
    ∙ ap (λ (is : List Item). item ∷ is) (items-skipped more after ∙ ap (λ (y : List (ℕ × Bool)). items_from 0 y) (sym d)) in
    ap (λ (is : List Item). items ++ is) one ∙ sym (append_assoc items (item ∷ []) (items_from 0 rest'))
