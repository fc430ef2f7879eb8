-- Whether a text is a pattern, as its bytes come.
use Rattle.std.proofs.Common.{◌≡◌, ℕ, ◌+◌, ◌<◌, Bool, true, false, not, List, [], ◌∷◌, length, drop, get_or, refl, sym, ap, ◌∙◌}
use Rattle.std.proofs.lemmas.List.{drop_more}
use Rattle.std.proofs.lemmas.Bool.{eqb-true}
use Rattle.std.specs.Prelude.{◌&&◌, ◌||◌, ◌==◌, if◌then◌else◌}
use Rattle.std.specs.List.{list_any}
use Rattle.sh_pattern.specs.Items.{plain, unescaped}
use Rattle.sh_glob.specs.Parts.{is_special}

and_false : (a : Bool) → (a && false) ≡ false
and_false true = refl
and_false false = refl

quoted : (b : ℕ) → is_special (b, true) ≡ false
quoted b =
    ap (λ (c : Bool). c || (b == 63) && false || (b == 91) && false) (and_false (b == 42))
    ∙ ap (λ (c : Bool). c || (b == 91) && false) (and_false (b == 63))
    ∙ and_false (b == 91)

true_false : true ≡ false → ⊥
true_false e = cc

both : (a b : Bool) → (a && b) ≡ true → a ≡ true
both true b h = refl
both false b h = absurd (true_false (sym h))

-- a backslash is no special byte
backslash : (x : ℕ × Bool) → plain 92 x ≡ true → is_special x ≡ false
backslash x h =
    let is : x.0 ≡ 92 = eqb-true x.0 92 (both (x.0 == 92) (not x.1) h) in
    ap (λ (b : ℕ). is_special (b, x.1)) is ∙ refl

-- a special byte that is not quoted
pub special_here : (e : Bool) (x : ℕ × Bool) (r : List (ℕ × Bool)) → (not e && is_special x) ≡ true → list_any is_special (unescaped e (x ∷ r)) ≡ true
special_here true x r h = absurd (true_false (sym h))
special_here false x r h =
    elim (plain 92 x) as (λ b. plain 92 x ≡ b → list_any is_special (if b then unescaped true r else x ∷ unescaped false r) ≡ true) [
      | true ↦ λ p. absurd (true_false (sym h ∙ backslash x p))
      | false ↦ λ p. ap (λ (c : Bool). c || list_any is_special (unescaped false r)) h
    ] refl

-- any other byte, and what it quotes
pub special_next : (e : Bool) (x : ℕ × Bool) (r : List (ℕ × Bool)) → (not e && is_special x) ≡ false → list_any is_special (unescaped e (x ∷ r)) ≡ list_any is_special (unescaped (not e && plain 92 x) r)
special_next true x r h = ap (λ (c : Bool). c || list_any is_special (unescaped false r)) (quoted x.0)
special_next false x r h =
    elim (plain 92 x) as (λ b. list_any is_special (if b then unescaped true r else x ∷ unescaped false r) ≡ list_any is_special (unescaped b r)) [
      | true ↦ refl
      | false ↦ ap (λ (c : Bool). c || list_any is_special (unescaped false r)) h
    ]

-- nothing comes any more
pub special_end : (e : Bool) → list_any is_special (unescaped e []) ≡ false
special_end true = refl
special_end false = refl

-- the same for the byte at a place
pub special_step : (text : List (ℕ × Bool)) (i : ℕ) (e : Bool) → i < length text → (not e && is_special (get_or text i (0, false))) ≡ false
    → list_any is_special (unescaped e (drop i text)) ≡ list_any is_special (unescaped (not e && plain 92 (get_or text i (0, false))) (drop (i + 1) text))
special_step text i e h n =
    ap (λ (r : List (ℕ × Bool)). list_any is_special (unescaped e r)) (drop_more text i (0, false) h) ∙ special_next e (get_or text i (0, false)) (drop (i + 1) text) n

pub special_found : (text : List (ℕ × Bool)) (i : ℕ) (e : Bool) → i < length text → (not e && is_special (get_or text i (0, false))) ≡ true → list_any is_special (unescaped e (drop i text)) ≡ true
special_found text i e h n =
    ap (λ (r : List (ℕ × Bool)). list_any is_special (unescaped e r)) (drop_more text i (0, false) h) ∙ special_here e (get_or text i (0, false)) (drop (i + 1) text) n
