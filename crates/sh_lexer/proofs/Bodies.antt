-- Steps of a here-document's body.
use Rattle.std.proofs.Common.{◌≡◌, ◌≢◌, ℕ, ◌==◌, ◌&&◌, not, Bool, true, false, List, [], ◌∷◌, ◌++◌, Option, refl, arith}
use Rattle.std.specs.Prelude.{if◌then◌else◌}
use Rattle.std.specs.Str.{bytes_eq}
use Rattle.sh_lexer.specs.declared.token.Here.{Here}
use Rattle.sh_lexer.specs.Cut.{body_of, last_line, line_ends, stripped, pair}

pub finished : (h : Here) (body line : List ℕ) → body_of h body line [] ≡ last_line h body line
unfolding body_of
finished h body line = refl

chosen : (q : Bool) (a b : Option (List ℕ × List ℕ)) → elim q as (λ x. Option (List ℕ × List ℕ)) [ true ↦ a | false ↦ b ] ≡ (if q then a else b)
chosen true a b = refl
chosen false a b = refl

pub newline : (h : Here) (body line r : List ℕ) → body_of h body line (10 ∷ r) ≡ line_ends h body line r (body_of h (body ++ line ++ 10 ∷ []) [] r)
unfolding body_of
newline h body line [] = refl
newline h body line (c ∷ r) = chosen (bytes_eq line h.delimiter) _ _

pub strips : (h : Here) (body line : List ℕ) (b : ℕ) (r : List ℕ) → b ≢ 10 → stripped h line b ≡ true → body_of h body line (b ∷ r) ≡ body_of h body line r
unfolding body_of
strips h body line b [] p q = let e : (b == 10) ≡ false = grind arith in rw (e, q, body_of) refl
strips h body line b (c ∷ r) p q = let e : (b == 10) ≡ false = grind arith in rw (e, q, body_of) refl

pub joins_in_body : (h : Here) (body line r : List ℕ) → stripped h line 92 ≡ false → h.quoted ≡ false → body_of h body line (92 ∷ 10 ∷ r) ≡ body_of h body line r
unfolding body_of
joins_in_body h body line r p q = rw (p, q, body_of) refl

pub pairs : (h : Here) (body line : List ℕ) (c : ℕ) (r : List ℕ) → stripped h line 92 ≡ false → h.quoted ≡ false → c ≢ 10 → body_of h body line (92 ∷ c ∷ r) ≡ body_of h body (line ++ pair 92 c) r
unfolding body_of
pairs h body line c r p q s = let e : (c == 10) ≡ false = grind arith in rw (p, q, e, body_of) refl

pub plain : (h : Here) (body line : List ℕ) (b : ℕ) (r : List ℕ) → b ≢ 10 → stripped h line b ≡ false → (b == 92 && not h.quoted) ≡ false →
    body_of h body line (b ∷ r) ≡ body_of h body (line ++ b ∷ []) r
unfolding body_of
plain h body line b [] p q s = let e : (b == 10) ≡ false = grind arith in rw (e, q, body_of) refl
plain h body line b (c ∷ r) p q s = let e : (b == 10) ≡ false = grind arith in rw (e, q, s, body_of) refl

pub last : (h : Here) (body line : List ℕ) → stripped h line 92 ≡ false → body_of h body line (92 ∷ []) ≡ body_of h body (line ++ 92 ∷ []) []
unfolding body_of
last h body line q = rw (q, body_of) refl

pub ruleset bodies = (finished, newline, strips, joins_in_body, pairs, plain, last)
