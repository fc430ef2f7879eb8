-- Where the next token between words begins.
use Rattle.std.proofs.Common.{◌≡◌, ℕ, true, false, ◌==◌, ◌||◌, List, [], ◌∷◌, refl, ◌∙◌}
use Rattle.sh_lexer.specs.Bytes.{skip, comment, joins, blank}
use Rattle.sh_spell.proofs.Cases.{chosen, passes, either_if, at}
use Rattle.sh_spell.proofs.Runs.{Apart, Firm}

-- Neither blanks nor a comment nor joined lines are at the front.
abbrev pub Start : List ℕ → Type 0
Start [] = Unit {0}
Start (b ∷ r) = (blank b ≡ false) × ((b == 35) ≡ false) × Apart b r

pub start-firm : (t : List ℕ) → Start t → Firm t
start-firm [] s = tt
start-firm (b ∷ r) s = s.2

ten : (r : List ℕ) → Apart 10 r
ten [] = tt
ten (c ∷ r) = refl

nul : (r : List ℕ) → Apart 0 r
nul [] = tt
nul (c ∷ r) = refl

newline-start : (b : ℕ) (r : List ℕ) → (b == 10 || b == 0) ≡ true → Start (b ∷ r)
newline-start b r e = either_if (λ n. Start (n ∷ r)) (b == 10) (b == 0) b
    (at (λ n. Start (n ∷ r)) b 10 (refl, refl, ten r)) (at (λ n. Start (n ∷ r)) b 0 (refl, refl, nul r)) e

comment-start : (t : List ℕ) → Start (comment t)
unfolding comment
comment-start [] = tt
comment-start (b ∷ r) = chosen Start (b == 10 || b == 0) (λ e. newline-start b r e) (λ e. comment-start r)

pub skip-start : (t : List ℕ) → Start (skip t)
unfolding skip
skip-start [] = tt
skip-start (b ∷ []) = chosen Start (blank b) (λ e. tt) (λ e. chosen Start (b == 35) (λ f. tt) (λ f. (e, f, tt)))
skip-start (b ∷ c ∷ r) =
    chosen Start (blank b) (λ e. skip-start (c ∷ r)) (λ e.
    chosen Start (joins b c) (λ j. skip-start r) (λ j.
    chosen Start (b == 35) (λ f. comment-start (c ∷ r)) (λ f. (e, f, j))))

pub skip-fixed : (t : List ℕ) → Start t → skip t ≡ t
unfolding skip
skip-fixed [] s = refl
skip-fixed (b ∷ []) s = passes (blank b) _ _ s.0 ∙ passes (b == 35) _ _ s.1
skip-fixed (b ∷ c ∷ r) s = passes (blank b) _ _ s.0 ∙ (passes (joins b c) _ _ s.2 ∙ passes (b == 35) _ _ s.1)

pub skip-blank : (t : List ℕ) → skip (32 ∷ t) ≡ skip t
unfolding skip
skip-blank [] = refl
skip-blank (b ∷ r) = refl
