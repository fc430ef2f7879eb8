-- Steps of a body whose bytes are counted.
use Rattle.std.proofs.Common.{◌≡◌, ℕ, zero, suc, not, ◌==◌, ◌&&◌, Bool, true, false, List, [], ◌∷◌, refl}
use Rattle.sh_lexer.specs.Bytes.{joins}
use Rattle.sh_lexer.specs.Trail.{in_backquotes, in_body}
use Rattle.sh_lexer.specs.Cut.{unquoted_in_backquotes}

pub tab : (s e q : Bool) (i b : ℕ) (r : List ℕ) → (s && (e && b == 9)) ≡ true → in_body s e q i (b ∷ r) ≡ in_body s e q i r
unfolding in_body
tab s e q zero b [] p = rw (p, in_body) refl
tab s e q (suc i) b [] p = refl
tab s e q i b (c ∷ r) p = rw (p, in_body) refl

pub join : (s e q : Bool) (i b c : ℕ) (r : List ℕ) → (s && (e && b == 9)) ≡ false → (not q && joins b c) ≡ true → in_body s e q i (b ∷ c ∷ r) ≡ in_body s e q i r
unfolding in_body
join s e q i b c r p t = rw (p, t, in_body) refl

pub last_here : (s e q : Bool) (b : ℕ) → (s && (e && b == 9)) ≡ false → in_body s e q 0 (b ∷ []) ≡ b ∷ []
unfolding in_body
last_here s e q b p = rw (p, in_body) refl

pub last_passed : (s e q : Bool) (i b : ℕ) → in_body s e q (suc i) (b ∷ []) ≡ in_body s (b == 10) (not q && b == 92) i []
unfolding in_body
last_passed s e q i b = refl

pub here : (s e q : Bool) (b c : ℕ) (r : List ℕ) → (s && (e && b == 9)) ≡ false → (not q && joins b c) ≡ false → in_body s e q 0 (b ∷ c ∷ r) ≡ b ∷ c ∷ r
unfolding in_body
here s e q b c r p t = rw (p, t, in_body) refl

pub passed : (s e q : Bool) (i b c : ℕ) (r : List ℕ) → (s && (e && b == 9)) ≡ false → (not q && joins b c) ≡ false → in_body s e q (suc i) (b ∷ c ∷ r) ≡ in_body s (b == 10) (not q && b == 92) i (c ∷ r)
unfolding in_body
passed s e q i b c r p t = rw (p, t, in_body) refl

pub ruleset spots = (tab, join, last_here, last_passed, here, passed)

-- ---- backquotes

pub nothing : (i : ℕ) → in_backquotes i [] ≡ []
unfolding in_backquotes
nothing zero = refl
nothing (suc i) = refl

pub last : (i b : ℕ) → in_backquotes (suc i) (b ∷ []) ≡ in_backquotes i []
unfolding in_backquotes
last zero b = refl
last (suc i) b = refl

pub escaped : (i b c : ℕ) (r : List ℕ) → (b == 92 && unquoted_in_backquotes c) ≡ true → in_backquotes (suc i) (b ∷ c ∷ r) ≡ in_backquotes i r
unfolding in_backquotes
escaped i b c r p = rw (p, in_backquotes) refl

pub plain : (i b c : ℕ) (r : List ℕ) → (b == 92 && unquoted_in_backquotes c) ≡ false → in_backquotes (suc i) (b ∷ c ∷ r) ≡ in_backquotes i (c ∷ r)
unfolding in_backquotes
plain i b c r p = rw (p, in_backquotes) refl

pub ruleset between_backquotes = (nothing, last, escaped, plain)
