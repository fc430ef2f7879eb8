-- Steps of a delimiter.
use Rattle.std.proofs.Common.{◌≡◌, ◌≢◌, ℕ, ◌==◌, Bool, true, false, List, [], ◌∷◌, ◌++◌, refl, arith}
use Rattle.sh_syntax.specs.declared.fault.Fault.TheVariants.{Nul}
use Rattle.sh_lexer.specs.Bytes.{delimits}
use Rattle.sh_lexer.specs.Cut.{delimited, not_delimited, in_delimiter, in_single, in_double, quotable}

-- ---- in double quotes

pub closes : (x r : List ℕ) → in_double x (34 ∷ r) ≡ in_delimiter x true r
unfolding in_double in_delimiter
closes x [] = refl
closes x (c ∷ r) = refl

pub nul_in_double : (x r : List ℕ) → in_double x (0 ∷ r) ≡ not_delimited Nul
unfolding in_double
nul_in_double x [] = refl
nul_in_double x (c ∷ r) = refl

pub joins_in_double : (x r : List ℕ) → in_double x (92 ∷ 10 ∷ r) ≡ in_double x r
unfolding in_double
joins_in_double x r = refl

pub plain_in_double : (x : List ℕ) (b : ℕ) (r : List ℕ) → b ≢ 34 → b ≢ 0 → b ≢ 92 → in_double x (b ∷ r) ≡ in_double (x ++ b ∷ []) r
unfolding in_double
plain_in_double x b [] p q s = grind arith
plain_in_double x b (c ∷ r) p q s = grind arith

pub escaped_in_double : (x : List ℕ) (c : ℕ) (r : List ℕ) → quotable c ≡ true → c ≢ 10 → in_double x (92 ∷ c ∷ r) ≡ in_double (x ++ c ∷ []) r
unfolding in_double
escaped_in_double x c r p q = grind arith

pub backslash_in_double : (x : List ℕ) (c : ℕ) (r : List ℕ) → quotable c ≡ false → c ≢ 10 → in_double x (92 ∷ c ∷ r) ≡ in_double (x ++ 92 ∷ []) (c ∷ r)
unfolding in_double
backslash_in_double x c r p q = grind arith

pub last_in_double : (x : List ℕ) → in_double x (92 ∷ []) ≡ in_double (x ++ 92 ∷ []) []
unfolding in_double
last_in_double x = refl

pub ruleset doubles = (closes, nul_in_double, joins_in_double, plain_in_double, escaped_in_double, backslash_in_double, last_in_double)

-- ---- outside of quotes

pub nothing : (x : List ℕ) (q : Bool) → in_delimiter x q [] ≡ delimited x q []
unfolding in_delimiter
nothing x q = refl

pub ends : (x : List ℕ) (q : Bool) (b : ℕ) (r : List ℕ) → delimits b ≡ true → in_delimiter x q (b ∷ r) ≡ delimited x q (b ∷ r)
unfolding in_delimiter
ends x q b [] p = rw (p, in_delimiter) refl
ends x q b (c ∷ r) p = rw (p, in_delimiter) refl

pub opens_single : (x : List ℕ) (q : Bool) (r : List ℕ) → in_delimiter x q (39 ∷ r) ≡ in_single x r
unfolding in_delimiter in_single
opens_single x q [] = refl
opens_single x q (c ∷ r) = refl

pub opens_double : (x : List ℕ) (q : Bool) (r : List ℕ) → in_delimiter x q (34 ∷ r) ≡ in_double x r
unfolding in_delimiter in_double
opens_double x q [] = refl
opens_double x q (c ∷ r) = refl

pub nul : (x : List ℕ) (q : Bool) (r : List ℕ) → in_delimiter x q (0 ∷ r) ≡ not_delimited Nul
unfolding in_delimiter
nul x q [] = refl
nul x q (c ∷ r) = refl

pub plain : (x : List ℕ) (q : Bool) (b : ℕ) (r : List ℕ) → delimits b ≡ false → b ≢ 39 → b ≢ 34 → b ≢ 0 → b ≢ 92 →
    in_delimiter x q (b ∷ r) ≡ in_delimiter (x ++ b ∷ []) q r
unfolding in_delimiter
plain x q b [] p s t u v = rw (p, in_delimiter) (grind arith)
plain x q b (c ∷ r) p s t u v =
    let e : (b == 39) ≡ false = grind arith in
    let f : (b == 34) ≡ false = grind arith in
    let g : (b == 0) ≡ false = grind arith in
    let h : (b == 92) ≡ false = grind arith in
    rw (p, e, f, g, h, h, in_delimiter) refl

pub joined : (x : List ℕ) (q : Bool) (r : List ℕ) → in_delimiter x q (92 ∷ 10 ∷ r) ≡ in_delimiter x q r
unfolding in_delimiter
joined x q r = refl

pub escaped_nul : (x : List ℕ) (q : Bool) (r : List ℕ) → in_delimiter x q (92 ∷ 0 ∷ r) ≡ not_delimited Nul
unfolding in_delimiter
escaped_nul x q r = refl

pub escaped : (x : List ℕ) (q : Bool) (c : ℕ) (r : List ℕ) → c ≢ 10 → c ≢ 0 → in_delimiter x q (92 ∷ c ∷ r) ≡ in_delimiter (x ++ c ∷ []) true r
unfolding in_delimiter
escaped x q c r p s = grind arith

pub last : (x : List ℕ) (q : Bool) → in_delimiter x q (92 ∷ []) ≡ in_delimiter (x ++ 92 ∷ []) q []
unfolding in_delimiter
last x q = refl

pub ruleset words = (nothing, ends, opens_single, opens_double, nul, plain, joined, escaped_nul, escaped, last)
