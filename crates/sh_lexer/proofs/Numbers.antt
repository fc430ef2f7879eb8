-- A number is at least what its first digits stand for.
use Rattle.std.proofs.Common.{ℕ, ◌≤◌, ◌+◌, ◌*◌, ◌-◌, List, [], ◌∷◌, arith}
use Rattle.sh_lexer.specs.Bytes.{number}

pub at_least : (n : ℕ) (r : List ℕ) → n ≤ number n r
unfolding number
at_least n [] = omega arith
at_least n (b ∷ r) = let h = at_least (n * 10 + (b - 48)) r in omega (arith, h)
