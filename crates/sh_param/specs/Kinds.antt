-- Which parameter a name names (POSIX.1-2017, XCU 2.5).
use Rattle.std.specs.Prelude.{ℕ, ◌+◌, ◌*◌, ◌-◌, Bool, ◌&&◌, ◌==◌, nat_le, List, [], ◌∷◌, if◌then◌else◌}
use Rattle.sh_param.specs.declared.kind.Kind.{Kind}
use Rattle.sh_param.specs.declared.kind.Kind.TheVariants.{At, Star, Count, Status, Position, Variable}

abbrev pub is_digit : ℕ → Bool
is_digit b = nat_le 48 b && nat_le b 57

abbrev pub special : ℕ → Kind
special b = if b == 64 then At else (if b == 42 then Star else (if b == 35 then Count else (if b == 63 then Status else Variable)))

abbrev pub one_byte : ℕ → List ℕ → Kind
one_byte b [] = special b
one_byte b (c ∷ r) = Variable

-- digits are a positional parameter, and `0` is no other
abbrev pub kind_of : List ℕ → Kind
kind_of [] = Variable
kind_of (b ∷ r) = if is_digit b then Position else one_byte b r

-- the number that digits write behind this one
abbrev pub number : ℕ → List ℕ → ℕ
number n [] = n
number n (b ∷ r) = number (n * 10 + (b - 48)) r
