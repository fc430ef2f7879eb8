-- Levels, strengths, and what comes off the stack.
use Rattle.std.proofs.Common.{◌≡◌, ℕ, zero, suc, ◌+◌, ◌<◌, ◌≤◌, true, List, [], ◌∷◌, refl, subst, arith}
use Rattle.std.proofs.lemmas.Bool.{le-leb, leb-true}
use Rattle.sh_arith.specs.declared.token.Math.{Math}
use Rattle.sh_arith.specs.declared.token.Math.TheVariants as math
use Rattle.sh_arith.specs.declared.token.Logic.{Logic}
use Rattle.sh_arith.specs.declared.token.Logic.TheVariants as logic
use Rattle.sh_arith.specs.declared.token.Token.{Token}
use Rattle.sh_arith.specs.declared.instr.Frame.{Frame}
use Rattle.sh_arith.specs.declared.instr.Frame.TheVariants as frame
use Rattle.sh_arith.specs.Grammar.{tier, logic_tier, Tree, Level, tighter}
use Rattle.sh_arith.specs.Machine.{strength, holds}

pub tier_small : (m : Math) → tier m ≤ 7
tier_small math.Times = omega arith
tier_small math.Over = omega arith
tier_small math.Modulo = omega arith
tier_small math.Plus = omega arith
tier_small math.Minus = omega arith
tier_small math.Left = omega arith
tier_small math.Right = omega arith
tier_small math.Less = omega arith
tier_small math.AtMost = omega arith
tier_small math.Greater = omega arith
tier_small math.AtLeast = omega arith
tier_small math.Equal = omega arith
tier_small math.Unequal = omega arith
tier_small math.And = omega arith
tier_small math.Xor = omega arith
tier_small math.Or = omega arith

pub logic_small : (l : Logic) → logic_tier l ≤ 9
logic_small logic.Both = omega arith
logic_small logic.Either = omega arith

-- what is on top is stronger than n
abbrev pub Above : ℕ → List Frame → Type 0
Above n [] = Unit {0}
Above n (f ∷ fs) = n < strength f

pub above-less : (n m : ℕ) (fs : List Frame) → n ≤ m → Above m fs → Above n fs
above-less n m [] h a = tt
above-less n m (f ∷ fs) h a = omega arith

pub above-zero : (fs : List Frame) → Above 0 fs
above-zero [] = tt
above-zero (frame.Sign s ∷ fs) = omega arith
above-zero (frame.Math m ∷ fs) = omega arith
above-zero (frame.Logic l ∷ fs) = omega arith
above-zero (frame.Otherwise ∷ fs) = omega arith
above-zero (frame.Assign o p x ∷ fs) = omega arith
above-zero (frame.Open ∷ fs) = omega arith
above-zero (frame.Then ∷ fs) = omega arith

-- nothing has the strength 11
pub above-ten : (fs : List Frame) → Above 10 fs → Above 11 fs
above-ten [] h = tt
above-ten (frame.Sign s ∷ fs) h = omega arith
above-ten (frame.Math m ∷ fs) h = omega (arith, tier_small m)
above-ten (frame.Logic l ∷ fs) h = omega (arith, logic_small l)
above-ten (frame.Otherwise ∷ fs) h = omega arith
above-ten (frame.Assign o p x ∷ fs) h = omega arith
above-ten (frame.Open ∷ fs) h = omega arith
above-ten (frame.Then ∷ fs) h = omega arith

pub above-holds : (n : ℕ) (fs : List Frame) → Above n fs → holds n fs ≡ true
above-holds n [] h = refl
above-holds n (f ∷ fs) h = le-leb (suc n) (strength f) h

pub holds-above : (n : ℕ) (fs : List Frame) → holds n fs ≡ true → Above n fs
holds-above n [] h = tt
holds-above n (f ∷ fs) h = leb-true (suc n) (strength f) h

pub lift-by : (j : ℕ) {n d : ℕ} {ts us : List Token} {t : Tree} → Level n d ts us t → Level (j + n) d ts us t
lift-by zero {n} {d} {ts} {us} {t} l = subst (λ (k : ℕ). Level k d ts us t) (omega arith) l
lift-by (suc j) {n} {d} {ts} {us} {t} l = subst (λ (k : ℕ). Level k d ts us t) (omega arith) (tighter (lift-by j l))
