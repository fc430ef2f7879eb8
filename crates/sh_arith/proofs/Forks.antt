-- What a test decides.
use Rattle.std.proofs.Common.{◌≡◌, ℤ, Bool, true, false, refl}
use Rattle.std.specs.Prelude.{if◌then◌else◌}
use Rattle.sh_arith.specs.declared.token.Logic.{Logic}
use Rattle.sh_arith.specs.declared.token.Logic.TheVariants.{Both, Either}
use Rattle.sh_arith.specs.Value.{is_zero, decides}

-- by_zero_or and decides, for runs
by : {A : Type 0} (t : Bool) (x y : A) → (if t then true else false) ≡ true → (if t then x else y) ≡ x
by true x y e = refl
by false x y e = absurd cc

by-not : {A : Type 0} (t : Bool) (x y : A) → (if t then true else false) ≡ false → (if t then x else y) ≡ y
by-not true x y e = absurd cc
by-not false x y e = refl

back : {A : Type 0} (t : Bool) (x y : A) → (if t then false else true) ≡ true → (if t then y else x) ≡ x
back true x y e = absurd cc
back false x y e = refl

back-not : {A : Type 0} (t : Bool) (x y : A) → (if t then false else true) ≡ false → (if t then y else x) ≡ y
back-not true x y e = refl
back-not false x y e = absurd cc

pub decides_true : {A : Type 0} (l : Logic) (u : ℤ) (x y : A) → decides l u true false ≡ true → decides l u x y ≡ x
decides_true Both u x y e = by (is_zero u) x y e
decides_true Either u x y e = back (is_zero u) x y e

pub decides_false : {A : Type 0} (l : Logic) (u : ℤ) (x y : A) → decides l u true false ≡ false → decides l u x y ≡ y
decides_false Both u x y e = by-not (is_zero u) x y e
decides_false Either u x y e = back-not (is_zero u) x y e
