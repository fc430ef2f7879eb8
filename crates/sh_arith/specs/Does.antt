-- What the code of an instruction says of the instruction.
use Rattle.std.specs.Prelude.{◌≡◌, ℕ, ℤ, List, Option, Result, Ok, Err}
use Rattle.std.specs.declared.alloc.AllocError.{AllocError}
use Rattle.sh_arith.specs.declared.calc.NoNumber.TheVariants.{ByZero, BadShift}
use Rattle.sh_arith.specs.declared.exec.NotDone.{NotDone}
use Rattle.sh_arith.specs.declared.exec.NotDone.TheVariants.{NoNumber, Memory}
use Rattle.sh_arith.specs.declared.names.ArithErr.{ArithErr}
use Rattle.sh_arith.specs.declared.names.ArithErr.TheVariants as err
use Rattle.sh_arith.specs.Value.{by_zero, bad_shift}
use Rattle.sh_arith.specs.Exec.{Run, run, Did, went, failed}

abbrev pub Begins : Result (Option ℕ) AllocError → List ℤ → Run → Type 0
Begins (Ok o) vs r = r ≡ run o vs
Begins (Err e) vs r = Unit {0}

abbrev pub Does : Result (Option ℕ) NotDone → List ℤ → Did → Type 0
Does (Ok o) vs d = d ≡ went (run o vs)
Does (Err (NoNumber ByZero)) vs d = d ≡ failed by_zero
Does (Err (NoNumber BadShift)) vs d = d ≡ failed bad_shift
Does (Err Memory) vs d = Unit {0}

-- the same, as it is told
abbrev pub Tells : {H : Type 0} → Result (Option ℕ) (ArithErr H) → List ℤ → Did → Type 0
Tells (Ok o) vs d = d ≡ went (run o vs)
Tells (Err (err.Halt h)) vs d = ⊥
Tells (Err (err.Bad p)) vs d = ⊥
Tells (Err err.NoMemory) vs d = Unit {0}
Tells (Err err.DivideByZero) vs d = d ≡ failed by_zero
Tells (Err err.BadShift) vs d = d ≡ failed bad_shift
