-- What the code of a step says of the machine's step.
use Rattle.std.specs.Prelude.{◌≡◌, List, Option, Some, None, Result, Ok, Err}
use Rattle.std.specs.declared.alloc.AllocError.{AllocError}
use Rattle.sh_arith.specs.declared.instr.Instr.{Instr}
use Rattle.sh_arith.specs.declared.instr.Now.{Now}
use Rattle.sh_arith.specs.declared.instr.Rest.{Rest}
use Rattle.sh_arith.specs.Machine.{State, at}

abbrev pub Steps : Result (Option Now) AllocError → Rest → Option State → Type 0
Steps (Ok (Some n)) r st = st ≡ Some (at n r)
Steps (Ok None) r st = st ≡ None
Steps (Err e) r st = Unit {0}

abbrev pub Accepts : Result (Option (List Instr)) AllocError → Option (List Instr) → Type 0
Accepts (Ok o) is = o ≡ is
Accepts (Err e) is = Unit {0}
