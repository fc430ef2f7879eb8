-- What the code of a step asks of a state, and what it says of the machine's step.
use Rattle.std.specs.Prelude.{◌≡◌, ◌<◌, ◌^◌, length, Option, Some, None, Result, Ok, Err}
use Rattle.std.specs.declared.alloc.AllocError.{AllocError}
use Rattle.sh_grammar.specs.declared.state.Now.{Now}
use Rattle.sh_grammar.specs.Machine.{State, at}
use Rattle.sh_machine.specs.declared.rest.Rest.{Rest}
use Rattle.sh_machine.specs.Numbers.{AllBegun}

-- what a token may end has begun, and there are numbers for one more list and one more opening
pub record CanGoOn (r : Rest) : Type 0 where
  pub begun : AllBegun r.below r.script
  pub lists : length r.script.script.lists < 2 ^ 32
  pub room : r.room < 2 ^ 32

-- and for one more of everything else
pub record IsReady (r : Rest) : Type 0 where
  pub goes_on : CanGoOn r
  pub leaves : length r.script.script.leaves < 2 ^ 32
  pub bodies : length r.script.script.bodies < 2 ^ 32
  pub heres : length r.script.heres < 2 ^ 32

abbrev pub Steps : Result (Option Now) AllocError → Rest → Option State → Type 0
Steps (Ok (Some n)) r st = st ≡ Some (at n r.below r.room r.script)
Steps (Ok None) r st = st ≡ None
Steps (Err e) r st = Unit {0}
