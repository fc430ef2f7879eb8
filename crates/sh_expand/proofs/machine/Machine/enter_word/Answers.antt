use Rattle.std.proofs.Common.{arith}
use Rattle.hs_view.proofs.Keeping.{ok_map}
use Rattle.sh_expand.proofs.machine.Machine.enter_word.Goals as goal

pub returns-clause-weighs : goal.returns-clause-weighs
returns-clause-weighs c = ok_map c.enter.result (λ h. omega (arith, h)) c.enter.ensures.weighs
