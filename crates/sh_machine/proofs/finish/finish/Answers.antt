use Rattle.sh_machine.proofs.Refused.{end_refused}
use Rattle.sh_machine.proofs.finish.finish.Goals as goal

pub returns : goal.returns
returns c = end_refused _ _ _ c.in_default.not-Gap c.in_default.not-Elements c.in_default.not-Redirs
