use Rattle.sh_machine.proofs.Refused.{delimiter_refused}
use Rattle.sh_machine.proofs.command.delimiter.Goals as goal

pub returns-in_default : goal.returns-in_default
returns-in_default c = delimiter_refused _ _ _ _ _ _ _ c.in_default.not-Delimiter
