use Rattle.std.proofs.Common.{rules}
use Rattle.sh_machine.proofs.Kept.{numbered_next, within_next_state}
use Rattle.sh_machine.proofs.machine.Machine.step.Goals as goal

pub returns-clause-numbered : goal.returns-clause-numbered
returns-clause-numbered c = numbered_next _ c.args.self c.args.token _ c.requires.numbered c.requires.counted (search rules)

pub returns-clause-counted : goal.returns-clause-counted
returns-clause-counted c = λ k h. within_next_state k c.args.self c.args.token _ c.requires.numbered h (search rules)
