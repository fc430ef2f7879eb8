use Rattle.std.proofs.Common.{sym, ap, ◌∙◌}
use Rattle.sh_grammar.specs.Machine as machine
use Rattle.sh_machine.proofs.Refused.{command_refused}
use Rattle.sh_machine.proofs.command.command_ended.Goals as goal

pub returns-in_default-owner : goal.returns-in_default-owner
returns-in_default-owner c =
    sym c.owners.invariant.same
    ∙ (ap (λ b. machine.command_ended c.owners.command b c.owners.rest.room c.owners.rest.script c.owners.token-1) c.in-Some.ensures
    ∙ command_refused _ _ _ _ _ _ c.in_default-owner.not-Function c.in_default-owner.not-Pipe)
