use Rattle.std.proofs.Common.{◌≡◌, length}
use Rattle.sh_grammar.specs.Machine as machine
use Rattle.sh_machine.specs.Steps.{CanGoOn}
use Rattle.sh_machine.proofs.command.command_ended.Given as goal

abbrev pub invariant-owners : goal.invariant-owners
invariant-owners l = record {
  ready : CanGoOn l.rest;
  same : machine.command_ended l.command l.rest.below l.rest.room l.rest.script l.token
      ≡ machine.command_ended l.fn.command l.fn.rest.below l.fn.rest.room l.fn.rest.script l.fn.token;
}

abbrev pub decreases-owners : goal.decreases-owners
decreases-owners l = length l.rest.below
