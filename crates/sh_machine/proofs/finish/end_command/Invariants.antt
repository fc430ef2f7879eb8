use Rattle.std.proofs.Common.{◌≡◌, ◌<◌, length}
use Rattle.sh_grammar.specs.Machine as machine
use Rattle.sh_machine.specs.Numbers.{AllBegun}
use Rattle.sh_machine.proofs.finish.end_command.Given as goal

abbrev pub invariant-owners : goal.invariant-owners
invariant-owners l = record {
  whole : 0 < length l.rest.script.script.lists;
  begun : AllBegun l.rest.below l.rest.script;
  same : machine.end_command l.command l.rest.below l.rest.script ≡ machine.end_command l.fn.command l.fn.rest.below l.fn.rest.script;
}

abbrev pub decreases-owners : goal.decreases-owners
decreases-owners l = length l.rest.below
