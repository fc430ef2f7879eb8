use Rattle.std.proofs.Common.{sym, ◌∙◌}
use Rattle.sh_pattern.proofs.Stars.{at-place}
use Rattle.sh_pattern.proofs.matching.leftmost.Goals as goal

pub returns-in-End-clause-here : goal.returns-in-End-clause-here
returns-in-End-clause-here c = sym (c.places.invariant ∙ at-place c.args.items.now c.places.rest.now (sym c.in-End.ensures.here))
