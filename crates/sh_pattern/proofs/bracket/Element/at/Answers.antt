use Rattle.std.proofs.Common.{sym}
use Rattle.sh_pattern.proofs.Listed.{class-within}
use Rattle.sh_pattern.proofs.bracket.Element.at.Goals as goal

pub returns-clause-within : goal.returns-clause-within
returns-clause-within c = class-within c.args.rest.now c.in-Some.class (sym c.in-Some.ensures)
