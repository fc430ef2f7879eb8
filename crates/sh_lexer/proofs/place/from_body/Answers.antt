use Rattle.std.proofs.Common.{sym, ◌∙◌}
use Rattle.sh_lexer.proofs.place.from_body.Goals as goal

pub loop-rest-preserved-in-Skip : goal.loop-rest-preserved-in-Skip
loop-rest-preserved-in-Skip c = sym (c.in-Skip.ensures.spot c.loop-rest.count) ∙ c.loop-rest.invariant
