use Rattle.util_text.proofs.Walked.{has_first}
use Rattle.util_text.proofs.fielding.step.Goals as goal

pub returns-clause-has : goal.returns-clause-has
returns-clause-has c = has_first c.args.place c.in-Some.span.now c.in-Some.more.now c.args.spans.now c.in-Some.ensures.cases.0 c.requires
