use Rattle.std.proofs.Common.{◌∙◌}
use Rattle.util_test.proofs.Tested.{no_words, some_words}
use Rattle.util_test.proofs.testing.bracketed.Goals as goal

pub returns-in-Some : goal.returns-in-Some
returns-in-Some c = c.closed.ensures ∙ some_words c.args.words.now c.in-Some.front.now c.in-Some.last.now c.in-Some.ensures.cases.0

pub returns-in-None : goal.returns-in-None
returns-in-None c = no_words c.args.words.now c.in-None.ensures.cases
