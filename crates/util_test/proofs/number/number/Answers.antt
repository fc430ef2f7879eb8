use Rattle.util_test.proofs.Numbered.{no_text}
use Rattle.util_test.proofs.number.number.Goals as goal

pub returns-in-Err : goal.returns-in-Err
returns-in-Err c = no_text c.args.word.now c.in-Err.ensures.cases.0
