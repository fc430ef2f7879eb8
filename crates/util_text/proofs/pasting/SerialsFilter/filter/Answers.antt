use Rattle.hs_view.proofs.Keeping.{ok_all}
use Rattle.util_text.proofs.Sided.{in_one_line}
use Rattle.util_text.proofs.pasting.SerialsFilter.filter.Goals as goal

pub returns-clause-text : goal.returns-clause-text
returns-clause-text c = λ text before h. in_one_line c.args.self.now text before c.args._word.now c.args.content c.as_slice.result.now c.serial.result h c.serial.ensures c.as_slice.ensures

pub returns-clause-behind : goal.returns-clause-behind
returns-clause-behind c = λ text before h. ok_all c.serial.result h
