use Rattle.std.proofs.Common.{◌≡◌, ℕ, List, sym, ap, ◌∙◌}
use Rattle.std.specs.Prelude.{Result, IfOk}
use Rattle.hs_view.proofs.Keeping.{ok_all}
use Rattle.util_text.proofs.Sliced.{sliced}
use Rattle.util_text.proofs.slicing.CutsFilter.filter.Goals as goal

pub returns-clause-text : goal.returns-clause-text
returns-clause-text c = λ text before h. sliced c.args.self.now text before c.args._word.now c.args.content c.as_slice.result.now c.cut_content.result h c.cut_content.ensures c.as_slice.ensures

pub returns-clause-behind : goal.returns-clause-behind
returns-clause-behind c = λ text before h. ok_all c.cut_content.result h
