use Rattle.std.proofs.Common.{◌≡◌, ℕ, List, sym, ap, ◌∙◌}
use Rattle.std.specs.Prelude.{Result, IfOk}
use Rattle.hs_view.proofs.Keeping.{ok_all}
use Rattle.util_text.proofs.Wrapped.{wrapped}
use Rattle.util_text.proofs.wrapping.FoldsFilter.filter.Goals as goal

pub returns-clause-text : goal.returns-clause-text
returns-clause-text c = λ text before h. wrapped c.args.self.now text before c.args._word.now c.args.content c.as_slice.result.now c.folded.result h c.folded.ensures c.as_slice.ensures

pub returns-clause-behind : goal.returns-clause-behind
returns-clause-behind c = λ text before h. ok_all c.folded.result h
