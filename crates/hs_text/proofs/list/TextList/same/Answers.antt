use Rattle.std.specs.Prelude.{nat_eq}
use Rattle.std.specs.Cmp.Lexicographic.{pointwise}
use Rattle.std.proofs.Common.{◌∙◌}
use Rattle.hs_text.proofs.Lists.{texts_told}
use Rattle.hs_text.proofs.list.TextList.same.Goals as goal

pub returns : goal.returns
returns c = texts_told c.args.self.now c.args.other.now c.eq.result (c.eq.ensures ∙ (λ i. pointwise (pointwise nat_eq) (c.as_slice.ensures i) (c.as_slice-2.ensures i)))
