use Rattle.std.proofs.Common.{length, sym, ap, ◌∙◌}
use Rattle.sh_pattern.specs.Match.{matches_prefix, matches_suffix}
use Rattle.sh_syntax.specs.declared.tree.ParamOp.{ParamOp}
use Rattle.sh_param.specs.Trims.{part_of}
use Rattle.sh_param.proofs.Searches.{least_is, greatest_is}
use Rattle.sh_param.proofs.trim.part_of.Goals as goal

pub returns-in-SmallPrefix-clause-part : goal.returns-in-SmallPrefix-clause-part
returns-in-SmallPrefix-clause-part c =
    let t = c.args.text.now in
    least_is (matches_prefix c.args.pattern.now t) (length t) _ c.smallest_prefix.ensures ∙ sym (ap (λ (o : ParamOp). part_of o c.args.pattern.now t) c.in-SmallPrefix.is)

pub returns-in-LargePrefix-clause-part : goal.returns-in-LargePrefix-clause-part
returns-in-LargePrefix-clause-part c =
    let t = c.args.text.now in
    greatest_is (matches_prefix c.args.pattern.now t) (length t) _ c.largest_prefix.ensures ∙ sym (ap (λ (o : ParamOp). part_of o c.args.pattern.now t) c.in-LargePrefix.is)

pub returns-in-SmallSuffix-clause-part : goal.returns-in-SmallSuffix-clause-part
returns-in-SmallSuffix-clause-part c =
    let t = c.args.text.now in
    least_is (matches_suffix c.args.pattern.now t) (length t) _ c.smallest_suffix.ensures ∙ sym (ap (λ (o : ParamOp). part_of o c.args.pattern.now t) c.in-SmallSuffix.is)

pub returns-in-LargeSuffix-clause-part : goal.returns-in-LargeSuffix-clause-part
returns-in-LargeSuffix-clause-part c =
    let t = c.args.text.now in
    greatest_is (matches_suffix c.args.pattern.now t) (length t) _ c.largest_suffix.ensures ∙ sym (ap (λ (o : ParamOp). part_of o c.args.pattern.now t) c.in-LargeSuffix.is)
