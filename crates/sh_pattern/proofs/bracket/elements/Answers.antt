use Rattle.std.proofs.Common.{sym, ◌∙◌, arith}
use Rattle.sh_pattern.proofs.Tables.{no-elements, element-taken}
use Rattle.sh_pattern.proofs.bracket.elements.Goals as goal

pub returns-then-not-closed-more-clause-found : goal.returns-then-not-closed-more-clause-found
returns-then-not-closed-more-clause-found c =
    no-elements c.args.closed.now c.args.text.now c.in-Some.after.now c.in-Some.first.now c.at-element.result c.more.result c.in-Some.ensures.cases.0
    c.requires c.at-element.ensures.element c.more.ensures (omega (arith, c.at-element.ensures.within, c.more.ensures)) c.if-not-closed-more.true

pub elements-preserved : goal.elements-preserved
elements-preserved c = record {
  found = element-taken _ _ _ _ _ _ _ c.at-element-in-elements.result c.more-in-elements.result c.elements.invariant.found c.in-Some-split_first.ensures.cases.0
      (sym c.plain.ensures ∙ c.if-plain.false) c.at-element-in-elements.ensures.element c.more-in-elements.ensures c.in_ok-put-2.ensures
      c.split_at-in-elements.ensures.back (omega (arith, c.at-element-in-elements.ensures.within, c.more-in-elements.ensures)) c.elements.invariant.within;
  within = omega (arith, c.split_at-in-elements.ensures.back_len, c.in-Some-split_first.ensures.cases.1);
}
