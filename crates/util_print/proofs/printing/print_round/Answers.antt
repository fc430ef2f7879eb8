use Rattle.std.proofs.Common.{◌+◌, drop, get_or}
use Rattle.std.proofs.lemmas.List.{drop_all, drop_more}
use Rattle.util_print.specs.declared.format.Part.TheVariants.{Plain}
use Rattle.util_print.proofs.Printed.{bad_end, bad_part, left_end, left_part, text_end, text_part}
use Rattle.util_print.proofs.printing.print_round.Goals as goal

pub parts-preserved : goal.parts-preserved
parts-preserved c =
    let ps = c.args.parts.now in
    let i = c.parts.part-index in
    let p = get_or ps i (Plain 0) in
    let d = drop_more ps i (Plain 0) c.parts-test.true in
    let left = c.parts.left.now in
    let next = c.words_left-left.result.now in
    record {
      out = text_part c.parts.printed.out.items c.print_part.new.printed.out.items _ p (drop (i + 1) ps) _ left next d c.in_ok-print_part.ensures.out c.words_left-left.ensures c.parts.invariant.out;
      bad = bad_part c.parts.printed.bad c.print_part.new.printed.bad _ p (drop (i + 1) ps) _ left next d c.in_ok-print_part.ensures.bad c.words_left-left.ensures c.parts.invariant.bad;
      left = left_part p (drop (i + 1) ps) _ left next _ d c.words_left-left.ensures c.parts.invariant.left;
    }

pub returns : goal.returns
returns c =
    let ps = c.args.parts.now in
    let d = drop_all c.parts.part-index ps c.parts-test.false in
    record {
      out = text_end c.parts.printed.out.items _ _ c.parts.left.now d c.parts.invariant.out;
      bad = bad_end c.parts.printed.bad _ _ c.parts.left.now d c.parts.invariant.bad;
      left = left_end _ c.parts.left.now _ d c.parts.invariant.left;
    }
