use Rattle.util_print.specs.Shown.{taken}
use Rattle.util_print.proofs.Printed.{bad_left, bad_round, none_left, round_shorter, some_left, text_left, text_round}
use Rattle.util_print.proofs.printing.print_rest.Goals as goal

pub rounds-smaller : goal.rounds-smaller
rounds-smaller c =
    round_shorter (taken c.args.parts.now) c.rounds.left.now c.in_ok-left.left.now c.requires (some_left c.rounds.left.now c.is_empty.result c.is_empty.ensures c.rounds-test.true) c.in_ok-left.ensures.left

pub rounds-preserved : goal.rounds-preserved
rounds-preserved c =
    let ps = c.args.parts.now in
    let left = c.rounds.left.now in
    let next = c.in_ok-left.left.now in
    let some = some_left left c.is_empty.result c.is_empty.ensures c.rounds-test.true in
    record {
      out = text_round ps left next c.rounds.printed.out.items c.print_round.new.printed.out.items _ c.requires some c.in_ok-left.ensures.out c.in_ok-left.ensures.left c.rounds.invariant.out;
      bad = bad_round ps left next c.rounds.printed.bad c.print_round.new.printed.bad _ c.requires some c.in_ok-left.ensures.bad c.in_ok-left.ensures.left c.rounds.invariant.bad;
    }

pub returns : goal.returns
returns c =
    let none = none_left c.rounds.left.now c.is_empty.result c.is_empty.ensures c.rounds-test.false in
    record {
      out = text_left c.args.parts.now c.rounds.left.now c.rounds.printed.out.items _ none c.rounds.invariant.out;
      bad = bad_left c.args.parts.now c.rounds.left.now c.rounds.printed.bad _ none c.rounds.invariant.bad;
    }
