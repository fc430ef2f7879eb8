use Rattle.std.proofs.Common.{◌≡◌, arith, subst, sym, ◌∙◌, Result}
use Rattle.std.specs.Prelude.{OnOk}
use Rattle.std.proofs.Math.ListN.{drop_of_length-le}
use Rattle.sh_leaf.specs.declared.outcome.Outcome.{Outcome}
use Rattle.hs_drive.specs.declared.stop.Stop.{Stop}
use Rattle.hs_drive.proofs.Commits.{rose-later}
use Rattle.hs_drive.proofs.Runs.{reached-start, next-by, stop-by, reached-end, reached-out}
use Rattle.hs_drive.proofs.run.run_items.Goals as goal

pub loop-item-init : goal.loop-item-init
loop-item-init g c = record {
  reached = reached-start _ _ _ _ _ _ c.requires.head;
  head = c.requires.head;
  faults = c.requires.faults;
  out_later = omega arith;
  err_later = omega arith;
}

pub returns-in_default : goal.returns-in_default
returns-in_default g c = record {
  runs = reached-out _ _ _ _ _ _ _ _ _ _ _ c.in_default.not-Status c.loop-item.invariant.reached;
  faults = c.loop-item.invariant.faults ∙ sym c.requires.faults;
  out_later = c.loop-item.invariant.out_later;
  err_later = c.loop-item.invariant.err_later;
}

pub returns-in-Err : goal.returns-in-Err
returns-in-Err g c = record {
  runs = stop-by _ _ _ c.in-Status.field-0 _ c.item-item.result _ _ _ _ _ _ _ 0 _ 0 _ _ _ _ _ (rose-later _ _ _ c.loop-item.invariant.out_later)
      (rose-later _ _ _ c.loop-item.invariant.err_later) c.in-Status.is c.loop-item-test.true c.item-item.is c.loop-item.invariant.reached
      c.in-Err.is c.run_leaf-next.ensures.ran.runs;
  faults = tt;
  out_later = omega (arith, c.run_leaf-next.ensures.ran.out_later, c.loop-item.invariant.out_later);
  err_later = omega (arith, c.run_leaf-next.ensures.ran.err_later, c.loop-item.invariant.err_later);
}

pub loop-item-preserved : goal.loop-item-preserved
loop-item-preserved g c = record {
  reached = next-by _ _ _ _ _ c.in-Status.field-0 _ _ c.item-item.result _ _ _ _ _ _ _ _ _ _ _ _ _ c.in-Status.is c.loop-item-test.true c.item-item.is c.run_leaf-next.ensures.head
      c.loop-item.invariant.reached c.in-Ok.is c.run_leaf-next.ensures.ran.runs;
  head = omega (arith, c.run_leaf-next.ensures.head, c.loop-item.invariant.head);
  faults = subst (λ (r : Result Outcome Stop). OnOk r (c.run_leaf-next.result.0.base.faults ≡ c.loop-item.run.base.faults)) c.in-Ok.is c.run_leaf-next.ensures.ran.faults ∙ c.loop-item.invariant.faults;
  out_later = omega (arith, c.run_leaf-next.ensures.ran.out_later, c.loop-item.invariant.out_later);
  err_later = omega (arith, c.run_leaf-next.ensures.ran.err_later, c.loop-item.invariant.err_later);
}

pub returns : goal.returns
returns g c = record {
  runs = reached-end _ _ _ _ _ _ _ _ _ _ _ (drop_of_length-le _ c.loop-item-test.false) c.loop-item.invariant.reached;
  faults = c.loop-item.invariant.faults ∙ sym c.requires.faults;
  out_later = c.loop-item.invariant.out_later;
  err_later = c.loop-item.invariant.err_later;
}
