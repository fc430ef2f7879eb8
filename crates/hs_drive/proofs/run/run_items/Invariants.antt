use Rattle.std.proofs.Common.{◌≡◌, ◌≤◌}
use Rattle.std.specs.Arc.{arc_value}
use Rattle.hs_drive.specs.Direct.{streams_of, told}
use Rattle.hs_drive.proofs.Runs.{Reached}
use Rattle.hs_drive.proofs.run.run_items.Given as goal

abbrev pub invariant-loop-item : goal.invariant-loop-item
invariant-loop-item g l = record {
  reached : Reached (arc_value l.script) l.items l.item-index l.outcome l.fn.run.base.world l.fn.run.turns l.run.base.world l.run.turns l.run.head
      (streams_of (told g.O.Sink.written g.O.Sink.faults) (told g.E.Sink.written g.E.Sink.faults) l.fn.run.base) (streams_of (told g.O.Sink.written g.O.Sink.faults) (told g.E.Sink.written g.E.Sink.faults) l.run.base);
  head : l.run.head ≡ l.item-index;
  faults : l.run.base.faults ≡ 0;
  out_later : g.O.Sink.faults l.fn.run.base.out ≤ g.O.Sink.faults l.run.base.out;
  err_later : g.E.Sink.faults l.fn.run.base.err ≤ g.E.Sink.faults l.run.base.err;
}
