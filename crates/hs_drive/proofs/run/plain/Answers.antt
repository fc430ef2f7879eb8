use Rattle.std.proofs.Common.{ap}
use Rattle.std.specs.Arc.{arc_value}
use Rattle.hs_drive.specs.declared.ending.Report.{Report}
use Rattle.hs_drive.specs.Direct.{told}
use Rattle.hs_drive.proofs.Runs.{plain-done, plain-stopped, ran-between}
use Rattle.hs_drive.proofs.run.plain.Goals as goal

pub returns-in-Ok-clause-runs : goal.returns-in-Ok-clause-runs
returns-in-Ok-clause-runs g c =
    let report = c.report-report.ensures in
    plain-done _ _ (arc_value c.args.script) c.args.world c.run_script-run.result.0.base.world c.args.limits.turns c.run_script-run.result.0.turns c.run_script-run.result.0.head
    _ _ _ _ c.report-report.result c.run_script-run.result.1 c.in-Ok.is
    (ran-between (told g.O.Sink.written g.O.Sink.faults) (told g.E.Sink.written g.E.Sink.faults) _ _ _ _ _ _ _ _ _ c.take.ensures c.take-2.ensures c.give_back.ensures.out c.give_back.ensures.err c.run_script-run.ensures) c.status_of.ensures
    (ap (λ (r : Report). r.count) report) (ap (λ (r : Report). r.head) report) (ap (λ (r : Report). r.turns) report)

pub returns-clause-runs : goal.returns-clause-runs
returns-clause-runs g c =
    plain-stopped _ _ (arc_value c.args.script) c.args.world c.run_script-run.result.0.base.world c.args.limits.turns c.run_script-run.result.0.turns c.run_script-run.result.0.head
    _ _ _ _ c.report-report.result c.run_script-run.result.1 c.in-Err.is
    (ran-between (told g.O.Sink.written g.O.Sink.faults) (told g.E.Sink.written g.E.Sink.faults) _ _ _ _ _ _ _ _ _ c.take.ensures c.take-2.ensures c.give_back.ensures.out c.give_back.ensures.err c.run_script-run.ensures) c.ending_of.ensures
    (ap (λ (r : Report). r.count) c.report-report.ensures)
