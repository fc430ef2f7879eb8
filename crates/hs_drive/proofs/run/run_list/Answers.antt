use Rattle.std.specs.Arc.{arc_value}
use Rattle.hs_drive.proofs.Runs.{list-empty, no-items, ran-same}
use Rattle.hs_drive.proofs.run.run_list.Goals as goal

pub returns-then-is_empty : goal.returns-then-is_empty
returns-then-is_empty g c =
    ran-same _ _ _ _ _ _ _ _ (list-empty (arc_value c.args.script.now) _ _ (no-items _ c.if-is_empty.ensures)) (c.run_nothing.ensures (arc_value c.args.script.now))
