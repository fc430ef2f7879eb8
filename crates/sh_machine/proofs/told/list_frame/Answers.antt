use Rattle.std.proofs.Common.{sym}
use Rattle.sh_machine.proofs.Enclosed.{frame_found, frame_next, frame_none}
use Rattle.sh_machine.proofs.told.list_frame.Goals as goal

pub returns-then-not-in_list : goal.returns-then-not-in_list
returns-then-not-in_list c = frame_found c.args.below.now c.loop-depth.depth c.in-Some.frame.now (sym c.in-Some.ensures) (sym c.if-not-in_list.ensures) c.loop-depth.invariant

pub returns-in-None : goal.returns-in-None
returns-in-None c = frame_none c.args.below.now c.loop-depth.depth (sym c.in-None.ensures) c.loop-depth.invariant

pub loop-depth-preserved : goal.loop-depth-preserved
loop-depth-preserved c = frame_next c.args.below.now c.loop-depth.depth c.in-Some.frame.now (sym c.in-Some.ensures) (sym c.if-not-in_list.ensures) c.loop-depth.invariant
