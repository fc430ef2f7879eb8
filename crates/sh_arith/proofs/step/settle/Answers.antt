use Rattle.std.proofs.Common.{sym, ◌∙◌}
use Rattle.sh_arith.proofs.Rooms.{took, stayed}
use Rattle.sh_arith.proofs.step.settle.Goals as goal

pub frames-preserved : goal.frames-preserved
frames-preserved c = took _ _ _ _ _ (sym c.holds.ensures ∙ c.frames-test.true) c.in-Some.ensures c.in_ok-finish-in-Some.ensures ∙ c.frames.invariant

pub returns : goal.returns
returns c = sym (stayed _ _ (sym c.holds.ensures ∙ c.frames-test.false)) ∙ c.frames.invariant
