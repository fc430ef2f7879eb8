use Rattle.std.proofs.Common.{◌∙◌, ◌<◌, length, arith}
use Rattle.hs_world.proofs.Stacks.{one_dropped}
use Rattle.hs_world.proofs.shell.drop_inputs.Goals as goal

pub loop-below-preserved-in-Some-2 : goal.loop-below-preserved-in-Some-2
loop-below-preserved-in-Some-2 c =
    let h : c.args.inputs < length c.loop-below.below.items = omega (arith, c.len.ensures, c.loop-below-test.true) in
    let p = one_dropped c.loop-below.below.items c.pop.new.self.items c.in-Some.text c.loop-below.input c.args.inputs c.in-Some.ensures.items h in
    record { input = p.0 ∙ c.loop-below.invariant.input; below = p.1 ∙ c.loop-below.invariant.below }

pub loop-below-preserved-in-Some : goal.loop-below-preserved-in-Some
loop-below-preserved-in-Some c =
    let h : c.args.inputs < length c.loop-below.below.items = omega (arith, c.len.ensures, c.loop-below-test.true) in
    let p = one_dropped c.loop-below.below.items c.pop.new.self.items c.in-Some.text c.loop-below.input c.args.inputs c.in-Some.ensures.items h in
    record { input = p.0 ∙ c.loop-below.invariant.input; below = p.1 ∙ c.loop-below.invariant.below }
