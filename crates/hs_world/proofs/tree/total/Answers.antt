use Rattle.std.proofs.Common.{◌≡◌, ap, arith}
use Rattle.hs_world.specs.Files.{sum_of}
use Rattle.hs_world.proofs.tree.total.Goals as goal

pub returns-clause-bytes : goal.returns-clause-bytes
returns-clause-bytes c =
    let z : sum_of c.loop-entry.entry-iterator ≡ 0 = ap sum_of c.in-None.ensures.steps.0 in
    omega (arith, z, c.loop-entry.invariant.sum, c.loop-entry.invariant.small)
