use Rattle.std.proofs.Common.{◌∙◌}
use Rattle.hs_world.proofs.Copies.{reads_copied}
use Rattle.hs_world.proofs.Passing.{places_of}
use Rattle.hs_world.proofs.record.ReadsClone.clone.Goals as goal

pub invariant_of-result : goal.invariant_of-result
invariant_of-result c = places_of _ _ _ _ c.self.invariant (reads_copied _ _ c.in_ok-clone.ensures.cases.0) c.in_ok-clone-2.ensures.cases

pub returns : goal.returns
returns c = record { cases = reads_copied _ _ c.in_ok-clone.ensures.cases.0 ∙ c.self.view_is }
