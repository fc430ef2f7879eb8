use Rattle.hs_world.specs.Reads.{ArePlaces}
use Rattle.std.proofs.Common.{sym, subst, List, [], ◌∙◌, ap}
use Rattle.hs_world.proofs.Passing.{no_places, places_of}
use Rattle.hs_world.proofs.record.Reads.new.Goals as goal

pub invariant_of-result : goal.invariant_of-result
invariant_of-result c = places_of _ _ _ _ no_places c.new.ensures.items c.new-2.ensures
