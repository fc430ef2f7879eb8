use Rattle.std.proofs.Common.{length}
use Rattle.hs_overlay.proofs.routing.+lead.Given as goal

abbrev pub decreases-lead : goal.decreases-lead
decreases-lead l = length l.tables.now
