use Rattle.std.proofs.Common.{◌≡◌, ◌∷◌, length}
use Rattle.sh_pattern.specs.Match.{matched}
use Rattle.sh_pattern.specs.declared.item.Item.TheVariants.{Star}
use Rattle.sh_pattern.proofs.matching.leftmost.Given as goal

abbrev pub invariant-places : goal.invariant-places
invariant-places l = matched (Star ∷ l.fn.items) l.fn.bytes ≡ matched (Star ∷ l.fn.items) l.rest

abbrev pub decreases-places : goal.decreases-places
decreases-places l = length l.rest
