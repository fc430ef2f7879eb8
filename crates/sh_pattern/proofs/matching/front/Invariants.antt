use Rattle.std.proofs.Common.{◌≡◌, ◌∷◌, ◌≤◌, true, length}
use Rattle.sh_pattern.specs.Match.{matched}
use Rattle.sh_pattern.specs.declared.item.Item.TheVariants.{Star}
use Rattle.sh_pattern.proofs.matching.front.Given as goal

abbrev pub invariant-items : goal.invariant-items
invariant-items l = record {
  here : matched l.fn.items l.fn.bytes ≡ matched l.left l.rest;
  later : matched (Star ∷ l.fn.items) l.fn.bytes ≡ true → matched (Star ∷ l.left) l.rest ≡ true;
  within : length l.left ≤ length l.fn.items;
}

abbrev pub decreases-items : goal.decreases-items
decreases-items l = length l.left
