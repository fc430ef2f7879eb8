use Rattle.std.proofs.Common.{◌≡◌, ◌-◌, ◌≤◌, length}
use Rattle.sh_pattern.specs.Items.{elements, elements_first, behind}
use Rattle.sh_pattern.proofs.bracket.elements.Given as goal

abbrev pub invariant-elements : goal.invariant-elements
invariant-elements l = record {
  found : elements_first l.fn.text ≡ behind l.ranges.items (length l.fn.text - length l.rest) (elements 0 l.rest);
  within : length l.rest ≤ length l.fn.text;
}

abbrev pub decreases-elements : goal.decreases-elements
decreases-elements l = length l.rest
