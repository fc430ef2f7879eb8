use Rattle.std.proofs.Common.{◌≡◌}
use Rattle.sh_pattern.specs.Match.{matched}
use Rattle.sh_pattern.specs.Greedy.{answer, left}
use Rattle.sh_pattern.proofs.matching.matches.Given as goal

abbrev pub invariant-stars : goal.invariant-stars
invariant-stars l = answer l.found ≡ matched l.fn.pattern l.fn.bytes

abbrev pub decreases-stars : goal.decreases-stars
decreases-stars l = left l.found
