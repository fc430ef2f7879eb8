use Rattle.std.proofs.Common.{◌≡◌, length, true, false}
use Rattle.sh_lexer.specs.Trail.{in_body}
use Rattle.sh_lexer.proofs.place.from_body.Given as goal

abbrev pub invariant-loop-rest : goal.invariant-loop-rest
invariant-loop-rest l = in_body l.fn.strip l.front l.quoted l.count l.left ≡ in_body l.fn.strip true false l.fn.count l.fn.text

abbrev pub decreases-loop-rest : goal.decreases-loop-rest
decreases-loop-rest l = length l.left
