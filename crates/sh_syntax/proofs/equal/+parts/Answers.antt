use Rattle.std.proofs.Common.{refl}
use Rattle.sh_syntax.proofs.Lists.{all_same}
use Rattle.sh_syntax.proofs.equal.+parts.Goals as goal

pub same_parts-returns : goal.same_parts-returns
same_parts-returns g c = (λ _. all_same _ _ c.loop-i.i c.if-a-b.false c.loop-i-test.false c.loop-i.invariant.1, λ _. refl)
