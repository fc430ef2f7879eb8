use Rattle.std.proofs.Common.{refl}
use Rattle.sh_syntax.proofs.Lists.{all_same}
use Rattle.sh_syntax.proofs.equal.same_items.Goals as goal

-- src/equal.rt:26:1
pub returns : goal.returns
returns g c = (λ _. all_same _ _ c.loop-i.i c.if-a-b.false c.loop-i-test.false c.loop-i.invariant.1, λ _. refl)
