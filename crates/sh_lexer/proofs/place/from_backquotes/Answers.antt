use Rattle.std.proofs.Common.{◌≡◌, ◌-◌, suc, arith, ap, sym, ◌∙◌}
use Rattle.sh_lexer.specs.Trail.{in_backquotes}
use Rattle.sh_lexer.proofs.place.from_backquotes.Goals as goal

pub loop-count-preserved : goal.loop-count-preserved
loop-count-preserved c =
    let n = c.loop-count.count in
    let e : suc (n - 1) ≡ n = omega arith in
    sym (c.pass_quoted-left.ensures (n - 1)) ∙ (ap (λ k. in_backquotes k c.loop-count.left.now) e ∙ c.loop-count.invariant)

pub returns : goal.returns
unfolding in_backquotes
returns c = let e : 0 ≡ c.loop-count.count = omega arith in ap (λ k. in_backquotes k c.loop-count.left.now) e ∙ c.loop-count.invariant
