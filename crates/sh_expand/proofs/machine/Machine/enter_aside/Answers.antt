use Rattle.std.proofs.Common.{ap, arith}
use Rattle.sh_expand.specs.Rest.{after_word}
use Rattle.sh_expand.specs.Weights.{opens_weight}
use Rattle.sh_expand.proofs.Looking.{aside_rest}
use Rattle.sh_expand.proofs.machine.Machine.enter_aside.Goals as goal

pub returns-clause-rest : goal.returns-clause-rest
returns-clause-rest c =
    let x = c.args.self.now in
    aside_rest c.args.mode c.args.word.now c.args.opened c.push.new.self x.open c.new.result (after_word x.base x.words.now x.context) c.in_ok-push.ensures.ok c.new.ensures

pub returns-clause-weighs : goal.returns-clause-weighs
returns-clause-weighs c = let e = ap opens_weight c.in_ok-push.ensures.ok in omega (arith, e)
