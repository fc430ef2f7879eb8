use Rattle.sh_arith.specs.Answers.{seen_by}
use Rattle.sh_arith.proofs.Moves.{value_between, read_moves}
use Rattle.sh_arith.proofs.evaluation.do_read.Goals as goal

pub returns-in-Err-push-clause-moves : goal.returns-in-Err-push-clause-moves
returns-in-Err-push-clause-moves g c = λ w a. let s = c.in-Ok.ensures.reads w a in (s.0, value_between _ _ _ _ _ s.1)

pub returns-in-Err-clause-moves : goal.returns-in-Err-clause-moves
returns-in-Err-clause-moves g c = λ w a.
    let s = c.in-Err.ensures.reads w a in
    (s.0, read_moves (seen_by g.N.Names.agrees g.N.Names.get_halts g.N.Names.unmade_halts g.N.Names.made_halts) c.in-Err.why c.args.values.now c.args.values.now _ _ _ _ s.1 c.in-Err.ensures.halts)
