use Rattle.std.proofs.Common.{refl}
use Rattle.sh_arith.specs.Answers.{seen_by}
use Rattle.sh_arith.proofs.Moves.{plain_moves}
use Rattle.sh_arith.proofs.evaluation.one.Goals as goal

pub returns-in-Number-clause-moves : goal.returns-in-Number-clause-moves
returns-in-Number-clause-moves g c = λ w' a. (
  w',
  a,
  plain_moves (seen_by g.N.Names.agrees g.N.Names.get_halts g.N.Names.unmade_halts g.N.Names.made_halts) c.args.instr.now _ c.without_names.result c.args.values.now c.without_names.new.values c.args.names.now w'
      c.in-Number.is refl c.without_names.ensures.tells,
)

pub returns-in-Sign-clause-moves : goal.returns-in-Sign-clause-moves
returns-in-Sign-clause-moves g c = λ w' a. (
  w',
  a,
  plain_moves (seen_by g.N.Names.agrees g.N.Names.get_halts g.N.Names.unmade_halts g.N.Names.made_halts) c.args.instr.now _ c.without_names-in-Sign.result c.args.values.now c.without_names-in-Sign.new.values c.args.names.now w'
      c.in-Sign.is refl c.without_names-in-Sign.ensures.tells,
)

pub returns-in-Math-clause-moves : goal.returns-in-Math-clause-moves
returns-in-Math-clause-moves g c = λ w' a. (
  w',
  a,
  plain_moves (seen_by g.N.Names.agrees g.N.Names.get_halts g.N.Names.unmade_halts g.N.Names.made_halts) c.args.instr.now _ c.without_names-in-Math.result c.args.values.now c.without_names-in-Math.new.values c.args.names.now w'
      c.in-Math.is refl c.without_names-in-Math.ensures.tells,
)

pub returns-in-Begin-clause-moves : goal.returns-in-Begin-clause-moves
returns-in-Begin-clause-moves g c = λ w' a. (
  w',
  a,
  plain_moves (seen_by g.N.Names.agrees g.N.Names.get_halts g.N.Names.unmade_halts g.N.Names.made_halts) c.args.instr.now _ c.without_names-in-Begin.result c.args.values.now c.without_names-in-Begin.new.values c.args.names.now w'
      c.in-Begin.is refl c.without_names-in-Begin.ensures.tells,
)

pub returns-in-Otherwise-clause-moves : goal.returns-in-Otherwise-clause-moves
returns-in-Otherwise-clause-moves g c = λ w' a. (
  w',
  a,
  plain_moves (seen_by g.N.Names.agrees g.N.Names.get_halts g.N.Names.unmade_halts g.N.Names.made_halts) c.args.instr.now _ c.without_names-in-Otherwise.result c.args.values.now c.without_names-in-Otherwise.new.values c.args.names.now w'
      c.in-Otherwise.is refl c.without_names-in-Otherwise.ensures.tells,
)

pub returns-in-End-clause-moves : goal.returns-in-End-clause-moves
returns-in-End-clause-moves g c = λ w' a. (
  w',
  a,
  plain_moves (seen_by g.N.Names.agrees g.N.Names.get_halts g.N.Names.unmade_halts g.N.Names.made_halts) c.args.instr.now _ c.without_names-in-End.result c.args.values.now c.without_names-in-End.new.values c.args.names.now w'
      c.in-End.is refl c.without_names-in-End.ensures.tells,
)
