use Rattle.std.proofs.Common.{arith}
use Rattle.sh_arith.specs.Answers.{seen_by}
use Rattle.sh_arith.proofs.Loop.{says_at, known_at, chained}
use Rattle.sh_arith.proofs.evaluation.run_all.Goals as goal

pub returns-in-Err-clause-says : goal.returns-in-Err-clause-says
returns-in-Err-clause-says g c =
    let seen = seen_by g.N.Names.agrees g.N.Names.get_halts g.N.Names.unmade_halts g.N.Names.made_halts in
    says_at seen c.in-Err.why c.args.code.now c.code.instr-index c.instr-item.result c.code.skipped c.code.values c.turn.new.values c.args.names.now c.code.names c.turn.new.names
    c.code-test.true c.instr-item.is c.code.invariant.passes c.code.invariant.known c.in-Err.ensures.moves

pub code-preserved : goal.code-preserved
code-preserved g c =
    let seen = seen_by g.N.Names.agrees g.N.Names.get_halts g.N.Names.unmade_halts g.N.Names.made_halts in
    record {
      known = known_at seen c.args.code.now c.code.instr-index c.instr-item.result c.code.skipped c.in-Ok.then c.code.values c.turn.new.values c.args.names.now c.code.names c.turn.new.names
          c.code-test.true c.instr-item.is c.code.invariant.known c.in-Ok.ensures.moves;
      passes = chained seen c.args.names.now c.code.names c.turn.new.names c.code.invariant.passes c.in-Ok.ensures.passes;
      depth = omega (arith, c.in-Ok.ensures.depth, c.code.invariant.depth);
    }
