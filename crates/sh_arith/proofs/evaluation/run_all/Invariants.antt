use Rattle.std.proofs.Common.{◌≤◌, drop}
use Rattle.sh_arith.specs.Answers.{seen_by}
use Rattle.sh_arith.specs.Exec.{depth_of}
use Rattle.sh_arith.specs.Moves.{Passes}
use Rattle.sh_arith.proofs.Loop.{Known}
use Rattle.sh_arith.proofs.evaluation.run_all.Given as goal

abbrev pub invariant-code : goal.invariant-code
invariant-code g l =
    let seen = seen_by g.N.Names.agrees g.N.Names.get_halts g.N.Names.unmade_halts g.N.Names.made_halts in
    record {
      known : Known seen l.code (drop l.instr-index l.code) l.skipped l.values l.fn.names l.names;
      passes : Passes seen l.fn.names l.names;
      depth : depth_of l.skipped ≤ l.instr-index;
    }
