use Rattle.std.proofs.Common.{◌≤◌, [], drop}
use Rattle.hs_view.specs.Acts.{Loops}
use Rattle.sh_arith.specs.Exec.{depth_of, going, run}
use Rattle.sh_sum.specs.Turns.{rest_done}
use Rattle.sh_sum.proofs.summing.run_all.Given as goal

-- the instructions that are left
abbrev pub invariant-code : goal.invariant-code
invariant-code g l = record {
  loops : Loops g.B.Base.seen (rest_done l.code (going [])) (rest_done (drop l.instr-index l.code) (run l.skipped l.values)) l.fn.view l.view;
  depth : depth_of l.skipped ≤ l.instr-index;
}
