use Rattle.std.proofs.Common.{◌≡◌, ◌+◌, ◌≤◌, ℤ, [], List, None, arith, drop, of_z, rules, subst, sym, to_z, w64, ◌∙◌}
use Rattle.hs_view.specs.Acts.{Loops}
use Rattle.hs_view.proofs.Acting.{acts_on, loops_halt, loops_start}
use Rattle.sh_arith.specs.Exec.{depth_of, going, run}
use Rattle.sh_sum.specs.Turns.{behind, rest_done, turn_depth, turn_done}
use Rattle.sh_sum.specs.declared.turn.Turn.{Turn}
use Rattle.sh_sum.proofs.Doing.{ended_on, goes_on, last_on, next_on}
use Rattle.sh_sum.proofs.summing.run_all.Goals as goal

pub code-init : goal.code-init
code-init g c =
    let code = c.args.code.now in
    record {
      loops = subst (λ (vs : List ℤ). Loops g.B.Base.seen (rest_done code (going [])) (rest_done code (run None vs)) c.args.view.now c.args.view.now) (sym c.new-values.ensures) (loops_start g.B.Base.seen (rest_done code (going [])) c.args.view.now);
      depth = omega arith;
    }

pub returns-in_err-turned : goal.returns-in_err-turned
returns-in_err-turned g c =
    let code = c.args.code.now in
    let whole = rest_done code (going []) in
    let i = c.instr-item.result in
    let n = c.code.instr-index in
    acts_on g.B.Base.seen whole c.args.view.now c.turn.new.view c.in_err-turned.field-0.0 _ c.from_residual.ensures.0 c.from_residual.ensures.1
    (loops_halt g.B.Base.seen whole (turn_done i c.code.skipped c.code.values) (behind (drop (n + 1) code)) c.args.view.now c.code.view c.turn.new.view c.in_err-turned.field-0.0
    (next_on g.B.Base.seen whole code n i c.code.skipped c.code.values c.args.view.now c.code.view c.code-test.true c.instr-item.is c.code.invariant.loops) c.in_err-turned.ensures.acts)

pub returns-in-Ended : goal.returns-in-Ended
returns-in-Ended g c =
    let code = c.args.code.now in
    ended_on g.B.Base.seen (rest_done code (going [])) code c.code.instr-index c.instr-item.result c.code.skipped c.code.values c.args.view.now c.code.view c.turn.new.view c.in_ok-turned.turned c.in-Ended.sum
    c.code-test.true c.instr-item.is c.code.invariant.loops c.in-Ended.is c.in_ok-turned.ensures.acts

pub code-preserved : goal.code-preserved
code-preserved g c =
    let code = c.args.code.now in
    let d = subst (λ (t : Turn). turn_depth t ≤ depth_of c.code.skipped + 1) c.in-On.is c.in_ok-turned.ensures.depth in
    record {
      loops = goes_on g.B.Base.seen (rest_done code (going [])) code c.code.instr-index c.instr-item.result c.code.skipped c.code.values c.args.view.now c.code.view c.turn.new.view c.in_ok-turned.turned c.in-On.then c.in-On.left
          c.code-test.true c.instr-item.is c.code.invariant.loops c.in-On.is c.in_ok-turned.ensures.acts;
      depth = omega (arith, d, c.code.invariant.depth);
    }

pub returns : goal.returns
returns g c =
    let same : to_z w64 (of_z w64 c.take.result) ≡ c.take.result = search rules in
    last_on g.B.Base.seen (rest_done c.args.code.now (going [])) c.args.code.now c.code.instr-index c.code.skipped c.code.values (to_z w64 (of_z w64 c.take.result)) c.args.view.now c.code.view c.code-test.false (same ∙ c.take.ensures.top)
    c.code.invariant.loops
