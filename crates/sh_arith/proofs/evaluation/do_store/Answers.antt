use Rattle.std.proofs.Common.{◌≡◌, rules, w64, to_z, of_z}
use Rattle.sh_arith.specs.Answers.{seen_by}
use Rattle.sh_arith.specs.Exec.{below_operand}
use Rattle.sh_arith.proofs.Moves.{store_between, store_moves, may_set}
use Rattle.sh_arith.proofs.evaluation.do_store.Goals as goal

pub returns-in-Err-push-clause-moves : goal.returns-in-Err-push-clause-moves
returns-in-Err-push-clause-moves g c = λ w' a.
    let s = c.in-Ok-store_name.ensures.stores w' a in
    let e : to_z w64 (of_z w64 c.in-Ok.number) ≡ c.in-Ok.number = search rules in
    (s.0, s.1, store_between (below_operand c.args.op c.args.values.now) _ c.in-Ok.number _ _ c.args.place c.args.name.now s.0 w' c.in-Ok.ensures.number e s.2)

pub returns-in-Err-clause-moves : goal.returns-in-Err-clause-moves
returns-in-Err-clause-moves g c = λ w' a.
    let s = c.in-Err.ensures.stores w' a in
    let e : to_z w64 (of_z w64 c.in-Ok.number) ≡ c.in-Ok.number = search rules in (
      s.0,
      s.1,
      store_moves (seen_by g.N.Names.agrees g.N.Names.get_halts g.N.Names.unmade_halts g.N.Names.made_halts) c.in-Err.why (below_operand c.args.op c.args.values.now) c.operand.new.values
          _ c.args.place c.args.name.now c.in-Ok.number _ c.args.names.now c.store_name.new.names s.0 w' c.in-Ok.ensures.number e s.2,
    )

pub returns-in-Err-clause-halts : goal.returns-in-Err-clause-halts
returns-in-Err-clause-halts g c = may_set (seen_by g.N.Names.agrees g.N.Names.get_halts g.N.Names.unmade_halts g.N.Names.made_halts) c.in-Err.why _ _ _ _ c.in-Err.ensures.halts
