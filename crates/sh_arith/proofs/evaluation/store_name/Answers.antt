use Rattle.std.proofs.Common.{w64}
use Rattle.std.proofs.lemmas.Int.{to_z-of_z}
use Rattle.sh_arith.specs.Answers.{seen_by}
use Rattle.sh_arith.proofs.Moves.{set_halted}
use Rattle.sh_arith.proofs.evaluation.store_name.Goals as goal

pub returns-in-Err-clause-stores : goal.returns-in-Err-clause-stores
returns-in-Err-clause-stores g c = λ w' a.
    let s = c.in-Err.ensures.sets w' a in (
      s.0,
      s.1,
      set_halted (seen_by g.N.Names.agrees g.N.Names.get_halts g.N.Names.unmade_halts g.N.Names.made_halts) _ _ _ _ _ _ _ _ _
          c.as_slice.ensures (to_z-of_z w64 c.args.number c.ranges.number) s.2,
    )
