use Rattle.std.proofs.Common.{refl, subst, sym}
use Rattle.std.specs.Prelude.{◌-◌}
use Rattle.std.specs.Arc.{arc_value}
use Rattle.hs_drive.specs.Plain.{leaf_got}
use Rattle.hs_drive.specs.Direct.{told}
use Rattle.hs_drive.specs.Ran.{Ran}
use Rattle.hs_drive.proofs.Turns.{no-asking, turn-ran, turn-stopped, turn-within}
use Rattle.hs_drive.proofs.run.run_leaf.Goals as goal

pub ended_leaf-requires : goal.ended_leaf-requires
ended_leaf-requires g c = record {
  turns = turn-within (told g.O.Sink.written g.O.Sink.faults) (told g.E.Sink.written g.E.Sink.faults) (arc_value c.args.script.now) c.args.number c.args.run.turns c.args.run.base.world c.args.run.base c.in-Ok.base c.in-Ok.done
      (c.in-Ok.ensures.done c.args.run.base.world refl);
}

pub returns-in-Ok-clause-ran : goal.returns-in-Ok-clause-ran
returns-in-Ok-clause-ran g c =
    let out = told g.O.Sink.written g.O.Sink.faults in
    let err = told g.E.Sink.written g.E.Sink.faults in
    subst (λ p. Ran out err (leaf_got (arc_value c.args.script.now) c.args.number c.args.run.base.world c.args.run.turns) c.args.run p.0 0 p.1) (sym c.ended_leaf.ensures)
    (turn-ran out err (arc_value c.args.script.now) c.args.number c.args.run (record { base = c.in-Ok.base; turns = c.args.run.turns - c.in-Ok.done.turns; head = c.args.run.head }) c.in-Ok.done
    (c.in-Ok.ensures.done c.args.run.base.world refl) refl)

pub stop_of-requires-clause-outside : goal.stop_of-requires-clause-outside
stop_of-requires-clause-outside g c =
    no-asking (told g.O.Sink.written g.O.Sink.faults) (told g.E.Sink.written g.E.Sink.faults) (arc_value c.args.script.now) c.args.number c.args.run.turns c.args.run.base c.in-Err.base c.in-Err.trace.effects c.in-Err.halt
    (c.in-Err.ensures.halts c.args.run.base.world refl)

pub returns-in-Err-clause-ran : goal.returns-in-Err-clause-ran
returns-in-Err-clause-ran g c =
    turn-stopped (told g.O.Sink.written g.O.Sink.faults) (told g.E.Sink.written g.E.Sink.faults) (arc_value c.args.script.now) c.args.number c.args.run _ c.in-Err.trace.effects c.in-Err.halt _ c.requires.faults
    (no-asking (told g.O.Sink.written g.O.Sink.faults) (told g.E.Sink.written g.E.Sink.faults) (arc_value c.args.script.now) c.args.number c.args.run.turns c.args.run.base c.in-Err.base c.in-Err.trace.effects c.in-Err.halt
    (c.in-Err.ensures.halts c.args.run.base.world refl))
    c.in-Err.ensures.trace c.in-Err.ensures.fault c.stop_of.ensures (c.in-Err.ensures.halts c.args.run.base.world refl)
