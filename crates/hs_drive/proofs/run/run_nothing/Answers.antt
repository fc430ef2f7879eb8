use Rattle.std.proofs.Common.{Err, ap, refl}
use Rattle.hs_drive.specs.Direct.{told}
use Rattle.hs_drive.proofs.Turns.{nothing-ran, nothing-stopped}
use Rattle.hs_drive.proofs.run.run_nothing.Goals as goal

pub returns-in-Ok : goal.returns-in-Ok
returns-in-Ok g c = λ script.
    nothing-ran (told g.O.Sink.written g.O.Sink.faults) (told g.E.Sink.written g.E.Sink.faults) script c.args.run (record { base = c.push.new.self; turns = c.args.run.turns; head = c.args.run.head }) (c.in-Ok.ensures.made refl) refl
    c.requires.head

pub returns-in-Err : goal.returns-in-Err
returns-in-Err g c = λ script.
    let e = c.in-Err.ensures in
    nothing-stopped (told g.O.Sink.written g.O.Sink.faults) (told g.E.Sink.written g.E.Sink.faults) script c.args.run (record { base = c.push.new.self; turns = c.args.run.turns; head = c.args.run.head }) c.in-Err.halt _ c.requires.faults
    e.err (λ k is. (e.full k (ap Err is)).1 refl) (λ l is. ((e.spent l).0 (ap Err is)).1) (λ is. e.turns (ap Err is)) (λ is. e.frames (ap Err is)) (λ is. e.outside (ap Err is)) (λ is. e.trace (ap Err is)) (λ is. e.fault (ap Err is))
    c.stop_of.ensures
