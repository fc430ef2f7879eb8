use Rattle.std.proofs.Common.{◌≡◌, ◌-◌, ◌≤◌, length, take}
use Rattle.hs_outside.specs.Streams.{appended}
use Rattle.hs_outside.proofs.sending.send.Given as goal

abbrev pub invariant-loop-sent : goal.invariant-loop-sent
invariant-loop-sent g l = (l.sent ≤ length l.piece)
    × (g.S.Sink.written l.sink ≡ appended (g.S.Sink.written l.fn.sink) (take l.sent l.piece))
    × (g.S.Sink.faults l.fn.sink ≤ g.S.Sink.faults l.sink)

abbrev pub decreases-loop-sent : goal.decreases-loop-sent
decreases-loop-sent g l = length l.piece - l.sent
