use Rattle.std.proofs.Common.{arith}
use Rattle.hs_outside.proofs.Fronts.{sent_more, sent_front}
use Rattle.hs_outside.proofs.sending.send.Goals as goal

pub loop-sent-preserved : goal.loop-sent-preserved
loop-sent-preserved g c = (omega (arith, c.in-Ok.ensures.count, c.split_at.ensures.back_len), sent_more _ _ _ _ _ _ _ c.loop-sent.invariant.1 c.split_at.ensures.back c.in-Ok.ensures.written, omega (arith, c.in-Ok.ensures.cause.later))

pub returns-in-Err-clause-err : goal.returns-in-Err-clause-err
returns-in-Err-clause-err g c = sent_front _ _ _ _ _ c.loop-sent.invariant.1 c.loop-sent-test.true c.in-Err.ensures.written
