use Rattle.std.proofs.Common.{◌≡◌, ◌∙◌, ap, refl}
use Rattle.std.specs.Prelude.{Some}
use Rattle.util_text.specs.Count.{number}
use Rattle.util_text.specs.Wrapping.{positive}
use Rattle.util_text.proofs.Wrapped.{narrowed, no_width, refuses_on, wide}
use Rattle.util_text.proofs.wrapping.width_in.Goals as goal

pub returns-in_err-bytes-clause-fault : goal.returns-in_err-bytes-clause-fault
returns-in_err-bytes-clause-fault c =
    refuses_on _ c.in_err-bytes.field-0.0 (positive (number c.args.word.now)) c.from_residual.ensures.0 c.from_residual.ensures.1 (narrowed c.in_err-bytes.field-0.0 (number c.args.word.now) c.in_err-bytes.ensures.fault)

pub returns-then-bytes-eq0-clause-fault : goal.returns-then-bytes-eq0-clause-fault
returns-then-bytes-eq0-clause-fault c =
    let (n, e, s) = c.in_ok-bytes.ensures.ok in
    (refl, ap positive e ∙ no_width n c.in_ok-bytes.bytes s c.if-bytes-eq0.true)

pub returns-clause-ok : goal.returns-clause-ok
returns-clause-ok c =
    let (n, e, s) = c.in_ok-bytes.ensures.ok in
    (n, ap positive e ∙ wide n c.in_ok-bytes.bytes s c.if-bytes-eq0.false, s)
