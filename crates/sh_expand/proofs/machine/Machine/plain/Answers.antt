use Rattle.std.proofs.Common.{ℕ, List, ap, ◌∙◌}
use Rattle.sh_param.specs.Lookups.{with_text}
use Rattle.sh_param.specs.Parts.{follow_of}
use Rattle.sh_param.specs.Plans.{after}
use Rattle.sh_param.specs.Tildes.{starts_after}
use Rattle.sh_expand.specs.Rest.{means, next_of, rest_of, with_start}
use Rattle.sh_expand.proofs.Moving.{moved_on}
use Rattle.sh_expand.proofs.Putting.{text_halts, text_moves}
use Rattle.sh_expand.proofs.machine.Machine.plain.Goals as goal

pub returns-in_err-self-clause-moves : goal.returns-in_err-self-clause-moves
returns-in_err-self-clause-moves g c =
    let x = c.args.self.now in
    let y = c.take_pieces-pieces in
    moved_on g.B.Base.seen (after (with_text x.mode c.args.start (follow_of (means x.parts.now)) c.args.text.now x.pieces) (next_of (with_start (starts_after x.mode c.args.start c.args.text.now) x)))
    (rest_of y.new.self) c.args.view.now c.with_text.new.view c.in_err-self.field-0.0 c.from_residual.result c.from_residual.ensures.0 c.from_residual.ensures.1
    (text_halts g.B.Base.seen x y.new.self c.args.start c.follow_of-follow.result c.args.text.now y.result c.args.view.now c.with_text.new.view c.in_err-self.field-0.0
    y.ensures.rest y.ensures.pieces c.follow_of-follow.ensures c.in_err-self.ensures)

pub returns-clause-moves : goal.returns-clause-moves
returns-clause-moves g c =
    let x = c.args.self.now in
    let y = c.take_pieces-pieces in
    text_moves g.B.Base.seen x y.new.self c.args.start c.starts_after-self.result c.follow_of-follow.result c.args.text.now y.result c.in_ok-self.field-0 c.args.view.now c.with_text.new.view
    y.ensures.rest y.ensures.pieces c.follow_of-follow.ensures (c.starts_after-self.ensures ∙ ap (λ (t : List ℕ). starts_after y.new.self.mode c.args.start t) c.as_slice.ensures) c.in_ok-self.ensures
