use Rattle.sh_param.specs.Parts.{put_value}
use Rattle.sh_expand.specs.Rest.{next_of, rest_of}
use Rattle.sh_expand.proofs.Moving.{moved_on}
use Rattle.sh_expand.proofs.Putting.{put_halts, put_moves}
use Rattle.sh_expand.proofs.machine.Machine.put.Goals as goal

pub returns-in_err-self-clause-moves : goal.returns-in_err-self-clause-moves
returns-in_err-self-clause-moves g c =
    let x = c.args.self.now in
    let y = c.take_pieces-pieces in
    moved_on g.B.Base.seen (put_value x.mode c.args.value.now x.pieces (next_of x)) (rest_of y.new.self) c.args.view.now c.with_value.new.view c.in_err-self.field-0.0 c.from_residual.result c.from_residual.ensures.0 c.from_residual.ensures.1
    (put_halts g.B.Base.seen x y.new.self c.args.value.now y.result c.args.view.now c.with_value.new.view c.in_err-self.field-0.0 y.ensures.rest y.ensures.pieces c.in_err-self.ensures)

pub returns-clause-moves : goal.returns-clause-moves
returns-clause-moves g c =
    let x = c.args.self.now in
    let y = c.take_pieces-pieces in
    put_moves g.B.Base.seen x y.new.self c.args.value.now y.result c.in_ok-self.field-0 c.args.view.now c.with_value.new.view y.ensures.rest y.ensures.pieces c.in_ok-self.ensures
