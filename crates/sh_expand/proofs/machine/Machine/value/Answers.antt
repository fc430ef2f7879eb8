use Rattle.sh_param.specs.Parts.{put_value, value_means}
use Rattle.sh_param.specs.declared.value.ParamValue.{ParamValue}
use Rattle.sh_expand.specs.Rest.{next_of, rest_of}
use Rattle.sh_expand.proofs.Moving.{moved_then}
use Rattle.sh_expand.proofs.Looking.{looked, moved_unlooked}
use Rattle.sh_expand.proofs.machine.Machine.value.Goals as goal

pub returns-in_err-value-clause-moves : goal.returns-in_err-value-clause-moves
returns-in_err-value-clause-moves g c =
    let x = c.args.self.now in
    moved_unlooked {A = Unit {0}} g.B.Base.seen x.mode c.args.name.now (λ (v : ParamValue). put_value x.mode v x.pieces (next_of x)) (rest_of x) c.args.view.now c.value_of.new.view c.in_err-value.field-0.0 _ c.from_residual.ensures.0 c.from_residual.ensures.1 c.in_err-value.ensures

pub returns-clause-moves : goal.returns-clause-moves
returns-clause-moves g c =
    let x = c.args.self.now in
    let v = c.in_ok-value.value in
    moved_then g.B.Base.seen (value_means x.mode c.args.name.now x.pieces (next_of x)) (put_value x.mode v x.pieces (next_of x)) (rest_of c.put.new.self) c.args.view.now c.value_of.new.view c.put.new.view c.put.result
    (looked g.B.Base.seen x.mode c.args.name.now (λ (w : ParamValue). put_value x.mode w x.pieces (next_of x)) c.args.view.now c.value_of.new.view v c.in_ok-value.ensures) c.put.ensures.moves
