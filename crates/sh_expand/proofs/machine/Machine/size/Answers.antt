use Rattle.std.proofs.Common.{◌++◌, ◌∙◌}
use Rattle.sh_param.specs.Parts.{size_means}
use Rattle.sh_param.specs.Pieces.{expanded_all}
use Rattle.sh_param.specs.Values.{size_text}
use Rattle.sh_param.specs.declared.value.ParamValue.{ParamValue}
use Rattle.sh_expand.specs.Rest.{next_of, rest_of}
use Rattle.sh_expand.proofs.Looking.{bytes_put, looked, loops_as, moved_short, moved_unlooked}
use Rattle.sh_expand.proofs.machine.Machine.size.Goals as goal

pub returns-in_err-value-clause-moves : goal.returns-in_err-value-clause-moves
returns-in_err-value-clause-moves g c =
    let x = c.args.self.now in
    moved_unlooked {A = Unit {0}} g.B.Base.seen x.mode c.args.name.now (λ (v : ParamValue). next_of x (x.pieces ++ expanded_all x.mode (size_text v))) (rest_of x) c.args.view.now c.value_of.new.view c.in_err-value.field-0.0 _ c.from_residual.ensures.0 c.from_residual.ensures.1 c.in_err-value.ensures

pub returns-in_err-size-clause-moves : goal.returns-in_err-size-clause-moves
returns-in_err-size-clause-moves g c =
    let x = c.args.self.now in
    let v = c.in_ok-value.value in
    let k = λ (w : ParamValue). next_of x (x.pieces ++ expanded_all x.mode (size_text w)) in
    moved_short {A = Unit {0}} g.B.Base.seen (size_means x.mode c.args.name.now x.pieces (next_of x)) (k v) (rest_of x) c.args.view.now c.value_of.new.view _ c.from_residual-in_err-size.ensures.0 c.from_residual-in_err-size.ensures.1
    (looked g.B.Base.seen x.mode c.args.name.now k c.args.view.now c.value_of.new.view v c.in_ok-value.ensures)

pub returns-in_err-put_bytes-clause-moves : goal.returns-in_err-put_bytes-clause-moves
returns-in_err-put_bytes-clause-moves g c =
    let x = c.args.self.now in
    let v = c.in_ok-value.value in
    let k = λ (w : ParamValue). next_of x (x.pieces ++ expanded_all x.mode (size_text w)) in
    moved_short {A = Unit {0}} g.B.Base.seen (size_means x.mode c.args.name.now x.pieces (next_of x)) (k v) (rest_of c.put_bytes.new.self) c.args.view.now c.value_of.new.view _ c.from_residual-in_err-put_bytes.ensures.0 c.from_residual-in_err-put_bytes.ensures.1
    (looked g.B.Base.seen x.mode c.args.name.now k c.args.view.now c.value_of.new.view v c.in_ok-value.ensures)

pub returns-clause-moves : goal.returns-clause-moves
returns-clause-moves g c =
    let x = c.args.self.now in
    let v = c.in_ok-value.value in
    let k = λ (w : ParamValue). next_of x (x.pieces ++ expanded_all x.mode (size_text w)) in
    loops_as g.B.Base.seen (size_means x.mode c.args.name.now x.pieces (next_of x)) (k v) (rest_of c.put_bytes.new.self) c.args.view.now c.value_of.new.view
    (looked g.B.Base.seen x.mode c.args.name.now k c.args.view.now c.value_of.new.view v c.in_ok-value.ensures)
    (bytes_put x c.put_bytes.new.self c.as_slice.result.now (size_text v) c.in_ok-put_bytes.ensures.rest (c.as_slice.ensures ∙ c.in_ok-size.ensures))
