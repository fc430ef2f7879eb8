use Rattle.std.proofs.Common.{Bool, ℕ, List, sym, ap, ◌∙◌}
use Rattle.sh_param.specs.Parts.{put_value}
use Rattle.sh_param.specs.Pieces.{field_of}
use Rattle.sh_param.specs.Trims.{trimmed}
use Rattle.sh_param.specs.declared.value.ParamValue.{ParamValue}
use Rattle.sh_expand.specs.Rest.{behind_parts, place_means, rest_of}
use Rattle.sh_expand.proofs.Ending.{moved_from}
use Rattle.sh_expand.proofs.Moving.{moved_memory}
use Rattle.sh_expand.proofs.machine.Machine.end_trim.Goals as goal

pub returns-in_err-field-clause-moves : goal.returns-in_err-field-clause-moves
returns-in_err-field-clause-moves g c =
    let x = c.args.self.now in
    let p = c.args.place in
    moved_memory {A = Unit {0}} g.B.Base.seen (put_value p.mode (trimmed c.args.op (field_of x.pieces) c.args.value.now) c.args.pieces (place_means p (behind_parts x))) (rest_of x) c.args.view.now _ c.from_residual.ensures.0 c.from_residual.ensures.1

pub returns-in_err-value-clause-moves : goal.returns-in_err-value-clause-moves
returns-in_err-value-clause-moves g c =
    let x = c.args.self.now in
    let p = c.args.place in
    moved_memory {A = Unit {0}} g.B.Base.seen (put_value p.mode (trimmed c.args.op (field_of x.pieces) c.args.value.now) c.args.pieces (place_means p (behind_parts x))) (rest_of x) c.args.view.now _ c.from_residual-in_err-value.ensures.0 c.from_residual-in_err-value.ensures.1

pub returns-clause-moves : goal.returns-clause-moves
returns-clause-moves g c =
    let x = c.args.self.now in
    let p = c.args.place in
    let k = place_means p (behind_parts x) in
    moved_from g.B.Base.seen (put_value p.mode (trimmed c.args.op (field_of x.pieces) c.args.value.now) c.args.pieces k) (put_value p.mode c.in_ok-value.value c.args.pieces k) (rest_of c.resume_behind.new.self) c.args.view.now c.resume_behind.new.view c.resume_behind.result
    (ap (λ (v : ParamValue). put_value p.mode v c.args.pieces k) (sym (c.in_ok-value.ensures ∙ ap (λ (f : List (ℕ × Bool)). trimmed c.args.op f c.args.value.now) c.in_ok-field.ensures))) c.resume_behind.ensures.moves
