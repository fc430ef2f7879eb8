use Rattle.std.proofs.Common.{List, sym, ◌∙◌}
use Rattle.std.specs.Prelude.{[]}
use Rattle.sh_param.specs.Modes.{pattern}
use Rattle.sh_param.specs.Parts.{Next, put_value, trim_means, word_means}
use Rattle.sh_param.specs.Pieces.{field_of}
use Rattle.sh_param.specs.Trims.{trimmed}
use Rattle.sh_param.specs.declared.mode.Mode.{Mode}
use Rattle.sh_param.specs.declared.piece.Piece.{Piece}
use Rattle.sh_param.specs.declared.value.ParamValue.{ParamValue}
use Rattle.sh_expand.specs.Rest.{means, next_of, rest_of}
use Rattle.sh_expand.specs.Weights.{parts_weight, weight}
use Rattle.sh_expand.proofs.Looking.{aside_of, aside_weighs, looked, loops_as, moved_short, moved_unlooked}
use Rattle.sh_expand.proofs.machine.Machine.trim.Goals as goal

pub returns-in_err-value-clause-moves : goal.returns-in_err-value-clause-moves
returns-in_err-value-clause-moves g c =
    let x = c.args.self.now in
    let k = λ (v : ParamValue). word_means (pattern x.mode) (means c.args.word.now) [] (λ (qs : List Piece). put_value x.mode (trimmed c.args.op (field_of qs) v) x.pieces (next_of x)) in
    moved_unlooked {A = Unit {0}} g.B.Base.seen x.mode c.args.name.now k (rest_of x) c.args.view.now c.value_of.new.view c.in_err-value.field-0.0 _ c.from_residual.ensures.0 c.from_residual.ensures.1 c.in_err-value.ensures

pub returns-in_err-enter_aside-clause-moves : goal.returns-in_err-enter_aside-clause-moves
returns-in_err-enter_aside-clause-moves g c =
    let x = c.args.self.now in
    let v = c.in_ok-value.value in
    let k = λ (v : ParamValue). word_means (pattern x.mode) (means c.args.word.now) [] (λ (qs : List Piece). put_value x.mode (trimmed c.args.op (field_of qs) v) x.pieces (next_of x)) in
    moved_short {A = Unit {0}} g.B.Base.seen (trim_means c.args.op x.mode c.args.name.now (means c.args.word.now) x.pieces (next_of x)) (k v) (rest_of c.enter_aside.new.self) c.args.view.now c.value_of.new.view _
    c.from_residual-in_err-enter_aside.ensures.0 c.from_residual-in_err-enter_aside.ensures.1
    (looked g.B.Base.seen x.mode c.args.name.now k c.args.view.now c.value_of.new.view v c.in_ok-value.ensures)

pub returns-clause-moves : goal.returns-clause-moves
returns-clause-moves g c =
    let x = c.args.self.now in
    let v = c.in_ok-value.value in
    let k = λ (v : ParamValue). word_means (pattern x.mode) (means c.args.word.now) [] (λ (qs : List Piece). put_value x.mode (trimmed c.args.op (field_of qs) v) x.pieces (next_of x)) in
    loops_as g.B.Base.seen (trim_means c.args.op x.mode c.args.name.now (means c.args.word.now) x.pieces (next_of x)) (k v) (rest_of c.enter_aside.new.self) c.args.view.now c.value_of.new.view
    (looked g.B.Base.seen x.mode c.args.name.now k c.args.view.now c.value_of.new.view v c.in_ok-value.ensures)
    (sym (c.in_ok-enter_aside.ensures.rest
    ∙ aside_of x c.take_pieces-pieces.new.self c.place-place.result c.take_pieces-pieces.result c.pattern-mode.result (pattern x.mode) c.args.word.now (λ (m : Mode) (ps : List Piece) (j : Next) (qs : List Piece). put_value m (trimmed c.args.op (field_of qs) v) ps j)
    c.take_pieces-pieces.ensures.rest c.take_pieces-pieces.ensures.pieces c.place-place.ensures.mode c.place-place.ensures.parts c.requires c.pattern-mode.ensures))

pub returns-clause-weighs : goal.returns-clause-weighs
returns-clause-weighs g c =
    aside_weighs (weight c.enter_aside.new.self) (parts_weight c.args.word.now) c.args.self.now c.take_pieces-pieces.new.self c.place-place.result c.take_pieces-pieces.ensures.rest c.place-place.ensures.parts c.in_ok-enter_aside.ensures.weighs
