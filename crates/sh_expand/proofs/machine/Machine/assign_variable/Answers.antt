use Rattle.std.proofs.Common.{sym, ◌∙◌}
use Rattle.sh_param.specs.Parts.{assigned_word, put_value, variable_means}
use Rattle.sh_param.specs.declared.value.ParamValue.{ParamValue}
use Rattle.sh_expand.specs.Rest.{means, next_of, rest_of}
use Rattle.sh_expand.proofs.Moving.{moved_then}
use Rattle.sh_expand.proofs.Looking.{absent_on, by_value, loops_as, moved_short, moved_unlooked, present_on}
use Rattle.sh_expand.proofs.machine.Machine.assign_variable.Goals as goal

pub returns-in_err-value-clause-moves : goal.returns-in_err-value-clause-moves
returns-in_err-value-clause-moves g c =
    let x = c.args.self.now in
    let gone = assigned_word x.mode c.args.name.now (means c.args.word.now) x.pieces (next_of x) in
    let kept = λ (w : ParamValue). put_value x.mode w x.pieces (next_of x) in
    moved_unlooked {A = Unit {0}} g.B.Base.seen x.mode c.args.name.now (by_value c.args.colon gone kept) (rest_of x) c.args.view.now c.value_of.new.view c.in_err-value.field-0.0 _ c.from_residual.ensures.0 c.from_residual.ensures.1 c.in_err-value.ensures

pub returns-in_err-assign_word-clause-moves : goal.returns-in_err-assign_word-clause-moves
returns-in_err-assign_word-clause-moves g c =
    let x = c.args.self.now in
    let gone = assigned_word x.mode c.args.name.now (means c.args.word.now) x.pieces (next_of x) in
    let kept = λ (w : ParamValue). put_value x.mode w x.pieces (next_of x) in
    moved_short {A = Unit {0}} g.B.Base.seen (variable_means x.mode c.args.name.now c.args.colon (means c.args.word.now) x.pieces (next_of x)) gone (rest_of c.assign_word.new.self) c.args.view.now c.value_of.new.view _
    c.from_residual-in_err-assign_word.ensures.0 c.from_residual-in_err-assign_word.ensures.1
    (absent_on g.B.Base.seen x.mode c.args.name.now c.args.colon gone kept c.args.view.now c.value_of.new.view c.in_ok-value.value c.in_ok-value.ensures (sym c.is_absent.ensures ∙ c.if-is_absent.true))

pub returns-then-is_absent-clause-moves : goal.returns-then-is_absent-clause-moves
returns-then-is_absent-clause-moves g c =
    let x = c.args.self.now in
    let gone = assigned_word x.mode c.args.name.now (means c.args.word.now) x.pieces (next_of x) in
    let kept = λ (w : ParamValue). put_value x.mode w x.pieces (next_of x) in
    loops_as g.B.Base.seen (variable_means x.mode c.args.name.now c.args.colon (means c.args.word.now) x.pieces (next_of x)) gone (rest_of c.assign_word.new.self) c.args.view.now c.value_of.new.view
    (absent_on g.B.Base.seen x.mode c.args.name.now c.args.colon gone kept c.args.view.now c.value_of.new.view c.in_ok-value.value c.in_ok-value.ensures (sym c.is_absent.ensures ∙ c.if-is_absent.true))
    (sym c.in_ok-assign_word.ensures.rest)

pub returns-clause-moves : goal.returns-clause-moves
returns-clause-moves g c =
    let x = c.args.self.now in
    let v = c.in_ok-value.value in
    let gone = assigned_word x.mode c.args.name.now (means c.args.word.now) x.pieces (next_of x) in
    let kept = λ (w : ParamValue). put_value x.mode w x.pieces (next_of x) in
    moved_then g.B.Base.seen (variable_means x.mode c.args.name.now c.args.colon (means c.args.word.now) x.pieces (next_of x)) (kept v) (rest_of c.put.new.self) c.args.view.now c.value_of.new.view c.put.new.view c.put.result
    (present_on g.B.Base.seen x.mode c.args.name.now c.args.colon gone kept c.args.view.now c.value_of.new.view v c.in_ok-value.ensures (sym c.is_absent.ensures ∙ c.if-is_absent.false)) c.put.ensures.moves
