use Rattle.std.proofs.Common.{sym, ◌∙◌}
use Rattle.sh_param.specs.Parts.{error_means, error_word, put_value}
use Rattle.sh_param.specs.declared.value.ParamValue.{ParamValue}
use Rattle.sh_expand.specs.Rest.{means, next_of, rest_of}
use Rattle.sh_expand.proofs.Moving.{loops_then, tried_on}
use Rattle.sh_expand.proofs.Looking.{absent_on, by_value, error_on, halted_on, present_on, tried_short, tried_unlooked}
use Rattle.sh_expand.proofs.machine.Machine.error.Goals as goal

pub returns-in_err-value-clause-moves : goal.returns-in_err-value-clause-moves
returns-in_err-value-clause-moves g c =
    let x = c.args.self.now in
    let gone = error_word x.mode c.args.name.now (means c.args.word.now) in
    let kept = λ (w : ParamValue). put_value x.mode w x.pieces (next_of x) in
    tried_unlooked g.B.Base.seen x.mode c.args.name.now (by_value c.args.colon gone kept) (rest_of x) c.args.view.now c.value_of.new.view c.in_err-value.field-0.0 _ c.from_residual.ensures.0 c.from_residual.ensures.1 c.in_err-value.ensures

pub returns-in_err-why-clause-moves : goal.returns-in_err-why-clause-moves
returns-in_err-why-clause-moves g c =
    let x = c.args.self.now in
    let gone = error_word x.mode c.args.name.now (means c.args.word.now) in
    let kept = λ (w : ParamValue). put_value x.mode w x.pieces (next_of x) in
    tried_short g.B.Base.seen (error_means x.mode c.args.name.now c.args.colon (means c.args.word.now) x.pieces (next_of x)) gone (rest_of c.error_word.new.self) c.args.view.now c.value_of.new.view _
    c.from_residual-in_err-why.ensures.0 c.from_residual-in_err-why.ensures.1
    (absent_on g.B.Base.seen x.mode c.args.name.now c.args.colon gone kept c.args.view.now c.value_of.new.view c.in_ok-value.value c.in_ok-value.ensures (sym c.is_absent.ensures ∙ c.if-is_absent.true))

pub returns-then-is_absent-clause-moves : goal.returns-then-is_absent-clause-moves
returns-then-is_absent-clause-moves g c =
    let x = c.args.self.now in
    let gone = error_word x.mode c.args.name.now (means c.args.word.now) in
    let kept = λ (w : ParamValue). put_value x.mode w x.pieces (next_of x) in
    error_on g.B.Base.seen (error_means x.mode c.args.name.now c.args.colon (means c.args.word.now) x.pieces (next_of x)) gone (rest_of c.error_word.new.self) c.args.view.now c.value_of.new.view c.in_ok-why.why
    (absent_on g.B.Base.seen x.mode c.args.name.now c.args.colon gone kept c.args.view.now c.value_of.new.view c.in_ok-value.value c.in_ok-value.ensures (sym c.is_absent.ensures ∙ c.if-is_absent.true))
    c.in_ok-why.ensures.word

pub returns-in_err-put-clause-moves : goal.returns-in_err-put-clause-moves
returns-in_err-put-clause-moves g c =
    let x = c.args.self.now in
    let v = c.in_ok-value.value in
    let h = c.in_err-put.field-0.0 in
    let p = error_means x.mode c.args.name.now c.args.colon (means c.args.word.now) x.pieces (next_of x) in
    let gone = error_word x.mode c.args.name.now (means c.args.word.now) in
    let kept = λ (w : ParamValue). put_value x.mode w x.pieces (next_of x) in
    tried_on g.B.Base.seen p (rest_of c.put.new.self) c.args.view.now c.put.new.view h _ c.from_residual-in_err-put.ensures.0 c.from_residual-in_err-put.ensures.1
    (halted_on g.B.Base.seen p (kept v) c.args.view.now c.value_of.new.view c.put.new.view h
    (present_on g.B.Base.seen x.mode c.args.name.now c.args.colon gone kept c.args.view.now c.value_of.new.view v c.in_ok-value.ensures (sym c.is_absent.ensures ∙ c.if-is_absent.false)) c.in_err-put.ensures.moves)

pub returns-clause-moves : goal.returns-clause-moves
returns-clause-moves g c =
    let x = c.args.self.now in
    let v = c.in_ok-value.value in
    let p = error_means x.mode c.args.name.now c.args.colon (means c.args.word.now) x.pieces (next_of x) in
    let gone = error_word x.mode c.args.name.now (means c.args.word.now) in
    let kept = λ (w : ParamValue). put_value x.mode w x.pieces (next_of x) in
    loops_then g.B.Base.seen p (kept v) (rest_of c.put.new.self) c.args.view.now c.value_of.new.view c.put.new.view
    (present_on g.B.Base.seen x.mode c.args.name.now c.args.colon gone kept c.args.view.now c.value_of.new.view v c.in_ok-value.ensures (sym c.is_absent.ensures ∙ c.if-is_absent.false)) c.in_ok-put.ensures.moves
