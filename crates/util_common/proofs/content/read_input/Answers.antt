use Rattle.std.proofs.Common.{List, ℕ, [], ◌∷◌, ◌++◌, sym, ap, ◌∙◌, refl}
use Rattle.hs_world.specs.declared.effect.Effect.TheVariants.{SetInput}
use Rattle.hs_view.specs.Acts.{only}
use Rattle.hs_view.proofs.Acting.{acts_on, acts_put, acts_read_then, acts_unput, acts_unread}
use Rattle.util_common.specs.Operands.{input_read}
use Rattle.util_common.proofs.content.read_input.Goals as goal

pub returns-in_err-input : goal.returns-in_err-input
returns-in_err-input g c =
    let e = c.in_err-input.ensures in
    acts_on g.B.Base.seen input_read c.args.view.now c.input.new.self c.in_err-input.field-0.0 _ c.from_residual.ensures.0 c.from_residual.ensures.1
    (acts_unread g.B.Base.seen input_read c.args.view.now c.input.new.self c.in_err-input.field-0.0 (record { effects = e.effects; keeps = e.keeps; fault = e.fault; trace = e.trace; through = e.through; spent = e.spent; outside = e.outside }) e.world)

pub put-requires : goal.put-requires
put-requires g c = record { valid = λ o u s. refl; pushed = λ w. refl }

pub returns-in_err-put : goal.returns-in_err-put
returns-in_err-put g c =
    let e = c.in_ok-input.ensures in
    let f = c.in_err-put.ensures in
    let m = only (SetInput []) c.in_ok-input.input in
    acts_read_then g.B.Base.seen m input_read c.args.view.now c.input.new.self c.put.new.self _ _ (record { effects = e.effects; keeps = e.keeps; fault = e.fault; trace = e.trace; through = e.through; spent = e.spent; outside = e.outside }) (λ u s. ap (λ (t : List ℕ). only (SetInput []) t u) (sym (e.answer u s)))
    (acts_on g.B.Base.seen m c.input.new.self c.put.new.self c.in_err-put.field-0.0 _ c.from_residual-in_err-put.ensures.0 c.from_residual-in_err-put.ensures.1
    (acts_unput g.B.Base.seen m c.input.new.self c.put.new.self (SetInput c.new.result) c.in_err-put.field-0.0 (record { reads = f.reads; effects = f.effects; keeps = f.keeps; left = f.left; full = f.full; fault = f.fault; trace = f.trace; through = f.through; spent = f.spent; long = f.long; tree = f.tree; turns = f.turns; frames = f.frames; outside = f.outside }) (λ u. ap (λ (t : List ℕ). SetInput t ∷ []) (sym c.new.ensures))))

pub returns : goal.returns
returns g c =
    let e = c.in_ok-input.ensures in
    let f = c.in_ok-put.ensures in
    let m = only (SetInput []) c.in_ok-input.input in
    acts_read_then g.B.Base.seen m input_read c.args.view.now c.input.new.self c.put.new.self _ _ (record { effects = e.effects; keeps = e.keeps; fault = e.fault; trace = e.trace; through = e.through; spent = e.spent; outside = e.outside }) (λ u s. ap (λ (t : List ℕ). only (SetInput []) t u) (sym (e.answer u s)))
    (acts_put g.B.Base.seen m c.input.new.self c.put.new.self (SetInput c.new.result) _ c.in_ok-input.input (record { reads = f.reads; effects = f.effects; keeps = f.keeps; left = f.left; full = f.full; fault = f.fault; trace = f.trace; through = f.through; spent = f.spent; long = f.long; tree = f.tree; turns = f.turns; frames = f.frames; outside = f.outside }) (λ u s. ap (λ (t : List ℕ). only (SetInput t) c.in_ok-input.input u) (sym c.new.ensures)))
