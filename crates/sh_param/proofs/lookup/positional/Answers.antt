use Rattle.std.proofs.Common.{List, ℕ, sym, ap, ◌∙◌, refl}
use Rattle.hs_world.specs.World.{WorldData}
use Rattle.hs_view.specs.Steps.{nothing}
use Rattle.hs_view.proofs.Acting.{acts_memory_on, acts_on, acts_read, acts_read_then, acts_unread}
use Rattle.sh_param.specs.Lookups.{positional}
use Rattle.sh_param.specs.Kinds.{number}
use Rattle.sh_param.specs.declared.value.ParamValue.{ParamValue}
use Rattle.std.proofs.Common.{◌-◌, ◌^◌}
use Rattle.std.specs.Prelude.{min}
use Rattle.sh_param.proofs.lookup.positional.Goals as goal

pub returns-in_err-zero : goal.returns-in_err-zero
returns-in_err-zero g c =
    let e = c.in_err-zero.ensures in
    acts_on g.B.Base.seen (λ (w : WorldData). nothing (positional (number 0 c.args.name.now) w.zero w.params) w) c.args.view.now c.params.new.self c.in_err-zero.field-0.0 _ c.from_residual.ensures.0 c.from_residual.ensures.1
    (acts_unread g.B.Base.seen (λ (w : WorldData). nothing (positional (number 0 c.args.name.now) w.zero w.params) w) c.args.view.now c.params.new.self c.in_err-zero.field-0.0 (record { effects = e.effects; keeps = e.keeps; fault = e.fault; trace = e.trace; through = e.through; spent = e.spent; outside = e.outside }) e.world)

pub returns-in_err-value : goal.returns-in_err-value
returns-in_err-value g c =
    let e = c.in_ok-zero.ensures in
    acts_read_then g.B.Base.seen (λ (w : WorldData). nothing (positional (number 0 c.args.name.now) w.zero w.params) w) (λ (w : WorldData). nothing (positional (number 0 c.args.name.now) w.zero w.params) w) c.args.view.now c.params.new.self c.params.new.self _ _ (record { effects = e.effects; keeps = e.keeps; fault = e.fault; trace = e.trace; through = e.through; spent = e.spent; outside = e.outside }) (λ u s. refl)
    (acts_memory_on g.B.Base.seen (λ (w : WorldData). nothing (positional (number 0 c.args.name.now) w.zero w.params) w) c.params.new.self _ c.from_residual-in_err-value.ensures.0 c.from_residual-in_err-value.ensures.1)

pub returns : goal.returns
returns g c =
    let e = c.in_ok-zero.ensures in
    acts_read g.B.Base.seen (λ (w : WorldData). nothing (positional (number 0 c.args.name.now) w.zero w.params) w) c.args.view.now c.params.new.self _ c.in_ok-value.value (record { effects = e.effects; keeps = e.keeps; fault = e.fault; trace = e.trace; through = e.through; spent = e.spent; outside = e.outside })
    (λ u s.
    ap (λ (p : List ℕ × List (List ℕ)). nothing (positional (number 0 c.args.name.now) p.0 p.1) u) (e.answer u s)
    ∙ ap (λ (v : ParamValue). nothing v u) (sym (c.in_ok-value.ensures (number 0 c.args.name.now) (c.position.ensures ∙ ap (λ (x : List ℕ). min (number 0 x) (2 ^ 128 - 1)) c.as_slice.ensures))))
