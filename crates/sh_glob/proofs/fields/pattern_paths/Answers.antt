use Rattle.std.proofs.Common.{List, ℕ, refl, sym, ap, ◌∙◌}
use Rattle.hs_world.specs.World.{WorldData}
use Rattle.hs_view.specs.Steps.{nothing}
use Rattle.hs_view.proofs.Acting.{acts_memory_on, acts_on, acts_read, acts_read_then, acts_unread}
use Rattle.sh_glob.specs.Paths.{is_noglob, matching, or_itself, pattern_paths}
use Rattle.sh_glob.proofs.Found.{with_noglob, without_noglob}
use Rattle.sh_glob.proofs.fields.pattern_paths.Goals as goal

pub returns-in_err-opts : goal.returns-in_err-opts
returns-in_err-opts g c =
    let e = c.in_err-opts.ensures in
    let m = λ (w : WorldData). nothing (pattern_paths w c.args.field.now) w in
    acts_on g.B.Base.seen m c.args.view.now c.opts.new.self c.in_err-opts.field-0.0 _ c.from_residual.ensures.0 c.from_residual.ensures.1
    (acts_unread g.B.Base.seen m c.args.view.now c.opts.new.self c.in_err-opts.field-0.0 (record { effects = e.effects; keeps = e.keeps; fault = e.fault; trace = e.trace; through = e.through; spent = e.spent; outside = e.outside }) e.world)

pub returns-in_err-list : goal.returns-in_err-list
returns-in_err-list g c =
    let e = c.in_ok-opts.ensures in
    let m = λ (w : WorldData). nothing (pattern_paths w c.args.field.now) w in
    acts_read_then g.B.Base.seen m m c.args.view.now c.opts.new.self c.opts.new.self _ _ (record { effects = e.effects; keeps = e.keeps; fault = e.fault; trace = e.trace; through = e.through; spent = e.spent; outside = e.outside }) (λ u s. refl)
    (acts_memory_on g.B.Base.seen m c.opts.new.self _ c.from_residual-in_err-list.ensures.0 c.from_residual-in_err-list.ensures.1)

pub returns-then-is_noglob : goal.returns-then-is_noglob
returns-then-is_noglob g c =
    let e = c.in_ok-opts.ensures in
    acts_read g.B.Base.seen (λ (w : WorldData). nothing (pattern_paths w c.args.field.now) w) c.args.view.now c.opts.new.self _ c.in_ok-list.list (record { effects = e.effects; keeps = e.keeps; fault = e.fault; trace = e.trace; through = e.through; spent = e.spent; outside = e.outside })
    (λ u s. ap (λ (l : List (List ℕ)). nothing l u) (with_noglob u c.args.field.now (ap is_noglob (e.answer u s) ∙ sym c.is_noglob.ensures ∙ c.if-is_noglob.true) ∙ sym c.in_ok-list.ensures))

pub returns : goal.returns
returns g c =
    let e = c.in_ok-opts.ensures in
    let field = c.args.field.now in
    acts_read_then g.B.Base.seen (λ (w : WorldData). nothing (or_itself (matching w.tree w.cwd field) field) w) (λ (w : WorldData). nothing (pattern_paths w field) w) c.args.view.now c.opts.new.self c.matching_or_itself.new.view _ c.matching_or_itself.result (record { effects = e.effects; keeps = e.keeps; fault = e.fault; trace = e.trace; through = e.through; spent = e.spent; outside = e.outside })
    (λ u s. ap (λ (l : List (List ℕ)). nothing l u) (sym (without_noglob u field (ap is_noglob (e.answer u s) ∙ sym c.is_noglob.ensures ∙ c.if-is_noglob.false)))) c.matching_or_itself.ensures
