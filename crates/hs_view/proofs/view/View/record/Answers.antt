use Rattle.std.proofs.Common.{◌≡◌, ◌+◌, ◌-◌, ◌^◌, ◌++◌, ◌∷◌, [], min, ltb, true, sym, ap, ◌∙◌, refl, subst}
use Rattle.hs_world.specs.World.{WorldData, is_valid}
use Rattle.hs_overlay.specs.Overlay.{over_step}
use Rattle.hs_overlay.specs.Sizes.{over_passes}
use Rattle.hs_view.specs.Known.{tables_of}
use Rattle.hs_view.specs.Pushes.{has_push}
use Rattle.hs_view.specs.Size.{capped, effect_size, trace_size}
use Rattle.hs_view.specs.View.{Showed}
use Rattle.hs_view.proofs.Putting.{if-err, if-ok, puts-as, puts-from, puts-made, puts-none, size-put, sound-as, sound-put}
use Rattle.hs_view.proofs.view.View.record.Goals as goal

pub invariant_of-self : goal.invariant_of-self
invariant_of-self g c =
    let same = if-err c.push.result (sym c.is_err.ensures.value ∙ c.if-is_err.true) c.push.ensures.err in
    sound-as g.B.Base.seen _ _ c.self.inside.size c.self.inside.overlay c.self.invariant (λ i. record { base = c.self.inside.base; reads = c.self.inside.reads; effects = same i; trace = c.self.inside.trace })

pub returns-then-is_err : goal.returns-then-is_err
returns-then-is_err g c =
    let same = if-err c.push.result (sym c.is_err.ensures.value ∙ c.if-is_err.true) c.push.ensures.err in
    puts-as g.B.Base.seen _ _ c.args.effect _ (puts-none g.B.Base.seen c.args.self.now c.args.effect) ((λ i. record { base = c.self.inside.base; reads = c.self.inside.reads; effects = same i; trace = c.self.inside.trace }) ∙ c.self.view_is)

size_of : (g : _) (c : goal.After-unless_past g) → c.saturating_add-size.result ≡ min (64 + capped (effect_size c.args.effect)) (2 ^ 128 - 1)
size_of g c = c.saturating_add-size.ensures ∙ ap (λ n. min (64 + n) (2 ^ 128 - 1)) c.effect_size.ensures

more : (g : _) (c : goal.After-unless_past g) → c.push.new.self ≡ c.self.inside.effects ++ c.args.effect ∷ []
more g c = if-ok c.push.result (sym c.is_err.ensures.value ∙ c.if-is_err.false) c.push.ensures.ok

pub invariant_of-self-2 : goal.invariant_of-self-2
invariant_of-self-2 g c =
    sound-put g.B.Base.seen _ _ c.args.effect c.self.inside.size _ c.saturating_add-size.result c.self.inside.overlay _ c.args.overlay c.self.invariant (ap (λ v. (g.B.Base.seen.tells v.base).writes) c.self.view_is ∙ c.requires.writes) refl refl (more g c)
    (subst (λ v. (w : WorldData) → Showed g.B.Base.seen v v w → is_valid c.args.effect w ≡ true) (sym c.self.view_is) c.requires.valid)
    (ap (λ v. has_push c.args.effect v.effects) c.self.view_is ∙ c.requires.pushed)
    (c.requires.tables ∙ sym (ap (λ v. over_step c.args.effect (tables_of g.B.Base.seen v)) c.self.view_is))
    (size_of g c) c.saturating_add-self-inside.ensures c.replace.ensures.after

pub returns : goal.returns
returns g c =
    let w = ap (λ v. (g.B.Base.seen.tells v.base).writes) c.self.view_is ∙ c.requires.writes in
    puts-from g.B.Base.seen _ _ _ c.args.effect c.unless_past.result c.self.view_is
    (puts-made g.B.Base.seen _ _ c.args.effect c.unless_past.result _ tt c.saturating_add-self-inside.result w refl refl (more g c) refl (ap (λ v. over_passes c.args.effect (tables_of g.B.Base.seen v)) c.self.view_is ∙ c.requires.short)
    c.unless_past.ensures (ap (λ n. ltb n c.saturating_add-self-inside.result) c.from.ensures)
    (size-put c.self.inside.reads c.self.inside.effects c.args.effect c.self.inside.size _ c.saturating_add-size.result (c.self.invariant.sized w) (size_of g c) c.saturating_add-self-inside.ensures ∙ ap (λ es. capped (trace_size c.self.inside.reads es)) (sym (more g c)))
    c.self.ranges.1.1.1.1.1.0.1)
