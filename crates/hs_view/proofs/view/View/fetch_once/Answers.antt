use Rattle.std.proofs.Common.{◌≡◌, ◌++◌, ◌∷◌, [], sym, ap, ◌∙◌, subst, refl, arith, T, min, ◌+◌, ◌-◌, ◌^◌}
use Rattle.hs_view.specs.Size.{capped, read_size, trace_size}
use Rattle.std.specs.Prelude.{ltb}
use Rattle.hs_world.specs.Reads.{ReadList, Passes, IsRead, Fresh}
use Rattle.hs_world.proofs.Copies.{value_copied}
use Rattle.hs_world.proofs.Passing.{read_passes, passes_back, fresh_push}
use Rattle.hs_view.proofs.Keeping.{keeps_read, ok_all}
use Rattle.hs_view.proofs.Sounds.{stands_passes, told_value, sound_asked, sound_read, judged, over_limit, size_read}
use Rattle.hs_view.proofs.Tables.{read_pushed, untold-same, untold-pushed}
use Rattle.hs_view.proofs.view.View.fetch_once.Goals as goal

pub returns-in-Some-clause-answer : goal.returns-in-Some-clause-answer
returns-in-Some-clause-answer g c = λ b t.
    read_passes c.args.self.now.reads c.args.loc.now c.in-Some.value.now b (subst (λ (rs : ReadList). IsRead rs c.args.loc.now c.in-Some.value.now) (ap (λ v. v.reads) c.self.view_is) c.in-Some.ensures)
    (stands_passes (g.B.Base.seen.tells c.args.self.now.base) _ b c.requires.writes t) ∙ sym (value_copied _ _ c.in_ok-clone.ensures.cases)

pub returns-in-Some-clause-read : goal.returns-in-Some-clause-read
returns-in-Some-clause-read g c =
    subst (λ v. IsRead c.args.self.now.reads c.args.loc.now v) (sym (value_copied _ _ c.in_ok-clone.ensures.cases)) (subst (λ (rs : ReadList). IsRead rs c.args.loc.now c.in-Some.value.now) (ap (λ v. v.reads) c.self.view_is) c.in-Some.ensures)

pub returns-in-Some-clause-fresh : goal.returns-in-Some-clause-fresh
returns-in-Some-clause-fresh g c = subst Fresh (ap (λ v. v.reads) c.self.view_is) c.self.invariant.fresh

pub returns-in-Some-clause-known : goal.returns-in-Some-clause-known
returns-in-Some-clause-known g c = untold-same c.args.loc.now c.args.self.now.reads c.args.self.now.reads refl

pub returns-in_err-clone-clause-fresh : goal.returns-in_err-clone-clause-fresh
returns-in_err-clone-clause-fresh g c = subst Fresh (ap (λ v. v.reads) c.self.view_is) c.self.invariant.fresh

pub returns-in_err-value-clause-fresh : goal.returns-in_err-value-clause-fresh
returns-in_err-value-clause-fresh g c = subst Fresh (sym c.in_err-value.ensures.unread) c.self.invariant.fresh

pub invariant_of-self : goal.invariant_of-self
invariant_of-self g c =
    sound_asked g.B.Base.seen _ _ c.self.inside.size c.self.inside.overlay c.self.invariant c.in_err-value.ensures.writes c.in_err-value.ensures.world refl c.in_err-value.ensures.unread

new_reads : (g : _) (c : goal.After-unless_over g) → c.read_base.new.reads ≡ c.args.self.now.reads ++ (c.args.loc.now, c.in_ok-value.value) ∷ []
new_reads g c = c.in_ok-value.ensures.read ∙ ap (λ v. v.reads ++ (c.args.loc.now, c.in_ok-value.value) ∷ []) c.self.view_is

size_of : (g : _) (c : goal.After-unless_over g) → c.saturating_add-self-inside.result ≡ min (c.self.inside.size + capped (read_size (c.args.loc.now, c.in_ok-value.value))) (2 ^ 128 - 1)
size_of g c = c.saturating_add-self-inside.ensures ∙ ap (λ n. min (c.self.inside.size + n) (2 ^ 128 - 1)) c.read_size.ensures

pub invariant_of-self-2 : goal.invariant_of-self-2
invariant_of-self-2 g c =
    let h = ap (λ v. (g.B.Base.seen.tells v.base).writes) c.self.view_is ∙ c.requires.writes in
    sound_read g.B.Base.seen _ _ c.self.inside.size _ c.self.inside.overlay _ c.args.loc.now c.in_ok-value.value c.self.invariant h (c.in_ok-value.ensures.writes ∙ h) refl c.in_ok-value.ensures.read c.in_default.ensures c.in_ok-value.ensures.shape (size_of g c) c.take.ensures.after

pub returns-clause-answer : goal.returns-clause-answer
returns-clause-answer g c = judged _ _ c.in_ok-value.value _ c.unless_over.ensures (λ b t.
    (passes_back c.args.self.now.reads _ b (subst (λ (rs : ReadList). Passes rs b) (new_reads g c) (stands_passes (g.B.Base.seen.tells c.args.self.now.base) _ b c.requires.writes t))).0)

pub returns-clause-keeps : goal.returns-clause-keeps
returns-clause-keeps g c =
    keeps_read g.B.Base.seen c.args.self.now _ _ ((c.args.loc.now, c.in_ok-value.value) ∷ []) (new_reads g c) (ap (λ v. v.effects) c.self.view_is) (ap (λ v. v.trace) c.self.view_is)
    (c.in_ok-value.ensures.writes ∙ ap (λ v. (g.B.Base.seen.tells v.base).writes) c.self.view_is)
    (c.in_ok-value.ensures.runs ∙ ap (λ v. (g.B.Base.seen.tells v.base).runs) c.self.view_is)
    (c.in_ok-value.ensures.asked ∙ ap (λ v. (g.B.Base.seen.tells v.base).asked) c.self.view_is)
    (c.in_ok-value.ensures.world ∙ ap (λ v. (g.B.Base.seen.tells v.base).world) c.self.view_is, λ t. absurd (subst T (sym t ∙ c.requires.writes) tt))
    (λ n. absurd (subst T (sym n ∙ c.requires.writes) tt))
    (λ w h. (told_value _ w _ _ c.in_ok-value.ensures.answer (ap (λ v. (g.B.Base.seen.tells v.base).world) c.self.view_is ∙ h), tt))
    (let e = ap (λ v. (g.B.Base.seen.tells v.base).faults) c.self.view_is in omega (arith, e, c.in_ok-value.ensures.later))

pub returns-clause-trace : goal.returns-clause-trace
returns-clause-trace g c = λ w. over_limit _ _ c.in_ok-value.value c.self.inside.trace c.saturating_add-self-inside.result _ c.unless_over.ensures (ap (λ n. ltb n c.saturating_add-self-inside.result) c.from.ensures) (size_read _ _ _ _ _ (c.self.invariant.sized (ap (λ v. (g.B.Base.seen.tells v.base).writes) c.self.view_is ∙ c.requires.writes)) (size_of g c) ∙ ap (λ rs. capped (trace_size rs c.self.inside.effects)) (sym c.in_ok-value.ensures.read)) c.self.ranges.1.1.1.1.1.0.1

pub returns-clause-read : goal.returns-clause-read
returns-clause-read g c = judged _ _ c.in_ok-value.value _ c.unless_over.ensures (read_pushed c.self.inside.reads c.args.loc.now c.in_ok-value.value _ c.in_ok-value.ensures.read)

pub returns-clause-fresh : goal.returns-clause-fresh
returns-clause-fresh g c = subst Fresh (sym c.in_ok-value.ensures.read) (fresh_push c.self.inside.reads (c.args.loc.now, c.in_ok-value.value) c.self.invariant.fresh c.in_default.ensures)

pub returns-clause-known : goal.returns-clause-known
returns-clause-known g c = ok_all c.unless_over.result (untold-pushed c.args.loc.now c.in_ok-value.value c.args.self.now.reads _ (new_reads g c))
