use Rattle.std.proofs.Common.{◌≡◌, false, ap, ◌∙◌, refl, subst}
use Rattle.std.specs.Prelude.{IfSome}
use Rattle.hs_overlay.specs.Shown.{lacks}
use Rattle.hs_view.specs.Known.{Sure}
use Rattle.hs_view.proofs.Fetching.{fetches_after, fetches_less, fetches_on, fetches_still, fetches_then}
use Rattle.hs_view.proofs.view.View.settled.Goals as goal

pub returns-in_err-overlay-clause-fetches : goal.returns-in_err-overlay-clause-fetches
returns-in_err-overlay-clause-fetches g c =
    fetches_less g.B.Base.seen c.args.self.now c.sure.new.self c.in_err-overlay.field-0.0 _ c.sure.ensures.same (c.in_err-overlay.ensures.halt _ refl) c.from_residual.ensures.0 c.from_residual.ensures.1

pub returns-in-Some-clause-settled : goal.returns-in-Some-clause-settled
returns-in-Some-clause-settled g c = Sure (subst (λ x. IfSome x (λ o. lacks o c.args.loc.now ≡ false)) c.in-Some.is c.in_ok-overlay.ensures.settled)

pub returns-in-Some-clause-fetches : goal.returns-in-Some-clause-fetches
returns-in-Some-clause-fetches g c = fetches_still g.B.Base.seen c.args.self.now c.sure.new.self c.in-Some.overlay c.sure.ensures.same

pub returns-in_err-learn_ends-in-None-clause-fetches : goal.returns-in_err-learn_ends-in-None-clause-fetches
returns-in_err-learn_ends-in-None-clause-fetches g c =
    fetches_after g.B.Base.seen c.args.self.now c.sure.new.self c.learn_ends.new.self _ c.sure.ensures.same
    (fetches_on g.B.Base.seen c.sure.new.self c.learn_ends.new.self c.in_err-learn_ends-in-None.field-0.0 _ c.in_err-learn_ends-in-None.ensures.fetches c.from_residual-in_err-learn_ends-in-None.ensures.0 c.from_residual-in_err-learn_ends-in-None.ensures.1)

pub settled_further-requires-clause-writes : goal.settled_further-requires-clause-writes
settled_further-requires-clause-writes g c = c.in_ok-learn_ends-in-None.ensures.fetches.keeps.writes ∙ ap (λ v. (g.B.Base.seen.tells v.base).writes) c.sure.ensures.same ∙ c.requires.writes

pub returns-in_ok-learn_ends-in-None-clause-fetches : goal.returns-in_ok-learn_ends-in-None-clause-fetches
returns-in_ok-learn_ends-in-None-clause-fetches g c =
    fetches_then g.B.Base.seen c.args.self.now c.learn_ends.new.self c.settled_further.new.self tt _ (fetches_after g.B.Base.seen c.args.self.now c.sure.new.self c.learn_ends.new.self _ c.sure.ensures.same c.in_ok-learn_ends-in-None.ensures.fetches)
    c.settled_further.ensures.fetches
