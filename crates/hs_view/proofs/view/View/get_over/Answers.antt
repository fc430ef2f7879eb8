use Rattle.std.proofs.Common.{◌≡◌, sym, ◌∙◌, subst}
use Rattle.hs_world.specs.World.{WorldData, At}
use Rattle.hs_overlay.specs.Shown.{over_value}
use Rattle.hs_view.specs.View.{Showed, Stands}
use Rattle.hs_view.proofs.Sounds.{if_more}
use Rattle.hs_view.proofs.Fetching.{fetches_before, fetches_ok, fetches_on, fetches_short, fetches_then}
use Rattle.hs_view.proofs.Tables.{own-answer, own-shape, over-answer}
use Rattle.hs_view.proofs.view.View.get_over.Goals as goal

pub returns-in_err-overlay-clause-fetches : goal.returns-in_err-overlay-clause-fetches
returns-in_err-overlay-clause-fetches g c =
    fetches_on g.B.Base.seen c.args.self.now c.settled.new.self c.in_err-overlay.field-0.0 _ c.in_err-overlay.ensures.fetches c.from_residual.ensures.0 c.from_residual.ensures.1

pub returns-in_err-value-clause-fetches : goal.returns-in_err-value-clause-fetches
returns-in_err-value-clause-fetches g c = fetches_short g.B.Base.seen c.args.self.now c.settled.new.self c.in_ok-overlay.overlay _ c.in_ok-overlay.ensures.fetches c.from_residual-in_err-value.ensures.0 c.from_residual-in_err-value.ensures.1

pub keep-requires : goal.keep-requires
keep-requires g c = c.in_ok-overlay.ensures.tables.is

pub get_under-requires-clause-writes : goal.get_under-requires-clause-writes
get_under-requires-clause-writes g c = c.in_ok-overlay.ensures.fetches.keeps.writes ∙ c.requires.writes

pub get_under-requires-clause-tables : goal.get_under-requires-clause-tables
get_under-requires-clause-tables g c = c.in_ok-overlay.ensures.tables.is

pub returns-in-Some-clause-answer : goal.returns-in-Some-clause-answer
returns-in-Some-clause-answer g c = λ u s.
    let e = c.in_ok-overlay.ensures in
    own-answer g.B.Base.seen c.args.self.now c.settled.new.self c.args.loc.now c.in_ok-overlay.overlay c.in-Some.value c.requires.writes e.fetches.keeps.writes e.fetches.effects e.tables e.settled (sym c.in_ok-value.ensures ∙ c.in-Some.is) u
    (subst (λ v. Showed g.B.Base.seen c.args.self.now v u) c.keep.ensures s)

pub returns-in-Some-clause-shape : goal.returns-in-Some-clause-shape
returns-in-Some-clause-shape g c = own-shape c.in_ok-overlay.overlay c.args.loc.now c.in-Some.value (sym c.in_ok-value.ensures ∙ c.in-Some.is)

pub returns-in-Some-clause-fetches : goal.returns-in-Some-clause-fetches
returns-in-Some-clause-fetches g c =
    fetches_before g.B.Base.seen c.args.self.now c.settled.new.self c.keep.new.self _ c.keep.ensures (fetches_ok g.B.Base.seen c.args.self.now c.settled.new.self c.in_ok-overlay.overlay c.in-Some.value c.in_ok-overlay.ensures.fetches)

pub returns-in-None-clause-answer : goal.returns-in-None-clause-answer
returns-in-None-clause-answer g c =
    let e = c.in_ok-overlay.ensures in
    let o = c.in_ok-overlay.overlay in
    if_more c.get_under.result (λ x. (b : WorldData) → Stands (g.B.Base.seen.tells c.settled.new.self.base) c.get_under.new.self.reads b → over_value o c.args.loc.now (At b c.args.loc.now) ≡ x)
    (λ x. (u : WorldData) → Showed g.B.Base.seen c.args.self.now c.get_under.new.self u → At u c.args.loc.now ≡ x)
    (λ x f u s.
    over-answer g.B.Base.seen c.args.self.now c.settled.new.self c.get_under.new.self c.args.loc.now o x c.requires.writes e.fetches.keeps.writes e.fetches.effects e.tables e.settled (sym c.in_ok-value.ensures ∙ c.in-None.is)
    c.get_under.ensures.fetches.keeps.reads f u s)
    c.get_under.ensures.value

pub returns-in-None-clause-fetches : goal.returns-in-None-clause-fetches
returns-in-None-clause-fetches g c =
    fetches_then g.B.Base.seen c.args.self.now c.settled.new.self c.get_under.new.self c.in_ok-overlay.overlay _ c.in_ok-overlay.ensures.fetches c.get_under.ensures.fetches
