use Rattle.std.proofs.Common.{ap, ◌∙◌, subst}
use Rattle.hs_overlay.specs.Overlay.{no_overlay, over_all}
use Rattle.hs_view.specs.Known.{Tabled, ends_in, routes_in}
use Rattle.hs_view.proofs.Tables.{tabled-built}
use Rattle.hs_view.proofs.view.View.build.Goals as goal

pub returns-in-Ok-clause-tables : goal.returns-in-Ok-clause-tables
returns-in-Ok-clause-tables g c =
    subst (λ v. Tabled g.B.Base.seen v c.in-Ok.overlay) c.self.view_is
    (tabled-built g.B.Base.seen _ _ _ c.in-Ok.overlay c.self.invariant (ap (λ v. (g.B.Base.seen.tells v.base).writes) c.self.view_is ∙ c.requires.writes)
    (c.in-Ok.ensures ∙ ap (λ es. over_all es (no_overlay (ends_in c.self.inside.reads) (routes_in c.self.inside.reads))) c.as_slice.ensures))
