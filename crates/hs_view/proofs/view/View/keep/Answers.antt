use Rattle.std.proofs.Common.{sym, ap, ◌∙◌}
use Rattle.hs_view.specs.Known.{tables_of}
use Rattle.hs_view.proofs.Tables.{sound-kept}
use Rattle.hs_view.proofs.view.View.keep.Goals as goal

pub invariant_of-self : goal.invariant_of-self
invariant_of-self g c = sound-kept g.B.Base.seen _ _ _ _ c.self.invariant (c.requires ∙ ap (tables_of g.B.Base.seen) (sym c.self.view_is))

pub returns : goal.returns
returns g c = c.self.view_is
