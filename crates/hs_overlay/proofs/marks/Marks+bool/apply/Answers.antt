use Rattle.std.proofs.Common.{ap, sym, ◌∙◌, ◌≡◌}
use Rattle.std.proofs.lemmas.Result.{on_ok_weaker}
use Rattle.std.specs.FinMap as map
use Rattle.hs_world.specs.Names.{name_cmp}
use Rattle.hs_world.proofs.Maps.{entries_from, names_total, names_same}
use Rattle.hs_overlay.specs.Names.{with_changes}
use Rattle.hs_overlay.proofs.marks.Marks+bool.apply.Goals as goal

pub returns : goal.returns
returns c =
    let k : map.entries c.args.self.now ≡ c.self.inside.entries.entries = ap map.entries (sym c.self.view_is) ∙ entries_from name_cmp names_total names_same _ c.apply_all.ensures.ordered in
    on_ok_weaker c.apply_all.result (λ e. e ∙ ap (λ es. with_changes es c.args.set.now) (sym k)) c.apply_all.ensures.changes
