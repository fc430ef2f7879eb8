use Rattle.std.proofs.Common.{◌≡◌, [], ap, sym, ◌∙◌}
use Rattle.std.specs.Prelude.{option_copied}
use Rattle.std.specs.FinMap as map
use Rattle.hs_world.specs.Names.{name_cmp}
use Rattle.hs_world.proofs.Maps.{entries-empty, names_total, names_same}
use Rattle.hs_overlay.specs.Names.{known_over, with_changes}
use Rattle.hs_overlay.proofs.folders.changed.Goals as goal

pub returns-in-None : goal.returns-in-None
returns-in-None c =
    let e : map.entries (known_over (option_copied c.args.changes)) ≡ [] = ap (λ o. map.entries (known_over (option_copied o))) c.in-None.is ∙ entries-empty name_cmp names_total names_same in
    ap (λ es. with_changes es c.args.set) (sym e)
