use Rattle.std.proofs.Common.{ap, sym, ◌∙◌, ◌≡◌}
use Rattle.std.specs.FinMap as map
use Rattle.std.specs.Map.{keys_of}
use Rattle.hs_world.specs.Names.{name_cmp}
use Rattle.hs_world.proofs.Maps.{keys_from, names_total, names_same}
use Rattle.hs_overlay.proofs.marks.Marks+unit.names.Goals as goal

pub returns : goal.returns
returns c =
    let k : map.keys c.args.self.now ≡ keys_of c.self.inside.entries.entries = ap map.keys (sym c.self.view_is) ∙ keys_from name_cmp names_total names_same _ c.names_of.ensures.ordered in
    rw k c.names_of.ensures.names
