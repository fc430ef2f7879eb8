use Rattle.std.proofs.Common.{◌≡◌, ◌==◌, false, length, ap, sym, ◌∙◌}
use Rattle.std.specs.FinMap as map
use Rattle.hs_world.specs.Names.{path_cmp}
use Rattle.hs_world.proofs.Maps.{one_set, paths_total, paths_same}
use Rattle.hs_overlay.specs.Paths.{PathsOver, put_path}
use Rattle.hs_overlay.proofs.PathLaws.{put_there}
use Rattle.hs_overlay.proofs.paths.Paths.set.Goals as goal

pub returns : goal.returns
returns c =
    let t : PathsOver = map.from_entries c.self.inside.entries.entries in
    let some : (length c.args.path == 0) ≡ false = ap (λ p. length p == 0) (sym c.names.ensures.names) ∙ sym c.is_empty.ensures ∙ c.if-is_empty.false in
    one_set path_cmp paths_total paths_same c.self.inside.entries.entries c.insert.new.self.entries c.args.path c.args.over c.in_ok-insert.ensures.updates.0
    ∙ put_there c.args.path c.args.over t some
    ∙ ap (put_path c.args.path c.args.over) c.self.view_is
