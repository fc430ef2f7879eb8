use Rattle.std.proofs.Common.{◌≡◌, ap, sym, ◌∙◌}
use Rattle.std.specs.Prelude.{Some}
use Rattle.std.specs.FinMap as map
use Rattle.hs_world.specs.Names.{path_cmp}
use Rattle.hs_world.specs.Folders.{FolderMap, dropped}
use Rattle.hs_world.proofs.Maps.{one_removed, paths_total, paths_same}
use Rattle.hs_world.proofs.Indexes.{dropped_told}
use Rattle.hs_world.proofs.index.Folders.drop_empty.Goals.{in-Some-1, in-None-1}
use Rattle.hs_world.proofs.index.Folders.drop_empty.Goals as goal

pub returns-then-is_empty : goal.returns-then-is_empty
returns-then-is_empty c =
    let f : FolderMap = c.args.self.now in
    let g : map.get f c.args.folder.now ≡ Some c.in-Some.table.now = sym (c.in-Some.ensures ∙ ap (map.get f) c.names.ensures.names) in
    let gone : map.from_entries {R = path_cmp} c.remove.new.self.entries ≡ dropped f c.args.folder.now =
    one_removed path_cmp paths_total paths_same c.self.inside.tables.entries c.remove.new.self.entries c.args.folder.now c.remove.ensures.updates.0
    ∙ ap (λ m. map.remove m c.args.folder.now) c.self.view_is
    ∙ dropped_told f c.args.folder.now c.in-Some.table.now g (sym c.is_empty.ensures ∙ c.if-is_empty.true) in
    elim c.match-remove.branch [ in-Some-1 w ↦ w.self-is ∙ gone | in-None-1 w ↦ w.self-is ∙ gone ]
