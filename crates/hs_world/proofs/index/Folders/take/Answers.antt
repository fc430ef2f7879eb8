use Rattle.std.proofs.Common.{rules, ◌≡◌, ap, sym, ◌∙◌, [], ◌∷◌, ◌++◌}
use Rattle.std.specs.Prelude.{Some, None}
use Rattle.std.specs.FinMap as map
use Rattle.hs_world.specs.Names.{path_cmp}
use Rattle.hs_world.specs.Folders.{FolderMap, taken}
use Rattle.hs_world.proofs.Maps.{one_set, get_entry, paths_total, paths_same}
use Rattle.hs_world.proofs.Indexes.{taken_told}
use Rattle.hs_world.proofs.index.Folders.take.Goals.{in-Some-get_mut, in-None}
use Rattle.hs_world.proofs.index.Folders.take.Goals as goal

pub returns : goal.returns
returns c =
    let f : FolderMap = map.from_entries c.self.inside.tables.entries in
    let p : c.args.path.now ≡ c.in-Some.field-0-1.now ++ c.in-Some.name.now ∷ [] = sym c.names.ensures.names ∙ c.in-Some.ensures.cases.0 in
    let there = get_entry path_cmp paths_total c.self.inside.tables.entries c.parent.result.now in
    elim c.match-get_mut.branch [
      | in-Some-get_mut w ↦
          let g : map.get f c.parent.result.now ≡ Some w.in-Some-get_mut.table.now = there ∙ sym w.in-Some-get_mut.ensures.value in
          ap (λ s. map.from_entries {R = path_cmp} s.tables.entries) w.self-inside-is
          ∙ one_set path_cmp paths_total paths_same c.self.inside.tables.entries (c.get_mut.follows.lender w.remove.new.self).entries c.parent.result.now w.remove.new.self ((c.get_mut.follows.holds w.remove.new.self).3 (search rules)).0
          ∙ ap (map.insert f c.parent.result.now) w.remove.ensures
          ∙ taken_told f c.args.path.now c.parent.result.now c.in-Some.field-0-1.now c.in-Some.name.now (Some w.in-Some-get_mut.table.now) p c.parent.ensures g
          ∙ ap (λ x. taken x c.args.path.now) c.self.view_is
      | in-None w ↦
          let g : map.get f c.parent.result.now ≡ None = there ∙ sym w.in-None.ensures.value in
          let same : map.from_entries {R = path_cmp} c.match-get_mut.self-inside.tables.entries ≡ f = search rules in
          same
          ∙ taken_told f c.args.path.now c.parent.result.now c.in-Some.field-0-1.now c.in-Some.name.now None p c.parent.ensures g
          ∙ ap (λ x. taken x c.args.path.now) c.self.view_is
    ]
