use Rattle.std.proofs.Common.{rules, ◌≡◌, ap, sym, ◌∙◌, [], ◌∷◌, ◌++◌}
use Rattle.std.specs.Prelude.{Some, None}
use Rattle.std.specs.FinMap as map
use Rattle.std.proofs.lemmas.Map.Steps.{set_value_same}
use Rattle.std.proofs.lemmas.Result.{on_ok_weaker, on_err_weaker}
use Rattle.hs_world.specs.Names.{path_cmp}
use Rattle.hs_world.specs.Paths.{parent}
use Rattle.hs_world.specs.Folders.{FolderMap, known, added}
use Rattle.hs_world.proofs.Maps.{one_set, get_entry, paths_total, paths_same}
use Rattle.hs_world.proofs.Indexes.{added_told}
use Rattle.hs_world.proofs.index.Folders.add.Goals as goal

pub returns-in-Some-get_mut-clause-ok : goal.returns-in-Some-get_mut-clause-ok
returns-in-Some-get_mut-clause-ok c =
    let f : FolderMap = map.from_entries c.self.inside.tables.entries in
    let g : map.get f c.parent.result.now ≡ Some c.in-Some-get_mut.table.now = get_entry path_cmp paths_total c.self.inside.tables.entries c.parent.result.now ∙ sym c.in-Some-get_mut.ensures.value in
    let set = one_set path_cmp paths_total paths_same c.self.inside.tables.entries (c.get_mut.follows.lender c.insert.new.self).entries c.parent.result.now c.insert.new.self ((c.get_mut.follows.holds c.insert.new.self).3 (search rules)).0 in
    let p : c.args.path.now ≡ c.in-Some.field-0-1.now ++ c.in-Some.name.now ∷ [] = sym c.names.ensures.names ∙ c.in-Some.ensures.cases.0 in
    let done = added_told f c.args.path.now c.parent.result.now c.in-Some.field-0-1.now c.in-Some.name.now c.in-Some-get_mut.table.now p c.parent.ensures (ap known g) in
    on_ok_weaker c.insert.result (λ e. set ∙ ap (map.insert f c.parent.result.now) (e ∙ ap (λ n. map.insert c.in-Some-get_mut.table.now n tt) (search rules)) ∙ done ∙ ap (λ x. added x c.args.path.now) c.self.view_is) c.insert.ensures.ok

pub returns-in-Some-get_mut-clause-err : goal.returns-in-Some-get_mut-clause-err
returns-in-Some-get_mut-clause-err c =
    on_err_weaker c.insert.result (λ e. ap (λ es. map.from_entries {R = path_cmp} es) ((c.get_mut.follows.holds c.insert.new.self).0 ∙ set_value_same _ c.self.inside.tables.entries c.insert.new.self (sym c.in-Some-get_mut.ensures.value ∙ ap Some (sym e))) ∙ c.self.view_is) c.insert.ensures.err

pub returns-clause-ok : goal.returns-clause-ok
returns-clause-ok c =
    let f : FolderMap = map.from_entries c.self.inside.tables.entries in
    let g : map.get f c.parent.result.now ≡ None = get_entry path_cmp paths_total c.self.inside.tables.entries c.parent.result.now ∙ sym c.in-None.ensures.value in
    let same : map.from_entries {R = path_cmp} c.get_mut.follows.lender-at-none.entries ≡ f = search rules in
    let p : c.args.path.now ≡ c.in-Some.field-0-1.now ++ c.in-Some.name.now ∷ [] = sym c.names.ensures.names ∙ c.in-Some.ensures.cases.0 in
    let name : c.in_ok-name.name ≡ c.in-Some.name.now = search rules in
    let folder : c.in_ok-folder.folder ≡ c.args.path.now = search rules in
    let key : c.pop.new.self ≡ c.parent.result.now = c.pop.ensures ∙ ap parent folder ∙ sym c.parent.ensures in
    let value : c.insert-2.new.self ≡ map.insert map.empty c.in-Some.name.now tt = c.in_ok-insert.ensures.ok ∙ (λ i. map.insert (c.new-table.ensures i) (name i) tt) in
    let came = one_set path_cmp paths_total paths_same c.get_mut.follows.lender-at-none.entries c.insert-3.new.self.entries c.pop.new.self c.insert-2.new.self c.in_ok-insert-2.ensures.updates.0 in
    let done = added_told f c.args.path.now c.parent.result.now c.in-Some.field-0-1.now c.in-Some.name.now map.empty p c.parent.ensures (ap known g) in
    came ∙ (λ i. map.insert (same i) (key i) (value i)) ∙ done ∙ ap (λ x. added x c.args.path.now) c.self.view_is
