use Rattle.std.proofs.Common.{rules, ◌≡◌, ap, sym, ◌∙◌, [], ◌∷◌, ◌++◌}
use Rattle.std.specs.Prelude.{Some, None}
use Rattle.std.specs.FinMap as map
use Rattle.std.proofs.lemmas.Result.{on_ok_weaker}
use Rattle.hs_world.specs.Names.{path_cmp}
use Rattle.hs_world.specs.Paths.{parent}
use Rattle.hs_world.proofs.Maps.{one_set, get_entry, paths_total, paths_same}
use Rattle.hs_overlay.specs.Names.{FoldersOver, known_over, marked}
use Rattle.hs_overlay.proofs.NameLaws.{marked_told}
use Rattle.hs_overlay.proofs.folders.Folders.mark.Goals as goal

pub returns-in-Some-get_mut : goal.returns-in-Some-get_mut
returns-in-Some-get_mut c =
    let f : FoldersOver = map.from_entries c.self.inside.tables.entries in
    let g : map.get f c.parent.result.now ≡ Some c.in-Some-get_mut.table.now = get_entry path_cmp paths_total c.self.inside.tables.entries c.parent.result.now ∙ sym c.in-Some-get_mut.ensures.value in
    let set = one_set path_cmp paths_total paths_same c.self.inside.tables.entries (c.get_mut.follows.lender c.insert.new.self).entries c.parent.result.now c.insert.new.self ((c.get_mut.follows.holds c.insert.new.self).3 (search rules)).0 in
    let p : c.args.path.now ≡ c.in-Some.field-0-1.now ++ c.in-Some.name.now ∷ [] = sym c.names.ensures.names ∙ c.in-Some.ensures.cases.0 in
    let done = marked_told c.args.came f c.args.path.now c.parent.result.now c.in-Some.field-0-1.now c.in-Some.name.now c.in-Some-get_mut.table.now p c.parent.ensures (ap known_over g) in
    on_ok_weaker c.insert.result (λ e. set ∙ ap (map.insert f c.parent.result.now) (e ∙ ap (λ n. map.insert c.in-Some-get_mut.table.now n c.args.came) (search rules)) ∙ done ∙ ap (λ x. marked c.args.came x c.args.path.now) c.self.view_is) c.insert.ensures.ok

pub returns : goal.returns
returns c =
    let f : FoldersOver = map.from_entries c.self.inside.tables.entries in
    let g : map.get f c.parent.result.now ≡ None = get_entry path_cmp paths_total c.self.inside.tables.entries c.parent.result.now ∙ sym c.in-None.ensures.value in
    let same : map.from_entries {R = path_cmp} c.get_mut.follows.lender-at-none.entries ≡ f = search rules in
    let p : c.args.path.now ≡ c.in-Some.field-0-1.now ++ c.in-Some.name.now ∷ [] = sym c.names.ensures.names ∙ c.in-Some.ensures.cases.0 in
    let name : c.in_ok-name.name ≡ c.in-Some.name.now = search rules in
    let folder : c.in_ok-folder.folder ≡ c.args.path.now = search rules in
    let key : c.pop.new.self ≡ c.parent.result.now = c.pop.ensures ∙ ap parent folder ∙ sym c.parent.ensures in
    let value : c.insert-2.new.self ≡ map.insert map.empty c.in-Some.name.now c.args.came = c.in_ok-insert.ensures.ok ∙ (λ i. map.insert (c.new-table.ensures i) (name i) c.args.came) in
    let came = one_set path_cmp paths_total paths_same c.get_mut.follows.lender-at-none.entries c.insert-3.new.self.entries c.pop.new.self c.insert-2.new.self c.in_ok-insert-2.ensures.updates.0 in
    let done = marked_told c.args.came f c.args.path.now c.parent.result.now c.in-Some.field-0-1.now c.in-Some.name.now map.empty p c.parent.ensures (ap known_over g) in
    came ∙ (λ i. map.insert (same i) (key i) (value i)) ∙ done ∙ ap (λ x. marked c.args.came x c.args.path.now) c.self.view_is
