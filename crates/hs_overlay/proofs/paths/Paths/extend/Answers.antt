use Rattle.std.proofs.Common.{rules, ◌≡◌, ◌==◌, false, length, ap, sym, ◌∙◌}
use Rattle.std.specs.Prelude.{Some, None}
use Rattle.std.specs.FinMap as map
use Rattle.std.proofs.lemmas.Result.{on_ok_weaker}
use Rattle.hs_world.specs.Names.{path_cmp}
use Rattle.hs_world.proofs.Maps.{one_set, get_entry, paths_total, paths_same}
use Rattle.hs_overlay.specs.Paths.{PathsOver, longer, put_path}
use Rattle.hs_overlay.specs.declared.paths.PathOver.TheVariants.{Longer}
use Rattle.hs_overlay.proofs.PathLaws.{put_there}
use Rattle.hs_overlay.proofs.paths.Paths.extend.Goals as goal

pub returns-in-Some : goal.returns-in-Some
returns-in-Some c =
    let t : PathsOver = map.from_entries c.self.inside.entries.entries in
    let path = c.args.path.now in
    let more = c.args.more.now in
    let some : (length path == 0) ≡ false = ap (λ p. length p == 0) (sym c.names.ensures.names) ∙ sym c.is_empty.ensures ∙ c.if-is_empty.false in
    let g : map.get t path ≡ Some c.in-Some.over.now = get_entry path_cmp paths_total c.self.inside.entries.entries path ∙ sym c.in-Some.ensures.value in
    let set = one_set path_cmp paths_total paths_same c.self.inside.entries.entries (c.get_mut.follows.lender c.extend_over.new.over).entries path c.extend_over.new.over ((c.get_mut.follows.holds c.extend_over.new.over).3 (search rules)).0 in
    on_ok_weaker c.extend_over.result (λ e. set ∙ ap (map.insert t path) (e ∙ ap (λ o. longer o more) (sym g)) ∙ put_there path (longer (map.get t path) more) t some ∙ ap (λ m. put_path path (longer (map.get m path) more) m) c.self.view_is) c.extend_over.ensures

pub returns : goal.returns
returns c =
    let t : PathsOver = map.from_entries c.self.inside.entries.entries in
    let path = c.args.path.now in
    let more = c.args.more.now in
    let some : (length path == 0) ≡ false = ap (λ p. length p == 0) (sym c.names.ensures.names) ∙ sym c.is_empty.ensures ∙ c.if-is_empty.false in
    let g : map.get t path ≡ None = get_entry path_cmp paths_total c.self.inside.entries.entries path ∙ sym c.in-None.ensures.value in
    let same : map.from_entries {R = path_cmp} c.get_mut.follows.lender-at-none.entries ≡ t = search rules in
    let key : c.in_ok-path.path ≡ path = search rules in
    let text : c.in_ok-clone.field-0 ≡ more = search rules in
    let came = one_set path_cmp paths_total paths_same c.get_mut.follows.lender-at-none.entries c.insert.new.self.entries c.in_ok-path.path (Longer c.in_ok-clone.field-0) c.in_ok-insert.ensures.updates.0 in
    came
    ∙ (λ i. map.insert (same i) (key i) (Longer (text i)))
    ∙ ap (λ o. map.insert t path (longer o more)) (sym g)
    ∙ put_there path (longer (map.get t path) more) t some
    ∙ ap (λ m. put_path path (longer (map.get m path) more) m) c.self.view_is
