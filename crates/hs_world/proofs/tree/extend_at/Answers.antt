use Rattle.std.proofs.Common.{rules, ◌≡◌, ap, sym, ◌∙◌}
use Rattle.std.specs.Prelude.{Some, None}
use Rattle.std.specs.FinMap as map
use Rattle.std.proofs.lemmas.Map.Steps.{set_value_same}
use Rattle.std.proofs.lemmas.Result.{on_ok_weaker, on_err_weaker}
use Rattle.hs_world.specs.Files.{Files, extended, extended_at}
use Rattle.hs_world.specs.Names.{path_cmp}
use Rattle.hs_world.proofs.Maps.{one_set, get_entry, paths_total, paths_same}
use Rattle.hs_world.proofs.tree.extend_at.Goals as goal

pub returns-in-Some-clause-ok : goal.returns-in-Some-clause-ok
returns-in-Some-clause-ok c =
    let t : Files = map.from_entries c.args.entries.now.entries in
    let g : map.get t c.args.path.now ≡ Some c.in-Some.entry.now = get_entry path_cmp paths_total c.args.entries.now.entries c.args.path.now ∙ sym c.in-Some.ensures.value in
    let set = one_set path_cmp paths_total paths_same c.args.entries.now.entries (c.get_mut.follows.lender c.extend_entry.new.entry).entries c.args.path.now c.extend_entry.new.entry ((c.get_mut.follows.holds c.extend_entry.new.entry).3 (search rules)).0 in
    on_ok_weaker c.extend_entry.result (λ e. set ∙ ap (map.insert t c.args.path.now) e ∙ sym (ap (λ o. extended_at o t c.args.path.now c.args.more.now) g)) c.extend_entry.ensures.ok

pub returns-in-Some-clause-err : goal.returns-in-Some-clause-err
returns-in-Some-clause-err c =
    on_err_weaker c.extend_entry.result (λ e. (c.get_mut.follows.holds c.extend_entry.new.entry).0 ∙ set_value_same _ c.args.entries.now.entries c.extend_entry.new.entry (sym c.in-Some.ensures.value ∙ ap Some (sym e))) c.extend_entry.ensures.err

pub returns-clause-ok : goal.returns-clause-ok
returns-clause-ok c =
    let t : Files = map.from_entries c.args.entries.now.entries in
    let g : map.get t c.args.path.now ≡ None = get_entry path_cmp paths_total c.args.entries.now.entries c.args.path.now ∙ sym c.in-None.ensures.value in
    let same : map.from_entries {R = path_cmp} c.get_mut.follows.lender-at-none.entries ≡ t = search rules in
    same ∙ sym (ap (λ o. extended_at o t c.args.path.now c.args.more.now) g)
