use Rattle.std.proofs.Common.{Bool, sym, ap, ◌∙◌}
use Rattle.std.specs.Prelude.{Option, if◌then◌else◌}
use Rattle.hs_world.specs.Files.{entry_at, is_dir}
use Rattle.hs_world.specs.Paths.{Path, is_step, resolve}
use Rattle.hs_world.specs.World.{WorldData}
use Rattle.hs_view.specs.Steps.{nothing}
use Rattle.hs_view.proofs.Acting.{acts_as, acts_memory_on}
use Rattle.sh_glob.specs.Places.{is_entry, is_there}
use Rattle.sh_glob.proofs.walk.is_there.Goals as goal

pub returns-then-is_step : goal.returns-then-is_step
returns-then-is_step g c =
    let at = c.args.at.now in
    let x = c.args.component.now in
    acts_as g.B.Base.seen (λ (w : WorldData). nothing (is_dir (entry_at w.tree at)) w) (λ (w : WorldData). nothing (is_there w.tree at x) w) c.args.view.now c.is_folder.new.view c.is_folder.result
    (λ u s. ap (λ (b : Bool). nothing (if b then is_dir (entry_at u.tree at) else is_entry u.tree (resolve at x)) u) (sym (ap is_step (sym c.as_slice-bytes.ensures) ∙ sym c.is_step.ensures ∙ c.if-is_step.true))) c.is_folder.ensures

pub returns-in_err-path : goal.returns-in_err-path
returns-in_err-path g c =
    acts_memory_on g.B.Base.seen (λ (w : WorldData). nothing (is_there w.tree c.args.at.now c.args.component.now) w) c.args.view.now _ c.from_residual.ensures.0 c.from_residual.ensures.1

pub returns : goal.returns
returns g c =
    let at = c.args.at.now in
    let x = c.args.component.now in
    acts_as g.B.Base.seen (λ (w : WorldData). nothing (is_entry w.tree c.in_ok-path.path) w) (λ (w : WorldData). nothing (is_there w.tree at x) w) c.args.view.now c.is_entry.new.view c.is_entry.result
    (λ u s. ap (λ (o : Option Path). nothing (is_entry u.tree o) u) (c.in_ok-path.ensures ∙ ap (resolve at) c.as_slice-bytes.ensures)
    ∙ ap (λ (b : Bool). nothing (if b then is_dir (entry_at u.tree at) else is_entry u.tree (resolve at x)) u) (sym (ap is_step (sym c.as_slice-bytes.ensures) ∙ sym c.is_step.ensures ∙ c.if-is_step.false))) c.is_entry.ensures
