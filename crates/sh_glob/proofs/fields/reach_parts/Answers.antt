use Rattle.hs_world.specs.Paths.{Path, begins_at}
use Rattle.hs_world.specs.World.{WorldData}
use Rattle.hs_view.specs.Steps.{nothing}
use Rattle.hs_view.proofs.Acting.{acts_first, acts_on, acts_then}
use Rattle.sh_glob.specs.Parts.{bytes_of}
use Rattle.sh_glob.specs.Places.{reached_from}
use Rattle.sh_glob.proofs.fields.reach_parts.Goals as goal

pub returns-in_err-at : goal.returns-in_err-at
returns-in_err-at g c =
    let field = c.args.field.now in
    let parts = c.args.parts.now in
    let one = λ (w : WorldData). nothing (begins_at w.cwd (bytes_of field)) w in
    let more = λ (at : Path) (w : WorldData). nothing (reached_from w.tree at parts) w in
    acts_on g.B.Base.seen (λ (w : WorldData). nothing (reached_from w.tree (begins_at w.cwd (bytes_of field)) parts) w) c.args.view.now c.beginning.new.view c.in_err-at.field-0.0 _ c.from_residual.ensures.0 c.from_residual.ensures.1
    (acts_first g.B.Base.seen one more c.args.view.now c.beginning.new.view c.in_err-at.field-0.0 c.in_err-at.ensures)

pub returns : goal.returns
returns g c =
    let field = c.args.field.now in
    let parts = c.args.parts.now in
    let one = λ (w : WorldData). nothing (begins_at w.cwd (bytes_of field)) w in
    let more = λ (at : Path) (w : WorldData). nothing (reached_from w.tree at parts) w in
    acts_then g.B.Base.seen one more c.args.view.now c.beginning.new.view c.reach_from.new.view c.in_ok-at.at c.reach_from.result c.in_ok-at.ensures c.reach_from.ensures
