use Rattle.std.proofs.Common.{Bool}
use Rattle.hs_world.specs.World.{WorldData}
use Rattle.sh_glob.specs.Places.{is_there, one_if}
use Rattle.sh_glob.proofs.Acted.{acts_made, acts_made_halt, acts_made_short}
use Rattle.sh_glob.proofs.walk.itself.Goals as goal

pub returns-in_err-exists : goal.returns-in_err-exists
returns-in_err-exists g c =
    let at = c.args.at.now in
    let x = c.args.bytes.now in
    acts_made_halt g.B.Base.seen (λ (w : WorldData). is_there w.tree at x) (λ (b : Bool). one_if b x) c.args.view.now c.is_there.new.view c.in_err-exists.field-0.0 _ c.from_residual.ensures.0 c.from_residual.ensures.1 c.in_err-exists.ensures

pub returns-in_err-choices : goal.returns-in_err-choices
returns-in_err-choices g c =
    let at = c.args.at.now in
    let x = c.args.bytes.now in
    acts_made_short g.B.Base.seen (λ (w : WorldData). is_there w.tree at x) (λ (b : Bool). one_if b x) c.args.view.now c.is_there.new.view c.in_ok-exists.exists _ c.from_residual-in_err-choices.ensures.0 c.from_residual-in_err-choices.ensures.1 c.in_ok-exists.ensures

pub returns : goal.returns
returns g c =
    let at = c.args.at.now in
    let x = c.args.bytes.now in
    acts_made g.B.Base.seen (λ (w : WorldData). is_there w.tree at x) (λ (b : Bool). one_if b x) c.args.view.now c.is_there.new.view c.in_ok-exists.exists c.in_ok-choices.choices c.in_ok-choices.ensures c.in_ok-exists.ensures
