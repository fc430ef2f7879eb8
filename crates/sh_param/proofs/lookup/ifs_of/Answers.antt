use Rattle.std.proofs.Common.{List, ℕ, ap}
use Rattle.hs_world.specs.World.{WorldData}
use Rattle.hs_view.specs.Steps.{nothing}
use Rattle.hs_view.proofs.Acting.{acts_as, acts_memory_on}
use Rattle.sh_param.specs.Lookups.{text_of, ifs_of}
use Rattle.sh_param.proofs.lookup.ifs_of.Goals as goal

pub returns-in_err-name : goal.returns-in_err-name
returns-in_err-name g c = acts_memory_on g.B.Base.seen (λ (w : WorldData). nothing (ifs_of w) w) c.args.view.now _ c.from_residual.ensures.0 c.from_residual.ensures.1

pub returns : goal.returns
returns g c =
    acts_as g.B.Base.seen (λ (w : WorldData). nothing (text_of c.in_ok-name.name w) w) (λ (w : WorldData). nothing (ifs_of w) w) c.args.view.now c.text_of.new.view c.text_of.result
    (λ u s. ap (λ (n : List ℕ). nothing (text_of n u) u) c.in_ok-name.ensures) c.text_of.ensures
