use Rattle.std.proofs.Common.{List, ℕ, Bool, ap}
use Rattle.hs_view.proofs.Acting.{acts_as}
use Rattle.sh_glob.specs.Paths.{paths_done}
use Rattle.sh_glob.proofs.Whole.{is_filter}
use Rattle.sh_glob.proofs.fields.paths.Goals as goal

pub returns : goal.returns
returns g c = record {
  acts = acts_as g.B.Base.seen (paths_done c.as_slice.result.now) (paths_done c.args.fields.now) c.args.view.now c.all_paths.new.view c.all_paths.result
      (λ u s. ap (λ (fs : List (List (ℕ × Bool))). paths_done fs u) c.as_slice.ensures) c.all_paths.ensures;
  filter = is_filter;
}
