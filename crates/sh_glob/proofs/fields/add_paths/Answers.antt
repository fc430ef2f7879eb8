use Rattle.std.proofs.Common.{List, ℕ, ◌++◌, ap, ◌∙◌}
use Rattle.hs_world.specs.World.{WorldData}
use Rattle.sh_glob.specs.Paths.{field_paths}
use Rattle.sh_glob.proofs.Acted.{acts_made, acts_made_halt, acts_made_short}
use Rattle.sh_glob.proofs.fields.add_paths.Goals as goal

pub returns-in_err-paths : goal.returns-in_err-paths
returns-in_err-paths g c =
    acts_made_halt g.B.Base.seen (λ (w : WorldData). field_paths w c.args.field.now) (λ (ps : List (List ℕ)). c.args.list ++ ps) c.args.view.now c.field_paths.new.view c.in_err-paths.field-0.0 _ c.from_residual.ensures.0 c.from_residual.ensures.1 c.in_err-paths.ensures

pub returns-in_err-all : goal.returns-in_err-all
returns-in_err-all g c =
    acts_made_short g.B.Base.seen (λ (w : WorldData). field_paths w c.args.field.now) (λ (ps : List (List ℕ)). c.args.list ++ ps) c.args.view.now c.field_paths.new.view c.in_ok-paths.paths _ c.from_residual-in_err-all.ensures.0 c.from_residual-in_err-all.ensures.1 c.in_ok-paths.ensures

pub returns : goal.returns
returns g c =
    acts_made g.B.Base.seen (λ (w : WorldData). field_paths w c.args.field.now) (λ (ps : List (List ℕ)). c.args.list ++ ps) c.args.view.now c.field_paths.new.view c.in_ok-paths.paths c.in_ok-all.all (c.in_ok-all.ensures ∙ ap (λ (ps : List (List ℕ)). c.args.list ++ ps) c.as_slice.ensures) c.in_ok-paths.ensures
