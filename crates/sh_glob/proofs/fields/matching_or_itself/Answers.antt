use Rattle.std.proofs.Common.{List, ℕ}
use Rattle.hs_world.specs.World.{WorldData}
use Rattle.sh_glob.specs.Paths.{matching, or_itself}
use Rattle.sh_glob.proofs.Acted.{acts_made, acts_made_halt, acts_made_short}
use Rattle.sh_glob.proofs.fields.matching_or_itself.Goals as goal

pub returns-in_err-paths : goal.returns-in_err-paths
returns-in_err-paths g c =
    let field = c.args.field.now in
    acts_made_halt g.B.Base.seen (λ (w : WorldData). matching w.tree w.cwd field) (λ (ps : List (List ℕ)). or_itself ps field) c.args.view.now c.matching.new.view c.in_err-paths.field-0.0 _ c.from_residual.ensures.0 c.from_residual.ensures.1 c.in_err-paths.ensures

pub returns-in_err-list : goal.returns-in_err-list
returns-in_err-list g c =
    let field = c.args.field.now in
    acts_made_short g.B.Base.seen (λ (w : WorldData). matching w.tree w.cwd field) (λ (ps : List (List ℕ)). or_itself ps field) c.args.view.now c.matching.new.view c.in_ok-paths.paths _ c.from_residual-in_err-list.ensures.0 c.from_residual-in_err-list.ensures.1 c.in_ok-paths.ensures

pub returns : goal.returns
returns g c =
    let field = c.args.field.now in
    acts_made g.B.Base.seen (λ (w : WorldData). matching w.tree w.cwd field) (λ (ps : List (List ℕ)). or_itself ps field) c.args.view.now c.matching.new.view c.in_ok-paths.paths c.in_ok-list.list c.in_ok-list.ensures c.in_ok-paths.ensures
