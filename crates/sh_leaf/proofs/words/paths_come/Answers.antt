use Rattle.std.proofs.Common.{List, ℕ}
use Rattle.std.specs.Prelude.{Ok}
use Rattle.hs_view.proofs.Acting.{acts_answering, acts_answering_halt, acts_on}
use Rattle.sh_glob.specs.Paths.{paths_done}
use Rattle.sh_leaf.specs.Expanding.{Came, paths_come}
use Rattle.sh_leaf.proofs.words.paths_come.Goals as goal

abbrev came : List (List ℕ) → Came (List (List ℕ))
came ts = Ok ts

pub returns-in_err-texts : goal.returns-in_err-texts
returns-in_err-texts g c =
    acts_on g.B.Base.seen (paths_come c.args.fields.now) c.args.view.now c.paths.new.view c.in_err-texts.field-0.0 _ c.from_residual.ensures.0 c.from_residual.ensures.1
    (acts_answering_halt g.B.Base.seen came (paths_done c.args.fields.now) c.args.view.now c.paths.new.view c.in_err-texts.field-0.0 c.in_err-texts.ensures.acts)

pub returns : goal.returns
returns g c = acts_answering g.B.Base.seen came (paths_done c.args.fields.now) c.args.view.now c.paths.new.view c.in_ok-texts.texts c.in_ok-texts.ensures.acts
