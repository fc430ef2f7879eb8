use Rattle.hs_view.proofs.Sounds.{shown_now, if_more}
use Rattle.hs_view.proofs.view.View.get_now.Goals as goal

pub returns-clause-answer : goal.returns-clause-answer
returns-clause-answer g c = if_more _ _ _ (λ value f. shown_now g.B.Base.seen c.args.self.now c.fetch_now.new.self c.args.loc.now value c.requires.writes f) c.fetch_now.ensures.answer
