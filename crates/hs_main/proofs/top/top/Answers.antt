use Rattle.std.proofs.Common.{refl}
use Rattle.hs_drive.proofs.Commits.{rose-on}
use Rattle.hs_main.proofs.Tops.{words-later, words-complete}
use Rattle.hs_main.proofs.top.top.Goals as goal

pub returns-clause-tops : goal.returns-clause-tops
returns-clause-tops g c = record {
  ran = record { out = g.O.Sink.written c.run_words-ending.new.out; err = g.E.Sink.written c.run_words-ending.new.err };
  runs = words-later _ _ _ _ _ _ _ _ _ _ _ (rose-on _ _ _ c.tell.ensures.later) c.run_words-ending.ensures.runs;
  line = record { out = refl; told = c.tell.ensures.told };
}

pub returns-clause-complete : goal.returns-clause-complete
returns-clause-complete g c =
    words-complete _ _ _ _ _ _ _ _ _ _ (words-later _ _ _ _ _ _ _ _ _ _ _ (rose-on _ _ _ c.tell.ensures.later) c.run_words-ending.ensures.runs)
