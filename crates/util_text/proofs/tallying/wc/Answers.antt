use Rattle.std.proofs.Common.{sym, ap, refl, ◌∙◌}
use Rattle.std.specs.Prelude.{Result, Ok, codes}
use Rattle.hs_world.specs.World.{WorldData}
use Rattle.hs_view.proofs.Acting.{acts_as}
use Rattle.util_common.specs.Words.{words_of}
use Rattle.util_common.specs.declared.messages.Why.{Why}
use Rattle.util_common.proofs.Refusing.{blamed}
use Rattle.util_opts.specs.declared.options.Options.{Options}
use Rattle.util_text.specs.Tallying.{tallies_written, wc, wc_by, wc_options}
use Rattle.util_text.specs.declared.chosen.Chosen.{Chosen}
use Rattle.util_text.proofs.tallying.wc.Goals as goal

pub returns-in-Ok : goal.returns-in-Ok
returns-in-Ok g c =
    acts_as g.B.Base.seen (tallies_written c.chosen_by-chosen.result c.in-Ok.words.operands) (wc c.args.args.now) c.args.view.now c.tally_files.new.view c.tally_files.result
    (λ u s. ap (λ (x : Chosen). tallies_written x c.in-Ok.words.operands u) c.chosen_by-chosen.ensures ∙ ap (λ (x : Result Options Why). wc_by x u) (sym c.in-Ok.ensures)) c.tally_files.ensures

pub returns-in-Err : goal.returns-in-Err
returns-in-Err g c =
    c.refuse_words.ensures (wc c.args.args.now) (blamed wc_by (codes "wc") c.in-Err.err (words_of wc_options c.args.args.now) (λ why w. refl) c.in-Err.ensures)
