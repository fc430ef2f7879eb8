use Rattle.std.proofs.Common.{sym, ap, refl}
use Rattle.std.specs.Prelude.{Result, Ok, codes}
use Rattle.hs_view.proofs.Acting.{acts_as}
use Rattle.util_common.specs.Words.{words_of}
use Rattle.util_common.specs.declared.messages.Why.{Why}
use Rattle.util_common.proofs.Refusing.{blamed}
use Rattle.util_opts.specs.declared.options.Options.{Options}
use Rattle.util_text.specs.Slicing.{cut_command, cut_by, cut_options}
use Rattle.util_text.proofs.slicing.cut.Goals as goal

pub returns-in-Ok : goal.returns-in-Ok
returns-in-Ok g c =
    acts_as g.B.Base.seen (cut_by (Ok c.in-Ok.words)) (cut_command c.args.args.now) c.args.view.now c.cut_words.new.view c.cut_words.result (λ u s. ap (λ (x : Result Options Why). cut_by x u) (sym c.in-Ok.ensures)) c.cut_words.ensures

pub returns-in-Err : goal.returns-in-Err
returns-in-Err g c =
    c.refuse_words.ensures (cut_command c.args.args.now) (blamed cut_by (codes "cut") c.in-Err.err (words_of cut_options c.args.args.now) (λ why w. refl) c.in-Err.ensures)
