use Rattle.std.proofs.Common.{sym, ap, refl}
use Rattle.std.specs.Prelude.{Result, Ok, codes}
use Rattle.hs_view.proofs.Acting.{acts_as}
use Rattle.util_common.specs.Words.{words_of}
use Rattle.util_common.specs.declared.messages.Why.{Why}
use Rattle.util_common.proofs.Refusing.{blamed}
use Rattle.util_opts.specs.declared.options.Options.{Options}
use Rattle.util_text.specs.Pasting.{paste_by, paste_command, paste_options}
use Rattle.util_text.proofs.pasting.paste.Goals as goal

pub returns-in-Ok : goal.returns-in-Ok
returns-in-Ok g c =
    acts_as g.B.Base.seen (paste_by (Ok c.in-Ok.words)) (paste_command c.args.args.now) c.args.view.now c.paste_words.new.view c.paste_words.result (λ u s. ap (λ (x : Result Options Why). paste_by x u) (sym c.in-Ok.ensures)) c.paste_words.ensures

pub returns-in-Err : goal.returns-in-Err
returns-in-Err g c =
    c.refuse_words.ensures (paste_command c.args.args.now) (blamed paste_by (codes "paste") c.in-Err.err (words_of paste_options c.args.args.now) (λ why w. refl) c.in-Err.ensures)
