use Rattle.std.proofs.Common.{sym, ap, refl}
use Rattle.std.specs.Prelude.{Result, Ok, codes}
use Rattle.hs_view.proofs.Acting.{acts_as}
use Rattle.util_common.specs.Words.{words_of}
use Rattle.util_common.specs.declared.messages.Why.{Why}
use Rattle.util_common.proofs.Refusing.{blamed}
use Rattle.util_lines.specs.Selecting.{grep, grep_by, grep_options}
use Rattle.util_opts.specs.declared.options.Options.{Options}
use Rattle.util_lines.proofs.selecting.grep.Goals as goal

pub returns-in-Ok : goal.returns-in-Ok
returns-in-Ok g c =
    acts_as g.B.Base.seen (grep_by (Ok c.in-Ok.words)) (grep c.args.args.now) c.args.view.now c.grep_words.new.view c.grep_words.result (λ u s. ap (λ (x : Result Options Why). grep_by x u) (sym c.in-Ok.ensures)) c.grep_words.ensures

pub returns-in-Err : goal.returns-in-Err
returns-in-Err g c =
    c.refuse_words.ensures (grep c.args.args.now) (blamed grep_by (codes "grep") c.in-Err.err (words_of grep_options c.args.args.now) (λ why w. refl) c.in-Err.ensures)
