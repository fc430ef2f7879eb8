use Rattle.std.proofs.Common.{List, ℕ, sym, ap, refl, subst}
use Rattle.std.specs.Prelude.{Result, codes}
use Rattle.hs_view.proofs.Acting.{acts_as}
use Rattle.util_common.specs.Words.{Answers, words_of}
use Rattle.util_common.specs.declared.messages.Why.{Why}
use Rattle.util_common.proofs.Refusing.{blamed}
use Rattle.util_opts.specs.declared.options.Options.{Options}
use Rattle.util_print.specs.Components.{dirname, dirname_by, dirname_of, line_written, no_options}
use Rattle.util_print.proofs.components.dirname.Goals as goal

pub returns-in-Ok : goal.returns-in-Ok
returns-in-Ok g c =
    let wanted = dirname_of c.in-Ok.words.operands in
    acts_as g.B.Base.seen (line_written (codes "dirname") wanted) (dirname c.args.args.now) c.args.view.now c.write_line.new.view c.write_line.result
    (λ u s. ap (λ (x : Result Options Why). dirname_by x u) (sym c.in-Ok.ensures))
    (c.write_line.ensures wanted (subst (λ (ws : List (List ℕ)). Answers {X = List ℕ} c.dirname_line-line.result (dirname_of ws)) c.as_slice.ensures c.dirname_line-line.ensures))

pub returns-in-Err : goal.returns-in-Err
returns-in-Err g c =
    c.refuse_words.ensures (dirname c.args.args.now) (blamed dirname_by (codes "dirname") c.in-Err.err (words_of no_options c.args.args.now) (λ why w. refl) c.in-Err.ensures)
