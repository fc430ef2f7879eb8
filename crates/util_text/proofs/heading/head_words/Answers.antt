use Rattle.std.proofs.Common.{ℕ, refl, sym, ap}
use Rattle.std.specs.Prelude.{Option, Ok, codes}
use Rattle.hs_view.proofs.Acting.{acts_as}
use Rattle.util_common.specs.Words.{last_value}
use Rattle.util_text.specs.Head.{head_by, head_of, heads_written, lines_wanted}
use Rattle.util_text.proofs.Headed.{number_blamed}
use Rattle.util_text.proofs.heading.head_words.Goals as goal

pub returns-in-Ok : goal.returns-in-Ok
returns-in-Ok g c =
    let (n, e, s) = c.in-Ok.ensures.ok in
    acts_as g.B.Base.seen (heads_written n c.args.words.operands) (head_by (Ok c.args.words)) c.args.view.now c.head_files.new.view c.head_files.result (λ u p. ap (λ (o : Option ℕ). head_of c.args.words.operands o u) (sym e)) (c.head_files.ensures n s)

pub returns-in-Err : goal.returns-in-Err
returns-in-Err g c =
    c.refuse_words.ensures (head_by (Ok c.args.words))
    (number_blamed (head_of c.args.words.operands) (codes "head") c.in-Err.err (lines_wanted (last_value 110 c.args.words.given)) (λ w. refl) c.in-Err.ensures.fault)
