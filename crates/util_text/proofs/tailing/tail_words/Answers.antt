use Rattle.std.proofs.Common.{ℕ, refl, sym, ap}
use Rattle.std.specs.Prelude.{Option, Ok, codes}
use Rattle.hs_view.proofs.Acting.{acts_as}
use Rattle.util_common.specs.Words.{last_value}
use Rattle.util_text.specs.Tailing.{tail_by, tail_of, tails_written, ends_wanted}
use Rattle.util_text.proofs.Headed.{number_blamed}
use Rattle.util_text.specs.declared.ends.Ends.{Ends}
use Rattle.util_text.proofs.tailing.tail_words.Goals as goal

pub returns-in-Ok : goal.returns-in-Ok
returns-in-Ok g c =
    let (n, e, s) = c.in-Ok.ensures.ok in
    acts_as g.B.Base.seen (tails_written n c.args.words.operands) (tail_by (Ok c.args.words)) c.args.view.now c.tail_file.new.view c.tail_file.result (λ u p. ap (λ (o : Option Ends). tail_of c.args.words.operands o u) (sym e)) (c.tail_file.ensures n s)

pub returns-in-Err : goal.returns-in-Err
returns-in-Err g c =
    c.refuse_words.ensures (tail_by (Ok c.args.words))
    (number_blamed (tail_of c.args.words.operands) (codes "tail") c.in-Err.err (ends_wanted (last_value 110 c.args.words.given)) (λ w. refl) c.in-Err.ensures.fault)
