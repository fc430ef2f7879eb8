use Rattle.std.proofs.Common.{ℕ, refl, sym, ap}
use Rattle.std.specs.Prelude.{Option, Ok, codes}
use Rattle.hs_view.proofs.Acting.{acts_as}
use Rattle.util_common.specs.Words.{last_value}
use Rattle.util_text.specs.Wrapping.{fold_by, fold_of, folds_written, width_wanted}
use Rattle.util_text.proofs.Headed.{number_blamed}
use Rattle.util_text.proofs.wrapping.fold_words.Goals as goal

pub returns-in-Ok : goal.returns-in-Ok
returns-in-Ok g c =
    let (n, e, s) = c.in-Ok.ensures.ok in
    acts_as g.B.Base.seen (folds_written n c.args.words.operands) (fold_by (Ok c.args.words)) c.args.view.now c.fold_files.new.view c.fold_files.result (λ u p. ap (λ (o : Option ℕ). fold_of c.args.words.operands o u) (sym e)) (c.fold_files.ensures n s)

pub returns-in-Err : goal.returns-in-Err
returns-in-Err g c =
    c.refuse_words.ensures (fold_by (Ok c.args.words))
    (number_blamed (fold_of c.args.words.operands) (codes "fold") c.in-Err.err (width_wanted (last_value 119 c.args.words.given)) (λ w. refl) c.in-Err.ensures.fault)
