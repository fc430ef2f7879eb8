use Rattle.std.proofs.Common.{List, refl, sym, ap}
use Rattle.std.specs.Prelude.{Result, Ok, codes}
use Rattle.hs_view.proofs.Acting.{acts_as}
use Rattle.util_common.specs.declared.messages.Why.{Why}
use Rattle.util_common.proofs.Refusing.{blamed}
use Rattle.util_text.specs.Places.{Range}
use Rattle.util_text.specs.Slicing.{cut_by, cut_of, cuts_written, wanted}
use Rattle.util_text.specs.declared.slicing.Items.{Items}
use Rattle.util_text.proofs.slicing.cut_words.Goals as goal

pub returns-in-Ok : goal.returns-in-Ok
returns-in-Ok g c =
    let (ranges, e, s) = c.in-Ok.ensures.ok in
    acts_as g.B.Base.seen (cuts_written c.in-Ok.cuts.items ranges c.args.words.operands) (cut_by (Ok c.args.words)) c.args.view.now c.cut_files.new.view c.cut_files.result
    (λ u p. ap (λ (o : Result (Items × List Range) Why). cut_of c.args.words.operands o u) (sym e)) (c.cut_files.ensures ranges s)

pub returns-in-Err : goal.returns-in-Err
returns-in-Err g c =
    c.refuse_words.ensures (cut_by (Ok c.args.words))
    (blamed (cut_of c.args.words.operands) (codes "cut") c.in-Err.err (wanted c.args.words.given) (λ why w. refl) c.in-Err.ensures.fault)
