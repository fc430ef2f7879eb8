use Rattle.std.proofs.Common.{◌≡◌, ◌++◌, sym, ◌∙◌}
use Rattle.std.proofs.lemmas.Result.{on_ok_weaker}
use Rattle.util_print.specs.Rounds.{left_bad, left_text}
use Rattle.util_print.specs.Shown.{all_parts, bad_words, written}
use Rattle.util_print.proofs.Printed.{bad_all, bad_once, text_all, text_once}
use Rattle.util_print.proofs.Rounds.{taken_none, taken_some}
use Rattle.util_print.proofs.printing.print_all.Goals as goal

pub print_rest-requires : goal.print_rest-requires
print_rest-requires c = taken_some c.args.parts.now (sym c.takes_words.ensures ∙ c.if-takes_words.true)

pub returns-then-takes_words : goal.returns-then-takes_words
returns-then-takes_words c =
    let ps = c.args.parts.now in
    let words = c.args.words.now in
    let left = c.in_ok-left.left.now in
    let some = taken_some ps (sym c.takes_words.ensures ∙ c.if-takes_words.true) in
    let old = c.args.printed.now in
    let mid = c.print_round.new.printed in
    let new = c.print_rest.new.printed in
    let text : new.out.items ≡ mid.out.items ++ left_text ps left → new.out.items ≡ old.out.items ++ written (all_parts ps words) words =
    λ e. text_all ps words left old.out.items mid.out.items new.out.items some c.in_ok-left.ensures.out c.in_ok-left.ensures.left e in
    let bad : new.bad ≡ mid.bad ++ left_bad ps left → new.bad ≡ old.bad ++ bad_words (all_parts ps words) words =
    λ e. bad_all ps words left old.bad mid.bad new.bad some c.in_ok-left.ensures.bad c.in_ok-left.ensures.left e in
    record {
      out = on_ok_weaker c.print_rest.result text c.print_rest.ensures.out;
      bad = on_ok_weaker c.print_rest.result bad c.print_rest.ensures.bad;
    }

pub returns : goal.returns
returns c =
    let ps = c.args.parts.now in
    let none = taken_none ps (sym c.takes_words.ensures ∙ c.if-takes_words.false) in
    record {
      out = text_once ps c.args.words.now c.args.printed.now.out.items c.print_round.new.printed.out.items none c.in_ok-left.ensures.out;
      bad = bad_once ps c.args.words.now c.args.printed.now.bad c.print_round.new.printed.bad none c.in_ok-left.ensures.bad;
    }
