use Rattle.std.proofs.Common.{◌<◌, ◌∙◌, length, sym, arith}
use Rattle.util_text.specs.Paste.{delimiters_of}
use Rattle.util_text.proofs.Pasted.{behind_all, behind_step, one_more}
use Rattle.util_text.proofs.Pieces.{some-from_test}
use Rattle.util_text.proofs.escapes.read_delimiters.Goals as goal

pub list-init : goal.list-init
list-init c =
    let some : 0 < length c.args.list.now = some-from_test c.args.list.now (sym c.is_empty.ensures ∙ c.if-is_empty.false) in
    record { some = omega (arith, some); read = behind_all c.args.list.now c.new-items.result.items some c.new-items.ensures.items }

pub list-preserved : goal.list-preserved
list-preserved c =
    let items = c.list.items.items in
    let new = c.push_delimiter.new.items.items in
    record {
      some = one_more (length c.in-Some.more.now) items new c.in-Some.delimiter c.in_ok-push_delimiter.ensures;
      read = behind_step items new c.in-Some.delimiter c.list.rest.now c.in-Some.more.now (delimiters_of c.args.list.now) c.in-Some.ensures.first c.in_ok-push_delimiter.ensures c.list.invariant.read;
    }
