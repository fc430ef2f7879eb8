use Rattle.std.proofs.Common.{◌∙◌, drop}
use Rattle.sh_pattern.proofs.Skipped.{item-read}
use Rattle.sh_pattern.proofs.Tables.{IsClosings-drop, IsClosings-next}
use Rattle.sh_pattern.proofs.reading.compile.Goals as goal

pub items-preserved : goal.items-preserved
items-preserved c = record {
  read = rw c.in_ok-push.ensures.items
      (c.items.invariant.read
      ∙ item-read c.items.items.items c.items.rest.now c.in-Some.after.now c.split_at-in-Some.result.1.now c.in-Some.first.now c.in_ok-item.item c.in_ok-item.more
      c.in-Some.ensures.cases.0 c.in_ok-item.ensures.found c.split_at-in-Some.ensures.back);
  table = rw (c.split_at-in-Some-2.ensures.back, c.split_at.ensures.back, c.split_at-in-Some.ensures.back)
      (IsClosings-drop c.in_ok-item.more (drop 1 c.items.closed_rest.now) c.in-Some.after.now c.in_ok-item.ensures.within
      (IsClosings-next c.items.closed_rest.now c.items.rest.now c.in-Some.after.now c.in-Some.first.now c.in-Some.ensures.cases.0 c.items.invariant.table));
}
