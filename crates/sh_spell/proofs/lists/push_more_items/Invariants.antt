use Rattle.std.proofs.Common.{◌≡◌, ◌++◌, drop}
use Rattle.sh_spell.specs.Steps.{all_steps, next_item_steps}
use Rattle.sh_spell.proofs.lists.push_more_items.Given as goal

abbrev pub invariant-loop-item : goal.invariant-loop-item
invariant-loop-item l = l.steps ++ all_steps (next_item_steps l.script) (drop l.item-index l.items) ≡ l.fn.steps ++ all_steps (next_item_steps l.script) l.items
