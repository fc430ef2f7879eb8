use Rattle.std.proofs.Common.{◌++◌, ◌+◌, length}
use Rattle.util_text.specs.Buffer.{Keeps}
use Rattle.util_text.specs.Paste.{own_count, paste}
use Rattle.util_text.specs.Turns.{turns}
use Rattle.util_text.proofs.Pasted.{Going}
use Rattle.util_text.proofs.joining.paste.Given as goal

abbrev pub invariant-rows : goal.invariant-rows
invariant-rows l = record {
  kept : Keeps l.fn.out.items l.out.items;
  going : Going (turns l.delimiters) l.columns l.input l.out.items (l.fn.out.items ++ paste (turns l.delimiters) l.fn.columns l.fn.input);
}

abbrev pub decreases-rows : goal.decreases-rows
decreases-rows l = own_count l.columns + length l.input
