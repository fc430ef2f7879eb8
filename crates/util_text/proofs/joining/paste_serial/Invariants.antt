use Rattle.std.proofs.Common.{◌≡◌, ◌+◌, ◌≤◌, ◌++◌, length}
use Rattle.util_text.specs.Buffer.{Keeps}
use Rattle.util_text.specs.Lines.{lines}
use Rattle.util_text.specs.Paste.{joined}
use Rattle.util_text.specs.Turns.{turns}
use Rattle.util_text.proofs.joining.paste_serial.Given as goal

abbrev pub invariant-lines : goal.invariant-lines
invariant-lines l = record {
  kept : Keeps l.fn.out.items l.out.items;
  few : l.n + length l.rest ≤ length l.fn.text;
  written : l.out.items ++ joined (turns l.delimiters) l.n (lines l.rest) ≡ l.fn.out.items ++ joined (turns l.delimiters) 0 (lines l.fn.text);
}

abbrev pub decreases-lines : goal.decreases-lines
decreases-lines l = length l.rest
