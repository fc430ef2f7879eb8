use Rattle.std.proofs.Common.{◌≡◌, ◌-◌, ◌≤◌, ◌++◌, length, take, drop}
use Rattle.std.specs.List.{concat}
use Rattle.util_text.specs.Lines.{pieces, first_lines, last_lines, lines_from}
use Rattle.util_text.proofs.ends.first_lines.Given as goal

abbrev pub invariant-lines : goal.invariant-lines
invariant-lines l = record {
  within : l.end ≤ length l.text;
  copied : first_lines l.count l.text ≡ take l.end l.text ++ first_lines l.left (drop l.end l.text);
}

abbrev pub decreases-lines : goal.decreases-lines
decreases-lines l = l.left
