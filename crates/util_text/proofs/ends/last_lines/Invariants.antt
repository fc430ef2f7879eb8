use Rattle.std.proofs.Common.{◌≡◌, ◌-◌, ◌≤◌, ◌++◌, length, take, drop}
use Rattle.std.specs.List.{concat}
use Rattle.util_text.specs.Lines.{pieces, first_lines, last_lines, lines_from}
use Rattle.util_text.proofs.ends.last_lines.Given as goal

abbrev pub invariant-lines : goal.invariant-lines
invariant-lines l = record {
  within : l.start ≤ length l.text;
  copied : last_lines l.count l.text ≡ last_lines l.wanted (take l.start l.text) ++ drop l.start l.text;
}

abbrev pub decreases-lines : goal.decreases-lines
decreases-lines l = l.wanted
