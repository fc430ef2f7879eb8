use Rattle.std.proofs.Common.{◌≡◌, length}
use Rattle.util_lines.specs.Decimals.{behind_blanks}
use Rattle.util_lines.proofs.decimal.trim_blanks.Given as goal

abbrev pub invariant-blanks : goal.invariant-blanks
invariant-blanks l = behind_blanks l.rest ≡ behind_blanks l.text

abbrev pub decreases-blanks : goal.decreases-blanks
decreases-blanks l = length l.rest
