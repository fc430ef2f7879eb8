use Rattle.std.proofs.Common.{◌≡◌, length}
use Rattle.util_opts.specs.Reading.{behind, group, read}
use Rattle.util_opts.proofs.reading.read_group.Given as goal

abbrev pub invariant-letters : goal.invariant-letters
invariant-letters l = behind l.fn.given (group l.table l.letters (read l.table l.after)) ≡ behind l.given (group l.table l.left (read l.table l.after))

abbrev pub decreases-letters : goal.decreases-letters
decreases-letters l = length l.left
