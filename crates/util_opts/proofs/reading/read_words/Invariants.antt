use Rattle.std.proofs.Common.{◌≡◌, length, None}
use Rattle.util_opts.specs.Reading.{behind, read}
use Rattle.util_opts.proofs.reading.read_words.Given as goal

abbrev pub invariant-words : goal.invariant-words
invariant-words l = behind l.fn.given (read l.table l.words None) ≡ behind l.given (read l.table l.rest None)

abbrev pub decreases-words : goal.decreases-words
decreases-words l = length l.rest
