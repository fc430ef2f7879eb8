use Rattle.std.proofs.Common.{◌≡◌, ℕ, drop}
use Rattle.util_text.specs.Count.{number_from, StandsFor}
use Rattle.util_text.proofs.number.read_count.Given as goal

abbrev pub invariant-digits : goal.invariant-digits
invariant-digits l = (n : ℕ) × (number_from 0 l.word ≡ number_from n (drop l.byte-index l.word)) × StandsFor l.count n
