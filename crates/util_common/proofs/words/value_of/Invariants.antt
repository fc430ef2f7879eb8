use Rattle.std.proofs.Common.{◌≡◌, drop}
use Rattle.std.specs.Prelude.{None}
use Rattle.util_common.specs.Words.{last_from}
use Rattle.util_common.proofs.words.value_of.Given as goal

abbrev pub invariant-loop-option : goal.invariant-loop-option
invariant-loop-option l = last_from l.byte l.found (drop l.option-index l.option-items) ≡ last_from l.byte None l.given
