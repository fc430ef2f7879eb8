use Rattle.std.proofs.Common.{◌≡◌, drop}
use Rattle.util_opts.specs.Reading.{takes_value}
use Rattle.util_opts.proofs.table.OptionTable.takes_value.Given as goal

abbrev pub invariant-loop-entry : goal.invariant-loop-entry
invariant-loop-entry l = takes_value l.self l.byte ≡ takes_value (drop l.entry-index l.entry-items) l.byte
