use Rattle.std.proofs.Common.{◌≡◌, ◌++◌, false, drop}
use Rattle.sh_pattern.specs.Items.{unescaped}
use Rattle.sh_pattern.proofs.reading.unescaped.Given as goal

abbrev pub invariant-loop-symbol : goal.invariant-loop-symbol
invariant-loop-symbol l = unescaped false l.fn.field ≡ l.text.items ++ unescaped l.escaped (drop l.symbol-index l.field)
