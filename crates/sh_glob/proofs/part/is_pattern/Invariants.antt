use Rattle.std.proofs.Common.{◌≡◌, drop}
use Rattle.std.specs.List.{list_any}
use Rattle.sh_pattern.specs.Items.{unescaped}
use Rattle.sh_glob.specs.Parts.{is_pattern, is_special}
use Rattle.sh_glob.proofs.part.is_pattern.Given as goal

-- what is left
abbrev pub invariant-loop-symbol : goal.invariant-loop-symbol
invariant-loop-symbol l = is_pattern l.fn.text ≡ list_any is_special (unescaped l.escaped (drop l.symbol-index l.text))
