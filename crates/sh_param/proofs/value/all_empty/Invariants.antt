use Rattle.std.proofs.Common.{◌≡◌, drop}
use Rattle.sh_param.specs.Values.{all_empty}
use Rattle.sh_param.proofs.value.all_empty.Given as goal

abbrev pub invariant-loop-text : goal.invariant-loop-text
invariant-loop-text l = all_empty (drop l.text-index l.texts) ≡ all_empty l.texts
