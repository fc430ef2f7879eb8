use Rattle.std.proofs.Common.{◌≡◌, ◌++◌, drop}
use Rattle.sh_param.specs.Trims.{trim_all}
use Rattle.sh_param.proofs.trim.trim_all.Given as goal

abbrev pub invariant-loop-text : goal.invariant-loop-text
invariant-loop-text l = l.rests ++ trim_all l.op l.pattern (drop l.text-index l.texts) ≡ trim_all l.op l.pattern l.texts
