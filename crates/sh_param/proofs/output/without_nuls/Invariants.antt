use Rattle.std.proofs.Common.{◌≡◌, ◌++◌, drop}
use Rattle.sh_param.specs.Outputs.{without_nuls}
use Rattle.sh_param.proofs.output.without_nuls.Given as goal

abbrev pub invariant-loop-byte : goal.invariant-loop-byte
invariant-loop-byte l = l.kept.items ++ without_nuls (drop l.byte-index l.bytes) ≡ without_nuls l.bytes
