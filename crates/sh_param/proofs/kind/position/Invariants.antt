use Rattle.std.proofs.Common.{◌≡◌, ◌-◌, ◌^◌, ◌≤◌, drop}
use Rattle.std.specs.Prelude.{min}
use Rattle.sh_param.specs.Kinds.{number}
use Rattle.sh_param.proofs.kind.position.Given as goal

abbrev pub invariant-loop-byte : goal.invariant-loop-byte
invariant-loop-byte l = (min (number l.number (drop l.byte-index l.name)) (2 ^ 128 - 1) ≡ min (number 0 l.name) (2 ^ 128 - 1)) × (l.number ≤ 2 ^ 128 - 1)
