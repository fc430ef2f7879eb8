use Rattle.std.proofs.Common.{◌≡◌, drop}
use Rattle.sh_param.specs.Tildes.{has_tilde}
use Rattle.sh_param.proofs.tilde.has_tilde.Given as goal

abbrev pub invariant-loop-byte : goal.invariant-loop-byte
invariant-loop-byte l = has_tilde (drop l.byte-index l.text) ≡ has_tilde l.text
