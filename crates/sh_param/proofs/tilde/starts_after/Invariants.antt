use Rattle.std.proofs.Common.{◌≡◌, drop}
use Rattle.sh_param.specs.Tildes.{starts_after}
use Rattle.sh_param.proofs.tilde.starts_after.Given as goal

abbrev pub invariant-loop-byte : goal.invariant-loop-byte
invariant-loop-byte l = starts_after l.mode l.start (drop l.byte-index l.text) ≡ starts_after l.mode l.initial.start l.text
