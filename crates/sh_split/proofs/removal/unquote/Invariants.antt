use Rattle.std.proofs.Common.{◌≡◌, take, map}
use Rattle.sh_split.specs.Removal.{bytes_of}
use Rattle.sh_split.proofs.removal.unquote.Given as goal

abbrev pub invariant-loop-field : goal.invariant-loop-field
invariant-loop-field l = l.texts ≡ map bytes_of (take l.field-index l.fields)
