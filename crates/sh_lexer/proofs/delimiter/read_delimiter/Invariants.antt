use Rattle.std.proofs.Common.{◌≡◌, [], false, length}
use Rattle.sh_lexer.specs.Cut.{in_delimiter}
use Rattle.sh_lexer.specs.Delimiting.{delimiter_from}
use Rattle.sh_lexer.proofs.delimiter.read_delimiter.Given as goal

abbrev pub invariant-loop-bytes : goal.invariant-loop-bytes
invariant-loop-bytes l = delimiter_from l.within l.bytes.items l.quoted l.left ≡ in_delimiter [] false l.fn.text

abbrev pub decreases-loop-bytes : goal.decreases-loop-bytes
decreases-loop-bytes l = length l.left
