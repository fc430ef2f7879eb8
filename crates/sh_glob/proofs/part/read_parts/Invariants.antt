use Rattle.std.proofs.Common.{◌≡◌, ◌++◌, drop, map}
use Rattle.sh_glob.specs.Parts.{behind, part_of, parts_of, split}
use Rattle.sh_glob.proofs.part.read_parts.Given as goal

-- the parts that were read, and those that come
abbrev pub invariant-loop-symbol : goal.invariant-loop-symbol
invariant-loop-symbol l = l.parts.items ++ map part_of (behind l.component (split (drop l.symbol-index l.field))) ≡ parts_of l.fn.field
