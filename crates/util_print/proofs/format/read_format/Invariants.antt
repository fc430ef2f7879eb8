use Rattle.std.proofs.Common.{◌≡◌, length}
use Rattle.util_print.specs.Formats.{parts, parts_behind}
use Rattle.util_print.proofs.Parsed.{prefixed}
use Rattle.util_print.proofs.format.read_format.Given as goal

abbrev pub invariant-parts : goal.invariant-parts
invariant-parts l = prefixed l.parts.items (parts_behind 0 l.rest) ≡ parts l.format

abbrev pub decreases-parts : goal.decreases-parts
decreases-parts l = length l.rest
