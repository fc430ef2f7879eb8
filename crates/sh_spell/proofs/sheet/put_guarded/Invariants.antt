use Rattle.std.proofs.Common.{◌≡◌, ◌++◌, length}
use Rattle.std.specs.Prelude.{reverse}
use Rattle.sh_spell.specs.Layout.{guarded}
use Rattle.sh_spell.proofs.sheet.put_guarded.Given as goal

abbrev pub invariant-bytes : goal.invariant-bytes
invariant-bytes l = guarded (reverse l.left) ++ l.out ≡ guarded (reverse l.fn.bytes) ++ l.fn.out

abbrev pub decreases-bytes : goal.decreases-bytes
decreases-bytes l = length l.left
