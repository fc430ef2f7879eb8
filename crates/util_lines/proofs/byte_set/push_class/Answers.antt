use Rattle.std.proofs.Common.{◌++◌, arith}
use Rattle.util_lines.specs.ByteClass.{has_byte}
use Rattle.util_lines.specs.ByteSet.{bytes_where}
use Rattle.util_lines.proofs.ByteSets.{all_tested, byte_tested}
use Rattle.util_lines.proofs.byte_set.push_class.Goals as goal

pub loop-at-preserved : goal.loop-at-preserved
loop-at-preserved c =
    byte_tested (has_byte c.args.class) c.loop-at.at 256 c.loop-at.out.items c.push_where.new.out.items (c.args.out.now.items ++ bytes_where (has_byte c.args.class)) c.has.result
    c.loop-at-test.true c.has.ensures c.loop-at.invariant c.in_ok-push_where.ensures

pub returns : goal.returns
returns c =
    all_tested (has_byte c.args.class) c.loop-at.at 256 c.loop-at.out.items (c.args.out.now.items ++ bytes_where (has_byte c.args.class)) (omega (arith, c.loop-at-test.false)) c.loop-at.invariant
