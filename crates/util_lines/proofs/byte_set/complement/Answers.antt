use Rattle.std.proofs.Common.{not, ◌∙◌, ap, arith}
use Rattle.util_lines.specs.ByteSet.{complement, has}
use Rattle.util_lines.proofs.ByteSets.{all_tested, byte_tested}
use Rattle.util_lines.proofs.byte_set.complement.Goals as goal

pub loop-at-preserved : goal.loop-at-preserved
loop-at-preserved c =
    byte_tested (λ b. not (has c.args.set.now b)) c.loop-at.at 256 c.loop-at.others.items c.push_where.new.out.items (complement c.args.set.now) (not c.is_member.result)
    c.loop-at-test.true (ap not (c.is_member.ensures ∙ c.member_table-members.ensures c.loop-at.at c.loop-at-test.true)) c.loop-at.invariant c.in_ok-push_where.ensures

pub returns : goal.returns
returns c =
    all_tested (λ b. not (has c.args.set.now b)) c.loop-at.at 256 c.loop-at.others.items (complement c.args.set.now) (omega (arith, c.loop-at-test.false)) c.loop-at.invariant
