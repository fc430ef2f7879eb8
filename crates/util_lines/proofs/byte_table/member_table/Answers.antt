use Rattle.std.proofs.Common.{List, ℕ, ◌∙◌, ap, get_or, refl, arith}
use Rattle.std.proofs.lemmas.List.{take_all}
use Rattle.util_lines.specs.ByteSet.{has}
use Rattle.util_lines.proofs.ByteTables.{member_added}
use Rattle.util_lines.proofs.byte_table.member_table.Goals as goal

pub bytes-preserved : goal.bytes-preserved
bytes-preserved c = λ b l.
    member_added c.args.set.now c.bytes.byte-index (get_or c.args.set.now c.bytes.byte-index 0) b c.bytes.table c.add_member.new.table c.bytes-test.true refl (c.bytes.invariant b l) c.add_member.ensures.here
    (c.add_member.ensures.others b)

pub returns : goal.returns
returns c = λ b l. c.bytes.invariant b l ∙ ap (λ (u : List ℕ). has u b) (take_all c.bytes.byte-index c.args.set.now (omega (arith, c.bytes-test.false)))
