use Rattle.std.proofs.Common.{List, ℕ, ◌∙◌, ap, get_or, refl, arith}
use Rattle.std.proofs.lemmas.List.{take_all}
use Rattle.sh_split.specs.Fields.{delimits}
use Rattle.sh_split.proofs.Separating.{separator_added}
use Rattle.sh_split.proofs.separators.table_of.Goals as goal

pub bytes-preserved : goal.bytes-preserved
bytes-preserved c = λ b l.
    separator_added c.args.bytes.now c.bytes.byte-index (get_or c.args.bytes.now c.bytes.byte-index 0) b c.bytes.table c.add.new.table c.bytes-test.true refl (c.bytes.invariant b l) c.add.ensures.here
    (c.add.ensures.others b)

pub returns : goal.returns
returns c = λ b l. c.bytes.invariant b l ∙ ap (λ (u : List ℕ). delimits u b) (take_all c.bytes.byte-index c.args.bytes.now (omega (arith, c.bytes-test.false)))
