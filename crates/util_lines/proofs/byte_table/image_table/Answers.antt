use Rattle.std.proofs.Common.{List, ℕ, sym, ◌∙◌, ap, get_or, drop, refl, arith}
use Rattle.std.specs.Prelude.{None, Option, unwrap_or}
use Rattle.std.proofs.lemmas.List.{drop_all}
use Rattle.util_lines.specs.Transliterate.{image}
use Rattle.util_lines.proofs.ByteTables.{image_next}
use Rattle.util_lines.proofs.Hand.{at_hand}
use Rattle.util_lines.proofs.byte_table.image_table.Goals as goal

pub bytes-init : goal.bytes-init
bytes-init c = λ b l. ap (λ (o : Option ℕ). unwrap_or o (image c.args.from.now c.args.to.now b)) (sym (c.no_images-table.ensures b l))

pub bytes-preserved : goal.bytes-preserved
bytes-preserved c = λ b l.
    image_next c.args.from.now c.bytes.byte-index (get_or c.args.from.now c.bytes.byte-index 0) b c.bytes.left.now c.behind_first-left.result.now c.bytes.table c.add_image.new.table (image c.args.from.now c.args.to.now b)
    (at_hand c.args.from.now c.bytes.byte-index (get_or c.args.from.now c.bytes.byte-index 0) c.bytes-test.true refl) c.behind_first-left.ensures (c.bytes.invariant b l) c.add_image.ensures.here (c.add_image.ensures.others b)

pub returns : goal.returns
returns c = λ b l.
    sym (c.bytes.invariant b l
    ∙ ap (λ (u : List ℕ). unwrap_or (get_or c.bytes.table b None) (image u c.bytes.left.now b)) (drop_all c.bytes.byte-index c.args.from.now (omega (arith, c.bytes-test.false))))
