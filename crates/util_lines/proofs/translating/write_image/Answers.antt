use Rattle.std.proofs.Common.{List, ℕ, ap}
use Rattle.hs_world.specs.declared.effect.Fd.TheVariants.{One}
use Rattle.hs_view.proofs.Acting.{acts_as}
use Rattle.util_common.specs.Operands.{emitted}
use Rattle.util_lines.specs.Translating.{image_written}
use Rattle.util_lines.proofs.translating.write_image.Goals as goal

pub returns : goal.returns
returns g c = λ job s.
    acts_as g.B.Base.seen (emitted One c.in_ok-image.image 0) (image_written job c.args.text.now) c.args.view.now c.emit.new.view c.emit.result
    (λ u p. ap (λ (t : List ℕ). emitted One t 0 u) (c.in_ok-image.ensures job s)) c.emit.ensures
