use Rattle.std.proofs.Common.{sym, ap}
use Rattle.hs_world.specs.Files.{entry_at}
use Rattle.hs_world.specs.World.{WorldData}
use Rattle.hs_view.specs.Steps.{nothing}
use Rattle.hs_view.proofs.Acting.{acts_as}
use Rattle.util_test.specs.Testing.{has}
use Rattle.util_test.specs.declared.expression.Property.{Property}
use Rattle.util_test.specs.declared.expression.Property.TheVariants.{Is, HasBytes}
use Rattle.util_test.proofs.testing.has_at.Goals as goal

pub returns-in-Is : goal.returns-in-Is
returns-in-Is g c =
    let path = c.args.path.now in
    acts_as g.B.Base.seen (λ (w : WorldData). nothing (has (Is c.in-Is.sort) (entry_at w.tree path)) w) (λ (w : WorldData). nothing (has c.args.property (entry_at w.tree path)) w) c.args.view.now c.is_sort_at.new.view c.is_sort_at.result
    (λ u s. ap (λ (p : Property). nothing (has p (entry_at u.tree path)) u) (sym c.in-Is.is)) c.is_sort_at.ensures

pub returns-in-HasBytes : goal.returns-in-HasBytes
returns-in-HasBytes g c =
    let path = c.args.path.now in
    acts_as g.B.Base.seen (λ (w : WorldData). nothing (has HasBytes (entry_at w.tree path)) w) (λ (w : WorldData). nothing (has c.args.property (entry_at w.tree path)) w) c.args.view.now c.has_bytes_at.new.view c.has_bytes_at.result
    (λ u s. ap (λ (p : Property). nothing (has p (entry_at u.tree path)) u) (sym c.in-HasBytes.is)) c.has_bytes_at.ensures
