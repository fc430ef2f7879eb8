-- What each view keeps in its type.
use Rattle.std.specs.Prelude.{◌≡◌, ℕ, true, false, Option, Some, None}
use Rattle.std.specs.List.{AllByRecursion as ByRecursion}
use Rattle.hs_world.specs.Reads.{Fresh}
use Rattle.hs_world.specs.World.{WorldData, AllValid}
use Rattle.hs_overlay.specs.Overlay.{OverlayData, no_overlay, AllOwn}
use Rattle.hs_view.specs.Known.{tables_of}
use Rattle.hs_view.specs.Seen.{Shows, is_of}
use Rattle.hs_view.specs.Size.{capped, trace_size}
use Rattle.hs_view.specs.View.{Viewed, Stands, own_of}

-- No location is read twice, each read is of its location's kind, the effects that the base does not have yet are valid where they come,
-- in each of its states, each pop has its push among them, the size is known where it counts, and tables that are kept are theirs.
pub record IsSound {B : Type 0} (seen : Shows B) (v : Viewed B) (size : ℕ) (kept : Option OverlayData) : Type 0 where
  pub fresh : Fresh v.reads
  pub shaped : ByRecursion (λ r. is_of r.0 r.1 ≡ true) v.reads
  pub valid : (b : WorldData) → Stands (seen.tells v.base) v.reads b → AllValid (own_of seen v) b
  pub covered : AllOwn (own_of seen v) (no_overlay None None)
  pub sized : (seen.tells v.base).writes ≡ false → size ≡ capped (trace_size v.reads v.effects)
  pub tabled : (o : OverlayData) → kept ≡ Some o → o ≡ tables_of seen v
