-- A command that was done in the state of a base.
use Rattle.std.proofs.Common.{◌≡◌, T, subst, Bool, true, false, List, sym, ap, ◌∙◌}
use Rattle.std.specs.Prelude.{Option, Some, option_map, Ok, Err}
use Rattle.hs_world.specs.Reads.{ReadList, Passes}
use Rattle.hs_world.specs.World.{WorldData, Applied}
use Rattle.hs_world.specs.declared.effect.Effect.{Effect}
use Rattle.hs_view.specs.Seen.{Shows}
use Rattle.hs_view.specs.View.{Viewed, IsTree, Keeps, Showed, moved_by, own, stands_by}
use Rattle.hs_view.specs.Steps.{Done, Does, Half, IsFront}

from_told : (writes : Bool) (told : Option WorldData) (rs : ReadList) (b : WorldData) → writes ≡ true → told ≡ Some b → stands_by writes told rs b
from_told true told rs b h s = s
from_told false told rs b h s = absurd (subst T (sym h) tt)

from_passes : (writes : Bool) (told : Option WorldData) (rs : ReadList) (b : WorldData) → writes ≡ false → IsTree b.tree × Passes rs b → stands_by writes told rs b
from_passes false told rs b h s = s
from_passes true told rs b h s = absurd (subst T h tt)

-- A state that a base tells which writes is shown.
pub told_shown : {B : Type 0} (seen : Shows B) (v u : Viewed B) (b : WorldData) → (seen.tells v.base).writes ≡ true → (seen.tells v.base).world ≡ Some b → Showed seen v u b
told_shown {B} seen v u b h t = record { under = b; stands = from_told (seen.tells v.base).writes (seen.tells v.base).world u.reads b h t; over = ap (λ (x : Bool). Applied (own x v.effects) b) (sym h) }

-- A state that passes the reads is shown, after the effects.
pub passes_shown : {B : Type 0} (seen : Shows B) (v u : Viewed B) (b : WorldData) → (seen.tells v.base).writes ≡ false → IsTree b.tree → Passes u.reads b → Showed seen v u (Applied v.effects b)
passes_shown {B} seen v u b h t p = record { under = b; stands = from_passes (seen.tells v.base).writes (seen.tells v.base).world u.reads b h (t, p); over = ap (λ (x : Bool). Applied (own x v.effects) b) (sym h) }

-- all that a command does is in the state
pub head_done : {B A H : Type 0} (seen : Shows B) (meaning : WorldData → Done A) (v u : Viewed B) (x : A) (w : WorldData) → Keeps {H = H} seen v u (Ok x) → Does {H = H} seen meaning v u (Ok x) → (seen.tells v.base).writes ≡ true → (seen.tells v.base).world ≡ Some w
    → ((seen.tells u.base).world ≡ Some (Applied (meaning w).effects w)) × (x ≡ (meaning w).answer) × seen.made (meaning w).effects v.base u.base
head_done seen meaning v u x w k d h t =
    let r = d w (told_shown seen v u w h t) in
    let m = k.moved (meaning w).effects r.0 in (
      m.0
          ∙ ap (λ (y : Bool). moved_by y (meaning w).effects (seen.tells v.base).world) h
          ∙ ap (option_map (Applied (meaning w).effects)) t,
      r.1,
      m.1 h,
    )

-- the first ones of what a command does are in the state
pub head_halted : {B A H : Type 0} (seen : Shows B) (meaning : WorldData → Done A) (v u : Viewed B) (x : H) (w : WorldData) → Does {A = A} {H = H} seen meaning v u (Err x) → (seen.tells v.base).writes ≡ true → (seen.tells v.base).world ≡ Some w
    → (front : List Effect) × IsFront front (meaning w).effects × ((seen.tells u.base).world ≡ Some (Applied front w)) × Half seen front v.base u.base
head_halted seen meaning v u x w d h t =
    let r = d w (told_shown seen v u w h t) in
    (r.some, r.some_front, (r.world h).0 ∙ ap (option_map (Applied r.some)) t, (r.world h).1)
