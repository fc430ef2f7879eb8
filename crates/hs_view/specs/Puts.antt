-- What putting an effect leaves.
use Rattle.std.specs.Prelude.{◌≡◌, ◌≢◌, ◌≤◌, ◌<◌, ◌↔◌, ◌⊎◌, true, false, List, [], ◌∷◌, ◌++◌, Some, option_map, Result, Ok, Err, OnOk, OnErr, IfSome}
use Rattle.hs_world.specs.World.{Apply, passed}
use Rattle.hs_world.specs.declared.effect.Effect.{Effect}
use Rattle.hs_world.specs.declared.world.Limit.{Limit}
use Rattle.hs_overlay.specs.Sizes.{over_passes}
use Rattle.hs_view.specs.Causes.{Rose}
use Rattle.hs_view.specs.Known.{tables_of}
use Rattle.hs_view.specs.Seen.{Shows, IsLeft, Still, spent_of}
use Rattle.hs_view.specs.Size.{trace_size}
use Rattle.hs_view.specs.View.{Viewed, Keeps}
use Rattle.hs_view.specs.declared.halt.Halt.{Halt}
use Rattle.hs_view.specs.declared.halt.Halt.TheVariants as halt
use Rattle.hs_view.specs.declared.halt.SpentKind.{SpentKind}
use Rattle.hs_view.specs.declared.halt.SpentKind.TheVariants as kind

-- The effect stands last where it was done, and where the trace passes its limit with it.
abbrev pub done_by : {A : Type 0} → Result A Halt → List Effect → Effect → List Effect
done_by (Ok x) es e = es ++ e ∷ []
done_by (Err halt.Trace) es e = es ++ e ∷ []
done_by (Err _) es e = es

-- This halt comes exactly where this holds, but that want of memory may come in its place.
abbrev pub HaltsWhere : {A : Type 0} → Halt → Type 0 → Result A Halt → Type 0
HaltsWhere h P result = (result ≡ Err h → P) × (P → (result ≡ Err h) ⊎ (result ≡ Err halt.NoMemory))

-- what a base that writes is left with
pub record Written {B A : Type 0} (seen : Shows B) (e : Effect) (old new : B) (result : Result A Halt) : Type 0 where
  pub ok : OnOk result (((seen.tells new).world ≡ option_map (Apply e) (seen.tells old).world) × seen.made (e ∷ []) old new)
  pub left : OnErr result (IsLeft seen e old new)
  pub full : (k : SpentKind) → result ≡ Err (halt.Spent k) → Still seen old new
  pub asked : (seen.tells new).asked ≡ (seen.tells old).asked
  pub writes : (seen.tells new).writes ≡ (seen.tells old).writes
  pub runs : (seen.tells new).runs ≡ (seen.tells old).runs
  pub later : (seen.tells old).faults ≤ (seen.tells new).faults
  pub fault : result ≡ Err halt.Fault → Rose (seen.tells old).faults (seen.tells new).faults
  pub spent : (l : Limit) → IfSome (seen.tells old).world (λ w. HaltsWhere (halt.Spent (spent_of l)) (passed e w ≡ Some l) result)
  pub turns : result ≢ Err (halt.Spent kind.Turns)
  pub frames : result ≢ Err (halt.Spent kind.Frames)
  pub trace : result ≢ Err halt.Trace
  pub outside : result ≢ Err halt.Outside

-- what a view is left with
pub record Puts {B A : Type 0} (seen : Shows B) (old new : Viewed B) (e : Effect) (result : Result A Halt) : Type 0 where
  pub reads : new.reads ≡ old.reads
  pub effects : new.effects ≡ done_by result old.effects e
  pub keeps : Keeps seen old new result
  pub left : (seen.tells old.base).writes ≡ true → OnErr result (IsLeft seen e old.base new.base)
  pub full : (k : SpentKind) → result ≡ Err (halt.Spent k) → Still seen old.base new.base
  pub fault : result ≡ Err halt.Fault → Rose (seen.tells old.base).faults (seen.tells new.base).faults
  pub trace : (seen.tells old.base).writes ≡ false → trace_size old.reads old.effects ≤ old.trace → (result ≡ Err halt.Trace ↔ new.trace < trace_size new.reads new.effects)
  pub through : (seen.tells old.base).writes ≡ true → result ≢ Err halt.Trace
  pub spent : (seen.tells old.base).writes ≡ true → (l : Limit) → IfSome (seen.tells old.base).world (λ w. HaltsWhere (halt.Spent (spent_of l)) (passed e w ≡ Some l) result)
  pub long : (seen.tells old.base).writes ≡ false → HaltsWhere (halt.Spent kind.Bytes) (over_passes e (tables_of seen old) ≡ true) result
  pub tree : (seen.tells old.base).writes ≡ false → result ≢ Err (halt.Spent kind.Tree)
  pub turns : result ≢ Err (halt.Spent kind.Turns)
  pub frames : result ≢ Err (halt.Spent kind.Frames)
  pub outside : result ≢ Err halt.Outside
