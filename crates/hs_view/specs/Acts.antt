-- What a command does to a view, with all that it keeps and the causes of its halts, as one fact; and the forms that its parts have.
use Rattle.std.specs.Prelude.{◌≡◌, ◌≢◌, ◌≤◌, ◌<◌, ◌↔◌, Bool, true, false, List, [], ◌∷◌, ◌++◌, Some, Result, Err, IfSome}
use Rattle.hs_world.specs.World.{WorldData, Applied, passed}
use Rattle.hs_world.specs.declared.effect.Effect.{Effect}
use Rattle.hs_world.specs.declared.world.Limit.{Limit}
use Rattle.hs_overlay.specs.Sizes.{over_passes}
use Rattle.hs_view.specs.Causes.{Rose}
use Rattle.hs_view.specs.Known.{tables_of}
use Rattle.hs_view.specs.Seen.{Shows, spent_of}
use Rattle.hs_view.specs.Size.{trace_size}
use Rattle.hs_view.specs.Steps.{Done, Does}
use Rattle.hs_view.specs.View.{Viewed, Keeps, Moves, Showed}
use Rattle.hs_view.specs.declared.halt.Halt.{Halt}
use Rattle.hs_view.specs.declared.halt.Halt.TheVariants as halt
use Rattle.hs_view.specs.declared.halt.SpentKind.{SpentKind}
use Rattle.hs_view.specs.declared.halt.SpentKind.TheVariants as kind

-- An effect is refused by what the view stands on: over a base that writes its state, where it is told, passes this limit with it;
-- over another a text of it, or what it makes longer, is too long as far as that is known.
abbrev pub refused_by : {B : Type 0} → Bool → Shows B → Effect → Viewed B → SpentKind → Type 0
refused_by true seen e v k = (l : Limit) × (k ≡ spent_of l) × IfSome (seen.tells v.base).world (λ w. passed e w ≡ Some l)
refused_by false seen e v k = (k ≡ kind.Bytes) × (over_passes e (tables_of seen v) ≡ true)

-- Of these effects the view has the first ones, and the next one is refused so.
pub record Refuses {B : Type 0} (seen : Shows B) (whole : List Effect) (v : Viewed B) (k : SpentKind) : Type 0 where
  pub next : Effect
  pub rest : List Effect
  pub is : whole ≡ v.effects ++ next ∷ rest
  pub refused : refused_by (seen.tells v.base).writes seen next v k

-- the same of what is left of a meaning, in each state that was shown
abbrev pub Refused : {B A : Type 0} → Shows B → (WorldData → Done A) → Viewed B → Viewed B → SpentKind → Type 0
Refused seen meaning old new k = (u : WorldData) → Showed seen old new u → Refuses seen (old.effects ++ (meaning u).effects) new k

pub record Acts {B A : Type 0} (seen : Shows B) (meaning : WorldData → Done A) (old new : Viewed B) (result : Result A Halt) : Type 0 where
  pub does : Does seen meaning old new result
  pub keeps : Keeps seen old new result
  pub fault : result ≡ Err halt.Fault → Rose (seen.tells old.base).faults (seen.tells new.base).faults
  -- exact where the limit had not been passed before
  pub trace : (seen.tells old.base).writes ≡ false → trace_size old.reads old.effects ≤ old.trace → (result ≡ Err halt.Trace ↔ new.trace < trace_size new.reads new.effects)
  pub through : (seen.tells old.base).writes ≡ true → result ≢ Err halt.Trace
  -- only where the meaning's next effect is refused
  pub spent : (k : SpentKind) → result ≡ Err (halt.Spent k) → Refused seen meaning old new k
  -- Where a limit was passed, a base that writes has exactly the new effects.
  pub full : (k : SpentKind) → result ≡ Err (halt.Spent k) → (made : List Effect) → new.effects ≡ old.effects ++ made → Moves seen made old.base new.base
  pub outside : result ≢ Err halt.Outside

-- One part after another, where the second hangs on the answer of the first: its answer is that of both.
abbrev pub then_by : {A C : Type 0} → Done A → (A → WorldData → Done C) → WorldData → Done C
then_by d rest w = record { effects = d.effects ++ (rest d.answer (Applied d.effects w)).effects; answer = (rest d.answer (Applied d.effects w)).answer }

-- the same effects, and an answer made of the answer
abbrev pub answering : {A C : Type 0} → (A → C) → Done A → Done C
answering f d = record { effects = d.effects; answer = f d.answer }

-- one effect
abbrev pub only : {A : Type 0} → Effect → A → WorldData → Done A
only e answer w = record { effects = e ∷ []; answer = answer }

-- What a loop over parts keeps: whatever does the rest from here does the whole from the start.
pub record Loops {B A : Type 0} (seen : Shows B) (whole rest : WorldData → Done A) (start here : Viewed B) : Type 0 where
  pub on : (new : Viewed B) (result : Result A Halt) → Acts seen rest here new result → Acts seen whole start new result
