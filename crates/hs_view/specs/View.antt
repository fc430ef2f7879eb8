-- What contracts see of a view, and what each call on one keeps.
use Rattle.std.specs.Prelude.{◌≡◌, ◌≤◌, ℕ, Bool, true, false, List, [], ◌++◌, Option, Some, option_map, Result, OnOk}
use Rattle.hs_world.specs.Reads.{ReadList, Passes}
use Rattle.hs_world.specs.World.{WorldData, Applied}
use Rattle.hs_world.specs.declared.effect.Effect.{Effect}
pub use Rattle.hs_world.specs.Files.{IsTree}
use Rattle.hs_view.specs.Seen.{SeenData, Shows}

-- What contracts see of a view over a base.
pub record Viewed (B : Type 0) : Type 0 where
  pub base : B
  -- what was read of a base that does not write, each location once
  pub reads : ReadList
  -- what was done
  pub effects : List Effect
  -- the most bytes of reads and effects
  pub trace : ℕ

-- ---- the states that a view shows

-- the effects that a base does not have yet: none over a base that writes
abbrev pub own : Bool → List Effect → List Effect
own true es = []
own false es = es

abbrev pub own_of : {B : Type 0} → Shows B → Viewed B → List Effect
own_of seen v = own (seen.tells v.base).writes v.effects

-- A base's state, as far as it is known: any that passes the reads, or the one that a base that writes tells.
abbrev pub stands_by : Bool → Option WorldData → ReadList → WorldData → Type 0
stands_by false told reads b = IsTree b.tree × Passes reads b
stands_by true told reads b = told ≡ Some b

abbrev pub Stands : SeenData → ReadList → WorldData → Type 0
Stands s reads b = stands_by s.writes s.world reads b

-- The view showed this state when it was `old`, by what was read until it was `new`: over a base that does not write, any state
-- that passes these reads, with the effects until `old`; over another, the state that the base told at `old`.
pub record Showed {B : Type 0} (seen : Shows B) (old new : Viewed B) (shown : WorldData) : Type 0 where
  pub under : WorldData
  pub stands : Stands (seen.tells old.base) new.reads under
  pub over : shown ≡ Applied (own_of seen old) under

-- ---- what each call keeps

-- a list with more behind it
pub record Grows {A : Type 0} (old new : List A) : Type 0 where
  pub more : List A
  pub is : new ≡ old ++ more

-- what effects make of a told state: nothing where the base does not write
abbrev pub moved_by : Bool → List Effect → Option WorldData → Option WorldData
moved_by false es o = o
moved_by true es o = option_map (Applied es) o

-- what effects made of a base
abbrev pub Moves : {B : Type 0} → Shows B → List Effect → B → B → Type 0
Moves seen es old new = ((seen.tells new).world ≡ moved_by (seen.tells old).writes es (seen.tells old).world) × ((seen.tells old).writes ≡ true → seen.made es old new)

-- The base tells this state, and the reads are its values.
abbrev pub Told : {B : Type 0} → Shows B → Viewed B → WorldData → Type 0
Told seen v w = ((seen.tells v.base).world ≡ Some w) × Passes v.reads w

-- What a call on a view keeps. Earlier reads and effects stay in front. A base that does not write keeps its state; with an answer,
-- one that writes has the new effects.
pub record Keeps {B A H : Type 0} (seen : Shows B) (old new : Viewed B) (result : Result A H) : Type 0 where
  pub trace : new.trace ≡ old.trace
  pub writes : (seen.tells new.base).writes ≡ (seen.tells old.base).writes
  pub runs : (seen.tells new.base).runs ≡ (seen.tells old.base).runs
  pub asked : (seen.tells new.base).asked ≡ (seen.tells old.base).asked
  pub later : (seen.tells old.base).faults ≤ (seen.tells new.base).faults
  pub reads : Grows old.reads new.reads
  pub effects : Grows old.effects new.effects
  -- over a base that writes nothing is recorded
  pub plain : (seen.tells old.base).writes ≡ true → new.reads ≡ old.reads
  -- over a base that does not write, a state that is told and passes the reads stays so
  pub told : (seen.tells old.base).writes ≡ false → (w : WorldData) → Told seen old w → Told seen new w
  pub still : (seen.tells old.base).writes ≡ false → (seen.tells new.base).world ≡ (seen.tells old.base).world
  pub moved : OnOk result ((made : List Effect) → new.effects ≡ old.effects ++ made → Moves seen made old.base new.base)

-- the same, but for the list of runs: for commands that ask for programs
abbrev pub quiet : {B : Type 0} → Shows B → Shows B
quiet seen = record seen { tells = λ b. record (seen.tells b) { asked = [] } }
