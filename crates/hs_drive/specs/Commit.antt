-- What it means that effects are committed: applied to the world, and written to the two streams.
use Rattle.std.specs.Prelude.{◌≡◌, ℕ, List, [], ◌∷◌, ◌++◌, Option, Some, None, Result, Ok, Err, ◌⊎◌}
use Rattle.hs_world.specs.declared.effect.Effect.{Effect}
use Rattle.hs_world.specs.declared.effect.Fd.{Fd}
use Rattle.hs_world.specs.declared.effect.Fd.TheVariants.{One, Two}
use Rattle.hs_world.specs.declared.world.Limit.{Limit}
use Rattle.hs_world.specs.World.{WorldData, Applied, sent, output, errors}
use Rattle.hs_outside.specs.Streams.{appended, IsCut}
use Rattle.hs_view.specs.Seen.{spent_of}
use Rattle.hs_view.specs.Steps.{IsFront}
use Rattle.sh_leaf.specs.Cut.{misfit, fitting}
use Rattle.hs_drive.specs.declared.stop.Stop.{Stop}
use Rattle.hs_drive.specs.declared.stop.Stop.TheVariants as stop

-- what standard output and standard error hold, where they tell
pub record Streams : Type 0 where
  pub out : Option (List ℕ)
  pub err : Option (List ℕ)

-- with what these effects write
abbrev pub gained : List Effect → WorldData → Streams → Streams
gained es w s = record { out = appended s.out (output es w); err = appended s.err (errors es w) }

-- All of the effects fit, the world has them, and the streams what they write.
pub record IsCommitted (es : List Effect) (w w' : WorldData) (old new : Streams) : Type 0 where
  pub fit : misfit es w ≡ None
  pub world : w' ≡ Applied es w
  pub streams : new ≡ gained es w old

-- of a piece for this stream a front went out, and the other stream has all
abbrev pub IsCutOn : Fd → (before after new : Streams) → List ℕ → Type 0
IsCutOn One before after new piece = IsCut before.out new.out piece × (new.err ≡ after.err)
IsCutOn Two before after new piece = IsCut before.err new.err piece × (new.out ≡ after.out)

-- Of the piece that the last effect writes to this stream, a front went out. All else is committed.
pub record IsShort (fd : Fd) (es : List Effect) (w w' : WorldData) (old new : Streams) : Type 0 where
  pub front : List Effect
  pub last : Effect
  pub whole : es ≡ front ++ last ∷ []
  pub fit : misfit es w ≡ None
  pub world : w' ≡ Applied es w
  pub cut : IsCutOn fd (gained front w old) (gained es w old) new (sent fd last (Applied front w))

-- A write failed, on a stream whose count of faults rose.
abbrev pub IsFault : (out err : Type 0) → List Effect → WorldData → WorldData → Streams → Streams → Type 0
IsFault out err es w w' old new = (out × IsShort One es w w' old new) ⊎ (err × IsShort Two es w w' old new)

-- Memory ran out, in making an effect or in a write.
abbrev pub IsWant : List Effect → WorldData → WorldData → Streams → Streams → Type 0
IsWant es w w' old new = IsCommitted es w w' old new ⊎ (IsShort One es w w' old new ⊎ IsShort Two es w w' old new)

-- What committing effects comes to: all of them are, or those before the first that doesn't fit, or those up to a write
-- that failed. `out` and `err` say that the streams' counts of faults rose.
abbrev pub Commits : (out err : Type 0) → List Effect → WorldData → WorldData → Streams → Streams → Result (Unit {0}) Stop → Type 0
Commits out err es w w' old new (Ok u) = IsCommitted es w w' old new
Commits out err es w w' old new (Err (stop.Spent kind)) =
    (limit : Limit) × (misfit es w ≡ Some limit) × (kind ≡ spent_of limit) × IsCommitted (fitting es w) w w' old new
Commits out err es w w' old new (Err stop.OutFault) = (done : List Effect) × IsFront done es × IsFault out err done w w' old new
Commits out err es w w' old new (Err stop.NoMemory) = (done : List Effect) × IsFront done es × IsWant done w w' old new
