-- What a command does to a view, as its meaning in one state says.
use Rattle.std.specs.Prelude.{◌≡◌, true, List, [], ◌∷◌, ◌++◌, option_map, Result, Ok, Err}
use Rattle.hs_world.specs.World.{WorldData, Applied}
use Rattle.hs_world.specs.declared.effect.Effect.{Effect}
use Rattle.hs_view.specs.Seen.{Shows}
use Rattle.hs_view.specs.View.{Viewed, Showed}

-- What a command does: its effects, and its answer.
pub record Done (A : Type 0) : Type 0 where
  pub effects : List Effect
  pub answer : A

-- one part after another: the effects of both, and an answer from both
abbrev pub and_then : {A B C : Type 0} → (A → B → C) → Done A → (WorldData → Done B) → WorldData → Done C
and_then join d rest w = record { effects = d.effects ++ (rest (Applied d.effects w)).effects; answer = join d.answer (rest (Applied d.effects w)).answer }

-- nothing but an answer
abbrev pub nothing : {A : Type 0} → A → WorldData → Done A
nothing answer w = record { effects = []; answer = answer }

-- the effects come first among these
pub record IsFront (front whole : List Effect) : Type 0 where
  pub rest : List Effect
  pub is : whole ≡ front ++ rest

-- These effects were done, or all but the last one, which failed on the way.
pub data Half {B : Type 0} (seen : Shows B) (es : List Effect) (old new : B) : Type 0 where
  Whole : seen.made es old new → Half seen es old new
  Cut : (front : List Effect) (last : Effect) (mid : B) → es ≡ front ++ last ∷ [] → seen.made front old mid → seen.tried last mid new → Half seen es old new

-- A command came to a halt that was to have these effects: the new ones come first among them, and a base that writes has the
-- first ones of them.
pub record Halted {B : Type 0} (seen : Shows B) (whole : List Effect) (old new : Viewed B) : Type 0 where
  pub front : IsFront new.effects (old.effects ++ whole)
  pub some : List Effect
  pub some_front : IsFront some whole
  pub world : (seen.tells old.base).writes ≡ true → ((seen.tells new.base).world ≡ option_map (Applied some) (seen.tells old.base).world) × Half seen some old.base new.base

-- For every state that the view showed at entry, by the reads at exit: with an answer, the new effects and the answer are the
-- meaning's; with a halt, the meaning's first effects were done.
abbrev pub Does : {B A H : Type 0} → Shows B → (WorldData → Done A) → Viewed B → Viewed B → Result A H → Type 0
Does seen meaning old new (Ok answer) = (u : WorldData) → Showed seen old new u → (new.effects ≡ old.effects ++ (meaning u).effects) × (answer ≡ (meaning u).answer)
Does seen meaning old new (Err _) = (u : WorldData) → Showed seen old new u → Halted seen (meaning u).effects old new

-- What a loop over parts keeps: what was done, and then the rest in the state that the view shows now, is the whole. `finish` makes
-- the whole answer of that so far and that of the rest.
pub record Towards {B S A T : Type 0} (seen : Shows B) (finish : S → A → T) (total : WorldData → Done T) (rest : WorldData → Done A) (start here : Viewed B) (so_far : S) : Type 0 where
  pub whole : (u : WorldData) → Showed seen start here u
      → (done : List Effect) × (here.effects ≡ start.effects ++ done) × (done ++ (rest (Applied done u)).effects ≡ (total u).effects)
      × (finish so_far (rest (Applied done u)).answer ≡ (total u).answer)
