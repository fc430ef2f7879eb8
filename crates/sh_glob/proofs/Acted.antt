-- Parts of the walk, which read and do nothing.
use Rattle.std.proofs.Common.{◌≡◌, ℕ, ◌+◌, ◌<◌, List, [], ◌∷◌, ◌++◌, length, drop, get_or, sym, ap, ◌∙◌, subst, append_assoc, append-nil}
use Rattle.std.proofs.lemmas.List.{drop_more}
use Rattle.std.specs.Prelude.{Result, Ok, Err, IsErr, IsErrAnd}
use Rattle.std.specs.List.{flat_map}
use Rattle.hs_world.specs.World.{WorldData}
use Rattle.hs_view.specs.Acts.{Acts, Loops}
use Rattle.hs_view.specs.Seen.{Shows}
use Rattle.hs_view.specs.Steps.{Done, nothing}
use Rattle.hs_view.specs.View.{Viewed}
use Rattle.hs_view.specs.declared.halt.Halt.{Halt}
use Rattle.hs_view.specs.declared.halt.Halt.TheVariants as halt
use Rattle.hs_view.proofs.Acting.{acts_answering, acts_answering_halt, acts_on, acts_short, loops_start, loops_step, loops_halt, loops_end}

-- ---- an answer made of an answer

pub acts_made : {B A C : Type 0} (seen : Shows B) (h : WorldData → A) (f : A → C) (a b : Viewed B) (x : A) (y : C) → y ≡ f x → Acts seen (λ (w : WorldData). nothing (h w) w) a b (Ok x)
    → Acts seen (λ (w : WorldData). nothing (f (h w)) w) a b (Ok y)
acts_made {B} {A} {C} seen h f a b x y e t =
    subst (λ (z : C). Acts seen (λ (w : WorldData). nothing (f (h w)) w) a b (Ok z)) (sym e) (acts_answering seen f (λ (w : WorldData). nothing (h w) w) a b x t)

-- a halt before it
pub acts_made_halt : {B A C : Type 0} (seen : Shows B) (h : WorldData → A) (f : A → C) (a b : Viewed B) (i : Halt) (r : Result C Halt) → IsErr r → IsErrAnd r (λ j. j ≡ i)
    → Acts seen (λ (w : WorldData). nothing (h w) w) a b (Err i) → Acts seen (λ (w : WorldData). nothing (f (h w)) w) a b r
acts_made_halt {B} {A} {C} seen h f a b i r p q t =
    acts_on seen (λ (w : WorldData). nothing (f (h w)) w) a b i r p q (acts_answering_halt seen f (λ (w : WorldData). nothing (h w) w) a b i t)

-- want of memory behind it
pub acts_made_short : {B A C : Type 0} (seen : Shows B) (h : WorldData → A) (f : A → C) (a b : Viewed B) (x : A) (r : Result C Halt) → IsErr r → IsErrAnd r (λ j. j ≡ halt.NoMemory)
    → Acts seen (λ (w : WorldData). nothing (h w) w) a b (Ok x) → Acts seen (λ (w : WorldData). nothing (f (h w)) w) a b r
acts_made_short {B} {A} {C} seen h f a b x r p q t =
    acts_on seen (λ (w : WorldData). nothing (f (h w)) w) a b halt.NoMemory r p q (acts_short seen (λ (w : WorldData). nothing (h w) w) (λ (y : A) (w : WorldData). nothing (f y) w) a b x t)

-- ---- lists that are gathered

abbrev Gathers : {B X Y : Type 0} → Shows B → (WorldData → Done (List Y)) → (WorldData → X → List Y) → List Y → List X → Viewed B → Viewed B → Type 0
Gathers seen whole f acc xs start here = Loops seen whole (λ w. nothing (acc ++ flat_map (f w) xs) w) start here

grouped : {B X Y : Type 0} (seen : Shows B) (whole : WorldData → Done (List Y)) (f : WorldData → X → List Y) (acc : List Y) (x : X) (rest : List X) (start here : Viewed B)
    → Gathers seen whole f acc (x ∷ rest) start here → Loops seen whole (λ w. nothing ((acc ++ f w x) ++ flat_map (f w) rest) w) start here
grouped {B} {X} {Y} seen whole f acc x rest start here l =
    subst (λ (m : WorldData → Done (List Y)). Loops seen whole m start here) (λ i. λ (w : WorldData). nothing (sym (append_assoc acc (f w x) (flat_map (f w) rest)) i) w) l

-- before the first part
pub gathers_start : {B X Y : Type 0} (seen : Shows B) (f : WorldData → X → List Y) (acc : List Y) (xs : List X) (v : Viewed B) → acc ≡ [] → Gathers seen (λ w. nothing (flat_map (f w) xs) w) f acc xs v v
gathers_start {B} {X} {Y} seen f acc xs v e =
    subst (λ (ys : List Y). Gathers seen (λ w. nothing (flat_map (f w) xs) w) f ys xs v v) (sym e) (loops_start seen (λ (w : WorldData). nothing (flat_map (f w) xs) w) v)

-- one part more
pub gathers_step : {B X Y : Type 0} (seen : Shows B) (whole : WorldData → Done (List Y)) (f : WorldData → X → List Y) (acc more : List Y) (x : X) (rest : List X) (start here next : Viewed B)
    → Gathers seen whole f acc (x ∷ rest) start here → Acts seen (λ w. nothing (acc ++ f w x) w) here next (Ok more) → Gathers seen whole f more rest start next
gathers_step {B} {X} {Y} seen whole f acc more x rest start here next l t =
    loops_step seen whole (λ (w : WorldData). nothing (acc ++ f w x) w) (λ (ys : List Y) (w : WorldData). nothing (ys ++ flat_map (f w) rest) w) start here next more (grouped seen whole f acc x rest start here l) t

-- a halt in a part
pub gathers_halt : {B X Y : Type 0} (seen : Shows B) (whole : WorldData → Done (List Y)) (f : WorldData → X → List Y) (acc : List Y) (x : X) (rest : List X) (start here next : Viewed B) (i : Halt)
    → Gathers seen whole f acc (x ∷ rest) start here → Acts {A = List Y} seen (λ w. nothing (acc ++ f w x) w) here next (Err i) → Acts seen whole start next (Err i)
gathers_halt {B} {X} {Y} seen whole f acc x rest start here next i l t =
    loops_halt seen whole (λ (w : WorldData). nothing (acc ++ f w x) w) (λ (ys : List Y) (w : WorldData). nothing (ys ++ flat_map (f w) rest) w) start here next i (grouped seen whole f acc x rest start here l) t

-- no part is left
pub gathers_end : {B X Y : Type 0} (seen : Shows B) (whole : WorldData → Done (List Y)) (f : WorldData → X → List Y) (acc : List Y) (start here : Viewed B) → Gathers seen whole f acc [] start here → Acts seen whole start here (Ok acc)
gathers_end {B} {X} {Y} seen whole f acc start here l =
    loops_end seen whole (λ (w : WorldData). nothing (acc ++ flat_map (f w) []) w) start here acc (λ u. ap (λ (ys : List Y). nothing ys u) (append-nil acc)) l

-- what is left is the one at hand and those behind it
pub at_hand : {X : Type 0} (xs : List X) (i : ℕ) (x : X) → i < length xs → x ≡ get_or xs i x → drop i xs ≡ x ∷ drop (i + 1) xs
at_hand {X} xs i x h is = drop_more xs i x h ∙ ap (λ (y : X). y ∷ drop (i + 1) xs) (sym is)
