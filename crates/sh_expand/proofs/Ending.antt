-- Where a word has ended.
use Rattle.std.proofs.Common.{◌≡◌, ◌≤◌, ◌<◌, ◌+◌, ℕ, List, [], ◌++◌, sym, ap, ◌∙◌, subst, arith}
use Rattle.std.specs.Prelude.{Option, Result, Ok, Err}
use Rattle.hs_view.specs.Acts.{Acts, Loops}
use Rattle.hs_view.specs.Seen.{Shows}
use Rattle.hs_view.specs.View.{Viewed}
use Rattle.hs_view.specs.declared.halt.Halt.{Halt}
use Rattle.sh_arith.specs.declared.names.Assigned.{Assigned}
use Rattle.sh_param.specs.Assigns.{assigned}
use Rattle.sh_param.specs.Parts.{Next, after_assignment, after_sum, assign_means, put_value}
use Rattle.sh_param.specs.Pieces.{expanded_all}
use Rattle.sh_param.specs.Plans.{Plan, after, failed, fails, first}
use Rattle.sh_param.specs.declared.mode.Mode.{Mode}
use Rattle.sh_param.specs.declared.piece.Piece.{Piece}
use Rattle.sh_param.specs.declared.value.ParamValue.{ParamValue}
use Rattle.sh_expand.specs.Moves.{Moved, Tried}
use Rattle.sh_expand.specs.Rest.{behind_parts, next_of, place_means, rest_of}
use Rattle.sh_expand.specs.Sums.{sums}
use Rattle.sh_expand.specs.Weights.{open_weight, parts_weight, weight}
use Rattle.sh_expand.specs.declared.machine.Machine.{Machine}
use Rattle.sh_expand.specs.declared.open.Open.{Open}
use Rattle.sh_expand.specs.declared.open.Place.{Place}
use Rattle.sh_expand.proofs.Moving.{done_then, failing, undone}

-- ---- the parts at a place

-- a value, once the machine stands at the place
pub value_at : (y : Machine) (m : Mode) (v : ParamValue) (ps : List Piece) (k : Next) → y.mode ≡ m → y.pieces ≡ ps → next_of y ≡ k → put_value y.mode v y.pieces (next_of y) ≡ put_value m v ps k
value_at y m v ps k e f g =
    ap (λ (n : Mode). put_value n v y.pieces (next_of y)) e
    ∙ ap (λ (qs : List Piece). put_value m v qs (next_of y)) f
    ∙ ap (λ (j : Next). put_value m v ps j) g

-- the same of bytes
pub bytes_at : (y : Machine) (m : Mode) (bytes other : List ℕ) (ps : List Piece) (k : Next) → y.mode ≡ m → y.pieces ≡ ps → next_of y ≡ k → bytes ≡ other → next_of y (y.pieces ++ expanded_all y.mode bytes) ≡ k (ps ++ expanded_all m other)
bytes_at y m bytes other ps k e f g h =
    ap (λ (n : Mode). next_of y (y.pieces ++ expanded_all n bytes)) e
    ∙ ap (λ (qs : List Piece). next_of y (qs ++ expanded_all m bytes)) f
    ∙ ap (λ (t : List ℕ). next_of y (ps ++ expanded_all m t)) h
    ∙ ap (λ (j : Next). j (ps ++ expanded_all m other)) g

-- the parts alone
pub rest_at : (y : Machine) (qs ps : List Piece) (k : Next) → y.pieces ≡ qs → next_of y ≡ k → qs ≡ ps → rest_of y ≡ k ps
rest_at y qs ps k f g h = ap (λ (ts : List Piece). next_of y ts) (f ∙ h) ∙ ap (λ (j : Next). j ps) g

-- what is done, from an equal plan
pub moved_from : {B A : Type 0} (seen : Shows B) (p q now : Plan) (a b : Viewed B) (r : Result A Halt) → p ≡ q → Moved seen q now a b r → Moved seen p now a b r
moved_from {B} {A} seen p q now a b r e m = subst (λ (x : Plan). Moved {A = A} seen x now a b r) (sym e) m

pub tried_from : {B : Type 0} (seen : Shows B) (p q now : Plan) (a b : Viewed B) (r : Result (Option (List ℕ)) Halt) → p ≡ q → Tried seen q now a b r → Tried seen p now a b r
tried_from {B} seen p q now a b r e m = subst (λ (x : Plan). Tried seen x now a b r) (sym e) m

-- where the pieces were taken out
pub behind_same : (x y : Machine) (p : Place) → y ≡ record x { pieces = [] } → place_means p (behind_parts y) ≡ place_means p (behind_parts x)
behind_same x y p e = ap {B = Next} (λ (z : Machine). place_means p (behind_parts z)) e

pub weight_same : (x y : Machine) → y ≡ record x { pieces = [] } → weight y ≡ weight x
weight_same x y e = ap weight e

-- ---- assignments

pub assigned_on : {B : Type 0} (seen : Shows B) (m : Mode) (name bytes other : List ℕ) (ps : List Piece) (k : Next) (a b : Viewed B) (t u : Assigned) → bytes ≡ other → t ≡ u → Acts seen (assigned name bytes) a b (Ok t)
    → Loops seen (first (assign_means m name other ps k)) (first (after_assignment m name other ps k u)) a b
assigned_on {B} seen m name bytes other ps k a b t u e f s =
    done_then seen (assigned name other) (after_assignment m name other ps k) a b u
    (subst (λ (x : Assigned). Acts seen (assigned name other) a b (Ok x)) f (subst (λ (x : List ℕ). Acts seen (assigned name x) a b (Ok t)) e s))

pub unassigned_on : {B : Type 0} (seen : Shows B) (m : Mode) (name bytes other : List ℕ) (ps : List Piece) (k : Next) (a b : Viewed B) (h : Halt) → bytes ≡ other → Acts seen (assigned name bytes) a b (Err h)
    → Acts seen (first (assign_means m name other ps k)) a b (Err h)
unassigned_on {B} seen m name bytes other ps k a b h e s =
    undone seen (assigned name other) (after_assignment m name other ps k) a b h (subst (λ (x : List ℕ). Acts seen (assigned name x) a b (Err h)) e s)

-- ---- numbers

pub summed_on : {B : Type 0} (seen : Shows B) (m : Mode) (bytes other : List ℕ) (ps : List Piece) (k : Next) (a b : Viewed B) (t u : Result (List ℕ) (List ℕ)) → bytes ≡ other → t ≡ u → Acts seen (sums bytes) a b (Ok t)
    → Loops seen (first (after (sums other) (after_sum m ps k))) (first (after_sum m ps k u)) a b
summed_on {B} seen m bytes other ps k a b t u e f s =
    done_then seen (sums other) (after_sum m ps k) a b u
    (subst (λ (x : Result (List ℕ) (List ℕ)). Acts seen (sums other) a b (Ok x)) f (subst (λ (x : List ℕ). Acts seen (sums x) a b (Ok t)) e s))

pub unsummed_on : {B : Type 0} (seen : Shows B) (m : Mode) (bytes other : List ℕ) (ps : List Piece) (k : Next) (a b : Viewed B) (h : Halt) → bytes ≡ other → Acts seen (sums bytes) a b (Err h)
    → Acts seen (first (after (sums other) (after_sum m ps k))) a b (Err h)
unsummed_on {B} seen m bytes other ps k a b h e s =
    undone seen (sums other) (after_sum m ps k) a b h (subst (λ (x : List ℕ). Acts seen (sums x) a b (Err h)) e s)

-- a message behind what was done
pub told_on : {B : Type 0} (seen : Shows B) (p q : Plan) (a b : Viewed B) (why : List ℕ) → Loops seen (first p) (first q) a b → q ≡ fails why → Acts seen (first p) a b (Ok (failed why))
told_on seen p q a b why l e = l.on b (Ok (failed why)) (failing seen q b why e)

-- ---- weights

pub closed_weighs : (new parts old : ℕ) (o : Open) (p : Place) → open_weight o ≡ parts_weight p.parts.now + 1 → new + parts ≤ parts_weight p.parts.now + old → new < open_weight o + old
closed_weighs new parts old o p e h = omega (arith, e, h)
