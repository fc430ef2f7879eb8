-- Parameter expansion, step by step.
use Rattle.std.proofs.Common.{◌≡◌, ◌≤◌, ◌+◌, ℕ, Bool, true, false, not, cond, List, [], ◌∷◌, ◌++◌, length, ◌==◌, refl, sym, ap, ◌∙◌, subst, arith}
use Rattle.std.specs.Prelude.{Option, Some, None, Result, Ok, Err, IsErr, IsErrAnd, codes}
use Rattle.std.specs.declared.alloc.AllocError.{AllocError}
use Rattle.std.proofs.lemmas.Bool.{eqb-true, true≢false}
use Rattle.hs_world.specs.World.{WorldData}
use Rattle.hs_view.specs.Acts.{Acts, Loops}
use Rattle.hs_view.specs.Seen.{Shows}
use Rattle.hs_view.specs.Steps.{Done, nothing}
use Rattle.hs_view.specs.View.{Viewed}
use Rattle.hs_view.specs.declared.halt.Halt.{Halt}
use Rattle.hs_view.specs.declared.halt.Halt.TheVariants as halt
use Rattle.hs_view.proofs.Acting.{acts_memory}
use Rattle.sh_syntax.specs.declared.tree.Part.{Part}
use Rattle.sh_param.specs.Lookups.{value_of}
use Rattle.sh_param.specs.Messages.{message}
use Rattle.sh_param.specs.Modes.{text}
use Rattle.sh_param.specs.Parts.{Next, error_word, look, parts_mean, word_means}
use Rattle.sh_param.specs.Pieces.{bytes_of, expanded_all}
use Rattle.sh_param.specs.Plans.{Plan, failed, fails, first}
use Rattle.sh_param.specs.Values.{is_absent}
use Rattle.sh_param.specs.declared.mode.Mode.{Mode}
use Rattle.sh_param.specs.declared.piece.Piece.{Piece}
use Rattle.sh_param.specs.declared.value.ParamValue.{ParamValue}
use Rattle.sh_expand.specs.Moves.{IsErrorWord, Moved, Tried}
use Rattle.sh_expand.specs.Rest.{behind_parts, means, next_of, open_means, opens_mean, place_means, rest_of}
use Rattle.sh_expand.specs.Weights.{parts_weight, weight}
use Rattle.sh_expand.specs.declared.machine.Machine.{Machine}
use Rattle.sh_expand.specs.declared.open.Open.{Open}
use Rattle.sh_expand.specs.declared.open.Place.{Place}
use Rattle.sh_expand.proofs.Moving.{done_then, failing, moved_on, tried_on, undone}

-- ---- plans

-- what is left, said in another way
pub loops_as : {B : Type 0} (seen : Shows B) (p q r : Plan) (a b : Viewed B) → Loops seen (first p) (first q) a b → q ≡ r → Loops seen (first p) (first r) a b
loops_as {B} seen p q r a b l e = subst (λ (x : Plan). Loops seen (first p) (first x) a b) e l

-- want of memory behind what was done
pub short_of : {B : Type 0} (seen : Shows B) (p q : Plan) (a b : Viewed B) → Loops seen (first p) (first q) a b → Acts seen (first p) a b (Err halt.NoMemory)
short_of seen p q a b l = l.on b (Err halt.NoMemory) (acts_memory seen (first q) b)

-- ---- values

abbrev pub read_value : Mode → List ℕ → WorldData → Done ParamValue
read_value m name w = nothing (value_of m.status name w) w

-- the value of a parameter was read
pub looked : {B : Type 0} (seen : Shows B) (m : Mode) (name : List ℕ) (k : ParamValue → Plan) (a b : Viewed B) (v : ParamValue) → Acts seen (read_value m name) a b (Ok v) → Loops seen (first (look m name k)) (first (k v)) a b
looked seen m name k a b v t = done_then seen (read_value m name) k a b v t

-- or was not
pub unlooked : {B : Type 0} (seen : Shows B) (m : Mode) (name : List ℕ) (k : ParamValue → Plan) (a b : Viewed B) (h : Halt) → Acts seen (read_value m name) a b (Err h) → Acts seen (first (look m name k)) a b (Err h)
unlooked seen m name k a b h t = undone seen (read_value m name) k a b h t

-- bytes were put behind the pieces
pub bytes_put : (x y : Machine) (bytes other : List ℕ) → rest_of y ≡ next_of x (x.pieces ++ expanded_all x.mode bytes) → bytes ≡ other → next_of x (x.pieces ++ expanded_all x.mode other) ≡ rest_of y
bytes_put x y bytes other e f = sym (e ∙ ap (λ (t : List ℕ). next_of x (x.pieces ++ expanded_all x.mode t)) f)

-- one plan where the value is absent, and another with the value
abbrev pub by_value : Bool → Plan → (ParamValue → Plan) → ParamValue → Plan
by_value colon gone kept v = cond (is_absent colon v) gone (kept v)

pub absent_on : {B : Type 0} (seen : Shows B) (m : Mode) (name : List ℕ) (colon : Bool) (gone : Plan) (kept : ParamValue → Plan) (a b : Viewed B) (v : ParamValue) → Acts seen (read_value m name) a b (Ok v) → is_absent colon v ≡ true
    → Loops seen (first (look m name (by_value colon gone kept))) (first gone) a b
absent_on seen m name colon gone kept a b v t e =
    loops_as seen (look m name (by_value colon gone kept)) (by_value colon gone kept v) gone a b (looked seen m name (by_value colon gone kept) a b v t) (ap (λ (c : Bool). cond c gone (kept v)) e)

pub present_on : {B : Type 0} (seen : Shows B) (m : Mode) (name : List ℕ) (colon : Bool) (gone : Plan) (kept : ParamValue → Plan) (a b : Viewed B) (v : ParamValue) → Acts seen (read_value m name) a b (Ok v) → is_absent colon v ≡ false
    → Loops seen (first (look m name (by_value colon gone kept))) (first (kept v)) a b
present_on seen m name colon gone kept a b v t e =
    loops_as seen (look m name (by_value colon gone kept)) (by_value colon gone kept v) (kept v) a b (looked seen m name (by_value colon gone kept) a b v t) (ap (λ (c : Bool). cond c gone (kept v)) e)

-- ---- words that are expanded by themselves

pub aside_rest : (m : Mode) (w : List Part) (o : Open) (os rest : List Open) (ps : List Piece) (k : Next) → os ≡ o ∷ rest → ps ≡ [] → parts_mean m (not m.quoted) (means w) ps (opens_mean os k) ≡ word_means m (means w) [] (open_means o (opens_mean rest k))
aside_rest m w o os rest ps k e f =
    ap (λ (qs : List Piece). parts_mean m (not m.quoted) (means w) qs (opens_mean os k)) f
    ∙ ap (λ (ts : List Open). parts_mean m (not m.quoted) (means w) [] (opens_mean ts k)) e

-- what follows at the place where the pieces were taken out
pub place_next : (x y : Machine) (p : Place) → y ≡ record x { pieces = [] } → p.mode ≡ y.mode → p.parts.now ≡ y.parts.now → x.start ≡ false → place_means p (behind_parts y) ≡ next_of x
place_next x y p e f g s =
    ap {B = Next} (λ (z : Machine). place_means p (behind_parts z)) e
    ∙ ap {B = Next} (λ (m : Mode) (ps : List Piece). parts_mean m false (means p.parts.now) ps (behind_parts x)) (f ∙ ap (λ (z : Machine). z.mode) e)
    ∙ ap {B = Next} (λ (ws : List Part) (ps : List Piece). parts_mean x.mode false (means ws) ps (behind_parts x)) (g ∙ ap (λ (z : Machine). z.parts.now) e)
    ∙ ap {B = Next} (λ (b : Bool) (ps : List Piece). parts_mean x.mode b (means x.parts.now) ps (behind_parts x)) (sym s)

-- The word becomes something, which comes behind the pieces that were taken out.
pub aside_of : (x y : Machine) (p : Place) (ps : List Piece) (m n : Mode) (w : List Part) (f : Mode → List Piece → Next → Next) → y ≡ record x { pieces = [] } → ps ≡ x.pieces → p.mode ≡ y.mode → p.parts.now ≡ y.parts.now → x.start ≡ false → m ≡ n
    → word_means m (means w) [] (f p.mode ps (place_means p (behind_parts y))) ≡ word_means n (means w) [] (f x.mode x.pieces (next_of x))
aside_of x y p ps m n w f e i g h s j =
    ap (λ (o : Mode). word_means o (means w) [] (f p.mode ps (place_means p (behind_parts y)))) j
    ∙ ap (λ (o : Mode). word_means n (means w) [] (f o ps (place_means p (behind_parts y)))) (g ∙ ap (λ (z : Machine). z.mode) e)
    ∙ ap (λ (ts : List Piece). word_means n (means w) [] (f x.mode ts (place_means p (behind_parts y)))) i
    ∙ ap (λ (k : Next). word_means n (means w) [] (f x.mode x.pieces k)) (place_next x y p e g h s)

-- the parts behind it count in what is open
pub aside_weighs : (new w : ℕ) (x y : Machine) (p : Place) → y ≡ record x { pieces = [] } → p.parts.now ≡ y.parts.now → new + parts_weight y.parts.now ≡ w + (parts_weight p.parts.now + 1) + weight y → new ≤ w + 1 + weight x
aside_weighs new w x y p e g h =
    let same : weight y ≡ weight x = ap weight e in
    let parts : parts_weight p.parts.now ≡ parts_weight y.parts.now = ap parts_weight g in
    omega (arith, same, parts, h)

-- ---- messages

pub word_none : (m : Mode) (name : List ℕ) (w : List Part) → (length w == 0) ≡ true → error_word m name (means w) ≡ fails (message name (codes "parameter not set"))
word_none m name [] e = refl
word_none m name (p ∷ ps) e = let h : length (p ∷ ps) ≡ 0 = eqb-true (length (p ∷ ps)) 0 e in absurd (omega (arith, h))

pub word_some : (m : Mode) (name : List ℕ) (w : List Part) → (length w == 0) ≡ false → error_word m name (means w) ≡ word_means (text m) (means w) [] (λ (qs : List Piece). fails (message name (bytes_of qs)))
word_some m name [] e = absurd (true≢false e)
word_some m name (p ∷ ps) e = refl

-- a word as a message, behind what was done
pub error_on : {B : Type 0} (seen : Shows B) (p q now : Plan) (a b : Viewed B) (why : Option (List ℕ)) → Loops seen (first p) (first q) a b → IsErrorWord {E = AllocError} q now (Ok why) → Tried seen p now a b (Ok why)
error_on seen p q now a b None l e = loops_as seen p q now a b l (sym e)
error_on seen p q now a b (Some why) l e = l.on b (Ok (failed why)) (failing seen q b why e)

-- ---- a parameter that may be assigned

pub plan_acts : {B : Type 0} (seen : Shows B) (p q : Plan) (a b : Viewed B) (h : Halt) → p ≡ q → Acts seen (first q) a b (Err h) → Acts seen (first p) a b (Err h)
plan_acts {B} seen p q a b h e t = subst (λ (x : Plan). Acts seen (first x) a b (Err h)) (sym e) t

pub plan_loops : {B : Type 0} (seen : Shows B) (p q r : Plan) (a b : Viewed B) → p ≡ q → Loops seen (first q) (first r) a b → Loops seen (first p) (first r) a b
plan_loops {B} seen p q r a b e l = subst (λ (x : Plan). Loops seen (first x) (first r) a b) (sym e) l

-- ---- halts of a read

pub moved_unlooked : {B A : Type 0} (seen : Shows B) (m : Mode) (name : List ℕ) (k : ParamValue → Plan) (q : Plan) (a b : Viewed B) (h : Halt) (r : Result A Halt) → IsErr r → IsErrAnd r (λ i. i ≡ h) → Acts seen (read_value m name) a b (Err h)
    → Moved seen (look m name k) q a b r
moved_unlooked {B} {A} seen m name k q a b h r e i t = moved_on {A = A} seen (look m name k) q a b h r e i (unlooked seen m name k a b h t)

pub tried_unlooked : {B : Type 0} (seen : Shows B) (m : Mode) (name : List ℕ) (k : ParamValue → Plan) (q : Plan) (a b : Viewed B) (h : Halt) (r : Result (Option (List ℕ)) Halt) → IsErr r → IsErrAnd r (λ i. i ≡ h)
    → Acts seen (read_value m name) a b (Err h) → Tried seen (look m name k) q a b r
tried_unlooked seen m name k q a b h r e i t = tried_on seen (look m name k) q a b h r e i (unlooked seen m name k a b h t)

-- want of memory behind a read
pub moved_short : {B A : Type 0} (seen : Shows B) (p q now : Plan) (a b : Viewed B) (r : Result A Halt) → IsErr r → IsErrAnd r (λ i. i ≡ halt.NoMemory) → Loops seen (first p) (first q) a b → Moved seen p now a b r
moved_short {B} {A} seen p q now a b r e i l = moved_on {A = A} seen p now a b halt.NoMemory r e i (short_of seen p q a b l)

pub tried_short : {B : Type 0} (seen : Shows B) (p q now : Plan) (a b : Viewed B) (r : Result (Option (List ℕ)) Halt) → IsErr r → IsErrAnd r (λ i. i ≡ halt.NoMemory) → Loops seen (first p) (first q) a b → Tried seen p now a b r
tried_short seen p q now a b r e i l = tried_on seen p now a b halt.NoMemory r e i (short_of seen p q a b l)

-- want of memory before anything is done
pub tried_memory : {B : Type 0} (seen : Shows B) (p q : Plan) (v : Viewed B) (r : Result (Option (List ℕ)) Halt) → IsErr r → IsErrAnd r (λ i. i ≡ halt.NoMemory) → Tried seen p q v v r
tried_memory seen p q v r e i = tried_on seen p q v v halt.NoMemory r e i (acts_memory seen (first p) v)

-- a halt behind what was done
pub halted_on : {B : Type 0} (seen : Shows B) (p q : Plan) (a b c : Viewed B) (h : Halt) → Loops seen (first p) (first q) a b → Acts seen (first q) b c (Err h) → Acts seen (first p) a c (Err h)
halted_on seen p q a b c h l t = l.on c (Err h) t
