-- What a call of an expansion does, step by step.
use Rattle.std.proofs.Common.{◌≡◌, ℕ, ◌+◌, ◌<◌, ◌≤◌, Bool, true, false, List, [], ◌∷◌, ◌++◌, length, map, refl, sym, ap, ◌∙◌, subst, arith}
use Rattle.std.specs.Prelude.{Option, Some, None, option_map, Result, Ok, Err, IsErr, IsErrAnd, IfOk, OnOk}
use Rattle.hs_world.specs.World.{WorldData}
use Rattle.hs_view.specs.Acts.{Acts, Loops}
use Rattle.hs_view.specs.Fetches.{Fetches}
use Rattle.hs_view.specs.Seen.{Shows, Still}
use Rattle.hs_view.specs.Steps.{nothing}
use Rattle.hs_view.specs.View.{Showed, Viewed}
use Rattle.hs_view.specs.declared.halt.Halt.{Halt}
use Rattle.hs_view.specs.declared.halt.Halt.TheVariants as halt
use Rattle.hs_view.proofs.Acting.{acts_answer, acts_read, acts_unread}
use Rattle.sh_syntax.specs.declared.tree.Part.{Part}
use Rattle.sh_syntax.specs.declared.tree.Word.{Word}
use Rattle.sh_param.specs.Parts.{Meaning, parts_mean}
use Rattle.sh_param.specs.Pieces.{whole_fields}
use Rattle.sh_param.specs.Plans.{Plan, Reached, failed, fields, first, gives, stopped, told}
use Rattle.sh_param.specs.Words.{ended as ended_in, plan_by, plan_with, word_parts, words_mean}
use Rattle.sh_param.specs.declared.answer.Expanded.{Expanded}
use Rattle.sh_param.specs.declared.answer.Expanded.TheVariants as answer
use Rattle.sh_param.specs.declared.mode.Context.{Context}
use Rattle.sh_param.specs.declared.mode.Context.TheVariants as context
use Rattle.sh_param.specs.declared.mode.Mode.{Mode}
use Rattle.sh_param.specs.declared.piece.Piece.{Piece}
use Rattle.sh_param.specs.declared.piece.Piece.TheVariants as piece
use Rattle.sh_expand.specs.Calls.{Begins, Ends, Leaves, Lessens, Reaches, left_by, state_going, status_in}
use Rattle.sh_expand.specs.Going.{Going, ended, plan_at, waiting}
use Rattle.sh_expand.specs.Moves.{Arrives, Called, GoesOn, Stepped, Tried}
use Rattle.sh_expand.specs.Rest.{after_word, means, opens_mean}
use Rattle.sh_expand.specs.Sums.{sums}
use Rattle.sh_expand.specs.Weights.{weight}
use Rattle.sh_expand.specs.declared.expansion.State.{State}
use Rattle.sh_expand.specs.declared.machine.Machine.{Machine}
use Rattle.sh_expand.specs.declared.open.Open.{Open}
use Rattle.sh_expand.proofs.Moving.{done_then, undone}

-- a halt that is handed on
pub err_on : {A : Type 0} (P : Result A Halt → Type 0) (h : Halt) (r : Result A Halt) → IsErr r → IsErrAnd r (λ i. i ≡ h) → P (Err h) → P r
err_on P h (Ok x) e i p = absurd i
err_on P h (Err j) e i p = subst (λ (y : Halt). P (Err y)) (sym i) p

pub ends_on : {B : Type 0} (seen : Shows B) (p : Plan) (a b : Viewed B) (h : Halt) (r : Result (List (List (ℕ × Bool))) Halt) → IsErr r → IsErrAnd r (λ i. i ≡ h) → Acts seen (first p) a b (Err h) → Ends seen p a b r
ends_on {B} seen p a b h r e i t = err_on (λ (x : Result (List (List (ℕ × Bool))) Halt). Ends seen p a b x) h r e i t

pub steps_on : {B : Type 0} (seen : Shows B) (p q : Plan) (later : List ℕ → Plan) (a b : Viewed B) (h : Halt) (r : Result (Option Expanded) Halt) → IsErr r → IsErrAnd r (λ i. i ≡ h) → Acts seen (first p) a b (Err h)
    → Stepped seen p q later a b r
steps_on {B} seen p q later a b h r e i t = err_on (λ (x : Result (Option Expanded) Halt). Stepped seen p q later a b x) h r e i t

pub calls_on : {B : Type 0} (seen : Shows B) (p : Plan) (later : List ℕ → Plan) (a b : Viewed B) (h : Halt) (r : Result Expanded Halt) → IsErr r → IsErrAnd r (λ i. i ≡ h) → Acts seen (first p) a b (Err h) → Called seen p later a b r
calls_on {B} seen p later a b h r e i t = err_on (λ (x : Result Expanded Halt). Called seen p later a b x) h r e i t

pub begins_on : {B : Type 0} (seen : Shows B) (p : Plan) (a b : Viewed B) (h : Halt) (r : Result (Expanded × State) Halt) → IsErr r → IsErrAnd r (λ i. i ≡ h) → Acts seen (first p) a b (Err h) → Begins seen p a b r
begins_on {B} seen p a b h r e i t = err_on (λ (x : Result (Expanded × State) Halt). Begins seen p a b x) h r e i t

-- ---- less is left

pub lessens_on : (x : Machine) (n : ℕ) (h : Halt) (r : Result (Option Expanded) Halt) → IsErr r → IsErrAnd r (λ i. i ≡ h) → Lessens x n r
lessens_on x n h r e i = err_on (λ (y : Result (Option Expanded) Halt). Lessens x n y) h r e i tt

pub lessens : (x : Machine) (n : ℕ) (o : Option Expanded) → weight x < n → Lessens x n (Ok o)
lessens x n None l = l
lessens x n (Some e) l = tt

pub lessens_ok : (x : Machine) (n : ℕ) (r : Result (Option Expanded) Halt) → OnOk r (weight x < n) → Lessens x n r
lessens_ok x n (Ok o) l = lessens x n o l
lessens_ok x n (Err h) l = tt

pub lessens_more : (x : Machine) (n m : ℕ) (r : Result (Option Expanded) Halt) → n ≤ m → Lessens x n r → Lessens x m r
lessens_more x n m (Ok None) l k = omega (arith, l, k)
lessens_more x n m (Ok (Some e)) l k = tt
lessens_more x n m (Err h) l k = tt

-- the sums behind it
pub word_less : (n p w o ws all : ℕ) → n + p ≡ w + (p + o + ws) → o ≡ 0 → all ≡ w + 1 + ws → n < p + all
word_less n p w o ws all a b c = omega (arith, a, b, c)

pub close_less : (n o p os w all : ℕ) → n < o + (p + os + w) → all ≡ o + os → n < p + all + w
close_less n o p os w all a b = omega (arith, a, b)

pub part_more : (p r o w all : ℕ) → all ≡ p + r → p + (r + o + w) ≤ all + o + w
part_more p r o w all a = omega (arith, a)

pub between : (p o w : ℕ) → p + w ≤ p + o + w
between p o w = omega arith

-- ---- lists

pub no_length : {A : Type 0} (xs : List A) → length xs ≡ 0 → xs ≡ []
no_length [] e = refl
no_length (x ∷ xs) e = absurd (omega (arith, e))

-- ---- the end of all words

pub not_split : (c : Context) (ps : List Piece) → (c ≡ context.Command → ⊥) → ended_in c ps ≡ gives (whole_fields ps)
not_split context.Command ps n = absurd (n refl)
not_split context.Assign ps n = refl
not_split context.Redirect ps n = refl
not_split context.Pattern ps n = refl
not_split context.Here ps n = refl

-- these are the fields
pub gives_acts : {B : Type 0} (seen : Shows B) (p : Plan) (fs gs : List (List (ℕ × Bool))) (v : Viewed B) → p ≡ gives gs → fs ≡ gs → Acts seen (first p) v v (Ok (fields fs))
gives_acts seen p fs gs v e f =
    subst (λ (x : Plan). Acts seen (first x) v v (Ok (fields fs))) (sym e)
    (acts_answer seen (first (gives gs)) v (fields fs) (λ u s. ap (λ (xs : List (List (ℕ × Bool))). nothing (fields xs) u) (sym f)))

-- ---- words

pub word_next : (m : Mode) (words : List Word) (w : Word) (ws : List Word) (c : Context) (ps : List Piece) → words ≡ w ∷ ws
    → after_word m words c ps ≡ parts_mean m true (means w.parts) (ps ++ piece.End ∷ []) (after_word m ws c)
word_next m words w ws c ps e = ap (λ (l : List Word). after_word m l c ps) e

pub word_last : (m : Mode) (words : List Word) (c : Context) (ps : List Piece) → words ≡ [] → after_word m words c ps ≡ ended_in c (ps ++ piece.End ∷ [])
word_last m words c ps e = ap (λ (l : List Word). after_word m l c ps) e

-- the next word
pub word_begins : (m : Mode) (words : List Word) (w : Word) (ws : List Word) (c : Context) (ps qs : List Piece) (opens : List Open) → words ≡ w ∷ ws → qs ≡ ps ++ piece.End ∷ [] → opens ≡ []
    → after_word m words c ps ≡ parts_mean m true (means w.parts) qs (opens_mean opens (after_word m ws c))
word_begins m words w ws c ps qs opens e f n =
    word_next m words w ws c ps e
    ∙ ap (λ (xs : List Piece). parts_mean m true (means w.parts) xs (after_word m ws c)) (sym f)
    ∙ ap (λ (os : List Open). parts_mean m true (means w.parts) qs (opens_mean os (after_word m ws c))) (sym n)

-- no word is left
pub word_ends : (m : Mode) (words : List Word) (c : Context) (ps qs : List Piece) → words ≡ [] → qs ≡ ps ++ piece.End ∷ [] → after_word m words c ps ≡ ended_in c qs
word_ends m words c ps qs e f = word_last m words c ps e ∙ ap (ended_in c) (sym f)

-- before the first word
pub first_word : (m n : Mode) (ps : List Part) (w : Word) (words : List Word) (c : Context) (pieces : List Piece) (opens : List Open) → m ≡ n → ps ≡ w.parts → pieces ≡ [] → opens ≡ []
    → parts_mean m true (means ps) pieces (opens_mean opens (after_word m words c)) ≡ words_mean n (map (word_parts sums) (w ∷ words)) [] (ended_in c)
first_word m n ps w words c pieces opens e p q r =
    ap (λ (os : List Open). parts_mean m true (means ps) pieces (opens_mean os (after_word m words c))) r
    ∙ ap (λ (qs : List Piece). parts_mean m true (means ps) qs (after_word m words c)) q
    ∙ ap (λ (xs : List Part). parts_mean m true (means xs) [] (after_word m words c)) p
    ∙ ap (λ (x : Mode). parts_mean x true (means w.parts) [] (after_word x words c)) e

-- ---- what a step answers

pub tried_steps : {B : Type 0} (seen : Shows B) (p q : Plan) (later : List ℕ → Plan) (a b : Viewed B) (why : Option (List ℕ)) (e : Option Expanded) → e ≡ option_map answer.Error why
    → Tried seen p q a b (Ok why) → Stepped seen p q later a b (Ok e)
tried_steps {B} seen p q later a b None e is t = subst (λ (x : Option Expanded). Stepped seen p q later a b (Ok x)) (sym is) t
tried_steps {B} seen p q later a b (Some why) e is t =
    subst (λ (x : Option Expanded). Stepped seen p q later a b (Ok x)) (sym is) (record { reached = failed why; is = refl; acts = t; on = tt })

-- a step behind what was done
pub steps_then : {B : Type 0} (seen : Shows B) (p q s : Plan) (later : List ℕ → Plan) (a b c : Viewed B) (r : Result (Option Expanded) Halt) → Loops seen (first p) (first q) a b → Stepped seen q s later b c r
    → Stepped seen p s later a c r
steps_then seen p q s later a b c (Ok None) l t = record { on = λ n x y. l.on n x (t.on n x y) }
steps_then seen p q s later a b c (Ok (Some e)) l t = record { reached = t.reached; is = t.is; acts = l.on c (Ok t.reached) t.acts; on = t.on }
steps_then seen p q s later a b c (Err h) l t = l.on c (Err h) t

-- the last step
pub arrives_called : {B : Type 0} (seen : Shows B) (p q : Plan) (later : List ℕ → Plan) (a b c : Viewed B) (e : Expanded) → Loops seen (first p) (first q) a b → Arrives seen q later b c e → Called seen p later a c (Ok e)
arrives_called seen p q later a b c e l t = record { reached = t.reached; is = t.is; acts = l.on c (Ok t.reached) t.acts; on = t.on }

-- ---- what is left

pub leaves : (reached : Reached) (e : Expanded) (later : List ℕ → Plan) → told reached ≡ e → GoesOn reached later → Leaves reached (left_by e later)
leaves (fields fs) e later is on = subst (λ (x : Expanded). left_by x later ≡ ended) is refl
leaves (failed why) e later is on = subst (λ (x : Expanded). left_by x later ≡ ended) is refl
leaves (stopped n k) e later is on = subst (λ (x : Expanded). left_by x later ≡ waiting k) is (ap waiting on)

pub leaves_by : (reached : Reached) (e : Expanded) (later : List ℕ → Plan) (g : Going) → told reached ≡ e → GoesOn reached later → g ≡ left_by e later → Leaves reached g
leaves_by reached e later g is on h = subst (Leaves reached) (sym h) (leaves reached e later is on)

pub arrives_reaches : {B : Type 0} (seen : Shows B) (p : Plan) (later : List ℕ → Plan) (g : Going) (a b : Viewed B) (e : Expanded) → Arrives seen p later a b e → g ≡ left_by e later → Reaches seen p g a b e
arrives_reaches seen p later g a b e t h = record { reached = t.reached; is = t.is; acts = t.acts; leaves = leaves_by t.reached e later g t.is t.on h }

pub begins_then : {B : Type 0} (seen : Shows B) (p q : Plan) (a b c : Viewed B) (r : Result (Expanded × State) Halt) → Loops seen (first p) (first q) a b → Begins seen q b c r → Begins seen p a c r
begins_then seen p q a b c (Ok x) l t = record { reached = t.reached; is = t.is; acts = l.on c (Ok t.reached) t.acts; leaves = t.leaves }
begins_then seen p q a b c (Err h) l t = l.on c (Err h) t

pub reaches_from : {B : Type 0} (seen : Shows B) (s t : State) (out : Option (List ℕ)) (g : Going) (a b : Viewed B) (e : Expanded) → s ≡ t → Reaches seen (plan_at (state_going s) out) g a b e
    → Reaches seen (plan_at (state_going t) out) g a b e
reaches_from seen s t out g a b e h r = subst (λ (x : State). Reaches seen (plan_at (state_going x) out) g a b e) h r

-- ---- the status that `$?` gives

pub status_read : {B : Type 0} (seen : Shows B) (given : Option ℕ) (a b : Viewed B) (r : Result ℕ Halt) → given ≡ None → Fetches seen a b r → Still seen a.base b.base
    → IfOk r (λ n. (u : WorldData) → Showed seen a b u → u.status ≡ n) → Acts seen (λ w. nothing (status_in given w) w) a b r
status_read seen given a b (Ok n) e f s t =
    acts_read seen (λ (w : WorldData). nothing (status_in given w) w) a b n n f (λ u h. ap (λ (o : Option ℕ). nothing (status_in o u) u) e ∙ ap (λ (x : ℕ). nothing x u) (t u h))
status_read {B} seen given a b (Err h) e f s t = acts_unread seen (λ (w : WorldData). nothing (status_in given w) w) a b h f s

pub status_given : {B : Type 0} (seen : Shows B) (given : Option ℕ) (v : Viewed B) (n : ℕ) → given ≡ Some n → Acts seen (λ w. nothing (status_in given w) w) v v (Ok n)
status_given seen given v n e = acts_answer seen (λ (w : WorldData). nothing (status_in given w) w) v n (λ u h. ap (λ (o : Option ℕ). nothing (status_in o u) u) e)

pub fresh_halts : {B : Type 0} (seen : Shows B) (words : List (List Meaning)) (c : Context) (given : Option ℕ) (a b : Viewed B) (h : Halt) → Acts {A = ℕ} seen (λ w. nothing (status_in given w) w) a b (Err h)
    → Acts seen (first (plan_by words c given)) a b (Err h)
fresh_halts seen words c None a b h t = undone seen (λ (w : WorldData). nothing w.status w) (plan_with words c) a b h t
fresh_halts seen words c (Some n) a b h t = undone seen (λ (w : WorldData). nothing n w) (plan_with words c) a b h t

pub fresh_begins : {B : Type 0} (seen : Shows B) (words : List (List Meaning)) (c : Context) (given : Option ℕ) (a b : Viewed B) (n : ℕ) → Acts seen (λ w. nothing (status_in given w) w) a b (Ok n)
    → Loops seen (first (plan_by words c given)) (first (plan_with words c n)) a b
fresh_begins seen words c None a b n t = done_then seen (λ (w : WorldData). nothing w.status w) (plan_with words c) a b n t
fresh_begins seen words c (Some m) a b n t = done_then seen (λ (w : WorldData). nothing m w) (plan_with words c) a b n t
