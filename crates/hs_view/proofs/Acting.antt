-- Commands part by part, with all that they keep.
use Rattle.std.proofs.Common.{◌≡◌, Bool, true, false, List, [], ◌∷◌, ◌++◌, refl, sym, ap, ◌∙◌, subst, append_assoc, append-nil}
use Rattle.std.specs.Prelude.{Option, Some, None, Result, Ok, Err, IsErr, IsErrAnd, IfSome, ◌≤◌, ◌<◌, ◌↔◌}
use native.Mathlib.Omega.{arith}
use Rattle.hs_world.specs.Reads.{ReadList}
use Rattle.hs_world.specs.World.{WorldData, Applied, passed}
use Rattle.hs_world.specs.declared.effect.Effect.{Effect}
use Rattle.hs_world.specs.declared.world.Limit.{Limit}
use Rattle.hs_world.specs.declared.world.Limit.TheVariants as limit
use Rattle.hs_overlay.specs.Overlay.{no_overlay, over_all}
use Rattle.hs_overlay.specs.Sizes.{over_passes}
use Rattle.hs_view.specs.Acts.{Acts, Loops, Refused, Refuses, then_by, answering, only, refused_by}
use Rattle.hs_view.specs.Causes.{Rose}
use Rattle.hs_view.specs.Fetches.{Fetches}
use Rattle.hs_view.specs.Known.{tables_of, ends_in, routes_in}
use Rattle.hs_view.specs.Puts.{HaltsWhere, Puts, done_by}
use Rattle.hs_view.specs.Seen.{Shows, Still, spent_of}
use Rattle.hs_view.specs.Size.{trace_size}
use Rattle.hs_view.specs.Steps.{Done, Does, Halted, nothing}
use Rattle.hs_view.specs.View.{Viewed, Keeps, Moves, Showed, own}
use Rattle.hs_view.specs.declared.halt.Halt.{Halt}
use Rattle.hs_view.specs.declared.halt.Halt.TheVariants as halt
use Rattle.hs_view.specs.declared.halt.SpentKind.{SpentKind}
use Rattle.hs_view.specs.declared.halt.SpentKind.TheVariants as kind
use Rattle.hs_view.proofs.Keeping.{cancel, moved_then, moves_still, keeps_refl, keeps_as, keeps_halt, keeps_then, rose_later, showed_earlier, showed_next, showed_same}
use Rattle.hs_view.proofs.Several.{put_halted}
use Rattle.hs_view.proofs.Steps.{halted_none, halted_first, halted_then}

-- ---- what an answer is not

ok_err : {A : Type 0} (x : A) (h : Halt) → ◌≡◌ {A = Result A Halt} (Ok x) (Err h) → ⊥
ok_err x h e = cc

no_fault : {A : Type 0} → ◌≡◌ {A = Result A Halt} (Err halt.NoMemory) (Err halt.Fault) → ⊥
no_fault e = let x : halt.NoMemory ≡ halt.Fault = cc in cc

no_trace : {A : Type 0} → ◌≡◌ {A = Result A Halt} (Err halt.NoMemory) (Err halt.Trace) → ⊥
no_trace e = let x : halt.NoMemory ≡ halt.Trace = cc in cc

no_outside : {A : Type 0} → ◌≡◌ {A = Result A Halt} (Err halt.NoMemory) (Err halt.Outside) → ⊥
no_outside e = let x : halt.NoMemory ≡ halt.Outside = cc in cc

no_spent : {A : Type 0} (k : SpentKind) → ◌≡◌ {A = Result A Halt} (Err halt.NoMemory) (Err (halt.Spent k)) → ⊥
no_spent k e = let x : halt.NoMemory ≡ halt.Spent k = cc in cc

same_halt : {A C : Type 0} (h i : Halt) → ◌≡◌ {A = Result C Halt} (Err h) (Err i) → ◌≡◌ {A = Result A Halt} (Err h) (Err i)
same_halt h i e = let x : h ≡ i = cc in ap Err x

-- ---- the limit of a trace

-- this result comes where the trace passes its limit, once it had not passed it
abbrev Limits : {B A : Type 0} → Shows B → Viewed B → Viewed B → Result A Halt → Type 0
Limits seen a b r = (seen.tells a.base).writes ≡ false → trace_size a.reads a.effects ≤ a.trace → (r ≡ Err halt.Trace ↔ b.trace < trace_size b.reads b.effects)

limits_still : {B A : Type 0} (seen : Shows B) (v : Viewed B) (r : Result A Halt) → (r ≡ Err halt.Trace → ⊥) → Limits seen v v r
limits_still seen v r n = λ w l. (λ e. absurd (n e), λ p. absurd (omega (arith, l, p)))

-- after an answer it is not passed
limits_kept : {B A : Type 0} (seen : Shows B) (a b : Viewed B) (x : A) → Limits {A = A} seen a b (Ok x) → (seen.tells a.base).writes ≡ false → trace_size a.reads a.effects ≤ a.trace → trace_size b.reads b.effects ≤ b.trace
limits_kept seen a b x l w s = let n : b.trace < trace_size b.reads b.effects → ⊥ = λ p. ok_err x halt.Trace ((l w s).1 p) in omega (arith, n)

limits_then : {B A C : Type 0} (seen : Shows B) (a b c : Viewed B) (x : A) (r : Result C Halt) → (seen.tells b.base).writes ≡ (seen.tells a.base).writes → Limits {A = A} seen a b (Ok x) → Limits {A = C} seen b c r → Limits {A = C} seen a c r
limits_then seen a b c x r same l m = λ w s. m (same ∙ w) (limits_kept seen a b x l w s)

limits_as : {B A C : Type 0} (seen : Shows B) (a b : Viewed B) (x : A) (y : C) → Limits {A = A} seen a b (Ok x) → Limits {A = C} seen a b (Ok y)
limits_as seen a b x y l = λ w s. (λ e. absurd (ok_err y halt.Trace e), λ p. absurd (ok_err x halt.Trace ((l w s).1 p)))

limits_halt : {B A C : Type 0} (seen : Shows B) (a b : Viewed B) (h : Halt) → Limits {A = A} seen a b (Err h) → Limits {A = C} seen a b (Err h)
limits_halt {B} {A} {C} seen a b h l = λ w s. (λ e. (l w s).0 (same_halt {A = A} {C = C} h halt.Trace e), λ p. same_halt {A = C} {C = A} h halt.Trace ((l w s).1 p))

-- ---- nothing is done

-- want of memory
pub acts_memory : {B A : Type 0} (seen : Shows B) (meaning : WorldData → Done A) (v : Viewed B) → Acts seen meaning v v (Err halt.NoMemory)
acts_memory {B} {A} seen meaning v = record {
  does = λ u s. halted_none seen (meaning u).effects v v refl (refl, λ w. seen.made_none v.base);
  keeps = keeps_refl seen v (Err halt.NoMemory);
  fault = λ e. absurd (no_fault {A = A} e);
  trace = limits_still {A = A} seen v (Err halt.NoMemory) (no_trace {A = A});
  through = λ w. no_trace {A = A};
  spent = λ k e. absurd (no_spent {A = A} k e);
  full = λ k e. absurd (no_spent {A = A} k e);
  outside = no_outside {A = A};
}

-- an answer
pub acts_answer : {B A : Type 0} (seen : Shows B) (meaning : WorldData → Done A) (v : Viewed B) (x : A) → ((u : WorldData) → Showed seen v v u → meaning u ≡ nothing x u) → Acts seen meaning v v (Ok x)
acts_answer {B} {A} seen meaning v x m = record {
  does = λ u s. (sym (append-nil v.effects) ∙ ap (λ (d : Done A). v.effects ++ d.effects) (sym (m u s)), sym (ap (λ (d : Done A). d.answer) (m u s)));
  keeps = keeps_refl seen v (Ok x);
  fault = λ e. absurd (ok_err x halt.Fault e);
  trace = limits_still {A = A} seen v (Ok x) (ok_err x halt.Trace);
  through = λ w. ok_err x halt.Trace;
  spent = λ k e. absurd (ok_err x (halt.Spent k) e);
  full = λ k e. absurd (ok_err x (halt.Spent k) e);
  outside = ok_err x halt.Outside;
}

-- ---- one call

-- a read that was answered
pub acts_read : {B A C : Type 0} (seen : Shows B) (meaning : WorldData → Done C) (a b : Viewed B) (x : A) (y : C) → Fetches seen a b (Ok x)
    → ((u : WorldData) → Showed seen a b u → meaning u ≡ nothing y u) → Acts seen meaning a b (Ok y)
acts_read {B} {A} {C} seen meaning a b x y f m = record {
  does = λ u s. (f.effects ∙ sym (append-nil a.effects) ∙ ap (λ (d : Done C). a.effects ++ d.effects) (sym (m u s)), sym (ap (λ (d : Done C). d.answer) (m u s)));
  keeps = keeps_as seen a b x (Ok y) f.keeps;
  fault = λ e. absurd (ok_err y halt.Fault e);
  trace = limits_as {A = A} {C = C} seen a b x y f.trace;
  through = λ w. ok_err y halt.Trace;
  spent = λ k e. absurd (ok_err y (halt.Spent k) e);
  full = λ k e. absurd (ok_err y (halt.Spent k) e);
  outside = ok_err y halt.Outside;
}

-- a read that came to a halt
pub acts_unread : {B A C : Type 0} (seen : Shows B) (meaning : WorldData → Done C) (a b : Viewed B) (h : Halt) → Fetches {A = A} seen a b (Err h) → Still seen a.base b.base → Acts seen meaning a b (Err h)
acts_unread {B} {A} {C} seen meaning a b h f w = record {
  does = λ u s. halted_none seen (meaning u).effects a b f.effects w;
  keeps = keeps_halt {A = A} seen a b h h f.keeps;
  fault = λ i. f.fault (same_halt {A = A} {C = C} h halt.Fault i);
  trace = limits_halt {A = A} {C = C} seen a b h f.trace;
  through = λ t e. f.through t (same_halt {A = A} {C = C} h halt.Trace e);
  spent = λ k e. absurd (f.spent k (same_halt {A = A} {C = C} h (halt.Spent k) e));
  full = λ k e. absurd (f.spent k (same_halt {A = A} {C = C} h (halt.Spent k) e));
  outside = λ e. f.outside (same_halt {A = A} {C = C} h halt.Outside e);
}

-- an effect that was done
pub acts_put : {B A C : Type 0} (seen : Shows B) (meaning : WorldData → Done C) (a b : Viewed B) (e : Effect) (x : A) (y : C) → Puts seen a b e (Ok x)
    → ((u : WorldData) → Showed seen a b u → meaning u ≡ only e y u) → Acts seen meaning a b (Ok y)
acts_put {B} {A} {C} seen meaning a b e x y p m = record {
  does = λ u s. (p.effects ∙ ap (λ (d : Done C). a.effects ++ d.effects) (sym (m u s)), sym (ap (λ (d : Done C). d.answer) (m u s)));
  keeps = keeps_as seen a b x (Ok y) p.keeps;
  fault = λ f. absurd (ok_err y halt.Fault f);
  trace = limits_as {A = A} {C = C} seen a b x y p.trace;
  through = λ w. ok_err y halt.Trace;
  spent = λ k f. absurd (ok_err y (halt.Spent k) f);
  full = λ k f. absurd (ok_err y (halt.Spent k) f);
  outside = ok_err y halt.Outside;
}

-- an effect that is refused

limit_of : (A : Type 0) (k : SpentKind) (r : Result A Halt) → r ≡ Err (halt.Spent k) → (r ≡ Err (halt.Spent kind.Turns) → ⊥) → (r ≡ Err (halt.Spent kind.Frames) → ⊥) → (l : Limit) × (k ≡ spent_of l)
limit_of A kind.Turns r e t f = absurd (t e)
limit_of A kind.Bytes r e t f = (limit.Bytes, refl)
limit_of A kind.Frames r e t f = absurd (f e)
limit_of A kind.Tree r e t f = (limit.Tree, refl)

some_passed : (A : Type 0) (r : Result A Halt) (k : SpentKind) (l : Limit) (e : Effect) (o o' : Option WorldData) → r ≡ Err (halt.Spent k) → k ≡ spent_of l → o' ≡ o
    → IfSome o (λ w. HaltsWhere (halt.Spent (spent_of l)) (passed e w ≡ Some l) r) → IfSome o' (λ w. passed e w ≡ Some l)
some_passed A r k l e None o' h s same p = subst (λ (x : Option WorldData). IfSome x (λ w. passed e w ≡ Some l)) (sym same) tt
some_passed A r k l e (Some w) o' h s same p = subst (λ (x : Option WorldData). IfSome x (λ v. passed e v ≡ Some l)) (sym same) (p.0 (h ∙ ap (λ (i : SpentKind). Err (halt.Spent i)) s))

refused_now : {B A : Type 0} (seen : Shows B) (a b : Viewed B) (e : Effect) (r : Result A Halt) (k : SpentKind) → Puts seen a b e r → r ≡ Err (halt.Spent k) → (seen.tells a.base).writes ≡ true → refused_by true seen e b k
refused_now {B} {A} seen a b e r k p h w =
    let l = limit_of A k r h p.turns p.frames in
    (l.0, l.1, some_passed A r k l.0 e (seen.tells a.base).world (seen.tells b.base).world h l.1 (p.full k h).0 (p.spent w l.0))

tables_still : {B : Type 0} (seen : Shows B) (a b : Viewed B) → (seen.tells b.base).writes ≡ (seen.tells a.base).writes → b.reads ≡ a.reads → b.effects ≡ a.effects → tables_of seen b ≡ tables_of seen a
tables_still seen a b w r e =
    ap (λ (x : Bool). over_all (own x b.effects) (no_overlay (ends_in b.reads) (routes_in b.reads))) w
    ∙ ap (λ (es : List Effect). over_all (own (seen.tells a.base).writes es) (no_overlay (ends_in b.reads) (routes_in b.reads))) e
    ∙ ap (λ (rs : ReadList). over_all (own (seen.tells a.base).writes a.effects) (no_overlay (ends_in rs) (routes_in rs))) r

not_tree : (A : Type 0) (k : SpentKind) (r : Result A Halt) → r ≡ Err (halt.Spent k) → (r ≡ Err (halt.Spent kind.Turns) → ⊥) → (r ≡ Err (halt.Spent kind.Frames) → ⊥) → (r ≡ Err (halt.Spent kind.Tree) → ⊥) → k ≡ kind.Bytes
not_tree A kind.Turns r e t f n = absurd (t e)
not_tree A kind.Bytes r e t f n = refl
not_tree A kind.Frames r e t f n = absurd (f e)
not_tree A kind.Tree r e t f n = absurd (n e)

refused_later : {B A : Type 0} (seen : Shows B) (a b : Viewed B) (e : Effect) (r : Result A Halt) (k : SpentKind) → Puts seen a b e r → r ≡ Err (halt.Spent k) → b.effects ≡ a.effects → (seen.tells a.base).writes ≡ false → refused_by false seen e b k
refused_later {B} {A} seen a b e r k p h same w =
    let is : k ≡ kind.Bytes = not_tree A k r h p.turns p.frames (p.tree w) in
    (is, ap (over_passes e) (tables_still seen a b p.keeps.writes p.reads same) ∙ (p.long w).0 (h ∙ ap (λ (i : SpentKind). Err (halt.Spent i)) is))

refused_on : {B A : Type 0} (seen : Shows B) (a b : Viewed B) (e : Effect) (r : Result A Halt) (k : SpentKind) (x : Bool) → (seen.tells a.base).writes ≡ x → Puts seen a b e r → r ≡ Err (halt.Spent k) → b.effects ≡ a.effects → refused_by x seen e b k
refused_on {B} {A} seen a b e r k true w p h same = refused_now {A = A} seen a b e r k p h w
refused_on {B} {A} seen a b e r k false w p h same = refused_later {A = A} seen a b e r k p h same w

spent_still : (A : Type 0) (k : SpentKind) (r : Result A Halt) (es : List Effect) (e : Effect) → r ≡ Err (halt.Spent k) → done_by r es e ≡ es
spent_still A k r es e h = subst (λ (x : Result A Halt). done_by x es e ≡ es) (sym h) refl

put_refused : {B A C : Type 0} (seen : Shows B) (meaning : WorldData → Done C) (a b : Viewed B) (e : Effect) (r : Result A Halt) (k : SpentKind) → Puts seen a b e r → r ≡ Err (halt.Spent k)
    → ((u : WorldData) → (meaning u).effects ≡ e ∷ []) → Refused seen meaning a b k
put_refused {B} {A} {C} seen meaning a b e r k p h m =
    let same : b.effects ≡ a.effects = p.effects ∙ spent_still A k r a.effects e h in
    λ u s. record {
      next = e;
      rest = [];
      is = ap (λ (es : List Effect). a.effects ++ es) (m u) ∙ ap (λ (es : List Effect). es ++ e ∷ []) (sym same);
      refused = refused_on {A = A} seen a b e r k (seen.tells b.base).writes (sym p.keeps.writes) p h same;
    }

-- A base has exactly the new effects.
abbrev Exact : {B : Type 0} → Shows B → Viewed B → Viewed B → Type 0
Exact seen a b = (made : List Effect) → b.effects ≡ a.effects ++ made → Moves seen made a.base b.base

put_full : {B A : Type 0} (seen : Shows B) (a b : Viewed B) (e : Effect) (r : Result A Halt) (k : SpentKind) → Puts seen a b e r → r ≡ Err (halt.Spent k) → Exact seen a b
put_full {B} {A} seen a b e r k p h = λ made m.
    let same : b.effects ≡ a.effects = p.effects ∙ spent_still A k r a.effects e h in
    let none : made ≡ [] = sym (cancel a.effects [] made (append-nil a.effects ∙ sym same ∙ m)) in
    moves_still seen a.base b.base made none (p.full k h)

full_then : {B A C : Type 0} (seen : Shows B) (a b c : Viewed B) (x : A) (r : Result C Halt) (k : SpentKind) → Keeps {H = Halt} seen a b (Ok x) → Keeps seen b c r → Exact seen b c → Exact seen a c
full_then seen a b c x r k f l t = moved_then seen a b c f.writes f.effects l.effects f.moved t

-- an effect that came to a halt
pub acts_unput : {B A C : Type 0} (seen : Shows B) (meaning : WorldData → Done C) (a b : Viewed B) (e : Effect) (h : Halt) → Puts {A = A} seen a b e (Err h)
    → ((u : WorldData) → (meaning u).effects ≡ e ∷ []) → Acts seen meaning a b (Err h)
acts_unput {B} {A} {C} seen meaning a b e h p m = record {
  does = λ u s. subst (λ (es : List Effect). Halted seen es a b) (sym (m u)) (put_halted A seen a b e h p.effects p.left);
  keeps = keeps_halt {A = A} seen a b h h p.keeps;
  fault = λ i. p.fault (same_halt {A = A} {C = C} h halt.Fault i);
  trace = limits_halt {A = A} {C = C} seen a b h p.trace;
  through = λ t i. p.through t (same_halt {A = A} {C = C} h halt.Trace i);
  spent = λ k i. put_refused {A = A} {C = C} seen meaning a b e (Err h) k p (same_halt {A = A} {C = C} h (halt.Spent k) i) m;
  full = λ k i. put_full {A = A} seen a b e (Err h) k p (same_halt {A = A} {C = C} h (halt.Spent k) i);
  outside = λ i. p.outside (same_halt {A = A} {C = C} h halt.Outside i);
}

-- ---- one meaning for another

as_done : {B A : Type 0} (seen : Shows B) (m n : WorldData → Done A) (a b : Viewed B) (r : Result A Halt) → ((u : WorldData) → Showed seen a b u → m u ≡ n u) → Does seen m a b r → Does seen n a b r
as_done {B} {A} seen m n a b (Ok x) e d = λ u s. let g = d u s in (g.0 ∙ ap (λ (y : Done A). a.effects ++ y.effects) (e u s), g.1 ∙ ap (λ (y : Done A). y.answer) (e u s))
as_done {B} {A} seen m n a b (Err h) e d = λ u s. subst (λ (y : Done A). Halted seen y.effects a b) (e u s) (d u s)

-- the same in each state that was shown
pub acts_as : {B A : Type 0} (seen : Shows B) (m n : WorldData → Done A) (a b : Viewed B) (r : Result A Halt) → ((u : WorldData) → Showed seen a b u → m u ≡ n u) → Acts seen m a b r → Acts seen n a b r
acts_as {B} {A} seen m n a b r e t = record {
  does = as_done seen m n a b r e t.does;
  keeps = t.keeps;
  fault = t.fault;
  trace = t.trace;
  through = t.through;
  spent = λ k h u s. subst (λ (d : Done A). Refuses seen (a.effects ++ d.effects) b k) (e u s) (t.spent k h u s);
  full = t.full;
  outside = t.outside;
}

-- another answer
pub acts_answering : {B A C : Type 0} (seen : Shows B) (f : A → C) (m : WorldData → Done A) (a b : Viewed B) (x : A) → Acts seen m a b (Ok x) → Acts seen (λ w. answering f (m w)) a b (Ok (f x))
acts_answering {B} {A} {C} seen f m a b x t = record {
  does = λ u s. let g = t.does u s in (g.0, ap f g.1);
  keeps = keeps_as seen a b x (Ok (f x)) t.keeps;
  fault = λ e. absurd (ok_err (f x) halt.Fault e);
  trace = limits_as {A = A} {C = C} seen a b x (f x) t.trace;
  through = λ w. ok_err (f x) halt.Trace;
  spent = λ k e. absurd (ok_err (f x) (halt.Spent k) e);
  full = λ k e. absurd (ok_err (f x) (halt.Spent k) e);
  outside = ok_err (f x) halt.Outside;
}

pub acts_answering_halt : {B A C : Type 0} (seen : Shows B) (f : A → C) (m : WorldData → Done A) (a b : Viewed B) (h : Halt) → Acts seen m a b (Err h) → Acts seen (λ w. answering f (m w)) a b (Err h)
acts_answering_halt {B} {A} {C} seen f m a b h t = record {
  does = λ u s. t.does u s;
  keeps = keeps_halt {A = A} seen a b h h t.keeps;
  fault = λ e. t.fault (same_halt {A = A} {C = C} h halt.Fault e);
  trace = limits_halt {A = A} {C = C} seen a b h t.trace;
  through = λ w e. t.through w (same_halt {A = A} {C = C} h halt.Trace e);
  spent = λ k e. t.spent k (same_halt {A = A} {C = C} h (halt.Spent k) e);
  full = λ k e. t.full k (same_halt {A = A} {C = C} h (halt.Spent k) e);
  outside = λ e. t.outside (same_halt {A = A} {C = C} h halt.Outside e);
}

-- ---- one part after another

does_by : {B A C : Type 0} (seen : Shows B) (one : WorldData → Done A) (rest : A → WorldData → Done C) (a b c : Viewed B) (x : A) (r : Result C Halt)
    → Does {H = Halt} seen one a b (Ok x) → Keeps {H = Halt} seen a b (Ok x) → Does seen (rest x) b c r → Keeps seen b c r → Does seen (λ w. then_by (one w) rest w) a c r
does_by {B} {A} {C} seen one rest a b c x (Ok y) d k f l = λ u s.
    let g = d u (showed_earlier {H = Halt} seen a b c (Ok y) u l s) in
    let w : WorldData = Applied (one u).effects u in
    let q = f w (showed_next {H = Halt} seen a b c x (one u).effects u k g.0 s) in (
      q.0
          ∙ ap (λ (es : List Effect). es ++ (rest x w).effects) g.0
          ∙ append_assoc a.effects (one u).effects (rest x w).effects
          ∙ ap (λ (z : A). a.effects ++ ((one u).effects ++ (rest z w).effects)) g.1,
      q.1 ∙ ap (λ (z : A). (rest z w).answer) g.1,
    )
does_by {B} {A} {C} seen one rest a b c x (Err h) d k f l = λ u s.
    let g = d u (showed_earlier {A = C} {H = Halt} seen a b c (Err h) u l s) in
    let w : WorldData = Applied (one u).effects u in
    subst (λ (z : A). Halted seen ((one u).effects ++ (rest z w).effects) a c) g.1
    (halted_then {H = Halt} seen (one u).effects (rest x w).effects a b c x k g.0 (f w (showed_next {H = Halt} seen a b c x (one u).effects u k g.0 s)))

-- what the second part is refused
then_refused : {B A C : Type 0} (seen : Shows B) (one : WorldData → Done A) (rest : A → WorldData → Done C) (a b c : Viewed B) (x : A) (r : Result C Halt) (k : SpentKind)
    → Acts seen one a b (Ok x) → Keeps seen b c r → Refused seen (rest x) b c k → Refused seen (λ w. then_by (one w) rest w) a c k
then_refused {B} {A} {C} seen one rest a b c x r k t l q = λ u s.
    let g = t.does u (showed_earlier {A = C} {H = Halt} seen a b c r u l s) in
    let w : WorldData = Applied (one u).effects u in
    let f = q w (showed_next {H = Halt} seen a b c x (one u).effects u t.keeps g.0 s) in
    record {
      next = f.next;
      rest = f.rest;
      is = ap (λ (z : A). a.effects ++ ((one u).effects ++ (rest z w).effects)) (sym g.1)
          ∙ sym (append_assoc a.effects (one u).effects (rest x w).effects)
          ∙ ap (λ (es : List Effect). es ++ (rest x w).effects) (sym g.0)
          ∙ f.is;
      refused = f.refused;
    }

-- the second part, behind the first
pub acts_then : {B A C : Type 0} (seen : Shows B) (one : WorldData → Done A) (rest : A → WorldData → Done C) (a b c : Viewed B) (x : A) (r : Result C Halt)
    → Acts seen one a b (Ok x) → Acts seen (rest x) b c r → Acts seen (λ w. then_by (one w) rest w) a c r
acts_then {B} {A} {C} seen one rest a b c x r s t = record {
  does = does_by seen one rest a b c x r s.does s.keeps t.does t.keeps;
  keeps = keeps_then seen a b c x r s.keeps t.keeps;
  fault = λ e. rose_later (seen.tells a.base).faults (seen.tells b.base).faults (seen.tells c.base).faults s.keeps.later (t.fault e);
  trace = limits_then {A = A} {C = C} seen a b c x r s.keeps.writes s.trace t.trace;
  through = λ w. t.through (s.keeps.writes ∙ w);
  spent = λ k e. then_refused seen one rest a b c x r k s t.keeps (t.spent k e);
  full = λ k e. full_then seen a b c x r k s.keeps t.keeps (t.full k e);
  outside = t.outside;
}

more_refused : {B : Type 0} (seen : Shows B) (es fs : List Effect) (a b : Viewed B) (k : SpentKind) → Refuses seen (a.effects ++ es) b k → Refuses seen (a.effects ++ (es ++ fs)) b k
more_refused seen es fs a b k r = record {
  next = r.next;
  rest = r.rest ++ fs;
  is = sym (append_assoc a.effects es fs) ∙ ap (λ (xs : List Effect). xs ++ fs) r.is ∙ append_assoc b.effects (r.next ∷ r.rest) fs;
  refused = r.refused;
}

-- a halt in the first part
pub acts_first : {B A C : Type 0} (seen : Shows B) (one : WorldData → Done A) (rest : A → WorldData → Done C) (a b : Viewed B) (h : Halt) → Acts seen one a b (Err h) → Acts seen (λ w. then_by (one w) rest w) a b (Err h)
acts_first {B} {A} {C} seen one rest a b h t = record {
  does = λ u s. halted_first seen (one u).effects (rest (one u).answer (Applied (one u).effects u)).effects a b (t.does u s);
  keeps = keeps_halt {A = A} seen a b h h t.keeps;
  fault = λ e. t.fault (same_halt {A = A} {C = C} h halt.Fault e);
  trace = limits_halt {A = A} {C = C} seen a b h t.trace;
  through = λ w e. t.through w (same_halt {A = A} {C = C} h halt.Trace e);
  spent = λ k e u s. more_refused seen (one u).effects (rest (one u).answer (Applied (one u).effects u)).effects a b k (t.spent k (same_halt {A = A} {C = C} h (halt.Spent k) e) u s);
  full = λ k e. t.full k (same_halt {A = A} {C = C} h (halt.Spent k) e);
  outside = λ e. t.outside (same_halt {A = A} {C = C} h halt.Outside e);
}

-- want of memory behind it
pub acts_short : {B A C : Type 0} (seen : Shows B) (one : WorldData → Done A) (rest : A → WorldData → Done C) (a b : Viewed B) (x : A) → Acts seen one a b (Ok x) → Acts seen (λ w. then_by (one w) rest w) a b (Err halt.NoMemory)
acts_short seen one rest a b x t = acts_then seen one rest a b b x (Err halt.NoMemory) t (acts_memory seen (rest x) b)

-- ---- loops over parts

-- before the first part
pub loops_start : {B A : Type 0} (seen : Shows B) (whole : WorldData → Done A) (v : Viewed B) → Loops seen whole whole v v
loops_start seen whole v = record { on = λ c r t. t }

-- one part more
pub loops_step : {B A C : Type 0} (seen : Shows B) (whole : WorldData → Done C) (one : WorldData → Done A) (rest : A → WorldData → Done C) (start here next : Viewed B) (x : A)
    → Loops seen whole (λ w. then_by (one w) rest w) start here → Acts seen one here next (Ok x) → Loops seen whole (rest x) start next
loops_step seen whole one rest start here next x l t = record { on = λ c r s. l.on c r (acts_then seen one rest here next c x r t s) }

-- a halt in a part
pub loops_halt : {B A C : Type 0} (seen : Shows B) (whole : WorldData → Done C) (one : WorldData → Done A) (rest : A → WorldData → Done C) (start here next : Viewed B) (h : Halt)
    → Loops seen whole (λ w. then_by (one w) rest w) start here → Acts seen one here next (Err h) → Acts seen whole start next (Err h)
loops_halt seen whole one rest start here next h l t = l.on next (Err h) (acts_first seen one rest here next h t)

-- no part is left
pub loops_end : {B A : Type 0} (seen : Shows B) (whole rest : WorldData → Done A) (start here : Viewed B) (x : A)
    → ((u : WorldData) → rest u ≡ nothing x u) → Loops seen whole rest start here → Acts seen whole start here (Ok x)
loops_end seen whole rest start here x e l = l.on here (Ok x) (acts_answer seen rest here x (λ u s. e u))

-- ---- halts that are handed on

halt_on : {A : Type 0} (r : Result A Halt) (h : Halt) → IsErr r → IsErrAnd r (λ i. i ≡ h) → r ≡ Err h
halt_on (Err i) h a b = ap Err b
halt_on (Ok x) h a b = absurd b

pub acts_on : {B A : Type 0} (seen : Shows B) (meaning : WorldData → Done A) (a b : Viewed B) (h : Halt) (r : Result A Halt) → IsErr r → IsErrAnd r (λ i. i ≡ h) → Acts seen meaning a b (Err h) → Acts seen meaning a b r
acts_on {B} {A} seen meaning a b h r e i t = subst (λ (x : Result A Halt). Acts seen meaning a b x) (sym (halt_on r h e i)) t

-- want of memory before anything is done
pub acts_memory_on : {B A : Type 0} (seen : Shows B) (meaning : WorldData → Done A) (v : Viewed B) (r : Result A Halt) → IsErr r → IsErrAnd r (λ i. i ≡ halt.NoMemory) → Acts seen meaning v v r
acts_memory_on seen meaning v r e i = acts_on seen meaning v v halt.NoMemory r e i (acts_memory seen meaning v)

-- ---- a read, and then more

does_read : {B A C : Type 0} (seen : Shows B) (m n : WorldData → Done C) (a b c : Viewed B) (x : A) (r : Result C Halt) → Keeps {H = Halt} seen a b (Ok x) → b.effects ≡ a.effects → Keeps seen b c r
    → ((u : WorldData) → Showed seen a b u → m u ≡ n u) → Does seen m b c r → Does seen n a c r
does_read {B} {A} {C} seen m n a b c x (Ok y) k e l q d = λ u s.
    let g = d u (showed_same {H = Halt} seen a b c x u k e s) in
    let same = q u (showed_earlier {A = C} {H = Halt} seen a b c (Ok y) u l s) in (
      g.0 ∙ ap (λ (es : List Effect). es ++ (m u).effects) e ∙ ap (λ (z : Done C). a.effects ++ z.effects) same,
      g.1 ∙ ap (λ (z : Done C). z.answer) same,
    )
does_read {B} {A} {C} seen m n a b c x (Err h) k e l q d = λ u s.
    let g = d u (showed_same {H = Halt} seen a b c x u k e s) in
    let same = q u (showed_earlier {A = C} {H = Halt} seen a b c (Err h) u l s) in
    subst (λ (z : Done C). Halted seen z.effects a c) same
    (halted_then {H = Halt} seen [] (m u).effects a b c x k (e ∙ sym (append-nil a.effects)) g)

-- what follows the read is refused
read_refused : {B A C : Type 0} (seen : Shows B) (m n : WorldData → Done C) (a b c : Viewed B) (x : A) (r : Result C Halt) (k : SpentKind) → Fetches seen a b (Ok x) → Keeps seen b c r
    → ((u : WorldData) → Showed seen a b u → m u ≡ n u) → Refused seen m b c k → Refused seen n a c k
read_refused {B} {A} {C} seen m n a b c x r k f l q d = λ u s.
    let g = d u (showed_same {H = Halt} seen a b c x u f.keeps f.effects s) in
    let same = q u (showed_earlier {A = C} {H = Halt} seen a b c r u l s) in
    record {
      next = g.next;
      rest = g.rest;
      is = ap (λ (z : Done C). a.effects ++ z.effects) (sym same) ∙ ap (λ (es : List Effect). es ++ (m u).effects) (sym f.effects) ∙ g.is;
      refused = g.refused;
    }

-- What the read tells may be used in the meaning of what follows.
pub acts_read_then : {B A C : Type 0} (seen : Shows B) (m n : WorldData → Done C) (a b c : Viewed B) (x : A) (r : Result C Halt) → Fetches seen a b (Ok x)
    → ((u : WorldData) → Showed seen a b u → m u ≡ n u) → Acts seen m b c r → Acts seen n a c r
acts_read_then {B} {A} {C} seen m n a b c x r f q t = record {
  does = does_read seen m n a b c x r f.keeps f.effects t.keeps q t.does;
  keeps = keeps_then seen a b c x r f.keeps t.keeps;
  fault = λ e. rose_later (seen.tells a.base).faults (seen.tells b.base).faults (seen.tells c.base).faults f.keeps.later (t.fault e);
  trace = limits_then {A = A} {C = C} seen a b c x r f.keeps.writes f.trace t.trace;
  through = λ w. t.through (f.keeps.writes ∙ w);
  spent = λ k e. read_refused seen m n a b c x r k f t.keeps q (t.spent k e);
  full = λ k e. full_then seen a b c x r k f.keeps t.keeps (t.full k e);
  outside = t.outside;
}
