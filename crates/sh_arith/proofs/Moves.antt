-- From what names answer to what an instruction does.
use Rattle.std.proofs.Common.{◌≡◌, ℕ, ℤ, Bool, true, false, List, [], ◌∷◌, ◌++◌, Option, Result, Ok, Err, refl, sym, ap, subst, ◌∙◌, ◌⊎◌, inr}
use Rattle.std.specs.Prelude.{if◌then◌else◌}
use Rattle.sh_arith.specs.declared.names.ArithErr.{ArithErr}
use Rattle.sh_arith.specs.declared.names.ArithErr.TheVariants as err
use Rattle.sh_arith.specs.declared.names.Assigned.TheVariants.{Yes, ReadOnly}
use Rattle.sh_arith.specs.declared.instr.Instr.{Instr}
use Rattle.sh_arith.specs.Does.{Tells}
use Rattle.sh_arith.specs.Names as n
use Rattle.sh_arith.specs.Names.{Table, to, assigned, Sets}
use Rattle.sh_arith.specs.Value.{Ended, value, stopped, Cause, fault, no_number, is_read_only, by_zero, bad_shift, store, Calculated, gives}
use Rattle.sh_arith.specs.Exec.{Run, run, going, Moved, on, onto, store_calculated, Did, went, failed, with_table, plain, do_one}
use Rattle.sh_arith.specs.Answers.{Seen, told_by, MayCome}
use Rattle.sh_arith.specs.Moves as m
use Rattle.sh_arith.specs.Moves.{MoveSays, ReadSays, StoreSays, Passes, SetHalts, HaltsAt, StopsAt, Between, tried_by}

-- ---- a `set`

store-by : (p : ℕ) (x : List ℕ) (v : ℤ) (w : Table) (b : Bool) → w.read_only x ≡ b → store p x v w ≡ (if b then stopped (is_read_only p x v) w else value v (assigned x v w))
store-by p x v w b e = ap (λ (t : Bool). if t then stopped (is_read_only p x v) w else value v (assigned x v w)) e

pub set_yes : {H : Type 0} (U M : H → Type 0) (p : ℕ) (x : List ℕ) (v : ℤ) (w w' : Table) → Sets U M (Ok Yes) x v w w' → store p x v w ≡ value v w'
set_yes U M p x v w _ (n.yes e) = store-by p x v w false e

pub set_kept : {H : Type 0} (U M : H → Type 0) (p : ℕ) (x : List ℕ) (v : ℤ) (w w' : Table) → Sets U M (Ok ReadOnly) x v w w' → store p x v w ≡ stopped (is_read_only p x v) w'
set_kept U M p x v w _ (n.kept e) = store-by p x v w true e

set_halts : {S H : Type 0} (seen : Seen S H) (old new : S) (x : List ℕ) (v : ℤ) (h : H) (w w' : Table) →
    Sets (seen.unmade_halts old new x v) (seen.made_halts old new x v) (Err h) x v w w' → SetHalts seen x v old new w h w'
set_halts seen old new x v _ w _ (n.halted h u) = m.unmade u
set_halts seen old new x v _ w _ (n.halted_after h u e) = m.made u e

pub set_halted : {S H : Type 0} (seen : Seen S H) (old new : S) (x y : List ℕ) (u v : ℤ) (h : H) (w w' : Table) → y ≡ x → u ≡ v →
    Sets (seen.unmade_halts old new y u) (seen.made_halts old new y u) (Err h) y u w w' → SetHalts seen x v old new w h w'
set_halted seen old new x y u v h w w' e f s =
    set_halts seen old new x v h w w' (subst (λ (k : ℤ). Sets (seen.unmade_halts old new x k) (seen.made_halts old new x k) (Err h) x k w w') f
    (subst (λ (k : List ℕ). Sets (seen.unmade_halts old new k u) (seen.made_halts old new k u) (Err h) k u w w') e s))

-- ---- an instruction

pub value_on : (vs : List ℤ) (v : ℤ) (e : Ended) (w : Table) → e ≡ value v w → onto vs e ≡ on (going (v ∷ vs)) w
value_on vs v e w h = ap (onto vs) h

pub value_between : (vs : List ℤ) (v : ℤ) (e : Ended) (w w' : Table) → e ≡ value v w' → Between (onto vs e) w w'
value_between vs v e w w' h = m.already (going (v ∷ vs)) (value_on vs v e w' h)

pub stops_on : {H : Type 0} (vs : List ℤ) (c : Cause) (e : Ended) (w : Table) (x : ArithErr H) → e ≡ stopped c w → told_by c ≡ x → StopsAt (onto vs e) w x
stops_on vs c e w x h t = record { cause = c; stopped = ap (onto vs) h; told = t }

tried-store : (vs : List ℤ) (p : ℕ) (x : List ℕ) (v : ℤ) (w : Table) (b : Bool) → tried_by (onto vs (if b then stopped (is_read_only p x v) w else value v (assigned x v w))) ≡ w.made ++ to x v ∷ []
tried-store vs p x v w true = refl
tried-store vs p x v w false = refl

pub halts_on : {S H : Type 0} (seen : Seen S H) (vs : List ℤ) (p : ℕ) (x : List ℕ) (v : ℤ) (old new : S) (w w' : Table) (h : H) →
    SetHalts seen x v old new w h w' → HaltsAt seen (onto vs (store p x v w)) old new w h w'
halts_on seen vs p x v old new w _ h (m.unmade u) = m.at_unmade x v (tried-store vs p x v w (w.read_only x)) u
halts_on seen vs p x v old new w _ h (m.made u e) = m.at_made x v (going (v ∷ vs)) (ap (onto vs) (store-by p x v w false e)) u

pub given : (c : Calculated) (p : ℕ) (x : List ℕ) (v : ℤ) (w : Table) → c ≡ gives v → store_calculated c p x w ≡ store p x v w
given c p x v w e = ap (λ (k : Calculated). store_calculated k p x w) e

pub went_on : (d : Did) (r : Run) (w : Table) → d ≡ went r → with_table d w ≡ on r w
went_on d r w e = ap (λ (k : Did). with_table k w) e

pub fails_by_zero : {H : Type 0} (d : Did) (w : Table) → d ≡ failed by_zero → StopsAt {H = H} (with_table d w) w err.DivideByZero
fails_by_zero d w e = record { cause = fault by_zero; stopped = ap (λ (k : Did). with_table k w) e; told = refl }

pub fails_shift : {H : Type 0} (d : Did) (w : Table) → d ≡ failed bad_shift → StopsAt {H = H} (with_table d w) w err.BadShift
fails_shift d w e = record { cause = fault bad_shift; stopped = ap (λ (k : Did). with_table k w) e; told = refl }

-- an error, of a result of this type
abbrev pub error : (T : Type 0) {E : Type 0} → E → Result T E
error T e = Err e

pub same_error : (T U : Type 0) {E : Type 0} (a b : E) → error T a ≡ error T b → error U a ≡ error U b
same_error T U a b h = let e : a ≡ b = cc in ap (error U) e

pub may_set : {S H : Type 0} (seen : Seen S H) (why : ArithErr H) (x : List ℕ) (v : ℤ) (old new : S) →
    ((h : H) → error ℤ why ≡ error ℤ (err.Halt h) → seen.unmade_halts old new x v h ⊎ seen.made_halts old new x v h) →
    (h : H) → error (Option ℕ) why ≡ error (Option ℕ) (err.Halt h) → MayCome seen old new h
may_set seen why x v old new f h e = inr (x, v, f h (same_error (Option ℕ) ℤ why (err.Halt h) e))

pub read_moves : {S H : Type 0} (seen : Seen S H) (why : ArithErr H) (vs left : List ℤ) (e : Ended) (old new : S) (w : Table) → ReadSays seen (Err why) e old new w →
    ((h : H) → error ℤ why ≡ error ℤ (err.Halt h) → seen.get_halts old new h) → MoveSays seen (Err why) left (onto vs e) old new w w
read_moves seen (err.Bad p) vs left e old new w s h = stops_on vs (no_number p) e w (err.Bad p) s refl
read_moves seen err.DivideByZero vs left e old new w s h = absurd s
read_moves seen err.BadShift vs left e old new w s h = absurd s
read_moves seen err.NoMemory vs left e old new w s h = absurd s
read_moves seen (err.Halt k) vs left e old new w s h = m.at_get (h k refl)

pub store_between : (vs : List ℤ) (c : Calculated) (v u r : ℤ) (p : ℕ) (x : List ℕ) (w w' : Table) → c ≡ gives v → u ≡ v → store p x u w ≡ value r w' → Between (onto vs (store_calculated c p x w)) w w'
store_between vs c v u r p x w w' e f s = value_between vs r (store_calculated c p x w) w w' (given c p x v w e ∙ ap (λ (k : ℤ). store p x k w) (sym f) ∙ s)

moves-at : {S H : Type 0} (seen : Seen S H) (why : ArithErr H) (vs left : List ℤ) (p : ℕ) (x : List ℕ) (v : ℤ) (old new : S) (w w' : Table) →
    StoreSays seen (Err why) x v (store p x v w) old new w w' → MoveSays seen (Err why) left (onto vs (store p x v w)) old new w w'
moves-at seen (err.Bad q) vs left p x v old new w w' s = stops_on vs (is_read_only q x v) (store p x v w) w' (err.Bad q) s refl
moves-at seen err.DivideByZero vs left p x v old new w w' s = absurd s
moves-at seen err.BadShift vs left p x v old new w w' s = absurd s
moves-at seen err.NoMemory vs left p x v old new w w' s = absurd s
moves-at seen (err.Halt h) vs left p x v old new w w' s = halts_on seen vs p x v old new w w' h s

pub store_moves : {S H : Type 0} (seen : Seen S H) (why : ArithErr H) (vs left : List ℤ) (c : Calculated) (p : ℕ) (x : List ℕ) (v u : ℤ) (old new : S) (w w' : Table) → c ≡ gives v → u ≡ v →
    StoreSays seen (Err why) x u (store p x u w) old new w w' → MoveSays seen (Err why) left (onto vs (store_calculated c p x w)) old new w w'
store_moves seen why vs left c p x v u old new w w' e f s =
    subst (λ (k : Ended). MoveSays seen (Err why) left (onto vs k) old new w w') (ap (λ (k : ℤ). store p x k w) f ∙ sym (given c p x v w e)) (moves-at seen why vs left p x u old new w w' s)

tells-moves : {S H : Type 0} (seen : Seen S H) (r : Result (Option ℕ) (ArithErr H)) (vs : List ℤ) (d : Did) (old : S) (w : Table) → Tells r vs d → MoveSays seen r vs (with_table d w) old old w w
tells-moves seen (Ok o) vs d old w t = went_on d (run o vs) w t
tells-moves seen (Err (err.Halt h)) vs d old w t = absurd t
tells-moves seen (Err (err.Bad p)) vs d old w t = absurd t
tells-moves seen (Err err.NoMemory) vs d old w t = m.not_yet
tells-moves seen (Err err.DivideByZero) vs d old w t = fails_by_zero d w t
tells-moves seen (Err err.BadShift) vs d old w t = fails_shift d w t

pub plain_moves : {S H : Type 0} (seen : Seen S H) (i j : Instr) (r : Result (Option ℕ) (ArithErr H)) (vs vs' : List ℤ) (old : S) (w : Table) → i ≡ j → do_one j vs w ≡ with_table (plain j vs) w →
    Tells r vs' (plain i vs) → MoveSays seen r vs' (do_one i vs w) old old w w
plain_moves seen i j r vs vs' old w e f t =
    let g : with_table (plain i vs) w ≡ do_one i vs w = ap (λ (k : Instr). with_table (plain k vs) w) e ∙ sym f ∙ ap (λ (k : Instr). do_one k vs w) (sym e) in
    subst (λ (k : Moved). MoveSays seen r vs' k old old w w) g (tells-moves seen r vs' (plain i vs) old w t)
