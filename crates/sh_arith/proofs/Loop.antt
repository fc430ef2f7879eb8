-- From one instruction to all.
use Rattle.std.proofs.Common.{◌≡◌, ℕ, suc, ◌+◌, ◌<◌, ℤ, Bool, true, false, List, [], ◌∷◌, ◌++◌, length, drop, get_or, Option, Some, None, Result, Ok, Err, refl, sym, ap, subst, ◌∙◌, append_assoc, add-one, drop-cons}
use Rattle.std.specs.Prelude.{if◌then◌else◌}
use Rattle.sh_arith.specs.declared.instr.Instr.{Instr}
use Rattle.sh_arith.specs.declared.instr.Instr.TheVariants as instr
use Rattle.sh_arith.specs.declared.names.ArithErr.{ArithErr}
use Rattle.sh_arith.specs.declared.names.ArithErr.TheVariants as err
use Rattle.sh_arith.specs.Names.{Table, Assignment, to, assigned, Assigns}
use Rattle.sh_arith.specs.Number.{value_of}
use Rattle.sh_arith.specs.Value.{Ended, value, stopped, is_read_only, number_at, Calculated, gives, fails, tried}
use Rattle.sh_arith.specs.Exec.{Run, run, going, Moved, on, halted, and_on, onto, Did, went, failed, with_table, plain, do_one, move_in, store_calculated, operand, below_operand, exec}
use Rattle.sh_arith.specs.Answers as answers
use Rattle.sh_arith.specs.Answers.{Seen, Says, Partly, Stops, Halts, MayCome, Caused}
use Rattle.sh_arith.specs.Moves as m
use Rattle.sh_arith.specs.Moves.{Passes, MoveSays, StopsAt, HaltsAt, Between, tried_by}

-- ---- what an instruction does to the table

append-nil : (xs : List Assignment) → xs ++ [] ≡ xs
append-nil [] = refl
append-nil (x ∷ xs) = ap (λ (ys : List Assignment). x ∷ ys) (append-nil xs)

after-both : (xs ys : List Assignment) (w : Table) → Assigns (xs ++ ys) w ≡ Assigns ys (Assigns xs w)
after-both [] ys w = refl
after-both (x ∷ xs) ys w = after-both xs ys (assigned x.name x.value w)

abbrev table_of : Moved → Table
table_of (on r w) = w
table_of (halted c w) = w

abbrev table_at : Ended → Table
table_at (value v w) = w
table_at (stopped c w) = w

-- the table comes by assignments, and all that was tried is known
record Goes (w w' : Table) (all : List Assignment) : Type 0 where
  made : List Assignment
  after : w' ≡ Assigns made w
  more : List Assignment
  told : all ≡ w.made ++ more

same-goes : (w : Table) → Goes w w w.made
same-goes w = record { made = []; after = refl; more = []; told = sym (append-nil w.made) }

onto-goes : (w : Table) (vs : List ℤ) (e : Ended) → Goes w (table_at e) (tried e) → Goes w (table_of (onto vs e)) (tried_by (onto vs e))
onto-goes w vs (value v w') g = g
onto-goes w vs (stopped c w') g = g

number-goes : (p : ℕ) (o : Option ℤ) (w : Table) → Goes w (table_at (number_at p o w)) (tried (number_at p o w))
number-goes p None w = same-goes w
number-goes p (Some v) w = same-goes w

abbrev by-test : ℕ → List ℕ → ℤ → Table → Bool → Ended
by-test p x v w b = if b then stopped (is_read_only p x v) w else value v (assigned x v w)

store-by-goes : (p : ℕ) (x : List ℕ) (v : ℤ) (w : Table) (b : Bool) → Goes w (table_at (by-test p x v w b)) (tried (by-test p x v w b))
store-by-goes p x v w true = record { made = []; after = refl; more = to x v ∷ []; told = refl }
store-by-goes p x v w false = record { made = to x v ∷ []; after = refl; more = to x v ∷ []; told = refl }

store-goes : (c : Calculated) (p : ℕ) (x : List ℕ) (w : Table) → Goes w (table_at (store_calculated c p x w)) (tried (store_calculated c p x w))
store-goes (gives v) p x w = store-by-goes p x v w (w.read_only x)
store-goes (fails f) p x w = same-goes w

did-goes : (d : Did) (w : Table) → Goes w (table_of (with_table d w)) (tried_by (with_table d w))
did-goes (went r) w = same-goes w
did-goes (failed f) w = same-goes w

one-goes : (i : Instr) (vs : List ℤ) (w : Table) → Goes w (table_of (do_one i vs w)) (tried_by (do_one i vs w))
one-goes (instr.Read p x) vs w = onto-goes w vs (number_at p (value_of (w.value x)) w) (number-goes p (value_of (w.value x)) w)
one-goes (instr.Store o p x) vs w = onto-goes w (below_operand o vs) (store_calculated (operand o vs) p x w) (store-goes (operand o vs) p x w)
one-goes (instr.Number n) vs w = did-goes (plain (instr.Number n) vs) w
one-goes (instr.Sign s) vs w = did-goes (plain (instr.Sign s) vs) w
one-goes (instr.Math k) vs w = did-goes (plain (instr.Math k) vs) w
one-goes (instr.Begin p) vs w = did-goes (plain (instr.Begin p) vs) w
one-goes instr.Otherwise vs w = did-goes (plain instr.Otherwise vs) w
one-goes (instr.End p) vs w = did-goes (plain (instr.End p) vs) w

move-goes : (sk : Option ℕ) (i : Instr) (vs : List ℤ) (w : Table) → Goes w (table_of (move_in sk i vs w)) (tried_by (move_in sk i vs w))
move-goes None i vs w = one-goes i vs w
move-goes (Some d) i vs w = same-goes w

-- what all tries goes on from what was made
abbrev More : Table → Ended → Type 0
More w e = (more : List Assignment) × (tried e ≡ w.made ++ more)

-- after an instruction, of whose tries `first` are known
and-more : (w : Table) (k : Moved) (f : Run → Table → Ended) (first : List Assignment) → tried_by k ≡ w.made ++ first → ((r : Run) (w' : Table) → More w' (f r w')) →
    (more : List Assignment) × (tried (and_on k f) ≡ w.made ++ (first ++ more))
and-more w (on r w') f first e h =
    let n = h r w' in
    (n.0, n.1 ∙ ap (λ (xs : List Assignment). xs ++ n.0) e ∙ append_assoc w.made first n.0)
and-more w (halted c w') f first e h = ([], e ∙ ap (λ (xs : List Assignment). w.made ++ xs) (sym (append-nil first)))

exec-more : (is : List Instr) (r : Run) (w : Table) → More w (exec is r w)
exec-more [] r w = ([], sym (append-nil w.made))
exec-more (i ∷ is) r w =
    let g = move-goes r.skipped i r.values w in
    let n = and-more w (move_in r.skipped i r.values w) (λ r' w'. exec is r' w') g.more g.told (λ r' w'. exec-more is r' w') in
    (g.more ++ n.0, n.1)

-- ---- the loop

-- Each table that agrees now comes by assignments from one that agreed first, and what is left gives from it what all gives
-- from that one.
abbrev pub Known : {S H : Type 0} → Seen S H → List Instr → List Instr → Option ℕ → List ℤ → S → S → Type 0
Known seen code left skipped vs old new = (w' : Table) → seen.agrees new w' →
    (w : Table) × seen.agrees old w × ((made : List Assignment) × (w' ≡ Assigns made w) × (exec code (going []) w ≡ exec left (run skipped vs) w'))

pub known-first : {S H : Type 0} (seen : Seen S H) (code : List Instr) (s : S) → Known seen code code None [] s s
known-first seen code s = λ w a. (w, a, ([], refl, refl))

-- what one instruction says
abbrev pub Turns : {S H : Type 0} → Seen S H → Result (Option ℕ) (ArithErr H) → Option ℕ → Instr → List ℤ → List ℤ → S → S → Type 0
Turns seen result sk i vs vs' old new = (w' : Table) → seen.agrees new w' → (w : Table) × seen.agrees old w × MoveSays seen result vs' (move_in sk i vs w) old new w w'

moved-on : (sk : Option ℕ) (i : Instr) (vs : List ℤ) (w w' : Table) (r : Run) → move_in sk i vs w ≡ on r w' → (made : List Assignment) × (w' ≡ Assigns made w)
moved-on sk i vs w w' r e = let g = move-goes sk i vs w in (g.made, sym (ap table_of e) ∙ g.after)

pub known-on : {S H : Type 0} (seen : Seen S H) (code left : List Instr) (i : Instr) (sk o : Option ℕ) (vs vs' : List ℤ) (old mid new : S) → Known seen code (i ∷ left) sk vs old mid →
    Turns seen (Ok o) sk i vs vs' mid new → Known seen code left o vs' old new
known-on seen code left i sk o vs vs' old mid new k t = λ w' a.
    let s = t w' a in
    let b = k s.0 s.1 in
    let g = moved-on sk i vs s.0 w' (run o vs') s.2 in
    (b.0, b.1, (b.2.0 ++ g.0, g.1 ∙ ap (Assigns g.0) b.2.1 ∙ sym (after-both b.2.0 g.0 b.0), b.2.2 ∙ ap (λ (x : Moved). and_on x (λ r w. exec left r w)) s.2))

-- ---- the instruction that is not done

partly-before : (e : Ended) (w0 w : Table) (made : List Assignment) (left : List Instr) (r : Run) → w ≡ Assigns made w0 → e ≡ exec left r w → (more : List Assignment) × Partly e w0 w more
partly-before e w0 w made left r a s = let n = exec-more left r w in (n.0, record { made = made; after = a; tried = ap tried s ∙ n.1 })

says : {S H : Type 0} (seen : Seen S H) (why : ArithErr H) (left : List Instr) (i : Instr) (sk : Option ℕ) (vs vs' : List ℤ) (old mid new : S) (e : Ended) (w0 w w' : Table) (made : List Assignment) →
    Passes seen old mid → w ≡ Assigns made w0 → e ≡ exec (i ∷ left) (run sk vs) w → MoveSays seen (Err why) vs' (move_in sk i vs w) mid new w w' → Says seen (Err why) e old new w0 w'
says seen (err.Bad p) left i sk vs vs' old mid new e w0 w w' made ps a s k = record { cause = k.cause; stopped = s ∙ ap (λ (x : Moved). and_on x (λ r u. exec left r u)) k.stopped; told = k.told }
says seen err.DivideByZero left i sk vs vs' old mid new e w0 w w' made ps a s k = record { cause = k.cause; stopped = s ∙ ap (λ (x : Moved). and_on x (λ r u. exec left r u)) k.stopped; told = k.told }
says seen err.BadShift left i sk vs vs' old mid new e w0 w w' made ps a s k = record { cause = k.cause; stopped = s ∙ ap (λ (x : Moved). and_on x (λ r u. exec left r u)) k.stopped; told = k.told }
says seen err.NoMemory left i sk vs vs' old mid new e w0 w w' made ps a s (m.not_yet) = partly-before e w0 w made (i ∷ left) (run sk vs) a s
says seen err.NoMemory left i sk vs vs' old mid new e w0 w w' made ps a s (m.already r f) =
    let g = moved-on sk i vs w w' r f in
    partly-before e w0 w' (made ++ g.0) left r (g.1 ∙ ap (Assigns g.0) a ∙ sym (after-both made g.0 w0)) (s ∙ ap (λ (x : Moved). and_on x (λ r u. exec left r u)) f)
says seen (err.Halt h) left i sk vs vs' old mid new e w0 w w' made ps a s (m.at_get u) =
    let n = partly-before e w0 w made (i ∷ left) (run sk vs) a s in
    answers.in_get n.0 n.1 (ps.gets new h u)
says seen (err.Halt h) left i sk vs vs' old mid new e w0 w w' made ps a s (m.at_unmade x v t u) =
    let n = and-more w (move_in sk i vs w) (λ r u. exec left r u) (to x v ∷ []) t (λ r u. exec-more left r u) in
    answers.unmade x v n.0 (record { made = made; after = a; tried = ap tried s ∙ n.1 }) (ps.unmade new x v h u)
says seen (err.Halt h) left i sk vs vs' old mid new e w0 w w' made ps a s (m.at_made x v r f u) =
    let g = moved-on sk i vs w (assigned x v w) r f in
    let n = partly-before e w0 (assigned x v w) (made ++ g.0) left r (g.1 ∙ ap (Assigns g.0) a ∙ sym (after-both made g.0 w0)) (s ∙ ap (λ (x : Moved). and_on x (λ r u. exec left r u)) f) in
    answers.made w x v n.0 n.1 (ps.made new x v h u)

pub says-all : {S H : Type 0} (seen : Seen S H) (why : ArithErr H) (code left : List Instr) (i : Instr) (sk : Option ℕ) (vs vs' : List ℤ) (old mid new : S) → Passes seen old mid → Known seen code (i ∷ left) sk vs old mid →
    Turns seen (Err why) sk i vs vs' mid new → (w' : Table) → seen.agrees new w' → (w : Table) × seen.agrees old w × Says seen (Err why) (exec code (going []) w) old new w w'
says-all seen why code left i sk vs vs' old mid new ps k t = λ w' a.
    let s = t w' a in
    let b = k s.0 s.1 in
    (b.0, b.1, says seen why left i sk vs vs' old mid new (exec code (going []) b.0) b.0 s.0 w' b.2.0 ps b.2.1 b.2.2 s.2)

-- ---- causes

pub chained : {S H : Type 0} (seen : Seen S H) (a b c : S) → Passes seen a b → Passes seen b c → Passes seen a c
chained seen a b c p q = record {
  gets = λ u h k. p.gets u h (q.gets u h k);
  unmade = λ u x v h k. p.unmade u x v h (q.unmade u x v h k);
  made = λ u x v h k. p.made u x v h (q.made u x v h k);
}

pub no-change : {S H : Type 0} (seen : Seen S H) (a : S) → Passes seen a a
no-change seen a = record { gets = λ u h k. k; unmade = λ u x v h k. k; made = λ u x v h k. k }

-- ---- at an index

pub item_cons : (code : List Instr) (i : ℕ) (x : Instr) → i < length code → x ≡ get_or code i x → drop i code ≡ x ∷ drop (i + 1) code
item_cons code i x h e = rw (add-one, drop-cons code i x) (ap (λ (y : Instr). y ∷ drop (suc i) code) (sym e))

pub known_at : {S H : Type 0} (seen : Seen S H) (code : List Instr) (n : ℕ) (i : Instr) (sk o : Option ℕ) (vs vs' : List ℤ) (old mid new : S) → n < length code → i ≡ get_or code n i →
    Known seen code (drop n code) sk vs old mid → Turns seen (Ok o) sk i vs vs' mid new → Known seen code (drop (n + 1) code) o vs' old new
known_at seen code n i sk o vs vs' old mid new h e k t =
    known-on seen code (drop (n + 1) code) i sk o vs vs' old mid new (subst (λ (is : List Instr). Known seen code is sk vs old mid) (item_cons code n i h e) k) t

pub says_at : {S H : Type 0} (seen : Seen S H) (why : ArithErr H) (code : List Instr) (n : ℕ) (i : Instr) (sk : Option ℕ) (vs vs' : List ℤ) (old mid new : S) → n < length code → i ≡ get_or code n i →
    Passes seen old mid → Known seen code (drop n code) sk vs old mid → Turns seen (Err why) sk i vs vs' mid new →
    (w' : Table) → seen.agrees new w' → (w : Table) × seen.agrees old w × Says seen (Err why) (exec code (going []) w) old new w w'
says_at seen why code n i sk vs vs' old mid new h e ps k t =
    says-all seen why code (drop (n + 1) code) i sk vs vs' old mid new ps (subst (λ (is : List Instr). Known seen code is sk vs old mid) (item_cons code n i h e) k) t
