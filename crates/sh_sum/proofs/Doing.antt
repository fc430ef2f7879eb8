-- What each instruction is found to do.
use Rattle.std.proofs.Common.{◌≡◌, ℕ, ◌+◌, ◌<◌, ◌≤◌, ℤ, Bool, true, false, List, ◌∷◌, length, drop, get_or, refl, sym, ap, subst, ◌∙◌}
use Rattle.std.proofs.lemmas.List.{drop_all}
use Rattle.std.specs.Prelude.{Option, Some, None, Result, Ok, Err, if◌then◌else◌}
use Rattle.std.specs.FinMap.{get}
use Rattle.hs_world.specs.World.{WorldData}
use Rattle.hs_world.specs.declared.effect.Effect.TheVariants.{SetVar}
use Rattle.hs_world.specs.declared.var.Var.{Var}
use Rattle.hs_view.specs.Acts.{Acts, Loops, only, then_by}
use Rattle.hs_view.specs.Seen.{Shows}
use Rattle.hs_view.specs.Steps.{Done, nothing}
use Rattle.hs_view.specs.View.{Viewed}
use Rattle.hs_view.specs.declared.halt.Halt.{Halt}
use Rattle.hs_view.proofs.Acting.{acts_answer, acts_memory, loops_end, loops_step}
use Rattle.sh_arith.specs.Calc.{Gives}
use Rattle.sh_arith.specs.Does.{Does}
use Rattle.sh_arith.specs.declared.calc.NoNumber.{NoNumber}
use Rattle.sh_arith.specs.declared.calc.NoNumber.TheVariants.{ByZero, BadShift}
use Rattle.sh_arith.specs.declared.exec.NotDone.{NotDone}
use Rattle.sh_arith.specs.declared.exec.NotDone.TheVariants as undone
use Rattle.sh_arith.specs.declared.instr.Instr.{Instr}
use Rattle.sh_arith.specs.declared.instr.Instr.TheVariants as instr
use Rattle.sh_arith.specs.declared.token.Math.{Math}
use Rattle.sh_arith.specs.Exec.{Did, below_operand, do_one, first, operand, plain, run, skip_one, went, with_table}
use Rattle.sh_arith.specs.Number.{value_of}
use Rattle.sh_arith.specs.Value.{Calculated, gives}
use Rattle.sh_arith.proofs.Loop.{item_cons}
use Rattle.sh_sum.specs.Sums.{assigned_var, is_readonly, table_of, value_in}
use Rattle.sh_sum.specs.Turns.{behind, did, fault_of, one_done, pushed, read_done, rest_done, stopped, store_done, stored, stored_by, turn_done, turned}
use Rattle.sh_sum.specs.declared.sum.Sum.{Sum}
use Rattle.sh_sum.specs.declared.sum.Sum.TheVariants as answer
use Rattle.sh_sum.specs.declared.turn.Turn.{Turn}
use Rattle.sh_sum.specs.declared.turn.Turn.TheVariants as turn
use Rattle.sh_sum.proofs.Stepping.{did_is, read_is, rest_step, store_is}

-- the variable has a number, or none
pub read_pushed : (x : List ℕ) (n m : ℤ) (vs : List ℤ) (u : WorldData) (o : Option Var) (r : Option ℤ) (t : Turn) → get u.vars x ≡ o → r ≡ value_of (value_in o) → r ≡ Some n → m ≡ n → t ≡ turn.On None (m ∷ vs)
    → read_done x vs u ≡ nothing t u
read_pushed x n m vs u o r t e is found same made =
    ap (λ (p : Option Var). nothing (pushed vs (value_of (value_in p))) u) e
    ∙ ap (λ (k : Option ℤ). nothing (pushed vs k) u) (sym is ∙ found)
    ∙ ap (λ (s : Turn). nothing s u) (sym (made ∙ ap (λ (k : ℤ). turn.On None (k ∷ vs)) same))

pub read_none : (x : List ℕ) (vs : List ℤ) (u : WorldData) (o : Option Var) (r : Option ℤ) → get u.vars x ≡ o → r ≡ value_of (value_in o) → r ≡ None → read_done x vs u ≡ nothing (turn.Ended answer.Bad) u
read_none x vs u o r e is found =
    ap (λ (p : Option Var). nothing (pushed vs (value_of (value_in p))) u) e
    ∙ ap (λ (k : Option ℤ). nothing (pushed vs k) u) (sym is ∙ found)

abbrev stored_of : Option Var → List ℕ → ℤ → List ℤ → WorldData → Bool → Done Turn
stored_of o x n vs u b = if b then nothing (turn.Ended answer.Bad) u else only (SetVar x (assigned_var o n)) (turn.On None (n ∷ vs)) u

-- a variable that is read only
pub stored_fixed : (x : List ℕ) (n : ℤ) (vs : List ℤ) (u : WorldData) (o : Option Var) → get u.vars x ≡ o → is_readonly o ≡ true → stored x n vs u ≡ nothing (turn.Ended answer.Bad) u
stored_fixed x n vs u o e r = ap (λ (p : Option Var). stored_of p x n vs u (is_readonly p)) e ∙ ap (stored_of o x n vs u) r

-- any other
pub stored_set : (x y : List ℕ) (n : ℤ) (vs : List ℤ) (u : WorldData) (o : Option Var) (var : Var) (t : Turn) → get u.vars x ≡ o → is_readonly o ≡ false → y ≡ x → var ≡ assigned_var o n → t ≡ turn.On None (n ∷ vs)
    → only (SetVar y var) t u ≡ stored x n vs u
stored_set x y n vs u o var t e r name is goes =
    ap (λ (z : List ℕ). only (SetVar z var) t u) name
    ∙ ap (λ (v : Var). only (SetVar x v) t u) is
    ∙ ap (λ (s : Turn). only (SetVar x (assigned_var o n)) s u) goes
    ∙ sym (ap (λ (p : Option Var). stored_of p x n vs u (is_readonly p)) e ∙ ap (stored_of o x n vs u) r)

pub store_given : (op : Option Math) (x : List ℕ) (n : ℤ) (vs left : List ℤ) (u : WorldData) → operand op vs ≡ gives n → left ≡ below_operand op vs → stored x n left u ≡ store_done op x vs u
store_given op x n vs left u e b = ap (λ (ws : List ℤ). stored x n ws u) b ∙ ap (λ (k : Calculated). stored_by k x (below_operand op vs) u) (sym e)

failed_by : (x : List ℕ) (left : List ℤ) (u : WorldData) (why : NoNumber) (k : Calculated) → Gives (Err why) k → stored_by k x left u ≡ nothing (turn.Ended (fault_of why)) u
failed_by x left u ByZero k h = ap (λ (c : Calculated). stored_by c x left u) h
failed_by x left u BadShift k h = ap (λ (c : Calculated). stored_by c x left u) h

pub store_failed : (op : Option Math) (x : List ℕ) (vs : List ℤ) (u : WorldData) (why : NoNumber) (s : Sum) → s ≡ fault_of why → Gives (Err why) (operand op vs) → store_done op x vs u ≡ nothing (turn.Ended s) u
store_failed op x vs u why s e h = failed_by x (below_operand op vs) u why (operand op vs) h ∙ ap (λ (t : Sum). nothing (turn.Ended t) u) (sym e)

-- ---- an instruction that meets no name

pub plain_went : (d : Did) (o : Option ℕ) (vs : List ℤ) (u : WorldData) → d ≡ went (run o vs) → nothing (did d) u ≡ nothing (turn.On o vs) u
plain_went d o vs u h = ap (λ (k : Did). nothing (did k) u) h

pub plain_stops : {B : Type 0} (seen : Shows B) (why : NotDone) (vs : List ℤ) (d : Did) (v : Viewed B) (r : Result Turn Halt) → Does (Err why) vs d → r ≡ stopped why → Acts seen (λ (w : WorldData). nothing (did d) w) v v r
plain_stops {B} seen (undone.NoNumber ByZero) vs d v r h e =
    let m = λ (w : WorldData). nothing (did d) w in
    subst (λ (x : Result Turn Halt). Acts seen m v v x) (sym e) (acts_answer seen m v (turn.Ended answer.DivisionByZero) (λ u s. ap (λ (k : Did). nothing (did k) u) h))
plain_stops {B} seen (undone.NoNumber BadShift) vs d v r h e =
    let m = λ (w : WorldData). nothing (did d) w in
    subst (λ (x : Result Turn Halt). Acts seen m v v x) (sym e) (acts_answer seen m v (turn.Ended answer.BadShift) (λ u s. ap (λ (k : Did). nothing (did k) u) h))
plain_stops {B} seen undone.Memory vs d v r h e =
    let m = λ (w : WorldData). nothing (did d) w in
    subst (λ (x : Result Turn Halt). Acts seen m v v x) (sym e) (acts_memory seen m v)

-- ---- which instruction it is

pub nameless_on : (i j : Instr) (vs : List ℤ) (u : WorldData) → i ≡ j → do_one j vs (table_of u) ≡ with_table (plain j vs) (table_of u) → nothing (did (plain i vs)) u ≡ one_done i vs u
nameless_on i j vs u e h = ap (λ (k : Instr). nothing (did (plain k vs)) u) e ∙ did_is (plain j vs) u ∙ ap (turned u) (sym h) ∙ ap (λ (k : Instr). one_done k vs u) (sym e)

pub read_on : (i : Instr) (p : ℕ) (x : List ℕ) (vs : List ℤ) (u : WorldData) → i ≡ instr.Read p x → read_done x vs u ≡ one_done i vs u
read_on i p x vs u e = read_is p x vs u ∙ ap (λ (k : Instr). one_done k vs u) (sym e)

pub store_on : (i : Instr) (op : Option Math) (p : ℕ) (x : List ℕ) (vs : List ℤ) (u : WorldData) → i ≡ instr.Store op p x → store_done op x vs u ≡ one_done i vs u
store_on i op p x vs u e = store_is op p x vs u ∙ ap (λ (k : Instr). one_done k vs u) (sym e)

pub skips_on : (i : Instr) (skipped o : Option ℕ) (d : ℕ) (vs : List ℤ) (u : WorldData) → skipped ≡ Some d → o ≡ skip_one i d → turn_done i skipped vs u ≡ nothing (turn.On o vs) u
skips_on i skipped o d vs u e h = ap (λ (k : Option ℕ). turn_done i k vs u) e ∙ ap (λ (k : Option ℕ). nothing (turn.On k vs) u) (sym h)

-- ---- all instructions

-- the one at hand, and those behind it
pub next_on : {B : Type 0} (seen : Shows B) (whole : WorldData → Done Sum) (code : List Instr) (n : ℕ) (i : Instr) (skipped : Option ℕ) (vs : List ℤ) (start here : Viewed B) → n < length code → i ≡ get_or code n i
    → Loops seen whole (rest_done (drop n code) (run skipped vs)) start here → Loops seen whole (λ w. then_by (turn_done i skipped vs w) (behind (drop (n + 1) code)) w) start here
next_on {B} seen whole code n i skipped vs start here h e l =
    subst (λ (m : WorldData → Done Sum). Loops seen whole m start here)
    ((λ k. λ (w : WorldData). rest_done (item_cons code n i h e k) (run skipped vs) w) ∙ (λ k. λ (w : WorldData). rest_step i (drop (n + 1) code) skipped vs w k)) l

pub last_on : {B : Type 0} (seen : Shows B) (whole : WorldData → Done Sum) (code : List Instr) (n : ℕ) (skipped : Option ℕ) (vs : List ℤ) (x : ℤ) (start here : Viewed B) → length code ≤ n → x ≡ first vs
    → Loops seen whole (rest_done (drop n code) (run skipped vs)) start here → Acts seen whole start here (Ok (answer.Number x))
last_on {B} seen whole code n skipped vs x start here h e l =
    loops_end seen whole (rest_done (drop n code) (run skipped vs)) start here (answer.Number x)
    (λ u. ap (λ (is : List Instr). rest_done is (run skipped vs) u) (drop_all n code h) ∙ ap (λ (y : ℤ). nothing (answer.Number y) u) (sym e)) l

-- the expression goes on, or has ended
pub goes_on : {B : Type 0} (seen : Shows B) (whole : WorldData → Done Sum) (code : List Instr) (n : ℕ) (i : Instr) (skipped : Option ℕ) (vs : List ℤ) (start here next : Viewed B) (t : Turn) (o : Option ℕ) (left : List ℤ)
    → n < length code → i ≡ get_or code n i → Loops seen whole (rest_done (drop n code) (run skipped vs)) start here → t ≡ turn.On o left → Acts seen (turn_done i skipped vs) here next (Ok t)
    → Loops seen whole (rest_done (drop (n + 1) code) (run o left)) start next
goes_on {B} seen whole code n i skipped vs start here next t o left h e l is a =
    subst (λ (s : Turn). Loops seen whole (behind (drop (n + 1) code) s) start next) is
    (loops_step seen whole (turn_done i skipped vs) (behind (drop (n + 1) code)) start here next t (next_on seen whole code n i skipped vs start here h e l) a)

pub ended_on : {B : Type 0} (seen : Shows B) (whole : WorldData → Done Sum) (code : List Instr) (n : ℕ) (i : Instr) (skipped : Option ℕ) (vs : List ℤ) (start here next : Viewed B) (t : Turn) (s : Sum)
    → n < length code → i ≡ get_or code n i → Loops seen whole (rest_done (drop n code) (run skipped vs)) start here → t ≡ turn.Ended s → Acts seen (turn_done i skipped vs) here next (Ok t)
    → Acts seen whole start next (Ok s)
ended_on {B} seen whole code n i skipped vs start here next t s h e l is a =
    loops_end seen whole (behind (drop (n + 1) code) (turn.Ended s)) start next s (λ u. refl)
    (subst (λ (k : Turn). Loops seen whole (behind (drop (n + 1) code) k) start next) is
    (loops_step seen whole (turn_done i skipped vs) (behind (drop (n + 1) code)) start here next t (next_on seen whole code n i skipped vs start here h e l) a))
