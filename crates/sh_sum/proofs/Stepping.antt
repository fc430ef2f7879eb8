-- What an instruction does, and then those behind it.
use Rattle.std.proofs.Common.{◌≡◌, ℕ, ℤ, Bool, true, false, List, [], ◌∷◌, map, refl, sym, ap, ◌∙◌}
use Rattle.std.specs.Prelude.{Option, Some, None, if◌then◌else◌}
use Rattle.std.specs.FinMap.{get}
use Rattle.hs_world.specs.World.{WorldData}
use Rattle.hs_world.specs.declared.effect.Effect.{Effect}
use Rattle.hs_world.specs.declared.effect.Effect.TheVariants.{SetVar}
use Rattle.hs_view.specs.Acts.{only, then_by}
use Rattle.hs_view.specs.Steps.{nothing}
use Rattle.sh_arith.specs.declared.instr.Instr.{Instr}
use Rattle.sh_arith.specs.declared.instr.Instr.TheVariants as instr
use Rattle.sh_arith.specs.declared.token.Math.{Math}
use Rattle.sh_arith.specs.Exec.{Did, Moved, Run, and_on, below_operand, do_one, exec, failed, going, halted, move_in, on, onto, operand, plain, run, store_calculated, went, with_table}
use Rattle.sh_arith.specs.Grammar.{Tree}
use Rattle.sh_arith.specs.Machine.{emit}
use Rattle.sh_arith.specs.Names.{Assignment, Table, assigned, to}
use Rattle.sh_arith.specs.Number.{value_of}
use Rattle.sh_arith.specs.Trees.{tree_of}
use Rattle.sh_arith.specs.Value.{Calculated, Cause, Ended, fails, gives, is_read_only, number_at, stopped, value}
use Rattle.sh_arith.proofs.Law.{law}
use Rattle.sh_sum.specs.Sums.{assigned_var, is_readonly, set_of, sum_done, sum_of, summed, table_of, value_in}
use Rattle.sh_sum.specs.Turns.{behind, did, one_done, pushed, read_done, rest_done, store_done, stored_by, turn_done, turned}
use Rattle.sh_sum.specs.declared.sum.Sum.TheVariants as answer
use Rattle.sh_sum.specs.declared.turn.Turn.TheVariants as turn
use Rattle.sh_sum.proofs.Earlier.{earlier_ended, execs}
use Rattle.sh_sum.proofs.States.{after, sets_after, table_after, unmade}

-- ---- what an instruction can do

data Kind (u : WorldData) : Moved → Type 0 where
  stays : (r : Run) → Kind u (on r (table_of u))
  ends : (c : Cause) → Kind u (halted c (table_of u))
  sets : (r : Run) (x : List ℕ) (n : ℤ) → Kind u (on r (assigned x n (table_of u)))

number_kind : (u : WorldData) (vs : List ℤ) (p : ℕ) (o : Option ℤ) → Kind u (onto vs (number_at p o (table_of u)))
number_kind u vs p None = ends _
number_kind u vs p (Some n) = stays _

test_kind : (u : WorldData) (vs : List ℤ) (p : ℕ) (x : List ℕ) (n : ℤ) (b : Bool) → Kind u (onto vs (if b then stopped (is_read_only p x n) (table_of u) else value n (assigned x n (table_of u))))
test_kind u vs p x n true = ends _
test_kind u vs p x n false = sets _ x n

store_kind : (u : WorldData) (vs : List ℤ) (c : Calculated) (p : ℕ) (x : List ℕ) → Kind u (onto vs (store_calculated c p x (table_of u)))
store_kind u vs (gives n) p x = test_kind u vs p x n (is_readonly (get u.vars x))
store_kind u vs (fails f) p x = ends _

did_kind : (u : WorldData) (d : Did) → Kind u (with_table d (table_of u))
did_kind u (went r) = stays r
did_kind u (failed f) = ends _

one_kind : (u : WorldData) (i : Instr) (vs : List ℤ) → Kind u (do_one i vs (table_of u))
one_kind u (instr.Read p x) vs = number_kind u vs p (value_of (value_in (get u.vars x)))
one_kind u (instr.Store o p x) vs = store_kind u (below_operand o vs) (operand o vs) p x
one_kind u (instr.Number n) vs = did_kind u (plain (instr.Number n) vs)
one_kind u (instr.Sign s) vs = did_kind u (plain (instr.Sign s) vs)
one_kind u (instr.Math m) vs = did_kind u (plain (instr.Math m) vs)
one_kind u (instr.Begin p) vs = did_kind u (plain (instr.Begin p) vs)
one_kind u instr.Otherwise vs = did_kind u (plain instr.Otherwise vs)
one_kind u (instr.End p) vs = did_kind u (plain (instr.End p) vs)

kind : (u : WorldData) (skipped : Option ℕ) (i : Instr) (vs : List ℤ) → Kind u (move_in skipped i vs (table_of u))
kind u None i vs = one_kind u i vs
kind u (Some d) i vs = stays _

-- ---- and then the others

summed_earlier : (u : WorldData) (v : WorldData) (a : Assignment) (e : Ended) → set_of v ≡ set_of u
    → summed u (earlier_ended (a ∷ []) e) ≡ record { effects = set_of u a ∷ (summed v e).effects; answer = (summed v e).answer }
summed_earlier u v a (value n w) same = ap (λ (g : Assignment → Effect). record { effects = set_of u a ∷ map g w.made; answer = answer.Number n }) (sym same)
summed_earlier u v a (stopped c w) same = ap (λ (g : Assignment → Effect). record { effects = set_of u a ∷ map g w.made; answer = (summed v (stopped c w)).answer }) (sym same)

steps : (is : List Instr) (u : WorldData) (m : Moved) → Kind u m → summed u (and_on m (λ r w. exec is r w)) ≡ then_by (turned u m) (behind is) u
steps is u m (stays r) = refl
steps is u m (ends c) = refl
steps is u m (sets r x n) =
    ap (summed u) (execs is r (to x n ∷ []) (unmade (assigned x n (table_of u))))
    ∙ ap (λ (w : Table). summed u (earlier_ended (to x n ∷ []) (exec is r w))) (sym (table_after u x n))
    ∙ summed_earlier u (after u x n) (to x n) (exec is r (table_of (after u x n))) (sets_after u x n)

-- one instruction, and those behind it
pub rest_step : (i : Instr) (is : List Instr) (skipped : Option ℕ) (vs : List ℤ) (u : WorldData) → rest_done (i ∷ is) (run skipped vs) u ≡ then_by (turn_done i skipped vs u) (behind is) u
rest_step i is skipped vs u = steps is u (move_in skipped i vs (table_of u)) (kind u skipped i vs)

-- ---- each instruction by itself

number_is : (u : WorldData) (vs : List ℤ) (p : ℕ) (o : Option ℤ) → turned u (onto vs (number_at p o (table_of u))) ≡ nothing (pushed vs o) u
number_is u vs p None = refl
number_is u vs p (Some n) = refl

pub read_is : (p : ℕ) (x : List ℕ) (vs : List ℤ) (u : WorldData) → read_done x vs u ≡ one_done (instr.Read p x) vs u
read_is p x vs u = sym (number_is u vs p (value_of (value_in (get u.vars x))))

test_is : (u : WorldData) (vs : List ℤ) (p : ℕ) (x : List ℕ) (n : ℤ) (b : Bool)
    → turned u (onto vs (if b then stopped (is_read_only p x n) (table_of u) else value n (assigned x n (table_of u))))
    ≡ (if b then nothing (turn.Ended answer.Bad) u else only (SetVar x (assigned_var (get u.vars x) n)) (turn.On None (n ∷ vs)) u)
test_is u vs p x n true = refl
test_is u vs p x n false = refl

stored_is : (u : WorldData) (vs : List ℤ) (c : Calculated) (p : ℕ) (x : List ℕ) → turned u (onto vs (store_calculated c p x (table_of u))) ≡ stored_by c x vs u
stored_is u vs (gives n) p x = test_is u vs p x n (is_readonly (get u.vars x))
stored_is u vs (fails f) p x = refl

pub store_is : (op : Option Math) (p : ℕ) (x : List ℕ) (vs : List ℤ) (u : WorldData) → store_done op x vs u ≡ one_done (instr.Store op p x) vs u
store_is op p x vs u = sym (stored_is u (below_operand op vs) (operand op vs) p x)

pub did_is : (d : Did) (u : WorldData) → nothing (did d) u ≡ turned u (with_table d (table_of u))
did_is (went r) u = refl
did_is (failed f) u = refl

-- ---- all

pub sum_is : (text : List ℕ) (code : List Instr) (t : Tree) (u : WorldData) → tree_of text ≡ Some t → code ≡ emit t [] → rest_done code (going []) u ≡ sum_done text u
sum_is text code t u e same =
    ap (λ (is : List Instr). summed u (exec is (going []) (table_of u))) same
    ∙ ap (summed u) (law t (table_of u))
    ∙ ap (λ (o : Option Tree). sum_of o u) (sym e)
