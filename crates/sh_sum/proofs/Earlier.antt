-- The assignments that were made before change nothing of what comes.
use Rattle.std.proofs.Common.{◌≡◌, ℕ, ℤ, Bool, true, false, List, [], ◌∷◌, ◌++◌, Option, Some, None, refl, ap, ◌∙◌, append_assoc}
use Rattle.std.specs.Prelude.{if◌then◌else◌}
use Rattle.std.specs.Fmt.{signed_decimal}
use Rattle.std.specs.Str.{bytes_eq}
use Rattle.sh_arith.specs.declared.instr.Instr.{Instr}
use Rattle.sh_arith.specs.declared.instr.Instr.TheVariants as instr
use Rattle.sh_arith.specs.Exec.{Did, Moved, Run, and_on, below_operand, do_one, exec, failed, going, halted, move, move_in, on, onto, operand, plain, store_calculated, went, with_table}
use Rattle.sh_arith.specs.Names.{Assignment, Table, assigned, to}
use Rattle.sh_arith.specs.Number.{value_of}
use Rattle.sh_arith.specs.Value.{Calculated, Ended, fails, gives, is_read_only, number_at, stopped, value}

abbrev pub earlier : List Assignment → Table → Table
earlier pre w = record w { made = pre ++ w.made }

abbrev pub earlier_ended : List Assignment → Ended → Ended
earlier_ended pre (value n w) = value n (earlier pre w)
earlier_ended pre (stopped c w) = stopped c (earlier pre w)

abbrev earlier_moved : List Assignment → Moved → Moved
earlier_moved pre (on r w) = on r (earlier pre w)
earlier_moved pre (halted c w) = halted c (earlier pre w)

number : (pre : List Assignment) (vs : List ℤ) (p : ℕ) (o : Option ℤ) (w : Table) → onto vs (number_at p o (earlier pre w)) ≡ earlier_moved pre (onto vs (number_at p o w))
number pre vs p None w = refl
number pre vs p (Some n) w = refl

abbrev by_test : ℕ → List ℕ → ℤ → Table → Bool → Ended
by_test p x n w b = if b then stopped (is_read_only p x n) w else value n (assigned x n w)

test : (pre : List Assignment) (vs : List ℤ) (p : ℕ) (x : List ℕ) (n : ℤ) (w : Table) (b : Bool) → onto vs (by_test p x n (earlier pre w) b) ≡ earlier_moved pre (onto vs (by_test p x n w b))
test pre vs p x n w true = refl
test pre vs p x n w false =
    ap (λ (all : List Assignment). on (going (n ∷ vs)) (record { value = λ y. if bytes_eq y x then Some (signed_decimal n) else w.value y; read_only = w.read_only; made = all })) (append_assoc pre w.made (to x n ∷ []))

stores : (pre : List Assignment) (vs : List ℤ) (c : Calculated) (p : ℕ) (x : List ℕ) (w : Table) → onto vs (store_calculated c p x (earlier pre w)) ≡ earlier_moved pre (onto vs (store_calculated c p x w))
stores pre vs (gives n) p x w = test pre vs p x n w (w.read_only x)
stores pre vs (fails f) p x w = refl

nameless : (pre : List Assignment) (d : Did) (w : Table) → with_table d (earlier pre w) ≡ earlier_moved pre (with_table d w)
nameless pre (went r) w = refl
nameless pre (failed f) w = refl

ones : (i : Instr) (vs : List ℤ) (pre : List Assignment) (w : Table) → do_one i vs (earlier pre w) ≡ earlier_moved pre (do_one i vs w)
ones (instr.Read p x) vs pre w = number pre vs p (value_of (w.value x)) w
ones (instr.Store o p x) vs pre w = stores pre (below_operand o vs) (operand o vs) p x w
ones (instr.Number n) vs pre w = nameless pre (plain (instr.Number n) vs) w
ones (instr.Sign s) vs pre w = nameless pre (plain (instr.Sign s) vs) w
ones (instr.Math m) vs pre w = nameless pre (plain (instr.Math m) vs) w
ones (instr.Begin p) vs pre w = nameless pre (plain (instr.Begin p) vs) w
ones instr.Otherwise vs pre w = nameless pre (plain instr.Otherwise vs) w
ones (instr.End p) vs pre w = nameless pre (plain (instr.End p) vs) w

moves : (skipped : Option ℕ) (i : Instr) (vs : List ℤ) (pre : List Assignment) (w : Table) → move_in skipped i vs (earlier pre w) ≡ earlier_moved pre (move_in skipped i vs w)
moves None i vs pre w = ones i vs pre w
moves (Some d) i vs pre w = refl

goes_on : (pre : List Assignment) (m : Moved) (f : Run → Table → Ended) → ((r : Run) (w : Table) → f r (earlier pre w) ≡ earlier_ended pre (f r w)) → and_on (earlier_moved pre m) f ≡ earlier_ended pre (and_on m f)
goes_on pre (on r w) f h = h r w
goes_on pre (halted c w) f h = refl

pub execs : (is : List Instr) (r : Run) (pre : List Assignment) (w : Table) → exec is r (earlier pre w) ≡ earlier_ended pre (exec is r w)
execs [] r pre w = refl
execs (i ∷ is) r pre w =
    ap (λ (m : Moved). and_on m (λ r' w'. exec is r' w')) (moves r.skipped i r.values pre w)
    ∙ goes_on pre (move i r w) (λ r' w'. exec is r' w') (λ r' w'. execs is r' pre w')
