-- Instructions, one after another, over a stack of numbers.
use Rattle.std.specs.Prelude.{ℕ, zero, suc, not, ℤ, pos, List, [], ◌∷◌, Option, Some, None}
use Rattle.sh_arith.specs.declared.token.Math.{Math}
use Rattle.sh_arith.specs.declared.instr.Part.{Part}
use Rattle.sh_arith.specs.declared.instr.Part.TheVariants as part
use Rattle.sh_arith.specs.declared.instr.Instr.{Instr}
use Rattle.sh_arith.specs.declared.instr.Instr.TheVariants as instr
use Rattle.sh_arith.specs.Names.{Table}
use Rattle.sh_arith.specs.Number.{value_of}
use Rattle.sh_arith.specs.Value.{Ended, value, stopped, Fault, Cause, fault, and_then, number_at, Calculated, gives, fails, calculate, calculated, with_sign, truth, is_zero, by_zero_or, decides, decided, store}

-- the numbers, and where instructions are skipped, how many more parts have begun
pub record Run : Type 0 where
  pub skipped : Option ℕ
  pub values : List ℤ

abbrev pub run : Option ℕ → List ℤ → Run
run depth vs = record { skipped = depth; values = vs }

abbrev pub going : List ℤ → Run
going = run None

-- skipped up to the end of a part, of which this many more have begun
abbrev pub skipping : ℕ → List ℤ → Run
skipping d = run (Some d)

-- how many more parts have begun
abbrev pub depth_of : Option ℕ → ℕ
depth_of None = 0
depth_of (Some d) = d

-- the number on top, and those below it
abbrev pub first : List ℤ → ℤ
first [] = pos 0
first (v ∷ vs) = v

abbrev pub below : List ℤ → List ℤ
below [] = []
below (v ∷ vs) = vs

-- ---- skipping

abbrev pub shallower : ℕ → Option ℕ
shallower zero = None
shallower (suc d) = Some d

abbrev pub resumed : ℕ → Option ℕ
resumed zero = None
resumed (suc d) = Some (suc d)

abbrev pub skip_one : Instr → ℕ → Option ℕ
skip_one (instr.Begin p) d = Some (suc d)
skip_one instr.Otherwise d = resumed d
skip_one (instr.End p) d = shallower d
skip_one (instr.Number n) d = Some d
skip_one (instr.Read p x) d = Some d
skip_one (instr.Sign s) d = Some d
skip_one (instr.Math m) d = Some d
skip_one (instr.Store o p x) d = Some d

-- ---- instructions that meet no name

-- how the numbers go on, or why they don't
pub data Did : Type 0 where
  went : Run → Did
  failed : Fault → Did

-- a part begins, or is skipped
abbrev pub begin : Part → ℤ → List ℤ → Run
begin (part.Logic l) u vs = decides l u (skipping 0 (decided l ∷ vs)) (going vs)
begin part.Choice u vs = by_zero_or u (skipping 0 vs) (going vs)

abbrev pub finished : Part → List ℤ → List ℤ
finished (part.Logic l) vs = truth (not (is_zero (first vs))) ∷ below vs
finished part.Choice vs = vs

abbrev pub calculated_on : Calculated → List ℤ → Did
calculated_on (gives v) vs = went (going (v ∷ vs))
calculated_on (fails f) vs = failed f

abbrev pub do_math : Math → List ℤ → Did
do_math m vs = calculated_on (calculate m (first (below vs)) (first vs)) (below (below vs))

abbrev pub plain : Instr → List ℤ → Did
plain (instr.Number n) vs = went (going (n ∷ vs))
plain (instr.Sign s) vs = went (going (with_sign s (first vs) ∷ below vs))
plain (instr.Math m) vs = do_math m vs
plain (instr.Begin p) vs = went (begin p (first vs) (below vs))
plain instr.Otherwise vs = went (skipping 0 vs)
plain (instr.End p) vs = went (going (finished p vs))
plain (instr.Read p x) vs = went (going vs)
plain (instr.Store o p x) vs = went (going vs)

-- ---- one instruction

-- How the numbers go on, and the table; or why they don't.
pub data Moved : Type 0 where
  on : Run → Table → Moved
  halted : Cause → Table → Moved

abbrev pub with_table : Did → Table → Moved
with_table (went r) w = on r w
with_table (failed f) w = halted (fault f) w

-- a number is put on the others
abbrev pub onto : List ℤ → Ended → Moved
onto vs (value v w) = on (going (v ∷ vs)) w
onto vs (stopped c w) = halted c w

abbrev pub do_read : ℕ → List ℕ → List ℤ → Table → Moved
do_read p x vs w = onto vs (number_at p (value_of (w.value x)) w)

abbrev pub store_calculated : Calculated → ℕ → List ℕ → Table → Ended
store_calculated c p x w = and_then (calculated c w) (λ r w'. store p x r w')

-- the number that is stored, and the numbers below those that it is made of
abbrev pub operand : Option Math → List ℤ → Calculated
operand None vs = gives (first vs)
operand (Some m) vs = calculate m (first (below vs)) (first vs)

abbrev pub below_operand : Option Math → List ℤ → List ℤ
below_operand None vs = below vs
below_operand (Some m) vs = below (below vs)

abbrev pub do_store : Option Math → ℕ → List ℕ → List ℤ → Table → Moved
do_store o p x vs w = onto (below_operand o vs) (store_calculated (operand o vs) p x w)

abbrev pub do_one : Instr → List ℤ → Table → Moved
do_one (instr.Read p x) vs w = do_read p x vs w
do_one (instr.Store o p x) vs w = do_store o p x vs w
do_one (instr.Number n) vs w = with_table (plain (instr.Number n) vs) w
do_one (instr.Sign s) vs w = with_table (plain (instr.Sign s) vs) w
do_one (instr.Math m) vs w = with_table (plain (instr.Math m) vs) w
do_one (instr.Begin p) vs w = with_table (plain (instr.Begin p) vs) w
do_one instr.Otherwise vs w = with_table (plain instr.Otherwise vs) w
do_one (instr.End p) vs w = with_table (plain (instr.End p) vs) w

abbrev pub move_in : Option ℕ → Instr → List ℤ → Table → Moved
move_in None i vs w = do_one i vs w
move_in (Some d) i vs w = on (run (skip_one i d) vs) w

abbrev pub move : Instr → Run → Table → Moved
move i r w = move_in r.skipped i r.values w

-- ---- all

abbrev pub and_on : Moved → (Run → Table → Ended) → Ended
and_on (on r w) k = k r w
and_on (halted c w) k = stopped c w

abbrev pub exec : List Instr → Run → Table → Ended
exec [] r w = value (first r.values) w
exec (i ∷ is) r w = and_on (move i r w) (λ r' w'. exec is r' w')
