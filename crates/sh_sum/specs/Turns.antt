-- Instruction by instruction.
use Rattle.std.specs.Prelude.{ℕ, ℤ, List, ◌∷◌, map, Option, Some, None, Result, Ok, Err, if◌then◌else◌}
use Rattle.std.specs.FinMap.{get}
use Rattle.hs_world.specs.World.{WorldData}
use Rattle.hs_world.specs.declared.effect.Effect.TheVariants.{SetVar}
use Rattle.hs_view.specs.Acts.{only}
use Rattle.hs_view.specs.Steps.{Done, nothing}
use Rattle.hs_view.specs.declared.halt.Halt.{Halt}
use Rattle.hs_view.specs.declared.halt.Halt.TheVariants.{NoMemory}
use Rattle.sh_arith.specs.declared.calc.NoNumber.{NoNumber}
use Rattle.sh_arith.specs.declared.calc.NoNumber.TheVariants.{ByZero, BadShift}
use Rattle.sh_arith.specs.declared.exec.NotDone.{NotDone}
use Rattle.sh_arith.specs.declared.exec.NotDone.TheVariants as undone
use Rattle.sh_arith.specs.declared.instr.Instr.{Instr}
use Rattle.sh_arith.specs.declared.token.Math.{Math}
use Rattle.sh_arith.specs.Exec.{Did, Moved, Run, below_operand, depth_of, do_one, exec, failed, halted, move_in, on, operand, run, went}
use Rattle.sh_arith.specs.Number.{value_of}
use Rattle.sh_arith.specs.Value.{Calculated, fails, gives}
use Rattle.sh_sum.specs.Sums.{assigned_var, fault_told, is_readonly, set_of, summed, table_of, told, value_in}
use Rattle.sh_sum.specs.declared.sum.Sum.{Sum}
use Rattle.sh_sum.specs.declared.sum.Sum.TheVariants as answer
use Rattle.sh_sum.specs.declared.turn.Turn.{Turn}
use Rattle.sh_sum.specs.declared.turn.Turn.TheVariants as turn

-- ---- any instruction

abbrev pub turned : WorldData → Moved → Done Turn
turned u (on r w) = record { effects = map (set_of u) w.made; answer = turn.On r.skipped r.values }
turned u (halted c w) = record { effects = map (set_of u) w.made; answer = turn.Ended (told c) }

-- it is done, or is skipped
abbrev pub turn_done : Instr → Option ℕ → List ℤ → WorldData → Done Turn
turn_done i skipped vs u = turned u (move_in skipped i vs (table_of u))

abbrev pub one_done : Instr → List ℤ → WorldData → Done Turn
one_done i vs u = turned u (do_one i vs (table_of u))

abbrev pub turn_depth : Turn → ℕ
turn_depth (turn.On skipped vs) = depth_of skipped
turn_depth (turn.Ended s) = 0

-- ---- each by itself

abbrev pub did : Did → Turn
did (went r) = turn.On r.skipped r.values
did (failed f) = turn.Ended (fault_told f)

abbrev pub fault_of : NoNumber → Sum
fault_of ByZero = answer.DivisionByZero
fault_of BadShift = answer.BadShift

abbrev pub stopped : NotDone → Result Turn Halt
stopped (undone.NoNumber why) = Ok (turn.Ended (fault_of why))
stopped undone.Memory = Err NoMemory

-- a number is put on the others, if there is one
abbrev pub pushed : List ℤ → Option ℤ → Turn
pushed vs None = turn.Ended answer.Bad
pushed vs (Some n) = turn.On None (n ∷ vs)

abbrev pub read_done : List ℕ → List ℤ → WorldData → Done Turn
read_done x vs u = nothing (pushed vs (value_of (value_in (get u.vars x)))) u

-- a name that is read only stays
abbrev pub stored : List ℕ → ℤ → List ℤ → WorldData → Done Turn
stored x n vs u = if is_readonly (get u.vars x) then nothing (turn.Ended answer.Bad) u else only (SetVar x (assigned_var (get u.vars x) n)) (turn.On None (n ∷ vs)) u

abbrev pub stored_by : Calculated → List ℕ → List ℤ → WorldData → Done Turn
stored_by (gives n) x vs u = stored x n vs u
stored_by (fails f) x vs u = nothing (turn.Ended (fault_told f)) u

abbrev pub store_done : Option Math → List ℕ → List ℤ → WorldData → Done Turn
store_done op x vs u = stored_by (operand op vs) x (below_operand op vs) u

-- ---- all that are left

abbrev pub rest_done : List Instr → Run → WorldData → Done Sum
rest_done is r u = summed u (exec is r (table_of u))

-- behind an instruction
abbrev pub behind : List Instr → Turn → WorldData → Done Sum
behind is (turn.On skipped vs) u = rest_done is (run skipped vs) u
behind is (turn.Ended s) u = nothing s u
