-- What a run of a script comes to, in the terms of its serial meaning.
use Rattle.std.specs.Prelude.{◌≡◌, ◌⊎◌, ℕ, ◌-◌, List, [], Result, Ok, Err}
use Rattle.hs_world.specs.declared.effect.Effect.{Effect}
use Rattle.hs_world.specs.World.{WorldData, Applied}
use Rattle.hs_view.specs.Steps.{IsFront}
use Rattle.hs_view.specs.declared.halt.Halt.{Halt}
use Rattle.hs_view.specs.declared.halt.Halt.TheVariants as halt
use Rattle.hs_view.specs.declared.halt.SpentKind.{SpentKind}
use Rattle.sh_syntax.specs.declared.tree.Script.{Script}
use Rattle.sh_leaf.specs.Cut.{Row, Serial}
use Rattle.sh_leaf.specs.Do.{Do, most_frames, most_nested}
use Rattle.sh_leaf.specs.Run.{Final, whole_run}
use Rattle.sh_leaf.specs.Run as run
use Rattle.sh_leaf.specs.State.{State, Ran_out, Got, Gave, Ends, begin, state_of}
use Rattle.sh_leaf.specs.declared.outcome.Outcome.{Outcome}
use Rattle.hs_drive.specs.declared.stop.Stop.{Stop}
use Rattle.hs_drive.specs.declared.stop.Stop.TheVariants as stop
use Rattle.hs_drive.specs.declared.ending.Ending.{Ending}
use Rattle.hs_drive.specs.declared.ending.Ending.TheVariants as ending
use Rattle.hs_drive.specs.declared.ending.Report.{Report}
use Rattle.hs_drive.specs.Commit.{Streams, IsCommitted, IsFault, IsWant, Commits}

-- ---- the public meaning

-- The run's first effects, these, are committed, but for what a failing write left unsent.
pub record IsStopped (done : List Effect) (row : Row) (w : WorldData) (report : Report) (holds : WorldData → Type 0) : Type 0 where
  pub front : IsFront done row.effects
  pub count : report.count ≡ (Applied done w).count
  pub state : holds (Applied done w)

-- All effects of the run are committed.
pub record IsWhole (row : Row) (w : WorldData) (report : Report) (old new : Streams) : Type 0 where
  pub committed : IsCommitted row.effects w (Applied row.effects w) old new
  pub count : report.count ≡ (Applied row.effects w).count

-- the leaves that were done and the turns that were taken, where the script ran to its end
abbrev pub IsTold : Final → ℕ → Report → Type 0
IsTold final turns report = (report.head ≡ final.state.leaves) × (report.turns ≡ turns - final.state.turns)

-- How a run of the script from this world ends, and what it leaves: all that the serial meaning does, or its first
-- effects up to a write that failed or to want of memory. `out` and `err` say that the streams' counts of faults rose.
-- What is built asks for no program, so the meaning is that without answers.
abbrev pub Runs : (out err : Type 0) → Script → WorldData → ℕ → Streams → Streams → Ending → Report → Type 0
Runs out err script w turns old new (ending.Done status) report =
    (run.Done status ≡ (Serial script w turns []).ending) × IsWhole (Serial script w turns []) w report old new × IsTold (whole_run script w turns []) turns report
Runs out err script w turns old new (ending.Spent kind) report =
    (run.Stopped (Ran_out kind) ≡ (Serial script w turns []).ending) × IsWhole (Serial script w turns []) w report old new
Runs out err script w turns old new ending.OutFault report =
    (done : List Effect) × IsStopped done (Serial script w turns []) w report (λ w'. IsFault out err done w w' old new)
Runs out err script w turns old new ending.NoMemory report =
    (done : List Effect) × IsStopped done (Serial script w turns []) w report (λ w'. IsWant done w w' old new)
Runs out err script w turns old new (ending.Syntax line fault) report = ⊥
Runs out err script w turns old new ending.Unbuilt report = ⊥
Runs out err script w turns old new ending.HostFault report = ⊥

-- Where the serial meaning runs to the script's end and no count of faults rose, so does the run, if memory suffices.
abbrev pub IsComplete : (out err : Type 0) → Row → Ending → Type 0
IsComplete out err row ends =
    (status : ℕ) → row.ending ≡ run.Done status → (out → ⊥) → (err → ⊥) → (ends ≡ ending.Done status) ⊎ (ends ≡ ending.NoMemory)

-- ---- its parts

-- A part of the run: it came to something in a state whose effects are all committed, or it stopped.
pub record Came (outcome : Outcome) (got : Got Outcome) (w w' : WorldData) (turns' head : ℕ) (old new : Streams) : Type 0 where
  pub state : State
  pub gave : got ≡ Gave outcome state
  pub committed : IsCommitted state.effects w w' old new
  pub world : state.world ≡ w'
  pub turns : turns' ≡ state.turns
  pub leaves : head ≡ state.leaves

pub record IsSpent (stopped : Stop) (got : Got Outcome) (w w' : WorldData) (old new : Streams) : Type 0 where
  pub kind : SpentKind
  pub state : State
  pub why : stopped ≡ stop.Spent kind
  pub ends : got ≡ Ends (Ran_out kind) state
  pub committed : IsCommitted state.effects w w' old new

abbrev pub GotRuns : (out err : Type 0) → Got Outcome → (w w' : WorldData) → (turns' head : ℕ) → Streams → Streams → Result Outcome Stop → Type 0
GotRuns out err got w w' turns' head old new (Ok outcome) = Came outcome got w w' turns' head old new
GotRuns out err got w w' turns' head old new (Err why) = Commits out err (state_of got).effects w w' old new (Err why) ⊎ IsSpent why got w w' old new

-- what a leaf does by itself
abbrev pub leaf_got : Script → ℕ → WorldData → ℕ → Got Outcome
leaf_got script k w turns = Do script most_nested most_frames k (begin w turns [])

abbrev pub LeafRuns : (out err : Type 0) → Script → ℕ → (w w' : WorldData) → (turns turns' : ℕ) → Streams → Streams → Result Outcome Stop → Type 0
LeafRuns out err script k w w' turns turns' old new result = GotRuns out err (leaf_got script k w turns) w w' turns' 0 old new result

-- Why a run stops where a leaf came to a halt. What is no limit and no fault is want of memory.
abbrev pub stop_of : Halt → Stop
stop_of (halt.Spent kind) = stop.Spent kind
stop_of halt.Fault = stop.OutFault
stop_of _ = stop.NoMemory

abbrev pub ending_of : Stop → Ending
ending_of (stop.Spent kind) = ending.Spent kind
ending_of stop.OutFault = ending.OutFault
ending_of stop.NoMemory = ending.NoMemory
