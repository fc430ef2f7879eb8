-- What the parts of a run leave, as the code hands it on.
use Rattle.std.specs.Prelude.{◌≡◌, ◌≤◌, ℕ, Result, OnOk}
use Rattle.hs_outside.specs.Causes.{Rose}
use Rattle.sh_leaf.specs.State.{Got}
use Rattle.sh_leaf.specs.declared.outcome.Outcome.{Outcome}
use Rattle.hs_drive.specs.declared.run.Run.{Run}
use Rattle.hs_drive.specs.declared.stop.Stop.{Stop}
use Rattle.hs_drive.specs.Direct.{Tells, streams_of}
use Rattle.hs_drive.specs.Plain.{GotRuns}

-- What a part came to that was to come to this, from one place of the run to another. No fault was counted where it came to an outcome, and
-- the streams' counts did not fall.
pub record Ran {O E : Type 0} (out : Tells O) (err : Tells E) (got : Got Outcome) (a b : Run O E) (head : ℕ) (result : Result Outcome Stop) : Type 0 where
  pub runs : GotRuns (Rose (out.faults a.base.out) (out.faults b.base.out)) (Rose (err.faults a.base.err) (err.faults b.base.err)) got a.base.world b.base.world b.turns head
      (streams_of out err a.base) (streams_of out err b.base) result
  pub faults : OnOk result (b.base.faults ≡ a.base.faults)
  pub out_later : out.faults a.base.out ≤ out.faults b.base.out
  pub err_later : err.faults a.base.err ≤ err.faults b.base.err
