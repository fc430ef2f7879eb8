-- When an object of the outside may answer that it failed.
use Rattle.std.specs.Prelude.{ℕ, ◌+◌, ◌-◌, ◌^◌, ◌≤◌, min, Result, IsErrOf}
use Rattle.hs_outside.specs.declared.outside.Failed.{Failed}
use Rattle.hs_outside.specs.declared.outside.Failed.TheVariants.{Fault}
use Rattle.hs_outside.specs.declared.outside.HostErr.{HostErr}
use Rattle.hs_outside.specs.declared.outside.HostErr.TheVariants as host

-- A count of faults rose, or stands at the last value of a number of 64 bits.
abbrev pub Rose : ℕ → ℕ → Type 0
Rose before now = min (before + 1) (2 ^ 64 - 1) ≤ now

-- The count never falls, and Fault is answered only where it rose.
pub record HasCause {T : Type 0} (before now : ℕ) (result : Result T Failed) : Type 0 where
  pub later : before ≤ now
  pub fault : IsErrOf result Fault → Rose before now

-- the same of a host
pub record IsCaused {T : Type 0} (before now : ℕ) (result : Result T HostErr) : Type 0 where
  pub later : before ≤ now
  pub fault : IsErrOf result host.Fault → Rose before now
