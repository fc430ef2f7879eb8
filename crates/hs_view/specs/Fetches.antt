-- What a call leaves that does no more than read.
use Rattle.std.specs.Prelude.{◌≡◌, ◌≢◌, ◌≤◌, ◌<◌, ◌↔◌, true, false, Result, Err}
use Rattle.hs_view.specs.Causes.{Rose}
use Rattle.hs_view.specs.Seen.{Shows}
use Rattle.hs_view.specs.Size.{trace_size}
use Rattle.hs_view.specs.View.{Viewed, Keeps}
use Rattle.hs_view.specs.declared.halt.Halt.{Halt}
use Rattle.hs_view.specs.declared.halt.Halt.TheVariants as halt
use Rattle.hs_view.specs.declared.halt.SpentKind.{SpentKind}

pub record Fetches {B A : Type 0} (seen : Shows B) (old new : Viewed B) (result : Result A Halt) : Type 0 where
  pub effects : new.effects ≡ old.effects
  pub keeps : Keeps seen old new result
  pub fault : result ≡ Err halt.Fault → Rose (seen.tells old.base).faults (seen.tells new.base).faults
  pub trace : (seen.tells old.base).writes ≡ false → trace_size old.reads old.effects ≤ old.trace → (result ≡ Err halt.Trace ↔ new.trace < trace_size new.reads new.effects)
  pub through : (seen.tells old.base).writes ≡ true → result ≢ Err halt.Trace
  pub spent : (k : SpentKind) → result ≢ Err (halt.Spent k)
  pub outside : result ≢ Err halt.Outside
