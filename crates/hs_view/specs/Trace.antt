-- What contracts see of a trace, and what each one keeps.
use Rattle.std.specs.Prelude.{ℕ, Bool, false, List, [], Option, None}
use Rattle.hs_world.specs.Reads.{ReadList}
use Rattle.hs_world.specs.declared.effect.Effect.{Effect}
use Rattle.hs_overlay.specs.Overlay.{OverlayData}
use Rattle.hs_view.specs.Seen.{Shows, alone}
use Rattle.hs_view.specs.Sound.{IsSound}
use Rattle.hs_view.specs.View.{Viewed}

pub record TraceData : Type 0 where
  pub reads : ReadList
  pub effects : List Effect
  -- whether the base writes on which the effects were done
  pub written : Bool

-- a base of which no more is known than whether it writes
abbrev pub seen_alone : Shows Bool
seen_alone = alone (λ writes. record { world = None; asked = []; writes = writes; runs = false; faults = 0 })

abbrev pub over_alone : TraceData → Viewed Bool
over_alone t = record { base = t.written; reads = t.reads; effects = t.effects; trace = 0 }

-- What a view keeps, over any base that writes, or over any that does not: that hangs on nothing else of the base.
abbrev pub IsTraced : TraceData → ℕ → Option OverlayData → Type 0
IsTraced t size kept = IsSound seen_alone (over_alone t) size kept
