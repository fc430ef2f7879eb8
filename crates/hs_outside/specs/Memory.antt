-- Objects in memory: which of their calls fail, and what they hold.
use Rattle.std.specs.Prelude.{ℕ, ◌+◌, ◌-◌, ◌^◌, min, Bool, ◌==◌, List, if◌then◌else◌}
use Rattle.std.specs.List.{list_any}
use Rattle.hs_world.specs.Files.{Files}

-- the number of the next call, from 1, which stays at the last number of 64 bits
abbrev pub next_call : ℕ → ℕ
next_call n = min (n + 1) (2 ^ 64 - 1)

pub record CallsData : Type 0 where
  -- the numbers of the calls that fail
  pub failing : List ℕ
  -- how many calls there were, and how many of them failed
  pub made : ℕ
  pub faults : ℕ

-- whether the next call fails
abbrev pub fails : CallsData → Bool
fails c = list_any (λ n. n == next_call c.made) c.failing

abbrev pub after_call : CallsData → CallsData
after_call c = record c { made = next_call c.made; faults = if fails c then next_call c.faults else c.faults }

pub record HostData : Type 0 where
  pub files : Files
  pub calls : CallsData

pub record SinkData : Type 0 where
  pub written : List ℕ
  -- the most bytes that one call takes
  pub step : ℕ
  pub calls : CallsData

pub record SourceData : Type 0 where
  pub taken : List ℕ
  pub left : List ℕ
  pub ended : Bool
  -- the most bytes that one call gives
  pub step : ℕ
  pub calls : CallsData
