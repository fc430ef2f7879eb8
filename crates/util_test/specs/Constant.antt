-- `true` and `false` (POSIX.1-2017, XCU, `true` and `false`).
use Rattle.std.specs.Prelude.{ℕ, List}
use Rattle.hs_world.specs.World.{WorldData}
use Rattle.hs_view.specs.Steps.{Done, nothing}

abbrev pub true_ : List (List ℕ) → WorldData → Done ℕ
true_ args w = nothing 0 w

abbrev pub false_ : List (List ℕ) → WorldData → Done ℕ
false_ args w = nothing 1 w
