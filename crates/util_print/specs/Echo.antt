-- `echo` (POSIX.1-2017, XCU, `echo`), without options, and with backslashes as they are.
use Rattle.std.specs.Prelude.{ℕ, List, [], ◌∷◌, ◌++◌}
use Rattle.hs_world.specs.World.{WorldData}
use Rattle.hs_world.specs.declared.effect.Effect.TheVariants.{Emit}
use Rattle.hs_world.specs.declared.effect.Fd.TheVariants.{One}
use Rattle.hs_view.specs.Acts.{only}
use Rattle.hs_view.specs.Steps.{Done}

-- each with a space before it
abbrev pub spaced : List (List ℕ) → List ℕ
spaced [] = []
spaced (x ∷ xs) = 32 ∷ x ++ spaced xs

-- with a space between two
abbrev pub joined : List (List ℕ) → List ℕ
joined [] = []
joined (x ∷ xs) = x ++ spaced xs

-- the words, separated by spaces, and a newline
abbrev pub echo_line : List (List ℕ) → List ℕ
echo_line words = joined words ++ 10 ∷ []

abbrev pub echo : List (List ℕ) → WorldData → Done ℕ
echo args w = only (Emit One (echo_line args)) 0 w
