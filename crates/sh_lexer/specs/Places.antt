-- What calls of the code say of places.
use Rattle.std.specs.Prelude.{◌≡◌, ◌<◌, ℕ, suc, not, ◌==◌, ◌&&◌, Bool, List, [], length}
use Rattle.sh_lexer.specs.declared.place.Spot.{Spot}
use Rattle.sh_lexer.specs.declared.place.Spot.TheVariants as spot
use Rattle.sh_lexer.specs.Trail.{in_backquotes, in_body}

-- what is left of a text between backquotes after a byte
abbrev pub PassesOne : List ℕ → List ℕ → Type 0
PassesOne r t = (i : ℕ) → in_backquotes (suc i) t ≡ in_backquotes i r

-- what stands at the front of what is left of a body
abbrev pub IsSpot : Spot → Bool → Bool → Bool → List ℕ → Type 0
IsSpot spot.Finish strip front quoted t = t ≡ []
IsSpot (spot.Skip r) strip front quoted t = (i : ℕ) → in_body strip front quoted i t ≡ in_body strip front quoted i r.now
IsSpot (spot.Byte b r) strip front quoted t =
    (in_body strip front quoted 0 t ≡ t) × ((i : ℕ) → in_body strip front quoted (suc i) t ≡ in_body strip (b == 10) (not quoted && b == 92) i r.now)

abbrev pub Passes : Spot → List ℕ → Type 0
Passes spot.Finish t = Unit {0}
Passes (spot.Skip r) t = length r.now < length t
Passes (spot.Byte b r) t = length r.now < length t
