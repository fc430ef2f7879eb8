-- What the front of a pattern leaves open.
use Rattle.std.specs.Prelude.{◌≡◌, ◌<◌, ℕ, suc, Bool, true, false, List, ◌∷◌, length}
use Rattle.sh_pattern.specs.declared.item.Item.{Item}
use Rattle.sh_pattern.specs.declared.item.Item.TheVariants as item
use Rattle.sh_pattern.specs.declared.matching.Found.{Found}
use Rattle.sh_pattern.specs.declared.matching.Found.TheVariants.{Nothing, End, Star}
use Rattle.sh_pattern.specs.Match.{matched}

-- whether what is left matches
abbrev pub answer : Found → Bool
answer Nothing = false
answer End = true
answer (Star items bytes) = matched (item.Star ∷ items.now) bytes.now

-- where a star comes, nothing is lost by the place from which the items went
abbrev pub IsSettled : Found → List Item → List ℕ → Type 0
IsSettled Nothing items bytes = Unit {0}
IsSettled End items bytes = Unit {0}
IsSettled (Star more rest) items bytes = matched (item.Star ∷ items) bytes ≡ matched (item.Star ∷ more.now) rest.now

abbrev pub IsShorter : Found → List Item → Type 0
IsShorter Nothing items = Unit {0}
IsShorter End items = Unit {0}
IsShorter (Star more rest) items = length more.now < length items

-- how many items are left
abbrev pub left : Found → ℕ
left Nothing = 0
left End = 0
left (Star items bytes) = suc (length items.now)
