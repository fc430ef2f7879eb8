-- The texts of places, and their order.
use Rattle.std.specs.Prelude.{ℕ, List, [], map}
use Rattle.std.specs.BTreeSet.{insert_key}
use Rattle.std.specs.List.{fold}
use Rattle.hs_world.specs.Names.{name_cmp}
use Rattle.sh_glob.specs.declared.place.Place.{Place}

abbrev pub texts : List Place → List (List ℕ)
texts places = map (λ p. p.text) places

-- by bytes, the least first, each once
abbrev pub in_order : List (List ℕ) → List (List ℕ)
in_order xs = fold (insert_key name_cmp) [] xs
