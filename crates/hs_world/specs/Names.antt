-- Names in order, and tables of names.
use Rattle.std.specs.Prelude.{ℕ, List, [], ◌∷◌, Bool, not, Option, Some, None}
use Rattle.std.specs.Ordering.{eq_by_cmp}
use Rattle.std.specs.FinMap.Entries.{by_order}
use Rattle.std.specs.List.{filter}
use Rattle.std.specs.Coded.{Coded, coded_ℕ, coded_list}
pub use Rattle.hs_text.specs.Order.{name_cmp, path_cmp, paths_po}

abbrev pub same_name : List ℕ → List ℕ → Bool
same_name a b = eq_by_cmp name_cmp a b

abbrev pub text_code : Coded (List ℕ)
text_code = coded_list coded_ℕ

abbrev pub texts_code : Coded (List (List ℕ))
texts_code = coded_list text_code

-- names in order, with one more at its place unless it is there
abbrev pub put_name : List ℕ → List (List ℕ) → List (List ℕ)
put_name name [] = name ∷ []
put_name name (x ∷ xs) = by_order (name_cmp name x) (name ∷ x ∷ xs) (x ∷ xs) (x ∷ put_name name xs)

-- without a name
abbrev pub without_name : List ℕ → List (List ℕ) → List (List ℕ)
without_name name = filter (λ x. not (same_name name x))

-- with this name, where there is one
abbrev pub with_name : Option (List ℕ) → List (List ℕ) → List (List ℕ)
with_name None names = names
with_name (Some name) names = put_name name names

-- without this name, where there is one
abbrev pub less_name : Option (List ℕ) → List (List ℕ) → List (List ℕ)
less_name None names = names
less_name (Some name) names = without_name name names
