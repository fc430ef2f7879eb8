-- Components, names and places.
use Rattle.std.proofs.Common.{◌≡◌, ℕ, Bool, true, false, List, [], ◌∷◌, ◌++◌, map, refl, codes}
use Rattle.std.specs.Prelude.{Some, None}
use Rattle.std.specs.FinMap.{empty}
use Rattle.std.specs.Str.{chars, is_utf8}
use Rattle.sh_pattern.specs.declared.item.Item.TheVariants.{Star, Byte}
use Rattle.sh_pattern.specs.Items.{items_of}
use Rattle.sh_glob.specs.declared.part.Part.TheVariants.{Literal}
use Rattle.sh_glob.specs.Matches.{leads, matches}
use Rattle.sh_glob.specs.Parts.{is_pattern, part_of, split, takes}
use Rattle.sh_glob.specs.Paths.{or_itself}
use Rattle.sh_glob.specs.Places.{led, on_by, place, slashed, taken}
use Rattle.sh_glob.specs.Texts.{in_order}

bare : List ℕ → List (ℕ × Bool)
bare bytes = map (λ b. (b, false)) bytes

quoted : List ℕ → List (ℕ × Bool)
quoted bytes = map (λ b. (b, true)) bytes

-- ---- components

slashes : split (bare (codes "a//b/")) ≡ bare (codes "a") ∷ [] ∷ bare (codes "b") ∷ [] ∷ []
unfolding bare
slashes = refl

-- a slash is found before the brackets round it
in_brackets : split (bare (codes "[a/b]")) ≡ bare (codes "[a") ∷ bare (codes "b]") ∷ []
unfolding bare
in_brackets = refl

quoted_star : is_pattern (quoted (codes "*")) ≡ false
unfolding quoted
quoted_star = refl

escaped_star : is_pattern (bare (codes "\\*")) ≡ false
unfolding bare
escaped_star = refl

unclosed : is_pattern (bare (codes "a[")) ≡ true
unfolding bare
unclosed = refl

-- a component that is no pattern keeps its backslash
literal : part_of (bare (codes "a\\b")) ≡ Literal (codes "a\\b")
unfolding bare
literal = refl

-- ---- names

star_dot : takes (Star ∷ []) (codes ".a") ≡ false
star_dot = refl

dot_star : takes (Byte 46 ∷ Star ∷ []) (codes ".a") ≡ true
dot_star = refl

bracket_dot : takes (items_of (bare (codes "[.]a"))) (codes ".a") ≡ false
unfolding bare
bracket_dot = refl

names : taken (Star ∷ []) (Some (codes ".a" ∷ codes "b" ∷ codes "c" ∷ [])) ≡ codes "b" ∷ codes "c" ∷ []
names = refl

no_folder : taken (Star ∷ []) None ≡ []
no_folder = refl

-- ---- a field as a filter

in_folder : matches (bare (codes "*/x")) (codes "d/x") ≡ true
unfolding bare
in_folder = refl

not_above : matches (bare (codes "*/x")) (codes "../x") ≡ false
unfolding bare
not_above = refl

not_deeper : matches (bare (codes "*")) (codes "d/x") ≡ false
unfolding bare
not_deeper = refl

both_slashes : matches (bare (codes "d//*")) (codes "d/x") ≡ false
unfolding bare
both_slashes = refl

at_end : matches (bare (codes "*/")) (codes "d/") ≡ true
unfolding bare
at_end = refl

-- the root is there in every tree
root_leads : leads empty (codes "d" ∷ []) (codes "/") ≡ true
unfolding is_utf8 chars lib.Utf8.encode
root_leads = refl

-- ---- places

-- nothing between two slashes stays in the folder
stays : led (codes "d" ∷ []) [] ≡ Some (codes "d" ∷ [])
stays = refl

goes_on : on_by slashed (place (codes "d") (codes "d" ∷ [])) (codes "x") ≡ place (codes "d/x") (codes "d" ∷ codes "x" ∷ []) ∷ []
unfolding is_utf8 chars lib.Utf8.encode
goes_on = refl

goes_up : on_by slashed (place (codes "d/e") (codes "d" ∷ codes "e" ∷ [])) (codes "..") ≡ place (codes "d/e/..") (codes "d" ∷ []) ∷ []
unfolding is_utf8 chars lib.Utf8.encode
goes_up = refl

-- ---- texts

-- by bytes: `.` comes before `/`
ordered : in_order (codes "b" ∷ codes "a/x" ∷ codes "a.b/x" ∷ []) ≡ codes "a.b/x" ∷ codes "a/x" ∷ codes "b" ∷ []
ordered = refl

-- quotes are removed where no path matches
unmatched : or_itself [] (quoted (codes "*") ++ bare (codes "q*")) ≡ codes "*q*" ∷ []
unfolding bare quoted
unmatched = refl
