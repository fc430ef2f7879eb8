-- Patterns, and what they match.
use Rattle.std.proofs.Common.{◌≡◌, ℕ, Bool, true, false, List, [], ◌∷◌, ◌++◌, map, refl, codes}
use Rattle.sh_pattern.specs.declared.item.Item.TheVariants.{Star, Any, Byte, OneOf}
use Rattle.sh_pattern.specs.Classes.{class_at, to}
use Rattle.sh_pattern.specs.Items.{items_of}
use Rattle.sh_pattern.specs.Match.{matched, matches_prefix, matches_suffix}

bare : List ℕ → List (ℕ × Bool)
bare bytes = map (λ b. (b, false)) bytes

quoted : List ℕ → List (ℕ × Bool)
quoted bytes = map (λ b. (b, true)) bytes

-- ---- items

star : items_of (bare (codes "a*?")) ≡ Byte 97 ∷ Star ∷ Any ∷ []
unfolding bare
star = refl

quoted_star : items_of (quoted (codes "*")) ≡ Byte 42 ∷ []
unfolding quoted
quoted_star = refl

-- an unquoted backslash quotes; one at the end, and one that is quoted, stands for itself
escaped : items_of (bare (codes "\\*\\")) ≡ Byte 42 ∷ Byte 92 ∷ []
unfolding bare
escaped = refl

quoted_backslash : items_of (quoted (codes "\\") ++ bare (codes "*")) ≡ Byte 92 ∷ Star ∷ []
unfolding bare quoted
quoted_backslash = refl

ranges : items_of (bare (codes "[!a-c]x")) ≡ OneOf (record { negated = true; ranges = to 97 99 ∷ [] }) ∷ Byte 120 ∷ []
unfolding bare
ranges = refl

-- `]` first in brackets, and `-` last
first_last : items_of (bare (codes "[]-]")) ≡ OneOf (record { negated = false; ranges = to 93 93 ∷ to 45 45 ∷ [] }) ∷ []
unfolding bare
first_last = refl

class : items_of (bare (codes "[[:upper:]_]")) ≡ OneOf (record { negated = false; ranges = to 65 90 ∷ to 95 95 ∷ [] }) ∷ []
unfolding bare class_at
class = refl

-- an unknown name makes no class: the first `]` closes
no_class : items_of (bare (codes "[[:x:]]")) ≡ OneOf (record { negated = false; ranges = to 91 91 ∷ to 58 58 ∷ to 120 120 ∷ to 58 58 ∷ [] }) ∷ Byte 93 ∷ []
unfolding bare class_at
no_class = refl

unclosed : items_of (bare (codes "[a*")) ≡ Byte 91 ∷ Byte 97 ∷ Star ∷ []
unfolding bare
unclosed = refl

-- a quoted `]` closes nothing
quoted_end : items_of (bare (codes "[a") ++ quoted (codes "]")) ≡ Byte 91 ∷ Byte 97 ∷ Byte 93 ∷ []
unfolding bare quoted
quoted_end = refl

-- ---- texts

slash : matched (Star ∷ []) (codes "a/b") ≡ true
slash = refl

two_stars : matched (Star ∷ Byte 97 ∷ Star ∷ Byte 98 ∷ []) (codes "aab") ≡ true
two_stars = refl

not_whole : matched (Star ∷ Byte 97 ∷ []) (codes "ab") ≡ false
not_whole = refl

negated : matched (OneOf (record { negated = true; ranges = to 97 97 ∷ [] }) ∷ []) (codes "a") ≡ false
negated = refl

-- a falling range holds nothing
falling : matched (OneOf (record { negated = false; ranges = to 99 97 ∷ [] }) ∷ []) (codes "b") ≡ false
falling = refl

prefix : matches_prefix (Star ∷ Byte 47 ∷ []) (codes "a/b/c") 2 ≡ true
prefix = refl

suffix : matches_suffix (Byte 46 ∷ Star ∷ []) (codes "a.b.c") 2 ≡ true
suffix = refl
