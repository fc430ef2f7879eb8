-- Stacks whose upper part effects pushed, the innermost first, over a base's innermost part. An option says what stands in place
-- of the base's own; without it the base's stands.
use Rattle.std.specs.Prelude.{List, [], ◌∷◌, Option, Some}

-- the innermost of what was pushed, or else the base's
abbrev pub top_of : {A : Type 0} → List A → Option A → Option A
top_of [] base = base
top_of (x ∷ _) base = Some x

-- the innermost replaced: one that was pushed, or else the base's
abbrev pub pushed_set : {A : Type 0} → A → List A → List A
pushed_set x [] = []
pushed_set x (_ ∷ xs) = x ∷ xs

abbrev pub base_set : {A B : Type 0} → A → List B → Option A → Option A
base_set x [] base = Some x
base_set x (_ ∷ _) base = base
