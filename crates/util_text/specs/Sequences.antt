-- Lists that are made item by item, where each item can be refused.
use Rattle.std.specs.Prelude.{List, [], ◌∷◌, Option, None, Some}

abbrev pub with_first : {X : Type 0} → Option X → Option (List X) → Option (List X)
with_first None more = None
with_first (Some x) None = None
with_first (Some x) (Some xs) = Some (x ∷ xs)

-- what is made of each item; nothing where one is refused
abbrev pub all_of : {X Y : Type 0} → (X → Option Y) → List X → Option (List Y)
all_of f [] = Some []
all_of f (x ∷ xs) = with_first (f x) (all_of f xs)
