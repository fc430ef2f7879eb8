-- Fields of words.
use Rattle.std.proofs.Common.{◌≡◌, ℕ, Bool, true, false, List, [], ◌∷◌, ◌++◌, map, refl, codes}
use Rattle.std.specs.Prelude.{Some, None}
use Rattle.sh_split.specs.declared.mark.Mark.{Mark}
use Rattle.sh_split.specs.declared.mark.Mark.TheVariants.{Expanded, Written, Quoted, Quotes}
use Rattle.sh_split.specs.Fields.{fields_of, split}
use Rattle.sh_split.specs.Removal.{unquoted}

bare : List ℕ → List (ℕ × Bool)
bare bytes = map (λ b. (b, false)) bytes

given : List ℕ → List Mark
given bytes = map Expanded bytes

white_and_other : split (Some (codes " :")) (bare (codes " a::b ")) ≡ bare (codes "a") ∷ [] ∷ bare (codes "b") ∷ []
unfolding bare
white_and_other = refl

unset : split None (bare (codes " a  b ")) ≡ bare (codes "a") ∷ bare (codes "b") ∷ []
unfolding bare
unset = refl

null : split (Some []) (bare (codes " a b ")) ≡ bare (codes " a b ") ∷ []
unfolding bare
null = refl

-- white space belongs to the delimiter beside it
beside : split (Some (codes ": ")) (bare (codes "a : b")) ≡ bare (codes "a") ∷ bare (codes "b") ∷ []
unfolding bare
beside = refl

at_the_end : split (Some (codes ":")) (bare (codes "a:")) ≡ bare (codes "a") ∷ []
unfolding bare
at_the_end = refl

alone : split (Some (codes ":")) (bare (codes ":")) ≡ [] ∷ []
unfolding bare
alone = refl

quoted : split None ((32, true) ∷ bare (codes "a b")) ≡ ((32, true) ∷ bare (codes "a")) ∷ bare (codes "b") ∷ []
unfolding bare
quoted = refl

nothing : fields_of None [] ≡ []
nothing = refl

quotes : fields_of None (Quotes ∷ []) ≡ [] ∷ []
quotes = refl

between_quotes : fields_of None (Quotes ∷ Expanded 32 ∷ Quotes ∷ []) ≡ [] ∷ [] ∷ []
between_quotes = refl

beside_quotes : fields_of None (given (codes "a ") ++ Quotes ∷ Quoted 32 ∷ []) ≡ bare (codes "a") ∷ ((32, true) ∷ []) ∷ []
unfolding bare given
beside_quotes = refl

-- what is written in the word delimits nothing
written : fields_of None (Expanded 97 ∷ Written 32 ∷ []) ≡ bare (codes "a ") ∷ []
unfolding bare
written = refl

removed : unquoted (((42, true) ∷ bare (codes "a")) ∷ [] ∷ []) ≡ codes "*a" ∷ [] ∷ []
unfolding bare
removed = refl
