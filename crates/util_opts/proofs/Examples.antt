-- Words, and what is read off them. Of the options, `n` takes a value, `a` and `b` take none.
use Rattle.std.proofs.Common.{◌≡◌, ℕ, true, false, List, [], ◌∷◌, Some, None, refl, codes}
use Rattle.util_opts.specs.Reading.{Reading, Reads, Unknown, Missing, options_of}

reading : List (List ℕ) → Reading
reading args = options_of ((97, false) ∷ (98, false) ∷ (110, true) ∷ []) args

nothing : reading [] ≡ Reads [] []
unfolding reading
nothing = refl

joined : reading (codes "-n3" ∷ codes "x" ∷ []) ≡ Reads ((110, Some (codes "3")) ∷ []) (codes "x" ∷ [])
unfolding reading
joined = refl

unknown : reading (codes "-q" ∷ []) ≡ Unknown 113
unfolding reading
unknown = refl

missing : reading (codes "-n" ∷ []) ≡ Missing 110
unfolding reading
missing = refl

next_word : reading (codes "-n" ∷ codes "3" ∷ codes "x" ∷ []) ≡ Reads ((110, Some (codes "3")) ∷ []) (codes "x" ∷ [])
unfolding reading
next_word = refl

grouped : reading (codes "-abn" ∷ codes "3" ∷ []) ≡ Reads ((97, None) ∷ (98, None) ∷ (110, Some (codes "3")) ∷ []) []
unfolding reading
grouped = refl

-- letters behind an option that takes a value are the value
joined_letters : reading (codes "-anb" ∷ []) ≡ Reads ((97, None) ∷ (110, Some (codes "b")) ∷ []) []
unfolding reading
joined_letters = refl

-- a value may look like an option, or be empty
looks : reading (codes "-n" ∷ codes "--" ∷ codes "-a" ∷ []) ≡ Reads ((110, Some (codes "--")) ∷ (97, None) ∷ []) []
unfolding reading
looks = refl

empty_value : reading (codes "-n" ∷ [] ∷ []) ≡ Reads ((110, Some []) ∷ []) []
unfolding reading
empty_value = refl

ended : reading (codes "-a" ∷ codes "--" ∷ codes "-b" ∷ codes "--" ∷ []) ≡ Reads ((97, None) ∷ []) (codes "-b" ∷ codes "--" ∷ [])
unfolding reading
ended = refl

-- options end at the first operand: `-` alone, and the empty word, are operands
dash : reading (codes "-" ∷ codes "-a" ∷ []) ≡ Reads [] (codes "-" ∷ codes "-a" ∷ [])
unfolding reading
dash = refl

empty_word : reading ([] ∷ codes "-a" ∷ []) ≡ Reads [] ([] ∷ codes "-a" ∷ [])
unfolding reading
empty_word = refl

first_fault : reading (codes "-aq" ∷ codes "-n" ∷ []) ≡ Unknown 113
unfolding reading
first_fault = refl

-- a word that only begins like the end of options is a group
long : reading (codes "--a" ∷ []) ≡ Unknown 45
unfolding reading
long = refl
