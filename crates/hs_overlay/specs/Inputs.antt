-- What effects make of the texts of standard input.
use Rattle.std.specs.Prelude.{ℕ, ◌-◌, Bool, true, false, List, [], ◌∷◌, Option, Some, None, length, drop, leb}
use Rattle.hs_overlay.specs.Stacks.{top_of, pushed_set, base_set}

pub record InputsData : Type 0 where
  -- the texts that the effects pushed, the innermost first
  pub pushed : List (List ℕ)
  -- what stands in place of the base's innermost one
  pub base : Option (List ℕ)

abbrev pub no_inputs : InputsData
no_inputs = record { pushed = []; base = None }

-- the innermost, where it is not the base's own
abbrev pub input_of : InputsData → Option (List ℕ)
input_of i = top_of i.pushed i.base

abbrev pub with_input : List ℕ → InputsData → InputsData
with_input text i = record { pushed = pushed_set text i.pushed; base = base_set text i.pushed i.base }

-- the innermost gets this text back, or the base's own where none was pushed
abbrev pub with_held : Option (List ℕ) → InputsData → InputsData
with_held (Some text) i = with_input text i
with_held None i = record i { base = elim i.pushed [ [] ↦ None | text ∷ texts ↦ i.base ] }

abbrev pub held_back : Bool → Option (Option (List ℕ)) → InputsData → InputsData
held_back true (Some old) i = with_held old i
held_back true None i = i
held_back false held i = i

-- Texts above so many go. What is held goes back where as many stood.
abbrev pub inputs_returned : ℕ → Option (Option (List ℕ)) → InputsData → InputsData
inputs_returned n held i = held_back (leb n (length i.pushed)) held (record i { pushed = drop (length i.pushed - n) i.pushed })
