-- What `printf` writes round by round (POSIX.1-2017, XCU, `printf`).
use Rattle.std.specs.Prelude.{ℕ, List, [], ◌∷◌}
use Rattle.util_print.specs.Shown.{all_parts, bad_words, written}
use Rattle.util_print.specs.declared.format.Part.{Part}

-- the text for the words that are left behind a round
abbrev pub left_text : List Part → List (List ℕ) → List ℕ
left_text ps [] = []
left_text ps (word ∷ words) = written (all_parts ps (word ∷ words)) (word ∷ words)

-- the bad numbers among them
abbrev pub left_bad : List Part → List (List ℕ) → List (List ℕ)
left_bad ps [] = []
left_bad ps (word ∷ words) = bad_words (all_parts ps (word ∷ words)) (word ∷ words)
