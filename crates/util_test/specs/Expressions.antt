-- Expressions of `test` (POSIX.1-2017, XCU, `test`): what so many words ask.
use Rattle.std.specs.Prelude.{ℕ, Bool, true, false, not, List, [], ◌∷◌, Option, None, Some, option_map, codes, if◌then◌else◌}
use Rattle.util_test.specs.Operators.{compared, is_word, operator}
use Rattle.util_test.specs.declared.expression.Asked.{Asked}
use Rattle.util_test.specs.declared.expression.Asked.TheVariants.{Known, Has, Lacks}
use Rattle.util_test.specs.declared.expression.Property.{Property}
use Rattle.util_test.specs.declared.expression.Property.TheVariants.{Is, HasBytes}
use Rattle.util_test.specs.declared.expression.Sort.TheVariants.{Any, File, Folder}
use Rattle.util_test.specs.declared.operator.Operator.{Operator}

abbrev pub negated : Asked → Asked
negated (Known answer) = Known (not answer)
negated (Has property word) = Lacks property word
negated (Lacks property word) = Has property word

abbrev pub property : List ℕ → Option Property
property word =
    if is_word (codes "-e") word then Some (Is Any)
    else (if is_word (codes "-f") word then Some (Is File)
    else (if is_word (codes "-d") word then Some (Is Folder)
    else (if is_word (codes "-s") word then Some HasBytes
    else None)))

abbrev pub is_empty : List ℕ → Bool
is_empty [] = true
is_empty (b ∷ bs) = false

abbrev pub one_word : List ℕ → Asked
one_word word = Known (not (is_empty word))

abbrev pub of_path : List ℕ → List ℕ → Option Asked
of_path primary word = option_map (λ p. Has p word) (property primary)

abbrev pub two_words : List ℕ → List ℕ → Option Asked
two_words a b =
    if is_word (codes "!") a then Some (negated (one_word b))
    else (if is_word (codes "-n") a then Some (one_word b)
    else (if is_word (codes "-z") a then Some (negated (one_word b))
    else of_path a b))

abbrev pub three_by : Option Operator → List ℕ → List ℕ → List ℕ → Option Asked
three_by (Some operator) a b c = option_map Known (compared operator a c)
three_by None a b c = if is_word (codes "!") a then option_map negated (two_words b c) else None

abbrev pub three_words : List ℕ → List ℕ → List ℕ → Option Asked
three_words a b c = three_by (operator b) a b c

abbrev pub four_words : List ℕ → List ℕ → List ℕ → List ℕ → Option Asked
four_words a b c d = if is_word (codes "!") a then option_map negated (three_words b c d) else None

-- None is for words that are no expression.
abbrev pub asked : List (List ℕ) → Option Asked
asked [] = Some (Known false)
asked (a ∷ []) = Some (one_word a)
asked (a ∷ b ∷ []) = two_words a b
asked (a ∷ b ∷ c ∷ []) = three_words a b c
asked (a ∷ b ∷ c ∷ d ∷ []) = four_words a b c d
asked (a ∷ b ∷ c ∷ d ∷ e ∷ r) = None
