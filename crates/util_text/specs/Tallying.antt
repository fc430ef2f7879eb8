-- `wc` (POSIX.1-2017, XCU, `wc`): the counts of each operand, and their sum.
use Rattle.std.specs.Prelude.{◌≡◌, ℕ, ◌<◌, ◌^◌, Bool, true, false, List, [], ◌∷◌, Option, Some, None, Result, Ok, Err, length, codes}
use Rattle.std.specs.List.{All}
use Rattle.hs_world.specs.World.{WorldData}
use Rattle.hs_world.specs.declared.effect.Fd.TheVariants.{One}
use Rattle.hs_view.specs.Acts.{then_by}
use Rattle.hs_view.specs.Steps.{Done, nothing}
use Rattle.util_common.specs.Operands.{Progress, Writer, emitted, none_yet, operands_written, or_input, refused}
use Rattle.util_common.specs.Words.{is_given, words_of}
use Rattle.util_common.specs.declared.messages.Why.{Why}
use Rattle.util_opts.specs.declared.options.Options.{Options}
use Rattle.util_text.specs.Counting.{capped, counts, total, without_words}
use Rattle.util_text.specs.Head.{is_several}
use Rattle.util_text.specs.Wc.{counts_line, or_all}
use Rattle.util_text.specs.declared.counting.Counts.{Counts}
use Rattle.util_text.specs.declared.tallying.LineTally.{LineTally}
use Rattle.util_text.specs.declared.tallying.Tally.{Tally}
use Rattle.util_text.specs.declared.chosen.Chosen.{Chosen}

-- `-c`, `-l` and `-w` choose bytes, lines and words.
abbrev pub wc_options : List (ℕ × Bool)
wc_options = (99, false) ∷ (108, false) ∷ (119, false) ∷ []

abbrev pub chosen_by : List (ℕ × Option (List ℕ)) → Chosen
chosen_by given = record { lines = is_given 108 given; words = is_given 119 given; bytes = is_given 99 given }

abbrev pub has_operand : List (List ℕ) → Bool
has_operand [] = false
has_operand (x ∷ xs) = true

-- The name of an operand is written where operands were given.
abbrev pub name_in : Bool → List ℕ → Option (List ℕ)
name_in false word = None
name_in true word = Some word

abbrev pub tallies : Chosen → Bool → Writer
tallies chosen named before word content = counts_line chosen (counts content) (name_in named word)

-- the line of a sum, where there are several operands
abbrev pub sum_written : Chosen → Bool → Counts → ℕ → WorldData → Done ℕ
sum_written chosen false sum status w = nothing status w
sum_written chosen true sum status w = emitted One (counts_line chosen sum (Some (codes "total"))) status w

-- The sum is that over the operands which were read.
abbrev pub total_written : Chosen → Bool → Progress → WorldData → Done ℕ
total_written chosen several read w = sum_written chosen several (total read.contents) read.status w

abbrev pub tallies_written : Chosen → List (List ℕ) → WorldData → Done ℕ
tallies_written chosen operands w =
    then_by (operands_written (codes "wc") (tallies chosen (has_operand operands)) none_yet (or_input operands) w) (total_written chosen (is_several operands)) w

abbrev pub wc_by : Result Options Why → WorldData → Done ℕ
wc_by (Ok options) w = tallies_written (chosen_by options.given) options.operands w
wc_by (Err why) w = refused (codes "wc") why w

abbrev pub wc : List (List ℕ) → WorldData → Done ℕ
wc args w = wc_by (words_of wc_options args) w

-- ---- what the code keeps of it

-- words are written: they are chosen, or nothing is
abbrev pub has_words : Chosen → Bool
has_words chosen = (or_all chosen).words

-- The filter writes so, and has the sum over these contents, each as long as a slice can be.
pub record Tallying (filter : Tally) (text : Writer) (before : List (List ℕ)) : Type 0 where
  pub is : text ≡ tallies filter.chosen filter.named
  pub short : All (λ content. length content < 2 ^ 63) before
  pub sum : filter.total ≡ capped (total before)

-- So does the one that counts no words, since none are written, and it has the other sums.
pub record LineTallying (filter : LineTally) (text : Writer) (before : List (List ℕ)) : Type 0 where
  pub is : text ≡ tallies filter.chosen filter.named
  pub unwritten : has_words filter.chosen ≡ false
  pub short : All (λ content. length content < 2 ^ 63) before
  pub sum : filter.total ≡ without_words (capped (total before))
