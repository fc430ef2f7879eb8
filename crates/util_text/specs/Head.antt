-- `head` (POSIX.1-2017, XCU, `head`): the first lines of each operand.
use Rattle.std.specs.Prelude.{◌≡◌, ℕ, Bool, true, false, List, [], ◌∷◌, ◌++◌, Option, Some, None, Result, Ok, Err, codes}
use Rattle.hs_world.specs.World.{WorldData}
use Rattle.hs_view.specs.Acts.{answering}
use Rattle.hs_view.specs.Steps.{Done}
use Rattle.util_common.specs.Operands.{Writer, none_yet, operands_written, or_input, refused, status_of}
use Rattle.util_common.specs.Words.{last_value, words_of}
use Rattle.util_common.specs.declared.messages.Why.{Why}
use Rattle.util_common.specs.declared.messages.Why.TheVariants.{BadNumber}
use Rattle.util_opts.specs.declared.options.Options.{Options}
use Rattle.util_text.specs.Count.{number, StandsFor}
use Rattle.util_text.specs.Lines.{first_lines}
use Rattle.util_text.specs.declared.heading.Heads.{Heads}

-- `-n` takes a number of lines.
abbrev pub head_options : List (ℕ × Bool)
head_options = (110, true) ∷ []

abbrev pub lines_wanted : Option (List ℕ) → Option ℕ
lines_wanted None = Some 10
lines_wanted (Some word) = number word

abbrev pub is_several : List (List ℕ) → Bool
is_several [] = false
is_several (x ∷ []) = false
is_several (x ∷ y ∷ r) = true

abbrev pub is_first : List (List ℕ) → Bool
is_first [] = true
is_first (x ∷ xs) = false

abbrev pub gap : Bool → List ℕ
gap true = []
gap false = 10 ∷ []

-- `==> NAME <==` and a newline, with an empty line before it unless it is the first one
abbrev pub title : Bool → List ℕ → List ℕ
title first word = gap first ++ (codes "==> " ++ (word ++ (codes " <==" ++ 10 ∷ [])))

-- Where there are several operands, each that is read has a title.
abbrev pub header : Bool → Bool → List ℕ → List ℕ
header false first word = []
header true first word = title first word

abbrev pub heads : ℕ → Bool → Writer
heads n several before word content = header several (is_first before) word ++ first_lines n content

abbrev pub heads_written : ℕ → List (List ℕ) → WorldData → Done ℕ
heads_written n operands w = answering status_of (operands_written (codes "head") (heads n (is_several operands)) none_yet (or_input operands) w)

abbrev pub head_of : List (List ℕ) → Option ℕ → WorldData → Done ℕ
head_of operands None w = refused (codes "head") BadNumber w
head_of operands (Some n) w = heads_written n operands w

abbrev pub head_by : Result Options Why → WorldData → Done ℕ
head_by (Ok options) w = head_of options.operands (lines_wanted (last_value 110 options.given)) w
head_by (Err why) w = refused (codes "head") why w

abbrev pub head : List (List ℕ) → WorldData → Done ℕ
head args w = head_by (words_of head_options args) w

-- ---- what the code keeps of it

-- The filter stands behind these contents, and writes so.
pub record Heading (filter : Heads) (text : Writer) (before : List (List ℕ)) : Type 0 where
  pub exact : ℕ
  pub stands : StandsFor filter.count exact
  pub is : text ≡ heads exact filter.several
  pub first : filter.first ≡ is_first before
