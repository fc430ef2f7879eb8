-- `fold` (POSIX.1-2017, XCU, `fold`): the lines of the operands, cut after so many bytes.
use Rattle.std.specs.Prelude.{◌≡◌, ℕ, zero, suc, Bool, true, false, List, [], ◌∷◌, Option, Some, None, Result, Ok, Err, codes}
use Rattle.hs_world.specs.World.{WorldData}
use Rattle.hs_view.specs.Acts.{answering}
use Rattle.hs_view.specs.Steps.{Done}
use Rattle.util_common.specs.Operands.{Writer, none_yet, operands_written, or_input, refused, status_of}
use Rattle.util_common.specs.Words.{last_value, words_of}
use Rattle.util_common.specs.declared.messages.Why.{Why}
use Rattle.util_common.specs.declared.messages.Why.TheVariants.{BadNumber}
use Rattle.util_opts.specs.declared.options.Options.{Options}
use Rattle.util_text.specs.Count.{number, StandsFor}
use Rattle.util_text.specs.Fold.{fold}
use Rattle.util_text.specs.declared.wrapping.Folds.{Folds}

-- `-w` takes a number of bytes. `-b` changes nothing: each byte is one column.
abbrev pub fold_options : List (ℕ × Bool)
fold_options = (98, false) ∷ (119, true) ∷ []

-- at least one
abbrev pub positive : Option ℕ → Option ℕ
positive None = None
positive (Some zero) = None
positive (Some (suc n)) = Some (suc n)

abbrev pub width_wanted : Option (List ℕ) → Option ℕ
width_wanted None = Some 80
width_wanted (Some word) = positive (number word)

abbrev pub folds : ℕ → Writer
folds n before word content = fold n content

abbrev pub folds_written : ℕ → List (List ℕ) → WorldData → Done ℕ
folds_written n operands w = answering status_of (operands_written (codes "fold") (folds n) none_yet (or_input operands) w)

abbrev pub fold_of : List (List ℕ) → Option ℕ → WorldData → Done ℕ
fold_of operands None w = refused (codes "fold") BadNumber w
fold_of operands (Some n) w = folds_written n operands w

abbrev pub fold_by : Result Options Why → WorldData → Done ℕ
fold_by (Ok options) w = fold_of options.operands (width_wanted (last_value 119 options.given)) w
fold_by (Err why) w = refused (codes "fold") why w

abbrev pub fold_command : List (List ℕ) → WorldData → Done ℕ
fold_command args w = fold_by (words_of fold_options args) w

-- ---- what the code keeps of it

-- The filter writes so.
pub record Folding (filter : Folds) (text : Writer) : Type 0 where
  pub exact : ℕ
  pub stands : StandsFor filter.width.bytes exact
  pub is : text ≡ folds exact
