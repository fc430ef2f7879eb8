-- `printf` (POSIX.1-2017, XCU, `printf`).
use Rattle.std.specs.Prelude.{ℕ, Bool, false, ◌&&◌, ◌==◌, List, [], ◌∷◌, Option, None, Some, codes, if◌then◌else◌}
use Rattle.hs_world.specs.World.{WorldData}
use Rattle.hs_world.specs.declared.effect.Fd.TheVariants.{One, Two}
use Rattle.hs_view.specs.Acts.{then_by}
use Rattle.hs_view.specs.Steps.{Done}
use Rattle.util_common.specs.Messages.{message_on}
use Rattle.util_common.specs.Operands.{emitted, refused}
use Rattle.util_common.specs.declared.messages.Why.TheVariants.{BadFormat, BadNumber, MissingOperand}
use Rattle.util_print.specs.Formats.{parts}
use Rattle.util_print.specs.Shown.{all_parts, bad_words, written}
use Rattle.util_print.specs.declared.format.Part.{Part}

-- a message on a word that is a bad number, and the status 1
abbrev pub complained : List ℕ → WorldData → Done ℕ
complained word w = emitted Two (message_on (codes "printf") word BadNumber) 1 w

-- A message for each word that is a bad number, in order, and then the text.
abbrev pub told : List (List ℕ) → List ℕ → ℕ → WorldData → Done ℕ
told [] text status w = emitted One text status w
told (word ∷ words) text status w = then_by (complained word w) (λ next. told words text next) w

abbrev pub printed : List Part → List (List ℕ) → WorldData → Done ℕ
printed ps words w = told (bad_words ps words) (written ps words) 0 w

abbrev pub parts_printed : List Part → List (List ℕ) → WorldData → Done ℕ
parts_printed ps words w = printed (all_parts ps words) words w

-- The format is checked first.
abbrev pub printf_by : Option (List Part) → List (List ℕ) → WorldData → Done ℕ
printf_by None words w = refused (codes "printf") BadFormat w
printf_by (Some ps) words w = parts_printed ps words w

abbrev pub printf_of : List (List ℕ) → WorldData → Done ℕ
printf_of [] w = refused (codes "printf") MissingOperand w
printf_of (format ∷ words) w = printf_by (parts format) words w

abbrev pub is_dashes : List ℕ → Bool
is_dashes [] = false
is_dashes (a ∷ []) = false
is_dashes (a ∷ b ∷ []) = a == 45 && b == 45
is_dashes (a ∷ b ∷ c ∷ r) = false

-- without a first word `--`
abbrev pub without_dashes : List (List ℕ) → List (List ℕ)
without_dashes [] = []
without_dashes (word ∷ words) = if is_dashes word then words else word ∷ words

abbrev pub printf : List (List ℕ) → WorldData → Done ℕ
printf args w = printf_of (without_dashes args) w
