-- Words that should write numbers.
use Rattle.std.specs.Prelude.{◌≡◌, Option, None}
use Rattle.util_common.specs.declared.messages.Why.TheVariants.{BadNumber}
use Rattle.util_common.specs.declared.words.WordErr.{WordErr}
use Rattle.util_common.specs.declared.words.WordErr.TheVariants as err

-- The words are refused for a bad number, where there is none, but for want of memory.
abbrev pub RefusesNumber : {X : Type 0} → WordErr → Option X → Type 0
RefusesNumber (err.Refused why) number = (why ≡ BadNumber) × (number ≡ None)
RefusesNumber err.NoMemory number = Unit {0}
