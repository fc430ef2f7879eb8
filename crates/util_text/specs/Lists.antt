-- Words that should write lists.
use Rattle.std.specs.Prelude.{◌≡◌, Option, None}
use Rattle.util_common.specs.declared.messages.Why.TheVariants.{BadList}
use Rattle.util_common.specs.declared.words.WordErr.{WordErr}
use Rattle.util_common.specs.declared.words.WordErr.TheVariants as err

-- The words are refused for a bad list, where there is none, but for want of memory.
abbrev pub RefusesList : {X : Type 0} → WordErr → Option X → Type 0
RefusesList (err.Refused why) made = (why ≡ BadList) × (made ≡ None)
RefusesList err.NoMemory made = Unit {0}
