-- Why a word is refused.
use Rattle.std.specs.Prelude.{◌≡◌, Option, None}
use Rattle.util_text.specs.declared.fault.TextErr.{TextErr}
use Rattle.util_text.specs.declared.fault.TextErr.TheVariants.{BadNumber, BadList, NoMemory}

-- the error tells of a word that writes nothing, but for want of memory
abbrev pub Refuses : {X : Type 0} → TextErr → Option X → Type 0
Refuses BadNumber made = ⊥
Refuses BadList made = made ≡ None
Refuses NoMemory made = Unit {0}
