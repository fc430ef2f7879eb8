-- What the words of a utility come to.
use Rattle.std.specs.Prelude.{◌≡◌, ℕ, Bool, ◌==◌, List, [], ◌∷◌, Option, None, Result, Ok, Err, if◌then◌else◌}
use Rattle.std.specs.List.{list_any}
use Rattle.hs_world.specs.World.{WorldData}
use Rattle.hs_view.specs.Steps.{Done}
use Rattle.util_common.specs.Operands.{refused}
use Rattle.util_common.specs.declared.messages.Why.{Why}
use Rattle.util_common.specs.declared.messages.Why.TheVariants.{UnknownOption, NeedsValue}
use Rattle.util_common.specs.declared.words.WordErr.{WordErr}
use Rattle.util_common.specs.declared.words.WordErr.TheVariants as err
use Rattle.util_opts.specs.Reading.{Reading, Reads, Unknown, Missing, options_of}
use Rattle.util_opts.specs.declared.options.Options.{Options}

-- the options and operands, or why the words are refused
abbrev pub words_read : Reading → Result Options Why
words_read (Reads given operands) = Ok (record { given = given; operands = operands })
words_read (Unknown b) = Err (UnknownOption b)
words_read (Missing b) = Err (NeedsValue b)

abbrev pub words_of : List (ℕ × Bool) → List (List ℕ) → Result Options Why
words_of table args = words_read (options_of table args)

-- the answer is this one, but for want of memory
abbrev pub Answers : {X : Type 0} → Result X WordErr → Result X Why → Type 0
Answers (Ok x) reading = reading ≡ Ok x
Answers (Err (err.Refused why)) reading = reading ≡ Err why
Answers (Err err.NoMemory) reading = Unit {0}

-- that the words are refused for this cause is what is to be done, but for want of memory
abbrev pub Blames : WordErr → List ℕ → (WorldData → Done ℕ) → Type 0
Blames (err.Refused why) utility meaning = (w : WorldData) → meaning w ≡ refused utility why w
Blames err.NoMemory utility meaning = Unit {0}

-- the value of the last option with this byte, behind one that was found
abbrev pub last_from : ℕ → Option (List ℕ) → List (ℕ × Option (List ℕ)) → Option (List ℕ)
last_from b found [] = found
last_from b found (option ∷ given) = last_from b (if option.0 == b then option.1 else found) given

abbrev pub last_value : ℕ → List (ℕ × Option (List ℕ)) → Option (List ℕ)
last_value b given = last_from b None given

-- whether an option with this byte was given
abbrev pub is_given : ℕ → List (ℕ × Option (List ℕ)) → Bool
is_given b given = list_any (λ option. option.0 == b) given
