-- Options and operands (POSIX.1-2017, XBD 12.2): by cases on the words, and on the bytes of a group of options.
use Rattle.std.specs.Prelude.{◌≡◌, ℕ, Bool, true, false, ◌&&◌, ◌==◌, List, [], ◌∷◌, ◌++◌, drop, Option, Some, None, Result, Ok, Err, if◌then◌else◌}
use Rattle.util_opts.specs.declared.options.Options.{Options}
use Rattle.util_opts.specs.declared.options.OptErr.{OptErr}
use Rattle.util_opts.specs.declared.options.OptErr.TheVariants as err

-- The options that are given, each with its value where it takes one, and the operands; or the first fault in order.
pub data Reading : Type 0 where
  Reads : List (ℕ × Option (List ℕ)) → List (List ℕ) → Reading
  Unknown : ℕ → Reading
  Missing : ℕ → Reading

-- options that come before
abbrev pub behind : List (ℕ × Option (List ℕ)) → Reading → Reading
behind before (Reads given operands) = Reads (before ++ given) operands
behind before (Unknown b) = Unknown b
behind before (Missing b) = Missing b

-- whether the option takes a value, if it is listed
abbrev pub takes_value : List (ℕ × Bool) → ℕ → Option Bool
takes_value [] b = None
takes_value (entry ∷ table) b = if entry.0 == b then Some entry.1 else takes_value table b

-- `--` ends the options (guideline 10)
abbrev pub ends_options : List ℕ → Bool
ends_options [] = false
ends_options (b ∷ []) = false
ends_options (b ∷ c ∷ []) = b == 45 && c == 45
ends_options (b ∷ c ∷ d ∷ r) = false

-- `-` and at least one byte: `-` alone is an operand (guidelines 4 and 13)
abbrev pub is_group : List ℕ → Bool
is_group [] = false
is_group (b ∷ []) = false
is_group (b ∷ c ∷ r) = b == 45

-- ---- One group (guideline 5). `next` reads the words behind it: where it is given an option, the first of them is its value.

-- the value of an option is what is joined to it, or else the next word (guideline 6, and XBD 12.1, 2)
abbrev pub value : ℕ → List ℕ → (Option ℕ → Reading) → Reading
value b [] next = next (Some b)
value b (c ∷ r) next = behind ((b, Some (c ∷ r)) ∷ []) (next None)

-- an option that is listed like this, before these bytes, whose reading as further options is given
abbrev pub option : Option Bool → ℕ → List ℕ → (Option ℕ → Reading) → Reading → Reading
option None b r next further = Unknown b
option (Some false) b r next further = behind ((b, None) ∷ []) further
option (Some true) b r next further = value b r next

abbrev pub group : List (ℕ × Bool) → List ℕ → (Option ℕ → Reading) → Reading
group table [] next = next None
group table (b ∷ r) next = option (takes_value table b) b r next (group table r next)

-- ---- The words. Where an option waits for its value, the first word is that, whatever it looks like.

abbrev pub read : List (ℕ × Bool) → List (List ℕ) → Option ℕ → Reading
read table [] None = Reads [] []
read table [] (Some b) = Missing b
read table (w ∷ ws) (Some b) = behind ((b, Some w) ∷ []) (read table ws None)
read table (w ∷ ws) None =
    if ends_options w then Reads [] ws
    else (if is_group w then group table (drop 1 w) (read table ws)
    else Reads [] (w ∷ ws))

abbrev pub options_of : List (ℕ × Bool) → List (List ℕ) → Reading
options_of table args = read table args None

-- ---- what is answered

-- the error tells of the reading, but for want of memory
abbrev pub Tells : OptErr → Reading → Type 0
Tells err.NoMemory reading = Unit {0}
Tells (err.Unknown b) reading = reading ≡ Unknown b
Tells (err.Missing b) reading = reading ≡ Missing b

abbrev pub Answers : Result Options OptErr → Reading → Type 0
Answers (Ok options) reading = reading ≡ Reads options.given options.operands
Answers (Err e) reading = Tells e reading
