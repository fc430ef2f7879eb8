-- `tr` (POSIX.1-2017, XCU, `tr`): standard input with bytes deleted, translated, and runs of them squeezed.
use Rattle.std.specs.Prelude.{ℕ, Bool, true, false, not, ◌&&◌, ◌||◌, List, [], ◌∷◌, Option, Some, None, Result, Ok, Err, codes, if◌then◌else◌}
use Rattle.hs_world.specs.World.{WorldData}
use Rattle.hs_world.specs.declared.effect.Fd.TheVariants.{One}
use Rattle.hs_view.specs.Acts.{then_by}
use Rattle.hs_view.specs.Steps.{Done}
use Rattle.util_common.specs.Operands.{emitted, input_read, refused}
use Rattle.util_common.specs.Words.{is_given, words_of}
use Rattle.util_common.specs.declared.messages.Why.{Why}
use Rattle.util_common.specs.declared.messages.Why.TheVariants.{BadSet, ExtraOperand, MissingOperand}
use Rattle.util_lines.specs.ByteSet.{complement, set_of}
use Rattle.util_lines.specs.Transliterate.{Job, transliterated}
use Rattle.util_lines.specs.declared.translating.Asked.{Asked}
use Rattle.util_opts.specs.declared.options.Options.{Options}

-- With `-c` the first set is all other bytes, with `-d` it is deleted, and with `-s` runs of the last set are squeezed.
abbrev pub tr_options : List (ℕ × Bool)
tr_options = (99, false) ∷ (100, false) ∷ (115, false) ∷ []

abbrev pub asked_by : List (ℕ × Option (List ℕ)) → Asked
asked_by given = record { complements = is_given 99 given; deletes = is_given 100 given; squeezes = is_given 115 given }

-- ---- what is to be done

abbrev pub where_true : Bool → List ℕ → List ℕ
where_true wanted set = if wanted then set else []

-- the second set, where there is one; it is not empty then
abbrev pub last_set : List ℕ → List ℕ → List ℕ
last_set one [] = one
last_set one (b ∷ bs) = b ∷ bs

-- No byte is translated where there is no second set, or with `-d`, where the first set is deleted.
abbrev pub job_of : Asked → List ℕ → List ℕ → Job
job_of asked one two = record {
  deletes = where_true asked.deletes one;
  from = one;
  to = where_true (not asked.deletes) two;
  squeezes = where_true asked.squeezes (last_set one two);
}

-- ---- the sets

abbrev pub complemented : Bool → List ℕ → List ℕ
complemented complements set = if complements then complement set else set

abbrev pub set_read : Option (List ℕ) → Result (List ℕ) Why
set_read None = Err BadSet
set_read (Some set) = Ok set

abbrev pub first_set : Bool → Result (List ℕ) Why → Result (List ℕ) Why
first_set complements (Ok set) = Ok (complemented complements set)
first_set complements (Err why) = Err why

-- a second set is not empty
abbrev pub second_set : Result (List ℕ) Why → Result (List ℕ) Why
second_set (Ok []) = Err BadSet
second_set (Ok (b ∷ bs)) = Ok (b ∷ bs)
second_set (Err why) = Err why

abbrev pub by_second : Asked → List ℕ → Result (List ℕ) Why → Result Job Why
by_second asked one (Ok two) = Ok (job_of asked one two)
by_second asked one (Err why) = Err why

abbrev pub by_first : (List ℕ → Result Job Why) → Result (List ℕ) Why → Result Job Why
by_first next (Ok one) = next one
by_first next (Err why) = Err why

abbrev pub by_one : Asked → List ℕ → Result Job Why
by_one asked one = by_first (λ set. Ok (job_of asked set [])) (first_set asked.complements (set_read (set_of one)))

abbrev pub by_two : Asked → List ℕ → List ℕ → Result Job Why
by_two asked one two = by_first (λ set. by_second asked set (second_set (set_read (set_of two)))) (first_set asked.complements (set_read (set_of one)))

abbrev pub with_one : Asked → List ℕ → Result Job Why
with_one asked one = if asked.deletes || asked.squeezes then by_one asked one else Err MissingOperand

abbrev pub with_two : Asked → List ℕ → List ℕ → Result Job Why
with_two asked one two = if asked.deletes && not asked.squeezes then Err ExtraOperand else by_two asked one two

-- Two sets are given, or one with `-d` or `-s`; with `-d` alone just one.
abbrev pub wanted : Asked → List (List ℕ) → Result Job Why
wanted asked [] = Err MissingOperand
wanted asked (one ∷ []) = with_one asked one
wanted asked (one ∷ two ∷ []) = with_two asked one two
wanted asked (one ∷ two ∷ three ∷ more) = Err ExtraOperand

-- ---- what is written

abbrev pub image_written : Job → List ℕ → WorldData → Done ℕ
image_written job text w = emitted One (transliterated job text) 0 w

abbrev pub input_written : Job → WorldData → Done ℕ
input_written job w = then_by (input_read w) (image_written job) w

abbrev pub tr_of : Result Job Why → WorldData → Done ℕ
tr_of (Ok job) w = input_written job w
tr_of (Err why) w = refused (codes "tr") why w

abbrev pub tr_by : Result Options Why → WorldData → Done ℕ
tr_by (Ok options) w = tr_of (wanted (asked_by options.given) options.operands) w
tr_by (Err why) w = refused (codes "tr") why w

abbrev pub tr : List (List ℕ) → WorldData → Done ℕ
tr args w = tr_by (words_of tr_options args) w
