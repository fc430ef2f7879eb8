-- Sets of bytes, and what `tr` makes of texts.
use Rattle.std.proofs.Common.{◌≡◌, ℕ, Bool, true, false, List, [], ◌∷◌, Some, None, Ok, Err, refl, codes}
use Rattle.std.specs.Prelude.{Result, Option}
use Rattle.util_common.specs.declared.messages.Why.{Why}
use Rattle.util_common.specs.declared.messages.Why.TheVariants.{BadSet, ExtraOperand, MissingOperand}
use Rattle.util_lines.specs.ByteClass.{class_at}
use Rattle.util_lines.specs.ByteSet.{bytes_from, set_of}
use Rattle.util_lines.specs.Transliterate.{Job, transliterated}
use Rattle.util_lines.specs.Translating.{wanted}
use Rattle.util_lines.specs.declared.translating.Asked.{Asked}

abbrev asked : Bool → Bool → Bool → Asked
asked c d s = record { complements = c; deletes = d; squeezes = s }

-- what becomes of a text
abbrev made : List ℕ → Result Job Why → Result (List ℕ) Why
made text (Ok job) = Ok (transliterated job text)
made text (Err why) = Err why

-- ---- sets

-- a backslash before digits, and before a letter that it gives no meaning
escapes : set_of (codes "\\101\\n\\t\\\\\\q\\777") ≡ Some (65 ∷ 10 ∷ 9 ∷ 92 ∷ 113 ∷ 255 ∷ [])
escapes = refl

last_backslash : set_of (codes "a\\") ≡ Some (97 ∷ 92 ∷ [])
last_backslash = refl

ranges : set_of (codes "a-c-e-") ≡ Some (97 ∷ 98 ∷ 99 ∷ 45 ∷ 101 ∷ 45 ∷ [])
ranges = refl

escaped_range : set_of (codes "\\60-2") ≡ Some (48 ∷ 49 ∷ 50 ∷ [])
escaped_range = refl

falling : set_of (codes "az-y") ≡ None
falling = refl

classes : set_of (codes "[:digit:]x") ≡ Some (48 ∷ 49 ∷ 50 ∷ 51 ∷ 52 ∷ 53 ∷ 54 ∷ 55 ∷ 56 ∷ 57 ∷ 120 ∷ [])
unfolding class_at bytes_from
classes = refl

-- a name that is no class stands for its bytes
no_class : set_of (codes "[:a:]") ≡ Some (91 ∷ 58 ∷ 97 ∷ 58 ∷ 93 ∷ [])
unfolding class_at
no_class = refl

-- ---- texts

-- runs are squeezed after translation
squeezed_last : made (codes "aabb\n") (wanted (asked false false true) (codes "a-b" ∷ codes "x-y" ∷ [])) ≡ Ok (codes "xy\n")
squeezed_last = refl

-- two bytes that become one are a run
one_run : made (codes "abc") (wanted (asked false false true) (codes "ab" ∷ codes "x" ∷ [])) ≡ Ok (codes "xc")
one_run = refl

-- the last byte of the second set is repeated, and the first place of a byte counts
repeated : made (codes "abcd") (wanted (asked false false false) (codes "abca" ∷ codes "xy" ∷ [])) ≡ Ok (codes "xyyd")
repeated = refl

others_deleted : made (codes "aB1b\n") (wanted (asked true true false) (codes "a-z" ∷ [])) ≡ Ok (codes "ab")
unfolding bytes_from
others_deleted = refl

deleted_and_squeezed : made (codes "aabaab") (wanted (asked false true true) (codes "b" ∷ codes "a" ∷ [])) ≡ Ok (codes "a")
deleted_and_squeezed = refl

one_set : made (codes "aab") (wanted (asked false true true) (codes "b" ∷ [])) ≡ Ok (codes "aa")
one_set = refl

-- ---- refusals

empty_second : wanted (asked false false false) (codes "a" ∷ [] ∷ []) ≡ Err BadSet
empty_second = refl

none_given : wanted (asked true true true) [] ≡ Err MissingOperand
none_given = refl

one_given : wanted (asked true false false) (codes "a" ∷ []) ≡ Err MissingOperand
one_given = refl

two_deleted : wanted (asked false true false) (codes "a" ∷ codes "b" ∷ []) ≡ Err ExtraOperand
two_deleted = refl
