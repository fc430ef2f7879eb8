-- Words of small scripts, with fields worked out from the standard. What hangs on variables is shown where they are given.
use Rattle.std.proofs.Common.{◌≡◌, ℕ, Bool, true, false, List, [], ◌∷◌, ◌++◌, map, refl, codes}
use Rattle.std.specs.Prelude.{Some, None, Ok}
use Rattle.std.specs.FinMap.{empty}
use Rattle.std.specs.Fmt.{digits}
use Rattle.hs_world.specs.World.{new_world}
use Rattle.hs_view.specs.Steps.{Done, nothing}
use Rattle.sh_syntax.specs.declared.tree.Part.TheOpen as open_part
use Rattle.sh_syntax.specs.declared.tree.ParamOp.{ParamOp}
use Rattle.sh_syntax.specs.declared.tree.ParamOp.TheVariants as op
use Rattle.sh_param.specs.Modes.{mode_of, quoted as in_quotes}
use Rattle.sh_param.specs.Parts.{Meaning, Sums, opened}
use Rattle.sh_param.specs.Pieces.{bytes_of, split_fields, whole_fields}
use Rattle.sh_param.specs.Plans.{expanded_by, gives}
use Rattle.sh_param.specs.Tildes.{text_pieces}
use Rattle.sh_param.specs.Values.{pieces_of}
use Rattle.sh_param.specs.Words.{words_mean}
use Rattle.sh_param.specs.declared.answer.Expanded.{Expanded}
use Rattle.sh_param.specs.declared.answer.Expanded.TheVariants as answer
use Rattle.sh_param.specs.declared.mode.Context.TheVariants.{Command, Assign}
use Rattle.sh_param.specs.declared.piece.Piece.TheVariants.{End}
use Rattle.sh_param.specs.declared.tilde.Follow.TheVariants as follow
use Rattle.sh_param.specs.declared.value.ParamValue.TheVariants.{Each}

-- ---- how words are written

-- any expression has the number 5
unfoldable five : Sums
five text w = nothing (Ok (codes "5")) w

unfoldable plain : List ℕ → Meaning
unfolding five
plain t = opened five (open_part.Plain t)

unfoldable single : List ℕ → Meaning
unfolding five
single t = opened five (open_part.Single t)

unfoldable double : List Meaning → Meaning
unfolding five
double ps = opened five (open_part.Double ps)

unfoldable param : List ℕ → Meaning
unfolding five
param x = opened five (open_part.Param x op.Value false None)

unfoldable with : List ℕ → ParamOp → List Meaning → Meaning
unfolding five
with x o w = opened five (open_part.Param x o false (Some w))

unfoldable colon : List ℕ → ParamOp → List Meaning → Meaning
unfolding five
colon x o w = opened five (open_part.Param x o true (Some w))

unfoldable output : ℕ → Meaning
unfolding five
output n = opened five (open_part.Command n)

unfoldable sum : List Meaning → Meaning
unfolding five
sum w = opened five (open_part.Arith w)

-- ---- fields

unfoldable bare : List ℕ → List (ℕ × Bool)
bare bytes = map (λ b. (b, false)) bytes

unfoldable quoted : List ℕ → List (ℕ × Bool)
quoted bytes = map (λ b. (b, true)) bytes

-- what becomes of a command's words, with these parameters and outputs, where IFS is unset and `$?` gives 3
unfoldable command : List (List Meaning) → List (List ℕ) → List (List ℕ) → Done Expanded
command words params outs =
    expanded_by (words_mean (mode_of Command 3) words [] (λ ps. gives (split_fields None ps))) outs (new_world empty [] (codes "sh") params [] (record { bytes = 1024; turns = 1 }))

unfoldable assigned : List Meaning → List (List ℕ) → Done Expanded
assigned word params =
    expanded_by (words_mean (mode_of Assign 3) (word ∷ []) [] (λ ps. gives (whole_fields ps))) [] (new_world empty [] (codes "sh") params [] (record { bytes = 1024; turns = 1 }))

unfoldable become : List (List (ℕ × Bool)) → Done Expanded
become fs = record { effects = []; answer = answer.Fields fs }

unfoldable says : List ℕ → Done Expanded
says why = record { effects = []; answer = answer.Error why }

-- ---- the words of a command

-- a star that is written stays a pattern, and is no result
star_written : command ((plain (codes "*.") ∷ param (codes "1") ∷ []) ∷ []) (codes "c" ∷ []) ([]) ≡ become (bare (codes "*.c") ∷ [])
unfolding command assigned plain single double param with colon output sum five become says bare quoted
star_written = refl

-- the word in quotes
default_quoted : command ((double (with (codes "1") op.Default (plain (codes "d") ∷ []) ∷ []) ∷ []) ∷ []) ([]) ([]) ≡ become (quoted (codes "d") ∷ [])
unfolding command assigned plain single double param with colon output sum five become says bare quoted
default_quoted = refl

-- null counts as unset with a colon alone
null : command ((colon (codes "1") op.Default (plain (codes "d") ∷ []) ∷ []) ∷ (with (codes "1") op.Default (plain (codes "d") ∷ []) ∷ []) ∷ []) (codes "" ∷ []) ([]) ≡ become (bare (codes "d") ∷ [])
unfolding command assigned plain single double param with colon output sum five become says bare quoted
null = refl

-- the other way round
alternative : command ((colon (codes "1") op.Alternative (plain (codes "d") ∷ []) ∷ []) ∷ (with (codes "1") op.Alternative (plain (codes "d") ∷ []) ∷ []) ∷ []) (codes "" ∷ []) ([]) ≡ become (bare (codes "d") ∷ [])
unfolding command assigned plain single double param with colon output sum five become says bare quoted
alternative = refl

-- quotes in a word in a word
nested : command ((colon (codes "1") op.Default (colon (codes "2") op.Default (double (plain (codes "c d") ∷ []) ∷ []) ∷ []) ∷ []) ∷ []) ([]) ([]) ≡ become (quoted (codes "c d") ∷ [])
unfolding command assigned plain single double param with colon output sum five become says bare quoted
nested = refl

-- the word of an expansion is split, but not what is quoted in it
word_split : command ((with (codes "1") op.Default (plain (codes "a b") ∷ single (codes "c d") ∷ []) ∷ []) ∷ []) ([]) ([]) ≡ become (bare (codes "a") ∷ (bare (codes "b") ++ quoted (codes "c d")) ∷ [])
unfolding command assigned plain single double param with colon output sum five become says bare quoted
word_split = refl

-- what is written is not split
written_whole : command ((plain (codes "a b") ∷ param (codes "1") ∷ []) ∷ []) (codes "c d" ∷ []) ([]) ≡ become (bare (codes "a bc") ∷ bare (codes "d") ∷ [])
unfolding command assigned plain single double param with colon output sum five become says bare quoted
written_whole = refl

-- an unquoted result that is empty makes no field, and quotes do
nothing_left : command ((param (codes "1") ∷ []) ∷ (double ([]) ∷ []) ∷ []) (codes "" ∷ []) ([]) ≡ become ([] ∷ [])
unfolding command assigned plain single double param with colon output sum five become says bare quoted
nothing_left = refl

-- `"$@"` without parameters
no_parameters : command ((double (param (codes "@") ∷ []) ∷ []) ∷ []) ([]) ([]) ≡ become ([])
unfolding command assigned plain single double param with colon output sum five become says bare quoted
no_parameters = refl

-- but beside other quotes there is a field
beside : command ((double (param (codes "@") ∷ []) ∷ double ([]) ∷ []) ∷ []) ([]) ([]) ≡ become ([] ∷ [])
unfolding command assigned plain single double param with colon output sum five become says bare quoted
beside = refl

-- a field for each parameter, the empty one too
parameters : command ((double (plain (codes "x") ∷ param (codes "@") ∷ plain (codes "y") ∷ []) ∷ []) ∷ []) (codes "a" ∷ codes "" ∷ codes "b" ∷ []) ([]) ≡ become (quoted (codes "xa") ∷ [] ∷ quoted (codes "by") ∷ [])
unfolding command assigned plain single double param with colon output sum five become says bare quoted
parameters = refl

-- unquoted, empty ones vanish
unquoted : command ((param (codes "@") ∷ []) ∷ []) (codes "a" ∷ codes "" ∷ codes "b c" ∷ []) ([]) ≡ become (bare (codes "a") ∷ bare (codes "b") ∷ bare (codes "c") ∷ [])
unfolding command assigned plain single double param with colon output sum five become says bare quoted
unquoted = refl

-- `$0`
the_name : command ((param (codes "0") ∷ []) ∷ []) (codes "a" ∷ []) [] ≡ become (bare (codes "sh") ∷ [])
unfolding command plain single double param with colon output sum five become bare quoted
the_name = refl

-- the status from before
status : command ((param (codes "?") ∷ []) ∷ []) [] [] ≡ become (bare (codes "3") ∷ [])
unfolding command plain single double param with colon output sum five become bare quoted digits
status = refl

-- `${10}`
tenth : command ((param (codes "10") ∷ []) ∷ (param (codes "11") ∷ []) ∷ []) (codes "a" ∷ codes "b" ∷ codes "c" ∷ codes "d" ∷ codes "e" ∷ codes "f" ∷ codes "g" ∷ codes "h" ∷ codes "i" ∷ codes "j" ∷ []) ([]) ≡ become (bare (codes "j") ∷ [])
unfolding command assigned plain single double param with colon output sum five become says bare quoted
tenth = refl

-- the smallest and the largest suffix
suffixes : command ((with (codes "1") op.SmallSuffix (plain (codes ".*") ∷ []) ∷ []) ∷ (with (codes "1") op.LargeSuffix (plain (codes ".*") ∷ []) ∷ []) ∷ []) (codes "a.b.c" ∷ []) ([]) ≡ become (bare (codes "a.b") ∷ bare (codes "a") ∷ [])
unfolding command assigned plain single double param with colon output sum five become says bare quoted
suffixes = refl

-- the smallest and the largest prefix
prefixes : command ((with (codes "1") op.SmallPrefix (plain (codes "*.") ∷ []) ∷ []) ∷ (with (codes "1") op.LargePrefix (plain (codes "*.") ∷ []) ∷ []) ∷ []) (codes "a.b.c" ∷ []) ([]) ≡ become (bare (codes "b.c") ∷ bare (codes "c") ∷ [])
unfolding command assigned plain single double param with colon output sum five become says bare quoted
prefixes = refl

-- quotes in a pattern count also in double quotes
quoted_pattern : command ((double (with (codes "1") op.SmallSuffix (single (codes "*") ∷ []) ∷ []) ∷ []) ∷ []) (codes "a*" ∷ []) ([]) ≡ become (quoted (codes "a") ∷ [])
unfolding command assigned plain single double param with colon output sum five become says bare quoted
quoted_pattern = refl

-- of `$@` each parameter
each_trimmed : command ((with (codes "@") op.SmallSuffix (plain (codes ".c") ∷ []) ∷ []) ∷ []) (codes "a.c" ∷ codes "b.c" ∷ []) ([]) ≡ become (bare (codes "a") ∷ bare (codes "b") ∷ [])
unfolding command assigned plain single double param with colon output sum five become says bare quoted
each_trimmed = refl

-- arithmetic
number : command ((sum (plain (codes "2+3") ∷ []) ∷ []) ∷ []) ([]) ([]) ≡ become (bare (codes "5") ∷ [])
unfolding command assigned plain single double param with colon output sum five become says bare quoted
number = refl

-- ---- errors

-- a message
message_given : command ((plain (codes "a") ∷ []) ∷ (with (codes "1") op.Error (plain (codes "no") ∷ []) ∷ []) ∷ []) ([]) ([]) ≡ says (codes "hs: 1: no\n")
unfolding command assigned plain single double param with colon output sum five become says bare quoted
message_given = refl

-- without a word
not_set : command ((with (codes "1") op.Error ([]) ∷ []) ∷ []) ([]) ([]) ≡ says (codes "hs: 1: parameter not set\n")
unfolding command assigned plain single double param with colon output sum five become says bare quoted
not_set = refl

-- a positional parameter
no_name : command ((with (codes "1") op.Assign (plain (codes "w") ∷ []) ∷ []) ∷ []) (codes "a" ∷ []) ([]) ≡ says (codes "hs: 1: cannot assign\n")
unfolding command assigned plain single double param with colon output sum five become says bare quoted
no_name = refl

-- ---- assignments

-- nothing is split
whole : assigned (param (codes "1") ∷ param (codes "@") ∷ []) (codes "a  b" ∷ codes "c" ∷ []) ≡ become (bare (codes "a  ba  b c") ∷ [])
unfolding command assigned plain single double param with colon output sum five become says bare quoted
whole = refl

-- ---- command substitution

-- without newlines at its end, and split
output_split : command ((output 4 ∷ []) ∷ []) ([]) (codes "a b\n\n" ∷ []) ≡ become (bare (codes "a") ∷ bare (codes "b") ∷ [])
unfolding command assigned plain single double param with colon output sum five become says bare quoted
output_split = refl

-- within quotes
output_quoted : command ((double (output 4 ∷ []) ∷ []) ∷ []) ([]) (codes "a b\n\n" ∷ []) ≡ become (quoted (codes "a b") ∷ [])
unfolding command assigned plain single double param with colon output sum five become says bare quoted
output_quoted = refl

-- the list is wanted where no output is left
wanted : command ((output 4 ∷ output 5 ∷ []) ∷ []) ([]) (codes "o" ∷ []) ≡ record { effects = []; answer = answer.Wants 5 }
unfolding command assigned plain single double param with colon output sum five become says bare quoted
wanted = refl

-- ---- what hangs on IFS

-- `"$*"` takes the first byte
star_first : bytes_of (pieces_of (in_quotes (mode_of Command 0)) (Some (codes ":x")) (Each true (codes "a" ∷ codes "b" ∷ []))) ≡ codes "a:b"
star_first = refl

-- nothing where it is null
star_null : bytes_of (pieces_of (in_quotes (mode_of Command 0)) (Some []) (Each true (codes "a" ∷ codes "b" ∷ []))) ≡ codes "ab"
star_null = refl

-- a space where it is unset
star_unset : bytes_of (pieces_of (in_quotes (mode_of Command 0)) None (Each true (codes "a" ∷ codes "b" ∷ []))) ≡ codes "a b"
star_unset = refl

-- ---- what hangs on HOME

-- the value is quoted
tilde : whole_fields (text_pieces (mode_of Command 0) true (Some (codes "/h")) follow.End (codes "~/x") ++ End ∷ []) ≡ (quoted (codes "/h") ++ bare (codes "/x")) ∷ []
unfolding bare quoted
tilde = refl

-- a name behind the tilde
user : whole_fields (text_pieces (mode_of Command 0) true (Some (codes "/h")) follow.End (codes "~x") ++ End ∷ []) ≡ (bare (codes "~x")) ∷ []
unfolding bare quoted
user = refl

-- without HOME it stays
unset : whole_fields (text_pieces (mode_of Command 0) true None follow.End (codes "~") ++ End ∷ []) ≡ (bare (codes "~")) ∷ []
unfolding bare quoted
unset = refl

-- something else behind it
not_alone : whole_fields (text_pieces (mode_of Command 0) true (Some (codes "/h")) follow.Other (codes "~") ++ End ∷ []) ≡ (bare (codes "~")) ∷ []
unfolding bare quoted
not_alone = refl

-- behind colons in an assignment
colons : whole_fields (text_pieces (mode_of Assign 0) true (Some (codes "/h")) follow.End (codes "a:~:~/b") ++ End ∷ []) ≡ (bare (codes "a:") ++ quoted (codes "/h") ++ bare (codes ":") ++ quoted (codes "/h") ++ bare (codes "/b")) ∷ []
unfolding bare quoted
colons = refl

-- elsewhere not
no_colons : whole_fields (text_pieces (mode_of Command 0) true (Some (codes "/h")) follow.End (codes "a:~") ++ End ∷ []) ≡ (bare (codes "a:~")) ∷ []
unfolding bare quoted
no_colons = refl
