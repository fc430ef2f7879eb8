-- What the parts of a word become (POSIX.1-2017, XCU 2.6.1 to 2.6.4). Each is put behind the pieces that are there, and then comes what
-- follows.
use Rattle.std.specs.Prelude.{ℕ, Bool, true, false, not, ◌&&◌, ◌==◌, List, [], ◌∷◌, ◌++◌, Option, Some, None, Result, Ok, Err, codes, if◌then◌else◌}
use Rattle.hs_world.specs.World.{WorldData}
use Rattle.hs_view.specs.Steps.{Done, nothing}
use Rattle.sh_arith.specs.declared.names.Assigned.{Assigned}
use Rattle.sh_arith.specs.declared.names.Assigned.TheVariants.{Yes, ReadOnly}
use Rattle.sh_split.specs.declared.mark.Mark.TheVariants.{Quoted, Quotes}
use Rattle.sh_syntax.specs.declared.tree.Part.{Part, fold-Part}
use Rattle.sh_syntax.specs.declared.tree.Part.TheOpen as open_part
use Rattle.sh_syntax.specs.declared.tree.Part.TheOpen.{Part-F, Word-F}
use Rattle.sh_syntax.specs.declared.tree.ParamOp.{ParamOp}
use Rattle.sh_syntax.specs.declared.tree.ParamOp.TheVariants as op
use Rattle.sh_param.specs.Assigns.{assigned}
use Rattle.sh_param.specs.Kinds.{kind_of}
use Rattle.sh_param.specs.Lookups.{value_of, with_text, with_value}
use Rattle.sh_param.specs.Messages.{message}
use Rattle.sh_param.specs.Modes.{operand, pattern, quoted, sum, text}
use Rattle.sh_param.specs.Outputs.{substituted}
use Rattle.sh_param.specs.Pieces.{bytes_of, expanded_all, field_of, quoted_all}
use Rattle.sh_param.specs.Tildes.{starts_after}
use Rattle.sh_param.specs.Trims.{trimmed}
use Rattle.sh_param.specs.Values.{is_absent, size_text}
use Rattle.sh_param.specs.declared.kind.Kind.{Kind}
use Rattle.sh_param.specs.declared.kind.Kind.TheVariants as kind
use Rattle.sh_param.specs.declared.mode.Mode.{Mode}
use Rattle.sh_param.specs.declared.piece.Piece.{Piece}
use Rattle.sh_param.specs.declared.piece.Piece.TheVariants as piece
use Rattle.sh_param.specs.declared.tilde.Follow.{Follow}
use Rattle.sh_param.specs.declared.tilde.Follow.TheVariants as follow
use Rattle.sh_param.specs.declared.value.ParamValue.{ParamValue}
use Rattle.sh_param.specs.Plans.{Plan, fails, wants, after}

-- what follows, for the pieces that are there then
abbrev pub Next : Type 0
Next = List Piece → Plan

-- what a part is, without the parts in it
pub record Meaning : Type 0 where
  -- its bytes, where they stand for themselves
  pub bytes : Option (List ℕ)
  -- whether it is `$@`
  pub is_at : Bool
  -- where it stands, whether a tilde may stand at its beginning, and what stands behind it
  pub means : Mode → Bool → Follow → List Piece → Next → Plan

-- what stands behind a part
abbrev pub first_byte : Option (List ℕ) → Follow
first_byte None = follow.Other
first_byte (Some []) = follow.Other
first_byte (Some (b ∷ r)) = follow.Byte b

abbrev pub follow_of : List Meaning → Follow
follow_of [] = follow.End
follow_of (p ∷ ps) = first_byte p.bytes

-- whether a tilde may stand behind a part
abbrev pub start_behind : Mode → Bool → Option (List ℕ) → Bool
start_behind m start None = false
start_behind m start (Some t) = starts_after m start t

abbrev pub parts_mean : Mode → Bool → List Meaning → List Piece → Next → Plan
parts_mean m start [] ps k = k ps
parts_mean m start (p ∷ rest) ps k = p.means m start (follow_of rest) ps (λ qs. parts_mean m (start_behind m start p.bytes) rest qs k)

-- the word of a parameter expansion; a tilde may stand at its beginning
abbrev pub word_means : Mode → List Meaning → List Piece → Next → Plan
word_means m parts ps k = parts_mean m (not m.quoted) parts ps k

-- ---- quotes (XCU 2.2)

-- Quotes make a field also of nothing, but for `"$@"`.
abbrev pub quotes_of : List Meaning → List Piece
quotes_of [] = piece.Mark Quotes ∷ []
quotes_of (p ∷ []) = if p.is_at then [] else piece.Mark Quotes ∷ []
quotes_of (p ∷ q ∷ rest) = piece.Mark Quotes ∷ []

abbrev pub double_means : List Meaning → Mode → List Piece → Next → Plan
double_means parts m ps k = parts_mean (quoted m) false parts (ps ++ quotes_of parts) k

abbrev pub single_pieces : List ℕ → List Piece
single_pieces t = piece.Mark Quotes ∷ quoted_all t

-- ---- parameters (XCU 2.6.2)

-- a value takes its place
abbrev pub put_value : Mode → ParamValue → List Piece → Next → Plan
put_value m v ps k = after (with_value m v ps) k

-- the value that the parameter has
abbrev pub look : Mode → List ℕ → (ParamValue → Plan) → Plan
look m name k = after (λ w. nothing (value_of m.status name w) w) k

-- the value, or the word where that is absent
abbrev pub default_means : Mode → List ℕ → Bool → List Meaning → List Piece → Next → Plan
default_means m name colon word ps k = look m name (λ v. if is_absent colon v then word_means (operand m) word ps k else put_value m v ps k)

-- the word, unless the value is absent
abbrev pub alternative_means : Mode → List ℕ → Bool → List Meaning → List Piece → Next → Plan
alternative_means m name colon word ps k = look m name (λ v. if is_absent colon v then k ps else word_means (operand m) word ps k)

abbrev pub after_assignment : Mode → List ℕ → List ℕ → List Piece → Next → Assigned → Plan
after_assignment m name bytes ps k Yes = k (ps ++ expanded_all m bytes)
after_assignment m name bytes ps k ReadOnly = fails (message name (codes "is read only"))

-- The variable gets the bytes, and they take its place.
abbrev pub assign_means : Mode → List ℕ → List ℕ → List Piece → Next → Plan
assign_means m name bytes ps k = after (assigned name bytes) (after_assignment m name bytes ps k)

-- the word is expanded as one text, from no pieces on
abbrev pub assigned_word : Mode → List ℕ → List Meaning → List Piece → Next → Plan
assigned_word m name word ps k = word_means (text m) word [] (λ qs. assign_means m name (bytes_of qs) ps k)

abbrev pub is_variable : Kind → Bool
is_variable kind.Variable = true
is_variable _ = false

abbrev pub variable_means : Mode → List ℕ → Bool → List Meaning → List Piece → Next → Plan
variable_means m name colon word ps k = look m name (λ v. if is_absent colon v then assigned_word m name word ps k else put_value m v ps k)

-- The value, or the word where that is absent, which the variable gets. Other parameters can't be assigned.
abbrev pub assignment_means : Mode → List ℕ → Bool → List Meaning → List Piece → Next → Plan
assignment_means m name colon word ps k = if is_variable (kind_of name) then variable_means m name colon word ps k else fails (message name (codes "cannot assign"))

-- Without a word the message says that the parameter is not set.
abbrev pub error_word : Mode → List ℕ → List Meaning → Plan
error_word m name [] = fails (message name (codes "parameter not set"))
error_word m name (p ∷ ps) = word_means (text m) (p ∷ ps) [] (λ qs. fails (message name (bytes_of qs)))

abbrev pub error_means : Mode → List ℕ → Bool → List Meaning → List Piece → Next → Plan
error_means m name colon word ps k = look m name (λ v. if is_absent colon v then error_word m name word else put_value m v ps k)

-- The value is taken before the pattern is expanded.
abbrev pub trim_means : ParamOp → Mode → List ℕ → List Meaning → List Piece → Next → Plan
trim_means o m name word ps k = look m name (λ v. word_means (pattern m) word [] (λ qs. put_value m (trimmed o (field_of qs) v) ps k))

abbrev pub size_means : Mode → List ℕ → List Piece → Next → Plan
size_means m name ps k = look m name (λ v. k (ps ++ expanded_all m (size_text v)))

abbrev pub value_means : Mode → List ℕ → List Piece → Next → Plan
value_means m name ps k = look m name (λ v. put_value m v ps k)

abbrev pub param_means : List ℕ → ParamOp → Bool → List Meaning → Mode → List Piece → Next → Plan
param_means name op.Value colon word m ps k = value_means m name ps k
param_means name op.Length colon word m ps k = size_means m name ps k
param_means name op.Default colon word m ps k = default_means m name colon word ps k
param_means name op.Assign colon word m ps k = assignment_means m name colon word ps k
param_means name op.Error colon word m ps k = error_means m name colon word ps k
param_means name op.Alternative colon word m ps k = alternative_means m name colon word ps k
param_means name op.SmallSuffix colon word m ps k = trim_means op.SmallSuffix m name word ps k
param_means name op.LargeSuffix colon word m ps k = trim_means op.LargeSuffix m name word ps k
param_means name op.SmallPrefix colon word m ps k = trim_means op.SmallPrefix m name word ps k
param_means name op.LargePrefix colon word m ps k = trim_means op.LargePrefix m name word ps k

abbrev pub is_at_byte : List ℕ → Bool
is_at_byte [] = false
is_at_byte (b ∷ []) = b == 64
is_at_byte (b ∷ c ∷ r) = false

abbrev pub is_value : ParamOp → Bool
is_value op.Value = true
is_value _ = false

abbrev pub word_of : Option (List Meaning) → List Meaning
word_of None = []
word_of (Some parts) = parts

-- ---- command substitution and arithmetic (XCU 2.6.3, 2.6.4)

abbrev pub output_means : ℕ → Mode → List Piece → Next → Plan
output_means n m ps k = wants n (λ out. k (ps ++ expanded_all m (substituted out)))

-- what an arithmetic expression does: its number in decimal, or a message
abbrev pub Sums : Type 0
Sums = List ℕ → WorldData → Done (Result (List ℕ) (List ℕ))

abbrev pub after_sum : Mode → List Piece → Next → Result (List ℕ) (List ℕ) → Plan
after_sum m ps k (Ok number) = k (ps ++ expanded_all m number)
after_sum m ps k (Err why) = fails why

abbrev pub sum_means : Sums → Mode → List Meaning → List Piece → Next → Plan
sum_means sums m word ps k = word_means (sum m) word [] (λ qs. after (sums (bytes_of qs)) (after_sum m ps k))

-- ---- parts

abbrev pub plain : List ℕ → Meaning
plain t = record { bytes = Some t; is_at = false; means = λ m start follow ps k. after (with_text m start follow t ps) k }

abbrev pub other : Bool → (Mode → List Piece → Next → Plan) → Meaning
other at f = record { bytes = None; is_at = at; means = λ m start follow ps k. f m ps k }

abbrev pub opened : Sums → Part-F Meaning (List Meaning) → Meaning
opened sums p = elim p [
  | open_part.Plain t ↦ plain t
  | open_part.Single t ↦ other false (λ m ps k. k (ps ++ single_pieces t))
  | open_part.Escaped b ↦ other false (λ m ps k. k (ps ++ piece.Mark (Quoted b) ∷ []))
  | open_part.Double parts ↦ other false (double_means parts)
  | open_part.Param name o colon word ↦ other (is_value o && is_at_byte name) (param_means name o colon (word_of word))
  | open_part.Command n ↦ other false (output_means n)
  | open_part.Arith word ↦ other false (λ m ps k. sum_means sums m word ps k)
]

abbrev pub parts_of : Word-F Meaning (List Meaning) → List Meaning
parts_of w = w.parts

abbrev pub meaning : Sums → Part → Meaning
meaning sums p = fold-Part Meaning (List Meaning) (opened sums) parts_of p
