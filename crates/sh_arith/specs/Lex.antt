-- The tokens of an expression, by cases on the bytes (POSIX.1-2017, XCU 2.6.4; ISO C, 6.4): spaces, tabs and newlines may
-- stand before each, the longest operator is taken, and a longest run of letters, digits and `_` is one token.
use Rattle.std.specs.Prelude.{◌≡◌, ℕ, ◌-◌, Bool, ◌||◌, ◌==◌, List, [], ◌∷◌, length, take, drop, Option, Some, None, if◌then◌else◌, ℤ, Result, Ok, Err}
use Rattle.std.specs.List.{prefix_len}
use Rattle.std.specs.Borrow.{Bor}
use Rattle.sh_arith.specs.declared.token.Math.TheVariants as math
use Rattle.sh_arith.specs.declared.token.Math.{Math}
use Rattle.sh_arith.specs.declared.token.Logic.TheVariants as logic
use Rattle.sh_arith.specs.declared.token.Op.{Op}
use Rattle.sh_arith.specs.declared.token.Op.TheVariants as op
use Rattle.sh_arith.specs.declared.token.Token.{Token}
use Rattle.sh_arith.specs.declared.token.Token.TheVariants.{Number, Name, Operator}
use Rattle.sh_arith.specs.declared.token.LexError.{LexError}
use Rattle.sh_arith.specs.declared.token.LexError.TheVariants as error
use Rattle.sh_arith.specs.Number.{blank, decimal, word_byte, constant, within, positive, greatest}

-- a token and the bytes after it, or the end of the text, or that no token can be formed
pub data Lexed : Type 0 where
  got : Token → List ℕ → Lexed
  done : Lexed
  bad : Lexed

abbrev pub sign : Op → List ℕ → Lexed
sign o r = got (Operator o) r

-- ---- operators, by their first byte

-- the operator, or its assignment where `=` follows
abbrev pub or_assign : Math → List ℕ → Lexed
or_assign m [] = sign (op.Math m) []
or_assign m (b ∷ r) = if b == 61 then sign (op.Assign (Some m)) r else sign (op.Math m) (b ∷ r)

-- one operator where `=` follows, and else another
abbrev pub with_equals : Op → Op → List ℕ → Lexed
with_equals long short [] = sign short []
with_equals long short (b ∷ r) = if b == 61 then sign long r else sign short (b ∷ r)

-- after `<` or `>`: the same byte again is a shift
abbrev pub angle : ℕ → Math → Math → Math → List ℕ → Lexed
angle byte shift longer alone [] = sign (op.Math alone) []
angle byte shift longer alone (b ∷ r) = if b == byte then or_assign shift r else with_equals (op.Math longer) (op.Math alone) (b ∷ r)

-- after `&`
abbrev pub ampersand : List ℕ → Lexed
ampersand [] = or_assign math.And []
ampersand (b ∷ r) = if b == 38 then sign (op.Logic logic.Both) r else or_assign math.And (b ∷ r)

-- after `|`
abbrev pub bar : List ℕ → Lexed
bar [] = or_assign math.Or []
bar (b ∷ r) = if b == 124 then sign (op.Logic logic.Either) r else or_assign math.Or (b ∷ r)

-- the operators that stand alone
abbrev pub single : ℕ → List ℕ → Lexed
single b r = if b == 126 then sign op.Complement r else (if b == 63 then sign op.Question r else (if b == 58 then sign op.Colon r else (if b == 40 then sign op.Open r else (if b == 41 then sign op.Close r else bad))))

-- those that `=` may follow
abbrev pub joined : ℕ → List ℕ → Lexed
joined b r = if b == 43 then or_assign math.Plus r else (if b == 45 then or_assign math.Minus r else (if b == 42 then or_assign math.Times r else (if b == 47 then or_assign math.Over r else (if b == 37 then or_assign math.Modulo r else (if b == 94 then or_assign math.Xor r else single b r)))))

abbrev pub operator : ℕ → List ℕ → Lexed
operator b r = if b == 60 then angle 60 math.Left math.AtMost math.Less r else (if b == 62 then angle 62 math.Right math.AtLeast math.Greater r else (if b == 61 then with_equals (op.Math math.Equal) (op.Assign None) r else (if b == 33 then with_equals (op.Math math.Unequal) op.Not r else (if b == 38 then ampersand r else (if b == 124 then bar r else joined b r)))))

-- ---- constants and names

abbrev pub number : Option ℤ → List ℕ → Lexed
number None r = bad
number (Some n) r = got (Number n) r

-- the longest run of letters, digits and `_`, at this place
abbrev pub run_at : ℕ → ℕ → List ℕ → Lexed
run_at place b r = let n = prefix_len word_byte (b ∷ r) in let run = take n (b ∷ r) in let rest = drop n (b ∷ r) in
    if decimal b then number (positive (within greatest (constant run))) rest else got (Name place run) rest

abbrev pub token_at : ℕ → List ℕ → Lexed
token_at place [] = done
token_at place (b ∷ r) = if word_byte b then run_at place b r else operator b r

-- ---- the next token

-- what may stand before a token: a space, a tab or a newline
abbrev pub gap : ℕ → Bool
gap b = blank b || b == 10

-- where the next token begins
abbrev pub skip : List ℕ → List ℕ
skip text = drop (prefix_len gap text) text

-- the place of the next token, in a text of n bytes
abbrev pub place : ℕ → List ℕ → ℕ
place n text = n - length (skip text)

abbrev pub lex : ℕ → List ℕ → Lexed
lex n text = token_at (place n text) (skip text)

-- The text is these tokens.
abbrev pub Lexes : ℕ → List ℕ → List Token → Type 0
Lexes n text [] = lex n text ≡ done
Lexes n text (t ∷ ts) = (rest : List ℕ) × (lex n text ≡ got t rest) × Lexes n rest ts

-- The text begins with these tokens, and the rest is left.
abbrev pub Front : ℕ → List ℕ → List Token → List ℕ → Type 0
Front n text [] left = text ≡ left
Front n text (t ∷ ts) left = (rest : List ℕ) × (lex n text ≡ got t rest) × Front n rest ts left

-- what a call says of the next token, unless memory runs out
abbrev pub Gives : Result (Token × Bor (List ℕ)) LexError → Lexed → Type 0
Gives (Ok p) l = l ≡ got p.0 p.1.now
Gives (Err error.Memory) l = Unit {0}
Gives (Err error.End) l = l ≡ done
Gives (Err error.Bad) l = l ≡ bad

-- what a call says of an operator
abbrev pub IsOp : Option (Op × Bor (List ℕ)) → Lexed → Type 0
IsOp (Some p) l = l ≡ sign p.0 p.1.now
IsOp None l = l ≡ bad
