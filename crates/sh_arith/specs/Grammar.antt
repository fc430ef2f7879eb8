-- Expressions over tokens (POSIX.1-2017, XCU 2.6.4; ISO C, 6.5.1 to 6.5.16), as trees.
use Rattle.std.specs.Prelude.{◌≡◌, ℕ, suc, ℤ, List, [], ◌∷◌, ◌++◌, length, Option}
use Rattle.sh_arith.specs.declared.token.Math.{Math}
use Rattle.sh_arith.specs.declared.token.Math.TheVariants as math
use Rattle.sh_arith.specs.declared.token.Logic.{Logic}
use Rattle.sh_arith.specs.declared.token.Logic.TheVariants.{Both, Either}
use Rattle.sh_arith.specs.declared.token.Sign.{Sign}
use Rattle.sh_arith.specs.declared.token.Sign.TheVariants as sign
use Rattle.sh_arith.specs.declared.token.Op.TheVariants as op
use Rattle.sh_arith.specs.declared.token.Token.{Token}
use Rattle.sh_arith.specs.declared.token.Token.TheVariants.{Number, Name, Operator}
use Rattle.sh_arith.specs.Lex as lex
use Rattle.sh_arith.specs.Lex.{Lexes, Front}

-- An expression. A name has the place of its first byte.
pub data Tree : Type 0 where
  number : ℤ → Tree
  read : ℕ → List ℕ → Tree
  signed : Sign → Tree → Tree
  binary : Math → Tree → Tree → Tree
  logic : Logic → Tree → Tree → Tree
  choice : Tree → Tree → Tree → Tree
  assign : Option Math → ℕ → List ℕ → Tree → Tree

-- how tight an operator binds: its operands are of this level (the right one) and the next (the left one)
abbrev pub tier : Math → ℕ
tier math.Times = 0
tier math.Over = 0
tier math.Modulo = 0
tier math.Plus = 1
tier math.Minus = 1
tier math.Left = 2
tier math.Right = 2
tier math.Less = 3
tier math.AtMost = 3
tier math.Greater = 3
tier math.AtLeast = 3
tier math.Equal = 4
tier math.Unequal = 4
tier math.And = 5
tier math.Xor = 6
tier math.Or = 7

abbrev pub logic_tier : Logic → ℕ
logic_tier Both = 8
logic_tier Either = 9

-- the operator that the token is before one operand
pub data IsSign : Token → Sign → Type 0 where
  plus : IsSign (Operator (op.Math math.Plus)) sign.Plus
  minus : IsSign (Operator (op.Math math.Minus)) sign.Minus
  not : IsSign (Operator op.Not) sign.Not
  complement : IsSign (Operator op.Complement) sign.Complement

-- An expression of a level reads a front of the tokens: of the two lists of tokens the first is where it begins, the second
-- what it leaves. Level 0 are operands with their signs, 1 to 10 the operators between two operands from `*` to `||`,
-- 11 is `?:`, and 12 is any expression, also an assignment. The other number says how many brackets may still be opened.
pub data Level : ℕ → ℕ → List Token → List Token → Tree → Type 0 where
  constant : {d : ℕ} {n : ℤ} {ts : List Token} → Level 0 d (Number n ∷ ts) ts (number n)
  name : {d p : ℕ} {x : List ℕ} {ts : List Token} → Level 0 d (Name p x ∷ ts) ts (read p x)
  group : {d : ℕ} {ts rest : List Token} {t : Tree} →
      Level 12 d ts (Operator op.Close ∷ rest) t → Level 0 (suc d) (Operator op.Open ∷ ts) rest t
  signs : {d : ℕ} {o : Token} {s : Sign} {ts rest : List Token} {t : Tree} →
      IsSign o s → Level 0 d ts rest t → Level 0 d (o ∷ ts) rest (signed s t)
  operators : {d : ℕ} (m : Math) {ts mid rest : List Token} {a b : Tree} →
      Level (suc (tier m)) d ts (Operator (op.Math m) ∷ mid) a → Level (tier m) d mid rest b → Level (suc (tier m)) d ts rest (binary m a b)
  logics : {d : ℕ} (l : Logic) {ts mid rest : List Token} {a b : Tree} →
      Level (suc (logic_tier l)) d ts (Operator (op.Logic l) ∷ mid) a → Level (logic_tier l) d mid rest b → Level (suc (logic_tier l)) d ts rest (logic l a b)
  choices : {d : ℕ} {ts mid mid' rest : List Token} {a b c : Tree} →
      Level 10 d ts (Operator op.Question ∷ mid) c → Level 12 d mid (Operator op.Colon ∷ mid') a → Level 11 d mid' rest b →
      Level 11 d ts rest (choice c a b)
  assigns : {d p : ℕ} {x : List ℕ} {o : Option Math} {ts rest : List Token} {t : Tree} →
      Level 12 d ts rest t → Level 12 d (Name p x ∷ Operator (op.Assign o) ∷ ts) rest (assign o p x t)
  tighter : {n d : ℕ} {ts rest : List Token} {t : Tree} → Level n d ts rest t → Level (suc n) d ts rest t

-- How many brackets may be open at once.
abbrev pub most_open : ℕ
most_open = 100

-- The tokens are those of the expression.
abbrev pub Parses : Tree → List Token → Type 0
Parses t ts = Level 12 most_open ts [] t

-- The text is the expression's.
pub record Spells (t : Tree) (text : List ℕ) : Type 0 where
  pub tokens : List Token
  pub lexed : Lexes (length text) text tokens
  pub parsed : Parses t tokens

-- the one expression of the text
pub record IsTreeOf (t : Tree) (text : List ℕ) : Type 0 where
  pub spelled : Spells t text
  pub only : (other : Tree) → Spells other text → other ≡ t

-- These tokens begin an expression's.
abbrev pub Begins : List Token → Type 0
Begins ts = (more : List Token) × (t : Tree) × Parses t (ts ++ more)

-- The place of the first token that can't go on, or the length of a text that ends too early: the tokens before begin an
-- expression, and with the next one they begin none, or none can be formed, or there is none.
pub data FirstBad : List ℕ → ℕ → Type 0 where
  refused : {text : List ℕ} (left after : List ℕ) (t : Token) (ts : List Token) → Front (length text) text ts left → Begins ts →
      lex.lex (length text) left ≡ lex.got t after → (Begins (ts ++ t ∷ []) → ⊥) → FirstBad text (lex.place (length text) left)
  unformed : {text : List ℕ} (left : List ℕ) (ts : List Token) → Front (length text) text ts left → Begins ts →
      lex.lex (length text) left ≡ lex.bad → FirstBad text (lex.place (length text) left)
  unended : {text : List ℕ} (left : List ℕ) (ts : List Token) → Front (length text) text ts left → Begins ts →
      lex.lex (length text) left ≡ lex.done → ((t : Tree) → Parses t ts → ⊥) → FirstBad text (length text)
