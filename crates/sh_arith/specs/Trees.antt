-- The expression of a text as a function of the text: its tokens are read one by one, and the instructions tell the tree.
use Rattle.std.specs.Prelude.{ℕ, zero, suc, List, [], ◌∷◌, length, Option, Some, None, option_and_then, option_map}
use Rattle.sh_arith.specs.declared.token.Token.{Token}
use Rattle.sh_arith.specs.declared.instr.Part.TheVariants as part
use Rattle.sh_arith.specs.declared.instr.Instr.{Instr}
use Rattle.sh_arith.specs.declared.instr.Instr.TheVariants as instr
use Rattle.sh_arith.specs.Grammar.{Tree, number, read, signed, binary, logic, choice, assign}
use Rattle.sh_arith.specs.Lex.{Lexed, got, done, bad, lex}
use Rattle.sh_arith.specs.Machine.{State, start, step, accept}

-- ---- the tree that instructions tell

abbrev pub top : List Tree → Tree
top [] = read 0 []
top (t ∷ ts) = t

abbrev pub under : List Tree → List Tree
under [] = []
under (t ∷ ts) = ts

-- the trees that an instruction leaves on a stack of trees
abbrev pub put : List Tree → Instr → List Tree
put ts (instr.Number n) = number n ∷ ts
put ts (instr.Read p x) = read p x ∷ ts
put ts (instr.Sign s) = signed s (top ts) ∷ under ts
put ts (instr.Math m) = binary m (top (under ts)) (top ts) ∷ under (under ts)
put ts (instr.Begin p) = ts
put ts instr.Otherwise = ts
put ts (instr.End (part.Logic l)) = logic l (top (under ts)) (top ts) ∷ under (under ts)
put ts (instr.End part.Choice) = choice (top (under (under ts))) (top (under ts)) (top ts) ∷ under (under (under ts))
put ts (instr.Store None p x) = assign None p x (top ts) ∷ under ts
put ts (instr.Store (Some m) p x) = assign (Some m) p x (top ts) ∷ under (under ts)

abbrev pub trees : List Tree → List Instr → List Tree
trees ts [] = ts
trees ts (i ∷ is) = trees (put ts i) is

-- ---- the instructions of a text

-- after the next token, at the end, or none
abbrev pub by_token : {A : Type 0} → Lexed → Option A → (Token → List ℕ → Option A) → Option A
by_token (got t rest) end next = next t rest
by_token done end next = end
by_token bad end next = None

-- those of the bytes that are left of a text of n bytes. Each token takes a byte at least, so there are at most k - 1.
abbrev pub codes : ℕ → ℕ → List ℕ → State → Option (List Instr)
codes zero n left st = None
codes (suc k) n left st = by_token (lex n left) (accept st) (λ t rest. option_and_then (λ next. codes k n rest next) (step st t))

abbrev pub code_of : List ℕ → Option (List Instr)
code_of text = codes (suc (length text)) (length text) text start

-- the one expression of the text, if it has one
abbrev pub tree_of : List ℕ → Option Tree
tree_of text = option_map (λ code. top (trees [] code)) (code_of text)
