-- What calls of the code say of sums of arithmetic expressions.
use Rattle.std.specs.Prelude.{◌≡◌, ◌<◌, ℕ, false, ◌+◌, ◌==◌, List, [], ◌∷◌, ◌++◌, length, Result, Ok, Err, if◌then◌else◌}
use Rattle.std.specs.Borrow.{Bor}
use Rattle.sh_lexer.specs.declared.read.LexError.{LexError}
use Rattle.sh_lexer.specs.declared.read.LexError.TheVariants as error
use Rattle.sh_lexer.specs.declared.arith.Step.{Step}
use Rattle.sh_lexer.specs.declared.arith.Step.TheVariants as step
use Rattle.sh_lexer.specs.Bytes.{joins}
use Rattle.sh_lexer.specs.Lex.{close_bracket, sum, sum_onto}

-- how many brackets of a sum are open after a byte
abbrev pub brackets : ℕ → ℕ → ℕ
brackets n b = if b == 40 then n + 1 else (if b == 41 then close_bracket n else n)

-- the bytes of a sum, how many brackets are open after them, and the text after that
abbrev pub IsSum : Result (List ℕ × ℕ × Bor (List ℕ)) LexError → List ℕ × ℕ × List ℕ → Type 0
IsSum (Ok p) l = l ≡ (p.0, p.1, p.2.now)
IsSum (Err error.Memory) l = Unit {0}
IsSum (Err error.End) l = ⊥
IsSum (Err (error.Bad f)) l = ⊥

-- A byte and what comes after it, which is not empty, are no joined lines.
abbrev pub IsUnjoined : ℕ → List ℕ → Type 0
IsUnjoined b [] = ⊥
IsUnjoined b (c ∷ r) = joins b c ≡ false

abbrev pub BeginsNoJoin : ℕ → List ℕ → Type 0
BeginsNoJoin b [] = Unit {0}
BeginsNoJoin b (c ∷ r) = joins b c ≡ false

-- what stands at the front of a sum, and what that leaves of it
abbrev pub IsStep : Result Step LexError → ℕ → List ℕ → Type 0
IsStep (Ok step.Stop) n t = sum n t ≡ ([], n, t)
IsStep (Ok (step.Join r)) n t = sum n t ≡ sum n r.now
IsStep (Ok (step.Take b m r)) n t = sum n t ≡ sum_onto b (sum m r.now)
IsStep (Err error.Memory) n t = Unit {0}
IsStep (Err error.End) n t = ⊥
IsStep (Err (error.Bad f)) n t = ⊥

-- A step leaves less.
abbrev pub IsShorter : Result Step LexError → List ℕ → Type 0
IsShorter (Ok step.Stop) t = Unit {0}
IsShorter (Ok (step.Join r)) t = length r.now < length t
IsShorter (Ok (step.Take b m r)) t = length r.now < length t
IsShorter (Err e) t = Unit {0}

abbrev pub with_sum : List ℕ → List ℕ × ℕ × List ℕ → List ℕ × ℕ × List ℕ
with_sum front p = (front ++ p.0, p.1, p.2)
