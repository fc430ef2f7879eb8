-- A text that is read token by token spells the script that comes of it.
use Rattle.std.proofs.Common.{◌≡◌, ℕ, zero, suc, List, [], ◌∷◌, Option, Some, None, refl, ap, ◌∙◌}
use Rattle.std.specs.Prelude.{option_and_then}
use Rattle.sh_syntax.specs.declared.tree.Script.{Script}
use Rattle.sh_lexer.specs.declared.token.Token.{Token}
use Rattle.sh_lexer.specs.declared.token.Token.TheVariants as token
use Rattle.sh_lexer.specs.declared.token.Op.{Op}
use Rattle.sh_lexer.specs.declared.token.Op.TheVariants as op
use Rattle.sh_lexer.specs.declared.token.Mode.{Mode}
use Rattle.sh_lexer.specs.declared.token.Mode.TheVariants as mode
use Rattle.sh_lexer.specs.Lexes.{Lexes, Source, source, Next, found, ended, wrong, next}
use Rattle.sh_lexer.specs.Modes.{Reads, as_seen, ends, ends_list, delimits, is_body, opens_pattern, parts_patterns, in_of_case, mode_after}
use Rattle.sh_grammar.specs.declared.state.Due.{Due}
use Rattle.sh_grammar.specs.declared.state.Gap.TheVariants as gap
use Rattle.sh_grammar.specs.declared.state.Now.{Now}
use Rattle.sh_grammar.specs.declared.state.Now.TheVariants as now
use Rattle.sh_grammar.specs.declared.state.Below.{Below}
use Rattle.sh_grammar.specs.declared.state.Below.TheVariants as below
use Rattle.sh_grammar.specs.Grammar.{max_nesting}
use Rattle.sh_grammar.specs.Machine.{State, step, accept, run, start}
use Rattle.sh_grammar.specs.Told.{told, told_op, list_close, close, open_op, pipe_op, in_op}
use Rattle.sh_grammar.specs.Spells.{Spells}
use Rattle.sh_grammar.proofs.Sound.{sound}

-- reads at most so many tokens
abbrev pub took : (State → Mode → Source → Option Script) → State → Mode → Next → Option Script
took f st m ended = accept st
took f st m (wrong x) = None
took f st m (found t q) =
    let u = told st.now st.below st.script.due t in option_and_then (λ next. f next (mode_after m u) q) (step st u)

abbrev pub read : ℕ → State → Mode → Source → Option Script
read zero st m q = None
read (suc n) st m q = took (λ x y z. read n x y z) st m (next m q)

-- ---- a told token is one of those that the seen one may be

list_close-reads : (b : List Below) → Reads (token.Operator op.Close) (list_close b)
list_close-reads [] = as_seen
list_close-reads (below.Pipe p ∷ b) = list_close-reads b
list_close-reads (below.Function x n ∷ b) = list_close-reads b
list_close-reads (below.Command ps m n ∷ b) = ends_list
list_close-reads (f ∷ b) = as_seen

close-reads : (n : Now) (b : List Below) → Reads (token.Operator op.Close) (close n b)
close-reads (now.Named x) b = as_seen
close-reads (now.Patterns c ws) b = as_seen
close-reads n b = list_close-reads b

open-reads : (n : Now) → Reads (token.Operator op.Open) (token.Operator (open_op n))
open-reads (now.Gap (gap.Arms c)) = opens_pattern
open-reads n = as_seen

pipe-reads : (n : Now) → Reads (token.Operator op.Pipe) (token.Operator (pipe_op n))
pipe-reads (now.Patterns c ws) = parts_patterns
pipe-reads n = as_seen

in-reads : (n : Now) → Reads (token.Operator op.In) (token.Operator (in_op n))
in-reads (now.Gap (gap.In w)) = in_of_case
in-reads n = as_seen

op-reads : (n : Now) (b : List Below) (o : Op) → Reads (token.Operator o) (told_op n b o)
op-reads n b op.Close = close-reads n b
op-reads n b op.Open = open-reads n
op-reads n b op.Pipe = pipe-reads n
op-reads n b op.In = in-reads n
op-reads n b o = as_seen

pub told-reads : (n : Now) (b : List Below) (due : List Due) (t : Token) → Reads t (told n b due t)
told-reads n b due (token.Operator o) = op-reads n b o
told-reads n b due (token.End e m) = ends
told-reads n b due (token.Delimiter x q m) = delimits
told-reads n b due (token.Verbatim x m) = is_body
told-reads n b due t = as_seen

-- ---- what is read is spelled

abbrev Reading : State → Mode → Source → Script → Type 0
Reading st m q s = (ts : List Token) × Lexes m q ts × (run st ts ≡ Some s)

stepped : (st : State) (m : Mode) (q r : Source) (t : Token) (s : Script) (o : Option State) →
    next m q ≡ found t r → step st (told st.now st.below st.script.due t) ≡ o →
    (f : State → Mode → Source → Option Script) → ((x : State) (y : Mode) (z : Source) → f x y z ≡ Some s → Reading x y z s) →
    option_and_then (λ next. f next (mode_after m (told st.now st.below st.script.due t)) r) o ≡ Some s → Reading st m q s
stepped st m q r t s None e g f h k = absurd cc
stepped st m q r t s (Some x) e g f h k =
    let u = told st.now st.below st.script.due t in
    let rest = h x (mode_after m u) r k in
    (u ∷ rest.0, (t, r, e, told-reads st.now st.below st.script.due t, rest.1), ap (λ y. option_and_then (λ next. run next rest.0) y) g ∙ rest.2)

taken : (st : State) (m : Mode) (q : Source) (s : Script) (x : Next) → next m q ≡ x →
    (f : State → Mode → Source → Option Script) → ((x : State) (y : Mode) (z : Source) → f x y z ≡ Some s → Reading x y z s) →
    took f st m x ≡ Some s → Reading st m q s
taken st m q s ended e f h k = ([], e, k)
taken st m q s (wrong x) e f h k = absurd cc
taken st m q s (found t r) e f h k = stepped st m q r t s (step st (told st.now st.below st.script.due t)) e refl f h k

reads : (n : ℕ) (s : Script) (st : State) (m : Mode) (q : Source) → read n st m q ≡ Some s → Reading st m q s
reads zero s st m q e = absurd cc
reads (suc n) s st m q e = taken st m q s (next m q) refl (λ x y z. read n x y z) (reads n s) e

-- A text that is read spells its script.
pub spelled : (n : ℕ) (text : List ℕ) (s : Script) → read n start mode.Command (source text []) ≡ Some s → Spells s text
spelled n text s e = let r = reads n s start mode.Command (source text []) e in
    record { tokens = r.0; lexed = r.1; parsed = sound max_nesting r.0 s r.2 }
