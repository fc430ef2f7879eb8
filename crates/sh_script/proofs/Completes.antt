-- From each state that is reached some tokens lead to a script.
use Rattle.std.proofs.Common.{◌≡◌, ℕ, zero, suc, ◌<◌, Bool, true, false, cond, List, [], ◌∷◌, ◌++◌, Option, Some, None, refl, sym, ap, subst, ◌∙◌, arith}
use Rattle.std.specs.Prelude.{option_and_then}
use Rattle.sh_syntax.specs.declared.tree.Part.{Part}
use Rattle.sh_syntax.specs.declared.tree.Part.TheVariants as part
use Rattle.sh_syntax.specs.declared.tree.Word.{Word}
use Rattle.sh_syntax.specs.declared.tree.Redir.{Redir}
use Rattle.sh_syntax.specs.declared.tree.RedirOp.{RedirOp}
use Rattle.sh_syntax.specs.declared.tree.ParamOp.{ParamOp}
use Rattle.sh_syntax.specs.declared.tree.Command.{Command}
use Rattle.sh_syntax.specs.declared.tree.Command.TheVariants as command
use Rattle.sh_syntax.specs.declared.tree.Compound.{Compound}
use Rattle.sh_syntax.specs.declared.tree.AndOr.{AndOr}
use Rattle.sh_syntax.specs.declared.tree.Join.{Join}
use Rattle.sh_syntax.specs.declared.tree.Script.{Script}
use Rattle.sh_lexer.specs.declared.token.Token.{Token}
use Rattle.sh_lexer.specs.declared.token.Token.TheVariants as token
use Rattle.sh_lexer.specs.declared.token.Op.{Op}
use Rattle.sh_lexer.specs.declared.token.Op.TheVariants as op
use Rattle.sh_lexer.specs.declared.token.Bit.{Bit}
use Rattle.sh_lexer.specs.declared.token.Bit.TheVariants as bit
use Rattle.sh_lexer.specs.declared.token.End.{End}
use Rattle.sh_lexer.specs.declared.token.End.TheVariants as end
use Rattle.sh_lexer.specs.declared.token.Mode.{Mode}
use Rattle.sh_lexer.specs.declared.token.Mode.TheVariants as mode
use Rattle.sh_grammar.specs.declared.state.Due.{Due}
use Rattle.sh_grammar.specs.declared.state.Draft.{Draft}
use Rattle.sh_grammar.specs.declared.state.Simple.{Simple}
use Rattle.sh_grammar.specs.declared.state.Pipe.{Pipe}
use Rattle.sh_grammar.specs.declared.state.Case.{Case}
use Rattle.sh_grammar.specs.declared.state.Host.{Host}
use Rattle.sh_grammar.specs.declared.state.Host.TheVariants as host
use Rattle.sh_grammar.specs.declared.state.Gap.{Gap}
use Rattle.sh_grammar.specs.declared.state.Gap.TheVariants as gap
use Rattle.sh_grammar.specs.declared.state.Now.{Now}
use Rattle.sh_grammar.specs.declared.state.Now.TheVariants as now
use Rattle.sh_grammar.specs.declared.state.Below.{Below}
use Rattle.sh_grammar.specs.declared.state.Below.TheVariants as below
use Rattle.sh_grammar.specs.Draft.{begin_list, end_list, begin_leaf, end_leaf, begin_body, end_body, end_here, next_list, next_body, none_due, cut_mode, filled}
use Rattle.sh_grammar.specs.Grammar as g
use Rattle.sh_grammar.specs.Grammar.{simple, no_simple}
use Rattle.sh_grammar.specs.Tests.{same_mode, is_end, ends_list}
use Rattle.sh_grammar.specs.Machine as machine
use Rattle.sh_grammar.specs.Machine.{State, at, if_any, when, if_none, gap_mode, next_due, host_mode, step, run}
use Rattle.sh_grammar.proofs.Tests.{same_mode-refl}
use Rattle.sh_script.proofs.Fits.{Kind, in_list, in_command, in_parts, IsList, Fits, Stand, gap_kind, gap_room, gap_opens}

-- ---- tokens that lead to a script

-- Some tokens lead from the state to a script.
pub record Ends (st : State) : Type 0 where
  pub more : List Token
  pub script : Script
  pub is : run st more ≡ Some script

via : (t : Token) (st next : State) → step st t ≡ Some next → Ends next → Ends st
via t st next e x = record {
  more = t ∷ x.more;
  script = x.script;
  is = ap (λ (o : Option State). option_and_then (λ y. run y x.more) o) e ∙ x.is;
}

-- what may end a command and a list with it
data Closer : Token → Type 0 where
  by_op : {o : Op} → ends_list o ≡ true → Closer (token.Operator o)
  by_end : {e : End} {m : Mode} → Closer (token.End e m)

-- A token is taken, and leads on to a script.
record Closes (f : Token → Option State) : Type 0 where
  pub token : Token
  pub closer : Closer token
  pub state : State
  pub is : f token ≡ Some state
  pub ends : Ends state

closes : (f : Token → Option State) (t : Token) (st : State) → Closer t → f t ≡ Some st → Ends st → Closes f
closes f t st c e x = record { token = t; closer = c; state = st; is = e; ends = x }

-- ---- tests that hold

when-true : (b : Bool) (o : Option State) → b ≡ true → when b o ≡ o
when-true true o e = refl
when-true false o e = absurd cc

when-mode : (m : Mode) (o : Option State) → when (same_mode m m) o ≡ o
when-mode m o = when-true (same_mode m m) o (same_mode-refl m)

-- an end in the mode that is asked for
when-end : (e : End) (m : Mode) (o : Option State) → when (is_end e m (token.End e m)) o ≡ o
when-end end.Word m o = when-mode m o
when-end end.Quote m o = when-mode m o
when-end end.Brace m o = when-mode m o
when-end end.Arith m o = when-mode m o
when-end end.List m o = when-mode m o
when-end end.Text m o = when-mode m o
when-end end.Newline m o = when-mode m o

any-more : {A : Type 0} (xs : List A) (x : A) (o : Option State) → if_any (xs ++ x ∷ []) o ≡ o
any-more [] x o = refl
any-more (y ∷ xs) x o = refl

none-left : (hs : List Due) (x : Script) → hs ≡ [] → if_none hs x ≡ Some x
none-left [] x e = refl
none-left (h ∷ hs) x e = absurd cc

-- ---- bodies of here-documents

bodies-end : (hs : List Due) (g : Gap) (b : List Below) (d : ℕ) (s : Draft) → ((t : Draft) → t.due ≡ s.due → Ends (at (now.Gap g) b d t)) → Ends (at (next_due hs g) b d s)
bodies-end [] g b d s f = f s refl
bodies-end (h ∷ hs) g b d s f =
    via (token.Verbatim [] (cut_mode (gap_mode g) hs)) (at (now.Due h hs g) b d s) (at (next_due hs g) b d (end_here h.number (part.Single []) s))
    (when-mode (cut_mode (gap_mode g) hs) _) (bodies-end hs g b d (end_here h.number (part.Single []) s) f)

-- ---- commands, lists and parts that end

abbrev CommandCloses : List Below → Type 0
CommandCloses b = (c : Command) (d : ℕ) (s : Draft) → Fits in_command d b → Closes (machine.command_ended c b d s)

abbrev ListCloses : List Below → Type 0
ListCloses b = (is : List AndOr) (a : AndOr) (d : ℕ) (s : Draft) → Fits in_list d b → Closes (machine.after is a b d s)

abbrev PartsEnd : List Below → Type 0
PartsEnd b = (ps : List Part) (d : ℕ) (s : Draft) → Fits in_parts d b → Ends (at (now.Parts ps) b d s)

elements-closer : (c : Simple) (b : List Below) (d : ℕ) (s : Draft) (t : Token) → Closer t → machine.elements c b d s t ≡ machine.command_ended (simple c) b d s t
elements-closer c b d s t (by_op e) = refl
elements-closer c b d s t by_end = refl

redirs-closer : (x : Compound) (rs : List Redir) (b : List Below) (d : ℕ) (s : Draft) (t : Token) → Closer t →
    machine.redirs x rs b d s t ≡ machine.command_ended (command.Compound x rs) b d s t
redirs-closer x rs b d s t (by_op e) = refl
redirs-closer x rs b d s t by_end = refl

elements-end : (c : Simple) (b : List Below) (d : ℕ) (s : Draft) → Closes (machine.command_ended (simple c) b d s) → Ends (at (now.Elements c) b d s)
elements-end c b d s k = via k.token (at (now.Elements c) b d s) k.state (elements-closer c b d s k.token k.closer ∙ k.is) k.ends

redirs-end : (x : Compound) (rs : List Redir) (b : List Below) (d : ℕ) (s : Draft) → Closes (machine.command_ended (command.Compound x rs) b d s) →
    Ends (at (now.Redirs x rs) b d s)
redirs-end x rs b d s k = via k.token (at (now.Redirs x rs) b d s) k.state (redirs-closer x rs b d s k.token k.closer ∙ k.is) k.ends

-- ---- one word is a command

abbrev some_part : Token
some_part = token.Part (bit.Escaped 97)

abbrev word_end : Token
word_end = token.End end.Word mode.Arguments

abbrev some_simple : Simple
some_simple = record { assigns = []; words = record { parts = part.Escaped 97 ∷ [] } ∷ []; redirs = [] }

-- a state in which one word begins a command
as-command : (st : State) (b : List Below) (d : ℕ) (s : Draft) → step st some_part ≡ step (at now.Bang b d s) some_part →
    Closes (machine.command_ended (simple some_simple) b d s) → Ends st
as-command st b d s e k =
    via some_part st (at (now.Parts (part.Escaped 97 ∷ [])) (below.Argument no_simple ∷ b) d s) e
    (via word_end (at (now.Parts (part.Escaped 97 ∷ [])) (below.Argument no_simple ∷ b) d s) (at (now.Elements some_simple) b d s) refl (elements-end some_simple b d s k))

-- ---- pipelines

piped-op : (p : Pipe) (b : List Below) (d : ℕ) (s : Draft) (o : Op) → ends_list o ≡ true →
    machine.piped_op p b d s o ≡ machine.after p.items (machine.this_and_or p.before p.leaf) b d (end_leaf p.leaf p.bang p.stages s) (token.Operator o)
piped-op p b d s op.Pipe e = absurd cc
piped-op p b d s o e = refl

piped-closer : (p : Pipe) (b : List Below) (d : ℕ) (s : Draft) (t : Token) → Closer t →
    machine.piped p b d s t ≡ machine.after p.items (machine.this_and_or p.before p.leaf) b d (end_leaf p.leaf p.bang p.stages s) t
piped-closer p b d s t (by_op {o} e) = piped-op p b d s o e
piped-closer p b d s t by_end = refl

pipe-closes : (p : Pipe) (b : List Below) → ListCloses b → (c : Command) (d : ℕ) (s : Draft) → Fits in_list d b → Closes (machine.command_ended c (below.Pipe p ∷ b) d s)
pipe-closes p b l c d s h =
    let q = machine.with_stage c p in
    let k = l q.items (machine.this_and_or q.before q.leaf) d (end_leaf q.leaf q.bang q.stages s) h in
    closes (machine.command_ended c (below.Pipe p ∷ b) d s) k.token k.state k.closer (piped-closer q b d s k.token k.closer ∙ k.is) k.ends

-- a pipeline begins
begin-ends : (is : List AndOr) (b : List Below) (d : ℕ) (s : Draft) → ListCloses b → Fits in_list d b → Ends (at (now.Gap (gap.Begin is)) b d s)
begin-ends is b d s l h =
    as-command (at (now.Gap (gap.Begin is)) b d s) (below.Pipe (machine.pipe is None false s) ∷ b) d (begin_leaf false s) refl
    (pipe-closes (machine.pipe is None false s) b l (simple some_simple) d (begin_leaf false s) h)

join-ends : (is : List AndOr) (a : AndOr) (j : Join) (b : List Below) (d : ℕ) (s : Draft) → ListCloses b → Fits in_list d b → Ends (at (now.Gap (gap.Join is a j)) b d s)
join-ends is a j b d s l h =
    as-command (at (now.Gap (gap.Join is a j)) b d s) (below.Pipe (machine.pipe is (Some (a, j)) false s) ∷ b) d (begin_leaf false s) refl
    (pipe-closes (machine.pipe is (Some (a, j)) false s) b l (simple some_simple) d (begin_leaf false s) h)

-- ---- lists, by what is below them

-- the list of the whole script, after which the bodies come that are due
top-closes : ListCloses []
top-closes is a d s h =
    closes (machine.after is a [] d s) (token.End end.Newline (cut_mode mode.Command s.due)) (at (next_due s.due (gap.Begin (is ++ a ∷ []))) [] d (none_due s)) by_end
    (when-mode (cut_mode mode.Command s.due) _)
    (bodies-end s.due (gap.Begin (is ++ a ∷ [])) [] d (none_due s) (λ t e. record { more = []; script = filled (end_list 0 (is ++ a ∷ []) t); is = none-left t.due _ e }))

-- a list that ends with a compound command
compound-closes : (is : List AndOr) (a : AndOr) (f : Below) (b : List Below) (d : ℕ) (s : Draft) (o : Op) (x : Compound) (t : Draft) → CommandCloses b → ends_list o ≡ true →
    machine.after is a (f ∷ b) d s (token.Operator o) ≡ Some (at (now.Redirs x []) b (suc d) t) → Fits in_command (suc d) b → Closes (machine.after is a (f ∷ b) d s)
compound-closes is a f b d s o x t k e r h =
    closes (machine.after is a (f ∷ b) d s) (token.Operator o) (at (now.Redirs x []) b (suc d) t) (by_op e) r (redirs-end x [] b (suc d) t (k (command.Compound x []) (suc d) t h))

-- after which another list begins
list-goes_on : (is : List AndOr) (a : AndOr) (f g : Below) (b : List Below) (d : ℕ) (s : Draft) (o : Op) (t : Draft) → ListCloses (g ∷ b) → ends_list o ≡ true →
    machine.after is a (f ∷ b) d s (token.Operator o) ≡ Some (at (now.Gap (gap.Begin [])) (g ∷ b) d t) → Fits in_list d (g ∷ b) → Closes (machine.after is a (f ∷ b) d s)
list-goes_on is a f g b d s o t l e r h =
    closes (machine.after is a (f ∷ b) d s) (token.Operator o) (at (now.Gap (gap.Begin [])) (g ∷ b) d t) (by_op e) r (begin-ends [] (g ∷ b) d t l h)

then-closes : (bs : List (ℕ × ℕ)) (n k : ℕ) (b : List Below) → CommandCloses b → ListCloses (below.Then bs n k ∷ b)
then-closes bs n k b x is a d s h = compound-closes is a (below.Then bs n k) b d s op.Fi _ _ x refl (any-more is a _) h.2

while-closes : (u : Bool) (n k : ℕ) (b : List Below) → CommandCloses b → ListCloses (below.WhileDo u n k ∷ b)
while-closes u n k b x is a d s h = compound-closes is a (below.WhileDo u n k) b d s op.Done _ _ x refl (any-more is a _) h.2

for-closes : (y : List ℕ) (ws : Option (List Word)) (n : ℕ) (b : List Below) → CommandCloses b → ListCloses (below.ForDo y ws n ∷ b)
for-closes y ws n b x is a d s h = compound-closes is a (below.ForDo y ws n) b d s op.Done _ _ x refl (any-more is a _) h.2

group-closes : (n : ℕ) (b : List Below) → CommandCloses b → ListCloses (below.Group n ∷ b)
group-closes n b x is a d s h = compound-closes is a (below.Group n) b d s op.RightBrace _ _ x refl (any-more is a _) h.2

list-closes : (f : Below) (b : List Below) → CommandCloses b → PartsEnd b → ListCloses (f ∷ b)
list-closes (below.Group n) b x p is a d s h = group-closes n b x is a d s h
list-closes (below.Subshell n) b x p is a d s h = compound-closes is a (below.Subshell n) b d s op.Close _ _ x refl (any-more is a _) h.2
list-closes (below.Test bs n) b x p is a d s h =
    list-goes_on is a (below.Test bs n) (below.Then bs n _) b d s op.Then _ (then-closes bs n _ b x) refl (any-more is a _) (refl, tt, h.2)
list-closes (below.Then bs n k) b x p is a d s h = then-closes bs n k b x is a d s h
list-closes (below.Else bs n) b x p is a d s h = compound-closes is a (below.Else bs n) b d s op.Fi _ _ x refl (any-more is a _) h.2
list-closes (below.While u n) b x p is a d s h =
    list-goes_on is a (below.While u n) (below.WhileDo u n _) b d s op.Do _ (while-closes u n _ b x) refl (any-more is a _) (refl, tt, h.2)
list-closes (below.WhileDo u n k) b x p is a d s h = while-closes u n k b x is a d s h
list-closes (below.ForDo y ws n) b x p is a d s h = for-closes y ws n b x is a d s h
list-closes (below.Arm c ws n) b x p is a d s h = compound-closes is a (below.Arm c ws n) b d s op.Esac _ _ x refl refl h.2
list-closes (below.Command ps m n) b x p is a d s h =
    closes (machine.after is a (below.Command ps m n ∷ b) d s) (token.End end.List m) (at (now.Parts (ps ++ part.Command n ∷ [])) b (suc d) _) by_end
    (when-end end.List m _) (p (ps ++ part.Command n ∷ []) (suc d) _ h.2)
list-closes (below.Backquote ps m n) b x p is a d s h =
    closes (machine.after is a (below.Backquote ps m n ∷ b) d s) (token.End end.Text m) (at (now.Parts (ps ++ part.Command n ∷ [])) b (suc d) _) by_end
    (when-end end.Text m _) (p (ps ++ part.Command n ∷ []) (suc d) _ h.2)
list-closes f b x p is a d s h = let e = h.0 in absurd cc

-- ---- commands, by what is below them

function-closes : (y : List ℕ) (n : ℕ) (b : List Below) → CommandCloses b → CommandCloses (below.Function y n ∷ b)
function-closes y n b x c d s h =
    let k = x (command.Function y n) d (end_body n c s) h.2 in
    closes (machine.command_ended c (below.Function y n ∷ b) d s) k.token k.state k.closer k.is k.ends

command-closes : (f : Below) (b : List Below) → CommandCloses b → ListCloses b → CommandCloses (f ∷ b)
command-closes (below.Pipe p) b x l c d s h = pipe-closes p b l c d s h.2
command-closes (below.Function y n) b x l c d s h = function-closes y n b x c d s h
command-closes f b x l c d s h = let e = h.0 in absurd cc

-- ---- places where newlines may stand

-- `case`, before an arm
arms-end : (c : Case) (b : List Below) (d : ℕ) (s : Draft) → CommandCloses b → Fits in_command (suc d) b → Ends (at (now.Gap (gap.Arms c)) b d s)
arms-end c b d s x h =
    via (token.Operator op.Esac) (at (now.Gap (gap.Arms c)) b d s) (at (now.Redirs (machine.case c) []) b (suc d) s) refl
    (redirs-end (machine.case c) [] b (suc d) s (x (command.Compound (machine.case c) []) (suc d) s h))

-- before the `do` of a `for`
for-end : (st : State) (y : List ℕ) (ws : Option (List Word)) (b : List Below) (d : ℕ) (s : Draft) → CommandCloses b → Fits in_command (suc d) b →
    step st (token.Operator op.Do) ≡ Some (at (now.Gap (gap.Begin [])) (below.ForDo y ws (next_list s) ∷ b) d (begin_list s)) → Ends st
for-end st y ws b d s x h e =
    via (token.Operator op.Do) st (at (now.Gap (gap.Begin [])) (below.ForDo y ws (next_list s) ∷ b) d (begin_list s)) e
    (begin-ends [] (below.ForDo y ws (next_list s) ∷ b) d (begin_list s) (for-closes y ws (next_list s) b x) (refl, tt, h))

function-ends : (y : List ℕ) (b : List Below) (d : ℕ) (s : Draft) → CommandCloses b → Fits in_command d b → 0 < d → Ends (at (now.Gap (gap.Function y)) b d s)
function-ends y b zero s x h o = absurd (omega arith)
function-ends y b (suc d) s x h o =
    let t = begin_body s in let under = below.Function y (next_body s) ∷ b in
    via (token.Operator op.LeftBrace) (at (now.Gap (gap.Function y)) b (suc d) s) (at (now.Gap (gap.Begin [])) (below.Group (next_list t) ∷ under) d (begin_list t)) refl
    (begin-ends [] (below.Group (next_list t) ∷ under) d (begin_list t)
    (group-closes (next_list t) under (function-closes y (next_body s) b x)) (refl, tt, (refl, tt, h)))

gap-ends : (g : Gap) (b : List Below) (d : ℕ) (s : Draft) → CommandCloses b → ListCloses b → Fits (gap_kind g) (gap_room g d) b → gap_opens g d → Ends (at (now.Gap g) b d s)
gap-ends (gap.Begin is) b d s x l h o = begin-ends is b d s l h
gap-ends (gap.Join is a j) b d s x l h o = join-ends is a j b d s l h
gap-ends gap.Stage b d s x l h o = as-command (at (now.Gap gap.Stage) b d s) b d s refl (x (simple some_simple) d s h)
gap-ends (gap.Function y) b d s x l h o = function-ends y b d s x h o
gap-ends (gap.In w) b d s x l h o =
    via (token.Operator op.CaseIn) (at (now.Gap (gap.In w)) b d s) (at (now.Gap (gap.Arms (record { word = w; arms = [] }))) b d s) refl
    (arms-end (record { word = w; arms = [] }) b d s x h)
gap-ends (gap.Arms c) b d s x l h o = arms-end c b d s x h
gap-ends (gap.For y) b d s x l h o = for-end (at (now.Gap (gap.For y)) b d s) y None b d s x h refl
gap-ends (gap.Do y ws) b d s x l h o = for-end (at (now.Gap (gap.Do y ws)) b d s) y ws b d s x h refl

due-ends : (hs : List Due) (g : Gap) (b : List Below) (d : ℕ) (s : Draft) → CommandCloses b → ListCloses b → Fits (gap_kind g) (gap_room g d) b → gap_opens g d →
    Ends (at (next_due hs g) b d s)
due-ends hs g b d s x l h o = bodies-end hs g b d s (λ t e. gap-ends g b d t x l h o)

-- ---- parts, by what is below them

-- the words of a `for`
words-end : (y : List ℕ) (ws : List Word) (b : List Below) (d : ℕ) (s : Draft) → CommandCloses b → Fits in_command (suc d) b → Ends (at (now.ForWords y ws) b d s)
words-end y ws b d s x h =
    via (token.Operator op.Semi) (at (now.ForWords y ws) b d s) (at (now.Gap (gap.Do y (Some ws))) b d s) refl
    (for-end (at (now.Gap (gap.Do y (Some ws))) b d s) y (Some ws) b d s x h refl)

arm-closes : (c : Case) (ws : List Word) (b : List Below) (d : ℕ) (s : Draft) → CommandCloses b → Fits in_command (suc d) b → Ends (at (now.Patterns c ws) b d s)
arm-closes c ws b d s x h =
    via (token.Operator op.Close) (at (now.Patterns c ws) b d s) (at (now.Gap (gap.Begin [])) (below.Arm c ws (next_list s) ∷ b) d (begin_list s)) refl
    (via (token.Operator op.Esac) (at (now.Gap (gap.Begin [])) (below.Arm c ws (next_list s) ∷ b) d (begin_list s))
    (at (now.Redirs (machine.case (machine.with_arm ws (next_list s) c)) []) b (suc d) (end_list (next_list s) [] (begin_list s))) refl
    (redirs-end (machine.case (machine.with_arm ws (next_list s) c)) [] b (suc d) (end_list (next_list s) [] (begin_list s))
    (x (command.Compound (machine.case (machine.with_arm ws (next_list s) c)) []) (suc d) (end_list (next_list s) [] (begin_list s)) h)))

redirected-ends : (r : Redir) (h : Host) (b : List Below) (d : ℕ) (s : Draft) → CommandCloses b → Fits in_command d b → Ends (at (machine.redirected r h) b d s)
redirected-ends r (host.Simple c) b d s x h = elements-end _ b d s (x (simple (g.with_redir r c)) d s h)
redirected-ends r (host.Compound y rs) b d s x h = redirs-end y (rs ++ r ∷ []) b d s (x (command.Compound y (rs ++ r ∷ [])) d s h)

-- one more part, so that there is one
one-more : (ps : List Part) (b : List Below) (d : ℕ) (s : Draft) → Ends (at (now.Parts (ps ++ part.Escaped 97 ∷ [])) b d s) → Ends (at (now.Parts ps) b d s)
one-more ps b d s e = via some_part (at (now.Parts ps) b d s) (at (now.Parts (ps ++ part.Escaped 97 ∷ [])) b d s) refl e

parts-end : (f : Below) (b : List Below) → CommandCloses b → ListCloses b → PartsEnd b → PartsEnd (f ∷ b)
parts-end (below.Argument c) b x l p ps d s h =
    one-more ps (below.Argument c ∷ b) d s (via word_end _ (at (now.Elements (g.with_word (ps ++ part.Escaped 97 ∷ []) c)) b d s) (any-more ps _ _)
    (elements-end _ b d s (x _ d s h.2)))
parts-end (below.Assign y c) b x l p ps d s h =
    via (token.End end.Word mode.Prefix) _ (at (now.Elements (g.with_assign y ps c)) b d s) refl (elements-end _ b d s (x _ d s h.2))
parts-end (below.Redirect fd o k) b x l p ps d s h =
    one-more ps (below.Redirect fd o k ∷ b) d s (via (token.End end.Word (host_mode k)) _ _ (when-end end.Word (host_mode k) _ ∙ any-more ps _ _)
    (redirected-ends _ k b d s x h.2))
parts-end (below.ForWord y ws) b x l p ps d s h =
    one-more ps (below.ForWord y ws ∷ b) d s (via word_end _ (at (now.ForWords y (ws ++ record { parts = ps ++ part.Escaped 97 ∷ [] } ∷ [])) b d s) (any-more ps _ _)
    (words-end y _ b d s x h.2))
parts-end below.CaseWord b x l p ps d s h =
    one-more ps (below.CaseWord ∷ b) d s (via (token.End end.Word mode.Command) _ (at (now.Gap (gap.In (record { parts = ps ++ part.Escaped 97 ∷ [] }))) b d s) (any-more ps _ _)
    (gap-ends (gap.In (record { parts = ps ++ part.Escaped 97 ∷ [] })) b d s x l h.2 tt))
parts-end (below.Pattern c ws) b x l p ps d s h =
    one-more ps (below.Pattern c ws ∷ b) d s (via word_end _ (at (now.Patterns c (ws ++ record { parts = ps ++ part.Escaped 97 ∷ [] } ∷ [])) b d s) (any-more ps _ _)
    (arm-closes c _ b d s x h.2))
parts-end (below.Double qs m) b x l p ps d s h =
    via (token.End end.Quote m) _ (at (now.Parts (qs ++ part.Double ps ∷ [])) b d s) (when-end end.Quote m _) (p _ d s h.2)
parts-end (below.Braces qs y o c m) b x l p ps d s h =
    via (token.End end.Brace m) _ (at (now.Parts (qs ++ part.Param y o c (Some (record { parts = ps })) ∷ [])) b (suc d) s) (when-end end.Brace m _) (p _ (suc d) s h.2)
parts-end (below.Arith qs m) b x l p ps d s h =
    via (token.End end.Arith m) _ (at (now.Parts (qs ++ part.Arith (record { parts = ps }) ∷ [])) b (suc d) s) (when-end end.Arith m _) (p _ (suc d) s h.2)
parts-end (below.Body n hs k) b x l p ps d s h =
    via (token.End end.Text (cut_mode (gap_mode k) hs)) _ (at (next_due hs k) b d (end_here n (part.Double ps) s)) (when-end end.Text (cut_mode (gap_mode k) hs) _)
    (due-ends hs k b d _ x l h.2 h.1)
parts-end f b x l p ps d s h = let e = h.0 in absurd cc

-- ---- all that may be below

record Done (b : List Below) : Type 0 where
  pub command : CommandCloses b
  pub list : ListCloses b
  pub parts : PartsEnd b

done : (b : List Below) → Done b
done [] = record { command = λ c d s h. absurd h; list = top-closes; parts = λ ps d s h. absurd h }
done (f ∷ b) = let r = done b in record {
  command = command-closes f b r.command r.list;
  list = list-closes f b r.command r.parts;
  parts = parts-end f b r.command r.list r.parts;
}

-- ---- all states

named-ends : (y : List ℕ) (b : List Below) (d : ℕ) (s : Draft) → CommandCloses b → Fits in_command d b → 0 < d → Ends (at (now.Named y) b d s)
named-ends y b d s x h o = via (token.Operator op.Close) (at (now.Named y) b d s) (at (now.Gap (gap.Function y)) b d s) refl (function-ends y b d s x h o)

for-named : (y : List ℕ) (b : List Below) (d : ℕ) (s : Draft) → CommandCloses b → Fits in_command (suc d) b → Ends (at (now.ForName y) b d s)
for-named y b d s x h =
    via (token.End end.Word mode.Command) (at (now.ForName y) b d s) (at (now.ForNamed y) b d s) refl (for-end (at (now.ForNamed y) b d s) y None b d s x h refl)

now-ends : (n : Now) (b : List Below) (d : ℕ) (s : Draft) → Stand n d b → Done b → Ends (at n b d s)
now-ends (now.Gap k) b d s h r = gap-ends k b d s r.command r.list h.fits h.opens
now-ends (now.Due x hs k) b d s h r = due-ends (x ∷ hs) k b d s r.command r.list h.fits h.opens
now-ends (now.Parts ps) b d s h r = r.parts ps d s h.fits
now-ends (now.Elements c) b d s h r = elements-end c b d s (r.command (simple c) d s h.fits)
now-ends (now.Redirs x rs) b d s h r = redirs-end x rs b d s (r.command (command.Compound x rs) d s h.fits)
now-ends now.Bang b d s h r = as-command (at now.Bang b d s) b d s refl (r.command (simple some_simple) d s h.fits)
now-ends (now.Delimiter fd strip k) b d s h r =
    via (token.Delimiter [] false (host_mode k)) (at (now.Delimiter fd strip k) b d s) _ (when-mode (host_mode k) _) (redirected-ends _ k b d _ r.command h.fits)
now-ends (now.Name x) b d s h r = via (token.Operator op.Open) (at (now.Name x) b d s) (at (now.Named x) b d s) refl (named-ends x b d s r.command h.fits h.opens)
now-ends (now.Named x) b d s h r = named-ends x b d s r.command h.fits h.opens
now-ends now.For b d s h r =
    via (token.Part (bit.Piece (97 ∷ []))) (at now.For b d s) (at (now.ForName (97 ∷ [])) b d s) refl (for-named (97 ∷ []) b d s r.command h.fits)
now-ends (now.ForName x) b d s h r = for-named x b d s r.command h.fits
now-ends (now.ForNamed x) b d s h r = for-end (at (now.ForNamed x) b d s) x None b d s r.command h.fits refl
now-ends (now.ForWords x ws) b d s h r = words-end x ws b d s r.command h.fits
now-ends (now.Patterns c ws) b d s h r = arm-closes c ws b d s r.command h.fits

pub state-ends : (st : State) → Stand st.now st.room st.below → Ends st
state-ends st h = now-ends st.now st.below st.room st.script h (done st.below)
