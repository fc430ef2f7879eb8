-- How many tokens there are: each takes bytes, or ends a word or a name, and two of those do not follow one another.
use Rattle.std.proofs.Common.{◌≡◌, ℕ, ◌+◌, ◌*◌, ◌<◌, ◌≤◌, Bool, true, false, List, [], ◌∷◌, ◌++◌, Option, Some, None, refl, subst, arith}
use Rattle.sh_syntax.specs.declared.tree.Part.{Part}
use Rattle.sh_syntax.specs.declared.tree.Redir.{Redir}
use Rattle.sh_syntax.specs.declared.tree.Command.{Command}
use Rattle.sh_syntax.specs.declared.tree.Command.TheVariants as command
use Rattle.sh_syntax.specs.declared.tree.AndOr.{AndOr}
use Rattle.sh_lexer.specs.declared.token.Token.{Token}
use Rattle.sh_lexer.specs.declared.token.Token.TheVariants as token
use Rattle.sh_lexer.specs.declared.token.End.TheVariants as end
use Rattle.sh_lexer.specs.declared.token.Mode.{Mode}
use Rattle.sh_lexer.specs.declared.token.Mode.TheVariants as mode
use Rattle.sh_lexer.specs.Trail.{least}
use Rattle.sh_grammar.specs.declared.state.Draft.{Draft}
use Rattle.sh_grammar.specs.declared.state.Host.{Host}
use Rattle.sh_grammar.specs.declared.state.Host.TheVariants as host
use Rattle.sh_grammar.specs.declared.state.Gap.{Gap}
use Rattle.sh_grammar.specs.declared.state.Gap.TheVariants as gap
use Rattle.sh_grammar.specs.declared.state.Now.{Now}
use Rattle.sh_grammar.specs.declared.state.Now.TheVariants as now
use Rattle.sh_grammar.specs.declared.state.Below.{Below}
use Rattle.sh_grammar.specs.declared.state.Below.TheVariants as below
use Rattle.sh_grammar.specs.Draft.{end_body}
use Rattle.sh_grammar.specs.Grammar.{simple, with_assign}
use Rattle.sh_grammar.specs.Tests.{is_end}
use Rattle.sh_grammar.specs.Machine.{State, at, if_any, when, redirected, parts_end, parts_ended, list_end, list_ended, command_ended, in_gap, step_now, step}
use Rattle.sh_grammar.specs.Told.{told}

-- whether a word or a name may end here
abbrev pub weight : Now → ℕ
weight (now.Parts ps) = 1
weight (now.ForName x) = 1
weight n = 0

abbrev Lighter : ℕ → Option State → Type 0
Lighter k None = Unit {0}
Lighter k (Some st) = weight st.now < k

when-lighter : (c : Bool) (k : ℕ) (o : Option State) → Lighter k o → Lighter k (when c o)
when-lighter true k o h = h
when-lighter false k o h = tt

any-lighter : {A : Type 0} (xs : List A) (k : ℕ) (o : Option State) → Lighter k o → Lighter k (if_any xs o)
any-lighter [] k o h = tt
any-lighter (x ∷ xs) k o h = h

when-refused : (c : Bool) → Lighter 0 (when c None)
when-refused true = tt
when-refused false = tt

any-refused : {A : Type 0} (xs : List A) → Lighter 0 (if_any xs None)
any-refused [] = tt
any-refused (x ∷ xs) = tt

list_end-word : (is : List AndOr) (f : Below) (b : List Below) (d : ℕ) (s : Draft) (m : Mode) → Lighter 0 (list_end is f b d s (token.End end.Word m))
list_end-word is (below.Then bs n k) b d s m = any-refused is
list_end-word is f b d s m = tt

list_ended-word : (is : List AndOr) (b : List Below) (d : ℕ) (s : Draft) (m : Mode) → Lighter 0 (list_ended is b d s (token.End end.Word m))
list_ended-word is [] d s m = tt
list_ended-word is (f ∷ b) d s m = list_end-word is f b d s m

command-word : (c : Command) (b : List Below) (d : ℕ) (s : Draft) (m : Mode) → Lighter 0 (command_ended c b d s (token.End end.Word m))
command-word c [] d s m = tt
command-word c (below.Function x n ∷ b) d s m = command-word (command.Function x n) b d (end_body n c s) m
command-word c (below.Pipe p ∷ b) d s m = list_ended-word _ b d _ m
command-word c (f ∷ b) d s m = tt

gap-word : (g : Gap) (b : List Below) (d : ℕ) (s : Draft) (m : Mode) → Lighter 0 (in_gap g b d s (token.End end.Word m))
gap-word (gap.Begin is) b d s m = list_ended-word is b d s m
gap-word (gap.Join is a j) b d s m = when-refused _
gap-word gap.Stage b d s m = when-refused _
gap-word (gap.Arms c) b d s m = when-refused _
gap-word g b d s m = tt

light : 0 < 1
light = omega arith

redirected-light : (r : Redir) (h : Host) → weight (redirected r h) < 1
redirected-light r (host.Simple c) = omega arith
redirected-light r (host.Compound x rs) = omega arith

parts_end-word : (ps : List Part) (f : Below) (b : List Below) (d : ℕ) (s : Draft) (m : Mode) → Lighter 1 (parts_end ps f b d s (token.End end.Word m))
parts_end-word ps (below.Argument c) b d s m = when-lighter _ 1 _ (any-lighter ps 1 _ light)
parts_end-word ps (below.Assign x c) b d s m =
    when-lighter (is_end end.Word mode.Prefix (token.End end.Word m)) 1 (Some (at (now.Elements (with_assign x ps c)) b d s)) light
parts_end-word ps (below.Redirect fd o h) b d s m = when-lighter _ 1 _ (any-lighter ps 1 _ (redirected-light _ h))
parts_end-word ps (below.ForWord x ws) b d s m = when-lighter _ 1 _ (any-lighter ps 1 _ light)
parts_end-word ps below.CaseWord b d s m = when-lighter _ 1 _ (any-lighter ps 1 _ light)
parts_end-word ps (below.Pattern c ws) b d s m = when-lighter _ 1 _ (any-lighter ps 1 _ light)
parts_end-word ps f b d s m = tt

parts_ended-word : (ps : List Part) (b : List Below) (d : ℕ) (s : Draft) (m : Mode) → Lighter 1 (parts_ended ps b d s (token.End end.Word m))
parts_ended-word ps [] d s m = tt
parts_ended-word ps (f ∷ b) d s m = parts_end-word ps f b d s m

-- The end of a word or of a name is taken only in one, and neither is read after it.
word-lighter : (n : Now) (b : List Below) (d : ℕ) (s : Draft) (m : Mode) → Lighter (weight n) (step_now n b d s (token.End end.Word m))
word-lighter (now.Gap g) b d s m = gap-word g b d s m
word-lighter (now.Parts ps) b d s m = parts_ended-word ps b d s m
word-lighter (now.Elements c) b d s m = command-word (simple c) b d s m
word-lighter (now.Redirs x rs) b d s m = command-word (command.Compound x rs) b d s m
word-lighter now.Bang b d s m = when-refused _
word-lighter (now.ForName x) b d s m =
    when-lighter (is_end end.Word mode.Command (token.End end.Word m)) 1 (Some (at (now.ForNamed x) b d s)) light
word-lighter n b d s m = tt

weight-small : (n : Now) → weight n ≤ 1
weight-small (now.Parts ps) = omega arith
weight-small (now.ForName x) = omega arith
weight-small n = omega arith

pub token-lighter : (st next : State) (t : Token) → step st (told st.now st.below st.script.due t) ≡ Some next → weight next.now < 2 * least t + weight st.now
token-lighter st next (token.End end.Word m) e =
    let l : weight next.now < weight st.now = subst (λ (o : Option State). Lighter (weight st.now) o) e (word-lighter st.now st.below st.room st.script _) in
    omega (arith, l)
token-lighter st next (token.End x m) e = omega (arith, weight-small next.now)
token-lighter st next t e = omega (arith, weight-small next.now)
