-- With room for one more opening each step is the same: it leaves room for one more.
use Rattle.std.proofs.Common.{◌≡◌, ℕ, zero, suc, Bool, true, false, cond, List, [], ◌∷◌, ◌++◌, Option, Some, None, refl, ap, subst}
use Rattle.sh_syntax.specs.declared.tree.Part.{Part}
use Rattle.sh_syntax.specs.declared.tree.Word.{Word}
use Rattle.sh_syntax.specs.declared.tree.Redir.{Redir}
use Rattle.sh_syntax.specs.declared.tree.Command.{Command}
use Rattle.sh_syntax.specs.declared.tree.Command.TheVariants as command
use Rattle.sh_syntax.specs.declared.tree.Compound.{Compound}
use Rattle.sh_syntax.specs.declared.tree.AndOr.{AndOr}
use Rattle.sh_syntax.specs.declared.tree.Join.{Join}
use Rattle.sh_lexer.specs.declared.token.Token.{Token}
use Rattle.sh_lexer.specs.declared.token.Token.TheVariants as token
use Rattle.sh_lexer.specs.declared.token.Op.{Op}
use Rattle.sh_lexer.specs.declared.token.Op.TheVariants as op
use Rattle.sh_lexer.specs.declared.token.Bit.{Bit}
use Rattle.sh_lexer.specs.declared.token.Bit.TheVariants as bit
use Rattle.sh_lexer.specs.declared.token.Opener.{Opener}
use Rattle.sh_lexer.specs.declared.token.Opener.TheVariants as opener
use Rattle.sh_lexer.specs.declared.token.End.{End}
use Rattle.sh_lexer.specs.declared.token.End.TheVariants as end
use Rattle.sh_lexer.specs.declared.token.Mode.{Mode}
use Rattle.sh_grammar.specs.declared.state.Due.{Due}
use Rattle.sh_grammar.specs.declared.state.Draft.{Draft}
use Rattle.sh_grammar.specs.declared.state.Simple.{Simple}
use Rattle.sh_grammar.specs.declared.state.Pipe.{Pipe}
use Rattle.sh_grammar.specs.declared.state.Case.{Case}
use Rattle.sh_grammar.specs.declared.state.Host.{Host}
use Rattle.sh_grammar.specs.declared.state.Host.TheVariants as host
use Rattle.sh_grammar.specs.declared.state.Gap.{Gap}
use Rattle.sh_grammar.specs.declared.state.Gap.TheVariants as gap
use Rattle.sh_grammar.specs.declared.state.Now.{Now}
use Rattle.sh_grammar.specs.declared.state.Now.TheVariants as now
use Rattle.sh_grammar.specs.declared.state.Below.{Below}
use Rattle.sh_grammar.specs.declared.state.Below.TheVariants as below
use Rattle.sh_grammar.specs.Draft.{end_body, end_leaf, begin_leaf, begin_body, next_body, begin_list, end_list}
use Rattle.sh_grammar.specs.Grammar.{no_simple, simple}
use Rattle.sh_grammar.specs.Tests.{ends_list}
use Rattle.sh_grammar.specs.Machine as machine
use Rattle.sh_grammar.specs.Machine.{State, at, if_any, when, opened, on_op, next_due}

-- the state with room for one more opening
abbrev pub deep : State → State
deep st = at st.now st.below (suc st.room) st.script

abbrev Deeper : Option State → Option State → Type 0
Deeper None p = Unit {0}
Deeper (Some st) p = p ≡ Some (deep st)

-- what is reached is reached with room for one more
record Deep (o p : Option State) : Type 0 where
  pub is : Deeper o p

none : (p : Option State) → Deep None p
none p = record { is = tt }

some : (n : Now) (b : List Below) (d : ℕ) (s : Draft) → Deep (Some (at n b d s)) (Some (at n b (suc d) s))
some n b d s = record { is = refl }

when_deep : (b : Bool) (o p : Option State) → Deep o p → Deep (when b o) (when b p)
when_deep true o p h = h
when_deep false o p h = none None

any_deep : {A : Type 0} (xs : List A) (o p : Option State) → Deep o p → Deep (if_any xs o) (if_any xs p)
any_deep [] o p h = none None
any_deep (x ∷ xs) o p h = h

opened_deep : (d : ℕ) (f : ℕ → State) → ((r : ℕ) → f (suc r) ≡ deep (f r)) → Deep (opened d f) (opened (suc d) f)
opened_deep zero f h = none _
opened_deep (suc d) f h = record { is = ap (λ (x : State). Some x) (h d) }

on_op_deep : (f g : Op → Option State) (t : Token) → ((o : Op) → Deep (f o) (g o)) → Deep (on_op f t) (on_op g t)
on_op_deep f g (token.Operator o) h = h o
on_op_deep f g t h = none None

cond_deep : (b : Bool) (o p q r : Option State) → Deep o q → Deep p r → Deep (cond b o p) (cond b q r)
cond_deep true o p q r h k = h
cond_deep false o p q r h k = k

-- ---- newlines, bodies and parts

due_deep : (x : Due) (hs : List Due) (g : Gap) (b : List Below) (d : ℕ) (s : Draft) (t : Token) → Deep (machine.due x hs g b d s t) (machine.due x hs g b (suc d) s t)
due_deep x hs g b d s (token.Verbatim y m) = when_deep _ _ _ (some _ b d _)
due_deep x hs g b d s token.Body = some _ _ d s
due_deep x hs g b d s t = none None

parts_end_deep : (ps : List Part) (f : Below) (b : List Below) (d : ℕ) (s : Draft) (t : Token) → Deep (machine.parts_end ps f b d s t) (machine.parts_end ps f b (suc d) s t)
parts_end_deep ps (below.Argument c) b d s t = when_deep _ _ _ (any_deep ps _ _ (some _ b d s))
parts_end_deep ps (below.Assign x c) b d s t = when_deep _ _ _ (some _ b d s)
parts_end_deep ps (below.Redirect fd o x) b d s t = when_deep _ _ _ (any_deep ps _ _ (some _ b d s))
parts_end_deep ps (below.ForWord x ws) b d s t = when_deep _ _ _ (any_deep ps _ _ (some _ b d s))
parts_end_deep ps below.CaseWord b d s t = when_deep _ _ _ (any_deep ps _ _ (some _ b d s))
parts_end_deep ps (below.Pattern c ws) b d s t = when_deep _ _ _ (any_deep ps _ _ (some _ b d s))
parts_end_deep ps (below.Double qs m) b d s t = when_deep _ _ _ (some _ b d s)
parts_end_deep ps (below.Braces qs x o c m) b d s t = when_deep _ _ _ (some _ b (suc d) s)
parts_end_deep ps (below.Arith qs m) b d s t = when_deep _ _ _ (some _ b (suc d) s)
parts_end_deep ps (below.Body n hs g) b d s t = when_deep _ _ _ (some _ b d _)
parts_end_deep ps f b d s t = none None

parts_ended_deep : (ps : List Part) (b : List Below) (d : ℕ) (s : Draft) (t : Token) → Deep (machine.parts_ended ps b d s t) (machine.parts_ended ps b (suc d) s t)
parts_ended_deep ps [] d s t = none None
parts_ended_deep ps (f ∷ b) d s t = parts_end_deep ps f b d s t

open_part_deep : (ps : List Part) (b : List Below) (d : ℕ) (s : Draft) (m : Mode) (o : Opener) → Deep (machine.open_part ps b d s m o) (machine.open_part ps b (suc d) s m o)
open_part_deep ps b d s m opener.Double = some _ _ d s
open_part_deep ps b d s m (opener.Braces x o c q) = opened_deep d _ (λ r. refl)
open_part_deep ps b d s m opener.Command = opened_deep d _ (λ r. refl)
open_part_deep ps b d s m opener.Arith = opened_deep d _ (λ r. refl)
open_part_deep ps b d s m opener.Backquote = opened_deep d _ (λ r. refl)

parts_deep : (ps : List Part) (b : List Below) (d : ℕ) (s : Draft) (t : Token) → Deep (machine.parts ps b d s t) (machine.parts ps b (suc d) s t)
parts_deep ps b d s (token.Part x) = some _ b d s
parts_deep ps b d s (token.Param x l) = opened_deep d _ (λ r. refl)
parts_deep ps b d s (token.Open o m) = open_part_deep ps b d s m o
parts_deep ps b d s (token.End e m) = parts_ended_deep ps b d s (token.End e m)
parts_deep ps b d s t = none None

-- ---- lists that end

after_branch_deep : (bs : List (ℕ × ℕ)) (b : List Below) (d : ℕ) (s : Draft) (o : Op) → Deep (machine.after_branch bs b d s o) (machine.after_branch bs b (suc d) s o)
after_branch_deep bs b d s op.Fi = some _ b (suc d) s
after_branch_deep bs b d s op.Elif = some _ _ d _
after_branch_deep bs b d s op.Else = some _ _ d _
after_branch_deep bs b d s o = none None

after_arm_deep : (c : Case) (b : List Below) (d : ℕ) (s : Draft) (o : Op) → Deep (machine.after_arm c b d s o) (machine.after_arm c b (suc d) s o)
after_arm_deep c b d s op.DoubleSemi = some _ b d s
after_arm_deep c b d s op.Esac = some _ b (suc d) s
after_arm_deep c b d s o = none None

list_end_deep : (is : List AndOr) (f : Below) (b : List Below) (d : ℕ) (s : Draft) (t : Token) → Deep (machine.list_end is f b d s t) (machine.list_end is f b (suc d) s t)
list_end_deep is (below.Group n) b d s t = when_deep _ _ _ (any_deep is _ _ (some _ b (suc d) _))
list_end_deep is (below.Subshell n) b d s t = when_deep _ _ _ (any_deep is _ _ (some _ b (suc d) _))
list_end_deep is (below.Test bs n) b d s t = when_deep _ _ _ (any_deep is _ _ (some _ _ d _))
list_end_deep is (below.Then bs n k) b d s t = any_deep is _ _ (on_op_deep _ _ t (λ o. after_branch_deep _ b d _ o))
list_end_deep is (below.Else bs n) b d s t = when_deep _ _ _ (any_deep is _ _ (some _ b (suc d) _))
list_end_deep is (below.While until n) b d s t = when_deep _ _ _ (any_deep is _ _ (some _ _ d _))
list_end_deep is (below.WhileDo until n k) b d s t = when_deep _ _ _ (any_deep is _ _ (some _ b (suc d) _))
list_end_deep is (below.ForDo x ws n) b d s t = when_deep _ _ _ (any_deep is _ _ (some _ b (suc d) _))
list_end_deep is (below.Arm c ws n) b d s t = on_op_deep _ _ t (λ o. after_arm_deep _ b d _ o)
list_end_deep is (below.Command ps m n) b d s t = when_deep _ _ _ (some _ b (suc d) _)
list_end_deep is (below.Backquote ps m n) b d s t = when_deep _ _ _ (some _ b (suc d) _)
list_end_deep is f b d s t = none None

list_ended_deep : (is : List AndOr) (b : List Below) (d : ℕ) (s : Draft) (t : Token) → Deep (machine.list_ended is b d s t) (machine.list_ended is b (suc d) s t)
list_ended_deep is [] d s t = none None
list_ended_deep is (f ∷ b) d s t = list_end_deep is f b d s t

-- ---- commands and pipelines that end

and_or_op_deep : (is : List AndOr) (a : AndOr) (b : List Below) (d : ℕ) (s : Draft) (o : Op) → Deep (machine.and_or_op is a b d s o) (machine.and_or_op is a b (suc d) s o)
and_or_op_deep is a b d s op.AndIf = some _ b d s
and_or_op_deep is a b d s op.OrIf = some _ b d s
and_or_op_deep is a b d s op.Semi = some _ b d s
and_or_op_deep is a b d s o = list_ended_deep _ b d s (token.Operator o)

newline_deep : (g : Gap) (b : List Below) (d : ℕ) (s : Draft) (m : Mode) → Deep (machine.newline g b d s m) (machine.newline g b (suc d) s m)
newline_deep g b d s m = when_deep _ _ _ (some _ b d _)

and_or_end_deep : (is : List AndOr) (a : AndOr) (b : List Below) (d : ℕ) (s : Draft) (m : Mode) (e : End) →
    Deep (machine.and_or_end is a b d s m e) (machine.and_or_end is a b (suc d) s m e)
and_or_end_deep is a b d s m end.Newline = newline_deep (gap.Begin (is ++ a ∷ [])) b d s m
and_or_end_deep is a b d s m e = list_ended_deep _ b d s (token.End e m)

after_deep : (is : List AndOr) (a : AndOr) (b : List Below) (d : ℕ) (s : Draft) (t : Token) → Deep (machine.after is a b d s t) (machine.after is a b (suc d) s t)
after_deep is a b d s (token.Operator o) = and_or_op_deep is a b d s o
after_deep is a b d s (token.End e m) = and_or_end_deep is a b d s m e
after_deep is a b d s t = none None

after_pipeline_deep : (p : Pipe) (b : List Below) (d : ℕ) (s : Draft) (t : Token) →
    Deep (machine.after p.items (machine.this_and_or p.before p.leaf) b d (end_leaf p.leaf p.bang p.stages s) t)
    (machine.after p.items (machine.this_and_or p.before p.leaf) b (suc d) (end_leaf p.leaf p.bang p.stages s) t)
after_pipeline_deep p b d s t = after_deep p.items (machine.this_and_or p.before p.leaf) b d (end_leaf p.leaf p.bang p.stages s) t

piped_op_deep : (p : Pipe) (b : List Below) (d : ℕ) (s : Draft) (o : Op) → Deep (machine.piped_op p b d s o) (machine.piped_op p b (suc d) s o)
piped_op_deep p b d s op.Pipe = some _ _ d s
piped_op_deep p b d s o = after_pipeline_deep p b d s (token.Operator o)

piped_deep : (p : Pipe) (b : List Below) (d : ℕ) (s : Draft) (t : Token) → Deep (machine.piped p b d s t) (machine.piped p b (suc d) s t)
piped_deep p b d s (token.Operator o) = piped_op_deep p b d s o
piped_deep p b d s t = after_pipeline_deep p b d s t

command_ended_deep : (c : Command) (b : List Below) (d : ℕ) (s : Draft) (t : Token) → Deep (machine.command_ended c b d s t) (machine.command_ended c b (suc d) s t)
command_ended_deep c [] d s t = none None
command_ended_deep c (below.Function x n ∷ b) d s t = command_ended_deep (command.Function x n) b d (end_body n c s) t
command_ended_deep c (below.Pipe p ∷ b) d s t = piped_deep (machine.with_stage c p) b d s t
command_ended_deep c (f ∷ b) d s t = none None

-- ---- commands

element_deep : (c : Simple) (b : List Below) (d : ℕ) (s : Draft) (t : Token) → Deep (machine.element c b d s t) (machine.element c b (suc d) s t)
element_deep c b d s (token.Assign x) = some _ _ d s
element_deep c b d s (token.Redirect fd o) = some _ _ d s
element_deep c b d s (token.Here fd strip) = some _ b d s
element_deep c b d s t = parts_deep [] (below.Argument c ∷ b) d s t

elements_deep : (c : Simple) (b : List Below) (d : ℕ) (s : Draft) (t : Token) → Deep (machine.elements c b d s t) (machine.elements c b (suc d) s t)
elements_deep c b d s (token.Operator o) = command_ended_deep (simple c) b d s (token.Operator o)
elements_deep c b d s (token.End e m) = command_ended_deep (simple c) b d s (token.End e m)
elements_deep c b d s t = element_deep c b d s t

redirs_deep : (x : Compound) (rs : List Redir) (b : List Below) (d : ℕ) (s : Draft) (t : Token) → Deep (machine.redirs x rs b d s t) (machine.redirs x rs b (suc d) s t)
redirs_deep x rs b d s (token.Redirect fd o) = some _ _ d s
redirs_deep x rs b d s (token.Here fd strip) = some _ b d s
redirs_deep x rs b d s t = command_ended_deep (command.Compound x rs) b d s t

delimiter_deep : (fd : ℕ) (strip : Bool) (x : Host) (b : List Below) (d : ℕ) (s : Draft) (t : Token) →
    Deep (machine.delimiter fd strip x b d s t) (machine.delimiter fd strip x b (suc d) s t)
delimiter_deep fd strip x b d s (token.Delimiter y quoted m) = when_deep _ _ _ (some _ b d _)
delimiter_deep fd strip x b d s t = none None

open_compound_deep : (b : List Below) (d : ℕ) (s : Draft) (o : Op) → Deep (machine.open_compound b d s o) (machine.open_compound b (suc d) s o)
open_compound_deep b d s op.LeftBrace = opened_deep d _ (λ r. refl)
open_compound_deep b d s op.Open = opened_deep d _ (λ r. refl)
open_compound_deep b d s op.If = opened_deep d _ (λ r. refl)
open_compound_deep b d s op.While = opened_deep d _ (λ r. refl)
open_compound_deep b d s op.Until = opened_deep d _ (λ r. refl)
open_compound_deep b d s op.For = opened_deep d _ (λ r. refl)
open_compound_deep b d s op.Case = opened_deep d _ (λ r. refl)
open_compound_deep b d s o = none None

one_command_deep : (b : List Below) (d : ℕ) (s : Draft) (t : Token) → Deep (machine.one_command b d s t) (machine.one_command b (suc d) s t)
one_command_deep b d s (token.Operator o) = open_compound_deep b d s o
one_command_deep b d s (token.Function x) = opened_deep d _ (λ r. refl)
one_command_deep b d s t = element_deep no_simple b d s t

plain_pipeline_deep : (is : List AndOr) (before : Option (AndOr × Join)) (b : List Below) (d : ℕ) (s : Draft) (t : Token) →
    Deep (machine.plain_pipeline is before b d s t) (machine.plain_pipeline is before b (suc d) s t)
plain_pipeline_deep is before b d s t = one_command_deep (below.Pipe (machine.pipe is before false s) ∷ b) d (begin_leaf false s) t

pipeline_op_deep : (is : List AndOr) (before : Option (AndOr × Join)) (b : List Below) (d : ℕ) (s : Draft) (o : Op) →
    Deep (machine.pipeline_op is before b d s o) (machine.pipeline_op is before b (suc d) s o)
pipeline_op_deep is before b d s op.Bang = some _ _ d _
pipeline_op_deep is before b d s o = plain_pipeline_deep is before b d s (token.Operator o)

pipeline_deep : (is : List AndOr) (before : Option (AndOr × Join)) (b : List Below) (d : ℕ) (s : Draft) (t : Token) →
    Deep (machine.pipeline is before b d s t) (machine.pipeline is before b (suc d) s t)
pipeline_deep is before b d s (token.Operator o) = pipeline_op_deep is before b d s o
pipeline_deep is before b d s t = plain_pipeline_deep is before b d s t

-- ---- places where newlines may stand

begin_deep : (is : List AndOr) (b : List Below) (d : ℕ) (s : Draft) (t : Token) → Deep (machine.begin is b d s t) (machine.begin is b (suc d) s t)
begin_deep is b d s (token.Operator o) =
    cond_deep (ends_list o) _ _ _ _ (list_ended_deep is b d s (token.Operator o)) (pipeline_deep is None b d s (token.Operator o))
begin_deep is b d s (token.End e m) = list_ended_deep is b d s (token.End e m)
begin_deep is b d s t = pipeline_deep is None b d s t

arms_op_deep : (c : Case) (b : List Below) (d : ℕ) (s : Draft) (o : Op) → Deep (machine.arms_op c b d s o) (machine.arms_op c b (suc d) s o)
arms_op_deep c b d s op.OpenPattern = some _ _ d s
arms_op_deep c b d s op.Esac = some _ b (suc d) s
arms_op_deep c b d s o = none None

arms_deep : (c : Case) (b : List Below) (d : ℕ) (s : Draft) (t : Token) → Deep (machine.arms c b d s t) (machine.arms c b (suc d) s t)
arms_deep c b d s (token.Operator o) = arms_op_deep c b d s o
arms_deep c b d s t = parts_deep [] (below.Pattern c [] ∷ b) d s t

after_for_deep : (x : List ℕ) (b : List Below) (d : ℕ) (s : Draft) (o : Op) → Deep (machine.after_for x b d s o) (machine.after_for x b (suc d) s o)
after_for_deep x b d s op.In = some _ b d s
after_for_deep x b d s op.Do = some _ _ d _
after_for_deep x b d s o = none None

at_gap_deep : (g : Gap) (b : List Below) (d : ℕ) (s : Draft) (t : Token) → Deep (machine.at_gap g b d s t) (machine.at_gap g b (suc d) s t)
at_gap_deep (gap.Begin is) b d s t = begin_deep is b d s t
at_gap_deep (gap.Join is a j) b d s t = pipeline_deep is (Some (a, j)) b d s t
at_gap_deep gap.Stage b d s t = one_command_deep b d s t
at_gap_deep (gap.Function x) b d s t = on_op_deep _ _ t (λ o. open_compound_deep (below.Function x (next_body s) ∷ b) d (begin_body s) o)
at_gap_deep (gap.In w) b d s t = when_deep _ _ _ (some _ b d s)
at_gap_deep (gap.Arms c) b d s t = arms_deep c b d s t
at_gap_deep (gap.For x) b d s t = on_op_deep _ _ t (λ o. after_for_deep x b d s o)
at_gap_deep (gap.Do x ws) b d s t = when_deep _ _ _ (some _ _ d _)

gap_end_deep : (g : Gap) (b : List Below) (d : ℕ) (s : Draft) (m : Mode) (e : End) → Deep (machine.gap_end g b d s m e) (machine.gap_end g b (suc d) s m e)
gap_end_deep g b d s m end.Newline = newline_deep g b d s m
gap_end_deep g b d s m e = at_gap_deep g b d s (token.End e m)

in_gap_deep : (g : Gap) (b : List Below) (d : ℕ) (s : Draft) (t : Token) → Deep (machine.in_gap g b d s t) (machine.in_gap g b (suc d) s t)
in_gap_deep g b d s (token.End e m) = gap_end_deep g b d s m e
in_gap_deep g b d s t = at_gap_deep g b d s t

-- ---- the rest of `for` and `case`

for_bit_deep : (b : List Below) (d : ℕ) (s : Draft) (x : Bit) → Deep (machine.for_bit b d s x) (machine.for_bit b (suc d) s x)
for_bit_deep b d s (bit.Piece x) = when_deep _ _ _ (some _ b d s)
for_bit_deep b d s x = none None

for_name_deep : (b : List Below) (d : ℕ) (s : Draft) (t : Token) → Deep (machine.for_name b d s t) (machine.for_name b (suc d) s t)
for_name_deep b d s (token.Part x) = for_bit_deep b d s x
for_name_deep b d s t = none None

named_op_deep : (x : List ℕ) (b : List Below) (d : ℕ) (s : Draft) (o : Op) → Deep (machine.named_op x b d s o) (machine.named_op x b (suc d) s o)
named_op_deep x b d s op.Semi = some _ b d s
named_op_deep x b d s o = after_for_deep x b d s o

named_end_deep : (x : List ℕ) (b : List Below) (d : ℕ) (s : Draft) (m : Mode) (e : End) → Deep (machine.named_end x b d s m e) (machine.named_end x b (suc d) s m e)
named_end_deep x b d s m end.Newline = newline_deep (gap.For x) b d s m
named_end_deep x b d s m e = none None

for_named_deep : (x : List ℕ) (b : List Below) (d : ℕ) (s : Draft) (t : Token) → Deep (machine.for_named x b d s t) (machine.for_named x b (suc d) s t)
for_named_deep x b d s (token.Operator o) = named_op_deep x b d s o
for_named_deep x b d s (token.End e m) = named_end_deep x b d s m e
for_named_deep x b d s t = none None

for_op_deep : (x : List ℕ) (ws : List Word) (b : List Below) (d : ℕ) (s : Draft) (o : Op) → Deep (machine.for_op x ws b d s o) (machine.for_op x ws b (suc d) s o)
for_op_deep x ws b d s op.Semi = some _ b d s
for_op_deep x ws b d s o = none None

for_end_deep : (x : List ℕ) (ws : List Word) (b : List Below) (d : ℕ) (s : Draft) (m : Mode) (e : End) →
    Deep (machine.for_end x ws b d s m e) (machine.for_end x ws b (suc d) s m e)
for_end_deep x ws b d s m end.Newline = newline_deep (gap.Do x (Some ws)) b d s m
for_end_deep x ws b d s m e = none None

for_words_deep : (x : List ℕ) (ws : List Word) (b : List Below) (d : ℕ) (s : Draft) (t : Token) → Deep (machine.for_words x ws b d s t) (machine.for_words x ws b (suc d) s t)
for_words_deep x ws b d s (token.Operator o) = for_op_deep x ws b d s o
for_words_deep x ws b d s (token.End e m) = for_end_deep x ws b d s m e
for_words_deep x ws b d s t = parts_deep [] (below.ForWord x ws ∷ b) d s t

patterns_op_deep : (c : Case) (ws : List Word) (b : List Below) (d : ℕ) (s : Draft) (o : Op) → Deep (machine.patterns_op c ws b d s o) (machine.patterns_op c ws b (suc d) s o)
patterns_op_deep c ws b d s op.PipePattern = some _ _ d s
patterns_op_deep c ws b d s op.Close = some _ _ d _
patterns_op_deep c ws b d s o = none None

-- ---- the law

step_deep : (n : Now) (b : List Below) (d : ℕ) (s : Draft) (t : Token) → Deep (machine.step_now n b d s t) (machine.step_now n b (suc d) s t)
step_deep (now.Gap g) b d s t = in_gap_deep g b d s t
step_deep (now.Due x hs g) b d s t = due_deep x hs g b d s t
step_deep (now.Parts ps) b d s t = parts_deep ps b d s t
step_deep (now.Elements c) b d s t = elements_deep c b d s t
step_deep (now.Redirs x rs) b d s t = redirs_deep x rs b d s t
step_deep now.Bang b d s t = one_command_deep b d s t
step_deep (now.Delimiter fd strip x) b d s t = delimiter_deep fd strip x b d s t
step_deep (now.Name x) b d s t = when_deep _ _ _ (some _ b d s)
step_deep (now.Named x) b d s t = when_deep _ _ _ (some _ b d s)
step_deep now.For b d s t = for_name_deep b d s t
step_deep (now.ForName x) b d s t = when_deep _ _ _ (some _ b d s)
step_deep (now.ForNamed x) b d s t = for_named_deep x b d s t
step_deep (now.ForWords x ws) b d s t = for_words_deep x ws b d s t
step_deep (now.Patterns c ws) b d s t = on_op_deep _ _ t (λ o. patterns_op_deep c ws b d s o)

pub deep-next : (st next : State) (t : Token) → machine.step st t ≡ Some next → machine.step (deep st) t ≡ Some (deep next)
deep-next st next t e =
    (subst (λ (o : Option State). Deep o (machine.step (deep st) t)) e (step_deep st.now st.below st.room st.script t)).is
