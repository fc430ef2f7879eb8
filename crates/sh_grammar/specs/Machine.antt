-- Reading token by token. A state is the innermost thing that is being read, and what is open round it.
use Rattle.std.specs.Prelude.{Bool, true, false, cond, ℕ, zero, suc, List, [], ◌∷◌, ◌++◌, Option, Some, None, option_and_then}
use Rattle.sh_syntax.specs.declared.tree.Part.{Part}
use Rattle.sh_syntax.specs.declared.tree.Part.TheVariants as part
use Rattle.sh_syntax.specs.declared.tree.Word.{Word}
use Rattle.sh_syntax.specs.declared.tree.Redir.{Redir}
use Rattle.sh_syntax.specs.declared.tree.Command.{Command}
use Rattle.sh_syntax.specs.declared.tree.Command.TheVariants as command
use Rattle.sh_syntax.specs.declared.tree.Compound.{Compound}
use Rattle.sh_syntax.specs.declared.tree.Compound.TheVariants as compound
use Rattle.sh_syntax.specs.declared.tree.AndOr.{AndOr}
use Rattle.sh_syntax.specs.declared.tree.Join.{Join}
use Rattle.sh_syntax.specs.declared.tree.Join.TheVariants as join
use Rattle.sh_syntax.specs.declared.tree.Script.{Script}
use Rattle.sh_syntax.specs.Trees.{word}
use Rattle.sh_lexer.specs.declared.token.Token.{Token}
use Rattle.sh_lexer.specs.declared.token.Token.TheVariants.{Operator}
use Rattle.sh_lexer.specs.declared.token.Token.TheVariants as token
use Rattle.sh_lexer.specs.declared.token.Op.{Op}
use Rattle.sh_lexer.specs.declared.token.Op.TheVariants as op
use Rattle.sh_lexer.specs.declared.token.Bit.{Bit}
use Rattle.sh_lexer.specs.declared.token.Bit.TheVariants as bit
use Rattle.sh_lexer.specs.declared.token.Opener.{Opener}
use Rattle.sh_lexer.specs.declared.token.Opener.TheVariants as opener
use Rattle.sh_lexer.specs.declared.token.End.{End}
use Rattle.sh_lexer.specs.declared.token.End.TheVariants as end
use Rattle.sh_lexer.specs.declared.token.Mode.{Mode}
use Rattle.sh_lexer.specs.declared.token.Mode.TheVariants as mode
use Rattle.sh_lexer.specs.Bytes.{is_name}
use Rattle.sh_grammar.specs.declared.state.Due.{Due}
use Rattle.sh_grammar.specs.declared.state.Draft.{Draft}
use Rattle.sh_grammar.specs.declared.state.Simple.{Simple}
use Rattle.sh_grammar.specs.declared.state.Pipe.{Pipe}
use Rattle.sh_grammar.specs.declared.state.Case.{Case}
use Rattle.sh_grammar.specs.declared.state.Host.{Host}
use Rattle.sh_grammar.specs.declared.state.Host.TheVariants as host
use Rattle.sh_grammar.specs.declared.state.Gap.{Gap}
use Rattle.sh_grammar.specs.declared.state.Gap.TheVariants as gap
use Rattle.sh_grammar.specs.declared.state.Now.{Now}
use Rattle.sh_grammar.specs.declared.state.Now.TheVariants as now
use Rattle.sh_grammar.specs.declared.state.Below.{Below}
use Rattle.sh_grammar.specs.declared.state.Below.TheVariants as below
use Rattle.sh_grammar.specs.Draft.{next_list, begin_list, end_list, next_leaf, begin_leaf, end_leaf, next_body, begin_body, end_body, next_here, begin_here, end_here, none_due, cut_mode, redir, here_redir, and_or, joined, filled, no_draft}
use Rattle.sh_grammar.specs.Grammar.{part_of, param_of, no_simple, with_assign, with_word, with_redir, simple, mode_before, max_nesting}
use Rattle.sh_grammar.specs.Tests.{same_mode, is_op, is_end, ends_list}

-- What is innermost comes first below. `room`: how many things may still be opened.
pub record State : Type 0 where
  pub now : Now
  pub below : List Below
  pub room : ℕ
  pub script : Draft

abbrev pub at : Now → List Below → ℕ → Draft → State
at n b d s = record { now = n; below = b; room = d; script = s }

-- only where there is one
abbrev pub if_any : {A : Type 0} → List A → Option State → Option State
if_any [] o = None
if_any (x ∷ xs) o = o

-- only where the test holds
abbrev pub when : Bool → Option State → Option State
when b o = cond b o None

-- only where there is room for one more opening
abbrev pub opened : ℕ → (ℕ → State) → Option State
opened zero f = None
opened (suc d) f = Some (f d)

-- ---- newlines and the bodies of here-documents

abbrev pub gap_mode : Gap → Mode
gap_mode (gap.Arms c) = mode.Pattern
gap_mode g = mode.Command

abbrev pub next_due : List Due → Gap → Now
next_due [] g = now.Gap g
next_due (h ∷ hs) g = now.Due h hs g

abbrev pub newline : Gap → List Below → ℕ → Draft → Mode → Option State
newline g b d s m = when (same_mode (cut_mode (gap_mode g) s.due) m) (Some (at (next_due s.due g) b d (none_due s)))

abbrev pub due : Due → List Due → Gap → List Below → ℕ → Draft → Token → Option State
due h hs g b d s (token.Verbatim x m) =
    when (same_mode (cut_mode (gap_mode g) hs) m) (Some (at (next_due hs g) b d (end_here h.number (part.Single x) s)))
due h hs g b d s token.Body = Some (at (now.Parts []) (below.Body h.number hs g ∷ b) d s)
due h hs g b d s t = None

-- ---- parts

-- the next state after a redirection
abbrev pub redirected : Redir → Host → Now
redirected r (host.Simple c) = now.Elements (with_redir r c)
redirected r (host.Compound x rs) = now.Redirs x (rs ++ r ∷ [])

abbrev pub host_mode : Host → Mode
host_mode (host.Simple c) = mode_before c.words
host_mode (host.Compound x rs) = mode.Arguments

-- what comes next where parts end by this token
abbrev pub parts_end : List Part → Below → List Below → ℕ → Draft → Token → Option State
parts_end ps (below.Argument c) b d s t = when (is_end end.Word mode.Arguments t) (if_any ps (Some (at (now.Elements (with_word ps c)) b d s)))
parts_end ps (below.Assign x c) b d s t = when (is_end end.Word mode.Prefix t) (Some (at (now.Elements (with_assign x ps c)) b d s))
parts_end ps (below.Redirect fd o h) b d s t = when (is_end end.Word (host_mode h) t) (if_any ps (Some (at (redirected (redir fd o ps) h) b d s)))
parts_end ps (below.ForWord x ws) b d s t = when (is_end end.Word mode.Arguments t) (if_any ps (Some (at (now.ForWords x (ws ++ word ps ∷ [])) b d s)))
parts_end ps below.CaseWord b d s t = when (is_end end.Word mode.Command t) (if_any ps (Some (at (now.Gap (gap.In (word ps))) b d s)))
parts_end ps (below.Pattern c ws) b d s t = when (is_end end.Word mode.Arguments t) (if_any ps (Some (at (now.Patterns c (ws ++ word ps ∷ [])) b d s)))
parts_end ps (below.Double qs m) b d s t = when (is_end end.Quote m t) (Some (at (now.Parts (qs ++ part.Double ps ∷ [])) b d s))
parts_end ps (below.Braces qs x o c m) b d s t =
    when (is_end end.Brace m t) (Some (at (now.Parts (qs ++ part.Param x o c (Some (word ps)) ∷ [])) b (suc d) s))
parts_end ps (below.Arith qs m) b d s t = when (is_end end.Arith m t) (Some (at (now.Parts (qs ++ part.Arith (word ps) ∷ [])) b (suc d) s))
parts_end ps (below.Body n hs g) b d s t =
    when (is_end end.Text (cut_mode (gap_mode g) hs) t) (Some (at (next_due hs g) b d (end_here n (part.Double ps) s)))
parts_end ps f b d s t = None

abbrev pub parts_ended : List Part → List Below → ℕ → Draft → Token → Option State
parts_ended ps [] d s t = None
parts_ended ps (f ∷ b) d s t = parts_end ps f b d s t

abbrev pub open_part : List Part → List Below → ℕ → Draft → Mode → Opener → Option State
open_part ps b d s m opener.Double = Some (at (now.Parts []) (below.Double ps m ∷ b) d s)
open_part ps b d s m (opener.Braces x o c q) = opened d (λ r. at (now.Parts []) (below.Braces ps x o c m ∷ b) r s)
open_part ps b d s m opener.Command = opened d (λ r. at (now.Gap (gap.Begin [])) (below.Command ps m (next_list s) ∷ b) r (begin_list s))
open_part ps b d s m opener.Arith = opened d (λ r. at (now.Parts []) (below.Arith ps m ∷ b) r s)
open_part ps b d s m opener.Backquote = opened d (λ r. at (now.Gap (gap.Begin [])) (below.Backquote ps m (next_list s) ∷ b) r (begin_list s))

abbrev pub parts : List Part → List Below → ℕ → Draft → Token → Option State
parts ps b d s (token.Part x) = Some (at (now.Parts (ps ++ part_of x ∷ [])) b d s)
parts ps b d s (token.Param x l) = opened d (λ r. at (now.Parts (ps ++ param_of x l ∷ [])) b (suc r) s)
parts ps b d s (token.Open o m) = open_part ps b d s m o
parts ps b d s (token.End e m) = parts_ended ps b d s (token.End e m)
parts ps b d s t = None

-- ---- lists that end

abbrev pub open_list : (ℕ → Below) → List Below → ℕ → Draft → State
open_list f b d s = at (now.Gap (gap.Begin [])) (f (next_list s) ∷ b) d (begin_list s)

abbrev pub after_branch : List (ℕ × ℕ) → List Below → ℕ → Draft → Op → Option State
after_branch bs b d s op.Fi = Some (at (now.Redirs (compound.If bs None) []) b (suc d) s)
after_branch bs b d s op.Elif = Some (open_list (below.Test bs) b d s)
after_branch bs b d s op.Else = Some (open_list (below.Else bs) b d s)
after_branch bs b d s o = None

abbrev pub with_arm : List Word → ℕ → Case → Case
with_arm ws n c = record c { arms = c.arms ++ (ws, n) ∷ [] }

abbrev pub case : Case → Compound
case c = compound.Case c.word c.arms

abbrev pub after_arm : Case → List Below → ℕ → Draft → Op → Option State
after_arm c b d s op.DoubleSemi = Some (at (now.Gap (gap.Arms c)) b d s)
after_arm c b d s op.Esac = Some (at (now.Redirs (case c) []) b (suc d) s)
after_arm c b d s o = None

abbrev pub on_op : (Op → Option State) → Token → Option State
on_op f (Operator o) = f o
on_op f t = None

-- what comes next where a list ends with these items, by this token
abbrev pub list_end : List AndOr → Below → List Below → ℕ → Draft → Token → Option State
list_end is (below.Group n) b d s t =
    when (is_op op.RightBrace t) (if_any is (Some (at (now.Redirs (compound.Group n) []) b (suc d) (end_list n is s))))
list_end is (below.Subshell n) b d s t =
    when (is_op op.Close t) (if_any is (Some (at (now.Redirs (compound.Subshell n) []) b (suc d) (end_list n is s))))
list_end is (below.Test bs n) b d s t = when (is_op op.Then t) (if_any is (Some (at (now.Gap (gap.Begin [])) (below.Then bs n (next_list s) ∷ b) d (begin_list (end_list n is s)))))
list_end is (below.Then bs n k) b d s t = if_any is (on_op (after_branch (bs ++ (n, k) ∷ []) b d (end_list k is s)) t)
list_end is (below.Else bs n) b d s t =
    when (is_op op.Fi t) (if_any is (Some (at (now.Redirs (compound.If bs (Some n)) []) b (suc d) (end_list n is s))))
list_end is (below.While until n) b d s t =
    when (is_op op.Do t) (if_any is (Some (at (now.Gap (gap.Begin [])) (below.WhileDo until n (next_list s) ∷ b) d (begin_list (end_list n is s)))))
list_end is (below.WhileDo until n k) b d s t =
    when (is_op op.Done t) (if_any is (Some (at (now.Redirs (compound.While until n k) []) b (suc d) (end_list k is s))))
list_end is (below.ForDo x ws n) b d s t =
    when (is_op op.Done t) (if_any is (Some (at (now.Redirs (compound.For x ws n) []) b (suc d) (end_list n is s))))
list_end is (below.Arm c ws n) b d s t = on_op (after_arm (with_arm ws n c) b d (end_list n is s)) t
list_end is (below.Command ps m n) b d s t = when (is_end end.List m t) (Some (at (now.Parts (ps ++ part.Command n ∷ [])) b (suc d) (end_list n is s)))
list_end is (below.Backquote ps m n) b d s t = when (is_end end.Text m t) (Some (at (now.Parts (ps ++ part.Command n ∷ [])) b (suc d) (end_list n is s)))
list_end is f b d s t = None

abbrev pub list_ended : List AndOr → List Below → ℕ → Draft → Token → Option State
list_ended is [] d s t = None
list_ended is (f ∷ b) d s t = list_end is f b d s t

-- ---- commands and pipelines that end

abbrev pub this_and_or : Option (AndOr × Join) → ℕ → AndOr
this_and_or None l = and_or l
this_and_or (Some before) l = joined before.0 before.1 l

abbrev pub and_or_op : List AndOr → AndOr → List Below → ℕ → Draft → Op → Option State
and_or_op is a b d s op.AndIf = Some (at (now.Gap (gap.Join is a join.And)) b d s)
and_or_op is a b d s op.OrIf = Some (at (now.Gap (gap.Join is a join.Or)) b d s)
and_or_op is a b d s op.Semi = Some (at (now.Gap (gap.Begin (is ++ a ∷ []))) b d s)
and_or_op is a b d s o = list_ended (is ++ a ∷ []) b d s (Operator o)

abbrev pub and_or_end : List AndOr → AndOr → List Below → ℕ → Draft → Mode → End → Option State
and_or_end is a b d s m end.Newline = newline (gap.Begin (is ++ a ∷ [])) b d s m
and_or_end is a b d s m e = list_ended (is ++ a ∷ []) b d s (token.End e m)

-- after a pipeline
abbrev pub after : List AndOr → AndOr → List Below → ℕ → Draft → Token → Option State
after is a b d s (Operator o) = and_or_op is a b d s o
after is a b d s (token.End e m) = and_or_end is a b d s m e
after is a b d s t = None

abbrev pub with_stage : Command → Pipe → Pipe
with_stage c p = record p { stages = p.stages ++ c ∷ [] }

abbrev pub piped_op : Pipe → List Below → ℕ → Draft → Op → Option State
piped_op p b d s op.Pipe = Some (at (now.Gap gap.Stage) (below.Pipe p ∷ b) d s)
piped_op p b d s o = after p.items (this_and_or p.before p.leaf) b d (end_leaf p.leaf p.bang p.stages s) (Operator o)

-- after a command of a pipeline
abbrev pub piped : Pipe → List Below → ℕ → Draft → Token → Option State
piped p b d s (Operator o) = piped_op p b d s o
piped p b d s t = after p.items (this_and_or p.before p.leaf) b d (end_leaf p.leaf p.bang p.stages s) t

abbrev pub command_ended : Command → List Below → ℕ → Draft → Token → Option State
command_ended c [] d s t = None
command_ended c (below.Function x n ∷ b) d s t = command_ended (command.Function x n) b d (end_body n c s) t
command_ended c (below.Pipe p ∷ b) d s t = piped (with_stage c p) b d s t
command_ended c (f ∷ b) d s t = None

-- ---- commands

-- one more element of a simple command
abbrev pub element : Simple → List Below → ℕ → Draft → Token → Option State
element c b d s (token.Assign x) = Some (at (now.Parts []) (below.Assign x c ∷ b) d s)
element c b d s (token.Redirect fd o) = Some (at (now.Parts []) (below.Redirect fd o (host.Simple c) ∷ b) d s)
element c b d s (token.Here fd strip) = Some (at (now.Delimiter fd strip (host.Simple c)) b d s)
element c b d s t = parts [] (below.Argument c ∷ b) d s t

abbrev pub elements : Simple → List Below → ℕ → Draft → Token → Option State
elements c b d s (Operator o) = command_ended (simple c) b d s (Operator o)
elements c b d s (token.End e m) = command_ended (simple c) b d s (token.End e m)
elements c b d s t = element c b d s t

abbrev pub redirs : Compound → List Redir → List Below → ℕ → Draft → Token → Option State
redirs x rs b d s (token.Redirect fd o) = Some (at (now.Parts []) (below.Redirect fd o (host.Compound x rs) ∷ b) d s)
redirs x rs b d s (token.Here fd strip) = Some (at (now.Delimiter fd strip (host.Compound x rs)) b d s)
redirs x rs b d s t = command_ended (command.Compound x rs) b d s t

abbrev pub delimiter : ℕ → Bool → Host → List Below → ℕ → Draft → Token → Option State
delimiter fd strip h b d s (token.Delimiter x quoted m) =
    when (same_mode (host_mode h) m) (Some (at (redirected (here_redir fd (next_here s)) h) b d (begin_here x strip quoted s)))
delimiter fd strip h b d s t = None

-- a compound command begins
abbrev pub open_compound : List Below → ℕ → Draft → Op → Option State
open_compound b d s op.LeftBrace = opened d (λ r. open_list below.Group b r s)
open_compound b d s op.Open = opened d (λ r. open_list below.Subshell b r s)
open_compound b d s op.If = opened d (λ r. open_list (below.Test []) b r s)
open_compound b d s op.While = opened d (λ r. open_list (below.While false) b r s)
open_compound b d s op.Until = opened d (λ r. open_list (below.While true) b r s)
open_compound b d s op.For = opened d (λ r. at now.For b r s)
open_compound b d s op.Case = opened d (λ r. at (now.Parts []) (below.CaseWord ∷ b) r s)
open_compound b d s o = None

-- a command has to begin
abbrev pub one_command : List Below → ℕ → Draft → Token → Option State
one_command b d s (Operator o) = open_compound b d s o
-- the body of a function opens something
one_command b d s (token.Function x) = opened d (λ r. at (now.Name x) b (suc r) s)
one_command b d s t = element no_simple b d s t

abbrev pub pipe : List AndOr → Option (AndOr × Join) → Bool → Draft → Pipe
pipe is before bang s = record { items = is; before = before; leaf = next_leaf s; bang = bang; stages = [] }

abbrev pub plain_pipeline : List AndOr → Option (AndOr × Join) → List Below → ℕ → Draft → Token → Option State
plain_pipeline is before b d s t = one_command (below.Pipe (pipe is before false s) ∷ b) d (begin_leaf false s) t

abbrev pub pipeline_op : List AndOr → Option (AndOr × Join) → List Below → ℕ → Draft → Op → Option State
pipeline_op is before b d s op.Bang = Some (at now.Bang (below.Pipe (pipe is before true s) ∷ b) d (begin_leaf true s))
pipeline_op is before b d s o = plain_pipeline is before b d s (Operator o)

-- a pipeline has to begin
abbrev pub pipeline : List AndOr → Option (AndOr × Join) → List Below → ℕ → Draft → Token → Option State
pipeline is before b d s (Operator o) = pipeline_op is before b d s o
pipeline is before b d s t = plain_pipeline is before b d s t

-- ---- places where newlines may stand

abbrev pub begin : List AndOr → List Below → ℕ → Draft → Token → Option State
begin is b d s (Operator o) = cond (ends_list o) (list_ended is b d s (Operator o)) (pipeline is None b d s (Operator o))
begin is b d s (token.End e m) = list_ended is b d s (token.End e m)
begin is b d s t = pipeline is None b d s t

abbrev pub arms_op : Case → List Below → ℕ → Draft → Op → Option State
arms_op c b d s op.OpenPattern = Some (at (now.Parts []) (below.Pattern c [] ∷ b) d s)
arms_op c b d s op.Esac = Some (at (now.Redirs (case c) []) b (suc d) s)
arms_op c b d s o = None

abbrev pub arms : Case → List Below → ℕ → Draft → Token → Option State
arms c b d s (Operator o) = arms_op c b d s o
arms c b d s t = parts [] (below.Pattern c [] ∷ b) d s t

abbrev pub after_for : List ℕ → List Below → ℕ → Draft → Op → Option State
after_for x b d s op.In = Some (at (now.ForWords x []) b d s)
after_for x b d s op.Do = Some (open_list (below.ForDo x None) b d s)
after_for x b d s o = None

abbrev pub at_gap : Gap → List Below → ℕ → Draft → Token → Option State
at_gap (gap.Begin is) b d s t = begin is b d s t
at_gap (gap.Join is a j) b d s t = pipeline is (Some (a, j)) b d s t
at_gap gap.Stage b d s t = one_command b d s t
at_gap (gap.Function x) b d s t = on_op (open_compound (below.Function x (next_body s) ∷ b) d (begin_body s)) t
at_gap (gap.In w) b d s t = when (is_op op.CaseIn t) (Some (at (now.Gap (gap.Arms (record { word = w; arms = [] }))) b d s))
at_gap (gap.Arms c) b d s t = arms c b d s t
at_gap (gap.For x) b d s t = on_op (after_for x b d s) t
at_gap (gap.Do x ws) b d s t = when (is_op op.Do t) (Some (open_list (below.ForDo x ws) b d s))

abbrev pub gap_end : Gap → List Below → ℕ → Draft → Mode → End → Option State
gap_end g b d s m end.Newline = newline g b d s m
gap_end g b d s m e = at_gap g b d s (token.End e m)

abbrev pub in_gap : Gap → List Below → ℕ → Draft → Token → Option State
in_gap g b d s (token.End e m) = gap_end g b d s m e
in_gap g b d s t = at_gap g b d s t

-- ---- the rest of `for` and `case`

abbrev pub for_bit : List Below → ℕ → Draft → Bit → Option State
for_bit b d s (bit.Piece x) = when (is_name x) (Some (at (now.ForName x) b d s))
for_bit b d s x = None

abbrev pub for_name : List Below → ℕ → Draft → Token → Option State
for_name b d s (token.Part x) = for_bit b d s x
for_name b d s t = None

abbrev pub named_op : List ℕ → List Below → ℕ → Draft → Op → Option State
named_op x b d s op.Semi = Some (at (now.Gap (gap.Do x None)) b d s)
named_op x b d s o = after_for x b d s o

abbrev pub named_end : List ℕ → List Below → ℕ → Draft → Mode → End → Option State
named_end x b d s m end.Newline = newline (gap.For x) b d s m
named_end x b d s m e = None

abbrev pub for_named : List ℕ → List Below → ℕ → Draft → Token → Option State
for_named x b d s (Operator o) = named_op x b d s o
for_named x b d s (token.End e m) = named_end x b d s m e
for_named x b d s t = None

abbrev pub for_op : List ℕ → List Word → List Below → ℕ → Draft → Op → Option State
for_op x ws b d s op.Semi = Some (at (now.Gap (gap.Do x (Some ws))) b d s)
for_op x ws b d s o = None

abbrev pub for_end : List ℕ → List Word → List Below → ℕ → Draft → Mode → End → Option State
for_end x ws b d s m end.Newline = newline (gap.Do x (Some ws)) b d s m
for_end x ws b d s m e = None

abbrev pub for_words : List ℕ → List Word → List Below → ℕ → Draft → Token → Option State
for_words x ws b d s (Operator o) = for_op x ws b d s o
for_words x ws b d s (token.End e m) = for_end x ws b d s m e
for_words x ws b d s t = parts [] (below.ForWord x ws ∷ b) d s t

abbrev pub patterns_op : Case → List Word → List Below → ℕ → Draft → Op → Option State
patterns_op c ws b d s op.PipePattern = Some (at (now.Parts []) (below.Pattern c ws ∷ b) d s)
patterns_op c ws b d s op.Close = Some (open_list (below.Arm c ws) b d s)
patterns_op c ws b d s o = None

-- ---- one token

abbrev pub step_now : Now → List Below → ℕ → Draft → Token → Option State
step_now (now.Gap g) b d s t = in_gap g b d s t
step_now (now.Due h hs g) b d s t = due h hs g b d s t
step_now (now.Parts ps) b d s t = parts ps b d s t
step_now (now.Elements c) b d s t = elements c b d s t
step_now (now.Redirs x rs) b d s t = redirs x rs b d s t
step_now now.Bang b d s t = one_command b d s t
step_now (now.Delimiter fd strip h) b d s t = delimiter fd strip h b d s t
step_now (now.Name x) b d s t = when (is_op op.Open t) (Some (at (now.Named x) b d s))
step_now (now.Named x) b d s t = when (is_op op.Close t) (Some (at (now.Gap (gap.Function x)) b d s))
step_now now.For b d s t = for_name b d s t
step_now (now.ForName x) b d s t = when (is_end end.Word mode.Command t) (Some (at (now.ForNamed x) b d s))
step_now (now.ForNamed x) b d s t = for_named x b d s t
step_now (now.ForWords x ws) b d s t = for_words x ws b d s t
step_now (now.Patterns c ws) b d s t = on_op (patterns_op c ws b d s) t

abbrev pub step : State → Token → Option State
step st t = step_now st.now st.below st.room st.script t

-- ---- the script, where the tokens end

abbrev pub if_none : List Due → Script → Option Script
if_none [] s = Some s
if_none (h ∷ hs) s = None

abbrev pub end_with : List AndOr → List Below → Draft → Option Script
end_with is [] s = if_none s.due (filled (end_list 0 is s))
end_with is (f ∷ b) s = None

abbrev pub end_command : Command → List Below → Draft → Option Script
end_command c [] s = None
end_command c (below.Function x n ∷ b) s = end_command (command.Function x n) b (end_body n c s)
end_command c (below.Pipe p ∷ b) s =
    end_with (p.items ++ this_and_or p.before p.leaf ∷ []) b (end_leaf p.leaf p.bang (p.stages ++ c ∷ []) s)
end_command c (f ∷ b) s = None

abbrev pub end_gap : Gap → List Below → Draft → Option Script
end_gap (gap.Begin is) b s = end_with is b s
end_gap g b s = None

abbrev pub accept_now : Now → List Below → Draft → Option Script
accept_now (now.Gap g) b s = end_gap g b s
accept_now (now.Elements c) b s = end_command (simple c) b s
accept_now (now.Redirs x rs) b s = end_command (command.Compound x rs) b s
accept_now n b s = None

abbrev pub accept : State → Option Script
accept st = accept_now st.now st.below st.script

abbrev pub run : State → List Token → Option Script
run st [] = accept st
run st (t ∷ ts) = option_and_then (λ next. run next ts) (step st t)

abbrev pub start_within : ℕ → State
start_within d = at (now.Gap (gap.Begin [])) [] d (begin_list no_draft)

abbrev pub start : State
start = start_within max_nesting
