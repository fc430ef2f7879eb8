-- What stands below what in a state that is reached: each thing that is open has below it what goes on when it ends. Where
-- the body of a function comes next there is room for what it opens.
use Rattle.std.proofs.Common.{◌≡◌, ℕ, zero, suc, ◌<◌, Bool, true, false, cond, List, [], ◌∷◌, ◌++◌, Option, Some, None, refl, subst, arith}
use Rattle.sh_syntax.specs.declared.tree.Part.{Part}
use Rattle.sh_syntax.specs.declared.tree.Word.{Word}
use Rattle.sh_syntax.specs.declared.tree.Redir.{Redir}
use Rattle.sh_syntax.specs.declared.tree.Command.{Command}
use Rattle.sh_syntax.specs.declared.tree.Command.TheVariants as command
use Rattle.sh_syntax.specs.declared.tree.Compound.{Compound}
use Rattle.sh_syntax.specs.declared.tree.AndOr.{AndOr}
use Rattle.sh_syntax.specs.declared.tree.Join.{Join}
use Rattle.sh_lexer.specs.declared.token.Token.{Token}
use Rattle.sh_lexer.specs.declared.token.Token.TheVariants as token
use Rattle.sh_lexer.specs.declared.token.Op.{Op}
use Rattle.sh_lexer.specs.declared.token.Op.TheVariants as op
use Rattle.sh_lexer.specs.declared.token.Bit.{Bit}
use Rattle.sh_lexer.specs.declared.token.Bit.TheVariants as bit
use Rattle.sh_lexer.specs.declared.token.Opener.{Opener}
use Rattle.sh_lexer.specs.declared.token.Opener.TheVariants as opener
use Rattle.sh_lexer.specs.declared.token.End.{End}
use Rattle.sh_lexer.specs.declared.token.End.TheVariants as end
use Rattle.sh_lexer.specs.declared.token.Mode.{Mode}
use Rattle.sh_grammar.specs.declared.state.Due.{Due}
use Rattle.sh_grammar.specs.declared.state.Draft.{Draft}
use Rattle.sh_grammar.specs.declared.state.Simple.{Simple}
use Rattle.sh_grammar.specs.declared.state.Pipe.{Pipe}
use Rattle.sh_grammar.specs.declared.state.Case.{Case}
use Rattle.sh_grammar.specs.declared.state.Host.{Host}
use Rattle.sh_grammar.specs.declared.state.Host.TheVariants as host
use Rattle.sh_grammar.specs.declared.state.Gap.{Gap}
use Rattle.sh_grammar.specs.declared.state.Gap.TheVariants as gap
use Rattle.sh_grammar.specs.declared.state.Now.{Now}
use Rattle.sh_grammar.specs.declared.state.Now.TheVariants as now
use Rattle.sh_grammar.specs.declared.state.Below.{Below}
use Rattle.sh_grammar.specs.declared.state.Below.TheVariants as below
use Rattle.sh_grammar.specs.Draft.{end_body, end_leaf, begin_leaf, begin_body, next_body, begin_list, end_list}
use Rattle.sh_grammar.specs.Grammar.{no_simple, simple}
use Rattle.sh_grammar.specs.Tests.{ends_list}
use Rattle.sh_grammar.specs.Machine as machine
use Rattle.sh_grammar.specs.Machine.{State, at, if_any, when, opened, on_op, next_due}

-- what is being read: a list, a command of a pipeline, or parts of a word
pub data Kind : Type 0 where
  in_list : Kind
  in_command : Kind
  in_parts : Kind

abbrev pub gap_kind : Gap → Kind
gap_kind (gap.Begin is) = in_list
gap_kind (gap.Join is a j) = in_list
gap_kind g = in_command

abbrev pub now_kind : Now → Kind
now_kind (now.Gap g) = gap_kind g
now_kind (now.Due h hs g) = gap_kind g
now_kind (now.Parts ps) = in_parts
now_kind n = in_command

-- what is read in it
abbrev pub inside : Below → Kind
inside (below.Pipe p) = in_command
inside (below.Function x n) = in_command
inside (below.Argument c) = in_parts
inside (below.Assign x c) = in_parts
inside (below.Redirect fd o h) = in_parts
inside (below.ForWord x ws) = in_parts
inside below.CaseWord = in_parts
inside (below.Pattern c ws) = in_parts
inside (below.Double ps m) = in_parts
inside (below.Braces ps x o c m) = in_parts
inside (below.Arith ps m) = in_parts
inside (below.Body n hs g) = in_parts
inside f = in_list

-- what goes on when it ends
abbrev pub around : Below → Kind
around (below.Pipe p) = in_list
around (below.Double ps m) = in_parts
around (below.Braces ps x o c m) = in_parts
around (below.Arith ps m) = in_parts
around (below.Command ps m n) = in_parts
around (below.Backquote ps m n) = in_parts
around (below.Body n hs g) = gap_kind g
around f = in_command

-- how many things may be opened when the compound command ends that stands open there
abbrev pub gap_room : Gap → ℕ → ℕ
gap_room (gap.In w) d = suc d
gap_room (gap.Arms c) d = suc d
gap_room (gap.For x) d = suc d
gap_room (gap.Do x ws) d = suc d
gap_room g d = d

abbrev pub now_room : Now → ℕ → ℕ
now_room (now.Gap g) d = gap_room g d
now_room (now.Due h hs g) d = gap_room g d
now_room now.For d = suc d
now_room (now.ForName x) d = suc d
now_room (now.ForNamed x) d = suc d
now_room (now.ForWords x ws) d = suc d
now_room (now.Patterns c ws) d = suc d
now_room n d = d

abbrev pub room_around : Below → ℕ → ℕ
room_around (below.Pipe p) d = d
room_around (below.Function x n) d = d
room_around (below.Argument c) d = d
room_around (below.Assign x c) d = d
room_around (below.Redirect fd o h) d = d
room_around (below.Double ps m) d = d
room_around (below.Body n hs g) d = gap_room g d
room_around f d = suc d

-- the body of a function opens something
abbrev pub gap_opens : Gap → ℕ → Type 0
gap_opens (gap.Function x) d = 0 < d
gap_opens g d = Unit {0}

abbrev pub now_opens : Now → ℕ → Type 0
now_opens (now.Gap g) d = gap_opens g d
now_opens (now.Due h hs g) d = gap_opens g d
now_opens (now.Name x) d = 0 < d
now_opens (now.Named x) d = 0 < d
now_opens n d = Unit {0}

abbrev pub body_opens : Below → ℕ → Type 0
body_opens (below.Body n hs g) d = gap_opens g d
body_opens f d = Unit {0}

abbrev pub IsList : Kind → Type 0
IsList in_list = Unit {0}
IsList k = ⊥

-- What is of the kind may be read above these, with room for so many more openings.
abbrev pub Fits : Kind → ℕ → List Below → Type 0
Fits k d [] = IsList k
Fits k d (f ∷ b) = (inside f ≡ k) × body_opens f d × Fits (around f) (room_around f d) b

pub record Fit (k : Kind) (d : ℕ) (b : List Below) : Type 0 where
  pub fits : Fits k d b

pub record Stand (n : Now) (d : ℕ) (b : List Below) : Type 0 where
  pub fits : Fits (now_kind n) (now_room n d) b
  pub opens : now_opens n d

abbrev pub Stands_at : Option State → Type 0
Stands_at None = Unit {0}
Stands_at (Some st) = Stand st.now st.room st.below

pub record Led (o : Option State) : Type 0 where
  pub is : Stands_at o

none : Led None
none = record { is = tt }

led : {n : Now} {d : ℕ} {b : List Below} {s : Draft} → Stand n d b → Led (Some (at n b d s))
led h = record { is = h }

-- where nothing has to be opened
goes : (n : Now) (d : ℕ) (b : List Below) (s : Draft) → Fits (now_kind n) (now_room n d) b → now_opens n d → Led (Some (at n b d s))
goes n d b s h o = record { is = record { fits = h; opens = o } }

-- ---- tests

when_led : (b : Bool) (o : Option State) → Led o → Led (when b o)
when_led true o h = h
when_led false o h = none

any_led : {A : Type 0} (xs : List A) (o : Option State) → Led o → Led (if_any xs o)
any_led [] o h = none
any_led (x ∷ xs) o h = h

opened_led : (k : Kind) (d : ℕ) (b : List Below) (f : ℕ → State) → Fit k d b → ((r : ℕ) → Fits k (suc r) b → Led (Some (f r))) → Led (opened d f)
opened_led k zero b f h g = none
opened_led k (suc d) b f h g = g d h.fits

on_op_led : (f : Op → Option State) (t : Token) → ((o : Op) → Led (f o)) → Led (on_op f t)
on_op_led f (token.Operator o) h = h o
on_op_led f t h = none

cond_led : (b : Bool) (o p : Option State) → Led o → Led p → Led (cond b o p)
cond_led true o p h g = h
cond_led false o p h g = g

-- ---- newlines and bodies

due_stands : (hs : List Due) (g : Gap) {d : ℕ} {b : List Below} → Stand (now.Gap g) d b → Stand (next_due hs g) d b
due_stands [] g h = h
due_stands (x ∷ hs) g h = record { fits = h.fits; opens = h.opens }

newline_led : (g : Gap) (b : List Below) (d : ℕ) (s : Draft) (m : Mode) → Stand (now.Gap g) d b → Led (machine.newline g b d s m)
newline_led g b d s m h = when_led _ _ (led (due_stands s.due g h))

due_led : (x : Due) (hs : List Due) (g : Gap) (b : List Below) (d : ℕ) (s : Draft) (t : Token) → Stand (now.Gap g) d b → Led (machine.due x hs g b d s t)
due_led x hs g b d s (token.Verbatim y m) h = when_led _ _ (led (due_stands hs g h))
due_led x hs g b d s token.Body h = goes (now.Parts []) d (below.Body x.number hs g ∷ b) s (refl, h.opens, h.fits) tt
due_led x hs g b d s t h = none

-- ---- parts

redirected_led : (r : Redir) (x : Host) (b : List Below) (d : ℕ) (s : Draft) → Fits in_command d b → Led (Some (at (machine.redirected r x) b d s))
redirected_led r (host.Simple c) b d s h = goes _ d b s h tt
redirected_led r (host.Compound x rs) b d s h = goes _ d b s h tt

parts_end_led : (ps : List Part) (f : Below) (b : List Below) (d : ℕ) (s : Draft) (t : Token) → Fits in_parts d (f ∷ b) → Led (machine.parts_end ps f b d s t)
parts_end_led ps (below.Argument c) b d s t h = when_led _ _ (any_led ps _ (goes _ d b s h.2 tt))
parts_end_led ps (below.Assign x c) b d s t h = when_led _ _ (goes _ d b s h.2 tt)
parts_end_led ps (below.Redirect fd o x) b d s t h = when_led _ _ (any_led ps _ (redirected_led _ x b d s h.2))
parts_end_led ps (below.ForWord x ws) b d s t h = when_led _ _ (any_led ps _ (goes _ d b s h.2 tt))
parts_end_led ps below.CaseWord b d s t h = when_led _ _ (any_led ps _ (goes _ d b s h.2 tt))
parts_end_led ps (below.Pattern c ws) b d s t h = when_led _ _ (any_led ps _ (goes _ d b s h.2 tt))
parts_end_led ps (below.Double qs m) b d s t h = when_led _ _ (goes _ d b s h.2 tt)
parts_end_led ps (below.Braces qs x o c m) b d s t h = when_led _ _ (goes _ (suc d) b s h.2 tt)
parts_end_led ps (below.Arith qs m) b d s t h = when_led _ _ (goes _ (suc d) b s h.2 tt)
parts_end_led ps (below.Body n hs g) b d s t h = when_led _ _ (led (due_stands hs g (record { fits = h.2; opens = h.1 })))
parts_end_led ps f b d s t h = none

parts_ended_led : (ps : List Part) (b : List Below) (d : ℕ) (s : Draft) (t : Token) → Fits in_parts d b → Led (machine.parts_ended ps b d s t)
parts_ended_led ps [] d s t h = none
parts_ended_led ps (f ∷ b) d s t h = parts_end_led ps f b d s t h

open_part_led : (ps : List Part) (b : List Below) (d : ℕ) (s : Draft) (m : Mode) (o : Opener) → Fits in_parts d b → Led (machine.open_part ps b d s m o)
open_part_led ps b d s m opener.Double h = goes _ d (below.Double ps m ∷ b) s (refl, tt, h) tt
open_part_led ps b d s m (opener.Braces x o c q) h = opened_led in_parts d b _ (record { fits = h }) (λ r k. goes _ r (below.Braces ps x o c m ∷ b) s (refl, tt, k) tt)
open_part_led ps b d s m opener.Command h = opened_led in_parts d b _ (record { fits = h }) (λ r k. goes _ r (below.Command ps m _ ∷ b) (begin_list s) (refl, tt, k) tt)
open_part_led ps b d s m opener.Arith h = opened_led in_parts d b _ (record { fits = h }) (λ r k. goes _ r (below.Arith ps m ∷ b) s (refl, tt, k) tt)
open_part_led ps b d s m opener.Backquote h = opened_led in_parts d b _ (record { fits = h }) (λ r k. goes _ r (below.Backquote ps m _ ∷ b) (begin_list s) (refl, tt, k) tt)

parts_led : (ps : List Part) (b : List Below) (d : ℕ) (s : Draft) (t : Token) → Fits in_parts d b → Led (machine.parts ps b d s t)
parts_led ps b d s (token.Part x) h = goes _ d b s h tt
parts_led ps b d s (token.Param x l) h = opened_led in_parts d b _ (record { fits = h }) (λ r k. goes _ (suc r) b s k tt)
parts_led ps b d s (token.Open o m) h = open_part_led ps b d s m o h
parts_led ps b d s (token.End e m) h = parts_ended_led ps b d s (token.End e m) h
parts_led ps b d s t h = none

-- ---- lists that end

list_opened : (f : Below) (b : List Below) (d : ℕ) (s : Draft) → inside f ≡ in_list → body_opens f d → Fits (around f) (room_around f d) b →
    Led (Some (at (now.Gap (gap.Begin [])) (f ∷ b) d s))
list_opened f b d s e o h = goes _ d (f ∷ b) s (e, o, h) tt

after_branch_led : (bs : List (ℕ × ℕ)) (b : List Below) (d : ℕ) (s : Draft) (o : Op) → Fits in_command (suc d) b → Led (machine.after_branch bs b d s o)
after_branch_led bs b d s op.Fi h = goes _ (suc d) b s h tt
after_branch_led bs b d s op.Elif h = list_opened _ b d _ refl tt h
after_branch_led bs b d s op.Else h = list_opened _ b d _ refl tt h
after_branch_led bs b d s o h = none

after_arm_led : (c : Case) (b : List Below) (d : ℕ) (s : Draft) (o : Op) → Fits in_command (suc d) b → Led (machine.after_arm c b d s o)
after_arm_led c b d s op.DoubleSemi h = goes _ d b s h tt
after_arm_led c b d s op.Esac h = goes _ (suc d) b s h tt
after_arm_led c b d s o h = none

list_end_led : (is : List AndOr) (f : Below) (b : List Below) (d : ℕ) (s : Draft) (t : Token) → Fits in_list d (f ∷ b) → Led (machine.list_end is f b d s t)
list_end_led is (below.Group n) b d s t h = when_led _ _ (any_led is _ (goes _ (suc d) b _ h.2 tt))
list_end_led is (below.Subshell n) b d s t h = when_led _ _ (any_led is _ (goes _ (suc d) b _ h.2 tt))
list_end_led is (below.Test bs n) b d s t h = when_led _ _ (any_led is _ (list_opened _ b d _ refl tt h.2))
list_end_led is (below.Then bs n k) b d s t h = any_led is _ (on_op_led _ t (λ o. after_branch_led _ b d _ o h.2))
list_end_led is (below.Else bs n) b d s t h = when_led _ _ (any_led is _ (goes _ (suc d) b _ h.2 tt))
list_end_led is (below.While until n) b d s t h = when_led _ _ (any_led is _ (list_opened _ b d _ refl tt h.2))
list_end_led is (below.WhileDo until n k) b d s t h = when_led _ _ (any_led is _ (goes _ (suc d) b _ h.2 tt))
list_end_led is (below.ForDo x ws n) b d s t h = when_led _ _ (any_led is _ (goes _ (suc d) b _ h.2 tt))
list_end_led is (below.Arm c ws n) b d s t h = on_op_led _ t (λ o. after_arm_led _ b d _ o h.2)
list_end_led is (below.Command ps m n) b d s t h = when_led _ _ (goes _ (suc d) b _ h.2 tt)
list_end_led is (below.Backquote ps m n) b d s t h = when_led _ _ (goes _ (suc d) b _ h.2 tt)
list_end_led is f b d s t h = none

list_ended_led : (is : List AndOr) (b : List Below) (d : ℕ) (s : Draft) (t : Token) → Fits in_list d b → Led (machine.list_ended is b d s t)
list_ended_led is [] d s t h = none
list_ended_led is (f ∷ b) d s t h = list_end_led is f b d s t h

-- ---- commands and pipelines that end

and_or_op_led : (is : List AndOr) (a : AndOr) (b : List Below) (d : ℕ) (s : Draft) (o : Op) → Fits in_list d b → Led (machine.and_or_op is a b d s o)
and_or_op_led is a b d s op.AndIf h = goes _ d b s h tt
and_or_op_led is a b d s op.OrIf h = goes _ d b s h tt
and_or_op_led is a b d s op.Semi h = goes _ d b s h tt
and_or_op_led is a b d s o h = list_ended_led _ b d s (token.Operator o) h

and_or_end_led : (is : List AndOr) (a : AndOr) (b : List Below) (d : ℕ) (s : Draft) (m : Mode) (e : End) → Fits in_list d b → Led (machine.and_or_end is a b d s m e)
and_or_end_led is a b d s m end.Newline h = newline_led (gap.Begin (is ++ a ∷ [])) b d s m (record { fits = h; opens = tt })
and_or_end_led is a b d s m e h = list_ended_led _ b d s (token.End e m) h

after_led : (is : List AndOr) (a : AndOr) (b : List Below) (d : ℕ) (s : Draft) (t : Token) → Fits in_list d b → Led (machine.after is a b d s t)
after_led is a b d s (token.Operator o) h = and_or_op_led is a b d s o h
after_led is a b d s (token.End e m) h = and_or_end_led is a b d s m e h
after_led is a b d s t h = none

after_pipeline_led : (p : Pipe) (b : List Below) (d : ℕ) (s : Draft) (t : Token) → Fits in_list d b →
    Led (machine.after p.items (machine.this_and_or p.before p.leaf) b d (end_leaf p.leaf p.bang p.stages s) t)
after_pipeline_led p b d s t h = after_led p.items (machine.this_and_or p.before p.leaf) b d (end_leaf p.leaf p.bang p.stages s) t h

piped_op_led : (p : Pipe) (b : List Below) (d : ℕ) (s : Draft) (o : Op) → Fits in_list d b → Led (machine.piped_op p b d s o)
piped_op_led p b d s op.Pipe h = goes _ d (below.Pipe p ∷ b) s (refl, tt, h) tt
piped_op_led p b d s o h = after_pipeline_led p b d s (token.Operator o) h

piped_led : (p : Pipe) (b : List Below) (d : ℕ) (s : Draft) (t : Token) → Fits in_list d b → Led (machine.piped p b d s t)
piped_led p b d s (token.Operator o) h = piped_op_led p b d s o h
piped_led p b d s t h = after_pipeline_led p b d s t h

command_ended_led : (c : Command) (b : List Below) (d : ℕ) (s : Draft) (t : Token) → Fits in_command d b → Led (machine.command_ended c b d s t)
command_ended_led c [] d s t h = none
command_ended_led c (below.Function x n ∷ b) d s t h = command_ended_led (command.Function x n) b d (end_body n c s) t h.2
command_ended_led c (below.Pipe p ∷ b) d s t h = piped_led (machine.with_stage c p) b d s t h.2
command_ended_led c (f ∷ b) d s t h = none

-- ---- commands

element_led : (c : Simple) (b : List Below) (d : ℕ) (s : Draft) (t : Token) → Fits in_command d b → Led (machine.element c b d s t)
element_led c b d s (token.Assign x) h = goes _ d (below.Assign x c ∷ b) s (refl, tt, h) tt
element_led c b d s (token.Redirect fd o) h = goes _ d (below.Redirect fd o (host.Simple c) ∷ b) s (refl, tt, h) tt
element_led c b d s (token.Here fd strip) h = goes _ d b s h tt
element_led c b d s t h = parts_led [] (below.Argument c ∷ b) d s t (refl, tt, h)

elements_led : (c : Simple) (b : List Below) (d : ℕ) (s : Draft) (t : Token) → Fits in_command d b → Led (machine.elements c b d s t)
elements_led c b d s (token.Operator o) h = command_ended_led (simple c) b d s (token.Operator o) h
elements_led c b d s (token.End e m) h = command_ended_led (simple c) b d s (token.End e m) h
elements_led c b d s t h = element_led c b d s t h

redirs_led : (x : Compound) (rs : List Redir) (b : List Below) (d : ℕ) (s : Draft) (t : Token) → Fits in_command d b → Led (machine.redirs x rs b d s t)
redirs_led x rs b d s (token.Redirect fd o) h = goes _ d (below.Redirect fd o (host.Compound x rs) ∷ b) s (refl, tt, h) tt
redirs_led x rs b d s (token.Here fd strip) h = goes _ d b s h tt
redirs_led x rs b d s t h = command_ended_led (command.Compound x rs) b d s t h

delimiter_led : (fd : ℕ) (strip : Bool) (x : Host) (b : List Below) (d : ℕ) (s : Draft) (t : Token) → Fits in_command d b → Led (machine.delimiter fd strip x b d s t)
delimiter_led fd strip x b d s (token.Delimiter y quoted m) h = when_led _ _ (redirected_led _ x b d _ h)
delimiter_led fd strip x b d s t h = none

open_compound_led : (b : List Below) (d : ℕ) (s : Draft) (o : Op) → Fits in_command d b → Led (machine.open_compound b d s o)
open_compound_led b d s op.LeftBrace h = opened_led in_command d b _ (record { fits = h }) (λ r k. list_opened _ b r _ refl tt k)
open_compound_led b d s op.Open h = opened_led in_command d b _ (record { fits = h }) (λ r k. list_opened _ b r _ refl tt k)
open_compound_led b d s op.If h = opened_led in_command d b _ (record { fits = h }) (λ r k. list_opened _ b r _ refl tt k)
open_compound_led b d s op.While h = opened_led in_command d b _ (record { fits = h }) (λ r k. list_opened _ b r _ refl tt k)
open_compound_led b d s op.Until h = opened_led in_command d b _ (record { fits = h }) (λ r k. list_opened _ b r _ refl tt k)
open_compound_led b d s op.For h = opened_led in_command d b _ (record { fits = h }) (λ r k. goes now.For r b s k tt)
open_compound_led b d s op.Case h = opened_led in_command d b _ (record { fits = h }) (λ r k. goes _ r (below.CaseWord ∷ b) s (refl, tt, k) tt)
open_compound_led b d s o h = none

one_command_led : (b : List Below) (d : ℕ) (s : Draft) (t : Token) → Fits in_command d b → Led (machine.one_command b d s t)
one_command_led b d s (token.Operator o) h = open_compound_led b d s o h
one_command_led b d s (token.Function x) h = opened_led in_command d b _ (record { fits = h }) (λ r k. goes (now.Name x) (suc r) b s k (omega arith))
one_command_led b d s t h = element_led no_simple b d s t h

plain_pipeline_led : (is : List AndOr) (before : Option (AndOr × Join)) (b : List Below) (d : ℕ) (s : Draft) (t : Token) → Fits in_list d b →
    Led (machine.plain_pipeline is before b d s t)
plain_pipeline_led is before b d s t h = one_command_led (below.Pipe (machine.pipe is before false s) ∷ b) d (begin_leaf false s) t (refl, tt, h)

pipeline_op_led : (is : List AndOr) (before : Option (AndOr × Join)) (b : List Below) (d : ℕ) (s : Draft) (o : Op) → Fits in_list d b →
    Led (machine.pipeline_op is before b d s o)
pipeline_op_led is before b d s op.Bang h = goes now.Bang d (below.Pipe (machine.pipe is before true s) ∷ b) _ (refl, tt, h) tt
pipeline_op_led is before b d s o h = plain_pipeline_led is before b d s (token.Operator o) h

pipeline_led : (is : List AndOr) (before : Option (AndOr × Join)) (b : List Below) (d : ℕ) (s : Draft) (t : Token) → Fits in_list d b →
    Led (machine.pipeline is before b d s t)
pipeline_led is before b d s (token.Operator o) h = pipeline_op_led is before b d s o h
pipeline_led is before b d s t h = plain_pipeline_led is before b d s t h

-- ---- places where newlines may stand

begin_led : (is : List AndOr) (b : List Below) (d : ℕ) (s : Draft) (t : Token) → Fits in_list d b → Led (machine.begin is b d s t)
begin_led is b d s (token.Operator o) h = cond_led (ends_list o) _ _ (list_ended_led is b d s (token.Operator o) h) (pipeline_led is None b d s (token.Operator o) h)
begin_led is b d s (token.End e m) h = list_ended_led is b d s (token.End e m) h
begin_led is b d s t h = pipeline_led is None b d s t h

arms_op_led : (c : Case) (b : List Below) (d : ℕ) (s : Draft) (o : Op) → Fits in_command (suc d) b → Led (machine.arms_op c b d s o)
arms_op_led c b d s op.OpenPattern h = goes _ d (below.Pattern c [] ∷ b) s (refl, tt, h) tt
arms_op_led c b d s op.Esac h = goes _ (suc d) b s h tt
arms_op_led c b d s o h = none

arms_led : (c : Case) (b : List Below) (d : ℕ) (s : Draft) (t : Token) → Fits in_command (suc d) b → Led (machine.arms c b d s t)
arms_led c b d s (token.Operator o) h = arms_op_led c b d s o h
arms_led c b d s t h = parts_led [] (below.Pattern c [] ∷ b) d s t (refl, tt, h)

after_for_led : (x : List ℕ) (b : List Below) (d : ℕ) (s : Draft) (o : Op) → Fits in_command (suc d) b → Led (machine.after_for x b d s o)
after_for_led x b d s op.In h = goes (now.ForWords x []) d b s h tt
after_for_led x b d s op.Do h = list_opened _ b d _ refl tt h
after_for_led x b d s o h = none

at_gap_led : (g : Gap) (b : List Below) (d : ℕ) (s : Draft) (t : Token) → Stand (now.Gap g) d b → Led (machine.at_gap g b d s t)
at_gap_led (gap.Begin is) b d s t h = begin_led is b d s t h.fits
at_gap_led (gap.Join is a j) b d s t h = pipeline_led is (Some (a, j)) b d s t h.fits
at_gap_led gap.Stage b d s t h = one_command_led b d s t h.fits
at_gap_led (gap.Function x) b d s t h = on_op_led _ t (λ o. open_compound_led (below.Function x (next_body s) ∷ b) d (begin_body s) o (refl, tt, h.fits))
at_gap_led (gap.In w) b d s t h = when_led _ _ (goes (now.Gap (gap.Arms (record { word = w; arms = [] }))) d b s h.fits tt)
at_gap_led (gap.Arms c) b d s t h = arms_led c b d s t h.fits
at_gap_led (gap.For x) b d s t h = on_op_led _ t (λ o. after_for_led x b d s o h.fits)
at_gap_led (gap.Do x ws) b d s t h = when_led _ _ (list_opened _ b d _ refl tt h.fits)

gap_end_led : (g : Gap) (b : List Below) (d : ℕ) (s : Draft) (m : Mode) (e : End) → Stand (now.Gap g) d b → Led (machine.gap_end g b d s m e)
gap_end_led g b d s m end.Newline h = newline_led g b d s m h
gap_end_led g b d s m e h = at_gap_led g b d s (token.End e m) h

in_gap_led : (g : Gap) (b : List Below) (d : ℕ) (s : Draft) (t : Token) → Stand (now.Gap g) d b → Led (machine.in_gap g b d s t)
in_gap_led g b d s (token.End e m) h = gap_end_led g b d s m e h
in_gap_led g b d s t h = at_gap_led g b d s t h

-- ---- the rest of `for` and `case`

for_bit_led : (b : List Below) (d : ℕ) (s : Draft) (x : Bit) → Fits in_command (suc d) b → Led (machine.for_bit b d s x)
for_bit_led b d s (bit.Piece x) h = when_led _ _ (goes (now.ForName x) d b s h tt)
for_bit_led b d s x h = none

for_name_led : (b : List Below) (d : ℕ) (s : Draft) (t : Token) → Fits in_command (suc d) b → Led (machine.for_name b d s t)
for_name_led b d s (token.Part x) h = for_bit_led b d s x h
for_name_led b d s t h = none

named_op_led : (x : List ℕ) (b : List Below) (d : ℕ) (s : Draft) (o : Op) → Fits in_command (suc d) b → Led (machine.named_op x b d s o)
named_op_led x b d s op.Semi h = goes (now.Gap (gap.Do x None)) d b s h tt
named_op_led x b d s o h = after_for_led x b d s o h

named_end_led : (x : List ℕ) (b : List Below) (d : ℕ) (s : Draft) (m : Mode) (e : End) → Fits in_command (suc d) b → Led (machine.named_end x b d s m e)
named_end_led x b d s m end.Newline h = newline_led (gap.For x) b d s m (record { fits = h; opens = tt })
named_end_led x b d s m e h = none

for_named_led : (x : List ℕ) (b : List Below) (d : ℕ) (s : Draft) (t : Token) → Fits in_command (suc d) b → Led (machine.for_named x b d s t)
for_named_led x b d s (token.Operator o) h = named_op_led x b d s o h
for_named_led x b d s (token.End e m) h = named_end_led x b d s m e h
for_named_led x b d s t h = none

for_op_led : (x : List ℕ) (ws : List Word) (b : List Below) (d : ℕ) (s : Draft) (o : Op) → Fits in_command (suc d) b → Led (machine.for_op x ws b d s o)
for_op_led x ws b d s op.Semi h = goes (now.Gap (gap.Do x (Some ws))) d b s h tt
for_op_led x ws b d s o h = none

for_end_led : (x : List ℕ) (ws : List Word) (b : List Below) (d : ℕ) (s : Draft) (m : Mode) (e : End) → Fits in_command (suc d) b → Led (machine.for_end x ws b d s m e)
for_end_led x ws b d s m end.Newline h = newline_led (gap.Do x (Some ws)) b d s m (record { fits = h; opens = tt })
for_end_led x ws b d s m e h = none

for_words_led : (x : List ℕ) (ws : List Word) (b : List Below) (d : ℕ) (s : Draft) (t : Token) → Fits in_command (suc d) b → Led (machine.for_words x ws b d s t)
for_words_led x ws b d s (token.Operator o) h = for_op_led x ws b d s o h
for_words_led x ws b d s (token.End e m) h = for_end_led x ws b d s m e h
for_words_led x ws b d s t h = parts_led [] (below.ForWord x ws ∷ b) d s t (refl, tt, h)

patterns_op_led : (c : Case) (ws : List Word) (b : List Below) (d : ℕ) (s : Draft) (o : Op) → Fits in_command (suc d) b → Led (machine.patterns_op c ws b d s o)
patterns_op_led c ws b d s op.PipePattern h = goes _ d (below.Pattern c ws ∷ b) s (refl, tt, h) tt
patterns_op_led c ws b d s op.Close h = list_opened _ b d _ refl tt h
patterns_op_led c ws b d s o h = none

-- ---- the law

step_led : (n : Now) (b : List Below) (d : ℕ) (s : Draft) (t : Token) → Stand n d b → Led (machine.step_now n b d s t)
step_led (now.Gap g) b d s t h = in_gap_led g b d s t h
step_led (now.Due x hs g) b d s t h = due_led x hs g b d s t (record { fits = h.fits; opens = h.opens })
step_led (now.Parts ps) b d s t h = parts_led ps b d s t h.fits
step_led (now.Elements c) b d s t h = elements_led c b d s t h.fits
step_led (now.Redirs x rs) b d s t h = redirs_led x rs b d s t h.fits
step_led now.Bang b d s t h = one_command_led b d s t h.fits
step_led (now.Delimiter fd strip x) b d s t h = delimiter_led fd strip x b d s t h.fits
step_led (now.Name x) b d s t h = when_led _ _ (goes (now.Named x) d b s h.fits h.opens)
step_led (now.Named x) b d s t h = when_led _ _ (goes (now.Gap (gap.Function x)) d b s h.fits h.opens)
step_led now.For b d s t h = for_name_led b d s t h.fits
step_led (now.ForName x) b d s t h = when_led _ _ (goes (now.ForNamed x) d b s h.fits tt)
step_led (now.ForNamed x) b d s t h = for_named_led x b d s t h.fits
step_led (now.ForWords x ws) b d s t h = for_words_led x ws b d s t h.fits
step_led (now.Patterns c ws) b d s t h = on_op_led _ t (λ o. patterns_op_led c ws b d s o h.fits)

pub stand-start : (d : ℕ) → Stand (now.Gap (gap.Begin [])) d []
stand-start d = record { fits = tt; opens = tt }

pub stand-next : (st next : State) (t : Token) → Stand st.now st.room st.below → machine.step st t ≡ Some next → Stand next.now next.room next.below
stand-next st next t h e = (subst (λ (o : Option State). Led o) e (step_led st.now st.below st.room st.script t h)).is
