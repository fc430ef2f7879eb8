-- Each token of the machine begins one list, one pipeline, one body of a function and one here-document at most, and gives
-- back room for one opening at most. What it leaves open has begun.
use Rattle.std.proofs.Common.{◌≡◌, ℕ, zero, suc, ◌+◌, ◌<◌, ◌≤◌, Bool, true, false, cond, List, [], ◌∷◌, ◌++◌, length, Option, Some, None, refl, subst, arith, length-set, length-append}
use Rattle.sh_syntax.specs.declared.tree.Part.{Part}
use Rattle.sh_syntax.specs.declared.tree.Part.TheVariants as part
use Rattle.sh_syntax.specs.declared.tree.Word.{Word}
use Rattle.sh_syntax.specs.declared.tree.Redir.{Redir}
use Rattle.sh_syntax.specs.declared.tree.Command.{Command}
use Rattle.sh_syntax.specs.declared.tree.Command.TheVariants as command
use Rattle.sh_syntax.specs.declared.tree.Compound.{Compound}
use Rattle.sh_syntax.specs.declared.tree.AndOr.{AndOr}
use Rattle.sh_syntax.specs.declared.tree.Join.{Join}
use Rattle.sh_lexer.specs.declared.token.Token.{Token}
use Rattle.sh_lexer.specs.declared.token.Token.TheVariants as token
use Rattle.sh_lexer.specs.declared.token.Op.{Op}
use Rattle.sh_lexer.specs.declared.token.Op.TheVariants as op
use Rattle.sh_lexer.specs.declared.token.Bit.{Bit}
use Rattle.sh_lexer.specs.declared.token.Bit.TheVariants as bit
use Rattle.sh_lexer.specs.declared.token.Opener.{Opener}
use Rattle.sh_lexer.specs.declared.token.Opener.TheVariants as opener
use Rattle.sh_lexer.specs.declared.token.End.{End}
use Rattle.sh_lexer.specs.declared.token.End.TheVariants as end
use Rattle.sh_lexer.specs.declared.token.Mode.{Mode}
use Rattle.sh_grammar.specs.declared.state.Due.{Due}
use Rattle.sh_grammar.specs.declared.state.Draft.{Draft}
use Rattle.sh_grammar.specs.declared.state.Simple.{Simple}
use Rattle.sh_grammar.specs.declared.state.Pipe.{Pipe}
use Rattle.sh_grammar.specs.declared.state.Case.{Case}
use Rattle.sh_grammar.specs.declared.state.Host.{Host}
use Rattle.sh_grammar.specs.declared.state.Host.TheVariants as host
use Rattle.sh_grammar.specs.declared.state.Gap.{Gap}
use Rattle.sh_grammar.specs.declared.state.Gap.TheVariants as gap
use Rattle.sh_grammar.specs.declared.state.Now.{Now}
use Rattle.sh_grammar.specs.declared.state.Now.TheVariants as now
use Rattle.sh_grammar.specs.declared.state.Below.{Below}
use Rattle.sh_grammar.specs.declared.state.Below.TheVariants as below
use Rattle.sh_grammar.specs.Draft.{begin_list, end_list, begin_leaf, end_leaf, begin_body, end_body, begin_here, end_here, none_due, next_leaf, next_body}
use Rattle.sh_grammar.specs.Grammar.{no_simple, simple}
use Rattle.sh_grammar.specs.Tests.{ends_list}
use Rattle.sh_grammar.specs.Machine as machine
use Rattle.sh_grammar.specs.Machine.{State, at, when, if_any, opened, on_op}
use Rattle.sh_machine.specs.Numbers.{DueBegun, HasBegun, AllBegun, NowBegun}
use Rattle.sh_machine.specs.Numbered.{Numbered, Within}
use Rattle.sh_machine.proofs.Begun.{Keeps, due-kept, begun-kept, all-kept}

-- ---- how a draft grows

-- at most one list and one here-document more
record Grows (s t : Draft) : Type 0 where
  pub keeps : Keeps s t
  pub lists : length t.script.lists ≤ suc (length s.script.lists)
  pub leaves : length t.script.leaves ≤ length s.script.leaves
  pub bodies : length t.script.bodies ≤ length s.script.bodies
  pub heres : length t.heres ≤ suc (length s.heres)

same : (s : Draft) → Grows s s
same s = record {
  keeps = record { lists = omega arith; leaves = omega arith; bodies = omega arith; heres = omega arith };
  lists = omega arith;
  leaves = omega arith;
  bodies = omega arith;
  heres = omega arith;
}

by_lengths : (s t : Draft) → length s.script.lists ≤ length t.script.lists → length t.script.lists ≤ suc (length s.script.lists) →
    length t.script.leaves ≡ length s.script.leaves → length t.script.bodies ≡ length s.script.bodies →
    length s.heres ≤ length t.heres → length t.heres ≤ suc (length s.heres) → Grows s t
by_lengths s t a b c d e f = record {
  keeps = record { lists = a; leaves = omega (arith, c); bodies = omega (arith, d); heres = e };
  lists = b;
  leaves = omega (arith, c);
  bodies = omega (arith, d);
  heres = f;
}

list_begins : (s : Draft) → Grows s (begin_list s)
list_begins s = let e = length-append s.script.lists (record { items = [] } ∷ []) in
    by_lengths s (begin_list s) (omega (arith, e)) (omega (arith, e)) refl refl (omega arith) (omega arith)

list_ends : (n : ℕ) (is : List AndOr) (s : Draft) → Grows s (end_list n is s)
list_ends n is s = let e = length-set s.script.lists n (record { items = is }) in
    by_lengths s (end_list n is s) (omega (arith, e)) (omega (arith, e)) refl refl (omega arith) (omega arith)

leaf_ends : (n : ℕ) (bang : Bool) (cs : List Command) (s : Draft) → Grows s (end_leaf n bang cs s)
leaf_ends n bang cs s = let e = length-set s.script.leaves n (record { bang = bang; stages = cs }) in
    by_lengths s (end_leaf n bang cs s) (omega arith) (omega arith) e refl (omega arith) (omega arith)

body_ends : (n : ℕ) (c : Command) (s : Draft) → Grows s (end_body n c s)
body_ends n c s = let e = length-set s.script.bodies n c in
    by_lengths s (end_body n c s) (omega arith) (omega arith) refl e (omega arith) (omega arith)

here_begins : (x : List ℕ) (strip quoted : Bool) (s : Draft) → Grows s (begin_here x strip quoted s)
here_begins x strip quoted s = let e = length-append s.heres (record { parts = [] } ∷ []) in
    by_lengths s (begin_here x strip quoted s) (omega arith) (omega arith) refl refl (omega (arith, e)) (omega (arith, e))

here_ends : (n : ℕ) (x : Part) (s : Draft) → Grows s (end_here n x s)
here_ends n x s = let e = length-set s.heres n (record { parts = x ∷ [] }) in
    by_lengths s (end_here n x s) (omega arith) (omega arith) refl refl (omega (arith, e)) (omega (arith, e))

newline_comes : (s : Draft) → Grows s (none_due s)
newline_comes s = by_lengths s (none_due s) (omega arith) (omega arith) refl refl (omega arith) (omega arith)

-- ---- what is so within a step: a pipeline and a body may have begun already

record Half (k : ℕ) (b : List Below) (d : ℕ) (s : Draft) : Type 0 where
  pub whole : 0 < length s.script.lists
  pub below : AllBegun b s
  pub due : DueBegun s.due s
  pub lists : length s.script.lists ≤ k
  pub leaves : length s.script.leaves ≤ suc k
  pub bodies : length s.script.bodies ≤ suc k
  pub heres : length s.heres ≤ k
  pub room : d ≤ k

abbrev Leads : ℕ → Option State → Type 0
Leads k None = Unit {0}
Leads k (Some st) = Numbered st × Within k st

-- If there is a next state, all that is open in it has begun, and no more than k of each.
record Led (k : ℕ) (o : Option State) : Type 0 where
  pub is : Leads k o

none : {k : ℕ} → Led k None
none = record { is = tt }

leads : {k d : ℕ} {b : List Below} {s : Draft} (n : Now) (b' : List Below) (d' : ℕ) (t : Draft) → Half k b d s → Grows s t → d' ≤ suc d →
    AllBegun b' t → NowBegun n t → DueBegun t.due t → Led (suc k) (Some (at n b' d' t))
leads n b' d' t h g r a e f = record {
  is = (
    record { whole = omega (arith, h.whole, g.keeps.lists); now = e; below = a; due = f },
    record {
      lists = omega (arith, h.lists, g.lists);
      leaves = omega (arith, h.leaves, g.leaves);
      bodies = omega (arith, h.bodies, g.bodies);
      heres = omega (arith, h.heres, g.heres);
      room = omega (arith, h.room, r);
    },
  );
}

-- the script stays
stays : {k d : ℕ} {b : List Below} {s : Draft} (n : Now) → Half k b d s → NowBegun n s → Led (suc k) (Some (at n b d s))
stays {k} {d} {b} {s} n h e = leads n b d s h (same s) (omega arith) h.below e h.due

-- and one more opening may be opened
closes : {k d : ℕ} {b : List Below} {s : Draft} (n : Now) → Half k b d s → NowBegun n s → Led (suc k) (Some (at n b (suc d) s))
closes {k} {d} {b} {s} n h e = leads n b (suc d) s h (same s) (omega arith) h.below e h.due

-- one more thing is open
pushes : {k d : ℕ} {b : List Below} {s : Draft} (n : Now) (f : Below) → Half k b d s → HasBegun f s → NowBegun n s → Led (suc k) (Some (at n (f ∷ b) d s))
pushes {k} {d} {b} {s} n f h a e = leads n (f ∷ b) d s h (same s) (omega arith) (a, h.below) e h.due

half_on : {k d : ℕ} {b : List Below} {s : Draft} (b' : List Below) (d' : ℕ) → Half k b d s → AllBegun b' s → d' ≤ d → Half k b' d' s
half_on b' d' h a r = record {
  whole = h.whole;
  below = a;
  due = h.due;
  lists = h.lists;
  leaves = h.leaves;
  bodies = h.bodies;
  heres = h.heres;
  room = omega (arith, h.room, r);
}

-- where only the lengths stay
half_kept : {k d : ℕ} {b : List Below} {s : Draft} (t : Draft) → Half k b d s → Grows s t → t.due ≡ s.due → length t.script.lists ≡ length s.script.lists →
    length t.heres ≡ length s.heres → DueBegun t.due t → Half k b d t
half_kept {k} {d} {b} {s} t h g e l m f = record {
  whole = omega (arith, h.whole, l);
  below = all-kept b s t g.keeps h.below;
  due = f;
  lists = omega (arith, h.lists, l);
  leaves = omega (arith, h.leaves, g.leaves);
  bodies = omega (arith, h.bodies, g.bodies);
  heres = omega (arith, h.heres, m);
  room = h.room;
}

half_list : {k d : ℕ} {b : List Below} {s : Draft} (n : ℕ) (is : List AndOr) → Half k b d s → Half k b d (end_list n is s)
half_list {k} {d} {b} {s} n is h = let g = list_ends n is s in
    half_kept (end_list n is s) h g refl (length-set s.script.lists n (record { items = is })) refl (due-kept s.due s (end_list n is s) g.keeps h.due)

half_leaf : {k d : ℕ} {b : List Below} {s : Draft} (n : ℕ) (bang : Bool) (cs : List Command) → Half k b d s → Half k b d (end_leaf n bang cs s)
half_leaf {k} {d} {b} {s} n bang cs h = let g = leaf_ends n bang cs s in
    half_kept (end_leaf n bang cs s) h g refl refl refl (due-kept s.due s (end_leaf n bang cs s) g.keeps h.due)

half_body : {k d : ℕ} {b : List Below} {s : Draft} (n : ℕ) (c : Command) → Half k b d s → Half k b d (end_body n c s)
half_body {k} {d} {b} {s} n c h = let g = body_ends n c s in
    half_kept (end_body n c s) h g refl refl refl (due-kept s.due s (end_body n c s) g.keeps h.due)

-- ---- tests

when_leads : {k : ℕ} (b : Bool) (o : Option State) → Led k o → Led k (when b o)
when_leads true o h = h
when_leads false o h = none

any_leads : {k : ℕ} {A : Type 0} (xs : List A) (o : Option State) → Led k o → Led k (if_any xs o)
any_leads [] o h = none
any_leads (x ∷ xs) o h = h

opened_leads : {k : ℕ} (d : ℕ) (f : ℕ → State) → ((r : ℕ) → r < d → Led k (Some (f r))) → Led k (opened d f)
opened_leads zero f h = none
opened_leads (suc d) f h = h d (omega arith)

on_op_leads : {k : ℕ} (f : Op → Option State) (t : Token) → ((o : Op) → Led k (f o)) → Led k (on_op f t)
on_op_leads f (token.Operator o) h = h o
on_op_leads f t h = none

cond_leads : {k : ℕ} (b : Bool) (o p : Option State) → Led k o → Led k p → Led k (cond b o p)
cond_leads true o p h g = h
cond_leads false o p h g = g

-- ---- newlines and bodies

next_due-begun : (hs : List Due) (g : Gap) (s : Draft) → DueBegun hs s → NowBegun (machine.next_due hs g) s
next_due-begun [] g s h = tt
next_due-begun (x ∷ hs) g s h = h

newline-leads : {k d : ℕ} {b : List Below} {s : Draft} (g : Gap) (m : Mode) → Half k b d s → Led (suc k) (machine.newline g b d s m)
newline-leads {k} {d} {b} {s} g m h = let t = none_due s in
    when_leads _ _ (leads (machine.next_due s.due g) b d t h (newline_comes s) (omega arith)
    (all-kept b s t (newline_comes s).keeps h.below) (next_due-begun s.due g t (due-kept s.due s t (newline_comes s).keeps h.due)) tt)

body_ended : {k d : ℕ} {b : List Below} {s : Draft} (n : ℕ) (x : Part) (hs : List Due) (g : Gap) → Half k b d s → DueBegun hs s →
    Led (suc k) (Some (at (machine.next_due hs g) b d (end_here n x s)))
body_ended {k} {d} {b} {s} n x hs g h e = let t = end_here n x s in let r = (here_ends n x s).keeps in
    leads (machine.next_due hs g) b d t h (here_ends n x s) (omega arith) (all-kept b s t r h.below)
    (next_due-begun hs g t (due-kept hs s t r e)) (due-kept s.due s t r h.due)

due-leads : {k d : ℕ} {b : List Below} {s : Draft} (x : Due) (hs : List Due) (g : Gap) (t : Token) → Half k b d s →
    NowBegun (now.Due x hs g) s → Led (suc k) (machine.due x hs g b d s t)
due-leads x hs g (token.Verbatim y m) h e = when_leads _ _ (body_ended x.number (part.Single y) hs g h e.1)
due-leads x hs g token.Body h e = pushes (now.Parts []) (below.Body x.number hs g) h e tt
due-leads x hs g t h e = none

-- ---- parts

redirected-leads : {k d : ℕ} {b : List Below} {s : Draft} (r : Redir) (x : Host) → Half k b d s → Led (suc k) (Some (at (machine.redirected r x) b d s))
redirected-leads r (host.Simple c) h = stays _ h tt
redirected-leads r (host.Compound x rs) h = stays _ h tt

parts_end-leads : {k d : ℕ} {b : List Below} {s : Draft} (ps : List Part) (f : Below) (t : Token) → Half k b d s → HasBegun f s →
    Led (suc k) (machine.parts_end ps f b d s t)
parts_end-leads ps (below.Argument c) t h e = when_leads _ _ (any_leads ps _ (stays _ h tt))
parts_end-leads ps (below.Assign x c) t h e = when_leads _ _ (stays _ h tt)
parts_end-leads ps (below.Redirect fd o x) t h e = when_leads _ _ (any_leads ps _ (redirected-leads _ x h))
parts_end-leads ps (below.ForWord x ws) t h e = when_leads _ _ (any_leads ps _ (stays _ h tt))
parts_end-leads ps below.CaseWord t h e = when_leads _ _ (any_leads ps _ (stays _ h tt))
parts_end-leads ps (below.Pattern c ws) t h e = when_leads _ _ (any_leads ps _ (stays _ h tt))
parts_end-leads ps (below.Double qs m) t h e = when_leads _ _ (stays _ h tt)
parts_end-leads ps (below.Braces qs x o c m) t h e = when_leads _ _ (closes _ h tt)
parts_end-leads ps (below.Arith qs m) t h e = when_leads _ _ (closes _ h tt)
parts_end-leads ps (below.Body n hs g) t h e = when_leads _ _ (body_ended n (part.Double ps) hs g h e.1)
parts_end-leads ps f t h e = none

parts_ended-leads : {k d : ℕ} {s : Draft} (ps : List Part) (b : List Below) (t : Token) → Half k b d s → Led (suc k) (machine.parts_ended ps b d s t)
parts_ended-leads ps [] t h = none
parts_ended-leads ps (f ∷ b) t h = parts_end-leads ps f t (half_on b _ h h.below.1 (omega arith)) h.below.0

-- a list begins
begins : {k d : ℕ} {b : List Below} {s : Draft} (f : Below) → Half k b d s → HasBegun f (begin_list s) →
    Led (suc k) (Some (at (now.Gap (gap.Begin [])) (f ∷ b) d (begin_list s)))
begins {k} {d} {b} {s} f h e = let t = begin_list s in let g = list_begins s in
    leads (now.Gap (gap.Begin [])) (f ∷ b) d t h g (omega arith) (e, all-kept b s t g.keeps h.below) tt (due-kept s.due s t g.keeps h.due)

within : (s : Draft) → length s.script.lists < length (begin_list s).script.lists
within s = omega (arith, length-append s.script.lists (record { items = [] } ∷ []))

open_part-leads : {k d : ℕ} {b : List Below} {s : Draft} (ps : List Part) (m : Mode) (o : Opener) → Half k b d s → Led (suc k) (machine.open_part ps b d s m o)
open_part-leads ps m opener.Double h = pushes _ _ h tt tt
open_part-leads {k} {d} {b} {s} ps m (opener.Braces x o c q) h = opened_leads d _ (λ r e. pushes _ _ (half_on b r h h.below (omega (arith, e))) tt tt)
open_part-leads {k} {d} {b} {s} ps m opener.Command h = opened_leads d _ (λ r e. begins _ (half_on b r h h.below (omega (arith, e))) (within s))
open_part-leads {k} {d} {b} {s} ps m opener.Arith h = opened_leads d _ (λ r e. pushes _ _ (half_on b r h h.below (omega (arith, e))) tt tt)
open_part-leads {k} {d} {b} {s} ps m opener.Backquote h = opened_leads d _ (λ r e. begins _ (half_on b r h h.below (omega (arith, e))) (within s))

parts-leads : {k d : ℕ} {b : List Below} {s : Draft} (ps : List Part) (t : Token) → Half k b d s → Led (suc k) (machine.parts ps b d s t)
parts-leads ps (token.Part x) h = stays _ h tt
parts-leads {k} {d} {b} {s} ps (token.Param x l) h = opened_leads d _ (λ r e. closes _ (half_on b r h h.below (omega (arith, e))) tt)
parts-leads ps (token.Open o m) h = open_part-leads ps m o h
parts-leads {k} {d} {b} {s} ps (token.End e m) h = parts_ended-leads ps b (token.End e m) h
parts-leads ps t h = none

-- ---- lists that end

-- a list ends, and with it a compound command
ends : {k d : ℕ} {b : List Below} {s : Draft} (n : ℕ) (is : List AndOr) (x : Compound) → Half k b d s →
    Led (suc k) (Some (at (now.Redirs x []) b (suc d) (end_list n is s)))
ends n is x h = closes _ (half_list n is h) tt

-- a list ends, and the next one begins
goes_on : {k d : ℕ} {b : List Below} {s : Draft} (n : ℕ) (is : List AndOr) (f : Below) → Half k b d s → HasBegun f (begin_list (end_list n is s)) →
    Led (suc k) (Some (at (now.Gap (gap.Begin [])) (f ∷ b) d (begin_list (end_list n is s))))
goes_on n is f h e = begins f (half_list n is h) e

within_next : (s : Draft) (n : ℕ) (is : List AndOr) → length s.script.lists < length (begin_list (end_list n is s)).script.lists
within_next s n is = omega (arith, within (end_list n is s), length-set s.script.lists n (record { items = is }))

after_branch-leads : {k d : ℕ} {b : List Below} {s : Draft} (bs : List (ℕ × ℕ)) (o : Op) → Half k b d s → Led (suc k) (machine.after_branch bs b d s o)
after_branch-leads bs op.Fi h = closes _ h tt
after_branch-leads {k} {d} {b} {s} bs op.Elif h = begins _ h (within s)
after_branch-leads {k} {d} {b} {s} bs op.Else h = begins _ h (within s)
after_branch-leads bs o h = none

after_arm-leads : {k d : ℕ} {b : List Below} {s : Draft} (c : Case) (o : Op) → Half k b d s → Led (suc k) (machine.after_arm c b d s o)
after_arm-leads c op.DoubleSemi h = stays _ h tt
after_arm-leads c op.Esac h = closes _ h tt
after_arm-leads c o h = none

list_end-leads : {k d : ℕ} {b : List Below} {s : Draft} (is : List AndOr) (f : Below) (t : Token) → Half k b d s → Led (suc k) (machine.list_end is f b d s t)
list_end-leads is (below.Group n) t h = when_leads _ _ (any_leads is _ (ends n is _ h))
list_end-leads is (below.Subshell n) t h = when_leads _ _ (any_leads is _ (ends n is _ h))
list_end-leads {k} {d} {b} {s} is (below.Test bs n) t h = when_leads _ _ (any_leads is _ (goes_on n is _ h (within_next s n is)))
list_end-leads is (below.Then bs n l) t h = any_leads is _ (on_op_leads _ t (λ o. after_branch-leads _ o (half_list l is h)))
list_end-leads is (below.Else bs n) t h = when_leads _ _ (any_leads is _ (ends n is _ h))
list_end-leads {k} {d} {b} {s} is (below.While until n) t h = when_leads _ _ (any_leads is _ (goes_on n is _ h (within_next s n is)))
list_end-leads is (below.WhileDo until n l) t h = when_leads _ _ (any_leads is _ (ends l is _ h))
list_end-leads is (below.ForDo x ws n) t h = when_leads _ _ (any_leads is _ (ends n is _ h))
list_end-leads is (below.Arm c ws n) t h = on_op_leads _ t (λ o. after_arm-leads _ o (half_list n is h))
list_end-leads is (below.Command ps m n) t h = when_leads _ _ (closes _ (half_list n is h) tt)
list_end-leads is (below.Backquote ps m n) t h = when_leads _ _ (closes _ (half_list n is h) tt)
list_end-leads is f t h = none

list_ended-leads : {k d : ℕ} {s : Draft} (is : List AndOr) (b : List Below) (t : Token) → Half k b d s → Led (suc k) (machine.list_ended is b d s t)
list_ended-leads is [] t h = none
list_ended-leads is (f ∷ b) t h = list_end-leads is f t (half_on b _ h h.below.1 (omega arith))

-- ---- commands and pipelines that end

and_or_op-leads : {k d : ℕ} {b : List Below} {s : Draft} (is : List AndOr) (a : AndOr) (o : Op) → Half k b d s → Led (suc k) (machine.and_or_op is a b d s o)
and_or_op-leads is a op.AndIf h = stays _ h tt
and_or_op-leads is a op.OrIf h = stays _ h tt
and_or_op-leads is a op.Semi h = stays _ h tt
and_or_op-leads {k} {d} {b} {s} is a o h = list_ended-leads _ b (token.Operator o) h

and_or_end-leads : {k d : ℕ} {b : List Below} {s : Draft} (is : List AndOr) (a : AndOr) (m : Mode) (e : End) → Half k b d s →
    Led (suc k) (machine.and_or_end is a b d s m e)
and_or_end-leads is a m end.Newline h = newline-leads (gap.Begin (is ++ a ∷ [])) m h
and_or_end-leads {k} {d} {b} {s} is a m e h = list_ended-leads _ b (token.End e m) h

after-leads : {k d : ℕ} {b : List Below} {s : Draft} (is : List AndOr) (a : AndOr) (t : Token) → Half k b d s → Led (suc k) (machine.after is a b d s t)
after-leads is a (token.Operator o) h = and_or_op-leads is a o h
after-leads is a (token.End e m) h = and_or_end-leads is a m e h
after-leads is a t h = none

after_pipeline-leads : {k d : ℕ} {b : List Below} {s : Draft} (p : Pipe) (t : Token) → Half k b d s →
    Led (suc k) (machine.after p.items (machine.this_and_or p.before p.leaf) b d (end_leaf p.leaf p.bang p.stages s) t)
after_pipeline-leads p t h = after-leads _ _ t (half_leaf p.leaf p.bang p.stages h)

piped_op-leads : {k d : ℕ} {b : List Below} {s : Draft} (p : Pipe) (o : Op) → Half k b d s → HasBegun (below.Pipe p) s → Led (suc k) (machine.piped_op p b d s o)
piped_op-leads p op.Pipe h e = pushes _ (below.Pipe p) h e tt
piped_op-leads p o h e = after_pipeline-leads p (token.Operator o) h

piped-leads : {k d : ℕ} {b : List Below} {s : Draft} (p : Pipe) (t : Token) → Half k b d s → HasBegun (below.Pipe p) s → Led (suc k) (machine.piped p b d s t)
piped-leads p (token.Operator o) h e = piped_op-leads p o h e
piped-leads p t h e = after_pipeline-leads p t h

command_ended-leads : {k d : ℕ} {s : Draft} (c : Command) (b : List Below) (t : Token) → Half k b d s → Led (suc k) (machine.command_ended c b d s t)
command_ended-leads c [] t h = none
command_ended-leads c (below.Function x n ∷ b) t h =
    command_ended-leads (command.Function x n) b t (half_body n c (half_on b _ h h.below.1 (omega arith)))
command_ended-leads c (below.Pipe p ∷ b) t h = piped-leads (machine.with_stage c p) t (half_on b _ h h.below.1 (omega arith)) h.below.0
command_ended-leads c (f ∷ b) t h = none

-- ---- commands

element-leads : {k d : ℕ} {b : List Below} {s : Draft} (c : Simple) (t : Token) → Half k b d s → Led (suc k) (machine.element c b d s t)
element-leads c (token.Assign x) h = pushes _ _ h tt tt
element-leads c (token.Redirect fd o) h = pushes _ _ h tt tt
element-leads c (token.Here fd strip) h = stays _ h tt
element-leads {k} {d} {b} {s} c t h = parts-leads [] t (half_on (below.Argument c ∷ b) d h (tt, h.below) (omega arith))

elements-leads : {k d : ℕ} {b : List Below} {s : Draft} (c : Simple) (t : Token) → Half k b d s → Led (suc k) (machine.elements c b d s t)
elements-leads {k} {d} {b} {s} c (token.Operator o) h = command_ended-leads (simple c) b (token.Operator o) h
elements-leads {k} {d} {b} {s} c (token.End e m) h = command_ended-leads (simple c) b (token.End e m) h
elements-leads c t h = element-leads c t h

redirs-leads : {k d : ℕ} {b : List Below} {s : Draft} (x : Compound) (rs : List Redir) (t : Token) → Half k b d s → Led (suc k) (machine.redirs x rs b d s t)
redirs-leads x rs (token.Redirect fd o) h = pushes _ _ h tt tt
redirs-leads x rs (token.Here fd strip) h = stays _ h tt
redirs-leads {k} {d} {b} {s} x rs t h = command_ended-leads (command.Compound x rs) b t h

due_more : (hs : List Due) (x : Due) (s : Draft) → DueBegun hs s → x.number < length s.heres → DueBegun (hs ++ x ∷ []) s
due_more [] x s h e = (e, tt)
due_more (y ∷ hs) x s h e = (h.0, due_more hs x s h.1 e)

host-begun : (r : Redir) (x : Host) (s : Draft) → NowBegun (machine.redirected r x) s
host-begun r (host.Simple c) s = tt
host-begun r (host.Compound x rs) s = tt

delimiter-leads : {k d : ℕ} {b : List Below} {s : Draft} (fd : ℕ) (strip : Bool) (x : Host) (t : Token) → Half k b d s →
    Led (suc k) (machine.delimiter fd strip x b d s t)
delimiter-leads {k} {d} {b} {s} fd strip x (token.Delimiter y quoted m) h =
    let t = begin_here y strip quoted s in let g = here_begins y strip quoted s in
    when_leads _ _ (leads _ b d t h g (omega arith) (all-kept b s t g.keeps h.below) (host-begun _ x t)
    (due_more s.due _ t (due-kept s.due s t g.keeps h.due) (omega (arith, length-append s.heres (record { parts = [] } ∷ [])))))
delimiter-leads fd strip x t h = none

open_compound-leads : {k d : ℕ} {b : List Below} {s : Draft} (o : Op) → Half k b d s → Led (suc k) (machine.open_compound b d s o)
open_compound-leads {k} {d} {b} {s} op.LeftBrace h = opened_leads d _ (λ r e. begins _ (half_on b r h h.below (omega (arith, e))) (within s))
open_compound-leads {k} {d} {b} {s} op.Open h = opened_leads d _ (λ r e. begins _ (half_on b r h h.below (omega (arith, e))) (within s))
open_compound-leads {k} {d} {b} {s} op.If h = opened_leads d _ (λ r e. begins _ (half_on b r h h.below (omega (arith, e))) (within s))
open_compound-leads {k} {d} {b} {s} op.While h = opened_leads d _ (λ r e. begins _ (half_on b r h h.below (omega (arith, e))) (within s))
open_compound-leads {k} {d} {b} {s} op.Until h = opened_leads d _ (λ r e. begins _ (half_on b r h h.below (omega (arith, e))) (within s))
open_compound-leads {k} {d} {b} {s} op.For h = opened_leads d _ (λ r e. stays _ (half_on b r h h.below (omega (arith, e))) tt)
open_compound-leads {k} {d} {b} {s} op.Case h = opened_leads d _ (λ r e. pushes _ _ (half_on b r h h.below (omega (arith, e))) tt tt)
open_compound-leads o h = none

one_command-leads : {k d : ℕ} {b : List Below} {s : Draft} (t : Token) → Half k b d s → Led (suc k) (machine.one_command b d s t)
one_command-leads (token.Operator o) h = open_compound-leads o h
one_command-leads {k} {d} {b} {s} (token.Function x) h = opened_leads d _ (λ r e. closes _ (half_on b r h h.below (omega (arith, e))) tt)
one_command-leads t h = element-leads no_simple t h

-- where no pipeline and no body has begun in this step
record Fine (k : ℕ) (b : List Below) (d : ℕ) (s : Draft) : Type 0 where
  pub half : Half k b d s
  pub leaves : length s.script.leaves ≤ k
  pub bodies : length s.script.bodies ≤ k

leaf_begun : {k d : ℕ} {b : List Below} {s : Draft} (is : List AndOr) (before : Option (AndOr × Join)) (bang : Bool) → Fine k b d s →
    Half k (below.Pipe (machine.pipe is before bang s) ∷ b) d (begin_leaf bang s)
leaf_begun {k} {d} {b} {s} is before bang h =
    let t = begin_leaf bang s in let e = length-append s.script.leaves (record { bang = bang; stages = [] } ∷ []) in
    let g : Keeps s t = record { lists = omega arith; leaves = omega (arith, e); bodies = omega arith; heres = omega arith } in
    record {
      whole = h.half.whole;
      below = (omega (arith, e), all-kept b s t g h.half.below);
      due = due-kept s.due s t g h.half.due;
      lists = h.half.lists;
      leaves = omega (arith, e, h.leaves);
      bodies = h.half.bodies;
      heres = h.half.heres;
      room = h.half.room;
    }

plain_pipeline-leads : {k d : ℕ} {b : List Below} {s : Draft} (is : List AndOr) (before : Option (AndOr × Join)) (t : Token) → Fine k b d s →
    Led (suc k) (machine.plain_pipeline is before b d s t)
plain_pipeline-leads is before t h = one_command-leads t (leaf_begun is before false h)

pipeline_op-leads : {k d : ℕ} {b : List Below} {s : Draft} (is : List AndOr) (before : Option (AndOr × Join)) (o : Op) → Fine k b d s →
    Led (suc k) (machine.pipeline_op is before b d s o)
pipeline_op-leads is before op.Bang h = stays now.Bang (leaf_begun is before true h) tt
pipeline_op-leads is before o h = plain_pipeline-leads is before (token.Operator o) h

pipeline-leads : {k d : ℕ} {b : List Below} {s : Draft} (is : List AndOr) (before : Option (AndOr × Join)) (t : Token) → Fine k b d s →
    Led (suc k) (machine.pipeline is before b d s t)
pipeline-leads is before (token.Operator o) h = pipeline_op-leads is before o h
pipeline-leads is before t h = plain_pipeline-leads is before t h

-- ---- places where newlines may stand

begin-leads : {k d : ℕ} {b : List Below} {s : Draft} (is : List AndOr) (t : Token) → Fine k b d s → Led (suc k) (machine.begin is b d s t)
begin-leads {k} {d} {b} {s} is (token.Operator o) h =
    cond_leads (ends_list o) _ _ (list_ended-leads is b (token.Operator o) h.half) (pipeline-leads is None (token.Operator o) h)
begin-leads {k} {d} {b} {s} is (token.End e m) h = list_ended-leads is b (token.End e m) h.half
begin-leads is t h = pipeline-leads is None t h

arms_op-leads : {k d : ℕ} {b : List Below} {s : Draft} (c : Case) (o : Op) → Half k b d s → Led (suc k) (machine.arms_op c b d s o)
arms_op-leads c op.OpenPattern h = pushes _ _ h tt tt
arms_op-leads c op.Esac h = closes _ h tt
arms_op-leads c o h = none

arms-leads : {k d : ℕ} {b : List Below} {s : Draft} (c : Case) (t : Token) → Half k b d s → Led (suc k) (machine.arms c b d s t)
arms-leads c (token.Operator o) h = arms_op-leads c o h
arms-leads {k} {d} {b} {s} c t h = parts-leads [] t (half_on (below.Pattern c [] ∷ b) d h (tt, h.below) (omega arith))

after_for-leads : {k d : ℕ} {b : List Below} {s : Draft} (x : List ℕ) (o : Op) → Half k b d s → Led (suc k) (machine.after_for x b d s o)
after_for-leads x op.In h = stays _ h tt
after_for-leads {k} {d} {b} {s} x op.Do h = begins _ h (within s)
after_for-leads x o h = none

body_begun : {k d : ℕ} {b : List Below} {s : Draft} (x : List ℕ) → Fine k b d s → Half k (below.Function x (next_body s) ∷ b) d (begin_body s)
body_begun {k} {d} {b} {s} x h =
    let t = begin_body s in let e = length-append s.script.bodies (command.Simple [] [] [] ∷ []) in
    let g : Keeps s t = record { lists = omega arith; leaves = omega arith; bodies = omega (arith, e); heres = omega arith } in
    record {
      whole = h.half.whole;
      below = (omega (arith, e), all-kept b s t g h.half.below);
      due = due-kept s.due s t g h.half.due;
      lists = h.half.lists;
      leaves = h.half.leaves;
      bodies = omega (arith, e, h.bodies);
      heres = h.half.heres;
      room = h.half.room;
    }

at_gap-leads : {k d : ℕ} {b : List Below} {s : Draft} (g : Gap) (t : Token) → Fine k b d s → Led (suc k) (machine.at_gap g b d s t)
at_gap-leads (gap.Begin is) t h = begin-leads is t h
at_gap-leads (gap.Join is a j) t h = pipeline-leads is (Some (a, j)) t h
at_gap-leads gap.Stage t h = one_command-leads t h.half
at_gap-leads (gap.Function x) t h = on_op_leads _ t (λ o. open_compound-leads o (body_begun x h))
at_gap-leads (gap.In w) t h = when_leads _ _ (stays _ h.half tt)
at_gap-leads (gap.Arms c) t h = arms-leads c t h.half
at_gap-leads (gap.For x) t h = on_op_leads _ t (λ o. after_for-leads x o h.half)
at_gap-leads {k} {d} {b} {s} (gap.Do x ws) t h = when_leads _ _ (begins _ h.half (within s))

gap_end-leads : {k d : ℕ} {b : List Below} {s : Draft} (g : Gap) (m : Mode) (e : End) → Fine k b d s → Led (suc k) (machine.gap_end g b d s m e)
gap_end-leads g m end.Newline h = newline-leads g m h.half
gap_end-leads g m e h = at_gap-leads g (token.End e m) h

in_gap-leads : {k d : ℕ} {b : List Below} {s : Draft} (g : Gap) (t : Token) → Fine k b d s → Led (suc k) (machine.in_gap g b d s t)
in_gap-leads g (token.End e m) h = gap_end-leads g m e h
in_gap-leads g t h = at_gap-leads g t h

-- ---- the rest of `for` and `case`

for_bit-leads : {k d : ℕ} {b : List Below} {s : Draft} (x : Bit) → Half k b d s → Led (suc k) (machine.for_bit b d s x)
for_bit-leads (bit.Piece x) h = when_leads _ _ (stays _ h tt)
for_bit-leads x h = none

for_name-leads : {k d : ℕ} {b : List Below} {s : Draft} (t : Token) → Half k b d s → Led (suc k) (machine.for_name b d s t)
for_name-leads (token.Part x) h = for_bit-leads x h
for_name-leads t h = none

named_op-leads : {k d : ℕ} {b : List Below} {s : Draft} (x : List ℕ) (o : Op) → Half k b d s → Led (suc k) (machine.named_op x b d s o)
named_op-leads x op.Semi h = stays _ h tt
named_op-leads x o h = after_for-leads x o h

named_end-leads : {k d : ℕ} {b : List Below} {s : Draft} (x : List ℕ) (m : Mode) (e : End) → Half k b d s → Led (suc k) (machine.named_end x b d s m e)
named_end-leads x m end.Newline h = newline-leads (gap.For x) m h
named_end-leads x m e h = none

for_named-leads : {k d : ℕ} {b : List Below} {s : Draft} (x : List ℕ) (t : Token) → Half k b d s → Led (suc k) (machine.for_named x b d s t)
for_named-leads x (token.Operator o) h = named_op-leads x o h
for_named-leads x (token.End e m) h = named_end-leads x m e h
for_named-leads x t h = none

for_op-leads : {k d : ℕ} {b : List Below} {s : Draft} (x : List ℕ) (ws : List Word) (o : Op) → Half k b d s → Led (suc k) (machine.for_op x ws b d s o)
for_op-leads x ws op.Semi h = stays _ h tt
for_op-leads x ws o h = none

for_end-leads : {k d : ℕ} {b : List Below} {s : Draft} (x : List ℕ) (ws : List Word) (m : Mode) (e : End) → Half k b d s →
    Led (suc k) (machine.for_end x ws b d s m e)
for_end-leads x ws m end.Newline h = newline-leads (gap.Do x (Some ws)) m h
for_end-leads x ws m e h = none

for_words-leads : {k d : ℕ} {b : List Below} {s : Draft} (x : List ℕ) (ws : List Word) (t : Token) → Half k b d s → Led (suc k) (machine.for_words x ws b d s t)
for_words-leads x ws (token.Operator o) h = for_op-leads x ws o h
for_words-leads x ws (token.End e m) h = for_end-leads x ws m e h
for_words-leads {k} {d} {b} {s} x ws t h = parts-leads [] t (half_on (below.ForWord x ws ∷ b) d h (tt, h.below) (omega arith))

patterns_op-leads : {k d : ℕ} {b : List Below} {s : Draft} (c : Case) (ws : List Word) (o : Op) → Half k b d s → Led (suc k) (machine.patterns_op c ws b d s o)
patterns_op-leads c ws op.PipePattern h = pushes _ _ h tt tt
patterns_op-leads {k} {d} {b} {s} c ws op.Close h = begins _ h (within s)
patterns_op-leads c ws o h = none

step_now-leads : {k d : ℕ} {b : List Below} {s : Draft} (n : Now) (t : Token) → Fine k b d s → NowBegun n s → Led (suc k) (machine.step_now n b d s t)
step_now-leads (now.Gap g) t h e = in_gap-leads g t h
step_now-leads (now.Due x hs g) t h e = due-leads x hs g t h.half e
step_now-leads (now.Parts ps) t h e = parts-leads ps t h.half
step_now-leads (now.Elements c) t h e = elements-leads c t h.half
step_now-leads (now.Redirs x rs) t h e = redirs-leads x rs t h.half
step_now-leads now.Bang t h e = one_command-leads t h.half
step_now-leads (now.Delimiter fd strip x) t h e = delimiter-leads fd strip x t h.half
step_now-leads (now.Name x) t h e = when_leads _ _ (stays _ h.half tt)
step_now-leads (now.Named x) t h e = when_leads _ _ (stays _ h.half tt)
step_now-leads now.For t h e = for_name-leads t h.half
step_now-leads (now.ForName x) t h e = when_leads _ _ (stays _ h.half tt)
step_now-leads (now.ForNamed x) t h e = for_named-leads x t h.half
step_now-leads (now.ForWords x ws) t h e = for_words-leads x ws t h.half
step_now-leads (now.Patterns c ws) t h e = on_op_leads _ t (λ o. patterns_op-leads c ws o h.half)

-- ---- the law

fine : (k : ℕ) (st : State) → Numbered st → Within k st → Fine k st.below st.room st.script
fine k st h w = record {
  half = record {
    whole = h.whole;
    below = h.below;
    due = h.due;
    lists = w.lists;
    leaves = omega (arith, w.leaves);
    bodies = omega (arith, w.bodies);
    heres = w.heres;
    room = w.room;
  };
  leaves = w.leaves;
  bodies = w.bodies;
}

step-leads : (k : ℕ) (st : State) (t : Token) → Numbered st → Within k st → Led (suc k) (machine.step st t)
step-leads k st t h w = step_now-leads st.now t (fine k st h w) h.now

numbered-led : (k : ℕ) (st : State) → Led k (Some st) → Numbered st
numbered-led k st h = h.is.0

within-led : (k : ℕ) (st : State) → Led k (Some st) → Within k st
within-led k st h = h.is.1

pub numbered_next : (k : ℕ) (st : State) (t : Token) (next : State) → Numbered st → Within k st → machine.step st t ≡ Some next → Numbered next
numbered_next k st t next h w e = numbered-led (suc k) next (subst (λ (o : Option State). Led (suc k) o) e (step-leads k st t h w))

pub within_next_state : (k : ℕ) (st : State) (t : Token) (next : State) → Numbered st → Within k st → machine.step st t ≡ Some next → Within (suc k) next
within_next_state k st t next h w e = within-led (suc k) next (subst (λ (o : Option State). Led (suc k) o) e (step-leads k st t h w))

pub started : (d : ℕ) → Numbered (machine.start_within d)
started d = record { whole = omega arith; now = tt; below = tt; due = tt }

pub started_within : (d : ℕ) → Within (suc d) (machine.start_within d)
started_within d = record { lists = omega arith; leaves = omega arith; bodies = omega arith; heres = omega arith; room = omega arith }

pub within_more : (j k : ℕ) (st : State) → Within j st → j ≤ k → Within k st
within_more j k st w e = record {
  lists = omega (arith, w.lists, e);
  leaves = omega (arith, w.leaves, e);
  bodies = omega (arith, w.bodies, e);
  heres = omega (arith, w.heres, e);
  room = omega (arith, w.room, e);
}
