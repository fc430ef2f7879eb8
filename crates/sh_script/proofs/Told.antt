-- Of the tokens that a seen one may be, a state takes at most one: the one that it is told to be.
use Rattle.std.proofs.Common.{◌≡◌, ℕ, Bool, true, false, List, [], ◌∷◌, ◌++◌, Option, Some, None, refl, sym, ap, subst, ◌∙◌}
use Rattle.sh_syntax.specs.declared.tree.Part.{Part}
use Rattle.sh_syntax.specs.declared.tree.Command.{Command}
use Rattle.sh_syntax.specs.declared.tree.Command.TheVariants as command
use Rattle.sh_syntax.specs.declared.tree.AndOr.{AndOr}
use Rattle.sh_lexer.specs.declared.token.Token.{Token}
use Rattle.sh_lexer.specs.declared.token.Token.TheVariants as token
use Rattle.sh_lexer.specs.declared.token.Op.{Op}
use Rattle.sh_lexer.specs.declared.token.Op.TheVariants as op
use Rattle.sh_lexer.specs.declared.token.End.{End}
use Rattle.sh_lexer.specs.declared.token.End.TheVariants as end
use Rattle.sh_lexer.specs.declared.token.Mode.{Mode}
use Rattle.sh_lexer.specs.declared.token.Mode.TheVariants as mode
use Rattle.sh_lexer.specs.Modes.{Reads, as_seen, ends, ends_list, delimits, is_body, opens_pattern, parts_patterns, in_of_case}
use Rattle.sh_grammar.specs.declared.state.Due.{Due}
use Rattle.sh_grammar.specs.declared.state.Draft.{Draft}
use Rattle.sh_grammar.specs.declared.state.Gap.{Gap}
use Rattle.sh_grammar.specs.declared.state.Gap.TheVariants as gap
use Rattle.sh_grammar.specs.declared.state.Now.{Now}
use Rattle.sh_grammar.specs.declared.state.Now.TheVariants as now
use Rattle.sh_grammar.specs.declared.state.Below.{Below}
use Rattle.sh_grammar.specs.declared.state.Below.TheVariants as below
use Rattle.sh_grammar.specs.Draft.{cut_mode, end_body, end_leaf}
use Rattle.sh_grammar.specs.Grammar.{simple}
use Rattle.sh_grammar.specs.Machine.{State, at, if_any, when, gap_mode, host_mode, newline, parts_end, parts_ended, list_end, list_ended, after, piped, with_stage, this_and_or, command_ended, in_gap, step_now}
use Rattle.sh_grammar.specs.Tests.{same_mode, is_end}
use Rattle.sh_grammar.specs.Told.{list_mode, list_close, close, end_mode, open_op, pipe_op, in_op, told}
use Rattle.sh_grammar.proofs.Tests.{same_mode-is, is_end-is}

abbrev pub Reached : Option State → Type 0
Reached None = ⊥
Reached (Some st) = Unit {0}

pub reached : (o : Option State) (st : State) → o ≡ Some st → Reached o
reached None st e = absurd cc
reached (Some x) st e = tt

when-holds : (c : Bool) (o : Option State) → Reached (when c o) → c ≡ true
when-holds true o h = refl
when-holds false o h = absurd h

when-none : (c : Bool) → Reached (when c None) → ⊥
when-none true h = h
when-none false h = h

any-none : {A : Type 0} (xs : List A) → Reached (if_any xs None) → ⊥
any-none [] h = h
any-none (x ∷ xs) h = h

-- the end that a test has found is the token
is_end-told : (x : End) (m : Mode) (t : Token) (o : Option State) → Reached (when (is_end x m t) o) → t ≡ token.End x m
is_end-told x m t o h = is_end-is x m t (when-holds (is_end x m t) o h)

-- ---- `)`

list_end-close : (is : List AndOr) (f : Below) (b : List Below) (d : ℕ) (s : Draft) → Reached (list_end is f b d s (token.Operator op.Close)) →
    list_close (f ∷ b) ≡ token.Operator op.Close
list_end-close is (below.Pipe p) b d s h = absurd h
list_end-close is (below.Function x n) b d s h = absurd h
list_end-close is (below.Command ps m n) b d s h = absurd h
list_end-close is f b d s h = refl

list_ended-close : (is : List AndOr) (b : List Below) (d : ℕ) (s : Draft) → Reached (list_ended is b d s (token.Operator op.Close)) →
    list_close b ≡ token.Operator op.Close
list_ended-close is [] d s h = absurd h
list_ended-close is (f ∷ b) d s h = list_end-close is f b d s h

command-close : (c : Command) (b : List Below) (d : ℕ) (s : Draft) → Reached (command_ended c b d s (token.Operator op.Close)) →
    list_close b ≡ token.Operator op.Close
command-close c [] d s h = absurd h
command-close c (below.Function x n ∷ b) d s h = command-close (command.Function x n) b d (end_body n c s) h
command-close c (below.Pipe p ∷ b) d s h = list_ended-close _ b d _ h
command-close c (f ∷ b) d s h = absurd h

gap-close : (g : Gap) (b : List Below) (d : ℕ) (s : Draft) → Reached (in_gap g b d s (token.Operator op.Close)) → list_close b ≡ token.Operator op.Close
gap-close (gap.Begin is) b d s h = list_ended-close is b d s h
gap-close g b d s h = absurd h

close-told : (n : Now) (b : List Below) (d : ℕ) (s : Draft) → Reached (step_now n b d s (token.Operator op.Close)) → close n b ≡ token.Operator op.Close
close-told (now.Gap g) b d s h = gap-close g b d s h
close-told (now.Elements c) b d s h = command-close (simple c) b d s h
close-told (now.Redirs x rs) b d s h = command-close (command.Compound x rs) b d s h
close-told (now.Named x) b d s h = refl
close-told (now.Patterns c ws) b d s h = refl
close-told n b d s h = absurd h

-- ---- a `)` that ends a substitution

list_end-list : (is : List AndOr) (f : Below) (b : List Below) (d : ℕ) (s : Draft) (m : Mode) → Reached (list_end is f b d s (token.End end.List m)) →
    list_close (f ∷ b) ≡ token.End end.List m
list_end-list is (below.Command ps k n) b d s m h = sym (is_end-told end.List k (token.End end.List m) _ h)
list_end-list is (below.Then bs n k) b d s m h = absurd (any-none is h)
list_end-list is f b d s m h = absurd h

list_ended-list : (is : List AndOr) (b : List Below) (d : ℕ) (s : Draft) (m : Mode) → Reached (list_ended is b d s (token.End end.List m)) →
    list_close b ≡ token.End end.List m
list_ended-list is [] d s m h = absurd h
list_ended-list is (f ∷ b) d s m h = list_end-list is f b d s m h

command-list : (c : Command) (b : List Below) (d : ℕ) (s : Draft) (m : Mode) → Reached (command_ended c b d s (token.End end.List m)) →
    list_close b ≡ token.End end.List m
command-list c [] d s m h = absurd h
command-list c (below.Function x n ∷ b) d s m h = command-list (command.Function x n) b d (end_body n c s) m h
command-list c (below.Pipe p ∷ b) d s m h = list_ended-list _ b d _ m h
command-list c (f ∷ b) d s m h = absurd h

gap-list : (g : Gap) (b : List Below) (d : ℕ) (s : Draft) (m : Mode) → Reached (in_gap g b d s (token.End end.List m)) → list_close b ≡ token.End end.List m
gap-list (gap.Begin is) b d s m h = list_ended-list is b d s m h
gap-list g b d s m h = absurd h

parts-list : (ps : List Part) (b : List Below) (d : ℕ) (s : Draft) (m : Mode) → Reached (parts_ended ps b d s (token.End end.List m)) → ⊥
parts-list ps [] d s m h = h
parts-list ps (below.Argument c ∷ b) d s m h = h
parts-list ps (f ∷ b) d s m h = h

list-told : (n : Now) (b : List Below) (d : ℕ) (s : Draft) (m : Mode) → Reached (step_now n b d s (token.End end.List m)) → close n b ≡ token.End end.List m
list-told (now.Gap g) b d s m h = gap-list g b d s m h
list-told (now.Parts ps) b d s m h = absurd (parts-list ps b d s m h)
list-told (now.Elements c) b d s m h = command-list (simple c) b d s m h
list-told (now.Redirs x rs) b d s m h = command-list (command.Compound x rs) b d s m h
list-told n b d s m h = absurd h

-- ---- operators that only one place takes

data IsOfCase : Op → Type 0 where
  opening : IsOfCase op.OpenPattern
  parting : IsOfCase op.PipePattern
  in_case : IsOfCase op.CaseIn

list_end-of_case : (is : List AndOr) (f : Below) (b : List Below) (d : ℕ) (s : Draft) {o : Op} → IsOfCase o → Reached (list_end is f b d s (token.Operator o)) → ⊥
list_end-of_case is (below.Then bs n k) b d s opening h = any-none is h
list_end-of_case is (below.Then bs n k) b d s parting h = any-none is h
list_end-of_case is (below.Then bs n k) b d s in_case h = any-none is h
list_end-of_case is f b d s opening h = h
list_end-of_case is f b d s parting h = h
list_end-of_case is f b d s in_case h = h

list_ended-of_case : (is : List AndOr) (b : List Below) (d : ℕ) (s : Draft) {o : Op} → IsOfCase o → Reached (list_ended is b d s (token.Operator o)) → ⊥
list_ended-of_case is [] d s i h = h
list_ended-of_case is (f ∷ b) d s i h = list_end-of_case is f b d s i h

command-of_case : (c : Command) (b : List Below) (d : ℕ) (s : Draft) {o : Op} → IsOfCase o → Reached (command_ended c b d s (token.Operator o)) → ⊥
command-of_case c [] d s i h = h
command-of_case c (below.Function x n ∷ b) d s i h = command-of_case (command.Function x n) b d (end_body n c s) i h
command-of_case c (below.Pipe p ∷ b) d s opening h = list_ended-of_case _ b d _ opening h
command-of_case c (below.Pipe p ∷ b) d s parting h = list_ended-of_case _ b d _ parting h
command-of_case c (below.Pipe p ∷ b) d s in_case h = list_ended-of_case _ b d _ in_case h
command-of_case c (f ∷ b) d s i h = h

opening-told : (n : Now) (b : List Below) (d : ℕ) (s : Draft) → Reached (step_now n b d s (token.Operator op.OpenPattern)) → open_op n ≡ op.OpenPattern
opening-told (now.Gap (gap.Arms c)) b d s h = refl
opening-told (now.Elements c) b d s h = absurd (command-of_case (simple c) b d s opening h)
opening-told (now.Redirs x rs) b d s h = absurd (command-of_case (command.Compound x rs) b d s opening h)
opening-told n b d s h = absurd h

parting-told : (n : Now) (b : List Below) (d : ℕ) (s : Draft) → Reached (step_now n b d s (token.Operator op.PipePattern)) → pipe_op n ≡ op.PipePattern
parting-told (now.Patterns c ws) b d s h = refl
parting-told (now.Gap (gap.Arms c)) b d s h = absurd h
parting-told (now.Elements c) b d s h = absurd (command-of_case (simple c) b d s parting h)
parting-told (now.Redirs x rs) b d s h = absurd (command-of_case (command.Compound x rs) b d s parting h)
parting-told n b d s h = absurd h

in_case-told : (n : Now) (b : List Below) (d : ℕ) (s : Draft) → Reached (step_now n b d s (token.Operator op.CaseIn)) → in_op n ≡ op.CaseIn
in_case-told (now.Gap (gap.In w)) b d s h = refl
in_case-told (now.Elements c) b d s h = absurd (command-of_case (simple c) b d s in_case h)
in_case-told (now.Redirs x rs) b d s h = absurd (command-of_case (command.Compound x rs) b d s in_case h)
in_case-told n b d s h = absurd h

-- ---- and those that it does not take

open-told : (n : Now) (b : List Below) (d : ℕ) (s : Draft) → Reached (step_now n b d s (token.Operator op.Open)) → open_op n ≡ op.Open
open-told (now.Gap (gap.Arms c)) b d s h = absurd h
open-told n b d s h = refl

pipe-told : (n : Now) (b : List Below) (d : ℕ) (s : Draft) → Reached (step_now n b d s (token.Operator op.Pipe)) → pipe_op n ≡ op.Pipe
pipe-told (now.Patterns c ws) b d s h = absurd h
pipe-told n b d s h = refl

in-told : (n : Now) (b : List Below) (d : ℕ) (s : Draft) → Reached (step_now n b d s (token.Operator op.In)) → in_op n ≡ op.In
in-told (now.Gap (gap.In w)) b d s h = absurd h
in-told n b d s h = refl

-- ---- ends

-- an end as it is told after a list or a command
abbrev ended : List Below → List Due → Token → Token
ended b due (token.End end.Newline m) = token.End end.Newline (cut_mode mode.Command due)
ended b due (token.End e m) = token.End e (list_mode b)
ended b due t = t

list_end-end : (is : List AndOr) (f : Below) (b : List Below) (d : ℕ) (s : Draft) (due : List Due) (e : End) (m : Mode) →
    Reached (list_end is f b d s (token.End e m)) → token.End e m ≡ ended (f ∷ b) due (token.End e m)
list_end-end is (below.Command ps k n) b d s due e m h =
    subst (λ (t : Token). t ≡ ended (below.Command ps k n ∷ b) due t) (sym (is_end-told end.List k (token.End e m) _ h)) refl
list_end-end is (below.Backquote ps k n) b d s due e m h =
    subst (λ (t : Token). t ≡ ended (below.Backquote ps k n ∷ b) due t) (sym (is_end-told end.Text k (token.End e m) _ h)) refl
list_end-end is (below.Then bs n k) b d s due e m h = absurd (any-none is h)
list_end-end is f b d s due e m h = absurd h

list_ended-end : (is : List AndOr) (b : List Below) (d : ℕ) (s : Draft) (due : List Due) (e : End) (m : Mode) →
    Reached (list_ended is b d s (token.End e m)) → token.End e m ≡ ended b due (token.End e m)
list_ended-end is [] d s due e m h = absurd h
list_ended-end is (f ∷ b) d s due e m h = list_end-end is f b d s due e m h

newline-end : (g : Gap) (b : List Below) (d : ℕ) (s : Draft) (m : Mode) → Reached (newline g b d s m) → m ≡ cut_mode (gap_mode g) s.due
newline-end g b d s m h = sym (same_mode-is _ _ (when-holds (same_mode (cut_mode (gap_mode g) s.due) m) _ h))

after-end : (is : List AndOr) (a : AndOr) (b : List Below) (d : ℕ) (s : Draft) (e : End) (m : Mode) →
    Reached (after is a b d s (token.End e m)) → token.End e m ≡ ended b s.due (token.End e m)
after-end is a b d s end.Newline m h = ap (token.End end.Newline) (newline-end (gap.Begin (is ++ a ∷ [])) b d s m h)
after-end is a b d s e m h = list_ended-end (is ++ a ∷ []) b d s s.due e m h

ended-pipe : (f : Below) (b : List Below) (due : List Due) (e : End) (m : Mode) → list_mode (f ∷ b) ≡ list_mode b → ended b due (token.End e m) ≡ ended (f ∷ b) due (token.End e m)
ended-pipe f b due end.Newline m g = refl
ended-pipe f b due e m g = ap (token.End e) (sym g)

command-end : (c : Command) (b : List Below) (d : ℕ) (s : Draft) (e : End) (m : Mode) →
    Reached (command_ended c b d s (token.End e m)) → token.End e m ≡ ended b s.due (token.End e m)
command-end c [] d s e m h = absurd h
command-end c (below.Function x n ∷ b) d s e m h =
    command-end (command.Function x n) b d (end_body n c s) e m h ∙ ended-pipe (below.Function x n) b s.due e m refl
command-end c (below.Pipe p ∷ b) d s e m h =
    after-end p.items (this_and_or p.before p.leaf) b d (end_leaf p.leaf p.bang (with_stage c p).stages s) e m h ∙ ended-pipe (below.Pipe p) b s.due e m refl
command-end c (f ∷ b) d s e m h = absurd h

gap-end : (g : Gap) (b : List Below) (d : ℕ) (s : Draft) (e : End) (m : Mode) → Reached (in_gap g b d s (token.End e m)) →
    token.End e m ≡ told (now.Gap g) b s.due (token.End e m)
gap-end g b d s end.Newline m h = ap (token.End end.Newline) (newline-end g b d s m h)
gap-end (gap.Begin is) b d s e m h = list_ended-end is b d s s.due e m h
gap-end (gap.Join is a j) b d s e m h = absurd (when-none (is_end end.Word mode.Arguments (token.End e m)) h)
gap-end gap.Stage b d s e m h = absurd (when-none (is_end end.Word mode.Arguments (token.End e m)) h)
gap-end (gap.Arms c) b d s e m h = absurd (when-none (is_end end.Word mode.Arguments (token.End e m)) h)
gap-end g b d s e m h = absurd h

parts-end : (ps : List Part) (f : Below) (b : List Below) (d : ℕ) (s : Draft) (e : End) (m : Mode) → Reached (parts_end ps f b d s (token.End e m)) →
    token.End e m ≡ told (now.Parts ps) (f ∷ b) s.due (token.End e m)
parts-end ps (below.Argument c) b d s e m h =
    subst (λ (t : Token). t ≡ told (now.Parts ps) (below.Argument c ∷ b) s.due t) (sym (is_end-told end.Word mode.Arguments (token.End e m) _ h)) refl
parts-end ps (below.Assign x c) b d s e m h =
    subst (λ (t : Token). t ≡ told (now.Parts ps) (below.Assign x c ∷ b) s.due t) (sym (is_end-told end.Word mode.Prefix (token.End e m) _ h)) refl
parts-end ps (below.Redirect fd o k) b d s e m h =
    subst (λ (t : Token). t ≡ told (now.Parts ps) (below.Redirect fd o k ∷ b) s.due t) (sym (is_end-told end.Word (host_mode k) (token.End e m) _ h)) refl
parts-end ps (below.ForWord x ws) b d s e m h =
    subst (λ (t : Token). t ≡ told (now.Parts ps) (below.ForWord x ws ∷ b) s.due t) (sym (is_end-told end.Word mode.Arguments (token.End e m) _ h)) refl
parts-end ps below.CaseWord b d s e m h =
    subst (λ (t : Token). t ≡ told (now.Parts ps) (below.CaseWord ∷ b) s.due t) (sym (is_end-told end.Word mode.Command (token.End e m) _ h)) refl
parts-end ps (below.Pattern c ws) b d s e m h =
    subst (λ (t : Token). t ≡ told (now.Parts ps) (below.Pattern c ws ∷ b) s.due t) (sym (is_end-told end.Word mode.Arguments (token.End e m) _ h)) refl
parts-end ps (below.Double qs k) b d s e m h =
    subst (λ (t : Token). t ≡ told (now.Parts ps) (below.Double qs k ∷ b) s.due t) (sym (is_end-told end.Quote k (token.End e m) _ h)) refl
parts-end ps (below.Braces qs x o c k) b d s e m h =
    subst (λ (t : Token). t ≡ told (now.Parts ps) (below.Braces qs x o c k ∷ b) s.due t) (sym (is_end-told end.Brace k (token.End e m) _ h)) refl
parts-end ps (below.Arith qs k) b d s e m h =
    subst (λ (t : Token). t ≡ told (now.Parts ps) (below.Arith qs k ∷ b) s.due t) (sym (is_end-told end.Arith k (token.End e m) _ h)) refl
parts-end ps (below.Body n hs g) b d s e m h =
    subst (λ (t : Token). t ≡ told (now.Parts ps) (below.Body n hs g ∷ b) s.due t) (sym (is_end-told end.Text (cut_mode (gap_mode g) hs) (token.End e m) _ h)) refl
parts-end ps f b d s e m h = absurd h

parts_ended-end : (ps : List Part) (b : List Below) (d : ℕ) (s : Draft) (e : End) (m : Mode) → Reached (parts_ended ps b d s (token.End e m)) →
    token.End e m ≡ told (now.Parts ps) b s.due (token.End e m)
parts_ended-end ps [] d s e m h = absurd h
parts_ended-end ps (f ∷ b) d s e m h = parts-end ps f b d s e m h

end-told : (n : Now) (b : List Below) (d : ℕ) (s : Draft) (e : End) (m : Mode) → Reached (step_now n b d s (token.End e m)) →
    token.End e m ≡ told n b s.due (token.End e m)
end-told (now.Gap g) b d s e m h = gap-end g b d s e m h
end-told (now.Parts ps) b d s e m h = parts_ended-end ps b d s e m h
end-told (now.Elements c) b d s end.Newline m h = command-end (simple c) b d s end.Newline m h
end-told (now.Elements c) b d s e m h = command-end (simple c) b d s e m h
end-told (now.Redirs x rs) b d s end.Newline m h = command-end (command.Compound x rs) b d s end.Newline m h
end-told (now.Redirs x rs) b d s e m h = command-end (command.Compound x rs) b d s e m h
end-told now.Bang b d s e m h = absurd (when-none (is_end end.Word mode.Arguments (token.End e m)) h)
end-told (now.ForName x) b d s e m h =
    subst (λ (t : Token). t ≡ told (now.ForName x) b s.due t) (sym (is_end-told end.Word mode.Command (token.End e m) _ h)) refl
end-told (now.ForNamed x) b d s end.Newline m h = ap (token.End end.Newline) (newline-end (gap.For x) b d s m h)
end-told (now.ForNamed x) b d s e m h = absurd h
end-told (now.ForWords x ws) b d s end.Newline m h = ap (token.End end.Newline) (newline-end (gap.Do x (Some ws)) b d s m h)
end-told (now.ForWords x ws) b d s e m h = absurd h
end-told n b d s e m h = absurd h

-- ---- delimiters and bodies of here-documents

list-delimiter : (c : Command) (b : List Below) (d : ℕ) (s : Draft) (x : List ℕ) (q : Bool) (m : Mode) → Reached (command_ended c b d s (token.Delimiter x q m)) → ⊥
list-delimiter c [] d s x q m h = h
list-delimiter c (below.Function y n ∷ b) d s x q m h = list-delimiter (command.Function y n) b d (end_body n c s) x q m h
list-delimiter c (f ∷ b) d s x q m h = h

list-verbatim : (c : Command) (b : List Below) (d : ℕ) (s : Draft) (x : List ℕ) (m : Mode) → Reached (command_ended c b d s (token.Verbatim x m)) → ⊥
list-verbatim c [] d s x m h = h
list-verbatim c (below.Function y n ∷ b) d s x m h = list-verbatim (command.Function y n) b d (end_body n c s) x m h
list-verbatim c (f ∷ b) d s x m h = h

gap-delimiter : (g : Gap) (b : List Below) (d : ℕ) (s : Draft) (x : List ℕ) (q : Bool) (m : Mode) → Reached (in_gap g b d s (token.Delimiter x q m)) → ⊥
gap-delimiter (gap.Begin is) b d s x q m h = h
gap-delimiter g b d s x q m h = h

gap-verbatim : (g : Gap) (b : List Below) (d : ℕ) (s : Draft) (x : List ℕ) (m : Mode) → Reached (in_gap g b d s (token.Verbatim x m)) → ⊥
gap-verbatim (gap.Begin is) b d s x m h = h
gap-verbatim g b d s x m h = h

delimiter-told : (n : Now) (b : List Below) (d : ℕ) (s : Draft) (x : List ℕ) (q : Bool) (m : Mode) → Reached (step_now n b d s (token.Delimiter x q m)) →
    token.Delimiter x q m ≡ told n b s.due (token.Delimiter x q m)
delimiter-told (now.Delimiter fd strip k) b d s x q m h = ap (token.Delimiter x q) (sym (same_mode-is _ _ (when-holds (same_mode (host_mode k) m) _ h)))
delimiter-told (now.Gap g) b d s x q m h = absurd (gap-delimiter g b d s x q m h)
delimiter-told (now.Redirs y rs) b d s x q m h = absurd (list-delimiter (command.Compound y rs) b d s x q m h)
delimiter-told n b d s x q m h = absurd h

verbatim-told : (n : Now) (b : List Below) (d : ℕ) (s : Draft) (x : List ℕ) (m : Mode) → Reached (step_now n b d s (token.Verbatim x m)) →
    token.Verbatim x m ≡ told n b s.due (token.Verbatim x m)
verbatim-told (now.Due k hs g) b d s x m h = ap (token.Verbatim x) (sym (same_mode-is _ _ (when-holds (same_mode (cut_mode (gap_mode g) hs) m) _ h)))
verbatim-told (now.Gap g) b d s x m h = absurd (gap-verbatim g b d s x m h)
verbatim-told (now.Redirs y rs) b d s x m h = absurd (list-verbatim (command.Compound y rs) b d s x m h)
verbatim-told n b d s x m h = absurd h

-- ---- all tokens

op-told : (n : Now) (b : List Below) (d : ℕ) (s : Draft) (o : Op) → Reached (step_now n b d s (token.Operator o)) →
    token.Operator o ≡ told n b s.due (token.Operator o)
op-told n b d s op.Close h = sym (close-told n b d s h)
op-told n b d s op.Open h = ap token.Operator (sym (open-told n b d s h))
op-told n b d s op.Pipe h = ap token.Operator (sym (pipe-told n b d s h))
op-told n b d s op.In h = ap token.Operator (sym (in-told n b d s h))
op-told n b d s o h = refl

seen-told : (n : Now) (b : List Below) (d : ℕ) (s : Draft) (t : Token) → Reached (step_now n b d s t) → t ≡ told n b s.due t
seen-told n b d s (token.Operator o) h = op-told n b d s o h
seen-told n b d s (token.End e m) h = end-told n b d s e m h
seen-told n b d s (token.Delimiter x q m) h = delimiter-told n b d s x q m h
seen-told n b d s (token.Verbatim x m) h = verbatim-told n b d s x m h
seen-told n b d s t h = refl

pub told-unique : (n : Now) (b : List Below) (d : ℕ) (s : Draft) {seen t : Token} → Reads seen t → Reached (step_now n b d s t) → t ≡ told n b s.due seen
told-unique n b d s as_seen h = seen-told n b d s _ h
told-unique n b d s ends h = end-told n b d s _ _ h
told-unique n b d s ends_list h = sym (list-told n b d s _ h)
told-unique n b d s delimits h = delimiter-told n b d s _ _ _ h
told-unique n b d s is_body h = verbatim-told n b d s _ _ h
told-unique n b d s opens_pattern h = ap token.Operator (sym (opening-told n b d s h))
told-unique n b d s parts_patterns h = ap token.Operator (sym (parting-told n b d s h))
told-unique n b d s in_of_case h = ap token.Operator (sym (in_case-told n b d s h))
