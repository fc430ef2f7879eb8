-- What is written of a script that was read from plain tokens is read as tokens again from which the grammar derives the script.
use Rattle.std.proofs.Common.{◌≡◌, ℕ, zero, suc, pred, ◌+◌, ◌*◌, ◌≤◌, Bool, true, false, not, List, [], ◌∷◌, ◌++◌, Option, Some, None, refl, ap, sym, ◌∙◌, subst, ◌⊎◌, inl, inr, arith, append_assoc}
use Rattle.std.specs.Prelude.{map, slice_get, option_map}
use Rattle.std.proofs.lemmas.List.{length-set}
use Rattle.std.proofs.lemmas.Option.{slice_get-map}
use Rattle.sh_syntax.specs.declared.tree.Part.{Part, out-Part}
use Rattle.sh_syntax.specs.declared.tree.Part.TheVariants as part
use Rattle.sh_syntax.specs.declared.tree.Part.TheOpen.{Part-F}
use Rattle.sh_syntax.specs.declared.tree.Part.TheOpen as open_part
use Rattle.sh_syntax.specs.declared.tree.Part.TheViews.{outs-Plain, outs-Single, outs-Escaped, outs-Param, outs-Double, outs-Arith, outs-Command}
use Rattle.sh_syntax.specs.declared.tree.ParamOp.{ParamOp}
use Rattle.sh_syntax.specs.declared.tree.ParamOp.TheVariants as param_op
use Rattle.sh_syntax.specs.declared.tree.Word.{Word}
use Rattle.sh_syntax.specs.declared.tree.Redir.{Redir}
use Rattle.sh_syntax.specs.declared.tree.RedirOp.{RedirOp}
use Rattle.sh_syntax.specs.declared.tree.RedirOp.TheVariants as redir_op
use Rattle.sh_syntax.specs.declared.tree.Command.{Command}
use Rattle.sh_syntax.specs.declared.tree.Command.TheVariants as command
use Rattle.sh_syntax.specs.declared.tree.Compound.{Compound}
use Rattle.sh_syntax.specs.declared.tree.Compound.TheVariants as compound
use Rattle.sh_syntax.specs.declared.tree.AndOr.{AndOr}
use Rattle.sh_syntax.specs.declared.tree.List.{List as TreeList}
use Rattle.sh_syntax.specs.declared.tree.Pipeline.{Pipeline}
use Rattle.sh_syntax.specs.declared.tree.Join.{Join}
use Rattle.sh_syntax.specs.declared.tree.Join.TheVariants as join
use Rattle.sh_syntax.specs.declared.tree.Script.{Script}
use Rattle.sh_syntax.specs.Trees.{word}
use Rattle.sh_lexer.specs.declared.token.Token.{Token}
use Rattle.sh_lexer.specs.declared.token.Token.TheVariants as token
use Rattle.sh_lexer.specs.declared.token.Op.{Op}
use Rattle.sh_lexer.specs.declared.token.Op.TheVariants as op
use Rattle.sh_lexer.specs.declared.token.Bit.{Bit}
use Rattle.sh_lexer.specs.declared.token.Bit.TheVariants as bit
use Rattle.sh_lexer.specs.declared.token.Opener.TheVariants as opener
use Rattle.sh_lexer.specs.declared.token.End.TheVariants as end
use Rattle.sh_lexer.specs.declared.token.Mode.{Mode}
use Rattle.sh_lexer.specs.declared.token.Mode.TheVariants as mode
use Rattle.sh_lexer.specs.Bytes.{skip, begins_name, in_name, is_name}
use Rattle.sh_lexer.specs.Modes.{as_seen, inside, after_bit, after_op}
use Rattle.sh_lexer.specs.Lex.{got, lex, opens_parenthesis}
use Rattle.sh_lexer.specs.Lexes.{Lexes, source, in_source}
use Rattle.sh_grammar.specs.declared.state.Due.{Due}
use Rattle.sh_grammar.specs.declared.state.Draft.{Draft}
use Rattle.sh_grammar.specs.declared.state.Simple.{Simple}
use Rattle.sh_grammar.specs.Draft.{redir, with_body, filled_redirs, next_list, begin_list, end_list, next_leaf, begin_leaf, end_leaf, next_body, begin_body, end_body, none_due, cut_mode, and_or, joined, filled, filled_command, filled_leaf, no_draft}
use Rattle.sh_grammar.specs.Grammar as g
use Rattle.sh_grammar.specs.Spells.{Spells}
use Rattle.sh_grammar.specs.Grammar.{NotEmpty, HasElement, part_of, param_of, no_simple, with_assign, with_word, with_redir, mode_before, simple, loop_op, join_op, MayOpen, Parts, Bodies, Newlines, Separator, MaySeparate, OneRedir, Redirs, Elements, ForWords, Patterns, OneArm, Arms, Branches, MoreBranches, OneCompound, OneCommand, Stages, MoreStages, OnePipeline, ListRest, InList, MayBeList, ParsesWithin, max_nesting}
use Rattle.sh_spell.specs.Layout.{written}
use Rattle.sh_spell.specs.Plain.{ArePlain}
use Rattle.sh_spell.specs.Scripts.{each, operator, opening, ending, begins_in_name, is_empty, needs_braces, value_text, opened_with, word_with, redir_with, listed, elif_with, branches_with, else_with, patterns_with, arm_with, or_first, parts_list, words_list, assigns_list, ends_lone, goes_first, going, waiting, words_with, assigns_with, compound_with, body_with, body_of, command_with, piped, stages_with, leaf_with, leaf_of, join_with, and_or_with, next_item, items_with, part_text, list_text, deepest, script_text}
use Rattle.sh_spell.specs.Tidy.{IsBetween, IsInWord, IsKnown}
use Rattle.sh_spell.proofs.Cases.{takes_if, passes_if}
use Rattle.sh_spell.proofs.Runs.{apart, Firm, Stop}
use Rattle.sh_spell.proofs.Heads.{Heads, stops}
use Rattle.sh_spell.proofs.Starts.{skip-fixed}
use Rattle.sh_spell.proofs.Gaps.{between-inside}
use Rattle.sh_spell.proofs.Steps.{behind_blank}
use Rattle.sh_spell.proofs.Dollars.{parenthesis-at}
use Rattle.sh_spell.proofs.Openers.{NotQuotes, EndsName, OpensFrom, Assigns, IsFile, inside-is}
use Rattle.sh_spell.proofs.Grammatical.{inside-known, bit-known, before-between}
use Rattle.sh_spell.proofs.Frame as frame
use Rattle.sh_spell.proofs.Frame.{Extends}
use Rattle.sh_spell.proofs.Final as final
use Rattle.sh_spell.proofs.Final.{From}
use Rattle.sh_spell.proofs.Elsewhere.{IsWordly, in_prefix}
use Rattle.sh_spell.proofs.Signs.{IsReserved, sign, reserved, in_of, esac}
use Rattle.sh_spell.proofs.Whole.{IsLone}
use Rattle.sh_spell.proofs.Numbered.{nil-right, Begins, begins-below, begins-in, moved, same-length, Least, least-lower, least-or, goes-before, lone-waits, going-more, waiting-more, going-none, waiting-all, parted, settled, fewer-next, split, through, next-none, plain-lone, lone-plain, not-lone}
use Rattle.sh_spell.proofs.Places.{At, Goes, GoesIf, loose, tightly, inward, EndsWord, ends-there, word-ended, none-left, Closes, in-word, lone-ends, NotOpen, StopsAt, Ends, Ready, tail, put, put-if, put-end, seen-is, meets, goes-on, goes-behind, shut-by, ready-redirect, ends-stops, some, heads-dollar, lex-dollar, ready-nil, ready-sign, ready-bar, ready-list, heads-closed}

-- ---- what is written

abbrev P : Draft → ℕ → Part → List ℕ → List ℕ
P e f = part_text (filled e) f

abbrev L : Draft → ℕ → ℕ → List ℕ → List ℕ
L e f = list_text (filled e) f

abbrev leaf : Draft → ℕ → ℕ → List ℕ → List ℕ
leaf e f = leaf_of (filled e) (P e f) (L e f)

each-append : {A : Type 0} (f : A → List ℕ → List ℕ) (xs ys : List A) (c : List ℕ) → each f (xs ++ ys) c ≡ each f xs (each f ys c)
each-append f [] ys c = refl
each-append f (x ∷ xs) ys c = ap (f x) (each-append f xs ys c)

abbrev NotValue : Bit → Type 0
NotValue (bit.Value x) = ⊥
NotValue b = Unit {0}

opened : (s : Script) (f : ℕ) (q : Part) (o : Part-F Part Word) (c : List ℕ) → out-Part q ≡ o → part_text s (suc f) q c ≡ opened_with (part_text s f) (list_text s f) o c
unfolding part_text
opened s f q o c e = ap (λ (o : Part-F Part Word). opened_with (part_text s f) (list_text s f) o c) e

text-bit : (s : Script) (f : ℕ) (b : Bit) (c : List ℕ) → NotValue b → part_text s (suc f) (part_of b) c ≡ written (token.Part b) c
text-bit s f (bit.Piece x) c n = opened s f (part.Plain x) _ c (outs-Plain x)
text-bit s f (bit.Sum x k) c n = opened s f (part.Plain x) _ c (outs-Plain x)
text-bit s f (bit.Escaped b) c n = opened s f (part.Escaped b) _ c (outs-Escaped b)
text-bit s f (bit.Single x) c n = opened s f (part.Single x) _ c (outs-Single x)
text-bit s f (bit.Value x) c n = absurd n

-- ---- the equations of what is written

text-value : (s : Script) (f : ℕ) (x c : List ℕ) → part_text s (suc f) (part.Param x param_op.Value false None) c ≡ value_text x c
text-value s f x c = opened s f (part.Param x param_op.Value false None) _ c (outs-Param x param_op.Value false None)

text-length : (s : Script) (f : ℕ) (x c : List ℕ) → part_text s (suc f) (part.Param x param_op.Length false None) c ≡ written (token.Param x true) c
text-length s f x c = opened s f (part.Param x param_op.Length false None) _ c (outs-Param x param_op.Length false None)

text-double : (s : Script) (f : ℕ) (ps : List Part) (c : List ℕ) → part_text s (suc f) (part.Double ps) c ≡ opening opener.Double (each (part_text s f) ps (ending end.Quote c))
text-double s f ps c = opened s f (part.Double ps) _ c (outs-Double ps)

text-braces : (s : Script) (f : ℕ) (x : List ℕ) (o : ParamOp) (k : Bool) (ps : List Part) (c : List ℕ) →
    part_text s (suc f) (part.Param x o k (Some (word ps))) c ≡ opening (opener.Braces x o k false) (each (part_text s f) ps (ending end.Brace c))
text-braces s f x o k ps c = opened s f (part.Param x o k (Some (word ps))) _ c (outs-Param x o k (Some (word ps)))

text-arith : (s : Script) (f : ℕ) (ps : List Part) (c : List ℕ) → part_text s (suc f) (part.Arith (word ps)) c ≡ opening opener.Arith (each (part_text s f) ps (ending end.Arith c))
text-arith s f ps c = opened s f (part.Arith (word ps)) _ c (outs-Arith (word ps))

text-command : (s : Script) (f n : ℕ) (c : List ℕ) → part_text s (suc f) (part.Command n) c ≡ opening opener.Command (list_text s f n (ending end.List c))
text-command s f n c = opened s f (part.Command n) _ c (outs-Command n)

text-list : (s : Script) (f n : ℕ) (is : List AndOr) (c : List ℕ) → slice_get s.lists n ≡ Some (record { items = is }) →
    list_text s (suc f) n c ≡ items_with (leaf_of s (part_text s f) (list_text s f)) is c
unfolding list_text
text-list s f n is c e = ap (λ (o : Option TreeList). elim o as (λ q. List ℕ) [ None ↦ c | Some x ↦ items_with (leaf_of s (part_text s f) (list_text s f)) x.items c ]) e

text-leaf : (e : Draft) (f n : ℕ) (b : Bool) (cs : List Command) (c : List ℕ) → slice_get e.script.leaves n ≡ Some (record { bang = b; stages = cs }) →
    leaf e f n c ≡ leaf_with (filled e) (P e f) (L e f) (record { bang = b; stages = map (filled_command e.heres) cs }) c
text-leaf e f n b cs c h =
    ap (λ (o : Option Pipeline). elim o as (λ q. List ℕ) [ None ↦ c | Some x ↦ leaf_with (filled e) (P e f) (L e f) x c ])
    (slice_get-map (filled_leaf e.heres) e.script.leaves n ∙ ap (option_map (filled_leaf e.heres)) h)

text-body : (e : Draft) (f n : ℕ) (x : Command) (c : List ℕ) → slice_get e.script.bodies n ≡ Some x → body_of (filled e) (P e f) (L e f) n c ≡ body_with (P e f) (L e f) (filled_command e.heres x) c
text-body e f n x c h =
    ap (λ (o : Option Command). elim o as (λ q. List ℕ) [ None ↦ c | Some y ↦ body_with (P e f) (L e f) y c ])
    (slice_get-map (filled_command e.heres) e.script.bodies n ∙ ap (option_map (filled_command e.heres)) h)

-- ---- lists

cons-nil : {A : Type 0} (x : A) (xs : List A) → x ∷ xs ≡ [] → ⊥
cons-nil x xs e = cc

-- ---- modes

unquoted-inside : (m : Mode) → NotQuotes (inside m) → NotQuotes m
unquoted-inside mode.Quotes n = n
unquoted-inside m n = tt

unquoted-bit : (m : Mode) (b : Bit) (r : List ℕ) → OpensFrom m (token.Part b) r → NotQuotes (after_bit m b) → NotQuotes m
unquoted-bit m (bit.Sum x n) r f q = unquoted-inside m f
unquoted-bit m (bit.Piece x) r f q = unquoted-inside m q
unquoted-bit m (bit.Escaped x) r f q = unquoted-inside m q
unquoted-bit m (bit.Single x) r f q = unquoted-inside m q
unquoted-bit m (bit.Value x) r f q = unquoted-inside m q

between-unquoted : (m : Mode) → IsBetween m → NotQuotes m
between-unquoted mode.Quotes i = i
between-unquoted m i = tt

inside-word : (m : Mode) → IsKnown m → IsInWord (inside m)
inside-word m (inl i) = subst IsInWord (sym (between-inside m i)) tt
inside-word m (inr i) = subst IsInWord (sym (inside-is m i)) i

join-after : (j : Join) → after_op (join_op j) ≡ mode.Command
join-after join.And = refl
join-after join.Or = refl

-- Parts that are read in the mode, with so many things that may still be opened, are written as deep as this.
record Deep (m : Mode) (d f : ℕ) : Type 0 where
  all : 3 * d + 1 ≤ f
  out : NotQuotes m → 3 * d + 2 ≤ f

-- ---- parameters

begins-stop : (c : List ℕ) → Stop in_name c → begins_in_name c ≡ false
begins-stop [] s = refl
begins-stop (b ∷ c) s = s.0

unbraced-value : (m : Mode) (x r c : List ℕ) → IsKnown m → EndsName x r → Heads (inside m) r c → needs_braces x c ≡ false
unbraced-value m [] r c i n h = absurd n
unbraced-value m (b ∷ x) r c i (inl n) h = passes_if (begins_name b) _ _ n.0 ∙ ap (λ y. not (is_empty y)) n.1
unbraced-value m (b ∷ x) r c i (inr n) h = takes_if (begins_name b) _ _ n.0 ∙ begins-stop c (stops (inside m) in_name r c (inside-word m i) (λ j. refl) n.1 h)

put-bit : (s : Script) (f : ℕ) {tight : Bool} {m : Mode} {ts : List Token} (b : Bit) (i : IsKnown m) (a : At m (token.Part b ∷ ts)) (c : List ℕ) (us : List Token) → GoesIf tight (after_bit m b) (tail i a).text c us → (IsLone (token.Part b) → (tail i a).text ≡ [] → tight ≡ true) →
    GoesIf tight m a.text (part_text s (suc f) (part_of b) c) (token.Part b ∷ us)
put-bit s f {tight} {m} (bit.Piece x) i a c us h w = subst (λ (z : List ℕ). GoesIf tight m a.text z (token.Part (bit.Piece x) ∷ us)) (sym (text-bit s f (bit.Piece x) c tt)) (put-if i a tt c us h w)
put-bit s f {tight} {m} (bit.Sum x n) i a c us h w = subst (λ (z : List ℕ). GoesIf tight m a.text z (token.Part (bit.Sum x n) ∷ us)) (sym (text-bit s f (bit.Sum x n) c tt)) (put-if i a tt c us h w)
put-bit s f {tight} {m} (bit.Escaped x) i a c us h w = subst (λ (z : List ℕ). GoesIf tight m a.text z (token.Part (bit.Escaped x) ∷ us)) (sym (text-bit s f (bit.Escaped x) c tt)) (put-if i a tt c us h w)
put-bit s f {tight} {m} (bit.Single x) i a c us h w = subst (λ (z : List ℕ). GoesIf tight m a.text z (token.Part (bit.Single x) ∷ us)) (sym (text-bit s f (bit.Single x) c tt)) (put-if i a tt c us h w)
put-bit s f {tight} {m} (bit.Value x) i a c us h w =
    let v = unbraced-value m x a.lexed.1.text c i (seen-is i a) h.heads in
    subst (λ (z : List ℕ). GoesIf tight m a.text z (token.Part (bit.Value x) ∷ us)) (sym (text-value s f x c ∙ passes_if (needs_braces x c) _ _ v)) (put-if i a tt c us h w)

-- a parameter that had braces and needs none
value-goes : {tight : Bool} {m : Mode} {ts : List Token} (x : List ℕ) (i : IsKnown m) (a : At m (token.Param x false ∷ ts)) (c : List ℕ) (us : List Token) → needs_braces x c ≡ false → GoesIf tight (inside m) (tail i a).text c us →
    GoesIf tight m a.text (written (token.Part (bit.Value x)) c) (token.Part (bit.Value x) ∷ us)
value-goes {m = m} x i a c us e h = record {
  lexed = (token.Part (bit.Value x), source c [], ap (in_source []) (lex-dollar m (x ++ c) i ∙ seen-is i a (inside m) c h.heads.firm e), as_seen, h.lexed);
  heads = heads-dollar m a.text _ (x ++ c) i (put-if i a tt c us h (λ l q. absurd l)).heads;
  outers = tt;
  last = λ j z. absurd (cons-nil _ _ ((put-if i a tt c us h (λ l q. absurd l)).last j z));
}

abbrev ParamGo : Draft → ℕ → ℕ → Draft → List Part → List Token → List Part → Draft → Bool → Mode → List ℕ → List ℕ → Bool → List ℕ → Type 0
ParamGo e f d s ps us qs s' tight m t x l c = (ts : List Token) × Parts (suc d) s ps ts us qs s' × GoesIf tight m t (P e (suc f) (param_of x l) c) ts

put-value : (e : Draft) (f : ℕ) {tight : Bool} {d : ℕ} {s s' : Draft} {ps qs : List Part} {m : Mode} {ts us : List Token} (x : List ℕ) (i : IsKnown m) (a : At m (token.Param x false ∷ ts)) (c : List ℕ) (vs : List Token) (v : Bool) →
    needs_braces x c ≡ v → Parts (suc d) s (ps ++ param_of x false ∷ []) vs us qs s' → GoesIf tight (inside m) (tail i a).text c vs → ParamGo e f d s ps us qs s' tight m a.text x false c
put-value e f {tight = tight} {m = m} x i a c vs true v p h =
    (token.Param x false ∷ vs, g.param p, subst (λ (z : List ℕ). GoesIf tight m a.text z (token.Param x false ∷ vs)) (sym (text-value (filled e) f x c ∙ takes_if (needs_braces x c) _ _ v)) (put-if i a tt c vs h (λ j q. absurd j)))
put-value e f {tight = tight} {m = m} x i a c vs false v p h = (
  token.Part (bit.Value x) ∷ vs,
  g.one_bit {b = bit.Value x} p,
  subst (λ (z : List ℕ). GoesIf tight m a.text z (token.Part (bit.Value x) ∷ vs)) (sym (text-value (filled e) f x c ∙ passes_if (needs_braces x c) _ _ v)) (value-goes x i a c vs v h),
)

put-param : (e : Draft) (f : ℕ) {tight : Bool} {d : ℕ} {s s' : Draft} {ps qs : List Part} {m : Mode} {ts us : List Token} (x : List ℕ) (l : Bool) (i : IsKnown m) (a : At m (token.Param x l ∷ ts)) (c : List ℕ) (vs : List Token) →
    Parts (suc d) s (ps ++ param_of x l ∷ []) vs us qs s' → GoesIf tight (inside m) (tail i a).text c vs → ParamGo e f d s ps us qs s' tight m a.text x l c
put-param e f {tight = tight} {m = m} x true i a c vs p h =
    (token.Param x true ∷ vs, g.param p, subst (λ (z : List ℕ). GoesIf tight m a.text z (token.Param x true ∷ vs)) (sym (text-length (filled e) f x c)) (put-if i a tt c vs h (λ j q. absurd j)))
put-param e f x false i a c vs p h = put-value e f x i a c vs (needs_braces x c) refl p h

-- the `$(` of a substitution
command-goes : {m n : Mode} {ts : List Token} (i : IsKnown m) (a : At m (token.Open opener.Command n ∷ ts)) (c : List ℕ) (us : List Token) → Lexes mode.Command (source c []) us →
    Goes m a.text (written (token.Open opener.Command n) c) (token.Open opener.Command n ∷ us)
command-goes {m} {n} i a c us h =
    let w = some mode.Command (tail i a).text tt in
    let k : lex m (36 ∷ 40 ∷ 32 ∷ c) ≡ got (token.Open opener.Command n) (32 ∷ c) =
    lex-dollar m (40 ∷ 32 ∷ c) i ∙ (parenthesis-at (inside m) 32 c refl ∙ ap (λ j. got (token.Open opener.Command j) (32 ∷ c)) (sym (seen-is i a))) in
    record {
      lexed = (token.Open opener.Command n, source (32 ∷ c) [], ap (in_source []) k, as_seen, behind_blank mode.Command c [] us tt h);
      heads = heads-dollar m a.text _ (40 ∷ 32 ∷ c) i (put i a tt w.0 w.1 w.2).heads;
      outers = tt;
      last = λ j z. absurd (cons-nil _ _ ((put i a tt w.0 w.1 w.2).last refl z));
    }

-- ---- newlines

none-due : (s : Draft) → s.due ≡ [] → none_due s ≡ s
none-due s e = ap (λ (x : List Due). record s { due = x }) (sym e)

no_bodies : {m : Mode} {hs : List Due} {d : ℕ} {s t : Draft} {ts rest : List Token} → Bodies m hs d s ts rest t → hs ≡ [] → (ts ≡ rest) × (t ≡ s)
no_bodies g.no_body e = (refl, refl)
no_bodies (g.quoted_body b) e = absurd cc
no_bodies (g.expanded_body p b) e = absurd cc

still-due : {s t : Draft} → t ≡ s → s.due ≡ [] → t.due ≡ []
still-due e u = ap (λ (x : Draft). x.due) e ∙ u

-- behind a newline
behind : {n : Mode} {s t : Draft} {d : ℕ} {ts mid : List Token} → s.due ≡ [] → Bodies n s.due d (none_due s) ts mid t → At (cut_mode n s.due) ts → (t ≡ s) × At n mid
behind {n} {s} {t} {d} {ts} {mid} u b a =
    let k = no_bodies b u in (k.1 ∙ none-due s u, subst (At n) k.0 (subst (λ (x : Mode). At x ts) (ap (cut_mode n) u) a))

newlines : {n : Mode} {d : ℕ} {s t : Draft} {ts rest : List Token} → Newlines n d s ts rest t → IsBetween n → s.due ≡ [] → At n ts → (t ≡ s) × At n rest
newlines g.no_newline i u a = (refl, a)
newlines (g.one_newline b r) i u a = let k = behind u b (tail (inl i) a) in let x = newlines r i (still-due k.0 u) k.1 in (x.0 ∙ k.0, x.1)

separator : {m : Mode} {d : ℕ} {s t : Draft} {ts rest : List Token} → Separator d s ts rest t → IsBetween m → s.due ≡ [] → At m ts → (t ≡ s) × At mode.Command rest
separator (g.semi n) i u a = newlines n tt u (tail (inl i) a)
separator (g.newline b n) i u a = let k = behind u b (tail (inl i) a) in let x = newlines n tt (still-due k.0 u) k.1 in (x.0 ∙ k.0, x.1)

may_separate : {d : ℕ} {s t : Draft} {ts rest : List Token} → MaySeparate d s ts rest t → s.due ≡ [] → At mode.Command ts → (t ≡ s) × At mode.Command rest
may_separate g.not_separated u a = (refl, a)
may_separate (g.separated z) u a = separator z tt u a

-- no newlines
none : {n : Mode} {d : ℕ} {s t : Draft} → t ≡ s → (us : List Token) → Newlines n d s us us t
none {n} {d} {s} e us = subst (λ (x : Draft). Newlines n d s us us x) (sym e) g.no_newline

not_separated : {d : ℕ} {s t : Draft} → t ≡ s → (us : List Token) → MaySeparate d s us us t
not_separated {d} {s} e us = subst (λ (x : Draft). MaySeparate d s us us x) (sym e) g.not_separated

semi-none : {d : ℕ} {s t : Draft} → t ≡ s → (us : List Token) → Separator d s (token.Operator op.Semi ∷ us) us t
semi-none e us = g.semi (none e us)

opened-there : {ts mid : List Token} → MayOpen ts mid → At mode.Pattern ts → At mode.Pattern mid
opened-there g.not_opened a = a
opened-there g.pattern_opened a = tail (inl tt) a

-- No `(` comes first.
newlines-ends : {n : Mode} {d : ℕ} {s t : Draft} {k : Token} {ts rest : List Token} (c : List ℕ) → Newlines n d s ts (k ∷ rest) t → NotOpen k → Ends ts c
newlines-ends c g.no_newline o = o
newlines-ends c (g.one_newline b r) o = tt

separator-ends : {d : ℕ} {s t : Draft} {ts rest : List Token} (c : List ℕ) → Separator d s ts rest t → Ends ts c
separator-ends c (g.semi n) = tt
separator-ends c (g.newline b n) = tt

may_separate-ends : {d : ℕ} {s t : Draft} {k : Token} {ts rest : List Token} (c : List ℕ) → MaySeparate d s ts (k ∷ rest) t → NotOpen k → Ends ts c
may_separate-ends c g.not_separated o = o
may_separate-ends c (g.separated z) o = separator-ends c z

branches-ends : {d : ℕ} {s t : Draft} {bs cs : List (ℕ × ℕ)} {o : Option ℕ} {ts rest : List Token} (c : List ℕ) → MoreBranches d s bs ts rest cs o t → Ends ts c
branches-ends c g.fi = tt
branches-ends c (g.elif b) = tt
branches-ends c (g.otherwise l) = tt

-- the reserved words `in` and `do` behind a name
shut-in : (c : List ℕ) → (opens_parenthesis (skip (105 ∷ 110 ∷ 32 ∷ c)) ≡ false) × Firm (105 ∷ 110 ∷ 32 ∷ c)
shut-in c = (ap opens_parenthesis (skip-fixed (105 ∷ 110 ∷ 32 ∷ c) (refl, refl, apart 105 (110 ∷ 32 ∷ c) refl)), apart 105 (110 ∷ 32 ∷ c) refl)

shut-do : (c : List ℕ) → (opens_parenthesis (skip (100 ∷ 111 ∷ 32 ∷ c)) ≡ false) × Firm (100 ∷ 111 ∷ 32 ∷ c)
shut-do c = (ap opens_parenthesis (skip-fixed (100 ∷ 111 ∷ 32 ∷ c) (refl, refl, apart 100 (111 ∷ 32 ∷ c) refl)), apart 100 (111 ∷ 32 ∷ c) refl)

-- ---- lists that end

-- a list may end with a `;`
data Tail : List Token → List Token → Type 0 where
  at_once : {us : List Token} → Tail us us
  with_semi : {us : List Token} → Tail (token.Operator op.Semi ∷ us) us

end-by : {d : ℕ} {s : Draft} {is : List AndOr} {a : AndOr} {us vs : List Token} → Tail us vs → ListRest d s is a us vs (is ++ a ∷ []) s
end-by at_once = g.list_end
end-by with_semi = g.list_separator (g.semi g.no_newline)

abbrev joined_all : AndOr → List (Join × ℕ) → AndOr
joined_all a [] = a
joined_all a (x ∷ xs) = joined_all (joined a x.0 x.1) xs

joined-text : (f : ℕ → List ℕ → List ℕ) (a : AndOr) (xs : List (Join × ℕ)) (c : List ℕ) → and_or_with f (joined_all a xs) c ≡ f a.first (each (join_with f) a.rest (each (join_with f) xs c))
joined-text f a [] c = refl
joined-text f a (x ∷ xs) c = joined-text f (joined a x.0 x.1) xs c ∙ ap (f a.first) (each-append (join_with f) a.rest ((x.0, x.1) ∷ []) (each (join_with f) xs c))

ready-join : (j : Join) (c : List ℕ) (us : List Token) → Lexes mode.Command (source c []) us → Ready (operator (join_op j) c) (token.Operator (join_op j) ∷ us)
ready-join join.And c us h = ready-sign op.AndIf c us tt h
ready-join join.Or c us h = ready-sign op.OrIf c us tt h

join-ends : (j : Join) (ts : List Token) (c : List ℕ) → Ends (token.Operator (join_op j) ∷ ts) c
join-ends join.And ts c = tt
join-ends join.Or ts c = tt

join-there : {m : Mode} {ts : List Token} (j : Join) → IsBetween m → At m (token.Operator (join_op j) ∷ ts) → At mode.Command ts
join-there {ts = ts} j i a = subst (λ (x : Mode). At x ts) (join-after j) (tail (inl i) a)

loop-there : {ts : List Token} (u : Bool) → At mode.Command (token.Operator (loop_op u) ∷ ts) → At mode.Command ts
loop-there true a = tail (inl tt) a
loop-there false a = tail (inl tt) a

reserved-loop : (u : Bool) (c : List ℕ) (us : List Token) → Lexes mode.Command (source c []) us → Lexes mode.Command (source (operator (loop_op u) c) []) (token.Operator (loop_op u) ∷ us)
reserved-loop true c us h = reserved op.Until c us tt h
reserved-loop false c us h = reserved op.While c us tt h

not-nil : (t : List ℕ) → t ≡ [] → opens_parenthesis (skip t) ≡ true → ⊥
unfolding skip
not-nil [] e o = absurd cc
not-nil (b ∷ t) e o = absurd cc

-- the name of a function and the brackets behind it
function-goes : {ts : List Token} (nm : List ℕ) (a : At mode.Command (token.Function nm ∷ ts)) (b : List ℕ) (us : List Token) → Lexes mode.Command (source b []) us →
    Lexes mode.Command (source (written (token.Function nm) (operator op.Open (operator op.Close b))) []) (token.Function nm ∷ token.Operator op.Open ∷ token.Operator op.Close ∷ us)
function-goes nm a b us h =
    let t = (tail (inl tt) a).text in
    let w = operator op.Open (operator op.Close b) in
    let e = seen-is (inl tt) a in
    let o : Goes mode.Arguments t w (token.Operator op.Open ∷ token.Operator op.Close ∷ us) = record {
      lexed = sign mode.Arguments op.Open (operator op.Close b) (token.Operator op.Close ∷ us) tt tt (sign mode.Command op.Close b us tt tt h);
      heads = heads-closed mode.Arguments t w tt (e ∙ sym (ap opens_parenthesis (skip-fixed w (refl, refl, apart 40 (32 ∷ operator op.Close b) refl)))) (apart 40 (32 ∷ operator op.Close b) refl);
      outers = tt;
      last = λ j z. absurd (not-nil t z e);
    } in
    (put (inl tt) a tt w (token.Operator op.Open ∷ token.Operator op.Close ∷ us) o).lexed

-- ---- simple commands

file-clear : (ws : List Word) (fd : ℕ) (o : RedirOp) (ps : List Part) → IsFile o → with_body ws (redir fd o ps) o ≡ redir fd o ps
file-clear ws fd redir_op.Here ps i = absurd i
file-clear ws fd redir_op.Read ps i = refl
file-clear ws fd redir_op.Write ps i = refl
file-clear ws fd redir_op.Clobber ps i = refl
file-clear ws fd redir_op.Append ps i = refl
file-clear ws fd redir_op.DupIn ps i = refl
file-clear ws fd redir_op.DupOut ps i = refl

abbrev simple_of : List (List ℕ × Word) → List Word → List Redir → Simple
simple_of xs ws rs = record { assigns = xs; words = ws; redirs = rs }

simple-nil : (c : Simple) → c ≡ simple_of (c.assigns ++ []) (c.words ++ []) c.redirs
simple-nil c = ap (λ (q : List (List ℕ × Word)). simple_of q c.words c.redirs) (nil-right c.assigns) ∙ ap (λ (q : List Word). simple_of (c.assigns ++ []) q c.redirs) (nil-right c.words)

-- ---- numbers

closed_list : {s t : Draft} (n : ℕ) (is : List AndOr) → n ≡ next_list s → Extends (begin_list s) t → Extends s (end_list n is t)
closed_list {s} n is e p = frame.put_list n is (frame.then (frame.new_list s) p) (omega (arith, e))

length-list : (t : Draft) (n : ℕ) (is : List AndOr) → next_list (end_list n is t) ≡ next_list t
length-list t n is = length-set t.script.lists n _

-- ---- what is known of each thing that is read

record PartsGo (e : Draft) (f d : ℕ) (s : Draft) (ps : List Part) (rest : List Token) (qs : List Part) (s' : Draft) (m : Mode) (t : List ℕ) (tight : Bool) : Type 0 where
  new : List Part
  is : qs ≡ ps ++ new
  due : s'.due ≡ []
  way : Mode
  known : IsKnown way
  there : At way rest
  -- where the parts end in a backslash that stands for itself, the text has ended
  lone : ends_lone qs ≡ true → Closes rest → there.text ≡ []
  go : (c : List ℕ) (us : List Token) → GoesIf tight way there.text c us → (ts : List Token) × Parts d s ps ts us qs s' × GoesIf tight m t (each (P e f) new c) ts

record RedirsGo (e : Draft) (f d : ℕ) (s : Draft) (rs : List Redir) (from rest : List Token) (rs' : List Redir) (s' : Draft) : Type 0 where
  new : List Redir
  is : rs' ≡ rs ++ new
  clear : filled_redirs e.heres new ≡ new
  due : s'.due ≡ []
  way : Mode
  between : IsBetween way
  there : At way rest
  go : (k : List ℕ) (us : List Token) → Ready k us → Ends rest k → (ts : List Token) × Redirs d s rs ts us rs' s' × Ready (each (redir_with (P e f)) new k) ts × Ends from (each (redir_with (P e f)) new k)

-- A text is read in one mode as the tokens, and where N holds in another one.
record Stands (n m : Mode) (N : Type 0) (x : List ℕ) (ts : List Token) : Type 0 where
  behind : Lexes n (source x []) ts
  same : N → Lexes m (source x []) ts
  shut : opens_parenthesis (skip x) ≡ false
  firm : Firm x

-- A redirection that doesn't end in a backslash, written in front of what it may be written in front of, in front of rest too.
record RedirGo (e : Draft) (f d : ℕ) (rest : List Token) (s : Draft) (fd : ℕ) (o : RedirOp) (ps : List Part) (t : Draft) : Type 0 where
  begins : Begins s t (parts_list ps)
  go : StopsAt rest → (n : Mode) → IsBetween n → (c : List ℕ) (us : List Token) → Lexes n (source c []) us → opens_parenthesis (skip c) ≡ false → Firm c →
      (ts : List Token) × Parts d s [] ts (token.End end.Word n ∷ us) ps t × Ready (redir_with (P e f) (redir fd o ps) c) (token.Redirect fd o ∷ ts)

-- redirections one after another
data Early : Draft → ℕ → ℕ → List Token → Draft → List Redir → Draft → Type 0 where
  no_early : {e : Draft} {f d : ℕ} {rest : List Token} {s : Draft} → Early e f d rest s [] s
  one_early : {e : Draft} {f d : ℕ} {rest : List Token} {s t u : Draft} {fd : ℕ} {o : RedirOp} {ps : List Part} {rs : List Redir} →
      RedirGo e f d rest s fd o ps t → NotEmpty ps → Early e f d rest t rs u → Early e f d rest s (redir fd o ps ∷ rs) u

-- What is read from the draft s on is written from the draft mid on, behind the redirections that stand in front.
record ElementsGo (e : Draft) (f d : ℕ) (s : Draft) (c : Simple) (rest : List Token) (c' : Simple) (s' : Draft) (m : Mode) (from : List Token) : Type 0 where
  assigns : List (List ℕ × Word)
  words : List Word
  redirs : List Redir
  is : c' ≡ simple_of (c.assigns ++ assigns) (c.words ++ words) (c.redirs ++ redirs)
  clear : filled_redirs e.heres redirs ≡ redirs
  order : (Assigns m → ⊥) → assigns ≡ []
  due : s'.due ≡ []
  way : Mode
  between : IsBetween way
  there : At way rest
  least : Least s (assigns_list assigns words)
  mid : Draft
  early : Early e f d rest s (going (assigns_list assigns words) redirs) mid
  ends : NotEmpty (going (assigns_list assigns words) redirs) → (x : List ℕ) → Ends from x
  go : (rs : List Redir) (k : List ℕ) (us : List Token) → Ready k us → Ends rest k →
      (ts : List Token) × Elements d mid (simple_of c.assigns c.words rs) ts us (simple_of (c.assigns ++ assigns) (c.words ++ words) (rs ++ waiting (assigns_list assigns words) redirs)) s'
      × Stands (mode_before c.words) m (going (assigns_list assigns words) redirs ≡ []) (assigns_with (P e f) assigns words (waiting (assigns_list assigns words) redirs) k) ts
      × Ends from (assigns_with (P e f) assigns words (waiting (assigns_list assigns words) redirs) k)

record ForWordsGo (e : Draft) (f d : ℕ) (s : Draft) (ws : List Word) (rest : List Token) (vs : List Word) (s' : Draft) (t : List ℕ) : Type 0 where
  new : List Word
  is : vs ≡ ws ++ new
  due : s'.due ≡ []
  there : At mode.Arguments rest
  go : (k : List ℕ) (us : List Token) → Goes mode.Arguments there.text k us → (ts : List Token) × ForWords d s ws ts us vs s' × Goes mode.Arguments t (each (word_with (P e f)) new k) ts

record PatternsGo (e : Draft) (f d : ℕ) (s : Draft) (ws : List Word) (rest : List Token) (vs : List Word) (s' : Draft) (m : Mode) : Type 0 where
  first : Word
  others : List Word
  is : vs ≡ ws ++ first ∷ others
  due : s'.due ≡ []
  there : At mode.Arguments rest
  go : (k : List ℕ) (us : List Token) → Ready k us → Ends rest k → (ts : List Token) × Patterns d s ws ts us vs s' × Lexes m (source (patterns_with (P e f) (first ∷ others) k) []) ts

record ArmGo (e : Draft) (f d : ℕ) (s : Draft) (rest : List Token) (ws : List Word) (n : ℕ) (s' : Draft) : Type 0 where
  due : s'.due ≡ []
  way : Mode
  between : IsBetween way
  there : At way rest
  go : (k : List ℕ) (us : List Token) → Lexes mode.Pattern (source k []) us →
      (ts : List Token) × OneArm d s ts (token.Operator op.DoubleSemi ∷ us) ws n s' × Lexes mode.Pattern (source (arm_with (P e f) (L e f) (ws, n) k) []) ts

record ArmsGo (e : Draft) (f d : ℕ) (s : Draft) (arms : List (List Word × ℕ)) (rest : List Token) (arms' : List (List Word × ℕ)) (s' : Draft) : Type 0 where
  new : List (List Word × ℕ)
  is : arms' ≡ arms ++ new
  due : s'.due ≡ []
  there : At mode.Command rest
  go : (k : List ℕ) (us : List Token) → Lexes mode.Command (source k []) us →
      (ts : List Token) × Arms d s arms ts us arms' s' × Lexes mode.Pattern (source (each (arm_with (P e f) (L e f)) new (operator op.Esac k)) []) ts

record BranchesGo (e : Draft) (f d : ℕ) (s : Draft) (bs : List (ℕ × ℕ)) (rest : List Token) (cs : List (ℕ × ℕ)) (o : Option ℕ) (s' : Draft) : Type 0 where
  first : ℕ × ℕ
  others : List (ℕ × ℕ)
  is : cs ≡ bs ++ first ∷ others
  due : s'.due ≡ []
  there : At mode.Command rest
  go : (k : List ℕ) (us : List Token) → Lexes mode.Command (source k []) us →
      (ts : List Token) × Branches d s bs ts us cs o s' × Lexes mode.Command (source (branches_with (L e f) (first ∷ others) (else_with (L e f) o k)) []) ts

record MoreBranchesGo (e : Draft) (f d : ℕ) (s : Draft) (bs : List (ℕ × ℕ)) (rest : List Token) (cs : List (ℕ × ℕ)) (o : Option ℕ) (s' : Draft) : Type 0 where
  new : List (ℕ × ℕ)
  is : cs ≡ bs ++ new
  due : s'.due ≡ []
  there : At mode.Command rest
  go : (k : List ℕ) (us : List Token) → Lexes mode.Command (source k []) us →
      (ts : List Token) × MoreBranches d s bs ts us cs o s' × Lexes mode.Command (source (each (elif_with (L e f)) new (else_with (L e f) o k)) []) ts

record CompoundGo (e : Draft) (f d : ℕ) (s : Draft) (rest : List Token) (x : Compound) (s' : Draft) : Type 0 where
  due : s'.due ≡ []
  there : At mode.Command rest
  go : (k : List ℕ) (us : List Token) → Lexes mode.Command (source k []) us → (ts : List Token) × OneCompound d s ts us x s' × Lexes mode.Command (source (compound_with (P e f) (L e f) x k) []) ts

record CommandGo (e : Draft) (f d : ℕ) (s : Draft) (rest : List Token) (x : Command) (s' : Draft) : Type 0 where
  clear : filled_command e.heres x ≡ x
  due : s'.due ≡ []
  way : Mode
  between : IsBetween way
  there : At way rest
  go : (k : List ℕ) (us : List Token) → Ready k us → Ends rest k → (ts : List Token) × OneCommand d s ts us x s' × Lexes mode.Command (source (command_with (filled e) (P e f) (L e f) x k) []) ts

record StagesGo (e : Draft) (f d : ℕ) (s : Draft) (cs : List Command) (rest : List Token) (cs' : List Command) (s' : Draft) : Type 0 where
  first : Command
  others : List Command
  is : cs' ≡ cs ++ first ∷ others
  clear : map (filled_command e.heres) (first ∷ others) ≡ first ∷ others
  due : s'.due ≡ []
  way : Mode
  between : IsBetween way
  there : At way rest
  go : (k : List ℕ) (us : List Token) → Ready k us → Ends rest k →
      (ts : List Token) × Stages d s cs ts us cs' s' × Lexes mode.Command (source (stages_with (filled e) (P e f) (L e f) (first ∷ others) k) []) ts

record MoreStagesGo (e : Draft) (f d : ℕ) (s : Draft) (cs : List Command) (rest : List Token) (cs' : List Command) (s' : Draft) (from : List Token) : Type 0 where
  new : List Command
  is : cs' ≡ cs ++ new
  clear : map (filled_command e.heres) new ≡ new
  due : s'.due ≡ []
  way : Mode
  between : IsBetween way
  there : At way rest
  go : (k : List ℕ) (us : List Token) → Ready k us → Ends rest k → (ts : List Token) × MoreStages d s cs ts us cs' s' × Ready (each (piped (filled e) (P e f) (L e f)) new k) ts × Ends from (each (piped (filled e) (P e f) (L e f)) new k)

record PipelineGo (e : Draft) (f d : ℕ) (s : Draft) (rest : List Token) (s' : Draft) : Type 0 where
  due : s'.due ≡ []
  way : Mode
  between : IsBetween way
  there : At way rest
  go : (k : List ℕ) (us : List Token) → Ready k us → Ends rest k → (ts : List Token) × OnePipeline d s ts us s' × Lexes mode.Command (source (leaf e f (next_leaf s) k) []) ts

record RestGo (e : Draft) (f d : ℕ) (s : Draft) (is : List AndOr) (a : AndOr) (from rest : List Token) (js : List AndOr) (s' : Draft) : Type 0 where
  more : List (Join × ℕ)
  others : List AndOr
  same : js ≡ is ++ joined_all a more ∷ others
  due : s'.due ≡ []
  way : Mode
  between : IsBetween way
  there : At way rest
  go : (k : List ℕ) (us vs : List Token) → Ready k us → Ends rest k → Tail us vs →
      (ts : List Token) × ListRest d s is a ts vs js s' × Ready (each (join_with (leaf e f)) more (each (next_item (leaf e f)) others k)) ts
      × Ends from (each (join_with (leaf e f)) more (each (next_item (leaf e f)) others k))

record ListGo (e : Draft) (d : ℕ) (s : Draft) (rest : List Token) (is : List AndOr) (s' : Draft) (w : List ℕ → List ℕ) : Type 0 where
  due : s'.due ≡ []
  way : Mode
  between : IsBetween way
  there : At way rest
  go : (k : List ℕ) (us vs : List Token) → Ready k us → Ends rest k → Tail us vs → (ts : List Token) × InList d s ts vs is s' × Lexes mode.Command (source (w k) []) ts

record MayGo (e : Draft) (d : ℕ) (s : Draft) (rest : List Token) (is : List AndOr) (s' : Draft) (w : List ℕ → List ℕ) : Type 0 where
  due : s'.due ≡ []
  way : Mode
  between : IsBetween way
  there : At way rest
  go : (k : List ℕ) (us : List Token) → Ready k us → Ends rest k → (ts : List Token) × MayBeList d s ts us is s' × Lexes mode.Command (source (w k) []) ts

-- a list in a compound command and the reserved word behind it
listed-ready : (o : Op) (k : List ℕ) (us : List Token) → IsReserved o → Lexes (after_op o) (source k []) us → Ready (operator op.Semi (operator o k)) (token.Operator op.Semi ∷ token.Operator o ∷ us)
listed-ready o k us i h = ready-sign op.Semi (operator o k) (token.Operator o ∷ us) tt (reserved o k us i h)

-- a list that begins and ends, as the script has it
numbered : {e : Draft} (f n : ℕ) {d : ℕ} {s t : Draft} {is : List AndOr} {ts rest : List Token} → n ≡ next_list s → MayBeList d (begin_list s) ts rest is t → From s (end_list n is t) e → 3 * d + 3 ≤ f →
    (From (begin_list s) t e → 3 * d + 2 ≤ pred f → MayGo e d (begin_list s) rest is t (items_with (leaf e (pred f)) is)) → MayGo e d (begin_list s) rest is t (L e f n)
numbered zero n q l fr h k = absurd (omega (arith, h))
numbered {e} (suc f) n {is = is} q l fr h k =
    let x = k (final.in_list n q is fr) (omega (arith, h)) in record {
      due = x.due;
      way = x.way;
      between = x.between;
      there = x.there;
      go = λ c us rd en. let y = x.go c us rd en in
          (y.0, y.1, subst (λ (o : List ℕ). Lexes mode.Command (source o []) y.0) (sym (text-list (filled e) f n is c (final.list_at n q is (frame.may_be_list l) fr))) y.2);
    }

numbered_list : {e : Draft} (f n : ℕ) {d : ℕ} {s t : Draft} {is : List AndOr} {ts rest : List Token} → n ≡ next_list s → InList d (begin_list s) ts rest is t → From s (end_list n is t) e → 3 * d + 3 ≤ f →
    (From (begin_list s) t e → 3 * d + 2 ≤ pred f → ListGo e d (begin_list s) rest is t (items_with (leaf e (pred f)) is)) → ListGo e d (begin_list s) rest is t (L e f n)
numbered_list zero n q l fr h k = absurd (omega (arith, h))
numbered_list {e} (suc f) n {is = is} q l fr h k =
    let x = k (final.in_list n q is fr) (omega (arith, h)) in record {
      due = x.due;
      way = x.way;
      between = x.between;
      there = x.there;
      go = λ c us vs rd en tl. let y = x.go c us vs rd en tl in
          (y.0, y.1, subst (λ (o : List ℕ). Lexes mode.Command (source o []) y.0) (sym (text-list (filled e) f n is c (final.list_at n q is (frame.in_list l) fr))) y.2);
    }

-- ---- where a simple command has been read so far

-- Nothing has been read of it, or the mode is the one behind a redirection.
abbrev Standing : Mode → List Word → Type 0
Standing m ws = (m ≡ mode_before ws) ⊎ ((m ≡ mode.Command) × (ws ≡ []))

standing-prefix : (m : Mode) (ws : List Word) → Standing m ws → Assigns m → mode_before ws ≡ mode.Prefix
standing-prefix m [] st a = refl
standing-prefix m (w ∷ ws) (inl e) a = absurd (subst Assigns e a)
standing-prefix m (w ∷ ws) (inr e) a = absurd (cons-nil w ws e.1)

before-some : (ws : List Word) (w : Word) → mode_before (ws ++ w ∷ []) ≡ mode.Arguments
before-some [] w = refl
before-some (v ∷ ws) w = refl

abbrev Starts : List Token → Type 0
Starts [] = ⊥
Starts (k ∷ ts) = IsWordly k

read-behind : (m : Mode) (ws : List Word) (x : List ℕ) (ts : List Token) → Standing m ws → Starts ts → Lexes m (source x []) ts → Lexes (mode_before ws) (source x []) ts
read-behind m ws x [] st w l = absurd w
read-behind m ws x (k ∷ ts) (inl e) w l = subst (λ (n : Mode). Lexes n (source x []) (k ∷ ts)) e l
read-behind m ws x (k ∷ ts) (inr e) w l =
    subst (λ (v : List Word). Lexes (mode_before v) (source x []) (k ∷ ts)) (sym e.1) (in_prefix x k ts w (subst (λ (n : Mode). Lexes n (source x []) (k ∷ ts)) e.0 l))

starts : {d : ℕ} {s t : Draft} {ps : List Part} {ts rest : List Token} → Parts d s [] ts rest ps t → NotEmpty ps → Starts ts
starts g.parts_end n = absurd n
starts (g.one_bit r) n = tt
starts (g.param r) n = tt
starts (g.double q r) n = tt
starts (g.braces q r) n = tt
starts (g.arith q r) n = tt
starts (g.substitution l r) n = tt
starts (g.backquotes l r) n = tt

wordly-shut : (k : Token) → IsWordly k → NotOpen k
wordly-shut (token.Operator o) w = absurd w
wordly-shut k w = tt

starts-stops : (ts : List Token) → Starts ts → StopsAt ts
starts-stops [] w = absurd w
starts-stops (k ∷ ts) w = wordly-shut k w

starts-ends : (ts : List Token) (c : List ℕ) → Starts ts → Ends ts c
starts-ends [] c w = absurd w
starts-ends (k ∷ ts) c w = wordly-shut k w

elements-stops : {d : ℕ} {s t : Draft} {c c' : Simple} {ts rest : List Token} → Elements d s c ts rest c' t → StopsAt rest → StopsAt ts
elements-stops g.no_element h = h
elements-stops (g.assign p r) h = tt
elements-stops (g.argument {ts = ts} p nz r) h = starts-stops ts (starts p nz)
elements-stops (g.redirection (g.file p nz) r) h = tt
elements-stops (g.redirection g.here r) h = tt

empty-or : {A : Type 0} (xs : List A) → (xs ≡ []) ⊎ (xs ≡ [] → ⊥)
empty-or [] = inl refl
empty-or (x ∷ xs) = inr (λ e. cons-nil x xs e)

assigns-behind : (m n : Mode) (ws : List Word) → Standing m ws → n ≡ mode_before ws → Assigns n → Assigns m
assigns-behind m n ws (inl e) f h = subst Assigns (f ∙ sym e) h
assigns-behind m n ws (inr e) f h = subst Assigns (sym e.0) tt

-- Where a word begins, the text goes on.
tightly-at : {tight : Bool} {m n : Mode} {c : List ℕ} {us : List Token} (ts : List Token) → Starts ts → IsBetween m → (a : At m ts) → GoesIf tight n a.text c us → Goes n a.text c us
tightly-at [] b i a g = absurd b
tightly-at (k ∷ ts) b i a g = tightly i a g

-- no `(` at the front of a word
shut-word : {tight : Bool} {m : Mode} {ts us : List Token} {c : List ℕ} (i : IsBetween m) (a : At m ts) → Starts ts → GoesIf tight m a.text c us → opens_parenthesis (skip c) ≡ false
shut-word {ts = []} i a b h = absurd b
shut-word {ts = k ∷ ts} {c = c} i a b h = shut-by c i a (wordly-shut k b) h

-- ---- one thing more

double-go : {e : Draft} {f d : ℕ} {s t s' : Draft} {ps qs inner : List Part} {m n : Mode} {ts mid rest : List Token} {tight : Bool} (i : IsKnown m) (a : At m (token.Open opener.Double n ∷ ts))
    (x : PartsGo e f d s [] (token.End end.Quote n ∷ mid) inner t mode.Quotes (tail i a).text true) → PartsGo e (suc f) d t (ps ++ part.Double inner ∷ []) rest qs s' n (tail x.known x.there).text tight → PartsGo e (suc f) d s ps rest qs s' m a.text tight
double-go {e} {f} {ps = ps} {inner = inner} {m = m} {n = n} i a x y = record {
  new = part.Double inner ∷ y.new;
  is = y.is ∙ append_assoc ps (part.Double inner ∷ []) y.new;
  due = y.due;
  way = y.way;
  known = y.known;
  there = y.there;
  lone = y.lone;
  go = λ c us h.
      let v = y.go c us h in
      let k = each (P e (suc f)) y.new c in
      let w = x.go (written (token.End end.Quote n) k) (token.End end.Quote n ∷ v.0) (inward x.known x.there (λ q. q) (put-if x.known x.there tt k v.0 v.2 (λ l q. absurd l))) in
      let q = ap (λ (z : List Part). opening opener.Double (each (P e f) z (ending end.Quote k))) (sym x.is) ∙ sym (text-double (filled e) f inner k) in
      (token.Open opener.Double n ∷ w.0, g.double w.1 v.1, loose (subst (λ (z : List ℕ). Goes m a.text z (token.Open opener.Double n ∷ w.0)) q (put i a tt _ w.0 w.2)));
}

braces-go : {e : Draft} {f d : ℕ} {s t s' : Draft} {ps qs inner : List Part} {m n : Mode} {ts mid rest : List Token} {tight : Bool} (nm : List ℕ) (o : ParamOp) (k fl : Bool) (i : IsKnown m) (a : At m (token.Open (opener.Braces nm o k fl) n ∷ ts))
    (x : PartsGo e f d s [] (token.End end.Brace n ∷ mid) inner t (mode.Braces fl) (tail i a).text true) → PartsGo e (suc f) (suc d) t (ps ++ part.Param nm o k (Some (word inner)) ∷ []) rest qs s' n (tail x.known x.there).text tight →
    PartsGo e (suc f) (suc d) s ps rest qs s' m a.text tight
braces-go {e} {f} {ps = ps} {inner = inner} {m = m} {n = n} nm o k fl i a x y = record {
  new = part.Param nm o k (Some (word inner)) ∷ y.new;
  is = y.is ∙ append_assoc ps (part.Param nm o k (Some (word inner)) ∷ []) y.new;
  due = y.due;
  way = y.way;
  known = y.known;
  there = y.there;
  lone = y.lone;
  go = λ c us h.
      let v = y.go c us h in
      let z = each (P e (suc f)) y.new c in
      let w = x.go (written (token.End end.Brace n) z) (token.End end.Brace n ∷ v.0) (inward x.known x.there (λ q. q) (put-if x.known x.there tt z v.0 v.2 (λ l q. absurd l))) in
      let q = ap (λ (j : List Part). opening (opener.Braces nm o k false) (each (P e f) j (ending end.Brace z))) (sym x.is) ∙ sym (text-braces (filled e) f nm o k inner z) in
      (token.Open (opener.Braces nm o k fl) n ∷ w.0, g.braces w.1 v.1, loose (subst (λ (z : List ℕ). Goes m a.text z (token.Open (opener.Braces nm o k fl) n ∷ w.0)) q (put i a tt _ w.0 w.2)));
}

arith-go : {e : Draft} {f d : ℕ} {s t s' : Draft} {ps qs inner : List Part} {m n : Mode} {ts mid rest : List Token} {tight : Bool} (i : IsKnown m) (a : At m (token.Open opener.Arith n ∷ ts))
    (x : PartsGo e f d s [] (token.End end.Arith n ∷ mid) inner t (mode.Arith 0) (tail i a).text true) → PartsGo e (suc f) (suc d) t (ps ++ part.Arith (word inner) ∷ []) rest qs s' n (tail x.known x.there).text tight →
    PartsGo e (suc f) (suc d) s ps rest qs s' m a.text tight
arith-go {e} {f} {ps = ps} {inner = inner} {m = m} {n = n} i a x y = record {
  new = part.Arith (word inner) ∷ y.new;
  is = y.is ∙ append_assoc ps (part.Arith (word inner) ∷ []) y.new;
  due = y.due;
  way = y.way;
  known = y.known;
  there = y.there;
  lone = y.lone;
  go = λ c us h.
      let v = y.go c us h in
      let z = each (P e (suc f)) y.new c in
      let w = x.go (written (token.End end.Arith n) z) (token.End end.Arith n ∷ v.0) (inward x.known x.there (λ q. q) (put-if x.known x.there tt z v.0 v.2 (λ l q. absurd l))) in
      let q = ap (λ (j : List Part). opening opener.Arith (each (P e f) j (ending end.Arith z))) (sym x.is) ∙ sym (text-arith (filled e) f inner z) in
      (token.Open opener.Arith n ∷ w.0, g.arith w.1 v.1, loose (subst (λ (z : List ℕ). Goes m a.text z (token.Open opener.Arith n ∷ w.0)) q (put i a tt _ w.0 w.2)));
}

substitution-go : {e : Draft} {f d : ℕ} {s t s' : Draft} {ps qs : List Part} {is : List AndOr} {m n : Mode} {ts mid rest : List Token} {tight : Bool} (i : IsKnown m) (a : At m (token.Open opener.Command n ∷ ts))
    (x : MayGo e d (begin_list s) (token.End end.List n ∷ mid) is t (L e f (next_list s))) →
    PartsGo e (suc f) (suc d) (end_list (next_list s) is t) (ps ++ part.Command (next_list s) ∷ []) rest qs s' n (tail (inl x.between) x.there).text tight → PartsGo e (suc f) (suc d) s ps rest qs s' m a.text tight
substitution-go {e} {f} {s = s} {ps = ps} {m = m} {n = n} i a x y = record {
  new = part.Command (next_list s) ∷ y.new;
  is = y.is ∙ append_assoc ps (part.Command (next_list s) ∷ []) y.new;
  due = y.due;
  way = y.way;
  known = y.known;
  there = y.there;
  lone = y.lone;
  go = λ c us h.
      let v = y.go c us h in
      let z = each (P e (suc f)) y.new c in
      let w = x.go (41 ∷ z) (token.End end.List n ∷ v.0) (ready-list n z v.0 v.2.lexed) tt in (
        token.Open opener.Command n ∷ w.0,
        g.substitution w.1 v.1,
        loose (subst (λ (z : List ℕ). Goes m a.text z (token.Open opener.Command n ∷ w.0)) (sym (text-command (filled e) f (next_list s) z)) (command-goes i a (L e f (next_list s) (41 ∷ z)) w.0 w.2)),
      );
}

redirs-go : {e : Draft} {f d : ℕ} {s t s' : Draft} {rs rs' : List Redir} (fd : ℕ) (o : RedirOp) {ps : List Part} {m : Mode} {ts mid rest : List Token} (i : IsBetween m) (a : At m (token.Redirect fd o ∷ ts)) → NotEmpty ps →
    (x : PartsGo e f d s [] (token.End end.Word mode.Arguments ∷ mid) ps t mode.Arguments (tail (inl i) a).text (ends_lone ps)) → RedirsGo e f d t (rs ++ redir fd o ps ∷ []) mid rest rs' s' → RedirsGo e f d s rs (token.Redirect fd o ∷ ts) rest rs' s'
redirs-go {e} {f} {rs = rs} fd o {ps = ps} {m = m} i a nz x y = record {
  new = redir fd o ps ∷ y.new;
  is = y.is ∙ append_assoc rs (redir fd o ps ∷ []) y.new;
  clear = ap (λ (z : Redir). z ∷ filled_redirs e.heres y.new) (file-clear e.heres fd o ps (seen-is (inl i) a)) ∙ ap (λ (z : List Redir). redir fd o ps ∷ z) y.clear;
  due = y.due;
  way = y.way;
  between = y.between;
  there = y.there;
  go = λ k us rd en.
      let w = y.go k us rd en in
      let t = each (redir_with (P e f)) y.new k in
      let v = x.go (written (token.End end.Word mode.Arguments) t) (token.End end.Word mode.Arguments ∷ w.0) (loose (put x.known x.there tt t w.0 (meets t w.0 tt (tail x.known x.there) w.3 w.2))) in
      let b = subst (λ (q : List Part). GoesIf (ends_lone ps) mode.Arguments (tail (inl i) a).text (each (P e f) q (ending end.Word t)) v.0) (sym x.is) v.2 in
      (token.Redirect fd o ∷ v.0, g.one_redir (g.file v.1 nz) w.1, ready-redirect _ v.0 i a (put-if (inl i) a tt (each (P e f) ps (ending end.Word t)) v.0 b (λ l q. absurd l)), tt);
}

-- ---- redirections in front

-- A redirection in which no list begins may stand elsewhere.
moved-redir : {e : Draft} {f d : ℕ} {rest : List Token} {s t : Draft} {fd : ℕ} {o : RedirOp} {ps : List Part} → RedirGo e f d rest s fd o ps t → parts_list ps ≡ None → t ≡ s → (u : Draft) → RedirGo e f d rest u fd o ps u
moved-redir {s = s} {t = t} r n h u = record {
  begins = inl (n, refl);
  go = λ st m j c us l sh fm. let v = r.go st m j c us l sh fm in (v.0, moved v.1 (same-length s t h) u, v.2);
}

-- Those in front of a list that comes next have none, and the others are left.
abbrev Parted : Draft → ℕ → ℕ → List Token → Draft → Draft → Draft → ℕ → List Redir → Type 0
Parted e f d rest w t u n rs = Early e f d rest w (going (Some n) rs) w × Early e f d rest t (waiting (Some n) rs) u

early-more : {e : Draft} {f d : ℕ} {rest : List Token} {s t u : Draft} {fd : ℕ} {o : RedirOp} {ps : List Part} {rs : List Redir} (v : Bool) (n : ℕ) → n ≤ next_list s → (w : Draft) → goes_first (Some n) (redir fd o ps) ≡ v →
    RedirGo e f d rest s fd o ps t → NotEmpty ps → Early e f d rest t rs u → Parted e f d rest w t u n rs → Parted e f d rest w s u n (redir fd o ps ∷ rs)
early-more {e} {f} {d} {rest} {s} {t} {u} {fd} {o} {ps} {rs} true n h w q r nz y z =
    let b = next-none s t (redir fd o ps) n h r.begins q in (
      subst (λ (l : List Redir). Early e f d rest w l w) (sym (going-more (Some n) (redir fd o ps) rs q)) (one_early (moved-redir r b.0 b.1 w) nz z.0),
      subst (λ (l : List Redir). Early e f d rest s l u) (sym (waiting-more (Some n) (redir fd o ps) rs q)) (subst (λ (x : Draft). Early e f d rest x (waiting (Some n) rs) u) b.1 z.1),
    )
early-more {e} {f} {d} {rest} {s} {t} {u} {fd} {o} {ps} {rs} false n h w q r nz y z = (
  subst (λ (l : List Redir). Early e f d rest w l w) (sym (going-none (Some n) (redir fd o ps) rs q)) no_early,
  subst (λ (l : List Redir). Early e f d rest s l u) (sym (waiting-all (Some n) (redir fd o ps) rs q)) (one_early r nz y),
)

early-parted : {e : Draft} {f d : ℕ} {rest : List Token} {t u : Draft} {rs : List Redir} → Early e f d rest t rs u → (n : ℕ) → n ≤ next_list t → (w : Draft) → Parted e f d rest w t u n rs
early-parted no_early n h w = (no_early, no_early)
early-parted (one_early {fd = fd} {o = o} {ps = ps} r nz y) n h w =
    early-more (goes_first (Some n) (redir fd o ps)) n h w refl r nz y (early-parted y n (let k = begins-below r.begins in omega (arith, h, k)) w)

-- Redirections are written in front of the rest of a simple command.
early-go : {e : Draft} {f d : ℕ} {rest : List Token} {s t : Draft} {rs : List Redir} → Early e f d rest s rs t → StopsAt rest → (xs : List (List ℕ × Word)) (ws : List Word) (qs : List Redir) (x : List ℕ) (us vs : List Token) (c : Simple) (u : Draft) →
    Elements d t (simple_of xs ws (qs ++ rs)) us vs c u → Lexes (mode_before ws) (source x []) us → opens_parenthesis (skip x) ≡ false → Firm x →
    (ts : List Token) × Elements d s (simple_of xs ws qs) ts vs c u × Stands (mode_before ws) mode.Command (rs ≡ [] → ⊥) (each (redir_with (P e f)) rs x) ts
early-go {d = d} {s = s} no_early st xs ws qs x us vs c u p l sh fm =
    (us, subst (λ (r : List Redir). Elements d s (simple_of xs ws r) us vs c u) (sym (nil-right qs)) p, record { behind = l; same = λ n. absurd (n refl); shut = sh; firm = fm })
early-go {e} {f} {d} {t = t} (one_early {fd = fd} {o = o} {ps = ps} {rs = rs} r nz y) st xs ws qs x us vs c u p l sh fm =
    let p' = subst (λ (z : List Redir). Elements d t (simple_of xs ws z) us vs c u) (sym (append_assoc qs (redir fd o ps ∷ []) rs)) p in
    let w = early-go y st xs ws (qs ++ redir fd o ps ∷ []) x us vs c u p' l sh fm in
    let v = r.go st (mode_before ws) (before-between ws) (each (redir_with (P e f)) rs x) w.0 w.2.behind w.2.shut w.2.firm in
    let rd = v.2 in
    (token.Redirect fd o ∷ v.0, g.redirection (g.file v.1 nz) w.1, record { behind = rd.any (mode_before ws) (before-between ws); same = λ n. rd.any mode.Command tt; shut = rd.shut; firm = rd.firm })

-- ---- what is put in front of the rest of a simple command

-- An assignment or a word, read from the draft s to t, is put behind the redirections that stand in front of it, where o is the
-- first list from there on, and p the first one behind.
record Placed (e : Draft) (f d : ℕ) (rest : List Token) (s t : Draft) (ps : List Part) (o p : Option ℕ) (rs : List Redir) (mid : Draft) : Type 0 where
  at : Draft
  by : Draft
  early : Early e f d rest s (going o rs) at
  moves : (ts us : List Token) → Parts d s [] ts us ps t → Parts d at [] ts us ps by
  later : Early e f d rest by (going p (waiting o rs)) mid
  front : going p rs ≡ going o rs ++ going p (waiting o rs)
  waits : waiting p rs ≡ waiting p (waiting o rs)

placed-same : {e : Draft} {f d : ℕ} {rest : List Token} {s t : Draft} {ps : List Part} {p : Option ℕ} {rs : List Redir} {mid : Draft} → t ≡ s → Early e f d rest t (going p rs) mid → Placed e f d rest s t ps p p rs mid
placed-same {e} {f} {d} {rest} {s} {t} {ps} {p} {rs} {mid} h y = let k = split p p rs (λ r q. q) in record {
  at = mid;
  by = mid;
  early = subst (λ (x : Draft). Early e f d rest x (going p rs) mid) h y;
  moves = λ ts us q. moved q (same-length s t h) mid;
  later = subst (λ (l : List Redir). Early e f d rest mid l mid) (sym (settled p rs).0) no_early;
  front = k.0;
  waits = k.1;
}

placed-next : {e : Draft} {f d : ℕ} {rest : List Token} {s t : Draft} {ps : List Part} {p : Option ℕ} {rs : List Redir} {mid : Draft} → next_list s ≤ next_list t → Least t p → Early e f d rest t (going p rs) mid →
    Placed e f d rest s t ps (Some (next_list s)) p rs mid
placed-next {e} {f} {d} {rest} {s} {t} {ps} {p} {rs} {mid} h l y =
    let o = Some (next_list s) in
    let w = fewer-next s t p h l in
    let k = split o p rs w in
    let j = through o p rs w in
    let z = early-parted y (next_list s) h s in record {
      at = s;
      by = t;
      early = subst (λ (l : List Redir). Early e f d rest s l s) j.0 z.0;
      moves = λ ts us q. q;
      later = subst (λ (l : List Redir). Early e f d rest t l mid) j.1 z.1;
      front = k.0;
      waits = k.1;
    }

placed : {e : Draft} {f d : ℕ} {rest : List Token} {s t : Draft} {ps : List Part} {p : Option ℕ} {rs : List Redir} {mid : Draft} → Begins s t (parts_list ps) → Least t p → Early e f d rest t (going p rs) mid →
    Placed e f d rest s t ps (or_first (parts_list ps) p) p rs mid
placed {e} {f} {d} {rest} {s} {t} {ps} {p} {rs} {mid} (inl b) l y =
    subst (λ (o : Option ℕ). Placed e f d rest s t ps (or_first o p) p rs mid) (sym b.0) (placed-same b.1 y)
placed {e} {f} {d} {rest} {s} {t} {ps} {p} {rs} {mid} (inr b) l y =
    subst (λ (o : Option ℕ). Placed e f d rest s t ps (or_first o p) p rs mid) (sym b.0) (placed-next (let h = b.1 in omega (arith, h)) l y)

some-last : {A : Type 0} (xs ys : List A) → NotEmpty ys → NotEmpty (xs ++ ys)
some-last [] ys n = n
some-last (x ∷ xs) ys n = tt

-- what comes first behind an assignment or a word
ends-all : (w : Redir → List ℕ → List ℕ) (rs : List Redir) (ts : List Token) (x : List ℕ) → (NotEmpty rs → (z : List ℕ) → Ends ts z) → Ends ts x → Ends ts (each w rs x)
ends-all w [] ts x h n = n
ends-all w (r ∷ rs) ts x h n = h tt (w r (each w rs x))

-- What is written behind an assignment or a word: redirections that waited for it, and the rest.
abbrev BehindGo : ℕ → Draft → List (List ℕ × Word) → List Word → List Redir → List Token → Simple → Draft → List Token → List ℕ → Type 0
BehindGo d s xs ws rs us c u from x = (ts : List Token) × Elements d s (simple_of xs ws rs) ts us c u × Lexes (mode_before ws) (source x []) ts × (opens_parenthesis (skip x) ≡ false) × Firm x × Ends from x

behind-go : {e : Draft} {f d : ℕ} {s t u : Draft} {rest vs us : List Token} {rs : List Redir} {ps : List Part} {o p : Option ℕ} {c : Simple} {mid : Draft} (from : List Token) (x : List ℕ) (xs : List (List ℕ × Word)) (ws : List Word) (qs : List Redir) →
    (y : Placed e f d rest s t ps o p rs mid) → StopsAt rest → (NotEmpty (going p rs) → (z : List ℕ) → Ends from z) → Elements d mid (simple_of xs ws (qs ++ going p (waiting o rs))) us vs c u →
    Lexes (mode_before ws) (source x []) us → opens_parenthesis (skip x) ≡ false → Firm x → Ends from x → BehindGo d y.by xs ws qs vs c u from (each (redir_with (P e f)) (going p (waiting o rs)) x)
behind-go {e} {f} {u = u} {vs = vs} {us = us} {rs = rs} {o = o} {p = p} {c = c} from x xs ws qs y st h q l sh fm en =
    let z = early-go y.later st xs ws qs x us vs c u q l sh fm in
    let n = λ (k : NotEmpty (going p (waiting o rs))). h (subst NotEmpty (sym y.front) (some-last (going o rs) (going p (waiting o rs)) k)) in
    (z.0, z.1, z.2.behind, z.2.shut, z.2.firm, ends-all (redir_with (P e f)) (going p (waiting o rs)) from x n en)

-- the redirections behind it, and those that wait on
waits-all : (rs : List Redir) (p : Option ℕ) (ws : List Redir) → (rs ++ going p ws) ++ waiting p ws ≡ rs ++ ws
waits-all rs p ws = append_assoc rs (going p ws) (waiting p ws) ∙ ap (λ (z : List Redir). rs ++ z) (parted p ws)

assign-go : {e : Draft} {f d : ℕ} {s t s' : Draft} {c c' : Simple} {ps : List Part} {m : Mode} {ts mid rest : List Token} (nm : List ℕ) (i : IsBetween m) (a : At m (token.Assign nm ∷ ts)) → Standing m c.words → Begins s t (parts_list ps) →
    (x : PartsGo e f d s [] (token.End end.Word mode.Prefix ∷ mid) ps t mode.Word (tail (inl i) a).text true) → ElementsGo e f d t (with_assign nm ps c) rest c' s' mode.Prefix mid → ElementsGo e f d s c rest c' s' m (token.Assign nm ∷ ts)
assign-go {e} {f} {d} {s = s} {t = t} {s' = s'} {c = c} {ps = ps} {m = m} {mid = mid} {rest = rest} nm i a st bg x y =
    let z = tail x.known x.there in
    let p = assigns_list y.assigns y.words in
    let o = or_first (parts_list ps) p in
    let xs = c.assigns ++ (nm, word ps) ∷ [] in
    let pl : Placed e f d rest s t ps o p y.redirs y.mid = placed bg y.least y.early in record {
      assigns = (nm, word ps) ∷ y.assigns;
      words = y.words;
      redirs = y.redirs;
      is = y.is ∙ ap (λ (q : List (List ℕ × Word)). simple_of q (c.words ++ y.words) (c.redirs ++ y.redirs)) (append_assoc c.assigns ((nm, word ps) ∷ []) y.assigns);
      clear = y.clear;
      order = λ n. absurd (n (seen-is (inl i) a));
      due = y.due;
      way = y.way;
      between = y.between;
      there = y.there;
      least = least-or s t (parts_list ps) p bg y.least;
      mid = pl.at;
      early = pl.early;
      ends = λ n k. tt;
      go = λ rs k us rd en.
          let A = going p (waiting o y.redirs) in
          let B = waiting p (waiting o y.redirs) in
          let w = subst (λ (W : List Redir). (ts : List Token) × Elements d y.mid (simple_of xs c.words (rs ++ A)) ts us (simple_of (xs ++ y.assigns) (c.words ++ y.words) ((rs ++ A) ++ W)) s'
          × Stands (mode_before c.words) mode.Prefix (going p y.redirs ≡ []) (assigns_with (P e f) y.assigns y.words W k) ts × Ends mid (assigns_with (P e f) y.assigns y.words W k)) pl.waits (y.go (rs ++ A) k us rd en) in
          let b = behind-go mid (assigns_with (P e f) y.assigns y.words B k) xs c.words rs pl (ends-stops rest k en) y.ends w.1 w.2.behind w.2.shut w.2.firm w.3 in
          let t0 = each (redir_with (P e f)) A (assigns_with (P e f) y.assigns y.words B k) in
          let l = subst (λ (n : Mode). Lexes n (source t0 []) b.0) (standing-prefix m c.words st (seen-is (inl i) a)) b.2 in
          let h = goes-on t0 b.0 tt z b.5 l b.3 b.4 in
          let v = x.go (written (token.End end.Word mode.Prefix) t0) (token.End end.Word mode.Prefix ∷ b.0) (put x.known x.there tt t0 b.0 h) in
          let r = subst (λ (q : List Part). Goes mode.Word (tail (inl i) a).text (each (P e f) q (ending end.Word t0)) v.0) (sym x.is) v.2 in
          let all = put (inl i) a tt (each (P e f) ps (ending end.Word t0)) v.0 r in
          let q = ap (λ (q : List (List ℕ × Word)). simple_of q (c.words ++ y.words) ((rs ++ A) ++ B)) (append_assoc c.assigns ((nm, word ps) ∷ []) y.assigns)
          ∙ ap (simple_of (c.assigns ++ (nm, word ps) ∷ y.assigns) (c.words ++ y.words)) (waits-all rs p (waiting o y.redirs)) in (
            token.Assign nm ∷ v.0,
            subst (λ (q : Simple). Elements d pl.at (simple_of c.assigns c.words rs) (token.Assign nm ∷ v.0) us q s') q (g.assign (pl.moves v.0 (token.End end.Word mode.Prefix ∷ b.0) v.1) b.1),
            record { behind = read-behind m c.words _ (token.Assign nm ∷ v.0) st tt all.lexed; same = λ n. all.lexed; shut = shut-by _ i a tt all; firm = all.heads.firm },
            tt,
          );
    }

argument-go : {e : Draft} {f d : ℕ} {s t s' : Draft} {c c' : Simple} {ps : List Part} {m : Mode} {ts mid rest : List Token} (i : IsBetween m) (a : At m ts) → NotEmpty ps → Standing m c.words → Starts ts → Begins s t (parts_list ps) →
    (x : PartsGo e f d s [] (token.End end.Word mode.Arguments ∷ mid) ps t m a.text true) → ElementsGo e f d t (with_word ps c) rest c' s' mode.Arguments mid → ElementsGo e f d s c rest c' s' m ts
argument-go {e} {f} {d} {s = s} {t = t} {s' = s'} {c = c} {ps = ps} {m = m} {ts = ts} {mid = mid} {rest = rest} i a nz st begun bg x y =
    let none' = y.order (λ q. q) in
    let z = tail x.known x.there in
    let p = words_list y.words in
    let o = or_first (parts_list ps) p in
    let ws = c.words ++ word ps ∷ [] in
    let least0 = subst (λ (q : List (List ℕ × Word)). Least t (assigns_list q y.words)) none' y.least in
    let early0 = subst (λ (q : List (List ℕ × Word)). Early e f d rest t (going (assigns_list q y.words) y.redirs) y.mid) none' y.early in
    let ends0 = subst (λ (q : List (List ℕ × Word)). NotEmpty (going (assigns_list q y.words) y.redirs) → (x : List ℕ) → Ends mid x) none' y.ends in
    let pl : Placed e f d rest s t ps o p y.redirs y.mid = placed bg least0 early0 in record {
      assigns = [];
      words = word ps ∷ y.words;
      redirs = y.redirs;
      is = y.is
          ∙ (ap (λ (q : List (List ℕ × Word)). simple_of (c.assigns ++ q) (ws ++ y.words) (c.redirs ++ y.redirs)) none'
          ∙ ap (λ (q : List Word). simple_of (c.assigns ++ []) q (c.redirs ++ y.redirs)) (append_assoc c.words (word ps ∷ []) y.words));
      clear = y.clear;
      order = λ n. refl;
      due = y.due;
      way = y.way;
      between = y.between;
      there = y.there;
      least = least-or s t (parts_list ps) p bg least0;
      mid = pl.at;
      early = pl.early;
      ends = λ n k. starts-ends ts k begun;
      go = λ rs k us rd en.
          let A = going p (waiting o y.redirs) in
          let B = waiting p (waiting o y.redirs) in
          let w0 = subst (λ (q : List (List ℕ × Word)). (ts : List Token) × Elements d y.mid (simple_of c.assigns ws (rs ++ A)) ts us (simple_of (c.assigns ++ q) (ws ++ y.words) ((rs ++ A) ++ waiting (assigns_list q y.words) y.redirs)) s'
          × Stands (mode_before ws) mode.Arguments (going (assigns_list q y.words) y.redirs ≡ []) (assigns_with (P e f) q y.words (waiting (assigns_list q y.words) y.redirs) k) ts
          × Ends mid (assigns_with (P e f) q y.words (waiting (assigns_list q y.words) y.redirs) k)) none' (y.go (rs ++ A) k us rd en) in
          let w = subst (λ (W : List Redir). (ts : List Token) × Elements d y.mid (simple_of c.assigns ws (rs ++ A)) ts us (simple_of (c.assigns ++ []) (ws ++ y.words) ((rs ++ A) ++ W)) s'
          × Stands (mode_before ws) mode.Arguments (going p y.redirs ≡ []) (words_with (P e f) y.words W k) ts × Ends mid (words_with (P e f) y.words W k)) pl.waits w0 in
          let b = behind-go mid (words_with (P e f) y.words B k) c.assigns ws rs pl (ends-stops rest k en) ends0 w.1 w.2.behind w.2.shut w.2.firm w.3 in
          let t0 = each (redir_with (P e f)) A (words_with (P e f) y.words B k) in
          let l = subst (λ (n : Mode). Lexes n (source t0 []) b.0) (before-some c.words (word ps)) b.2 in
          let h = goes-on t0 b.0 tt z b.5 l b.3 b.4 in
          let v = x.go (written (token.End end.Word mode.Arguments) t0) (token.End end.Word mode.Arguments ∷ b.0) (put x.known x.there tt t0 b.0 h) in
          let all = subst (λ (q : List Part). Goes m a.text (each (P e f) q (ending end.Word t0)) v.0) (sym x.is) v.2 in
          let q = ap (λ (q : List Word). simple_of (c.assigns ++ []) q ((rs ++ A) ++ B)) (append_assoc c.words (word ps ∷ []) y.words)
          ∙ ap (simple_of (c.assigns ++ []) (c.words ++ word ps ∷ y.words)) (waits-all rs p (waiting o y.redirs)) in (
            v.0,
            subst (λ (q : Simple). Elements d pl.at (simple_of c.assigns c.words rs) v.0 us q s') q (g.argument (pl.moves v.0 (token.End end.Word mode.Arguments ∷ b.0) v.1) nz b.1),
            record { behind = read-behind m c.words _ v.0 st (starts v.1 nz) all.lexed; same = λ n. all.lexed; shut = shut-word i a begun all; firm = all.heads.firm },
            starts-ends ts _ begun,
          );
    }

-- a redirection that doesn't end in a backslash
redir-go : {e : Draft} {f d : ℕ} {s t : Draft} (fd : ℕ) (o : RedirOp) {ps : List Part} {m n : Mode} {ts mid rest : List Token} (i : IsBetween m) (a : At m (token.Redirect fd o ∷ ts)) → IsBetween n → (StopsAt rest → StopsAt mid) →
    Begins s t (parts_list ps) → ends_lone ps ≡ false → PartsGo e f d s [] (token.End end.Word n ∷ mid) ps t mode.Arguments (tail (inl i) a).text (ends_lone ps) → RedirGo e f d rest s fd o ps t
redir-go {e} {f} fd o {ps = ps} i a jn stop bg nl x = record {
  begins = bg;
  go = λ sr n j c us l sh fm.
      let g0 = goes-behind n c us jn (tail x.known x.there) (stop sr) j l sh fm in
      let g1 = subst (λ (q : Bool). GoesIf q x.way x.there.text (written (token.End end.Word n) c) (token.End end.Word n ∷ us)) (sym nl) (put-end x.known x.there n j c us g0) in
      let v = x.go (written (token.End end.Word n) c) (token.End end.Word n ∷ us) g1 in
      let r = subst (λ (q : List Part). GoesIf (ends_lone ps) mode.Arguments (tail (inl i) a).text (each (P e f) q (ending end.Word c)) v.0) (sym x.is) v.2 in
      (v.0, v.1, ready-redirect _ v.0 i a (put-if (inl i) a tt (each (P e f) ps (ending end.Word c)) v.0 r (λ l q. absurd l)));
}

redirection-go : {e : Draft} {f d : ℕ} {s t s' : Draft} {c c' : Simple} (fd : ℕ) (o : RedirOp) {ps : List Part} {m n : Mode} {ts0 mid rest : List Token} (i : IsBetween m) (a : At m (token.Redirect fd o ∷ ts0)) → NotEmpty ps → n ≡ mode_before c.words → Standing m c.words →
    ends_lone ps ≡ false → RedirGo e f d rest s fd o ps t → ElementsGo e f d t (with_redir (redir fd o ps) c) rest c' s' n mid → ElementsGo e f d s c rest c' s' m (token.Redirect fd o ∷ ts0)
redirection-go {e} {f} {d} {s} {t} {s'} {c} fd o {ps = ps} {m = m} {n = n} {ts0 = ts0} {rest = rest} i a nz nb st nl r y =
    let p = assigns_list y.assigns y.words in
    let h = goes-before s t (redir fd o ps) p nl r.begins y.least in
    let front = going-more p (redir fd o ps) y.redirs h in record {
      assigns = y.assigns;
      words = y.words;
      redirs = redir fd o ps ∷ y.redirs;
      is = y.is ∙ ap (λ (q : List Redir). simple_of (c.assigns ++ y.assigns) (c.words ++ y.words) q) (append_assoc c.redirs (redir fd o ps ∷ []) y.redirs);
      clear = ap (λ (q : Redir). q ∷ filled_redirs e.heres y.redirs) (file-clear e.heres fd o ps (seen-is (inl i) a)) ∙ ap (λ (q : List Redir). redir fd o ps ∷ q) y.clear;
      order = λ q. y.order (λ h. q (assigns-behind m n c.words st nb h));
      due = y.due;
      way = y.way;
      between = y.between;
      there = y.there;
      least = least-lower s t p (begins-below r.begins) y.least;
      mid = y.mid;
      early = subst (λ (l : List Redir). Early e f d rest s l y.mid) (sym front) (one_early r nz y.early);
      ends = λ n k. tt;
      go = λ rs k us rd en.
          let w = y.go rs k us rd en in
          subst (λ (W : List Redir). (ts : List Token) × Elements d y.mid (simple_of c.assigns c.words rs) ts us (simple_of (c.assigns ++ y.assigns) (c.words ++ y.words) (rs ++ W)) s'
          × Stands (mode_before c.words) m (going p (redir fd o ps ∷ y.redirs) ≡ []) (assigns_with (P e f) y.assigns y.words W k) ts × Ends (token.Redirect fd o ∷ ts0) (assigns_with (P e f) y.assigns y.words W k))
          (sym (waiting-more p (redir fd o ps) y.redirs h))
          (w.0, w.1, record { behind = w.2.behind; same = λ q. absurd (cons-nil _ _ (sym front ∙ q)); shut = w.2.shut; firm = w.2.firm }, tt);
    }

-- Nothing comes behind.
elements-nil : {d : ℕ} {s t : Draft} {c c' : Simple} {ts rest : List Token} → Elements d s c ts rest c' t → ts ≡ [] → (rest ≡ []) × (c' ≡ c) × (t ≡ s)
elements-nil g.no_element e = (e, refl, refl)
elements-nil (g.assign p r) e = absurd (cons-nil _ _ e)
elements-nil (g.argument p nz r) e = absurd (subst Starts e (starts p nz))
elements-nil (g.redirection (g.file p nz) r) e = absurd (cons-nil _ _ e)
elements-nil (g.redirection g.here r) e = absurd (cons-nil _ _ e)

-- a redirection that does, which is the last thing of the text
last_redirection-go : {e : Draft} {f d : ℕ} {s t s' : Draft} {c c' : Simple} (fd : ℕ) (o : RedirOp) {ps : List Part} {m n : Mode} {ts0 mid rest : List Token} (i : IsBetween m) (a : At m (token.Redirect fd o ∷ ts0)) → NotEmpty ps → n ≡ mode_before c.words → IsBetween n → ends_lone ps ≡ true →
    Elements d t (with_redir (redir fd o ps) c) mid rest c' s' → (x : PartsGo e f d s [] (token.End end.Word n ∷ mid) ps t mode.Arguments (tail (inl i) a).text (ends_lone ps)) → mid ≡ [] → ElementsGo e f d s c rest c' s' m (token.Redirect fd o ∷ ts0)
last_redirection-go {e} {f} {d} {s} {t} {s'} {c} {c'} fd o {ps = ps} {m = m} {n = n} {ts0 = ts0} {mid = mid} {rest = rest} i a nz nb jn nl r x none' =
    let k = elements-nil r none' in
    let q = redir fd o ps in
    let front = going-none None q [] (lone-waits q None nl) in
    let behind = waiting-all None q [] (lone-waits q None nl) in record {
      assigns = [];
      words = [];
      redirs = q ∷ [];
      is = k.1 ∙ simple-nil (simple_of c.assigns c.words (c.redirs ++ q ∷ []));
      clear = ap (λ (z : Redir). z ∷ []) (file-clear e.heres fd o ps (seen-is (inl i) a));
      order = λ n. refl;
      due = still-due k.2 x.due;
      way = n;
      between = jn;
      there = subst (At n) (none' ∙ sym k.0) (tail x.known x.there);
      least = tt;
      mid = s;
      early = subst (λ (l : List Redir). Early e f d rest s l s) (sym front) no_early;
      ends = λ n k. tt;
      go = λ rs y us rd en.
          let en' = subst (λ (l : List Token). Ends l y) (k.0 ∙ sym none') en in
          let v = x.go (written (token.End end.Word n) y) (token.End end.Word n ∷ us) (loose (put x.known x.there jn y us (meets y us jn (tail x.known x.there) en' rd))) in
          let b = subst (λ (q : List Part). GoesIf (ends_lone ps) mode.Arguments (tail (inl i) a).text (each (P e f) q (ending end.Word y)) v.0) (sym x.is) v.2 in
          let rdy = ready-redirect _ v.0 i a (put-if (inl i) a tt (each (P e f) ps (ending end.Word y)) v.0 b (λ l q. absurd l)) in
          let v1 = subst (λ (n : Mode). OneRedir n d s (token.Redirect fd o ∷ v.0) us q t) nb (g.file v.1 nz) in
          let rest' = subst (λ (u : Draft). Elements d t (simple_of c.assigns c.words (rs ++ q ∷ [])) us us (simple_of (c.assigns ++ []) (c.words ++ []) (rs ++ q ∷ [])) u) (sym k.2)
          (subst (λ (z : Simple). Elements d t (simple_of c.assigns c.words (rs ++ q ∷ [])) us us z t) (simple-nil (simple_of c.assigns c.words (rs ++ q ∷ []))) g.no_element) in
          subst (λ (W : List Redir). (ts : List Token) × Elements d s (simple_of c.assigns c.words rs) ts us (simple_of (c.assigns ++ []) (c.words ++ []) (rs ++ W)) s'
          × Stands (mode_before c.words) m (going None (q ∷ []) ≡ []) (each (redir_with (P e f)) W y) ts × Ends (token.Redirect fd o ∷ ts0) (each (redir_with (P e f)) W y))
          (sym behind)
          (token.Redirect fd o ∷ v.0, g.redirection v1 rest', record { behind = rdy.any (mode_before c.words) (before-between c.words); same = λ z. rdy.any m i; shut = rdy.shut; firm = rdy.firm }, tt);
    }

any_redirection-go : {e : Draft} {f d : ℕ} {s t s' : Draft} {c c' : Simple} (v : Bool) (fd : ℕ) (o : RedirOp) {ps : List Part} {m n : Mode} {ts0 mid rest : List Token} (i : IsBetween m) (a : At m (token.Redirect fd o ∷ ts0)) → NotEmpty ps → n ≡ mode_before c.words → IsBetween n → Standing m c.words →
    Begins s t (parts_list ps) → ends_lone ps ≡ v → Elements d t (with_redir (redir fd o ps) c) mid rest c' s' → (x : PartsGo e f d s [] (token.End end.Word n ∷ mid) ps t mode.Arguments (tail (inl i) a).text (ends_lone ps)) →
    ElementsGo e f d t (with_redir (redir fd o ps) c) rest c' s' n mid → ElementsGo e f d s c rest c' s' m (token.Redirect fd o ∷ ts0)
any_redirection-go true fd o {mid = mid} i a nz nb jn st bg nl r x y =
    last_redirection-go fd o i a nz nb jn nl r x (none-left mid jn (tail x.known x.there) (word-ended x.known x.there (x.lone nl jn)))
any_redirection-go false fd o i a nz nb jn st bg nl r x y = redirection-go fd o i a nz nb st nl (redir-go fd o i a jn (elements-stops r) bg nl x) y

for_word-go : {e : Draft} {f d : ℕ} {s t s' : Draft} {ws vs : List Word} {ps : List Part} {ts mid rest : List Token} (a : At mode.Arguments ts) → NotEmpty ps → Starts ts →
    (x : PartsGo e f d s [] (token.End end.Word mode.Arguments ∷ mid) ps t mode.Arguments a.text true) → ForWordsGo e f d t (ws ++ word ps ∷ []) rest vs s' (tail x.known x.there).text → ForWordsGo e f d s ws rest vs s' a.text
for_word-go {e} {f} {ws = ws} {ps = ps} {ts = ts} a nz b x y = record {
  new = word ps ∷ y.new;
  is = y.is ∙ append_assoc ws (word ps ∷ []) y.new;
  due = y.due;
  there = y.there;
  go = λ k us g'.
      let w = y.go k us g' in
      let t = each (word_with (P e f)) y.new k in
      let v = x.go (written (token.End end.Word mode.Arguments) t) (token.End end.Word mode.Arguments ∷ w.0) (put x.known x.there tt t w.0 w.2) in
      (v.0, g.one_word v.1 nz w.1, tightly-at ts b tt a (subst (λ (q : List Part). Goes mode.Arguments a.text (each (P e f) q (ending end.Word t)) v.0) (sym x.is) v.2));
}

last_pattern-go : {e : Draft} {f d : ℕ} {s t : Draft} {ws : List Word} {ps : List Part} {m : Mode} {ts rest : List Token} (a : At m ts) → NotEmpty ps →
    (x : PartsGo e f d s [] (token.End end.Word mode.Arguments ∷ rest) ps t m a.text true) → PatternsGo e f d s ws rest (ws ++ word ps ∷ []) t m
last_pattern-go {e} {f} {ws = ws} {ps = ps} {m = m} a nz x = let z = tail x.known x.there in record {
  first = word ps;
  others = [];
  is = refl;
  due = x.due;
  there = z;
  go = λ k us rd en.
      let v = x.go (written (token.End end.Word mode.Arguments) k) (token.End end.Word mode.Arguments ∷ us) (loose (put x.known x.there tt k us (meets k us tt z en rd))) in
      (v.0, g.last_pattern v.1 nz, (subst (λ (q : List Part). Goes m a.text (each (P e f) q (ending end.Word k)) v.0) (sym x.is) v.2).lexed);
}

more_patterns-go : {e : Draft} {f d : ℕ} {s t s' : Draft} {ws vs : List Word} {ps : List Part} {m : Mode} {ts mid rest : List Token} (a : At m ts) → NotEmpty ps →
    (x : PartsGo e f d s [] (token.End end.Word mode.Arguments ∷ token.Operator op.PipePattern ∷ mid) ps t m a.text true) → PatternsGo e f d t (ws ++ word ps ∷ []) rest vs s' mode.Arguments → PatternsGo e f d s ws rest vs s' m
more_patterns-go {e} {f} {ws = ws} {ps = ps} {m = m} a nz x y = let z = tail x.known x.there in record {
  first = word ps;
  others = y.first ∷ y.others;
  is = y.is ∙ append_assoc ws (word ps ∷ []) (y.first ∷ y.others);
  due = y.due;
  there = y.there;
  go = λ k us rd en.
      let w = y.go k us rd en in
      let t = operator op.PipePattern (patterns_with (P e f) (y.first ∷ y.others) k) in
      let b = meets t (token.Operator op.PipePattern ∷ w.0) tt z tt (ready-bar (patterns_with (P e f) (y.first ∷ y.others) k) w.0 w.2) in
      let v = x.go (written (token.End end.Word mode.Arguments) t) (token.End end.Word mode.Arguments ∷ token.Operator op.PipePattern ∷ w.0) (loose (put x.known x.there tt t (token.Operator op.PipePattern ∷ w.0) b)) in
      (v.0, g.more_patterns v.1 nz w.1, (subst (λ (q : List Part). Goes m a.text (each (P e f) q (ending end.Word t)) v.0) (sym x.is) v.2).lexed);
}

one_arm-go : {e : Draft} {f d : ℕ} {s t u : Draft} {ws : List Word} {is : List AndOr} {ts mid mid' rest : List Token} → MayOpen ts mid → ((c : List ℕ) → Ends rest c) →
    PatternsGo e f d s [] (token.Operator op.Close ∷ mid') ws t mode.Pattern → MayGo e d (begin_list t) rest is u (L e f (next_list t)) → ArmGo e f d s rest ws (next_list t) (end_list (next_list t) is u)
one_arm-go {e} {f} {t = t} {ws = ws} o en x y = record {
  due = y.due;
  way = y.way;
  between = y.between;
  there = y.there;
  go = λ k us lx.
      let w = y.go (operator op.DoubleSemi k) (token.Operator op.DoubleSemi ∷ us) (ready-sign op.DoubleSemi k us tt lx) (en (operator op.DoubleSemi k)) in
      let j = L e f (next_list t) (operator op.DoubleSemi k) in
      let v = x.go (operator op.Close j) (token.Operator op.Close ∷ w.0) (ready-sign op.Close j w.0 tt w.2) tt in
      (v.0, g.one_arm g.not_opened v.1 w.1, subst (λ (q : List Word). Lexes mode.Pattern (source (patterns_with (P e f) q (operator op.Close j)) []) v.0) (sym x.is) v.2);
}

more_arms-go : {e : Draft} {f d num : ℕ} {s t u s' : Draft} {arms arms' : List (List Word × ℕ)} {ws : List Word} {mid' rest : List Token} → t ≡ s →
    (x : ArmGo e f d t (token.Operator op.DoubleSemi ∷ mid') ws num u) → ArmsGo e f d u (arms ++ (ws, num) ∷ []) rest arms' s' → ArmsGo e f d s arms rest arms' s'
more_arms-go {e} {f} {num = num} {arms = xs} {ws = ws} k x y = record {
  new = (ws, num) ∷ y.new;
  is = y.is ∙ append_assoc xs ((ws, num) ∷ []) y.new;
  due = y.due;
  there = y.there;
  go = λ c us lx.
      let w = y.go c us lx in
      let v = x.go (each (arm_with (P e f) (L e f)) y.new (operator op.Esac c)) w.0 w.2 in (v.0, g.more_arms (none k v.0) v.1 w.1, v.2);
}

branch-go : {e : Draft} {f d : ℕ} {s t u s' : Draft} {bs cs : List (ℕ × ℕ)} {o : Option ℕ} {is js : List AndOr} {mid mid' rest : List Token} → ((c : List ℕ) → Ends mid' c) → ListGo e d (begin_list s) (token.Operator op.Then ∷ mid) is t (L e f (next_list s)) →
    ListGo e d (begin_list (end_list (next_list s) is t)) mid' js u (L e f (next_list t)) → MoreBranchesGo e f d (end_list (next_list t) js u) (bs ++ (next_list s, next_list t) ∷ []) rest cs o s' → BranchesGo e f d s bs rest cs o s'
branch-go {e} {f} {s = s} {t = t} {bs = bs} {o = o} en x y z = record {
  first = (next_list s, next_list t);
  others = z.new;
  is = z.is ∙ append_assoc bs ((next_list s, next_list t) ∷ []) z.new;
  due = z.due;
  there = z.there;
  go = λ c us lx.
      let b = z.go c us lx in
      let j = each (elif_with (L e f)) z.new (else_with (L e f) o c) in
      let w = y.go (operator op.Semi j) (token.Operator op.Semi ∷ b.0) b.0 (ready-sign op.Semi j b.0 tt b.2) (en (operator op.Semi j)) with_semi in
      let q = L e f (next_list t) (operator op.Semi j) in
      let v = x.go (operator op.Semi (operator op.Then q)) (token.Operator op.Semi ∷ token.Operator op.Then ∷ w.0) (token.Operator op.Then ∷ w.0) (listed-ready op.Then q w.0 tt w.2) tt with_semi in
      (v.0, g.branch {ts = v.0} {mid = w.0} {mid' = b.0} v.1 w.1 b.1, v.2);
}

loop-go : {e : Draft} {f d : ℕ} {s t u : Draft} {is js : List AndOr} {mid rest : List Token} (until : Bool) → ListGo e d (begin_list s) (token.Operator op.Do ∷ mid) is t (L e f (next_list s)) →
    ListGo e d (begin_list (end_list (next_list s) is t)) (token.Operator op.Done ∷ rest) js u (L e f (next_list t)) →
    CompoundGo e f (suc d) s rest (compound.While until (next_list s) (next_list t)) (end_list (next_list t) js u)
loop-go {e} {f} {s = s} {t = t} v x y = record {
  due = y.due;
  there = tail (inl y.between) y.there;
  go = λ c us lx.
      let w = y.go (operator op.Semi (operator op.Done c)) (token.Operator op.Semi ∷ token.Operator op.Done ∷ us) (token.Operator op.Done ∷ us) (listed-ready op.Done c us tt lx) tt with_semi in
      let q = listed (L e f) (next_list t) op.Done c in
      let z = x.go (operator op.Semi (operator op.Do q)) (token.Operator op.Semi ∷ token.Operator op.Do ∷ w.0) (token.Operator op.Do ∷ w.0) (listed-ready op.Do q w.0 tt w.2) tt with_semi in
      (token.Operator (loop_op v) ∷ z.0, g.loop {until = v} z.1 w.1, reserved-loop v (listed (L e f) (next_list s) op.Do q) z.0 z.2);
}

for_words-go : {e : Draft} {f d : ℕ} {s t u v s' : Draft} {ws : List Word} {is : List AndOr} {ts mid' mid'' rest : List Token} {w0 : List ℕ} (nm : List ℕ) → is_name nm ≡ true → t ≡ s → v ≡ u → ((c : List ℕ) → Ends ts c) → Separator d u mid' (token.Operator op.Do ∷ mid'') v →
    (a1 : At mode.Arguments (token.Part (bit.Piece nm) ∷ token.End end.Word mode.Command ∷ ts)) → (x : ForWordsGo e f d t [] mid' ws u w0) → ListGo e d (begin_list v) (token.Operator op.Done ∷ rest) is s' (L e f (next_list v)) →
    CompoundGo e f (suc d) s rest (compound.For nm (Some ws) (next_list v)) (end_list (next_list v) is s')
for_words-go {e} {f} {v = v} {ws = ws} nm nn k j en z a1 x y =
    let a2 = tail (inl tt) a1 in
    let a3 = tail (inr tt) a2 in record {
      due = y.due;
      there = tail (inl y.between) y.there;
      go = λ c us lx.
          let b = y.go (operator op.Semi (operator op.Done c)) (token.Operator op.Semi ∷ token.Operator op.Done ∷ us) (token.Operator op.Done ∷ us) (listed-ready op.Done c us tt lx) tt with_semi in
          let q = operator op.Do (listed (L e f) (next_list v) op.Done c) in
          let r = meets (operator op.Semi q) (token.Operator op.Semi ∷ token.Operator op.Do ∷ b.0) tt x.there (separator-ends (operator op.Semi q) z)
          (listed-ready op.Do (listed (L e f) (next_list v) op.Done c) b.0 tt b.2) in
          let o = x.go (operator op.Semi q) (token.Operator op.Semi ∷ token.Operator op.Do ∷ b.0) r in
          let t = each (word_with (P e f)) x.new (operator op.Semi q) in
          let i = reserved op.In t o.0 tt o.2.lexed in
          let g1 = goes-on (operator op.In t) (token.Operator op.In ∷ o.0) tt a3 (en (operator op.In t)) i (shut-in t).0 (shut-in t).1 in
          let g2 = put (inr tt) a2 tt (operator op.In t) (token.Operator op.In ∷ o.0) g1 in
          let g3 = put (inl tt) a1 tt (ending end.Word (operator op.In t)) (token.End end.Word mode.Command ∷ token.Operator op.In ∷ o.0) g2 in
          let all = reserved op.For (written (token.Part (bit.Piece nm)) (ending end.Word (operator op.In t))) (token.Part (bit.Piece nm) ∷ token.End end.Word mode.Command ∷ token.Operator op.In ∷ o.0) tt g3.lexed in (
            token.Operator op.For ∷ token.Part (bit.Piece nm) ∷ token.End end.Word mode.Command ∷ token.Operator op.In ∷ o.0,
            g.for_words nn (none k (token.Operator op.In ∷ o.0)) o.1 (semi-none j (token.Operator op.Do ∷ b.0)) b.1,
            subst (λ (y : List Word). Lexes mode.Command (source (operator op.For (written (token.Part (bit.Piece nm)) (ending end.Word (operator op.In (each (word_with (P e f)) y (operator op.Semi q)))))) [])
                (token.Operator op.For ∷ token.Part (bit.Piece nm) ∷ token.End end.Word mode.Command ∷ token.Operator op.In ∷ o.0)) (sym x.is) all,
          );
    }

for_parameters-go : {e : Draft} {f d : ℕ} {s t s' : Draft} {is : List AndOr} {ts rest : List Token} (nm : List ℕ) → is_name nm ≡ true → t ≡ s → ((c : List ℕ) → Ends ts c) →
    (a1 : At mode.Arguments (token.Part (bit.Piece nm) ∷ token.End end.Word mode.Command ∷ ts)) → ListGo e d (begin_list t) (token.Operator op.Done ∷ rest) is s' (L e f (next_list t)) →
    CompoundGo e f (suc d) s rest (compound.For nm None (next_list t)) (end_list (next_list t) is s')
for_parameters-go {e} {f} {t = t} nm nn j en a1 y =
    let a2 = tail (inl tt) a1 in
    let a3 = tail (inr tt) a2 in record {
      due = y.due;
      there = tail (inl y.between) y.there;
      go = λ c us lx.
          let b = y.go (operator op.Semi (operator op.Done c)) (token.Operator op.Semi ∷ token.Operator op.Done ∷ us) (token.Operator op.Done ∷ us) (listed-ready op.Done c us tt lx) tt with_semi in
          let q = listed (L e f) (next_list t) op.Done c in
          let i = reserved op.Do q b.0 tt b.2 in
          let g1 = goes-on (operator op.Do q) (token.Operator op.Do ∷ b.0) tt a3 (en (operator op.Do q)) i (shut-do q).0 (shut-do q).1 in
          let g2 = put (inr tt) a2 tt (operator op.Do q) (token.Operator op.Do ∷ b.0) g1 in
          let g3 = put (inl tt) a1 tt (ending end.Word (operator op.Do q)) (token.End end.Word mode.Command ∷ token.Operator op.Do ∷ b.0) g2 in (
            token.Operator op.For ∷ token.Part (bit.Piece nm) ∷ token.End end.Word mode.Command ∷ token.Operator op.Do ∷ b.0,
            g.for_parameters nn (not_separated j (token.Operator op.Do ∷ b.0)) b.1,
            reserved op.For (written (token.Part (bit.Piece nm)) (ending end.Word (operator op.Do q))) (token.Part (bit.Piece nm) ∷ token.End end.Word mode.Command ∷ token.Operator op.Do ∷ b.0) tt g3.lexed,
          );
    }

case-go : {e : Draft} {f d : ℕ} {s t u s' : Draft} {ps : List Part} {xs : List (List Word × ℕ)} {ts0 ts rest : List Token} → NotEmpty ps → u ≡ t → ((c : List ℕ) → Ends ts c) → (a1 : At mode.Arguments ts0) →
    (x : PartsGo e f d s [] (token.End end.Word mode.Command ∷ ts) ps t mode.Arguments a1.text true) → ArmsGo e f d u [] rest xs s' → CompoundGo e f (suc d) s rest (compound.Case (word ps) xs) s'
case-go {e} {f} {ps = ps} nz k en a1 x y =
    let a3 = tail x.known x.there in record {
      due = y.due;
      there = y.there;
      go = λ c us lx.
          let b = y.go c us lx in
          let t = each (arm_with (P e f) (L e f)) y.new (operator op.Esac c) in
          let g1 = goes-on (operator op.CaseIn t) (token.Operator op.CaseIn ∷ b.0) tt a3 (en (operator op.CaseIn t)) (in_of t b.0 b.2) (shut-in t).0 (shut-in t).1 in
          let v = x.go (written (token.End end.Word mode.Command) (operator op.CaseIn t)) (token.End end.Word mode.Command ∷ token.Operator op.CaseIn ∷ b.0) (loose (put x.known x.there tt (operator op.CaseIn t) (token.Operator op.CaseIn ∷ b.0) g1)) in
          let w = (subst (λ (q : List Part). Goes mode.Arguments a1.text (each (P e f) q (ending end.Word (operator op.CaseIn t))) v.0) (sym x.is) v.2).lexed in (
            token.Operator op.Case ∷ v.0,
            g.case_command {ts = v.0} v.1 nz (none k (token.Operator op.CaseIn ∷ b.0)) b.1,
            subst (λ (q : List (List Word × ℕ)). Lexes mode.Command (source (operator op.Case (word_with (P e f) (word ps) (operator op.CaseIn (each (arm_with (P e f) (L e f)) q (operator op.Esac c))))) []) (token.Operator op.Case ∷ v.0)) (sym y.is)
                (reserved op.Case (word_with (P e f) (word ps) (operator op.CaseIn t)) v.0 tt w),
          );
    }

compound-go : {e : Draft} {f d : ℕ} {s t s' : Draft} {cx : Compound} {rs : List Redir} {mid rest : List Token} → (x : CompoundGo e f d s mid cx t) → RedirsGo e f d t [] mid rest rs s' → CommandGo e f d s rest (command.Compound cx rs) s'
compound-go {e} {f} {cx = cx} x y = record {
  clear = ap (command.Compound cx) (ap (filled_redirs e.heres) y.is ∙ (y.clear ∙ sym y.is));
  due = y.due;
  way = y.way;
  between = y.between;
  there = y.there;
  go = λ k us rd en.
      let w = y.go k us rd en in
      let v = x.go (each (redir_with (P e f)) y.new k) w.0 (w.2.any mode.Command tt) in
      (v.0, g.compound_command v.1 w.1, subst (λ (z : List Redir). Lexes mode.Command (source (compound_with (P e f) (L e f) cx (each (redir_with (P e f)) z k)) []) v.0) (sym y.is) v.2);
}

function-go : {e : Draft} {f d : ℕ} {s t u s' : Draft} {cx : Compound} {rs : List Redir} {ts mid rest : List Token} (nm : List ℕ) → At mode.Command (token.Function nm ∷ ts) → t ≡ s → slice_get e.script.bodies (next_body t) ≡ Some (command.Compound cx rs) →
    (x : CompoundGo e f d (begin_body t) mid cx u) → RedirsGo e f d u [] mid rest rs s' → CommandGo e f d s rest (command.Function nm (next_body t)) (end_body (next_body t) (command.Compound cx rs) s')
function-go {e} {f} {t = t} {cx = cx} {rs = rs} nm a k h x y = record {
  clear = refl;
  due = y.due;
  way = y.way;
  between = y.between;
  there = y.there;
  go = λ c us rd en.
      let v = y.go c us rd en in
      let o = x.go (each (redir_with (P e f)) y.new c) v.0 (v.2.any mode.Command tt) in
      let b = compound_with (P e f) (L e f) cx (each (redir_with (P e f)) y.new c) in
      let us' = token.Operator op.Open ∷ token.Operator op.Close ∷ o.0 in
      let at = text-body e f (next_body t) (command.Compound cx rs) c h
      ∙ ap (λ (z : List Redir). compound_with (P e f) (L e f) cx (each (redir_with (P e f)) z c)) (ap (filled_redirs e.heres) y.is ∙ y.clear) in (
        token.Function nm ∷ us',
        g.function (none k o.0) o.1 v.1,
        subst (λ (z : List ℕ). Lexes mode.Command (source (written (token.Function nm) (operator op.Open (operator op.Close z))) []) (token.Function nm ∷ us')) (sym at) (function-goes nm a b o.0 o.2),
      );
}

stage-go : {e : Draft} {f d : ℕ} {s t s' : Draft} {c : Command} {cs cs' : List Command} {mid rest : List Token} → (x : CommandGo e f d s mid c t) → MoreStagesGo e f d t (cs ++ c ∷ []) rest cs' s' mid → StagesGo e f d s cs rest cs' s'
stage-go {e} {f} {c = c} {cs = cs} x y = record {
  first = c;
  others = y.new;
  is = y.is ∙ append_assoc cs (c ∷ []) y.new;
  clear = ap (λ (z : Command). z ∷ map (filled_command e.heres) y.new) x.clear ∙ ap (λ (z : List Command). c ∷ z) y.clear;
  due = y.due;
  way = y.way;
  between = y.between;
  there = y.there;
  go = λ k us rd en. let w = y.go k us rd en in let v = x.go (each (piped (filled e) (P e f) (L e f)) y.new k) w.0 w.2 w.3 in (v.0, g.one_stage v.1 w.1, v.2);
}

pipeline-go : {e : Draft} {f d : ℕ} {s t : Draft} {cs : List Command} {rest : List Token} → slice_get e.script.leaves (next_leaf s) ≡ Some (record { bang = false; stages = cs }) → StagesGo e f d (begin_leaf false s) [] rest cs t →
    PipelineGo e f d s rest (end_leaf (next_leaf s) false cs t)
pipeline-go {e} {f} {s = s} {cs = cs} h x = record {
  due = x.due;
  way = x.way;
  between = x.between;
  there = x.there;
  go = λ k us rd en.
      let y = x.go k us rd en in
      let q = text-leaf e f (next_leaf s) false cs k h
      ∙ ap (λ (z : List Command). stages_with (filled e) (P e f) (L e f) z k) (ap (map (filled_command e.heres)) x.is ∙ x.clear) in
      (y.0, g.pipeline y.1, subst (λ (z : List ℕ). Lexes mode.Command (source z []) y.0) (sym q) y.2);
}

bang_pipeline-go : {e : Draft} {f d : ℕ} {s t : Draft} {cs : List Command} {rest : List Token} → slice_get e.script.leaves (next_leaf s) ≡ Some (record { bang = true; stages = cs }) → StagesGo e f d (begin_leaf true s) [] rest cs t →
    PipelineGo e f d s rest (end_leaf (next_leaf s) true cs t)
bang_pipeline-go {e} {f} {s = s} {cs = cs} h x = record {
  due = x.due;
  way = x.way;
  between = x.between;
  there = x.there;
  go = λ k us rd en.
      let y = x.go k us rd en in
      let q = text-leaf e f (next_leaf s) true cs k h
      ∙ ap (λ (z : List Command). operator op.Bang (stages_with (filled e) (P e f) (L e f) z k)) (ap (map (filled_command e.heres)) x.is ∙ x.clear) in (
        token.Operator op.Bang ∷ y.0,
        g.bang_pipeline y.1,
        subst (λ (z : List ℕ). Lexes mode.Command (source z []) (token.Operator op.Bang ∷ y.0)) (sym q) (reserved op.Bang (stages_with (filled e) (P e f) (L e f) (x.first ∷ x.others) k) y.0 tt y.2),
      );
}

joins-go : {e : Draft} {f d : ℕ} {s t u s' : Draft} {is js : List AndOr} {a : AndOr} {ts mid' rest : List Token} (j : Join) → t ≡ s → (y : PipelineGo e f d t mid' u) → RestGo e f d u is (joined a j (next_leaf t)) mid' rest js s' →
    RestGo e f d s is a (token.Operator (join_op j) ∷ ts) rest js s'
joins-go {e} {f} {t = t} {ts = ts} j k y z = record {
  more = (j, next_leaf t) ∷ z.more;
  others = z.others;
  same = z.same;
  due = z.due;
  way = z.way;
  between = z.between;
  there = z.there;
  go = λ c us vs rd en tl.
      let w = z.go c us vs rd en tl in
      let q = each (join_with (leaf e f)) z.more (each (next_item (leaf e f)) z.others c) in
      let v = y.go q w.0 w.2 w.3 in
      (token.Operator (join_op j) ∷ v.0, g.joins j (none k v.0) v.1 w.1, ready-join j (leaf e f (next_leaf t) q) v.0 v.2, join-ends j ts (operator (join_op j) (leaf e f (next_leaf t) q)));
}

next_more-go : {e : Draft} {f d : ℕ} {s t u s' : Draft} {is js : List AndOr} {a : AndOr} {ts mid' rest : List Token} → t ≡ s → ((c : List ℕ) → Ends ts c) → (y : PipelineGo e f d t mid' u) → RestGo e f d u (is ++ a ∷ []) (and_or (next_leaf t)) mid' rest js s' →
    RestGo e f d s is a ts rest js s'
next_more-go {e} {f} {t = t} {is = is} {a = a} k stop y x = record {
  more = [];
  others = joined_all (and_or (next_leaf t)) x.more ∷ x.others;
  same = x.same ∙ append_assoc is (a ∷ []) (joined_all (and_or (next_leaf t)) x.more ∷ x.others);
  due = x.due;
  way = x.way;
  between = x.between;
  there = x.there;
  go = λ c us vs rd en tl.
      let w = x.go c us vs rd en tl in
      let j = each (next_item (leaf e f)) x.others c in
      let q = each (join_with (leaf e f)) x.more j in
      let v = y.go q w.0 w.2 w.3 in
      let l = joined-text (leaf e f) (and_or (next_leaf t)) x.more j in (
        token.Operator op.Semi ∷ v.0,
        g.next_more (semi-none k v.0) v.1 w.1,
        subst (λ (o : List ℕ). Ready (operator op.Semi o) (token.Operator op.Semi ∷ v.0)) (sym l) (ready-sign op.Semi (leaf e f (next_leaf t) q) v.0 tt v.2),
        stop (operator op.Semi (and_or_with (leaf e f) (joined_all (and_or (next_leaf t)) x.more) j)),
      );
}

list-go : {e : Draft} {f d : ℕ} {s t u s' : Draft} {is : List AndOr} {mid' rest : List Token} → t ≡ s → (y : PipelineGo e f d t mid' u) → RestGo e f d u [] (and_or (next_leaf t)) mid' rest is s' → ListGo e d s rest is s' (items_with (leaf e f) is)
list-go {e} {f} {t = t} k y x = record {
  due = x.due;
  way = x.way;
  between = x.between;
  there = x.there;
  go = λ c us vs rd en tl.
      let w = x.go c us vs rd en tl in
      let j = each (next_item (leaf e f)) x.others c in
      let q = each (join_with (leaf e f)) x.more j in
      let v = y.go q w.0 w.2 w.3 in
      let l = joined-text (leaf e f) (and_or (next_leaf t)) x.more j in (
        v.0,
        g.list (none k v.0) v.1 w.1,
        subst (λ (o : List AndOr). Lexes mode.Command (source (items_with (leaf e f) o c) []) v.0) (sym x.same) (subst (λ (o : List ℕ). Lexes mode.Command (source o []) v.0) (sym l) v.2),
      );
}

-- where no redirection stands in front
bare-go : {e : Draft} {f d : ℕ} {s mid s' : Draft} {c : Simple} {rest us : List Token} (rs : List Redir) (t : List ℕ) (ts : List Token) → rs ≡ [] → Early e f d rest s rs mid → Elements d mid (simple_of [] [] rs) ts us c s' → Lexes mode.Command (source t []) ts →
    (us' : List Token) × Elements d s no_simple us' us c s' × Lexes mode.Command (source (each (redir_with (P e f)) rs t) []) us'
bare-go rs t ts h no_early q l = (ts, q, l)
bare-go rs t ts h (one_early r nz y) q l = absurd (cons-nil _ _ h)

simple-go : {e : Draft} {f d : ℕ} {s s' : Draft} {c : Simple} {rest from : List Token} → HasElement c → ElementsGo e f d s no_simple rest c s' mode.Command from → CommandGo e f d s rest (simple c) s'
simple-go {e} {f} {d} {s} {s'} {c} {rest} nz x = record {
  clear = ap (λ (z : Simple). filled_command e.heres (simple z)) x.is ∙ (ap (λ (q : List Redir). simple (simple_of x.assigns x.words q)) x.clear ∙ ap simple (sym x.is));
  due = x.due;
  way = x.way;
  between = x.between;
  there = x.there;
  go = λ k us rd en.
      let o = assigns_list x.assigns x.words in
      let A = going o x.redirs in
      let w = x.go A k us rd en in
      let t = assigns_with (P e f) x.assigns x.words (waiting o x.redirs) k in
      let q = ap (simple_of x.assigns x.words) (parted o x.redirs) ∙ sym x.is in
      let p = subst (λ (z : Simple). Elements d x.mid (simple_of [] [] A) w.0 us z s') q w.1 in
      let b = elim (empty-or A) as (λ z. (us' : List Token) × Elements d s no_simple us' us c s' × Lexes mode.Command (source (each (redir_with (P e f)) A t) []) us') [
        | inl e0 ↦ bare-go A t w.0 e0 x.early p (w.2.same e0)
        | inr n0 ↦ let v = early-go x.early (ends-stops rest k en) [] [] [] t w.0 us c s' p w.2.behind w.2.shut w.2.firm in (v.0, v.1, v.2.same n0)
      ] in
      (b.0, g.simple_command b.1 nz, subst (λ (z : Simple). Lexes mode.Command (source (command_with (filled e) (P e f) (L e f) (simple z) k) []) b.0) (sym x.is) b.2);
}

-- ---- backslashes that stand for themselves

unended : {A : Type 0} → ends_lone [] ≡ true → A
unended e = absurd cc

param-lone : (ps : List Part) (x : List ℕ) (l : Bool) → ends_lone (ps ++ param_of x l ∷ []) ≡ true → ⊥
param-lone ps x true e = not-lone ps (part.Param x param_op.Length false None) (open_part.Param x param_op.Length false None) (outs-Param x param_op.Length false None) tt e
param-lone ps x false e = not-lone ps (part.Param x param_op.Value false None) (open_part.Param x param_op.Value false None) (outs-Param x param_op.Value false None) tt e

arith-word : (n : ℕ) → mode.Arith n ≡ mode.Word → ⊥
arith-word n e = cc

bit-lone : {m : Mode} {ts : List Token} (ps : List Part) (b : Bit) (i : IsKnown m) (a : At m (token.Part b ∷ ts)) → ends_lone (ps ++ part_of b ∷ []) ≡ true → Closes ts → (tail i a).text ≡ []
bit-lone {ts = ts} ps (bit.Piece x) i a e z = lone-ends ts x i a (plain-lone ps x e) z
bit-lone {ts = ts} ps (bit.Sum x n) i a e z = absurd (arith-word n (in-word ts (inr tt) (tail i a) z))
bit-lone ps (bit.Escaped x) i a e z = absurd (not-lone ps (part.Escaped x) (open_part.Escaped x) (outs-Escaped x) tt e)
bit-lone ps (bit.Single x) i a e z = absurd (not-lone ps (part.Single x) (open_part.Single x) (outs-Single x) tt e)
bit-lone ps (bit.Value x) i a e z = absurd (param-lone ps x false e)

-- Where the word ends, there are no more parts.
parts-stop : {d : ℕ} {s t : Draft} {ps qs : List Part} {ts rest : List Token} → Parts d s ps ts rest qs t → EndsWord ts → qs ≡ ps
parts-stop g.parts_end w = refl
parts-stop (g.one_bit r) w = absurd w
parts-stop (g.param r) w = absurd w
parts-stop (g.double q r) w = absurd w
parts-stop (g.braces q r) w = absurd w
parts-stop (g.arith q r) w = absurd w
parts-stop (g.substitution l r) w = absurd w
parts-stop (g.backquotes l r) w = absurd w

bit-tight : {d : ℕ} {s t : Draft} {qs : List Part} {m : Mode} {ts rest : List Token} {tight : Bool} (ps : List Part) (b : Bit) → Parts d s (ps ++ part_of b ∷ []) ts rest qs t → (i : IsKnown m) (a : At m (token.Part b ∷ ts)) → (ends_lone qs ≡ true → tight ≡ true) →
    IsLone (token.Part b) → (tail i a).text ≡ [] → tight ≡ true
bit-tight {m = m} ps (bit.Piece x) r i a h l z = h (ap ends_lone (parts-stop r (ends-there (inside-word m i) (tail i a) z)) ∙ lone-plain ps x l)
bit-tight ps (bit.Sum x n) r i a h l z = absurd l
bit-tight ps (bit.Escaped x) r i a h l z = absurd l
bit-tight ps (bit.Single x) r i a h l z = absurd l
bit-tight ps (bit.Value x) r i a h l z = absurd l

mutual
  parts : {e : Draft} (f : ℕ) {d : ℕ} {s s' : Draft} {ps qs : List Part} {ts rest : List Token} {m : Mode} (tight : Bool) → Parts d s ps ts rest qs s' → s.due ≡ [] → (i : IsKnown m) → (a : At m ts) → From s s' e → Deep m d f →
      (ends_lone qs ≡ true → tight ≡ true) → (ends_lone ps ≡ true → Closes ts → a.text ≡ []) → PartsGo e f d s ps rest qs s' m a.text tight
  parts f {m = m} tight (g.parts_end {ps = ps}) u i a fr dp hl b = record { new = []; is = nil-right ps; due = u; way = m; known = i; there = a; lone = b; go = λ c us h. (us, g.parts_end, h) }
  parts zero tight (g.one_bit r) u i a fr dp hl b = absurd (omega (arith, dp.all))
  parts {e} (suc f) {m = m} tight (g.one_bit {ps = ps} {b = b} r) u i a fr dp hl b0 =
      let x = parts (suc f) tight r u (bit-known m b i) (tail i a) fr (record { all = dp.all; out = λ q. dp.out (unquoted-bit m b a.lexed.1.text (seen-is i a) q) }) hl (bit-lone ps b i a) in record {
        new = part_of b ∷ x.new;
        is = x.is ∙ append_assoc ps (part_of b ∷ []) x.new;
        due = x.due;
        way = x.way;
        known = x.known;
        there = x.there;
        lone = x.lone;
        go = λ c us h. let y = x.go c us h in (token.Part b ∷ y.0, g.one_bit {b = b} y.1, put-bit (filled e) f b i a _ y.0 y.2 (bit-tight ps b r i a hl));
      }
  parts zero tight (g.param r) u i a fr dp hl b = absurd (omega (arith, dp.all))
  parts {e} (suc f) {m = m} tight (g.param {ps = ps} {x = w} {l = l} r) u i a fr dp hl b0 =
      let x = parts (suc f) tight r u (inside-known m i) (tail i a) fr (record { all = dp.all; out = λ q. dp.out (unquoted-inside m q) }) hl (λ y z. absurd (param-lone ps w l y)) in record {
        new = param_of w l ∷ x.new;
        is = x.is ∙ append_assoc ps (param_of w l ∷ []) x.new;
        due = x.due;
        way = x.way;
        known = x.known;
        there = x.there;
        lone = x.lone;
        go = λ c us h. let y = x.go c us h in put-param e f w l i a _ y.0 y.1 y.2;
      }
  parts zero tight (g.double q r) u i a fr dp hl b = absurd (omega (arith, dp.all))
  parts {e} (suc f) {m = m} tight (g.double {ps = ps} {inner = inner} {m = n} q r) u i a fr dp hl b0 =
      let sn = seen-is i a in
      let out = dp.out (unquoted-inside m sn.1) in
      let x = parts f true q u (inr tt) (tail i a) (final.first (frame.parts r) fr) (record { all = omega (arith, out); out = λ z. absurd z }) (λ l. refl) unended in
      let nk = subst IsKnown (sym sn.0) (inside-known m i) in
      let y = parts (suc f) tight r x.due nk (tail x.known x.there) (final.second (frame.parts q) fr) (record { all = dp.all; out = λ z. out }) hl (λ l z. absurd (not-lone ps (part.Double inner) (open_part.Double inner) (outs-Double inner) tt l)) in double-go {f = f} {ps = ps} {inner = inner} {n = n} i a x y
  parts zero tight (g.braces q r) u i a fr dp hl b = absurd (omega (arith, dp.all))
  parts {e} (suc f) {m = m} tight (g.braces {d = d} {ps = ps} {inner = inner} {x = nm} {o = o} {c = k} {q = fl} {m = n} p r) u i a fr dp hl b0 =
      let sn = seen-is i a in
      let x = parts f true p u (inr tt) (tail i a) (final.first (frame.parts r) fr) (record { all = omega (arith, dp.all); out = λ z. omega (arith, dp.all) }) (λ l. refl) unended in
      let nk = subst IsKnown (sym sn) (inside-known m i) in
      let y = parts (suc f) tight r x.due nk (tail x.known x.there) (final.second (frame.parts p) fr) (record { all = dp.all; out = λ z. dp.out (unquoted-inside m (subst NotQuotes sn z)) }) hl (λ l z. absurd (not-lone ps (part.Param nm o k (Some (word inner))) (open_part.Param nm o k (Some (word inner))) (outs-Param nm o k (Some (word inner))) tt l)) in braces-go {f = f} {ps = ps} {inner = inner} {n = n} nm o k fl i a x y
  parts zero tight (g.arith q r) u i a fr dp hl b = absurd (omega (arith, dp.all))
  parts {e} (suc f) {m = m} tight (g.arith {d = d} {ps = ps} {inner = inner} {m = n} p r) u i a fr dp hl b0 =
      let sn = seen-is i a in
      let x = parts f true p u (inr tt) (tail i a) (final.first (frame.parts r) fr) (record { all = omega (arith, dp.all); out = λ z. omega (arith, dp.all) }) (λ l. refl) unended in
      let nk = subst IsKnown (sym sn) (inside-known m i) in
      let y = parts (suc f) tight r x.due nk (tail x.known x.there) (final.second (frame.parts p) fr) (record { all = dp.all; out = λ z. dp.out (unquoted-inside m (subst NotQuotes sn z)) }) hl (λ l z. absurd (not-lone ps (part.Arith (word inner)) (open_part.Arith (word inner)) (outs-Arith (word inner)) tt l)) in arith-go {f = f} {ps = ps} {inner = inner} {n = n} i a x y
  parts zero tight (g.substitution l r) u i a fr dp hl b = absurd (omega (arith, dp.all))
  parts {e} (suc f) {m = m} tight (g.substitution {d = d} {s = s} {ps = ps} {is = is} {m = n} l r) u i a fr dp hl b0 =
      let sn = seen-is i a in
      let x = numbered f (next_list s) refl l (final.first (frame.parts r) fr) (omega (arith, dp.all)) (λ x' y'. may_be_list (pred f) l u (tail i a) x' y') in
      let nk = subst IsKnown (sym sn) (inside-known m i) in
      let y = parts (suc f) tight r x.due nk (tail (inl x.between) x.there) (final.second (closed_list (next_list s) is refl (frame.may_be_list l)) fr)
      (record { all = dp.all; out = λ z. dp.out (unquoted-inside m (subst NotQuotes sn z)) }) hl (λ y z. absurd (not-lone ps (part.Command (next_list s)) (open_part.Command (next_list s)) (outs-Command (next_list s)) tt y)) in substitution-go {f = f} {s = s} {ps = ps} {n = n} i a x y
  parts f tight (g.backquotes l r) u i a fr dp hl b = absurd a.plain.0

  redirs : {e : Draft} (f : ℕ) {d : ℕ} {s s' : Draft} {rs rs' : List Redir} {ts rest : List Token} {m : Mode} → Redirs d s rs ts rest rs' s' → s.due ≡ [] → (i : IsBetween m) → (a : At m ts) → From s s' e → 3 * d + 2 ≤ f →
      RedirsGo e f d s rs ts rest rs' s'
  redirs f {m = m} (g.no_redir {rs = rs}) u i a fr h = record { new = []; is = nil-right rs; clear = refl; due = u; way = m; between = i; there = a; go = λ k us rd en. (us, g.no_redir, rd, en) }
  redirs {e} f {m = m} (g.one_redir {rs = rs} (g.file {fd = fd} {o = o} {ps = ps} p nz) r) u i a fr h =
      let x = parts f (ends_lone ps) p u (inl tt) (tail (inl i) a) (final.first (frame.redirs r) fr) (record { all = omega (arith, h); out = λ q. h }) (λ l. l) unended in
      let y = redirs f r x.due tt (tail x.known x.there) (final.second (frame.parts p) fr) h in redirs-go {f = f} {rs = rs} fd o {ps = ps} i a nz x y
  redirs f (g.one_redir g.here r) u i a fr h = absurd a.plain.0

  elements : {e : Draft} (f : ℕ) {d : ℕ} {s s' : Draft} {c c' : Simple} {ts rest : List Token} {m : Mode} → Standing m c.words → Elements d s c ts rest c' s' → s.due ≡ [] → (i : IsBetween m) →
      (a : At m ts) → From s s' e → 3 * d + 2 ≤ f → ElementsGo e f d s c rest c' s' m ts
  elements f {d} {m = m} st (g.no_element {s = s} {c = c}) u i a fr h = record {
    assigns = [];
    words = [];
    redirs = [];
    is = simple-nil c ∙ ap (λ (q : List Redir). simple_of (c.assigns ++ []) (c.words ++ []) q) (nil-right c.redirs);
    clear = refl;
    order = λ n. refl;
    due = u;
    way = m;
    between = i;
    there = a;
    least = tt;
    mid = s;
    early = no_early;
    ends = λ n k. absurd n;
    go = λ rs k us rd en. (
      us,
      subst (λ (q : List Redir). Elements d s (simple_of c.assigns c.words rs) us us (simple_of (c.assigns ++ []) (c.words ++ []) q) s) (nil-right rs)
          (subst (λ (q : Simple). Elements d s (simple_of c.assigns c.words rs) us us q s) (simple-nil (simple_of c.assigns c.words rs)) g.no_element),
      record { behind = rd.any (mode_before c.words) (before-between c.words); same = λ n. rd.any m i; shut = rd.shut; firm = rd.firm },
      en,
    );
  }
  elements {e} f {m = m} st (g.assign {c = c} {x = nm} {ps = ps} {rest = rest} p r) u i a fr h =
      let x = parts f true p u (inr tt) (tail (inl i) a) (final.first (frame.elements r) fr) (record { all = omega (arith, h); out = λ q. h }) (λ l. refl) unended in
      let z = tail x.known x.there in
      let y = elements f (inl (sym (standing-prefix m c.words st (seen-is (inl i) a)))) r x.due tt z (final.second (frame.parts p) fr) h in
      assign-go {f = f} {c = c} {ps = ps} nm i a st (begins-in p) x y
  elements {e} f {m = m} st (g.argument {c = c} {ps = ps} {rest = rest} p nz r) u i a fr h =
      let x = parts f true p u (inl i) a (final.first (frame.elements r) fr) (record { all = omega (arith, h); out = λ q. h }) (λ l. refl) unended in
      let z = tail x.known x.there in
      let y = elements f (inl (sym (before-some c.words (word ps)))) r x.due tt z (final.second (frame.parts p) fr) h in
      argument-go {f = f} {c = c} {ps = ps} i a nz st (starts p nz) (begins-in p) x y
  elements {e} f {m = m} st (g.redirection {c = c} {rest = rest} (g.file {fd = fd} {o = o} {ps = ps} p nz) r) u i a fr h =
      let a1 = tail (inl i) a in
      let x = parts f (ends_lone ps) p u (inl tt) a1 (final.first (frame.elements r) fr) (record { all = omega (arith, h); out = λ q. h }) (λ l. l) unended in
      let y = elements f (inl refl) r x.due (before-between c.words) (tail x.known x.there) (final.second (frame.parts p) fr) h in
      any_redirection-go {f = f} {c = c} (ends_lone ps) fd o {ps = ps} i a nz refl (before-between c.words) st (begins-in p) refl r x y
  elements f st (g.redirection g.here r) u i a fr h = absurd a.plain.0

  for_words : {e : Draft} (f : ℕ) {d : ℕ} {s s' : Draft} {ws vs : List Word} {ts rest : List Token} → ForWords d s ws ts rest vs s' → s.due ≡ [] → (a : At mode.Arguments ts) → From s s' e → 3 * d + 2 ≤ f →
      ForWordsGo e f d s ws rest vs s' a.text
  for_words f (g.no_word {ws = ws}) u a fr h = record { new = []; is = nil-right ws; due = u; there = a; go = λ k us x. (us, g.no_word, x) }
  for_words {e} f (g.one_word {ws = ws} {ps = ps} p nz r) u a fr h =
      let x = parts f true p u (inl tt) a (final.first (frame.for_words r) fr) (record { all = omega (arith, h); out = λ q. h }) (λ l. refl) unended in
      let y = for_words f r x.due (tail x.known x.there) (final.second (frame.parts p) fr) h in for_word-go {f = f} {ws = ws} {ps = ps} a nz (starts p nz) x y

  patterns : {e : Draft} (f : ℕ) {d : ℕ} {s s' : Draft} {ws vs : List Word} {ts rest : List Token} {m : Mode} → Patterns d s ws ts rest vs s' → s.due ≡ [] → IsBetween m → (a : At m ts) → From s s' e → 3 * d + 2 ≤ f →
      PatternsGo e f d s ws rest vs s' m
  patterns {e} f {m = m} (g.last_pattern {ws = ws} {ps = ps} p nz) u i a fr h =
      let x = parts f true p u (inl i) a fr (record { all = omega (arith, h); out = λ q. h }) (λ l. refl) unended in
      let z = tail x.known x.there in last_pattern-go {f = f} {ws = ws} {ps = ps} a nz x
  patterns {e} f {m = m} (g.more_patterns {ws = ws} {ps = ps} p nz r) u i a fr h =
      let x = parts f true p u (inl i) a (final.first (frame.patterns r) fr) (record { all = omega (arith, h); out = λ q. h }) (λ l. refl) unended in
      let z = tail x.known x.there in
      let y = patterns f r x.due tt (tail (inl tt) z) (final.second (frame.parts p) fr) h in more_patterns-go {f = f} {ws = ws} {ps = ps} a nz x y

  one_arm : {e : Draft} (f : ℕ) {d n : ℕ} {s s' : Draft} {ws : List Word} {ts rest : List Token} → OneArm d s ts rest ws n s' → s.due ≡ [] → At mode.Pattern ts → From s s' e → 3 * d + 3 ≤ f → ((c : List ℕ) → Ends rest c) →
      ArmGo e f d s rest ws n s'
  one_arm {e} f (g.one_arm {t = t} {ws = ws} {is = is} o p l) u a fr h en =
      let x = patterns f p u tt (opened-there o a) (final.first (closed_list (next_list t) is refl (frame.may_be_list l)) fr) (omega (arith, h)) in
      let y = numbered f (next_list t) refl l (final.second (frame.patterns p) fr) h (λ x' y'. may_be_list (pred f) l x.due (tail (inl tt) x.there) x' y') in one_arm-go {f = f} {t = t} {ws = ws} o en x y

  arms : {e : Draft} (f : ℕ) {d : ℕ} {s s' : Draft} {xs ys : List (List Word × ℕ)} {ts rest : List Token} → Arms d s xs ts rest ys s' → s.due ≡ [] → At mode.Pattern ts → From s s' e → 3 * d + 3 ≤ f → ArmsGo e f d s xs rest ys s'
  arms f (g.no_arm {arms = xs} n) u a fr h = let k = newlines n tt u a in record {
    new = [];
    is = nil-right xs;
    due = still-due k.0 u;
    there = tail (inl tt) k.1;
    go = λ c us lx. (token.Operator op.Esac ∷ us, g.no_arm (none k.0 (token.Operator op.Esac ∷ us)), esac c us lx);
  }
  arms f (g.last_arm {ws = ws} {n = num} n o) u a fr h =
      let k = newlines n tt u a in
      let x = one_arm f o (still-due k.0 u) k.1 (final.second (frame.newlines n) fr) h (λ c. tt) in record {
        new = (ws, num) ∷ [];
        is = refl;
        due = x.due;
        there = tail (inl x.between) x.there;
        go = λ c us lx.
            let y = x.go (operator op.Esac c) (token.Operator op.Esac ∷ us) (esac c us lx) in (y.0, g.more_arms (none k.0 y.0) y.1 (g.no_arm g.no_newline), y.2);
      }
  arms {e} f (g.more_arms {arms = xs} {ws = ws} {n = num} n o r) u a fr h =
      let k = newlines n tt u a in
      let x = one_arm f o (still-due k.0 u) k.1 (final.first (frame.arms r) (final.second (frame.newlines n) fr)) h (λ c. tt) in
      let y = arms f r x.due (tail (inl x.between) x.there) (final.second (frame.then (frame.newlines n) (frame.one_arm o)) fr) h in more_arms-go {f = f} {num = num} {arms = xs} {ws = ws} k.0 x y

  branches : {e : Draft} (f : ℕ) {d : ℕ} {s s' : Draft} {bs cs : List (ℕ × ℕ)} {o : Option ℕ} {ts rest : List Token} → Branches d s bs ts rest cs o s' → s.due ≡ [] → At mode.Command ts → From s s' e → 3 * d + 3 ≤ f →
      BranchesGo e f d s bs rest cs o s'
  branches {e} f (g.branch {s = s} {t = t} {bs = bs} {o = o} {is = is} {js = js} l k r) u a fr h =
      let n = next_list s in
      let e1 = length-list t n is in
      let p1 = closed_list n is refl (frame.in_list l) in
      let p2 = closed_list (next_list t) js (sym e1) (frame.in_list k) in
      let p3 = frame.more_branches r in
      let x = numbered_list f n refl l (final.first (frame.then p2 p3) fr) h (λ x' y'. in_list (pred f) l u a x' y') in
      let y = numbered_list f (next_list t) (sym e1) k (final.first p3 (final.second p1 fr)) h (λ x' y'. in_list (pred f) k x.due (tail (inl x.between) x.there) x' y') in
      let z = more_branches f r y.due y.between y.there (final.second (frame.then p1 p2) fr) h in branch-go {f = f} {s = s} {t = t} {bs = bs} {o = o} (λ c. branches-ends c r) x y z

  more_branches : {e : Draft} (f : ℕ) {d : ℕ} {s s' : Draft} {bs cs : List (ℕ × ℕ)} {o : Option ℕ} {ts rest : List Token} {m : Mode} → MoreBranches d s bs ts rest cs o s' → s.due ≡ [] → IsBetween m → At m ts → From s s' e →
      3 * d + 3 ≤ f → MoreBranchesGo e f d s bs rest cs o s'
  more_branches f (g.fi {bs = bs}) u i a fr h = record { new = []; is = nil-right bs; due = u; there = tail (inl i) a; go = λ c us lx. (token.Operator op.Fi ∷ us, g.fi, reserved op.Fi c us tt lx) }
  more_branches {e} f (g.elif {o = o} b) u i a fr h = let x = branches f b u (tail (inl i) a) fr h in record {
    new = x.first ∷ x.others;
    is = x.is;
    due = x.due;
    there = x.there;
    go = λ c us lx. let y = x.go c us lx in (token.Operator op.Elif ∷ y.0, g.elif y.1, reserved op.Elif (branches_with (L e f) (x.first ∷ x.others) (else_with (L e f) o c)) y.0 tt y.2);
  }
  more_branches {e} f (g.otherwise {s = s} {bs = bs} l) u i a fr h = let x = numbered_list f (next_list s) refl l fr h (λ x' y'. in_list (pred f) l u (tail (inl i) a) x' y') in record {
    new = [];
    is = nil-right bs;
    due = x.due;
    there = tail (inl x.between) x.there;
    go = λ c us lx.
        let y = x.go (operator op.Semi (operator op.Fi c)) (token.Operator op.Semi ∷ token.Operator op.Fi ∷ us) (token.Operator op.Fi ∷ us) (listed-ready op.Fi c us tt lx) tt with_semi in
        (token.Operator op.Else ∷ y.0, g.otherwise y.1, reserved op.Else (listed (L e f) (next_list s) op.Fi c) y.0 tt y.2);
  }

  one_compound : {e : Draft} (f : ℕ) {d : ℕ} {s s' : Draft} {x : Compound} {ts rest : List Token} → OneCompound d s ts rest x s' → s.due ≡ [] → At mode.Command ts → From s s' e → 3 * d + 2 ≤ f → CompoundGo e f d s rest x s'
  one_compound {e} f (g.group {s = s} l) u a fr h = let x = numbered_list f (next_list s) refl l fr (omega (arith, h)) (λ x' y'. in_list (pred f) l u (tail (inl tt) a) x' y') in record {
    due = x.due;
    there = tail (inl x.between) x.there;
    go = λ c us lx.
        let y = x.go (operator op.Semi (operator op.RightBrace c)) (token.Operator op.Semi ∷ token.Operator op.RightBrace ∷ us) (token.Operator op.RightBrace ∷ us) (listed-ready op.RightBrace c us tt lx) tt with_semi in
        (token.Operator op.LeftBrace ∷ y.0, g.group y.1, reserved op.LeftBrace (listed (L e f) (next_list s) op.RightBrace c) y.0 tt y.2);
  }
  one_compound {e} f (g.subshell {s = s} l) u a fr h = let x = numbered_list f (next_list s) refl l fr (omega (arith, h)) (λ x' y'. in_list (pred f) l u (tail (inl tt) a) x' y') in record {
    due = x.due;
    there = tail (inl x.between) x.there;
    go = λ c us lx.
        let y = x.go (operator op.Close c) (token.Operator op.Close ∷ us) (token.Operator op.Close ∷ us) (ready-sign op.Close c us tt lx) tt at_once in
        (token.Operator op.Open ∷ y.0, g.subshell y.1, sign mode.Command op.Open (L e f (next_list s) (operator op.Close c)) y.0 tt tt y.2);
  }
  one_compound {e} f (g.if_command {bs = bs} {o = o} b) u a fr h = let x = branches f b u (tail (inl tt) a) fr (omega (arith, h)) in record {
    due = x.due;
    there = x.there;
    go = λ c us lx.
        let y = x.go c us lx in (
          token.Operator op.If ∷ y.0,
          g.if_command y.1,
          subst (λ (q : List (ℕ × ℕ)). Lexes mode.Command (source (operator op.If (branches_with (L e f) q (else_with (L e f) o c))) []) (token.Operator op.If ∷ y.0)) (sym x.is)
              (reserved op.If (branches_with (L e f) (x.first ∷ x.others) (else_with (L e f) o c)) y.0 tt y.2),
        );
  }
  one_compound {e} f (g.loop {s = s} {t = t} {until = v} {is = is} {js = js} l k) u a fr h =
      let n = next_list s in
      let e1 = length-list t n is in
      let p1 = closed_list n is refl (frame.in_list l) in
      let p2 = closed_list (next_list t) js (sym e1) (frame.in_list k) in
      let x = numbered_list f n refl l (final.first p2 fr) (omega (arith, h)) (λ x' y'. in_list (pred f) l u (loop-there v a) x' y') in
      let y = numbered_list f (next_list t) (sym e1) k (final.second p1 fr) (omega (arith, h)) (λ x' y'. in_list (pred f) k x.due (tail (inl x.between) x.there) x' y') in loop-go {f = f} {s = s} {t = t} v x y
  one_compound {e} f (g.for_words {v = v} {x = nm} {ws = ws} {is = is} nn n w z l) u a fr h =
      let a1 = tail (inl tt) a in
      let a2 = tail (inl tt) a1 in
      let a3 = tail (inr tt) a2 in
      let k = newlines n tt u a3 in
      let pl = closed_list (next_list v) is refl (frame.in_list l) in
      let x = for_words f w (still-due k.0 u) (tail (inl tt) k.1) (final.first (frame.then (frame.separator z) pl) (final.second (frame.newlines n) fr)) (omega (arith, h)) in
      let j = separator z tt x.due x.there in
      let y = numbered_list f (next_list v) refl l (final.second (frame.then (frame.newlines n) (frame.then (frame.for_words w) (frame.separator z))) fr) (omega (arith, h)) (λ x' y'. in_list (pred f) l (still-due j.0 x.due) (tail (inl tt) j.1) x' y') in for_words-go {f = f} {v = v} {ws = ws} nm nn k.0 j.0 (λ c. newlines-ends c n tt) z a1 x y
  one_compound {e} f (g.for_parameters {t = t} {x = nm} {is = is} nn z l) u a fr h =
      let a1 = tail (inl tt) a in
      let a2 = tail (inl tt) a1 in
      let a3 = tail (inr tt) a2 in
      let j = may_separate z u a3 in
      let y = numbered_list f (next_list t) refl l (final.second (frame.may_separate z) fr) (omega (arith, h)) (λ x' y'. in_list (pred f) l (still-due j.0 u) (tail (inl tt) j.1) x' y') in for_parameters-go {f = f} {t = t} nm nn j.0 (λ c. may_separate-ends c z tt) a1 y
  one_compound {e} f (g.case_command {ps = ps} {arms = xs} p nz n r) u a fr h =
      let a1 = tail (inl tt) a in
      let x = parts f true p u (inl tt) a1 (final.first (frame.then (frame.newlines n) (frame.arms r)) fr) (record { all = omega (arith, h); out = λ q. omega (arith, h) }) (λ l. refl) unended in
      let a3 = tail x.known x.there in
      let k = newlines n tt x.due a3 in
      let y = arms f r (still-due k.0 x.due) (tail (inl tt) k.1) (final.second (frame.then (frame.parts p) (frame.newlines n)) fr) (omega (arith, h)) in case-go {f = f} {ps = ps} nz k.0 (λ c. newlines-ends c n tt) a1 x y

  one_command : {e : Draft} (f : ℕ) {d : ℕ} {s s' : Draft} {x : Command} {ts rest : List Token} → OneCommand d s ts rest x s' → s.due ≡ [] → At mode.Command ts → From s s' e → 3 * d + 2 ≤ f → CommandGo e f d s rest x s'
  one_command {e} f (g.simple_command {s = s} {c = c} q nz) u a fr h = simple-go {f = f} {c = c} nz (elements f (inr (refl, refl)) q u tt a fr h)
  one_command {e} f (g.compound_command {x = cx} {rs = rs} q r) u a fr h =
      let x = one_compound f q u a (final.first (frame.redirs r) fr) h in
      let y = redirs f r x.due tt x.there (final.second (frame.one_compound q) fr) h in compound-go {f = f} {cx = cx} {rs = rs} x y
  one_command {e} f (g.function {t = t} {name = nm} {x = cx} {rs = rs} n q r) u a fr h =
      let k = newlines n tt u (tail (inl tt) (tail (inl tt) (tail (inl tt) a))) in
      let fr1 = final.second (frame.newlines n) fr in
      let fr2 = final.in_body (command.Compound cx rs) fr1 in
      let x = one_compound f q (still-due k.0 u) k.1 (final.first (frame.redirs r) fr2) h in
      let y = redirs f r x.due tt x.there (final.second (frame.one_compound q) fr2) h in function-go {f = f} {t = t} {cx = cx} {rs = rs} nm a k.0 (final.body_at (command.Compound cx rs) (frame.then (frame.one_compound q) (frame.redirs r)) fr1) x y

  stages : {e : Draft} (f : ℕ) {d : ℕ} {s s' : Draft} {cs cs' : List Command} {ts rest : List Token} → Stages d s cs ts rest cs' s' → s.due ≡ [] → At mode.Command ts → From s s' e → 3 * d + 2 ≤ f → StagesGo e f d s cs rest cs' s'
  stages {e} f (g.one_stage {c = c} {cs = cs} q r) u a fr h =
      let x = one_command f q u a (final.first (frame.more_stages r) fr) h in
      let y = more_stages f r x.due x.between x.there (final.second (frame.one_command q) fr) h in stage-go {f = f} {c = c} {cs = cs} x y

  more_stages : {e : Draft} (f : ℕ) {d : ℕ} {s s' : Draft} {cs cs' : List Command} {ts rest : List Token} {m : Mode} → MoreStages d s cs ts rest cs' s' → s.due ≡ [] → (i : IsBetween m) → (a : At m ts) → From s s' e → 3 * d + 2 ≤ f →
      MoreStagesGo e f d s cs rest cs' s' ts
  more_stages f {m = m} (g.last_stage {cs = cs}) u i a fr h = record { new = []; is = nil-right cs; clear = refl; due = u; way = m; between = i; there = a; go = λ k us rd en. (us, g.last_stage, rd, en) }
  more_stages {e} f (g.pipe n r) u i a fr h =
      let k = newlines n tt u (tail (inl i) a) in
      let y = stages f r (still-due k.0 u) k.1 (final.second (frame.newlines n) fr) h in record {
        new = y.first ∷ y.others;
        is = y.is;
        clear = y.clear;
        due = y.due;
        way = y.way;
        between = y.between;
        there = y.there;
        go = λ c us rd en.
            let w = y.go c us rd en in
            let b = stages_with (filled e) (P e f) (L e f) (y.first ∷ y.others) c in (token.Operator op.Pipe ∷ w.0, g.pipe (none k.0 w.0) w.1, ready-sign op.Pipe b w.0 tt w.2, tt);
      }

  one_pipeline : {e : Draft} (f : ℕ) {d : ℕ} {s s' : Draft} {ts rest : List Token} → OnePipeline d s ts rest s' → s.due ≡ [] → At mode.Command ts → From s s' e → 3 * d + 2 ≤ f → PipelineGo e f d s rest s'
  one_pipeline {e} f (g.pipeline {s = s} {cs = cs} r) u a fr h =
      let x = stages f r u a (final.in_leaf false cs fr) h in pipeline-go {f = f} {s = s} {cs = cs} (final.leaf_at false cs (frame.stages r) fr) x
  one_pipeline {e} f (g.bang_pipeline {s = s} {cs = cs} r) u a fr h =
      let x = stages f r u (tail (inl tt) a) (final.in_leaf true cs fr) h in bang_pipeline-go {f = f} {s = s} {cs = cs} (final.leaf_at true cs (frame.stages r) fr) x

  list_rest : {e : Draft} (f : ℕ) {d : ℕ} {s s' : Draft} {is js : List AndOr} {a : AndOr} {ts rest : List Token} {m : Mode} → ListRest d s is a ts rest js s' → s.due ≡ [] → IsBetween m → At m ts → From s s' e → 3 * d + 2 ≤ f →
      RestGo e f d s is a ts rest js s'
  list_rest f {m = m} g.list_end u i b fr h = record { more = []; others = []; same = refl; due = u; way = m; between = i; there = b; go = λ k us vs rd en tl. (us, end-by tl, rd, en) }
  list_rest f (g.list_separator {d = d} {s = s} {is = is} {a = a} z) u i b fr h =
      let k = separator z i u b in record {
        more = [];
        others = [];
        same = refl;
        due = still-due k.0 u;
        way = mode.Command;
        between = tt;
        there = k.1;
        go = λ c us vs rd en tl. (us, subst (λ (y : Draft). ListRest d s is a us vs (is ++ a ∷ []) y) (sym k.0) (end-by tl), rd, separator-ends c z);
      }
  list_rest {e} f (g.joins {t = t} {ts = ts} j n p r) u i b fr h =
      let k = newlines n tt u (join-there j i b) in
      let y = one_pipeline f p (still-due k.0 u) k.1 (final.first (frame.list_rest r) (final.second (frame.newlines n) fr)) h in
      let z = list_rest f r y.due y.between y.there (final.second (frame.then (frame.newlines n) (frame.one_pipeline p)) fr) h in joins-go {f = f} {t = t} {ts = ts} j k.0 y z
  list_rest {e} f (g.next_more {t = t} {is = is} {a = a} z p r) u i b fr h =
      let k = separator z i u b in
      let y = one_pipeline f p (still-due k.0 u) k.1 (final.first (frame.list_rest r) (final.second (frame.separator z) fr)) h in
      let x = list_rest f r y.due y.between y.there (final.second (frame.then (frame.separator z) (frame.one_pipeline p)) fr) h in next_more-go {f = f} {t = t} {is = is} {a = a} k.0 (λ c. separator-ends c z) y x

  in_list : {e : Draft} (f : ℕ) {d : ℕ} {s s' : Draft} {is : List AndOr} {ts rest : List Token} → InList d s ts rest is s' → s.due ≡ [] → At mode.Command ts → From s s' e → 3 * d + 2 ≤ f → ListGo e d s rest is s' (items_with (leaf e f) is)
  in_list {e} f (g.list {t = t} n p r) u a fr h =
      let k = newlines n tt u a in
      let y = one_pipeline f p (still-due k.0 u) k.1 (final.first (frame.list_rest r) (final.second (frame.newlines n) fr)) h in
      let x = list_rest f r y.due y.between y.there (final.second (frame.then (frame.newlines n) (frame.one_pipeline p)) fr) h in list-go {f = f} {t = t} k.0 y x

  may_be_list : {e : Draft} (f : ℕ) {d : ℕ} {s s' : Draft} {is : List AndOr} {ts rest : List Token} → MayBeList d s ts rest is s' → s.due ≡ [] → At mode.Command ts → From s s' e → 3 * d + 2 ≤ f →
      MayGo e d s rest is s' (items_with (leaf e f) is)
  may_be_list f (g.empty n) u a fr h =
      let k = newlines n tt u a in record { due = still-due k.0 u; way = mode.Command; between = tt; there = k.1; go = λ c us rd en. (us, g.empty (none k.0 us), rd.any mode.Command tt) }
  may_be_list f (g.some l) u a fr h =
      let x = in_list f l u a fr h in record { due = x.due; way = x.way; between = x.between; there = x.there; go = λ c us rd en. let y = x.go c us us rd en at_once in (y.0, g.some y.1, y.2) }

-- What is written of a script spells it, where plain tokens spell it.
pub plainly : {s : Script} {ts : List Token} (text : List ℕ) → ParsesWithin max_nesting s ts → ArePlain ts → Lexes mode.Command (source text []) ts → Spells s (script_text s)
plainly text (g.script {s = t} {is = is} l u) p x =
    let a : At mode.Command _ = record { text = text; lexed = x; plain = p } in
    let y = numbered {e = end_list 0 is t} deepest 0 refl l (final.whole no_draft (end_list 0 is t)) (omega arith) (λ x' y'. may_be_list (pred deepest) l refl a x' y') in
    let z = y.go [] [] ready-nil refl in
    record { tokens = z.0; lexed = z.2; parsed = g.script z.1 u }
