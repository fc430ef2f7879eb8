-- The tokens of a script without here-documents are those that can be written.
use Rattle.std.proofs.Common.{◌≡◌, ℕ, List, [], ◌∷◌, Option, Some, None, refl, ap, sym, ◌∙◌, subst, inl, inr}
use Rattle.sh_syntax.specs.declared.tree.Part.{Part}
use Rattle.sh_syntax.specs.declared.tree.Word.{Word}
use Rattle.sh_syntax.specs.declared.tree.Redir.{Redir}
use Rattle.sh_syntax.specs.declared.tree.Command.{Command}
use Rattle.sh_syntax.specs.declared.tree.Compound.{Compound}
use Rattle.sh_syntax.specs.declared.tree.AndOr.{AndOr}
use Rattle.sh_syntax.specs.declared.tree.Script.{Script}
use Rattle.sh_lexer.specs.declared.token.Token.{Token}
use Rattle.sh_lexer.specs.declared.token.Token.TheVariants as token
use Rattle.sh_lexer.specs.declared.token.Op.{Op}
use Rattle.sh_lexer.specs.declared.token.Op.TheVariants as op
use Rattle.sh_lexer.specs.declared.token.Bit.{Bit}
use Rattle.sh_lexer.specs.declared.token.Bit.TheVariants as bit
use Rattle.sh_lexer.specs.declared.token.Opener.{Opener}
use Rattle.sh_lexer.specs.declared.token.Opener.TheVariants as opener
use Rattle.sh_lexer.specs.declared.token.End.TheVariants as end
use Rattle.sh_lexer.specs.declared.token.Mode.{Mode}
use Rattle.sh_lexer.specs.declared.token.Mode.TheVariants as mode
use Rattle.sh_lexer.specs.Lex.{Lexed, got, opens, done, bad, lex}
use Rattle.sh_lexer.specs.Lexes.{Lexes, Source, source, found, next, in_source, after_text}
use Rattle.sh_lexer.specs.Modes.{Reads, as_seen, mode_after, inside, after_bit, after_op}
use Rattle.sh_grammar.specs.declared.state.Due.{Due}
use Rattle.sh_grammar.specs.declared.state.Draft.{Draft}
use Rattle.sh_grammar.specs.declared.state.Simple.{Simple}
use Rattle.sh_grammar.specs.Draft.{cut_mode, none_due}
use Rattle.sh_grammar.specs.Grammar as g
use Rattle.sh_grammar.specs.Grammar.{NotEmpty, Parts, Bodies, Newlines, Separator, MaySeparate, OneRedir, Redirs, Elements, ForWords, Patterns, OneArm, Arms, Branches, MoreBranches, OneCompound, OneCommand, Stages, MoreStages, OnePipeline, ListRest, InList, MayBeList, MayOpen, ParsesWithin, loop_op, join_op, mode_before}
use Rattle.sh_spell.specs.Tidy.{IsBetween, IsInWord, IsKnown, IsUsual, IsTidy, HasNoHere}
use Rattle.sh_spell.proofs.Openers.{OpensIn, OpensFrom, Fit, Fits, assigns, fits, lex-fits, lex-fit-inside, inside-is}
use Rattle.sh_spell.proofs.Gaps.{between-inside}

-- ---- places

-- tokens that are read somewhere, without here-documents
record At (m : Mode) (ts : List Token) : Type 0 where
  place : Source
  lexed : Lexes m place ts
  clear : HasNoHere ts

tail : {m : Mode} {t : Token} {ts : List Token} → At m (t ∷ ts) → At (mode_after m t) ts
tail a = let l = a.lexed in record { place = l.1; lexed = l.4; clear = a.clear.1 }

-- From these tokens on those are read, no body is due then, and the ones between can be written.
record Passes (K : Mode → Type 0) (s : Draft) (m : Mode) (ts rest : List Token) : Type 0 where
  due : s.due ≡ []
  mode : Mode
  known : K mode
  there : At mode rest
  back : IsTidy mode rest → IsTidy m ts

stay : {K : Mode → Type 0} {s : Draft} {m : Mode} {ts : List Token} → s.due ≡ [] → K m → At m ts → Passes K s m ts ts
stay {m = m} e k a = record { due = e; mode = m; known = k; there = a; back = λ x. x }

over : {K L : Mode → Type 0} {s t : Draft} {m : Mode} {ts mid rest : List Token} (a : Passes K s m ts mid) → Passes L t a.mode mid rest → Passes L t m ts rest
over a b = record { due = b.due; mode = b.mode; known = b.known; there = b.there; back = λ x. a.back (b.back x) }

one : {K : Mode → Type 0} {s : Draft} {m : Mode} {t : Token} {ts rest : List Token} → IsKnown m → IsUsual m t → Passes K s (mode_after m t) ts rest → Passes K s m (t ∷ ts) rest
one k u b = record { due = b.due; mode = b.mode; known = b.known; there = b.there; back = λ x. (k, u, b.back x) }

-- ---- modes

pub inside-known : (m : Mode) → IsKnown m → IsKnown (inside m)
inside-known m (inl i) = inr (subst IsInWord (sym (between-inside m i)) tt)
inside-known m (inr i) = inr (subst IsInWord (sym (inside-is m i)) i)

pub bit-known : (m : Mode) (b : Bit) → IsKnown m → IsKnown (after_bit m b)
bit-known m (bit.Piece x) k = inside-known m k
bit-known m (bit.Sum x n) k = inr tt
bit-known m (bit.Escaped b) k = inside-known m k
bit-known m (bit.Single x) k = inside-known m k
bit-known m (bit.Value x) k = inside-known m k

found-token : (s t : Token) (p q : Source) → found s p ≡ found t q → s ≡ t
found-token s t p q e = cc

found-source : (s t : Token) (p q : Source) → found s p ≡ found t q → p ≡ q
found-source s t p q e = cc

-- a text's end opens nothing
ended-fit : (m : Mode) (o : List (Option (List ℕ))) (s : Token) (q : Source) → after_text o ≡ found s q → OpensIn m s q.text
ended-fit m [] s q e = absurd cc
ended-fit m (None ∷ o) s q e = absurd cc
ended-fit m (Some r ∷ o) s q e = subst (λ (t : Token). OpensIn m t q.text) (found-token _ s _ q e) tt

got-fit : (m : Mode) (t s : Token) (p q : Source) → OpensIn m t p.text → found t p ≡ found s q → OpensIn m s q.text
got-fit m t s p q f e = subst (λ (x : Source). OpensIn m s x.text) (found-source t s p q e) (subst (λ (k : Token). OpensIn m k p.text) (found-token t s p q e) f)

seen-fit : (m : Mode) (o : List (Option (List ℕ))) (l : Lexed) (s : Token) (q : Source) → Fit m l → in_source o l ≡ found s q → OpensIn m s q.text
seen-fit m o (got t r) s q f e = got-fit m t s (source r o) q f e
seen-fit m o (opens t x r) s q f e = subst (λ (k : Token). OpensIn m k q.text) (sym f ∙ found-token t s _ q e) refl
seen-fit m o done s q f e = ended-fit m o s q e
seen-fit m o (bad x) s q f e = absurd cc

from-inside : (m n : Mode) (t : Token) (r : List ℕ) → inside m ≡ n → OpensIn n t r → OpensFrom m t r
from-inside m n (token.Assign x) r e f = absurd f
from-inside m n (token.Operator o) r e f = tt
from-inside m n (token.Part b) r e f = subst (λ (k : Mode). OpensIn k (token.Part b) r) (sym e) f
from-inside m n (token.Param x l) r e f = subst (λ (k : Mode). OpensIn k (token.Param x l) r) (sym e) f
from-inside m n (token.Open o k) r e f = subst (λ (i : Mode). OpensIn i (token.Open o k) r) (sym e) f
from-inside m n (token.End k i) r e f = tt
from-inside m n (token.Redirect fd o) r e f = f
from-inside m n (token.Here fd x) r e f = tt
from-inside m n (token.Delimiter x q k) r e f = tt
from-inside m n token.Body r e f = tt
from-inside m n (token.Verbatim x k) r e f = tt
from-inside m n (token.Function x) r e f = f

seen-fits : (m : Mode) (o : List (Option (List ℕ))) (l : Lexed) (s : Token) (q : Source) → inside m ≡ mode.Word → Fits m l → in_source o l ≡ found s q → OpensFrom m s q.text
seen-fits m o l s q i (assigns {x} {r} a) e = subst (λ (t : Token). OpensFrom m t q.text) (found-token (token.Assign x) s (source r o) q e) a
seen-fits m o l s q i (fits f) e = from-inside m mode.Word s q.text i (seen-fit mode.Word o l s q f e)

-- What is known of a token that is seen.
pub seen-known : (m : Mode) (p : Source) (s : Token) (q : Source) → IsKnown m → next m p ≡ found s q → OpensFrom m s q.text
seen-known m p s q (inl i) e = seen-fits m p.outer (lex m p.text) s q (between-inside m i) (lex-fits m p.text i) e
seen-known m p s q (inr i) e = from-inside m (inside m) s q.text refl (seen-fit (inside m) p.outer (lex m p.text) s q (lex-fit-inside m p.text i) e)

-- A text that is cut out begins with a backquote.
opened-is : (m : Mode) (t : Token) (x : List ℕ) (r : Option (List ℕ)) → Fits m (opens t x r) → t ≡ token.Open opener.Backquote mode.Word
opened-is m t x r (fits f) = f

pub opens-backquote : (m : Mode) (y : List ℕ) (t : Token) (x : List ℕ) (r : Option (List ℕ)) → IsKnown m → lex m y ≡ opens t x r → (n : Mode) × (t ≡ token.Open opener.Backquote n)
opens-backquote m y t x r (inl i) e = (mode.Word, opened-is m t x r (subst (Fits m) e (lex-fits m y i)))
opens-backquote m y t x r (inr i) e = (inside m, subst (Fit (inside m)) e (lex-fit-inside m y i))

opened-fit : (m : Mode) (o : Opener) (n : Mode) (r : List ℕ) → OpensIn m (token.Open o n) r → n ≡ m
opened-fit m opener.Double n r f = f.0
opened-fit m (opener.Braces x k c q) n r f = f
opened-fit m opener.Command n r f = f
opened-fit m opener.Arith n r f = f
opened-fit m opener.Backquote n r f = f

read-fit : (m : Mode) (s : Token) (o : Opener) (n : Mode) (r : List ℕ) → Reads s (token.Open o n) → OpensFrom m s r → n ≡ inside m
read-fit m s o n r as_seen f = opened-fit (inside m) o n r f

opener-known : {m n : Mode} {o : Opener} {ts : List Token} → IsKnown m → At m (token.Open o n ∷ ts) → IsKnown n
opener-known {m} {n} {o} k a = let l = a.lexed in
    let e = read-fit m l.0 o n l.1.text l.3 (seen-known m a.place l.0 l.1 k l.2) in
    subst IsKnown (sym e) (inside-known m k)

pub op-between : (o : Op) → IsBetween (after_op o)
op-between op.Case = tt
op-between op.For = tt
op-between op.In = tt
op-between op.PipePattern = tt
op-between op.DoubleSemi = tt
op-between op.CaseIn = tt
op-between op.OpenPattern = tt
op-between o = tt

pub before-between : (ws : List Word) → IsBetween (mode_before ws)
before-between [] = tt
before-between (w ∷ ws) = tt

-- ---- bodies

no_bodies : {m : Mode} {hs : List Due} {d : ℕ} {s t : Draft} {ts rest : List Token} → Bodies m hs d s ts rest t → hs ≡ [] → (ts ≡ rest) × (t.due ≡ s.due)
no_bodies g.no_body e = (refl, refl)
no_bodies (g.quoted_body b) e = absurd cc
no_bodies (g.expanded_body p b) e = absurd cc

-- what comes behind a newline
behind : {m : Mode} {s t : Draft} {ts mid : List Token} {d : ℕ} → s.due ≡ [] → Bodies m s.due d (none_due s) ts mid t → At (cut_mode m s.due) ts →
    (At m mid × (t.due ≡ [])) × (IsTidy m mid → IsTidy (cut_mode m s.due) ts)
behind {m} {s} {t} {ts} {mid} e b a =
    let k = no_bodies b e in let f : cut_mode m s.due ≡ m = ap (cut_mode m) e in
    ((subst (At m) k.0 (subst (λ (x : Mode). At x ts) f a), k.1), λ x. subst (λ (y : Mode). IsTidy y ts) (sym f) (subst (IsTidy m) (sym k.0) x))

-- with another draft that has the same bodies due
hold : {K : Mode → Type 0} {s t : Draft} {m : Mode} {ts rest : List Token} → t.due ≡ s.due → Passes K s m ts rest → Passes K t m ts rest
hold f a = record { due = f ∙ a.due; mode = a.mode; known = a.known; there = a.there; back = a.back }

-- a newline, and what follows it
line : {n m : Mode} {s t s' : Draft} {ts mid rest : List Token} {d : ℕ} → IsBetween n → IsBetween m → s.due ≡ [] → Bodies n s.due d (none_due s) ts mid t →
    At m (token.End end.Newline (cut_mode n s.due) ∷ ts) → (t.due ≡ [] → At n mid → Passes IsBetween s' n mid rest) → Passes IsBetween s' m (token.End end.Newline (cut_mode n s.due) ∷ ts) rest
line {n} j i e b a f =
    let k = behind e b (tail a) in let p = f k.0.1 k.0.0 in record {
      due = p.due;
      mode = p.mode;
      known = p.known;
      there = p.there;
      back = λ x. (inl i, subst IsBetween (sym (ap (cut_mode n) e)) j, k.1 (p.back x));
    }

opened : {m : Mode} {s : Draft} {ts mid : List Token} → MayOpen ts mid → s.due ≡ [] → IsBetween m → At m ts → Passes IsBetween s m ts mid
opened g.not_opened e i a = stay e i a
opened g.pattern_opened e i a = one (inl i) tt (stay e tt (tail a))

-- a token that nothing follows here
last : {K : Mode → Type 0} {s : Draft} {m : Mode} {t : Token} {ts : List Token} → IsKnown m → IsUsual m t → s.due ≡ [] → K (mode_after m t) → At m (t ∷ ts) → Passes K s m (t ∷ ts) ts
last k u e h a = one k u (stay e h (tail a))

mutual
  parts : {d : ℕ} {s t : Draft} {ps qs : List Part} {ts rest : List Token} {m : Mode} → Parts d s ps ts rest qs t → s.due ≡ [] → IsKnown m → At m ts → Passes IsKnown t m ts rest
  parts g.parts_end e k a = stay e k a
  parts {m = m} (g.one_bit {b} r) e k a = one k tt (parts r e (bit-known m b k) (tail a))
  parts {m = m} (g.param r) e k a = one k tt (parts r e (inside-known m k) (tail a))
  parts (g.double q r) e k a =
      let n = opener-known k a in let x = parts q e (inr tt) (tail a) in
      one k tt (over x (one x.known tt (parts r x.due n (tail x.there))))
  parts (g.braces q r) e k a =
      let n = opener-known k a in let x = parts q e (inr tt) (tail a) in
      one k tt (over x (one x.known tt (parts r x.due n (tail x.there))))
  parts (g.arith q r) e k a =
      let n = opener-known k a in let x = parts q e (inr tt) (tail a) in
      one k tt (over x (one x.known tt (parts r x.due n (tail x.there))))
  parts (g.substitution l r) e k a =
      let n = opener-known k a in let x = may_be_list l e tt (tail a) in
      one k tt (over x (one (inl x.known) x.known (parts r x.due n (tail x.there))))
  parts (g.backquotes l r) e k a =
      let n = opener-known k a in let x = may_be_list l e tt (tail a) in
      one k tt (over x (one (inl x.known) x.known (parts r x.due n (tail x.there))))

  newlines : {n m : Mode} {d : ℕ} {s t : Draft} {ts rest : List Token} → Newlines n d s ts rest t → IsBetween n → s.due ≡ [] → IsBetween m → At m ts → Passes IsBetween t m ts rest
  newlines g.no_newline j e i a = stay e i a
  newlines (g.one_newline b r) j e i a = line j i e b a (λ f h. newlines r j f j h)

  separator : {m : Mode} {d : ℕ} {s t : Draft} {ts rest : List Token} → Separator d s ts rest t → s.due ≡ [] → IsBetween m → At m ts → Passes IsBetween t m ts rest
  separator (g.semi n) e i a = one (inl i) tt (newlines n tt e tt (tail a))
  separator (g.newline b n) e i a = line tt i e b a (λ f h. newlines n tt f tt h)

  may_separate : {m : Mode} {d : ℕ} {s t : Draft} {ts rest : List Token} → MaySeparate d s ts rest t → s.due ≡ [] → IsBetween m → At m ts → Passes IsBetween t m ts rest
  may_separate g.not_separated e i a = stay e i a
  may_separate (g.separated x) e i a = separator x e i a

  one_redir : {n m : Mode} {d : ℕ} {s t : Draft} {r : Redir} {ts rest : List Token} → OneRedir n d s ts rest r t → IsBetween n → s.due ≡ [] → IsBetween m → At m ts → Passes IsBetween t m ts rest
  one_redir (g.file p h) j e i a = let x = parts p e (inl tt) (tail a) in one (inl i) tt (over x (last x.known j x.due j x.there))
  one_redir g.here j e i a = absurd a.clear.0

  redirs : {m : Mode} {d : ℕ} {s t : Draft} {rs qs : List Redir} {ts rest : List Token} → Redirs d s rs ts rest qs t → s.due ≡ [] → IsBetween m → At m ts → Passes IsBetween t m ts rest
  redirs g.no_redir e i a = stay e i a
  redirs (g.one_redir o r) e i a = let x = one_redir o tt e i a in over x (redirs r x.due x.known x.there)

  elements : {m : Mode} {d : ℕ} {s t : Draft} {c c' : Simple} {ts rest : List Token} → Elements d s c ts rest c' t → s.due ≡ [] → IsBetween m → At m ts → Passes IsBetween t m ts rest
  elements g.no_element e i a = stay e i a
  elements (g.assign p r) e i a = let x = parts p e (inr tt) (tail a) in one (inl i) tt (over x (one x.known tt (elements r x.due tt (tail x.there))))
  elements (g.argument p h r) e i a = let x = parts p e (inl i) a in over x (one x.known tt (elements r x.due tt (tail x.there)))
  elements (g.redirection {c} o r) e i a = let x = one_redir o (before-between c.words) e i a in over x (elements r x.due x.known x.there)

  for_words : {m : Mode} {d : ℕ} {s t : Draft} {ws vs : List Word} {ts rest : List Token} → ForWords d s ws ts rest vs t → s.due ≡ [] → IsBetween m → At m ts → Passes IsBetween t m ts rest
  for_words g.no_word e i a = stay e i a
  for_words (g.one_word p h r) e i a = let x = parts p e (inl i) a in over x (one x.known tt (for_words r x.due tt (tail x.there)))

  patterns : {m : Mode} {d : ℕ} {s t : Draft} {ws vs : List Word} {ts rest : List Token} → Patterns d s ws ts rest vs t → s.due ≡ [] → IsBetween m → At m ts → Passes IsBetween t m ts rest
  patterns (g.last_pattern p h) e i a = let x = parts p e (inl i) a in over x (last x.known tt x.due tt x.there)
  patterns (g.more_patterns p h r) e i a =
      let x = parts p e (inl i) a in over x (one x.known tt (one (inl tt) tt (patterns r x.due tt (tail (tail x.there)))))

  one_arm : {m : Mode} {d : ℕ} {s t : Draft} {ws : List Word} {n : ℕ} {ts rest : List Token} → OneArm d s ts rest ws n t → s.due ≡ [] → IsBetween m → At m ts → Passes IsBetween t m ts rest
  one_arm {s = s} (g.one_arm o p l) e i a =
      let x : Passes IsBetween s _ _ _ = opened o e i a in let y = patterns p x.due x.known x.there in
      over x (over y (one (inl y.known) tt (hold refl (may_be_list l y.due tt (tail y.there)))))

  arms : {m : Mode} {d : ℕ} {s t : Draft} {xs ys : List (List Word × ℕ)} {ts rest : List Token} → Arms d s xs ts rest ys t → s.due ≡ [] → IsBetween m → At m ts → Passes IsBetween t m ts rest
  arms (g.no_arm n) e i a = let x = newlines n tt e i a in over x (last (inl x.known) tt x.due tt x.there)
  arms (g.last_arm n o) e i a = let x = newlines n tt e i a in let y = one_arm o x.due x.known x.there in over x (over y (last (inl y.known) tt y.due tt y.there))
  arms (g.more_arms n o r) e i a =
      let x = newlines n tt e i a in let y = one_arm o x.due x.known x.there in
      over x (over y (one (inl y.known) tt (arms r y.due tt (tail y.there))))

  branches : {m : Mode} {d : ℕ} {s t : Draft} {bs cs : List (ℕ × ℕ)} {o : Option ℕ} {ts rest : List Token} → Branches d s bs ts rest cs o t → s.due ≡ [] → IsBetween m → At m ts →
      Passes IsBetween t m ts rest
  branches (g.branch l k r) e i a =
      let x = in_list l e i a in let y = in_list k x.due tt (tail x.there) in
      over x (one (inl x.known) tt (over y (more_branches r y.due y.known y.there)))

  more_branches : {m : Mode} {d : ℕ} {s t : Draft} {bs cs : List (ℕ × ℕ)} {o : Option ℕ} {ts rest : List Token} → MoreBranches d s bs ts rest cs o t → s.due ≡ [] → IsBetween m → At m ts →
      Passes IsBetween t m ts rest
  more_branches g.fi e i a = last (inl i) tt e tt a
  more_branches (g.elif b) e i a = one (inl i) tt (branches b e tt (tail a))
  more_branches (g.otherwise l) e i a = let x = in_list l e tt (tail a) in one (inl i) tt (over x (last (inl x.known) tt x.due tt x.there))

  one_compound : {m : Mode} {d : ℕ} {s t : Draft} {c : Compound} {ts rest : List Token} → OneCompound d s ts rest c t → s.due ≡ [] → IsBetween m → At m ts → Passes IsBetween t m ts rest
  one_compound (g.group l) e i a = let x = in_list l e tt (tail a) in one (inl i) tt (over x (last (inl x.known) tt x.due tt x.there))
  one_compound (g.subshell l) e i a = let x = in_list l e tt (tail a) in one (inl i) tt (over x (last (inl x.known) tt x.due tt x.there))
  one_compound (g.if_command b) e i a = one (inl i) tt (branches b e tt (tail a))
  one_compound (g.loop {until} l k) e i a =
      let x = in_list l e (op-between (loop_op until)) (tail a) in let y = in_list k x.due tt (tail x.there) in
      one (inl i) tt (over x (one (inl x.known) tt (over y (last (inl y.known) tt y.due tt y.there))))
  one_compound (g.for_words h n w z l) e i a =
      let x = newlines n tt e tt (tail (tail (tail a))) in let y = for_words w x.due tt (tail x.there) in
      let v = separator z y.due y.known y.there in let u = in_list l v.due tt (tail v.there) in
      one (inl i) tt (one (inl tt) tt (one (inr tt) tt (over x (one (inl x.known) tt (over y (over v (one (inl v.known) tt (over u (last (inl u.known) tt u.due tt u.there)))))))))
  one_compound (g.for_parameters h z l) e i a =
      let v = may_separate z e tt (tail (tail (tail a))) in let u = in_list l v.due tt (tail v.there) in
      one (inl i) tt (one (inl tt) tt (one (inr tt) tt (over v (one (inl v.known) tt (over u (last (inl u.known) tt u.due tt u.there))))))
  one_compound (g.case_command p h n r) e i a =
      let x = parts p e (inl tt) (tail a) in let y = newlines n tt x.due tt (tail x.there) in
      one (inl i) tt (over x (one x.known tt (over y (one (inl y.known) tt (arms r y.due tt (tail y.there))))))

  one_command : {m : Mode} {d : ℕ} {s t : Draft} {c : Command} {ts rest : List Token} → OneCommand d s ts rest c t → s.due ≡ [] → IsBetween m → At m ts → Passes IsBetween t m ts rest
  one_command (g.simple_command x h) e i a = elements x e i a
  one_command (g.compound_command c r) e i a = let x = one_compound c e i a in over x (redirs r x.due x.known x.there)
  one_command (g.function n c r) e i a =
      let x = newlines n tt e tt (tail (tail (tail a))) in let y = one_compound c x.due x.known x.there in
      one (inl i) tt (one (inl tt) tt (one (inl tt) tt (over x (over y (hold refl (redirs r y.due y.known y.there))))))

  stages : {m : Mode} {d : ℕ} {s t : Draft} {cs cs' : List Command} {ts rest : List Token} → Stages d s cs ts rest cs' t → s.due ≡ [] → IsBetween m → At m ts → Passes IsBetween t m ts rest
  stages (g.one_stage c r) e i a = let x = one_command c e i a in over x (more_stages r x.due x.known x.there)

  more_stages : {m : Mode} {d : ℕ} {s t : Draft} {cs cs' : List Command} {ts rest : List Token} → MoreStages d s cs ts rest cs' t → s.due ≡ [] → IsBetween m → At m ts → Passes IsBetween t m ts rest
  more_stages g.last_stage e i a = stay e i a
  more_stages (g.pipe n r) e i a = let x = newlines n tt e tt (tail a) in one (inl i) tt (over x (stages r x.due x.known x.there))

  one_pipeline : {m : Mode} {d : ℕ} {s t : Draft} {ts rest : List Token} → OnePipeline d s ts rest t → s.due ≡ [] → IsBetween m → At m ts → Passes IsBetween t m ts rest
  one_pipeline (g.pipeline r) e i a = hold refl (stages r e i a)
  one_pipeline (g.bang_pipeline r) e i a = one (inl i) tt (hold refl (stages r e tt (tail a)))

  list_rest : {m : Mode} {d : ℕ} {s t : Draft} {is js : List AndOr} {x : AndOr} {ts rest : List Token} → ListRest d s is x ts rest js t → s.due ≡ [] → IsBetween m → At m ts → Passes IsBetween t m ts rest
  list_rest g.list_end e i a = stay e i a
  list_rest (g.list_separator z) e i a = separator z e i a
  list_rest (g.joins j n p r) e i a =
      let x = newlines n tt e (op-between (join_op j)) (tail a) in let y = one_pipeline p x.due x.known x.there in
      one (inl i) tt (over x (over y (list_rest r y.due y.known y.there)))
  list_rest (g.next_more z p r) e i a = let x = separator z e i a in let y = one_pipeline p x.due x.known x.there in over x (over y (list_rest r y.due y.known y.there))

  in_list : {m : Mode} {d : ℕ} {s t : Draft} {is : List AndOr} {ts rest : List Token} → InList d s ts rest is t → s.due ≡ [] → IsBetween m → At m ts → Passes IsBetween t m ts rest
  in_list (g.list n p r) e i a = let x = newlines n tt e i a in let y = one_pipeline p x.due x.known x.there in over x (over y (list_rest r y.due y.known y.there))

  may_be_list : {m : Mode} {d : ℕ} {s t : Draft} {is : List AndOr} {ts rest : List Token} → MayBeList d s ts rest is t → s.due ≡ [] → IsBetween m → At m ts → Passes IsBetween t m ts rest
  may_be_list (g.empty n) e i a = newlines n tt e i a
  may_be_list (g.some l) e i a = in_list l e i a

-- The tokens of a script without here-documents can be written.
pub tidy : {d : ℕ} {s : Script} {ts : List Token} (text : List ℕ) → ParsesWithin d s ts → HasNoHere ts → Lexes mode.Command (source text []) ts → IsTidy mode.Command ts
tidy text (g.script l e) h r = let x = may_be_list l refl tt (record { place = source text []; lexed = r; clear = h }) in x.back x.known
