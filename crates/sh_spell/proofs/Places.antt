-- Where tokens are read that are written plainly, and what goes on behind them.
use Rattle.std.proofs.Common.{◌≡◌, ℕ, ◌+◌, Bool, true, false, ◌==◌, List, [], ◌∷◌, ◌++◌, None, refl, ap, sym, ◌∙◌, subst, ◌⊎◌, inl, inr}
use Rattle.std.proofs.lemmas.Bool.{eqb-true}
use Rattle.sh_syntax.specs.declared.tree.RedirOp.{RedirOp}
use Rattle.sh_lexer.specs.declared.token.Token.{Token}
use Rattle.sh_lexer.specs.declared.token.Token.TheVariants as token
use Rattle.sh_lexer.specs.declared.token.Op.{Op}
use Rattle.sh_lexer.specs.declared.token.Op.TheVariants as op
use Rattle.sh_lexer.specs.declared.token.Bit.TheVariants as bit
use Rattle.sh_lexer.specs.declared.token.Opener.TheVariants as opener
use Rattle.sh_lexer.specs.declared.token.End.{End}
use Rattle.sh_lexer.specs.declared.token.End.TheVariants as end
use Rattle.sh_lexer.specs.declared.token.Mode.{Mode}
use Rattle.sh_lexer.specs.declared.token.Mode.TheVariants as mode
use Rattle.sh_lexer.specs.Bytes.{skip, peel, piece, special}
use Rattle.sh_lexer.specs.Modes.{Reads, as_seen, ends, ends_list, delimits as delimited_by, is_body, opens_pattern, parts_patterns, in_of_case, mode_after, inside}
use Rattle.sh_lexer.specs.Lex as spec
use Rattle.sh_lexer.specs.Lex.{Lexed, got, opens, done, bad, lex, sum, opens_parenthesis}
use Rattle.sh_lexer.specs.Lexes.{Lexes, Source, source, found, ended, next, in_source}
use Rattle.sh_spell.specs.Layout.{before, op_text}
use Rattle.sh_spell.specs.Plain.{IsPlain, ArePlain}
use Rattle.sh_spell.specs.Tidy.{IsBetween, IsInWord, IsKnown, IsUsual}
use Rattle.sh_spell.proofs.Runs.{apart, Firm, peel-firm}
use Rattle.sh_spell.proofs.Heads.{Heads, AfterEnd, IsClean, head, first, word_head, ends_sum}
use Rattle.sh_spell.proofs.Starts.{skip-fixed}
use Rattle.sh_spell.proofs.Gaps.{between-inside}
use Rattle.sh_spell.proofs.Steps.{lex-between, inner}
use Rattle.sh_spell.proofs.Openers.{OpensFrom, inside-is}
use Rattle.sh_spell.proofs.Whole.{SameIf, IsLone, nil-done, done-opens-at, lex-at, lex-inner-at, heads-opens}
use Rattle.sh_spell.proofs.Respelled.{step}
use Rattle.sh_spell.proofs.Grammatical.{seen-known, inside-known, opens-backquote}
use Rattle.sh_spell.proofs.Signs.{IsSign, sign, pattern_bar, list_end}
use Rattle.sh_spell.proofs.Elsewhere.{anywhere}

-- Tokens that are read in the mode from the text, which is not cut out of another one.
pub record At (m : Mode) (ts : List Token) : Type 0 where
  pub text : List ℕ
  pub lexed : Lexes m (source text []) ts
  pub plain : ArePlain ts

-- no `(`
abbrev pub NotOpen : Token → Type 0
NotOpen (token.Operator op.Open) = ⊥
NotOpen (token.Operator op.OpenPattern) = ⊥
NotOpen k = Unit {0}

abbrev pub StopsAt : List Token → Type 0
StopsAt [] = Unit {0}
StopsAt (k ∷ ts) = NotOpen k

-- the same texts, as sources
abbrev pub GoesIf : Bool → Mode → List ℕ → List ℕ → List Token → Type 0
GoesIf tight m t c ts = SameIf tight m (source t []) (source c []) ts

abbrev pub Goes : Mode → List ℕ → List ℕ → List Token → Type 0
Goes m t c ts = GoesIf true m t c ts

-- Where the word is no redirection's, the second text ends where the first one ends.
pub loose : {tight : Bool} {m : Mode} {t c : List ℕ} {us : List Token} → Goes m t c us → GoesIf tight m t c us
loose g = record { lexed = g.lexed; heads = g.heads; outers = g.outers; last = λ j. g.last refl }

-- ---- one token further

found-source : (s t : Token) (p q : Source) → found s p ≡ found t q → p ≡ q
found-source s t p q e = cc

found-token : (s t : Token) (p q : Source) → found s p ≡ found t q → s ≡ t
found-token s t p q e = cc

plain-backquote : (n : Mode) (k : Token) → Reads (token.Open opener.Backquote n) k → IsPlain k → ⊥
plain-backquote n k as_seen p = p

in-text : (m : Mode) (y : List ℕ) (l : Lexed) (s k : Token) (q : Source) → IsKnown m → lex m y ≡ l → in_source [] l ≡ found s q → Reads s k → IsPlain k → q ≡ source q.text []
in-text m y (got t r) s k q i h e r' p = subst (λ (x : Source). x ≡ source x.text []) (found-source t s (source r []) q e) refl
in-text m y (opens t x r) s k q i h e r' p =
    let b = opens-backquote m y t x r i h in absurd (plain-backquote b.0 k (subst (λ (z : Token). Reads z k) (sym (found-token t s _ q e) ∙ b.1) r') p)
in-text m y done s k q i h e r' p = absurd cc
in-text m y (bad x) s k q i h e r' p = absurd cc

pub after-source : {m : Mode} {k : Token} {ts : List Token} → IsKnown m → (a : At m (k ∷ ts)) → a.lexed.1 ≡ source a.lexed.1.text []
after-source {m} {k} i a = in-text m a.text (lex m a.text) a.lexed.0 k a.lexed.1 i refl a.lexed.2 a.lexed.3 a.plain.0

abbrev pub tail : {m : Mode} {k : Token} {ts : List Token} → IsKnown m → At m (k ∷ ts) → At (mode_after m k) ts
tail {m} {k} {ts} i a = record {
  text = a.lexed.1.text;
  lexed = subst (λ (q : Source). Lexes (mode_after m k) q ts) (after-source i a) a.lexed.4;
  plain = a.plain.1;
}

-- what is known of the token
seen-read : (m : Mode) (s k : Token) (r : List ℕ) → Reads s k → OpensFrom m s r → OpensFrom m k r
seen-read m s k r as_seen f = f
seen-read m s k r ends f = tt
seen-read m s k r ends_list f = tt
seen-read m s k r delimited_by f = tt
seen-read m s k r is_body f = tt
seen-read m s k r opens_pattern f = tt
seen-read m s k r parts_patterns f = tt
seen-read m s k r in_of_case f = tt

pub seen-is : {m : Mode} {k : Token} {ts : List Token} → IsKnown m → (a : At m (k ∷ ts)) → OpensFrom m k a.lexed.1.text
seen-is {m} {k} i a = let l = a.lexed in seen-read m l.0 k l.1.text l.3 (seen-known m (source a.text []) l.0 l.1 i l.2)

-- The token is written before what goes on as the text behind it does.
pub put-if : {tight : Bool} {m : Mode} {k : Token} {ts : List Token} (i : IsKnown m) (a : At m (k ∷ ts)) → IsUsual m k → (c : List ℕ) (us : List Token) → GoesIf tight (mode_after m k) (tail i a).text c us →
    (IsLone k → (tail i a).text ≡ [] → tight ≡ true) → SameIf tight m (source a.text []) (before k (source c [])) (k ∷ us)
put-if {tight} {m} {k} i a u c us g w =
    step m (source a.text []) a.lexed.0 a.lexed.1 k (source c []) us i u a.lexed.2 a.lexed.3
    (subst (λ (q : Source). SameIf tight (mode_after m k) q (source c []) us) (sym (after-source i a)) g) w

pub put : {m : Mode} {k : Token} {ts : List Token} (i : IsKnown m) (a : At m (k ∷ ts)) → IsUsual m k → (c : List ℕ) (us : List Token) → Goes (mode_after m k) (tail i a).text c us →
    SameIf true m (source a.text []) (before k (source c [])) (k ∷ us)
put i a u c us g = put-if i a u c us g (λ e n. refl)

-- ---- what comes first behind a token

not_open-reads : (k : Token) → Reads (token.Operator op.Open) k → NotOpen k → ⊥
not_open-reads k as_seen n = n
not_open-reads k opens_pattern n = n

open-between : (m : Mode) (r : List ℕ) → spec.between m (40 ∷ r) ≡ got (token.Operator op.Open) r
unfolding spec.between
open-between m r = refl

closed-at : (m : Mode) (b : ℕ) (r : List ℕ) (v : Bool) (s k : Token) (q : Source) → (b == 40) ≡ v → in_source [] (spec.between m (b ∷ r)) ≡ found s q → Reads s k → NotOpen k → v ≡ false
closed-at m b r true s k q e h r' n =
    let f : found (token.Operator op.Open) (source r []) ≡ found s q = sym (ap (in_source []) (ap (λ d. spec.between m (d ∷ r)) (eqb-true b 40 e) ∙ open-between m r)) ∙ h in
    absurd (not_open-reads k (subst (λ (z : Token). Reads z k) (sym (found-token _ s _ q f)) r') n)
closed-at m b r false s k q e h r' n = refl

closed-skipped : (m : Mode) (x : List ℕ) (s k : Token) (q : Source) → in_source [] (spec.between m x) ≡ found s q → Reads s k → NotOpen k → opens_parenthesis x ≡ false
closed-skipped m [] s k q h r n = refl
closed-skipped m (b ∷ x) s k q h r n = closed-at m b x (b == 40) s k q refl h r n

ended-closed : (m : Mode) (t : List ℕ) (l : Lexed) → IsBetween m → lex m t ≡ l → in_source [] l ≡ ended → opens_parenthesis (skip t) ≡ false
ended-closed m t (got s r) i e f = absurd cc
ended-closed m t (opens s x r) i e f = absurd cc
ended-closed m t done i e f = done-opens-at m (skip t) (sym (lex-between m t i) ∙ e)
ended-closed m t (bad x) i e f = absurd cc

-- no `(` comes first
pub closed : {m : Mode} (ts : List Token) → IsBetween m → (a : At m ts) → StopsAt ts → opens_parenthesis (skip a.text) ≡ false
closed {m} [] i a n = ended-closed m a.text (lex m a.text) i refl a.lexed
closed {m} (k ∷ ts) i a n = let l = a.lexed in closed-skipped m (skip a.text) l.0 k l.1 (sym (ap (in_source []) (lex-between m a.text i)) ∙ l.2) l.3 n

pub nothing-found : (m : Mode) (t : List ℕ) (s : Token) (q : Source) → IsBetween m → t ≡ [] → next m (source t []) ≡ found s q → ⊥
nothing-found m t s q i e h =
    let f : ended ≡ found s q = sym (ap (λ (x : List ℕ). in_source [] (lex m x)) e ∙ ap (in_source []) (nil-done m i)) ∙ h in cc

after_end : (m : Mode) (c : List ℕ) → IsBetween m → AfterEnd m c
after_end m [] i = tt
after_end mode.Command (d ∷ c) i = λ w. absurd w
after_end mode.Prefix (d ∷ c) i = λ w. absurd w
after_end mode.Arguments (d ∷ c) i = λ w. absurd w
after_end mode.Pattern (d ∷ c) i = λ w. absurd w
after_end m (d ∷ c) i = absurd i

pub heads-closed : (m : Mode) (t c : List ℕ) → IsBetween m → opens_parenthesis (skip t) ≡ opens_parenthesis (skip c) → Firm c → Heads m t c
heads-closed mode.Command t c i e f = record { same = ap (λ x. (None, x)) e; firm = f; clean = tt; empty = λ x. after_end mode.Command c tt; inside = tt }
heads-closed mode.Prefix t c i e f = record { same = ap (λ x. (None, x)) e; firm = f; clean = tt; empty = λ x. after_end mode.Prefix c tt; inside = tt }
heads-closed mode.Arguments t c i e f = record { same = ap (λ x. (None, x)) e; firm = f; clean = tt; empty = λ x. after_end mode.Arguments c tt; inside = tt }
heads-closed mode.Pattern t c i e f = record { same = ap (λ x. (None, x)) e; firm = f; clean = tt; empty = λ x. after_end mode.Pattern c tt; inside = tt }
heads-closed m t c i e f = absurd i

-- ---- what may come behind a command

-- Tokens that are read wherever a word may begin, and no `(` comes first.
pub record Ready (c : List ℕ) (us : List Token) : Type 0 where
  pub any : (m : Mode) → IsBetween m → Lexes m (source c []) us
  pub shut : opens_parenthesis (skip c) ≡ false
  pub firm : Firm c

pub ready-nil : Ready [] []
unfolding skip
ready-nil = record { any = λ m i. ap (in_source []) (nil-done m i); shut = refl; firm = tt }

-- a sign that is no `(`
abbrev IsShut : Op → Type 0
IsShut op.Open = ⊥
IsShut o = IsSign o

sign-shut : (o : Op) (c : List ℕ) → IsShut o → (opens_parenthesis (skip (op_text o ++ 32 ∷ c)) ≡ false) × Firm (op_text o ++ 32 ∷ c)
sign-shut op.AndIf c s = (ap opens_parenthesis (skip-fixed (38 ∷ 38 ∷ 32 ∷ c) (refl, refl, apart 38 (38 ∷ 32 ∷ c) refl)), apart 38 (38 ∷ 32 ∷ c) refl)
sign-shut op.OrIf c s = (ap opens_parenthesis (skip-fixed (124 ∷ 124 ∷ 32 ∷ c) (refl, refl, apart 124 (124 ∷ 32 ∷ c) refl)), apart 124 (124 ∷ 32 ∷ c) refl)
sign-shut op.Semi c s = (ap opens_parenthesis (skip-fixed (59 ∷ 32 ∷ c) (refl, refl, apart 59 (32 ∷ c) refl)), apart 59 (32 ∷ c) refl)
sign-shut op.DoubleSemi c s = (ap opens_parenthesis (skip-fixed (59 ∷ 59 ∷ 32 ∷ c) (refl, refl, apart 59 (59 ∷ 32 ∷ c) refl)), apart 59 (59 ∷ 32 ∷ c) refl)
sign-shut op.Pipe c s = (ap opens_parenthesis (skip-fixed (124 ∷ 32 ∷ c) (refl, refl, apart 124 (32 ∷ c) refl)), apart 124 (32 ∷ c) refl)
sign-shut op.Close c s = (ap opens_parenthesis (skip-fixed (41 ∷ 32 ∷ c) (refl, refl, apart 41 (32 ∷ c) refl)), apart 41 (32 ∷ c) refl)
sign-shut o c s = absurd s

shut-sign : (o : Op) → IsShut o → IsSign o
shut-sign op.Open s = absurd s
shut-sign op.AndIf s = s
shut-sign op.OrIf s = s
shut-sign op.Semi s = s
shut-sign op.DoubleSemi s = s
shut-sign op.Pipe s = s
shut-sign op.Close s = s
shut-sign o s = absurd s

pub ready-sign : (o : Op) (c : List ℕ) (us : List Token) → IsShut o → Lexes (mode_after mode.Command (token.Operator o)) (source c []) us → Ready (op_text o ++ 32 ∷ c) (token.Operator o ∷ us)
ready-sign o c us s h = let k = sign-shut o c s in record { any = λ m i. sign m o c us i (shut-sign o s) h; shut = k.0; firm = k.1 }

pub ready-bar : (c : List ℕ) (us : List Token) → Lexes mode.Arguments (source c []) us → Ready (op_text op.PipePattern ++ 32 ∷ c) (token.Operator op.PipePattern ∷ us)
ready-bar c us h = let k = sign-shut op.Pipe c tt in record { any = λ m i. pattern_bar m c us i h; shut = k.0; firm = k.1 }

pub ready-list : (n : Mode) (c : List ℕ) (us : List Token) → Lexes n (source c []) us → Ready (41 ∷ c) (token.End end.List n ∷ us)
ready-list n c us h = record {
  any = λ m i. list_end m n c us i h;
  shut = ap opens_parenthesis (skip-fixed (41 ∷ c) (refl, refl, apart 41 c refl));
  firm = apart 41 c refl;
}

-- Where nothing comes behind, nothing is written behind; else no `(` comes first behind.
abbrev pub Ends : List Token → List ℕ → Type 0
Ends [] c = c ≡ []
Ends (k ∷ ts) c = NotOpen k

pub ends-stops : (ts : List Token) (c : List ℕ) → Ends ts c → StopsAt ts
ends-stops [] c e = tt
ends-stops (k ∷ ts) c e = e

ends-last : {m : Mode} (ts : List Token) (c : List ℕ) → IsBetween m → (a : At m ts) → Ends ts c → a.text ≡ [] → c ≡ []
ends-last [] c i a e x = e
ends-last {m} (k ∷ ts) c i a e x = absurd (nothing-found m a.text a.lexed.0 a.lexed.1 i x a.lexed.2)

pub goes-on : {m : Mode} {ts : List Token} (c : List ℕ) (us : List Token) → IsBetween m → (a : At m ts) → Ends ts c → Lexes m (source c []) us → opens_parenthesis (skip c) ≡ false → Firm c → Goes m a.text c us
goes-on {m} {ts} c us i a e h s f = record {
  lexed = h;
  heads = heads-closed m a.text c i (closed ts i a (ends-stops ts c e) ∙ sym s) f;
  outers = tt;
  last = λ j. ends-last ts c i a e;
}

pub meets : {m : Mode} {ts : List Token} (c : List ℕ) (us : List Token) → IsBetween m → (a : At m ts) → Ends ts c → Ready c us → Goes m a.text c us
meets {m} c us i a e r = goes-on c us i a e (r.any m i) r.shut r.firm

-- ---- behind a word, where tokens follow

re-end : (s : Token) (e : End) (m n : Mode) → Reads s (token.End e m) → Reads s (token.End e n)
re-end s e m n as_seen = ends
re-end s e m n ends = ends
re-end s e m n ends_list = ends_list

-- The end of a word, behind which is read otherwise.
pub put-end : {tight : Bool} {m k : Mode} {ts : List Token} (i : IsKnown m) (a : At m (token.End end.Word k ∷ ts)) (n : Mode) → IsBetween n → (c : List ℕ) (us : List Token) → GoesIf tight n (tail i a).text c us →
    SameIf tight m (source a.text []) (before (token.End end.Word n) (source c [])) (token.End end.Word n ∷ us)
put-end {tight} {m} {k} i a n j c us g =
    step m (source a.text []) a.lexed.0 a.lexed.1 (token.End end.Word n) (source c []) us i j a.lexed.2 (re-end a.lexed.0 end.Word k n a.lexed.3)
    (subst (λ (q : Source). SameIf tight n q (source c []) us) (sym (after-source i a)) g) (λ l e. absurd l)

text-follows : {m : Mode} {k : Token} {ts : List Token} → IsBetween m → (a : At m (k ∷ ts)) → a.text ≡ [] → ⊥
text-follows {m} i a e = nothing-found m a.text a.lexed.0 a.lexed.1 i e a.lexed.2

-- Where tokens are, the text goes on.
pub tightly : {tight : Bool} {m n : Mode} {k : Token} {c : List ℕ} {ts us : List Token} → IsBetween m → (a : At m (k ∷ ts)) → GoesIf tight n a.text c us → Goes n a.text c us
tightly i a g = record { lexed = g.lexed; heads = g.heads; outers = g.outers; last = λ j e. absurd (text-follows i a e) }

-- Something else is written behind the word.
pub goes-behind : {m : Mode} {ts : List Token} (n : Mode) (c : List ℕ) (us : List Token) → IsBetween m → (a : At m ts) → StopsAt ts → IsBetween n → Lexes n (source c []) us → opens_parenthesis (skip c) ≡ false → Firm c →
    GoesIf false n a.text c us
goes-behind {m} {ts} n c us i a o j h s r = record {
  lexed = h;
  heads = heads-closed n a.text c j (closed ts i a o ∙ sym s) r;
  outers = tt;
  last = λ e. absurd cc;
}

-- ---- a backslash at the end of the text

-- The word ends here.
abbrev pub EndsWord : List Token → Type 0
EndsWord [] = Unit {0}
EndsWord (token.End end.Word m ∷ ts) = Unit {0}
EndsWord ts = ⊥

seen-end : (k : Token) (ts : List Token) → Reads (token.End end.Word mode.Command) k → EndsWord (k ∷ ts)
seen-end k ts as_seen = tt
seen-end k ts ends = tt

-- Where the text has ended, so has the word.
ends-at : (m : Mode) (ts : List Token) → IsInWord m → Lexes m (source [] []) ts → EndsWord ts
unfolding spec.in_word spec.in_quotes spec.in_plain_braces spec.in_quoted_braces spec.in_arith spec.in_body peel
ends-at m [] i l = tt
ends-at mode.Word (k ∷ ts) i l = seen-end k ts (subst (λ (z : Token). Reads z k) (sym (found-token (token.End end.Word mode.Command) l.0 _ l.1 l.2)) l.3)
ends-at mode.Quotes (k ∷ ts) i l = let h : ended ≡ found l.0 l.1 = l.2 in absurd cc
ends-at (mode.Braces true) (k ∷ ts) i l = let h : ended ≡ found l.0 l.1 = l.2 in absurd cc
ends-at (mode.Braces false) (k ∷ ts) i l = let h : ended ≡ found l.0 l.1 = l.2 in absurd cc
ends-at (mode.Arith n) (k ∷ ts) i l = let h : ended ≡ found l.0 l.1 = l.2 in absurd cc
ends-at mode.Body (k ∷ ts) i l = let h : ended ≡ found l.0 l.1 = l.2 in absurd cc
ends-at m (k ∷ ts) i l = absurd i

pub ends-there : {m : Mode} {ts : List Token} → IsInWord m → (a : At m ts) → a.text ≡ [] → EndsWord ts
ends-there {m} {ts} w a e = ends-at m ts w (subst (λ (y : List ℕ). Lexes m (source y []) ts) e a.lexed)

-- Where another token than the end of a word is read, the text goes on.
pub inward : {tight : Bool} {m n : Mode} {k : Token} {c : List ℕ} {ts us : List Token} → IsKnown m → (a : At m (k ∷ ts)) → (EndsWord (k ∷ ts) → ⊥) → GoesIf tight n a.text c us → Goes n a.text c us
inward (inl i) a o g = tightly i a g
inward (inr i) a o g = record { lexed = g.lexed; heads = g.heads; outers = g.outers; last = λ j e. absurd (o (ends-there i a e)) }

-- Where the text has ended in front of the end of a word, it has ended behind it.
word-ended-at : (m n : Mode) (t : List ℕ) (s : Token) (q : Source) → IsKnown m → t ≡ [] → next m (source t []) ≡ found s q → Reads s (token.End end.Word n) → q.text ≡ []
unfolding spec.in_word spec.in_quotes spec.in_plain_braces spec.in_quoted_braces spec.in_arith spec.in_body peel
word-ended-at m n t s q (inl i) e h d = absurd (nothing-found m t s q i e h)
word-ended-at mode.Word n t s q (inr i) e h d =
    let g : found (token.End end.Word mode.Command) (source [] []) ≡ found s q = sym (ap (λ (y : List ℕ). next mode.Word (source y [])) e) ∙ h in ap (λ (z : Source). z.text) (sym (found-source _ s _ q g))
word-ended-at mode.Quotes n t s q (inr i) e h d = let g : ended ≡ found s q = sym (ap (λ (y : List ℕ). next mode.Quotes (source y [])) e) ∙ h in absurd cc
word-ended-at (mode.Braces true) n t s q (inr i) e h d = let g : ended ≡ found s q = sym (ap (λ (y : List ℕ). next (mode.Braces true) (source y [])) e) ∙ h in absurd cc
word-ended-at (mode.Braces false) n t s q (inr i) e h d = let g : ended ≡ found s q = sym (ap (λ (y : List ℕ). next (mode.Braces false) (source y [])) e) ∙ h in absurd cc
word-ended-at (mode.Arith k) n t s q (inr i) e h d = let g : ended ≡ found s q = sym (ap (λ (y : List ℕ). next (mode.Arith k) (source y [])) e) ∙ h in absurd cc
word-ended-at mode.Body n t s q (inr i) e h d = let g : ended ≡ found s q = sym (ap (λ (y : List ℕ). next mode.Body (source y [])) e) ∙ h in absurd cc
word-ended-at m n t s q (inr i) e h d = absurd i

pub word-ended : {m n : Mode} {ts : List Token} (i : IsKnown m) (a : At m (token.End end.Word n ∷ ts)) → a.text ≡ [] → (tail i a).text ≡ []
word-ended {m} {n} i a e = word-ended-at m n a.text a.lexed.0 a.lexed.1 i e a.lexed.2 a.lexed.3

pub none-left : {m : Mode} (ts : List Token) → IsBetween m → (a : At m ts) → a.text ≡ [] → ts ≡ []
none-left [] i a e = refl
none-left (k ∷ ts) i a e = absurd (text-follows i a e)

-- ---- a backslash that stands for itself in a word

-- something that may go on where the text begins with a `(` or doesn't
abbrev mark_text : Bool → List ℕ
mark_text true = 40 ∷ 32 ∷ []
mark_text false = 59 ∷ 32 ∷ []

abbrev mark_tokens : Bool → List Token
mark_tokens true = token.Operator op.Open ∷ []
mark_tokens false = token.Operator op.Semi ∷ []

marked : (n : Mode) (t : List ℕ) (v : Bool) → IsBetween n → opens_parenthesis (skip t) ≡ v → GoesIf false n t (mark_text v) (mark_tokens v)
unfolding skip
marked n t true i e = record {
  lexed = sign n op.Open [] [] i tt (ap (in_source []) (nil-done mode.Command tt));
  heads = heads-closed n t (40 ∷ 32 ∷ []) i e (apart 40 (32 ∷ []) refl);
  outers = tt;
  last = λ j. absurd cc;
}
marked n t false i e = record {
  lexed = sign n op.Semi [] [] i tt (ap (in_source []) (nil-done mode.Command tt));
  heads = heads-closed n t (59 ∷ 32 ∷ []) i e (apart 59 (32 ∷ []) refl);
  outers = tt;
  last = λ j. absurd cc;
}

abbrev IsWordEnd : Token → Type 0
IsWordEnd (token.End e m) = Unit {0}
IsWordEnd t = ⊥

reads-end : (n : Mode) (s : Token) → Reads s (token.End end.Word n) → IsWordEnd s
reads-end n s as_seen = tt
reads-end n s ends = tt

abbrev IsPiece : Token → Type 0
IsPiece (token.Part (bit.Piece x)) = Unit {0}
IsPiece t = ⊥

reads-piece : (x : List ℕ) (s : Token) → Reads s (token.Part (bit.Piece x)) → IsPiece s
reads-piece x s as_seen = tt

-- a blank and what goes on are read as no word's end but in a word
blank-word : (m n : Mode) (v : Bool) (us : List Token) → IsKnown m → Lexes m (source (32 ∷ mark_text v) []) (token.End end.Word n ∷ us) → m ≡ mode.Word
unfolding skip peel special piece sum spec.between spec.in_word spec.in_quotes spec.in_plain_braces spec.in_quoted_braces spec.in_arith spec.in_body spec.bit_at spec.special_at spec.text_if
blank-word mode.Word n v us i l = refl
blank-word mode.Command n true us i l = absurd (subst IsWordEnd (sym (found-token (token.Operator op.Open) l.0 _ l.1 l.2)) (reads-end n l.0 l.3))
blank-word mode.Command n false us i l = absurd (subst IsWordEnd (sym (found-token (token.Operator op.Semi) l.0 _ l.1 l.2)) (reads-end n l.0 l.3))
blank-word mode.Prefix n true us i l = absurd (subst IsWordEnd (sym (found-token (token.Operator op.Open) l.0 _ l.1 l.2)) (reads-end n l.0 l.3))
blank-word mode.Prefix n false us i l = absurd (subst IsWordEnd (sym (found-token (token.Operator op.Semi) l.0 _ l.1 l.2)) (reads-end n l.0 l.3))
blank-word mode.Arguments n true us i l = absurd (subst IsWordEnd (sym (found-token (token.Operator op.Open) l.0 _ l.1 l.2)) (reads-end n l.0 l.3))
blank-word mode.Arguments n false us i l = absurd (subst IsWordEnd (sym (found-token (token.Operator op.Semi) l.0 _ l.1 l.2)) (reads-end n l.0 l.3))
blank-word mode.Pattern n true us i l = absurd (subst IsWordEnd (sym (found-token (token.Operator op.Open) l.0 _ l.1 l.2)) (reads-end n l.0 l.3))
blank-word mode.Pattern n false us i l = absurd (subst IsWordEnd (sym (found-token (token.Operator op.Semi) l.0 _ l.1 l.2)) (reads-end n l.0 l.3))
blank-word mode.Quotes n true us i l = absurd (subst IsWordEnd (sym (found-token (token.Part (bit.Piece (32 ∷ 40 ∷ 32 ∷ []))) l.0 _ l.1 l.2)) (reads-end n l.0 l.3))
blank-word mode.Quotes n false us i l = absurd (subst IsWordEnd (sym (found-token (token.Part (bit.Piece (32 ∷ 59 ∷ 32 ∷ []))) l.0 _ l.1 l.2)) (reads-end n l.0 l.3))
blank-word (mode.Braces true) n true us i l = absurd (subst IsWordEnd (sym (found-token (token.Part (bit.Piece (32 ∷ 40 ∷ 32 ∷ []))) l.0 _ l.1 l.2)) (reads-end n l.0 l.3))
blank-word (mode.Braces true) n false us i l = absurd (subst IsWordEnd (sym (found-token (token.Part (bit.Piece (32 ∷ 59 ∷ 32 ∷ []))) l.0 _ l.1 l.2)) (reads-end n l.0 l.3))
blank-word (mode.Braces false) n true us i l = absurd (subst IsWordEnd (sym (found-token (token.Part (bit.Piece (32 ∷ 40 ∷ 32 ∷ []))) l.0 _ l.1 l.2)) (reads-end n l.0 l.3))
blank-word (mode.Braces false) n false us i l = absurd (subst IsWordEnd (sym (found-token (token.Part (bit.Piece (32 ∷ 59 ∷ 32 ∷ []))) l.0 _ l.1 l.2)) (reads-end n l.0 l.3))
blank-word (mode.Arith k) n true us i l = absurd (subst IsWordEnd (sym (found-token (token.Part (bit.Sum (32 ∷ 40 ∷ 32 ∷ []) (k + 1))) l.0 _ l.1 l.2)) (reads-end n l.0 l.3))
blank-word (mode.Arith k) n false us i l = absurd (subst IsWordEnd (sym (found-token (token.Part (bit.Sum (32 ∷ 59 ∷ 32 ∷ []) k)) l.0 _ l.1 l.2)) (reads-end n l.0 l.3))
blank-word mode.Body n true us i l = absurd (subst IsWordEnd (sym (found-token (token.Part (bit.Piece (32 ∷ 40 ∷ 32 ∷ []))) l.0 _ l.1 l.2)) (reads-end n l.0 l.3))
blank-word mode.Body n false us i l = absurd (subst IsWordEnd (sym (found-token (token.Part (bit.Piece (32 ∷ 59 ∷ 32 ∷ []))) l.0 _ l.1 l.2)) (reads-end n l.0 l.3))
blank-word m n v us (inl i) l = absurd i
blank-word m n v us (inr i) l = absurd i

-- A backslash in front of a blank is no piece of a word.
escapes : (m : Mode) (x : List ℕ) (v : Bool) (us : List Token) → IsKnown m → inside m ≡ mode.Word → Lexes m (source (92 ∷ 32 ∷ mark_text v) []) (token.Part (bit.Piece x) ∷ us) → ⊥
unfolding skip peel special piece spec.between spec.in_word spec.bit_at spec.special_at
escapes mode.Command x true us i w l = subst IsPiece (sym (found-token (token.Part (bit.Escaped 32)) l.0 _ l.1 l.2)) (reads-piece x l.0 l.3)
escapes mode.Command x false us i w l = subst IsPiece (sym (found-token (token.Part (bit.Escaped 32)) l.0 _ l.1 l.2)) (reads-piece x l.0 l.3)
escapes mode.Prefix x true us i w l = subst IsPiece (sym (found-token (token.Part (bit.Escaped 32)) l.0 _ l.1 l.2)) (reads-piece x l.0 l.3)
escapes mode.Prefix x false us i w l = subst IsPiece (sym (found-token (token.Part (bit.Escaped 32)) l.0 _ l.1 l.2)) (reads-piece x l.0 l.3)
escapes mode.Arguments x true us i w l = subst IsPiece (sym (found-token (token.Part (bit.Escaped 32)) l.0 _ l.1 l.2)) (reads-piece x l.0 l.3)
escapes mode.Arguments x false us i w l = subst IsPiece (sym (found-token (token.Part (bit.Escaped 32)) l.0 _ l.1 l.2)) (reads-piece x l.0 l.3)
escapes mode.Pattern x true us i w l = subst IsPiece (sym (found-token (token.Part (bit.Escaped 32)) l.0 _ l.1 l.2)) (reads-piece x l.0 l.3)
escapes mode.Pattern x false us i w l = subst IsPiece (sym (found-token (token.Part (bit.Escaped 32)) l.0 _ l.1 l.2)) (reads-piece x l.0 l.3)
escapes mode.Word x true us i w l = subst IsPiece (sym (found-token (token.Part (bit.Escaped 32)) l.0 _ l.1 l.2)) (reads-piece x l.0 l.3)
escapes mode.Word x false us i w l = subst IsPiece (sym (found-token (token.Part (bit.Escaped 32)) l.0 _ l.1 l.2)) (reads-piece x l.0 l.3)
escapes mode.Quotes x v us i w l = cc
escapes (mode.Braces q) x v us i w l = cc
escapes (mode.Arith n) x v us i w l = cc
escapes mode.Body x v us i w l = cc
escapes m x v us (inl i) w l = absurd i
escapes m x v us (inr i) w l = absurd i

-- The word ends here, and tokens between words follow.
abbrev pub Closes : List Token → Type 0
Closes (token.End end.Word n ∷ ts) = IsBetween n
Closes ts = ⊥

behind-word : {m n : Mode} {ts : List Token} (v : Bool) (i : IsKnown m) (a : At m (token.End end.Word n ∷ ts)) → IsBetween n → opens_parenthesis (skip (tail i a).text) ≡ v →
    GoesIf false m a.text (32 ∷ mark_text v) (token.End end.Word n ∷ mark_tokens v)
behind-word {n = n} true i a b e = put-end i a n b (mark_text true) (mark_tokens true) (marked n (tail i a).text true b e)
behind-word {n = n} false i a b e = put-end i a n b (mark_text false) (mark_tokens false) (marked n (tail i a).text false b e)

-- Words end in no quotes.
pub in-word : {m : Mode} (ts : List Token) (i : IsKnown m) (a : At m ts) → Closes ts → m ≡ mode.Word
in-word [] i a b = absurd b
in-word {m} (token.End end.Word n ∷ ts) i a b = let v = opens_parenthesis (skip (tail i a).text) in blank-word m n v (mark_tokens v) i (behind-word v i a b refl).lexed
in-word (k ∷ ts) i a b = absurd b

none-or : (t : List ℕ) → (t ≡ []) ⊎ (t ≡ [] → ⊥)
none-or [] = inl refl
none-or (b ∷ t) = inr (λ e. cc)

lone-in : {m : Mode} (ts : List Token) (x : List ℕ) (i : IsKnown m) (a : At m (token.Part (bit.Piece x) ∷ ts)) → x ≡ 92 ∷ [] → Closes ts → ((tail i a).text ≡ [] → ⊥) → ⊥
lone-in [] x i a e b z = absurd b
lone-in {m} (token.End end.Word n ∷ ts) x i a e b z =
    let k = inside-known m i in
    let t = tail i a in
    let v = opens_parenthesis (skip (tail k t).text) in
    let g = put-if i a tt (32 ∷ mark_text v) (token.End end.Word n ∷ mark_tokens v) (behind-word v k t b refl) (λ l q. absurd (z q)) in
    escapes m x v (token.End end.Word n ∷ mark_tokens v) i (in-word (token.End end.Word n ∷ ts) k t b) (subst (λ (y : List ℕ). Lexes m (source (y ++ 32 ∷ mark_text v) []) (token.Part (bit.Piece x) ∷ token.End end.Word n ∷ mark_tokens v)) e g.lexed)
lone-in (k ∷ ts) x i a e b z = absurd b

-- Such a backslash at the end of a word ends the text.
pub lone-ends : {m : Mode} (ts : List Token) (x : List ℕ) (i : IsKnown m) (a : At m (token.Part (bit.Piece x) ∷ ts)) → x ≡ 92 ∷ [] → Closes ts → (tail i a).text ≡ []
lone-ends ts x i a e b = elim (none-or (tail i a).text) [ inl h ↦ h | inr z ↦ absurd (lone-in ts x i a e b z) ]

-- no `(` at the front of what is written of a token
pub shut-by : {tight : Bool} {m : Mode} {k : Token} {ts us : List Token} (c : List ℕ) → IsBetween m → (a : At m (k ∷ ts)) → NotOpen k → GoesIf tight m a.text c us → opens_parenthesis (skip c) ≡ false
shut-by {m = m} {k = k} {ts = ts} c i a o g = sym (heads-opens m a.text c i g.heads) ∙ closed (k ∷ ts) i a o

pub ready-redirect : {tight : Bool} {m : Mode} {fd : ℕ} {o : RedirOp} {ts : List Token} (c : List ℕ) (us : List Token) → IsBetween m → (a : At m (token.Redirect fd o ∷ ts)) → GoesIf tight m a.text c (token.Redirect fd o ∷ us) → Ready c (token.Redirect fd o ∷ us)
ready-redirect {m = m} {fd = fd} {o = o} c us i a g = record { any = λ n j. anywhere m n c (token.Redirect fd o) us i j tt g.lexed; shut = shut-by c i a tt g; firm = g.heads.firm }

-- ---- what begins with a `$`

-- Something that goes on as the text does.
some-at : (m : Mode) (t : List ℕ) (v : Bool) → IsBetween m → opens_parenthesis (skip t) ≡ v → (c : List ℕ) × (us : List Token) × Goes m t c us
unfolding skip
some-at m t true i e = (
  40 ∷ 32 ∷ [],
  token.Operator op.Open ∷ [],
  record {
    lexed = sign m op.Open [] [] i tt (ap (in_source []) (nil-done mode.Command tt));
    heads = heads-closed m t (40 ∷ 32 ∷ []) i e (apart 40 (32 ∷ []) refl);
    outers = tt;
    last = λ j x. let k : false ≡ true = sym (ap (λ (y : List ℕ). opens_parenthesis (skip y)) x) ∙ e in absurd cc;
  },
)
some-at m t false i e = (
  [],
  [],
  record {
    lexed = ap (in_source []) (nil-done m i);
    heads = heads-closed m t [] i e tt;
    outers = tt;
    last = λ j x. refl;
  },
)

pub some : (m : Mode) (t : List ℕ) → IsBetween m → (c : List ℕ) × (us : List Token) × Goes m t c us
some m t i = some-at m t (opens_parenthesis (skip t)) i refl

closed-dollar : (y : List ℕ) → opens_parenthesis (skip (36 ∷ y)) ≡ false
closed-dollar y = ap opens_parenthesis (skip-fixed (36 ∷ y) (refl, refl, apart 36 y refl))

-- what is seen of a text that begins with a `$`
head-dollar : (m : Mode) (y z : List ℕ) → IsKnown m → head m (36 ∷ y) ≡ head m (36 ∷ z)
head-dollar mode.Command y z i = ap (λ x. (None, x)) (closed-dollar y ∙ sym (closed-dollar z))
head-dollar mode.Prefix y z i = ap (λ x. (None, x)) (closed-dollar y ∙ sym (closed-dollar z))
head-dollar mode.Arguments y z i = ap (λ x. (None, x)) (closed-dollar y ∙ sym (closed-dollar z))
head-dollar mode.Pattern y z i = ap (λ x. (None, x)) (closed-dollar y ∙ sym (closed-dollar z))
head-dollar mode.Word y z i = ap word_head (peel-firm (36 ∷ y) (apart 36 y refl)) ∙ sym (ap word_head (peel-firm (36 ∷ z) (apart 36 z refl)))
head-dollar mode.Quotes y z i = ap (λ x. (first x, false)) (peel-firm (36 ∷ y) (apart 36 y refl)) ∙ sym (ap (λ x. (first x, false)) (peel-firm (36 ∷ z) (apart 36 z refl)))
head-dollar (mode.Braces q) y z i = ap (λ x. (first x, false)) (peel-firm (36 ∷ y) (apart 36 y refl)) ∙ sym (ap (λ x. (first x, false)) (peel-firm (36 ∷ z) (apart 36 z refl)))
head-dollar (mode.Arith n) y z i = ap (λ x. (first x, ends_sum x)) (peel-firm (36 ∷ y) (apart 36 y refl)) ∙ sym (ap (λ x. (first x, ends_sum x)) (peel-firm (36 ∷ z) (apart 36 z refl)))
head-dollar mode.Body y z i = ap (λ x. (first x, false)) (peel-firm (36 ∷ y) (apart 36 y refl)) ∙ sym (ap (λ x. (first x, false)) (peel-firm (36 ∷ z) (apart 36 z refl)))
head-dollar m y z (inl i) = absurd i
head-dollar m y z (inr i) = absurd i

clean-dollar : (m : Mode) (z : List ℕ) → IsClean m (36 ∷ z)
clean-dollar mode.Word z = λ h. absurd cc
clean-dollar m z = tt

pub heads-dollar : (m : Mode) (t y z : List ℕ) → IsKnown m → Heads m t (36 ∷ y) → Heads m t (36 ∷ z)
heads-dollar m t y z i h = record { same = h.same ∙ head-dollar m y z i; firm = apart 36 z refl; clean = clean-dollar m z; empty = h.empty; inside = h.inside }

between-dollar : (m : Mode) (y : List ℕ) → spec.between m (36 ∷ y) ≡ spec.dollar mode.Word (peel y)
unfolding spec.between spec.bit_at spec.special_at special
between-dollar m y = refl

inner-dollar : (m : Mode) (y : List ℕ) → IsInWord m → inner m (36 ∷ y) ≡ spec.dollar m (peel y)
unfolding spec.in_word spec.in_quotes spec.in_plain_braces spec.in_quoted_braces spec.in_arith spec.in_body spec.bit_at spec.special_at special
inner-dollar mode.Word y i = refl
inner-dollar mode.Quotes y i = refl
inner-dollar (mode.Braces true) y i = refl
inner-dollar (mode.Braces false) y i = refl
inner-dollar (mode.Arith n) y i = refl
inner-dollar mode.Body y i = refl
inner-dollar m y i = absurd i

pub lex-dollar : (m : Mode) (y : List ℕ) → IsKnown m → lex m (36 ∷ y) ≡ spec.dollar (inside m) (peel y)
lex-dollar m y (inl i) = lex-at m 36 y i (refl, refl, apart 36 y refl) ∙ (between-dollar m y ∙ ap (λ n. spec.dollar n (peel y)) (sym (between-inside m i)))
lex-dollar m y (inr i) = lex-inner-at m 36 y i (apart 36 y refl) ∙ (inner-dollar m y i ∙ ap (λ n. spec.dollar n (peel y)) (sym (inside-is m i)))
