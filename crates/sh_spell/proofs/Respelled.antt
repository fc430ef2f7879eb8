-- A text's tokens are read again from the text that is written of them.
use Rattle.std.proofs.Common.{◌≡◌, ℕ, Bool, true, false, ◌==◌, ◌||◌, List, [], ◌∷◌, ◌++◌, Option, Some, None, refl, ap, sym, ◌∙◌, subst, inl, inr}
use Rattle.sh_lexer.specs.declared.token.Token.{Token}
use Rattle.sh_lexer.specs.declared.token.Token.TheVariants as token
use Rattle.sh_lexer.specs.declared.token.Op.TheVariants as op
use Rattle.sh_lexer.specs.declared.token.Opener.TheVariants as opener
use Rattle.sh_lexer.specs.declared.token.End.TheVariants as end
use Rattle.sh_lexer.specs.declared.token.Mode.{Mode}
use Rattle.sh_lexer.specs.declared.token.Mode.TheVariants as mode
use Rattle.sh_lexer.specs.Bytes.{skip, peel, delimits, ends_word, special}
use Rattle.sh_lexer.specs.Cut.{backquoted, text_onto}
use Rattle.sh_lexer.specs.Modes.{Reads, as_seen, ends, mode_after}
use Rattle.sh_lexer.specs.Lex as spec
use Rattle.sh_lexer.specs.Lex.{Lexed, got, opens, done, bad, lex}
use Rattle.sh_lexer.specs.Lexes.{Lexes, Source, source, found, ended, next, in_source, after_text}
use Rattle.sh_spell.specs.Layout.{token_text, left, written, before, source_of, guarded, in_backquotes}
use Rattle.sh_spell.specs.Tidy.{IsBetween, IsInWord, IsUsual, IsKnown, IsTidy}
use Rattle.sh_spell.proofs.Cases.{chosen_if, passes, neither, either_if, at}
use Rattle.sh_spell.proofs.Runs.{Apart, apart, Firm, peel-is_firm}
use Rattle.sh_spell.proofs.Heads.{Heads, Meets, ends_sum}
use Rattle.sh_spell.proofs.Bits.{Written, Quotes, Once}
use Rattle.sh_spell.proofs.Inside.{arith-sums, Sums}
use Rattle.sh_spell.proofs.Starts.{Start, skip-start}
use Rattle.sh_spell.proofs.Redirects.{Begun, Twice}
use Rattle.sh_spell.proofs.Gaps.{between-twice}
use Rattle.sh_spell.proofs.Steps.{lex-between, lex-inside, inner, inner-once, IsGoing, IsArith, heads-between, heads-inside}
use Rattle.sh_spell.proofs.Whole.{Outers, Same, SameIf, IsLone, IsFlat, ReadAs, alike, of_list, read-as, between-alike, between-list, inner-alike, lex-at, lex-inner-at, empty-skip, empty-peel, in_word-ends, word-end, text-end, all-end}

-- ---- backquotes

text_after : (b : ℕ) (y : List ℕ) → (y ≡ [] → ⊥) → (b == 92) ≡ false → (b == 96) ≡ false → backquoted (b ∷ y) ≡ text_onto (b ∷ []) (backquoted y)
unfolding backquoted
text_after b [] n e f = absurd (n refl)
text_after b (c ∷ r) n e f = passes (b == 96) _ _ f ∙ passes (b == 92) _ _ e

guarded_after : (b : ℕ) (y : List ℕ) → (b == 92 || b == 96) ≡ true → backquoted (92 ∷ b ∷ y) ≡ text_onto (b ∷ []) (backquoted y)
unfolding backquoted
guarded_after b y e = either_if (λ n. backquoted (92 ∷ n ∷ y) ≡ text_onto (n ∷ []) (backquoted y)) (b == 92) (b == 96) b
    (at (λ n. backquoted (92 ∷ n ∷ y) ≡ text_onto (n ∷ []) (backquoted y)) b 92 refl)
    (at (λ n. backquoted (92 ∷ n ∷ y) ≡ text_onto (n ∷ []) (backquoted y)) b 96 refl) e

not_nil : (x k : List ℕ) → x ++ 96 ∷ k ≡ [] → ⊥
not_nil [] k e = cc
not_nil (b ∷ x) k e = cc

-- What is written in backquotes is cut out again.
pub guarded-again : (x k : List ℕ) → backquoted (guarded x ++ 96 ∷ k) ≡ (x, Some k)
unfolding backquoted guarded
guarded-again [] [] = refl
guarded-again [] (b ∷ k) = refl
guarded-again (b ∷ x) k = chosen_if (λ (y : List ℕ). backquoted (y ++ guarded x ++ 96 ∷ k) ≡ (b ∷ x, Some k)) (b == 92 || b == 96)
    (λ e. guarded_after b (guarded x ++ 96 ∷ k) e ∙ ap (text_onto (b ∷ [])) (guarded-again x k))
    (λ e. let f = neither (b == 92) (b == 96) e in
    text_after b (guarded x ++ 96 ∷ k) (not_nil (guarded x) k) f.0 f.1 ∙ ap (text_onto (b ∷ [])) (guarded-again x k))

quoted-next : (m : Mode) (f : List ℕ → Lexed) (b : ℕ) (s : Token) (c r : List ℕ) (p : List (Option (List ℕ))) → Quotes b f s → ((k : List ℕ) → lex m (96 ∷ k) ≡ f (96 ∷ k)) →
    next m (source (96 ∷ (guarded c ++ 96 ∷ r)) p) ≡ found s (source c (Some r ∷ p))
quoted-next m f b s c r p q e =
    ap (in_source p) (e (guarded c ++ 96 ∷ r) ∙ q.again (guarded c ++ 96 ∷ r)) ∙ ap (λ (z : List ℕ × Option (List ℕ)). found s (source z.0 (z.1 ∷ p))) (guarded-again c r)

no-outer : (o p : List (Option (List ℕ))) → Outers (None ∷ o) p → ⊥
no-outer o [] h = h
no-outer o (None ∷ p) h = h
no-outer o (Some r ∷ p) h = h

backquotes-same : {tight : Bool} (m n : Mode) (f : List ℕ → Lexed) (b : ℕ) (t x : List ℕ) (or : Option (List ℕ)) (o : List (Option (List ℕ))) (c : List ℕ) (p : List (Option (List ℕ))) (ts : List Token) →
    Quotes b f (token.Open opener.Backquote n) → ((k : List ℕ) → lex m (96 ∷ k) ≡ f (96 ∷ k)) → ((k : List ℕ) → Heads m t (96 ∷ k)) → (t ≡ [] → ⊥) →
    SameIf tight mode.Command (source x (or ∷ o)) (source c p) ts → SameIf tight m (source t o) (in_backquotes c p) (token.Open opener.Backquote n ∷ ts)
backquotes-same m n f b t x None o c p ts q e h y g = absurd (no-outer o p g.outers)
backquotes-same m n f b t x (Some r) o c [] ts q e h y g = absurd g.outers
backquotes-same m n f b t x (Some r) o c (None ∷ p) ts q e h y g = absurd g.outers
backquotes-same m n f b t x (Some r) o c (Some k ∷ p) ts q e h y g = record {
  lexed = (token.Open opener.Backquote n, source c (Some k ∷ p), quoted-next m f b (token.Open opener.Backquote n) c k p q e, as_seen, g.lexed);
  heads = h (guarded c ++ 96 ∷ k);
  outers = g.outers;
  last = λ j z. absurd (y z);
}

-- ---- each token

pub flat-before : (t : Token) (s : Source) → IsFlat t → before t s ≡ source (written t s.text) s.outer
flat-before (token.Operator o) s f = refl
flat-before (token.Part b) s f = refl
flat-before (token.Param x l) s f = refl
flat-before (token.Open opener.Double n) s f = refl
flat-before (token.Open (opener.Braces x k q r) n) s f = refl
flat-before (token.Open opener.Command n) s f = refl
flat-before (token.Open opener.Arith n) s f = refl
flat-before (token.Open opener.Backquote n) s f = absurd f
flat-before (token.End end.Word n) s f = refl
flat-before (token.End end.Quote n) s f = refl
flat-before (token.End end.Brace n) s f = refl
flat-before (token.End end.Arith n) s f = refl
flat-before (token.End end.List n) s f = refl
flat-before (token.End end.Text n) s f = absurd f
flat-before (token.End end.Newline n) s f = refl
flat-before (token.Assign x) s f = refl
flat-before (token.Redirect fd o) s f = refl
flat-before (token.Here fd o) s f = refl
flat-before (token.Delimiter x q n) s f = refl
flat-before token.Body s f = refl
flat-before (token.Verbatim x n) s f = refl
flat-before (token.Function x) s f = refl

-- the tokens that begin or end a text that is cut out
data Kind : Token → Type 0 where
  flat : {t : Token} → IsFlat t → Kind t
  begins : {n : Mode} → Kind (token.Open opener.Backquote n)
  finishes : {n : Mode} → Kind (token.End end.Text n)

kind : (t : Token) → Kind t
kind (token.Open opener.Backquote n) = begins
kind (token.End end.Text n) = finishes
kind (token.Operator o) = flat tt
kind (token.Part b) = flat tt
kind (token.Param x l) = flat tt
kind (token.Open opener.Double n) = flat tt
kind (token.Open (opener.Braces x k q r) n) = flat tt
kind (token.Open opener.Command n) = flat tt
kind (token.Open opener.Arith n) = flat tt
kind (token.End end.Word n) = flat tt
kind (token.End end.Quote n) = flat tt
kind (token.End end.Brace n) = flat tt
kind (token.End end.Arith n) = flat tt
kind (token.End end.List n) = flat tt
kind (token.End end.Newline n) = flat tt
kind (token.Assign x) = flat tt
kind (token.Redirect fd o) = flat tt
kind (token.Here fd o) = flat tt
kind (token.Delimiter x q n) = flat tt
kind token.Body = flat tt
kind (token.Verbatim x n) = flat tt
kind (token.Function x) = flat tt

abbrev IsOpens : Lexed → Type 0
IsOpens (opens t x o) = Unit {0}
IsOpens l = ⊥

between-backquote : (m : Mode) (y : List ℕ) → IsOpens (spec.between m (96 ∷ y))
unfolding spec.between spec.bit_at spec.special_at special
between-backquote m y = tt

inner-backquote : (m : Mode) (y : List ℕ) → IsInWord m → IsOpens (inner m (96 ∷ y))
unfolding spec.in_word spec.in_quotes spec.in_plain_braces spec.in_quoted_braces spec.in_arith spec.in_body spec.bit_at spec.special_at special
inner-backquote mode.Word y i = tt
inner-backquote mode.Quotes y i = tt
inner-backquote (mode.Braces true) y i = tt
inner-backquote (mode.Braces false) y i = tt
inner-backquote (mode.Arith n) y i = tt
inner-backquote mode.Body y i = tt
inner-backquote m y i = absurd i

one-byte : (n d : ℕ) (w : List ℕ) → n ∷ [] ≡ d ∷ w → d ≡ n
one-byte n d w e = cc

-- ---- between words

from-got : {tight : Bool} (m : Mode) (t r : List ℕ) (o : List (Option (List ℕ))) (b : ℕ) (x : List ℕ) (s k : Token) (cs : Source) (ts : List Token) →
    IsBetween m → IsUsual m k → skip t ≡ b ∷ x → Begun m b s r → ReadAs s k → Kind k → SameIf tight (mode_after m k) (source r o) cs ts → (IsLone k → r ≡ [] → tight ≡ true) → SameIf tight m (source t o) (before k cs) (k ∷ ts)
from-got {tight} m t r o b x s k cs ts i u e z (alike d a y) (flat f) g w =
    subst (λ (q : Source). SameIf tight m (source t o) q (k ∷ ts)) (sym (flat-before k cs f))
    (between-alike m t r o b x s k cs.text cs.outer ts i u e z d a (y m r cs.text g.heads (λ l n. g.last (w l n) n)) g)
from-got {tight} m t r o b x s (token.Open opener.Backquote n) cs ts i u e z (alike d a y) begins g w =
    let c = cs.text in let v : z.byte ≡ 96 = one-byte 96 z.byte z.rest (a.0 ∙ z.text) in
    let h : spec.between m (96 ∷ (z.rest ++ left s c)) ≡ got s (left s c) = ap (λ n. spec.between m (n ∷ (z.rest ++ left s c))) (sym v) ∙ z.again c (y m r c g.heads (λ l n. absurd l)) in
    absurd (subst IsOpens h (between-backquote m (z.rest ++ left s c)))
from-got {tight} m t r o b x s (token.End end.Text n) cs ts i u e z (alike d a y) finishes g w = let h : [] ≡ z.byte ∷ z.rest = a.0 ∙ z.text in absurd cc
from-got {tight} m t r o b x (token.Operator op.Close) (token.End end.List n) cs ts i u e z of_list q g w = between-list m n t r o b x cs.text cs.outer ts i e z g

from-opens : {tight : Bool} (m : Mode) (t y : List ℕ) (or : Option (List ℕ)) (o : List (Option (List ℕ))) (b : ℕ) (x : List ℕ) (n : Mode) (k : Token) (cs : Source) (ts : List Token) →
    IsBetween m → skip t ≡ b ∷ x → Quotes b (spec.between m) (token.Open opener.Backquote n) → Reads (token.Open opener.Backquote n) k → SameIf tight (mode_after m k) (source y (or ∷ o)) cs ts →
    SameIf tight m (source t o) (before k cs) (k ∷ ts)
from-opens m t y or o b x n k cs ts i e z as_seen g =
    backquotes-same m n (spec.between m) b t y or o cs.text cs.outer ts z (λ k. lex-at m 96 k i (refl, refl, apart 96 k refl))
    (λ k. heads-between m t b 96 x k i e (ap (λ q. q == 40) z.byte) (refl, refl, apart 96 k refl)) (empty-skip t b x e) g

found-token : (s t : Token) (p q : Source) → found s p ≡ found t q → s ≡ t
found-token s t p q e = cc

found-source : (s t : Token) (p q : Source) → found s p ≡ found t q → p ≡ q
found-source s t p q e = cc

end-read : {tight : Bool} (m : Mode) (t r : List ℕ) (o : List (Option (List ℕ))) (k : Token) (cs : Source) (ts : List Token) →
    IsBetween m → lex m t ≡ done → Reads (token.End end.Text mode.Command) k → SameIf tight (mode_after m k) (source r o) cs ts → SameIf tight m (source t (Some r ∷ o)) (before k cs) (k ∷ ts)
end-read m t r o k cs ts i e as_seen g = text-end m mode.Command t r o cs.text cs.outer ts i e g
end-read m t r o k cs ts i e (ends {n = n}) g = text-end m n t r o cs.text cs.outer ts i e g

from-done : {tight : Bool} (m : Mode) (t : List ℕ) (o : List (Option (List ℕ))) (s : Token) (q : Source) (k : Token) (cs : Source) (ts : List Token) →
    IsBetween m → lex m t ≡ done → after_text o ≡ found s q → Reads s k → SameIf tight (mode_after m k) q cs ts → SameIf tight m (source t o) (before k cs) (k ∷ ts)
from-done {tight} m t [] s q k cs ts i e f d g = absurd cc
from-done {tight} m t (None ∷ o) s q k cs ts i e f d g = absurd cc
from-done {tight} m t (Some r ∷ o) s q k cs ts i e f d g =
    let d' : Reads (token.End end.Text mode.Command) k = subst (λ (z : Token). Reads z k) (sym (found-token _ s _ q f)) d in
    end-read m t r o k cs ts i e d' (subst (λ (z : Source). SameIf tight (mode_after m k) z cs ts) (sym (found-source _ s _ q f)) g)

lexed-between : {tight : Bool} (m : Mode) (t : List ℕ) (o : List (Option (List ℕ))) (b : ℕ) (x : List ℕ) (l : Lexed) (s : Token) (q : Source) (k : Token) (cs : Source) (ts : List Token) →
    IsBetween m → IsUsual m k → skip t ≡ b ∷ x → spec.between m (b ∷ x) ≡ l → Twice m b l → in_source o l ≡ found s q → Reads s k → SameIf tight (mode_after m k) q cs ts → (IsLone k → q.text ≡ [] → tight ≡ true) →
    SameIf tight m (source t o) (before k cs) (k ∷ ts)
lexed-between {tight} m t o b x (got s' r) s q k cs ts i u e f z h d g w =
    from-got m t r o b x s' k cs ts i u e z (read-as m u (subst (λ (z : Token). Reads z k) (sym (found-token s' s _ q h)) d)) (kind k)
    (subst (λ (z : Source). SameIf tight (mode_after m k) z cs ts) (sym (found-source s' s _ q h)) g)
    (subst (λ (z : Source). IsLone k → z.text ≡ [] → tight ≡ true) (sym (found-source s' s _ q h)) w)
lexed-between {tight} m t o b x (opens s' y or) s q k cs ts i u e f z h d g w =
    from-opens m t y or o b x z.mode k cs ts i e (subst (λ (w : Token). Quotes b (spec.between m) w) z.is z)
    (subst (λ (w : Token). Reads w k) (sym (found-token s' s _ q h) ∙ z.is) d)
    (subst (λ (w : Source). SameIf tight (mode_after m k) w cs ts) (sym (found-source s' s _ q h)) g)
lexed-between {tight} m t o b x done s q k cs ts i u e f z h d g w = from-done m t o s q k cs ts i (lex-between m t i ∙ (ap (spec.between m) e ∙ f)) h d g
lexed-between {tight} m t o b x (bad y) s q k cs ts i u e f z h d g w = absurd cc

skipped : {tight : Bool} (m : Mode) (t : List ℕ) (o : List (Option (List ℕ))) (y : List ℕ) (s : Token) (q : Source) (k : Token) (cs : Source) (ts : List Token) →
    IsBetween m → IsUsual m k → skip t ≡ y → Start y → in_source o (spec.between m y) ≡ found s q → Reads s k → SameIf tight (mode_after m k) q cs ts → (IsLone k → q.text ≡ [] → tight ≡ true) →
    SameIf tight m (source t o) (before k cs) (k ∷ ts)
unfolding spec.between
skipped m t o [] s q k cs ts i u e z h d g w = from-done m t o s q k cs ts i (lex-between m t i ∙ ap (spec.between m) e) h d g
skipped m t o (b ∷ x) s q k cs ts i u e z h d g w = lexed-between m t o b x (spec.between m (b ∷ x)) s q k cs ts i u e refl (between-twice m b x i z) h d g w

pub step-between : {tight : Bool} (m : Mode) (p : Source) (s : Token) (q : Source) (k : Token) (cs : Source) (ts : List Token) →
    IsBetween m → IsUsual m k → next m p ≡ found s q → Reads s k → SameIf tight (mode_after m k) q cs ts → (IsLone k → q.text ≡ [] → tight ≡ true) → SameIf tight m p (before k cs) (k ∷ ts)
step-between m p s q k cs ts i u e d g w = skipped m p.text p.outer (skip p.text) s q k cs ts i u refl (skip-start p.text) (sym (ap (in_source p.outer) (lex-between m p.text i)) ∙ e) d g w

-- ---- in words

not-both : (m : Mode) → IsInWord m → IsBetween m → ⊥
not-both mode.Word i u = u
not-both mode.Quotes i u = u
not-both (mode.Braces q) i u = u
not-both (mode.Arith n) i u = u
not-both mode.Body i u = u
not-both m i u = i

no-end : (m : Mode) (k : Token) → IsInWord m → IsUsual m k → Reads (token.End end.Text mode.Command) k → ⊥
no-end m k i u as_seen = not-both m i u
no-end m k i u ends = not-both m i u

sums-same : (m : Mode) (b : ℕ) (x : List ℕ) (s : Token) (r w c : List ℕ) → inner m (b ∷ x) ≡ got s r → token_text s ≡ b ∷ w → Meets m s r c →
    IsArith m → ends_sum (b ∷ x) ≡ ends_sum (b ∷ (w ++ left s c))
sums-same (mode.Arith n) b x s r w c l e h a = subst (Sums n b x) l (arith-sums n b x) w c e h
sums-same m b x s r w c l e h a = absurd a

from-got-inside : {tight : Bool} (m : Mode) (t r : List ℕ) (o : List (Option (List ℕ))) (b : ℕ) (x : List ℕ) (s k : Token) (cs : Source) (ts : List Token) →
    IsInWord m → IsGoing m b → IsUsual m k → peel t ≡ b ∷ x → inner m (b ∷ x) ≡ got s r → Written m b (inner m) s r → ReadAs s k → Kind k → SameIf tight (mode_after m k) (source r o) cs ts → (IsLone k → r ≡ [] → tight ≡ true) →
    SameIf tight m (source t o) (before k cs) (k ∷ ts)
from-got-inside {tight} m t r o b x s k cs ts i j u e l z (alike d a y) (flat f) g w =
    let h = y m r cs.text g.heads (λ l n. g.last (w l n) n) in
    subst (λ (q : Source). SameIf tight m (source t o) q (k ∷ ts)) (sym (flat-before k cs f))
    (inner-alike m t r o b x s k cs.text cs.outer ts i j u e z d a h (sums-same m b x s r z.rest cs.text l z.text h) g)
from-got-inside {tight} m t r o b x s (token.Open opener.Backquote n) cs ts i j u e l z (alike d a y) begins g w =
    let c = cs.text in let v : b ≡ 96 = one-byte 96 b z.rest (a.0 ∙ z.text) in
    let h : inner m (96 ∷ (z.rest ++ left s c)) ≡ got s (left s c) = ap (λ n. inner m (n ∷ (z.rest ++ left s c))) (sym v) ∙ z.again c (y m r c g.heads (λ l n. absurd l)) in
    absurd (subst IsOpens h (inner-backquote m (z.rest ++ left s c) i))
from-got-inside {tight} m t r o b x s (token.End end.Text n) cs ts i j u e l z (alike d a y) finishes g w = let h : [] ≡ b ∷ z.rest = a.0 ∙ z.text in absurd cc
from-got-inside {tight} m t r o b x (token.Operator op.Close) (token.End end.List n) cs ts i j u e l z of_list q g w = absurd (not-both m i u)

from-opens-inside : {tight : Bool} (m : Mode) (t y : List ℕ) (or : Option (List ℕ)) (o : List (Option (List ℕ))) (b : ℕ) (x : List ℕ) (n : Mode) (k : Token) (cs : Source) (ts : List Token) →
    IsInWord m → IsGoing m b → peel t ≡ b ∷ x → Quotes b (inner m) (token.Open opener.Backquote n) → Reads (token.Open opener.Backquote n) k → SameIf tight (mode_after m k) (source y (or ∷ o)) cs ts →
    SameIf tight m (source t o) (before k cs) (k ∷ ts)
from-opens-inside m t y or o b x n k cs ts i j e z as_seen g =
    backquotes-same m n (inner m) b t y or o cs.text cs.outer ts z (λ k. lex-inner-at m 96 k i (apart 96 k refl))
    (λ k. heads-inside m t 96 x k i (subst (IsGoing m) z.byte j) (e ∙ ap (λ n. n ∷ x) z.byte) (apart 96 k refl) (λ a. refl)) (empty-peel t b x e) g

-- No text ends in a word.
from-done-inside : (m : Mode) (o : List (Option (List ℕ))) (s : Token) (q : Source) (k : Token) → IsInWord m → IsUsual m k → after_text o ≡ found s q → Reads s k → ⊥
from-done-inside m [] s q k i u f d = cc
from-done-inside m (None ∷ o) s q k i u f d = cc
from-done-inside m (Some r ∷ o) s q k i u f d = no-end m k i u (subst (λ (z : Token). Reads z k) (sym (found-token _ s _ q f)) d)

lexed-inside : {tight : Bool} (m : Mode) (t : List ℕ) (o : List (Option (List ℕ))) (b : ℕ) (x : List ℕ) (l : Lexed) (s : Token) (q : Source) (k : Token) (cs : Source) (ts : List Token) →
    IsInWord m → IsGoing m b → IsUsual m k → peel t ≡ b ∷ x → inner m (b ∷ x) ≡ l → Once m b (inner m) l → in_source o l ≡ found s q → Reads s k → SameIf tight (mode_after m k) q cs ts → (IsLone k → q.text ≡ [] → tight ≡ true) →
    SameIf tight m (source t o) (before k cs) (k ∷ ts)
lexed-inside {tight} m t o b x (got s' r) s q k cs ts i j u e f z h d g w =
    from-got-inside m t r o b x s' k cs ts i j u e f z (read-as m u (subst (λ (z : Token). Reads z k) (sym (found-token s' s _ q h)) d)) (kind k)
    (subst (λ (z : Source). SameIf tight (mode_after m k) z cs ts) (sym (found-source s' s _ q h)) g)
    (subst (λ (z : Source). IsLone k → z.text ≡ [] → tight ≡ true) (sym (found-source s' s _ q h)) w)
lexed-inside {tight} m t o b x (opens s' y or) s q k cs ts i j u e f z h d g w =
    from-opens-inside m t y or o b x z.mode k cs ts i j e (subst (λ (w : Token). Quotes b (inner m) w) z.is z)
    (subst (λ (w : Token). Reads w k) (sym (found-token s' s _ q h) ∙ z.is) d)
    (subst (λ (w : Source). SameIf tight (mode_after m k) w cs ts) (sym (found-source s' s _ q h)) g)
lexed-inside {tight} m t o b x done s q k cs ts i j u e f z h d g w = absurd (from-done-inside m o s q k i u h d)
lexed-inside {tight} m t o b x (bad y) s q k cs ts i j u e f z h d g w = absurd cc

-- ---- the end of a word

word-end-read : {tight : Bool} (t : List ℕ) (o : List (Option (List ℕ))) (k : Token) (cs : Source) (ts : List Token) → ends_word (peel t) ≡ true → IsUsual mode.Word k → Reads (token.End end.Word mode.Command) k →
    SameIf tight (mode_after mode.Word k) (source (peel t) o) cs ts → SameIf tight mode.Word (source t o) (before k cs) (k ∷ ts)
word-end-read t o k cs ts e u as_seen g = word-end mode.Command t o cs.text cs.outer ts tt e g
word-end-read t o k cs ts e u (ends {n = n}) g = word-end n t o cs.text cs.outer ts u e g

word-end-found : {tight : Bool} (t : List ℕ) (o : List (Option (List ℕ))) (s : Token) (q : Source) (k : Token) (cs : Source) (ts : List Token) → ends_word (peel t) ≡ true → IsUsual mode.Word k →
    found (token.End end.Word mode.Command) (source (peel t) o) ≡ found s q → Reads s k → SameIf tight (mode_after mode.Word k) q cs ts → SameIf tight mode.Word (source t o) (before k cs) (k ∷ ts)
word-end-found {tight} t o s q k cs ts e u h d g =
    word-end-read t o k cs ts e u (subst (λ (z : Token). Reads z k) (sym (found-token _ s _ q h)) d) (subst (λ (z : Source). SameIf tight (mode_after mode.Word k) z cs ts) (sym (found-source _ s _ q h)) g)

goes-on : {tight : Bool} (m : Mode) (t : List ℕ) (o : List (Option (List ℕ))) (b : ℕ) (x : List ℕ) (s : Token) (q : Source) (k : Token) (cs : Source) (ts : List Token) →
    IsInWord m → IsGoing m b → IsUsual m k → peel t ≡ b ∷ x → Apart b x → in_source o (inner m (b ∷ x)) ≡ found s q → Reads s k → SameIf tight (mode_after m k) q cs ts → (IsLone k → q.text ≡ [] → tight ≡ true) →
    SameIf tight m (source t o) (before k cs) (k ∷ ts)
goes-on m t o b x s q k cs ts i j u e a h d g w = lexed-inside m t o b x (inner m (b ∷ x)) s q k cs ts i j u e refl (inner-once m b x i j a) h d g w

word-goes : {tight : Bool} (t : List ℕ) (o : List (Option (List ℕ))) (b : ℕ) (x : List ℕ) (v : Bool) (s : Token) (q : Source) (k : Token) (cs : Source) (ts : List Token) →
    IsUsual mode.Word k → peel t ≡ b ∷ x → Apart b x → delimits b ≡ v → in_source o (spec.in_word (b ∷ x)) ≡ found s q → Reads s k → SameIf tight (mode_after mode.Word k) q cs ts → (IsLone k → q.text ≡ [] → tight ≡ true) →
    SameIf tight mode.Word (source t o) (before k cs) (k ∷ ts)
word-goes t o b x true s q k cs ts u e a v h d g w =
    word-end-found t o s q k cs ts (ap ends_word e ∙ v) u (ap (λ y. found (token.End end.Word mode.Command) (source y o)) e ∙ (sym (ap (in_source o) (in_word-ends (b ∷ x) v)) ∙ h)) d g
word-goes t o b x false s q k cs ts u e a v h d g w = goes-on mode.Word t o b x s q k cs ts tt v u e a h d g w

peeled-nil : {tight : Bool} (m : Mode) (t : List ℕ) (o : List (Option (List ℕ))) (s : Token) (q : Source) (k : Token) (cs : Source) (ts : List Token) →
    IsInWord m → IsUsual m k → peel t ≡ [] → in_source o (inner m []) ≡ found s q → Reads s k → SameIf tight (mode_after m k) q cs ts → SameIf tight m (source t o) (before k cs) (k ∷ ts)
unfolding spec.in_word spec.in_quotes spec.in_plain_braces spec.in_quoted_braces spec.in_arith spec.in_body
peeled-nil mode.Word t o s q k cs ts i u e h d g = word-end-found t o s q k cs ts (ap ends_word e) u (ap (λ y. found (token.End end.Word mode.Command) (source y o)) e ∙ h) d g
peeled-nil mode.Quotes t o s q k cs ts i u e h d g = absurd (from-done-inside mode.Quotes o s q k i u h d)
peeled-nil (mode.Braces true) t o s q k cs ts i u e h d g = absurd (from-done-inside (mode.Braces true) o s q k i u h d)
peeled-nil (mode.Braces false) t o s q k cs ts i u e h d g = absurd (from-done-inside (mode.Braces false) o s q k i u h d)
peeled-nil (mode.Arith n) t o s q k cs ts i u e h d g = absurd (from-done-inside (mode.Arith n) o s q k i u h d)
peeled-nil mode.Body t o s q k cs ts i u e h d g = absurd (from-done-inside mode.Body o s q k i u h d)
peeled-nil m t o s q k cs ts i u e h d g = absurd i

peeled : {tight : Bool} (m : Mode) (t : List ℕ) (o : List (Option (List ℕ))) (y : List ℕ) (s : Token) (q : Source) (k : Token) (cs : Source) (ts : List Token) →
    IsInWord m → IsUsual m k → peel t ≡ y → Firm y → in_source o (inner m y) ≡ found s q → Reads s k → SameIf tight (mode_after m k) q cs ts → (IsLone k → q.text ≡ [] → tight ≡ true) → SameIf tight m (source t o) (before k cs) (k ∷ ts)
peeled m t o [] s q k cs ts i u e a h d g w = peeled-nil m t o s q k cs ts i u e h d g
peeled mode.Word t o (b ∷ x) s q k cs ts i u e a h d g w = word-goes t o b x (delimits b) s q k cs ts u e a refl h d g w
peeled mode.Quotes t o (b ∷ x) s q k cs ts i u e a h d g w = goes-on mode.Quotes t o b x s q k cs ts i tt u e a h d g w
peeled (mode.Braces n) t o (b ∷ x) s q k cs ts i u e a h d g w = goes-on (mode.Braces n) t o b x s q k cs ts i tt u e a h d g w
peeled (mode.Arith n) t o (b ∷ x) s q k cs ts i u e a h d g w = goes-on (mode.Arith n) t o b x s q k cs ts i tt u e a h d g w
peeled mode.Body t o (b ∷ x) s q k cs ts i u e a h d g w = goes-on mode.Body t o b x s q k cs ts i tt u e a h d g w
peeled m t o (b ∷ x) s q k cs ts i u e a h d g w = absurd i

pub step-inside : {tight : Bool} (m : Mode) (p : Source) (s : Token) (q : Source) (k : Token) (cs : Source) (ts : List Token) →
    IsInWord m → IsUsual m k → next m p ≡ found s q → Reads s k → SameIf tight (mode_after m k) q cs ts → (IsLone k → q.text ≡ [] → tight ≡ true) → SameIf tight m p (before k cs) (k ∷ ts)
step-inside m p s q k cs ts i u e d g w = peeled m p.text p.outer (peel p.text) s q k cs ts i u refl (peel-is_firm p.text) (sym (ap (in_source p.outer) (lex-inside m p.text i)) ∙ e) d g w

-- ---- all tokens

pub step : {tight : Bool} (m : Mode) (p : Source) (s : Token) (q : Source) (k : Token) (cs : Source) (ts : List Token) →
    IsKnown m → IsUsual m k → next m p ≡ found s q → Reads s k → SameIf tight (mode_after m k) q cs ts → (IsLone k → q.text ≡ [] → tight ≡ true) → SameIf tight m p (before k cs) (k ∷ ts)
step m p s q k cs ts (inl i) u e d g w = step-between m p s q k cs ts i u e d g w
step m p s q k cs ts (inr i) u e d g w = step-inside m p s q k cs ts i u e d g w

finished : (m : Mode) (t : List ℕ) (o : List (Option (List ℕ))) (l : Lexed) → IsBetween m → lex m t ≡ l → in_source o l ≡ ended → Same m (source t o) (source [] []) []
finished m t o (got s r) i e f = absurd cc
finished m t o (opens s x r) i e f = absurd cc
finished m t o (bad y) i e f = absurd cc
finished m t [] done i e f = all-end m t i e
finished m t (None ∷ o) done i e f = absurd cc
finished m t (Some r ∷ o) done i e f = absurd cc

pub finish : (m : Mode) (p : Source) → IsBetween m → next m p ≡ ended → Same m p (source [] []) []
finish m p i e = finished m p.text p.outer (lex m p.text) i refl e

pub respelled : (ts : List Token) (m : Mode) (p : Source) → IsTidy m ts → Lexes m p ts → Same m p (source_of ts) ts
respelled [] m p y l = finish m p y l
respelled (k ∷ ts) m p y l = step m p l.0 l.1 k (source_of ts) ts y.0 y.1 l.2 l.3 (respelled ts (mode_after m k) l.1 y.2 l.4) (λ e n. refl)

-- ---- a whole text

same-source-at : (x : List ℕ) (o : List (Option (List ℕ))) → Outers [] o → source x o ≡ source x []
same-source-at x [] u = refl
same-source-at x (None ∷ o) u = absurd u
same-source-at x (Some r ∷ o) u = absurd u

same-source : (q : Source) → Outers [] q.outer → q ≡ source q.text []
same-source q u = same-source-at q.text q.outer u

pub tokens-read : (ts : List Token) (other : List ℕ) → IsTidy mode.Command ts → Lexes mode.Command (source other []) ts → Lexes mode.Command (source (source_of ts).text []) ts
tokens-read ts other y l = let s = respelled ts mode.Command (source other []) y l in
    subst (λ (q : Source). Lexes mode.Command q ts) (same-source (source_of ts) s.outers) s.lexed
