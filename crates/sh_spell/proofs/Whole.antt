-- Tokens that are read from a text are read again from the text that is written of them.
use Rattle.std.proofs.Common.{◌≡◌, ℕ, Bool, true, false, ◌==◌, List, [], ◌∷◌, ◌++◌, Option, Some, None, refl, ap, sym, ◌∙◌, subst}
use Rattle.std.proofs.lemmas.Bool.{eqb-true}
use Rattle.sh_lexer.specs.declared.token.Token.{Token}
use Rattle.sh_lexer.specs.declared.token.Token.TheVariants as token
use Rattle.sh_lexer.specs.declared.token.Op.{Op}
use Rattle.sh_lexer.specs.declared.token.Op.TheVariants as op
use Rattle.sh_lexer.specs.declared.token.Bit.{Bit}
use Rattle.sh_lexer.specs.declared.token.Bit.TheVariants as bit
use Rattle.sh_lexer.specs.declared.token.Opener.TheVariants as opener
use Rattle.sh_lexer.specs.declared.token.End.{End}
use Rattle.sh_lexer.specs.declared.token.End.TheVariants as end
use Rattle.sh_lexer.specs.declared.token.Mode.{Mode}
use Rattle.sh_lexer.specs.declared.token.Mode.TheVariants as mode
use Rattle.sh_lexer.specs.Bytes.{skip, peel, ends_word}
use Rattle.sh_lexer.specs.Modes.{Reads, as_seen, ends, ends_list, delimits as delimited_by, is_body, opens_pattern, parts_patterns, in_of_case, mode_after, after_op}
use Rattle.sh_lexer.specs.Lex as spec
use Rattle.sh_lexer.specs.Lex.{Lexed, got, opens, done, bad, lex, opens_parenthesis}
use Rattle.sh_lexer.specs.Lexes.{Lexes, Source, source, in_source}
use Rattle.sh_spell.specs.Layout.{token_text, left, written, gap}
use Rattle.sh_spell.specs.Tidy.{IsBetween, IsInWord, IsUsual}
use Rattle.sh_spell.proofs.Cases.{takes_if}
use Rattle.sh_spell.proofs.Runs.{Apart, apart, Firm, peel-firm}
use Rattle.sh_spell.proofs.Heads.{Heads, Meets, IsLast, IsClean, AfterEnd, word_head, ends_sum}
use Rattle.sh_spell.proofs.Bits.{Written}
use Rattle.sh_spell.proofs.Starts.{Start, skip-fixed, skip-blank}
use Rattle.sh_spell.proofs.Redirects.{Begun}
use Rattle.sh_spell.proofs.Steps.{behind_blank, behind_gap, lex-between, lex-inside, inner, IsGoing, IsArith, heads-between, heads-inside}

-- The texts round one another are cut out alike.
abbrev pub Outers : List (Option (List ℕ)) → List (Option (List ℕ)) → Type 0
Outers [] [] = Unit {0}
Outers (Some r ∷ a) (Some c ∷ b) = Outers a b
Outers a b = ⊥

-- The tokens are read from the second source, which goes on as the first does. It ends where the first one ends, if it is tight.
pub record SameIf (tight : Bool) (m : Mode) (p q : Source) (ts : List Token) : Type 0 where
  pub lexed : Lexes m q ts
  pub heads : Heads m p.text q.text
  pub outers : Outers p.outer q.outer
  pub last : tight ≡ true → p.text ≡ [] → q.text ≡ []

abbrev pub Same : Mode → Source → Source → List Token → Type 0
Same m p q ts = SameIf true m p q ts

-- a backslash that stands for itself
abbrev pub IsLone : Token → Type 0
IsLone (token.Part (bit.Piece x)) = x ≡ 92 ∷ []
IsLone t = ⊥

-- ---- tokens that are written as themselves

-- No text that is cut out begins or ends.
abbrev pub IsFlat : Token → Type 0
IsFlat (token.Open opener.Backquote m) = ⊥
IsFlat (token.End end.Text m) = ⊥
IsFlat t = Unit {0}

after_op-between : (o : Op) → IsBetween (after_op o)
after_op-between op.Case = tt
after_op-between op.For = tt
after_op-between op.In = tt
after_op-between op.PipePattern = tt
after_op-between op.DoubleSemi = tt
after_op-between op.CaseIn = tt
after_op-between op.OpenPattern = tt
after_op-between o = tt

-- behind what is left after a token
behind_left : (m : Mode) (t : Token) (c : List ℕ) (o : List (Option (List ℕ))) (ts : List Token) → IsUsual m t → Lexes (mode_after m t) (source c o) ts → Lexes (mode_after m t) (source (left t c) o) ts
behind_left m (token.Operator x) c o ts u h = behind_blank (after_op x) c o ts (after_op-between x) h
behind_left m (token.Part b) c o ts u h = h
behind_left m (token.Param x l) c o ts u h = h
behind_left m (token.Open opener.Double n) c o ts u h = h
behind_left m (token.Open (opener.Braces x k q r) n) c o ts u h = h
behind_left m (token.Open opener.Command n) c o ts u h = behind_blank mode.Command c o ts tt h
behind_left m (token.Open opener.Arith n) c o ts u h = h
behind_left m (token.Open opener.Backquote n) c o ts u h = h
behind_left m (token.End end.Word n) c o ts u h = behind_gap n c o ts u h
behind_left m (token.End end.Quote n) c o ts u h = h
behind_left m (token.End end.Brace n) c o ts u h = h
behind_left m (token.End end.Arith n) c o ts u h = h
behind_left m (token.End end.List n) c o ts u h = h
behind_left m (token.End end.Text n) c o ts u h = h
behind_left m (token.End end.Newline n) c o ts u h = h
behind_left m (token.Assign x) c o ts u h = h
behind_left m (token.Redirect fd x) c o ts u h = behind_blank mode.Arguments c o ts tt h
behind_left m (token.Here fd s) c o ts u h = absurd u
behind_left m (token.Delimiter x q n) c o ts u h = absurd u
behind_left m token.Body c o ts u h = absurd u
behind_left m (token.Verbatim x n) c o ts u h = absurd u
behind_left m (token.Function x) c o ts u h = behind_blank mode.Arguments c o ts tt h

-- The seen token is written as the one that it is read as.
abbrev pub AsRead : Token → Token → Type 0
AsRead s t = (token_text t ≡ token_text s) × ((c : List ℕ) → left t c ≡ left s c)

-- A `)` may be read as the end of a list.
pub data ReadAs : Token → Token → Type 0 where
  alike : {s t : Token} → Reads s t → AsRead s t → ((m : Mode) (r c : List ℕ) → Heads (mode_after m t) r c → (IsLone t → r ≡ [] → c ≡ []) → Meets m s r c) → ReadAs s t
  of_list : {n : Mode} → ReadAs (token.Operator op.Close) (token.End end.List n)

end-left : (e : End) (m n : Mode) (c : List ℕ) → left (token.End e n) c ≡ left (token.End e m) c
end-left end.Word m n c = refl
end-left end.Quote m n c = refl
end-left end.Brace m n c = refl
end-left end.Arith m n c = refl
end-left end.List m n c = refl
end-left end.Text m n c = refl
end-left end.Newline m n c = refl

last-of : (b : Bit) (r c : List ℕ) → (IsLone (token.Part b) → r ≡ [] → c ≡ []) → IsLast b r c
last-of (bit.Piece x) r c l = l
last-of (bit.Sum x n) r c l = tt
last-of (bit.Escaped b) r c l = tt
last-of (bit.Single x) r c l = tt
last-of (bit.Value x) r c l = tt

meets-seen : (t : Token) (m : Mode) (r c : List ℕ) → Heads (mode_after m t) r c → (IsLone t → r ≡ [] → c ≡ []) → Meets m t r c
meets-seen (token.Part b) m r c h l = (h, last-of b r c l)
meets-seen (token.Open o n) m r c h l = h
meets-seen (token.Function x) m r c h l = h
meets-seen (token.Operator o) m r c h l = tt
meets-seen (token.Param x p) m r c h l = tt
meets-seen (token.End e n) m r c h l = tt
meets-seen (token.Assign x) m r c h l = tt
meets-seen (token.Redirect fd o) m r c h l = tt
meets-seen (token.Here fd s) m r c h l = tt
meets-seen (token.Delimiter x q n) m r c h l = tt
meets-seen token.Body m r c h l = tt
meets-seen (token.Verbatim x n) m r c h l = tt

pub read-as : {s t : Token} (m : Mode) → IsUsual m t → Reads s t → ReadAs s t
read-as m u (as_seen {t}) = alike as_seen (refl, λ c. refl) (λ m r c h l. meets-seen t m r c h l)
read-as m u (ends {e} {m = a} {n = b}) = alike ends (refl, λ c. end-left e a b c) (λ m r c h l. tt)
read-as m u ends_list = of_list
read-as m u delimited_by = absurd u
read-as m u is_body = absurd u
read-as m u opens_pattern = alike opens_pattern (refl, λ c. refl) (λ m r c h l. tt)
read-as m u parts_patterns = alike parts_patterns (refl, λ c. refl) (λ m r c h l. tt)
read-as m u in_of_case = alike in_of_case (refl, λ c. refl) (λ m r c h l. tt)

-- ---- between words

pub empty-skip : (t : List ℕ) (b : ℕ) (r : List ℕ) → skip t ≡ b ∷ r → t ≡ [] → ⊥
unfolding skip
empty-skip t b r e x = let k : skip t ≡ [] = ap skip x in let j : [] ≡ b ∷ r = sym k ∙ e in absurd cc

pub empty-peel : (t : List ℕ) (b : ℕ) (r : List ℕ) → peel t ≡ b ∷ r → t ≡ [] → ⊥
unfolding peel
empty-peel t b r e x = let k : peel t ≡ [] = ap peel x in let j : [] ≡ b ∷ r = sym k ∙ e in absurd cc

pub lex-at : (m : Mode) (b : ℕ) (c : List ℕ) → IsBetween m → Start (b ∷ c) → lex m (b ∷ c) ≡ spec.between m (b ∷ c)
lex-at m b c i s = lex-between m (b ∷ c) i ∙ ap (spec.between m) (skip-fixed (b ∷ c) s)

-- the text of a token that is read as another
text-as : (s t : Token) (d : ℕ) (w c : List ℕ) → AsRead s t → token_text s ≡ d ∷ w → d ∷ (w ++ left s c) ≡ written t c
text-as s t d w c a e = ap (λ (x : List ℕ). x ++ left s c) (sym e ∙ sym a.0) ∙ ap (λ (x : List ℕ). token_text t ++ x) (sym (a.1 c))

pub between-alike : {tight : Bool} (m : Mode) (t r : List ℕ) (o : List (Option (List ℕ))) (b : ℕ) (x : List ℕ) (s k : Token) (c : List ℕ) (p : List (Option (List ℕ))) (ts : List Token) →
    IsBetween m → IsUsual m k → skip t ≡ b ∷ x → Begun m b s r → Reads s k → AsRead s k → Meets m s r c → SameIf tight (mode_after m k) (source r o) (source c p) ts →
    SameIf tight m (source t o) (source (written k c) p) (k ∷ ts)
between-alike {tight} m t r o b x s k c p ts i u e z d a y g =
    let st : Start (z.byte ∷ (z.rest ++ left s c)) = (z.no_blank, z.no_comment, z.firm c y) in
    let w : z.byte ∷ (z.rest ++ left s c) ≡ written k c = text-as s k z.byte z.rest c a z.text in
    subst (λ (y : List ℕ). SameIf tight m (source t o) (source y p) (k ∷ ts)) w (record {
      lexed = (
        s,
        source (left s c) p,
        ap (in_source p) (lex-at m z.byte (z.rest ++ left s c) i st ∙ z.again c y),
        d,
        subst (λ (y : List ℕ). Lexes (mode_after m k) (source y p) ts) (a.1 c) (behind_left m k c p ts u g.lexed),
      );
      heads = heads-between m t b z.byte x (z.rest ++ left s c) i e z.opens st;
      outers = g.outers;
      last = λ j q. absurd (empty-skip t b x e q);
    })

close-byte : (d : ℕ) (w : List ℕ) → 41 ∷ [] ≡ d ∷ w → d ≡ 41
close-byte d w e = cc

between-close : (m : Mode) (c : List ℕ) → IsBetween m → spec.between m (41 ∷ c) ≡ got (token.Operator op.Close) c
unfolding spec.between
between-close m c i = refl

pub between-list : {tight : Bool} (m n : Mode) (t r : List ℕ) (o : List (Option (List ℕ))) (b : ℕ) (x c : List ℕ) (p : List (Option (List ℕ))) (ts : List Token) →
    IsBetween m → skip t ≡ b ∷ x → Begun m b (token.Operator op.Close) r → SameIf tight n (source r o) (source c p) ts →
    SameIf tight m (source t o) (source (41 ∷ c) p) (token.End end.List n ∷ ts)
between-list m n t r o b x c p ts i e z g =
    let st : Start (41 ∷ c) = (refl, refl, apart 41 c refl) in record {
      lexed = (token.Operator op.Close, source c p, ap (in_source p) (lex-at m 41 c i st ∙ between-close m c i), ends_list, g.lexed);
      heads = heads-between m t b 41 x c i e (z.opens ∙ ap (λ q. q == 40) (close-byte z.byte z.rest z.text)) st;
      outers = g.outers;
      last = λ j q. absurd (empty-skip t b x e q);
    }

-- ---- in words

pub lex-inner-at : (m : Mode) (b : ℕ) (c : List ℕ) → IsInWord m → Apart b c → lex m (b ∷ c) ≡ inner m (b ∷ c)
lex-inner-at m b c i a = lex-inside m (b ∷ c) i ∙ ap (inner m) (peel-firm (b ∷ c) a)

pub inner-alike : {tight : Bool} (m : Mode) (t r : List ℕ) (o : List (Option (List ℕ))) (b : ℕ) (x : List ℕ) (s k : Token) (c : List ℕ) (p : List (Option (List ℕ))) (ts : List Token) →
    IsInWord m → IsGoing m b → IsUsual m k → peel t ≡ b ∷ x → (z : Written m b (inner m) s r) → Reads s k → AsRead s k → Meets m s r c →
    (IsArith m → ends_sum (b ∷ x) ≡ ends_sum (b ∷ (z.rest ++ left s c))) → SameIf tight (mode_after m k) (source r o) (source c p) ts →
    SameIf tight m (source t o) (source (written k c) p) (k ∷ ts)
inner-alike {tight} m t r o b x s k c p ts i j u e z d a y f g =
    let w : b ∷ (z.rest ++ left s c) ≡ written k c = text-as s k b z.rest c a z.text in
    subst (λ (y : List ℕ). SameIf tight m (source t o) (source y p) (k ∷ ts)) w (record {
      lexed = (
        s,
        source (left s c) p,
        ap (in_source p) (lex-inner-at m b (z.rest ++ left s c) i (z.firm c y) ∙ z.again c y),
        d,
        subst (λ (y : List ℕ). Lexes (mode_after m k) (source y p) ts) (a.1 c) (behind_left m k c p ts u g.lexed),
      );
      heads = heads-inside m t b x (z.rest ++ left s c) i j e (z.firm c y) f;
      outers = g.outers;
      last = λ j q. absurd (empty-peel t b x e q);
    })

-- ---- the end of a word

pub gap-firm : (c : List ℕ) → Firm (gap c)
gap-firm [] = tt
gap-firm (b ∷ r) = apart 32 (b ∷ r) refl

gap-ends : (c : List ℕ) → ends_word (gap c) ≡ true
gap-ends [] = refl
gap-ends (b ∷ r) = refl

gap-skip : (c : List ℕ) → skip (gap c) ≡ skip c
gap-skip [] = refl
gap-skip (b ∷ r) = skip-blank (b ∷ r)

gap-clean : (c : List ℕ) → IsClean mode.Word (gap c)
gap-clean [] = tt
gap-clean (b ∷ r) = λ h. refl

gap-after : (c : List ℕ) → AfterEnd mode.Word (gap c)
gap-after [] = tt
gap-after (b ∷ r) = λ i. (refl, tt)

pub in_word-ends : (t : List ℕ) → ends_word t ≡ true → spec.in_word t ≡ spec.ends end.Word t
unfolding spec.in_word
in_word-ends t e = takes_if (ends_word t) _ _ e

pub heads-opens : (n : Mode) (r c : List ℕ) → IsBetween n → Heads n r c → opens_parenthesis (skip r) ≡ opens_parenthesis (skip c)
heads-opens mode.Command r c i h = ap (λ (x : Option ℕ × Bool). x.1) h.same
heads-opens mode.Prefix r c i h = ap (λ (x : Option ℕ × Bool). x.1) h.same
heads-opens mode.Arguments r c i h = ap (λ (x : Option ℕ × Bool). x.1) h.same
heads-opens mode.Pattern r c i h = ap (λ (x : Option ℕ × Bool). x.1) h.same
heads-opens n r c i h = absurd i

ended-first : (t : List ℕ) → ends_word t ≡ true → word_head t ≡ (None, opens_parenthesis (skip t))
ended-first [] e = refl
ended-first (b ∷ r) e = rw e refl

peel-nil : (t : List ℕ) → t ≡ [] → peel t ≡ []
unfolding peel
peel-nil [] e = refl
peel-nil (b ∷ r) e = absurd cc

pub word-end : {tight : Bool} (n : Mode) (t : List ℕ) (o : List (Option (List ℕ))) (c : List ℕ) (p : List (Option (List ℕ))) (ts : List Token) →
    IsBetween n → ends_word (peel t) ≡ true → SameIf tight n (source (peel t) o) (source c p) ts → SameIf tight mode.Word (source t o) (source (gap c) p) (token.End end.Word n ∷ ts)
word-end n t o c p ts i e g = record {
  lexed = (token.End end.Word mode.Command, source (gap c) p, ap (in_source p) (ap spec.in_word (peel-firm (gap c) (gap-firm c)) ∙ in_word-ends (gap c) (gap-ends c)), ends, behind_gap n c p ts i g.lexed);
  heads = record {
    same = ended-first (peel t) e ∙ (ap (λ x. (None, x)) (heads-opens n (peel t) c i g.heads ∙ ap opens_parenthesis (sym (gap-skip c)))
        ∙ sym (ap word_head (peel-firm (gap c) (gap-firm c)) ∙ ended-first (gap c) (gap-ends c)));
    firm = gap-firm c;
    clean = gap-clean c;
    empty = λ x. gap-after c;
    inside = tt;
  };
  outers = g.outers;
  last = λ j x. ap gap (g.last j (peel-nil t x));
}

-- ---- the end of a text that was cut out

open-between : (m : Mode) (r : List ℕ) → spec.between m (40 ∷ r) ≡ got (token.Operator op.Open) r
unfolding spec.between
open-between m r = refl

open-at : (m : Mode) (b : ℕ) (r : List ℕ) (q : Bool) → (b == 40) ≡ q → spec.between m (b ∷ r) ≡ done → q ≡ false
open-at m b r true g e =
    let k : got (token.Operator op.Open) r ≡ done = sym (open-between m r) ∙ (ap (λ n. spec.between m (n ∷ r)) (sym (eqb-true b 40 g)) ∙ e) in absurd cc
open-at m b r false g e = refl

pub done-opens-at : (m : Mode) (t : List ℕ) → spec.between m t ≡ done → opens_parenthesis t ≡ false
unfolding spec.between
done-opens-at m [] e = refl
done-opens-at m (b ∷ r) e = open-at m b r (b == 40) refl e

pub nil-done : (m : Mode) → IsBetween m → lex m [] ≡ done
unfolding skip spec.between
nil-done mode.Command i = refl
nil-done mode.Prefix i = refl
nil-done mode.Arguments i = refl
nil-done mode.Pattern i = refl
nil-done m i = absurd i

heads-nil : (m : Mode) (t : List ℕ) → IsBetween m → opens_parenthesis (skip t) ≡ false → Heads m t []
unfolding skip
heads-nil mode.Command t i e = record { same = ap (λ x. (None, x)) e; firm = tt; clean = tt; empty = λ x. tt; inside = tt }
heads-nil mode.Prefix t i e = record { same = ap (λ x. (None, x)) e; firm = tt; clean = tt; empty = λ x. tt; inside = tt }
heads-nil mode.Arguments t i e = record { same = ap (λ x. (None, x)) e; firm = tt; clean = tt; empty = λ x. tt; inside = tt }
heads-nil mode.Pattern t i e = record { same = ap (λ x. (None, x)) e; firm = tt; clean = tt; empty = λ x. tt; inside = tt }
heads-nil m t i e = absurd i

pub text-end : {tight : Bool} (m n : Mode) (t r : List ℕ) (o : List (Option (List ℕ))) (c : List ℕ) (p : List (Option (List ℕ))) (ts : List Token) →
    IsBetween m → lex m t ≡ done → SameIf tight n (source r o) (source c p) ts → SameIf tight m (source t (Some r ∷ o)) (source [] (Some c ∷ p)) (token.End end.Text n ∷ ts)
text-end m n t r o c p ts i e g = record {
  lexed = (token.End end.Text mode.Command, source c p, ap (in_source (Some c ∷ p)) (nil-done m i), ends, g.lexed);
  heads = heads-nil m t i (done-opens-at m (skip t) (sym (lex-between m t i) ∙ e));
  outers = g.outers;
  last = λ j x. refl;
}

pub all-end : (m : Mode) (t : List ℕ) → IsBetween m → lex m t ≡ done → Same m (source t []) (source [] []) []
all-end m t i e = record {
  lexed = ap (in_source []) (nil-done m i);
  heads = heads-nil m t i (done-opens-at m (skip t) (sym (lex-between m t i) ∙ e));
  outers = tt;
  last = λ j x. refl;
}
