-- Tokens in words are read again.
use Rattle.std.proofs.Common.{◌≡◌, ℕ, Bool, true, false, ◌==◌, ◌&&◌, ◌||◌, List, [], ◌∷◌, ◌++◌, Option, refl, ap, sym, ◌∙◌, subst, ◌⊎◌, inl, inr, arith}
use Rattle.std.proofs.lemmas.Bool.{eqb-true}
use Rattle.sh_lexer.specs.declared.token.Token.TheVariants as token
use Rattle.sh_lexer.specs.declared.token.Opener.TheVariants as opener
use Rattle.sh_lexer.specs.declared.token.End.TheVariants as end
use Rattle.sh_lexer.specs.declared.token.Mode.TheVariants as mode
use Rattle.sh_lexer.specs.Bytes.{peel, special, plain, quoted_plain, braces_plain, quoted_braces_plain, body_plain, delimits}
use Rattle.sh_lexer.specs.Lex as spec
use Rattle.sh_lexer.specs.Lex.{Lexed, got, opens, done, bad, sum, closes}
use Rattle.sh_spell.specs.Layout.{token_text, left}
use Rattle.sh_spell.proofs.Cases.{chosen_if, takes_if, passes_if, both, either_if, at}
use Rattle.sh_spell.proofs.Runs.{Apart, apart, ordinary_apart, Firm, peel-firm, Ordinary}
use Rattle.sh_spell.proofs.Heads.{Heads, Meets, ends_sum, After, after}
use Rattle.sh_spell.proofs.Bits.{Once, special-once, escaped_if-slash, run-once, bit-once, no_nul}
use Rattle.sh_spell.proofs.Totals.{Halts, EndsTotal, total-again, total-stops, begun-total, no-halt, seconds}

-- ---- classes

pub plain-ordinary : Ordinary plain
unfolding special
plain-ordinary b e = grind arith

quoted-ordinary : Ordinary quoted_plain
unfolding special
quoted-ordinary b e = grind arith

braces-ordinary : Ordinary braces_plain
unfolding special
braces-ordinary b e = grind arith

quoted_braces-ordinary : Ordinary quoted_braces_plain
unfolding special
quoted_braces-ordinary b e = grind arith

body-ordinary : Ordinary body_plain
unfolding special
body-ordinary b e = grind arith

-- A special byte is another than one that isn't.
pub other-at : (d n : ℕ) (q : Bool) → (d == n) ≡ q → special n ≡ false → special d ≡ true → (d == n) ≡ false
other-at d n true g e f = let h = ap special (eqb-true d n g) in absurd cc
other-at d n false g e f = g

pub special-is : (P : ℕ → Type 0) → P 0 → P 36 → P 92 → P 96 → (b : ℕ) → special b ≡ true → P b
unfolding special
special-is P p1 p2 p3 p4 b o =
    either_if P (b == 0 || b == 36 || b == 92) (b == 96) b (λ o.
    either_if P (b == 0 || b == 36) (b == 92) b (λ o.
    either_if P (b == 0) (b == 36) b (at P b 0 p1) (at P b 36 p2) o)
    (at P b 92 p3) o) (at P b 96 p4) o

pub other : (d n : ℕ) → special n ≡ false → special d ≡ true → (d == n) ≡ false
other d n e f = other-at d n (d == n) refl e f

not_brace : (d b : ℕ) → (b == 125) ≡ false → (special d ≡ true) ⊎ (d ≡ b) → (k : List ℕ) → spec.in_plain_braces (d ∷ k) ≡ spec.bit_at (mode.Braces false) braces_plain (d ∷ k)
unfolding spec.in_plain_braces special
not_brace d b e (inl f) k = passes_if (d == 125) _ _ (other d 125 refl f)
not_brace d b e (inr f) k = passes_if (d == 125) _ _ (ap (λ n. n == 125) f ∙ e)

pub special-in_word : (d : ℕ) → special d ≡ true → delimits d ≡ false
unfolding special
special-in_word d e = special-is (λ n. delimits n ≡ false) refl refl refl refl d e

not_delimiter : (d b : ℕ) → delimits b ≡ false → (special d ≡ true) ⊎ (d ≡ b) → (k : List ℕ) → spec.in_word (d ∷ k) ≡ spec.bit_at mode.Word plain (d ∷ k)
unfolding spec.in_word
not_delimiter d b e (inl f) k = passes_if (delimits d) _ _ (special-in_word d f)
not_delimiter d b e (inr f) k = passes_if (delimits d) _ _ (ap delimits f ∙ e)

zero-is : (n : ℕ) (x : Bool) → (n == 0 && x) ≡ true → (n == 0 && true) ≡ true
zero-is n x e = rw (both (n == 0) x e).0 refl

-- ---- double quotes

pub quotes-once : (b : ℕ) (r : List ℕ) → Apart b r → Once mode.Quotes b spec.in_quotes (spec.in_quotes (b ∷ r))
unfolding spec.in_quotes spec.special_at special
quotes-once b r a = let P = λ (l : Lexed). Once mode.Quotes b spec.in_quotes l in
    chosen_if P (special b)
    (λ e. special-once mode.Quotes spec.in_quotes (spec.escaped_if spec.quotes_escapable) b r tt refl (λ k. refl) (λ k. refl) (λ k. refl)
    (λ q. escaped_if-slash mode.Quotes spec.quotes_escapable r tt refl refl refl (subst (λ (n : ℕ). Apart n r) q a)))
    (λ e. chosen_if P (b == 34)
    (λ h. subst (λ (n : ℕ). Once mode.Quotes n spec.in_quotes (spec.ends end.Quote r)) (sym (eqb-true b 34 h))
    (record { rest = []; text = refl; again = λ c x. refl; firm = λ c x. apart 34 c refl }))
    (λ h. let g : quoted_plain b ≡ true = rw (e, h) refl in
    run-once mode.Quotes quoted_plain spec.in_quotes b r tt refl quoted-ordinary (λ i. absurd i) g (λ k. passes_if (special b) _ _ e ∙ passes_if (b == 34) _ _ h)))

-- ---- the word of `${x-`

pub quoted_braces-once : (b : ℕ) (r : List ℕ) → Apart b r → Once (mode.Braces true) b spec.in_quoted_braces (spec.in_quoted_braces (b ∷ r))
unfolding spec.in_quoted_braces spec.special_at special
quoted_braces-once b r a = let P = λ (l : Lexed). Once (mode.Braces true) b spec.in_quoted_braces l in
    chosen_if P (special b)
    (λ e. special-once (mode.Braces true) spec.in_quoted_braces (spec.escaped_if spec.braces_escapable) b r tt refl (λ k. refl) (λ k. refl) (λ k. refl)
    (λ q. escaped_if-slash (mode.Braces true) spec.braces_escapable r tt refl refl refl (subst (λ (n : ℕ). Apart n r) q a)))
    (λ e. chosen_if P (b == 125)
    (λ h. subst (λ (n : ℕ). Once (mode.Braces true) n spec.in_quoted_braces (spec.ends end.Brace r)) (sym (eqb-true b 125 h))
    (record { rest = []; text = refl; again = λ c x. refl; firm = λ c x. apart 125 c refl }))
    (λ h. chosen_if P (b == 34)
    (λ j. subst (λ (n : ℕ). Once (mode.Braces true) n spec.in_quoted_braces (got (token.Open opener.Double (mode.Braces true)) r)) (sym (eqb-true b 34 j))
    (record { rest = []; text = refl; again = λ c x. refl; firm = λ c x. apart 34 c refl }))
    (λ j. let g : quoted_braces_plain b ≡ true = rw (e, h, j) refl in
    run-once (mode.Braces true) quoted_braces_plain spec.in_quoted_braces b r tt refl quoted_braces-ordinary (λ i. absurd i) g
    (λ k. passes_if (special b) _ _ e ∙ (passes_if (b == 125) _ _ h ∙ passes_if (b == 34) _ _ j)))))

pub plain_braces-once : (b : ℕ) (r : List ℕ) → Apart b r → Once (mode.Braces false) b spec.in_plain_braces (spec.in_plain_braces (b ∷ r))
unfolding spec.in_plain_braces
plain_braces-once b r a = let P = λ (l : Lexed). Once (mode.Braces false) b spec.in_plain_braces l in
    chosen_if P (b == 125)
    (λ h. subst (λ (n : ℕ). Once (mode.Braces false) n spec.in_plain_braces (spec.ends end.Brace r)) (sym (eqb-true b 125 h))
    (record { rest = []; text = refl; again = λ c x. refl; firm = λ c x. apart 125 c refl }))
    (λ h. bit-once (mode.Braces false) braces_plain spec.in_plain_braces b r tt refl braces-ordinary (λ i. absurd i) a
    (λ d. not_brace d b h))

pub braces-once : (q : Bool) (b : ℕ) (r : List ℕ) → Apart b r → Once (mode.Braces q) b (spec.in_word_of q) (spec.in_word_of q (b ∷ r))
braces-once true b r a = quoted_braces-once b r a
braces-once false b r a = plain_braces-once b r a

-- ---- words

pub word-once : (b : ℕ) (r : List ℕ) → Apart b r → delimits b ≡ false → Once mode.Word b spec.in_word (spec.in_word (b ∷ r))
unfolding spec.in_word
word-once b r a e = chosen_if (λ (l : Lexed). Once mode.Word b spec.in_word l) (delimits b) (λ h. absurd cc)
    (λ h. bit-once mode.Word plain spec.in_word b r tt refl plain-ordinary (λ i. refl) a (λ d. not_delimiter d b h))

-- ---- the body of a here-document

pub body-once : (b : ℕ) (r : List ℕ) → Apart b r → Once mode.Body b spec.in_body (spec.in_body (b ∷ r))
unfolding spec.in_body spec.special_at special
body-once b r a = let P = λ (l : Lexed). Once mode.Body b spec.in_body l in
    chosen_if P (special b)
    (λ e. special-once mode.Body spec.in_body (spec.escaped_if spec.escapable) b r tt refl (λ k. refl) (λ k. refl) (λ k. refl)
    (λ q. escaped_if-slash mode.Body spec.escapable r tt refl refl refl (subst (λ (n : ℕ). Apart n r) q a)))
    (λ e. let g : body_plain b ≡ true = rw e refl in
    run-once mode.Body body_plain spec.in_body b r tt refl body-ordinary (λ i. absurd i) g (λ k. passes_if (special b) _ _ e))

-- ---- arithmetic

arith_ends : (n : ℕ) (r : List ℕ) → (41 == 41 && (n == 0 && closes (peel r))) ≡ true → Once (mode.Arith n) 41 (spec.in_arith n) (spec.ends end.Arith (spec.after_first (peel r)))
unfolding spec.in_arith special
arith_ends n r e = record {
  rest = 41 ∷ [];
  text = refl;
  again = λ c x. takes_if (41 == 41 && (n == 0 && closes (peel (41 ∷ c)))) _ _ (ap (λ (t : List ℕ). n == 0 && closes t) (peel-firm (41 ∷ c) (apart 41 c refl)) ∙ zero-is n (closes (peel r)) e)
      ∙ ap (λ (t : List ℕ). spec.ends end.Arith (spec.after_first t)) (peel-firm (41 ∷ c) (apart 41 c refl));
  firm = λ c x. apart 41 (41 ∷ c) refl;
}

-- What ends a run ends it also where another text goes on.
halts-again : (n b : ℕ) (r c : List ℕ) → Halts n b r → (b == 41 && closes (peel r)) ≡ (b == 41 && closes (peel c)) → Halts n b c
halts-again n b r c (inl s) e = inl s
halts-again n b r c (inr h) e =
    let x = both (b == 41) (n == 0 && closes (peel r)) h.2 in let y = both (n == 0) (closes (peel r)) x.1 in
    let k : closes (peel c) ≡ true = (both (b == 41) (closes (peel c)) (sym e ∙ rw (x.0, y.1) refl)).1 in
    inr (h.0, h.1, rw (x.0, y.0, k) refl)

ends-at : (n b : ℕ) (r c : List ℕ) → After (mode.Arith n) b c → Firm c → Halts n b r → ends_sum (b ∷ r) ≡ ends_sum c → EndsTotal n c
ends-at n b r [] a f h e = absurd a
ends-at n b r (d ∷ c) (inl g) f h e = (subst (λ (x : ℕ). Halts n x c) (sym g) (halts-again n b r c h (e ∙ ap (λ (x : ℕ). x == 41 && closes (peel c)) g)), f)
ends-at n b r (d ∷ c) (inr g) f h e = absurd g.1

sums : (n b : ℕ) (r c : List ℕ) → Apart b r → Heads (mode.Arith n) (b ∷ r) c → ends_sum (b ∷ r) ≡ ends_sum c
sums n b r c a h = sym (ap ends_sum (peel-firm (b ∷ r) a)) ∙ (ap (λ (x : Option ℕ × Bool). x.1) h.same ∙ ap ends_sum (peel-firm c h.firm))

ends-again : (n : ℕ) (r c : List ℕ) → Heads (mode.Arith n) r c → EndsTotal n r → EndsTotal n c
ends-again n [] c h e = absurd e
ends-again n (b ∷ r) c h e = ends-at n b r c (after (mode.Arith n) b r c tt e.1 h) h.firm e.0 (sums n b r c e.1 h)

closes-at : (n b : ℕ) (r c : List ℕ) → After (mode.Arith n) b c → closes (b ∷ r) ≡ closes c
closes-at n b r [] a = absurd a
closes-at n b r (d ∷ c) (inl g) = ap (λ (x : ℕ). x == 41) (sym g)
closes-at n b r (d ∷ c) (inr g) = absurd g.1

closes-again : (n : ℕ) (r c : List ℕ) → Heads (mode.Arith n) r c → EndsTotal n r → closes (peel r) ≡ closes c
closes-again n [] c h e = absurd e
closes-again n (b ∷ r) c h e = ap closes (peel-firm (b ∷ r) e.1) ∙ closes-at n b r c (after (mode.Arith n) b r c tt e.1 h)

not_nil : (n : ℕ) (r c : List ℕ) → Heads (mode.Arith n) r c → r ≡ [] → ⊥
unfolding peel
not_nil n [] c h e = h.inside refl
not_nil n (b ∷ r) c h e = cc

again_sum : (n : ℕ) (t c : List ℕ) → Heads (mode.Arith (sum n t).1) (sum n t).2 c → sum n ((sum n t).0 ++ c) ≡ ((sum n t).0, (sum n t).1, c)
again_sum n t c h = let s = sum n t in let y = not_nil s.1 s.2 c h in let e = total-stops n t y in
    total-again n t c y (ends-again s.1 s.2 c h e) (closes-again s.1 s.2 c h e)

ends-firm : (n : ℕ) (r : List ℕ) → EndsTotal n r → Firm r
ends-firm n [] e = absurd e
ends-firm n (b ∷ r) e = e.1

stop_firm : (n : ℕ) (t c : List ℕ) → Heads (mode.Arith (sum n t).1) (sum n t).2 c → Firm (sum n t).2
stop_firm n t c h = let s = sum n t in ends-firm s.1 s.2 (total-stops n t (not_nil s.1 s.2 c h))

arith_sum-at : (n b : ℕ) (r x : List ℕ) → special b ≡ false → (b == 41 && (n == 0 && closes (peel r))) ≡ false → (sum n (b ∷ r)).0 ≡ b ∷ x → Once (mode.Arith n) b (spec.in_arith n) (spec.sum_text (sum n (b ∷ r)))
unfolding spec.in_arith
arith_sum-at n b r x e f g = let s = sum n (b ∷ r) in
    chosen_if (λ (l : Lexed). Once (mode.Arith n) b (spec.in_arith n) l) (spec.begins_nul s.2) (λ y. tt) (λ y. record {
      rest = x;
      text = g;
      again = λ c h.
          let t : sum n (b ∷ (x ++ c)) ≡ (s.0, s.1, c) = ap (λ (z : List ℕ). sum n (z ++ c)) (sym g) ∙ again_sum n (b ∷ r) c h.0 in
          passes_if (special b) _ _ e
          ∙ (passes_if (b == 41 && (n == 0 && closes (peel (x ++ c)))) _ _ (no-halt n b (x ++ c) x s.1 c e (t ∙ ap (λ (z : List ℕ). (z, s.1, c)) g))
          ∙ (ap spec.sum_text t ∙ passes_if (spec.begins_nul c) _ _ (no_nul (mode.Arith s.1) s.2 c tt (stop_firm n (b ∷ r) c h.0) y h.0)));
      firm = λ c h. ordinary_apart b (x ++ c) e;
    })

pub arith-once : (n b : ℕ) (r : List ℕ) → Apart b r → Once (mode.Arith n) b (spec.in_arith n) (spec.in_arith n (b ∷ r))
unfolding spec.in_arith spec.special_at special
arith-once n b r a = let P = λ (l : Lexed). Once (mode.Arith n) b (spec.in_arith n) l in
    chosen_if P (special b)
    (λ e. special-once (mode.Arith n) (spec.in_arith n) (spec.escaped_if spec.escapable) b r tt refl (λ k. refl) (λ k. refl) (λ k. refl)
    (λ q. escaped_if-slash (mode.Arith n) spec.escapable r tt refl refl refl (subst (λ (n : ℕ). Apart n r) q a)))
    (λ e. chosen_if P (b == 41 && (n == 0 && closes (peel r)))
    (λ h. let k = eqb-true b 41 (both (b == 41) (n == 0 && closes (peel r)) h).0 in
    subst (λ (d : ℕ). Once (mode.Arith n) d (spec.in_arith n) (spec.ends end.Arith (spec.after_first (peel r)))) (sym k)
    (arith_ends n r (subst (λ (d : ℕ). (d == 41 && (n == 0 && closes (peel r))) ≡ true) k h)))
    (λ h. let g = begun-total n b r e h in arith_sum-at n b r g.0 e h g.1))

-- ---- where an expression may end

-- The text behind the first byte begins with a `)` where the first one did.
abbrev pub Sums : ℕ → ℕ → List ℕ → Lexed → Type 0
Sums n b r (got t s) = (w c : List ℕ) → token_text t ≡ b ∷ w → Meets (mode.Arith n) t s c → (b == 41 && closes (peel r)) ≡ (b == 41 && closes (peel (w ++ left t c)))
Sums n b r l = Unit {0}

sums-other : (n b : ℕ) (r : List ℕ) (l : Lexed) → (b == 41) ≡ false → Sums n b r l
sums-other n b r (got t s) e = λ w c g h. rw e refl
sums-other n b r (opens t x o) e = tt
sums-other n b r done e = tt
sums-other n b r (bad f) e = tt

end-tail : (b : ℕ) (w : List ℕ) → 41 ∷ 41 ∷ [] ≡ b ∷ w → 41 ∷ [] ≡ w
end-tail b w e = cc

other-back : (b : ℕ) → special b ≡ true → (b == 41) ≡ false
unfolding special
other-back b e = other b 41 refl e

arith-sums-at : (n b : ℕ) (r : List ℕ) → special b ≡ false → (b == 41 && (n == 0 && closes (peel r))) ≡ false → Sums n b r (spec.sum_text (sum n (b ∷ r)))
arith-sums-at n b r e f = let s = sum n (b ∷ r) in
    chosen_if (Sums n b r) (spec.begins_nul s.2) (λ y. tt)
    (λ y. λ w c g h. ap (λ q. b == 41 && q)
    (seconds n b r w c e f (h.0).firm g (closes-again s.1 s.2 c h.0 (total-stops n (b ∷ r) (not_nil s.1 s.2 c h.0)))))

pub arith-sums : (n b : ℕ) (r : List ℕ) → Sums n b r (spec.in_arith n (b ∷ r))
unfolding spec.in_arith special
arith-sums n b r =
    chosen_if (Sums n b r) (special b) (λ e. sums-other n b r _ (other-back b e)) (λ e.
    chosen_if (Sums n b r) (b == 41 && (n == 0 && closes (peel r)))
    (λ h. let x = both (b == 41) (n == 0 && closes (peel r)) h in
    λ w c g k. ap (λ q. b == 41 && q) ((both (n == 0) (closes (peel r)) x.1).1 ∙ (sym (ap closes (peel-firm (41 ∷ c) (apart 41 c refl))) ∙ ap (λ (y : List ℕ). closes (peel (y ++ c))) (end-tail b w g))))
    (λ h. arith-sums-at n b r e h))
