-- Parts of words are read again.
use Rattle.std.proofs.Common.{◌≡◌, ℕ, Bool, true, false, ◌==◌, List, [], ◌∷◌, ◌++◌, Option, Some, None, refl, ap, sym, ◌∙◌, subst, ◌⊎◌, inl, inr, append_assoc}
use Rattle.std.proofs.lemmas.Bool.{eqb-true}
use Rattle.sh_lexer.specs.declared.token.Token.{Token}
use Rattle.sh_lexer.specs.declared.token.Token.TheVariants as token
use Rattle.sh_lexer.specs.declared.token.Opener.TheVariants as opener
use Rattle.sh_lexer.specs.declared.token.Mode.{Mode}
use Rattle.sh_lexer.specs.Bytes.{peel, piece, single, has_nul, special, joins}
use Rattle.sh_lexer.specs.Cut.{backquoted}
use Rattle.sh_lexer.specs.Modes.{inside}
use Rattle.sh_lexer.specs.Lex as spec
use Rattle.sh_lexer.specs.Lex.{Lexed, got, opens, done, bad}
use Rattle.sh_spell.specs.Layout.{token_text, left}
use Rattle.sh_spell.specs.Tidy.{IsInWord}
use Rattle.sh_spell.proofs.Cases.{chosen_if, takes_if, passes_if}
use Rattle.sh_spell.proofs.Runs.{Apart, apart, ordinary_apart, Firm, Stop, peel-is_firm, piece-stops, Ordinary, SingleAgain, single-again}
use Rattle.sh_spell.proofs.Heads.{Heads, Meets, IsWord, AfterEnd, After, after, stops}
use Rattle.sh_spell.proofs.Dollars.{Dollar, dollar-again, begun, begun-again}

-- The token begins with the byte, and f reads it, with what is left behind it, from a text that begins with its own.
pub record Written (m : Mode) (b : ℕ) (f : List ℕ → Lexed) (t : Token) (r : List ℕ) : Type 0 where
  pub rest : List ℕ
  pub text : token_text t ≡ b ∷ rest
  pub again : (c : List ℕ) → Meets m t r c → f (b ∷ (rest ++ left t c)) ≡ got t (left t c)
  pub firm : (c : List ℕ) → Meets m t r c → Apart b (rest ++ left t c)

-- a backquote, whatever comes behind it
pub record Quotes (b : ℕ) (f : List ℕ → Lexed) (t : Token) : Type 0 where
  pub mode : Mode
  pub is : t ≡ token.Open opener.Backquote mode
  pub byte : b ≡ 96
  pub again : (k : List ℕ) → f (96 ∷ k) ≡ opens t (backquoted k).0 (backquoted k).1

abbrev pub Once : Mode → ℕ → (List ℕ → Lexed) → Lexed → Type 0
Once m b f (got t r) = Written m b f t r
Once m b f (opens t x o) = Quotes b f t
Once m b f done = Unit {0}
Once m b f (bad e) = Unit {0}

-- ---- special bytes

dollar-once : (m : Mode) (f : List ℕ → Lexed) (l : Lexed) → ((k : List ℕ) → f (36 ∷ k) ≡ spec.dollar m (peel k)) → Dollar m l → Once m 36 f l
dollar-once m f (got t r) e d = record {
  rest = d.0;
  text = d.1;
  again = λ c h. e (d.0 ++ left t c) ∙ d.2 c h;
  firm = λ c h. apart 36 (d.0 ++ left t c) refl;
}
dollar-once m f (opens t x o) e d = absurd d
dollar-once m f done e d = tt
dollar-once m f (bad x) e d = tt

-- how a backslash is read
pub record Slashed (m : Mode) (f : List ℕ → Lexed) (t : Token) (r : List ℕ) : Type 0 where
  pub rest : List ℕ
  pub text : token_text t ≡ 92 ∷ rest
  pub again : (c : List ℕ) → Meets m t r c → f (rest ++ left t c) ≡ got t (left t c)
  pub firm : (c : List ℕ) → Meets m t r c → Apart 92 (rest ++ left t c)

abbrev Slash : Mode → (List ℕ → Lexed) → Lexed → Type 0
Slash m f (got t r) = Slashed m f t r
Slash m f (opens t x o) = ⊥
Slash m f done = Unit {0}
Slash m f (bad e) = Unit {0}

slash-once : (m : Mode) (f g : List ℕ → Lexed) (l : Lexed) → ((k : List ℕ) → f (92 ∷ k) ≡ g k) → Slash m g l → Once m 92 f l
slash-once m f g (got t r) e s = record { rest = s.rest; text = s.text; again = λ c h. e (s.rest ++ left t c) ∙ s.again c h; firm = s.firm }
slash-once m f g (opens t x o) e s = absurd s
slash-once m f g done e s = tt
slash-once m f g (bad x) e s = tt

pub escaped-slash : (m : Mode) (r : List ℕ) → Apart 92 r → Slash m spec.escaped (spec.escaped r)
escaped-slash m [] a = record {
  rest = [];
  text = refl;
  again = λ c h. subst (λ (y : List ℕ). spec.escaped y ≡ spec.alone 92 y) (sym (h.1 refl refl)) refl;
  firm = λ c h. subst (λ (y : List ℕ). Apart 92 y) (sym (h.1 refl refl)) tt;
}
escaped-slash m (b ∷ r) a = chosen_if (λ (l : Lexed). Slash m spec.escaped l) (b == 0) (λ e. tt)
    (λ e. record { rest = b ∷ []; text = refl; again = λ c h. passes_if (b == 0) _ _ e; firm = λ c h. a })

-- a backslash that stands for itself
lone : (m : Mode) (p : ℕ → Bool) (b : ℕ) (r c : List ℕ) → p b ≡ false → p 32 ≡ false → Apart 92 (b ∷ r) → After m b c → spec.escaped_if p c ≡ spec.alone 92 c
lone m p b r [] e s a h = refl
lone m p b r (d ∷ c) e s a (inl g) = passes_if (p d) _ _ (ap p g ∙ e)
lone m p b r (d ∷ c) e s a (inr g) = passes_if (p d) _ _ (ap p g.0 ∙ s)

lone-firm : (m : Mode) (b : ℕ) (r c : List ℕ) → Apart 92 (b ∷ r) → After m b c → Apart 92 c
lone-firm m b r [] a h = tt
lone-firm m b r (d ∷ c) a (inl g) = subst (λ (n : ℕ). joins 92 n ≡ false) (sym g) a
lone-firm m b r (d ∷ c) a (inr g) = subst (λ (n : ℕ). joins 92 n ≡ false) (sym g.0) refl

not-slash : (p : ℕ → Bool) (b : ℕ) (q : Bool) → (b == 92) ≡ q → p 92 ≡ true → p b ≡ false → (b == 92) ≡ false
not-slash p b true g e f = let h = ap p (eqb-true b 92 g) in absurd cc
not-slash p b false g e f = g

unquoted-apart : (p : ℕ → Bool) (b : ℕ) (r : List ℕ) → p 92 ≡ true → p b ≡ false → Apart b r
unquoted-apart p b r e f = apart b r (not-slash p b (b == 92) refl e f)

pub escaped_if-slash : (m : Mode) (p : ℕ → Bool) (r : List ℕ) → IsInWord m → inside m ≡ m → p 92 ≡ true → p 32 ≡ false → Apart 92 r → Slash m (spec.escaped_if p) (spec.escaped_if p r)
escaped_if-slash m p [] w i x y a = record {
  rest = [];
  text = refl;
  again = λ c h. subst (λ (z : List ℕ). spec.escaped_if p z ≡ spec.alone 92 z) (sym (h.1 refl refl)) refl;
  firm = λ c h. subst (λ (z : List ℕ). Apart 92 z) (sym (h.1 refl refl)) tt;
}
escaped_if-slash m p (b ∷ r) w i x y a = chosen_if (λ (l : Lexed). Slash m (spec.escaped_if p) l) (p b)
    (λ e. record { rest = b ∷ []; text = refl; again = λ c h. takes_if (p b) _ _ e; firm = λ c h. a })
    (λ e. record {
      rest = [];
      text = refl;
      again = λ c h. let k = subst (λ (n : Mode). Heads n (b ∷ r) c) i h.0 in lone m p b r c e y a (after m b r c w (unquoted-apart p b r x e) k);
      firm = λ c h. let k = subst (λ (n : Mode). Heads n (b ∷ r) c) i h.0 in lone-firm m b r c a (after m b r c w (unquoted-apart p b r x e) k);
    })

backquote-once : (m : Mode) (f : List ℕ → Lexed) (p : List ℕ × Option (List ℕ)) → ((k : List ℕ) → f (96 ∷ k) ≡ spec.backquote m (backquoted k)) → Once m 96 f (spec.backquote m p)
backquote-once m f p e = record { mode = m; is = refl; byte = refl; again = e }

-- NUL, `$`, a backquote or a backslash
pub special-once : (m : Mode) (f g : List ℕ → Lexed) (b : ℕ) (r : List ℕ) → IsInWord m → inside m ≡ m →
    ((k : List ℕ) → f (36 ∷ k) ≡ spec.dollar m (peel k)) → ((k : List ℕ) → f (96 ∷ k) ≡ spec.backquote m (backquoted k)) → ((k : List ℕ) → f (92 ∷ k) ≡ g k) →
    ((b ≡ 92) → Slash m g (g r)) → Once m b f (spec.special_at m g b r)
unfolding spec.special_at
special-once m f g b r w i p q s h = let P = λ (l : Lexed). Once m b f l in
    chosen_if P (b == 36) (λ e. subst (λ (n : ℕ). Once m n f (spec.dollar m (peel r))) (sym (eqb-true b 36 e)) (dollar-once m f (spec.dollar m (peel r)) p (dollar-again m (peel r) w i (peel-is_firm r)))) (λ e.
    chosen_if P (b == 96) (λ e. subst (λ (n : ℕ). Once m n f (spec.backquote m (backquoted r))) (sym (eqb-true b 96 e)) (backquote-once m f (backquoted r) q)) (λ e.
    chosen_if P (b == 92) (λ e. subst (λ (n : ℕ). Once m n f (g r)) (sym (eqb-true b 92 e)) (slash-once m f g (g r) s (h (eqb-true b 92 e)))) (λ e. tt)))

-- ---- bytes that stand for themselves

no_nul-at : (m : Mode) (b : ℕ) (c : List ℕ) → (b == 0) ≡ false → After m b c → spec.begins_nul c ≡ false
no_nul-at m b [] e a = refl
no_nul-at m b (d ∷ c) e (inl g) = ap (λ n. n == 0) g ∙ e
no_nul-at m b (d ∷ c) e (inr g) = ap (λ n. n == 0) g.0

no_nul-at_end : (m : Mode) (c : List ℕ) → IsInWord m → AfterEnd m c → spec.begins_nul c ≡ false
no_nul-at_end m [] w a = refl
no_nul-at_end m (d ∷ c) w a = ap (λ n. n == 0) (a w).0

pub no_nul : (m : Mode) (r c : List ℕ) → IsInWord m → Firm r → spec.begins_nul r ≡ false → Heads m r c → spec.begins_nul c ≡ false
no_nul m [] c w f e h = no_nul-at_end m c w (h.empty refl)
no_nul m (b ∷ r) c w f e h = no_nul-at m b c e (after m b r c w f h)

pub stop-firm : (p : ℕ → Bool) (t : List ℕ) → Stop p t → Firm t
stop-firm p [] s = tt
stop-firm p (b ∷ r) s = s.1

pub run-once : (m : Mode) (p : ℕ → Bool) (f : List ℕ → Lexed) (b : ℕ) (r : List ℕ) → IsInWord m → inside m ≡ m → Ordinary p → (IsWord m → p 32 ≡ false) → p b ≡ true →
    ((k : List ℕ) → f (b ∷ k) ≡ spec.quoted_text (piece p (b ∷ k))) → Once m b f (spec.quoted_text (piece p (b ∷ r)))
run-once m p f b r w i o s e g =
    subst (λ (x : List ℕ × List ℕ). Once m b f (spec.quoted_text x)) (sym (begun p b r o e))
    (chosen_if (λ (l : Lexed). Once m b f l) (spec.begins_nul (piece p r).1) (λ n. tt) (λ n. record {
      rest = (piece p r).0;
      text = refl;
      again = λ c h. let k = subst (λ (n : Mode). Heads n (piece p r).1 c) i h.0 in
          g ((piece p r).0 ++ c) ∙ (ap spec.quoted_text (begun-again p b r c o e (stops m p (piece p r).1 c w s (piece-stops p r) k))
          ∙ passes_if (spec.begins_nul c) _ _ (no_nul m (piece p r).1 c w (stop-firm p (piece p r).1 (piece-stops p r)) n k));
      firm = λ c h. ordinary_apart b ((piece p r).0 ++ c) (o b e);
    }))

text_if-once : (m : Mode) (p : ℕ → Bool) (f : List ℕ → Lexed) (b : ℕ) (r : List ℕ) → IsInWord m → inside m ≡ m → Ordinary p → (IsWord m → p 32 ≡ false) →
    ((k : List ℕ) → f (b ∷ k) ≡ spec.text_if p (b ∷ k)) → Once m b f (spec.text_if p (b ∷ r))
unfolding spec.text_if
text_if-once m p f b r w i o s g = chosen_if (λ (l : Lexed). Once m b f l) (p b)
    (λ e. run-once m p f b r w i o s e (λ k. g k ∙ takes_if (p b) _ _ e))
    (λ e. tt)

-- ---- single quotes

single-once-at : (m : Mode) (f : List ℕ → Lexed) (o : Option (List ℕ × List ℕ)) → ((k : List ℕ) → f (39 ∷ k) ≡ spec.single_text (single k)) →
    ((c : List ℕ) → SingleAgain c o) → Once m 39 f (spec.single_text o)
single-once-at m f None g s = tt
single-once-at m f (Some x) g s = chosen_if (λ (l : Lexed). Once m 39 f l) (has_nul x.0) (λ e. tt) (λ e. record {
  rest = x.0 ++ 39 ∷ [];
  text = refl;
  again = λ c h. ap (λ (y : List ℕ). f (39 ∷ y)) (append_assoc x.0 (39 ∷ []) c) ∙ (g (x.0 ++ 39 ∷ c) ∙ (ap spec.single_text (s c) ∙ passes_if (has_nul x.0) _ _ e));
  firm = λ c h. apart 39 ((x.0 ++ 39 ∷ []) ++ c) refl;
})

-- ---- a part of a word, where quotes quote

pub bit-once : (m : Mode) (p : ℕ → Bool) (f : List ℕ → Lexed) (b : ℕ) (r : List ℕ) → IsInWord m → inside m ≡ m → Ordinary p → (IsWord m → p 32 ≡ false) → Apart b r →
    ((d : ℕ) → (special d ≡ true) ⊎ (d ≡ b) → (k : List ℕ) → f (d ∷ k) ≡ spec.bit_at m p (d ∷ k)) → Once m b f (spec.bit_at m p (b ∷ r))
unfolding spec.bit_at spec.special_at special
bit-once m p f b r w i o s a g = let P = λ (l : Lexed). Once m b f l in
    chosen_if P (special b)
    (λ e. special-once m f spec.escaped b r w i (λ k. g 36 (inl refl) k) (λ k. g 96 (inl refl) k) (λ k. g 92 (inl refl) k)
    (λ q. escaped-slash m r (subst (λ (n : ℕ). Apart n r) q a)))
    (λ e. chosen_if P (b == 39)
    (λ h. subst (λ (n : ℕ). Once m n f (spec.single_text (single r))) (sym (eqb-true b 39 h))
    (single-once-at m f (single r) (λ k. g 39 (inr (sym (eqb-true b 39 h))) k) (λ c. single-again r c)))
    (λ h. chosen_if P (b == 34)
    (λ j. subst (λ (n : ℕ). Once m n f (got (token.Open opener.Double m) r)) (sym (eqb-true b 34 j))
    (record { rest = []; text = refl; again = λ c x. g 34 (inr (sym (eqb-true b 34 j))) c; firm = λ c x. apart 34 c refl }))
    (λ j. text_if-once m p f b r w i o s (λ k. g b (inr refl) k ∙ (passes_if (special b) _ _ e ∙ (passes_if (b == 39) _ _ h ∙ passes_if (b == 34) _ _ j))))))
