-- Redirections are read again.
use Rattle.std.proofs.Common.{◌≡◌, ℕ, zero, suc, true, false, ◌==◌, List, [], ◌∷◌, ◌++◌, refl, ap, ◌∙◌, arith}
use Rattle.std.specs.Prelude.{if◌then◌else◌, nat_le}
use Rattle.sh_lexer.specs.declared.token.Token.{Token}
use Rattle.sh_lexer.specs.declared.token.Mode.{Mode}
use Rattle.sh_lexer.specs.Bytes.{blank, peel, piece, special, number}
use Rattle.sh_lexer.specs.Lex as spec
use Rattle.sh_lexer.specs.Lex.{Lexed, got, opens, done, bad}
use Rattle.sh_spell.specs.Layout.{token_text, left, digit_of}
use Rattle.sh_spell.proofs.Cases.{chosen_if}
use Rattle.sh_spell.proofs.Runs.{Apart, apart, peel-firm}
use Rattle.sh_spell.proofs.Heads.{Meets}
use Rattle.sh_spell.proofs.Bits.{Quotes}

-- Between words the token is read again where it begins a text. It begins with a `(` where the byte b is one.
pub record Begun (m : Mode) (b : ℕ) (t : Token) (r : List ℕ) : Type 0 where
  pub byte : ℕ
  pub rest : List ℕ
  pub text : token_text t ≡ byte ∷ rest
  pub no_blank : blank byte ≡ false
  pub no_comment : (byte == 35) ≡ false
  pub opens : (b == 40) ≡ (byte == 40)
  pub again : (c : List ℕ) → Meets m t r c → spec.between m (byte ∷ (rest ++ left t c)) ≡ got t (left t c)
  pub firm : (c : List ℕ) → Meets m t r c → Apart byte (rest ++ left t c)

abbrev pub Twice : Mode → ℕ → Lexed → Type 0
Twice m b (got t r) = Begun m b t r
Twice m b (opens t x o) = Quotes b (spec.between m) t
Twice m b done = Unit {0}
Twice m b (bad e) = Unit {0}

-- a token that nothing behind it changes
pub marked : (m : Mode) (b : ℕ) (t : Token) (r : List ℕ) (d : ℕ) (w : List ℕ) → token_text t ≡ d ∷ w → blank d ≡ false → (d == 35) ≡ false → (d == 92) ≡ false → (b == 40) ≡ (d == 40) →
    ((c : List ℕ) → spec.between m (d ∷ (w ++ left t c)) ≡ got t (left t c)) → Begun m b t r
marked m b t r d w e f g h o k = record {
  byte = d;
  rest = w;
  text = e;
  no_blank = f;
  no_comment = g;
  opens = o;
  again = λ c x. k c;
  firm = λ c x. apart d (w ++ left t c) h;
}

pub blank-peel : (c : List ℕ) → peel (32 ∷ c) ≡ 32 ∷ c
blank-peel c = peel-firm (32 ∷ c) (apart 32 c refl)

pub byte-peel : (b : ℕ) (c : List ℕ) → (b == 92) ≡ false → peel (b ∷ c) ≡ b ∷ c
byte-peel b c e = peel-firm (b ∷ c) (apart b c e)

-- ---- descriptors

less-one : (m : Mode) (y : List ℕ) → spec.between m (49 ∷ 60 ∷ y) ≡ spec.less 1 (peel y)
unfolding spec.between spec.plain_at piece number special
less-one m [] = refl
less-one m (b ∷ r) = refl

less-two : (m : Mode) (y : List ℕ) → spec.between m (50 ∷ 60 ∷ y) ≡ spec.less 2 (peel y)
unfolding spec.between spec.plain_at piece number special
less-two m [] = refl
less-two m (b ∷ r) = refl

greater-nil : (m : Mode) (y : List ℕ) → spec.between m (48 ∷ 62 ∷ y) ≡ spec.greater 0 (peel y)
unfolding spec.between spec.plain_at piece number special
greater-nil m [] = refl
greater-nil m (b ∷ r) = refl

greater-two : (m : Mode) (y : List ℕ) → spec.between m (50 ∷ 62 ∷ y) ≡ spec.greater 2 (peel y)
unfolding spec.between spec.plain_at piece number special
greater-two m [] = refl
greater-two m (b ∷ r) = refl

above : (n : ℕ) → nat_le (suc (suc (suc n))) 2 ≡ true → ⊥
above n e = grind arith

lesser : (m : Mode) (n b : ℕ) (t : Token) (r w : List ℕ) → nat_le n 2 ≡ true → (b == 40) ≡ false → token_text t ≡ (if n == 0 then [] else digit_of n ∷ []) ++ (60 ∷ w) →
    ((c : List ℕ) → spec.less n (peel (w ++ left t c)) ≡ got t (left t c)) → Begun m b t r
unfolding spec.between
lesser m zero b t r w l e f k = marked m b t r 60 w f refl refl refl e (λ c. k c)
lesser m (suc zero) b t r w l e f k = marked m b t r 49 (60 ∷ w) f refl refl refl e (λ c. less-one m (w ++ left t c) ∙ k c)
lesser m (suc (suc zero)) b t r w l e f k = marked m b t r 50 (60 ∷ w) f refl refl refl e (λ c. less-two m (w ++ left t c) ∙ k c)
lesser m (suc (suc (suc n))) b t r w l e f k = absurd (above n l)

larger : (m : Mode) (n b : ℕ) (t : Token) (r w : List ℕ) → nat_le n 2 ≡ true → (b == 40) ≡ false → token_text t ≡ (if n == 1 then [] else digit_of n ∷ []) ++ (62 ∷ w) →
    ((c : List ℕ) → spec.greater n (peel (w ++ left t c)) ≡ got t (left t c)) → Begun m b t r
unfolding spec.between
larger m zero b t r w l e f k = marked m b t r 48 (62 ∷ w) f refl refl refl e (λ c. greater-nil m (w ++ left t c) ∙ k c)
larger m (suc zero) b t r w l e f k = marked m b t r 62 w f refl refl refl e (λ c. k c)
larger m (suc (suc zero)) b t r w l e f k = marked m b t r 50 (62 ∷ w) f refl refl refl e (λ c. greater-two m (w ++ left t c) ∙ k c)
larger m (suc (suc (suc n))) b t r w l e f k = absurd (above n l)

-- ---- operators

here-begun : (m : Mode) (n b : ℕ) (t : List ℕ) → nat_le n 2 ≡ true → (b == 40) ≡ false → Twice m b (spec.here n t)
unfolding spec.less
here-begun m n b [] l e = lesser m n b _ [] (60 ∷ []) l e refl (λ c. ap (spec.less n) (byte-peel 60 (32 ∷ c) refl) ∙ ap (spec.here n) (blank-peel c))
here-begun m n b (d ∷ r) l e = chosen_if (λ (x : Lexed). Twice m b x) (d == 45)
    (λ f. lesser m n b _ r (60 ∷ 45 ∷ []) l e refl (λ c. ap (spec.less n) (byte-peel 60 (45 ∷ 32 ∷ c) refl) ∙ ap (spec.here n) (byte-peel 45 (32 ∷ c) refl)))
    (λ f. lesser m n b _ (d ∷ r) (60 ∷ []) l e refl (λ c. ap (spec.less n) (byte-peel 60 (32 ∷ c) refl) ∙ ap (spec.here n) (blank-peel c)))

pub less-begun : (m : Mode) (n b : ℕ) (t : List ℕ) → nat_le n 2 ≡ true → (b == 40) ≡ false → Twice m b (spec.less n t)
unfolding spec.less
less-begun m n b [] l e = lesser m n b _ [] [] l e refl (λ c. ap (spec.less n) (blank-peel c))
less-begun m n b (d ∷ r) l e = let P = λ (x : Lexed). Twice m b x in
    chosen_if P (d == 60) (λ f. here-begun m n b (peel r) l e) (λ f.
    chosen_if P (d == 38) (λ g. lesser m n b _ r (38 ∷ []) l e refl (λ c. ap (spec.less n) (byte-peel 38 (32 ∷ c) refl))) (λ g.
    chosen_if P (d == 62) (λ h. tt) (λ h. lesser m n b _ (d ∷ r) [] l e refl (λ c. ap (spec.less n) (blank-peel c)))))

pub greater-begun : (m : Mode) (n b : ℕ) (t : List ℕ) → nat_le n 2 ≡ true → (b == 40) ≡ false → Twice m b (spec.greater n t)
unfolding spec.greater
greater-begun m n b [] l e = larger m n b _ [] [] l e refl (λ c. ap (spec.greater n) (blank-peel c))
greater-begun m n b (d ∷ r) l e = let P = λ (x : Lexed). Twice m b x in
    chosen_if P (d == 62) (λ f. larger m n b _ r (62 ∷ []) l e refl (λ c. ap (spec.greater n) (byte-peel 62 (32 ∷ c) refl))) (λ f.
    chosen_if P (d == 38) (λ g. larger m n b _ r (38 ∷ []) l e refl (λ c. ap (spec.greater n) (byte-peel 38 (32 ∷ c) refl))) (λ g.
    chosen_if P (d == 124) (λ h. larger m n b _ r (124 ∷ []) l e refl (λ c. ap (spec.greater n) (byte-peel 124 (32 ∷ c) refl)))
    (λ h. larger m n b _ (d ∷ r) [] l e refl (λ c. ap (spec.greater n) (blank-peel c)))))
