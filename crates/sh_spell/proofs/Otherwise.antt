-- Tokens that may stand where others stood.
use Rattle.std.proofs.Common.{◌≡◌, ℕ, true, false, List, ◌∷◌, refl, ap, sym, ◌∙◌, inl, inr}
use Rattle.sh_lexer.specs.declared.token.Token.TheVariants as token
use Rattle.sh_lexer.specs.declared.token.Opener.TheVariants as opener
use Rattle.sh_lexer.specs.declared.token.Mode.{Mode}
use Rattle.sh_lexer.specs.declared.token.Mode.TheVariants as mode
use Rattle.sh_lexer.specs.Bytes.{peel, special}
use Rattle.sh_lexer.specs.Modes.{inside}
use Rattle.sh_lexer.specs.Lex as spec
use Rattle.sh_lexer.specs.Lex.{got, lex}
use Rattle.sh_spell.specs.Layout.{left, written}
use Rattle.sh_spell.specs.Tidy.{IsInWord, IsKnown}
use Rattle.sh_spell.proofs.Runs.{apart}
use Rattle.sh_spell.proofs.Dollars.{parenthesis-at}
use Rattle.sh_spell.proofs.Gaps.{between-inside}
use Rattle.sh_spell.proofs.Steps.{inner}
use Rattle.sh_spell.proofs.Whole.{lex-at, lex-inner-at}
use Rattle.sh_spell.proofs.Openers.{inside-is}

inner-dollar : (m : Mode) (k : List ℕ) → IsInWord m → inner m (36 ∷ k) ≡ spec.dollar m (peel k)
unfolding spec.in_word spec.in_quotes spec.in_plain_braces spec.in_quoted_braces spec.in_arith spec.in_body spec.bit_at spec.special_at special
inner-dollar mode.Word k i = refl
inner-dollar mode.Quotes k i = refl
inner-dollar (mode.Braces true) k i = refl
inner-dollar (mode.Braces false) k i = refl
inner-dollar (mode.Arith n) k i = refl
inner-dollar mode.Body k i = refl
inner-dollar m k i = absurd i

between-dollar : (m : Mode) (k : List ℕ) → spec.between m (36 ∷ k) ≡ spec.dollar mode.Word (peel k)
unfolding spec.between spec.bit_at spec.special_at special
between-dollar m k = refl

-- A `$` is read alike in all places.
pub lex-dollar : (m : Mode) (k : List ℕ) → IsKnown m → lex m (36 ∷ k) ≡ spec.dollar (inside m) (peel k)
lex-dollar m k (inl i) =
    lex-at m 36 k i (refl, refl, apart 36 k refl) ∙ (between-dollar m k ∙ ap (λ (n : Mode). spec.dollar n (peel k)) (sym (between-inside m i)))
lex-dollar m k (inr i) =
    lex-inner-at m 36 k i (apart 36 k refl) ∙ (inner-dollar m k i ∙ ap (λ (n : Mode). spec.dollar n (peel k)) (sym (inside-is m i)))

-- A substitution may begin with `$(` where one in backquotes does.
pub as_substitution : (m : Mode) (c : List ℕ) → IsKnown m → let t = token.Open opener.Command (inside m) in lex m (written t c) ≡ got t (left t c)
as_substitution m c k = lex-dollar m (40 ∷ 32 ∷ c) k ∙ parenthesis-at (inside m) 32 c refl
