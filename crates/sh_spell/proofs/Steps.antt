-- One token more in front of tokens that are read.
use Rattle.std.proofs.Common.{◌≡◌, ℕ, Bool, true, false, ◌==◌, List, [], ◌∷◌, Option, Some, None, refl, ap, sym, ◌∙◌}
use Rattle.sh_lexer.specs.declared.token.Token.{Token}
use Rattle.sh_lexer.specs.declared.token.Mode.{Mode}
use Rattle.sh_lexer.specs.declared.token.Mode.TheVariants as mode
use Rattle.sh_lexer.specs.Bytes.{skip, peel, delimits}
use Rattle.sh_lexer.specs.Lex as spec
use Rattle.sh_lexer.specs.Lex.{Lexed, got, opens, done, bad, lex, opens_parenthesis}
use Rattle.sh_lexer.specs.Lexes.{Lexes, Source, source, next, in_source}
use Rattle.sh_spell.specs.Layout.{gap}
use Rattle.sh_spell.specs.Tidy.{IsBetween, IsInWord}
use Rattle.sh_spell.proofs.Runs.{Apart, peel-firm}
use Rattle.sh_spell.proofs.Heads.{Heads, IsClean, IsInside, head, first, word_head, ends_sum}
use Rattle.sh_spell.proofs.Bits.{Once}
use Rattle.sh_spell.proofs.Inside.{quotes-once, braces-once, word-once, body-once, arith-once}
use Rattle.sh_spell.proofs.Starts.{Start, skip-fixed, skip-blank}

-- ---- the same tokens at another place

pub lexes-over : (n : Mode) (p q : Source) (ts : List Token) → next n p ≡ next n q → Lexes n q ts → Lexes n p ts
lexes-over n p q [] e h = e ∙ h
lexes-over n p q (t ∷ ts) e h = (h.0, h.1, e ∙ h.2, h.3, h.4)

lex-blank : (n : Mode) (c : List ℕ) → IsBetween n → lex n (32 ∷ c) ≡ lex n c
lex-blank mode.Command c i = ap (spec.between mode.Command) (skip-blank c)
lex-blank mode.Prefix c i = ap (spec.between mode.Prefix) (skip-blank c)
lex-blank mode.Arguments c i = ap (spec.between mode.Arguments) (skip-blank c)
lex-blank mode.Pattern c i = ap (spec.between mode.Pattern) (skip-blank c)
lex-blank n c i = absurd i

pub behind_blank : (n : Mode) (c : List ℕ) (o : List (Option (List ℕ))) (ts : List Token) → IsBetween n → Lexes n (source c o) ts → Lexes n (source (32 ∷ c) o) ts
behind_blank n c o ts i h = lexes-over n (source (32 ∷ c) o) (source c o) ts (ap (in_source o) (lex-blank n c i)) h

pub behind_gap : (n : Mode) (c : List ℕ) (o : List (Option (List ℕ))) (ts : List Token) → IsBetween n → Lexes n (source c o) ts → Lexes n (source (gap c) o) ts
behind_gap n [] o ts i h = h
behind_gap n (b ∷ r) o ts i h = behind_blank n (b ∷ r) o ts i h

-- ---- one token, where no text begins

pub lex-between : (m : Mode) (t : List ℕ) → IsBetween m → lex m t ≡ spec.between m (skip t)
lex-between mode.Command t i = refl
lex-between mode.Prefix t i = refl
lex-between mode.Arguments t i = refl
lex-between mode.Pattern t i = refl
lex-between m t i = absurd i

-- how a token in a word is read
abbrev pub inner : Mode → List ℕ → Lexed
inner mode.Word t = spec.in_word t
inner mode.Quotes t = spec.in_quotes t
inner (mode.Braces q) t = spec.in_word_of q t
inner (mode.Arith n) t = spec.in_arith n t
inner mode.Body t = spec.in_body t
inner m t = done

pub lex-inside : (m : Mode) (t : List ℕ) → IsInWord m → lex m t ≡ inner m (peel t)
lex-inside mode.Word t i = refl
lex-inside mode.Quotes t i = refl
lex-inside (mode.Braces q) t i = refl
lex-inside (mode.Arith n) t i = refl
lex-inside mode.Body t i = refl
lex-inside m t i = absurd i

-- a byte that begins a token in a word of the mode
abbrev pub IsGoing : Mode → ℕ → Type 0
IsGoing mode.Word b = delimits b ≡ false
IsGoing m b = Unit {0}

pub inner-once : (m : Mode) (b : ℕ) (r : List ℕ) → IsInWord m → IsGoing m b → Apart b r → Once m b (inner m) (inner m (b ∷ r))
inner-once mode.Word b r i g a = word-once b r a g
inner-once mode.Quotes b r i g a = quotes-once b r a
inner-once (mode.Braces q) b r i g a = braces-once q b r a
inner-once (mode.Arith n) b r i g a = arith-once n b r a
inner-once mode.Body b r i g a = body-once b r a
inner-once m b r i g a = absurd i

-- ---- what is seen of a text that begins with a token

pub heads-between : (m : Mode) (t : List ℕ) (b d : ℕ) (r c : List ℕ) → IsBetween m → skip t ≡ b ∷ r → (b == 40) ≡ (d == 40) → Start (d ∷ c) → Heads m t (d ∷ c)
unfolding skip
heads-between mode.Command t b d r c i e o s = record { same = ap (λ x. (None, opens_parenthesis x)) e ∙ (ap (λ x. (None, x)) o ∙ ap (λ x. (None, opens_parenthesis x)) (sym (skip-fixed (d ∷ c) s))); firm = s.2; clean = tt; empty = λ x y. absurd y; inside = tt }
heads-between mode.Prefix t b d r c i e o s = record { same = ap (λ x. (None, opens_parenthesis x)) e ∙ (ap (λ x. (None, x)) o ∙ ap (λ x. (None, opens_parenthesis x)) (sym (skip-fixed (d ∷ c) s))); firm = s.2; clean = tt; empty = λ x y. absurd y; inside = tt }
heads-between mode.Arguments t b d r c i e o s = record { same = ap (λ x. (None, opens_parenthesis x)) e ∙ (ap (λ x. (None, x)) o ∙ ap (λ x. (None, opens_parenthesis x)) (sym (skip-fixed (d ∷ c) s))); firm = s.2; clean = tt; empty = λ x y. absurd y; inside = tt }
heads-between mode.Pattern t b d r c i e o s = record { same = ap (λ x. (None, opens_parenthesis x)) e ∙ (ap (λ x. (None, x)) o ∙ ap (λ x. (None, opens_parenthesis x)) (sym (skip-fixed (d ∷ c) s))); firm = s.2; clean = tt; empty = λ x y. absurd y; inside = tt }
heads-between m t b d r c i e o s = absurd i

heads-word : (t : List ℕ) (b : ℕ) (r c : List ℕ) → delimits b ≡ false → peel t ≡ b ∷ r → Apart b c → Heads mode.Word t (b ∷ c)
unfolding peel
heads-word t b r c g e a = record {
  same = ap word_head e ∙ (rw g refl ∙ ap word_head (sym (peel-firm (b ∷ c) a)));
  firm = a;
  clean = λ h. let k : true ≡ false = sym h ∙ g in absurd cc;
  empty = λ x y. let k : peel t ≡ [] = ap peel x in let j : [] ≡ b ∷ r = sym k ∙ e in absurd cc;
  inside = tt;
}

heads-first : (m : Mode) (t : List ℕ) (b : ℕ) (r c : List ℕ) → head m t ≡ head m (b ∷ c) → IsClean m (b ∷ c) → IsInside m t → peel t ≡ b ∷ r → Apart b c → Heads m t (b ∷ c)
unfolding peel
heads-first m t b r c h k i e a = record { same = h; firm = a; clean = k; empty = λ x y. let k : peel t ≡ [] = ap peel x in let j : [] ≡ b ∷ r = sym k ∙ e in absurd cc; inside = i }

abbrev pub IsArith : Mode → Type 0
IsArith (mode.Arith n) = Unit {0}
IsArith m = ⊥

abbrev seen : List ℕ → Option ℕ × Bool
seen t = (first t, false)

same-first : (t : List ℕ) (b : ℕ) (r c : List ℕ) → peel t ≡ b ∷ r → Apart b c → seen (peel t) ≡ seen (peel (b ∷ c))
same-first t b r c e a = ap seen e ∙ ap seen (sym (peel-firm (b ∷ c) a))

-- in a word: the token's text begins with the byte that the first text begins with
pub heads-inside : (m : Mode) (t : List ℕ) (b : ℕ) (r c : List ℕ) → IsInWord m → IsGoing m b → peel t ≡ b ∷ r → Apart b c → (IsArith m → ends_sum (b ∷ r) ≡ ends_sum (b ∷ c)) → Heads m t (b ∷ c)
heads-inside mode.Word t b r c i g e a s = heads-word t b r c g e a
heads-inside mode.Quotes t b r c i g e a s = heads-first mode.Quotes t b r c (same-first t b r c e a) tt tt e a
heads-inside (mode.Braces q) t b r c i g e a s = heads-first (mode.Braces q) t b r c (same-first t b r c e a) tt tt e a
heads-inside (mode.Arith n) t b r c i g e a s =
    heads-first (mode.Arith n) t b r c
    (ap (λ x. (first x, ends_sum x)) e ∙ (ap (λ x. (Some b, x)) (s tt) ∙ ap (λ x. (first x, ends_sum x)) (sym (peel-firm (b ∷ c) a))))
    tt (λ x. let j : [] ≡ b ∷ r = sym x ∙ e in absurd cc) e a
heads-inside mode.Body t b r c i g e a s = heads-first mode.Body t b r c (same-first t b r c e a) tt tt e a
heads-inside m t b r c i g e a s = absurd i
