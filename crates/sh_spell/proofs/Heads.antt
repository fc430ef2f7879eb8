-- What the reading of a token sees of the text behind it.
use Rattle.std.proofs.Common.{◌≡◌, ℕ, Bool, true, false, ◌==◌, ◌&&◌, List, [], ◌∷◌, Option, Some, None, refl, ap, sym, ◌∙◌, ◌⊎◌, inl, inr}
use Rattle.std.specs.Prelude.{if◌then◌else◌}
use Rattle.sh_lexer.specs.declared.token.Token.{Token}
use Rattle.sh_lexer.specs.declared.token.Token.TheVariants as token
use Rattle.sh_lexer.specs.declared.token.Bit.{Bit}
use Rattle.sh_lexer.specs.declared.token.Bit.TheVariants as bit
use Rattle.sh_lexer.specs.declared.token.Mode.{Mode}
use Rattle.sh_lexer.specs.declared.token.Mode.TheVariants as mode
use Rattle.sh_lexer.specs.Bytes.{peel, skip, delimits, ends_word}
use Rattle.sh_lexer.specs.Lex.{closes, opens_parenthesis}
use Rattle.sh_lexer.specs.Modes.{after_bit, after_opener}
use Rattle.sh_spell.specs.Tidy.{IsInWord}
use Rattle.sh_spell.proofs.Cases.{passes_if}
use Rattle.sh_spell.proofs.Runs.{Apart, Firm, Stop, peel-firm}

-- ---- heads

abbrev pub IsWord : Mode → Type 0
IsWord mode.Word = Unit {0}
IsWord m = ⊥

abbrev pub first : List ℕ → Option ℕ
first [] = None
first (b ∷ r) = Some b

abbrev pub first_in_word : List ℕ → Option ℕ
first_in_word [] = None
first_in_word (b ∷ r) = if delimits b then None else Some b

-- The text begins with the end of an arithmetic expression.
abbrev pub ends_sum : List ℕ → Bool
ends_sum [] = false
ends_sum (b ∷ r) = b == 41 && closes (peel r)

-- in a word: which byte goes on with it, or whether it ends before a `(`
abbrev pub word_head : List ℕ → Option ℕ × Bool
word_head t = (first_in_word t, ends_word t && opens_parenthesis (skip t))

-- what is seen of a text that is read on in the mode
abbrev pub head : Mode → List ℕ → Option ℕ × Bool
head mode.Word t = word_head (peel t)
head mode.Quotes t = (first (peel t), false)
head (mode.Braces q) t = (first (peel t), false)
head (mode.Arith n) t = (first (peel t), ends_sum (peel t))
head mode.Body t = (first (peel t), false)
head m t = (None, opens_parenthesis (skip t))

-- A word is ended by a blank or by the end of the text.
abbrev pub IsClean : Mode → List ℕ → Type 0
IsClean mode.Word (b ∷ c) = delimits b ≡ true → b ≡ 32
IsClean m c = Unit {0}

-- An arithmetic expression does not end with the text.
abbrev pub IsInside : Mode → List ℕ → Type 0
IsInside (mode.Arith n) t = peel t ≡ [] → ⊥
IsInside m t = Unit {0}

-- Where the first text is read to its end, the second may go on with a blank, if it ends a word.
abbrev pub AfterEnd : Mode → List ℕ → Type 0
AfterEnd m [] = Unit {0}
AfterEnd m (d ∷ c) = IsInWord m → (d ≡ 32) × IsWord m

-- The second text goes on as the first does, as far as is seen.
pub record Heads (m : Mode) (r c : List ℕ) : Type 0 where
  pub same : head m r ≡ head m c
  pub firm : Firm c
  pub clean : IsClean m c
  pub empty : r ≡ [] → AfterEnd m c
  pub inside : IsInside m r

-- A backslash that stood for itself at the end of a text has nothing behind it.
abbrev pub IsLast : Bit → List ℕ → List ℕ → Type 0
IsLast (bit.Piece x) r c = x ≡ 92 ∷ [] → r ≡ [] → c ≡ []
IsLast b r c = Unit {0}

-- What the reading of a token in a mode needs to know of the text behind it, where another one took its place.
abbrev pub Meets : Mode → Token → List ℕ → List ℕ → Type 0
Meets m (token.Part b) r c = Heads (after_bit m b) r c × IsLast b r c
Meets m (token.Open o n) r c = Heads (after_opener o) r c
Meets m (token.Function x) r c = Heads mode.Arguments r c
Meets m t r c = Unit {0}

-- ---- what follows from it

-- The text begins with the byte, or ends a word as the byte may do.
abbrev pub After : Mode → ℕ → List ℕ → Type 0
After m b [] = IsWord m
After m b (d ∷ c) = (d ≡ b) ⊎ ((d ≡ 32) × IsWord m)

first-after : (m : Mode) (b : ℕ) (c : List ℕ) → Some b ≡ first c → After m b c
first-after m b [] e = absurd cc
first-after m b (d ∷ c) e = inl cc

some-after : (b d : ℕ) (r c : List ℕ) (p : Bool) → (if p then None else Some b) ≡ Some d → After mode.Word b (d ∷ c)
some-after b d r c true e = absurd cc
some-after b d r c false e = inl cc

word-after-at : (b d : ℕ) (r c : List ℕ) (q : Bool) → delimits d ≡ q → (delimits d ≡ true → d ≡ 32) → first_in_word (b ∷ r) ≡ first_in_word (d ∷ c) → After mode.Word b (d ∷ c)
word-after-at b d r c true g h e = inr (h g, tt)
word-after-at b d r c false g h e = some-after b d r c (delimits b) (e ∙ passes_if (delimits d) None (Some d) g)

word-after : (b : ℕ) (r c : List ℕ) → IsClean mode.Word c → first_in_word (b ∷ r) ≡ first_in_word c → After mode.Word b c
word-after b r [] h e = tt
word-after b r (d ∷ c) h e = word-after-at b d r c (delimits d) refl h e

pub after : (m : Mode) (b : ℕ) (r c : List ℕ) → IsInWord m → Apart b r → Heads m (b ∷ r) c → After m b c
after mode.Word b r c w a h =
    word-after b r c h.clean (sym (ap first_in_word (peel-firm (b ∷ r) a)) ∙ ap (λ (x : Option ℕ × Bool). x.0) h.same ∙ ap first_in_word (peel-firm c h.firm))
after mode.Quotes b r c w a h =
    first-after mode.Quotes b c (sym (ap first (peel-firm (b ∷ r) a)) ∙ ap (λ (x : Option ℕ × Bool). x.0) h.same ∙ ap first (peel-firm c h.firm))
after (mode.Braces q) b r c w a h =
    first-after (mode.Braces q) b c (sym (ap first (peel-firm (b ∷ r) a)) ∙ ap (λ (x : Option ℕ × Bool). x.0) h.same ∙ ap first (peel-firm c h.firm))
after (mode.Arith n) b r c w a h =
    first-after (mode.Arith n) b c (sym (ap first (peel-firm (b ∷ r) a)) ∙ ap (λ (x : Option ℕ × Bool). x.0) h.same ∙ ap first (peel-firm c h.firm))
after mode.Body b r c w a h =
    first-after mode.Body b c (sym (ap first (peel-firm (b ∷ r) a)) ∙ ap (λ (x : Option ℕ × Bool). x.0) h.same ∙ ap first (peel-firm c h.firm))
after m b r c w a h = absurd w

stop-after : (m : Mode) (p : ℕ → Bool) (b : ℕ) (c : List ℕ) → p b ≡ false → (IsWord m → p 32 ≡ false) → Firm c → After m b c → Stop p c
stop-after m p b [] e s f a = tt
stop-after m p b (d ∷ c) e s f (inl g) = (ap p g ∙ e, f)
stop-after m p b (d ∷ c) e s f (inr g) = (ap p g.0 ∙ s g.1, f)

stop-at_end : (m : Mode) (p : ℕ → Bool) (c : List ℕ) → IsInWord m → (IsWord m → p 32 ≡ false) → Firm c → AfterEnd m c → Stop p c
stop-at_end m p [] w s f a = tt
stop-at_end m p (d ∷ c) w s f a = let k = a w in (ap p k.0 ∙ s k.1, f)

-- but for words
pub nothing : (m : Mode) (c : List ℕ) → IsInWord m → (IsWord m → ⊥) → AfterEnd m c → c ≡ []
nothing m [] w n a = refl
nothing m (d ∷ c) w n a = absurd (n (a w).1)

-- A run that ends before one of the texts ends before the other.
pub stops : (m : Mode) (p : ℕ → Bool) (r c : List ℕ) → IsInWord m → (IsWord m → p 32 ≡ false) → Stop p r → Heads m r c → Stop p c
stops m p [] c w s e h = stop-at_end m p c w s h.firm (h.empty refl)
stops m p (b ∷ r) c w s e h = stop-after m p b c e.0 s h.firm (after m b r c w e.1 h)
