-- Tokens that are read alike in several modes between words.
use Rattle.std.proofs.Common.{◌≡◌, ℕ, Bool, true, false, not, ◌==◌, ◌&&◌, List, [], ◌∷◌, Option, Some, None, refl, ap, sym, ◌∙◌, subst}
use Rattle.std.specs.Prelude.{if◌then◌else◌, codes}
use Rattle.std.specs.Str.{bytes_eq}
use Rattle.sh_lexer.specs.declared.token.Token.{Token}
use Rattle.sh_lexer.specs.declared.token.Token.TheVariants as token
use Rattle.sh_lexer.specs.declared.token.Op.{Op}
use Rattle.sh_lexer.specs.declared.token.Bit.TheVariants as bit
use Rattle.sh_lexer.specs.declared.token.Mode.{Mode}
use Rattle.sh_lexer.specs.declared.token.Mode.TheVariants as mode
use Rattle.sh_lexer.specs.Bytes.{is_digit, in_name, is_name, ends_word, plain, skip, piece, number}
use Rattle.sh_lexer.specs.Modes.{Reads, as_seen, ends, ends_list, delimits as delimited_by, is_body, opens_pattern, parts_patterns, in_of_case, mode_after}
use Rattle.sh_lexer.specs.Lex as spec
use Rattle.sh_lexer.specs.Lex.{Lexed, got, opens, done, bad, lex, opens_parenthesis}
use Rattle.sh_lexer.specs.Lexes.{Lexes, Source, source, found, next, in_source}
use Rattle.sh_spell.specs.Tidy.{IsBetween}
use Rattle.sh_spell.proofs.Cases.{chosen_if}
use Rattle.sh_spell.proofs.Steps.{lex-between}

-- a token with which a word or an assignment begins
abbrev pub IsWordly : Token → Type 0
IsWordly (token.Part b) = Unit {0}
IsWordly (token.Param x l) = Unit {0}
IsWordly (token.Open o m) = Unit {0}
IsWordly (token.Assign x) = Unit {0}
IsWordly t = ⊥

abbrev pub IsRedirect : Token → Type 0
IsRedirect (token.Redirect fd o) = Unit {0}
IsRedirect t = ⊥

-- A token of the kind that is read by the first is read by the second.
abbrev Passes : (Token → Type 0) → Lexed → Lexed → Type 0
Passes K (got s r) l = K s → l ≡ got s r
Passes K (opens s x r) l = l ≡ opens s x r
Passes K done l = Unit {0}
Passes K (bad f) l = Unit {0}

pass-same : (K : Token → Type 0) (l : Lexed) → Passes K l l
pass-same K (got s r) = λ k. refl
pass-same K (opens s x r) = refl
pass-same K done = tt
pass-same K (bad f) = tt

pass-if : (K : Token → Type 0) (c : Bool) (x y z w : Lexed) → (c ≡ true → Passes K x z) → (c ≡ false → Passes K y w) → Passes K (if c then x else y) (if c then z else w)
pass-if K true x y z w f g = f refl
pass-if K false x y z w f g = g refl

-- ---- the first word of a command, behind a redirection

reserved-pass : (o : Option Op) (p : List ℕ × List ℕ) → Passes IsWordly (spec.reserved_or_text o p) (spec.plain_text p)
reserved-pass None p =
    chosen_if (λ (l : Lexed). Passes IsWordly l (spec.plain_text p)) (is_name p.0 && (not (spec.special_builtin p.0) && opens_parenthesis (skip p.1))) (λ e k. absurd k) (λ e k. refl)
reserved-pass (Some o) p = λ k. absurd k

command-pass : (p : List ℕ × List ℕ) → Passes IsWordly (spec.command_text p) (spec.plain_text p)
command-pass p = chosen_if (λ (l : Lexed). Passes IsWordly l (spec.plain_text p)) (ends_word p.1) (λ e. reserved-pass (spec.reserved p.0) p) (λ e k. refl)

assigned-pass : (K : Token → Type 0) (l w : Lexed) (x t : List ℕ) → Passes K l w → Passes K (spec.assigned l x t) (spec.assigned w x t)
assigned-pass K l w x [] h = h
assigned-pass K l w x (b ∷ r) h = pass-if K (b == 61) _ _ _ _ (λ e k. refl) (λ e. h)

assigned_text-pass : (K : Token → Type 0) (l w : Lexed) (p : List ℕ × List ℕ) → Passes K l w → Passes K (spec.assigned_text l p) (spec.assigned_text w p)
assigned_text-pass K l w p h = pass-if K (is_name p.0) _ _ _ _ (λ e. assigned-pass K l w p.0 p.1 h) (λ e. h)

numbered-pass : (K : Token → Type 0) (l w : Lexed) (n : ℕ) (t : List ℕ) → Passes K l w → Passes K (spec.numbered l n t) (spec.numbered w n t)
numbered-pass K l w n [] h = h
numbered-pass K l w n (b ∷ r) h = pass-if K (b == 60) _ _ _ _ (λ e. pass-same K _) (λ e. pass-if K (b == 62) _ _ _ _ (λ f. pass-same K _) (λ f. h))

-- Where the words are read alike, all is.
between-pass : (K : Token → Type 0) (m n : Mode) → ((t : List ℕ) → Passes K (spec.word_at m t) (spec.word_at n t)) → (y : List ℕ) → Passes K (spec.between m y) (spec.between n y)
unfolding spec.between spec.plain_at
between-pass K m n h [] = tt
between-pass K m n h (b ∷ r) =
    pass-if K (b == 10) _ _ _ _ (λ e k. refl) (λ e.
    pass-if K (b == 59) _ _ _ _ (λ e. pass-same K _) (λ e.
    pass-if K (b == 38) _ _ _ _ (λ e. pass-same K _) (λ e.
    pass-if K (b == 124) _ _ _ _ (λ e. pass-same K _) (λ e.
    pass-if K (b == 40) _ _ _ _ (λ e k. refl) (λ e.
    pass-if K (b == 41) _ _ _ _ (λ e k. refl) (λ e.
    pass-if K (b == 60) _ _ _ _ (λ e. pass-same K _) (λ e.
    pass-if K (b == 62) _ _ _ _ (λ e. pass-same K _) (λ e.
    pass-if K (plain b) _ _ _ _
    (λ e. pass-if K (is_digit b) _ _ _ _ (λ d. numbered-pass K (spec.word_at m (b ∷ r)) (spec.word_at n (b ∷ r)) (number 0 (piece is_digit (b ∷ r)).0) (piece is_digit (b ∷ r)).1 (h (b ∷ r))) (λ d. h (b ∷ r)))
    (λ e. pass-same K _)))))))))

word-pass : (t : List ℕ) → Passes IsWordly (spec.word_at mode.Command t) (spec.word_at mode.Prefix t)
word-pass t = assigned_text-pass IsWordly (spec.command_text (piece plain t)) (spec.plain_text (piece plain t)) (piece in_name t) (command-pass (piece plain t))

-- ---- redirections, wherever a word may begin

-- No redirection is read.
abbrev Never : Lexed → Type 0
Never (got s r) = IsRedirect s → ⊥
Never (opens s x r) = ⊥
Never done = Unit {0}
Never (bad f) = Unit {0}

never-pass : (l w : Lexed) → Never l → Passes IsRedirect l w
never-pass (got s r) w h = λ k. absurd (h k)
never-pass (opens s x r) w h = absurd h
never-pass done w h = tt
never-pass (bad f) w h = tt

assigned-never : (l : Lexed) (x t : List ℕ) → Never l → Never (spec.assigned l x t)
assigned-never l x [] h = h
assigned-never l x (b ∷ r) h = chosen_if Never (b == 61) (λ e k. k) (λ e. h)

assigned_text-never : (l : Lexed) (p : List ℕ × List ℕ) → Never l → Never (spec.assigned_text l p)
assigned_text-never l p h = chosen_if Never (is_name p.0) (λ e. assigned-never l p.0 p.1 h) (λ e. h)

reserved-never : (o : Option Op) (p : List ℕ × List ℕ) → Never (spec.reserved_or_text o p)
reserved-never None p = chosen_if Never (is_name p.0 && (not (spec.special_builtin p.0) && opens_parenthesis (skip p.1))) (λ e k. k) (λ e k. k)
reserved-never (Some o) p = λ k. k

command-never : (p : List ℕ × List ℕ) → Never (spec.command_text p)
command-never p = chosen_if Never (ends_word p.1) (λ e. reserved-never (spec.reserved p.0) p) (λ e k. k)

word-never : (m : Mode) (t : List ℕ) → IsBetween m → Never (spec.word_at m t)
word-never mode.Command t i = assigned_text-never (spec.command_text (piece plain t)) (piece in_name t) (command-never (piece plain t))
word-never mode.Prefix t i = assigned_text-never (spec.plain_text (piece plain t)) (piece in_name t) (λ k. k)
word-never mode.Arguments t i = λ k. k
word-never mode.Pattern t i = chosen_if Never (ends_word (piece plain t).1 && bytes_eq (piece plain t).0 (codes "esac")) (λ e k. k) (λ e k. k)
word-never m t i = absurd i

-- ---- tokens

found-token : (s t : Token) (p q : Source) → found s p ≡ found t q → s ≡ t
found-token s t p q e = cc

next-pass : (K : Token → Type 0) (l w : Lexed) (s : Token) (q : Source) → Passes K l w → in_source [] l ≡ found s q → K s → in_source [] w ≡ found s q
next-pass K (got t r) w s q h e k = ap (in_source []) (h (subst K (sym (found-token t s _ q e)) k)) ∙ e
next-pass K (opens t x r) w s q h e k = ap (in_source []) h ∙ e
next-pass K done w s q h e k = absurd cc
next-pass K (bad f) w s q h e k = absurd cc

next-elsewhere : (K : Token → Type 0) (m n : Mode) (t : List ℕ) (s : Token) (q : Source) → IsBetween m → IsBetween n → ((y : List ℕ) → Passes K (spec.between m y) (spec.between n y)) → next m (source t []) ≡ found s q → K s →
    next n (source t []) ≡ found s q
next-elsewhere K m n t s q i j h e k =
    ap (in_source []) (lex-between n t j) ∙ next-pass K (spec.between m (skip t)) (spec.between n (skip t)) s q (h (skip t)) (ap (in_source []) (sym (lex-between m t i)) ∙ e) k

seen-wordly : (s k : Token) → Reads s k → IsWordly k → IsWordly s
seen-wordly s k as_seen w = w
seen-wordly s k ends w = absurd w
seen-wordly s k ends_list w = absurd w
seen-wordly s k delimited_by w = absurd w
seen-wordly s k is_body w = absurd w
seen-wordly s k opens_pattern w = absurd w
seen-wordly s k parts_patterns w = absurd w
seen-wordly s k in_of_case w = absurd w

seen-redirect : (s k : Token) → Reads s k → IsRedirect k → IsRedirect s
seen-redirect s k as_seen w = w
seen-redirect s k ends w = absurd w
seen-redirect s k ends_list w = absurd w
seen-redirect s k delimited_by w = absurd w
seen-redirect s k is_body w = absurd w
seen-redirect s k opens_pattern w = absurd w
seen-redirect s k parts_patterns w = absurd w
seen-redirect s k in_of_case w = absurd w

wordly-after : (k : Token) → IsWordly k → mode_after mode.Command k ≡ mode_after mode.Prefix k
wordly-after (token.Part (bit.Piece x)) w = refl
wordly-after (token.Part (bit.Sum x n)) w = refl
wordly-after (token.Part (bit.Escaped x)) w = refl
wordly-after (token.Part (bit.Single x)) w = refl
wordly-after (token.Part (bit.Value x)) w = refl
wordly-after (token.Param x l) w = refl
wordly-after (token.Open o m) w = refl
wordly-after (token.Assign x) w = refl
wordly-after t w = absurd w

-- A word that is read at the beginning of a command is read behind a redirection too.
pub in_prefix : (t : List ℕ) (k : Token) (ts : List Token) → IsWordly k → Lexes mode.Command (source t []) (k ∷ ts) → Lexes mode.Prefix (source t []) (k ∷ ts)
in_prefix t k ts w l = (
  l.0,
  l.1,
  next-elsewhere IsWordly mode.Command mode.Prefix t l.0 l.1 tt tt (between-pass IsWordly mode.Command mode.Prefix word-pass) l.2 (seen-wordly l.0 k l.3 w),
  l.3,
  subst (λ (n : Mode). Lexes n l.1 ts) (wordly-after k w) l.4,
)

redirect-after : (m n : Mode) (k : Token) → IsRedirect k → mode_after m k ≡ mode_after n k
redirect-after m n (token.Redirect fd o) w = refl
redirect-after m n t w = absurd w

-- A redirection is read wherever a word may begin.
pub anywhere : (m n : Mode) (t : List ℕ) (k : Token) (ts : List Token) → IsBetween m → IsBetween n → IsRedirect k → Lexes m (source t []) (k ∷ ts) → Lexes n (source t []) (k ∷ ts)
anywhere m n t k ts i j w l = (
  l.0,
  l.1,
  next-elsewhere IsRedirect m n t l.0 l.1 i j (between-pass IsRedirect m n (λ y. never-pass (spec.word_at m y) (spec.word_at n y) (word-never m y i))) l.2 (seen-redirect l.0 k l.3 w),
  l.3,
  subst (λ (x : Mode). Lexes x l.1 ts) (redirect-after m n k w) l.4,
)
