-- Tokens between words are read again.
use Rattle.std.proofs.Common.{◌≡◌, ℕ, Bool, true, false, ◌==◌, List, [], ◌∷◌, ◌++◌, refl, ap, sym, ◌∙◌, subst, ◌⊎◌, inl, inr, arith, append_assoc}
use Rattle.std.specs.Prelude.{nat_le}
use Rattle.std.proofs.lemmas.Bool.{eqb-true}
use Rattle.sh_syntax.specs.declared.fault.Fault.TheVariants.{Unexpected}
use Rattle.sh_lexer.specs.declared.token.Token.{Token}
use Rattle.sh_lexer.specs.declared.token.Token.TheVariants as token
use Rattle.sh_lexer.specs.declared.token.Op.TheVariants as op
use Rattle.sh_lexer.specs.declared.token.Bit.{Bit}
use Rattle.sh_lexer.specs.declared.token.Bit.TheVariants as bit
use Rattle.sh_lexer.specs.declared.token.End.TheVariants as end
use Rattle.sh_lexer.specs.declared.token.Mode.{Mode}
use Rattle.sh_lexer.specs.declared.token.Mode.TheVariants as mode
use Rattle.sh_lexer.specs.Bytes.{is_digit, begins_name, in_name, is_name, blank, plain, peel, piece, special, number}
use Rattle.sh_lexer.specs.Modes.{inside, after_bit}
use Rattle.sh_lexer.specs.Lex as spec
use Rattle.sh_lexer.specs.Lex.{Lexed, got, opens, done, bad}
use Rattle.sh_spell.specs.Layout.{token_text, left}
use Rattle.sh_spell.specs.Tidy.{IsBetween}
use Rattle.sh_spell.proofs.Cases.{chosen_if, takes_if, passes_if, both}
use Rattle.sh_spell.proofs.Runs.{apart, ordinary_apart, Stop, piece-stop, piece-stops}
use Rattle.sh_spell.proofs.Heads.{Heads, Meets}
use Rattle.sh_spell.proofs.Dollars.{begun, begun-again, name-ordinary}
use Rattle.sh_spell.proofs.Bits.{Once, bit-once}
use Rattle.sh_spell.proofs.Inside.{plain-ordinary, special-is}
use Rattle.sh_spell.proofs.Starts.{Start}
use Rattle.sh_spell.proofs.Firsts.{unplain, piece-all, Free, free-run, word-plain, Gives, plain-gives, pattern-gives, command-gives, assigns, unassigned, AlikeTo, alike, alike-assigns}
use Rattle.sh_spell.proofs.Redirects.{Begun, Twice, marked, blank-peel, byte-peel, less-begun, greater-begun}

-- ---- the first piece of a word

pub record Worded (m : Mode) (b : ℕ) (t : Token) (r : List ℕ) : Type 0 where
  pub rest : List ℕ
  pub text : token_text t ≡ b ∷ rest
  pub again : (c : List ℕ) → Meets m t r c → spec.word_at m (b ∷ (rest ++ left t c)) ≡ got t (left t c)
  pub free : (c : List ℕ) → Meets m t r c → is_digit b ≡ true → Free (piece is_digit (b ∷ (rest ++ left t c))).1

abbrev Words : Mode → ℕ → Lexed → Type 0
Words m b (got t r) = Worded m b t r
Words m b (opens t x o) = ⊥
Words m b done = ⊥
Words m b (bad e) = ⊥

-- where no assignment is recognised
piece-words : (m : Mode) (g : List ℕ × List ℕ → Lexed) (b : ℕ) (r : List ℕ) (l : Lexed) → plain b ≡ true → ((t : List ℕ) → spec.word_at m t ≡ g (piece plain t)) →
    Gives m (b ∷ (piece plain r).0) g l → Words m b l
piece-words m g b r (got t s) e w k = let x = (piece plain r).0 in record {
  rest = x;
  text = k.text;
  again = λ c h. w (b ∷ (x ++ left t c)) ∙ (ap g (begun-again plain b r (left t c) plain-ordinary e (k.ends c h)) ∙ k.again c h);
  free = λ c h d. free-run (b ∷ x) (left t c) (e, piece-all plain r) (k.ends c h) (k.free c h);
}
piece-words m g b r (opens t x o) e w k = k
piece-words m g b r done e w k = k
piece-words m g b r (bad f) e w k = k

-- where the piece is no assignment
unassigned-words : (m : Mode) (g : List ℕ × List ℕ → Lexed) (b : ℕ) (r : List ℕ) (l : Lexed) → plain b ≡ true →
    ((t : List ℕ) → spec.word_at m t ≡ spec.assigned_text (g (piece plain t)) (piece in_name t)) → assigns (piece in_name (b ∷ r)) ≡ false →
    Gives m (b ∷ (piece plain r).0) g l → Words m b l
unassigned-words m g b r (got t s) e w a k = let x = (piece plain r).0 in record {
  rest = x;
  text = k.text;
  again = λ c h.
      let y = b ∷ (x ++ left t c) in
      let u = subst (AlikeTo (b ∷ r) (left t c)) (begun plain b r plain-ordinary e) (alike (b ∷ r) (left t c) (k.ends c h)) in
      let v : assigns (piece in_name y) ≡ false = sym (alike-assigns (piece in_name (b ∷ r)) (piece in_name y) u) ∙ a in
      w y ∙ (unassigned (g (piece plain y)) (piece in_name y) v
      ∙ (ap g (begun-again plain b r (left t c) plain-ordinary e (k.ends c h)) ∙ k.again c h));
  free = λ c h d. free-run (b ∷ x) (left t c) (e, piece-all plain r) (k.ends c h) (k.free c h);
}
unassigned-words m g b r (opens t x o) e w a k = k
unassigned-words m g b r done e w a k = k
unassigned-words m g b r (bad f) e w a k = k

-- ---- assignments

sign-stop : (c : List ℕ) → Stop in_name (61 ∷ c)
sign-stop c = (refl, apart 61 c refl)

letter-no_digit : (b : ℕ) → begins_name b ≡ true → is_digit b ≡ true → ⊥
letter-no_digit b e f = grind arith

assign-at : (m : Mode) (b : ℕ) (n s r : List ℕ) (g : List ℕ → Lexed) → ((t : List ℕ) → spec.word_at m t ≡ spec.assigned_text (g t) (piece in_name t)) → is_name (b ∷ n) ≡ true →
    ((c : List ℕ) → Stop in_name c → piece in_name (b ∷ (n ++ c)) ≡ (b ∷ n, c)) → Words m b (got (token.Assign (b ∷ n)) r)
assign-at m b n s r g w e f = record {
  rest = n ++ 61 ∷ [];
  text = refl;
  again = λ c h. let y = b ∷ ((n ++ 61 ∷ []) ++ c) in
      w y ∙ (ap (spec.assigned_text (g y)) (ap (λ (z : List ℕ). piece in_name (b ∷ z)) (append_assoc n (61 ∷ []) c) ∙ f (61 ∷ c) (sign-stop c)) ∙ takes_if (is_name (b ∷ n)) _ _ e);
  free = λ c h d. absurd (letter-no_digit b (both (begins_name b) _ e).0 d);
}

assign-words-at : (m : Mode) (b : ℕ) (r s : List ℕ) (g : List ℕ → Lexed) (q : Bool) → in_name b ≡ q → plain b ≡ true → ((t : List ℕ) → spec.word_at m t ≡ spec.assigned_text (g t) (piece in_name t)) →
    is_name (piece in_name (b ∷ r)).0 ≡ true → Words m b (got (token.Assign (piece in_name (b ∷ r)).0) s)
assign-words-at m b r s g true i p w e =
    let k = begun in_name b r name-ordinary i in
    subst (λ (x : List ℕ × List ℕ). Words m b (got (token.Assign x.0) s)) (sym k)
    (assign-at m b (piece in_name r).0 [] s g w (subst (λ (x : List ℕ × List ℕ). is_name x.0 ≡ true) k e) (λ c h. begun-again in_name b r c name-ordinary i h))
assign-words-at m b r s g false i p w e =
    let h : false ≡ true = subst (λ (x : List ℕ × List ℕ). is_name x.0 ≡ true) (piece-stop in_name (b ∷ r) (i, ordinary_apart b r (plain-ordinary b p))) e in absurd cc

assigned-split-at : (m : Mode) (b : ℕ) (l : Lexed) (x s : List ℕ) → is_name x ≡ true → (assigns (x, s) ≡ false → Words m b l) → ((z : List ℕ) → Words m b (got (token.Assign x) z)) →
    Words m b (spec.assigned l x s)
assigned-split-at m b l x [] e f g = f (rw e refl)
assigned-split-at m b l x (d ∷ s) e f g = chosen_if (λ (l : Lexed). Words m b l) (d == 61) (λ h. g s) (λ h. f (rw (e, h) refl))

assigned-split : (m : Mode) (b : ℕ) (l : Lexed) (p : List ℕ × List ℕ) → (assigns p ≡ false → Words m b l) → (is_name p.0 ≡ true → (z : List ℕ) → Words m b (got (token.Assign p.0) z)) →
    Words m b (spec.assigned_text l p)
assigned-split m b l (x, s) f g = chosen_if (λ (l : Lexed). Words m b l) (is_name x) (λ e. assigned-split-at m b l x s e f (g e)) (λ e. f (rw e refl))

-- ---- words

assigned-words : (m : Mode) (g : List ℕ × List ℕ → Lexed) (b : ℕ) (r : List ℕ) → plain b ≡ true → ((t : List ℕ) → spec.word_at m t ≡ spec.assigned_text (g (piece plain t)) (piece in_name t)) →
    ((x s : List ℕ) → Stop plain s → Gives m x g (g (x, s))) → Words m b (spec.assigned_text (g (piece plain (b ∷ r))) (piece in_name (b ∷ r)))
assigned-words m g b r e w k =
    assigned-split m b (g (piece plain (b ∷ r))) (piece in_name (b ∷ r))
    (λ a. subst (λ (x : List ℕ × List ℕ). Words m b (g x)) (sym (begun plain b r plain-ordinary e))
    (unassigned-words m g b r (g (b ∷ (piece plain r).0, (piece plain r).1)) e w a (k (b ∷ (piece plain r).0) (piece plain r).1 (piece-stops plain r))))
    (λ n z. assign-words-at m b r z (λ t. g (piece plain t)) (in_name b) refl e w n)

plain-words : (m : Mode) (g : List ℕ × List ℕ → Lexed) (b : ℕ) (r : List ℕ) → plain b ≡ true → ((t : List ℕ) → spec.word_at m t ≡ g (piece plain t)) →
    ((x s : List ℕ) → Stop plain s → Gives m x g (g (x, s))) → Words m b (g (piece plain (b ∷ r)))
plain-words m g b r e w k =
    subst (λ (x : List ℕ × List ℕ). Words m b (g x)) (sym (begun plain b r plain-ordinary e))
    (piece-words m g b r (g (b ∷ (piece plain r).0, (piece plain r).1)) e w (k (b ∷ (piece plain r).0) (piece plain r).1 (piece-stops plain r)))

word-words : (m : Mode) (b : ℕ) (r : List ℕ) → IsBetween m → plain b ≡ true → Words m b (spec.word_at m (b ∷ r))
word-words mode.Command b r i e = assigned-words mode.Command spec.command_text b r e (λ t. refl) command-gives
word-words mode.Prefix b r i e = assigned-words mode.Prefix spec.plain_text b r e (λ t. refl) (λ x s h. plain-gives mode.Prefix x s refl h)
word-words mode.Arguments b r i e = plain-words mode.Arguments spec.plain_text b r e (λ t. refl) (λ x s h. plain-gives mode.Arguments x s refl h)
word-words mode.Pattern b r i e = plain-words mode.Pattern spec.pattern_text b r e (λ t. refl) pattern-gives
word-words m b r i e = absurd i

-- ---- plain bytes

pub plain-between : (m : Mode) (b : ℕ) (k : List ℕ) → plain b ≡ true → spec.between m (b ∷ k) ≡ spec.plain_at m b k
unfolding spec.between
plain-between m b k e =
    passes_if (b == 10) _ _ (unplain b 10 refl e) ∙ (passes_if (b == 59) _ _ (unplain b 59 refl e) ∙ (passes_if (b == 38) _ _ (unplain b 38 refl e)
    ∙ (passes_if (b == 124) _ _ (unplain b 124 refl e) ∙ (passes_if (b == 40) _ _ (unplain b 40 refl e) ∙ (passes_if (b == 41) _ _ (unplain b 41 refl e)
    ∙ (passes_if (b == 60) _ _ (unplain b 60 refl e) ∙ (passes_if (b == 62) _ _ (unplain b 62 refl e) ∙ takes_if (plain b) _ _ e)))))))

words-twice : (m : Mode) (b : ℕ) (r : List ℕ) (l : Lexed) → plain b ≡ true → Start (b ∷ r) → Words m b l → Twice m b l
words-twice m b r (got t s) e z k = record {
  byte = b;
  rest = k.rest;
  text = k.text;
  no_blank = z.0;
  no_comment = z.1;
  opens = refl;
  again = λ c h. plain-between m b (k.rest ++ left t c) e ∙ (word-plain m b (k.rest ++ left t c) (k.free c h) ∙ k.again c h);
  firm = λ c h. ordinary_apart b (k.rest ++ left t c) (plain-ordinary b e);
}
words-twice m b r (opens t x o) e z k = absurd k
words-twice m b r done e z k = absurd k
words-twice m b r (bad f) e z k = absurd k

numbered-twice : (m : Mode) (b n : ℕ) (l : Lexed) (t : List ℕ) → (b == 40) ≡ false → Twice m b l → Twice m b (spec.numbered l n t)
numbered-twice m b n l [] e k = k
numbered-twice m b n l (d ∷ r) e k = let P = λ (l : Lexed). Twice m b l in
    chosen_if P (d == 60) (λ f. chosen_if P (nat_le n 2) (λ g. less-begun m n b (peel r) g e) (λ g. tt)) (λ f.
    chosen_if P (d == 62) (λ g. chosen_if P (nat_le n 2) (λ h. greater-begun m n b (peel r) h e) (λ h. tt)) (λ g. k))

plain-twice : (m : Mode) (b : ℕ) (r : List ℕ) → IsBetween m → plain b ≡ true → Start (b ∷ r) → Twice m b (spec.plain_at m b r)
unfolding spec.plain_at
plain-twice m b r i e z = let k = words-twice m b r (spec.word_at m (b ∷ r)) e z (word-words m b r i e) in
    chosen_if (λ (l : Lexed). Twice m b l) (is_digit b)
    (λ d. numbered-twice m b (number 0 (piece is_digit (b ∷ r)).0) (spec.word_at m (b ∷ r)) (piece is_digit (b ∷ r)).1 (unplain b 40 refl e) k)
    (λ d. k)

-- ---- other parts of words

bit_over : (m : Mode) (b : Bit) → inside m ≡ mode.Word → after_bit m b ≡ after_bit mode.Word b
bit_over m (bit.Piece x) e = e
bit_over m (bit.Sum x n) e = refl
bit_over m (bit.Escaped b) e = e
bit_over m (bit.Single x) e = e
bit_over m (bit.Value x) e = e

pub meets-word : (m : Mode) (t : Token) (r c : List ℕ) → inside m ≡ mode.Word → Meets m t r c → Meets mode.Word t r c
meets-word m (token.Part b) r c e h = (subst (λ (n : Mode). Heads n r c) (bit_over m b e) h.0, h.1)
meets-word m (token.Operator o) r c e h = h
meets-word m (token.Param x l) r c e h = h
meets-word m (token.Open o n) r c e h = h
meets-word m (token.End n k) r c e h = h
meets-word m (token.Assign x) r c e h = h
meets-word m (token.Redirect n o) r c e h = h
meets-word m (token.Here n s) r c e h = h
meets-word m (token.Delimiter x q n) r c e h = h
meets-word m token.Body r c e h = h
meets-word m (token.Verbatim x n) r c e h = h
meets-word m (token.Function x) r c e h = h

once-twice : (m : Mode) (b : ℕ) (r : List ℕ) (l : Lexed) → inside m ≡ mode.Word → Start (b ∷ r) → Once mode.Word b (spec.between m) l → Twice m b l
once-twice m b r (got t s) e z k = record {
  byte = b;
  rest = k.rest;
  text = k.text;
  no_blank = z.0;
  no_comment = z.1;
  opens = refl;
  again = λ c h. k.again c (meets-word m t s c e h);
  firm = λ c h. k.firm c (meets-word m t s c e h);
}
once-twice m b r (opens t x o) e z k = k
once-twice m b r done e z k = tt
once-twice m b r (bad f) e z k = tt

special-between : (m : Mode) (b : ℕ) → special b ≡ true → (k : List ℕ) → spec.between m (b ∷ k) ≡ spec.bit_at mode.Word plain (b ∷ k)
unfolding spec.between special
special-between m b e k = special-is (λ n. spec.between m (n ∷ k) ≡ spec.bit_at mode.Word plain (n ∷ k)) refl refl refl refl b e

-- a byte that is neither an operator's nor plain
abbrev IsOther : ℕ → Type 0
IsOther b = ((b == 10) ≡ false) × ((b == 59) ≡ false) × ((b == 38) ≡ false) × ((b == 124) ≡ false) × ((b == 40) ≡ false) × ((b == 41) ≡ false) × ((b == 60) ≡ false) × ((b == 62) ≡ false) × (plain b ≡ false)

other-between : (m : Mode) (b : ℕ) (k : List ℕ) → IsOther b → spec.between m (b ∷ k) ≡ spec.bit_at mode.Word plain (b ∷ k)
unfolding spec.between
other-between m b k e =
    passes_if (b == 10) _ _ e.0 ∙ (passes_if (b == 59) _ _ e.1 ∙ (passes_if (b == 38) _ _ e.2 ∙ (passes_if (b == 124) _ _ e.3 ∙ (passes_if (b == 40) _ _ e.4
    ∙ (passes_if (b == 41) _ _ e.5 ∙ (passes_if (b == 60) _ _ e.6 ∙ (passes_if (b == 62) _ _ e.7 ∙ passes_if (plain b) _ _ e.8)))))))

other-bits : (m : Mode) (b d : ℕ) → IsOther b → (special d ≡ true) ⊎ (d ≡ b) → (k : List ℕ) → spec.between m (d ∷ k) ≡ spec.bit_at mode.Word plain (d ∷ k)
other-bits m b d e (inl f) k = special-between m d f k
other-bits m b d e (inr f) k = other-between m d k (subst IsOther (sym f) e)

pub between-inside : (m : Mode) → IsBetween m → inside m ≡ mode.Word
between-inside mode.Command i = refl
between-inside mode.Prefix i = refl
between-inside mode.Arguments i = refl
between-inside mode.Pattern i = refl
between-inside m i = absurd i

-- ---- all tokens

-- an operator of one byte, where nothing behind it tells
alone : (m : Mode) (b d : ℕ) (t : Token) (r : List ℕ) → (b == d) ≡ true → token_text t ≡ d ∷ [] → blank d ≡ false → (d == 35) ≡ false → (d == 92) ≡ false →
    ((c : List ℕ) → spec.between m (d ∷ left t c) ≡ got t (left t c)) → Begun m b t r
alone m b d t r e f g h i k = marked m b t r d [] f g h i (ap (λ n. n == 40) (eqb-true b d e)) k

doubled : (m : Mode) (b d : ℕ) (t : Token) (r : List ℕ) → (b == d) ≡ true → token_text t ≡ d ∷ d ∷ [] → blank d ≡ false → (d == 35) ≡ false → (d == 92) ≡ false →
    ((c : List ℕ) → spec.between m (d ∷ d ∷ left t c) ≡ got t (left t c)) → Begun m b t r
doubled m b d t r e f g h i k = marked m b t r d (d ∷ []) f g h i (ap (λ n. n == 40) (eqb-true b d e)) k

semi-twice : (m : Mode) (b : ℕ) (t : List ℕ) → (b == 59) ≡ true → Twice m b (spec.two 59 (spec.operator op.Semi t) op.DoubleSemi t)
unfolding spec.between
semi-twice m b [] e = alone m b 59 _ [] e refl refl refl refl (λ c. ap (λ t. spec.two 59 (spec.operator op.Semi t) op.DoubleSemi t) (blank-peel c))
semi-twice m b (d ∷ r) e = chosen_if (λ (l : Lexed). Twice m b l) (d == 59)
    (λ f. doubled m b 59 _ r e refl refl refl refl (λ c. ap (λ t. spec.two 59 (spec.operator op.Semi t) op.DoubleSemi t) (byte-peel 59 (32 ∷ c) refl)))
    (λ f. alone m b 59 _ (d ∷ r) e refl refl refl refl (λ c. ap (λ t. spec.two 59 (spec.operator op.Semi t) op.DoubleSemi t) (blank-peel c)))

and-twice : (m : Mode) (b : ℕ) (t : List ℕ) → (b == 38) ≡ true → Twice m b (spec.two 38 (bad Unexpected) op.AndIf t)
unfolding spec.between
and-twice m b [] e = tt
and-twice m b (d ∷ r) e = chosen_if (λ (l : Lexed). Twice m b l) (d == 38)
    (λ f. doubled m b 38 _ r e refl refl refl refl (λ c. ap (λ t. spec.two 38 (bad Unexpected) op.AndIf t) (byte-peel 38 (32 ∷ c) refl)))
    (λ f. tt)

pipe-twice : (m : Mode) (b : ℕ) (t : List ℕ) → (b == 124) ≡ true → Twice m b (spec.two 124 (spec.operator op.Pipe t) op.OrIf t)
unfolding spec.between
pipe-twice m b [] e = alone m b 124 _ [] e refl refl refl refl (λ c. ap (λ t. spec.two 124 (spec.operator op.Pipe t) op.OrIf t) (blank-peel c))
pipe-twice m b (d ∷ r) e = chosen_if (λ (l : Lexed). Twice m b l) (d == 124)
    (λ f. doubled m b 124 _ r e refl refl refl refl (λ c. ap (λ t. spec.two 124 (spec.operator op.Pipe t) op.OrIf t) (byte-peel 124 (32 ∷ c) refl)))
    (λ f. alone m b 124 _ (d ∷ r) e refl refl refl refl (λ c. ap (λ t. spec.two 124 (spec.operator op.Pipe t) op.OrIf t) (blank-peel c)))

apart-bytes : (b d : ℕ) → (b == d) ≡ true → (d == 40) ≡ false → (b == 40) ≡ false
apart-bytes b d e f = ap (λ n. n == 40) (eqb-true b d e) ∙ f

pub between-twice : (m : Mode) (b : ℕ) (r : List ℕ) → IsBetween m → Start (b ∷ r) → Twice m b (spec.between m (b ∷ r))
unfolding spec.between
between-twice m b r i z = let P = λ (l : Lexed). Twice m b l in
    chosen_if P (b == 10) (λ e. alone m b 10 (token.End end.Newline mode.Command) r e refl refl refl refl (λ c. refl)) (λ e1.
    chosen_if P (b == 59) (λ e. semi-twice m b (peel r) e) (λ e2.
    chosen_if P (b == 38) (λ e. and-twice m b (peel r) e) (λ e3.
    chosen_if P (b == 124) (λ e. pipe-twice m b (peel r) e) (λ e4.
    chosen_if P (b == 40) (λ e. alone m b 40 (token.Operator op.Open) r e refl refl refl refl (λ c. refl)) (λ e5.
    chosen_if P (b == 41) (λ e. alone m b 41 (token.Operator op.Close) r e refl refl refl refl (λ c. refl)) (λ e6.
    chosen_if P (b == 60) (λ e. less-begun m 0 b (peel r) refl (apart-bytes b 60 e refl)) (λ e7.
    chosen_if P (b == 62) (λ e. greater-begun m 1 b (peel r) refl (apart-bytes b 62 e refl)) (λ e8.
    chosen_if P (plain b) (λ e. plain-twice m b r i e z) (λ e9.
    once-twice m b r (spec.bit_at mode.Word plain (b ∷ r)) (between-inside m i) z
    (bit-once mode.Word plain (spec.between m) b r tt refl plain-ordinary (λ j. refl) z.2
    (λ d. other-bits m b d (e1, e2, e3, e4, e5, e6, e7, e8, e9))))))))))))
