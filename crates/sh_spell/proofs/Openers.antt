-- What is known of a token that is read, from how it is read. What is opened in a word goes back to how the word is read.
use Rattle.std.proofs.Common.{◌≡◌, ℕ, Bool, true, false, not, ◌==◌, ◌&&◌, ◌||◌, List, [], ◌∷◌, ◌++◌, Option, Some, None, refl, ap, sym, subst, ◌∙◌, ◌⊎◌, inl, inr}
use Rattle.std.specs.Prelude.{nat_le, codes}
use Rattle.std.specs.Str.{bytes_eq}
use Rattle.sh_syntax.specs.declared.fault.Fault.TheVariants.{Unexpected}
use Rattle.sh_syntax.specs.declared.tree.ParamOp.{ParamOp}
use Rattle.sh_syntax.specs.declared.tree.ParamOp.TheVariants as param_op
use Rattle.sh_syntax.specs.declared.tree.RedirOp.{RedirOp}
use Rattle.sh_syntax.specs.declared.tree.RedirOp.TheVariants as redir_op
use Rattle.std.proofs.lemmas.Bool.{eqb-true}
use Rattle.sh_lexer.specs.declared.token.Token.{Token}
use Rattle.sh_lexer.specs.declared.token.Token.TheVariants as token
use Rattle.sh_lexer.specs.declared.token.Op.{Op}
use Rattle.sh_lexer.specs.declared.token.Op.TheVariants as op
use Rattle.sh_lexer.specs.declared.token.Bit.TheVariants as bit
use Rattle.sh_lexer.specs.declared.token.Opener.TheVariants as opener
use Rattle.sh_lexer.specs.declared.token.Mode.{Mode}
use Rattle.sh_lexer.specs.declared.token.Mode.TheVariants as mode
use Rattle.sh_lexer.specs.Bytes.{is_digit, begins_name, in_name, is_name, ends_word, plain, quoted_plain, braces_plain, quoted_braces_plain, body_plain, peel, skip, piece, single, has_nul, number, special}
use Rattle.sh_lexer.specs.Modes.{inside}
use Rattle.sh_lexer.specs.Lex as spec
use Rattle.sh_lexer.specs.Lex.{Lexed, got, opens, done, bad, closes, lex, opens_parenthesis}
use Rattle.sh_spell.specs.Tidy.{IsBetween, IsInWord}
use Rattle.sh_spell.specs.Scripts.{begins_in_name, is_empty, needs_braces}
use Rattle.sh_spell.proofs.Cases.{chosen_if, takes_if, passes_if, both}
use Rattle.sh_spell.proofs.Runs.{apart, Firm, Stop, peel-firm, piece-stops}
use Rattle.sh_spell.proofs.Dollars.{begun, begun-again, name-ordinary, name-is_name, name-is_solid, digit-ordinary, digit-is_solid}
use Rattle.sh_spell.proofs.Steps.{inner, lex-between, lex-inside}

-- not in double quotes
abbrev pub NotQuotes : Mode → Type 0
NotQuotes mode.Quotes = ⊥
NotQuotes m = Unit {0}

-- A name without braces ends before the text, and other parameters without braces have one byte.
abbrev pub EndsName : List ℕ → List ℕ → Type 0
EndsName [] r = ⊥
EndsName (b ∷ x) r = ((begins_name b ≡ false) × (x ≡ [])) ⊎ ((begins_name b ≡ true) × Stop in_name r)

-- The parameter is read without braces too, where it needs none.
abbrev pub Unbraced : List ℕ → Type 0
Unbraced x = (n : Mode) (c : List ℕ) → Firm c → needs_braces x c ≡ false → spec.dollar n (peel (x ++ c)) ≡ got (token.Part (bit.Value x)) c

abbrev pub IsFile : RedirOp → Type 0
IsFile redir_op.Here = ⊥
IsFile o = Unit {0}

-- What the token opens is in a word of the mode.
abbrev pub OpensIn : Mode → Token → List ℕ → Type 0
OpensIn m (token.Open opener.Double n) r = (n ≡ m) × NotQuotes m
OpensIn m (token.Open o n) r = n ≡ m
OpensIn m (token.Part (bit.Value x)) r = EndsName x r
OpensIn m (token.Part (bit.Sum x n)) r = NotQuotes m
OpensIn m (token.Param x false) r = Unbraced x
OpensIn m (token.Redirect fd o) r = IsFile o
OpensIn m (token.Function x) r = opens_parenthesis (skip r) ≡ true
OpensIn m (token.Assign x) r = ⊥
OpensIn m t r = Unit {0}

abbrev pub Fit : Mode → Lexed → Type 0
Fit m (got t r) = OpensIn m t r
Fit m (opens t x o) = t ≡ token.Open opener.Backquote m
Fit m done = Unit {0}
Fit m (bad f) = Unit {0}

-- Assignments are recognised.
abbrev pub Assigns : Mode → Type 0
Assigns mode.Command = Unit {0}
Assigns mode.Prefix = Unit {0}
Assigns m = ⊥

-- between words of the mode
pub data Fits (m : Mode) : Lexed → Type 0 where
  assigns : {x r : List ℕ} → Assigns m → Fits m (got (token.Assign x) r)
  fits : {l : Lexed} → Fit mode.Word l → Fits m l

-- ---- parameters without braces

differs : (p : ℕ → Bool) (b n : ℕ) (q : Bool) → (b == n) ≡ q → p b ≡ true → p n ≡ false → (b == n) ≡ false
differs p b n true g e f = let h = ap p (eqb-true b n g) in absurd cc
differs p b n false g e f = g

stop-name : (c : List ℕ) → Firm c → begins_in_name c ≡ false → Stop in_name c
stop-name [] f e = tt
stop-name (b ∷ c) f e = (e, f)

unbraced-name : (b : ℕ) (r : List ℕ) → begins_name b ≡ true → Unbraced (b ∷ (piece in_name r).0)
unfolding spec.dollar
unbraced-name b r e n c f h =
    ap (spec.dollar n) (peel-firm (b ∷ ((piece in_name r).0 ++ c)) (apart b ((piece in_name r).0 ++ c) (name-is_solid b e)))
    ∙ (passes_if (b == 40) _ _ (differs begins_name b 40 (b == 40) refl e refl) ∙ (passes_if (b == 123) _ _ (differs begins_name b 123 (b == 123) refl e refl)
    ∙ (takes_if (begins_name b) _ _ e
    ∙ ap spec.value (begun-again in_name b r c name-ordinary (name-is_name b e) (stop-name c f (sym (takes_if (begins_name b) (begins_in_name c) (not (is_empty (piece in_name r).0)) e) ∙ h))))))

no_more : (x : List ℕ) → not (is_empty x) ≡ false → x ≡ []
no_more [] e = refl
no_more (b ∷ x) e = absurd cc

one_byte : (b : ℕ) (n : Mode) (c : List ℕ) → (b == 92) ≡ false → (b == 40) ≡ false → (b == 123) ≡ false → begins_name b ≡ false → (is_digit b || spec.special_parameter b || b == 35) ≡ true →
    spec.dollar n (peel (b ∷ c)) ≡ got (token.Part (bit.Value (b ∷ []))) c
unfolding spec.dollar
one_byte b n c s e f g h =
    ap (spec.dollar n) (peel-firm (b ∷ c) (apart b c s))
    ∙ (passes_if (b == 40) _ _ e ∙ (passes_if (b == 123) _ _ f ∙ (passes_if (begins_name b) _ _ g ∙ takes_if (is_digit b || spec.special_parameter b || b == 35) _ _ h)))

unbraced-byte : (b : ℕ) (x : List ℕ) → (b == 92) ≡ false → (b == 40) ≡ false → (b == 123) ≡ false → begins_name b ≡ false → (is_digit b || spec.special_parameter b || b == 35) ≡ true → Unbraced (b ∷ x)
unbraced-byte b x s e f g h n c i j =
    let k = no_more x (sym (passes_if (begins_name b) (begins_in_name c) (not (is_empty x)) g) ∙ j) in
    subst (λ (y : List ℕ). spec.dollar n (peel (b ∷ (y ++ c))) ≡ got (token.Part (bit.Value (b ∷ y))) c) (sym k) (one_byte b n c s e f g h)

digit-byte : (b : ℕ) → is_digit b ≡ true → (is_digit b || spec.special_parameter b || b == 35) ≡ true
digit-byte b e = ap (λ q. q || spec.special_parameter b || b == 35) e

special-byte : (b : ℕ) → is_digit b ≡ false → spec.special_parameter b ≡ true → (is_digit b || spec.special_parameter b || b == 35) ≡ true
special-byte b d e = ap (λ q. q || spec.special_parameter b || b == 35) d ∙ ap (λ q. q || b == 35) e

unbraced-digits : (b : ℕ) (r : List ℕ) → begins_name b ≡ false → is_digit b ≡ true → Unbraced (b ∷ (piece is_digit r).0)
unbraced-digits b r g e =
    unbraced-byte b (piece is_digit r).0 (digit-is_solid b e) (differs is_digit b 40 (b == 40) refl e refl) (differs is_digit b 123 (b == 123) refl e refl) g (digit-byte b e)

unbraced-special : (b : ℕ) → begins_name b ≡ false → is_digit b ≡ false → spec.special_parameter b ≡ true → Unbraced (b ∷ [])
unbraced-special b g d e =
    unbraced-byte b [] (differs spec.special_parameter b 92 (b == 92) refl e refl) (differs spec.special_parameter b 40 (b == 40) refl e refl) (differs spec.special_parameter b 123 (b == 123) refl e refl) g (special-byte b d e)

unbraced-hash : Unbraced (35 ∷ [])
unbraced-hash = unbraced-byte 35 [] refl refl refl refl refl

quoted_text-fit : (m : Mode) (p : List ℕ × List ℕ) → Fit m (spec.quoted_text p)
quoted_text-fit m p = chosen_if (Fit m) (spec.begins_nul p.1) (λ e. tt) (λ e. tt)

-- ---- parameters

colon-fit : (m : Mode) (x t : List ℕ) → Fit m (spec.colon_op m x t)
colon-fit m x [] = tt
colon-fit m x (b ∷ r) =
    chosen_if (Fit m) (b == 45) (λ e. refl) (λ e.
    chosen_if (Fit m) (b == 61) (λ e. refl) (λ e.
    chosen_if (Fit m) (b == 63) (λ e. refl) (λ e.
    chosen_if (Fit m) (b == 43) (λ e. refl) (λ e.
    chosen_if (Fit m) (b == 0) (λ e. tt) (λ e. tt)))))

doubled-fit : (m : Mode) (x : List ℕ) (c : ℕ) (small large : ParamOp) (t : List ℕ) → Fit m (spec.doubled m x c small large t)
doubled-fit m x c small large [] = refl
doubled-fit m x c small large (b ∷ r) = chosen_if (Fit m) (b == c) (λ e. refl) (λ e. refl)

op-fit : (m : Mode) (x t : List ℕ) → Unbraced x → Fit m (spec.param_op_at m x t)
unfolding spec.param_op_at
op-fit m x [] u = tt
op-fit m x (b ∷ r) u =
    chosen_if (Fit m) (b == 125) (λ e. u) (λ e.
    chosen_if (Fit m) (b == 58) (λ e. colon-fit m x (peel r)) (λ e.
    chosen_if (Fit m) (b == 45) (λ e. refl) (λ e.
    chosen_if (Fit m) (b == 61) (λ e. refl) (λ e.
    chosen_if (Fit m) (b == 63) (λ e. refl) (λ e.
    chosen_if (Fit m) (b == 43) (λ e. refl) (λ e.
    chosen_if (Fit m) (b == 37) (λ e. doubled-fit m x 37 param_op.SmallSuffix param_op.LargeSuffix (peel r)) (λ e.
    chosen_if (Fit m) (b == 35) (λ e. doubled-fit m x 35 param_op.SmallPrefix param_op.LargePrefix (peel r)) (λ e.
    chosen_if (Fit m) (b == 0) (λ e. tt) (λ e. tt)))))))))

length_end-fit : (m : Mode) (x t : List ℕ) → Fit m (spec.length_end x t)
length_end-fit m x [] = tt
length_end-fit m x (b ∷ r) = chosen_if (Fit m) (b == 125) (λ e. tt) (λ e. chosen_if (Fit m) (b == 0) (λ e. tt) (λ e. tt))

hash-fit : (m : Mode) (t : List ℕ) → Fit m (spec.hash m t)
unfolding spec.hash
hash-fit m [] = tt
hash-fit m (b ∷ r) =
    chosen_if (Fit m) (begins_name b) (λ e. length_end-fit m (piece in_name (b ∷ r)).0 (piece in_name (b ∷ r)).1) (λ e.
    chosen_if (Fit m) (is_digit b) (λ e. chosen_if (Fit m) (spec.positional (piece is_digit (b ∷ r)).0) (λ f. length_end-fit m (piece is_digit (b ∷ r)).0 (piece is_digit (b ∷ r)).1) (λ f. tt)) (λ e. op-fit m (35 ∷ []) (b ∷ r) unbraced-hash))

braces-fit : (m : Mode) (t : List ℕ) → Fit m (spec.in_braces m t)
unfolding spec.in_braces
braces-fit m [] = tt
braces-fit m (b ∷ r) = let p = piece is_digit (b ∷ r) in
    chosen_if (Fit m) (begins_name b)
    (λ e. op-fit m (piece in_name (b ∷ r)).0 (piece in_name (b ∷ r)).1 (subst (λ (y : List ℕ × List ℕ). Unbraced y.0) (sym (begun in_name b r name-ordinary (name-is_name b e))) (unbraced-name b r e))) (λ e0.
    chosen_if (Fit m) (is_digit b)
    (λ e. chosen_if (Fit m) (spec.positional p.0 || spec.zero_alone p.0)
    (λ f. op-fit m p.0 p.1 (subst (λ (y : List ℕ × List ℕ). Unbraced y.0) (sym (begun is_digit b r digit-ordinary e)) (unbraced-digits b r e0 e))) (λ f. tt)) (λ e1.
    chosen_if (Fit m) (b == 35) (λ e. hash-fit m (peel r)) (λ e.
    chosen_if (Fit m) (spec.special_parameter b) (λ e. op-fit m (b ∷ []) (peel r) (unbraced-special b e0 e1 e)) (λ e.
    chosen_if (Fit m) (b == 0) (λ e. tt) (λ e. tt)))))

parenthesis-fit : (m : Mode) (t : List ℕ) → Fit m (spec.parenthesis m t)
parenthesis-fit m [] = refl
parenthesis-fit m (b ∷ r) = chosen_if (Fit m) (b == 40) (λ e. refl) (λ e. refl)

dollar-fit : (m : Mode) (t : List ℕ) → Fit m (spec.dollar m t)
unfolding spec.dollar
dollar-fit m [] = tt
dollar-fit m (b ∷ r) =
    chosen_if (Fit m) (b == 40) (λ e. parenthesis-fit m (peel r)) (λ e.
    chosen_if (Fit m) (b == 123) (λ e. braces-fit m (peel r)) (λ e.
    chosen_if (Fit m) (begins_name b)
    (λ e. subst (λ (y : List ℕ × List ℕ). EndsName y.0 y.1) (sym (begun in_name b r name-ordinary (name-is_name b e))) (inr (e, piece-stops in_name r))) (λ e2.
    chosen_if (Fit m) (is_digit b || spec.special_parameter b || b == 35) (λ e. inl (e2, refl)) (λ e.
    chosen_if (Fit m) (spec.unknown_parameter b) (λ e. tt) (λ e. tt)))))

-- ---- parts of words

escaped-fit : (m : Mode) (t : List ℕ) → Fit m (spec.escaped t)
escaped-fit m [] = tt
escaped-fit m (b ∷ r) = chosen_if (Fit m) (b == 0) (λ e. tt) (λ e. tt)

escaped_if-fit : (m : Mode) (p : ℕ → Bool) (t : List ℕ) → Fit m (spec.escaped_if p t)
escaped_if-fit m p [] = tt
escaped_if-fit m p (b ∷ r) = chosen_if (Fit m) (p b) (λ e. tt) (λ e. tt)

special-fit : (m : Mode) (g : List ℕ → Lexed) (b : ℕ) (r : List ℕ) → Fit m (g r) → Fit m (spec.special_at m g b r)
unfolding spec.special_at
special-fit m g b r h =
    chosen_if (Fit m) (b == 36) (λ e. dollar-fit m (peel r)) (λ e.
    chosen_if (Fit m) (b == 96) (λ e. refl) (λ e.
    chosen_if (Fit m) (b == 92) (λ e. h) (λ e. tt)))

single-fit : (m : Mode) (o : Option (List ℕ × List ℕ)) → Fit m (spec.single_text o)
single-fit m None = tt
single-fit m (Some p) = chosen_if (Fit m) (has_nul p.0) (λ e. tt) (λ e. tt)

text_if-fit : (m : Mode) (p : ℕ → Bool) (t : List ℕ) → Fit m (spec.text_if p t)
unfolding spec.text_if
text_if-fit m p [] = tt
text_if-fit m p (b ∷ r) = chosen_if (Fit m) (p b) (λ e. quoted_text-fit m (piece p (b ∷ r))) (λ e. tt)

bit-fit : (m : Mode) (p : ℕ → Bool) (t : List ℕ) → NotQuotes m → Fit m (spec.bit_at m p t)
unfolding spec.bit_at
bit-fit m p [] u = tt
bit-fit m p (b ∷ r) u =
    chosen_if (Fit m) (special b) (λ e. special-fit m spec.escaped b r (escaped-fit m r)) (λ e.
    chosen_if (Fit m) (b == 39) (λ e. single-fit m (single r)) (λ e.
    chosen_if (Fit m) (b == 34) (λ e. (refl, u)) (λ e. text_if-fit m p (b ∷ r))))

inner-fit : (m : Mode) (t : List ℕ) → IsInWord m → Fit m (inner m t)
unfolding spec.in_word spec.in_quotes spec.in_plain_braces spec.in_quoted_braces spec.in_arith spec.in_body
inner-fit mode.Word t i = chosen_if (Fit mode.Word) (ends_word t) (λ e. tt) (λ e. bit-fit mode.Word plain t tt)
inner-fit mode.Quotes [] i = tt
inner-fit mode.Quotes (b ∷ r) i =
    chosen_if (Fit mode.Quotes) (special b) (λ e. special-fit mode.Quotes (spec.escaped_if spec.quotes_escapable) b r (escaped_if-fit mode.Quotes spec.quotes_escapable r)) (λ e.
    chosen_if (Fit mode.Quotes) (b == 34) (λ e. tt) (λ e. quoted_text-fit mode.Quotes (piece quoted_plain (b ∷ r))))
inner-fit (mode.Braces false) [] i = tt
inner-fit (mode.Braces false) (b ∷ r) i = chosen_if (Fit (mode.Braces false)) (b == 125) (λ e. tt) (λ e. bit-fit (mode.Braces false) braces_plain (b ∷ r) tt)
inner-fit (mode.Braces true) [] i = tt
inner-fit (mode.Braces true) (b ∷ r) i = let m = mode.Braces true in
    chosen_if (Fit m) (special b) (λ e. special-fit m (spec.escaped_if spec.braces_escapable) b r (escaped_if-fit m spec.braces_escapable r)) (λ e.
    chosen_if (Fit m) (b == 125) (λ e. tt) (λ e.
    chosen_if (Fit m) (b == 34) (λ e. (refl, tt)) (λ e. quoted_text-fit m (piece quoted_braces_plain (b ∷ r)))))
inner-fit (mode.Arith n) [] i = tt
inner-fit (mode.Arith n) (b ∷ r) i = let m = mode.Arith n in
    chosen_if (Fit m) (special b) (λ e. special-fit m (spec.escaped_if spec.escapable) b r (escaped_if-fit m spec.escapable r)) (λ e.
    chosen_if (Fit m) (b == 41 && (n == 0 && closes (peel r))) (λ e. tt) (λ e. chosen_if (Fit m) (spec.begins_nul (spec.sum n (b ∷ r)).2) (λ f. tt) (λ f. tt)))
inner-fit mode.Body [] i = tt
inner-fit mode.Body (b ∷ r) i =
    chosen_if (Fit mode.Body) (special b) (λ e. special-fit mode.Body (spec.escaped_if spec.escapable) b r (escaped_if-fit mode.Body spec.escapable r)) (λ e. quoted_text-fit mode.Body (piece body_plain (b ∷ r)))
inner-fit m t i = absurd i

-- ---- between words

two-fit : (m : Mode) (c : ℕ) (l : Lexed) (o : Op) (t : List ℕ) → Fit m l → Fit m (spec.two c l o t)
two-fit m c l o [] h = h
two-fit m c l o (b ∷ r) h = chosen_if (Fit m) (b == c) (λ e. tt) (λ e. h)

here-fit : (m : Mode) (fd : ℕ) (t : List ℕ) → Fit m (spec.here fd t)
here-fit m fd [] = tt
here-fit m fd (b ∷ r) = chosen_if (Fit m) (b == 45) (λ e. tt) (λ e. tt)

less-fit : (m : Mode) (fd : ℕ) (t : List ℕ) → Fit m (spec.less fd t)
unfolding spec.less
less-fit m fd [] = tt
less-fit m fd (b ∷ r) =
    chosen_if (Fit m) (b == 60) (λ e. here-fit m fd (peel r)) (λ e. chosen_if (Fit m) (b == 38) (λ e. tt) (λ e. chosen_if (Fit m) (b == 62) (λ e. tt) (λ e. tt)))

greater-fit : (m : Mode) (fd : ℕ) (t : List ℕ) → Fit m (spec.greater fd t)
unfolding spec.greater
greater-fit m fd [] = tt
greater-fit m fd (b ∷ r) = chosen_if (Fit m) (b == 62) (λ e. tt) (λ e. chosen_if (Fit m) (b == 38) (λ e. tt) (λ e. chosen_if (Fit m) (b == 124) (λ e. tt) (λ e. tt)))

numbered-fit : (m : Mode) (l : Lexed) (n : ℕ) (t : List ℕ) → Fits m l → Fits m (spec.numbered l n t)
numbered-fit m l n [] h = h
numbered-fit m l n (b ∷ r) h =
    chosen_if (Fits m) (b == 60) (λ e. chosen_if (Fits m) (nat_le n 2) (λ f. fits (less-fit mode.Word n (peel r))) (λ f. fits tt)) (λ e.
    chosen_if (Fits m) (b == 62) (λ f. chosen_if (Fits m) (nat_le n 2) (λ g. fits (greater-fit mode.Word n (peel r))) (λ g. fits tt)) (λ f. h))

function-opens : (x r : List ℕ) → (is_name x && (not (spec.special_builtin x) && opens_parenthesis (skip r))) ≡ true → opens_parenthesis (skip r) ≡ true
function-opens x r e = (both (not (spec.special_builtin x)) (opens_parenthesis (skip r)) (both (is_name x) _ e).1).1

reserved-fit : (m : Mode) (o : Option Op) (p : List ℕ × List ℕ) → Fit m (spec.reserved_or_text o p)
reserved-fit m None p = chosen_if (Fit m) (is_name p.0 && (not (spec.special_builtin p.0) && opens_parenthesis (skip p.1))) (λ e. function-opens p.0 p.1 e) (λ e. tt)
reserved-fit m (Some o) p = tt

command-fit : (m : Mode) (p : List ℕ × List ℕ) → Fit m (spec.command_text p)
command-fit m p = chosen_if (Fit m) (ends_word p.1) (λ e. reserved-fit m (spec.reserved p.0) p) (λ e. tt)

assigned-fit : (m : Mode) (l : Lexed) (x t : List ℕ) → Assigns m → Fits m l → Fits m (spec.assigned l x t)
assigned-fit m l x [] a h = h
assigned-fit m l x (b ∷ r) a h = chosen_if (Fits m) (b == 61) (λ e. assigns a) (λ e. h)

assigned_text-fit : (m : Mode) (l : Lexed) (p : List ℕ × List ℕ) → Assigns m → Fits m l → Fits m (spec.assigned_text l p)
assigned_text-fit m l p a h = chosen_if (Fits m) (is_name p.0) (λ e. assigned-fit m l p.0 p.1 a h) (λ e. h)

word_at-fit : (m : Mode) (t : List ℕ) → IsBetween m → Fits m (spec.word_at m t)
word_at-fit mode.Command t i = assigned_text-fit mode.Command (spec.command_text (piece plain t)) (piece in_name t) tt (fits (command-fit mode.Word (piece plain t)))
word_at-fit mode.Prefix t i = assigned_text-fit mode.Prefix (spec.plain_text (piece plain t)) (piece in_name t) tt (fits tt)
word_at-fit mode.Arguments t i = fits tt
word_at-fit mode.Pattern t i = fits (chosen_if (Fit mode.Word) (ends_word (piece plain t).1 && bytes_eq (piece plain t).0 (codes "esac")) (λ e. tt) (λ e. tt))
word_at-fit m t i = absurd i

between-fit : (m : Mode) (t : List ℕ) → IsBetween m → Fits m (spec.between m t)
unfolding spec.between spec.plain_at
between-fit m [] i = fits tt
between-fit m (b ∷ r) i = let P = Fits m in
    chosen_if P (b == 10) (λ e. fits tt) (λ e.
    chosen_if P (b == 59) (λ e. fits (two-fit mode.Word 59 (spec.operator op.Semi (peel r)) op.DoubleSemi (peel r) tt)) (λ e.
    chosen_if P (b == 38) (λ e. fits (two-fit mode.Word 38 (bad Unexpected) op.AndIf (peel r) tt)) (λ e.
    chosen_if P (b == 124) (λ e. fits (two-fit mode.Word 124 (spec.operator op.Pipe (peel r)) op.OrIf (peel r) tt)) (λ e.
    chosen_if P (b == 40) (λ e. fits tt) (λ e.
    chosen_if P (b == 41) (λ e. fits tt) (λ e.
    chosen_if P (b == 60) (λ e. fits (less-fit mode.Word 0 (peel r))) (λ e.
    chosen_if P (b == 62) (λ e. fits (greater-fit mode.Word 1 (peel r))) (λ e.
    chosen_if P (plain b) (λ e. let h = word_at-fit m (b ∷ r) i in
    chosen_if P (is_digit b) (λ f. numbered-fit m (spec.word_at m (b ∷ r)) (number 0 (piece is_digit (b ∷ r)).0) (piece is_digit (b ∷ r)).1 h) (λ f. h)) (λ e. fits (bit-fit mode.Word plain (b ∷ r) tt))))))))))

-- ---- a token in a mode

pub lex-fits : (m : Mode) (t : List ℕ) → IsBetween m → Fits m (lex m t)
lex-fits m t i = subst (Fits m) (sym (lex-between m t i)) (between-fit m (skip t) i)

pub inside-is : (m : Mode) → IsInWord m → inside m ≡ m
inside-is mode.Word i = refl
inside-is mode.Quotes i = refl
inside-is (mode.Braces q) i = refl
inside-is (mode.Arith n) i = refl
inside-is mode.Body i = refl
inside-is m i = absurd i

-- What is known of a token that is read in the mode, and of the text behind it.
abbrev pub OpensFrom : Mode → Token → List ℕ → Type 0
OpensFrom m (token.Assign x) r = Assigns m
OpensFrom m t r = OpensIn (inside m) t r

pub lex-fit-inside : (m : Mode) (t : List ℕ) → IsInWord m → Fit (inside m) (lex m t)
lex-fit-inside m t i = subst (λ (n : Mode). Fit n (lex m t)) (sym (inside-is m i)) (subst (Fit m) (sym (lex-inside m t i)) (inner-fit m (peel t) i))
