-- A token leaves an end of the text, and takes bytes, but the end of a word.
use Rattle.std.proofs.Common.{◌≡◌, ◌≤◌, ◌+◌, ℕ, suc, not, Bool, true, false, ◌==◌, ◌&&◌, ◌||◌, List, [], ◌∷◌, Option, Some, None, length, refl, ap, arith, length-append}
use Rattle.std.specs.Prelude.{nat_le, codes}
use Rattle.std.specs.Str.{bytes_eq}
use Rattle.sh_syntax.specs.declared.tree.ParamOp.{ParamOp}
use Rattle.sh_lexer.specs.declared.token.Token.{Token}
use Rattle.sh_lexer.specs.declared.token.Token.TheVariants as token
use Rattle.sh_lexer.specs.declared.token.Op.{Op}
use Rattle.sh_lexer.specs.declared.token.Op.TheVariants as op
use Rattle.sh_syntax.specs.declared.fault.Fault.TheVariants.{Unexpected}
use Rattle.sh_lexer.specs.declared.token.End.TheVariants as end
use Rattle.sh_lexer.specs.declared.token.Here.{Here}
use Rattle.sh_lexer.specs.declared.token.Mode.{Mode}
use Rattle.sh_lexer.specs.declared.token.Mode.TheVariants as mode
use Rattle.sh_lexer.specs.Bytes.{is_digit, begins_name, in_name, is_name, ends_word, plain, quoted_plain, braces_plain, quoted_braces_plain, body_plain, peel, skip, piece, single, has_nul, number, special}
use Rattle.sh_lexer.specs.Cut.{backquoted, body_of, Delimited, delimited, not_delimited, in_delimiter}
use Rattle.sh_lexer.specs.Lex as spec
use Rattle.sh_lexer.specs.Lex.{Lexed, got, opens, done, bad}
use Rattle.sh_lexer.specs.Trail.{least}
use Rattle.sh_lexer.proofs.Left.{Left, here, more, weak, skips, after, first, chosen_if, peel_left, skip_left, piece_left, piece_takes, SingleLeft, single_left, BackquotedLeft, backquoted_left, BodyLeft, body_left, DelimiterLeft, delimiter_takes, Triple, sum_takes}

-- The token takes n bytes or more of t, besides those of a text that is cut out.
abbrev pub Takes : ℕ → Lexed → List ℕ → Type 0
Takes n (got k r) t = Left n r t
Takes n (opens k x (Some r)) t = Left (length x + n) r t
Takes n (opens k x None) t = length x + n ≤ length t
Takes n done t = Unit {0}
Takes n (bad f) t = Unit {0}

takes_more : (b n : ℕ) (l : Lexed) (t : List ℕ) → Takes n l t → Takes (suc n) l (b ∷ t)
takes_more b n (got k r) t h = more b h
takes_more b n (opens k x (Some r)) t h = weak (omega arith) (more b h)
takes_more b n (opens k x None) t h = omega (arith, h)
takes_more b n done t h = tt
takes_more b n (bad f) t h = tt

takes_weak : (m n : ℕ) (l : Lexed) (t : List ℕ) → m ≤ n → Takes n l t → Takes m l t
takes_weak m n (got k r) t p h = weak p h
takes_weak m n (opens k x (Some r)) t p h = weak (omega arith) h
takes_weak m n (opens k x None) t p h = omega (arith, h)
takes_weak m n done t p h = tt
takes_weak m n (bad f) t p h = tt

takes_over : (n : ℕ) (l : Lexed) (s t : List ℕ) → Takes n l s → Left 0 s t → Takes n l t
takes_over n (got k r) s t h p = first h p
takes_over n (opens k x (Some r)) s t h p = first h p
takes_over n (opens k x None) s t h p = omega (arith, h, ap length p.is, length-append p.front s)
takes_over n done s t h p = tt
takes_over n (bad f) s t h p = tt

takes_skip : (b : ℕ) (l : Lexed) (t : List ℕ) → Takes 0 l t → Takes 0 l (b ∷ t)
takes_skip b l t h = takes_weak 0 1 l (b ∷ t) (omega arith) (takes_more b 0 l t h)

-- after a byte and the joined lines behind it
peeled : (b : ℕ) (l : Lexed) (r : List ℕ) → Takes 0 l (peel r) → Takes 1 l (b ∷ r)
peeled b l r h = takes_more b 0 l r (takes_over 0 l (peel r) r h (peel_left r))

skip_peeled : (b : ℕ) (l : Lexed) (r : List ℕ) → Takes 0 l (peel r) → Takes 0 l (b ∷ r)
skip_peeled b l r h = takes_weak 0 1 l (b ∷ r) (omega arith) (peeled b l r h)

quoted_text_takes : (n : ℕ) (p : List ℕ × List ℕ) (t : List ℕ) → Left n p.1 t → Takes n (spec.quoted_text p) t
quoted_text_takes n p t h = chosen_if (λ (l : Lexed). Takes n l t) (spec.begins_nul p.1) (λ e. tt) (λ e. h)

-- ---- parameters

colon_op_takes : (m : Mode) (x t : List ℕ) → Takes 0 (spec.colon_op m x t) t
colon_op_takes m x [] = tt
colon_op_takes m x (b ∷ r) = let P = λ (l : Lexed). Takes 0 l (b ∷ r) in
    chosen_if P (b == 45) (λ e. skips b (here r)) (λ e.
    chosen_if P (b == 61) (λ e. skips b (here r)) (λ e.
    chosen_if P (b == 63) (λ e. skips b (here r)) (λ e.
    chosen_if P (b == 43) (λ e. skips b (here r)) (λ e.
    chosen_if P (b == 0) (λ e. tt) (λ e. tt)))))

doubled_takes : (m : Mode) (x : List ℕ) (c : ℕ) (small large : ParamOp) (t : List ℕ) → Takes 0 (spec.doubled m x c small large t) t
doubled_takes m x c small large [] = here []
doubled_takes m x c small large (b ∷ r) = chosen_if (λ (l : Lexed). Takes 0 l (b ∷ r)) (b == c) (λ e. skips b (here r)) (λ e. here (b ∷ r))

param_op_takes : (m : Mode) (x t : List ℕ) → Takes 0 (spec.param_op_at m x t) t
unfolding spec.param_op_at
param_op_takes m x [] = tt
param_op_takes m x (b ∷ r) = let P = λ (l : Lexed). Takes 0 l (b ∷ r) in
    chosen_if P (b == 125) (λ e. skips b (here r)) (λ e.
    chosen_if P (b == 58) (λ e. skip_peeled b _ r (colon_op_takes m x (peel r))) (λ e.
    chosen_if P (b == 45) (λ e. skips b (here r)) (λ e.
    chosen_if P (b == 61) (λ e. skips b (here r)) (λ e.
    chosen_if P (b == 63) (λ e. skips b (here r)) (λ e.
    chosen_if P (b == 43) (λ e. skips b (here r)) (λ e.
    chosen_if P (b == 37) (λ e. skip_peeled b _ r (doubled_takes m x 37 _ _ (peel r))) (λ e.
    chosen_if P (b == 35) (λ e. skip_peeled b _ r (doubled_takes m x 35 _ _ (peel r))) (λ e.
    chosen_if P (b == 0) (λ e. tt) (λ e. tt)))))))))

length_end_takes : (x t : List ℕ) → Takes 0 (spec.length_end x t) t
length_end_takes x [] = tt
length_end_takes x (b ∷ r) = let P = λ (l : Lexed). Takes 0 l (b ∷ r) in
    chosen_if P (b == 125) (λ e. skips b (here r)) (λ e. chosen_if P (b == 0) (λ e. tt) (λ e. tt))

length_name_takes : (t : List ℕ) → Takes 0 (spec.length_name (piece in_name t)) t
length_name_takes t = let p = piece in_name t in takes_over 0 (spec.length_end p.0 p.1) p.1 t (length_end_takes p.0 p.1) (piece_left in_name t)

length_digits_takes : (t : List ℕ) → Takes 0 (spec.length_digits (piece is_digit t)) t
length_digits_takes t = let p = piece is_digit t in
    chosen_if (λ (l : Lexed). Takes 0 l t) (spec.positional p.0) (λ e. takes_over 0 (spec.length_end p.0 p.1) p.1 t (length_end_takes p.0 p.1) (piece_left is_digit t)) (λ e. tt)

hash_takes : (m : Mode) (t : List ℕ) → Takes 0 (spec.hash m t) t
unfolding spec.hash
hash_takes m [] = tt
hash_takes m (b ∷ r) = let P = λ (l : Lexed). Takes 0 l (b ∷ r) in
    chosen_if P (begins_name b) (λ e. length_name_takes (b ∷ r)) (λ e.
    chosen_if P (is_digit b) (λ e. length_digits_takes (b ∷ r)) (λ e. param_op_takes m (35 ∷ []) (b ∷ r)))

digits_param_takes : (m : Mode) (t : List ℕ) → Takes 0 (spec.digits_param m (piece is_digit t)) t
digits_param_takes m t = let p = piece is_digit t in
    chosen_if (λ (l : Lexed). Takes 0 l t) (spec.positional p.0 || spec.zero_alone p.0) (λ e. takes_over 0 (spec.param_op_at m p.0 p.1) p.1 t (param_op_takes m p.0 p.1) (piece_left is_digit t)) (λ e. tt)

name_param_takes : (m : Mode) (t : List ℕ) → Takes 0 (spec.name_param m (piece in_name t)) t
name_param_takes m t = let p = piece in_name t in takes_over 0 (spec.param_op_at m p.0 p.1) p.1 t (param_op_takes m p.0 p.1) (piece_left in_name t)

in_braces_takes : (m : Mode) (t : List ℕ) → Takes 0 (spec.in_braces m t) t
unfolding spec.in_braces
in_braces_takes m [] = tt
in_braces_takes m (b ∷ r) = let P = λ (l : Lexed). Takes 0 l (b ∷ r) in
    chosen_if P (begins_name b) (λ e. name_param_takes m (b ∷ r)) (λ e.
    chosen_if P (is_digit b) (λ e. digits_param_takes m (b ∷ r)) (λ e.
    chosen_if P (b == 35) (λ e. skip_peeled b _ r (hash_takes m (peel r))) (λ e.
    chosen_if P (spec.special_parameter b) (λ e. skip_peeled b _ r (param_op_takes m (b ∷ []) (peel r))) (λ e.
    chosen_if P (b == 0) (λ e. tt) (λ e. tt)))))

parenthesis_takes : (m : Mode) (t : List ℕ) → Takes 0 (spec.parenthesis m t) t
parenthesis_takes m [] = here []
parenthesis_takes m (b ∷ r) = chosen_if (λ (l : Lexed). Takes 0 l (b ∷ r)) (b == 40) (λ e. skips b (here r)) (λ e. here (b ∷ r))

dollar_takes : (m : Mode) (t : List ℕ) → Takes 0 (spec.dollar m t) t
unfolding spec.dollar
dollar_takes m [] = here []
dollar_takes m (b ∷ r) = let P = λ (l : Lexed). Takes 0 l (b ∷ r) in
    chosen_if P (b == 40) (λ e. skip_peeled b _ r (parenthesis_takes m (peel r))) (λ e.
    chosen_if P (b == 123) (λ e. skip_peeled b _ r (in_braces_takes m (peel r))) (λ e.
    chosen_if P (begins_name b) (λ e. piece_left in_name (b ∷ r)) (λ e.
    chosen_if P (is_digit b || spec.special_parameter b || b == 35) (λ e. skips b (here r)) (λ e.
    chosen_if P (spec.unknown_parameter b) (λ e. tt) (λ e. here (b ∷ r))))))

-- ---- quoting

escaped_takes : (t : List ℕ) → Takes 0 (spec.escaped t) t
escaped_takes [] = here []
escaped_takes (b ∷ r) = chosen_if (λ (l : Lexed). Takes 0 l (b ∷ r)) (b == 0) (λ e. tt) (λ e. skips b (here r))

escaped_if_takes : (p : ℕ → Bool) (t : List ℕ) → Takes 0 (spec.escaped_if p t) t
escaped_if_takes p [] = here []
escaped_if_takes p (b ∷ r) = chosen_if (λ (l : Lexed). Takes 0 l (b ∷ r)) (p b) (λ e. skips b (here r)) (λ e. here (b ∷ r))

backquote_takes : (m : Mode) (p : List ℕ × Option (List ℕ)) (t : List ℕ) → BackquotedLeft p t → Takes 0 (spec.backquote m p) t
backquote_takes m (x, None) t h = omega (arith, h)
backquote_takes m (x, Some r) t h = weak (omega arith) h

special_takes : (m : Mode) (backslash : List ℕ → Lexed) (b : ℕ) (r : List ℕ) → Takes 0 (backslash r) r → Takes 1 (spec.special_at m backslash b r) (b ∷ r)
unfolding spec.special_at
special_takes m backslash b r h = let P = λ (l : Lexed). Takes 1 l (b ∷ r) in
    chosen_if P (b == 36) (λ e. peeled b _ r (dollar_takes m (peel r))) (λ e.
    chosen_if P (b == 96) (λ e. takes_more b 0 (spec.backquote m (backquoted r)) r (backquote_takes m (backquoted r) r (backquoted_left r))) (λ e.
    chosen_if P (b == 92) (λ e. takes_more b 0 (backslash r) r h) (λ e. tt)))

-- Bytes of the class are not special.
abbrev Ordinary : (ℕ → Bool) → Type 0
Ordinary p = (b : ℕ) → p b ≡ true → special b ≡ false

plain_ordinary : Ordinary plain
unfolding special
plain_ordinary b e = grind arith

braces_ordinary : Ordinary braces_plain
unfolding special
braces_ordinary b e = grind arith

text_if_takes : (p : ℕ → Bool) (t : List ℕ) → Ordinary p → Takes 1 (spec.text_if p t) t
unfolding spec.text_if
text_if_takes p [] o = tt
text_if_takes p (b ∷ r) o = chosen_if (λ (l : Lexed). Takes 1 l (b ∷ r)) (p b) (λ e. quoted_text_takes 1 (piece p (b ∷ r)) (b ∷ r) (piece_takes p b r e (o b e))) (λ e. tt)

single_text_takes : (o : Option (List ℕ × List ℕ)) (t : List ℕ) → SingleLeft o t → Takes 0 (spec.single_text o) t
single_text_takes None t h = tt
single_text_takes (Some p) t h = chosen_if (λ (l : Lexed). Takes 0 l t) (has_nul p.0) (λ e. tt) (λ e. h)

bit_at_takes : (m : Mode) (p : ℕ → Bool) (t : List ℕ) → Ordinary p → Takes 1 (spec.bit_at m p t) t
unfolding spec.bit_at
bit_at_takes m p [] o = tt
bit_at_takes m p (b ∷ r) o = let P = λ (l : Lexed). Takes 1 l (b ∷ r) in
    chosen_if P (special b) (λ e. special_takes m spec.escaped b r (escaped_takes r)) (λ e.
    chosen_if P (b == 39) (λ e. takes_more b 0 (spec.single_text (single r)) r (single_text_takes (single r) r (single_left r))) (λ e.
    chosen_if P (b == 34) (λ e. more b (here r)) (λ e. text_if_takes p (b ∷ r) o)))

in_quotes_takes : (t : List ℕ) → Takes 1 (spec.in_quotes t) t
unfolding spec.in_quotes
in_quotes_takes [] = tt
in_quotes_takes (b ∷ r) = let P = λ (l : Lexed). Takes 1 l (b ∷ r) in
    chosen_if P (special b) (λ e. special_takes mode.Quotes (spec.escaped_if spec.quotes_escapable) b r (escaped_if_takes spec.quotes_escapable r)) (λ e.
    chosen_if P (b == 34) (λ f. more b (here r)) (λ f. let g : quoted_plain b ≡ true = rw (e, f) refl in quoted_text_takes 1 (piece quoted_plain (b ∷ r)) (b ∷ r) (piece_takes quoted_plain b r g e)))

in_plain_braces_takes : (t : List ℕ) → Takes 1 (spec.in_plain_braces t) t
unfolding spec.in_plain_braces
in_plain_braces_takes [] = tt
in_plain_braces_takes (b ∷ r) = chosen_if (λ (l : Lexed). Takes 1 l (b ∷ r)) (b == 125) (λ e. more b (here r)) (λ e. bit_at_takes (mode.Braces false) braces_plain (b ∷ r) braces_ordinary)

in_quoted_braces_takes : (t : List ℕ) → Takes 1 (spec.in_quoted_braces t) t
unfolding spec.in_quoted_braces
in_quoted_braces_takes [] = tt
in_quoted_braces_takes (b ∷ r) = let P = λ (l : Lexed). Takes 1 l (b ∷ r) in
    chosen_if P (special b) (λ e. special_takes (mode.Braces true) (spec.escaped_if spec.braces_escapable) b r (escaped_if_takes spec.braces_escapable r)) (λ e.
    chosen_if P (b == 125) (λ f. more b (here r)) (λ f.
    chosen_if P (b == 34) (λ g. more b (here r)) (λ g.
    let h : quoted_braces_plain b ≡ true = rw (e, f, g) refl in quoted_text_takes 1 (piece quoted_braces_plain (b ∷ r)) (b ∷ r) (piece_takes quoted_braces_plain b r h e))))

in_word_of_takes : (q : Bool) (t : List ℕ) → Takes 1 (spec.in_word_of q t) t
in_word_of_takes true t = in_quoted_braces_takes t
in_word_of_takes false t = in_plain_braces_takes t

-- ---- arithmetic and here-documents

after_first_left : (t : List ℕ) → Left 0 (spec.after_first t) t
after_first_left [] = here []
after_first_left (b ∷ r) = skips b (here r)

sum_text_takes : (p : Triple) (t : List ℕ) → Left 1 p.2 t → Takes 1 (spec.sum_text p) t
sum_text_takes p t h = chosen_if (λ (l : Lexed). Takes 1 l t) (spec.begins_nul p.2) (λ e. tt) (λ e. h)

in_arith_takes : (n : ℕ) (t : List ℕ) → Takes 1 (spec.in_arith n t) t
unfolding spec.in_arith
in_arith_takes n [] = tt
in_arith_takes n (b ∷ r) = let P = λ (l : Lexed). Takes 1 l (b ∷ r) in
    chosen_if P (special b) (λ e. special_takes (mode.Arith n) (spec.escaped_if spec.escapable) b r (escaped_if_takes spec.escapable r)) (λ e.
    chosen_if P (b == 41 && (n == 0 && spec.closes (peel r)))
    (λ f. more b (first (after_first_left (peel r)) (peel_left r)))
    (λ f. sum_text_takes (spec.sum n (b ∷ r)) (b ∷ r) (sum_takes n b r e f)))

in_body_takes : (t : List ℕ) → Takes 1 (spec.in_body t) t
unfolding spec.in_body
in_body_takes [] = tt
in_body_takes (b ∷ r) =
    chosen_if (λ (l : Lexed). Takes 1 l (b ∷ r)) (special b) (λ e. special_takes mode.Body (spec.escaped_if spec.escapable) b r (escaped_if_takes spec.escapable r)) (λ e.
    let g : body_plain b ≡ true = rw e refl in quoted_text_takes 1 (piece body_plain (b ∷ r)) (b ∷ r) (piece_takes body_plain b r g e))

cut_takes : (h : Here) (o : Option (List ℕ × List ℕ)) (t : List ℕ) → BodyLeft 0 o t → Takes 1 (spec.cut h o) t
cut_takes h None t l = tt
cut_takes h (Some p) t l = let P = λ (x : Lexed). Takes 1 x t in
    chosen_if P h.quoted
    (λ e. chosen_if P (has_nul p.0) (λ f. tt) (λ f. record { front = l.front; is = l.is; long = omega (arith, l.long) }))
    (λ e. record { front = l.front; is = l.is; long = omega (arith, l.long) })

delimiter_text_takes : (d : Delimited) (t : List ℕ) → DelimiterLeft 1 d t → Takes 1 (spec.delimiter_text d) t
delimiter_text_takes (delimited x q r) t h = h
delimiter_text_takes (not_delimited f) t h = tt

-- ---- operators

two_takes : (c : ℕ) (l : Lexed) (o : Op) (t : List ℕ) → Takes 0 l t → Takes 0 (spec.two c l o t) t
two_takes c l o [] h = h
two_takes c l o (b ∷ r) h = chosen_if (λ (x : Lexed). Takes 0 x (b ∷ r)) (b == c) (λ e. skips b (here r)) (λ e. h)

here_takes : (fd : ℕ) (t : List ℕ) → Takes 0 (spec.here fd t) t
here_takes fd [] = here []
here_takes fd (b ∷ r) = chosen_if (λ (x : Lexed). Takes 0 x (b ∷ r)) (b == 45) (λ e. skips b (here r)) (λ e. here (b ∷ r))

less_takes : (fd : ℕ) (t : List ℕ) → Takes 0 (spec.less fd t) t
unfolding spec.less
less_takes fd [] = here []
less_takes fd (b ∷ r) = let P = λ (l : Lexed). Takes 0 l (b ∷ r) in
    chosen_if P (b == 60) (λ e. skip_peeled b (spec.here fd (peel r)) r (here_takes fd (peel r))) (λ e.
    chosen_if P (b == 38) (λ e. skips b (here r)) (λ e. chosen_if P (b == 62) (λ e. tt) (λ e. here (b ∷ r))))

greater_takes : (fd : ℕ) (t : List ℕ) → Takes 0 (spec.greater fd t) t
unfolding spec.greater
greater_takes fd [] = here []
greater_takes fd (b ∷ r) = let P = λ (l : Lexed). Takes 0 l (b ∷ r) in
    chosen_if P (b == 62) (λ e. skips b (here r)) (λ e.
    chosen_if P (b == 38) (λ e. skips b (here r)) (λ e. chosen_if P (b == 124) (λ e. skips b (here r)) (λ e. here (b ∷ r))))

-- ---- the first piece of a word

numbered_takes : (word : Lexed) (n : ℕ) (s t : List ℕ) → Left 0 s t → Takes 1 word t → Takes 1 (spec.numbered word n s) t
numbered_takes word n [] t l h = h
numbered_takes word n (b ∷ r) t l h = let P = λ (x : Lexed). Takes 1 x t in
    chosen_if P (b == 60) (λ e. chosen_if P (nat_le n 2) (λ f. takes_over 1 (spec.less n (peel r)) (b ∷ r) t (peeled b (spec.less n (peel r)) r (less_takes n (peel r))) l) (λ f. tt)) (λ e.
    chosen_if P (b == 62) (λ f. chosen_if P (nat_le n 2) (λ g. takes_over 1 (spec.greater n (peel r)) (b ∷ r) t (peeled b (spec.greater n (peel r)) r (greater_takes n (peel r))) l) (λ g. tt)) (λ f. h))

function_takes : (p : List ℕ × List ℕ) (t : List ℕ) → Left 1 p.1 t → Takes 1 (spec.function_or_text p) t
function_takes p t h = chosen_if (λ (l : Lexed). Takes 1 l t) (is_name p.0 && (not (spec.special_builtin p.0) && spec.opens_parenthesis (skip p.1))) (λ e. h) (λ e. h)

reserved_takes : (o : Option Op) (p : List ℕ × List ℕ) (t : List ℕ) → Left 1 p.1 t → Takes 1 (spec.reserved_or_text o p) t
reserved_takes None p t h = function_takes p t h
reserved_takes (Some o) p t h = h

command_text_takes : (p : List ℕ × List ℕ) (t : List ℕ) → Left 1 p.1 t → Takes 1 (spec.command_text p) t
command_text_takes p t h = chosen_if (λ (l : Lexed). Takes 1 l t) (ends_word p.1) (λ e. reserved_takes (spec.reserved p.0) p t h) (λ e. h)

pattern_text_takes : (p : List ℕ × List ℕ) (t : List ℕ) → Left 1 p.1 t → Takes 1 (spec.pattern_text p) t
pattern_text_takes p t h = chosen_if (λ (l : Lexed). Takes 1 l t) (ends_word p.1 && bytes_eq p.0 (codes "esac")) (λ e. h) (λ e. h)

assigned_takes : (word : Lexed) (x s t : List ℕ) → Left 0 s t → Takes 1 word t → Takes 1 (spec.assigned word x s) t
assigned_takes word x [] t l h = h
assigned_takes word x (b ∷ r) t l h = chosen_if (λ (x : Lexed). Takes 1 x t) (b == 61) (λ e. after (more b (here r)) l) (λ e. h)

assigned_text_takes : (word : Lexed) (t : List ℕ) → Takes 1 word t → Takes 1 (spec.assigned_text word (piece in_name t)) t
assigned_text_takes word t h = let p = piece in_name t in
    chosen_if (λ (x : Lexed). Takes 1 x t) (is_name p.0) (λ e. assigned_takes word p.0 p.1 t (piece_left in_name t) h) (λ e. h)

word_at_takes : (m : Mode) (b : ℕ) (r : List ℕ) → plain b ≡ true → Takes 1 (spec.word_at m (b ∷ r)) (b ∷ r)
word_at_takes mode.Command b r e = let h = piece_takes plain b r e (plain_ordinary b e) in assigned_text_takes (spec.command_text (piece plain (b ∷ r))) (b ∷ r) (command_text_takes (piece plain (b ∷ r)) (b ∷ r) h)
word_at_takes mode.Prefix b r e = let h = piece_takes plain b r e (plain_ordinary b e) in assigned_text_takes (spec.plain_text (piece plain (b ∷ r))) (b ∷ r) h
word_at_takes mode.Arguments b r e = let h = piece_takes plain b r e (plain_ordinary b e) in h
word_at_takes mode.Pattern b r e = let h = piece_takes plain b r e (plain_ordinary b e) in pattern_text_takes (piece plain (b ∷ r)) (b ∷ r) h
word_at_takes mode.Word b r e = let h = piece_takes plain b r e (plain_ordinary b e) in h
word_at_takes mode.Quotes b r e = let h = piece_takes plain b r e (plain_ordinary b e) in h
word_at_takes (mode.Braces q) b r e = let h = piece_takes plain b r e (plain_ordinary b e) in h
word_at_takes (mode.Arith n) b r e = let h = piece_takes plain b r e (plain_ordinary b e) in h
word_at_takes mode.Body b r e = let h = piece_takes plain b r e (plain_ordinary b e) in h
word_at_takes mode.Delimiter b r e = let h = piece_takes plain b r e (plain_ordinary b e) in h
word_at_takes (mode.Cut x) b r e = let h = piece_takes plain b r e (plain_ordinary b e) in h

plain_at_takes : (m : Mode) (b : ℕ) (r : List ℕ) → plain b ≡ true → Takes 1 (spec.plain_at m b r) (b ∷ r)
unfolding spec.plain_at
plain_at_takes m b r e = let h = word_at_takes m b r e in let p = piece is_digit (b ∷ r) in
    chosen_if (λ (x : Lexed). Takes 1 x (b ∷ r)) (is_digit b) (λ f. numbered_takes (spec.word_at m (b ∷ r)) (number 0 p.0) p.1 (b ∷ r) (piece_left is_digit (b ∷ r)) h) (λ f. h)

-- ---- between words

between_takes : (m : Mode) (t : List ℕ) → Takes 1 (spec.between m t) t
unfolding spec.between
between_takes m [] = tt
between_takes m (b ∷ r) = let P = λ (l : Lexed). Takes 1 l (b ∷ r) in
    chosen_if P (b == 10) (λ e. more b (here r)) (λ e.
    chosen_if P (b == 59) (λ e. peeled b (spec.two 59 (spec.operator op.Semi (peel r)) op.DoubleSemi (peel r)) r (two_takes 59 (spec.operator op.Semi (peel r)) op.DoubleSemi (peel r) (here (peel r)))) (λ e.
    chosen_if P (b == 38) (λ e. peeled b (spec.two 38 (bad Unexpected) op.AndIf (peel r)) r (two_takes 38 (bad Unexpected) op.AndIf (peel r) tt)) (λ e.
    chosen_if P (b == 124) (λ e. peeled b (spec.two 124 (spec.operator op.Pipe (peel r)) op.OrIf (peel r)) r (two_takes 124 (spec.operator op.Pipe (peel r)) op.OrIf (peel r) (here (peel r)))) (λ e.
    chosen_if P (b == 40) (λ e. more b (here r)) (λ e.
    chosen_if P (b == 41) (λ e. more b (here r)) (λ e.
    chosen_if P (b == 60) (λ e. peeled b (spec.less 0 (peel r)) r (less_takes 0 (peel r))) (λ e.
    chosen_if P (b == 62) (λ e. peeled b (spec.greater 1 (peel r)) r (greater_takes 1 (peel r))) (λ e.
    chosen_if P (plain b) (λ e. plain_at_takes m b r e) (λ e. bit_at_takes mode.Word plain (b ∷ r) plain_ordinary)))))))))

delimiter_is_taken : (t : List ℕ) → Takes 1 (spec.delimiter t) t
unfolding spec.delimiter
delimiter_is_taken [] = between_takes mode.Arguments []
delimiter_is_taken (b ∷ r) = chosen_if (λ (l : Lexed). Takes 1 l (b ∷ r)) (ends_word (b ∷ r)) (λ e. between_takes mode.Arguments (b ∷ r)) (λ e.
    delimiter_text_takes (in_delimiter [] false (b ∷ r)) (b ∷ r) (delimiter_takes [] false b r e))

-- ---- a token in a mode

abbrev pub cost : Lexed → ℕ
cost (got t r) = least t
cost l = 1

pub least_small : (t : Token) → least t ≤ 1
least_small (token.Operator o) = omega arith
least_small (token.Part b) = omega arith
least_small (token.Param x l) = omega arith
least_small (token.Open o m) = omega arith
least_small (token.End end.Word m) = omega arith
least_small (token.End end.Quote m) = omega arith
least_small (token.End end.Brace m) = omega arith
least_small (token.End end.Arith m) = omega arith
least_small (token.End end.List m) = omega arith
least_small (token.End end.Text m) = omega arith
least_small (token.End end.Newline m) = omega arith
least_small (token.Assign x) = omega arith
least_small (token.Redirect fd o) = omega arith
least_small (token.Here fd s) = omega arith
least_small (token.Delimiter x q m) = omega arith
least_small token.Body = omega arith
least_small (token.Verbatim x m) = omega arith
least_small (token.Function x) = omega arith

costs : (l : Lexed) (t : List ℕ) → Takes 1 l t → Takes (cost l) l t
costs (got k r) t h = weak (least_small k) h
costs (opens k x (Some r)) t h = h
costs (opens k x None) t h = h
costs done t h = tt
costs (bad f) t h = tt

in_word_costs : (t : List ℕ) → Takes (cost (spec.in_word t)) (spec.in_word t) t
unfolding spec.in_word
in_word_costs t = chosen_if (λ (l : Lexed). Takes (cost l) l t) (ends_word t) (λ e. here t) (λ e. costs (spec.bit_at mode.Word plain t) t (bit_at_takes mode.Word plain t plain_ordinary))

costs_over : (l : Lexed) (s t : List ℕ) → Takes (cost l) l s → Left 0 s t → Takes (cost l) l t
costs_over l s t h p = takes_over (cost l) l s t h p

pub lex_costs : (m : Mode) (t : List ℕ) → Takes (cost (spec.lex m t)) (spec.lex m t) t
lex_costs mode.Command t = costs_over (spec.between mode.Command (skip t)) (skip t) t (costs (spec.between mode.Command (skip t)) (skip t) (between_takes mode.Command (skip t))) (skip_left t)
lex_costs mode.Prefix t = costs_over (spec.between mode.Prefix (skip t)) (skip t) t (costs (spec.between mode.Prefix (skip t)) (skip t) (between_takes mode.Prefix (skip t))) (skip_left t)
lex_costs mode.Arguments t = costs_over (spec.between mode.Arguments (skip t)) (skip t) t (costs (spec.between mode.Arguments (skip t)) (skip t) (between_takes mode.Arguments (skip t))) (skip_left t)
lex_costs mode.Pattern t = costs_over (spec.between mode.Pattern (skip t)) (skip t) t (costs (spec.between mode.Pattern (skip t)) (skip t) (between_takes mode.Pattern (skip t))) (skip_left t)
lex_costs mode.Word t = costs_over (spec.in_word (peel t)) (peel t) t (in_word_costs (peel t)) (peel_left t)
lex_costs mode.Quotes t = costs_over (spec.in_quotes (peel t)) (peel t) t (costs (spec.in_quotes (peel t)) (peel t) (in_quotes_takes (peel t))) (peel_left t)
lex_costs (mode.Braces q) t = costs_over (spec.in_word_of q (peel t)) (peel t) t (costs (spec.in_word_of q (peel t)) (peel t) (in_word_of_takes q (peel t))) (peel_left t)
lex_costs (mode.Arith n) t = costs_over (spec.in_arith n (peel t)) (peel t) t (costs (spec.in_arith n (peel t)) (peel t) (in_arith_takes n (peel t))) (peel_left t)
lex_costs mode.Body t = costs_over (spec.in_body (peel t)) (peel t) t (costs (spec.in_body (peel t)) (peel t) (in_body_takes (peel t))) (peel_left t)
lex_costs mode.Delimiter t = costs_over (spec.delimiter (skip t)) (skip t) t (costs (spec.delimiter (skip t)) (skip t) (delimiter_is_taken (skip t))) (skip_left t)
lex_costs (mode.Cut h) t = costs (spec.cut h (body_of h [] [] t)) t (cut_takes h (body_of h [] [] t) t (body_left h [] [] t))
