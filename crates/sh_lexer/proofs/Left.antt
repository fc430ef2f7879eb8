-- What runs of bytes leave is the end of the text.
use Rattle.std.proofs.Common.{◌≡◌, ◌≤◌, ◌+◌, ℕ, suc, not, Bool, true, false, ◌==◌, ◌&&◌, ◌||◌, List, [], ◌∷◌, ◌++◌, Option, Some, None, length, refl, ap, sym, ◌∙◌, arith, append_assoc, length-append}
use Rattle.std.specs.Prelude.{if◌then◌else◌}
use Rattle.std.specs.Str.{bytes_eq}
use Rattle.sh_lexer.specs.declared.token.Here.{Here}
use Rattle.sh_lexer.specs.Cut.{backquoted, text_onto, unquoted_in_backquotes, body_of, last_line, stripped, pair, Delimited, delimited, not_delimited, in_delimiter, in_single, in_double, quotable}
use Rattle.sh_lexer.specs.Lex.{sum, closes, close_bracket}
use Rattle.std.proofs.lemmas.Bool.{true≢false}
use Rattle.sh_lexer.specs.Bytes.{peel, comment, skip, piece, single, onto, joins, blank, special, ends_word}

-- r is what is left of t after n bytes or more
pub record Left (n : ℕ) (r t : List ℕ) : Type 0 where
  pub front : List ℕ
  pub is : t ≡ front ++ r
  pub long : n ≤ length front

pub here : (t : List ℕ) → Left 0 t t
here t = record { front = []; is = refl; long = omega arith }

pub more : (b : ℕ) {n : ℕ} {r t : List ℕ} → Left n r t → Left (suc n) r (b ∷ t)
more b l = record { front = b ∷ l.front; is = ap (λ x. b ∷ x) l.is; long = omega (arith, l.long) }

pub weak : {m n : ℕ} {r t : List ℕ} → m ≤ n → Left n r t → Left m r t
weak p l = record { front = l.front; is = l.is; long = omega (arith, l.long) }

pub none : {n : ℕ} {r t : List ℕ} → Left n r t → Left 0 r t
none l = weak (omega arith) l

pub skips : (b : ℕ) {n : ℕ} {r t : List ℕ} → Left n r t → Left n r (b ∷ t)
skips b l = weak (omega arith) (more b l)

pub after : {m n : ℕ} {r s t : List ℕ} → Left m r s → Left n s t → Left (m + n) r t
after {r = r} k l = record { front = l.front ++ k.front; is = l.is ∙ ap (λ x. l.front ++ x) k.is ∙ sym (append_assoc l.front k.front r); long = omega (arith, k.long, l.long, length-append l.front k.front) }

pub first : {m n : ℕ} {r s t : List ℕ} → Left m r s → Left n s t → Left m r t
first k l = weak (omega arith) (after k l)

-- ---- cases

pub chosen : {A : Type 0} (P : A → Type 0) (c : Bool) {x y : A} → (c ≡ true → P x) → (c ≡ false → P y) → P (elim c as (λ q. A) [ true ↦ x | false ↦ y ])
chosen P true f g = f refl
chosen P false f g = g refl

pub chosen_if : {A : Type 0} (P : A → Type 0) (c : Bool) {x y : A} → (c ≡ true → P x) → (c ≡ false → P y) → P (if c then x else y)
chosen_if P true f g = f refl
chosen_if P false f g = g refl

-- ---- runs

pub peel_left : (t : List ℕ) → Left 0 (peel t) t
unfolding peel
peel_left [] = here []
peel_left (b ∷ []) = here (b ∷ [])
peel_left (b ∷ c ∷ r) = chosen (λ x. Left 0 x (b ∷ c ∷ r)) (joins b c) (λ e. skips b (skips c (peel_left r))) (λ e. here (b ∷ c ∷ r))

pub comment_left : (t : List ℕ) → Left 0 (comment t) t
unfolding comment
comment_left [] = here []
comment_left (b ∷ r) = chosen (λ x. Left 0 x (b ∷ r)) (b == 10 || b == 0) (λ e. here (b ∷ r)) (λ e. skips b (comment_left r))

pub skip_left : (t : List ℕ) → Left 0 (skip t) t
unfolding skip
skip_left [] = here []
skip_left (b ∷ []) = chosen (λ x. Left 0 x (b ∷ [])) (blank b) (λ e. skips b (here [])) (λ e. chosen (λ x. Left 0 x (b ∷ [])) (b == 35) (λ e. skips b (here [])) (λ e. here (b ∷ [])))
skip_left (b ∷ c ∷ r) =
    chosen (λ x. Left 0 x (b ∷ c ∷ r)) (blank b) (λ e. skips b (skip_left (c ∷ r))) (λ e.
    chosen (λ x. Left 0 x (b ∷ c ∷ r)) (joins b c) (λ e. skips b (skips c (skip_left r))) (λ e.
    chosen (λ x. Left 0 x (b ∷ c ∷ r)) (b == 35) (λ e. skips b (comment_left (c ∷ r))) (λ e. here (b ∷ c ∷ r))))

pub piece_left : (p : ℕ → Bool) (t : List ℕ) → Left 0 (piece p t).1 t
unfolding piece
piece_left p [] = here []
piece_left p (b ∷ []) = chosen (λ (x : List ℕ × List ℕ). Left 0 x.1 (b ∷ [])) (p b) (λ e. skips b (here [])) (λ e. here (b ∷ []))
piece_left p (b ∷ c ∷ r) =
    chosen (λ (x : List ℕ × List ℕ). Left 0 x.1 (b ∷ c ∷ r)) (joins b c) (λ e. skips b (skips c (piece_left p r))) (λ e.
    chosen (λ (x : List ℕ × List ℕ). Left 0 x.1 (b ∷ c ∷ r)) (p b) (λ e. skips b (piece_left p (c ∷ r))) (λ e. here (b ∷ c ∷ r)))

pub unjoined : (b c : ℕ) → special b ≡ false → joins b c ≡ false
unfolding special
unjoined b c e = grind arith

pub piece_takes : (p : ℕ → Bool) (b : ℕ) (r : List ℕ) → p b ≡ true → special b ≡ false → Left 1 (piece p (b ∷ r)).1 (b ∷ r)
unfolding piece
piece_takes p b [] e f = rw (e, piece) (more b (here []))
piece_takes p b (c ∷ r) e f = rw (unjoined b c f, e, piece) (more b (piece_left p (c ∷ r)))

-- ---- single quotes

abbrev pub SingleLeft : Option (List ℕ × List ℕ) → List ℕ → Type 0
SingleLeft None t = Unit {0}
SingleLeft (Some p) t = Left 0 p.1 t

single_more : (b : ℕ) (o : Option (List ℕ × List ℕ)) (r : List ℕ) → SingleLeft o r → SingleLeft (elim o as (λ q. Option (List ℕ × List ℕ)) [ None ↦ None | Some p ↦ Some (onto b p) ]) (b ∷ r)
single_more b None r l = tt
single_more b (Some p) r l = skips b l

pub single_left : (t : List ℕ) → SingleLeft (single t) t
unfolding single
single_left [] = tt
single_left (b ∷ r) = chosen (λ x. SingleLeft x (b ∷ r)) (b == 39) (λ e. skips b (here r)) (λ e. single_more b (single r) r (single_left r))

-- ---- backquotes

-- The text between is no longer than what is taken.
abbrev pub BackquotedLeft : List ℕ × Option (List ℕ) → List ℕ → Type 0
BackquotedLeft (x, None) t = length x ≤ length t
BackquotedLeft (x, Some r) t = Left (suc (length x)) r t

backquoted_more : (b : ℕ) (p : List ℕ × Option (List ℕ)) (t : List ℕ) → BackquotedLeft p t → BackquotedLeft (text_onto (b ∷ []) p) (b ∷ t)
backquoted_more b (x, None) t l = omega (arith, l)
backquoted_more b (x, Some r) t l = more b l

backquoted_two : (b c : ℕ) (p : List ℕ × Option (List ℕ)) (t : List ℕ) → BackquotedLeft p t → BackquotedLeft (text_onto (b ∷ c ∷ []) p) (b ∷ c ∷ t)
backquoted_two b c (x, None) t l = omega (arith, l)
backquoted_two b c (x, Some r) t l = more b (more c l)

backquoted_skips : (b : ℕ) (p : List ℕ × Option (List ℕ)) (t : List ℕ) → BackquotedLeft p t → BackquotedLeft p (b ∷ t)
backquoted_skips b (x, None) t l = omega (arith, l)
backquoted_skips b (x, Some r) t l = skips b l

pub backquoted_left : (t : List ℕ) → BackquotedLeft (backquoted t) t
unfolding backquoted
backquoted_left [] = omega arith
backquoted_left (b ∷ []) = chosen (λ (x : List ℕ × Option (List ℕ)). BackquotedLeft x (b ∷ [])) (b == 96) (λ e. more b (here [])) (λ e. omega arith)
backquoted_left (b ∷ c ∷ r) = let P = λ (x : List ℕ × Option (List ℕ)). BackquotedLeft x (b ∷ c ∷ r) in
    chosen P (b == 96) (λ e. more b (here (c ∷ r))) (λ e.
    chosen P (b == 92)
    (λ f. chosen P (unquoted_in_backquotes c) (λ g. backquoted_skips b (text_onto (c ∷ []) (backquoted r)) (c ∷ r) (backquoted_more c (backquoted r) r (backquoted_left r))) (λ g. backquoted_two b c (backquoted r) r (backquoted_left r)))
    (λ f. backquoted_more b (backquoted (c ∷ r)) (c ∷ r) (backquoted_left (c ∷ r))))

-- ---- bodies

-- With k bytes of the body and of a line before it, the body is shorter than what is taken.
pub record BodyTakes (k : ℕ) (x r t : List ℕ) : Type 0 where
  pub front : List ℕ
  pub is : t ≡ front ++ r
  pub long : suc (length x) ≤ k + length front

abbrev pub BodyLeft : ℕ → Option (List ℕ × List ℕ) → List ℕ → Type 0
BodyLeft k None t = Unit {0}
BodyLeft k (Some p) t = BodyTakes k p.0 p.1 t

-- as many bytes more before it as a byte of the text is worth
body_more : (b : ℕ) {j k : ℕ} (o : Option (List ℕ × List ℕ)) (t : List ℕ) → j ≤ suc k → BodyLeft j o t → BodyLeft k o (b ∷ t)
body_more b None t p l = tt
body_more b (Some q) t p l = record { front = b ∷ l.front; is = ap (λ x. b ∷ x) l.is; long = omega (arith, l.long) }

body_same : {j k : ℕ} (o : Option (List ℕ × List ℕ)) (t : List ℕ) → j ≤ k → BodyLeft j o t → BodyLeft k o t
body_same None t p l = tt
body_same (Some q) t p l = record { front = l.front; is = l.is; long = omega (arith, l.long) }

last_left : (h : Here) (body line : List ℕ) → BodyLeft (length body + length line) (last_line h body line) []
last_left h body [] = tt
last_left h body (b ∷ line) = chosen_if (λ (x : Option (List ℕ × List ℕ)). BodyLeft (length body + suc (length line)) x []) (bytes_eq (b ∷ line) h.delimiter)
    (λ e. record { front = []; is = refl; long = omega arith }) (λ e. tt)

body_ends : (body line t : List ℕ) → BodyLeft (length body + length line) (Some (body, t)) (10 ∷ t)
body_ends body line t = record { front = 10 ∷ []; is = refl; long = omega arith }

size_line : (line : List ℕ) (b : ℕ) → length (line ++ b ∷ []) ≡ suc (length line)
size_line line b = length-append line (b ∷ []) ∙ omega arith

pub body_left : (h : Here) (body line t : List ℕ) → BodyLeft (length body + length line) (body_of h body line t) t
unfolding body_of
body_left h body line [] = last_left h body line
body_left h body line (b ∷ []) = let P = λ (x : Option (List ℕ × List ℕ)). BodyLeft (length body + length line) x (b ∷ []) in
    chosen P (b == 10) (λ e. chosen_if P (bytes_eq line h.delimiter) (λ f. record { front = b ∷ []; is = refl; long = omega arith }) (λ f. tt)) (λ e.
    chosen P (stripped h line b)
    (λ f. body_more b (last_line h body line) [] (omega arith) (last_left h body line))
    (λ f. body_more b (last_line h body (line ++ b ∷ [])) [] (omega (arith, size_line line b)) (last_left h body (line ++ b ∷ []))))
body_left h body line (b ∷ c ∷ r) = let P = λ (x : Option (List ℕ × List ℕ)). BodyLeft (length body + length line) x (b ∷ c ∷ r) in
    let grown : length (body ++ line ++ b ∷ []) ≡ length body + suc (length line) = omega (arith, length-append (body ++ line) (b ∷ []), length-append body line) in
    let two : length (line ++ pair b c) ≡ suc (suc (length line)) = omega (arith, length-append line (pair b c)) in
    chosen P (b == 10)
    (λ e. chosen P (bytes_eq line h.delimiter) (λ f. record { front = b ∷ []; is = refl; long = omega arith })
    (λ f. body_more b (body_of h (body ++ line ++ b ∷ []) [] (c ∷ r)) (c ∷ r) (omega (arith, grown)) (body_left h (body ++ line ++ b ∷ []) [] (c ∷ r))))
    (λ e. chosen P (stripped h line b) (λ f. body_more b (body_of h body line (c ∷ r)) (c ∷ r) (omega arith) (body_left h body line (c ∷ r)))
    (λ f. chosen P (b == 92 && not h.quoted)
    (λ g. chosen P (c == 10)
    (λ i. body_more b {j = suc (length body + length line)} (body_of h body line r) (c ∷ r) (omega arith) (body_more c (body_of h body line r) r (omega arith) (body_left h body line r)))
    (λ i. body_more b {j = suc (length body + length line)} (body_of h body (line ++ pair b c) r) (c ∷ r) (omega arith) (body_more c (body_of h body (line ++ pair b c) r) r (omega (arith, two)) (body_left h body (line ++ pair b c) r))))
    (λ g. body_more b (body_of h body (line ++ b ∷ []) (c ∷ r)) (c ∷ r) (omega (arith, size_line line b)) (body_left h body (line ++ b ∷ []) (c ∷ r)))))

-- ---- delimiters

abbrev pub DelimiterLeft : ℕ → Delimited → List ℕ → Type 0
DelimiterLeft n (delimited x q r) t = Left n r t
DelimiterLeft n (not_delimited f) t = Unit {0}

delimiter_more : (b n : ℕ) (d : Delimited) (t : List ℕ) → DelimiterLeft n d t → DelimiterLeft (suc n) d (b ∷ t)
delimiter_more b n (delimited x q r) t l = more b l
delimiter_more b n (not_delimited f) t l = tt

delimiter_none : (n : ℕ) (d : Delimited) (t : List ℕ) → DelimiterLeft n d t → DelimiterLeft 0 d t
delimiter_none n (delimited x q r) t l = none l
delimiter_none n (not_delimited f) t l = tt

-- after its first byte
takes_on : (b : ℕ) (d : Delimited) (t : List ℕ) → DelimiterLeft 0 d t → DelimiterLeft 1 d (b ∷ t)
takes_on b d t l = delimiter_more b 0 d t l

skips_on : (b : ℕ) (d : Delimited) (t : List ℕ) → DelimiterLeft 0 d t → DelimiterLeft 0 d (b ∷ t)
skips_on b d t l = delimiter_none 1 d (b ∷ t) (takes_on b d t l)

takes_two : (b c : ℕ) (d : Delimited) (t : List ℕ) → DelimiterLeft 0 d t → DelimiterLeft 1 d (b ∷ c ∷ t)
takes_two b c d t l = takes_on b d (c ∷ t) (skips_on c d t l)

skips_two : (b c : ℕ) (d : Delimited) (t : List ℕ) → DelimiterLeft 0 d t → DelimiterLeft 0 d (b ∷ c ∷ t)
skips_two b c d t l = skips_on b d (c ∷ t) (skips_on c d t l)

mutual
  unfolding in_single in_double in_delimiter

  in_single_left : (x t : List ℕ) → DelimiterLeft 0 (in_single x t) t
  in_single_left x [] = tt
  in_single_left x (b ∷ r) = let P = λ (d : Delimited). DelimiterLeft 0 d (b ∷ r) in
      chosen P (b == 39) (λ e. skips_on b (in_delimiter x true r) r (in_delimiter_left x true r)) (λ e.
      chosen P (b == 0) (λ f. tt) (λ f. skips_on b (in_single (x ++ b ∷ []) r) r (in_single_left (x ++ b ∷ []) r)))

  in_double_left : (x t : List ℕ) → DelimiterLeft 0 (in_double x t) t
  in_double_left x [] = tt
  in_double_left x (b ∷ []) = let P = λ (d : Delimited). DelimiterLeft 0 d (b ∷ []) in
      chosen P (b == 34) (λ e. skips b (here [])) (λ e. chosen P (b == 0) (λ f. tt) (λ f. tt))
  in_double_left x (b ∷ c ∷ r) = let P = λ (d : Delimited). DelimiterLeft 0 d (b ∷ c ∷ r) in
      chosen P (b == 34) (λ e. skips_on b (in_delimiter x true (c ∷ r)) (c ∷ r) (in_delimiter_left x true (c ∷ r))) (λ e.
      chosen P (b == 0) (λ f. tt) (λ f.
      chosen P (joins b c) (λ g. skips_two b c (in_double x r) r (in_double_left x r)) (λ g.
      chosen P (b == 92 && quotable c)
      (λ i. skips_two b c (in_double (x ++ c ∷ []) r) r (in_double_left (x ++ c ∷ []) r))
      (λ i. skips_on b (in_double (x ++ b ∷ []) (c ∷ r)) (c ∷ r) (in_double_left (x ++ b ∷ []) (c ∷ r))))))

  in_delimiter_left : (x : List ℕ) (q : Bool) (t : List ℕ) → DelimiterLeft 0 (in_delimiter x q t) t
  in_delimiter_left x q [] = here []
  in_delimiter_left x q (b ∷ []) = let P = λ (d : Delimited). DelimiterLeft 0 d (b ∷ []) in
      chosen P (ends_word (b ∷ [])) (λ e. here (b ∷ [])) (λ e.
      chosen P (b == 39) (λ f. tt) (λ f. chosen P (b == 34) (λ g. tt) (λ g. chosen P (b == 0) (λ i. tt) (λ i. skips b (here [])))))
  in_delimiter_left x q (b ∷ c ∷ r) = let P = λ (d : Delimited). DelimiterLeft 0 d (b ∷ c ∷ r) in
      chosen P (ends_word (b ∷ c ∷ r)) (λ e. here (b ∷ c ∷ r)) (λ e.
      chosen P (b == 39) (λ f. skips_on b (in_single x (c ∷ r)) (c ∷ r) (in_single_left x (c ∷ r))) (λ f.
      chosen P (b == 34) (λ g. skips_on b (in_double x (c ∷ r)) (c ∷ r) (in_double_left x (c ∷ r))) (λ g.
      chosen P (b == 0) (λ i. tt) (λ i.
      chosen P (joins b c) (λ j. skips_two b c (in_delimiter x q r) r (in_delimiter_left x q r)) (λ j.
      chosen P (b == 92)
      (λ k. chosen P (c == 0) (λ l. tt) (λ l. skips_two b c (in_delimiter (x ++ c ∷ []) true r) r (in_delimiter_left (x ++ c ∷ []) true r)))
      (λ k. skips_on b (in_delimiter (x ++ b ∷ []) q (c ∷ r)) (c ∷ r) (in_delimiter_left (x ++ b ∷ []) q (c ∷ r))))))))

pub delimiter_takes : (x : List ℕ) (q : Bool) (b : ℕ) (r : List ℕ) → ends_word (b ∷ r) ≡ false → DelimiterLeft 1 (in_delimiter x q (b ∷ r)) (b ∷ r)
unfolding in_delimiter
delimiter_takes x q b [] e = let P = λ (d : Delimited). DelimiterLeft 1 d (b ∷ []) in
    chosen P (ends_word (b ∷ [])) (λ f. absurd (true≢false (sym f ∙ e))) (λ f.
    chosen P (b == 39) (λ f. tt) (λ f. chosen P (b == 34) (λ g. tt) (λ g. chosen P (b == 0) (λ i. tt) (λ i. more b (here [])))))
delimiter_takes x q b (c ∷ r) e = let P = λ (d : Delimited). DelimiterLeft 1 d (b ∷ c ∷ r) in
    chosen P (ends_word (b ∷ c ∷ r)) (λ f. absurd (true≢false (sym f ∙ e))) (λ f.
    chosen P (b == 39) (λ f. takes_on b (in_single x (c ∷ r)) (c ∷ r) (in_single_left x (c ∷ r))) (λ f.
    chosen P (b == 34) (λ g. takes_on b (in_double x (c ∷ r)) (c ∷ r) (in_double_left x (c ∷ r))) (λ g.
    chosen P (b == 0) (λ i. tt) (λ i.
    chosen P (joins b c) (λ j. takes_two b c (in_delimiter x q r) r (in_delimiter_left x q r)) (λ j.
    chosen P (b == 92)
    (λ k. chosen P (c == 0) (λ l. tt) (λ l. takes_two b c (in_delimiter (x ++ c ∷ []) true r) r (in_delimiter_left (x ++ c ∷ []) true r)))
    (λ k. takes_on b (in_delimiter (x ++ b ∷ []) q (c ∷ r)) (c ∷ r) (in_delimiter_left (x ++ b ∷ []) q (c ∷ r))))))))

-- ---- sums

abbrev pub Triple : Type 0
Triple = List ℕ × ℕ × List ℕ

pub sum_left : (n : ℕ) (t : List ℕ) → Left 0 (sum n t).2 t
unfolding sum
sum_left n [] = here []
sum_left n (b ∷ []) = chosen (λ (x : Triple). Left 0 x.2 (b ∷ [])) (special b) (λ e. here (b ∷ [])) (λ e. skips b (here []))
sum_left n (b ∷ c ∷ r) = let P = λ (x : Triple). Left 0 x.2 (b ∷ c ∷ r) in
    chosen P (joins b c) (λ e. skips b (skips c (sum_left n r))) (λ e.
    chosen P (special b) (λ f. here (b ∷ c ∷ r)) (λ f.
    chosen P (b == 40) (λ g. skips b (sum_left (n + 1) (c ∷ r))) (λ g.
    chosen P (b == 41 && (n == 0 && closes (peel (c ∷ r)))) (λ i. here (b ∷ c ∷ r)) (λ i.
    chosen P (b == 41) (λ j. skips b (sum_left (close_bracket n) (c ∷ r))) (λ j. skips b (sum_left n (c ∷ r)))))))

pub sum_takes : (n b : ℕ) (r : List ℕ) → special b ≡ false → (b == 41 && (n == 0 && closes (peel r))) ≡ false → Left 1 (sum n (b ∷ r)).2 (b ∷ r)
unfolding sum
sum_takes n b [] e f = rw (e, sum) (more b (here []))
sum_takes n b (c ∷ r) e f = let P = λ (x : Triple). Left 1 x.2 (b ∷ c ∷ r) in
    chosen P (joins b c) (λ g. absurd (true≢false (sym g ∙ unjoined b c e))) (λ g.
    chosen P (special b) (λ g. absurd (true≢false (sym g ∙ e))) (λ g.
    chosen P (b == 40) (λ g. more b (sum_left (n + 1) (c ∷ r))) (λ g.
    chosen P (b == 41 && (n == 0 && closes (peel (c ∷ r)))) (λ i. absurd (true≢false (sym i ∙ f))) (λ i.
    chosen P (b == 41) (λ j. more b (sum_left (close_bracket n) (c ∷ r))) (λ j. more b (sum_left n (c ∷ r)))))))
