-- The first piece of a word is read again.
use Rattle.std.proofs.Common.{◌≡◌, ℕ, Bool, true, false, not, ◌==◌, ◌&&◌, List, [], ◌∷◌, ◌++◌, Option, Some, None, refl, ap, sym, ◌∙◌, subst}
use Rattle.std.specs.Prelude.{if◌then◌else◌, codes}
use Rattle.std.specs.Str.{bytes_eq}
use Rattle.std.proofs.lemmas.Slice.Eq.{bytes_eq-Decides}
use Rattle.std.proofs.lemmas.Bool.{eqb-true}
use Rattle.sh_lexer.specs.declared.token.Token.{Token}
use Rattle.sh_lexer.specs.declared.token.Op.{Op}
use Rattle.sh_lexer.specs.declared.token.Mode.{Mode}
use Rattle.sh_lexer.specs.declared.token.Mode.TheVariants as mode
use Rattle.sh_lexer.specs.Bytes.{is_digit, in_name, is_name, delimits, ends_word, plain, skip, piece, special, joins, onto}
use Rattle.sh_lexer.specs.Modes.{inside}
use Rattle.sh_lexer.specs.Lex as spec
use Rattle.sh_lexer.specs.Lex.{Lexed, got, opens, done, bad, opens_parenthesis}
use Rattle.sh_spell.specs.Layout.{token_text, left, op_text}
use Rattle.sh_spell.proofs.Cases.{chosen, chosen_if, takes_if, passes_if, both, takes}
use Rattle.sh_spell.proofs.Runs.{apart, ordinary_apart, Firm, Stop, peel-firm, piece-more, piece-stop}
use Rattle.sh_spell.proofs.Heads.{Heads, Meets, first_in_word, word_head, IsClean, stops}
use Rattle.sh_spell.proofs.Bits.{stop-firm}
use Rattle.sh_spell.proofs.Inside.{plain-ordinary}
use Rattle.sh_spell.proofs.Starts.{skip-blank}

-- ---- classes

-- Plain bytes are others than those that aren't.
pub unplain-at : (d n : ℕ) (q : Bool) → (d == n) ≡ q → plain n ≡ false → plain d ≡ true → (d == n) ≡ false
unplain-at d n true g e f = let h = ap plain (eqb-true d n g) in absurd cc
unplain-at d n false g e f = g

pub unplain : (d n : ℕ) → plain n ≡ false → plain d ≡ true → (d == n) ≡ false
unplain d n e f = unplain-at d n (d == n) refl e f

abbrev pub All : (ℕ → Bool) → List ℕ → Type 0
All p [] = Unit {0}
All p (b ∷ r) = (p b ≡ true) × All p r

pub piece-all : (p : ℕ → Bool) (t : List ℕ) → All p (piece p t).0
unfolding piece
piece-all p [] = tt
piece-all p (b ∷ []) = chosen (λ (x : List ℕ × List ℕ). All p x.0) (p b) (λ e. (e, tt)) (λ e. tt)
piece-all p (b ∷ c ∷ r) =
    chosen (λ (x : List ℕ × List ℕ). All p x.0) (joins b c) (λ j. piece-all p r) (λ j.
    chosen (λ (x : List ℕ × List ℕ). All p x.0) (p b) (λ e. (e, piece-all p (c ∷ r))) (λ e. tt))

-- ---- digits that are no descriptor's

-- No `<` or `>` comes first.
abbrev pub Free : List ℕ → Type 0
Free [] = Unit {0}
Free (b ∷ r) = ((b == 60) ≡ false) × ((b == 62) ≡ false)

clean-free-at : (b n : ℕ) (q : Bool) → (b == n) ≡ q → delimits n ≡ true → (n == 32) ≡ false → (delimits b ≡ true → b ≡ 32) → (b == n) ≡ false
clean-free-at b n true g d e h =
    let k = eqb-true b n g in let x : n ≡ 32 = sym k ∙ h (ap delimits k ∙ d) in let y = ap (λ i. i == 32) x in absurd cc
clean-free-at b n false g d e h = g

clean-free : (c : List ℕ) → IsClean mode.Word c → Free c
clean-free [] h = tt
clean-free (b ∷ c) h = (clean-free-at b 60 (b == 60) refl refl refl h, clean-free-at b 62 (b == 62) refl refl refl h)

apart_from-at : (p : ℕ → Bool) (b n : ℕ) (q : Bool) → (b == n) ≡ q → p b ≡ true → p n ≡ false → (b == n) ≡ false
apart_from-at p b n true g e f = let h = ap p (eqb-true b n g) in absurd cc
apart_from-at p b n false g e f = g

-- A byte in a class that has none of those that aren't plain.
plain-of : (p : ℕ → Bool) (b : ℕ) → p b ≡ true → p 32 ≡ false → p 9 ≡ false → p 10 ≡ false → p 38 ≡ false → p 40 ≡ false → p 41 ≡ false → p 59 ≡ false → p 60 ≡ false → p 62 ≡ false →
    p 124 ≡ false → p 0 ≡ false → p 36 ≡ false → p 92 ≡ false → p 96 ≡ false → p 34 ≡ false → p 39 ≡ false → plain b ≡ true
unfolding special
plain-of p b e e1 e2 e3 e4 e5 e6 e7 e8 e9 e10 e11 e12 e13 e14 e15 e16 =
    let f = λ (n : ℕ) (g : p n ≡ false). apart_from-at p b n (b == n) refl e g in
    rw (f 32 e1, f 9 e2, f 10 e3, f 38 e4, f 40 e5, f 41 e6, f 59 e7, f 60 e8, f 62 e9, f 124 e10, f 0 e11, f 36 e12, f 92 e13, f 96 e14, f 34 e15, f 39 e16) refl

digit-plain : (b : ℕ) → is_digit b ≡ true → plain b ≡ true
digit-plain b e = plain-of is_digit b e refl refl refl refl refl refl refl refl refl refl refl refl refl refl refl refl

name-plain : (b : ℕ) → in_name b ≡ true → plain b ≡ true
name-plain b e = plain-of in_name b e refl refl refl refl refl refl refl refl refl refl refl refl refl refl refl refl

outside : (p : ℕ → Bool) (b : ℕ) (q : Bool) → p b ≡ q → (p b ≡ true → plain b ≡ true) → plain b ≡ false → p b ≡ false
outside p b true g h e = let k = h g in absurd cc
outside p b false g h e = g

unplain-digit : (b : ℕ) → plain b ≡ false → is_digit b ≡ false
unplain-digit b e = outside is_digit b (is_digit b) refl (digit-plain b) e

stop-digit : (c : List ℕ) → Stop plain c → Stop is_digit c
stop-digit [] s = tt
stop-digit (b ∷ c) s = (unplain-digit b s.0, s.1)

free-run-at : (b : ℕ) (x c : List ℕ) (q : Bool) → is_digit b ≡ q → plain b ≡ true → Free (piece is_digit (x ++ c)).1 → Free (piece is_digit (b ∷ (x ++ c))).1
free-run-at b x c true d e f = let a = ordinary_apart b (x ++ c) (plain-ordinary b e) in
    subst (λ (y : List ℕ × List ℕ). Free y.1) (sym (piece-more is_digit b (x ++ c) d a)) f
free-run-at b x c false d e f = let a = ordinary_apart b (x ++ c) (plain-ordinary b e) in
    subst (λ (y : List ℕ × List ℕ). Free y.1) (sym (piece-stop is_digit (b ∷ (x ++ c)) (d, a))) (unplain b 60 refl e, unplain b 62 refl e)

pub free-run : (x c : List ℕ) → All plain x → Stop plain c → Free c → Free (piece is_digit (x ++ c)).1
free-run [] c a s f = subst (λ (y : List ℕ × List ℕ). Free y.1) (sym (piece-stop is_digit c (stop-digit c s))) f
free-run (b ∷ x) c a s f = free-run-at b x c (is_digit b) refl a.0 (free-run x c a.1 s f)

numbered-free : (word : Lexed) (n : ℕ) (t : List ℕ) → Free t → spec.numbered word n t ≡ word
numbered-free word n [] f = refl
numbered-free word n (b ∷ r) f = passes_if (b == 60) _ _ f.0 ∙ passes_if (b == 62) _ _ f.1

pub word-plain : (m : Mode) (b : ℕ) (k : List ℕ) → (is_digit b ≡ true → Free (piece is_digit (b ∷ k)).1) → spec.plain_at m b k ≡ spec.word_at m (b ∷ k)
unfolding spec.plain_at
word-plain m b k f = chosen_if (λ (l : Lexed). l ≡ spec.word_at m (b ∷ k)) (is_digit b) (λ e. numbered-free (spec.word_at m (b ∷ k)) _ (piece is_digit (b ∷ k)).1 (f e)) (λ e. refl)

-- ---- what a word ends with

nothing-at : (d : ℕ) (q : Bool) → None ≡ (if q then None else Some d) → true ≡ q
nothing-at d true e = refl
nothing-at d false e = absurd cc

nothing : (d : ℕ) (c : List ℕ) → None ≡ first_in_word (d ∷ c) → true ≡ ends_word (d ∷ c)
nothing d c e = nothing-at d (delimits d) e

ends-both : (b d : ℕ) (p q : Bool) → (if p then None else Some b) ≡ (if q then None else Some d) → p ≡ q
ends-both b d true true e = refl
ends-both b d false false e = refl
ends-both b d true false e = absurd cc
ends-both b d false true e = absurd cc

ends-at : (r c : List ℕ) → first_in_word r ≡ first_in_word c → ends_word r ≡ ends_word c
ends-at [] [] e = refl
ends-at [] (d ∷ c) e = nothing d c e
ends-at (b ∷ r) [] e = sym (nothing b r (sym e))
ends-at (b ∷ r) (d ∷ c) e = ends-both b d (delimits b) (delimits d) e

ends-same : (r c : List ℕ) → Firm r → Heads mode.Word r c → ends_word r ≡ ends_word c
ends-same r c f h = ends-at r c (ap (λ (x : Option ℕ × Bool). x.0) (sym (ap word_head (peel-firm r f)) ∙ (h.same ∙ ap word_head (peel-firm c h.firm))))

opens-same : (r c : List ℕ) → Firm r → Heads mode.Word r c → ends_word r ≡ true → opens_parenthesis (skip r) ≡ opens_parenthesis (skip c)
opens-same r c f h e =
    let k : (ends_word r && opens_parenthesis (skip r)) ≡ (ends_word c && opens_parenthesis (skip c)) =
    ap (λ (x : Option ℕ × Bool). x.1) (sym (ap word_head (peel-firm r f)) ∙ (h.same ∙ ap word_head (peel-firm c h.firm))) in
    let g : ends_word c ≡ true = sym (ends-same r c f h) ∙ e in
    sym (ap (λ x. x && opens_parenthesis (skip r)) e) ∙ (k ∙ ap (λ x. x && opens_parenthesis (skip c)) g)

-- ---- a piece

-- The text of the token is x, and g makes the token of x and what is left behind it.
pub record Given (m : Mode) (x : List ℕ) (g : List ℕ × List ℕ → Lexed) (t : Token) (r : List ℕ) : Type 0 where
  pub text : token_text t ≡ x
  pub ends : (c : List ℕ) → Meets m t r c → Stop plain (left t c)
  pub free : (c : List ℕ) → Meets m t r c → Free (left t c)
  pub again : (c : List ℕ) → Meets m t r c → g (x, left t c) ≡ got t (left t c)

abbrev pub Gives : Mode → List ℕ → (List ℕ × List ℕ → Lexed) → Lexed → Type 0
Gives m x g (got t r) = Given m x g t r
Gives m x g (opens t y o) = ⊥
Gives m x g done = ⊥
Gives m x g (bad e) = ⊥

blank-stop : (c : List ℕ) → Stop plain (32 ∷ c)
blank-stop c = (refl, apart 32 c refl)

-- a piece that is no more than that
piece-given : (m : Mode) (x r : List ℕ) (g : List ℕ × List ℕ → Lexed) → inside m ≡ mode.Word → Stop plain r → ((c : List ℕ) → Heads mode.Word r c → g (x, c) ≡ spec.plain_text (x, c)) →
    Gives m x g (spec.plain_text (x, r))
piece-given m x r g i s e = record {
  text = refl;
  ends = λ c h. stops mode.Word plain r c tt (λ j. refl) s (subst (λ (n : Mode). Heads n r c) i h.0);
  free = λ c h. let k = subst (λ (n : Mode). Heads n r c) i h.0 in clean-free c k.clean;
  again = λ c h. e c (subst (λ (n : Mode). Heads n r c) i h.0);
}

pub plain-gives : (m : Mode) (x r : List ℕ) → inside m ≡ mode.Word → Stop plain r → Gives m x spec.plain_text (spec.plain_text (x, r))
plain-gives m x r i s = piece-given m x r spec.plain_text i s (λ c h. refl)

-- ---- the first pattern of an arm

pub pattern-gives : (x r : List ℕ) → Stop plain r → Gives mode.Pattern x spec.pattern_text (spec.pattern_text (x, r))
pattern-gives x r s = chosen_if (λ (l : Lexed). Gives mode.Pattern x spec.pattern_text l) (ends_word r && bytes_eq x (codes "esac"))
    (λ e. let k = (both (ends_word r) (bytes_eq x (codes "esac")) e).1 in record {
      text = sym ((bytes_eq-Decides x (codes "esac")).0 k);
      ends = λ c h. blank-stop c;
      free = λ c h. (refl, refl);
      again = λ c h. takes_if (bytes_eq x (codes "esac")) _ _ k;
    })
    (λ e. piece-given mode.Pattern x r spec.pattern_text refl s (λ c h.
    passes_if (ends_word c && bytes_eq x (codes "esac")) _ _ (ap (λ q. q && bytes_eq x (codes "esac")) (sym (ends-same r c (stop-firm plain r s) h)) ∙ e)))

-- ---- the first word of a command

abbrev IsText : List ℕ → Option Op → Type 0
IsText x None = Unit {0}
IsText x (Some o) = op_text o ≡ x

one : (x w : List ℕ) → bytes_eq x w ≡ true → w ≡ x
one x w e = sym ((bytes_eq-Decides x w).0 e)

pub reserved-text : (x : List ℕ) → IsText x (spec.reserved x)
reserved-text x = let P = IsText x in
    chosen_if P (bytes_eq x (codes "!")) (λ e. one x _ e) (λ e.
    chosen_if P (bytes_eq x (codes "{")) (λ e. one x _ e) (λ e.
    chosen_if P (bytes_eq x (codes "}")) (λ e. one x _ e) (λ e.
    chosen_if P (bytes_eq x (codes "case")) (λ e. one x _ e) (λ e.
    chosen_if P (bytes_eq x (codes "do")) (λ e. one x _ e) (λ e.
    chosen_if P (bytes_eq x (codes "done")) (λ e. one x _ e) (λ e.
    chosen_if P (bytes_eq x (codes "elif")) (λ e. one x _ e) (λ e.
    chosen_if P (bytes_eq x (codes "else")) (λ e. one x _ e) (λ e.
    chosen_if P (bytes_eq x (codes "esac")) (λ e. one x _ e) (λ e.
    chosen_if P (bytes_eq x (codes "fi")) (λ e. one x _ e) (λ e.
    chosen_if P (bytes_eq x (codes "for")) (λ e. one x _ e) (λ e.
    chosen_if P (bytes_eq x (codes "if")) (λ e. one x _ e) (λ e.
    chosen_if P (bytes_eq x (codes "in")) (λ e. one x _ e) (λ e.
    chosen_if P (bytes_eq x (codes "then")) (λ e. one x _ e) (λ e.
    chosen_if P (bytes_eq x (codes "until")) (λ e. one x _ e) (λ e.
    chosen_if P (bytes_eq x (codes "while")) (λ e. one x _ e) (λ e. tt))))))))))))))))

-- The word is a function's name where a `(` comes next.
abbrev may_name : List ℕ → List ℕ → Bool
may_name x r = is_name x && (not (spec.special_builtin x) && opens_parenthesis (skip r))

named-same : (x r c : List ℕ) → opens_parenthesis (skip r) ≡ opens_parenthesis (skip c) → may_name x c ≡ may_name x r
named-same x r c e = ap (λ q. is_name x && (not (spec.special_builtin x) && q)) (sym e)

unreserved-gives : (x r : List ℕ) → Stop plain r → ends_word r ≡ true → spec.reserved x ≡ None → Gives mode.Command x spec.command_text (spec.function_or_text (x, r))
unreserved-gives x r s e n = chosen_if (λ (l : Lexed). Gives mode.Command x spec.command_text l) (may_name x r)
    (λ y. record {
      text = refl;
      ends = λ c h. blank-stop c;
      free = λ c h. (refl, refl);
      again = λ c h. ap (λ (o : Option Op). spec.reserved_or_text o (x, 32 ∷ c)) n
          ∙ takes_if (may_name x (32 ∷ c)) _ _ (named-same x r (32 ∷ c) (ap (λ (z : Option ℕ × Bool). z.1) h.same ∙ ap opens_parenthesis (sym (skip-blank c))) ∙ y);
    })
    (λ y. piece-given mode.Command x r spec.command_text refl s (λ c h. let f = stop-firm plain r s in
    takes_if (ends_word c) _ _ (sym (ends-same r c f h) ∙ e)
    ∙ (ap (λ (o : Option Op). spec.reserved_or_text o (x, c)) n ∙ passes_if (may_name x c) _ _ (named-same x r c (opens-same r c f h e) ∙ y))))

reserved-gives : (x r : List ℕ) (o : Option Op) → spec.reserved x ≡ o → Stop plain r → ends_word r ≡ true → Gives mode.Command x spec.command_text (spec.reserved_or_text o (x, r))
reserved-gives x r None n s e = unreserved-gives x r s e n
reserved-gives x r (Some o) n s e = record {
  text = subst (IsText x) n (reserved-text x);
  ends = λ c h. blank-stop c;
  free = λ c h. (refl, refl);
  again = λ c h. ap (λ (o : Option Op). spec.reserved_or_text o (x, 32 ∷ c)) n;
}

pub command-gives : (x r : List ℕ) → Stop plain r → Gives mode.Command x spec.command_text (spec.command_text (x, r))
command-gives x r s = chosen_if (λ (l : Lexed). Gives mode.Command x spec.command_text l) (ends_word r)
    (λ e. reserved-gives x r (spec.reserved x) refl s e)
    (λ e. piece-given mode.Command x r spec.command_text refl s (λ c h. passes_if (ends_word c) _ _ (sym (ends-same r c (stop-firm plain r s) h) ∙ e)))

-- ---- assignments

abbrev pub is_assign_sign : List ℕ → Bool
is_assign_sign [] = false
is_assign_sign (b ∷ r) = b == 61

abbrev pub assigns : List ℕ × List ℕ → Bool
assigns p = is_name p.0 && is_assign_sign p.1

unassigned-at : (word : Lexed) (x r : List ℕ) → (true && is_assign_sign r) ≡ false → spec.assigned word x r ≡ word
unassigned-at word x [] e = refl
unassigned-at word x (b ∷ r) e = passes_if (b == 61) _ _ e

pub unassigned : (word : Lexed) (p : List ℕ × List ℕ) → assigns p ≡ false → spec.assigned_text word p ≡ word
unassigned word (x, r) e = chosen_if (λ (l : Lexed). l ≡ word) (is_name x) (λ f. unassigned-at word x r (ap (λ q. q && is_assign_sign r) (sym f) ∙ e)) (λ f. refl)

abbrev pub Alike : List ℕ × List ℕ → List ℕ × List ℕ → Type 0
Alike p q = (p.0 ≡ q.0) × (is_assign_sign p.1 ≡ is_assign_sign q.1)

pub alike-assigns : (p q : List ℕ × List ℕ) → Alike p q → assigns p ≡ assigns q
alike-assigns p q a = ap (λ x. is_name x && is_assign_sign p.1) a.0 ∙ ap (λ x. is_name q.0 && x) a.1

unplain-name : (b : ℕ) → plain b ≡ false → in_name b ≡ false
unplain-name b e = outside in_name b (in_name b) refl (name-plain b) e

stop-name : (c : List ℕ) → Stop plain c → Stop in_name c
stop-name [] s = tt
stop-name (b ∷ c) s = (unplain-name b s.0, s.1)

no_sign-at : (b : ℕ) (q : Bool) → (b == 61) ≡ q → plain b ≡ false → q ≡ false
unfolding special
no_sign-at b true g e = let h : plain b ≡ true = ap plain (eqb-true b 61 g) in absurd cc
no_sign-at b false g e = refl

no_sign : (c : List ℕ) → Stop plain c → is_assign_sign c ≡ false
no_sign [] s = refl
no_sign (b ∷ c) s = no_sign-at b (b == 61) refl s.0

-- texts that end a piece
alike-ends : (r c : List ℕ) → Stop plain r → Stop plain c → Alike (piece in_name r) (piece in_name c)
alike-ends r c s u = subst (λ (p : List ℕ × List ℕ). Alike p (piece in_name c)) (sym (piece-stop in_name r (stop-name r s)))
    (subst (λ (p : List ℕ × List ℕ). Alike ([], r) p) (sym (piece-stop in_name c (stop-name c u))) (refl, no_sign r s ∙ sym (no_sign c u)))

alike-more-at : (b : ℕ) (t y : List ℕ) (q : Bool) → in_name b ≡ q → plain b ≡ true → Alike (piece in_name t) (piece in_name y) → Alike (piece in_name (b ∷ t)) (piece in_name (b ∷ y))
alike-more-at b t y true e f a = let g = plain-ordinary b f in
    subst (λ (p : List ℕ × List ℕ). Alike p (piece in_name (b ∷ y))) (sym (piece-more in_name b t e (ordinary_apart b t g)))
    (subst (λ (p : List ℕ × List ℕ). Alike (onto b (piece in_name t)) p) (sym (piece-more in_name b y e (ordinary_apart b y g))) (ap (λ x. b ∷ x) a.0, a.1))
alike-more-at b t y false e f a = let g = plain-ordinary b f in
    subst (λ (p : List ℕ × List ℕ). Alike p (piece in_name (b ∷ y))) (sym (piece-stop in_name (b ∷ t) (e, ordinary_apart b t g)))
    (subst (λ (p : List ℕ × List ℕ). Alike ([], b ∷ t) p) (sym (piece-stop in_name (b ∷ y) (e, ordinary_apart b y g))) (refl, refl))

alike-joined : (b d : ℕ) (r : List ℕ) (y : List ℕ × List ℕ) → joins b d ≡ true → Alike (piece in_name r) y → Alike (piece in_name (b ∷ d ∷ r)) y
unfolding piece
alike-joined b d r y j a = subst (λ (p : List ℕ × List ℕ). Alike p y) (sym (takes (joins b d) _ _ j)) a

abbrev pub AlikeTo : List ℕ → List ℕ → List ℕ × List ℕ → Type 0
AlikeTo t c x = Alike (piece in_name t) (piece in_name (x.0 ++ c))

-- A piece begins with an assignment where the text does.
pub alike : (t c : List ℕ) → Stop plain c → AlikeTo t c (piece plain t)
unfolding piece
alike [] c s = alike-ends [] c tt s
alike (b ∷ []) c s = chosen (AlikeTo (b ∷ []) c) (plain b) (λ e. alike-more-at b [] c (in_name b) refl e (alike-ends [] c tt s)) (λ e. alike-ends (b ∷ []) c (e, tt) s)
alike (b ∷ d ∷ r) c s =
    chosen (AlikeTo (b ∷ d ∷ r) c) (joins b d) (λ j. alike-joined b d r (piece in_name ((piece plain r).0 ++ c)) j (alike r c s)) (λ j.
    chosen (AlikeTo (b ∷ d ∷ r) c) (plain b)
    (λ e. alike-more-at b (d ∷ r) ((piece plain (d ∷ r)).0 ++ c) (in_name b) refl e (alike (d ∷ r) c s))
    (λ e. alike-ends (b ∷ d ∷ r) c (e, j) s))
