-- What begins with a `$` is read again.
use Rattle.std.proofs.Common.{◌≡◌, ℕ, Bool, true, false, ◌==◌, ◌||◌, List, [], ◌∷◌, ◌++◌, refl, ap, sym, ◌∙◌, subst, ◌⊎◌, inl, inr, arith, append_assoc}
use Rattle.sh_syntax.specs.declared.tree.ParamOp.{ParamOp}
use Rattle.sh_syntax.specs.declared.tree.ParamOp.TheVariants as param_op
use Rattle.sh_lexer.specs.declared.token.Token.TheVariants as token
use Rattle.sh_lexer.specs.declared.token.Mode.{Mode}
use Rattle.sh_lexer.specs.declared.token.Mode.TheVariants as mode
use Rattle.sh_lexer.specs.Bytes.{is_digit, begins_name, in_name, peel, piece, special}
use Rattle.sh_lexer.specs.Modes.{inside}
use Rattle.sh_lexer.specs.Lex as spec
use Rattle.sh_lexer.specs.Lex.{Lexed, got, opens, done, bad}
use Rattle.sh_spell.specs.Layout.{token_text, left}
use Rattle.sh_spell.specs.Tidy.{IsInWord}
use Rattle.sh_spell.proofs.Cases.{chosen_if, takes_if, passes_if, neither, either_if, at}
use Rattle.sh_spell.proofs.Runs.{apart, ordinary_apart, Firm, Stop, peel-firm, peel-is_firm, piece-again, piece-more, piece-stops, Ordinary}
use Rattle.sh_spell.proofs.Heads.{Heads, Meets, AfterEnd, After, after, nothing, stops}

-- ---- the first byte

-- The text begins with a byte that begins no joined lines.
abbrev pub IsSolid : List ℕ → Type 0
IsSolid [] = ⊥
IsSolid (b ∷ r) = (b == 92) ≡ false

pub solid-peel : (w k : List ℕ) → IsSolid w → peel (w ++ k) ≡ w ++ k
solid-peel [] k s = absurd s
solid-peel (b ∷ w) k s = peel-firm (b ∷ (w ++ k)) (apart b (w ++ k) s)

-- a byte behind a parameter's name in braces
abbrev pub op_byte : ℕ → Bool
op_byte b = b == 125 || b == 58 || b == 45 || b == 61 || b == 63 || b == 43 || b == 37 || b == 35

abbrev pub IsOpText : List ℕ → Type 0
IsOpText [] = ⊥
IsOpText (b ∷ r) = op_byte b ≡ true

op-solid : (w : List ℕ) → IsOpText w → IsSolid w
op-solid [] o = o
op-solid (b ∷ w) o = grind arith

op-stop : (p : ℕ → Bool) (w k : List ℕ) → ((b : ℕ) → op_byte b ≡ true → p b ≡ false) → IsOpText w → Stop p (w ++ k)
op-stop p [] k f o = absurd o
op-stop p (b ∷ w) k f o = let s : (b == 92) ≡ false = op-solid (b ∷ w) o in (f b o, apart b (w ++ k) s)

op-is : (P : ℕ → Type 0) → P 125 → P 58 → P 45 → P 61 → P 63 → P 43 → P 37 → P 35 → (b : ℕ) → op_byte b ≡ true → P b
op-is P p1 p2 p3 p4 p5 p6 p7 p8 b o =
    either_if P (b == 125 || b == 58 || b == 45 || b == 61 || b == 63 || b == 43 || b == 37) (b == 35) b (λ o.
    either_if P (b == 125 || b == 58 || b == 45 || b == 61 || b == 63 || b == 43) (b == 37) b (λ o.
    either_if P (b == 125 || b == 58 || b == 45 || b == 61 || b == 63) (b == 43) b (λ o.
    either_if P (b == 125 || b == 58 || b == 45 || b == 61) (b == 63) b (λ o.
    either_if P (b == 125 || b == 58 || b == 45) (b == 61) b (λ o.
    either_if P (b == 125 || b == 58) (b == 45) b (λ o.
    either_if P (b == 125) (b == 58) b (at P b 125 p1) (at P b 58 p2) o)
    (at P b 45 p3) o) (at P b 61 p4) o) (at P b 63 p5) o) (at P b 43 p6) o) (at P b 37 p7) o) (at P b 35 p8) o

op-no_name : (b : ℕ) → op_byte b ≡ true → in_name b ≡ false
op-no_name b o = op-is (λ n. in_name n ≡ false) refl refl refl refl refl refl refl refl b o

op-no_digit : (b : ℕ) → op_byte b ≡ true → is_digit b ≡ false
op-no_digit b o = op-is (λ n. is_digit n ≡ false) refl refl refl refl refl refl refl refl b o

pub name-ordinary : Ordinary in_name
unfolding special
name-ordinary b e = grind arith

pub digit-ordinary : Ordinary is_digit
unfolding special
digit-ordinary b e = grind arith

-- ---- after a parameter's name in braces

abbrev Operates : Mode → List ℕ → Lexed → Type 0
Operates m x (got t r) =
    (w : List ℕ) × (token_text t ≡ 36 ∷ 123 ∷ (x ++ w)) × IsOpText w × ((c : List ℕ) → Meets m t r c → spec.param_op_at m x (w ++ left t c) ≡ got t (left t c))
Operates m x (opens t y o) = ⊥
Operates m x done = Unit {0}
Operates m x (bad f) = Unit {0}

colon-again : (m : Mode) (x t : List ℕ) → Operates m x (spec.colon_op m x t)
unfolding spec.param_op_at peel
colon-again m x [] = tt
colon-again m x (b ∷ r) = let P = λ (l : Lexed). Operates m x l in
    chosen_if P (b == 45) (λ e. (58 ∷ 45 ∷ [], refl, refl, λ c h. ap (spec.colon_op m x) (peel-firm (45 ∷ c) (apart 45 c refl)))) (λ e.
    chosen_if P (b == 61) (λ e. (58 ∷ 61 ∷ [], refl, refl, λ c h. ap (spec.colon_op m x) (peel-firm (61 ∷ c) (apart 61 c refl)))) (λ e.
    chosen_if P (b == 63) (λ e. (58 ∷ 63 ∷ [], refl, refl, λ c h. ap (spec.colon_op m x) (peel-firm (63 ∷ c) (apart 63 c refl)))) (λ e.
    chosen_if P (b == 43) (λ e. (58 ∷ 43 ∷ [], refl, refl, λ c h. ap (spec.colon_op m x) (peel-firm (43 ∷ c) (apart 43 c refl)))) (λ e.
    chosen_if P (b == 0) (λ e. tt) (λ e. tt)))))

-- a sign that isn't doubled
undoubled : (m : Mode) (x : List ℕ) (b : ℕ) (small large : ParamOp) (c : List ℕ) → After (mode.Braces false) b c ⊎ (c ≡ []) → (d : ℕ) → (b == d) ≡ false → spec.doubled m x d small large c ≡ spec.braces m x small false false c
undoubled m x b small large [] a d e = refl
undoubled m x b small large (f ∷ c) (inl (inl g)) d e = passes_if (f == d) _ _ (ap (λ n. n == d) g ∙ e)
undoubled m x b small large (f ∷ c) (inl (inr g)) d e = absurd g.1
undoubled m x b small large (f ∷ c) (inr g) d e = absurd cc

suffix-again : (m : Mode) (x t : List ℕ) → Firm t → Operates m x (spec.doubled m x 37 param_op.SmallSuffix param_op.LargeSuffix t)
unfolding spec.param_op_at peel
suffix-again m x [] f = (
  37 ∷ [],
  refl,
  refl,
  λ c h.
      ap (spec.doubled m x 37 param_op.SmallSuffix param_op.LargeSuffix) (peel-firm c h.firm) ∙ undoubled m x 0 param_op.SmallSuffix param_op.LargeSuffix c (inr (nothing (mode.Braces false) c tt (λ i. i) (h.empty refl))) 37 refl,
)
suffix-again m x (b ∷ r) f = chosen_if (λ (l : Lexed). Operates m x l) (b == 37)
    (λ e. (37 ∷ 37 ∷ [], refl, refl, λ c h. ap (spec.doubled m x 37 param_op.SmallSuffix param_op.LargeSuffix) (peel-firm (37 ∷ c) (apart 37 c refl))))
    (λ e. (
      37 ∷ [],
      refl,
      refl,
      λ c h.
          ap (spec.doubled m x 37 param_op.SmallSuffix param_op.LargeSuffix) (peel-firm c h.firm)
          ∙ undoubled m x b param_op.SmallSuffix param_op.LargeSuffix c (inl (after (mode.Braces false) b r c tt f h)) 37 e,
    ))

prefix-again : (m : Mode) (x t : List ℕ) → Firm t → Operates m x (spec.doubled m x 35 param_op.SmallPrefix param_op.LargePrefix t)
unfolding spec.param_op_at peel
prefix-again m x [] f = (
  35 ∷ [],
  refl,
  refl,
  λ c h.
      ap (spec.doubled m x 35 param_op.SmallPrefix param_op.LargePrefix) (peel-firm c h.firm) ∙ undoubled m x 0 param_op.SmallPrefix param_op.LargePrefix c (inr (nothing (mode.Braces false) c tt (λ i. i) (h.empty refl))) 35 refl,
)
prefix-again m x (b ∷ r) f = chosen_if (λ (l : Lexed). Operates m x l) (b == 35)
    (λ e. (35 ∷ 35 ∷ [], refl, refl, λ c h. ap (spec.doubled m x 35 param_op.SmallPrefix param_op.LargePrefix) (peel-firm (35 ∷ c) (apart 35 c refl))))
    (λ e. (
      35 ∷ [],
      refl,
      refl,
      λ c h.
          ap (spec.doubled m x 35 param_op.SmallPrefix param_op.LargePrefix) (peel-firm c h.firm)
          ∙ undoubled m x b param_op.SmallPrefix param_op.LargePrefix c (inl (after (mode.Braces false) b r c tt f h)) 35 e,
    ))

op-again : (m : Mode) (x t : List ℕ) → Operates m x (spec.param_op_at m x t)
unfolding spec.param_op_at
op-again m x [] = tt
op-again m x (b ∷ r) = let P = λ (l : Lexed). Operates m x l in
    chosen_if P (b == 125) (λ e. (125 ∷ [], refl, refl, λ c h. refl)) (λ e.
    chosen_if P (b == 58) (λ e. colon-again m x (peel r)) (λ e.
    chosen_if P (b == 45) (λ e. (45 ∷ [], refl, refl, λ c h. refl)) (λ e.
    chosen_if P (b == 61) (λ e. (61 ∷ [], refl, refl, λ c h. refl)) (λ e.
    chosen_if P (b == 63) (λ e. (63 ∷ [], refl, refl, λ c h. refl)) (λ e.
    chosen_if P (b == 43) (λ e. (43 ∷ [], refl, refl, λ c h. refl)) (λ e.
    chosen_if P (b == 37) (λ e. suffix-again m x (peel r) (peel-is_firm r)) (λ e.
    chosen_if P (b == 35) (λ e. prefix-again m x (peel r) (peel-is_firm r)) (λ e.
    chosen_if P (b == 0) (λ e. tt) (λ e. tt)))))))))

-- ---- after `${`

abbrev Braced : Mode → Lexed → Type 0
Braced m (got t r) =
    (w : List ℕ) × (token_text t ≡ 36 ∷ 123 ∷ w) × IsSolid w × ((c : List ℕ) → Meets m t r c → spec.in_braces m (w ++ left t c) ≡ got t (left t c))
Braced m (opens t y o) = ⊥
Braced m done = Unit {0}
Braced m (bad f) = Unit {0}

-- a parameter of several bytes, of which b is the first
named : (m : Mode) (b : ℕ) (x : List ℕ) (l : Lexed) → (b == 92) ≡ false → ((w k : List ℕ) → IsOpText w → spec.in_braces m (b ∷ (x ++ (w ++ k))) ≡ spec.param_op_at m (b ∷ x) (w ++ k)) →
    Operates m (b ∷ x) l → Braced m l
named m b x (got t r) s f o = (
  b ∷ (x ++ o.0),
  o.1,
  s,
  λ c h.
      ap (λ (y : List ℕ). spec.in_braces m (b ∷ y)) (append_assoc x o.0 (left t c)) ∙ (f o.0 (left t c) o.2 ∙ o.3 c h),
)
named m b x (opens t y o) s f p = p
named m b x done s f o = tt
named m b x (bad e) s f o = tt

pub name-is_solid : (b : ℕ) → begins_name b ≡ true → (b == 92) ≡ false
name-is_solid b e = grind arith

pub name-is_name : (b : ℕ) → begins_name b ≡ true → in_name b ≡ true
name-is_name b e = rw e refl

pub digit-is_solid : (b : ℕ) → is_digit b ≡ true → (b == 92) ≡ false
digit-is_solid b e = grind arith

-- the run that begins with a byte of the class
pub begun : (p : ℕ → Bool) (b : ℕ) (r : List ℕ) → Ordinary p → p b ≡ true → piece p (b ∷ r) ≡ (b ∷ (piece p r).0, (piece p r).1)
begun p b r o e = piece-more p b r e (ordinary_apart b r (o b e))

pub begun-again : (p : ℕ → Bool) (b : ℕ) (r c : List ℕ) → Ordinary p → p b ≡ true → Stop p c → piece p (b ∷ ((piece p r).0 ++ c)) ≡ (b ∷ (piece p r).0, c)
begun-again p b r c o e s =
    piece-more p b ((piece p r).0 ++ c) e (ordinary_apart b ((piece p r).0 ++ c) (o b e))
    ∙ ap (λ (x : List ℕ × List ℕ). (b ∷ x.0, x.1)) (piece-again p r c o s)

name-again : (m : Mode) (b : ℕ) (r : List ℕ) → begins_name b ≡ true → Braced m (spec.name_param m (piece in_name (b ∷ r)))
unfolding spec.in_braces
name-again m b r e =
    subst (λ (x : List ℕ × List ℕ). Braced m (spec.name_param m x)) (sym (begun in_name b r name-ordinary (name-is_name b e)))
    (named m b (piece in_name r).0 (spec.param_op_at m (b ∷ (piece in_name r).0) (piece in_name r).1) (name-is_solid b e)
    (λ w k o. takes_if (begins_name b) _ _ e ∙ ap (spec.name_param m) (begun-again in_name b r (w ++ k) name-ordinary (name-is_name b e) (op-stop in_name w k op-no_name o)))
    (op-again m (b ∷ (piece in_name r).0) (piece in_name r).1))

digits-again-at : (m : Mode) (b : ℕ) (x r : List ℕ) → begins_name b ≡ false → is_digit b ≡ true →
    ((c : List ℕ) → Stop is_digit c → piece is_digit (b ∷ (x ++ c)) ≡ (b ∷ x, c)) → Braced m (spec.digits_param m (b ∷ x, r))
unfolding spec.in_braces
digits-again-at m b x r f e g = chosen_if (λ (l : Lexed). Braced m l) (spec.positional (b ∷ x) || spec.zero_alone (b ∷ x))
    (λ k. named m b x (spec.param_op_at m (b ∷ x) r) (digit-is_solid b e)
    (λ w y o. passes_if (begins_name b) _ _ f ∙ (takes_if (is_digit b) _ _ e ∙ (ap (spec.digits_param m) (g (w ++ y) (op-stop is_digit w y op-no_digit o))
    ∙ takes_if (spec.positional (b ∷ x) || spec.zero_alone (b ∷ x)) _ _ k)))
    (op-again m (b ∷ x) r))
    (λ k. tt)

digits-again : (m : Mode) (b : ℕ) (r : List ℕ) → begins_name b ≡ false → is_digit b ≡ true → Braced m (spec.digits_param m (piece is_digit (b ∷ r)))
digits-again m b r f e =
    subst (λ (x : List ℕ × List ℕ). Braced m (spec.digits_param m x)) (sym (begun is_digit b r digit-ordinary e))
    (digits-again-at m b (piece is_digit r).0 (piece is_digit r).1 f e (λ c s. begun-again is_digit b r c digit-ordinary e s))

-- ---- after `${#`

-- the length of a parameter
lengths : (m : Mode) (b : ℕ) (x r : List ℕ) → (b == 92) ≡ false → ((c : List ℕ) → spec.hash m (b ∷ (x ++ 125 ∷ c)) ≡ got (token.Param (b ∷ x) true) c) → Braced m (spec.length_end (b ∷ x) r)
unfolding spec.in_braces
lengths m b x [] s f = tt
lengths m b x (d ∷ r) s f = chosen_if (λ (l : Lexed). Braced m l) (d == 125)
    (λ e. (
      35 ∷ b ∷ (x ++ 125 ∷ []),
      refl,
      refl,
      λ c h.
          ap (spec.hash m) (peel-firm (b ∷ ((x ++ 125 ∷ []) ++ c)) (apart b ((x ++ 125 ∷ []) ++ c) s)) ∙ (ap (λ (y : List ℕ). spec.hash m (b ∷ y)) (append_assoc x (125 ∷ []) c) ∙ f c),
    ))
    (λ e. chosen_if (λ (l : Lexed). Braced m l) (d == 0) (λ g. tt) (λ g. tt))

brace-no_name : (c : List ℕ) → Stop in_name (125 ∷ c)
brace-no_name c = (refl, apart 125 c refl)

brace-no_digit : (c : List ℕ) → Stop is_digit (125 ∷ c)
brace-no_digit c = (refl, apart 125 c refl)

length_name-again : (m : Mode) (b : ℕ) (r : List ℕ) → begins_name b ≡ true → Braced m (spec.length_name (piece in_name (b ∷ r)))
unfolding spec.hash
length_name-again m b r e =
    subst (λ (x : List ℕ × List ℕ). Braced m (spec.length_name x)) (sym (begun in_name b r name-ordinary (name-is_name b e)))
    (lengths m b (piece in_name r).0 (piece in_name r).1 (name-is_solid b e)
    (λ c. takes_if (begins_name b) _ _ e ∙ ap spec.length_name (begun-again in_name b r (125 ∷ c) name-ordinary (name-is_name b e) (brace-no_name c))))

length_digits-again : (m : Mode) (b : ℕ) (r : List ℕ) → begins_name b ≡ false → is_digit b ≡ true → Braced m (spec.length_digits (piece is_digit (b ∷ r)))
unfolding spec.hash
length_digits-again m b r f e =
    subst (λ (x : List ℕ × List ℕ). Braced m (spec.length_digits x)) (sym (begun is_digit b r digit-ordinary e))
    (chosen_if (λ (l : Lexed). Braced m l) (spec.positional (b ∷ (piece is_digit r).0))
    (λ k. lengths m b (piece is_digit r).0 (piece is_digit r).1 (digit-is_solid b e)
    (λ c. passes_if (begins_name b) _ _ f ∙ (takes_if (is_digit b) _ _ e ∙ (ap spec.length_digits (begun-again is_digit b r (125 ∷ c) digit-ordinary e (brace-no_digit c))
    ∙ takes_if (spec.positional (b ∷ (piece is_digit r).0)) _ _ k))))
    (λ k. tt))

hash-passes : (m : Mode) (w k : List ℕ) → IsOpText w → spec.hash m (w ++ k) ≡ spec.param_op_at m (35 ∷ []) (w ++ k)
unfolding spec.hash
hash-passes m [] k o = absurd o
hash-passes m (b ∷ w) k o =
    passes_if (begins_name b) _ _ (neither (begins_name b) (is_digit b) (op-no_name b o)).0 ∙ passes_if (is_digit b) _ _ (op-no_digit b o)

hash-again : (m : Mode) (t : List ℕ) → Braced m (spec.hash m t)
unfolding spec.hash spec.in_braces
hash-again m [] = tt
hash-again m (b ∷ r) = let P = λ (l : Lexed). Braced m l in
    chosen_if P (begins_name b) (λ e. length_name-again m b r e) (λ e.
    chosen_if P (is_digit b) (λ f. length_digits-again m b r e f) (λ f.
    named m 35 [] (spec.param_op_at m (35 ∷ []) (b ∷ r)) refl
    (λ w k o. ap (spec.hash m) (solid-peel w k (op-solid w o)) ∙ hash-passes m w k o)
    (op-again m (35 ∷ []) (b ∷ r))))

special_parameter-solid : (b : ℕ) → spec.special_parameter b ≡ true → (b == 92) ≡ false
special_parameter-solid b e = grind arith

braces-again : (m : Mode) (t : List ℕ) → Braced m (spec.in_braces m t)
unfolding spec.in_braces
braces-again m [] = tt
braces-again m (b ∷ r) = let P = λ (l : Lexed). Braced m l in
    chosen_if P (begins_name b) (λ e. name-again m b r e) (λ e.
    chosen_if P (is_digit b) (λ f. digits-again m b r e f) (λ f.
    chosen_if P (b == 35) (λ g. hash-again m (peel r)) (λ g.
    chosen_if P (spec.special_parameter b) (λ h.
    named m b [] (spec.param_op_at m (b ∷ []) (peel r)) (special_parameter-solid b h)
    (λ w k o. passes_if (begins_name b) _ _ e ∙ (passes_if (is_digit b) _ _ f ∙ (passes_if (b == 35) _ _ g ∙ (takes_if (spec.special_parameter b) _ _ h
    ∙ ap (spec.param_op_at m (b ∷ [])) (solid-peel w k (op-solid w o))))))
    (op-again m (b ∷ []) (peel r))) (λ h.
    chosen_if P (b == 0) (λ i. tt) (λ i. tt)))))

-- ---- after `$`, in a word of the mode

abbrev pub Dollar : Mode → Lexed → Type 0
Dollar m (got t r) =
    (w : List ℕ) × (token_text t ≡ 36 ∷ w) × ((c : List ℕ) → Meets m t r c → spec.dollar m (peel (w ++ left t c)) ≡ got t (left t c))
Dollar m (opens t y o) = ⊥
Dollar m done = Unit {0}
Dollar m (bad f) = Unit {0}

braced-dollar : (m : Mode) (l : Lexed) → Braced m l → Dollar m l
unfolding spec.dollar
braced-dollar m (got t r) b = (
  123 ∷ b.0,
  b.1,
  λ c h.
      ap (spec.dollar m) (peel-firm (123 ∷ (b.0 ++ left t c)) (apart 123 (b.0 ++ left t c) refl)) ∙ (ap (spec.in_braces m) (solid-peel b.0 (left t c) b.2) ∙ b.3 c h),
)
braced-dollar m (opens t y o) b = b
braced-dollar m done b = tt
braced-dollar m (bad f) b = tt

pub parenthesis-at : (m : Mode) (d : ℕ) (c : List ℕ) → (d == 92) ≡ false → spec.dollar m (peel (40 ∷ d ∷ c)) ≡ spec.parenthesis m (d ∷ c)
unfolding spec.dollar
parenthesis-at m d c e =
    ap (spec.dollar m) (peel-firm (40 ∷ d ∷ c) (apart 40 (d ∷ c) refl)) ∙ ap (spec.parenthesis m) (peel-firm (d ∷ c) (apart d c e))

parenthesis-again : (m : Mode) (t : List ℕ) → Dollar m (spec.parenthesis m t)
parenthesis-again m [] = (40 ∷ [], refl, λ c h. parenthesis-at m 32 c refl)
parenthesis-again m (b ∷ r) = chosen_if (λ (l : Lexed). Dollar m l) (b == 40)
    (λ e. (40 ∷ 40 ∷ [], refl, λ c h. parenthesis-at m 40 c refl))
    (λ e. (40 ∷ [], refl, λ c h. parenthesis-at m 32 c refl))

-- a byte that doesn't make the `$` a parameter
abbrev IsIdle : ℕ → Type 0
IsIdle b = ((b == 40) ≡ false) × ((b == 123) ≡ false) × (begins_name b ≡ false) × ((is_digit b || spec.special_parameter b || b == 35) ≡ false) × (spec.unknown_parameter b ≡ false)

idle-dollar : (m : Mode) (b : ℕ) (c : List ℕ) → IsIdle b → spec.dollar m (b ∷ c) ≡ spec.alone 36 (b ∷ c)
unfolding spec.dollar
idle-dollar m b c i =
    passes_if (b == 40) _ _ i.0 ∙ (passes_if (b == 123) _ _ i.1 ∙ (passes_if (begins_name b) _ _ i.2 ∙ (passes_if (is_digit b || spec.special_parameter b || b == 35) _ _ i.3 ∙ passes_if (spec.unknown_parameter b) _ _ i.4)))

alone-again : (n m : Mode) (b : ℕ) (c : List ℕ) → IsIdle b → After n b c → spec.dollar m c ≡ spec.alone 36 c
unfolding spec.dollar
alone-again n m b [] i a = refl
alone-again n m b (d ∷ c) i (inl e) = idle-dollar m d c (subst IsIdle (sym e) i)
alone-again n m b (d ∷ c) i (inr e) = idle-dollar m d c (subst IsIdle (sym e.0) (refl, refl, refl, refl, refl))

dollar-nothing : (m : Mode) (c : List ℕ) → IsInWord m → AfterEnd m c → spec.dollar m (peel c) ≡ spec.alone 36 c
unfolding spec.dollar peel
dollar-nothing m [] w a = refl
dollar-nothing m (d ∷ c) w a =
    subst (λ (n : ℕ). spec.dollar m (peel (n ∷ c)) ≡ spec.alone 36 (n ∷ c)) (sym (a w).0) (ap (spec.dollar m) (peel-firm (32 ∷ c) (apart 32 c refl)))

pub dollar-again : (m : Mode) (t : List ℕ) → IsInWord m → inside m ≡ m → Firm t → Dollar m (spec.dollar m t)
unfolding spec.dollar
dollar-again m [] w i f = ([], refl, λ c h. dollar-nothing m c w ((subst (λ (n : Mode). Heads n [] c) i h.0).empty refl))
dollar-again m (b ∷ r) w i f = let P = λ (l : Lexed). Dollar m l in
    chosen_if P (b == 40) (λ e. parenthesis-again m (peel r)) (λ e0.
    chosen_if P (b == 123) (λ e. braced-dollar m (spec.in_braces m (peel r)) (braces-again m (peel r))) (λ e1.
    chosen_if P (begins_name b) (λ e.
    subst (λ (x : List ℕ × List ℕ). Dollar m (spec.value x)) (sym (begun in_name b r name-ordinary (name-is_name b e))) (
      b ∷ (piece in_name r).0,
      refl,
      λ c h.
          ap (spec.dollar m) (peel-firm (b ∷ ((piece in_name r).0 ++ c)) (apart b ((piece in_name r).0 ++ c) (name-is_solid b e)))
          ∙ (passes_if (b == 40) _ _ e0 ∙ (passes_if (b == 123) _ _ e1 ∙ (takes_if (begins_name b) _ _ e
          ∙ ap spec.value (begun-again in_name b r c name-ordinary (name-is_name b e)
          (stops m in_name (piece in_name r).1 c w (λ i. refl) (piece-stops in_name r) (subst (λ (n : Mode). Heads n (piece in_name r).1 c) i h.0)))))),
    )) (λ e2.
    chosen_if P (is_digit b || spec.special_parameter b || b == 35) (λ e.
    let s : (b == 92) ≡ false = grind (arith, e) in (
      b ∷ [],
      refl,
      λ c h.
          ap (spec.dollar m) (peel-firm (b ∷ c) (apart b c s))
          ∙ (passes_if (b == 40) _ _ e0 ∙ (passes_if (b == 123) _ _ e1 ∙ (passes_if (begins_name b) _ _ e2 ∙ takes_if (is_digit b || spec.special_parameter b || b == 35) _ _ e))),
    )) (λ e3.
    chosen_if P (spec.unknown_parameter b) (λ e. tt) (λ e4. (
      [],
      refl,
      λ c h.
          let k = subst (λ (n : Mode). Heads n (b ∷ r) c) i h.0 in
          ap (spec.dollar m) (peel-firm c k.firm) ∙ alone-again m m b c (e0, e1, e2, e3, e4) (after m b r c w f k),
    ))))))
