-- Which lists begin in parts, and which redirections wait for them.
use Rattle.std.proofs.Common.{◌≡◌, ℕ, ◌<◌, ◌≤◌, Bool, true, false, not, ◌&&◌, List, [], ◌∷◌, ◌++◌, length, Option, Some, None, refl, ap, sym, ◌∙◌, subst, ◌⊎◌, inl, inr, arith, append_assoc, length-append}
use Rattle.std.specs.Prelude.{nat_lt}
use Rattle.std.proofs.lemmas.Bool.{ltb-true, lt-ltb, eqb-true}
use Rattle.std.proofs.lemmas.List.{length-set}
use Rattle.sh_syntax.specs.declared.tree.Part.{Part, out-Part}
use Rattle.sh_syntax.specs.declared.tree.Part.TheVariants as part
use Rattle.sh_syntax.specs.declared.tree.Part.TheOpen as open_part
use Rattle.sh_syntax.specs.declared.tree.Part.TheOpen.{Part-F}
use Rattle.sh_syntax.specs.declared.tree.Part.TheViews.{outs-Plain}
use Rattle.sh_syntax.specs.declared.tree.ParamOp.TheVariants as param_op
use Rattle.sh_syntax.specs.declared.tree.AndOr.{AndOr}
use Rattle.sh_syntax.specs.declared.tree.Word.{Word}
use Rattle.sh_syntax.specs.declared.tree.Redir.{Redir}
use Rattle.sh_syntax.specs.Trees.{word}
use Rattle.sh_lexer.specs.declared.token.Token.{Token}
use Rattle.sh_lexer.specs.declared.token.Bit.{Bit}
use Rattle.sh_lexer.specs.declared.token.Bit.TheVariants as bit
use Rattle.sh_grammar.specs.declared.state.Draft.{Draft}
use Rattle.sh_grammar.specs.Draft.{next_list, begin_list, end_list}
use Rattle.sh_grammar.specs.Grammar as g
use Rattle.sh_grammar.specs.Grammar.{Parts, NotEmpty, part_of, param_of}
use Rattle.sh_spell.specs.Scripts.{or_first, part_list, parts_list, word_list, is_backslash, lone_of, is_lone, ends_lone, is_sooner, goes_first, going, waiting}
use Rattle.sh_spell.proofs.Cases.{takes_if, passes_if, both}
use Rattle.sh_spell.proofs.Frame as frame
use Rattle.sh_spell.proofs.Frame.{Extends}
use Rattle.sh_spell.proofs.Folds.{list-plain, list-single, list-escaped, list-command, list-double, list-arith, list-param}

pub nil-right : {A : Type 0} (xs : List A) → xs ≡ xs ++ []
nil-right [] = refl
nil-right (x ∷ xs) = ap (λ ys. x ∷ ys) (nil-right xs)

-- ---- the first list of parts that are read

-- Between the drafts no list begins, or the first one has the next number.
abbrev pub Begins : Draft → Draft → Option ℕ → Type 0
Begins s t o = ((o ≡ None) × (t ≡ s)) ⊎ ((o ≡ Some (next_list s)) × (next_list s < next_list t))

pub begins-below : {s t : Draft} {o : Option ℕ} → Begins s t o → next_list s ≤ next_list t
begins-below {s} {t} (inl b) = let e : next_list t ≡ next_list s = ap next_list b.1 in omega (arith, e)
begins-below (inr b) = let e = b.1 in omega (arith, e)

-- where two things follow one another
both-begin : (s t u : Draft) (o p : Option ℕ) → Begins s t o → Begins t u p → Begins s u (or_first o p)
both-begin s t u o p (inl b) (inl c) = inl (ap (λ (q : Option ℕ). or_first q p) b.0 ∙ c.0, c.1 ∙ b.1)
both-begin s t u o p (inl b) (inr c) =
    let e : next_list t ≡ next_list s = ap next_list b.1 in
    let h = c.1 in inr (ap (λ (q : Option ℕ). or_first q p) b.0 ∙ (c.0 ∙ ap Some e), omega (arith, e, h))
both-begin s t u o p (inr b) c = let h = b.1 in let k = begins-below c in inr (ap (λ (q : Option ℕ). or_first q p) b.0, omega (arith, h, k))

bit-none : (b : Bit) → part_list (part_of b) ≡ None
bit-none (bit.Piece x) = list-plain x
bit-none (bit.Sum x n) = list-plain x
bit-none (bit.Escaped b) = list-escaped b
bit-none (bit.Single x) = list-single x
bit-none (bit.Value x) = list-param x param_op.Value false None

param-none : (x : List ℕ) (l : Bool) → part_list (param_of x l) ≡ None
param-none x true = list-param x param_op.Length false None
param-none x false = list-param x param_op.Value false None

length-list : (t : Draft) (n : ℕ) (is : List AndOr) → next_list (end_list n is t) ≡ next_list t
length-list t n is = length-set t.script.lists n _

-- a list that begins and ends
one-list : (s t : Draft) (is : List AndOr) → Extends (begin_list s) t → Begins s (end_list (next_list s) is t) (Some (next_list s))
one-list s t is e = inr (refl, omega (arith, e.lists.longer, length-append s.script.lists (record { items = [] } ∷ []), length-list t (next_list s) is))

-- The parts that were put behind those before, and what begins in them.
abbrev Found : Draft → Draft → List Part → List Part → Type 0
Found s t ps qs = (new : List Part) × (qs ≡ ps ++ new) × Begins s t (parts_list new)

found : (s t u : Draft) (ps qs : List Part) (q : Part) (o : Option ℕ) → part_list q ≡ o → Begins s t o → Found t u (ps ++ q ∷ []) qs → Found s u ps qs
found s t u ps qs q o e b f = (
  q ∷ f.0,
  f.1 ∙ append_assoc ps (q ∷ []) f.0,
  subst (λ (p : Option ℕ). Begins s u (or_first p (parts_list f.0))) (sym e) (both-begin s t u o (parts_list f.0) b f.2),
)

-- the parts inside one
found-inner : (s t : Draft) (inner : List Part) → Found s t [] inner → Begins s t (parts_list inner)
found-inner s t inner f = subst (λ (l : List Part). Begins s t (parts_list l)) (sym f.1) f.2

found-in : {d : ℕ} {s t : Draft} {ps qs : List Part} {ts rest : List Token} → Parts d s ps ts rest qs t → Found s t ps qs
found-in (g.parts_end {ps = ps}) = ([], nil-right ps, inl (refl, refl))
found-in (g.one_bit {s = s} {s' = u} {ps = ps} {qs = qs} {b = b} r) = found s s u ps qs (part_of b) None (bit-none b) (inl (refl, refl)) (found-in r)
found-in (g.param {s = s} {s' = u} {ps = ps} {qs = qs} {x = x} {l = l} r) = found s s u ps qs (param_of x l) None (param-none x l) (inl (refl, refl)) (found-in r)
found-in (g.double {s = s} {t = t} {s' = u} {ps = ps} {qs = qs} {inner = inner} p r) =
    found s t u ps qs (part.Double inner) (parts_list inner) (list-double inner) (found-inner s t inner (found-in p)) (found-in r)
found-in (g.braces {s = s} {t = t} {s' = u} {ps = ps} {qs = qs} {inner = inner} {x = x} {o = o} {c = c} p r) =
    found s t u ps qs (part.Param x o c (Some (word inner))) (parts_list inner) (list-param x o c (Some (word inner))) (found-inner s t inner (found-in p)) (found-in r)
found-in (g.arith {s = s} {t = t} {s' = u} {ps = ps} {qs = qs} {inner = inner} p r) =
    found s t u ps qs (part.Arith (word inner)) (parts_list inner) (list-arith (word inner)) (found-inner s t inner (found-in p)) (found-in r)
found-in (g.substitution {s = s} {t = t} {s' = u} {ps = ps} {qs = qs} {is = is} l r) =
    found s (end_list (next_list s) is t) u ps qs (part.Command (next_list s)) (Some (next_list s)) (list-command (next_list s)) (one-list s t is (frame.may_be_list l)) (found-in r)
found-in (g.backquotes {s = s} {t = t} {s' = u} {ps = ps} {qs = qs} {is = is} l r) =
    found s (end_list (next_list s) is t) u ps qs (part.Command (next_list s)) (Some (next_list s)) (list-command (next_list s)) (one-list s t is (frame.may_be_list l)) (found-in r)

pub begins-in : {d : ℕ} {s t : Draft} {ps : List Part} {ts rest : List Token} → Parts d s [] ts rest ps t → Begins s t (parts_list ps)
begins-in {s = s} {t = t} {ps = ps} p = found-inner s t ps (found-in p)

-- Parts in which no list begins may stand elsewhere.
pub moved : {d : ℕ} {s t : Draft} {ps qs : List Part} {ts rest : List Token} → Parts d s ps ts rest qs t → length t.script.lists ≤ length s.script.lists → (u : Draft) → Parts d u ps ts rest qs u
moved g.parts_end h u = g.parts_end
moved (g.one_bit {b = b} r) h u = g.one_bit {b = b} (moved r h u)
moved (g.param r) h u = g.param (moved r h u)
moved (g.double q r) h u = let a = (frame.parts q).lists.longer in let b = (frame.parts r).lists.longer in g.double (moved q (omega (arith, a, b, h)) u) (moved r (omega (arith, a, b, h)) u)
moved (g.braces q r) h u = let a = (frame.parts q).lists.longer in let b = (frame.parts r).lists.longer in g.braces (moved q (omega (arith, a, b, h)) u) (moved r (omega (arith, a, b, h)) u)
moved (g.arith q r) h u = let a = (frame.parts q).lists.longer in let b = (frame.parts r).lists.longer in g.arith (moved q (omega (arith, a, b, h)) u) (moved r (omega (arith, a, b, h)) u)
moved (g.substitution {s = s} {t = t} {is = is} l r) h u =
    let a = (frame.may_be_list l).lists.longer in let b = (frame.parts r).lists.longer in absurd (omega (arith, a, b, h, length-append s.script.lists (record { items = [] } ∷ []), length-list t (next_list s) is))
moved (g.backquotes {s = s} {t = t} {is = is} l r) h u =
    let a = (frame.may_be_list l).lists.longer in let b = (frame.parts r).lists.longer in absurd (omega (arith, a, b, h, length-append s.script.lists (record { items = [] } ∷ []), length-list t (next_list s) is))

pub same-length : (s t : Draft) → t ≡ s → length t.script.lists ≤ length s.script.lists
same-length s t e = let h : next_list t ≡ next_list s = ap next_list e in omega (arith, h)

-- ---- lists that are left

-- The first list, if there is one, is the next one or one behind it.
abbrev pub Least : Draft → Option ℕ → Type 0
Least s None = Unit {0}
Least s (Some n) = next_list s ≤ n

pub least-lower : (s t : Draft) (o : Option ℕ) → next_list s ≤ next_list t → Least t o → Least s o
least-lower s t None h l = tt
least-lower s t (Some n) h l = omega (arith, h, l)

pub least-or : (s t : Draft) (o p : Option ℕ) → Begins s t o → Least t p → Least s (or_first o p)
least-or s t o p (inl b) l = subst (λ (q : Option ℕ). Least s (or_first q p)) (sym b.0) (least-lower s t p (begins-below {s = s} {t = t} {o = o} (inl b)) l)
least-or s t o p (inr b) l = subst (λ (q : Option ℕ). Least s (or_first q p)) (sym b.0) (let h : next_list s ≤ next_list s = omega arith in h)

sooner-left : (s t : Draft) (o p : Option ℕ) → Begins s t o → Least t p → is_sooner o p ≡ true
sooner-left s t o p (inl b) l = ap (λ (q : Option ℕ). is_sooner q p) b.0
sooner-left s t o None (inr b) l = ap (λ (q : Option ℕ). is_sooner q None) b.0
sooner-left s t o (Some n) (inr b) l = let h = b.1 in ap (λ (q : Option ℕ). is_sooner q (Some n)) b.0 ∙ lt-ltb (next_list s) n (omega (arith, h, l))

conj : (a b : Bool) → a ≡ true → b ≡ true → (a && b) ≡ true
conj true b e f = f
conj false b e f = absurd cc

-- A redirection that doesn't end in a backslash stands before what was behind it.
pub goes-before : (s t : Draft) (r : Redir) (p : Option ℕ) → ends_lone r.word.parts ≡ false → Begins s t (word_list r.word) → Least t p → goes_first p r ≡ true
goes-before s t r p e b l = conj (not (ends_lone r.word.parts)) (is_sooner (word_list r.word) p) (ap not e) (sooner-left s t (word_list r.word) p b l)

-- One that does waits.
pub lone-waits : (r : Redir) (p : Option ℕ) → ends_lone r.word.parts ≡ true → goes_first p r ≡ false
lone-waits r p e = ap (λ (b : Bool). not b && is_sooner (word_list r.word) p) e

sooner-later : (n : ℕ) (o p : Option ℕ) → ((k : ℕ) → p ≡ Some k → n ≤ k) → is_sooner o (Some n) ≡ true → is_sooner o p ≡ true
sooner-later n None p h e = refl
sooner-later n (Some k) None h e = refl
sooner-later n (Some k) (Some m) h e = let a = ltb-true k n e in let b = h m refl in lt-ltb k m (omega (arith, a, b))

goes-later : (n : ℕ) (p : Option ℕ) → ((k : ℕ) → p ≡ Some k → n ≤ k) → (r : Redir) → goes_first (Some n) r ≡ true → goes_first p r ≡ true
goes-later n p h r e =
    let k = both (not (ends_lone r.word.parts)) (is_sooner (word_list r.word) (Some n)) e in
    conj (not (ends_lone r.word.parts)) (is_sooner (word_list r.word) p) k.0 (sooner-later n (word_list r.word) p h k.1)

some-same : (m k : ℕ) → Some m ≡ Some k → m ≡ k
some-same m k e = cc

least-at : (t : Draft) (n : ℕ) (p : Option ℕ) → n ≤ next_list t → Least t p → (k : ℕ) → p ≡ Some k → n ≤ k
least-at t n None h l k e = absurd cc
least-at t n (Some m) h l k e = let q : m ≡ k = some-same m k e in omega (arith, h, l, q)

-- ---- redirections in front, and those that wait

pub going-more : (o : Option ℕ) (r : Redir) (rs : List Redir) → goes_first o r ≡ true → going o (r ∷ rs) ≡ r ∷ going o rs
going-more o r rs e = takes_if (goes_first o r) (r ∷ going o rs) [] e

pub waiting-more : (o : Option ℕ) (r : Redir) (rs : List Redir) → goes_first o r ≡ true → waiting o (r ∷ rs) ≡ waiting o rs
waiting-more o r rs e = takes_if (goes_first o r) (waiting o rs) (r ∷ rs) e

pub going-none : (o : Option ℕ) (r : Redir) (rs : List Redir) → goes_first o r ≡ false → going o (r ∷ rs) ≡ []
going-none o r rs e = passes_if (goes_first o r) (r ∷ going o rs) [] e

pub waiting-all : (o : Option ℕ) (r : Redir) (rs : List Redir) → goes_first o r ≡ false → waiting o (r ∷ rs) ≡ r ∷ rs
waiting-all o r rs e = passes_if (goes_first o r) (waiting o rs) (r ∷ rs) e

parted-at : (o : Option ℕ) (r : Redir) (rs : List Redir) (v : Bool) → goes_first o r ≡ v → going o rs ++ waiting o rs ≡ rs → going o (r ∷ rs) ++ waiting o (r ∷ rs) ≡ r ∷ rs
parted-at o r rs true e h =
    ap (λ (z : List Redir). z ++ waiting o (r ∷ rs)) (going-more o r rs e) ∙ (ap (λ (z : List Redir). (r ∷ going o rs) ++ z) (waiting-more o r rs e) ∙ ap (λ (z : List Redir). r ∷ z) h)
parted-at o r rs false e h = ap (λ (z : List Redir). z ++ waiting o (r ∷ rs)) (going-none o r rs e) ∙ waiting-all o r rs e

pub parted : (o : Option ℕ) (rs : List Redir) → going o rs ++ waiting o rs ≡ rs
parted o [] = refl
parted o (r ∷ rs) = parted-at o r rs (goes_first o r) refl (parted o rs)

-- What waits goes on to wait.
abbrev pub Settled : Option ℕ → List Redir → Type 0
Settled o rs = (going o (waiting o rs) ≡ []) × (waiting o (waiting o rs) ≡ waiting o rs)

settled-at : (o : Option ℕ) (r : Redir) (rs : List Redir) (v : Bool) → goes_first o r ≡ v → Settled o rs → Settled o (r ∷ rs)
settled-at o r rs true e h = subst (λ (z : List Redir). (going o z ≡ []) × (waiting o z ≡ z)) (sym (waiting-more o r rs e)) h
settled-at o r rs false e h = subst (λ (z : List Redir). (going o z ≡ []) × (waiting o z ≡ z)) (sym (waiting-all o r rs e)) (going-none o r rs e, waiting-all o r rs e)

pub settled : (o : Option ℕ) (rs : List Redir) → Settled o rs
settled o [] = (refl, refl)
settled o (r ∷ rs) = settled-at o r rs (goes_first o r) refl (settled o rs)

-- Fewer stand in front of p than of o.
abbrev pub Fewer : Option ℕ → Option ℕ → Type 0
Fewer p o = (r : Redir) → goes_first p r ≡ true → goes_first o r ≡ true

abbrev pub Split : Option ℕ → Option ℕ → List Redir → Type 0
Split p o rs = (going o rs ≡ going p rs ++ going o (waiting p rs)) × (waiting o rs ≡ waiting o (waiting p rs))

split-at : (p o : Option ℕ) (r : Redir) (rs : List Redir) (v : Bool) → goes_first p r ≡ v → Fewer p o → Split p o rs → Split p o (r ∷ rs)
split-at p o r rs true e f h =
    let k = f r e in (
      going-more o r rs k ∙ (ap (λ (z : List Redir). r ∷ z) h.0
          ∙ sym (ap (λ (z : List Redir). z ++ going o (waiting p (r ∷ rs))) (going-more p r rs e) ∙ ap (λ (z : List Redir). (r ∷ going p rs) ++ going o z) (waiting-more p r rs e))),
      waiting-more o r rs k ∙ (h.1 ∙ sym (ap (waiting o) (waiting-more p r rs e))),
    )
split-at p o r rs false e f h = (
  sym (ap (λ (z : List Redir). z ++ going o (waiting p (r ∷ rs))) (going-none p r rs e) ∙ ap (going o) (waiting-all p r rs e)),
  sym (ap (waiting o) (waiting-all p r rs e)),
)

pub split : (p o : Option ℕ) (rs : List Redir) → Fewer p o → Split p o rs
split p o [] f = (refl, refl)
split p o (r ∷ rs) f = split-at p o r rs (goes_first p r) refl f (split p o rs f)

-- the same, of those in front alone
abbrev pub Through : Option ℕ → Option ℕ → List Redir → Type 0
Through p o rs = (going p (going o rs) ≡ going p rs) × (waiting p (going o rs) ≡ going o (waiting p rs))

through-at : (p o : Option ℕ) (r : Redir) (rs : List Redir) (v w : Bool) → goes_first p r ≡ v → goes_first o r ≡ w → Fewer p o → Through p o rs → Through p o (r ∷ rs)
through-at p o r rs true w e k f h =
    let j = f r e in (
      ap (going p) (going-more o r rs j) ∙ (going-more p r (going o rs) e ∙ (ap (λ (z : List Redir). r ∷ z) h.0 ∙ sym (going-more p r rs e))),
      ap (waiting p) (going-more o r rs j) ∙ (waiting-more p r (going o rs) e ∙ (h.1 ∙ sym (ap (going o) (waiting-more p r rs e)))),
    )
through-at p o r rs false true e k f h = (
  ap (going p) (going-more o r rs k) ∙ (going-none p r (going o rs) e ∙ sym (going-none p r rs e)),
  ap (waiting p) (going-more o r rs k) ∙ (waiting-all p r (going o rs) e ∙ sym (ap (going o) (waiting-all p r rs e) ∙ going-more o r rs k)),
)
through-at p o r rs false false e k f h = (
  ap (going p) (going-none o r rs k) ∙ sym (going-none p r rs e),
  ap (waiting p) (going-none o r rs k) ∙ sym (ap (going o) (waiting-all p r rs e) ∙ going-none o r rs k),
)

pub through : (p o : Option ℕ) (rs : List Redir) → Fewer p o → Through p o rs
through p o [] f = (refl, refl)
through p o (r ∷ rs) f = through-at p o r rs (goes_first p r) (goes_first o r) refl refl f (through p o rs f)

-- where p is the next list, and o the first one behind it
pub fewer-next : (s t : Draft) (o : Option ℕ) → next_list s ≤ next_list t → Least t o → Fewer (Some (next_list s)) o
fewer-next s t o h l = goes-later (next_list s) o (least-at t (next_list s) o h l)

-- What stands before the next list has none.
pub next-none : (s t : Draft) (r : Redir) (n : ℕ) → n ≤ next_list s → Begins s t (word_list r.word) → goes_first (Some n) r ≡ true → (word_list r.word ≡ None) × (t ≡ s)
next-none s t r n h (inl b) e = b
next-none s t r n h (inr b) e =
    let k = (both (not (ends_lone r.word.parts)) (is_sooner (word_list r.word) (Some n)) e).1 in
    let j : nat_lt (next_list s) n ≡ true = sym (ap (λ (q : Option ℕ). is_sooner q (Some n)) b.0) ∙ k in
    let i = ltb-true (next_list s) n j in absurd (omega (arith, i, h))

-- ---- backslashes at the end of parts

pub ends-last : (ps : List Part) (q : Part) → ends_lone (ps ++ q ∷ []) ≡ is_lone q
ends-last [] q = refl
ends-last (p ∷ []) q = refl
ends-last (p ∷ r ∷ ps) q = ends-last (r ∷ ps) q

backslash-is : (x : List ℕ) → is_backslash x ≡ true → x ≡ 92 ∷ []
backslash-is [] e = absurd cc
backslash-is (b ∷ []) e = ap (λ (n : ℕ). n ∷ []) (eqb-true b 92 e)
backslash-is (b ∷ c ∷ x) e = absurd cc

pub plain-lone : (ps : List Part) (x : List ℕ) → ends_lone (ps ++ part.Plain x ∷ []) ≡ true → x ≡ 92 ∷ []
plain-lone ps x e = backslash-is x (sym (ends-last ps (part.Plain x) ∙ ap lone_of (outs-Plain x)) ∙ e)

pub lone-plain : (ps : List Part) (x : List ℕ) → x ≡ 92 ∷ [] → ends_lone (ps ++ part.Plain x ∷ []) ≡ true
lone-plain ps x e = ends-last ps (part.Plain x) ∙ (ap lone_of (outs-Plain x) ∙ ap is_backslash e)

abbrev pub NotPlain : Part-F Part Word → Type 0
NotPlain (open_part.Plain x) = ⊥
NotPlain o = Unit {0}

not-lone-of : (o : Part-F Part Word) → NotPlain o → lone_of o ≡ false
not-lone-of (open_part.Plain x) n = absurd n
not-lone-of (open_part.Single x) n = refl
not-lone-of (open_part.Escaped b) n = refl
not-lone-of (open_part.Double ps) n = refl
not-lone-of (open_part.Param x o c w) n = refl
not-lone-of (open_part.Command m) n = refl
not-lone-of (open_part.Arith w) n = refl

pub not-lone : (ps : List Part) (q : Part) (o : Part-F Part Word) → out-Part q ≡ o → NotPlain o → ends_lone (ps ++ q ∷ []) ≡ true → ⊥
not-lone ps q o e n h = let k : true ≡ false = sym h ∙ (ends-last ps q ∙ (ap lone_of e ∙ not-lone-of o n)) in cc
