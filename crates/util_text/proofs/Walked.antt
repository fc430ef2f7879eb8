-- The fields of a line, one after another, and the spans that have their places.
use Rattle.std.proofs.Common.{◌≡◌, ℕ, zero, suc, ◌+◌, ◌^◌, ◌<◌, ◌≤◌, Bool, true, false, cond, List, [], ◌∷◌, ◌++◌, length, refl, sym, ◌∙◌, ap, subst, inl, inr, arith, append-nil, append_assoc}
use Rattle.std.specs.Prelude.{◌&&◌, ◌||◌, ◌==◌, nat_le, Option, Some, None, MatchOption}
use Rattle.std.specs.List.{join_with_byte, list_any}
use Rattle.std.proofs.lemmas.Bool.{cases_lt, le-leb, lt-leb}
use Rattle.util_text.specs.declared.places.Span.{Span}
use Rattle.util_text.specs.Cut.{chosen, field_shown, fields, fields_of_line}
use Rattle.util_text.specs.Parts.{parts, parts_behind}
use Rattle.util_text.specs.Spans.{Reach, in_spans, is_apart}
use Rattle.util_text.proofs.Picked.{in-first, behind-first, before-first}
use Rattle.util_text.proofs.Trims.{apart-parts}

-- ---- a place among spans

parts_of : (place : ℕ) (s : Span) (more spans : List Span) → spans ≡ s ∷ more → Reach place spans → Reach place (s ∷ more)
parts_of place s more spans e r = subst (λ (x : List Span). Reach place x) e r

pub has_last : (place : ℕ) (s : Span) (more spans : List Span) → spans ≡ s ∷ more → Reach place spans → s.high ≡ place → true ≡ in_spans spans place
has_last place s more spans e r h =
    let (a, b, apart) = parts_of place s more spans e r in
    sym (ap (λ (x : List Span). in_spans x place) e ∙ in-first s more place (omega arith) (omega arith))

pub later_last : (place k : ℕ) (s : Span) (more spans : List Span) → spans ≡ s ∷ more → s.high ≡ place → place < k → in_spans more k ≡ in_spans spans k
later_last place k s more spans e h l = sym (ap (λ (x : List Span). in_spans x k) e ∙ behind-first s more k (omega arith))

reach_next : (place high : ℕ) (more : List Span) → high ≡ place → is_apart high more ≡ true → Reach (place + 1) more
reach_next place high [] h apart = tt
reach_next place high (t ∷ more) h apart = let p = apart-parts high t more apart in (omega (arith, p.0, p.1), p.1, p.2)

pub reach_last : (place : ℕ) (s : Span) (more spans : List Span) → spans ≡ s ∷ more → Reach place spans → s.high ≡ place → Reach (place + 1) more
reach_last place s more spans e r h = let (a, b, apart) = parts_of place s more spans e r in reach_next place s.high more h apart

pub has_first : (place : ℕ) (s : Span) (more spans : List Span) → spans ≡ s ∷ more → Reach place spans → nat_le s.low place ≡ in_spans spans place
has_first place s more spans e r =
    let (a, b, apart) = parts_of place s more spans e r in
    elim (cases_lt place s.low) [
      | inl h ↦ lt-leb s.low place h ∙ sym (ap (λ (x : List Span). in_spans x place) e ∙ before-first s more place h b apart)
      | inr h ↦ le-leb s.low place h ∙ sym (ap (λ (x : List Span). in_spans x place) e ∙ in-first s more place h a)
    ]

pub reach_first : (place : ℕ) (s : Span) (more spans : List Span) → spans ≡ s ∷ more → Reach place spans → (s.high ≡ place → ⊥) → Reach (place + 1) spans
reach_first place s more spans e r n =
    let (a, b, apart) = parts_of place s more spans e r in
    subst (λ (x : List Span). Reach (place + 1) x) (sym e) (omega (arith, a, n), b, apart)

pub has_none : (place : ℕ) (spans : List Span) → length spans ≡ 0 → false ≡ in_spans spans place
has_none place [] h = refl
has_none place (s ∷ more) h = absurd (omega arith)

pub reach_none : (place : ℕ) (spans : List Span) → length spans ≡ 0 → Reach place spans
reach_none place [] h = tt
reach_none place (s ∷ more) h = absurd (omega arith)

pub reach_start : (spans : List Span) → is_apart 0 spans ≡ true → Reach 1 spans
reach_start [] apart = tt
reach_start (s ∷ more) apart = let p = apart-parts 0 s more apart in (omega (arith, p.0, p.1), p.1, p.2)

-- ---- fields, joined

-- fields that come behind another, or are the first ones
abbrev pub joined_behind : ℕ → Bool → List (List ℕ) → List ℕ
joined_behind d false xs = join_with_byte d xs
joined_behind d true [] = []
joined_behind d true (x ∷ xs) = d ∷ join_with_byte d (x ∷ xs)

first_joined : (d : ℕ) (x : List ℕ) (xs : List (List ℕ)) → join_with_byte d (x ∷ xs) ≡ x ++ joined_behind d true xs
first_joined d x [] = sym (append-nil x)
first_joined d x (y ∷ xs) = refl

one_joined : (d : ℕ) (c b : Bool) (x : List ℕ) (xs : List (List ℕ)) → joined_behind d b (cond c (x ∷ xs) xs) ≡ field_shown d c b x ++ joined_behind d (b || c) xs
one_joined d true true x xs = ap (λ (u : List ℕ). d ∷ u) (first_joined d x xs)
one_joined d true false x xs = first_joined d x xs
one_joined d false true x xs = refl
one_joined d false false x xs = refl

abbrev pub Agrees : (ℕ → Bool) → List Span → Type 0
Agrees test spans = (place : ℕ) → 0 < place → place ≤ 2 ^ 63 → test place ≡ in_spans spans place

-- one field more
pub field_more : (test : ℕ → Bool) (d place : ℕ) (selected behind : Bool) (field out new whole : List ℕ) (rest more : Option (List ℕ)) (fields : List ℕ) → rest ≡ Some fields → parts (λ b. b == d) fields ≡ field ∷ parts_behind (λ b. b == d) more
    → test place ≡ selected → new ≡ out ++ field_shown d selected behind field → out ++ joined_behind d behind (chosen test place (parts_behind (λ b. b == d) rest)) ≡ whole
    → new ++ joined_behind d (behind || selected) (chosen test (place + 1) (parts_behind (λ b. b == d) more)) ≡ whole
field_more test d place selected behind field out new whole rest more fields is split has written sofar =
    let left = parts_behind (λ b. b == d) more in
    let next : suc place ≡ place + 1 = omega arith in
    ap (λ (u : List ℕ). u ++ joined_behind d (behind || selected) (chosen test (place + 1) left)) written
    ∙ append_assoc out (field_shown d selected behind field) (joined_behind d (behind || selected) (chosen test (place + 1) left))
    ∙ ap (λ (n : ℕ). out ++ (field_shown d selected behind field ++ joined_behind d (behind || selected) (chosen test n left))) (sym next)
    ∙ ap (λ (u : List ℕ). out ++ u) (sym (one_joined d selected behind field (chosen test (suc place) left)))
    ∙ ap (λ (c : Bool). out ++ joined_behind d behind (cond c (field ∷ chosen test (suc place) left) (chosen test (suc place) left))) (sym has)
    ∙ ap (λ (ps : List (List ℕ)). out ++ joined_behind d behind (chosen test place ps)) (sym split)
    ∙ ap (λ (o : Option (List ℕ)). out ++ joined_behind d behind (chosen test place (parts_behind (λ b. b == d) o))) (sym is)
    ∙ sofar

pub fields_done : (test : ℕ → Bool) (d place : ℕ) (behind : Bool) (out whole : List ℕ) (rest : Option (List ℕ)) → rest ≡ None → out ++ joined_behind d behind (chosen test place (parts_behind (λ b. b == d) rest)) ≡ whole → out ≡ whole
fields_done test d place behind out whole rest is sofar =
    none behind ∙ ap (λ (o : Option (List ℕ)). out ++ joined_behind d behind (chosen test place (parts_behind (λ b. b == d) o))) (sym is) ∙ sofar
  where
    none : (b : Bool) → out ≡ out ++ joined_behind d b []
    none true = sym (append-nil out)
    none false = sym (append-nil out)

-- ---- how much is left

-- the place of the first field that is left is not far behind what was read
abbrev pub Within : ℕ → ℕ → Option (List ℕ) → Type 0
Within len place None = place ≤ len + 2
Within len place (Some fields) = place + length fields ≤ len + 1

pub within_next : (len place : ℕ) (rest more : Option (List ℕ)) (fields : List ℕ) → rest ≡ Some fields → Within len place rest → MatchOption more (Unit {0}) (λ r. length r < length fields) → Within len (place + 1) more
within_next len place rest None fields is w h = let k : Within len place (Some fields) = subst (λ (o : Option (List ℕ)). Within len place o) is w in omega (arith, k)
within_next len place rest (Some r) fields is w h = let k : Within len place (Some fields) = subst (λ (o : Option (List ℕ)). Within len place o) is w in omega (arith, k, h)

pub within_here : (len place : ℕ) (rest : Option (List ℕ)) (fields : List ℕ) → rest ≡ Some fields → Within len place rest → place ≤ len + 1
within_here len place rest fields is w = let k : Within len place (Some fields) = subst (λ (o : Option (List ℕ)). Within len place o) is w in omega (arith, k)

abbrev pub fields_len : Option (List ℕ) → ℕ
fields_len None = 0
fields_len (Some fields) = length fields + 1

pub fields_less : (rest more : Option (List ℕ)) (fields : List ℕ) → rest ≡ Some fields → MatchOption more (Unit {0}) (λ r. length r < length fields) → fields_len more < fields_len rest
fields_less rest None fields is h = let e : fields_len rest ≡ length fields + 1 = ap fields_len is in omega (arith, e)
fields_less rest (Some r) fields is h = let e : fields_len rest ≡ length fields + 1 = ap fields_len is in omega (arith, e, h)

-- ---- a line

abbrev picked : (ℕ → Bool) → ℕ → List ℕ → List ℕ
picked test d line = join_with_byte d (chosen test 1 (fields d line))

pub line_cut : (test : ℕ → Bool) (d : ℕ) (only : Bool) (line old out new : List ℕ) → true ≡ list_any (λ b. b == d) line → out ≡ old ++ join_with_byte d (chosen test 1 (fields d line)) → new ≡ out ++ 10 ∷ []
    → new ≡ old ++ fields_of_line test d only line
line_cut test d only line old out new has written ended =
    ended
    ∙ ap (λ (u : List ℕ). u ++ 10 ∷ []) written
    ∙ append_assoc old (picked test d line) (10 ∷ [])
    ∙ ap (λ (c : Bool). old ++ cond c (picked test d line ++ 10 ∷ []) (cond only [] (line ++ 10 ∷ []))) has

pub line_gone : (test : ℕ → Bool) (d : ℕ) (only : Bool) (line old : List ℕ) → false ≡ list_any (λ b. b == d) line → only ≡ true → old ≡ old ++ fields_of_line test d only line
line_gone test d only line old none o =
    sym (append-nil old)
    ∙ ap (λ (c : Bool). old ++ cond c [] (line ++ 10 ∷ [])) (sym o)
    ∙ ap (λ (c : Bool). old ++ cond c (picked test d line ++ 10 ∷ []) (cond only [] (line ++ 10 ∷ []))) none

pub line_whole : (test : ℕ → Bool) (d : ℕ) (only : Bool) (line old new : List ℕ) → false ≡ list_any (λ b. b == d) line → only ≡ false → new ≡ old ++ (line ++ 10 ∷ []) → new ≡ old ++ fields_of_line test d only line
line_whole test d only line old new none o written =
    written
    ∙ ap (λ (c : Bool). old ++ cond c [] (line ++ 10 ∷ [])) (sym o)
    ∙ ap (λ (c : Bool). old ++ cond c (picked test d line ++ 10 ∷ []) (cond only [] (line ++ 10 ∷ []))) none
