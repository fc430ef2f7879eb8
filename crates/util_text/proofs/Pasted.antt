-- Joined lines, and rows of columns.
use Rattle.std.proofs.Common.{◌≡◌, ℕ, zero, suc, ◌+◌, ◌<◌, ◌≤◌, Bool, true, false, List, [], ◌∷◌, ◌++◌, length, map, drop, refl, sym, ap, ◌∙◌, arith, append_assoc, append-nil, length-drop, subst, get_or, set}
use Rattle.std.proofs.lemmas.Bool.{eqb-true}
use Rattle.std.proofs.lemmas.List.{drop_all, drop_more, length_push}
use Rattle.std.specs.Prelude.{Option, Some, None, ◌==◌, if◌then◌else◌}
use Rattle.memchr.specs.Find.{Nowhere, Passes, is_byte}
use Rattle.util_text.proofs.Pieces.{lines_missing}
use Rattle.util_text.specs.Lines.{lines, onto}
use Rattle.util_text.specs.Paste.{before, cell, cells, column_left, delimiters_from, delimiters_of, have_ended, has_none, input_left, joined, next, one_line, own_count, row_left, rows}
use Rattle.util_text.specs.Sequences.{with_first}
use Rattle.util_text.specs.declared.column.Column.{Column}
use Rattle.util_text.specs.declared.column.Column.TheVariants.{File, Input}

-- ---- joined lines, one after another

pub part_step : (ds : List (Option ℕ)) (n : ℕ) (line : List ℕ) (more : List (List ℕ)) (out one two whole : List ℕ) → one ≡ out ++ before ds n → two ≡ one ++ line
    → out ++ joined ds n (line ∷ more) ≡ whole → two ++ joined ds (n + 1) more ≡ whole
part_step ds n line more out one two whole first second is =
    let next : n + 1 ≡ suc n = omega arith in
    let j = joined ds (suc n) more in
    ap (λ (k : ℕ). two ++ joined ds k more) next
    ∙ ap (λ (u : List ℕ). u ++ j) (second ∙ ap (λ (u : List ℕ). u ++ line) first)
    ∙ append_assoc (out ++ before ds n) line j
    ∙ append_assoc out (before ds n) (line ++ j)
    ∙ is

pub parts_end : (ds : List (Option ℕ)) (parts : List (List ℕ)) (old out new : List ℕ) → out ++ [] ≡ old ++ joined ds 0 parts → new ≡ out ++ 10 ∷ [] → new ≡ old ++ one_line ds parts
parts_end ds parts old out new is end =
    end
    ∙ ap (λ (u : List ℕ). u ++ 10 ∷ []) (sym (append-nil out) ∙ is)
    ∙ append_assoc old (joined ds 0 parts) (10 ∷ [])

-- ---- the cells of a row, one after another

-- the first items made so
abbrev pub front : {X : Type 0} → (X → X) → ℕ → List X → List X
front f zero xs = xs
front f (suc n) [] = []
front f (suc n) (x ∷ xs) = f x ∷ front f n xs

pub front_all : {X : Type 0} (f : X → X) (n : ℕ) (xs : List X) → length xs ≤ n → front f n xs ≡ map f xs
front_all f zero [] h = refl
front_all f zero (x ∷ xs) h = absurd (omega arith)
front_all f (suc n) [] h = refl
front_all {X} f (suc n) (x ∷ xs) h = ap (λ (ys : List X). f x ∷ ys) (front_all f n xs (omega (arith, h)))

pub front_at : {X : Type 0} (f : X → X) (n : ℕ) (xs : List X) (d : X) → get_or (front f n xs) n d ≡ get_or xs n d
front_at f zero xs d = refl
front_at f (suc n) [] d = refl
front_at f (suc n) (x ∷ xs) d = front_at f n xs d

front_next : {X : Type 0} (f : X → X) (n : ℕ) (xs : List X) (x y : X) → n < length xs → x ≡ get_or xs n x → y ≡ f x → set (front f n xs) n y ≡ front f (suc n) xs
front_next f n [] x y h at is = absurd (omega (arith, h))
front_next {X} f zero (z ∷ xs) x y h at is = ap (λ (v : X). v ∷ xs) (is ∙ ap f at)
front_next {X} f (suc n) (z ∷ xs) x y h at is = ap (λ (vs : List X). f z ∷ vs) (front_next f n xs x y (omega (arith, h)) at is)

pub front_step : {X : Type 0} (f : X → X) (n : ℕ) (xs ys : List X) (x y : X) → n < length xs → x ≡ get_or xs n x → y ≡ f x → ys ≡ front f n xs → set ys n y ≡ front f (n + 1) xs
front_step {X} f n xs ys x y h at is front_is =
    let next : suc n ≡ n + 1 = omega arith in
    ap (λ (vs : List X). set vs n y) front_is ∙ front_next f n xs x y h at is ∙ ap (λ (k : ℕ). front f k xs) next

-- the item at hand
pub rest_from : {X : Type 0} (xs : List X) (n : ℕ) (x : X) → n < length xs → x ≡ get_or xs n x → drop n xs ≡ x ∷ drop (n + 1) xs
rest_from {X} xs n x h at = drop_more xs n x h ∙ ap (λ (v : X). v ∷ drop (n + 1) xs) (sym at)

pub left_step : (column : Column) (columns rest : List Column) (input left whole : List (List ℕ)) → columns ≡ column ∷ rest → left ≡ input_left column input → row_left columns input ≡ whole → row_left rest left ≡ whole
left_step column columns rest input left whole d l is = ap (λ (ls : List (List ℕ)). row_left rest ls) l ∙ ap (λ (cs : List Column). row_left cs input) (sym d) ∙ is

pub cell_step : (ds : List (Option ℕ)) (n : ℕ) (column : Column) (columns rest : List Column) (input left : List (List ℕ)) (out one two whole : List ℕ) → columns ≡ column ∷ rest → left ≡ input_left column input
    → one ≡ out ++ before ds n → two ≡ one ++ cell column input → out ++ joined ds n (cells columns input) ≡ whole → two ++ joined ds (n + 1) (cells rest left) ≡ whole
cell_step ds n column columns rest input left out one two whole d l first second is =
    ap (λ (ls : List (List ℕ)). two ++ joined ds (n + 1) (cells rest ls)) l
    ∙ part_step ds n (cell column input) (cells rest (input_left column input)) out one two whole first second (ap (λ (cs : List Column). out ++ joined ds n (cells cs input)) (sym d) ∙ is)

-- ---- rows

none_gained : (columns : List Column) (input : List (List ℕ)) → own_count (map column_left columns) + length (row_left columns input) ≤ own_count columns + length input
none_gained [] input = omega arith
none_gained (Input ∷ columns) input = omega (arith, none_gained columns (drop 1 input), length-drop 1 input)
none_gained (File own ∷ columns) input = omega (arith, none_gained columns input, length-drop 1 own)

-- A row takes a line.
pub row_takes : (columns : List Column) (input : List (List ℕ)) → have_ended columns input ≡ false → own_count (map column_left columns) + length (row_left columns input) < own_count columns + length input
row_takes [] input e = cc
row_takes (Input ∷ columns) [] e = row_takes columns [] e
row_takes (Input ∷ columns) (line ∷ input) e = omega (arith, none_gained columns input)
row_takes (File [] ∷ columns) input e = omega (arith, row_takes columns input e)
row_takes (File (line ∷ own) ∷ columns) input e = omega (arith, none_gained columns input)

pub rows_smaller : (columns left : List Column) (input more : List (List ℕ)) → have_ended columns input ≡ false → left ≡ map column_left columns → more ≡ row_left columns input
    → own_count left + length more < own_count columns + length input
rows_smaller columns left input more e el em = omega (arith, row_takes columns input e, ap own_count el, ap (λ (ls : List (List ℕ)). length ls) em)

-- Rows from here on, for which so many are enough, are what is left of the whole.
pub record Going (ds : List (Option ℕ)) (columns : List Column) (input : List (List ℕ)) (out whole : List ℕ) : Type 0 where
  pub most : ℕ
  pub enough : own_count columns + length input ≤ most
  pub is : out ++ rows ds most columns input ≡ whole

rows_by : (ds : List (Option ℕ)) (most : ℕ) (columns : List Column) (input : List (List ℕ)) (out whole new : List ℕ) → have_ended columns input ≡ false → own_count columns + length input ≤ most
    → new ≡ out ++ one_line ds (cells columns input) → out ++ rows ds most columns input ≡ whole → Going ds (map column_left columns) (row_left columns input) new whole
rows_by ds zero columns input out whole new e enough row is = absurd (omega (arith, row_takes columns input e))
rows_by ds (suc most) columns input out whole new e enough row is =
    let rest = rows ds most (map column_left columns) (row_left columns input) in
    let line = one_line ds (cells columns input) in
    record {
      most = most;
      enough = omega (arith, row_takes columns input e);
      is = ap (λ (u : List ℕ). u ++ rest) row ∙ append_assoc out line rest ∙ ap (λ (b : Bool). out ++ (if b then [] else line ++ rest)) (sym e) ∙ is;
    }

pub rows_step : (ds : List (Option ℕ)) (columns left : List Column) (input more : List (List ℕ)) (out whole new : List ℕ) → have_ended columns input ≡ false → left ≡ map column_left columns → more ≡ row_left columns input
    → new ≡ out ++ one_line ds (cells columns input) → Going ds columns input out whole → Going ds left more new whole
rows_step ds columns left input more out whole new e el em row g =
    subst (λ (cs : List Column). Going ds cs more new whole) (sym el)
    (subst (λ (ls : List (List ℕ)). Going ds (map column_left columns) ls new whole) (sym em) (rows_by ds g.most columns input out whole new e g.enough row g.is))

pub rows_end : (ds : List (Option ℕ)) (most : ℕ) (columns : List Column) (input : List (List ℕ)) (out whole : List ℕ) → have_ended columns input ≡ true → out ++ rows ds most columns input ≡ whole → out ≡ whole
rows_end ds zero columns input out whole e is = sym (append-nil out) ∙ is
rows_end ds (suc most) columns input out whole e is =
    sym (append-nil out)
    ∙ ap (λ (b : Bool). out ++ (if b then [] else one_line ds (cells columns input) ++ rows ds most (map column_left columns) (row_left columns input))) (sym e)
    ∙ is

-- ---- the lines that are left of a text

onto_some : (b : ℕ) (ls : List (List ℕ)) → has_none (onto b ls) ≡ false
onto_some b [] = refl
onto_some b (l ∷ ls) = refl

lines_by : (newline : Bool) (b : ℕ) (ls : List (List ℕ)) → has_none (if newline then [] ∷ ls else onto b ls) ≡ false
lines_by true b ls = refl
lines_by false b ls = onto_some b ls

false_from : (b : Bool) → (b ≡ true → ⊥) → b ≡ false
false_from true clear = absurd (clear refl)
false_from false clear = refl

pub none_left : (text : List ℕ) → (length text == 0) ≡ has_none (lines text)
none_left [] = refl
none_left (b ∷ bs) =
    false_from (length (b ∷ bs) == 0) (λ e. omega (arith, eqb-true (length (b ∷ bs)) 0 e))
    ∙ sym (lines_by (b == 10) b (lines bs))

-- where no newline follows
pub only_line : (text : List ℕ) → Nowhere (Passes (is_byte 10) text) 0 (length text) → 0 < length text → lines text ≡ text ∷ []
only_line text clear h = lines_missing text clear h ∙ ap (λ (u : List ℕ). text ∷ lines u) (drop_all (length text) text (omega arith))

pub last_next : (text : List ℕ) → (0 < length text → lines text ≡ text ∷ []) → text ≡ next (lines text)
last_next [] single = refl
last_next (b ∷ bs) single = ap next (sym (single (omega arith)))

pub last_left : (text : List ℕ) → (0 < length text → lines text ≡ text ∷ []) → [] ≡ drop 1 (lines text)
last_left [] single = refl
last_left (b ∷ bs) single = ap (λ (ls : List (List ℕ)). drop 1 ls) (sym (single (omega arith)))

-- ---- lists of delimiters

-- these behind those that were read, where there are some
abbrev pub behind : List (Option ℕ) → Option (List (Option ℕ)) → Option (List (Option ℕ))
behind ds None = None
behind ds (Some more) = Some (ds ++ more)

pub behind_none : (o : Option (List (Option ℕ))) → behind [] o ≡ o
behind_none None = refl
behind_none (Some more) = refl

pub behind_all : (list : List ℕ) (ds : List (Option ℕ)) → 0 < length list → ds ≡ [] → delimiters_of list ≡ behind ds (delimiters_from list)
behind_all [] ds h is = absurd (omega (arith, h))
behind_all (b ∷ more) ds h is =
    sym (behind_none (delimiters_from (b ∷ more))) ∙ ap (λ (xs : List (Option ℕ)). behind xs (delimiters_from (b ∷ more))) (sym is)

pub one_more : (left : ℕ) (ds new : List (Option ℕ)) (d : Option ℕ) → new ≡ ds ++ d ∷ [] → 0 < left + length new
one_more left ds new d is = omega (arith, ap (λ (xs : List (Option ℕ)). length xs) is, length_push ds d)

behind_first : (ds : List (Option ℕ)) (d : Option ℕ) (o : Option (List (Option ℕ))) → behind ds (with_first (Some d) o) ≡ behind (ds ++ d ∷ []) o
behind_first ds d None = refl
behind_first ds d (Some more) = ap (λ (xs : List (Option ℕ)). Some xs) (sym (append_assoc ds (d ∷ []) more))

pub behind_step : (ds new : List (Option ℕ)) (d : Option ℕ) (rest more : List ℕ) (whole : Option (List (Option ℕ))) → delimiters_from rest ≡ with_first (Some d) (delimiters_from more) → new ≡ ds ++ d ∷ []
    → whole ≡ behind ds (delimiters_from rest) → whole ≡ behind new (delimiters_from more)
behind_step ds new d rest more whole first is w =
    w ∙ ap (λ (o : Option (List (Option ℕ))). behind ds o) first ∙ behind_first ds d (delimiters_from more) ∙ ap (λ (xs : List (Option ℕ)). behind xs (delimiters_from more)) (sym is)
