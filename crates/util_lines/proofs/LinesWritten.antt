-- Lines, one after another.
use Rattle.std.proofs.Common.{◌≡◌, ℕ, zero, suc, ◌+◌, ◌<◌, ◌≤◌, Bool, true, false, cond, List, [], ◌∷◌, ◌++◌, length, refl, sym, ◌∙◌, ap, inl, inr, eqb, arith, append_assoc}
use Rattle.std.specs.Prelude.{◌||◌, nat_lt}
use Rattle.std.specs.List.{filter, list_any}
use Rattle.std.proofs.lemmas.Bool.{eqb-true, lt-ltb, or_left}
use Rattle.util_lines.specs.FixedLines.{line_where, line_written, lines_from, patterns_of, selects}
use Rattle.util_lines.specs.Splitting.{lines}
use Rattle.util_lines.specs.declared.fixed_lines.Flags.{Flags}

-- ---- whether one of them passes

module _ (F : List ℕ → Bool) (ls more : List (List ℕ)) (x : List ℕ) where
  pub any_here : (whole : Bool) → whole ≡ list_any F ls → ls ≡ x ∷ more → F x ≡ true → true ≡ whole
  any_here whole w e t = sym (w ∙ ap (λ (l : List (List ℕ)). list_any F l) e ∙ or_left (F x) (list_any F more) t)

  pub any_next : (whole : Bool) → whole ≡ list_any F ls → ls ≡ x ∷ more → F x ≡ false → whole ≡ list_any F more
  any_next whole w e f = w ∙ ap (λ (l : List (List ℕ)). list_any F l) e ∙ ap (λ (b : Bool). b || list_any F more) f

or_nothing : (b : Bool) → (b || false) ≡ b
or_nothing true = refl
or_nothing false = refl

or_assoc : (a b c : Bool) → (a || (b || c)) ≡ ((a || b) || c)
or_assoc true b c = refl
or_assoc false b c = refl

pub any_more : (F : List ℕ → Bool) (ls more : List (List ℕ)) (x : List ℕ) (any one whole : Bool) → whole ≡ (any || list_any F ls) → ls ≡ x ∷ more → one ≡ F x → whole ≡ ((any || one) || list_any F more)
any_more F ls more x any one whole w e o =
    w
    ∙ ap (λ (l : List (List ℕ)). any || list_any F l) e
    ∙ or_assoc any (F x) (list_any F more)
    ∙ ap (λ (b : Bool). (any || b) || list_any F more) (sym o)

pub any_done : (F : List ℕ → Bool) (ls : List (List ℕ)) (any whole : Bool) → whole ≡ (any || list_any F ls) → ls ≡ [] → any ≡ whole
any_done F ls any whole w e = sym (w ∙ ap (λ (l : List (List ℕ)). any || list_any F l) e ∙ or_nothing any)

-- ---- patterns

pub empty_pattern : (F : List ℕ → Bool) (patterns : List ℕ) (b : Bool) → eqb (length patterns) 0 ≡ true → b ≡ F [] → b ≡ list_any F (patterns_of patterns)
empty_pattern F [] b h e = e ∙ sym (or_nothing (F []))
empty_pattern F (c ∷ cs) b h e = absurd (omega (arith, eqb-true (length (c ∷ cs)) 0 h))

pub some_patterns : (F : List ℕ → Bool) (patterns : List ℕ) (b : Bool) → eqb (length patterns) 0 ≡ false → b ≡ list_any F (lines patterns) → b ≡ list_any F (patterns_of patterns)
some_patterns F [] b h e = absurd cc
some_patterns F (c ∷ cs) b h e = e

-- ---- counts

counted_one : (b : Bool) (x : List ℕ) (r : List (List ℕ)) → length (cond b (x ∷ r) r) ≡ cond b 1 0 + length r
counted_one true x r = omega arith
counted_one false x r = omega arith

pub count_more : (F : List ℕ → Bool) (ls more : List (List ℕ)) (x : List ℕ) (k one whole : ℕ) → whole ≡ k + length (filter F ls) → ls ≡ x ∷ more → one ≡ cond (F x) 1 0
    → whole ≡ (k + one) + length (filter F more)
count_more F ls more x k one whole w e o =
    let next : length (filter F ls) ≡ cond (F x) 1 0 + length (filter F more) = ap (λ (l : List (List ℕ)). length (filter F l)) e ∙ counted_one (F x) x (filter F more) in
    let one_more : length (filter F ls) ≡ one + length (filter F more) = next ∙ ap (λ (n : ℕ). n + length (filter F more)) (sym o) in
    omega (arith, w, one_more)

pub at_most_one : (b : Bool) (one : ℕ) → one ≡ cond b 1 0 → one ≤ 1
at_most_one true one e = omega arith
at_most_one false one e = omega arith

counted_by : (b : Bool) (x : List ℕ) (r : List (List ℕ)) (any : Bool) → nat_lt 0 (length r) ≡ any → nat_lt 0 (length (cond b (x ∷ r) r)) ≡ (b || any)
counted_by true x r any h = lt-ltb 0 (suc (length r)) (omega arith)
counted_by false x r any h = h

-- some are counted where one passes
pub counted : (F : List ℕ → Bool) (ls : List (List ℕ)) → nat_lt 0 (length (filter F ls)) ≡ list_any F ls
counted F [] = refl
counted F (x ∷ ls) = counted_by (F x) x (filter F ls) (list_any F ls) (counted F ls)

-- ---- what is written

pub line_more : (flags : Flags) (patterns prefix : List ℕ) (n : ℕ) (out new whole : List ℕ) (ls more : List (List ℕ)) (line : List ℕ) → out ++ lines_from flags patterns prefix n ls ≡ whole → ls ≡ line ∷ more
    → new ≡ out ++ line_where (selects flags patterns line) (line_written flags prefix n line) → new ++ lines_from flags patterns prefix (n + 1) more ≡ whole
line_more flags patterns prefix n out new whole ls more line w e k =
    let rest = lines_from flags patterns prefix (n + 1) more in
    ap (λ (u : List ℕ). u ++ rest) k
    ∙ append_assoc out (line_where (selects flags patterns line) (line_written flags prefix n line)) rest
    ∙ ap (λ (l : List (List ℕ)). out ++ lines_from flags patterns prefix n l) (sym e)
    ∙ w
