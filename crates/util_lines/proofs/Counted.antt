-- Runs of equal lines, line by line.
use Rattle.std.proofs.Common.{◌≡◌, ℕ, ◌+◌, Bool, true, false, cond, List, [], ◌∷◌, refl, sym, ◌∙◌, ap, arith}
use Rattle.std.specs.Cmp.Lexicographic.{nat_list_eq_equiv}
use Rattle.util_lines.specs.Runs.{Run, behind, is_same, run_of}

-- the runs when so many of this line come before them
abbrev pub counted : ℕ → List ℕ → List Run → List Run
counted n line [] = run_of n line ∷ []
counted n line (run ∷ more) = cond (is_same line run.line) (run_of (run.count + n) line ∷ more) (run_of n line ∷ run ∷ more)

pub counted_one : (line : List ℕ) (runs : List Run) → behind line runs ≡ counted 1 line runs
counted_one line [] = refl
counted_one line (run ∷ more) = refl

more-cond : (n : ℕ) (line next : List ℕ) (run : Run) (more : List Run) (b : Bool) → is_same line next ≡ true →
    counted n line (cond b (run_of (run.count + 1) next ∷ more) (run_of 1 next ∷ run ∷ more)) ≡ cond b (run_of (run.count + (n + 1)) line ∷ more) (run_of (n + 1) line ∷ run ∷ more)
more-cond n line next run more true same =
    let sum : run.count + 1 + n ≡ run.count + (n + 1) = omega arith in
    ap (λ (c : Bool). cond c (run_of (run.count + 1 + n) line ∷ more) (run_of n line ∷ run_of (run.count + 1) next ∷ more)) same
    ∙ ap (λ (k : ℕ). run_of k line ∷ more) sum
more-cond n line next run more false same =
    let sum : 1 + n ≡ n + 1 = omega arith in
    ap (λ (c : Bool). cond c (run_of (1 + n) line ∷ run ∷ more) (run_of n line ∷ run_of 1 next ∷ run ∷ more)) same
    ∙ ap (λ (k : ℕ). run_of k line ∷ run ∷ more) sum

-- an equal line more
pub counted_more : (n : ℕ) (line next : List ℕ) (runs : List Run) → is_same line next ≡ true → counted n line (behind next runs) ≡ counted (n + 1) line runs
counted_more n line next [] same =
    let sum : 1 + n ≡ n + 1 = omega arith in
    ap (λ (c : Bool). cond c (run_of (1 + n) line ∷ []) (run_of n line ∷ run_of 1 next ∷ [])) same
    ∙ ap (λ (k : ℕ). run_of k line ∷ []) sum
counted_more n line next (run ∷ more) same =
    more-cond n line next run more (is_same next run.line) same
    ∙ ap (λ (b : Bool). cond b (run_of (run.count + (n + 1)) line ∷ more) (run_of (n + 1) line ∷ run ∷ more)) (sym (nat_list_eq_equiv.congr line next run.line same))

end-cond : (n : ℕ) (line next : List ℕ) (run : Run) (more : List Run) (b : Bool) → is_same line next ≡ false →
    counted n line (cond b (run_of (run.count + 1) next ∷ more) (run_of 1 next ∷ run ∷ more)) ≡ run_of n line ∷ cond b (run_of (run.count + 1) next ∷ more) (run_of 1 next ∷ run ∷ more)
end-cond n line next run more true other = ap (λ (c : Bool). cond c (run_of (run.count + 1 + n) line ∷ more) (run_of n line ∷ run_of (run.count + 1) next ∷ more)) other
end-cond n line next run more false other = ap (λ (c : Bool). cond c (run_of (1 + n) line ∷ run ∷ more) (run_of n line ∷ run_of 1 next ∷ run ∷ more)) other

-- another line ends the run
pub counted_end : (n : ℕ) (line next : List ℕ) (runs : List Run) → is_same line next ≡ false → counted n line (behind next runs) ≡ run_of n line ∷ behind next runs
counted_end n line next [] other = ap (λ (c : Bool). cond c (run_of (1 + n) line ∷ []) (run_of n line ∷ run_of 1 next ∷ [])) other
counted_end n line next (run ∷ more) other = end-cond n line next run more (is_same next run.line) other
