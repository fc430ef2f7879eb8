-- Operands and contents of `comm`, by how many there are.
use Rattle.std.proofs.Common.{◌≡◌, ℕ, ◌<◌, ◌≤◌, List, [], ◌∷◌, length, get_or, refl, sym, ◌∙◌, ap, arith}
use Rattle.std.specs.Prelude.{codes}
use Rattle.hs_world.specs.World.{WorldData}
use Rattle.hs_world.specs.declared.effect.Fd.TheVariants.{One}
use Rattle.hs_view.specs.Steps.{nothing}
use Rattle.util_common.specs.Operands.{emitted, refused}
use Rattle.util_common.specs.declared.messages.Why.TheVariants.{ExtraOperand, MissingOperand}
use Rattle.util_lines.specs.Comparing.{contents_compared, files_compared, two_compared}
use Rattle.util_lines.specs.Merging.{comm}
use Rattle.util_lines.specs.declared.merging.Columns.{Columns}

pub few_files : (columns : Columns) (operands : List (List ℕ)) (w : WorldData) → length operands < 2 → refused (codes "comm") MissingOperand w ≡ files_compared columns operands w
few_files columns [] w h = refl
few_files columns (one ∷ []) w h = refl
few_files columns (one ∷ two ∷ more) w h = absurd (omega arith)

pub two_files : (columns : Columns) (operands : List (List ℕ)) (w : WorldData) → 2 ≤ length operands → length operands < 3 → two_compared columns operands w ≡ files_compared columns operands w
two_files columns [] w h i = absurd (omega arith)
two_files columns (one ∷ []) w h i = absurd (omega arith)
two_files columns (one ∷ two ∷ []) w h i = refl
two_files columns (one ∷ two ∷ third ∷ more) w h i = absurd (omega arith)

pub many_files : (columns : Columns) (operands : List (List ℕ)) (w : WorldData) → 3 ≤ length operands → refused (codes "comm") ExtraOperand w ≡ files_compared columns operands w
many_files columns [] w h = absurd (omega arith)
many_files columns (one ∷ []) w h = absurd (omega arith)
many_files columns (one ∷ two ∷ []) w h = absurd (omega arith)
many_files columns (one ∷ two ∷ third ∷ more) w h = refl

few-contents : (columns : Columns) (contents : List (List ℕ)) (status : ℕ) (w : WorldData) → length contents < 2 → contents_compared columns contents status w ≡ nothing status w
few-contents columns [] status w h = refl
few-contents columns (one ∷ []) status w h = refl
few-contents columns (one ∷ two ∷ more) status w h = absurd (omega arith)

pub few_contents : (columns : Columns) (slice contents : List (List ℕ)) (status : ℕ) (w : WorldData) → slice ≡ contents → length slice < 2 → contents_compared columns contents status w ≡ nothing status w
few_contents columns slice contents status w is h = ap (λ (xs : List (List ℕ)). contents_compared columns xs status w) (sym is) ∙ few-contents columns slice status w h

two-contents : (columns : Columns) (contents : List (List ℕ)) (one two : List ℕ) (status : ℕ) (w : WorldData) → 2 ≤ length contents → one ≡ get_or contents 0 one → two ≡ get_or contents 1 two
    → emitted One (comm columns one two) status w ≡ contents_compared columns contents status w
two-contents columns [] one two status w h i j = absurd (omega arith)
two-contents columns (a ∷ []) one two status w h i j = absurd (omega arith)
two-contents columns (a ∷ b ∷ more) one two status w h i j =
    ap (λ (x : List ℕ). emitted One (comm columns x two) status w) i ∙ ap (λ (y : List ℕ). emitted One (comm columns a y) status w) j

pub two_contents : (columns : Columns) (slice contents : List (List ℕ)) (one two : List ℕ) (status : ℕ) (w : WorldData) → slice ≡ contents → 2 ≤ length slice → one ≡ get_or slice 0 one → two ≡ get_or slice 1 two
    → emitted One (comm columns one two) status w ≡ contents_compared columns contents status w
two_contents columns slice contents one two status w is h i j =
    two-contents columns slice one two status w h i j ∙ ap (λ (xs : List (List ℕ)). contents_compared columns xs status w) is
