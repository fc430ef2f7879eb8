-- Operands and contents of `uniq`, by how many there are.
use Rattle.std.proofs.Common.{◌≡◌, ℕ, ◌<◌, ◌≤◌, List, [], ◌∷◌, length, take, refl, sym, ◌∙◌, ap, arith}
use Rattle.std.specs.Prelude.{Option, codes}
use Rattle.hs_world.specs.World.{WorldData}
use Rattle.hs_view.specs.Steps.{nothing}
use Rattle.util_common.specs.Operands.{or_input, refused}
use Rattle.util_common.specs.declared.messages.Why.TheVariants.{ExtraOperand}
use Rattle.util_lines.specs.Uniquing.{contents_written, files_uniqued, input_uniqued, second}
use Rattle.util_lines.specs.declared.runs.Mode.{Mode}

many-files : (mode : Mode) (operands : List (List ℕ)) (w : WorldData) → 2 < length operands → refused (codes "uniq") ExtraOperand w ≡ files_uniqued mode operands w
many-files mode [] w h = absurd (omega arith)
many-files mode (input ∷ []) w h = absurd (omega arith)
many-files mode (input ∷ output ∷ []) w h = absurd (omega arith)
many-files mode (input ∷ output ∷ third ∷ more) w h = refl

pub many_files : (mode : Mode) (slice operands : List (List ℕ)) (w : WorldData) → slice ≡ operands → 2 < length slice → refused (codes "uniq") ExtraOperand w ≡ files_uniqued mode operands w
many_files mode slice operands w is h = many-files mode slice w h ∙ ap (λ (xs : List (List ℕ)). files_uniqued mode xs w) is

few-files : (mode : Mode) (operands : List (List ℕ)) (w : WorldData) → length operands ≤ 2 → input_uniqued mode (take 1 (or_input operands)) (second (or_input operands)) w ≡ files_uniqued mode operands w
few-files mode [] w h = refl
few-files mode (input ∷ []) w h = refl
few-files mode (input ∷ output ∷ []) w h = refl
few-files mode (input ∷ output ∷ third ∷ more) w h = absurd (omega arith)

pub few_files : (mode : Mode) (operands words front : List (List ℕ)) (output : Option (List ℕ)) (w : WorldData) → words ≡ or_input operands → front ≡ take 1 words → output ≡ second words → length operands ≤ 2
    → input_uniqued mode front output w ≡ files_uniqued mode operands w
few_files mode operands words front output w is first other h =
    ap (λ (xs : List (List ℕ)). input_uniqued mode xs output w) (first ∙ ap (take 1) is)
    ∙ ap (λ (o : Option (List ℕ)). input_uniqued mode (take 1 (or_input operands)) o w) (other ∙ ap second is)
    ∙ few-files mode operands w h

no-content : (mode : Mode) (output : Option (List ℕ)) (contents : List (List ℕ)) (status : ℕ) (w : WorldData) → length contents < 1 → contents_written mode output contents status w ≡ nothing status w
no-content mode output [] status w h = refl
no-content mode output (content ∷ more) status w h = absurd (omega arith)

pub no_content : (mode : Mode) (output : Option (List ℕ)) (slice contents : List (List ℕ)) (status : ℕ) (w : WorldData) → slice ≡ contents → length slice < 1 → contents_written mode output contents status w ≡ nothing status w
no_content mode output slice contents status w is h = ap (λ (xs : List (List ℕ)). contents_written mode output xs status w) (sym is) ∙ no-content mode output slice status w h
