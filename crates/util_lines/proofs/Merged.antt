-- The merge of two texts, from its begin.
use Rattle.std.proofs.Common.{◌≡◌, ℕ, List, [], ◌∷◌, Option, Some, None, ap}
use Rattle.std.specs.Prelude.{MatchOption}
use Rattle.util_lines.specs.Fronts.{lines_left}
use Rattle.util_lines.specs.Splitting.{lines}
use denote.Ref.{Bor}

pub left_first : (text : List ℕ) (front : Option (Bor (List ℕ) × Bor (List ℕ))) → MatchOption front (text ≡ []) (λ parts. lines text ≡ parts.0.now ∷ lines parts.1.now) → lines text ≡ lines_left front
left_first text None is = ap lines is
left_first text (Some parts) is = is
