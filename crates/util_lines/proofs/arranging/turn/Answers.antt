use Rattle.std.proofs.Common.{List, ℕ, ◌∙◌, ap}
use Rattle.util_lines.specs.Fronts.{shown_lines}
use Rattle.util_lines.proofs.Lined.{map_reverse}
use Rattle.util_lines.proofs.arranging.turn.Goals as goal
use denote.Ref.{Bor}

pub returns : goal.returns
returns c =
    let now : Bor (List ℕ) → List ℕ = λ b. b.now in
    ap shown_lines c.reverse.ensures.after ∙ map_reverse now c.args.lines.now
