use Rattle.std.proofs.Common.{ℕ, Bool, List, ◌++◌, map, ap, ◌∙◌}
use Rattle.sh_glob.specs.declared.part.Part.{Part}
use Rattle.sh_glob.specs.Parts.{behind, part_of, split}
use Rattle.sh_glob.proofs.Splits.{behind-nil}
use Rattle.sh_glob.proofs.part.read_parts.Goals as goal

pub loop-symbol-init : goal.loop-symbol-init
loop-symbol-init c =
    let field = c.args.field.now in
    ap (λ (ps : List Part). ps ++ map part_of (behind c.new-component.result (split field))) c.new-parts.ensures.items
    ∙ ap (λ (f : List (ℕ × Bool)). map part_of (behind f (split field))) c.new-component.ensures
    ∙ ap (λ (qs : List (List (ℕ × Bool))). map part_of qs) (behind-nil field)
