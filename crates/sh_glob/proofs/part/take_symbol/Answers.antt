use Rattle.std.proofs.Common.{ℕ, Bool, List, [], ◌∷◌, ◌++◌, map, ap, ◌∙◌}
use Rattle.std.specs.Prelude.{◌==◌}
use Rattle.std.proofs.lemmas.Result.{on_ok_weaker}
use Rattle.sh_glob.specs.declared.part.Part.{Part}
use Rattle.sh_glob.specs.Parts.{behind, part_of, split}
use Rattle.sh_glob.proofs.Splits.{differs, parts-byte, parts-slash}
use Rattle.sh_glob.proofs.part.take_symbol.Goals as goal

pub returns-then-symbol-eq47 : goal.returns-then-symbol-eq47
returns-then-symbol-eq47 c = λ rest.
    let parts = c.args.parts.now.items in
    ap (λ (ps : List Part). ps ++ map part_of (behind c.new.result (split rest))) c.in_ok-push.ensures.items
    ∙ ap (λ (f : List (ℕ × Bool)). (parts ++ c.in_ok-part.part ∷ []) ++ map part_of (behind f (split rest))) c.new.ensures
    ∙ ap (λ (p : Part). (parts ++ p ∷ []) ++ map part_of (behind [] (split rest))) c.in_ok-part.ensures
    ∙ parts-slash parts c.args.component.now c.args.symbol rest (ap (λ (n : ℕ). n == 47) c.if-symbol-eq47.true)

pub returns : goal.returns
returns c =
    on_ok_weaker c.push-2.result (λ e. λ rest.
    ap (λ (f : List (ℕ × Bool)). c.args.parts.now.items ++ map part_of (behind f (split rest))) e
    ∙ parts-byte c.args.parts.now.items c.args.component.now c.args.symbol rest (differs c.args.symbol.0 47 c.if-symbol-eq47.false)) c.push-2.ensures.ok
