use Rattle.std.proofs.Common.{◌≡◌, ◌+◌, ◌≤◌, List, ℕ, length, take, drop, subst, sym, ap, ◌∙◌}
use Rattle.std.specs.Arc.{arc_value}
use Rattle.hs_text.specs.Blocks.{part_of}
use Rattle.hs_text.proofs.Parts.{shared_part}
use Rattle.hs_text.proofs.block.Block.shared.Goals as goal

pub returns-in_ok-share-in-Some : goal.returns-in_ok-share-in-Some
returns-in_ok-share-in-Some c =
    let items : List ℕ = (arc_value c.self.inside.bytes).items in
    let start : ℕ = c.in-Some.part.start in
    let within : c.args.from + c.args.len ≤ length (part_of c.self.inside.part items) = subst (λ (xs : List ℕ). c.args.from + c.args.len ≤ length xs) (sym c.self.view_is) c.requires in
    c.in_ok-share-in-Some.ensures
    ∙ ap (λ (n : ℕ). take n (drop start items)) c.in-Some.ensures.len
    ∙ shared_part c.self.inside.part items start c.args.from c.args.len c.in-Some.ensures.start c.self.invariant within
    ∙ ap (λ (xs : List ℕ). take c.args.len (drop c.args.from xs)) c.self.view_is
