use Rattle.std.proofs.Common.{◌≡◌, ℕ, ◌-◌, ◌≤◌, List, length, take, drop, ap, ◌∙◌, sym, subst, arith}
use Rattle.std.specs.Prelude.{IfOk}
use Rattle.std.proofs.lemmas.List.{length-drop, take_all}
use Rattle.util_text.specs.Tail.{tail}
use Rattle.util_text.proofs.ends.tail_part.Goals as goal

pub returns : goal.returns
returns c = λ exact stands.
    let text = c.args.content.now in
    let start = c.tail_start.result in
    let rest : List ℕ = drop start text in
    let all : take (c.len.result - start) rest ≡ rest = take_all (c.len.result - start) rest (omega (arith, length-drop start text, c.len.ensures)) in
    let lines : rest ≡ tail exact text = ap (λ (xs : List ℕ). drop start xs) (sym c.as_slice.ensures) ∙ c.tail_start.ensures.lines exact stands ∙ ap (tail exact) c.as_slice.ensures in
    subst (λ (xs : List ℕ). IfOk c.part.result (λ part. part ≡ xs)) (all ∙ lines) c.part.ensures
