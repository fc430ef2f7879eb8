use Rattle.std.proofs.Common.{[], List, ℕ, Bool, sym, subst}
use Rattle.std.specs.Prelude.{Some, Ok, Err}
use Rattle.hs_view.specs.Acts.{Acts}
use Rattle.hs_view.proofs.Acting.{acts_answering, acts_answering_halt, acts_on}
use Rattle.sh_param.specs.Words.{expand}
use Rattle.sh_expand.specs.Sums.{sums}
use Rattle.sh_leaf.specs.Expanding.{Came, fields_of, fields_told}
use Rattle.sh_leaf.proofs.Coming.{called, is_ready}
use Rattle.sh_leaf.proofs.words.fields_of.Goals as goal

pub expand-requires : goal.expand-requires
expand-requires g c = is_ready _ c.args.words.now c.args.context c.args.status c.new-going.ensures

pub returns-in_err-expanded : goal.returns-in_err-expanded
returns-in_err-expanded g c =
    let seen = g.B.Base.seen in
    let ws = c.args.words.now in
    let h = c.in_err-expanded.field-0.0 in
    let e = c.in_err-expanded.ensures in
    acts_on seen (fields_of ws c.args.context c.args.status) c.args.view.now c.expand.new.view h _ c.from_residual.ensures.0 c.from_residual.ensures.1
    (acts_answering_halt seen fields_told (λ w. expand sums ws c.args.context (Some c.args.status) [] w) c.args.view.now c.expand.new.view h
    (called seen ws c.args.context c.args.status c.new-going.result c.expand.new.going c.args.view.now c.expand.new.view (Err h) c.new-going.ensures e.acts e.law))

pub returns : goal.returns
returns g c =
    let seen = g.B.Base.seen in
    let ws = c.args.words.now in
    let x = c.in_ok-expanded.expanded in
    let e = c.in_ok-expanded.ensures in
    subst (λ (r : Came (List (List (ℕ × Bool)))). Acts seen (fields_of ws c.args.context c.args.status) c.args.view.now c.expand.new.view (Ok r)) (sym c.told.ensures)
    (acts_answering seen fields_told (λ w. expand sums ws c.args.context (Some c.args.status) [] w) c.args.view.now c.expand.new.view x
    (called seen ws c.args.context c.args.status c.new-going.result c.expand.new.going c.args.view.now c.expand.new.view (Ok x) c.new-going.ensures e.acts e.law))
