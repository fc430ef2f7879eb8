use Rattle.std.proofs.Common.{◌≡◌, ℕ, ◌+◌, ◌<◌, ◌≤◌, Bool, true, false, List, [], ◌∷◌, ◌++◌, map, refl, sym, ap, ◌∙◌, subst, arith}
use Rattle.std.specs.Prelude.{Option, Some, None, Result, Ok, Err}
use Rattle.hs_view.specs.declared.halt.Halt.TheVariants as halt
use Rattle.hs_view.proofs.Acting.{acts_memory}
use Rattle.sh_param.specs.Pieces.{expanded_all, split_fields, whole_fields}
use Rattle.sh_param.specs.Outputs.{substituted}
use Rattle.sh_param.specs.Plans.{Plan, fields, first, gives}
use Rattle.sh_expand.specs.Calls.{Begins, Expands, Lessens, going_of, left_by, state_going, status_in}
use Rattle.sh_expand.specs.Rest.{after_word, behind_parts, means, next_of, opens_mean, part_plan, rest_of, waiting_of}
use Rattle.sh_expand.proofs.Steps.{begins_on}
use Rattle.sh_expand.proofs.expansion.go_behind.Goals as goal

pub returns-in_err-bytes : goal.returns-in_err-bytes
returns-in_err-bytes g c =
    let p = waiting_of c.args.machine c.args.out.now in
    begins_on g.B.Base.seen p c.args.view.now c.args.view.now halt.NoMemory c.from_residual.result c.from_residual.ensures.0 c.from_residual.ensures.1 (acts_memory g.B.Base.seen (first p) c.args.view.now)

pub returns-in_err-put_bytes : goal.returns-in_err-put_bytes
returns-in_err-put_bytes g c =
    let p = waiting_of c.args.machine c.args.out.now in
    begins_on g.B.Base.seen p c.args.view.now c.args.view.now halt.NoMemory c.from_residual-in_err-put_bytes.result c.from_residual-in_err-put_bytes.ensures.0 c.from_residual-in_err-put_bytes.ensures.1 (acts_memory g.B.Base.seen (first p) c.args.view.now)

pub returns : goal.returns
returns g c =
    let x = c.args.machine in
    let e = c.in_ok-put_bytes.ensures.rest ∙ ap (λ (bs : List ℕ). next_of x (x.pieces ++ expanded_all x.mode bs)) (c.as_slice-2.ensures ∙ c.in_ok-bytes.ensures ∙ ap substituted c.as_slice.ensures) in
    subst (λ (z : Plan). Begins g.B.Base.seen z c.args.view.now c.go_on.new.view c.go_on.result) e c.go_on.ensures
