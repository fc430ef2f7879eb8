use Rattle.std.proofs.Common.{List, ℕ, sym, ap, ◌∙◌}
use Rattle.std.specs.Prelude.{codes}
use Rattle.sh_arith.specs.declared.names.Assigned.TheVariants.{Yes, ReadOnly}
use Rattle.sh_param.specs.Messages.{message}
use Rattle.sh_param.specs.Parts.{after_assignment, assign_means}
use Rattle.sh_param.specs.Pieces.{bytes_of}
use Rattle.sh_param.specs.Plans.{fails}
use Rattle.sh_expand.specs.Rest.{behind_parts, place_means, rest_of}
use Rattle.sh_expand.proofs.Ending.{assigned_on, bytes_at, told_on, unassigned_on}
use Rattle.sh_expand.proofs.Moving.{tried_on}
use Rattle.sh_expand.proofs.Looking.{loops_as, tried_memory, tried_short}
use Rattle.sh_expand.proofs.machine.Machine.end_assignment.Goals as goal

pub returns-in_err-bytes-clause-moves : goal.returns-in_err-bytes-clause-moves
returns-in_err-bytes-clause-moves g c =
    let x = c.args.self.now in
    let p = c.args.place in
    tried_memory g.B.Base.seen (assign_means p.mode c.args.name.now (bytes_of x.pieces) c.args.pieces (place_means p (behind_parts x))) (rest_of x) c.args.view.now _ c.from_residual.ensures.0 c.from_residual.ensures.1

pub returns-in_err-assign-clause-moves : goal.returns-in_err-assign-clause-moves
returns-in_err-assign-clause-moves g c =
    let x = c.args.self.now in
    let p = c.args.place in
    let k = place_means p (behind_parts x) in
    let h = c.in_err-assign.field-0.0 in
    tried_on g.B.Base.seen (assign_means p.mode c.args.name.now (bytes_of x.pieces) c.args.pieces k) (rest_of c.resume.new.self) c.args.view.now c.assign.new.view h _ c.from_residual-in_err-assign.ensures.0 c.from_residual-in_err-assign.ensures.1
    (unassigned_on g.B.Base.seen p.mode c.args.name.now c.in_ok-bytes.bytes (bytes_of x.pieces) c.args.pieces k c.args.view.now c.assign.new.view h c.in_ok-bytes.ensures c.in_err-assign.ensures)

pub returns-in_err-put_bytes-in-Yes-clause-moves : goal.returns-in_err-put_bytes-in-Yes-clause-moves
returns-in_err-put_bytes-in-Yes-clause-moves g c =
    let x = c.args.self.now in
    let p = c.args.place in
    let k = place_means p (behind_parts x) in
    tried_short g.B.Base.seen (assign_means p.mode c.args.name.now (bytes_of x.pieces) c.args.pieces k) (after_assignment p.mode c.args.name.now (bytes_of x.pieces) c.args.pieces k Yes) (rest_of c.put_bytes.new.self) c.args.view.now c.assign.new.view _
    c.from_residual-in_err-put_bytes-in-Yes.ensures.0 c.from_residual-in_err-put_bytes-in-Yes.ensures.1
    (assigned_on g.B.Base.seen p.mode c.args.name.now c.in_ok-bytes.bytes (bytes_of x.pieces) c.args.pieces k c.args.view.now c.assign.new.view _ Yes c.in_ok-bytes.ensures c.in-Yes.is c.in_ok-assign.ensures)

pub returns-in-Yes-clause-moves : goal.returns-in-Yes-clause-moves
returns-in-Yes-clause-moves g c =
    let x = c.args.self.now in
    let y = c.resume.new.self in
    let p = c.args.place in
    let k = place_means p (behind_parts x) in
    let r = c.resume.ensures in
    loops_as g.B.Base.seen (assign_means p.mode c.args.name.now (bytes_of x.pieces) c.args.pieces k) (after_assignment p.mode c.args.name.now (bytes_of x.pieces) c.args.pieces k Yes) (rest_of c.put_bytes.new.self) c.args.view.now c.assign.new.view
    (assigned_on g.B.Base.seen p.mode c.args.name.now c.in_ok-bytes.bytes (bytes_of x.pieces) c.args.pieces k c.args.view.now c.assign.new.view _ Yes c.in_ok-bytes.ensures c.in-Yes.is c.in_ok-assign.ensures)
    (sym (c.in_ok-put_bytes-in-Yes.ensures.rest ∙ bytes_at y p.mode c.as_slice.result.now (bytes_of x.pieces) c.args.pieces k r.mode r.pieces r.next (c.as_slice.ensures ∙ c.in_ok-bytes.ensures)))

pub returns-in_err-why-in-ReadOnly-clause-moves : goal.returns-in_err-why-in-ReadOnly-clause-moves
returns-in_err-why-in-ReadOnly-clause-moves g c =
    let x = c.args.self.now in
    let p = c.args.place in
    let k = place_means p (behind_parts x) in
    tried_short g.B.Base.seen (assign_means p.mode c.args.name.now (bytes_of x.pieces) c.args.pieces k) (after_assignment p.mode c.args.name.now (bytes_of x.pieces) c.args.pieces k ReadOnly) (rest_of c.resume.new.self) c.args.view.now c.assign.new.view _
    c.from_residual-in_err-why-in-ReadOnly.ensures.0 c.from_residual-in_err-why-in-ReadOnly.ensures.1
    (assigned_on g.B.Base.seen p.mode c.args.name.now c.in_ok-bytes.bytes (bytes_of x.pieces) c.args.pieces k c.args.view.now c.assign.new.view _ ReadOnly c.in_ok-bytes.ensures c.in-ReadOnly.is c.in_ok-assign.ensures)

pub returns-clause-moves : goal.returns-clause-moves
returns-clause-moves g c =
    let x = c.args.self.now in
    let p = c.args.place in
    let k = place_means p (behind_parts x) in
    told_on g.B.Base.seen (assign_means p.mode c.args.name.now (bytes_of x.pieces) c.args.pieces k) (after_assignment p.mode c.args.name.now (bytes_of x.pieces) c.args.pieces k ReadOnly) c.args.view.now c.assign.new.view c.in_ok-why-in-ReadOnly.why
    (assigned_on g.B.Base.seen p.mode c.args.name.now c.in_ok-bytes.bytes (bytes_of x.pieces) c.args.pieces k c.args.view.now c.assign.new.view _ ReadOnly c.in_ok-bytes.ensures c.in-ReadOnly.is c.in_ok-assign.ensures)
    (ap (λ (n : List ℕ). fails (message n (codes "is read only"))) (sym c.as_slice-in-ReadOnly.ensures) ∙ ap fails (sym c.in_ok-why-in-ReadOnly.ensures))
