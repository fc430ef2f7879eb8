use Rattle.std.proofs.Common.{sym, ap, ◌∙◌, arith}
use Rattle.std.specs.Prelude.{Ok, None}
use Rattle.hs_view.proofs.Keeping.{ok_map}
use Rattle.sh_param.specs.Parts.{put_value, assign_means, after_sum}
use Rattle.sh_param.specs.Pieces.{bytes_of, field_of}
use Rattle.sh_param.specs.Plans.{after, fails}
use Rattle.sh_param.specs.Trims.{trimmed}
use Rattle.sh_expand.specs.Rest.{behind_parts, open_means, place_means, rest_of}
use Rattle.sh_expand.specs.Sums.{sums}
use Rattle.sh_expand.specs.Weights.{open_weight, parts_weight, weight}
use Rattle.sh_expand.specs.declared.open.Open.{Open}
use Rattle.sh_expand.proofs.Ending.{behind_same, closed_weighs, rest_at, tried_from, weight_same}
use Rattle.sh_expand.proofs.Moving.{failing, same_plan, tried_on}
use Rattle.sh_expand.proofs.Looking.{tried_memory}
use Rattle.sh_expand.proofs.machine.Machine.close.Goals as goal

pub returns-in-Within-clause-moves : goal.returns-in-Within-clause-moves
returns-in-Within-clause-moves g c =
    let x = c.args.self.now in
    let p = c.in-Within.place in
    let r = c.resume.ensures in
    let k = place_means p (behind_parts x) in
    same_plan g.B.Base.seen (open_means c.args.open (behind_parts x) x.pieces) (rest_of c.resume.new.self) c.args.view.now
    (ap (λ (o : Open). open_means o (behind_parts x) x.pieces) c.in-Within.is
    ∙ sym (rest_at c.resume.new.self c.take_pieces-pieces.result x.pieces k r.pieces (r.next ∙ behind_same x c.take_pieces-pieces.new.self p c.take_pieces-pieces.ensures.rest) c.take_pieces-pieces.ensures.pieces))

pub returns-in-Assign-clause-moves : goal.returns-in-Assign-clause-moves
returns-in-Assign-clause-moves g c =
    let x = c.args.self.now in
    let a = c.in-Assign in
    tried_from g.B.Base.seen (open_means c.args.open (behind_parts x) x.pieces) (assign_means a.place.mode a.name.now (bytes_of x.pieces) a.pieces (place_means a.place (behind_parts x))) (rest_of c.end_assignment.new.self) c.args.view.now c.end_assignment.new.view c.end_assignment.result
    (ap (λ (o : Open). open_means o (behind_parts x) x.pieces) a.is) c.end_assignment.ensures.moves

pub returns-in_err-why-in-Error-clause-moves : goal.returns-in_err-why-in-Error-clause-moves
returns-in_err-why-in-Error-clause-moves g c =
    let x = c.args.self.now in
    tried_memory g.B.Base.seen (open_means c.args.open (behind_parts x) x.pieces) (rest_of x) c.args.view.now _ c.from_residual.ensures.0 c.from_residual.ensures.1

pub returns-in_ok-why-in-Error-clause-moves : goal.returns-in_ok-why-in-Error-clause-moves
returns-in_ok-why-in-Error-clause-moves g c =
    let x = c.args.self.now in
    failing g.B.Base.seen (open_means c.args.open (behind_parts x) x.pieces) c.args.view.now c.in_ok-why-in-Error.why
    (ap (λ (o : Open). open_means o (behind_parts x) x.pieces) c.in-Error.is ∙ ap fails (sym c.in_ok-why-in-Error.ensures))

pub returns-in_err-end_trim-in-Trim-clause-moves : goal.returns-in_err-end_trim-in-Trim-clause-moves
returns-in_err-end_trim-in-Trim-clause-moves g c =
    let x = c.args.self.now in
    let a = c.in-Trim in
    let h = c.in_err-end_trim-in-Trim.field-0.0 in
    tried_from g.B.Base.seen (open_means c.args.open (behind_parts x) x.pieces) (put_value a.place.mode (trimmed a.op (field_of x.pieces) a.value) a.pieces (place_means a.place (behind_parts x))) (rest_of c.end_trim.new.self) c.args.view.now c.end_trim.new.view _
    (ap (λ (o : Open). open_means o (behind_parts x) x.pieces) a.is)
    (tried_on g.B.Base.seen (put_value a.place.mode (trimmed a.op (field_of x.pieces) a.value) a.pieces (place_means a.place (behind_parts x))) (rest_of c.end_trim.new.self) c.args.view.now c.end_trim.new.view h _ c.from_residual-in_err-end_trim-in-Trim.ensures.0 c.from_residual-in_err-end_trim-in-Trim.ensures.1 c.in_err-end_trim-in-Trim.ensures.moves)

pub returns-in_ok-end_trim-in-Trim-clause-moves : goal.returns-in_ok-end_trim-in-Trim-clause-moves
returns-in_ok-end_trim-in-Trim-clause-moves g c =
    let x = c.args.self.now in
    let a = c.in-Trim in
    tried_from g.B.Base.seen (open_means c.args.open (behind_parts x) x.pieces) (put_value a.place.mode (trimmed a.op (field_of x.pieces) a.value) a.pieces (place_means a.place (behind_parts x))) (rest_of c.end_trim.new.self) c.args.view.now c.end_trim.new.view (Ok None)
    (ap (λ (o : Open). open_means o (behind_parts x) x.pieces) a.is) c.in_ok-end_trim-in-Trim.ensures.moves

pub returns-in-Sum-clause-moves : goal.returns-in-Sum-clause-moves
returns-in-Sum-clause-moves g c =
    let x = c.args.self.now in
    let a = c.in-Sum in
    tried_from g.B.Base.seen (open_means c.args.open (behind_parts x) x.pieces) (after (sums (bytes_of x.pieces)) (after_sum a.place.mode a.pieces (place_means a.place (behind_parts x)))) (rest_of c.end_sum.new.self) c.args.view.now c.end_sum.new.view c.end_sum.result
    (ap (λ (o : Open). open_means o (behind_parts x) x.pieces) a.is) c.end_sum.ensures.moves

pub returns-in-Within-clause-weighs : goal.returns-in-Within-clause-weighs
returns-in-Within-clause-weighs g c =
    let w = ap open_weight c.in-Within.is in
    let e = weight_same c.args.self.now c.take_pieces-pieces.new.self c.take_pieces-pieces.ensures.rest in
    let s = c.resume.ensures.weighs in
    omega (arith, w, e, s)

pub returns-in-Assign-clause-weighs : goal.returns-in-Assign-clause-weighs
returns-in-Assign-clause-weighs g c =
    let x = c.args.self.now in
    ok_map c.end_assignment.result (λ h. closed_weighs (weight c.end_assignment.new.self) (parts_weight x.parts.now) (weight x) c.args.open c.in-Assign.place (ap open_weight c.in-Assign.is) h) c.end_assignment.ensures.weighs

pub returns-in_ok-why-in-Error-clause-weighs : goal.returns-in_ok-why-in-Error-clause-weighs
returns-in_ok-why-in-Error-clause-weighs g c = let w = ap open_weight c.in-Error.is in omega (arith, w)

pub returns-in_ok-end_trim-in-Trim-clause-weighs : goal.returns-in_ok-end_trim-in-Trim-clause-weighs
returns-in_ok-end_trim-in-Trim-clause-weighs g c =
    let x = c.args.self.now in
    closed_weighs (weight c.end_trim.new.self) (parts_weight x.parts.now) (weight x) c.args.open c.in-Trim.place (ap open_weight c.in-Trim.is) c.in_ok-end_trim-in-Trim.ensures.weighs

pub returns-in-Sum-clause-weighs : goal.returns-in-Sum-clause-weighs
returns-in-Sum-clause-weighs g c =
    let x = c.args.self.now in
    ok_map c.end_sum.result (λ h. closed_weighs (weight c.end_sum.new.self) (parts_weight x.parts.now) (weight x) c.args.open c.in-Sum.place (ap open_weight c.in-Sum.is) h) c.end_sum.ensures.weighs
