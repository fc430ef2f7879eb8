use Rattle.std.proofs.Common.{refl, sym, ◌∙◌}
use Rattle.std.specs.Prelude.{Ok, Err}
use Rattle.sh_param.specs.Parts.{after_sum}
use Rattle.sh_param.specs.Pieces.{bytes_of}
use Rattle.sh_param.specs.Plans.{after}
use Rattle.sh_expand.specs.Rest.{behind_parts, place_means, rest_of}
use Rattle.sh_expand.specs.Sums.{sums}
use Rattle.sh_expand.proofs.Ending.{bytes_at, summed_on, told_on, unsummed_on}
use Rattle.sh_expand.proofs.Moving.{tried_on}
use Rattle.sh_expand.proofs.Looking.{loops_as, tried_memory, tried_short}
use Rattle.sh_expand.proofs.machine.Machine.end_sum.Goals as goal

pub returns-in_err-bytes-clause-moves : goal.returns-in_err-bytes-clause-moves
returns-in_err-bytes-clause-moves g c =
    let x = c.args.self.now in
    let p = c.args.place in
    tried_memory g.B.Base.seen (after (sums (bytes_of x.pieces)) (after_sum p.mode c.args.pieces (place_means p (behind_parts x)))) (rest_of x) c.args.view.now _ c.from_residual.ensures.0 c.from_residual.ensures.1

pub returns-in_err-number-clause-moves : goal.returns-in_err-number-clause-moves
returns-in_err-number-clause-moves g c =
    let x = c.args.self.now in
    let p = c.args.place in
    let k = place_means p (behind_parts x) in
    let h = c.in_err-number.field-0.0 in
    tried_on g.B.Base.seen (after (sums (bytes_of x.pieces)) (after_sum p.mode c.args.pieces k)) (rest_of c.resume.new.self) c.args.view.now c.summed.new.view h _ c.from_residual-in_err-number.ensures.0 c.from_residual-in_err-number.ensures.1
    (unsummed_on g.B.Base.seen p.mode c.as_slice.result.now (bytes_of x.pieces) c.args.pieces k c.args.view.now c.summed.new.view h (c.as_slice.ensures ∙ c.in_ok-bytes.ensures) c.in_err-number.ensures)

pub returns-in_err-put_bytes-in-Ok-clause-moves : goal.returns-in_err-put_bytes-in-Ok-clause-moves
returns-in_err-put_bytes-in-Ok-clause-moves g c =
    let x = c.args.self.now in
    let p = c.args.place in
    let k = place_means p (behind_parts x) in
    tried_short g.B.Base.seen (after (sums (bytes_of x.pieces)) (after_sum p.mode c.args.pieces k)) (after_sum p.mode c.args.pieces k (Ok c.in-Ok.number)) (rest_of c.put_bytes.new.self) c.args.view.now c.summed.new.view _
    c.from_residual-in_err-put_bytes-in-Ok.ensures.0 c.from_residual-in_err-put_bytes-in-Ok.ensures.1
    (summed_on g.B.Base.seen p.mode c.as_slice.result.now (bytes_of x.pieces) c.args.pieces k c.args.view.now c.summed.new.view _ (Ok c.in-Ok.number) (c.as_slice.ensures ∙ c.in_ok-bytes.ensures) c.in-Ok.is c.in_ok-number.ensures)

pub returns-in-Ok-clause-moves : goal.returns-in-Ok-clause-moves
returns-in-Ok-clause-moves g c =
    let x = c.args.self.now in
    let y = c.resume.new.self in
    let p = c.args.place in
    let k = place_means p (behind_parts x) in
    let r = c.resume.ensures in
    loops_as g.B.Base.seen (after (sums (bytes_of x.pieces)) (after_sum p.mode c.args.pieces k)) (after_sum p.mode c.args.pieces k (Ok c.in-Ok.number)) (rest_of c.put_bytes.new.self) c.args.view.now c.summed.new.view
    (summed_on g.B.Base.seen p.mode c.as_slice.result.now (bytes_of x.pieces) c.args.pieces k c.args.view.now c.summed.new.view _ (Ok c.in-Ok.number) (c.as_slice.ensures ∙ c.in_ok-bytes.ensures) c.in-Ok.is c.in_ok-number.ensures)
    (sym (c.in_ok-put_bytes-in-Ok.ensures.rest ∙ bytes_at y p.mode c.as_slice-in-Ok.result.now c.in-Ok.number c.args.pieces k r.mode r.pieces r.next c.as_slice-in-Ok.ensures))

pub returns-clause-moves : goal.returns-clause-moves
returns-clause-moves g c =
    let x = c.args.self.now in
    let p = c.args.place in
    let k = place_means p (behind_parts x) in
    told_on g.B.Base.seen (after (sums (bytes_of x.pieces)) (after_sum p.mode c.args.pieces k)) (after_sum p.mode c.args.pieces k (Err c.in-Err.why)) c.args.view.now c.summed.new.view c.in-Err.why
    (summed_on g.B.Base.seen p.mode c.as_slice.result.now (bytes_of x.pieces) c.args.pieces k c.args.view.now c.summed.new.view _ (Err c.in-Err.why) (c.as_slice.ensures ∙ c.in_ok-bytes.ensures) c.in-Err.is c.in_ok-number.ensures)
    refl
