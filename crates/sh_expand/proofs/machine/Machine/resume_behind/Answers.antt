use Rattle.std.proofs.Common.{sym, arith}
use Rattle.hs_view.proofs.Keeping.{ok_map}
use Rattle.sh_param.specs.Parts.{put_value}
use Rattle.sh_expand.specs.Rest.{behind_parts, next_of, place_means, rest_of}
use Rattle.sh_expand.proofs.Ending.{moved_from, value_at}
use Rattle.sh_expand.proofs.machine.Machine.resume_behind.Goals as goal

pub returns-clause-moves : goal.returns-clause-moves
returns-clause-moves g c =
    let x = c.args.self.now in
    let y = c.resume.new.self in
    let p = c.args.place in
    let k = place_means p (behind_parts x) in
    moved_from g.B.Base.seen (put_value p.mode c.args.value.now c.args.pieces k) (put_value y.mode c.args.value.now y.pieces (next_of y)) (rest_of c.put.new.self) c.args.view.now c.put.new.view c.put.result
    (sym (value_at y p.mode c.args.value.now c.args.pieces k c.resume.ensures.mode c.resume.ensures.pieces c.resume.ensures.next)) c.put.ensures.moves

pub returns-clause-weighs : goal.returns-clause-weighs
returns-clause-weighs g c = let r = c.resume.ensures.weighs in ok_map c.put.result (λ h. omega (arith, r, h)) c.put.ensures.weighs
