use Rattle.std.proofs.Common.{List, ◌∙◌}
use Rattle.hs_view.proofs.Keeping.{ok_map}
use Rattle.sh_param.specs.Modes.{sum}
use Rattle.sh_param.specs.Parts.{Next, after_sum}
use Rattle.sh_param.specs.Pieces.{bytes_of}
use Rattle.sh_param.specs.Plans.{after}
use Rattle.sh_param.specs.declared.mode.Mode.{Mode}
use Rattle.sh_param.specs.declared.piece.Piece.{Piece}
use Rattle.sh_expand.specs.Sums.{sums}
use Rattle.sh_expand.specs.Weights.{parts_weight, weight}
use Rattle.sh_expand.proofs.Looking.{aside_of, aside_weighs}
use Rattle.sh_expand.proofs.machine.Machine.sum.Goals as goal

pub returns-clause-rest : goal.returns-clause-rest
returns-clause-rest c =
    let x = c.args.self.now in
    ok_map c.enter_aside.result
    (λ e. e ∙ aside_of x c.take_pieces-pieces.new.self c.place-place.result c.take_pieces-pieces.result c.sum-mode.result (sum x.mode) c.args.word.now (λ (m : Mode) (ps : List Piece) (k : Next) (qs : List Piece). after (sums (bytes_of qs)) (after_sum m ps k))
    c.take_pieces-pieces.ensures.rest c.take_pieces-pieces.ensures.pieces c.place-place.ensures.mode c.place-place.ensures.parts c.requires c.sum-mode.ensures)
    c.enter_aside.ensures.rest

pub returns-clause-weighs : goal.returns-clause-weighs
returns-clause-weighs c =
    ok_map c.enter_aside.result (λ h. aside_weighs (weight c.enter_aside.new.self) (parts_weight c.args.word.now) c.args.self.now c.take_pieces-pieces.new.self c.place-place.result c.take_pieces-pieces.ensures.rest c.place-place.ensures.parts h)
    c.enter_aside.ensures.weighs
