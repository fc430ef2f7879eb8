use Rattle.std.proofs.Common.{◌≡◌, ℕ, ◌+◌, ◌<◌, ◌≤◌, false, List, ◌∷◌, [], ◌++◌, sym, ap, ◌∙◌, arith}
use Rattle.sh_split.specs.declared.mark.Mark.TheVariants.{Quoted}
use Rattle.sh_syntax.specs.declared.tree.Part.{Part}
use Rattle.sh_param.specs.Lookups.{with_text}
use Rattle.sh_param.specs.Parts.{Meaning, double_means, follow_of, param_means, single_pieces, sum_means}
use Rattle.sh_param.specs.Plans.{after}
use Rattle.sh_param.specs.Tildes.{starts_after}
use Rattle.sh_param.specs.declared.piece.Piece.TheVariants as piece
use Rattle.sh_expand.specs.Rest.{means, next_of, part_plan, rest_of, waiting_of, with_start}
use Rattle.sh_expand.specs.Sums.{sums}
use Rattle.sh_expand.specs.Weights.{part_weight, parts_weight, weight}
use Rattle.sh_expand.proofs.Layers.{plan_arith, plan_command, plan_double, plan_escaped, plan_param, plan_plain, plan_single}
use Rattle.sh_expand.proofs.Stepping.{arrives_wanting, on_kept, on_told, stepped_kept, stepped_quietly, stepped_told}
use Rattle.sh_expand.proofs.Weighing.{weight_arith, weight_double, weight_param}
use Rattle.sh_expand.proofs.machine.Machine.part.Goals as goal

pub returns-in-Plain-clause-moves : goal.returns-in-Plain-clause-moves
returns-in-Plain-clause-moves g c =
    let x = c.args.self.now in
    stepped_quietly g.B.Base.seen (part_plan c.args.part.now x) (after (with_text x.mode x.start (follow_of (means x.parts.now)) c.in-Plain.text x.pieces) (next_of (with_start (starts_after x.mode x.start c.in-Plain.text) x)))
    (rest_of c.plain.new.self) (waiting_of c.plain.new.self) c.args.view.now c.plain.new.view c.plain.result c.going.result
    (ap (λ (p : Part). part_plan p x) c.in-Plain.is ∙ plan_plain c.in-Plain.text x) c.going.ensures c.plain.ensures.moves

pub returns-in-Single-clause-moves : goal.returns-in-Single-clause-moves
returns-in-Single-clause-moves g c =
    let x = c.args.self.now in
    stepped_kept g.B.Base.seen (part_plan c.args.part.now x) (next_of (with_start false x) (x.pieces ++ single_pieces c.as_slice.result.now)) (rest_of c.single.new.self) (waiting_of c.single.new.self) c.args.view.now c.single.result c.kept.result
    (ap (λ (p : Part). part_plan p x) c.in-Single.is ∙ plan_single c.in-Single.text x ∙ ap (λ (t : List ℕ). next_of (with_start false x) (x.pieces ++ single_pieces t)) (sym c.as_slice.ensures))
    c.kept.ensures c.single.ensures.rest

pub returns-in-Escaped-clause-moves : goal.returns-in-Escaped-clause-moves
returns-in-Escaped-clause-moves g c =
    let x = c.args.self.now in
    stepped_kept g.B.Base.seen (part_plan c.args.part.now x) (next_of (with_start false x) (x.pieces ++ piece.Mark (Quoted c.in-Escaped.byte) ∷ [])) (rest_of c.escaped.new.self) (waiting_of c.escaped.new.self) c.args.view.now c.escaped.result c.kept-in-Escaped.result
    (ap (λ (p : Part). part_plan p x) c.in-Escaped.is ∙ plan_escaped c.in-Escaped.byte x)
    c.kept-in-Escaped.ensures c.escaped.ensures.rest

pub returns-in-Double-clause-moves : goal.returns-in-Double-clause-moves
returns-in-Double-clause-moves g c =
    let x = c.args.self.now in
    stepped_kept g.B.Base.seen (part_plan c.args.part.now x) (double_means (means c.as_slice-in-Double.result.now) x.mode x.pieces (next_of (with_start false x))) (rest_of c.double.new.self) (waiting_of c.double.new.self) c.args.view.now c.double.result c.kept-in-Double.result
    (ap (λ (p : Part). part_plan p x) c.in-Double.is ∙ plan_double c.in-Double.parts x ∙ ap (λ (ps : List Part). double_means (means ps) x.mode x.pieces (next_of (with_start false x))) (sym c.as_slice-in-Double.ensures))
    c.kept-in-Double.ensures c.double.ensures.rest

pub returns-in-Double-clause-weighs : goal.returns-in-Double-clause-weighs
returns-in-Double-clause-weighs g c =
    on_kept (weight c.double.new.self ≡ parts_weight c.as_slice-in-Double.result.now + 1 + weight c.args.self.now) (weight c.double.new.self < part_weight c.args.part.now + weight c.args.self.now) c.double.result c.kept-in-Double.result c.kept-in-Double.ensures c.double.ensures.weighs
    (λ e. omega (arith, e, ap parts_weight c.as_slice-in-Double.ensures, ap part_weight c.in-Double.is, weight_double c.in-Double.parts))

pub returns-in-Arith-clause-moves : goal.returns-in-Arith-clause-moves
returns-in-Arith-clause-moves g c =
    let x = c.args.self.now in
    stepped_kept g.B.Base.seen (part_plan c.args.part.now x) (sum_means sums x.mode (means c.as_slice-in-Arith.result.now) x.pieces (next_of (with_start false x))) (rest_of c.sum.new.self) (waiting_of c.sum.new.self) c.args.view.now c.sum.result c.kept-in-Arith.result
    (ap (λ (p : Part). part_plan p x) c.in-Arith.is ∙ plan_arith c.in-Arith.word x ∙ ap (λ (ps : List Part). sum_means sums x.mode (means ps) x.pieces (next_of (with_start false x))) (sym c.as_slice-in-Arith.ensures))
    c.kept-in-Arith.ensures c.sum.ensures.rest

pub returns-in-Arith-clause-weighs : goal.returns-in-Arith-clause-weighs
returns-in-Arith-clause-weighs g c =
    on_kept (weight c.sum.new.self ≤ parts_weight c.as_slice-in-Arith.result.now + 1 + weight c.args.self.now) (weight c.sum.new.self < part_weight c.args.part.now + weight c.args.self.now) c.sum.result c.kept-in-Arith.result c.kept-in-Arith.ensures c.sum.ensures.weighs
    (λ e. omega (arith, e, ap parts_weight c.as_slice-in-Arith.ensures, ap part_weight c.in-Arith.is, weight_arith c.in-Arith.word))

pub returns-in-Command-clause-moves : goal.returns-in-Command-clause-moves
returns-in-Command-clause-moves g c =
    let x = c.args.self.now in
    arrives_wanting g.B.Base.seen (part_plan c.args.part.now x) c.in-Command.list (waiting_of (with_start false x)) c.args.view.now (ap (λ (p : Part). part_plan p x) c.in-Command.is ∙ plan_command c.in-Command.list x)

pub returns-in-Param-clause-moves : goal.returns-in-Param-clause-moves
returns-in-Param-clause-moves g c =
    let x = c.args.self.now in
    stepped_told g.B.Base.seen (part_plan c.args.part.now x) (param_means c.in-Param.name c.in-Param.op c.in-Param.colon (means c.word_of.result.now) x.mode x.pieces (next_of (with_start false x))) (rest_of c.param.new.self) (waiting_of c.param.new.self) c.args.view.now c.param.new.view c.param.result c.failing.result
    (ap (λ (p : Part). part_plan p x) c.in-Param.is ∙ plan_param c.in-Param.name c.in-Param.op c.in-Param.colon c.in-Param.word x ∙ ap (λ (ps : List Meaning). param_means c.in-Param.name c.in-Param.op c.in-Param.colon ps x.mode x.pieces (next_of (with_start false x))) (sym c.word_of.ensures.means))
    c.failing.ensures c.param.ensures.moves

pub returns-in-Param-clause-weighs : goal.returns-in-Param-clause-weighs
returns-in-Param-clause-weighs g c =
    on_told (weight c.param.new.self ≤ parts_weight c.word_of.result.now + 1 + weight c.args.self.now) (weight c.param.new.self < part_weight c.args.part.now + weight c.args.self.now) c.param.result c.failing.result c.failing.ensures c.param.ensures.weighs
    (λ e. omega (arith, e, c.word_of.ensures.weighs, ap part_weight c.in-Param.is, weight_param c.in-Param.name c.in-Param.op c.in-Param.colon c.in-Param.word))
