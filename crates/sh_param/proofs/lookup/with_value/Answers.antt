use Rattle.std.proofs.Common.{List, ℕ, Option, ◌++◌, sym, ap, ◌∙◌}
use Rattle.hs_world.specs.World.{WorldData}
use Rattle.hs_view.specs.Steps.{nothing}
use Rattle.hs_view.proofs.Acting.{acts_answer, acts_first, acts_memory_on, acts_on, acts_short, acts_then}
use Rattle.sh_param.specs.Lookups.{ifs_of, with_value}
use Rattle.sh_param.specs.Values.{pieces_of}
use Rattle.sh_param.specs.declared.piece.Piece.{Piece}
use Rattle.hs_view.specs.declared.halt.Halt.TheVariants.{NoMemory}
use Rattle.std.specs.Prelude.{None}
use Rattle.sh_param.proofs.Unread.{ifs_unread}
use Rattle.sh_param.proofs.lookup.with_value.Goals as goal

pub returns-in_err-ifs : goal.returns-in_err-ifs
returns-in_err-ifs g c =
    acts_on g.B.Base.seen (with_value c.args.mode c.args.value.now c.args.pieces) c.args.view.now c.ifs_of.new.view c.in_err-ifs.field-0.0 _ c.from_residual.ensures.0 c.from_residual.ensures.1
    (acts_first g.B.Base.seen (λ (w : WorldData). nothing (ifs_of w) w) (λ (ifs : Option (List ℕ)) (w : WorldData). nothing (c.args.pieces ++ pieces_of c.args.mode ifs c.args.value.now) w) c.args.view.now c.ifs_of.new.view c.in_err-ifs.field-0.0 c.in_err-ifs.ensures)

pub returns-in_err-all : goal.returns-in_err-all
returns-in_err-all g c =
    acts_on g.B.Base.seen (with_value c.args.mode c.args.value.now c.args.pieces) c.args.view.now c.ifs_of.new.view NoMemory _ c.from_residual-in_err-all.ensures.0 c.from_residual-in_err-all.ensures.1
    (acts_short g.B.Base.seen (λ (w : WorldData). nothing (ifs_of w) w) (λ (ifs : Option (List ℕ)) (w : WorldData). nothing (c.args.pieces ++ pieces_of c.args.mode ifs c.args.value.now) w) c.args.view.now c.ifs_of.new.view c.in_ok-ifs.ifs c.in_ok-ifs.ensures)

pub returns-then-needs_ifs : goal.returns-then-needs_ifs
returns-then-needs_ifs g c =
    let r = λ (ifs : Option (List ℕ)) (w : WorldData). nothing (c.args.pieces ++ pieces_of c.args.mode ifs c.args.value.now) w in
    acts_then g.B.Base.seen (λ (w : WorldData). nothing (ifs_of w) w) r c.args.view.now c.ifs_of.new.view c.ifs_of.new.view c.in_ok-ifs.ifs _ c.in_ok-ifs.ensures
    (acts_answer g.B.Base.seen (r c.in_ok-ifs.ifs) c.ifs_of.new.view c.in_ok-all.all (λ u s. ap (λ (x : List Piece). nothing x u) (sym c.in_ok-all.ensures)))

pub returns-in_err-all-2 : goal.returns-in_err-all-2
returns-in_err-all-2 g c = acts_memory_on g.B.Base.seen (with_value c.args.mode c.args.value.now c.args.pieces) c.args.view.now _ c.from_residual-in_err-all-2.ensures.0 c.from_residual-in_err-all-2.ensures.1

pub returns : goal.returns
returns g c = acts_answer g.B.Base.seen (with_value c.args.mode c.args.value.now c.args.pieces) c.args.view.now c.in_ok-all-2.all (λ u s. ap (λ (x : List Piece). nothing (c.args.pieces ++ x) u) (ifs_unread c.args.mode (ifs_of u) None c.args.value.now (sym c.needs_ifs.ensures ∙ c.if-needs_ifs.false)) ∙ ap (λ (x : List Piece). nothing x u) (sym c.in_ok-all-2.ensures))
