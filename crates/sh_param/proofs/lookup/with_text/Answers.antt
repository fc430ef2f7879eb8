use Rattle.std.proofs.Common.{List, ℕ, Option, ◌++◌, sym, ap, ◌∙◌}
use Rattle.hs_world.specs.World.{WorldData}
use Rattle.hs_view.specs.Steps.{nothing}
use Rattle.hs_view.proofs.Acting.{acts_answer, acts_first, acts_memory_on, acts_on, acts_short, acts_then}
use Rattle.sh_param.specs.Lookups.{home_of, with_text, written}
use Rattle.sh_param.specs.declared.piece.Piece.{Piece}
use Rattle.hs_view.specs.declared.halt.Halt.TheVariants.{NoMemory}
use Rattle.std.specs.Prelude.{None}
use Rattle.sh_param.proofs.Unread.{home_unread}
use Rattle.sh_param.specs.Lookups.{needs_home}
use Rattle.sh_param.proofs.lookup.with_text.Goals as goal

pub returns-in_err-home : goal.returns-in_err-home
returns-in_err-home g c =
    acts_on g.B.Base.seen (with_text c.args.mode c.args.start c.args.follow c.args.text.now c.args.pieces) c.args.view.now c.home_of.new.view c.in_err-home.field-0.0 _ c.from_residual.ensures.0 c.from_residual.ensures.1
    (acts_first g.B.Base.seen (λ (w : WorldData). nothing (home_of w) w) (λ (home : Option (List ℕ)) (w : WorldData). nothing (c.args.pieces ++ written c.args.mode c.args.start home c.args.follow c.args.text.now) w) c.args.view.now c.home_of.new.view c.in_err-home.field-0.0 c.in_err-home.ensures)

pub returns-in_err-all : goal.returns-in_err-all
returns-in_err-all g c =
    acts_on g.B.Base.seen (with_text c.args.mode c.args.start c.args.follow c.args.text.now c.args.pieces) c.args.view.now c.home_of.new.view NoMemory _ c.from_residual-in_err-all.ensures.0 c.from_residual-in_err-all.ensures.1
    (acts_short g.B.Base.seen (λ (w : WorldData). nothing (home_of w) w) (λ (home : Option (List ℕ)) (w : WorldData). nothing (c.args.pieces ++ written c.args.mode c.args.start home c.args.follow c.args.text.now) w) c.args.view.now c.home_of.new.view c.in_ok-home.home c.in_ok-home.ensures)

pub returns-then-needs_home : goal.returns-then-needs_home
returns-then-needs_home g c =
    let r = λ (home : Option (List ℕ)) (w : WorldData). nothing (c.args.pieces ++ written c.args.mode c.args.start home c.args.follow c.args.text.now) w in
    acts_then g.B.Base.seen (λ (w : WorldData). nothing (home_of w) w) r c.args.view.now c.home_of.new.view c.home_of.new.view c.in_ok-home.home _ c.in_ok-home.ensures
    (acts_answer g.B.Base.seen (r c.in_ok-home.home) c.home_of.new.view c.in_ok-all.all (λ u s. ap (λ (t : List ℕ). nothing (c.args.pieces ++ written c.args.mode c.args.start c.in_ok-home.home c.args.follow t) u) (sym c.as_slice-then-needs_home.ensures) ∙ ap (λ (x : List Piece). nothing x u) (sym c.in_ok-all.ensures)))

pub returns-in_err-all-2 : goal.returns-in_err-all-2
returns-in_err-all-2 g c = acts_memory_on g.B.Base.seen (with_text c.args.mode c.args.start c.args.follow c.args.text.now c.args.pieces) c.args.view.now _ c.from_residual-in_err-all-2.ensures.0 c.from_residual-in_err-all-2.ensures.1

pub returns : goal.returns
returns g c = acts_answer g.B.Base.seen (with_text c.args.mode c.args.start c.args.follow c.args.text.now c.args.pieces) c.args.view.now c.in_ok-all-2.all (λ u s. ap (λ (x : List Piece). nothing (c.args.pieces ++ x) u) (home_unread c.args.mode c.args.start (home_of u) None c.args.follow c.args.text.now (ap (needs_home c.args.mode) (sym c.as_slice.ensures) ∙ sym c.needs_home.ensures ∙ c.if-needs_home.false)) ∙ ap (λ (t : List ℕ). nothing (c.args.pieces ++ written c.args.mode c.args.start None c.args.follow t) u) (sym c.as_slice-2.ensures) ∙ ap (λ (x : List Piece). nothing x u) (sym c.in_ok-all-2.ensures))
