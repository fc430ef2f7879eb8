use Rattle.std.proofs.Common.{List, ap, ◌∙◌, subst}
use Rattle.std.specs.Prelude.{Ok, Err}
use Rattle.hs_world.specs.Paths.{begins_at}
use Rattle.hs_world.specs.World.{WorldData}
use Rattle.hs_view.specs.Acts.{Acts}
use Rattle.hs_view.specs.Steps.{nothing}
use Rattle.hs_view.proofs.Acting.{acts_memory_on}
use Rattle.sh_glob.specs.declared.part.Part.{Part}
use Rattle.sh_glob.specs.declared.place.Place.{Place}
use Rattle.sh_glob.specs.Parts.{bytes_of, parts_of}
use Rattle.sh_glob.specs.Paths.{matching}
use Rattle.sh_glob.specs.Places.{reached_from}
use Rattle.sh_glob.specs.Texts.{in_order, texts}
use Rattle.sh_glob.proofs.Acted.{acts_made, acts_made_halt, acts_made_short}
use Rattle.sh_glob.proofs.fields.matching.Goals as goal

pub returns-in_err-parts : goal.returns-in_err-parts
returns-in_err-parts g c =
    acts_memory_on g.B.Base.seen (λ (w : WorldData). nothing (matching w.tree w.cwd c.args.field.now) w) c.args.view.now _ c.from_residual.ensures.0 c.from_residual.ensures.1

pub returns-in_err-places : goal.returns-in_err-places
returns-in_err-places g c =
    let field = c.args.field.now in
    let h = λ (w : WorldData). reached_from w.tree (begins_at w.cwd (bytes_of field)) (parts_of field) in
    let f = λ (ps : List Place). in_order (texts ps) in
    let is = c.as_slice-2.ensures.value ∙ c.in_ok-parts.ensures ∙ ap parts_of c.as_slice.ensures in
    let i = c.in_err-places.field-0.0 in
    acts_made_halt g.B.Base.seen h f c.args.view.now c.reach_parts.new.view i _ c.from_residual-in_err-places.ensures.0 c.from_residual-in_err-places.ensures.1
    (subst (λ (ps : List Part). Acts {A = List Place} g.B.Base.seen (λ (w : WorldData). nothing (reached_from w.tree (begins_at w.cwd (bytes_of field)) ps) w) c.args.view.now c.reach_parts.new.view (Err i)) is c.in_err-places.ensures)

pub returns-in_err-list : goal.returns-in_err-list
returns-in_err-list g c =
    let field = c.args.field.now in
    let h = λ (w : WorldData). reached_from w.tree (begins_at w.cwd (bytes_of field)) (parts_of field) in
    let f = λ (ps : List Place). in_order (texts ps) in
    let is = c.as_slice-2.ensures.value ∙ c.in_ok-parts.ensures ∙ ap parts_of c.as_slice.ensures in
    let x = c.in_ok-places.places in
    acts_made_short g.B.Base.seen h f c.args.view.now c.reach_parts.new.view x _ c.from_residual-in_err-list.ensures.0 c.from_residual-in_err-list.ensures.1
    (subst (λ (ps : List Part). Acts g.B.Base.seen (λ (w : WorldData). nothing (reached_from w.tree (begins_at w.cwd (bytes_of field)) ps) w) c.args.view.now c.reach_parts.new.view (Ok x)) is c.in_ok-places.ensures)

pub returns : goal.returns
returns g c =
    let field = c.args.field.now in
    let h = λ (w : WorldData). reached_from w.tree (begins_at w.cwd (bytes_of field)) (parts_of field) in
    let f = λ (ps : List Place). in_order (texts ps) in
    let is = c.as_slice-2.ensures.value ∙ c.in_ok-parts.ensures ∙ ap parts_of c.as_slice.ensures in
    let x = c.in_ok-places.places in
    acts_made g.B.Base.seen h f c.args.view.now c.reach_parts.new.view x c.in_ok-list.list c.in_ok-list.ensures
    (subst (λ (ps : List Part). Acts g.B.Base.seen (λ (w : WorldData). nothing (reached_from w.tree (begins_at w.cwd (bytes_of field)) ps) w) c.args.view.now c.reach_parts.new.view (Ok x)) is c.in_ok-places.ensures)
