use Rattle.std.proofs.Common.{List, ℕ, Bool, [], ◌∷◌, sym, ap, ◌∙◌, subst}
use Rattle.std.specs.Prelude.{if◌then◌else◌, nat_lt}
use Rattle.hs_world.specs.declared.effect.Effect.TheVariants.{PushInput, PopInput}
use Rattle.hs_view.specs.Acts.{Acts}
use Rattle.hs_view.specs.Steps.{Done}
use Rattle.hs_view.proofs.Acting.{acts_answer, acts_as}
use Rattle.sh_leaf.specs.Expanding.{lines_of, list_length, measured_done, taken_away}
use Rattle.sh_leaf.proofs.measuring.measure.Goals as goal

abbrev by_length : Bool → List (List ℕ) → Done (Unit {0})
by_length long ts = record { effects = if long then PushInput (lines_of ts) ∷ PopInput ∷ [] else []; answer = tt }

pub returns-then-are_long : goal.returns-then-are_long
returns-then-are_long g c =
    let ts = c.args.texts.now in
    acts_as g.B.Base.seen (taken_away (lines_of ts)) (measured_done ts) c.args.view.now c.measure_long.new.view c.measure_long.result
    (λ u s. ap (λ (b : Bool). by_length b ts) (sym c.if-are_long.true ∙ c.are_long.ensures ∙ ap (λ (xs : List (List ℕ)). nat_lt 1024 (list_length xs)) c.as_slice.ensures))
    (subst (λ (xs : List (List ℕ)). Acts g.B.Base.seen (taken_away (lines_of xs)) c.args.view.now c.measure_long.new.view c.measure_long.result) c.as_slice-then-are_long.ensures c.measure_long.ensures)

pub returns : goal.returns
returns g c =
    let ts = c.args.texts.now in
    acts_answer g.B.Base.seen (measured_done ts) c.args.view.now tt
    (λ u s. ap (λ (b : Bool). by_length b ts) (sym (sym c.if-are_long.false ∙ c.are_long.ensures ∙ ap (λ (xs : List (List ℕ)). nat_lt 1024 (list_length xs)) c.as_slice.ensures)))
