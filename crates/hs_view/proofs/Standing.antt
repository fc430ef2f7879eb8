-- Effects that leave the pushes as they stand, and pops that find their push.
use Rattle.std.proofs.Common.{◌≡◌, ◌+◌, ◌-◌, ℕ, min, true, List, [], ◌∷◌, ◌++◌, refl, sym, ap, ◌∙◌, arith}
use Rattle.std.proofs.lemmas.Bool.{lt-ltb}
use Rattle.hs_world.specs.declared.effect.Effect.{Effect}
use Rattle.hs_world.specs.declared.effect.Effect.TheVariants.{PushShell, PopShell, PushInput, PopInput, PushRoutes, PopRoutes}
use Rattle.hs_world.specs.declared.route.Route.{Route}
use Rattle.hs_view.specs.Pushes.{Standing, none_standing, standing_step, standing_all, standing, is_standing, has_push, mark_of, marked_step}
use Rattle.hs_view.specs.declared.pushes.Mark.TheVariants as mark
use Rattle.hs_view.proofs.Pushing.{standing-more, marked}

pub record Leaves (es : List Effect) : Type 0 where
  pub all : (s : Standing) → standing_all es s ≡ s

pub standing-append : (es fs : List Effect) (s : Standing) → standing_all (es ++ fs) s ≡ standing_all fs (standing_all es s)
standing-append [] fs s = refl
standing-append (e ∷ es) fs s = standing-append es fs (standing_step e s)

pub leaves_none : Leaves []
leaves_none = record { all = λ s. refl }

pub leaves_then : (es fs : List Effect) → Leaves es → Leaves fs → Leaves (es ++ fs)
leaves_then es fs l m = record { all = λ s. standing-append es fs s ∙ ap (standing_all fs) (l.all s) ∙ m.all s }

-- an effect that neither pushes nor pops
pub leaves_other : (e : Effect) (es : List Effect) → mark_of e ≡ mark.Other → Leaves es → Leaves (e ∷ es)
leaves_other e es h l = record { all = λ s. l.all (standing_step e s) ∙ sym (marked e s) ∙ ap (λ m. marked_step m s) h }

-- a push, such effects, and its pop
pub leaves_shell : (es : List Effect) → Leaves es → Leaves (PushShell ∷ es ++ PopShell ∷ [])
leaves_shell es l = record {
  all = λ s.
      let t : Standing = standing_step PushShell s in
      let e : min s.inputs s.inputs ≡ s.inputs = omega arith in
      standing-more es PopShell t ∙ ap (standing_step PopShell) (l.all t) ∙ (λ i. record s { inputs = e i });
}

pub leaves_input : (text : List ℕ) (es : List Effect) → Leaves es → Leaves (PushInput text ∷ es ++ PopInput ∷ [])
leaves_input text es l = record {
  all = λ s.
      let t : Standing = standing_step (PushInput text) s in
      let e : (s.inputs + 1) - 1 ≡ s.inputs = omega arith in
      standing-more es PopInput t ∙ ap (standing_step PopInput) (l.all t) ∙ (λ i. record s { inputs = e i });
}

pub leaves_routes : (routes : List Route) (es : List Effect) → Leaves es → Leaves (PushRoutes routes ∷ es ++ PopRoutes ∷ [])
leaves_routes routes es l = record {
  all = λ s.
      let t : Standing = standing_step (PushRoutes routes) s in
      let e : (s.routes + 1) - 1 ≡ s.routes = omega arith in
      standing-more es PopRoutes t ∙ ap (standing_step PopRoutes) (l.all t) ∙ (λ i. record s { routes = e i });
}

-- ---- pops that find their push

-- behind effects that leave what stands
pub push_left : (e : Effect) (es fs : List Effect) → Leaves fs → has_push e (es ++ fs) ≡ has_push e es
push_left e es fs l = ap (is_standing e) (standing-append es fs none_standing ∙ l.all (standing es))

behind : (push : Effect) (es fs : List Effect) → Leaves fs → standing (es ++ push ∷ fs) ≡ standing_step push (standing es)
behind push es fs l = standing-append es (push ∷ fs) none_standing ∙ l.all (standing_step push (standing es))

pub finds_shell : (es fs : List Effect) → Leaves fs → has_push PopShell (es ++ PushShell ∷ fs) ≡ true
finds_shell es fs l = ap (is_standing PopShell) (behind PushShell es fs l)

pub finds_input : (text : List ℕ) (es fs : List Effect) → Leaves fs → has_push PopInput (es ++ PushInput text ∷ fs) ≡ true
finds_input text es fs l = ap (is_standing PopInput) (behind (PushInput text) es fs l) ∙ lt-ltb 0 ((standing es).inputs + 1) (omega arith)

pub finds_routes : (routes : List Route) (es fs : List Effect) → Leaves fs → has_push PopRoutes (es ++ PushRoutes routes ∷ fs) ≡ true
finds_routes routes es fs l = ap (is_standing PopRoutes) (behind (PushRoutes routes) es fs l) ∙ lt-ltb 0 ((standing es).routes + 1) (omega arith)
