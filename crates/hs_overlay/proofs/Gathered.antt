-- Ends that are gathered one by one.
use Rattle.std.proofs.Common.{◌≡◌, ℕ, ◌+◌, ◌-◌, ◌<◌, suc, false, List, [], ◌∷◌, ◌++◌, refl, sym, ap, ◌∙◌, append_assoc, append-nil, arith}
use Rattle.std.specs.Prelude.{Option, Some, None}
use Rattle.hs_world.specs.declared.route.Route.{Route}
use Rattle.hs_overlay.specs.Routing.{RoutingData, seen_over, joined, ends_over}

-- with these in front
abbrev pub behind : List Route → Option (List Route) → Option (List Route)
behind items None = None
behind items (Some rs) = Some (items ++ rs)

more : (d : ℕ) (r : RoutingData) → d < 10 → ends_over (10 - d) d r ≡ joined (seen_over false d r.pushed r.base) (ends_over (10 - (d + 1)) (d + 1) r)
more d r h =
    let k : 10 - d ≡ suc (10 - (d + 1)) = omega (arith, h) in
    let n : suc d ≡ d + 1 = omega arith in
    ap (λ j. ends_over j d r) k ∙ ap (λ m. joined (seen_over false d r.pushed r.base) (ends_over (10 - (d + 1)) m r)) n

one_behind : (items : List Route) (route : Route) (rest : Option (List Route)) → behind (items ++ route ∷ []) rest ≡ behind items (joined (Some route) rest)
one_behind items route None = refl
one_behind items route (Some rs) = ap Some (append_assoc items (route ∷ []) rs)

pub gathered-more : (items items' : List Route) (r : RoutingData) (d : ℕ) (route : Route) (all : Option (List Route)) → d < 10 → seen_over false d r.pushed r.base ≡ Some route → items' ≡ items ++ route ∷ []
    → behind items (ends_over (10 - d) d r) ≡ all → behind items' (ends_over (10 - (d + 1)) (d + 1) r) ≡ all
gathered-more items items' r d route all h e i g =
    ap (λ l. behind l (ends_over (10 - (d + 1)) (d + 1) r)) i
    ∙ one_behind items route (ends_over (10 - (d + 1)) (d + 1) r)
    ∙ ap (λ o. behind items (joined o (ends_over (10 - (d + 1)) (d + 1) r))) (sym e)
    ∙ ap (behind items) (sym (more d r h))
    ∙ g

pub gathered-none : (items : List Route) (r : RoutingData) (d : ℕ) (all : Option (List Route)) → d < 10 → seen_over false d r.pushed r.base ≡ None → behind items (ends_over (10 - d) d r) ≡ all → None ≡ all
gathered-none items r d all h e g = sym (ap (behind items) (more d r h ∙ ap (λ o. joined o (ends_over (10 - (d + 1)) (d + 1) r)) e)) ∙ g

pub gathered-all : (items : List Route) (r : RoutingData) (d : ℕ) (all : Option (List Route)) → d ≡ 10 → behind items (ends_over (10 - d) d r) ≡ all → Some items ≡ all
gathered-all items r d all h g =
    let z : 10 - d ≡ 0 = omega (arith, h) in
    ap Some (sym (append-nil items)) ∙ sym (ap (λ k. behind items (ends_over k d r)) z) ∙ g
