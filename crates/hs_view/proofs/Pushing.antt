-- Counts of pushes are those of the tables of effects.
use Rattle.std.proofs.Common.{not, T, subst, suc, ◌≡◌, ◌≤◌, ◌<◌, ℕ, ◌+◌, ◌-◌, min, Bool, true, false, List, [], ◌∷◌, ◌++◌, length, map, drop, refl, sym, ap, ◌∙◌, arith, leb, nat_lt}
use Rattle.std.specs.Prelude.{Option, Some, None, unwrap_or}
use Rattle.std.proofs.lemmas.Bool.{lt-ltb}
use Rattle.std.proofs.lemmas.List.{length-drop}
use Rattle.hs_world.specs.Tables.{fd_number, route_at, take_up, emitted_in}
use Rattle.hs_world.specs.World.{WorldData, is_pushed, is_valid}
use Rattle.hs_world.specs.declared.effect.Effect.{Effect}
use Rattle.hs_world.specs.declared.effect.Effect.TheVariants.{Emit, PushShell, PopShell, PushInput, SetInput, PopInput, PushRoutes, PopRoutes, SetRoutes, ExecInput, Replied}
use Rattle.hs_world.specs.declared.route.Route.{Route}
use Rattle.hs_world.specs.declared.route.Route.TheVariants.{Stream, File, Null, Closed, Capture, Same}
use Rattle.hs_world.specs.declared.route.RouteTable.{RouteTable}
use Rattle.hs_world.specs.declared.shell.Shell.{Shell}
use Rattle.hs_overlay.specs.Inputs.{InputsData, with_held, held_back, inputs_returned, input_of}
use Rattle.hs_overlay.specs.Over.{Over}
use Rattle.hs_overlay.specs.Overlay.{OverlayData, no_overlay, popped_shell, over_step, over_all, has_own}
use Rattle.hs_overlay.specs.Routing.{RoutingData, lead, base_end, arrived, passed_on, top_with, with_saved, routes_returned}
use Rattle.hs_overlay.specs.Shells.{ShellsOver, goes_back, noted_over, lowered_over}
use Rattle.hs_overlay.specs.Stacks.{pushed_set}
use Rattle.hs_overlay.specs.declared.shells.Saved.{Saved}
use Rattle.hs_overlay.proofs.Piles.{depth_is}
use Rattle.hs_overlay.proofs.RoutingLaws.{tables-depth}
use Rattle.hs_view.specs.Known.{Tabled, ends_in, routes_in}
use Rattle.hs_view.specs.Seen.{Shows}
use Rattle.hs_view.specs.View.{Viewed, Showed, own, own_of}
use Rattle.hs_view.specs.declared.pushes.Mark.{Mark}
use Rattle.hs_view.specs.Pushes.{Standing, none_standing, without_shell, standing_step, standing_all, standing, is_standing, has_push, is_own_pop, mark_of, marked_step}

-- ---- one effect more

pub standing-more : (es : List Effect) (e : Effect) (s : Standing) → standing_all (es ++ e ∷ []) s ≡ standing_step e (standing_all es s)
standing-more [] e s = refl
standing-more (x ∷ xs) e s = standing-more xs e (standing_step x s)

pub marked : (e : Effect) (s : Standing) → marked_step (mark_of e) s ≡ standing_step e s
marked PushShell s = refl
marked PopShell s = refl
marked (PushInput text) s = refl
marked PopInput s = refl
marked (PushRoutes routes) s = refl
marked PopRoutes s = refl
marked _ s = refl

-- ---- as many as there are effects, at most

min_below : (shells : List ℕ) (s : Standing) (n : ℕ) → s.inputs ≤ n → (without_shell shells s).inputs ≤ n
min_below [] s n h = h
min_below (m ∷ ms) s n h = omega (arith, h)

same_routes : (shells : List ℕ) (s : Standing) → (without_shell shells s).routes ≡ s.routes
same_routes [] s = refl
same_routes (m ∷ ms) s = refl

inputs_step : (e : Effect) (s : Standing) (n : ℕ) → s.inputs ≤ n → (standing_step e s).inputs ≤ n + 1
inputs_step PopShell s n h = let k = min_below s.shells s n h in omega (arith, k)
inputs_step (PushInput text) s n h = omega (arith, h)
inputs_step PopInput s n h = omega (arith, h)
inputs_step _ s n h = omega (arith, h)

routes_step : (e : Effect) (s : Standing) (n : ℕ) → s.routes ≤ n → (standing_step e s).routes ≤ n + 1
routes_step PopShell s n h = let k = same_routes s.shells s in omega (arith, k, h)
routes_step (PushRoutes routes) s n h = omega (arith, h)
routes_step PopRoutes s n h = omega (arith, h)
routes_step _ s n h = omega (arith, h)

inputs_all : (es : List Effect) (s : Standing) (n : ℕ) → s.inputs ≤ n → (standing_all es s).inputs ≤ n + length es
inputs_all [] s n h = omega (arith, h)
inputs_all (e ∷ es) s n h = let k = inputs_all es (standing_step e s) (n + 1) (inputs_step e s n h) in omega (arith, k)

routes_all : (es : List Effect) (s : Standing) (n : ℕ) → s.routes ≤ n → (standing_all es s).routes ≤ n + length es
routes_all [] s n h = omega (arith, h)
routes_all (e ∷ es) s n h = let k = routes_all es (standing_step e s) (n + 1) (routes_step e s n h) in omega (arith, k)

pub inputs-below : (es : List Effect) → (standing es).inputs ≤ length es
inputs-below es = let k = inputs_all es none_standing 0 (omega arith) in omega (arith, k)

pub routes-below : (es : List Effect) → (standing es).routes ≤ length es
routes-below es = let k = routes_all es none_standing 0 (omega arith) in omega (arith, k)

-- ---- as the tables of effects have them

abbrev pub standing_in : OverlayData → Standing
standing_in o = record { shells = map (λ s. s.inputs) o.shells; inputs = length o.inputs.pushed; routes = length o.routing.pushed }

set_length : {A : Type 0} (x : A) (xs : List A) → length (pushed_set x xs) ≡ length xs
set_length x [] = refl
set_length x (y ∷ ys) = refl

held_length : (held : Option (List ℕ)) (i : InputsData) → length (with_held held i).pushed ≡ length i.pushed
held_length None i = refl
held_length (Some text) i = set_length text i.pushed

back_length : (back : Bool) (held : Option (Option (List ℕ))) (i : InputsData) → length (held_back back held i).pushed ≡ length i.pushed
back_length true None i = refl
back_length true (Some old) i = held_length old i
back_length false held i = refl

returned_length : (n : ℕ) (held : Option (Option (List ℕ))) (i : InputsData) → length (inputs_returned n held i).pushed ≡ min n (length i.pushed)
returned_length n held i =
    let k = length-drop (length i.pushed - n) i.pushed in
    let l = back_length (leb n (length i.pushed)) held (record i { pushed = drop (length i.pushed - n) i.pushed }) in
    omega (arith, k, l)

top_length : (routes : List Route) (ts : List RouteTable) → length (top_with routes ts) ≡ length ts
top_length routes [] = refl
top_length routes (t ∷ ts) = refl

saved_length : (routes : Option (List Route)) (r : RoutingData) → length (with_saved routes r).pushed ≡ length r.pushed
saved_length None r = refl
saved_length (Some routes) r = top_length routes r.pushed

routing_length : (back : Bool) (routes : Option (List Route)) (r : RoutingData) → length (routes_returned back routes r).pushed ≡ length r.pushed
routing_length true routes r = saved_length routes r
routing_length false routes r = refl

arrived_length : (e : Option Route) (text : List ℕ) (r : RoutingData) → length (arrived e text r).pushed ≡ length r.pushed
arrived_length None text r = refl
arrived_length (Some end) text r = refl

passed_length : (o : Option ℕ) (text : List ℕ) (r : RoutingData) → length (passed_on o text r).pushed ≡ length r.pushed
passed_length None text r = refl
passed_length (Some n) text r = arrived_length (base_end r.base n) text r

emitted_length : (n : ℕ) (text : List ℕ) (ts : List RouteTable) → length (emitted_in n text ts) ≡ length ts
emitted_length n text [] = refl
emitted_length n text (t ∷ ts) =
    elim (route_at n t.routes) as (λ r. length {A = RouteTable} (elim r [
      | Same m ↦ t ∷ emitted_in m text ts
      | Capture ↦ take_up Capture text t ∷ ts
      | Stream fd ↦ t ∷ ts
      | File p ↦ t ∷ ts
      | Null ↦ t ∷ ts
      | Closed ↦ t ∷ ts
    ]) ≡ suc (length ts)) [
      | Same m ↦ ap suc (emitted_length m text ts)
      | Capture ↦ refl
      | Stream fd ↦ refl
      | File p ↦ refl
      | Null ↦ refl
      | Closed ↦ refl
    ]

noted_inputs : (ss : List Saved) (n : ℕ) (top : Option (List ℕ)) → map (λ s. s.inputs) (noted_over ss n top) ≡ map (λ s. s.inputs) ss
noted_inputs [] n top = refl
noted_inputs (s ∷ ss) n top = refl

lowered_inputs : (ss : List Saved) (n : ℕ) → map (λ s. s.inputs) (lowered_over ss n) ≡ map (λ s. s.inputs) ss
lowered_inputs [] n = refl
lowered_inputs (s ∷ ss) n = ap (λ l. s.inputs ∷ l) (lowered_inputs ss n)

popped_in : (ss : List Saved) (o : OverlayData) → o.shells ≡ ss → standing_in (popped_shell ss o) ≡ without_shell (map (λ s. s.inputs) ss) (standing_in o)
popped_in [] o e = refl
popped_in (s ∷ ss) o e = λ i. record {
  shells = map (λ s. s.inputs) ss;
  inputs = returned_length s.inputs s.input o.inputs i;
  routes = routing_length (goes_back s (length o.routing.pushed)) s.routes o.routing i;
}

step_in : (e : Effect) (o : OverlayData) → standing_in (over_step e o) ≡ standing_step e (standing_in o)
step_in (Emit fd text) o = λ i. record (standing_in o) { routes = (passed_length (lead (fd_number fd) o.routing.pushed) text (record o.routing { pushed = emitted_in (fd_number fd) text o.routing.pushed }) ∙ emitted_length (fd_number fd) text o.routing.pushed) i }
step_in PopShell o = popped_in o.shells o refl
step_in (PushInput text) o = λ i. record (standing_in o) { inputs = (let e : suc (length o.inputs.pushed) ≡ length o.inputs.pushed + 1 = omega arith in e) i }
step_in (SetInput text) o = λ i. record (standing_in o) { inputs = set_length text o.inputs.pushed i }
step_in PopInput o = λ i. record (standing_in o) { inputs = length-drop 1 o.inputs.pushed i }
step_in (PushRoutes routes) o = λ i. record (standing_in o) { routes = (let e : suc (length o.routing.pushed) ≡ length o.routing.pushed + 1 = omega arith in e) i }
step_in PopRoutes o = λ i. record (standing_in o) { shells = lowered_inputs o.shells (length o.routing.pushed - 1) i; routes = length-drop 1 o.routing.pushed i }
step_in (SetRoutes routes) o = λ i. record (standing_in o) { routes = top_length routes o.routing.pushed i }
step_in (ExecInput text) o = λ i. record (standing_in o) { shells = noted_inputs o.shells (length o.inputs.pushed) (input_of o.inputs) i; inputs = set_length text o.inputs.pushed i }
step_in (Replied reply) o = λ i. record (standing_in o) { inputs = set_length [] o.inputs.pushed i }
step_in _ o = refl

all_in : (es : List Effect) (o : OverlayData) → standing_in (over_all es o) ≡ standing_all es (standing_in o)
all_in [] o = refl
all_in (e ∷ es) o = all_in es (over_step e o) ∙ ap (standing_all es) (step_in e o)

some_in : {A : Type 0} (xs : List A) → is_pushed xs ≡ nat_lt 0 (length xs)
some_in [] = refl
some_in (x ∷ xs) = let e : 0 < suc (length xs) = omega arith in sym (lt-ltb 0 (suc (length xs)) e)

some_mapped : {A B : Type 0} (f : A → B) (xs : List A) → is_pushed xs ≡ is_pushed (map f xs)
some_mapped f [] = refl
some_mapped f (x ∷ xs) = refl

own_in : (e : Effect) (o : OverlayData) → has_own e o ≡ is_standing e (standing_in o)
own_in PopShell o = some_mapped (λ s. s.inputs) o.shells
own_in PopInput o = some_in o.inputs.pushed
own_in PopRoutes o = some_in o.routing.pushed
own_in _ o = refl

-- A pop finds its push in the tables exactly where it stands among the effects.
pub own-push : (e : Effect) (es : List Effect) (ends routes : Option (List Route)) → has_own e (over_all es (no_overlay ends routes)) ≡ has_push e es
own-push e es ends routes = own_in e (over_all es (no_overlay ends routes)) ∙ ap (is_standing e) (all_in es (no_overlay ends routes))

-- ---- as the code counts them

pub counted-more : (es : List Effect) (e : Effect) (m : Mark) (old room new : Standing) → m ≡ mark_of e → old ≡ standing es → room ≡ old → new ≡ marked_step m room → new ≡ standing (es ++ e ∷ [])
counted-more es e m old room new h s r n = n ∙ (λ i. marked_step (h i) ((r ∙ s) i)) ∙ marked e (standing es) ∙ sym (standing-more es e none_standing)

-- ---- A pop whose push stands is valid.

some_long : {A : Type 0} (xs : List A) → is_pushed xs ≡ true → 0 < length xs
some_long [] h = absurd (subst T (sym h) tt)
some_long (x ∷ xs) h = omega arith

long_some : {A : Type 0} (xs : List A) → 0 < length xs → is_pushed xs ≡ true
long_some [] h = absurd (omega (arith, h))
long_some (x ∷ xs) h = refl

shells_some : (ss : List Saved) (b : WorldData) (ts : List Shell) → ShellsOver ss b ts → is_pushed ss ≡ true → is_pushed ts ≡ true
shells_some [] b ts h p = absurd (subst T (sym p) tt)
shells_some (s ∷ ss) b [] h p = absurd (subst T h tt)
shells_some (s ∷ ss) b (t ∷ ts) h p = refl

inputs_some : (o : OverlayData) (b w : WorldData) → Over o b w → is_pushed o.inputs.pushed ≡ true → is_pushed w.inputs ≡ true
inputs_some o b w h p =
    let d = depth_is o.inputs.pushed (unwrap_or o.inputs.base b.input) w.input w.inputs b.inputs h.inputs in
    long_some w.inputs (let l = some_long o.inputs.pushed p in omega (arith, d, l))

tables_some : (o : OverlayData) (b w : WorldData) → Over o b w → is_pushed o.routing.pushed ≡ true → is_pushed w.tables ≡ true
tables_some o b w h p =
    let d = tables-depth o.routing b w.table w.tables h.routing in
    long_some w.tables (let l = some_long o.routing.pushed p in omega (arith, d, l))

pop_valid : (e : Effect) (writes : Bool) (o : OverlayData) (b w : WorldData) → Over o b w → has_own e o ≡ true → (is_own_pop e writes ≡ false → is_valid e w ≡ true) → is_valid e w ≡ true
pop_valid PopShell writes o b w h p f = shells_some o.shells b w.shells h.shells p
pop_valid PopInput writes o b w h p f = inputs_some o b w h p
pop_valid PopRoutes writes o b w h p f = tables_some o b w h p
pop_valid _ writes o b w h p f = f refl

own_off : (writes : Bool) (es : List Effect) → writes ≡ false → own writes es ≡ es
own_off false es h = refl
own_off true es h = absurd (subst T h tt)

pub valid-pushed : {B : Type 0} (seen : Shows B) (v : Viewed B) (o : OverlayData) (e : Effect) → (seen.tells v.base).writes ≡ false → Tabled seen v o → has_push e v.effects ≡ true
    → (is_own_pop e (seen.tells v.base).writes ≡ false → (u : WorldData) → Showed seen v v u → is_valid e u ≡ true) → (u : WorldData) → Showed seen v v u → is_valid e u ≡ true
valid-pushed {B} seen v o e w t h f u s =
    let mine : has_own e o ≡ true = ap (has_own e) t.is ∙ own-push e (own_of seen v) (ends_in v.reads) (routes_in v.reads) ∙ ap (has_push e) (own_off (seen.tells v.base).writes v.effects w) ∙ h in
    let over : Over o s.under u = subst (Over o s.under) (sym s.over) (t.over s.under s.stands) in
    pop_valid e (seen.tells v.base).writes o s.under u over mine (λ n. f n u s)

pub no-own_pop : (e : Effect) (writes : Bool) → writes ≡ true → is_own_pop e writes ≡ false
no-own_pop PopShell writes h = ap not h
no-own_pop PopInput writes h = ap not h
no-own_pop PopRoutes writes h = ap not h
no-own_pop _ writes h = refl
