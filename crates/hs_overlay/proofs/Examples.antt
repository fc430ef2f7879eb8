-- Examples that are computed: what effects make of the parts of a state, and what is read of the base then.
use Rattle.std.proofs.Common.{◌≡◌, ℕ, List, [], ◌∷◌, refl}
use Rattle.std.specs.Prelude.{Some, None, true, false, codes}
use Rattle.hs_world.specs.Tables.{first_routes}
use Rattle.hs_world.specs.declared.effect.Effect.TheVariants.{SetStatus, Emit, PushShell, PopShell, PushInput, SetInput, PopInput, PushRoutes, SetRoutes, ExecInput}
use Rattle.hs_world.specs.declared.effect.Fd.TheVariants.{One, Two}
use Rattle.hs_world.specs.declared.loc.Loc.TheVariants as loc
use Rattle.hs_world.specs.declared.loc.Value.TheVariants as value
use Rattle.hs_world.specs.declared.route.Route.{Route}
use Rattle.hs_world.specs.declared.route.Route.TheVariants.{Stream, Same, Null, Closed, Capture}
use Rattle.hs_overlay.specs.Overlay.{OverlayData, no_overlay, over_all, has_own}
use Rattle.hs_overlay.specs.Shown.{bytes_over, lacks, own_value, over_value}
use Rattle.hs_overlay.specs.Sizes.{over_passes}
use Rattle.hs_overlay.specs.declared.paths.PathOver.TheVariants.{Longer}

-- nothing is known of the base
abbrev bare : OverlayData
bare = no_overlay None None

-- all descriptors lead where those of the table below lead
abbrev through : List Route
through = Same 1 ∷ Same 2 ∷ Closed ∷ Closed ∷ Closed ∷ Closed ∷ Closed ∷ Closed ∷ Closed ∷ []

-- descriptor 1 is captured
abbrev captured : List Route
captured = Capture ∷ Same 2 ∷ Closed ∷ Closed ∷ Closed ∷ Closed ∷ Closed ∷ Closed ∷ Closed ∷ []

-- the status that was set last, with no read
status-last : own_value (over_all (SetStatus 1 ∷ SetStatus 2 ∷ []) bare) loc.Status ≡ Some (value.Status 2)
status-last = refl

-- what nothing was set of is the base's
status-base : own_value bare loc.Status ≡ None
status-base = refl

input-pushed : own_value (over_all (PushInput (codes "a") ∷ SetInput (codes "b") ∷ []) bare) loc.Input ≡ Some (value.Input (codes "b"))
input-pushed = refl

-- with the pushed text the base's is back
input-popped : own_value (over_all (PushInput (codes "a") ∷ PopInput ∷ []) bare) loc.Input ≡ None
input-popped = refl

-- a text that an environment sets to its end is gone with it
input-back : own_value (over_all (PushShell ∷ ExecInput (codes "a") ∷ PopShell ∷ []) bare) loc.Input ≡ None
input-back = refl

-- a pop without its push
pop-base : has_own PopInput bare ≡ false
pop-base = refl

-- a capture of the effects' own needs no read
capture-own : own_value (over_all (PushRoutes captured ∷ Emit One (codes "a") ∷ Emit One (codes "b") ∷ []) bare) loc.Captured ≡ Some (value.Captured (codes "ab"))
capture-own = refl

-- a text that goes to the base is not looked after before it is asked for
capture-loose : lacks (over_all (Emit One (codes "a") ∷ []) bare) loc.Captured ≡ true
capture-loose = refl

-- and nothing else is lacking for it
kind-sure : (p : List (List ℕ)) → lacks (over_all (Emit One (codes "a") ∷ []) bare) (loc.Kind p) ≡ false
kind-sure p = refl

-- with the base's ends known the base's capture has the text behind its own
capture-given : over_value (over_all (Emit One (codes "a") ∷ []) (no_overlay (Some captured) None)) loc.Captured (value.Captured (codes "x")) ≡ value.Captured (codes "xa")
capture-given = refl

-- what goes to the other stream is not captured
capture-other : over_value (over_all (Emit Two (codes "a") ∷ []) (no_overlay (Some captured) None)) loc.Captured (value.Captured (codes "x")) ≡ value.Captured (codes "x")
capture-other = refl

routes-pushed : own_value (over_all (PushRoutes through ∷ []) bare) loc.Routes ≡ Some (value.Routes through)
routes-pushed = refl

-- The ends by a table over the base's are known where the base's are.
ends-through : own_value (over_all (PushRoutes through ∷ []) (no_overlay (Some first_routes) None)) loc.Ends ≡ Some (value.Ends first_routes)
ends-through = refl

-- the base's capture is nowhere below one of the effects' own
ends-hidden : own_value (over_all (PushRoutes (Same 2 ∷ Capture ∷ Closed ∷ Closed ∷ Closed ∷ Closed ∷ Closed ∷ Closed ∷ Closed ∷ []) ∷ []) (no_overlay (Some (Stream One ∷ Capture ∷ Closed ∷ Closed ∷ Closed ∷ Closed ∷ Closed ∷ Closed ∷ Closed ∷ [])) None)) loc.Ends
    ≡ Some (value.Ends (Null ∷ Capture ∷ Closed ∷ Closed ∷ Closed ∷ Closed ∷ Closed ∷ Closed ∷ Closed ∷ []))
ends-hidden = refl

-- a `Same` that took another's place leads where the other led
ends-moved : own_value (over_all (SetRoutes (Same 2 ∷ Closed ∷ Closed ∷ Closed ∷ Closed ∷ Closed ∷ Closed ∷ Closed ∷ Closed ∷ []) ∷ []) (no_overlay (Some first_routes) (Some through))) loc.Ends
    ≡ Some (value.Ends (Stream Two ∷ Closed ∷ Closed ∷ Closed ∷ Closed ∷ Closed ∷ Closed ∷ Closed ∷ Closed ∷ []))
ends-moved = refl

-- without the base's routes nobody knows
ends-unknown : own_value (over_all (SetRoutes (Same 2 ∷ Closed ∷ Closed ∷ Closed ∷ Closed ∷ Closed ∷ Closed ∷ Closed ∷ Closed ∷ []) ∷ []) (no_overlay (Some first_routes) None)) loc.Ends ≡ None
ends-unknown = refl

-- bytes behind those of the base
bytes-behind : bytes_over (Some (Longer (codes "b"))) (Some (codes "a")) ≡ Some (codes "ab")
bytes-behind = refl

-- and none where the base has no file
bytes-none : bytes_over (Some (Longer (codes "b"))) None ≡ None
bytes-none = refl

short-enough : over_passes (PushInput (codes "a")) bare ≡ false
short-enough = refl
