-- What goes to a file, and what goes elsewhere.
use Rattle.std.proofs.Common.{◌≡◌, ℕ, List, [], ◌∷◌, Bool, false, T, refl, sym, ap, ◌∙◌, subst}
use Rattle.std.specs.Prelude.{Option, Some, None, is_some, unwrap_or}
use Rattle.hs_world.specs.Files.{Files, appended}
use Rattle.hs_world.specs.Paths.{Path}
use Rattle.hs_world.specs.Tables.{fd_number, take_up, emitted_below}
use Rattle.hs_world.specs.World.{WorldData, change, end_of, route_of, file_in, emitted_files, passes_tree, emitted_over}
use Rattle.hs_world.specs.declared.effect.Effect.TheVariants.{Emit, Append}
use Rattle.hs_world.specs.declared.effect.Fd.{Fd}
use Rattle.hs_world.specs.declared.route.Route.{Route}
use Rattle.hs_world.specs.declared.route.Route.TheVariants.{Stream, Same, File, Null, Closed, Capture}
use Rattle.hs_world.proofs.Stacks.{file_takes}

led_to : (r : Route) (p : Path) → Some p ≡ file_in r → r ≡ File p
led_to (Stream fd) p h = absurd (subst T (ap is_some h) tt)
led_to (Same m) p h = absurd (subst T (ap is_some h) tt)
led_to (File q) p h = ap (λ o. File (unwrap_or o q)) (sym h)
led_to Null p h = absurd (subst T (ap is_some h) tt)
led_to Closed p h = absurd (subst T (ap is_some h) tt)
led_to Capture p h = absurd (subst T (ap is_some h) tt)

-- a write to a file is an append
pub emit_file : (fd : Fd) (text : List ℕ) (w : WorldData) (p : Path) → Some p ≡ file_in (end_of fd w) → change (Append p text) w ≡ change (Emit fd text) w
emit_file fd text w p h =
    let e = led_to (end_of fd w) p h in
    let t = file_takes (fd_number fd) text w.table w.tables p e in
    λ i. record w { tree = emitted_files (sym e i) w.tree text; table = sym t.0 i; tables = sym t.1 i }

pub emit_passes : (fd : Fd) (text : List ℕ) (w : WorldData) (p : Path) → Some p ≡ file_in (end_of fd w) → passes_tree (Emit fd text) w ≡ false → passes_tree (Append p text) w ≡ false
emit_passes fd text w p h n = sym (ap (λ r. emitted_over r w.tree text) (led_to (end_of fd w) p h)) ∙ n

no_files : (r : Route) (tree : Files) (text : List ℕ) → None ≡ file_in r → emitted_files r tree text ≡ tree
no_files (Stream fd) tree text h = refl
no_files (Same m) tree text h = refl
no_files (File q) tree text h = absurd (subst T (sym (ap is_some h)) tt)
no_files Null tree text h = refl
no_files Closed tree text h = refl
no_files Capture tree text h = refl

pub emit_elsewhere : (fd : Fd) (text : List ℕ) (w : WorldData) → None ≡ file_in (end_of fd w)
    → record w { table = take_up (route_of fd w) text w.table; tables = emitted_below (route_of fd w) text w.tables } ≡ change (Emit fd text) w
emit_elsewhere fd text w h = λ i. record w { tree = sym (no_files (end_of fd w) w.tree text h) i; table = take_up (route_of fd w) text w.table; tables = emitted_below (route_of fd w) text w.tables }
