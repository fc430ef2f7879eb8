-- What effects make of a state, by its overlay over a base's.
use Rattle.std.proofs.Common.{◌≡◌, ℕ, ◌+◌, T, List, [], ◌∷◌, Bool, true, false, cond, refl, sym, ap, ◌∙◌, subst, length, nat_eq, not, ◌&&◌, arith}
use Rattle.std.specs.Prelude.{unwrap_or, None, Some, Option, is_some, if◌then◌else◌}
use Rattle.std.specs.Ordering.{nat_cmp, eq_by_cmp}
use Rattle.std.specs.Cmp.{nat_cmp_total}
use Rattle.std.specs.FinMap.{get, get-insert, get-remove, get-empty}
use Rattle.hs_world.specs.Names.{name_cmp}
use Rattle.hs_world.specs.Tables.{fd_number, emitted_in, end_in, is_descriptor, are_routes, is_table}
use Rattle.hs_world.specs.World.{WorldData, Apply, Applied, is_valid, AllValid, is_pushed, all_tables, emitted_files, file_in}
use Rattle.hs_world.specs.declared.effect.Effect.{Effect}
use Rattle.hs_world.specs.declared.effect.Effect.TheVariants.{SetVar, UnsetVar, SetFunc, UnsetFunc, SetParams, SetStatus, SetCwd, SetOpts, Put, Append, MakeDir, Remove, Emit, PushShell, PopShell, PushInput, SetInput, PopInput, PushRoutes, PopRoutes, SetRoutes, SetKept, ExecInput, Replied}
use Rattle.hs_world.specs.declared.effect.Fd.{Fd}
use Rattle.hs_world.specs.declared.effect.Fd.TheVariants.{One, Two}
use Rattle.hs_world.specs.declared.entry.Entry.TheVariants.{File, Dir}
use Rattle.hs_world.specs.declared.route.Route.{Route}
use Rattle.hs_world.specs.declared.route.Route.TheVariants as route
use Rattle.hs_world.specs.declared.route.RouteTable.{RouteTable}
use Rattle.hs_world.specs.declared.shell.Shell.{Shell}
use Rattle.hs_world.proofs.Maps.{names_total}
use Rattle.hs_overlay.specs.Files.{with_more_at, FilesOver}
use Rattle.hs_overlay.specs.Over.{Over}
use Rattle.hs_overlay.specs.Overlay.{OverlayData, no_overlay, popped_shell, over_step, over_all, has_own, AllOwn}
use Rattle.hs_overlay.specs.Routing.{RoutingData, routes_returned, emitted_over, file_over, are_all_routes, IsKnown, MayStand}
use Rattle.hs_overlay.specs.Shells.{goes_back, ShellsOver}
use Rattle.hs_overlay.specs.declared.files.Files.{Files}
use Rattle.hs_overlay.specs.declared.shells.Saved.{Saved}
use Rattle.hs_overlay.proofs.InputLaws.{inputs_law}
use Rattle.hs_overlay.proofs.Piles.{top_is, set_is, depth_is, popped, pushed_some, one_less}
use Rattle.hs_overlay.proofs.RoutingLaws.{emit-law, Arrives, At, Somewhere, file-law, push-law, pop-law, set-law, stand-law, returned-law, routing_start, routes-law, tables-depth}
use Rattle.hs_overlay.proofs.ShellLaws.{noted-law, lowered-law, back_law, none_stand, base_depth}
use Rattle.hs_overlay.proofs.TableLaws.{both_left, both_right, emitted-all, no_some}
use Rattle.hs_overlay.proofs.TreeLaws.{put_law, gone_law, more_law, loose_law, somewhere_law, left_law, files_start}

inputs_depth : (o : OverlayData) (b w : WorldData) → Over o b w → length w.inputs ≡ length o.inputs.pushed + length b.inputs
inputs_depth o b w h = depth_is o.inputs.pushed (unwrap_or o.inputs.base b.input) w.input w.inputs b.inputs h.inputs

-- ---- names

set_at : {X : Type 0} (c : Bool) (x : Option X) (mine : Option (Option X)) (theirs base : Option X) → theirs ≡ unwrap_or mine base → cond c x theirs ≡ unwrap_or (cond c (Some x) mine) base
set_at true x mine theirs base h = refl
set_at false x mine theirs base h = h

-- ---- a text goes to a descriptor

is_fd : (fd : Fd) → is_descriptor (fd_number fd) ≡ true
is_fd One = refl
is_fd Two = refl

tables_emitted : (fd : Fd) (text : List ℕ) (w : WorldData) → all_tables (Apply (Emit fd text) w) ≡ emitted_in (fd_number fd) text (all_tables w)
tables_emitted fd text w = emitted-all (fd_number fd) text w.table w.tables

files_to : (r : Route) (f : Files) (loose : Bool) (b w : WorldData) (text : List ℕ) → FilesOver f loose b.tree w.tree → FilesOver (with_more_at (file_in r) text f) loose b.tree (emitted_files r w.tree text)
files_to (route.File p) f loose b w text h = more_law f loose b.tree w.tree p text h
files_to (route.Stream fd) f loose b w text h = h
files_to (route.Same m) f loose b w text h = h
files_to route.Null f loose b w text h = h
files_to route.Closed f loose b w text h = h
files_to route.Capture f loose b w text h = h

files_lost : (r : Route) (f : Files) (b w : WorldData) (text : List ℕ) → FilesOver f true b.tree w.tree → FilesOver f true b.tree (emitted_files r w.tree text)
files_lost (route.File p) f b w text h = somewhere_law f b.tree w.tree p text h
files_lost (route.Stream fd) f b w text h = h
files_lost (route.Same m) f b w text h = h
files_lost route.Null f b w text h = h
files_lost route.Closed f b w text h = h
files_lost route.Capture f b w text h = h

files_emitted : (o : OverlayData) (b w : WorldData) (n : ℕ) (text : List ℕ) → Over o b w → Arrives o.routing n text (end_in n (all_tables w))
    → FilesOver (with_more_at (file_over n o.routing) text o.files) (emitted_over n text o.routing).loose b.tree (emitted_files (end_in n (all_tables w)) w.tree text)
files_emitted o b w n text h (At p l) =
    let end = end_in n (all_tables w) in
    let told : FilesOver (with_more_at (file_over n o.routing) text o.files) o.routing.loose b.tree (emitted_files end w.tree text) = subst (λ x. FilesOver (with_more_at x text o.files) o.routing.loose b.tree (emitted_files end w.tree text)) (sym p) (files_to end o.files o.routing.loose b w text h.files) in
    subst (λ x. FilesOver (with_more_at (file_over n o.routing) text o.files) x b.tree (emitted_files end w.tree text)) (sym l) told
files_emitted o b w n text h (Somewhere p l) =
    let end = end_in n (all_tables w) in
    let told : FilesOver o.files true b.tree (emitted_files end w.tree text) = files_lost end o.files b w text (loose_law o.files o.routing.loose b.tree w.tree h.files) in
    let there : FilesOver (with_more_at (file_over n o.routing) text o.files) true b.tree (emitted_files end w.tree text) = subst (λ x. FilesOver (with_more_at x text o.files) true b.tree (emitted_files end w.tree text)) (sym p) told in
    subst (λ x. FilesOver (with_more_at (file_over n o.routing) text o.files) x b.tree (emitted_files end w.tree text)) (sym l) there

emit_step : (fd : Fd) (text : List ℕ) (o : OverlayData) (b w : WorldData) → Over o b w → Over (over_step (Emit fd text) o) b (Apply (Emit fd text) w)
emit_step fd text o b w h = record {
  scope = h.scope;
  zero = h.zero;
  status = h.status;
  shells = h.shells;
  inputs = h.inputs;
  routing = let e = emit-law (fd_number fd) text o.routing b (all_tables w) (is_fd fd) h.routing in record {
    under = e.under;
    is = tables_emitted fd text w ∙ e.is;
    below = e.below;
    open_below = e.open_below;
    taken = e.taken;
    fit = e.fit;
    stand = e.stand;
    known = e.known;
    tight = e.tight;
  };
  files = files_emitted o b w (fd_number fd) text h (file-law o.routing b (all_tables w) h.routing (fd_number fd) text (is_fd fd));
}

-- ---- subshell environments

none_by : (pushed : List RouteTable) (rep : Option (List Route)) → ◌≡◌ {A = Option (List Route)} (elim pushed [ [] ↦ rep | t ∷ ts ↦ Some t.routes ]) None → length pushed ≡ 0
none_by [] rep h = refl
none_by (t ∷ ts) rep h = absurd (no_some t.routes h)

fit_by : (pushed : List RouteTable) (rep : Option (List Route)) (b : WorldData) → are_all_routes pushed ≡ true → ((rs : List Route) → rep ≡ Some rs → MayStand b rs) → (rs : List Route) → ◌≡◌ {A = Option (List Route)} (elim pushed [ [] ↦ rep | t ∷ ts ↦ Some t.routes ]) (Some rs) → are_routes rs ≡ true
fit_by [] rep b f st rs h = (st rs h).fit
fit_by (t ∷ ts) rep b f st rs h = let e : t.routes ≡ rs = cc in subst (λ x. are_routes x ≡ true) e (both_left (are_routes t.routes) _ f)

stand_by : (pushed : List RouteTable) (rep : Option (List Route)) (b : WorldData) → ((rs : List Route) → rep ≡ Some rs → MayStand b rs) → (rs : List Route) → ◌≡◌ {A = Option (List Route)} (elim pushed [ [] ↦ rep | t ∷ ts ↦ Some t.routes ]) (Some rs) → length pushed ≡ 0 → MayStand b rs
stand_by [] rep b st rs h n = st rs h
stand_by (t ∷ ts) rep b st rs h n = absurd (omega (arith, n))

push_step : (o : OverlayData) (b w : WorldData) → Over o b w → Over (over_step PushShell o) b (Apply PushShell w)
push_step o b w h = record {
  scope = h.scope;
  zero = h.zero;
  status = h.status;
  shells = (
    record {
      scope = h.scope;
      routes = routes-law o.routing b w.table w.tables h.routing;
      tables = tables-depth o.routing b w.table w.tables h.routing;
      lower = refl;
      inputs = inputs_depth o b w h;
      input = refl;
      own_input = λ e. absurd (subst T (sym (ap is_some e)) tt);
      own_routes = λ e. none_by o.routing.pushed o.routing.base.replaced e;
      fit = λ rs e. fit_by o.routing.pushed o.routing.base.replaced b h.routing.fit h.routing.stand rs e;
      stand = λ rs e n. stand_by o.routing.pushed o.routing.base.replaced b h.routing.stand rs e n;
    },
    h.shells,
  );
  inputs = h.inputs;
  routing = h.routing;
  files = h.files;
}

-- routes that go back leave what is known of where bytes went
files_back : (back : Bool) (saved : Option (List Route)) (r : RoutingData) (f : Files) (b w : WorldData) → FilesOver f r.loose b.tree w.tree → FilesOver f (routes_returned back saved r).loose b.tree w.tree
files_back false saved r f b w h = h
files_back true None r f b w h = h
files_back true (Some routes) r f b w h = h

pop_step : (ss : List Saved) (ts : List Shell) (o : OverlayData) (b w : WorldData) → Over o b w → ShellsOver ss b ts → is_pushed ss ≡ true → Over (popped_shell ss o) b (Apply PopShell (record w { shells = ts }))
pop_step [] ts o b w h g v = absurd (subst T (sym v) tt)
pop_step (s ∷ ss) [] o b w h g v = absurd (subst T g tt)
pop_step (s ∷ ss) (t ∷ ts) o b w h g v =
    let back : (nat_eq t.tables (length w.tables) && not t.lower) ≡ goes_back s (length o.routing.pushed) = back_law s b t (length w.tables) (length o.routing.pushed) g.0 (tables-depth o.routing b w.table w.tables h.routing) in
    let r = returned-law (goes_back s (length o.routing.pushed)) s.routes o.routing b w.table w.tables g.0.fit
    (λ rs e c n. g.0.stand rs e (base_depth s.tables s.lower o.routing.pushed n c))
    (λ e c. none_stand s.tables s.lower o.routing.pushed (g.0.own_routes e) c)
    h.routing in
    record {
      scope = g.0.scope;
      zero = h.zero;
      status = h.status;
      shells = g.1;
      inputs = inputs_law s.inputs t.inputs s.input t.input o.inputs b.input w.input w.inputs b.inputs g.0.inputs g.0.input g.0.own_input h.inputs;
      routing = record {
        under = r.under;
        is = (λ i. record w.table { routes = if back i then g.0.routes i else w.table.routes } ∷ w.tables) ∙ r.is;
        below = r.below;
        open_below = r.open_below;
        taken = r.taken;
        fit = r.fit;
        stand = r.stand;
        known = r.known;
        tight = r.tight;
      };
      files = files_back (goes_back s (length o.routing.pushed)) s.routes o.routing o.files b w h.files;
    }

-- ---- each effect

table_fits : (routes : List Route) → is_table routes ≡ true → are_routes routes ≡ true
table_fits routes h = both_right _ (are_routes routes) h

pub over_law : (e : Effect) (o : OverlayData) (b w : WorldData) → Over o b w → has_own e o ≡ true → is_valid e w ≡ true → Over (over_step e o) b (Apply e w)
over_law (SetVar name var) o b w h v ok = record { scope = record { vars = λ q. get-insert names_total w.vars name var q ∙ set_at (eq_by_cmp name_cmp q name) (Some var) (get o.scope.vars q) (get w.vars q) (get b.vars q) (h.scope.vars q) ∙ ap (λ y. unwrap_or y (get b.vars q)) (sym (get-insert names_total o.scope.vars name (Some var) q)); funcs = h.scope.funcs; params = h.scope.params; cwd = h.scope.cwd; opts = h.scope.opts; kept = h.scope.kept }; zero = h.zero; status = h.status; shells = h.shells; inputs = h.inputs; routing = h.routing; files = h.files }
over_law (UnsetVar name) o b w h v ok = record { scope = record { vars = λ q. get-remove names_total w.vars name q ∙ set_at (eq_by_cmp name_cmp q name) None (get o.scope.vars q) (get w.vars q) (get b.vars q) (h.scope.vars q) ∙ ap (λ y. unwrap_or y (get b.vars q)) (sym (get-insert names_total o.scope.vars name None q)); funcs = h.scope.funcs; params = h.scope.params; cwd = h.scope.cwd; opts = h.scope.opts; kept = h.scope.kept }; zero = h.zero; status = h.status; shells = h.shells; inputs = h.inputs; routing = h.routing; files = h.files }
over_law (SetFunc name body) o b w h v ok = record { scope = record { vars = h.scope.vars; funcs = λ q. get-insert names_total w.funcs name body q ∙ set_at (eq_by_cmp name_cmp q name) (Some body) (get o.scope.funcs q) (get w.funcs q) (get b.funcs q) (h.scope.funcs q) ∙ ap (λ y. unwrap_or y (get b.funcs q)) (sym (get-insert names_total o.scope.funcs name (Some body) q)); params = h.scope.params; cwd = h.scope.cwd; opts = h.scope.opts; kept = h.scope.kept }; zero = h.zero; status = h.status; shells = h.shells; inputs = h.inputs; routing = h.routing; files = h.files }
over_law (UnsetFunc name) o b w h v ok = record { scope = record { vars = h.scope.vars; funcs = λ q. get-remove names_total w.funcs name q ∙ set_at (eq_by_cmp name_cmp q name) None (get o.scope.funcs q) (get w.funcs q) (get b.funcs q) (h.scope.funcs q) ∙ ap (λ y. unwrap_or y (get b.funcs q)) (sym (get-insert names_total o.scope.funcs name None q)); params = h.scope.params; cwd = h.scope.cwd; opts = h.scope.opts; kept = h.scope.kept }; zero = h.zero; status = h.status; shells = h.shells; inputs = h.inputs; routing = h.routing; files = h.files }
over_law (SetParams params) o b w h v ok = record { scope = record { vars = h.scope.vars; funcs = h.scope.funcs; params = refl; cwd = h.scope.cwd; opts = h.scope.opts; kept = h.scope.kept }; zero = h.zero; status = h.status; shells = h.shells; inputs = h.inputs; routing = h.routing; files = h.files }
over_law (SetStatus status) o b w h v ok = record { scope = h.scope; zero = h.zero; status = refl; shells = h.shells; inputs = h.inputs; routing = h.routing; files = h.files }
over_law (SetCwd path) o b w h v ok = record { scope = record { vars = h.scope.vars; funcs = h.scope.funcs; params = h.scope.params; cwd = refl; opts = h.scope.opts; kept = h.scope.kept }; zero = h.zero; status = h.status; shells = h.shells; inputs = h.inputs; routing = h.routing; files = h.files }
over_law (SetOpts opts) o b w h v ok = record { scope = record { vars = h.scope.vars; funcs = h.scope.funcs; params = h.scope.params; cwd = h.scope.cwd; opts = refl; kept = h.scope.kept }; zero = h.zero; status = h.status; shells = h.shells; inputs = h.inputs; routing = h.routing; files = h.files }
over_law (Put path text) o b w h v ok = record { scope = h.scope; zero = h.zero; status = h.status; shells = h.shells; inputs = h.inputs; routing = h.routing; files = put_law o.files o.routing.loose b.tree w.tree path (File text) h.files }
over_law (Append path text) o b w h v ok = record { scope = h.scope; zero = h.zero; status = h.status; shells = h.shells; inputs = h.inputs; routing = h.routing; files = more_law o.files o.routing.loose b.tree w.tree path text h.files }
over_law (MakeDir path) o b w h v ok = record { scope = h.scope; zero = h.zero; status = h.status; shells = h.shells; inputs = h.inputs; routing = h.routing; files = put_law o.files o.routing.loose b.tree w.tree path Dir h.files }
over_law (Remove path) o b w h v ok = record { scope = h.scope; zero = h.zero; status = h.status; shells = h.shells; inputs = h.inputs; routing = h.routing; files = gone_law o.files o.routing.loose b.tree w.tree path h.files }
over_law (Emit fd text) o b w h v ok = emit_step fd text o b w h
over_law PushShell o b w h v ok = push_step o b w h
over_law PopShell o b w h v ok = pop_step o.shells w.shells o b w h h.shells v
over_law (PushInput text) o b w h v ok = record { scope = h.scope; zero = h.zero; status = h.status; shells = h.shells; inputs = ap (λ l. text ∷ l) h.inputs; routing = h.routing; files = h.files }
over_law (SetInput text) o b w h v ok = record { scope = h.scope; zero = h.zero; status = h.status; shells = h.shells; inputs = set_is o.inputs.pushed o.inputs.base text b.input w.input w.inputs b.inputs h.inputs; routing = h.routing; files = h.files }
over_law PopInput o b w h v ok = record { scope = h.scope; zero = h.zero; status = h.status; shells = h.shells; inputs = popped o.inputs.pushed (unwrap_or o.inputs.base b.input) w.input w.inputs b.inputs v h.inputs; routing = h.routing; files = h.files }
over_law (PushRoutes routes) o b w h v ok = record { scope = h.scope; zero = h.zero; status = h.status; shells = h.shells; inputs = h.inputs; routing = push-law o.routing b (all_tables w) routes (both_right _ (are_routes routes) ok) h.routing; files = h.files }
over_law PopRoutes o b w h v ok = record { scope = h.scope; zero = h.zero; status = h.status; shells = lowered-law o.shells b w.shells _ _ (one_less (length w.tables) (length o.routing.pushed) (length b.tables) (tables-depth o.routing b w.table w.tables h.routing) (pushed_some o.routing.pushed v)) h.shells; inputs = h.inputs; routing = pop-law o.routing b w.table w.tables v h.routing; files = h.files }
over_law (SetRoutes routes) o b w h v ok = record { scope = h.scope; zero = h.zero; status = h.status; shells = h.shells; inputs = h.inputs; routing = set-law o.routing b w.table w.tables routes (table_fits routes (both_left (is_table routes) _ ok)) (stand-law o.routing b w.table w.tables routes (table_fits routes (both_left (is_table routes) _ ok)) (both_right (is_table routes) _ ok) h.routing) h.routing; files = h.files }
over_law (SetKept n None) o b w h v ok = record { scope = record { vars = h.scope.vars; funcs = h.scope.funcs; params = h.scope.params; cwd = h.scope.cwd; opts = h.scope.opts; kept = λ q. get-remove nat_cmp_total w.kept n q ∙ set_at (eq_by_cmp nat_cmp q n) None (get o.scope.kept q) (get w.kept q) (get b.kept q) (h.scope.kept q) ∙ ap (λ y. unwrap_or y (get b.kept q)) (sym (get-insert nat_cmp_total o.scope.kept n None q)) }; zero = h.zero; status = h.status; shells = h.shells; inputs = h.inputs; routing = h.routing; files = h.files }
over_law (SetKept n (Some text)) o b w h v ok = record { scope = record { vars = h.scope.vars; funcs = h.scope.funcs; params = h.scope.params; cwd = h.scope.cwd; opts = h.scope.opts; kept = λ q. get-insert nat_cmp_total w.kept n text q ∙ set_at (eq_by_cmp nat_cmp q n) (Some text) (get o.scope.kept q) (get w.kept q) (get b.kept q) (h.scope.kept q) ∙ ap (λ y. unwrap_or y (get b.kept q)) (sym (get-insert nat_cmp_total o.scope.kept n (Some text) q)) }; zero = h.zero; status = h.status; shells = h.shells; inputs = h.inputs; routing = h.routing; files = h.files }
over_law (ExecInput text) o b w h v ok = record { scope = h.scope; zero = h.zero; status = h.status; shells = noted-law o.shells b w.shells o.inputs w.input (length w.inputs) (inputs_depth o b w h) (top_is o.inputs.pushed o.inputs.base b.input w.input w.inputs b.inputs h.inputs) h.shells; inputs = set_is o.inputs.pushed o.inputs.base text b.input w.input w.inputs b.inputs h.inputs; routing = h.routing; files = h.files }
over_law (Replied reply) o b w h v ok = record { scope = h.scope; zero = h.zero; status = h.status; shells = h.shells; inputs = set_is o.inputs.pushed o.inputs.base [] b.input w.input w.inputs b.inputs h.inputs; routing = h.routing; files = left_law o.routing.loose b.tree reply.tree }

-- no effect yet
pub over_start : (w : WorldData) (ends routes : Option (List Route)) → IsKnown (record { replaced = None; ends = ends; routes = routes }) w → Over (no_overlay ends routes) w w
over_start w ends routes k = record {
  scope = record {
    vars = λ q. ap (λ x. unwrap_or x (get w.vars q)) (sym (get-empty name_cmp q));
    funcs = λ q. ap (λ x. unwrap_or x (get w.funcs q)) (sym (get-empty name_cmp q));
    params = refl;
    cwd = refl;
    opts = refl;
    kept = λ q. ap (λ x. unwrap_or x (get w.kept q)) (sym (get-empty nat_cmp q));
  };
  zero = refl;
  status = refl;
  shells = tt;
  inputs = refl;
  routing = routing_start w ends routes k;
  files = files_start w.tree;
}

-- effects one after another
pub over_after : (es : List Effect) (o : OverlayData) (b w : WorldData) → Over o b w → AllOwn es o → AllValid es w → Over (over_all es o) b (Applied es w)
over_after [] o b w h a v = h
over_after (e ∷ es) o b w h a v = over_after es (over_step e o) b (Apply e w) (over_law e o b w h a.0 v.0) a.1 v.1
