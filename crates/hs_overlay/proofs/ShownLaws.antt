-- What an overlay shows is what the state has.
use Rattle.std.proofs.Common.{◌≡◌, ℕ, ◌≤◌, zero, suc, T, List, [], ◌∷◌, ◌++◌, Bool, true, false, not, ◌&&◌, refl, sym, ap, ◌∙◌, subst, length}
use Rattle.std.specs.Prelude.{None, Some, Option, is_some, option_map, unwrap_or, if◌then◌else◌, ◌||◌}
use Rattle.std.specs.FinMap.{get, keys}
use Rattle.hs_world.specs.Files.{Files as Tree, IsTree, entry_at, kind_of, bytes_of, is_dir, names_in, names_of}
use Rattle.hs_world.specs.Paths.{Path}
use Rattle.hs_world.specs.Tables.{route_at, shown_end}
use Rattle.hs_world.specs.World.{WorldData, At, all_tables}
use Rattle.hs_world.specs.declared.entry.Entry.{Entry}
use Rattle.hs_world.specs.declared.entry.Entry.TheVariants.{File, Dir, Other}
use Rattle.hs_world.specs.declared.entry.Kind.{Kind}
use Rattle.hs_world.specs.declared.entry.Kind.TheVariants as kind
use Rattle.hs_world.specs.declared.loc.Loc.{Loc}
use Rattle.hs_world.specs.declared.loc.Loc.TheVariants as loc
use Rattle.hs_world.specs.declared.loc.Value.{Value}
use Rattle.hs_world.specs.declared.loc.Value.TheVariants as value
use Rattle.hs_world.specs.declared.route.Route.{Route}
use Rattle.hs_world.specs.declared.route.Route.TheVariants.{Stream, Same, File as ToFile, Null, Closed, Capture}
use Rattle.hs_world.specs.declared.route.RouteTable.{RouteTable}
use Rattle.hs_overlay.specs.Files.{under_files, FilesOver}
use Rattle.hs_overlay.specs.Inputs.{input_of}
use Rattle.hs_overlay.specs.Names.{NamesOver, changes_at, names_after}
use Rattle.hs_overlay.specs.Over.{Over}
use Rattle.hs_overlay.specs.Overlay.{OverlayData}
use Rattle.hs_overlay.specs.Paths.{extended_by, shown_by}
use Rattle.hs_overlay.specs.Routing.{RoutingData, base_end, hide, seen_over, joined, ends_over, routes_over, captured_over}
use Rattle.hs_overlay.specs.Shown.{entry_known, own_entry, names_if, own_names_by, own_names_of, own_names, bytes_over, names_over, own_value, over_value, lacks}
use Rattle.hs_overlay.specs.declared.files.Files.{Files}
use Rattle.hs_overlay.specs.declared.paths.PathOver.{PathOver}
use Rattle.hs_overlay.specs.declared.paths.PathOver.TheVariants.{Whole, Longer}
use Rattle.hs_overlay.proofs.NameLaws.{names-told}
use Rattle.hs_overlay.proofs.Piles.{top_is}
use Rattle.hs_overlay.proofs.RoutingLaws.{all-known, ends-law, routes-law, captured-law, captured-base}
use Rattle.hs_overlay.proofs.TableLaws.{no_some}
use Rattle.hs_overlay.proofs.TreeLaws.{kind-extended}

-- ---- entries

known_entry : (x : Option PathOver) (left : Option Tree) (b : Tree) (p : Path) (e : Option Entry) → entry_known x left p ≡ Some e → shown_by x (entry_at (unwrap_or left b) p) ≡ e
known_entry (Some (Whole entry)) left b p e h = let g : entry ≡ e = cc in g
known_entry None (Some tree) b p e h = let g : entry_at tree p ≡ e = cc in g
known_entry (Some (Longer more)) (Some tree) b p e h = let g : extended_by (entry_at tree p) more ≡ e = cc in g
known_entry None None b p e h = absurd (no_some e (sym h))
known_entry (Some (Longer more)) None b p e h = absurd (no_some e (sym h))

-- what hangs on the base is its own, or that with bytes at its end
pub data Unknown (x : Option PathOver) (left : Option Tree) : Type 0 where
  Untouched : x ≡ None → left ≡ None → Unknown x left
  Grown : (more : List ℕ) → x ≡ Some (Longer more) → left ≡ None → Unknown x left

unknown : (x : Option PathOver) (left : Option Tree) (p : Path) → entry_known x left p ≡ None → Unknown x left
unknown (Some (Whole entry)) left p h = absurd (no_some entry h)
unknown None (Some tree) p h = absurd (no_some (entry_at tree p) h)
unknown (Some (Longer more)) (Some tree) p h = absurd (no_some (extended_by (entry_at tree p) more) h)
unknown None None p h = Untouched refl refl
unknown (Some (Longer more)) None p h = Grown more refl refl

bytes_extended : (e : Option Entry) (more : List ℕ) → bytes_of (extended_by e more) ≡ option_map (λ text. text ++ more) (bytes_of e)
bytes_extended None more = refl
bytes_extended (Some (File text)) more = refl
bytes_extended (Some Dir) more = refl
bytes_extended (Some Other) more = refl

kind_under : (x : Option PathOver) (left : Option Tree) (b : Tree) (p : Path) → Unknown x left → kind_of (shown_by x (entry_at (unwrap_or left b) p)) ≡ kind_of (entry_at b p)
kind_under x left b p (Untouched e f) = λ i. kind_of (shown_by (e i) (entry_at (unwrap_or (f i) b) p))
kind_under x left b p (Grown more e f) = (λ i. kind_of (shown_by (e i) (entry_at (unwrap_or (f i) b) p))) ∙ kind-extended (entry_at b p) more

bytes_under : (x : Option PathOver) (left : Option Tree) (b : Tree) (p : Path) → Unknown x left → bytes_of (shown_by x (entry_at (unwrap_or left b) p)) ≡ bytes_over x (bytes_of (entry_at b p))
bytes_under x left b p (Untouched e f) = (λ i. bytes_of (shown_by (e i) (entry_at (unwrap_or (f i) b) p))) ∙ ap (λ y. bytes_over y (bytes_of (entry_at b p))) (sym e)
bytes_under x left b p (Grown more e f) = (λ i. bytes_of (shown_by (e i) (entry_at (unwrap_or (f i) b) p))) ∙ bytes_extended (entry_at b p) more ∙ ap (λ y. bytes_over y (bytes_of (entry_at b p))) (sym e)

-- ---- names

abbrev is_folder : Kind → Bool
is_folder kind.Dir = true
is_folder _ = false

dir_kind : (e : Option Entry) → is_dir e ≡ is_folder (kind_of e)
dir_kind None = refl
dir_kind (Some (File text)) = refl
dir_kind (Some Dir) = refl
dir_kind (Some Other) = refl

same_dir : (a c : Option Entry) → kind_of a ≡ kind_of c → is_dir a ≡ is_dir c
same_dir a c h = dir_kind a ∙ ap is_folder h ∙ sym (dir_kind c)

abbrev names_under : Files → Tree → Path → List (List ℕ)
names_under f b p = names_after (changes_at f.folders p) (names_in p (keys (under_files f b)))

-- the names of a state's folder
names_now : (f : Files) (loose : Bool) (b w : Tree) (p : Path) → FilesOver f loose b w → names_of w p ≡ names_if (shown_by (get f.paths p) (entry_at (under_files f b) p)) (names_under f b p)
names_now f loose b w p h =
    (λ i. if same_dir (entry_at w p) (shown_by (get f.paths p) (entry_at (under_files f b) p)) (h.kinds p) i then Some (names-told p w (changes_at f.folders p) (names_in p (keys (under_files f b))) (h.names p) i) else None)

known_names : (e : Option Entry) (left : Option Tree) (b : Tree) (changes : NamesOver) (p : Path) (names : Option (List (List ℕ))) → own_names_by e left changes p ≡ Some names → names_if e (names_after changes (names_in p (keys (unwrap_or left b)))) ≡ names
known_names e (Some tree) b changes p names h = let g : names_if e (names_after changes (names_in p (keys tree))) ≡ names = cc in g
known_names (Some Dir) None b changes p names h = absurd (no_some names (sym h))
known_names (Some (File text)) None b changes p names h = let g : None ≡ names = cc in g
known_names (Some Other) None b changes p names h = let g : None ≡ names = cc in g
known_names None None b changes p names h = let g : None ≡ names = cc in g

names_own : (o : Option (Option Entry)) (f : Files) (loose : Bool) (b w : Tree) (p : Path) (names : Option (List (List ℕ))) → own_entry f p ≡ o → own_names_of o f p ≡ Some names → FilesOver f loose b w → names_of w p ≡ names
names_own None f loose b w p names e g h = absurd (no_some names (sym g))
names_own (Some entry) f loose b w p names e g h =
    names_now f loose b w p h
    ∙ ap (λ x. names_if x (names_under f b p)) (known_entry (get f.paths p) f.left b p entry e)
    ∙ known_names entry f.left b (changes_at f.folders p) p names g

names_mapped : (dir : Bool) (names : List (List ℕ)) (changes : NamesOver) → (if dir then Some (names_after changes names) else None) ≡ option_map (names_after changes) (if dir then Some names else None)
names_mapped true names changes = refl
names_mapped false names changes = refl

names_below : (x : Option PathOver) (left : Option Tree) (changes : NamesOver) (b : Tree) (p : Path) → Unknown x left
    → names_if (shown_by x (entry_at (unwrap_or left b) p)) (names_after changes (names_in p (keys (unwrap_or left b)))) ≡ names_over x changes (names_of b p)
names_below x left changes b p (Untouched e f) =
    (λ i. names_if (shown_by (e i) (entry_at (unwrap_or (f i) b) p)) (names_after changes (names_in p (keys (unwrap_or (f i) b)))))
    ∙ names_mapped (is_dir (entry_at b p)) (names_in p (keys b)) changes
    ∙ ap (λ y. names_over y changes (names_of b p)) (sym e)
names_below x left changes b p (Grown more e f) =
    (λ i. names_if (shown_by (e i) (entry_at (unwrap_or (f i) b) p)) (names_after changes (names_in p (keys (unwrap_or (f i) b)))))
    ∙ ap (λ d. if d then Some (names_after changes (names_in p (keys b))) else None) (same_dir (extended_by (entry_at b p) more) (entry_at b p) (kind-extended (entry_at b p) more))
    ∙ names_mapped (is_dir (entry_at b p)) (names_in p (keys b)) changes
    ∙ ap (λ y. names_over y changes (names_of b p)) (sym e)

-- Where a folder came whole, the base's names are those that it had there, if any.
names_had : (b : Tree) (p : Path) → IsTree b → unwrap_or (names_of b p) [] ≡ names_in p (keys b)
names_had b p t = elim (is_dir (entry_at b p)) as (λ d. is_dir (entry_at b p) ≡ d → unwrap_or (if d then Some (names_in p (keys b)) else None) [] ≡ names_in p (keys b)) [
  | true ↦ λ _. refl
  | false ↦ λ e. sym (t p e)
] refl

names_made : (x : Option PathOver) (left : Option Tree) (e : Option Entry) (changes : NamesOver) (b : Tree) (p : Path) → IsTree b → entry_known x left p ≡ Some e → own_names_by e left changes p ≡ None
    → names_if (shown_by x (entry_at (unwrap_or left b) p)) (names_after changes (names_in p (keys (unwrap_or left b)))) ≡ names_over x changes (names_of b p)
names_made x (Some tree) e changes b p t k n = absurd (no_some _ n)
names_made x None None changes b p t k n = absurd (no_some _ n)
names_made x None (Some (File text)) changes b p t k n = absurd (no_some _ n)
names_made x None (Some Other) changes b p t k n = absurd (no_some _ n)
names_made None None (Some Dir) changes b p t k n = absurd (no_some _ (sym k))
names_made (Some (Longer more)) None (Some Dir) changes b p t k n = absurd (no_some _ (sym k))
names_made (Some (Whole entry)) None (Some Dir) changes b p t k n = ap (λ l. names_if entry (names_after changes l)) (sym (names_had b p t))

names_other : (o : Option (Option Entry)) (f : Files) (loose : Bool) (b w : Tree) (p : Path) → IsTree b → own_entry f p ≡ o → own_names_of o f p ≡ None → FilesOver f loose b w → names_of w p ≡ names_over (get f.paths p) (changes_at f.folders p) (names_of b p)
names_other None f loose b w p t e g h = names_now f loose b w p h ∙ names_below (get f.paths p) f.left (changes_at f.folders p) b p (unknown (get f.paths p) f.left p e)
names_other (Some entry) f loose b w p t e g h = names_now f loose b w p h ∙ names_made (get f.paths p) f.left entry (changes_at f.folders p) b p t e g

-- ---- parts that the effects have set, or the base has

own_part : {X : Type 0} (make : X → Value) (mine : Option X) (now base : X) (v : Value) → now ≡ unwrap_or mine base → option_map make mine ≡ Some v → make now ≡ v
own_part make None now base v h g = absurd (no_some v (sym g))
own_part make (Some x) now base v h g = let e : make x ≡ v = cc in ap make h ∙ e

base_part : {X : Type 0} (make : X → Value) (mine : Option X) (now base : X) → now ≡ unwrap_or mine base → option_map make mine ≡ None → make now ≡ make base
base_part make None now base h g = ap make h
base_part make (Some x) now base h g = absurd (no_some (make x) g)

mapped_some : {X : Type 0} (make : X → Value) (o : Option X) (v : Value) → option_map make o ≡ Some v → (x : X) × (o ≡ Some x) × (make x ≡ v)
mapped_some make None v g = absurd (no_some v (sym g))
mapped_some make (Some x) v g = (x, refl, (let e : make x ≡ v = cc in e))

mapped_none : {X : Type 0} (make : X → Value) (o : Option X) → option_map make o ≡ None → o ≡ None
mapped_none make None g = refl
mapped_none make (Some x) g = absurd (no_some (make x) g)

input_is : (o : OverlayData) (b w : WorldData) → Over o b w → w.input ≡ unwrap_or (input_of o.inputs) b.input
input_is o b w h = top_is o.inputs.pushed o.inputs.base b.input w.input w.inputs b.inputs h.inputs

-- ---- each location

left_false : (loose : Bool) (o : Option (List ℕ)) → o ≡ None → (loose && not (is_some o)) ≡ false → loose ≡ false
left_false false o e h = refl
left_false true o e h = absurd (subst T (sym (ap (λ x. not (is_some x)) e) ∙ h) tt)

no_ends : (o : Option (List Route)) → o ≡ None → not (is_some o) ≡ false → ⊥
no_ends None e h = subst T h tt
no_ends (Some rs) e h = no_some rs e

-- a value that the effects give by themselves is the state's
pub own-shown : (l : Loc) (o : OverlayData) (b w : WorldData) (v : Value) → Over o b w → lacks o l ≡ false → own_value o l ≡ Some v → At w l ≡ v
own-shown (loc.Kind p) o b w v h k g =
    let x = mapped_some (λ e. value.Kind (kind_of e)) (own_entry o.files p) v g in
    ap value.Kind (h.files.kinds p ∙ ap kind_of (known_entry (get o.files.paths p) o.files.left b.tree p x.0 x.1)) ∙ x.2
own-shown (loc.Bytes p) o b w v h k g =
    let x = mapped_some (λ e. value.Bytes (bytes_of e)) (own_entry o.files p) v g in
    ap (λ e. value.Bytes (bytes_of e)) (h.files.entries k p ∙ known_entry (get o.files.paths p) o.files.left b.tree p x.0 x.1) ∙ x.2
own-shown (loc.Names p) o b w v h k g =
    let x = mapped_some value.Names (own_names o.files p) v g in
    ap value.Names (names_own (own_entry o.files p) o.files o.routing.loose b.tree w.tree p x.0 refl x.1 h.files) ∙ x.2
own-shown (loc.Var name) o b w v h k g = own_part value.Var (get o.scope.vars name) (get w.vars name) (get b.vars name) v (h.scope.vars name) g
own-shown (loc.Func name) o b w v h k g = own_part value.Func (get o.scope.funcs name) (get w.funcs name) (get b.funcs name) v (h.scope.funcs name) g
own-shown loc.Params o b w v h k g = absurd (no_some v (sym g))
own-shown loc.Status o b w v h k g = own_part value.Status o.status w.status b.status v h.status g
own-shown loc.Cwd o b w v h k g = own_part value.Cwd o.scope.cwd w.cwd b.cwd v h.scope.cwd g
own-shown loc.Opts o b w v h k g = own_part value.Opts o.scope.opts w.opts b.opts v h.scope.opts g
own-shown loc.Input o b w v h k g = own_part value.Input (input_of o.inputs) w.input b.input v (input_is o b w h) g
own-shown loc.Routes o b w v h k g = own_part value.Routes (routes_over o.routing) w.table.routes b.table.routes v (routes-law o.routing b w.table w.tables h.routing) g
own-shown loc.Ends o b w v h k g =
    let x = mapped_some value.Ends (ends_over 9 1 o.routing) v g in
    ap value.Ends (ends-law o.routing b (all_tables w) h.routing x.0 x.1) ∙ x.2
own-shown loc.Captured o b w v h k g =
    let x = mapped_some value.Captured (captured_over o.routing.pushed) v g in
    ap value.Captured (captured-law o.routing b (all_tables w) h.routing x.0 x.1) ∙ x.2
own-shown (loc.Kept n) o b w v h k g = own_part value.Kept (get o.scope.kept n) (get w.kept n) (get b.kept n) v (h.scope.kept n) g

-- and else it is so over the base's
pub over-shown : (l : Loc) (o : OverlayData) (b w : WorldData) → Over o b w → IsTree b.tree → lacks o l ≡ false → own_value o l ≡ None → At w l ≡ over_value o l (At b l)
over-shown (loc.Kind p) o b w h t k g =
    let x = mapped_none (λ e. value.Kind (kind_of e)) (own_entry o.files p) g in
    ap value.Kind (h.files.kinds p ∙ kind_under (get o.files.paths p) o.files.left b.tree p (unknown (get o.files.paths p) o.files.left p x))
over-shown (loc.Bytes p) o b w h t k g =
    let x = mapped_none (λ e. value.Bytes (bytes_of e)) (own_entry o.files p) g in
    ap value.Bytes (ap bytes_of (h.files.entries k p) ∙ bytes_under (get o.files.paths p) o.files.left b.tree p (unknown (get o.files.paths p) o.files.left p x))
over-shown (loc.Names p) o b w h t k g =
    let x = mapped_none value.Names (own_names o.files p) g in
    ap value.Names (names_other (own_entry o.files p) o.files o.routing.loose b.tree w.tree p t refl x h.files)
over-shown (loc.Var name) o b w h t k g = base_part value.Var (get o.scope.vars name) (get w.vars name) (get b.vars name) (h.scope.vars name) g
over-shown (loc.Func name) o b w h t k g = base_part value.Func (get o.scope.funcs name) (get w.funcs name) (get b.funcs name) (h.scope.funcs name) g
over-shown loc.Params o b w h t k g = λ i. value.Params (h.zero i) (h.scope.params i)
over-shown loc.Status o b w h t k g = base_part value.Status o.status w.status b.status h.status g
over-shown loc.Cwd o b w h t k g = base_part value.Cwd o.scope.cwd w.cwd b.cwd h.scope.cwd g
over-shown loc.Opts o b w h t k g = base_part value.Opts o.scope.opts w.opts b.opts h.scope.opts g
over-shown loc.Input o b w h t k g = base_part value.Input (input_of o.inputs) w.input b.input (input_is o b w h) g
over-shown loc.Routes o b w h t k g = base_part value.Routes (routes_over o.routing) w.table.routes b.table.routes (routes-law o.routing b w.table w.tables h.routing) g
over-shown loc.Ends o b w h t k g = absurd (no_ends (ends_over 9 1 o.routing) (mapped_none value.Ends (ends_over 9 1 o.routing) g) k)
over-shown loc.Captured o b w h t k g =
    let x = mapped_none value.Captured (captured_over o.routing.pushed) g in
    ap value.Captured (captured-base o.routing b (all_tables w) h.routing x (left_false o.routing.loose (captured_over o.routing.pushed) x k))
over-shown (loc.Kept n) o b w h t k g = base_part value.Kept (get o.scope.kept n) (get w.kept n) (get b.kept n) (h.scope.kept n) g

-- ---- with the base's ends and routes known nothing is lacking

mapped_away : (h : Bool) (o : Option Route) → option_map (hide h) o ≡ None → o ≡ None
mapped_away h None g = refl
mapped_away h (Some x) g = absurd (no_some (hide h x) g)

joined_none : (o : Option Route) (rs : Option (List Route)) → (o ≡ None → ⊥) → (rs ≡ None → ⊥) → joined o rs ≡ None → ⊥
joined_none None rs f k g = f refl
joined_none (Some r) None f k g = k refl
joined_none (Some r) (Some rs) f k g = no_some (r ∷ rs) g

some_there : (o : Option (List Route)) → (o ≡ None → ⊥) → not (is_some o) ≡ false
some_there None f = absurd (f refl)
some_there (Some rs) f = refl

seen_none : (r : RoutingData) → ((m : ℕ) → base_end r.base m ≡ None → ⊥) → (hidden : Bool) (n : ℕ) (own : List RouteTable) → seen_over hidden n own r.base ≡ None → ⊥
seen_none r f hidden n [] g = f n (mapped_away hidden (base_end r.base n) g)
seen_none r f hidden n (t ∷ ts) g =
    elim (route_at n t.routes) as (λ x. ◌≡◌ {A = Option Route} (elim x [
      | Same m ↦ seen_over (hidden || is_some t.capture) m ts r.base
      | Stream fd ↦ Some (Stream fd)
      | ToFile p ↦ Some (ToFile p)
      | Null ↦ Some Null
      | Closed ↦ Some Closed
      | Capture ↦ Some (shown_end (not hidden && is_some t.capture))
    ]) None → ⊥) [
      | Same m ↦ λ k. seen_none r f (hidden || is_some t.capture) m ts k
      | Stream fd ↦ λ k. no_some (Stream fd) k
      | ToFile p ↦ λ k. no_some (ToFile p) k
      | Null ↦ λ k. no_some Null k
      | Closed ↦ λ k. no_some Closed k
      | Capture ↦ λ k. no_some (shown_end (not hidden && is_some t.capture)) k
    ] g

ends_none : (r : RoutingData) → ((m : ℕ) → base_end r.base m ≡ None → ⊥) → (k n : ℕ) → ends_over k n r ≡ None → ⊥
ends_none r f zero n g = no_some [] g
ends_none r f (suc k) n g = joined_none (seen_over false n r.pushed r.base) (ends_over k (suc n) r) (seen_none r f false n r.pushed) (ends_none r f k (suc n)) g

pub none-lacks : (l : Loc) (o : OverlayData) (b w : WorldData) (es rs : List Route) → Over o b w → o.routing.base.ends ≡ Some es → o.routing.base.routes ≡ Some rs → length rs ≤ 9 → lacks o l ≡ false
none-lacks (loc.Bytes p) o b w es rs h e f n = h.routing.tight es rs e f n
none-lacks loc.Captured o b w es rs h e f n = ap (λ x. x && not (is_some (captured_over o.routing.pushed))) (h.routing.tight es rs e f n)
none-lacks loc.Ends o b w es rs h e f n = some_there (ends_over 9 1 o.routing) (ends_none o.routing (all-known o.routing b (all_tables w) h.routing es rs e f n) 9 1)
none-lacks (loc.Kind p) o b w es rs h e f n = refl
none-lacks (loc.Names p) o b w es rs h e f n = refl
none-lacks (loc.Var name) o b w es rs h e f n = refl
none-lacks (loc.Func name) o b w es rs h e f n = refl
none-lacks loc.Params o b w es rs h e f n = refl
none-lacks loc.Status o b w es rs h e f n = refl
none-lacks loc.Cwd o b w es rs h e f n = refl
none-lacks loc.Opts o b w es rs h e f n = refl
none-lacks loc.Input o b w es rs h e f n = refl
none-lacks loc.Routes o b w es rs h e f n = refl
none-lacks (loc.Kept m) o b w es rs h e f n = refl
