-- What an overlay shows at a location: by itself, or over what the base has there.
use Rattle.std.specs.Prelude.{ℕ, Bool, false, not, ◌&&◌, List, [], ◌++◌, Option, Some, None, option_map, is_some, unwrap_or, if◌then◌else◌}
use Rattle.std.specs.FinMap.{get, keys}
use Rattle.hs_world.specs.Files.{Files as Tree, entry_at, kind_of, bytes_of, is_dir, names_in}
use Rattle.hs_world.specs.Paths.{Path}
use Rattle.hs_world.specs.declared.entry.Entry.{Entry}
use Rattle.hs_world.specs.declared.entry.Entry.TheVariants.{File, Dir, Other}
use Rattle.hs_world.specs.declared.loc.Loc.{Loc}
use Rattle.hs_world.specs.declared.loc.Loc.TheVariants as loc
use Rattle.hs_world.specs.declared.loc.Value.{Value}
use Rattle.hs_world.specs.declared.loc.Value.TheVariants as value
use Rattle.hs_overlay.specs.Paths.{extended_by}
use Rattle.hs_overlay.specs.declared.files.Files.{Files}
use Rattle.hs_overlay.specs.Inputs.{input_of}
use Rattle.hs_overlay.specs.Names.{NamesOver, changes_at, names_after}
use Rattle.hs_overlay.specs.Overlay.{OverlayData}
use Rattle.hs_overlay.specs.Routing.{ends_over, routes_over, captured_over}
use Rattle.hs_overlay.specs.declared.paths.PathOver.{PathOver}
use Rattle.hs_overlay.specs.declared.paths.PathOver.TheVariants.{Whole, Longer}

-- ---- files

-- what a path has, where that hangs on no read
abbrev pub entry_known : Option PathOver → Option Tree → Path → Option (Option Entry)
entry_known (Some (Whole entry)) left p = Some entry
entry_known None (Some tree) p = Some (entry_at tree p)
entry_known (Some (Longer more)) (Some tree) p = Some (extended_by (entry_at tree p) more)
entry_known None None p = None
entry_known (Some (Longer more)) None p = None

abbrev pub own_entry : Files → Path → Option (Option Entry)
own_entry f p = entry_known (get f.paths p) f.left p

abbrev pub names_if : Option Entry → List (List ℕ) → Option (List (List ℕ))
names_if entry names = if is_dir entry then Some names else None

-- The names of a folder hang on the base's, unless a program left the files, or the path has no folder.
abbrev pub own_names_by : Option Entry → Option Tree → NamesOver → Path → Option (Option (List (List ℕ)))
own_names_by entry (Some tree) changes p = Some (names_if entry (names_after changes (names_in p (keys tree))))
own_names_by (Some Dir) None changes p = None
own_names_by (Some (File text)) None changes p = Some None
own_names_by (Some Other) None changes p = Some None
own_names_by None None changes p = Some None

abbrev pub own_names_of : Option (Option Entry) → Files → Path → Option (Option (List (List ℕ)))
own_names_of None f p = None
own_names_of (Some entry) f p = own_names_by entry f.left (changes_at f.folders p) p

abbrev pub own_names : Files → Path → Option (Option (List (List ℕ)))
own_names f p = own_names_of (own_entry f p) f p

-- bytes over those of the base
abbrev pub bytes_over : Option PathOver → Option (List ℕ) → Option (List ℕ)
bytes_over None bytes = bytes
bytes_over (Some (Longer more)) bytes = option_map (λ text. text ++ more) bytes
bytes_over (Some (Whole entry)) bytes = bytes_of entry

-- names over those of the base, which has none where it has no folder
abbrev pub names_over : Option PathOver → NamesOver → Option (List (List ℕ)) → Option (List (List ℕ))
names_over (Some (Whole entry)) changes names = names_if entry (names_after changes (unwrap_or names []))
names_over None changes names = option_map (names_after changes) names
names_over (Some (Longer more)) changes names = option_map (names_after changes) names

-- ---- locations

-- the value that the effects give by themselves
abbrev pub own_value : OverlayData → Loc → Option Value
own_value o (loc.Kind p) = option_map (λ e. value.Kind (kind_of e)) (own_entry o.files p)
own_value o (loc.Bytes p) = option_map (λ e. value.Bytes (bytes_of e)) (own_entry o.files p)
own_value o (loc.Names p) = option_map value.Names (own_names o.files p)
own_value o (loc.Var name) = option_map value.Var (get o.scope.vars name)
own_value o (loc.Func name) = option_map value.Func (get o.scope.funcs name)
own_value o loc.Params = None
own_value o loc.Status = option_map value.Status o.status
own_value o loc.Cwd = option_map value.Cwd o.scope.cwd
own_value o loc.Opts = option_map value.Opts o.scope.opts
own_value o loc.Input = option_map value.Input (input_of o.inputs)
own_value o loc.Routes = option_map value.Routes (routes_over o.routing)
own_value o loc.Ends = option_map value.Ends (ends_over 9 1 o.routing)
own_value o loc.Captured = option_map value.Captured (captured_over o.routing.pushed)
own_value o (loc.Kept n) = option_map value.Kept (get o.scope.kept n)

-- the value over that of the base at the same location
abbrev pub over_value : OverlayData → Loc → Value → Value
over_value o (loc.Bytes p) (value.Bytes bytes) = value.Bytes (bytes_over (get o.files.paths p) bytes)
over_value o (loc.Names p) (value.Names names) = value.Names (names_over (get o.files.paths p) (changes_at o.files.folders p) names)
over_value o loc.Params (value.Params zero params) = value.Params zero (unwrap_or o.scope.params params)
over_value o loc.Captured (value.Captured text) = value.Captured (text ++ o.routing.given)
over_value o _ v = v

-- Whether the value hangs on where the base's descriptors lead, and that is not known: bytes went by one of them, or they are
-- what is asked for.
abbrev pub lacks : OverlayData → Loc → Bool
lacks o (loc.Bytes p) = o.routing.loose
lacks o loc.Captured = o.routing.loose && not (is_some (captured_over o.routing.pushed))
lacks o loc.Ends = not (is_some (ends_over 9 1 o.routing))
lacks o _ = false
