-- What effects make of the tree of files. A file that only grew keeps what the base has in front.
use Rattle.std.specs.Prelude.{◌≡◌, ℕ, Bool, true, false, List, Option, Some, None, unwrap_or}
use Rattle.std.specs.FinMap.{empty, get, keys}
use Rattle.hs_world.specs.Files.{Files as Tree, entry_at, kind_of, names_in}
use Rattle.hs_world.specs.Paths.{Path}
use Rattle.hs_world.specs.declared.entry.Entry.{Entry}
use Rattle.hs_overlay.specs.Names.{changes_at, marked, is_listed}
use Rattle.hs_overlay.specs.Paths.{shown_by, longer, put_path}
use Rattle.hs_overlay.specs.declared.files.Files.{Files}
use Rattle.hs_overlay.specs.declared.paths.PathOver.TheVariants.{Whole}

abbrev pub no_files : Files
no_files = record { left = None; paths = empty; folders = empty }

-- an entry comes
abbrev pub with_entry : Path → Entry → Files → Files
with_entry path entry f = record f { paths = put_path path (Whole (Some entry)) f.paths; folders = marked true f.folders path }

-- an entry goes
abbrev pub without_entry : Path → Files → Files
without_entry path f = record f { paths = put_path path (Whole None) f.paths; folders = marked false f.folders path }

-- a file grows
abbrev pub with_more : Path → List ℕ → Files → Files
with_more path more f = record f { paths = put_path path (longer (get f.paths path) more) f.paths }

abbrev pub with_more_at : Option Path → List ℕ → Files → Files
with_more_at None more f = f
with_more_at (Some path) more f = with_more path more f

-- a program left these files
abbrev pub left_files : Tree → Files
left_files tree = record { left = Some tree; paths = empty; folders = empty }

-- the tree that the changes are over
abbrev pub under_files : Files → Tree → Tree
under_files f base = unwrap_or f.left base

-- A tree is so over a base's. Where bytes went nobody knows where, only kinds and names are told.
pub record FilesOver (f : Files) (loose : Bool) (b w : Tree) : Type 0 where
  pub kinds : (p : Path) → kind_of (entry_at w p) ≡ kind_of (shown_by (get f.paths p) (entry_at (under_files f b) p))
  pub entries : loose ≡ false → (p : Path) → entry_at w p ≡ shown_by (get f.paths p) (entry_at (under_files f b) p)
  pub names : (p : Path) (name : List ℕ) → is_listed name (names_in p (keys w)) ≡ unwrap_or (get (changes_at f.folders p) name) (is_listed name (names_in p (keys (under_files f b))))
