-- Paths with what effects made of them.
use Rattle.std.specs.Prelude.{◌≡◌, ℕ, List, [], ◌∷◌, ◌++◌, Option, Some, None, refl}
use Rattle.std.specs.Coded.{Coded, code_by, coded⊎, coded_option}
use Rattle.std.specs.FinMap.{FinMap, code, insert}
use Rattle.std.proofs.Common.{◌⊎◌, inl, inr}
use Rattle.hs_world.specs.Files.{entry_code}
use Rattle.hs_world.specs.Names.{path_cmp, text_code, texts_code}
use Rattle.hs_world.specs.Paths.{Path}
use Rattle.hs_world.specs.declared.entry.Entry.{Entry}
use Rattle.hs_world.specs.declared.entry.Entry.TheVariants.{File, Dir, Other}
use Rattle.hs_overlay.specs.declared.paths.PathOver.{PathOver}
use Rattle.hs_overlay.specs.declared.paths.PathOver.TheVariants.{Whole, Longer}

abbrev pub PathsOver : Type 0
PathsOver = FinMap path_cmp PathOver

abbrev pub path_over_in : PathOver → Option Entry ⊎ List ℕ
path_over_in (Whole entry) = inl entry
path_over_in (Longer more) = inr more

abbrev pub path_over_out : Option Entry ⊎ List ℕ → PathOver
path_over_out (inl entry) = Whole entry
path_over_out (inr more) = Longer more

abbrev pub path_over_back : (x : PathOver) → path_over_out (path_over_in x) ≡ x
path_over_back (Whole entry) = refl
path_over_back (Longer more) = refl

abbrev pub path_over_code : Coded PathOver
path_over_code = code_by (Option Entry ⊎ List ℕ) (coded⊎ (coded_option entry_code) text_code) path_over_in path_over_out path_over_back

abbrev pub paths_over_code : Coded PathsOver
paths_over_code = code texts_code path_over_code

-- with bytes at the end, where it is a file
abbrev pub extended_by : Option Entry → List ℕ → Option Entry
extended_by None more = None
extended_by (Some (File text)) more = Some (File (text ++ more))
extended_by (Some Dir) more = Some Dir
extended_by (Some Other) more = Some Other

-- what a path has, over what it had
abbrev pub shown_by : Option PathOver → Option Entry → Option Entry
shown_by None old = old
shown_by (Some (Whole entry)) old = entry
shown_by (Some (Longer more)) old = extended_by old more

abbrev pub longer : Option PathOver → List ℕ → PathOver
longer None more = Longer more
longer (Some (Whole entry)) more = Whole (extended_by entry more)
longer (Some (Longer so_far)) more = Longer (so_far ++ more)

-- the root is no entry of the map
abbrev pub put_path : Path → PathOver → PathsOver → PathsOver
put_path [] x paths = paths
put_path (n ∷ ns) x paths = insert paths (n ∷ ns) x
