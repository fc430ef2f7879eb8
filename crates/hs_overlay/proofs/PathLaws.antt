-- What the code makes of paths.
use Rattle.std.proofs.Common.{◌≡◌, ◌==◌, [], ◌∷◌, false, T, length, refl, subst}
use Rattle.std.specs.FinMap.{insert}
use Rattle.hs_world.specs.Paths.{Path}
use Rattle.hs_overlay.specs.Paths.{PathsOver, put_path}
use Rattle.hs_overlay.specs.declared.paths.PathOver.{PathOver}

-- a path that is not the root's
pub put_there : (p : Path) (x : PathOver) (paths : PathsOver) → (length p == 0) ≡ false → insert paths p x ≡ put_path p x paths
put_there [] x paths h = absurd (subst T h tt)
put_there (n ∷ ns) x paths h = refl
