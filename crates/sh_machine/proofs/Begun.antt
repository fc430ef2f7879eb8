-- What has begun stays so while the lists of the draft grow or keep their lengths.
use Rattle.std.proofs.Common.{◌≡◌, ℕ, ◌<◌, ◌≤◌, List, [], ◌∷◌, ◌++◌, length, slice_set, arith, length-set, length-append}
use Rattle.sh_grammar.specs.declared.state.Due.{Due}
use Rattle.sh_grammar.specs.declared.state.Draft.{Draft}
use Rattle.sh_grammar.specs.declared.state.Below.{Below}
use Rattle.sh_grammar.specs.declared.state.Below.TheVariants as below
use Rattle.sh_machine.specs.Numbers.{DueBegun, HasBegun, AllBegun}

pub record Keeps (s t : Draft) : Type 0 where
  pub lists : length s.script.lists ≤ length t.script.lists
  pub leaves : length s.script.leaves ≤ length t.script.leaves
  pub bodies : length s.script.bodies ≤ length t.script.bodies
  pub heres : length s.heres ≤ length t.heres

pub due-kept : (hs : List Due) (s t : Draft) → Keeps s t → DueBegun hs s → DueBegun hs t
due-kept [] s t k h = tt
due-kept (x ∷ hs) s t k h = (omega (arith, k.heres, h.0), due-kept hs s t k h.1)

pub begun-kept : (f : Below) (s t : Draft) → Keeps s t → HasBegun f s → HasBegun f t
begun-kept (below.Pipe p) s t k h = omega (arith, k.leaves, h)
begun-kept (below.Function x n) s t k h = omega (arith, k.bodies, h)
begun-kept (below.Group n) s t k h = omega (arith, k.lists, h)
begun-kept (below.Subshell n) s t k h = omega (arith, k.lists, h)
begun-kept (below.Test bs n) s t k h = omega (arith, k.lists, h)
begun-kept (below.Then bs n l) s t k h = omega (arith, k.lists, h)
begun-kept (below.Else bs n) s t k h = omega (arith, k.lists, h)
begun-kept (below.While until n) s t k h = omega (arith, k.lists, h)
begun-kept (below.WhileDo until n l) s t k h = omega (arith, k.lists, h)
begun-kept (below.ForDo x ws n) s t k h = omega (arith, k.lists, h)
begun-kept (below.Arm c ws n) s t k h = omega (arith, k.lists, h)
begun-kept (below.Command ps m n) s t k h = omega (arith, k.lists, h)
begun-kept (below.Backquote ps m n) s t k h = omega (arith, k.lists, h)
begun-kept (below.Body n hs g) s t k h = (omega (arith, k.heres, h.0), due-kept hs s t k h.1)
begun-kept f s t k h = tt

pub all-kept : (b : List Below) (s t : Draft) → Keeps s t → AllBegun b s → AllBegun b t
all-kept [] s t k h = tt
all-kept (f ∷ b) s t k h = (begun-kept f s t k h.0, all-kept b s t k h.1)

pub set_long : {A : Type 0} (xs ys : List A) (n : ℕ) (x : A) → ys ≡ slice_set xs n x → length xs ≤ length ys
set_long xs ys n x e = rw e (omega (arith, length-set xs n x))

pub push_long : {A : Type 0} (xs ys : List A) (x : A) → ys ≡ xs ++ x ∷ [] → length xs ≤ length ys
push_long xs ys x e = rw e (omega (arith, length-append xs (x ∷ [])))
