-- Numbers: what is open names lists, pipelines, bodies of functions and bodies of here-documents that have begun, and there
-- are few enough of each.
use Rattle.std.specs.Prelude.{ℕ, List, [], ◌∷◌, length, ◌<◌, ◌≤◌, ◌^◌}
use Rattle.sh_grammar.specs.declared.state.Due.{Due}
use Rattle.sh_grammar.specs.declared.state.Draft.{Draft}
use Rattle.sh_grammar.specs.declared.state.Now.{Now}
use Rattle.sh_grammar.specs.declared.state.Now.TheVariants as now
use Rattle.sh_grammar.specs.declared.state.Below.{Below}
use Rattle.sh_grammar.specs.declared.state.Below.TheVariants as below

-- the bodies of these here-documents have numbers
abbrev pub DueBegun : List Due → Draft → Type 0
DueBegun [] s = Unit {0}
DueBegun (h ∷ hs) s = (h.number < length s.heres) × DueBegun hs s

-- what ends where this ends has begun
abbrev pub HasBegun : Below → Draft → Type 0
HasBegun (below.Pipe p) s = p.leaf < length s.script.leaves
HasBegun (below.Function x n) s = n < length s.script.bodies
HasBegun (below.Group n) s = n < length s.script.lists
HasBegun (below.Subshell n) s = n < length s.script.lists
HasBegun (below.Test bs n) s = n < length s.script.lists
HasBegun (below.Then bs n k) s = k < length s.script.lists
HasBegun (below.Else bs n) s = n < length s.script.lists
HasBegun (below.While until n) s = n < length s.script.lists
HasBegun (below.WhileDo until n k) s = k < length s.script.lists
HasBegun (below.ForDo x ws n) s = n < length s.script.lists
HasBegun (below.Arm c ws n) s = n < length s.script.lists
HasBegun (below.Command ps m n) s = n < length s.script.lists
HasBegun (below.Backquote ps m n) s = n < length s.script.lists
HasBegun (below.Body n hs g) s = (n < length s.heres) × DueBegun hs s
HasBegun f s = Unit {0}

abbrev pub AllBegun : List Below → Draft → Type 0
AllBegun [] s = Unit {0}
AllBegun (f ∷ b) s = HasBegun f s × AllBegun b s

abbrev pub NowBegun : Now → Draft → Type 0
NowBegun (now.Due h hs g) s = (h.number < length s.heres) × DueBegun hs s
NowBegun n s = Unit {0}
