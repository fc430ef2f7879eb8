-- What parameters are in a state of the shell (POSIX.1-2017, XCU 2.5), and what expansions read of it.
use Rattle.std.specs.Prelude.{ℕ, zero, suc, Bool, true, false, not, ◌&&◌, List, ◌++◌, length, Option, Some, None, slice_get, codes, if◌then◌else◌}
use Rattle.std.specs.FinMap.{get}
use Rattle.hs_world.specs.World.{WorldData}
use Rattle.hs_world.specs.declared.var.Var.{Var}
use Rattle.hs_view.specs.Steps.{Done, nothing}
use Rattle.sh_param.specs.Kinds.{kind_of, number}
use Rattle.sh_param.specs.Pieces.{quoted_all}
use Rattle.sh_param.specs.Tildes.{has_tilde, text_pieces}
use Rattle.sh_param.specs.Values.{digits, pieces_of}
use Rattle.sh_param.specs.declared.kind.Kind.{Kind}
use Rattle.sh_param.specs.declared.kind.Kind.TheVariants.{At, Star, Count, Status, Position, Variable}
use Rattle.sh_param.specs.declared.mode.Mode.{Mode}
use Rattle.sh_param.specs.declared.piece.Piece.{Piece}
use Rattle.sh_param.specs.declared.tilde.Follow.{Follow}
use Rattle.sh_param.specs.declared.value.ParamValue.{ParamValue}
use Rattle.sh_param.specs.declared.value.ParamValue.TheVariants.{Unset, One, Each}

-- ---- variables

abbrev pub text_in : Option Var → Option (List ℕ)
text_in None = None
text_in (Some var) = var.value

-- the value of a variable, if it has one
abbrev pub text_of : List ℕ → WorldData → Option (List ℕ)
text_of name w = text_in (get w.vars name)

abbrev pub ifs_of : WorldData → Option (List ℕ)
ifs_of w = text_of (codes "IFS") w

abbrev pub home_of : WorldData → Option (List ℕ)
home_of w = text_of (codes "HOME") w

-- ---- parameters

abbrev pub one_or_unset : Option (List ℕ) → ParamValue
one_or_unset None = Unset
one_or_unset (Some t) = One t

abbrev pub positional : ℕ → List ℕ → List (List ℕ) → ParamValue
positional zero first params = One first
positional (suc n) first params = one_or_unset (slice_get params n)

abbrev pub value_by : Kind → ℕ → List ℕ → WorldData → ParamValue
value_by At status name w = Each false w.params
value_by Star status name w = Each true w.params
value_by Count status name w = One (digits (length w.params))
value_by Status status name w = One (digits status)
value_by Position status name w = positional (number 0 name) w.zero w.params
value_by Variable status name w = one_or_unset (text_of name w)

-- the value of a parameter, where `$?` gives this status
abbrev pub value_of : ℕ → List ℕ → WorldData → ParamValue
value_of status name w = value_by (kind_of name) status name w

-- ---- what is put behind the pieces of a word

abbrev pub with_value : Mode → ParamValue → List Piece → WorldData → Done (List Piece)
with_value m v ps w = nothing (ps ++ pieces_of m (ifs_of w) v) w

abbrev pub written : Mode → Bool → Option (List ℕ) → Follow → List ℕ → List Piece
written m start home follow t = if m.quoted then quoted_all t else text_pieces m start home follow t

-- whether a tilde stands in it, outside of quotes
abbrev pub needs_home : Mode → List ℕ → Bool
needs_home m t = not m.quoted && has_tilde t

abbrev pub with_text : Mode → Bool → Follow → List ℕ → List Piece → WorldData → Done (List Piece)
with_text m start follow t ps w = nothing (ps ++ written m start (home_of w) follow t) w
