-- Values of parameters, and what stands for them in a word (POSIX.1-2017, XCU 2.5.2, 2.6.2).
use Rattle.std.specs.Prelude.{ℕ, Bool, true, false, not, ◌&&◌, ◌||◌, List, [], ◌∷◌, ◌++◌, length, Option, Some, None, decimal, if◌then◌else◌}
use Rattle.sh_split.specs.declared.mark.Mark.TheVariants.{Quotes}
use Rattle.sh_param.specs.Pieces.{expanded_all}
use Rattle.sh_param.specs.declared.mode.Mode.{Mode}
use Rattle.sh_param.specs.declared.piece.Piece.{Piece}
use Rattle.sh_param.specs.declared.piece.Piece.TheVariants as piece
use Rattle.sh_param.specs.declared.value.ParamValue.{ParamValue}
use Rattle.sh_param.specs.declared.value.ParamValue.TheVariants.{Unset, One, Each}

abbrev pub digits : ℕ → List ℕ
digits n = decimal n

-- ---- null and unset

abbrev pub is_empty : List ℕ → Bool
is_empty [] = true
is_empty (b ∷ r) = false

abbrev pub all_empty : List (List ℕ) → Bool
all_empty [] = true
all_empty (t ∷ ts) = is_empty t && all_empty ts

-- With a colon null counts as unset. `@` and `*` are never unset, and null where all parameters are.
abbrev pub is_absent : Bool → ParamValue → Bool
is_absent colon Unset = true
is_absent colon (One t) = colon && is_empty t
is_absent colon (Each star ts) = colon && all_empty ts

-- how many bytes
abbrev pub size_text : ParamValue → List ℕ
size_text Unset = digits 0
size_text (One t) = digits (length t)
size_text (Each star ts) = digits (length ts)

-- ---- the positional parameters

abbrev pub ifs_separator : Option (List ℕ) → List ℕ
ifs_separator None = 32 ∷ []
ifs_separator (Some []) = []
ifs_separator (Some (b ∷ r)) = b ∷ []

-- between two of them: for `*` the first byte of IFS
abbrev pub separator : Bool → Option (List ℕ) → List ℕ
separator star ifs = if star then ifs_separator ifs else 32 ∷ []

-- each with a separator before it
abbrev pub behind : List ℕ → List (List ℕ) → List ℕ
behind s [] = []
behind s (t ∷ ts) = s ++ (t ++ behind s ts)

abbrev pub joined : List ℕ → List (List ℕ) → List ℕ
joined s [] = []
joined s (t ∷ ts) = t ++ behind s ts

abbrev pub joined_pieces : Mode → List ℕ → List (List ℕ) → List Piece
joined_pieces m s ts = expanded_all m (joined s ts)

-- Within quotes there is a field also where a parameter is empty.
abbrev pub field_pieces : Mode → List ℕ → List Piece
field_pieces m t = if m.quoted then piece.Mark Quotes ∷ expanded_all m t else expanded_all m t

abbrev pub later_pieces : Mode → List (List ℕ) → List Piece
later_pieces m [] = []
later_pieces m (t ∷ ts) = piece.End ∷ (field_pieces m t ++ later_pieces m ts)

-- a field for each
abbrev pub each_pieces : Mode → List (List ℕ) → List Piece
each_pieces m [] = []
each_pieces m (t ∷ ts) = field_pieces m t ++ later_pieces m ts

-- ---- a value in a word

-- whether IFS tells how it is joined
abbrev pub needs_ifs : Mode → ParamValue → Bool
needs_ifs m Unset = false
needs_ifs m (One t) = false
needs_ifs m (Each star ts) = star && (m.quoted || not m.splits)

-- `"$@"`, and `$@` and `$*` outside of quotes, give a field for each parameter; `"$*"` joins them, and where nothing is
-- split, both do.
abbrev pub pieces_of : Mode → Option (List ℕ) → ParamValue → List Piece
pieces_of m ifs Unset = []
pieces_of m ifs (One t) = expanded_all m t
pieces_of m ifs (Each star ts) = if m.splits && not (star && m.quoted) then each_pieces m ts else joined_pieces m (separator star ifs) ts
