-- What the expansions make of words: marks, and the ends of fields.
use Rattle.std.specs.Prelude.{ℕ, Bool, true, false, List, [], ◌∷◌, ◌++◌, Option, Some, None, option_map}
use Rattle.sh_split.specs.declared.mark.Mark.{Mark}
use Rattle.sh_split.specs.declared.mark.Mark.TheVariants.{Expanded, Written, Quoted, Quotes}
use Rattle.sh_split.specs.Fields.{fields_of}
use Rattle.sh_param.specs.Modes.{expanded}
use Rattle.sh_param.specs.declared.mode.Mode.{Mode}
use Rattle.sh_param.specs.declared.piece.Piece.{Piece}
use Rattle.sh_param.specs.declared.piece.Piece.TheVariants as piece

-- bytes that an expansion gave
abbrev pub expanded_all : Mode → List ℕ → List Piece
expanded_all m [] = []
expanded_all m (b ∷ bs) = piece.Mark (expanded m b) ∷ expanded_all m bs

abbrev pub quoted_all : List ℕ → List Piece
quoted_all [] = []
quoted_all (b ∷ bs) = piece.Mark (Quoted b) ∷ quoted_all bs

-- ---- without quotes

-- the byte, with whether it is quoted
abbrev pub symbol_of : Mark → Option (ℕ × Bool)
symbol_of (Expanded b) = Some (b, false)
symbol_of (Written b) = Some (b, false)
symbol_of (Quoted b) = Some (b, true)
symbol_of Quotes = None

abbrev pub byte_of : Piece → Option (ℕ × Bool)
byte_of (piece.Mark x) = symbol_of x
byte_of piece.End = None

abbrev pub put_if : {A : Type 0} → Option A → List A → List A
put_if None xs = xs
put_if (Some x) xs = x ∷ xs

abbrev pub field_of : List Piece → List (ℕ × Bool)
field_of [] = []
field_of (p ∷ ps) = put_if (byte_of p) (field_of ps)

-- quote removal (POSIX.1-2017, XCU 2.6.7)
abbrev pub bytes_of : List Piece → List ℕ
bytes_of [] = []
bytes_of (p ∷ ps) = put_if (option_map (λ x. x.0) (byte_of p)) (bytes_of ps)

-- ---- fields

-- the marks before each end; the first ones are those before these pieces
abbrev pub parted : List Mark → List Piece → List (List Mark)
parted xs [] = []
parted xs (piece.Mark x ∷ ps) = parted (xs ++ x ∷ []) ps
parted xs (piece.End ∷ ps) = xs ∷ parted [] ps

abbrev pub split_all : Option (List ℕ) → List (List Mark) → List (List (ℕ × Bool))
split_all ifs [] = []
split_all ifs (xs ∷ rest) = fields_of ifs xs ++ split_all ifs rest

-- each is split into fields (XCU 2.6.5)
abbrev pub split_fields : Option (List ℕ) → List Piece → List (List (ℕ × Bool))
split_fields ifs ps = split_all ifs (parted [] ps)

abbrev pub symbols_of : List Mark → List (ℕ × Bool)
symbols_of [] = []
symbols_of (x ∷ xs) = put_if (symbol_of x) (symbols_of xs)

abbrev pub whole_all : List (List Mark) → List (List (ℕ × Bool))
whole_all [] = []
whole_all (xs ∷ rest) = symbols_of xs ∷ whole_all rest

-- each is one field
abbrev pub whole_fields : List Piece → List (List (ℕ × Bool))
whole_fields ps = whole_all (parted [] ps)
