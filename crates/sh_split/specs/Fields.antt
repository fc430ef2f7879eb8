-- Field splitting (POSIX.1-2017, XCU 2.6.5).
use Rattle.std.specs.Prelude.{ℕ, Bool, true, false, not, ◌||◌, ◌==◌, List, [], ◌∷◌, map, Option, Some, None, if◌then◌else◌}
use Rattle.std.specs.List.{list_any}
use Rattle.sh_split.specs.declared.mark.Mark.{Mark}
use Rattle.sh_split.specs.declared.mark.Mark.TheVariants.{Expanded, Written, Quoted, Quotes}
use Rattle.sh_split.specs.declared.place.Place.{Place}
use Rattle.sh_split.specs.declared.place.Place.TheVariants.{Between, Within, Behind}

-- ---- IFS

-- where it is unset, space, tab and newline
abbrev pub ifs_bytes : Option (List ℕ) → List ℕ
ifs_bytes None = 32 ∷ 9 ∷ 10 ∷ []
ifs_bytes (Some bytes) = bytes

abbrev pub delimits : List ℕ → ℕ → Bool
delimits ifs b = list_any (λ x. x == b) ifs

abbrev pub is_white : ℕ → Bool
is_white b = b == 32 || b == 9 || b == 10

-- ---- fields

-- the byte is the first of the first field
abbrev pub put_first : ℕ × Bool → List (List (ℕ × Bool)) → List (List (ℕ × Bool))
put_first x [] = (x ∷ []) ∷ []
put_first x (f ∷ fs) = (x ∷ f) ∷ fs

-- A delimiter, white space or not, ends a field: any ends one that has begun, and one that is no white space an empty one, unless
-- it belongs to white space that has ended one.
abbrev pub ends : Place → Bool → Bool
ends Between white = not white
ends Within white = true
ends Behind white = false

abbrev pub next : Place → Bool → Place
next p false = Between
next Between true = Between
next Within true = Behind
next Behind true = Behind

abbrev pub end_if : Bool → List (List (ℕ × Bool)) → List (List (ℕ × Bool))
end_if true fs = [] ∷ fs
end_if false fs = fs

-- at the end no field begins
abbrev pub last_of : Place → List (List (ℕ × Bool))
last_of Between = []
last_of Within = [] ∷ []
last_of Behind = []

-- The fields from a place on. The first of them goes on where the place is within a field.
abbrev pub fields_from : List ℕ → Place → List Mark → List (List (ℕ × Bool))
fields_from ifs p [] = last_of p
fields_from ifs p (Expanded b ∷ ms) = if delimits ifs b then end_if (ends p (is_white b)) (fields_from ifs (next p (is_white b)) ms) else put_first (b, false) (fields_from ifs Within ms)
fields_from ifs p (Written b ∷ ms) = put_first (b, false) (fields_from ifs Within ms)
fields_from ifs p (Quoted b ∷ ms) = put_first (b, true) (fields_from ifs Within ms)
fields_from ifs p (Quotes ∷ ms) = fields_from ifs Within ms

abbrev pub fields_of : Option (List ℕ) → List Mark → List (List (ℕ × Bool))
fields_of ifs ms = fields_from (ifs_bytes ifs) Between ms

-- each unquoted byte as one that an expansion gave
abbrev pub mark_of : ℕ × Bool → Mark
mark_of x = if x.1 then Quoted x.0 else Expanded x.0

abbrev pub split : Option (List ℕ) → List (ℕ × Bool) → List (List (ℕ × Bool))
split ifs field = fields_of ifs (map mark_of field)
