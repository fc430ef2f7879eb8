-- The parts of a path that is written (POSIX.1-2017, XCU, `basename` and `dirname`).
use Rattle.std.specs.Prelude.{ℕ, ◌-◌, Bool, false, not, ◌&&◌, ◌||◌, ◌==◌, nat_eq, List, [], ◌∷◌, length, take, drop, if◌then◌else◌}
use Rattle.std.specs.Cmp.Lexicographic.{pointwise}

-- one byte more in front of a text without the slashes at its end
abbrev pub before : ℕ → List ℕ → List ℕ
before b [] = if b == 47 then [] else b ∷ []
before b (c ∷ cs) = b ∷ c ∷ cs

-- without the slashes at its end
abbrev pub without_slashes : List ℕ → List ℕ
without_slashes [] = []
without_slashes (b ∷ bs) = before b (without_slashes bs)

abbrev pub has_slash : List ℕ → Bool
has_slash [] = false
has_slash (b ∷ bs) = b == 47 || has_slash bs

-- what stands behind the last slash: all of it, where there is none
abbrev pub behind_slash : List ℕ → List ℕ
behind_slash [] = []
behind_slash (b ∷ bs) = if has_slash (b ∷ bs) then behind_slash bs else b ∷ bs

-- what stands before the last slash
abbrev pub before_slash : List ℕ → List ℕ
before_slash [] = []
before_slash (b ∷ bs) = if has_slash bs then b ∷ before_slash bs else []

abbrev pub or_slash : List ℕ → List ℕ
or_slash [] = 47 ∷ []
or_slash (b ∷ bs) = b ∷ bs

-- ---- the name

-- the last component; a text of slashes alone has the name `/`, and an empty one none
abbrev pub name_of : List ℕ → List ℕ
name_of [] = []
name_of (b ∷ bs) = or_slash (behind_slash (without_slashes (b ∷ bs)))

abbrev pub ends_with : List ℕ → List ℕ → Bool
ends_with suffix name = pointwise nat_eq (drop (length name - length suffix) name) suffix

-- without the suffix, unless that is all of it
abbrev pub without_suffix : List ℕ → List ℕ → List ℕ
without_suffix suffix name =
    if ends_with suffix name && not (pointwise nat_eq name suffix) then take (length name - length suffix) name else name

-- ---- the folder

-- of a text without slashes at its end
abbrev pub folder_in : List ℕ → List ℕ
folder_in [] = 47 ∷ []
folder_in (b ∷ bs) = if has_slash (b ∷ bs) then or_slash (without_slashes (before_slash (b ∷ bs))) else 46 ∷ []

-- what stands before the last component, without slashes at its end; `.` where no slash is before it
abbrev pub folder_of : List ℕ → List ℕ
folder_of [] = 46 ∷ []
folder_of (b ∷ bs) = folder_in (without_slashes (b ∷ bs))
