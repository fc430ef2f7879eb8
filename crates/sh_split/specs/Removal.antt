-- Quote removal (POSIX.1-2017, XCU 2.6.7). Each byte of a field comes with whether it is quoted.
use Rattle.std.specs.Prelude.{ℕ, Bool, List, map}

abbrev pub bytes_of : List (ℕ × Bool) → List ℕ
bytes_of field = map (λ x. x.0) field

abbrev pub unquoted : List (List (ℕ × Bool)) → List (List ℕ)
unquoted fields = map bytes_of fields
