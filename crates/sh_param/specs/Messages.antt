-- Messages of expansions that fail (POSIX.1-2017, XCU 2.8.1, leaves their text open).
use Rattle.std.specs.Prelude.{ℕ, List, [], ◌∷◌, ◌++◌, codes}

-- `hs: WHY` and a newline
abbrev pub bare_message : List ℕ → List ℕ
bare_message why = codes "hs: " ++ (why ++ 10 ∷ [])

-- `hs: NAME: WHY` and a newline
abbrev pub message : List ℕ → List ℕ → List ℕ
message name why = codes "hs: " ++ (name ++ (codes ": " ++ (why ++ 10 ∷ [])))
