-- What a command substitution gives (POSIX.1-2017, XCU 2.6.3).
use Rattle.std.specs.Prelude.{ℕ, ◌==◌, List, [], ◌∷◌, if◌then◌else◌}

abbrev pub without_nuls : List ℕ → List ℕ
without_nuls [] = []
without_nuls (b ∷ r) = if b == 0 then without_nuls r else b ∷ without_nuls r

-- the byte before these, unless it is a newline with nothing behind it
abbrev pub before : ℕ → List ℕ → List ℕ
before b [] = if b == 10 then [] else b ∷ []
before b (c ∷ r) = b ∷ c ∷ r

-- without the newlines at the end
abbrev pub without_newlines : List ℕ → List ℕ
without_newlines [] = []
without_newlines (b ∷ r) = before b (without_newlines r)

abbrev pub substituted : List ℕ → List ℕ
substituted output = without_newlines (without_nuls output)
