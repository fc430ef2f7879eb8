-- How much texts, paths and entries take in what is kept of them: 16 for each text and each path, and their bytes.
use Rattle.std.specs.Prelude.{ℕ, ◌+◌, ◌-◌, ◌^◌, min, List, [], ◌∷◌, length}
use Rattle.hs_world.specs.Paths.{Path}
use Rattle.hs_world.specs.declared.entry.Entry.{Entry}
use Rattle.hs_world.specs.declared.entry.Entry.TheVariants.{File, Dir, Other}

abbrev pub text_size : List ℕ → ℕ
text_size text = 16 + length text

-- the bytes of its names
abbrev pub path_bytes : Path → ℕ
path_bytes [] = 0
path_bytes (x ∷ xs) = length x + path_bytes xs

abbrev pub path_size : Path → ℕ
path_size path = 16 + path_bytes path

abbrev pub kept_size : Entry → ℕ
kept_size (File text) = text_size text
kept_size Dir = 0
kept_size Other = 0

abbrev pub entries_size : List (Path × Entry) → ℕ
entries_size [] = 0
entries_size (e ∷ es) = path_size e.0 + kept_size e.1 + entries_size es

-- a number as 128 bits keep it whose sums do not wrap
abbrev pub capped : ℕ → ℕ
capped n = min n (2 ^ 128 - 1)
