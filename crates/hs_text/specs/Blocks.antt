-- The part of a block of bytes that a text has.
use Rattle.std.specs.Prelude.{ℕ, ◌+◌, ◌≤◌, List, length, take, drop, Option, None, Some}
use Rattle.hs_text.specs.declared.block.Part.{Part}

-- so many bytes from a place on, or all
abbrev pub part_of : Option Part → List ℕ → List ℕ
part_of None bytes = bytes
part_of (Some part) bytes = take part.len (drop part.start bytes)

-- where a part ends
abbrev pub end_of : Option Part → ℕ
end_of None = 0
end_of (Some part) = part.start + part.len

-- where a part begins
abbrev pub start_of : Option Part → ℕ
start_of None = 0
start_of (Some part) = part.start
