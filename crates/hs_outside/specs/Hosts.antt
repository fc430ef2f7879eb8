-- What a host's files come to. Where a host doesn't tell them, less is said.
use Rattle.std.specs.Prelude.{◌≡◌, ◌⊎◌, ℕ, ◌<◌, ◌-◌, ◌^◌, min, true, false, Option, option_map, Result, Ok, Err, IfSome}
use Rattle.std.specs.FinMap.{len}
use Rattle.hs_world.specs.Files.{Files, is_over, tree_bytes, most_bytes, most_entries}
use Rattle.hs_outside.specs.Memory.{next_call}
use Rattle.hs_outside.specs.declared.outside.HostErr.{HostErr}
use Rattle.hs_outside.specs.declared.outside.HostErr.TheVariants.{NoMemory, Fault, TooLarge}

-- Files that pass the limit of a tree have so many bytes and entries.
pub record IsTooLarge (files : Files) (bytes entries : ℕ) : Type 0 where
  pub over : is_over files ≡ true
  pub bytes_are : bytes ≡ min (tree_bytes files) (2 ^ 64 - 1)
  pub entries_are : entries ≡ len files

-- All files are loaded, within the limit of a tree, or they pass it.
abbrev pub Loads : Option Files → Result Files HostErr → Type 0
Loads files (Ok tree) = (is_over tree ≡ false) × IfSome files (λ f. tree ≡ f)
Loads files (Err (TooLarge bytes entries)) = ((most_bytes < bytes) ⊎ (most_entries < entries)) × IfSome files (λ f. IsTooLarge f bytes entries)
Loads files (Err NoMemory) = Unit {0}
Loads files (Err Fault) = Unit {0}

-- one call more, where the calls are told
abbrev pub one_more : Option ℕ → Option ℕ
one_more calls = option_map next_call calls
