-- What `tr` makes of a text (POSIX.1-2017, XCU, `tr`, DESCRIPTION).
use Rattle.std.specs.Prelude.{◌≡◌, ℕ, ◌<◌, Bool, true, false, not, ◌&&◌, ◌==◌, List, [], ◌∷◌, map, Option, None, Some, slice_index_or, unwrap_or, if◌then◌else◌}
use Rattle.std.specs.List.{filter}
use Rattle.util_lines.specs.ByteSet.{has}
use Rattle.util_lines.specs.declared.transliterating.Tables.{Tables}

-- ---- translation

-- what is left of the second set behind its first byte: its last byte is repeated
abbrev pub behind_first : List ℕ → List ℕ
behind_first [] = []
behind_first (c ∷ []) = c ∷ []
behind_first (c ∷ d ∷ cs) = d ∷ cs

-- The byte that a byte becomes: the one in the second set at its first place in the first one. Any other byte stays.
abbrev pub image : List ℕ → List ℕ → ℕ → ℕ
image [] to b = b
image (a ∷ more) [] b = b
image (a ∷ more) (c ∷ cs) b = if a == b then c else image more (behind_first (c ∷ cs)) b

-- ---- runs

abbrev pub repeats : Option ℕ → ℕ → Bool
repeats None b = false
repeats (Some a) b = a == b

-- the text behind this byte, where of each run of a byte that is in the set one is left
abbrev pub squeezed : List ℕ → Option ℕ → List ℕ → List ℕ
squeezed set last [] = []
squeezed set last (b ∷ bs) = if repeats last b && has set b then squeezed set last bs else b ∷ squeezed set (Some b) bs

-- ---- all of it

-- Which bytes are deleted, which become which others, and of which bytes runs are squeezed, in this order.
pub record Job : Type 0 where
  pub deletes : List ℕ
  pub from : List ℕ
  pub to : List ℕ
  pub squeezes : List ℕ

abbrev pub kept : Job → List ℕ → List ℕ
kept job text = filter (λ b. not (has job.deletes b)) text

abbrev pub translated : Job → List ℕ → List ℕ
translated job text = map (λ b. image job.from job.to b) (kept job text)

abbrev pub transliterated : Job → List ℕ → List ℕ
transliterated job text = squeezed job.squeezes None (translated job text)

-- ---- byte by byte

-- the entry of a byte, where it was this one and these images are left
abbrev pub first_or : Option ℕ → List ℕ → Option ℕ
first_or entry [] = entry
first_or entry (c ∷ cs) = Some (unwrap_or entry c)

abbrev pub put_of : Bool → Bool → ℕ → Option ℕ
put_of true repeated x = None
put_of false true x = None
put_of false false x = Some x

-- what is written for a byte, behind the last one that was written
abbrev pub put_for : Job → Option ℕ → ℕ → Option ℕ
put_for job last b = let x = image job.from job.to b in put_of (has job.deletes b) (repeats last x && has job.squeezes x) x

-- The tables say so for each byte.
pub record StandFor (tables : Tables) (job : Job) : Type 0 where
  pub deletes : (b : ℕ) → b < 256 → slice_index_or tables.deletes b false ≡ has job.deletes b
  pub images : (b : ℕ) → b < 256 → unwrap_or (slice_index_or tables.images b None) b ≡ image job.from job.to b
  pub squeezes : (b : ℕ) → b < 256 → slice_index_or tables.squeezes b false ≡ has job.squeezes b
