-- Which texts are too long for an effect of a view.
use Rattle.std.specs.Prelude.{ℕ, ◌+◌, ◌-◌, ◌^◌, min, Bool, false, ◌||◌, List, [], ◌∷◌, Option, Some, None, length, ltb, option_and_then}
use Rattle.hs_world.specs.Files.{bytes_of, most_bytes}
use Rattle.hs_world.specs.Paths.{Path}
use Rattle.hs_world.specs.Tables.{fd_number, taker_in}
use Rattle.hs_world.specs.declared.effect.Effect.{Effect}
use Rattle.hs_world.specs.declared.effect.Effect.TheVariants.{SetVar, UnsetVar, SetFunc, UnsetFunc, SetParams, Put, Append, Emit, PushInput, SetInput, SetKept, ExecInput, Replied}
use Rattle.hs_overlay.specs.declared.files.Files.{Files}
use Rattle.hs_overlay.specs.Overlay.{OverlayData}
use Rattle.hs_overlay.specs.Routing.{file_over}
use Rattle.hs_overlay.specs.Shown.{own_entry}

-- A text may have 268,435,456 bytes.
abbrev pub is_long : List ℕ → Bool
is_long text = ltb most_bytes (length text)

abbrev pub has_long : List (List ℕ) → Bool
has_long [] = false
has_long (x ∷ xs) = is_long x || has_long xs

abbrev pub is_long_in : Option (List ℕ) → Bool
is_long_in None = false
is_long_in (Some text) = is_long text

-- whether a text is too long, or what has it at its end then, where that is known as a whole
abbrev pub grows_long : Option (List ℕ) → List ℕ → Bool
grows_long None more = is_long more
grows_long (Some old) more = ltb most_bytes (length old + length more)

-- a length as 64 bits keep it
abbrev pub capped_length : Option (List ℕ) → Option ℕ
capped_length None = None
capped_length (Some text) = Some (min (length text) (2 ^ 64 - 1))

-- the bytes of a file that the effects have made whole
abbrev pub whole_file : Files → Path → Option (List ℕ)
whole_file f p = option_and_then bytes_of (own_entry f p)

abbrev pub whole_at : Option Path → Option (List ℕ) → Files → Option (List ℕ)
whole_at None capture f = capture
whole_at (Some p) capture f = whole_file f p

-- whether a text of the effect, or a capture or a file that the effects have made whole, would be too long
abbrev pub over_passes : Effect → OverlayData → Bool
over_passes (SetVar name var) o = is_long name || is_long_in var.value
over_passes (UnsetVar name) o = is_long name
over_passes (SetFunc name body) o = is_long name
over_passes (UnsetFunc name) o = is_long name
over_passes (SetParams params) o = has_long params
over_passes (Put p text) o = is_long text
over_passes (Append p text) o = grows_long (whole_file o.files p) text
over_passes (Emit fd text) o = grows_long (whole_at (file_over (fd_number fd) o.routing) (taker_in (fd_number fd) o.routing.pushed) o.files) text
over_passes (PushInput text) o = is_long text
over_passes (SetInput text) o = is_long text
over_passes (SetKept n text) o = is_long_in text
over_passes (ExecInput text) o = is_long text
over_passes (Replied reply) o = is_long reply.out || is_long reply.err
over_passes _ o = false
