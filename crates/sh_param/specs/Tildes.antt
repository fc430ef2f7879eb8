-- Tilde expansion (POSIX.1-2017, XCU 2.6.1) and bytes that stand for themselves.
use Rattle.std.specs.Prelude.{ℕ, Bool, true, false, ◌&&◌, ◌||◌, ◌==◌, List, [], ◌∷◌, ◌++◌, Option, Some, None, if◌then◌else◌}
use Rattle.sh_split.specs.declared.mark.Mark.TheVariants.{Written, Quotes}
use Rattle.sh_param.specs.Modes.{literal}
use Rattle.sh_param.specs.Pieces.{quoted_all}
use Rattle.sh_param.specs.declared.mode.Mode.{Mode}
use Rattle.sh_param.specs.declared.piece.Piece.{Piece}
use Rattle.sh_param.specs.declared.piece.Piece.TheVariants as piece
use Rattle.sh_param.specs.declared.tilde.Follow.{Follow}
use Rattle.sh_param.specs.declared.tilde.Follow.TheVariants.{End, Byte, Other}

-- In an assignment a tilde may stand behind a colon too.
abbrev pub starts : Mode → ℕ → Bool
starts m b = m.colons && b == 58

abbrev pub starts_after : Mode → Bool → List ℕ → Bool
starts_after m start [] = start
starts_after m start (b ∷ r) = starts_after m (starts m b) r

-- A tilde-prefix ends at a slash, in an assignment also at a colon, and at the end of the word.
abbrev pub ends : Mode → ℕ → Bool
ends m b = b == 47 || starts m b

abbrev pub ends_by : Mode → Follow → Bool
ends_by m End = true
ends_by m (Byte b) = ends m b
ends_by m Other = false

abbrev pub is_prefix : Mode → Follow → List ℕ → Bool
is_prefix m follow [] = ends_by m follow
is_prefix m follow (b ∷ r) = ends m b

-- HOME's value counts as quoted. Where HOME is unset, the tilde stays.
abbrev pub home_pieces : Option (List ℕ) → List Piece
home_pieces None = piece.Mark (Written 126) ∷ []
home_pieces (Some home) = piece.Mark Quotes ∷ quoted_all home

abbrev pub byte_pieces : Mode → Bool → ℕ → Option (List ℕ) → List Piece
byte_pieces m tilde b home = if tilde then home_pieces home else piece.Mark (literal m b) ∷ []

-- The bytes of a text; `start` says whether a tilde may stand at its first one, and `follow` what comes behind it.
abbrev pub text_pieces : Mode → Bool → Option (List ℕ) → Follow → List ℕ → List Piece
text_pieces m start home follow [] = []
text_pieces m start home follow (b ∷ r) = byte_pieces m (start && b == 126 && is_prefix m follow r) b home ++ text_pieces m (starts m b) home follow r

abbrev pub has_tilde : List ℕ → Bool
has_tilde [] = false
has_tilde (b ∷ r) = b == 126 || has_tilde r
