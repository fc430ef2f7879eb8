-- What is left to do of an expansion that is under way.
use Rattle.std.specs.Prelude.{ℕ, Bool, false, List, [], ◌∷◌, ◌++◌, map, Option, Some, None, if◌then◌else◌}
use Rattle.sh_split.specs.declared.mark.Mark.TheVariants.{Quotes}
use Rattle.sh_syntax.specs.declared.tree.Part.{Part}
use Rattle.sh_syntax.specs.declared.tree.Word.{Word}
use Rattle.sh_param.specs.Messages.{message}
use Rattle.sh_param.specs.Outputs.{substituted}
use Rattle.sh_param.specs.Pieces.{bytes_of, expanded_all, field_of}
use Rattle.sh_param.specs.Trims.{trimmed}
use Rattle.sh_param.specs.declared.mode.Context.{Context}
use Rattle.sh_param.specs.declared.mode.Mode.{Mode}
use Rattle.sh_param.specs.declared.piece.Piece.{Piece}
use Rattle.sh_param.specs.declared.piece.Piece.TheVariants as piece
use Rattle.sh_param.specs.Parts.{Meaning, Next, after_sum, assign_means, follow_of, meaning, parts_mean, put_value, start_behind}
use Rattle.sh_param.specs.Plans.{Plan, fails, after}
use Rattle.sh_expand.specs.Sums.{sums}
use Rattle.sh_param.specs.Words.{ended, word_parts, words_mean}
use Rattle.sh_expand.specs.declared.machine.Machine.{Machine}
use Rattle.sh_expand.specs.declared.open.Open.{Open}
use Rattle.sh_expand.specs.declared.open.Open.TheVariants as open_variant
use Rattle.sh_expand.specs.declared.open.Place.{Place}

abbrev pub means : List Part → List Meaning
means ps = map (meaning sums) ps

-- the parts at a place
abbrev pub place_means : Place → Next → Next
place_means p k ps = parts_mean p.mode false (means p.parts.now) ps k

-- what comes where the parts have ended that something was open for
abbrev pub open_means : Open → Next → Next
open_means (open_variant.Within p) k qs = place_means p k qs
open_means (open_variant.Assign name p ps) k qs = assign_means p.mode name.now (bytes_of qs) ps (place_means p k)
open_means (open_variant.Error name) k qs = fails (message name.now (bytes_of qs))
open_means (open_variant.Trim o v p ps) k qs = put_value p.mode (trimmed o (field_of qs) v) ps (place_means p k)
open_means (open_variant.Sum p ps) k qs = after (sums (bytes_of qs)) (after_sum p.mode ps (place_means p k))

abbrev pub opens_mean : List Open → Next → Next
opens_mean [] k = k
opens_mean (o ∷ os) k = open_means o (opens_mean os k)

-- what comes where a word has ended
abbrev pub after_word : Mode → List Word → Context → Next
after_word m words c ps = words_mean m (map (word_parts sums) words) (ps ++ piece.End ∷ []) (ended c)

abbrev pub behind_parts : Machine → Next
behind_parts x = opens_mean x.open (after_word x.base x.words.now x.context)

-- what comes for pieces before the next parts
abbrev pub next_of : Machine → Next
next_of x ps = parts_mean x.mode x.start (means x.parts.now) ps (behind_parts x)

abbrev pub rest_of : Machine → Plan
rest_of x = next_of x x.pieces

-- where the output of a list is waited for
abbrev pub waiting_of : Machine → List ℕ → Plan
waiting_of x out = next_of x (x.pieces ++ expanded_all x.mode (substituted out))

-- whether a tilde may stand at the beginning of the next part
abbrev pub with_start : Bool → Machine → Machine
with_start b x = record x { start = b }

-- a part before the next ones
abbrev pub meaning_plan : Meaning → Machine → Plan
meaning_plan p x = p.means x.mode x.start (follow_of (means x.parts.now)) x.pieces (next_of (with_start (start_behind x.mode x.start p.bytes) x))

abbrev pub part_plan : Part → Machine → Plan
part_plan p x = meaning_plan (meaning sums p) x

abbrev pub words_of : Option Word → List Meaning
words_of None = []
words_of (Some w) = means w.parts

-- quotes, but for `"$@"`
abbrev pub quotes_unless : Bool → List Piece
quotes_unless at = if at then [] else piece.Mark Quotes ∷ []
