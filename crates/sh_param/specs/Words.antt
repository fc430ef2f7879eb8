-- The expansion of words (POSIX.1-2017, XCU 2.6).
use Rattle.std.specs.Prelude.{ℕ, true, List, [], ◌∷◌, ◌++◌, map, Option, Some, None, if◌then◌else◌}
use Rattle.hs_world.specs.World.{WorldData}
use Rattle.hs_view.specs.Steps.{Done, nothing}
use Rattle.sh_syntax.specs.declared.tree.Word.{Word}
use Rattle.sh_param.specs.Lookups.{ifs_of}
use Rattle.sh_param.specs.Modes.{is_split, mode_of}
use Rattle.sh_param.specs.Pieces.{split_fields, whole_fields}
use Rattle.sh_param.specs.declared.mode.Context.{Context}
use Rattle.sh_param.specs.declared.mode.Mode.{Mode}
use Rattle.sh_param.specs.declared.piece.Piece.{Piece}
use Rattle.sh_param.specs.declared.piece.Piece.TheVariants as piece
use Rattle.sh_param.specs.Parts.{Meaning, Next, Sums, meaning, parts_mean}
use Rattle.sh_param.specs.Plans.{Plan, gives, after, expanded_by}
use Rattle.sh_param.specs.declared.answer.Expanded.{Expanded}

-- one word after another, each with its end behind it
abbrev pub words_mean : Mode → List (List Meaning) → List Piece → Next → Plan
words_mean m [] ps k = k ps
words_mean m (w ∷ ws) ps k = parts_mean m true w ps (λ qs. words_mean m ws (qs ++ piece.End ∷ []) k)

-- Field splitting comes last: IFS is that after all expansions. Where nothing is split, each word is one field.
abbrev pub ended : Context → Next
ended c ps = if is_split c then after (λ w. nothing (ifs_of w) w) (λ ifs. gives (split_fields ifs ps)) else gives (whole_fields ps)

-- where `$?` gives this status
abbrev pub plan_with : List (List Meaning) → Context → ℕ → Plan
plan_with words c status = words_mean (mode_of c status) words [] (ended c)

-- Without a status, `$?` gives that of the state at the beginning.
abbrev pub plan_by : List (List Meaning) → Context → Option ℕ → Plan
plan_by words c (Some status) = plan_with words c status
plan_by words c None = after (λ w. nothing w.status w) (plan_with words c)

abbrev pub word_parts : Sums → Word → List Meaning
word_parts sums word = map (meaning sums) word.parts

abbrev pub plan_of : Sums → List Word → Context → Option ℕ → Plan
plan_of sums words c status = plan_by (map (word_parts sums) words) c status

-- What words become in a state, with the outputs of command substitutions: fields, or a message, or the list whose output is wanted.
abbrev pub expand : Sums → List Word → Context → Option ℕ → List (List ℕ) → WorldData → Done Expanded
expand sums words c status outs w = expanded_by (plan_of sums words c status) outs w
