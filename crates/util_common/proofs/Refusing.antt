-- Words that are refused.
use Rattle.std.proofs.Common.{◌≡◌, ℕ, List, sym, ap, ◌∙◌}
use Rattle.std.specs.Prelude.{Result, Ok, Err}
use Rattle.hs_world.specs.World.{WorldData}
use Rattle.hs_view.specs.Steps.{Done}
use Rattle.util_common.specs.Operands.{refused}
use Rattle.util_common.specs.Words.{Answers, Blames}
use Rattle.util_common.specs.declared.messages.Why.{Why}
use Rattle.util_common.specs.declared.words.WordErr.{WordErr}
use Rattle.util_common.specs.declared.words.WordErr.TheVariants as err

-- A meaning that hangs on words which are refused blames them.
pub blamed : {X : Type 0} (meaning : Result X Why → WorldData → Done ℕ) (utility : List ℕ) (e : WordErr) (reading : Result X Why) → ((why : Why) (w : WorldData) → meaning (Err why) w ≡ refused utility why w)
    → Answers {X = X} (Err e) reading → Blames e utility (meaning reading)
blamed {X} meaning utility (err.Refused why) reading m a = λ w. ap (λ (r : Result X Why). meaning r w) a ∙ m why w
blamed meaning utility err.NoMemory reading m a = tt
