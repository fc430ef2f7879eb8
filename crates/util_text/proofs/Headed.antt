-- What `head` keeps from one operand to the next, and numbers that are refused.
use Rattle.std.proofs.Common.{◌≡◌, ℕ, Bool, false, List, [], ◌∷◌, ◌++◌, refl, sym, ap, ◌∙◌}
use Rattle.std.specs.Prelude.{Option, None}
use Rattle.hs_world.specs.World.{WorldData}
use Rattle.hs_view.specs.Steps.{Done}
use Rattle.util_common.specs.Operands.{Writer, refused}
use Rattle.util_common.specs.Words.{Blames}
use Rattle.util_common.specs.declared.messages.Why.{Why}
use Rattle.util_common.specs.declared.messages.Why.TheVariants.{BadNumber}
use Rattle.util_common.specs.declared.words.WordErr.{WordErr}
use Rattle.util_common.specs.declared.words.WordErr.TheVariants as err
use Rattle.util_text.specs.Count.{StandsFor}
use Rattle.util_text.specs.Head.{Heading, header, heads, is_first}
use Rattle.util_text.specs.Lines.{first_lines}
use Rattle.util_text.specs.Numbers.{RefusesNumber}
use Rattle.util_text.specs.declared.heading.Heads.{Heads}

pub headed : (filter : Heads) (text : Writer) (before : List (List ℕ)) (word content bytes out lines : List ℕ) → Heading filter text before → out ≡ header filter.several filter.first word ++ lines
    → ((n : ℕ) → StandsFor filter.count n → lines ≡ first_lines n bytes) → bytes ≡ content → out ≡ text before word content
headed filter text before word content bytes out lines h e l b =
    e
    ∙ ap (λ (x : Bool). header filter.several x word ++ lines) h.first
    ∙ ap (λ (x : List ℕ). header filter.several (is_first before) word ++ x) (l h.exact h.stands ∙ ap (first_lines h.exact) b)
    ∙ ap (λ (f : Writer). f before word content) (sym h.is)

pub not_first : (before : List (List ℕ)) (content : List ℕ) → false ≡ is_first (before ++ content ∷ [])
not_first [] content = refl
not_first (x ∷ xs) content = refl

-- A meaning that hangs on a number blames a word that writes none.
pub number_blamed : {X : Type 0} (meaning : Option X → WorldData → Done ℕ) (utility : List ℕ) (e : WordErr) (o : Option X) → ((w : WorldData) → meaning None w ≡ refused utility BadNumber w) → RefusesNumber {X = X} e o → Blames e utility (meaning o)
number_blamed {X} meaning utility (err.Refused why) o m a = λ w. ap (λ (x : Option X). meaning x w) a.1 ∙ m w ∙ ap (λ (y : Why). refused utility y w) (sym a.0)
number_blamed meaning utility err.NoMemory o m a = tt
