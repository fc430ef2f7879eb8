-- Lines side by side, and words that should write lists.
use Rattle.std.proofs.Common.{◌≡◌, ℕ, zero, suc, Bool, true, false, List, [], ◌∷◌, length, refl, sym, ap, ◌∙◌, arith}
use Rattle.std.proofs.lemmas.Bool.{eqb-true}
use Rattle.std.specs.Prelude.{Option, None, Result, Ok, Err, IfOk, ◌==◌, codes}
use Rattle.hs_world.specs.World.{WorldData}
use Rattle.hs_world.specs.declared.effect.Fd.TheVariants.{One}
use Rattle.hs_view.specs.Steps.{Done, nothing}
use Rattle.util_common.specs.Operands.{Writer, emitted, refused}
use Rattle.util_common.specs.Words.{Blames}
use Rattle.util_common.specs.declared.messages.Why.{Why}
use Rattle.util_common.specs.declared.messages.Why.TheVariants.{BadList, MissingOperand}
use Rattle.util_common.specs.declared.words.WordErr.{WordErr}
use Rattle.util_common.specs.declared.words.WordErr.TheVariants as err
use Rattle.util_text.specs.Lines.{lines}
use Rattle.util_text.specs.Lists.{RefusesList}
use Rattle.util_text.specs.Paste.{paste, serial}
use Rattle.util_text.specs.Pasting.{SerialsWritten, columns, gathered_written, input_in, lines_written, operands_pasted}
use Rattle.util_text.specs.Turns.{turns}
use Rattle.util_text.specs.declared.pasting.Serials.{Serials}

-- A meaning that hangs on a list blames a word that writes none.
pub list_blamed : {X : Type 0} (meaning : Option X → WorldData → Done ℕ) (utility : List ℕ) (e : WordErr) (o : Option X) → ((w : WorldData) → meaning None w ≡ refused utility BadList w) → RefusesList {X = X} e o → Blames e utility (meaning o)
list_blamed {X} meaning utility (err.Refused why) o m a = λ w. ap (λ (x : Option X). meaning x w) a.1 ∙ m w ∙ ap (λ (y : Why). refused utility y w) (sym a.0)
list_blamed meaning utility err.NoMemory o m a = tt

-- the text of one operand
pub in_one_line : {E : Type 0} (filter : Serials) (text : Writer) (before : List (List ℕ)) (word content bytes : List ℕ) (r : Result (List ℕ) E) → SerialsWritten filter text → IfOk r (λ t. t ≡ serial (turns filter.delimiters) bytes) → bytes ≡ content
    → IfOk r (λ out. out ≡ text before word content)
in_one_line filter text before word content bytes (Ok t) h f b = f ∙ ap (serial (turns filter.delimiters)) b ∙ ap (λ (w : Writer). w before word content) (sym h)
in_one_line filter text before word content bytes (Err e) h f b = tt

-- Where an operand was refused, nothing more is written.
pub none_written : (ds : List (Option ℕ)) (words contents : List (List ℕ)) (status : ℕ) (w : WorldData) → (status ≡ 0 → ⊥) → gathered_written ds words contents status w ≡ nothing status w
none_written ds words contents zero w h = absurd (h refl)
none_written ds words contents (suc n) w h = refl

pub rows_written : (ds : List (Option ℕ)) (words given contents : List (List ℕ)) (status : ℕ) (text : List ℕ) (w : WorldData) → text ≡ paste ds (columns words given) (lines (input_in words given)) → given ≡ contents → status ≡ 0
    → emitted One text 0 w ≡ gathered_written ds words contents status w
rows_written ds words given contents status text w is same none =
    ap (λ (t : List ℕ). emitted One t 0 w) is
    ∙ ap (λ (cs : List (List ℕ)). gathered_written ds words cs 0 w) same
    ∙ ap (λ (n : ℕ). gathered_written ds words contents n w) (sym none)

-- ---- whether an operand is given

pub no_operand : (apart : Bool) (ds : List (Option ℕ)) (words : List (List ℕ)) (w : WorldData) → (length words == 0) ≡ true → refused (codes "paste") MissingOperand w ≡ operands_pasted apart ds words w
no_operand apart ds [] w h = refl
no_operand apart ds (word ∷ words) w h = absurd (omega (arith, eqb-true (length (word ∷ words)) 0 h))

pub some_operand : (apart : Bool) (ds : List (Option ℕ)) (words : List (List ℕ)) (w : WorldData) → (length words == 0) ≡ false → lines_written apart ds words w ≡ operands_pasted apart ds words w
some_operand apart ds [] w h = cc
some_operand apart ds (word ∷ words) w h = refl
