-- Steps that are written from the last one to the first.
use Rattle.std.proofs.Common.{◌≡◌, ℕ, zero, suc, List, [], ◌∷◌, ◌++◌, refl, ap, sym, ◌∙◌, subst, arith}
use Rattle.std.specs.Prelude.{Result, Ok, Err, OnOk}
use Rattle.sh_syntax.specs.declared.tree.Part.{Part}
use Rattle.sh_syntax.specs.declared.tree.Script.{Script}
use Rattle.sh_lexer.specs.declared.token.Token.{Token}
use Rattle.sh_lexer.specs.declared.token.Mode.TheVariants as mode
use Rattle.sh_lexer.specs.Lexes.{Lexes, source}
use Rattle.sh_grammar.specs.Grammar.{Parses}
use Rattle.sh_grammar.specs.Spells.{Spells}
use Rattle.sh_spell.specs.Plain.{ArePlain}
use Rattle.sh_spell.specs.Scripts.{each, part_text, list_text, script_text}
use Rattle.sh_spell.specs.Steps.{Step, step_text, part_steps, list_steps}
use Rattle.sh_spell.proofs.Plainly.{plainly}
use Rattle.sh_spell.proofs.Stepwise.{each-append, part-stepwise, list-stepwise}

-- The last step is written, and those before it are left.
pub last-step : (s : Script) (d : ℕ) (xs ys : List Step) (x : Step) (c k z : List ℕ) → ys ≡ xs ++ x ∷ [] → k ≡ step_text s d x c → each (step_text s d) ys c ≡ z → each (step_text s d) xs k ≡ z
last-step s d xs ys x c k z e f h =
    ap (each (step_text s d) xs) f
    ∙ (sym (each-append (step_text s d) xs (x ∷ []) c) ∙ (ap (λ (q : List Step). each (step_text s d) q c) (sym e) ∙ h))

pub no_step : (s : Script) (d : ℕ) (xs : List Step) (c z : List ℕ) → xs ≡ [] → each (step_text s d) xs c ≡ z → c ≡ z
no_step s d xs c z e h = ap (λ (q : List Step). each (step_text s d) q c) (sym e) ∙ h

pub part-none : (s : Script) (d : ℕ) (q : Part) (c : List ℕ) → d ≡ 0 → c ≡ part_text s d q c
unfolding part_text
part-none s zero q c e = refl
part-none s (suc d) q c e = absurd (omega arith)

pub list-none : (s : Script) (d n : ℕ) (c : List ℕ) → d ≡ 0 → c ≡ list_text s d n c
unfolding list_text
list-none s zero n c e = refl
list-none s (suc d) n c e = absurd (omega arith)

pub part-written : (s : Script) (d e : ℕ) (q : Part) (xs : List Step) (c k : List ℕ) → d ≡ suc e → xs ≡ part_steps q → k ≡ each (step_text s e) xs c → k ≡ part_text s d q c
part-written s d e q xs c k h f g =
    g ∙ (ap (λ (x : List Step). each (step_text s e) x c) f ∙ (sym (part-stepwise s e q c) ∙ ap (λ (x : ℕ). part_text s x q c) (sym h)))

pub list-written : (s : Script) (d e n : ℕ) (xs : List Step) (c k : List ℕ) → d ≡ suc e → xs ≡ list_steps s n → k ≡ each (step_text s e) xs c → k ≡ list_text s d n c
list-written s d e n xs c k h f g =
    g ∙ (ap (λ (x : List Step). each (step_text s e) x c) f ∙ (sym (list-stepwise s e n c) ∙ ap (λ (x : ℕ). list_text s x n c) (sym h)))

pub on_ok : {A E : Type 0} (r : Result A E) (P Q : Type 0) → OnOk r P → (P → Q) → OnOk r Q
on_ok (Ok x) P Q h f = f h
on_ok (Err e) P Q h f = tt

-- The text of a script spells it, where a plain text does.
pub spelled : (s : Script) (text : List ℕ) → text ≡ script_text s → (ts : List Token) (other : List ℕ) → Lexes mode.Command (source other []) ts → Parses s ts → ArePlain ts → Spells s text
spelled s text e ts other l p h = subst (λ (x : List ℕ). Spells s x) (sym e) (plainly other p h l)
