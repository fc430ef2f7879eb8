-- A parameter expansion by its operator.
use Rattle.std.proofs.Common.{◌≡◌, ℕ, Bool, List, sym, ap, ◌∙◌}
use Rattle.std.specs.Prelude.{Option, Result}
use Rattle.hs_view.specs.Seen.{Shows}
use Rattle.hs_view.specs.View.{Viewed}
use Rattle.hs_view.specs.declared.halt.Halt.{Halt}
use Rattle.sh_syntax.specs.declared.tree.Part.{Part}
use Rattle.sh_syntax.specs.declared.tree.ParamOp.{ParamOp}
use Rattle.sh_param.specs.Parts.{param_means, trim_means}
use Rattle.sh_param.specs.Plans.{Plan}
use Rattle.sh_expand.specs.Moves.{Moved, Tried, goes_on}
use Rattle.sh_expand.specs.Rest.{means, next_of}
use Rattle.sh_expand.specs.declared.machine.Machine.{Machine}
use Rattle.sh_expand.proofs.Stepping.{tried_quietly}

-- what is to be done for it
abbrev pub param_plan : Machine → List ℕ → ParamOp → Bool → List Part → Plan
param_plan x name o colon word = param_means name o colon (means word) x.mode x.pieces (next_of x)

abbrev pub trim_plan : Machine → List ℕ → ParamOp → List Part → Plan
trim_plan x name o word = trim_means o x.mode name (means word) x.pieces (next_of x)

pub param_moves : {B : Type 0} (seen : Shows B) (x : Machine) (name : List ℕ) (o v : ParamOp) (colon : Bool) (word : List Part) (s : Plan) (a b : Viewed B) (r : Result (Unit {0}) Halt) (t : Result (Option (List ℕ)) Halt)
    → o ≡ v → t ≡ goes_on r → Moved seen (param_plan x name v colon word) s a b r → Tried seen (param_plan x name o colon word) s a b t
param_moves seen x name o v colon word s a b r t e i m =
    tried_quietly seen (param_plan x name o colon word) (param_plan x name v colon word) s a b r t (ap (λ (y : ParamOp). param_plan x name y colon word) e) i m

pub trim_moves : {B : Type 0} (seen : Shows B) (x : Machine) (name : List ℕ) (o v : ParamOp) (colon : Bool) (word : List Part) (s : Plan) (a b : Viewed B) (r : Result (Unit {0}) Halt) (t : Result (Option (List ℕ)) Halt)
    → param_plan x name v colon word ≡ trim_plan x name v word → o ≡ v → t ≡ goes_on r → Moved seen (trim_plan x name o word) s a b r → Tried seen (param_plan x name o colon word) s a b t
trim_moves seen x name o v colon word s a b r t f e i m =
    tried_quietly seen (param_plan x name o colon word) (trim_plan x name o word) s a b r t
    (ap (λ (y : ParamOp). param_plan x name y colon word) e ∙ f ∙ ap (λ (y : ParamOp). trim_plan x name y word) (sym e)) i m
