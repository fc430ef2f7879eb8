-- The number of an expression, with the message on what has none.
use Rattle.std.proofs.Common.{◌≡◌, List, ℕ, sym, ap, subst, append-nil}
use Rattle.std.specs.Prelude.{Result, Ok, Err, IsErr, IsErrAnd}
use Rattle.hs_world.specs.World.{WorldData}
use Rattle.hs_world.specs.declared.effect.Effect.{Effect}
use Rattle.hs_view.specs.Acts.{Acts, then_by}
use Rattle.hs_view.specs.Seen.{Shows}
use Rattle.hs_view.specs.Steps.{Done, nothing}
use Rattle.hs_view.specs.View.{Viewed}
use Rattle.hs_view.specs.declared.halt.Halt.{Halt}
use Rattle.hs_view.specs.declared.halt.Halt.TheVariants as halt
use Rattle.hs_view.proofs.Acting.{acts_answering, acts_answering_halt, acts_as, acts_on, acts_short}
use Rattle.sh_sum.specs.Sums.{sum_done}
use Rattle.sh_sum.specs.declared.sum.Sum.{Sum}
use Rattle.sh_expand.specs.Sums.{shown, sums}

abbrev with_effects : {A : Type 0} → A → List Effect → Done A
with_effects x es = record { effects = es; answer = x }

-- nothing is done behind it
then_nothing : (text : List ℕ) (u : WorldData) → then_by (sum_done text u) (λ (s : Sum) (w : WorldData). nothing (shown s) w) u ≡ sums text u
then_nothing text u = ap (with_effects (shown (sum_done text u).answer)) (append-nil (sum_done text u).effects)

pub sums_halt : {B : Type 0} (seen : Shows B) (text : List ℕ) (a b : Viewed B) (h : Halt) (r : Result (Result (List ℕ) (List ℕ)) Halt) → IsErr r → IsErrAnd r (λ i. i ≡ h)
    → Acts seen (sum_done text) a b (Err h) → Acts seen (sums text) a b r
sums_halt seen text a b h r e i t = acts_on seen (sums text) a b h r e i (acts_answering_halt seen shown (sum_done text) a b h t)

-- want of memory for the digits or the message
pub sums_short : {B : Type 0} (seen : Shows B) (text : List ℕ) (a b : Viewed B) (x : Sum) (r : Result (Result (List ℕ) (List ℕ)) Halt) → IsErr r → IsErrAnd r (λ i. i ≡ halt.NoMemory)
    → Acts seen (sum_done text) a b (Ok x) → Acts seen (sums text) a b r
sums_short seen text a b x r e i t =
    acts_on seen (sums text) a b halt.NoMemory r e i
    (acts_as seen (λ (w : WorldData). then_by (sum_done text w) (λ (s : Sum) (v : WorldData). nothing (shown s) v) w) (sums text) a b (Err halt.NoMemory) (λ u s. then_nothing text u)
    (acts_short seen (sum_done text) (λ (s : Sum) (v : WorldData). nothing (shown s) v) a b x t))

pub sums_told : {B : Type 0} (seen : Shows B) (text : List ℕ) (a b : Viewed B) (x : Sum) (y : Result (List ℕ) (List ℕ)) → Acts seen (sum_done text) a b (Ok x) → y ≡ shown x → Acts seen (sums text) a b (Ok y)
sums_told seen text a b x y t e = subst (λ (z : Result (List ℕ) (List ℕ)). Acts seen (sums text) a b (Ok z)) (sym e) (acts_answering seen shown (sum_done text) a b x t)
