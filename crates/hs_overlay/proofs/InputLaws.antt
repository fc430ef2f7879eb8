-- Texts of standard input over a base's.
use Rattle.std.proofs.Common.{◌≡◌, ℕ, ◌+◌, ◌-◌, List, [], ◌∷◌, ◌++◌, Bool, true, false, refl, ap, ◌∙◌, length, drop, leb, arith}
use Rattle.std.proofs.lemmas.List.{drop_all}
use Rattle.std.specs.Prelude.{unwrap_or, None, Some, Option}
use Rattle.hs_world.specs.Shells.{deep, returned}
use Rattle.hs_overlay.specs.Inputs.{InputsData, held_back, inputs_returned}
use Rattle.hs_overlay.specs.Shells.{held_in}
use Rattle.hs_overlay.proofs.Piles.{rests, depth_is, dropped, le_add}

back_law : (stands : Bool) (held : Option (Option (List ℕ))) (rest : List (List ℕ)) (input : Option (List ℕ)) (base top : List ℕ) (below under : List (List ℕ))
    → top ∷ below ≡ rest ++ unwrap_or input base ∷ under → (held ≡ Some None → rest ≡ [])
    → let i : InputsData = held_back stands held (record { pushed = rest; base = input }) in returned stands (held_in held base) top ∷ below ≡ i.pushed ++ unwrap_or i.base base ∷ under
back_law false held rest input base top below under e own = e
back_law true None rest input base top below under e own = e
back_law true (Some None) [] input base top below under e own = ap (λ l. base ∷ l) (rests _ _ _ _ e)
back_law true (Some None) (r ∷ rs) input base top below under e own = absurd (let n = ap length (own refl) in omega (arith, n))
back_law true (Some (Some x)) [] input base top below under e own = ap (λ l. x ∷ l) (rests _ _ _ _ e)
back_law true (Some (Some x)) (r ∷ rs) input base top below under e own = ap (λ l. x ∷ l) (rests _ _ _ _ e)

none_left : (d : ℕ) (pushed : List (List ℕ)) → d ≡ 0 → drop (length pushed - d) pushed ≡ []
none_left d pushed h = drop_all (length pushed - d) pushed (omega (arith, h))

-- An environment ends: texts above those of its begin go, and the one that it held comes back.
pub inputs_law : (n m : ℕ) (held : Option (Option (List ℕ))) (theirs : Option (List ℕ)) (i : InputsData) (base top : List ℕ) (below under : List (List ℕ))
    → m ≡ n + length under → theirs ≡ held_in held base → (held ≡ Some None → n ≡ 0) → top ∷ below ≡ i.pushed ++ unwrap_or i.base base ∷ under
    → returned (leb m (length below)) theirs (deep (length below - m) top below) ∷ drop (length below - m) below
    ≡ (inputs_returned n held i).pushed ++ unwrap_or (inputs_returned n held i).base base ∷ under
inputs_law n m held theirs i base top below under d h own e =
    let l = depth_is i.pushed (unwrap_or i.base base) top below under e in
    let k : length below - m ≡ length i.pushed - n = omega (arith, l, d) in
    let f : leb m (length below) ≡ leb n (length i.pushed) = (λ j. leb (d j) (l j)) ∙ le_add n (length i.pushed) (length under) in
    (λ j. returned (f j) (h j) (deep (k j) top below) ∷ drop (k j) below)
    ∙ back_law (leb n (length i.pushed)) held (drop (length i.pushed - n) i.pushed) i.base base _ _ under
    (dropped (length i.pushed - n) i.pushed (unwrap_or i.base base) top below under (omega arith) e)
    (λ o. none_left n i.pushed (own o))
