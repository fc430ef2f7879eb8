-- A copy is equal.
use Rattle.std.proofs.Common.{◌≡◌, List, [], ◌∷◌, refl, ap, ◌∙◌, rules}
use Rattle.std.specs.List.{AllZip}
use Rattle.hs_world.specs.declared.effect.Effect.{Effect}
use Rattle.hs_world.specs.declared.loc.Loc.{Loc}
use Rattle.hs_world.specs.declared.loc.Value.{Value}
use Rattle.hs_world.specs.contracts.effect.EffectClone.TheImpl as effects
use Rattle.hs_world.specs.contracts.loc.LocClone.TheImpl as locs
use Rattle.hs_world.specs.contracts.loc.ValueClone.TheImpl as values

pub loc_copied : (x y : Loc) → (locs.ghosts).is_clone x y → y ≡ x
loc_copied x y h = search rules

pub value_copied : (x y : Value) → (values.ghosts).is_clone x y → y ≡ x
value_copied x y h = search rules

pub effect_copied : (x y : Effect) → (effects.ghosts).is_clone x y → y ≡ x
effect_copied x y h = search rules

pub reads_copied : (xs ys : List (Loc × Value)) → AllZip (λ x y. (locs.ghosts).is_clone x.0 y.0 × (values.ghosts).is_clone x.1 y.1) xs ys → ys ≡ xs
reads_copied [] [] h = refl
reads_copied [] (y ∷ ys) h = absurd h
reads_copied (x ∷ xs) [] h = absurd h
reads_copied (x ∷ xs) (y ∷ ys) h =
    let a : y ≡ x = λ i. (loc_copied x.0 y.0 h.0.0 i, value_copied x.1 y.1 h.0.1 i) in
    λ i. a i ∷ reads_copied xs ys h.1 i
