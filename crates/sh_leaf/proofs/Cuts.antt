-- The cut of effects that come in two parts.
use Rattle.std.proofs.Common.{◌≡◌, List, [], ◌∷◌, ◌++◌, Option, Some, None, refl, ap}
use Rattle.hs_world.specs.declared.effect.Effect.{Effect}
use Rattle.hs_world.specs.declared.world.Limit.{Limit}
use Rattle.hs_world.specs.World.{WorldData, Apply, Applied, passed}
use Rattle.sh_leaf.specs.Cut.{misfit, fitting}

abbrev pick : {A : Type 0} → Option Limit → A → (Limit → A) → A
pick o none some = elim o [ None ↦ none | Some limit ↦ some limit ]

-- ---- the first part fits

misfit-step : (o a b c : Option Limit) → (a ≡ None → b ≡ c) → pick o a (λ limit. Some limit) ≡ None → pick o b (λ limit. Some limit) ≡ c
misfit-step None a b c f e = f e
misfit-step (Some limit) a b c f e = absurd cc

pub misfit-append : (es fs : List Effect) (w : WorldData) → misfit es w ≡ None → misfit (es ++ fs) w ≡ misfit fs (Applied es w)
misfit-append [] fs w e = refl
misfit-append (x ∷ es) fs w e =
    misfit-step (passed x w) (misfit es (Apply x w)) (misfit (es ++ fs) (Apply x w)) (misfit fs (Applied es (Apply x w))) (misfit-append es fs (Apply x w)) e

fitting-step : (o a : Option Limit) (x : Effect) (b c : List Effect) → (a ≡ None → b ≡ c) → pick o a (λ limit. Some limit) ≡ None →
    pick o (x ∷ b) (λ limit. []) ≡ x ∷ c
fitting-step None a x b c f e = ap (λ (es : List Effect). x ∷ es) (f e)
fitting-step (Some limit) a x b c f e = absurd cc

pub fitting-append : (es fs : List Effect) (w : WorldData) → misfit es w ≡ None → fitting (es ++ fs) w ≡ es ++ fitting fs (Applied es w)
fitting-append [] fs w e = refl
fitting-append (x ∷ es) fs w e =
    fitting-step (passed x w) (misfit es (Apply x w)) x (fitting (es ++ fs) (Apply x w)) (es ++ fitting fs (Applied es (Apply x w))) (fitting-append es fs (Apply x w)) e

fitting-all-step : (o a : Option Limit) (x : Effect) (b es : List Effect) → (a ≡ None → b ≡ es) → pick o a (λ limit. Some limit) ≡ None →
    pick o (x ∷ b) (λ limit. []) ≡ x ∷ es
fitting-all-step None a x b es f e = ap (λ (xs : List Effect). x ∷ xs) (f e)
fitting-all-step (Some limit) a x b es f e = absurd cc

pub fitting-all : (es : List Effect) (w : WorldData) → misfit es w ≡ None → fitting es w ≡ es
fitting-all [] w e = refl
fitting-all (x ∷ es) w e = fitting-all-step (passed x w) (misfit es (Apply x w)) x (fitting es (Apply x w)) es (fitting-all es (Apply x w)) e

-- ---- the first part doesn't fit

misfit-same : (o a b : Option Limit) (limit : Limit) → (a ≡ Some limit → b ≡ Some limit) → pick o a (λ l. Some l) ≡ Some limit → pick o b (λ l. Some l) ≡ Some limit
misfit-same None a b limit f e = f e
misfit-same (Some l) a b limit f e = e

pub misfit-front : (es fs : List Effect) (w : WorldData) (limit : Limit) → misfit es w ≡ Some limit → misfit (es ++ fs) w ≡ Some limit
misfit-front [] fs w limit e = absurd cc
misfit-front (x ∷ es) fs w limit e =
    misfit-same (passed x w) (misfit es (Apply x w)) (misfit (es ++ fs) (Apply x w)) limit (misfit-front es fs (Apply x w) limit) e

fitting-same : (o a : Option Limit) (x : Effect) (b c : List Effect) (limit : Limit) → (a ≡ Some limit → b ≡ c) → pick o a (λ l. Some l) ≡ Some limit →
    pick o (x ∷ b) (λ l. []) ≡ pick o (x ∷ c) (λ l. [])
fitting-same None a x b c limit f e = ap (λ (es : List Effect). x ∷ es) (f e)
fitting-same (Some l) a x b c limit f e = refl

pub fitting-front : (es fs : List Effect) (w : WorldData) (limit : Limit) → misfit es w ≡ Some limit → fitting (es ++ fs) w ≡ fitting es w
fitting-front [] fs w limit e = absurd cc
fitting-front (x ∷ es) fs w limit e =
    fitting-same (passed x w) (misfit es (Apply x w)) x (fitting (es ++ fs) (Apply x w)) (fitting es (Apply x w)) limit (fitting-front es fs (Apply x w) limit) e
