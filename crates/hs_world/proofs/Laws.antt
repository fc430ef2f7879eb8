-- Effects one after another, and what they write.
use Rattle.std.proofs.Common.{◌≡◌, ℕ, List, [], ◌∷◌, ◌++◌, refl, sym, ap, ◌∙◌, append_assoc}
use Rattle.hs_world.specs.declared.effect.Effect.{Effect}
use Rattle.hs_world.specs.declared.effect.Fd.{Fd}
use Rattle.hs_world.specs.World.{WorldData, Apply, Applied, sent, written}

pub Applied-append : (es fs : List Effect) (w : WorldData) → Applied (es ++ fs) w ≡ Applied fs (Applied es w)
Applied-append [] fs w = refl
Applied-append (e ∷ es) fs w = Applied-append es fs (Apply e w)

pub written-append : (to : Fd) (es fs : List Effect) (w : WorldData) → written to (es ++ fs) w ≡ written to es w ++ written to fs (Applied es w)
written-append to [] fs w = refl
written-append to (e ∷ es) fs w =
    ap (λ (bytes : List ℕ). sent to e w ++ bytes) (written-append to es fs (Apply e w))
    ∙ sym (append_assoc (sent to e w) (written to es (Apply e w)) (written to fs (Applied es (Apply e w))))
