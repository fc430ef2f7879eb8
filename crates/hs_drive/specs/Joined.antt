-- Effects that are committed in two parts.
use Rattle.std.proofs.Common.{◌≡◌, ℕ, List, [], ◌++◌, Option, refl, sym, ap, ◌∙◌}
use Rattle.hs_world.specs.declared.effect.Effect.{Effect}
use Rattle.hs_world.specs.declared.effect.Fd.TheVariants.{One, Two}
use Rattle.hs_world.specs.World.{WorldData, Applied, output, errors}
use Rattle.hs_world.proofs.Laws.{Applied-append, written-append}
use Rattle.hs_outside.specs.Streams.{appended}
use Rattle.hs_outside.proofs.Fronts.{appended-nil, appended-append}
use Rattle.sh_leaf.specs.Cut.{misfit}
use Rattle.sh_leaf.proofs.Cuts.{misfit-append}
use Rattle.hs_drive.specs.Commit.{Streams, gained, IsCommitted}

pub streams : {a b c d : Option (List ℕ)} → a ≡ b → c ≡ d → record { out = a; err = c } ≡ (let s : Streams = record { out = b; err = d } in s)
streams e f = cc

pub gained-nil : (w : WorldData) (s : Streams) → gained [] w s ≡ s
gained-nil w s = streams (appended-nil s.out) (appended-nil s.err)

pub commits-nothing : (w : WorldData) (s : Streams) → IsCommitted [] w w s s
commits-nothing w s = record { fit = refl; world = refl; streams = sym (gained-nil w s) }

pub gained-append : (es fs : List Effect) (w : WorldData) (s : Streams) → gained (es ++ fs) w s ≡ gained fs (Applied es w) (gained es w s)
gained-append es fs w s = streams
    (ap (λ (bytes : List ℕ). appended s.out bytes) (written-append One es fs w) ∙ sym (appended-append s.out (output es w) (output fs (Applied es w))))
    (ap (λ (bytes : List ℕ). appended s.err bytes) (written-append Two es fs w) ∙ sym (appended-append s.err (errors es w) (errors fs (Applied es w))))

-- the streams after the first part, and then the second
pub gained-on : (es fs : List Effect) (w v : WorldData) (s t : Streams) → IsCommitted es w v s t → gained fs v t ≡ gained (es ++ fs) w s
gained-on es fs w v s t c =
    ap (λ (u : WorldData). gained fs u t) c.world ∙ ap (λ (r : Streams). gained fs (Applied es w) r) c.streams ∙ sym (gained-append es fs w s)

pub fit-on : (es fs : List Effect) (w v : WorldData) (s t : Streams) → IsCommitted es w v s t → misfit fs v ≡ misfit (es ++ fs) w
fit-on es fs w v s t c = ap (λ (u : WorldData). misfit fs u) c.world ∙ sym (misfit-append es fs w c.fit)

pub world-on : (es fs : List Effect) (w v : WorldData) (s t : Streams) → IsCommitted es w v s t → Applied fs v ≡ Applied (es ++ fs) w
world-on es fs w v s t c = ap (λ (u : WorldData). Applied fs u) c.world ∙ sym (Applied-append es fs w)

pub commits-append : (es fs : List Effect) (w v u : WorldData) (s t r : Streams) → IsCommitted es w v s t → IsCommitted fs v u t r → IsCommitted (es ++ fs) w u s r
commits-append es fs w v u s t r c d = record {
  fit = sym (fit-on es fs w v s t c) ∙ d.fit;
  world = d.world ∙ world-on es fs w v s t c;
  streams = d.streams ∙ gained-on es fs w v s t c;
}
