-- What contracts see of the committed state with the program's streams, and what effects make of it.
use Rattle.std.proofs.Common.{◌≡◌, ◌≤◌, ℕ, List, [], ◌∷◌, ◌++◌, Option, Some, true, false, ◌∙◌, refl, arith, ◌⊎◌}
use Rattle.hs_world.specs.declared.effect.Effect.{Effect}
use Rattle.hs_world.specs.declared.effect.Fd.TheVariants.{One, Two}
use Rattle.hs_outside.specs.Causes.{Rose}
use Rattle.hs_view.specs.Seen.{Shows}
use Rattle.hs_drive.specs.declared.direct.Direct.{Direct}
use Rattle.hs_drive.specs.Commit.{Streams, IsCommitted, IsFault, IsShort}
use Rattle.hs_drive.specs.Joined.{commits-nothing, commits-append}

-- what a stream tells: what it holds, and how often it has failed
pub record Tells (S : Type 0) : Type 0 where
  pub written : S → Option (List ℕ)
  pub faults : S → ℕ

abbrev pub told : {S : Type 0} → (S → Option (List ℕ)) → (S → ℕ) → Tells S
told written faults = record { written = written; faults = faults }

-- what the streams hold
abbrev pub streams_of : {O E : Type 0} → Tells O → Tells E → Direct O E → Streams
streams_of out err b = record { out = out.written b.out; err = err.written b.err }

-- The effects are committed: the state has them, and the streams what they write.
pub record Made {O E : Type 0} (out : Tells O) (err : Tells E) (es : List Effect) (a b : Direct O E) : Type 0 where
  pub committed : IsCommitted es a.world b.world (streams_of out err a) (streams_of out err b)
  pub faults : b.faults ≡ a.faults
  pub out_later : out.faults a.out ≤ out.faults b.out
  pub err_later : err.faults a.err ≤ err.faults b.err

-- The state has the effect, and of what it writes a front went out: the stream failed, which is counted, or there was no memory for it.
pub record Tried {O E : Type 0} (out : Tells O) (err : Tells E) (e : Effect) (a b : Direct O E) : Type 0 where
  pub how : IsFault (Rose (out.faults a.out) (out.faults b.out)) (Rose (err.faults a.err) (err.faults b.err)) (e ∷ []) a.world b.world (streams_of out err a) (streams_of out err b)
      ⊎ ((IsShort One (e ∷ []) a.world b.world (streams_of out err a) (streams_of out err b) ⊎ IsShort Two (e ∷ []) a.world b.world (streams_of out err a) (streams_of out err b)) × (b.faults ≡ a.faults))
  pub out_later : out.faults a.out ≤ out.faults b.out
  pub err_later : err.faults a.err ≤ err.faults b.err

pub made_nothing : {O E : Type 0} (out : Tells O) (err : Tells E) (b : Direct O E) → Made out err [] b b
made_nothing out err b = record { committed = commits-nothing b.world (streams_of out err b); faults = refl; out_later = omega arith; err_later = omega arith }

pub made_both : {O E : Type 0} (out : Tells O) (err : Tells E) (es fs : List Effect) (a b c : Direct O E) → Made out err es a b → Made out err fs b c → Made out err (es ++ fs) a c
made_both out err es fs a b c m n = record {
  committed = commits-append es fs a.world b.world c.world (streams_of out err a) (streams_of out err b) (streams_of out err c) m.committed n.committed;
  faults = n.faults ∙ m.faults;
  out_later = omega (arith, m.out_later, n.out_later);
  err_later = omega (arith, m.err_later, n.err_later);
}

abbrev pub shows_direct : {O E : Type 0} → Tells O → Tells E → Shows (Direct O E)
shows_direct out err = record {
  tells = λ b. record { world = Some b.world; asked = []; writes = true; runs = false; faults = b.faults };
  made = λ es a b. Made out err es a b;
  tried = λ e a b. Tried out err e a b;
  made_none = λ b. made_nothing out err b;
  made_then = λ es fs a b c m n. made_both out err es fs a b c m n;
}
