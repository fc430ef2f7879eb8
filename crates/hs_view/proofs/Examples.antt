-- Examples that are computed: what a program is given, what a list of runs gains, sizes of traces, parts of a command.
use Rattle.std.proofs.Common.{◌≡◌, ℕ, ◌+◌, [], ◌∷◌, refl}
use Rattle.std.specs.Prelude.{Some, None, true, false, Err, codes}
use Rattle.hs_world.specs.World.{WorldData, Apply}
use Rattle.hs_world.specs.declared.effect.Effect.TheVariants.{Put, SetStatus, PushShell}
use Rattle.hs_world.specs.declared.entry.Kind.TheVariants as kind
use Rattle.hs_world.specs.declared.loc.Loc.TheVariants as loc
use Rattle.hs_world.specs.declared.loc.Value.TheVariants as value
use Rattle.hs_world.specs.declared.world.Limit.TheVariants as limit
use Rattle.hs_view.specs.Seen.{entry, exported_in, is_of, spent_of}
use Rattle.hs_view.specs.Size.{capped, trace_size}
use Rattle.hs_view.specs.Steps.{and_then}
use Rattle.hs_view.specs.View.{moved_by, own}
use Rattle.hs_view.specs.declared.halt.Halt.TheVariants as halt
use Rattle.hs_view.specs.declared.halt.SpentKind.TheVariants as spent

-- of the variables those that are exported and have a value, but PWD
environment : exported_in ((codes "a", record { value = Some (codes "1"); exported = true; readonly = false }) ∷ (codes "b", record { value = Some (codes "2"); exported = false; readonly = false })
    ∷ (codes "c", record { value = None; exported = true; readonly = false }) ∷ (codes "PWD", record { value = Some (codes "/"); exported = true; readonly = false }) ∷ [])
    ≡ (codes "a", codes "1") ∷ []
environment = refl

no_environment : exported_in [] ≡ []
no_environment = refl

unasked-outside : (w : WorldData) → entry [] w (Err halt.Outside) ≡ []
unasked-outside w = refl

unasked-memory : (w : WorldData) → entry [] w (Err halt.NoMemory) ≡ []
unasked-memory w = refl

fits-kind : is_of (loc.Kept 3) (value.Kept None) ≡ true
fits-kind = refl

other-kind : is_of loc.Status (value.Input []) ≡ false
other-kind = refl

spent-tree : spent_of limit.Tree ≡ spent.Tree
spent-tree = refl

-- 64 for the pair, 17 for the name, 18 for the text
size-variable : trace_size ((loc.Var (codes "x"), value.Var (Some (record { value = Some (codes "ab"); exported = false; readonly = false }))) ∷ []) [] ≡ 99
size-variable = refl

-- 64 for the pair, 16 for the path, and the three bytes of its names
size-kind : trace_size ((loc.Kind (codes "a" ∷ codes "bc" ∷ []), value.Kind kind.Absent) ∷ []) [] ≡ 83
size-kind = refl

size-effects : trace_size [] (Put (codes "a" ∷ []) (codes "xyz") ∷ PushShell ∷ SetStatus 1 ∷ []) ≡ 228
size-effects = refl

small-number : capped 99 ≡ 99
small-number = refl

-- over a base that writes no effect is left to the view
left-to_view : own true (PushShell ∷ []) ≡ []
left-to_view = refl

told-once : (w : WorldData) → moved_by true (SetStatus 1 ∷ []) (Some w) ≡ Some (Apply (SetStatus 1) w)
told-once w = refl

told-still : (w : WorldData) → moved_by false (SetStatus 1 ∷ []) (Some w) ≡ Some w
told-still w = refl

-- the second part sees what the first did
then-status : (w : WorldData) → and_then {B = ℕ} (λ a b. a + b) (record { effects = SetStatus 1 ∷ []; answer = 2 }) (λ u. record { effects = SetStatus u.status ∷ []; answer = u.status }) w
    ≡ record { effects = SetStatus 1 ∷ SetStatus 1 ∷ []; answer = 3 }
then-status w = refl
