-- What comes off the stack changes no room.
use Rattle.std.proofs.Common.{◌≡◌, ℕ, suc, Bool, true, false, List, [], ◌∷◌, ◌++◌, refl, sym, ap, ◌∙◌, arith}
use Rattle.std.proofs.lemmas.Bool.{leb-false}
use Rattle.std.specs.Prelude.{nat_le, if◌then◌else◌}
use Rattle.sh_arith.proofs.Levels.{holds-above}
use Rattle.sh_arith.proofs.Complete.{settle-pop, settle-stay}
use Rattle.sh_arith.specs.declared.instr.Instr.{Instr}
use Rattle.sh_arith.specs.declared.instr.Frame.{Frame}
use Rattle.sh_arith.specs.declared.instr.Rest.{Rest}
use Rattle.sh_arith.specs.Machine.{rest, strength, finish, settle, settled, holds, then_code}

room : (n : ℕ) (fs : List Frame) (is : List Instr) (d : ℕ) → (settle n fs is d).room ≡ d
room n [] is d = refl
room n (f ∷ fs) is d = by (nat_le (strength f) n) (room n fs (is ++ finish f) d)
  where
    by : (b : Bool) → (settle n fs (is ++ finish f) d).room ≡ d → (if b then settle n fs (is ++ finish f) d else rest (f ∷ fs) is d).room ≡ d
    by true h = h
    by false h = refl

pub same_room : (n : ℕ) (r : Rest) → (settled n r).room ≡ r.room
same_room n r = room n r.stack r.code r.room

-- one is taken off
pub took : (n : ℕ) (old new : Rest) (f : Frame) (left : List Frame) → holds n old.stack ≡ false → old.stack ≡ f ∷ left → new ≡ then_code (finish f) (rest left old.code old.room) →
    settled n new ≡ settled n old
took n old new f left h e s =
    ap (settled n) s
    ∙ sym (settle-pop n f left old.code old.room (omega (arith, leb-false (suc n) (strength f) (ap (holds n) (sym e) ∙ h))))
    ∙ ap (λ (fs : List Frame). settle n fs old.code old.room) (sym e)

-- no more is taken off
pub stayed : (n : ℕ) (r : Rest) → holds n r.stack ≡ true → settled n r ≡ r
stayed n r h = settle-stay n r.stack r.code r.room (holds-above n r.stack h)

pub empty_stays : (n : ℕ) (r : Rest) → r.stack ≡ [] → settled n r ≡ r
empty_stays n r e = stayed n r (ap (holds n) e)
