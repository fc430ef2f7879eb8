-- What the machine has not refused can be completed.
use Rattle.std.proofs.Common.{◌≡◌, ℕ, suc, ◌≤◌, List, [], ◌∷◌, ◌++◌, Some, refl, ◌∙◌, arith, pos}
use Rattle.sh_arith.specs.declared.token.Op.TheVariants as op
use Rattle.sh_arith.specs.declared.token.Token.{Token}
use Rattle.sh_arith.specs.declared.token.Token.TheVariants.{Number, Operator}
use Rattle.sh_arith.specs.declared.instr.Instr.{Instr}
use Rattle.sh_arith.specs.declared.instr.Instr.TheVariants as instr
use Rattle.sh_arith.specs.declared.instr.Frame.{Frame}
use Rattle.sh_arith.specs.declared.instr.Frame.TheVariants as frame
use Rattle.sh_arith.specs.declared.instr.Now.{Now}
use Rattle.sh_arith.specs.declared.instr.Now.TheVariants.{Want, Named, Have}
use Rattle.sh_arith.specs.declared.instr.Rest.{Rest}
use Rattle.sh_arith.specs.Machine.{rest, State, at, strength, finish, run}
use Rattle.sh_arith.proofs.Levels.{tier_small, logic_small}
use Rattle.sh_arith.proofs.Complete.{Stops, ends, colons, closes, pop, named}

-- what closes all that waits
closing : List Frame → List Token
closing [] = []
closing (frame.Open ∷ fs) = Operator op.Close ∷ closing fs
closing (frame.Then ∷ fs) = Operator op.Colon ∷ Number (pos 0) ∷ closing fs
closing (_ ∷ fs) = closing fs

stops : (fs : List Frame) → Stops 13 (closing fs)
unfolding closing
stops [] = ends
stops (frame.Open ∷ fs) = closes
stops (frame.Then ∷ fs) = colons
stops (frame.Sign s ∷ fs) = stops fs
stops (frame.Math m ∷ fs) = stops fs
stops (frame.Logic l ∷ fs) = stops fs
stops (frame.Otherwise ∷ fs) = stops fs
stops (frame.Assign o p x ∷ fs) = stops fs

-- some instructions come
abbrev Comes : State → List Token → Type 0
Comes st ts = (all : List Instr) × (run st ts ≡ Some all)

off : (f : Frame) (fs : List Frame) (is : List Instr) (d : ℕ) → strength f ≤ 13 → Comes (at Have (rest fs (is ++ finish f) d)) (closing fs) → Comes (at Have (rest (f ∷ fs) is d)) (closing fs)
off f fs is d h c = (c.0, pop f fs is d (stops fs) h (omega arith) ∙ c.1)

closed : (fs : List Frame) (is : List Instr) (d : ℕ) → Comes (at Have (rest fs is d)) (closing fs)
unfolding closing
closed [] is d = (is, refl)
closed (frame.Open ∷ fs) is d = closed fs is (suc d)
closed (frame.Then ∷ fs) is d =
    let next = (is ++ instr.Otherwise ∷ []) ++ instr.Number (pos 0) ∷ [] in
    off frame.Otherwise fs next d (omega arith) (closed fs (next ++ finish frame.Otherwise) d)
closed (frame.Sign s ∷ fs) is d = off (frame.Sign s) fs is d (omega arith) (closed fs (is ++ finish (frame.Sign s)) d)
closed (frame.Math m ∷ fs) is d = off (frame.Math m) fs is d (omega (arith, tier_small m)) (closed fs (is ++ finish (frame.Math m)) d)
closed (frame.Logic l ∷ fs) is d = off (frame.Logic l) fs is d (omega (arith, logic_small l)) (closed fs (is ++ finish (frame.Logic l)) d)
closed (frame.Otherwise ∷ fs) is d = off frame.Otherwise fs is d (omega arith) (closed fs (is ++ finish frame.Otherwise) d)
closed (frame.Assign o p x ∷ fs) is d = off (frame.Assign o p x) fs is d (omega arith) (closed fs (is ++ finish (frame.Assign o p x)) d)

pub viable : (now : Now) (r : Rest) → (ts : List Token) × (all : List Instr) × (run (at now r) ts ≡ Some all)
viable Have r = let c = closed r.stack r.code r.room in (closing r.stack, c.0, c.1)
viable Want r = let c = closed r.stack (r.code ++ instr.Number (pos 0) ∷ []) r.room in (Number (pos 0) ∷ closing r.stack, c.0, c.1)
viable (Named p x) r = let c = closed r.stack (r.code ++ instr.Read p x ∷ []) r.room in (closing r.stack, c.0, named p x r (stops r.stack) ∙ c.1)
