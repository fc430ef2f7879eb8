-- What the grammar derives, the machine reads.
use Rattle.std.proofs.Common.{◌≡◌, ℕ, suc, ◌≤◌, Bool, List, [], ◌∷◌, ◌++◌, Option, Some, None, refl, ap, ◌∙◌, arith}
use Rattle.std.proofs.lemmas.Bool.{le-leb, lt-leb}
use Rattle.std.specs.Prelude.{if◌then◌else◌, option_and_then}
use Rattle.sh_arith.specs.declared.token.Math.{Math}
use Rattle.sh_arith.specs.declared.token.Logic.{Logic}
use Rattle.sh_arith.specs.declared.token.Op.TheVariants as op
use Rattle.sh_arith.specs.declared.token.Token.{Token}
use Rattle.sh_arith.specs.declared.token.Token.TheVariants.{Operator}
use Rattle.sh_arith.specs.declared.token.Sign.{Sign}
use Rattle.sh_arith.specs.declared.instr.Part.TheVariants as part
use Rattle.sh_arith.specs.declared.instr.Instr.{Instr}
use Rattle.sh_arith.specs.declared.instr.Instr.TheVariants as instr
use Rattle.sh_arith.specs.declared.instr.Frame.{Frame}
use Rattle.sh_arith.specs.declared.instr.Frame.TheVariants as frame
use Rattle.sh_arith.specs.declared.instr.Now.TheVariants.{Want, Named, Have}
use Rattle.sh_arith.specs.declared.instr.Rest.{Rest}
use Rattle.sh_arith.specs.Grammar as g
use Rattle.sh_arith.specs.Grammar.{tier, logic_tier, Tree, Level, IsSign, Parses, most_open}
use Rattle.sh_arith.specs.Machine.{rest, at, strength, finish, emit, read_first, settle, run, start, want, with_value, whole, colon, close, then_code}
use Rattle.sh_arith.proofs.Levels.{tier_small, logic_small, Above, above-less, above-holds}

pub settle-pop : (n : ℕ) (f : Frame) (fs : List Frame) (is : List Instr) (d : ℕ) → strength f ≤ n → settle n (f ∷ fs) is d ≡ settle n fs (is ++ finish f) d
settle-pop n f fs is d h = ap (λ (b : Bool). if b then settle n fs (is ++ finish f) d else rest (f ∷ fs) is d) (le-leb (strength f) n h)

pub settle-stay : (n : ℕ) (fs : List Frame) (is : List Instr) (d : ℕ) → Above n fs → settle n fs is d ≡ rest fs is d
settle-stay n [] is d h = refl
settle-stay n (f ∷ fs) is d h = ap (λ (b : Bool). if b then settle n fs (is ++ finish f) d else rest (f ∷ fs) is d) (lt-leb (strength f) n h)

-- The tokens begin with one that takes off all that is no stronger than n, or end.
pub data Stops : ℕ → List Token → Type 0 where
  ends : {n : ℕ} → Stops n []
  math : {n : ℕ} (m : Math) {ts : List Token} → n ≤ suc (tier m) → Stops n (Operator (op.Math m) ∷ ts)
  logic : {n : ℕ} (l : Logic) {ts : List Token} → n ≤ suc (logic_tier l) → Stops n (Operator (op.Logic l) ∷ ts)
  question : {n : ℕ} {ts : List Token} → n ≤ 10 → Stops n (Operator op.Question ∷ ts)
  colons : {n : ℕ} {ts : List Token} → Stops n (Operator op.Colon ∷ ts)
  closes : {n : ℕ} {ts : List Token} → Stops n (Operator op.Close ∷ ts)

less : {n m : ℕ} {ts : List Token} → Stops m ts → n ≤ m → Stops n ts
less ends h = ends
less (math m l) h = math m (omega arith)
less (logic l k) h = logic l (omega arith)
less (question l) h = question (omega arith)
less colons h = colons
less closes h = closes

-- each such token takes a sign off
one : {ts : List Token} → Stops 0 ts → Stops 1 ts
one ends = ends
one (math m l) = math m (omega arith)
one (logic l k) = logic l (omega arith)
one (question l) = question (omega arith)
one colons = colons
one closes = closes

-- what ends a `?:` ends an assignment too
all : {n : ℕ} {ts : List Token} → 11 ≤ n → Stops n ts → Stops 13 ts
all h ends = ends
all h (math m l) = absurd (omega (arith, tier_small m))
all h (logic l k) = absurd (omega (arith, logic_small l))
all h (question l) = absurd (omega arith)
all h colons = colons
all h closes = closes

pub pop : {n : ℕ} {ts : List Token} (f : Frame) (fs : List Frame) (is : List Instr) (d : ℕ) → Stops n ts → strength f ≤ n → n ≤ 13 →
    run (at Have (rest (f ∷ fs) is d)) ts ≡ run (at Have (rest fs (is ++ finish f) d)) ts
pop f fs is d ends h k = ap whole (settle-pop 13 f fs is d (omega arith))
pop f fs is d (math m {ts} l) h k = ap (λ (r : Rest). option_and_then (λ next. run next ts) (want (frame.Math m) r)) (settle-pop (suc (tier m)) f fs is d (omega arith))
pop f fs is d (logic m {ts} l) h k =
    ap (λ (r : Rest). option_and_then (λ next. run next ts) (want (frame.Logic m) (then_code (instr.Begin (part.Logic m) ∷ []) r))) (settle-pop (suc (logic_tier m)) f fs is d (omega arith))
pop f fs is d (question {ts = ts} l) h k =
    ap (λ (r : Rest). option_and_then (λ next. run next ts) (want frame.Then (then_code (instr.Begin part.Choice ∷ []) r))) (settle-pop 10 f fs is d (omega arith))
pop f fs is d (colons {ts = ts}) h k = ap (λ (r : Rest). option_and_then (λ next. run next ts) (colon r)) (settle-pop 13 f fs is d (omega arith))
pop f fs is d (closes {ts = ts}) h k = ap (λ (r : Rest). option_and_then (λ next. run next ts) (close r)) (settle-pop 13 f fs is d (omega arith))

-- a name that is not assigned to is read
pub named : {n : ℕ} {ts : List Token} (p : ℕ) (x : List ℕ) (r : Rest) → Stops n ts → run (at (Named p x) r) ts ≡ run (at Have (with_value p x r)) ts
named p x r ends = refl
named p x r (math m l) = refl
named p x r (logic l k) = refl
named p x r (question l) = refl
named p x r colons = refl
named p x r closes = refl

sign : {o : Token} {s : Sign} (ts : List Token) (fs : List Frame) (is : List Instr) (d : ℕ) → IsSign o s →
    run (at Want (rest fs is d)) (o ∷ ts) ≡ run (at Want (rest (frame.Sign s ∷ fs) is d)) ts
sign ts fs is d g.plus = refl
sign ts fs is d g.minus = refl
sign ts fs is d g.not = refl
sign ts fs is d g.complement = refl

math-step : (m : Math) (ts : List Token) (fs : List Frame) (is : List Instr) (d : ℕ) → Above (suc (tier m)) fs →
    run (at Have (rest fs is d)) (Operator (op.Math m) ∷ ts) ≡ run (at Want (rest (frame.Math m ∷ fs) is d)) ts
math-step m ts fs is d h = ap (λ (r : Rest). option_and_then (λ next. run next ts) (want (frame.Math m) r)) (settle-stay (suc (tier m)) fs is d h)

logic-step : (l : Logic) (ts : List Token) (fs : List Frame) (is : List Instr) (d : ℕ) → Above (suc (logic_tier l)) fs →
    run (at Have (rest fs is d)) (Operator (op.Logic l) ∷ ts) ≡ run (at Want (rest (frame.Logic l ∷ fs) (is ++ instr.Begin (part.Logic l) ∷ []) d)) ts
logic-step l ts fs is d h =
    ap (λ (r : Rest). option_and_then (λ next. run next ts) (want (frame.Logic l) (then_code (instr.Begin (part.Logic l) ∷ []) r))) (settle-stay (suc (logic_tier l)) fs is d h)

question-step : (ts : List Token) (fs : List Frame) (is : List Instr) (d : ℕ) → Above 10 fs →
    run (at Have (rest fs is d)) (Operator op.Question ∷ ts) ≡ run (at Want (rest (frame.Then ∷ fs) (is ++ instr.Begin part.Choice ∷ []) d)) ts
question-step ts fs is d h = ap (λ (r : Rest). option_and_then (λ next. run next ts) (want frame.Then (then_code (instr.Begin part.Choice ∷ []) r))) (settle-stay 10 fs is d h)

assign-step : (p : ℕ) (x : List ℕ) (o : Option Math) (ts : List Token) (fs : List Frame) (is : List Instr) (d : ℕ) → Above 12 fs →
    run (at (Named p x) (rest fs is d)) (Operator (op.Assign o) ∷ ts) ≡ run (at Want (rest (frame.Assign o p x ∷ fs) (read_first o p x is) d)) ts
assign-step p x o ts fs is d h =
    ap (λ (b : Bool). option_and_then (λ next. run next ts) (if b then want (frame.Assign o p x) (rest fs (read_first o p x is) d) else None)) (above-holds 12 fs h)

pub read : {n d : ℕ} {ts us : List Token} {t : Tree} → Level n d ts us t → n ≤ 12 → Stops n us → (fs : List Frame) → Above n fs → (is : List Instr) →
    run (at Want (rest fs is d)) ts ≡ run (at Have (rest fs (emit t is) d)) us
read g.constant small stops fs above is = refl
read (g.name {d} {p} {x}) small stops fs above is = named p x (rest fs is d) stops
read (g.group l) small stops fs above is = read l (omega arith) closes (frame.Open ∷ fs) (omega arith) is
read (g.signs {d} {o} {s} {ts} {t = t} i l) small stops fs above is =
    sign ts fs is d i ∙ read l small stops (frame.Sign s ∷ fs) (omega arith) is ∙ pop (frame.Sign s) fs (emit t is) d (one stops) (omega arith) (omega arith)
read (g.operators {d} m {ts} {mid} {a = a} {b} l r) small stops fs above is =
    read l small (math m (omega arith)) fs above is
    ∙ math-step m mid fs (emit a is) d above
    ∙ read r (omega arith) (less stops (omega arith)) (frame.Math m ∷ fs) (omega arith) (emit a is)
    ∙ pop (frame.Math m) fs (emit b (emit a is)) d stops (omega arith) (omega arith)
read (g.logics {d} m {ts} {mid} {a = a} {b} l r) small stops fs above is =
    read l small (logic m (omega arith)) fs above is
    ∙ logic-step m mid fs (emit a is) d above
    ∙ read r (omega arith) (less stops (omega arith)) (frame.Logic m ∷ fs) (omega arith) (emit a is ++ instr.Begin (part.Logic m) ∷ [])
    ∙ pop (frame.Logic m) fs (emit b (emit a is ++ instr.Begin (part.Logic m) ∷ [])) d stops (omega arith) (omega arith)
read (g.choices {d} {ts} {mid} {mid'} {a = a} {b} {c} l m r) small stops fs above is =
    read l (omega arith) (question (omega arith)) fs (above-less 10 11 fs (omega arith) above) is
    ∙ question-step mid fs (emit c is) d (above-less 10 11 fs (omega arith) above)
    ∙ read m (omega arith) colons (frame.Then ∷ fs) (omega arith) (emit c is ++ instr.Begin part.Choice ∷ [])
    ∙ read r small stops (frame.Otherwise ∷ fs) (omega arith) (emit a (emit c is ++ instr.Begin part.Choice ∷ []) ++ instr.Otherwise ∷ [])
    ∙ pop frame.Otherwise fs (emit b (emit a (emit c is ++ instr.Begin part.Choice ∷ []) ++ instr.Otherwise ∷ [])) d (all (omega arith) stops) (omega arith) (omega arith)
read (g.assigns {d} {p} {x} {o} {ts} {t = t} l) small stops fs above is =
    assign-step p x o ts fs is d above
    ∙ read l small stops (frame.Assign o p x ∷ fs) (omega arith) (read_first o p x is)
    ∙ pop (frame.Assign o p x) fs (emit t (read_first o p x is)) d (all (omega arith) stops) (omega arith) (omega arith)
read (g.tighter {n} l) small stops fs above is = read l (omega arith) (less stops (omega arith)) fs (above-less n (suc n) fs (omega arith) above) is

pub complete : {t : Tree} {ts : List Token} → Parses t ts → run start ts ≡ Some (emit t [])
complete l = read l (omega arith) ends [] tt []
