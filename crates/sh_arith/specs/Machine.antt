-- Reading token by token, into instructions: what waits for an operand stands on a stack, and comes off it before a token
-- that binds no tighter.
use Rattle.std.specs.Prelude.{ℕ, zero, suc, Bool, true, nat_le, List, [], ◌∷◌, ◌++◌, Option, Some, None, option_and_then, if◌then◌else◌}
use Rattle.sh_arith.specs.declared.token.Math.{Math}
use Rattle.sh_arith.specs.declared.token.Math.TheVariants as math
use Rattle.sh_arith.specs.declared.token.Sign.TheVariants as sign
use Rattle.sh_arith.specs.declared.token.Op.{Op}
use Rattle.sh_arith.specs.declared.token.Op.TheVariants as op
use Rattle.sh_arith.specs.declared.token.Token.{Token}
use Rattle.sh_arith.specs.declared.token.Token.TheVariants.{Number, Name, Operator}
use Rattle.sh_arith.specs.declared.instr.Part.TheVariants as part
use Rattle.sh_arith.specs.declared.instr.Instr.{Instr}
use Rattle.sh_arith.specs.declared.instr.Instr.TheVariants as instr
use Rattle.sh_arith.specs.declared.instr.Frame.{Frame}
use Rattle.sh_arith.specs.declared.instr.Frame.TheVariants as frame
use Rattle.sh_arith.specs.declared.instr.Now.{Now}
use Rattle.sh_arith.specs.declared.instr.Rest.{Rest}
use Rattle.sh_arith.specs.declared.instr.Now.TheVariants.{Want, Named, Have}
use Rattle.sh_arith.specs.Grammar.{tier, logic_tier, most_open, Tree, number, read, signed, binary, logic, choice, assign}

pub record State : Type 0 where
  pub now : Now
  pub rest : Rest

abbrev pub rest : List Frame → List Instr → ℕ → Rest
rest fs is d = record { stack = fs; code = is; room = d }

abbrev pub at : Now → Rest → State
at n r = record { now = n; rest = r }

-- the strength of what waits: a token of at least this power takes it off
abbrev pub strength : Frame → ℕ
strength (frame.Sign s) = 1
strength (frame.Math m) = suc (tier m)
strength (frame.Logic l) = suc (logic_tier l)
strength frame.Otherwise = 12
strength (frame.Assign o p x) = 13
strength frame.Open = 14
strength frame.Then = 14

-- what is done when its right operand is there
abbrev pub finish : Frame → List Instr
finish (frame.Sign s) = instr.Sign s ∷ []
finish (frame.Math m) = instr.Math m ∷ []
finish (frame.Logic l) = instr.End (part.Logic l) ∷ []
finish frame.Otherwise = instr.End part.Choice ∷ []
finish (frame.Assign o p x) = instr.Store o p x ∷ []
finish frame.Open = []
finish frame.Then = []

-- a compound assignment reads its name first
abbrev pub read_first : Option Math → ℕ → List ℕ → List Instr → List Instr
read_first None p x is = is
read_first (Some m) p x is = is ++ instr.Read p x ∷ []

-- the instructions of an expression, behind others
abbrev pub emit : Tree → List Instr → List Instr
emit (number n) is = is ++ instr.Number n ∷ []
emit (read p x) is = is ++ instr.Read p x ∷ []
emit (signed s t) is = emit t is ++ finish (frame.Sign s)
emit (binary m a b) is = emit b (emit a is) ++ finish (frame.Math m)
emit (logic l a b) is = emit b (emit a is ++ instr.Begin (part.Logic l) ∷ []) ++ finish (frame.Logic l)
emit (choice c a b) is = emit b (emit a (emit c is ++ instr.Begin part.Choice ∷ []) ++ instr.Otherwise ∷ []) ++ finish frame.Otherwise
emit (assign o p x t) is = emit t (read_first o p x is) ++ finish (frame.Assign o p x)

-- what is on top is stronger
abbrev pub holds : ℕ → List Frame → Bool
holds n [] = true
holds n (f ∷ fs) = nat_le (suc n) (strength f)

-- all that a token of this power takes off
abbrev pub settle : ℕ → List Frame → List Instr → ℕ → Rest
settle n [] is d = rest [] is d
settle n (f ∷ fs) is d = if nat_le (strength f) n then settle n fs (is ++ finish f) d else rest (f ∷ fs) is d

abbrev pub settled : ℕ → Rest → Rest
settled n r = settle n r.stack r.code r.room

-- an operand is wanted for this
abbrev pub want : Frame → Rest → Option State
want f r = Some (at Want (rest (f ∷ r.stack) r.code r.room))

abbrev pub then_code : List Instr → Rest → Rest
then_code more r = rest r.stack (r.code ++ more) r.room

-- a bracket opens where there is room for it
abbrev pub open_in : ℕ → List Frame → List Instr → Option State
open_in zero fs is = None
open_in (suc d) fs is = Some (at Want (rest (frame.Open ∷ fs) is d))

abbrev pub want_op : Op → Rest → Option State
want_op (op.Math math.Plus) r = want (frame.Sign sign.Plus) r
want_op (op.Math math.Minus) r = want (frame.Sign sign.Minus) r
want_op op.Not r = want (frame.Sign sign.Not) r
want_op op.Complement r = want (frame.Sign sign.Complement) r
want_op op.Open r = open_in r.room r.stack r.code
want_op _ r = None

-- before an operand
abbrev pub want_token : Token → Rest → Option State
want_token (Number n) r = Some (at Have (then_code (instr.Number n ∷ []) r))
want_token (Name p x) r = Some (at (Named p x) r)
want_token (Operator o) r = want_op o r

-- a `:` goes on with the `?` on top
abbrev pub colon_on : List Frame → List Instr → ℕ → Option State
colon_on (frame.Then ∷ fs) is d = Some (at Want (rest (frame.Otherwise ∷ fs) (is ++ instr.Otherwise ∷ []) d))
colon_on _ is d = None

-- a `)` closes the bracket on top
abbrev pub close_on : List Frame → List Instr → ℕ → Option State
close_on (frame.Open ∷ fs) is d = Some (at Have (rest fs is (suc d)))
close_on _ is d = None

abbrev pub colon : Rest → Option State
colon r = colon_on r.stack r.code r.room

abbrev pub close : Rest → Option State
close r = close_on r.stack r.code r.room

abbrev pub have_op : Op → Rest → Option State
have_op (op.Math m) r = want (frame.Math m) (settled (suc (tier m)) r)
have_op (op.Logic l) r = want (frame.Logic l) (then_code (instr.Begin (part.Logic l) ∷ []) (settled (suc (logic_tier l)) r))
have_op op.Question r = want frame.Then (then_code (instr.Begin part.Choice ∷ []) (settled 10 r))
have_op op.Colon r = colon (settled 13 r)
have_op op.Close r = close (settled 13 r)
have_op op.Not r = None
have_op op.Complement r = None
have_op (op.Assign o) r = None
have_op op.Open r = None

-- behind an operand
abbrev pub have_token : Token → Rest → Option State
have_token (Operator o) r = have_op o r
have_token (Number n) r = None
have_token (Name p x) r = None

-- the name's value is read
abbrev pub with_value : ℕ → List ℕ → Rest → Rest
with_value p x r = then_code (instr.Read p x ∷ []) r

-- a name is assigned to, where an assignment may stand
abbrev pub named_op : ℕ → List ℕ → Op → Rest → Option State
named_op p x (op.Assign o) r = if holds 12 r.stack then want (frame.Assign o p x) (rest r.stack (read_first o p x r.code) r.room) else None
named_op p x o r = have_op o (with_value p x r)

-- behind a name
abbrev pub named_token : ℕ → List ℕ → Token → Rest → Option State
named_token p x (Operator o) r = named_op p x o r
named_token p x (Number n) r = None
named_token p x (Name q y) r = None

abbrev pub step_now : Now → Rest → Token → Option State
step_now Want r t = want_token t r
step_now (Named p x) r t = named_token p x t r
step_now Have r t = have_token t r

abbrev pub step : State → Token → Option State
step st t = step_now st.now st.rest t

-- all is done where nothing waits
abbrev pub whole_of : List Frame → List Instr → Option (List Instr)
whole_of [] is = Some is
whole_of (f ∷ fs) is = None

abbrev pub whole : Rest → Option (List Instr)
whole r = whole_of r.stack r.code

-- the instructions, where the tokens end
abbrev pub accept_now : Now → Rest → Option (List Instr)
accept_now Want r = None
accept_now (Named p x) r = whole (settled 13 (with_value p x r))
accept_now Have r = whole (settled 13 r)

abbrev pub accept : State → Option (List Instr)
accept st = accept_now st.now st.rest

abbrev pub run : State → List Token → Option (List Instr)
run st [] = accept st
run st (t ∷ ts) = option_and_then (λ next. run next ts) (step st t)

abbrev pub start : State
start = at Want (rest [] [] most_open)
