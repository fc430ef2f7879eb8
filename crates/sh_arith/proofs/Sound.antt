-- What the machine reads, the grammar derives.
use Rattle.std.proofs.Common.{◌≡◌, ℕ, zero, suc, ◌-◌, ◌<◌, ◌≤◌, Bool, true, false, List, [], ◌∷◌, ◌++◌, Option, Some, None, refl, sym, ap, subst, ◌∙◌, arith}
use Rattle.std.proofs.lemmas.Bool.{leb-true, leb-false}
use Rattle.std.specs.Prelude.{nat_le, if◌then◌else◌, option_and_then}
use Rattle.sh_arith.specs.declared.token.Math.{Math}
use Rattle.sh_arith.specs.declared.token.Math.TheVariants as math
use Rattle.sh_arith.specs.declared.token.Logic.{Logic}
use Rattle.sh_arith.specs.declared.token.Op.{Op}
use Rattle.sh_arith.specs.declared.token.Op.TheVariants as op
use Rattle.sh_arith.specs.declared.token.Token.{Token}
use Rattle.sh_arith.specs.declared.token.Token.TheVariants.{Number, Name, Operator}
use Rattle.sh_arith.specs.declared.token.Sign.{Sign}
use Rattle.sh_arith.specs.declared.instr.Part.TheVariants as part
use Rattle.sh_arith.specs.declared.instr.Instr.{Instr}
use Rattle.sh_arith.specs.declared.instr.Instr.TheVariants as instr
use Rattle.sh_arith.specs.declared.instr.Frame.{Frame}
use Rattle.sh_arith.specs.declared.instr.Frame.TheVariants as frame
use Rattle.sh_arith.specs.declared.instr.Now.{Now}
use Rattle.sh_arith.specs.declared.instr.Now.TheVariants.{Want, Named, Have}
use Rattle.sh_arith.specs.declared.instr.Rest.{Rest}
use Rattle.sh_arith.specs.Grammar as g
use Rattle.sh_arith.specs.Grammar.{tier, logic_tier, Tree, Level, IsSign, Parses, most_open}
use Rattle.sh_arith.specs.Machine as machine
use Rattle.sh_arith.specs.Machine.{rest, State, at, strength, finish, emit, read_first, settle, settled, holds, run, want, with_value, whole, whole_of, colon, colon_on, close, close_on, then_code, step_now, want_op, have_op, named_op, open_in, accept_now}
use Rattle.sh_arith.proofs.Levels.{tier_small, logic_small, Above, above-zero, above-ten, holds-above, lift-by}

pub lift : (k : ℕ) (n : ℕ) {d : ℕ} {ts us : List Token} {t : Tree} → k ≤ n → Level k d ts us t → Level n d ts us t
lift k n {d} {ts} {us} {t} h l = subst (λ (j : ℕ). Level j d ts us t) (omega arith) (lift-by (n - k) l)

-- What waits on the stack is what was read from the begin of the tokens on, up to the tokens that are left.
pub data Before (first : List Token) : ℕ → List Frame → List Instr → List Token → Type 0 where
  nothing : Before first most_open [] [] first
  sign : {d : ℕ} {fs : List Frame} {is : List Instr} {o : Token} {s : Sign} {ts : List Token} →
      IsSign o s → Before first d fs is (o ∷ ts) → Before first d (frame.Sign s ∷ fs) is ts
  maths : {d : ℕ} {fs : List Frame} {is : List Instr} {m : Math} {mid ts : List Token} {a : Tree} →
      Before first d fs is mid → Level (suc (tier m)) d mid (Operator (op.Math m) ∷ ts) a → Above (suc (tier m)) fs → Before first d (frame.Math m ∷ fs) (emit a is) ts
  logic : {d : ℕ} {fs : List Frame} {is : List Instr} {l : Logic} {mid ts : List Token} {a : Tree} →
      Before first d fs is mid → Level (suc (logic_tier l)) d mid (Operator (op.Logic l) ∷ ts) a → Above (suc (logic_tier l)) fs →
      Before first d (frame.Logic l ∷ fs) (emit a is ++ instr.Begin (part.Logic l) ∷ []) ts
  open_bracket : {d : ℕ} {fs : List Frame} {is : List Instr} {ts : List Token} →
      Before first (suc d) fs is (Operator op.Open ∷ ts) → Before first d (frame.Open ∷ fs) is ts
  question : {d : ℕ} {fs : List Frame} {is : List Instr} {mid ts : List Token} {c : Tree} →
      Before first d fs is mid → Level 10 d mid (Operator op.Question ∷ ts) c → Above 11 fs →
      Before first d (frame.Then ∷ fs) (emit c is ++ instr.Begin part.Choice ∷ []) ts
  otherwise : {d : ℕ} {fs : List Frame} {is : List Instr} {mid mid' ts : List Token} {c a : Tree} →
      Before first d fs is mid → Level 10 d mid (Operator op.Question ∷ mid') c → Level 12 d mid' (Operator op.Colon ∷ ts) a → Above 11 fs →
      Before first d (frame.Otherwise ∷ fs) (emit a (emit c is ++ instr.Begin part.Choice ∷ []) ++ instr.Otherwise ∷ []) ts
  assign : {d : ℕ} {fs : List Frame} {is : List Instr} {o : Option Math} {p : ℕ} {x : List ℕ} {ts : List Token} →
      Before first d fs is (Name p x ∷ Operator (op.Assign o) ∷ ts) → Above 12 fs → Before first d (frame.Assign o p x ∷ fs) (read_first o p x is) ts

-- behind what waits, an expression of a level up to n was read
pub record Phrase (first : List Token) (n d : ℕ) (fs : List Frame) (code : List Instr) (ts : List Token) : Type 0 where
  pub k : ℕ
  pub within : k ≤ n
  pub small : k ≤ 12
  pub is : List Instr
  pub mid : List Token
  pub tree : Tree
  pub before : Before first d fs is mid
  pub level : Level k d mid ts tree
  pub above : Above k fs
  pub same : code ≡ emit tree is

popped : (first : List Token) (d : ℕ) (f : Frame) (fs : List Frame) (is : List Instr) (mid ts : List Token) (t : Tree) (k : ℕ) →
    Before first d (f ∷ fs) is mid → Level k d mid ts t → k < strength f → strength f ≤ 13 → Phrase first (strength f) d fs (emit t is ++ finish f) ts
popped first d (frame.Sign s) fs is mid ts t k (sign i b) l h small = record {
  k = 0;
  within = omega arith;
  small = omega arith;
  is = is;
  mid = _;
  tree = g.signed s t;
  before = b;
  level = g.signs i (lift k 0 (omega arith) l);
  above = above-zero fs;
  same = refl;
}
popped first d (frame.Math m) fs c mid ts t k (maths {is = is} {mid = start} {a = a} b l above) r h small = record {
  k = suc (tier m);
  within = omega arith;
  small = omega (arith, tier_small m);
  is = is;
  mid = start;
  tree = g.binary m a t;
  before = b;
  level = g.operators m l (lift k (tier m) (omega arith) r);
  above = above;
  same = refl;
}
popped first d (frame.Logic m) fs c mid ts t k (logic {is = is} {mid = start} {a = a} b l above) r h small = record {
  k = suc (logic_tier m);
  within = omega arith;
  small = omega (arith, logic_small m);
  is = is;
  mid = start;
  tree = g.logic m a t;
  before = b;
  level = g.logics m l (lift k (logic_tier m) (omega arith) r);
  above = above;
  same = refl;
}
popped first d frame.Open fs is mid ts t k b l h small = absurd (omega arith)
popped first d frame.Then fs is mid ts t k b l h small = absurd (omega arith)
popped first d frame.Otherwise fs code mid ts t k (otherwise {is = is} {mid = start} {c = c} {a} b l m above) r h small = record {
  k = 11;
  within = omega arith;
  small = omega arith;
  is = is;
  mid = start;
  tree = g.choice c a t;
  before = b;
  level = g.choices l m (lift k 11 (omega arith) r);
  above = above;
  same = refl;
}
popped first d (frame.Assign o p x) fs code mid ts t k (assign {is = is} b above) l h small = record {
  k = 12;
  within = omega arith;
  small = omega arith;
  is = is;
  mid = _;
  tree = g.assign o p x t;
  before = b;
  level = g.assigns (lift k 12 (omega arith) l);
  above = above;
  same = refl;
}

-- after all that a token takes off
pub record Settled (first : List Token) (n : ℕ) (r : Rest) (ts : List Token) : Type 0 where
  pub phrase : Phrase first n r.room r.stack r.code ts
  pub stays : Above n r.stack

settle-sound : (first : List Token) (n d : ℕ) (fs : List Frame) (code : List Instr) (ts : List Token) → n ≤ 13 → Phrase first n d fs code ts → Settled first n (settle n fs code d) ts
settle-sound first n d [] code ts h p = record { phrase = p; stays = tt }
settle-sound first n d (f ∷ fs) code ts h p = by (nat_le (strength f) n) refl (λ q. settle-sound first n d fs (code ++ finish f) ts h q)
  where
    next : Phrase first (strength f) d fs (emit p.tree p.is ++ finish f) ts → strength f ≤ n → Phrase first n d fs (code ++ finish f) ts
    next q le = record {
      k = q.k;
      within = omega (arith, q.within);
      small = q.small;
      is = q.is;
      mid = q.mid;
      tree = q.tree;
      before = q.before;
      level = q.level;
      above = q.above;
      same = ap (λ (c : List Instr). c ++ finish f) p.same ∙ q.same;
    }

    by : (b : Bool) → nat_le (strength f) n ≡ b → (Phrase first n d fs (code ++ finish f) ts → Settled first n (settle n fs (code ++ finish f) d) ts) →
        Settled first n (if b then settle n fs (code ++ finish f) d else rest (f ∷ fs) code d) ts
    by false e again = record { phrase = p; stays = leb-false (strength f) n e }
    by true e again =
        let le = leb-true (strength f) n e in
        again (next (popped first d f fs p.is p.mid ts p.tree p.k p.before p.level p.above (omega arith)) le)

-- ---- states

-- an operand was read
pub record Operand (first : List Token) (d : ℕ) (fs : List Frame) (code : List Instr) (ts : List Token) : Type 0 where
  pub is : List Instr
  pub mid : List Token
  pub tree : Tree
  pub before : Before first d fs is mid
  pub level : Level 0 d mid ts tree
  pub same : code ≡ emit tree is

abbrev pub At : List Token → Now → List Frame → List Instr → ℕ → List Token → Type 0
At first Want fs is d ts = Before first d fs is ts
At first (Named p x) fs is d ts = Before first d fs is (Name p x ∷ ts)
At first Have fs is d ts = Operand first d fs is ts

abbrev pub AtState : List Token → State → List Token → Type 0
AtState first st ts = At first st.now st.rest.stack st.rest.code st.rest.room ts

abbrev pub Next : List Token → Option State → List Token → Type 0
Next first None ts = Unit {0}
Next first (Some st) ts = AtState first st ts

before-room : (first : List Token) (d : ℕ) (fs : List Frame) (is : List Instr) (ts : List Token) → Before first d fs is ts → d ≤ 100
before-room first d fs is ts nothing = omega arith
before-room first d fs is ts (sign i b) = before-room first _ _ _ _ b
before-room first d fs is ts (maths b l above) = before-room first _ _ _ _ b
before-room first d fs is ts (logic b l above) = before-room first _ _ _ _ b
before-room first d fs is ts (open_bracket b) = let h = before-room first _ _ _ _ b in omega arith
before-room first d fs is ts (question b l above) = before-room first _ _ _ _ b
before-room first d fs is ts (otherwise b l m above) = before-room first _ _ _ _ b
before-room first d fs is ts (assign b above) = before-room first _ _ _ _ b

pub room-small : (first : List Token) (now : Now) (fs : List Frame) (is : List Instr) (d : ℕ) (ts : List Token) → At first now fs is d ts → d ≤ 100
room-small first Want fs is d ts b = before-room first d fs is ts b
room-small first (Named p x) fs is d ts b = before-room first d fs is _ b
room-small first Have fs is d ts b = before-room first d fs _ _ b.before

phrase_of : (first : List Token) (n d : ℕ) (fs : List Frame) (code : List Instr) (ts : List Token) → Operand first d fs code ts → Phrase first n d fs code ts
phrase_of first n d fs code ts o = record {
  k = 0;
  within = omega arith;
  small = omega arith;
  is = o.is;
  mid = o.mid;
  tree = o.tree;
  before = o.before;
  level = o.level;
  above = above-zero fs;
  same = o.same;
}

sign-sound : (first : List Token) (d : ℕ) (fs : List Frame) (is : List Instr) (ts : List Token) → Before first d fs is ts → Before first d fs is ts
sign-sound first d fs is ts b = b

open-sound : (first : List Token) (d : ℕ) (fs : List Frame) (is : List Instr) (ts : List Token) → Before first d fs is (Operator op.Open ∷ ts) → Next first (open_in d fs is) ts
open-sound first zero fs is ts b = tt
open-sound first (suc d) fs is ts b = open_bracket b

want-op-sound : (first : List Token) (d : ℕ) (fs : List Frame) (is : List Instr) (o : Op) (ts : List Token) → Before first d fs is (Operator o ∷ ts) → Next first (want_op o (rest fs is d)) ts
want-op-sound first d fs is (op.Math math.Plus) ts b = sign g.plus b
want-op-sound first d fs is (op.Math math.Minus) ts b = sign g.minus b
want-op-sound first d fs is op.Not ts b = sign g.not b
want-op-sound first d fs is op.Complement ts b = sign g.complement b
want-op-sound first d fs is op.Open ts b = open-sound first d fs is ts b
want-op-sound first d fs is _ ts b = tt

colon-top : (first : List Token) (d : ℕ) (fs : List Frame) (code is : List Instr) (mid ts : List Token) (t : Tree) (k : ℕ) → Before first d (frame.Then ∷ fs) is mid →
    Level k d mid (Operator op.Colon ∷ ts) t → k ≤ 12 → code ≡ emit t is → Before first d (frame.Otherwise ∷ fs) (code ++ instr.Otherwise ∷ []) ts
colon-top first d fs code _ mid ts t k (question b l above) r h e =
    subst (λ (i : List Instr). Before first d (frame.Otherwise ∷ fs) (i ++ instr.Otherwise ∷ []) ts) (sym e) (otherwise b l (lift k 12 h r) above)

colon-sound : (first : List Token) (d : ℕ) (fs : List Frame) (code : List Instr) (ts : List Token) → Phrase first 13 d fs code (Operator op.Colon ∷ ts) → Next first (colon_on fs code d) ts
colon-sound first d (frame.Then ∷ fs) code ts p = colon-top first d fs code p.is p.mid ts p.tree p.k p.before p.level p.small p.same
colon-sound first d [] code ts p = tt
colon-sound first d (_ ∷ fs) code ts p = tt

close-top : (first : List Token) (d : ℕ) (fs : List Frame) (code is : List Instr) (mid ts : List Token) (t : Tree) (k : ℕ) → Before first d (frame.Open ∷ fs) is mid →
    Level k d mid (Operator op.Close ∷ ts) t → k ≤ 12 → code ≡ emit t is → Operand first (suc d) fs code ts
close-top first d fs code is mid ts t k (open_bracket b) r h e = record { is = is; mid = _; tree = t; before = b; level = g.group (lift k 12 h r); same = e }

close-sound : (first : List Token) (d : ℕ) (fs : List Frame) (code : List Instr) (ts : List Token) → Phrase first 13 d fs code (Operator op.Close ∷ ts) → Next first (close_on fs code d) ts
close-sound first d (frame.Open ∷ fs) code ts p = close-top first d fs code p.is p.mid ts p.tree p.k p.before p.level p.small p.same
close-sound first d [] code ts p = tt
close-sound first d (_ ∷ fs) code ts p = tt

have-op-sound : (first : List Token) (d : ℕ) (fs : List Frame) (code : List Instr) (o : Op) (ts : List Token) → Operand first d fs code (Operator o ∷ ts) → Next first (have_op o (rest fs code d)) ts
have-op-sound first d fs code (op.Math m) ts b =
    let s = settle-sound first (suc (tier m)) d fs code _ (omega (arith, tier_small m)) (phrase_of first _ d fs code _ b) in
    let p = s.phrase in
    let r = settle (suc (tier m)) fs code d in
    subst (λ (i : List Instr). Before first r.room (frame.Math m ∷ r.stack) i ts) (sym p.same) (maths p.before (lift p.k (suc (tier m)) p.within p.level) s.stays)
have-op-sound first d fs code (op.Logic m) ts b =
    let s = settle-sound first (suc (logic_tier m)) d fs code _ (omega (arith, logic_small m)) (phrase_of first _ d fs code _ b) in
    let p = s.phrase in
    let r = settle (suc (logic_tier m)) fs code d in
    subst (λ (i : List Instr). Before first r.room (frame.Logic m ∷ r.stack) (i ++ instr.Begin (part.Logic m) ∷ []) ts) (sym p.same) (logic p.before (lift p.k (suc (logic_tier m)) p.within p.level) s.stays)
have-op-sound first d fs code op.Question ts b =
    let s = settle-sound first 10 d fs code _ (omega arith) (phrase_of first _ d fs code _ b) in
    let p = s.phrase in
    let r = settle 10 fs code d in
    subst (λ (i : List Instr). Before first r.room (frame.Then ∷ r.stack) (i ++ instr.Begin part.Choice ∷ []) ts) (sym p.same) (question p.before (lift p.k 10 p.within p.level) (above-ten r.stack s.stays))
have-op-sound first d fs code op.Colon ts b =
    let s = settle-sound first 13 d fs code _ (omega arith) (phrase_of first _ d fs code _ b) in
    let r = settle 13 fs code d in
    colon-sound first r.room r.stack r.code ts s.phrase
have-op-sound first d fs code op.Close ts b =
    let s = settle-sound first 13 d fs code _ (omega arith) (phrase_of first _ d fs code _ b) in
    let r = settle 13 fs code d in
    close-sound first r.room r.stack r.code ts s.phrase
have-op-sound first d fs code op.Not ts b = tt
have-op-sound first d fs code op.Complement ts b = tt
have-op-sound first d fs code (op.Assign o) ts b = tt
have-op-sound first d fs code op.Open ts b = tt

value-read : (first : List Token) (d p : ℕ) (x : List ℕ) (fs : List Frame) (is : List Instr) (ts : List Token) → Before first d fs is (Name p x ∷ ts) →
    Operand first d fs (is ++ instr.Read p x ∷ []) ts
value-read first d p x fs is ts b = record { is = is; mid = _; tree = g.read p x; before = b; level = g.name; same = refl }

assign-sound : (first : List Token) (d p : ℕ) (x : List ℕ) (o : Option Math) (fs : List Frame) (is : List Instr) (ts : List Token) (b : Bool) → holds 12 fs ≡ b →
    Before first d fs is (Name p x ∷ Operator (op.Assign o) ∷ ts) → Next first (if b then want (frame.Assign o p x) (rest fs (read_first o p x is) d) else None) ts
assign-sound first d p x o fs is ts true e b = assign b (holds-above 12 fs e)
assign-sound first d p x o fs is ts false e b = tt

named-op-sound : (first : List Token) (d p : ℕ) (x : List ℕ) (fs : List Frame) (is : List Instr) (o : Op) (ts : List Token) → Before first d fs is (Name p x ∷ Operator o ∷ ts) →
    Next first (named_op p x o (rest fs is d)) ts
named-op-sound first d p x fs is (op.Assign o) ts b = assign-sound first d p x o fs is ts (holds 12 fs) refl b
named-op-sound first d p x fs is o ts b = have-op-sound first d fs (is ++ instr.Read p x ∷ []) o ts (value-read first d p x fs is _ b)

pub step-sound : (first : List Token) (now : Now) (d : ℕ) (fs : List Frame) (is : List Instr) (t : Token) (ts : List Token) → At first now fs is d (t ∷ ts) →
    Next first (step_now now (rest fs is d) t) ts
step-sound first Want d fs is (Number n) ts b = record { is = is; mid = _; tree = g.number n; before = b; level = g.constant; same = refl }
step-sound first Want d fs is (Name p x) ts b = b
step-sound first Want d fs is (Operator o) ts b = want-op-sound first d fs is o ts b
step-sound first (Named p x) d fs is (Operator o) ts b = named-op-sound first d p x fs is o ts b
step-sound first (Named p x) d fs is (Number n) ts b = tt
step-sound first (Named p x) d fs is (Name q y) ts b = tt
step-sound first Have d fs is (Operator o) ts b = have-op-sound first d fs is o ts b
step-sound first Have d fs is (Number n) ts b = tt
step-sound first Have d fs is (Name q y) ts b = tt

-- the tokens end
pub record Whole (first : List Token) (code : List Instr) : Type 0 where
  pub tree : Tree
  pub parsed : Parses tree first
  pub same : code ≡ emit tree []

whole-top : (first : List Token) (d : ℕ) (code is all : List Instr) (mid : List Token) (t : Tree) (k : ℕ) → Before first d [] is mid → Level k d mid [] t → k ≤ 12 →
    code ≡ emit t is → code ≡ all → Whole first all
whole-top first d code is all mid t k nothing l h e f = record { tree = t; parsed = lift k 12 h l; same = sym f ∙ e }

whole-sound : (first : List Token) (d : ℕ) (fs : List Frame) (code all : List Instr) → whole_of fs code ≡ Some all → Phrase first 13 d fs code [] → Whole first all
whole-sound first d [] code all e p = whole-top first d code p.is all p.mid p.tree p.k p.before p.level p.small p.same (let h : Some code ≡ Some all = e in cc)
whole-sound first d (f ∷ fs) code all e p = let h : None ≡ Some all = e in absurd cc

accept-sound : (first : List Token) (now : Now) (d : ℕ) (fs : List Frame) (is all : List Instr) → accept_now now (rest fs is d) ≡ Some all → At first now fs is d [] → Whole first all
accept-sound first Want d fs is all e b = let h : None ≡ Some all = e in absurd cc
accept-sound first (Named p x) d fs is all e b =
    let c = is ++ instr.Read p x ∷ [] in
    let s = settle-sound first 13 d fs c [] (omega arith) (phrase_of first _ d fs c _ (value-read first d p x fs is _ b)) in
    let r = settle 13 fs c d in
    whole-sound first r.room r.stack r.code all e s.phrase
accept-sound first Have d fs is all e b =
    let s = settle-sound first 13 d fs is [] (omega arith) (phrase_of first _ d fs is _ b) in
    let r = settle 13 fs is d in
    whole-sound first r.room r.stack r.code all e s.phrase

run-sound : (first : List Token) (ts : List Token) (st : State) (all : List Instr) → run st ts ≡ Some all → AtState first st ts → Whole first all
run-sound first [] st all e b = accept-sound first st.now st.rest.room st.rest.stack st.rest.code all e b
run-sound first (t ∷ ts) st all e b = by (step_now st.now st.rest t) (step-sound first st.now st.rest.room st.rest.stack st.rest.code t ts b) e (λ next h n. run-sound first ts next all h n)
  where
    by : (o : Option State) → Next first o ts → option_and_then (λ next. run next ts) o ≡ Some all → ((next : State) → run next ts ≡ Some all → AtState first next ts → Whole first all) → Whole first all
    by None n h again = let k : None ≡ Some all = h in absurd cc
    by (Some next) n h again = again next h n

pub sound : (ts : List Token) (all : List Instr) → run machine.start ts ≡ Some all → Whole ts all
sound ts all e = run-sound ts ts machine.start all e nothing
