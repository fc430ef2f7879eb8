-- A run that is committed leaf by leaf.
use Rattle.std.proofs.Common.{◌≡◌, ◌≢◌, ℕ, ◌+◌, ◌-◌, ◌<◌, ◌≤◌, suc, List, [], ◌∷◌, ◌++◌, length, drop, get_or, Option, Some, None, Result, Ok, Err, inl, inr, refl, sym, ap, subst, ◌∙◌, drop-cons, add-one, append_assoc, ◌==◌, true, arith}
use Rattle.std.proofs.lemmas.Bool.Decides.{nat_tests}
use Rattle.hs_world.specs.declared.effect.Effect.{Effect}
use Rattle.hs_world.specs.declared.world.Limit.{Limit}
use Rattle.hs_world.specs.World.{WorldData, Applied}
use Rattle.hs_outside.specs.Causes.{Rose}
use Rattle.hs_view.specs.Seen.{spent_of}
use Rattle.hs_view.specs.Steps.{IsFront}
use Rattle.hs_view.specs.declared.halt.SpentKind.{SpentKind}
use Rattle.sh_syntax.specs.declared.tree.AndOr.{AndOr}
use Rattle.sh_syntax.specs.declared.tree.Script.{Script}
use Rattle.sh_leaf.specs.Cut.{fitting, misfit, cut_ending, Row, cut, Serial}
use Rattle.sh_leaf.specs.Run.{counted, run_leaf, run_items, run_list, list_at, Final, ended, status_of}
use Rattle.sh_leaf.specs.Run as run
use Rattle.sh_leaf.specs.State.{State, Got, Gave, Ends, Ran_out, onward, state_of, begin}
use Rattle.sh_leaf.specs.declared.outcome.Outcome.{Outcome}
use Rattle.sh_leaf.specs.declared.outcome.Outcome.TheVariants.{Status, Break, Continue, Return, Exit}
use Rattle.hs_drive.specs.declared.stop.Stop.{Stop}
use Rattle.hs_drive.specs.declared.stop.Stop.TheVariants as stop
use Rattle.hs_drive.specs.declared.ending.Ending.{Ending}
use Rattle.hs_drive.specs.declared.ending.Ending.TheVariants as ending
use Rattle.hs_drive.specs.declared.ending.Report.{Report}
use Rattle.hs_drive.specs.Commit.{Streams, IsCommitted, IsFault, IsWant, Commits}
use Rattle.hs_drive.specs.Direct.{Tells}
use Rattle.hs_drive.specs.Joined.{commits-nothing, commits-append}
use Rattle.hs_drive.specs.Ran.{Ran}
use Rattle.hs_drive.specs.declared.run.Run.{Run}
use Rattle.hs_drive.specs.Plain.{LeafRuns, Came, IsSpent, GotRuns, IsStopped, IsWhole, IsTold, Runs, IsComplete, ending_of, leaf_got}
use Rattle.hs_drive.proofs.Commits.{stops-append, stops-before}
use Rattle.sh_leaf.proofs.Cuts.{fitting-append, fitting-all}
use Rattle.hs_drive.proofs.Leaves.{joined, onto, leaf-on}

-- ---- a run only adds effects

-- the effects come first among those of the state
record Adds (before : List Effect) (got : Got Outcome) : Type 0 where
  more : List Effect
  effects : (state_of got).effects ≡ before ++ more

append-nil : (es : List Effect) → es ++ [] ≡ es
append-nil [] = refl
append-nil (e ∷ es) = ap (λ (xs : List Effect). e ∷ xs) (append-nil es)

-- a leaf, and then the further commands
abbrev then_items : Script → List AndOr → Got Outcome → Got Outcome
then_items script xs got = onward (onward got counted) (run_items script xs)

then-adds : (script : Script) (xs : List AndOr) (got : Got Outcome) (σ : State) → ((outcome : Outcome) (τ : State) → Adds τ.effects (run_items script xs outcome τ)) →
    Adds (σ.effects ++ (state_of got).effects) (then_items script xs (onto σ got))
then-adds script xs (Gave outcome s) σ f = f outcome (record (joined σ s) { leaves = suc σ.leaves })
then-adds script xs (Ends why s) σ f = record { more = []; effects = sym (append-nil (σ.effects ++ s.effects)) }

leaf-adds : (script : Script) (x : AndOr) (xs : List AndOr) (σ : State) → ((outcome : Outcome) (τ : State) → Adds τ.effects (run_items script xs outcome τ)) →
    Adds (σ.effects ++ (state_of (leaf_got script x.first σ.world σ.turns)).effects) (onward (run_leaf script x.first σ) (run_items script xs))
leaf-adds script x xs σ f =
    let got = leaf_got script x.first σ.world σ.turns in
    subst (λ (g : Got Outcome). Adds (σ.effects ++ (state_of got).effects) (then_items script xs g)) (sym (leaf-on script x.first σ σ.world σ.turns refl refl)) (then-adds script xs got σ f)

from-front : (a b : List Effect) (got : Got Outcome) → Adds (a ++ b) got → Adds a got
from-front a b got h = record { more = b ++ h.more; effects = h.effects ∙ append_assoc a b h.more }

stays : (got : Got Outcome) (σ : State) → (state_of got).effects ≡ σ.effects → Adds σ.effects got
stays got σ e = record { more = []; effects = e ∙ sym (append-nil σ.effects) }

items-add : (script : Script) (xs : List AndOr) (outcome : Outcome) (σ : State) → Adds σ.effects (run_items script xs outcome σ)
items-add script [] outcome σ = stays (Gave outcome σ) σ refl
items-add script (x ∷ xs) (Status s) σ = from-front σ.effects (state_of (leaf_got script x.first σ.world σ.turns)).effects _ (leaf-adds script x xs σ (items-add script xs))
items-add script (x ∷ xs) (Break n) σ = stays (Gave (Break n) σ) σ refl
items-add script (x ∷ xs) (Continue n) σ = stays (Gave (Continue n) σ) σ refl
items-add script (x ∷ xs) (Return s) σ = stays (Gave (Return s) σ) σ refl
items-add script (x ∷ xs) (Exit s) σ = stays (Gave (Exit s) σ) σ refl

-- ---- the commands so far

-- After i commands the run goes on from a state whose effects are all committed.
pub record Reached (script : Script) (items : List AndOr) (i : ℕ) (outcome : Outcome) (w₀ : WorldData) (turns₀ : ℕ) (w : WorldData) (left head : ℕ) (s₀ s : Streams) : Type 0 where
  pub state : State
  pub reached : run_items script items (Status 0) (begin w₀ turns₀ []) ≡ run_items script (drop i items) outcome state
  pub committed : IsCommitted state.effects w₀ w s₀ s
  pub world : state.world ≡ w
  pub turns : state.turns ≡ left
  pub leaves : state.leaves ≡ head

pub reached-start : (script : Script) (items : List AndOr) (w : WorldData) (turns head : ℕ) (s : Streams) → head ≡ 0 → Reached script items 0 (Status 0) w turns w turns head s s
reached-start script items w turns head s none = record { state = begin w turns []; reached = refl; committed = commits-nothing w s; world = refl; turns = refl; leaves = sym none }

dropped : (items : List AndOr) (i : ℕ) (d x : AndOr) → i < length items → x ≡ get_or items i d → drop i items ≡ x ∷ drop (i + 1) items
dropped items i d x h is = drop-cons items i d h ∙ ap (λ (y : AndOr). y ∷ drop (suc i) items) (sym is) ∙ ap (λ (n : ℕ). x ∷ drop n items) (sym (add-one i))

-- the leaf at hand, and then the further commands
one-more : (script : Script) (items : List AndOr) (i status : ℕ) (d x : AndOr) (got : Got Outcome) (σ : State) (w : WorldData) (turns : ℕ) → i < length items → x ≡ get_or items i d →
    σ.world ≡ w → σ.turns ≡ turns → got ≡ run_items script (drop i items) (Status status) σ → got ≡ then_items script (drop (i + 1) items) (onto σ (leaf_got script x.first w turns))
one-more script items i status d x got σ w turns h is e f r =
    r ∙ ap (λ (xs : List AndOr). run_items script xs (Status status) σ) (dropped items i d x h is)
    ∙ ap (λ (g : Got Outcome). then_items script (drop (i + 1) items) g) (leaf-on script x.first σ w turns e f)

pub reached-next : (out err : Type 0) (script : Script) (items : List AndOr) (i status : ℕ) (outcome last : Outcome) (e x : AndOr) (w₀ : WorldData) (turns₀ : ℕ) (w w' : WorldData) (turns turns' head head' : ℕ) (s₀ s t : Streams) →
    outcome ≡ Status status → i < length items → x ≡ get_or items i e → head' ≡ head → Reached script items i outcome w₀ turns₀ w turns head s₀ s →
    LeafRuns out err script x.first w w' turns turns' s t (Ok last) → Reached script items (i + 1) last w₀ turns₀ w' turns' (head' + 1) s₀ t
reached-next out err script items i status outcome last e x w₀ turns₀ w w' turns turns' head head' s₀ s t ok h is same-head r c =
    let σ = r.state in
    record {
      state = record (joined σ c.state) { leaves = suc σ.leaves };
      reached = one-more script items i status e x _ σ w turns h is r.world r.turns (r.reached ∙ ap (λ (o : Outcome). run_items script (drop i items) o σ) ok)
          ∙ ap (λ (g : Got Outcome). then_items script (drop (i + 1) items) (onto σ g)) c.gave;
      committed = commits-append σ.effects c.state.effects w₀ w w' s₀ s t r.committed c.committed;
      world = c.world;
      turns = sym c.turns;
      leaves = ap suc (r.leaves ∙ sym same-head) ∙ sym (add-one head');
    }

pub reached-stop : {out err out' err' : Type 0} (script : Script) (items : List AndOr) (i status : ℕ) (outcome : Outcome) (e x : AndOr) (w₀ : WorldData) (turns₀ : ℕ) (w w' : WorldData) (turns turns' turns'' head leaves : ℕ) (s₀ s t : Streams) (why : Stop) →
    (out → out') → (err → err') → outcome ≡ Status status → i < length items → x ≡ get_or items i e → Reached script items i outcome w₀ turns₀ w turns head s₀ s →
    LeafRuns out err script x.first w w' turns turns' s t (Err why) →
    GotRuns out' err' (run_items script items (Status 0) (begin w₀ turns₀ [])) w₀ w' turns'' leaves s₀ t (Err why)
reached-stop {out = out} {err = err} {out' = out'} {err' = err'} script items i status outcome e x w₀ turns₀ w w' turns turns' turns'' head leaves s₀ s t why f g ok h is r (inl stopped) =
    let σ = r.state in
    let got = leaf_got script x.first w turns in
    let first = then-adds script (drop (i + 1) items) got σ (items-add script (drop (i + 1) items)) in
    let all = ap (λ (y : Got Outcome). (state_of y).effects) (one-more script items i status e x _ σ w turns h is r.world r.turns (r.reached ∙ ap (λ (o : Outcome). run_items script (drop i items) o σ) ok)) ∙ first.effects in
    inl (subst (λ (es : List Effect). Commits out' err' es w₀ w' s₀ t (Err why)) (sym all)
    (stops-before out' err' (σ.effects ++ (state_of got).effects) first.more w₀ w' s₀ t why (stops-append σ.effects (state_of got).effects w₀ w w' s₀ s t why f g r.committed stopped)))
reached-stop script items i status outcome e x w₀ turns₀ w w' turns turns' turns'' head leaves s₀ s t why f g ok h is r (inr c) =
    let σ = r.state in
    let spent : IsSpent why (run_items script items (Status 0) (begin w₀ turns₀ [])) w₀ w' s₀ t = record {
      kind = c.kind;
      state = joined σ c.state;
      why = c.why;
      ends = one-more script items i status e x _ σ w turns h is r.world r.turns (r.reached ∙ ap (λ (o : Outcome). run_items script (drop i items) o σ) ok)
          ∙ ap (λ (y : Got Outcome). then_items script (drop (i + 1) items) (onto σ y)) c.ends;
      committed = commits-append σ.effects c.state.effects w₀ w w' s₀ s t r.committed c.committed;
    } in
    inr spent

pub next-by : (out err : Type 0) (script : Script) (items : List AndOr) (i status : ℕ) (outcome last : Outcome) (e x : AndOr) (w₀ : WorldData) (turns₀ : ℕ) (w w' : WorldData) (turns turns' head head' : ℕ) (s₀ s t : Streams) (result : Result Outcome Stop) →
    outcome ≡ Status status → i < length items → x ≡ get_or items i e → head' ≡ head → Reached script items i outcome w₀ turns₀ w turns head s₀ s →
    result ≡ Ok last → LeafRuns out err script x.first w w' turns turns' s t result → Reached script items (i + 1) last w₀ turns₀ w' turns' (head' + 1) s₀ t
next-by out err script items i status outcome last e x w₀ turns₀ w w' turns turns' head head' s₀ s t result ok h is same-head r came c =
    reached-next out err script items i status outcome last e x w₀ turns₀ w w' turns turns' head head' s₀ s t ok h is same-head r
    (subst (λ (y : Result Outcome Stop). LeafRuns out err script x.first w w' turns turns' s t y) came c)

pub stop-by : {out err out' err' : Type 0} (script : Script) (items : List AndOr) (i status : ℕ) (outcome : Outcome) (e x : AndOr) (w₀ : WorldData) (turns₀ : ℕ) (w w' : WorldData) (turns turns' turns'' head leaves : ℕ) (s₀ s t : Streams) (why : Stop) (result : Result Outcome Stop) →
    (out → out') → (err → err') → outcome ≡ Status status → i < length items → x ≡ get_or items i e → Reached script items i outcome w₀ turns₀ w turns head s₀ s →
    result ≡ Err why → LeafRuns out err script x.first w w' turns turns' s t result →
    GotRuns out' err' (run_items script items (Status 0) (begin w₀ turns₀ [])) w₀ w' turns'' leaves s₀ t (Err why)
stop-by {out = out} {err = err} script items i status outcome e x w₀ turns₀ w w' turns turns' turns'' head leaves s₀ s t why result f g ok h is r came c =
    reached-stop script items i status outcome e x w₀ turns₀ w w' turns turns' turns'' head leaves s₀ s t why f g ok h is r
    (subst (λ (y : Result Outcome Stop). LeafRuns out err script x.first w w' turns turns' s t y) came c)

came-at : (script : Script) (items : List AndOr) (i : ℕ) (outcome : Outcome) (w₀ : WorldData) (turns₀ : ℕ) (w : WorldData) (turns head : ℕ) (s₀ s : Streams) (r : Reached script items i outcome w₀ turns₀ w turns head s₀ s) →
    run_items script (drop i items) outcome r.state ≡ Gave outcome r.state → Came outcome (run_items script items (Status 0) (begin w₀ turns₀ [])) w₀ w turns head s₀ s
came-at script items i outcome w₀ turns₀ w turns head s₀ s r e = record {
  state = r.state;
  gave = r.reached ∙ e;
  committed = r.committed;
  world = r.world;
  turns = sym r.turns;
  leaves = sym r.leaves;
}

pub reached-end : (script : Script) (items : List AndOr) (i : ℕ) (outcome : Outcome) (w₀ : WorldData) (turns₀ : ℕ) (w : WorldData) (turns head : ℕ) (s₀ s : Streams) → drop i items ≡ [] →
    Reached script items i outcome w₀ turns₀ w turns head s₀ s → Came outcome (run_items script items (Status 0) (begin w₀ turns₀ [])) w₀ w turns head s₀ s
reached-end script items i outcome w₀ turns₀ w turns head s₀ s none r =
    came-at script items i outcome w₀ turns₀ w turns head s₀ s r (ap (λ (xs : List AndOr). run_items script xs outcome r.state) none)

-- what is no status leaves the rest out
left-out : (script : Script) (xs : List AndOr) (outcome : Outcome) (σ : State) → ((s : ℕ) → outcome ≡ Status s → ⊥) → run_items script xs outcome σ ≡ Gave outcome σ
left-out script [] outcome σ none = refl
left-out script (x ∷ xs) (Status s) σ none = absurd (none s refl)
left-out script (x ∷ xs) (Break n) σ none = refl
left-out script (x ∷ xs) (Continue n) σ none = refl
left-out script (x ∷ xs) (Return s) σ none = refl
left-out script (x ∷ xs) (Exit s) σ none = refl

pub reached-out : (script : Script) (items : List AndOr) (i : ℕ) (outcome : Outcome) (w₀ : WorldData) (turns₀ : ℕ) (w : WorldData) (turns head : ℕ) (s₀ s : Streams) → ((n : ℕ) → outcome ≡ Status n → ⊥) →
    Reached script items i outcome w₀ turns₀ w turns head s₀ s → Came outcome (run_items script items (Status 0) (begin w₀ turns₀ [])) w₀ w turns head s₀ s
reached-out script items i outcome w₀ turns₀ w turns head s₀ s none r = came-at script items i outcome w₀ turns₀ w turns head s₀ s r (left-out script (drop i items) outcome r.state none)

-- ---- the whole run, with its cut

ended-state : (got : Got Outcome) → (ended got).state ≡ state_of got
ended-state (Gave outcome σ) = refl
ended-state (Ends why σ) = refl

-- effects that all fit are first among those of the row
front-fits : (got : Got Outcome) (w : WorldData) (done : List Effect) → IsFront done (state_of got).effects → misfit done w ≡ None → IsFront done (cut w (ended got)).effects
front-fits got w done front fit = record {
  rest = fitting front.rest (Applied done w);
  is = ap (λ (σ : State). fitting σ.effects w) (ended-state got) ∙ ap (λ (es : List Effect). fitting es w) front.is ∙ fitting-append done front.rest w fit;
}

whole-row : (row : Row) (w w' : WorldData) (report : Report) (s t : Streams) (es : List Effect) → row.effects ≡ es → IsCommitted es w w' s t → report.count ≡ w'.count → IsWhole row w report s t
whole-row row w w' report s t es e c n =
    subst (λ (xs : List Effect). (report.count ≡ (Applied xs w).count) → IsCommitted xs w (Applied xs w) s t → IsWhole row w report s t) e
    (λ count committed. record { committed = committed; count = count })
    (n ∙ ap (λ (v : WorldData). v.count) c.world) (record { fit = c.fit; world = refl; streams = c.streams })

pub run-done : (got : Got Outcome) (w w' : WorldData) (turns turns' head status : ℕ) (outcome : Outcome) (s t : Streams) (report : Report) → Came outcome got w w' turns' head s t → status ≡ status_of outcome →
    report.count ≡ w'.count → report.head ≡ head → report.turns ≡ turns - turns' →
    (run.Done status ≡ (cut w (ended got)).ending) × IsWhole (cut w (ended got)) w report s t × IsTold (ended got) turns report
run-done got w w' turns turns' head status outcome s t report c st n h m =
    let is : ended got ≡ record { ending = run.Done status; state = c.state } = ap ended c.gave ∙ ap (λ (x : ℕ). (let f : Final = record { ending = run.Done x; state = c.state } in f)) (sym st) in (
      sym (ap (λ (f : Final). cut_ending (misfit f.state.effects w) f.ending) is ∙ ap (λ (l : Option Limit). cut_ending l (run.Done status)) c.committed.fit),
      whole-row _ w w' report s t c.state.effects (ap (λ (f : Final). fitting f.state.effects w) is ∙ fitting-all c.state.effects w c.committed.fit) c.committed n,
      (h ∙ c.leaves ∙ ap (λ (f : Final). f.state.leaves) (sym is), m ∙ ap (λ (k : ℕ). turns - k) c.turns ∙ ap (λ (f : Final). turns - f.state.turns) (sym is)),
    )

pub run-spent : (got : Got Outcome) (w w' : WorldData) (kind : SpentKind) (s t : Streams) (report : Report) → IsSpent (stop.Spent kind) got w w' s t → report.count ≡ w'.count →
    (run.Stopped (Ran_out kind) ≡ (cut w (ended got)).ending) × IsWhole (cut w (ended got)) w report s t
run-spent got w w' kind s t report c n =
    let same : kind ≡ c.kind = cc (c.why) in
    let is : ended got ≡ record { ending = run.Stopped (Ran_out c.kind); state = c.state } = ap ended c.ends in (
      ap (λ (k : SpentKind). run.Stopped (Ran_out k)) same
          ∙ sym (ap (λ (f : Final). cut_ending (misfit f.state.effects w) f.ending) is ∙ ap (λ (l : Option Limit). cut_ending l (run.Stopped (Ran_out c.kind))) c.committed.fit),
      whole-row _ w w' report s t c.state.effects (ap (λ (f : Final). fitting f.state.effects w) is ∙ fitting-all c.state.effects w c.committed.fit) c.committed n,
    )

pub run-full : (got : Got Outcome) (w w' : WorldData) (kind : SpentKind) (limit : Limit) (s t : Streams) (report : Report) → misfit (state_of got).effects w ≡ Some limit → kind ≡ spent_of limit →
    IsCommitted (fitting (state_of got).effects w) w w' s t → report.count ≡ w'.count →
    (run.Stopped (Ran_out kind) ≡ (cut w (ended got)).ending) × IsWhole (cut w (ended got)) w report s t
run-full got w w' kind limit s t report m k c n = (
  ap (λ (x : SpentKind). run.Stopped (Ran_out x)) k
      ∙ sym (ap (λ (σ : State). cut_ending (misfit σ.effects w) (ended got).ending) (ended-state got) ∙ ap (λ (l : Option Limit). cut_ending l (ended got).ending) m),
  whole-row _ w w' report s t (fitting (state_of got).effects w) (ap (λ (σ : State). fitting σ.effects w) (ended-state got)) c n,
)

stopped-by : (got : Got Outcome) (w w' : WorldData) (done : List Effect) (report : Report) (P : WorldData → Type 0) → IsFront done (state_of got).effects → misfit done w ≡ None →
    w' ≡ Applied done w → report.count ≡ w'.count → P w' → IsStopped done (cut w (ended got)) w report P
stopped-by got w w' done report P front fit is n p = record {
  front = front-fits got w done front fit;
  count = n ∙ ap (λ (v : WorldData). v.count) is;
  state = subst P is p;
}

pub run-fault : (out err : Type 0) (got : Got Outcome) (w w' : WorldData) (s t : Streams) (report : Report) (done : List Effect) → IsFront done (state_of got).effects →
    IsFault out err done w w' s t → report.count ≡ w'.count → IsStopped done (cut w (ended got)) w report (λ v. IsFault out err done w v s t)
run-fault out err got w w' s t report done front (inl (o, d)) n = stopped-by got w w' done report _ front d.fit d.world n (inl (o, d))
run-fault out err got w w' s t report done front (inr (e, d)) n = stopped-by got w w' done report _ front d.fit d.world n (inr (e, d))

pub run-want : (got : Got Outcome) (w w' : WorldData) (s t : Streams) (report : Report) (done : List Effect) → IsFront done (state_of got).effects →
    IsWant done w w' s t → report.count ≡ w'.count → IsStopped done (cut w (ended got)) w report (λ v. IsWant done w v s t)
run-want got w w' s t report done front (inl d) n = stopped-by got w w' done report _ front d.fit d.world n (inl d)
run-want got w w' s t report done front (inr (inl d)) n = stopped-by got w w' done report _ front d.fit d.world n (inr (inl d))
run-want got w w' s t report done front (inr (inr d)) n = stopped-by got w w' done report _ front d.fit d.world n (inr (inr d))

-- ---- a list

pub got-same : (out err : Type 0) (got got' : Got Outcome) (w w' : WorldData) (turns head : ℕ) (s t : Streams) (result : Result Outcome Stop) → got ≡ got' →
    GotRuns out err got w w' turns head s t result → GotRuns out err got' w w' turns head s t result
got-same out err got got' w w' turns head s t result e h = subst (λ (g : Got Outcome). GotRuns out err g w w' turns head s t result) e h

pub ran-same : {O E : Type 0} (out : Tells O) (err : Tells E) (got got' : Got Outcome) (a b : Run O E) (head : ℕ) (result : Result Outcome Stop) → got ≡ got' → Ran out err got a b head result → Ran out err got' a b head result
ran-same out err got got' a b head result e h = subst (λ (g : Got Outcome). Ran out err g a b head result) e h

-- the same between streams that were taken and put back
pub ran-between : {O E : Type 0} (out : Tells O) (err : Tells E) (got : Got Outcome) (a b : Run O E) (head : ℕ) (result : Result Outcome Stop) (o o' : O) (e e' : E) → a.base.out ≡ o → a.base.err ≡ e → o' ≡ b.base.out → e' ≡ b.base.err → Ran out err got a b head result
    → GotRuns (Rose (out.faults o) (out.faults o')) (Rose (err.faults e) (err.faults e')) got a.base.world b.base.world b.turns head (record { out = out.written o; err = err.written e }) (record { out = out.written o'; err = err.written e' }) result
ran-between {O} {E} out err got a b head result o o' e e' p q p' q' r =
    subst (λ (x : O). GotRuns (Rose (out.faults x) (out.faults o')) (Rose (err.faults e) (err.faults e')) got a.base.world b.base.world b.turns head (record { out = out.written x; err = err.written e }) (record { out = out.written o'; err = err.written e' }) result) p
    (subst (λ (x : E). GotRuns (Rose (out.faults a.base.out) (out.faults o')) (Rose (err.faults x) (err.faults e')) got a.base.world b.base.world b.turns head (record { out = out.written a.base.out; err = err.written x }) (record { out = out.written o'; err = err.written e' }) result) q
    (subst (λ (x : O). GotRuns (Rose (out.faults a.base.out) (out.faults x)) (Rose (err.faults a.base.err) (err.faults e')) got a.base.world b.base.world b.turns head (record { out = out.written a.base.out; err = err.written a.base.err }) (record { out = out.written x; err = err.written e' }) result) (sym p')
    (subst (λ (x : E). GotRuns (Rose (out.faults a.base.out) (out.faults b.base.out)) (Rose (err.faults a.base.err) (err.faults x)) got a.base.world b.base.world b.turns head (record { out = out.written a.base.out; err = err.written a.base.err }) (record { out = out.written b.base.out; err = err.written x }) result) (sym q')
    r.runs)))

pub later-between : {S : Type 0} (faults : S → ℕ) (a b o o' : S) → a ≡ o → o' ≡ b → faults a ≤ faults b → faults o ≤ faults o'
later-between {S} faults a b o o' p q h = subst (λ (x : S). faults x ≤ faults o') p (subst (λ (x : S). faults a ≤ faults x) (sym q) h)

not-zero : (n : ℕ) → true ≡ (suc n == 0) → ⊥
not-zero n e = grind (arith, nat_tests)

pub no-items : (items : List AndOr) → true ≡ (length items == 0) → items ≡ []
no-items [] e = refl
no-items (x ∷ xs) e = absurd (not-zero (length xs) e)

pub list-empty : (script : Script) (items : List AndOr) (b : State) → items ≡ [] → run_list script [] b ≡ run_list script items b
list-empty script items b e = ap (λ (xs : List AndOr). run_list script xs b) (sym e)

pub list-some : (script : Script) (items : List AndOr) (b : State) → items ≢ [] → run_items script items (Status 0) b ≡ run_list script items b
list-some script [] b h = absurd (h refl)
list-some script (x ∷ xs) b h = refl

-- ---- the answers of `plain`

pub plain-done : (out err : Type 0) (script : Script) (w w' : WorldData) (turns turns' head status : ℕ) (outcome : Outcome) (s t : Streams) (report : Report) (result : Result Outcome Stop) → result ≡ Ok outcome →
    GotRuns out err (run_list script (list_at script 0) (begin w turns [])) w w' turns' head s t result → status ≡ status_of outcome → report.count ≡ w'.count → report.head ≡ head → report.turns ≡ turns - turns' →
    Runs out err script w turns s t (ending.Done status) report
plain-done out err script w w' turns turns' head status outcome s t report result came c st n h m =
    run-done _ w w' turns turns' head status outcome s t report
    (subst (λ (y : Result Outcome Stop). GotRuns out err (run_list script (list_at script 0) (begin w turns [])) w w' turns' head s t y) came c) st n h m

plain-stops : (out err : Type 0) (script : Script) (w w' : WorldData) (turns turns' head : ℕ) (s t : Streams) (why : Stop) (report : Report) →
    GotRuns out err (run_list script (list_at script 0) (begin w turns [])) w w' turns' head s t (Err why) → report.count ≡ w'.count →
    Runs out err script w turns s t (ending_of why) report
plain-stops out err script w w' turns turns' head s t (stop.Spent kind) report (inl (limit, m, k, c)) n =
    run-full (run_list script (list_at script 0) (begin w turns [])) w w' kind limit s t report m k c n
plain-stops out err script w w' turns turns' head s t (stop.Spent kind) report (inr c) n = run-spent _ w w' kind s t report c n
plain-stops out err script w w' turns turns' head s t stop.OutFault report (inl (done, front, c)) n =
    (done, run-fault out err (run_list script (list_at script 0) (begin w turns [])) w w' s t report done front c n)
plain-stops out err script w w' turns turns' head s t stop.OutFault report (inr c) n = let bad = c.why in absurd cc
plain-stops out err script w w' turns turns' head s t stop.NoMemory report (inl (done, front, c)) n =
    (done, run-want (run_list script (list_at script 0) (begin w turns [])) w w' s t report done front c n)
plain-stops out err script w w' turns turns' head s t stop.NoMemory report (inr c) n = let bad = c.why in absurd cc

pub plain-stopped : (out err : Type 0) (script : Script) (w w' : WorldData) (turns turns' head : ℕ) (s t : Streams) (why : Stop) (ends : Ending) (report : Report) (result : Result Outcome Stop) → result ≡ Err why →
    GotRuns out err (run_list script (list_at script 0) (begin w turns [])) w w' turns' head s t result → ends ≡ ending_of why → report.count ≡ w'.count →
    Runs out err script w turns s t ends report
plain-stopped out err script w w' turns turns' head s t why ends report result came c is n =
    subst (λ (e : Ending). Runs out err script w turns s t e report) (sym is)
    (plain-stops out err script w w' turns turns' head s t why report (subst (λ (y : Result Outcome Stop). GotRuns out err (run_list script (list_at script 0) (begin w turns [])) w w' turns' head s t y) came c) n)

-- ---- completeness

pub plain-complete : (out err : Type 0) (script : Script) (w : WorldData) (turns : ℕ) (s t : Streams) (ends : Ending) (report : Report) →
    Runs out err script w turns s t ends report → IsComplete out err (Serial script w turns []) ends
plain-complete out err script w turns s t (ending.Done status) report r wanted e no-out no-err =
    let two : run.Done status ≡ run.Done wanted = r.0 ∙ e in let same : status ≡ wanted = cc in inl (ap ending.Done same)
plain-complete out err script w turns s t (ending.Syntax line fault) report r wanted e no-out no-err = absurd r
plain-complete out err script w turns s t ending.Unbuilt report r wanted e no-out no-err = absurd r
plain-complete out err script w turns s t (ending.Spent kind) report r wanted e no-out no-err =
    let two : run.Stopped (Ran_out kind) ≡ run.Done wanted = r.0 ∙ e in absurd cc
plain-complete out err script w turns s t ending.HostFault report r wanted e no-out no-err = absurd r
plain-complete out err script w turns s t ending.OutFault report (done, r) wanted e no-out no-err = absurd (faulted r.state)
  where
    faulted : IsFault out err done w (Applied done w) s t → ⊥
    faulted (inl (o, d)) = no-out o
    faulted (inr (o, d)) = no-err o
plain-complete out err script w turns s t ending.NoMemory report r wanted e no-out no-err = inr refl
