-- Effects that are committed in two parts.
use Rattle.std.proofs.Common.{◌≡◌, ℕ, ◌≤◌, List, [], ◌∷◌, ◌++◌, Option, Some, None, Err, ◌⊎◌, inl, inr, refl, sym, ap, subst, ◌∙◌, append_assoc, arith}
use Rattle.hs_world.specs.declared.effect.Effect.{Effect}
use Rattle.hs_world.specs.declared.effect.Fd.{Fd}
use Rattle.hs_world.specs.declared.effect.Fd.TheVariants.{One, Two}
use Rattle.hs_world.specs.declared.world.Limit.{Limit}
use Rattle.hs_world.specs.declared.effect.Effect.TheVariants.{Emit}
use Rattle.hs_world.specs.World.{WorldData, Apply, passed, sent, sent_by}
use Rattle.hs_outside.specs.Causes.{Rose}
use Rattle.hs_outside.specs.Streams.{appended}
use Rattle.hs_view.specs.Seen.{spent_of}
use Rattle.hs_view.specs.Steps.{IsFront}
use Rattle.hs_view.specs.declared.halt.SpentKind.{SpentKind}
use Rattle.sh_leaf.specs.Cut.{misfit, fitting}
use Rattle.sh_leaf.proofs.Cuts.{fitting-append, misfit-front, fitting-front}
use Rattle.hs_drive.specs.declared.stop.Stop.{Stop}
use Rattle.hs_drive.specs.declared.stop.Stop.TheVariants as stop
use Rattle.hs_drive.specs.Commit.{Streams, gained, IsCommitted, IsShort, IsCutOn, IsFault, IsWant, Commits}
use Rattle.hs_drive.specs.Joined.{streams, gained-nil, gained-on, fit-on, world-on, commits-nothing, commits-append}
use Rattle.hs_drive.specs.Through.{written_by, target_of, text_of, with_text}

append-nil : {A : Type 0} (xs : List A) → xs ++ [] ≡ xs
append-nil [] = refl
append-nil (x ∷ xs) = ap (λ ys. x ∷ ys) (append-nil xs)

-- ---- nothing, and one effect

gained-one : (e : Effect) (w : WorldData) (s : Streams) → written_by e w s ≡ gained (e ∷ []) w s
gained-one e w s =
    streams (ap (λ (bytes : List ℕ). appended s.out bytes) (sym (append-nil (sent One e w)))) (ap (λ (bytes : List ℕ). appended s.err bytes) (sym (append-nil (sent Two e w))))

abbrev pick : {A : Type 0} → Option Limit → A → (Limit → A) → A
pick o none some = elim o [ None ↦ none | Some limit ↦ some limit ]

pick-same : (o : Option Limit) → pick o None (λ limit. Some limit) ≡ o
pick-same None = refl
pick-same (Some limit) = refl

misfit-one : (e : Effect) (w : WorldData) (o : Option Limit) → passed e w ≡ o → misfit (e ∷ []) w ≡ o
misfit-one e w o h = ap (λ (x : Option Limit). pick x None (λ limit. Some limit)) h ∙ pick-same o

fitting-none : (e : Effect) (w : WorldData) (limit : Limit) → passed e w ≡ Some limit → fitting (e ∷ []) w ≡ []
fitting-none e w limit h = ap (λ (x : Option Limit). pick x (e ∷ []) (λ l. [])) h

sent-target : (fd : Fd) (e : Effect) (w : WorldData) → sent_by (target_of e w) fd (text_of e) ≡ sent fd e w
sent-target fd (Emit d text) w = refl
sent-target fd e w = refl

sent-as : (fd : Fd) (e : Effect) (w : WorldData) (to : Option Fd) (text : List ℕ) → to ≡ target_of e w → text ≡ text_of e → sent_by to fd text ≡ sent fd e w
sent-as fd e w to text f g = ap (λ (x : Option Fd). sent_by x fd text) f ∙ ap (λ (x : List ℕ). sent_by (target_of e w) fd x) g ∙ sent-target fd e w

with-sent : (e : Effect) (w : WorldData) (s : Streams) (to : Option Fd) (text : List ℕ) → to ≡ target_of e w → text ≡ text_of e → with_text to text s ≡ written_by e w s
with-sent e w s to text f g =
    streams (ap (λ (x : List ℕ). appended s.out x) (sent-as One e w to text f g)) (ap (λ (x : List ℕ). appended s.err x) (sent-as Two e w to text f g))

pub commits-one : (e : Effect) (w w' : WorldData) (s t : Streams) (to : Option Fd) (text : List ℕ) → passed e w ≡ None → w' ≡ Apply e w → to ≡ target_of e w → text ≡ text_of e →
    t ≡ with_text to text s → IsCommitted (e ∷ []) w w' s t
commits-one e w w' s t to text f a g k h = record { fit = misfit-one e w None f; world = a; streams = h ∙ with-sent e w s to text g k ∙ gained-one e w s }

-- ---- two parts

cut-on : (fd : Fd) (a b a' b' r : Streams) (piece piece' : List ℕ) → a ≡ a' → b ≡ b' → piece ≡ piece' → IsCutOn fd a b r piece → IsCutOn fd a' b' r piece'
cut-on fd a b a' b' r piece piece' e f g c =
    subst (λ (x : Streams). IsCutOn fd x b' r piece') e (subst (λ (x : Streams). IsCutOn fd a x r piece') f (subst (λ (x : List ℕ). IsCutOn fd a b r x) g c))

short-append : (fd : Fd) (es fs : List Effect) (w v u : WorldData) (s t r : Streams) → IsCommitted es w v s t → IsShort fd fs v u t r → IsShort fd (es ++ fs) w u s r
short-append fd es fs w v u s t r c d = record {
  front = es ++ d.front;
  last = d.last;
  whole = ap (λ (xs : List Effect). es ++ xs) d.whole ∙ sym (append_assoc es d.front (d.last ∷ []));
  fit = sym (fit-on es fs w v s t c) ∙ d.fit;
  world = d.world ∙ world-on es fs w v s t c;
  cut = cut-on fd _ _ _ _ r _ _ (gained-on es d.front w v s t c) (gained-on es fs w v s t c)
      (ap (λ (x : WorldData). sent fd d.last x) (world-on es d.front w v s t c)) d.cut;
}

front-append : (es fs done : List Effect) → IsFront done fs → IsFront (es ++ done) (es ++ fs)
front-append es fs done f = record { rest = f.rest; is = ap (λ (xs : List Effect). es ++ xs) f.is ∙ sym (append_assoc es done f.rest) }

fault-append : {out err out' err' : Type 0} (es fs : List Effect) (w v u : WorldData) (s t r : Streams) → (out → out') → (err → err') →
    IsCommitted es w v s t → IsFault out err fs v u t r → IsFault out' err' (es ++ fs) w u s r
fault-append es fs w v u s t r f g c (inl (o, d)) = inl (f o, short-append One es fs w v u s t r c d)
fault-append es fs w v u s t r f g c (inr (e, d)) = inr (g e, short-append Two es fs w v u s t r c d)

want-append : (es fs : List Effect) (w v u : WorldData) (s t r : Streams) → IsCommitted es w v s t → IsWant fs v u t r → IsWant (es ++ fs) w u s r
want-append es fs w v u s t r c (inl d) = inl (commits-append es fs w v u s t r c d)
want-append es fs w v u s t r c (inr (inl d)) = inr (inl (short-append One es fs w v u s t r c d))
want-append es fs w v u s t r c (inr (inr d)) = inr (inr (short-append Two es fs w v u s t r c d))

-- the first part was committed, and the second stopped
pub stops-append : {out err out' err' : Type 0} (es fs : List Effect) (w v u : WorldData) (s t r : Streams) (why : Stop) → (out → out') → (err → err') →
    IsCommitted es w v s t → Commits out err fs v u t r (Err why) → Commits out' err' (es ++ fs) w u s r (Err why)
stops-append es fs w v u s t r (stop.Spent kind) f g c (limit, m, k, d) = (
  limit,
  sym (fit-on es fs w v s t c) ∙ m,
  k,
  subst (λ (xs : List Effect). IsCommitted xs w u s r)
      (ap (λ (x : WorldData). es ++ fitting fs x) c.world ∙ sym (fitting-append es fs w c.fit)) (commits-append es (fitting fs v) w v u s t r c d),
)
stops-append es fs w v u s t r stop.OutFault f g c (done, front, d) = (es ++ done, front-append es fs done front, fault-append es done w v u s t r f g c d)
stops-append es fs w v u s t r stop.NoMemory f g c (done, front, d) = (es ++ done, front-append es fs done front, want-append es done w v u s t r c d)

-- what stopped in some effects stopped in more of them
pub stops-before : (out err : Type 0) (es fs : List Effect) (w u : WorldData) (s r : Streams) (why : Stop) →
    Commits out err es w u s r (Err why) → Commits out err (es ++ fs) w u s r (Err why)
stops-before out err es fs w u s r (stop.Spent kind) (limit, m, k, d) = (
  limit,
  misfit-front es fs w limit m,
  k,
  subst (λ (xs : List Effect). IsCommitted xs w u s r) (sym (fitting-front es fs w limit m)) d,
)
stops-before out err es fs w u s r stop.OutFault (done, front, d) =
    (done, record { rest = front.rest ++ fs; is = ap (λ (xs : List Effect). xs ++ fs) front.is ∙ append_assoc done front.rest fs }, d)
stops-before out err es fs w u s r stop.NoMemory (done, front, d) =
    (done, record { rest = front.rest ++ fs; is = ap (λ (xs : List Effect). xs ++ fs) front.is ∙ append_assoc done front.rest fs }, d)

-- ---- one effect that stops

pub one-spent : (out err : Type 0) (e : Effect) (w w' : WorldData) (s : Streams) (limit same-limit : Limit) (kind : SpentKind) → passed e w ≡ Some limit → same-limit ≡ limit → kind ≡ spent_of same-limit → w' ≡ w →
    Commits out err (e ∷ []) w w' s s (Err (stop.Spent kind))
one-spent out err e w w' s limit same-limit kind p l k same = (
  limit,
  misfit-one e w (Some limit) p,
  k ∙ ap (λ (x : Limit). spent_of x) l,
  subst (λ (xs : List Effect). IsCommitted xs w w' s s) (sym (fitting-none e w limit p)) (subst (λ (x : WorldData). IsCommitted [] w x s s) (sym same) (commits-nothing w s)),
)

one-short : (fd : Fd) (e : Effect) (w w' : WorldData) (s t : Streams) (to : Option Fd) (text : List ℕ) → passed e w ≡ None → w' ≡ Apply e w → to ≡ target_of e w → text ≡ text_of e →
    IsCutOn fd s (with_text to text s) t (sent_by to fd text) → IsShort fd (e ∷ []) w w' s t
one-short fd e w w' s t to text p a g k c = record {
  front = [];
  last = e;
  whole = refl;
  fit = misfit-one e w None p;
  world = a;
  cut = cut-on fd _ _ _ _ t _ _ (sym (gained-nil w s)) (with-sent e w s to text g k ∙ gained-one e w s) (sent-as fd e w to text g k) c;
}

-- of what the effect writes a front went out
pub short-faults : (out err : Type 0) (e : Effect) (w w' : WorldData) (s t : Streams) (to : Option Fd) (text : List ℕ) → passed e w ≡ None → w' ≡ Apply e w → to ≡ target_of e w → text ≡ text_of e →
    (out × IsCutOn One s (with_text to text s) t (sent_by to One text)) ⊎ (err × IsCutOn Two s (with_text to text s) t (sent_by to Two text)) → IsFault out err (e ∷ []) w w' s t
short-faults out err e w w' s t to text p a g k (inl (o, c)) = inl (o, one-short One e w w' s t to text p a g k c)
short-faults out err e w w' s t to text p a g k (inr (o, c)) = inr (o, one-short Two e w w' s t to text p a g k c)

pub short-wants : (e : Effect) (w w' : WorldData) (s t : Streams) (to : Option Fd) (text : List ℕ) → passed e w ≡ None → w' ≡ Apply e w → to ≡ target_of e w → text ≡ text_of e →
    IsCutOn One s (with_text to text s) t (sent_by to One text) ⊎ IsCutOn Two s (with_text to text s) t (sent_by to Two text) → IsShort One (e ∷ []) w w' s t ⊎ IsShort Two (e ∷ []) w w' s t
short-wants e w w' s t to text p a g k (inl c) = inl (one-short One e w w' s t to text p a g k c)
short-wants e w w' s t to text p a g k (inr c) = inr (one-short Two e w w' s t to text p a g k c)

pub rose-later : (a b c : ℕ) → a ≤ b → Rose b c → Rose a c
rose-later a b c h r = omega arith

pub rose-on : (a b c : ℕ) → b ≤ c → Rose a b → Rose a c
rose-on a b c h r = omega arith
