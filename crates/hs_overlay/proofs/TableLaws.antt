-- Tables of routes above one another: where texts go, and what is seen.
use Rattle.std.proofs.Common.{◌≡◌, ℕ, ◌+◌, ◌<◌, ◌≤◌, zero, suc, T, List, [], ◌∷◌, ◌++◌, Bool, true, false, not, ◌&&◌, refl, sym, ap, ◌∙◌, subst, append-nil, get_or, length, arith}
use Rattle.std.specs.Prelude.{None, Some, Option, is_some, ◌||◌, nat_eq}
use Rattle.std.proofs.lemmas.Bool.{leb-true}
use Rattle.hs_world.specs.Tables.{route_at, end_in, seen_in, shown_end, ends_from, ends_of, captured_in, emitted_in, emitted_below, take_up, taken_up, is_descriptor, is_route, are_routes, is_same, has_same, may_stand, may_all_stand}
use Rattle.hs_world.specs.World.{file_in}
use Rattle.hs_world.specs.declared.route.Route.{Route}
use Rattle.hs_world.specs.declared.route.Route.TheVariants.{Stream, Same, File, Null, Closed, Capture}
use Rattle.hs_world.specs.declared.route.RouteTable.{RouteTable}
use Rattle.hs_overlay.specs.Routing.{lead, end_beside, hide, captured_over, caught, routes_of, captures_of, are_all_routes}

-- ---- tests

pub both_left : (a b : Bool) → (a && b) ≡ true → a ≡ true
both_left true b h = refl
both_left false b h = h

pub both_right : (a b : Bool) → (a && b) ≡ true → b ≡ true
both_right true b h = h
both_right false b h = absurd (subst T (sym h) tt)

pub both_true : (a b : Bool) → a ≡ true → b ≡ true → (a && b) ≡ true
both_true true b h k = k
both_true false b h k = h

or_false : (h : Bool) → (h || false) ≡ h
or_false true = refl
or_false false = refl

pub no_some : {A : Type 0} (x : A) → Some x ≡ None → ⊥
no_some x h = subst T (ap is_some h) tt

-- ---- where a text goes

-- a base's tables after a text went there by a descriptor
abbrev pub passed_to : Option ℕ → List ℕ → List RouteTable → List RouteTable
passed_to None text base = base
passed_to (Some n) text base = emitted_in n text base

-- A text goes to one of the upper tables, or by them to one of those below.
pub emitted-append : (n : ℕ) (text : List ℕ) (own base : List RouteTable) → emitted_in n text (own ++ base) ≡ emitted_in n text own ++ passed_to (lead n own) text base
emitted-append n text [] base = refl
emitted-append n text (t ∷ ts) base =
    elim (route_at n t.routes) as (λ r. (elim r [ Same m ↦ t ∷ emitted_in m text (ts ++ base) | Capture ↦ take_up Capture text t ∷ (ts ++ base) | Stream fd ↦ t ∷ (ts ++ base) | File p ↦ t ∷ (ts ++ base) | Null ↦ t ∷ (ts ++ base) | Closed ↦ t ∷ (ts ++ base) ])
    ≡ (elim r [ Same m ↦ t ∷ emitted_in m text ts | Capture ↦ take_up Capture text t ∷ ts | Stream fd ↦ t ∷ ts | File p ↦ t ∷ ts | Null ↦ t ∷ ts | Closed ↦ t ∷ ts ])
    ++ passed_to (elim r [ Same m ↦ lead m ts | Stream fd ↦ None | File p ↦ None | Null ↦ None | Closed ↦ None | Capture ↦ None ]) text base) [
      | Same m ↦ ap (λ l. t ∷ l) (emitted-append m text ts base)
      | Capture ↦ refl
      | Stream fd ↦ refl
      | File p ↦ refl
      | Null ↦ refl
      | Closed ↦ refl
    ]

-- the innermost table and those below it, together
pub emitted-all : (n : ℕ) (text : List ℕ) (t : RouteTable) (ts : List RouteTable) → take_up (route_at n t.routes) text t ∷ emitted_below (route_at n t.routes) text ts ≡ emitted_in n text (t ∷ ts)
emitted-all n text t ts =
    elim (route_at n t.routes) as (λ r. take_up r text t ∷ emitted_below r text ts ≡ (elim r [ Same m ↦ t ∷ emitted_in m text ts | Capture ↦ take_up Capture text t ∷ ts | Stream fd ↦ t ∷ ts | File p ↦ t ∷ ts | Null ↦ t ∷ ts | Closed ↦ t ∷ ts ])) [
      | Same m ↦ refl
      | Capture ↦ refl
      | Stream fd ↦ refl
      | File p ↦ refl
      | Null ↦ refl
      | Closed ↦ refl
    ]

pub routes-emitted : (n : ℕ) (text : List ℕ) (ts : List RouteTable) → routes_of (emitted_in n text ts) ≡ routes_of ts
routes-emitted n text [] = refl
routes-emitted n text (t ∷ ts) =
    elim (route_at n t.routes) as (λ r. routes_of (elim r [ Same m ↦ t ∷ emitted_in m text ts | Capture ↦ take_up Capture text t ∷ ts | Stream fd ↦ t ∷ ts | File p ↦ t ∷ ts | Null ↦ t ∷ ts | Closed ↦ t ∷ ts ]) ≡ routes_of (t ∷ ts)) [
      | Same m ↦ ap (λ l. t.routes ∷ l) (routes-emitted m text ts)
      | Capture ↦ refl
      | Stream fd ↦ refl
      | File p ↦ refl
      | Null ↦ refl
      | Closed ↦ refl
    ]

taken_is : (c : Option (List ℕ)) (text : List ℕ) → is_some (taken_up c text) ≡ is_some c
taken_is None text = refl
taken_is (Some old) text = refl

pub captures-emitted : (n : ℕ) (text : List ℕ) (ts : List RouteTable) → captures_of (emitted_in n text ts) ≡ captures_of ts
captures-emitted n text [] = refl
captures-emitted n text (t ∷ ts) =
    elim (route_at n t.routes) as (λ r. captures_of (elim r [ Same m ↦ t ∷ emitted_in m text ts | Capture ↦ take_up Capture text t ∷ ts | Stream fd ↦ t ∷ ts | File p ↦ t ∷ ts | Null ↦ t ∷ ts | Closed ↦ t ∷ ts ]) ≡ captures_of (t ∷ ts)) [
      | Same m ↦ ap (λ l. is_some t.capture ∷ l) (captures-emitted m text ts)
      | Capture ↦ ap (λ c. c ∷ captures_of ts) (taken_is t.capture text)
      | Stream fd ↦ refl
      | File p ↦ refl
      | Null ↦ refl
      | Closed ↦ refl
    ]

pub fit-emitted : (n : ℕ) (text : List ℕ) (ts : List RouteTable) → are_all_routes (emitted_in n text ts) ≡ are_all_routes ts
fit-emitted n text [] = refl
fit-emitted n text (t ∷ ts) =
    elim (route_at n t.routes) as (λ r. are_all_routes (elim r [ Same m ↦ t ∷ emitted_in m text ts | Capture ↦ take_up Capture text t ∷ ts | Stream fd ↦ t ∷ ts | File p ↦ t ∷ ts | Null ↦ t ∷ ts | Closed ↦ t ∷ ts ]) ≡ are_all_routes (t ∷ ts)) [
      | Same m ↦ ap (λ b. are_routes t.routes && b) (fit-emitted m text ts)
      | Capture ↦ refl
      | Stream fd ↦ refl
      | File p ↦ refl
      | Null ↦ refl
      | Closed ↦ refl
    ]

-- ---- what is seen

hide_shown : (h k c : Bool) → shown_end (not (h || k) && c) ≡ hide h (shown_end (not k && c))
hide_shown true true c = refl
hide_shown true false true = refl
hide_shown true false false = refl
hide_shown false k c = refl

-- What is hidden is seen as nowhere.
pub seen-hidden : (h k : Bool) (n : ℕ) (ts : List RouteTable) → seen_in (h || k) n ts ≡ hide h (seen_in k n ts)
seen-hidden true k n [] = refl
seen-hidden false k n ts = refl
seen-hidden true k n (t ∷ ts) =
    elim (route_at n t.routes) as (λ r. (elim r [ Same m ↦ seen_in (true || is_some t.capture) m ts | Stream fd ↦ Stream fd | File p ↦ File p | Null ↦ Null | Closed ↦ Closed | Capture ↦ shown_end (not true && is_some t.capture) ])
    ≡ hide true (elim r [ Same m ↦ seen_in (k || is_some t.capture) m ts | Stream fd ↦ Stream fd | File p ↦ File p | Null ↦ Null | Closed ↦ Closed | Capture ↦ shown_end (not k && is_some t.capture) ])) [
      | Same m ↦ seen-hidden true (k || is_some t.capture) m ts
      | Stream fd ↦ refl
      | File p ↦ refl
      | Null ↦ refl
      | Closed ↦ refl
      | Capture ↦ hide_shown true k (is_some t.capture)
    ]

pub seen-alone : (h : Bool) (n : ℕ) (ts : List RouteTable) → seen_in h n ts ≡ hide h (seen_in false n ts)
seen-alone h n ts = ap (λ x. seen_in x n ts) (sym (or_false h)) ∙ seen-hidden h false n ts

-- the ends of the descriptors 1 to 9
pub end_at : (n : ℕ) (ts : List RouteTable) → is_descriptor n ≡ true → route_at n (ends_of ts) ≡ seen_in false n ts
end_at zero ts h = absurd (subst T (sym h) tt)
end_at (suc zero) ts h = refl
end_at (suc (suc zero)) ts h = refl
end_at (suc (suc (suc zero))) ts h = refl
end_at (suc (suc (suc (suc zero)))) ts h = refl
end_at (suc (suc (suc (suc (suc zero))))) ts h = refl
end_at (suc (suc (suc (suc (suc (suc zero)))))) ts h = refl
end_at (suc (suc (suc (suc (suc (suc (suc zero))))))) ts h = refl
end_at (suc (suc (suc (suc (suc (suc (suc (suc zero)))))))) ts h = refl
end_at (suc (suc (suc (suc (suc (suc (suc (suc (suc zero))))))))) ts h = refl
end_at (suc (suc (suc (suc (suc (suc (suc (suc (suc (suc n)))))))))) ts h = absurd (omega (arith, leb-true (suc (suc (suc (suc (suc (suc (suc (suc (suc (suc n)))))))))) 9 (both_right _ _ h)))

-- a route of a table whose `Same` name descriptors
route_fits : (k : ℕ) (rs : List Route) → are_routes rs ≡ true → is_route (get_or rs k Closed) ≡ true
route_fits k [] h = refl
route_fits zero (r ∷ rs) h = both_left (is_route r) _ h
route_fits (suc k) (r ∷ rs) h = route_fits k rs (both_right (is_route r) _ h)

pub at_fits : (n : ℕ) (rs : List Route) → are_routes rs ≡ true → is_route (route_at n rs) ≡ true
at_fits zero rs h = refl
at_fits (suc k) rs h = route_fits k rs h

pub lead_fits : (n m : ℕ) (ts : List RouteTable) → is_descriptor n ≡ true → are_all_routes ts ≡ true → lead n ts ≡ Some m → is_descriptor m ≡ true
lead_fits n m [] d f h = let e : n ≡ m = cc in subst (λ k. is_descriptor k ≡ true) e d
lead_fits n m (t ∷ ts) d f h =
    elim (route_at n t.routes) as (λ r. is_route r ≡ true → (elim r [ Same k ↦ lead k ts | Stream fd ↦ None | File p ↦ None | Null ↦ None | Closed ↦ None | Capture ↦ None ]) ≡ Some m → is_descriptor m ≡ true) [
      | Same k ↦ λ e g. lead_fits k m ts e (both_right (are_routes t.routes) _ f) g
      | Stream fd ↦ λ e g. absurd (no_some m (sym g))
      | File p ↦ λ e g. absurd (no_some m (sym g))
      | Null ↦ λ e g. absurd (no_some m (sym g))
      | Closed ↦ λ e g. absurd (no_some m (sym g))
      | Capture ↦ λ e g. absurd (no_some m (sym g))
    ] (at_fits n t.routes (both_left (are_routes t.routes) _ f)) h

-- Tables with the same routes and the same captures open look alike.
pub seen-alike : (h : Bool) (n : ℕ) (us vs : List RouteTable) → routes_of us ≡ routes_of vs → captures_of us ≡ captures_of vs → seen_in h n us ≡ seen_in h n vs
seen-alike h n [] [] e f = refl
seen-alike h n [] (v ∷ vs) e f = cc
seen-alike h n (u ∷ us) [] e f = cc
seen-alike h n (u ∷ us) (v ∷ vs) e f =
    let r : u.routes ≡ v.routes = cc in
    let rs : routes_of us ≡ routes_of vs = cc in
    let c : is_some u.capture ≡ is_some v.capture = cc in
    let cs : captures_of us ≡ captures_of vs = cc in
    elim (route_at n u.routes) as (λ x. ◌≡◌ {A = Route} (elim x [ Same m ↦ seen_in (h || is_some u.capture) m us | Stream fd ↦ Stream fd | File p ↦ File p | Null ↦ Null | Closed ↦ Closed | Capture ↦ shown_end (not h && is_some u.capture) ])
    (elim x [ Same m ↦ seen_in (h || is_some u.capture) m vs | Stream fd ↦ Stream fd | File p ↦ File p | Null ↦ Null | Closed ↦ Closed | Capture ↦ shown_end (not h && is_some u.capture) ])) [
      | Same m ↦ seen-alike (h || is_some u.capture) m us vs rs cs
      | Stream fd ↦ refl
      | File p ↦ refl
      | Null ↦ refl
      | Closed ↦ refl
      | Capture ↦ refl
    ]
    ∙ (λ i. elim (route_at n (r i)) [ Same m ↦ seen_in (h || c i) m vs | Stream fd ↦ Stream fd | File p ↦ File p | Null ↦ Null | Closed ↦ Closed | Capture ↦ shown_end (not h && c i) ])

-- ---- files

file_shown : (c : Bool) → file_in (shown_end c) ≡ None
file_shown true = refl
file_shown false = refl

-- A file is seen where a descriptor leads to one.
pub file-seen : (h : Bool) (n : ℕ) (ts : List RouteTable) → file_in (end_in n ts) ≡ file_in (seen_in h n ts)
file-seen h n [] = refl
file-seen h n (t ∷ ts) =
    elim (route_at n t.routes) as (λ r. file_in (elim r [ Same m ↦ end_in m ts | Stream fd ↦ Stream fd | File p ↦ File p | Null ↦ Null | Closed ↦ Closed | Capture ↦ Capture ])
    ≡ file_in (elim r [ Same m ↦ seen_in (h || is_some t.capture) m ts | Stream fd ↦ Stream fd | File p ↦ File p | Null ↦ Null | Closed ↦ Closed | Capture ↦ shown_end (not h && is_some t.capture) ])) [
      | Same m ↦ file-seen (h || is_some t.capture) m ts
      | Stream fd ↦ refl
      | File p ↦ refl
      | Null ↦ refl
      | Closed ↦ refl
      | Capture ↦ sym (file_shown (not h && is_some t.capture))
    ]

-- where one leads by the upper tables, or by those below
pub end-own : (n : ℕ) (own base : List RouteTable) → lead n own ≡ None → end_in n (own ++ base) ≡ end_in n own
end-own n [] base h = absurd (no_some n h)
end-own n (t ∷ ts) base h =
    elim (route_at n t.routes) as (λ r. ◌≡◌ {A = Option ℕ} (elim r [ Same k ↦ lead k ts | Stream fd ↦ None | File p ↦ None | Null ↦ None | Closed ↦ None | Capture ↦ None ]) None
    → ◌≡◌ {A = Route} (elim r [ Same m ↦ end_in m (ts ++ base) | Stream fd ↦ Stream fd | File p ↦ File p | Null ↦ Null | Closed ↦ Closed | Capture ↦ Capture ]) (elim r [ Same m ↦ end_in m ts | Stream fd ↦ Stream fd | File p ↦ File p | Null ↦ Null | Closed ↦ Closed | Capture ↦ Capture ])) [
      | Same m ↦ λ g. end-own m ts base g
      | Stream fd ↦ λ g. refl
      | File p ↦ λ g. refl
      | Null ↦ λ g. refl
      | Closed ↦ λ g. refl
      | Capture ↦ λ g. refl
    ] h

pub end-below : (n m : ℕ) (own base : List RouteTable) → lead n own ≡ Some m → (end_in n (own ++ base) ≡ end_in m base) × (end_in n own ≡ Closed)
end-below n m [] base h = let e : n ≡ m = cc in (ap (λ k. end_in k base) e, refl)
end-below n m (t ∷ ts) base h =
    elim (route_at n t.routes) as (λ r. (elim r [ Same k ↦ lead k ts | Stream fd ↦ None | File p ↦ None | Null ↦ None | Closed ↦ None | Capture ↦ None ]) ≡ Some m
    → ((elim r [ Same k ↦ end_in k (ts ++ base) | Stream fd ↦ Stream fd | File p ↦ File p | Null ↦ Null | Closed ↦ Closed | Capture ↦ Capture ]) ≡ end_in m base)
    × ((elim r [ Same k ↦ end_in k ts | Stream fd ↦ Stream fd | File p ↦ File p | Null ↦ Null | Closed ↦ Closed | Capture ↦ Capture ]) ≡ Closed)) [
      | Same k ↦ λ g. end-below k m ts base g
      | Stream fd ↦ λ g. absurd (no_some m (sym g))
      | File p ↦ λ g. absurd (no_some m (sym g))
      | Null ↦ λ g. absurd (no_some m (sym g))
      | Closed ↦ λ g. absurd (no_some m (sym g))
      | Capture ↦ λ g. absurd (no_some m (sym g))
    ] h

-- ---- captures

-- what is captured by the upper tables, or else by those below
pub captured-own : (own base : List RouteTable) (text : List ℕ) → captured_over own ≡ Some text → captured_in (own ++ base) ≡ text
captured-own [] base text h = absurd (no_some text (sym h))
captured-own (t ∷ ts) base text h =
    elim t.capture as (λ c. (elim c [ Some x ↦ Some x | None ↦ captured_over ts ]) ≡ Some text → (elim c [ Some x ↦ x | None ↦ captured_in (ts ++ base) ]) ≡ text) [
      | Some x ↦ λ g. let e : x ≡ text = cc in e
      | None ↦ λ g. captured-own ts base text g
    ] h

pub captured-below : (own base : List RouteTable) → captured_over own ≡ None → captured_in (own ++ base) ≡ captured_in base
captured-below [] base h = refl
captured-below (t ∷ ts) base h =
    elim t.capture as (λ c. ◌≡◌ {A = Option (List ℕ)} (elim c [ Some x ↦ Some x | None ↦ captured_over ts ]) None → (elim c [ Some x ↦ x | None ↦ captured_in (ts ++ base) ]) ≡ captured_in base) [
      | Some x ↦ λ g. absurd (no_some x g)
      | None ↦ λ g. captured-below ts base g
    ] h

caught_hidden : (r : Route) (text : List ℕ) → caught (hide true r) text ≡ []
caught_hidden (Stream fd) text = refl
caught_hidden (Same m) text = refl
caught_hidden (File p) text = refl
caught_hidden Null text = refl
caught_hidden Closed text = refl
caught_hidden Capture text = refl

plain_emit : (c : Option (List ℕ)) (ts : List RouteTable) → ◌≡◌ {A = List ℕ} (elim c [ Some old ↦ old | None ↦ captured_in ts ]) (◌++◌ {A = ℕ} (elim c [ Some old ↦ old | None ↦ captured_in ts ]) [])
plain_emit c ts = sym (append-nil _)

captured_take : (c : Option (List ℕ)) (text : List ℕ) (ts : List RouteTable) → (elim (taken_up c text) [ Some old ↦ old | None ↦ captured_in ts ]) ≡ (elim c [ Some old ↦ old | None ↦ captured_in ts ]) ++ caught (shown_end (not false && is_some c)) text
captured_take None text ts = sym (append-nil (captured_in ts))
captured_take (Some old) text ts = refl

captured_under : (c : Option (List ℕ)) (m : ℕ) (text : List ℕ) (ts : List RouteTable) → captured_in (emitted_in m text ts) ≡ captured_in ts ++ caught (seen_in false m ts) text
    → (elim c [ Some old ↦ old | None ↦ captured_in (emitted_in m text ts) ]) ≡ (elim c [ Some old ↦ old | None ↦ captured_in ts ]) ++ caught (seen_in (false || is_some c) m ts) text
captured_under None m text ts h = h
captured_under (Some old) m text ts h = sym (append-nil old) ∙ ap (λ l. old ++ l) (sym (caught_hidden (seen_in false m ts) text) ∙ ap (λ r. caught r text) (sym (seen-hidden true false m ts)))

-- The innermost capture takes a text up where it is the end that is seen.
pub captured-emitted : (n : ℕ) (text : List ℕ) (ts : List RouteTable) → captured_in (emitted_in n text ts) ≡ captured_in ts ++ caught (seen_in false n ts) text
captured-emitted n text [] = refl
captured-emitted n text (t ∷ ts) =
    elim (route_at n t.routes) as (λ r. captured_in (elim r [ Same m ↦ t ∷ emitted_in m text ts | Capture ↦ take_up Capture text t ∷ ts | Stream fd ↦ t ∷ ts | File p ↦ t ∷ ts | Null ↦ t ∷ ts | Closed ↦ t ∷ ts ])
    ≡ captured_in (t ∷ ts) ++ caught (elim r [ Same m ↦ seen_in (false || is_some t.capture) m ts | Stream fd ↦ Stream fd | File p ↦ File p | Null ↦ Null | Closed ↦ Closed | Capture ↦ shown_end (not false && is_some t.capture) ]) text) [
      | Same m ↦ captured_under t.capture m text ts (captured-emitted m text ts)
      | Capture ↦ captured_take t.capture text ts
      | Stream fd ↦ plain_emit t.capture ts
      | File p ↦ plain_emit t.capture ts
      | Null ↦ plain_emit t.capture ts
      | Closed ↦ plain_emit t.capture ts
    ]

-- ---- routes that stand in place of others

stand_in : (t : RouteTable) (k : ℕ) (rs : List Route) → may_all_stand t rs ≡ true → may_stand t (get_or rs k Closed) ≡ true
stand_in t k [] h = refl
stand_in t zero (r ∷ rs) h = both_left (may_stand t r) _ h
stand_in t (suc k) (r ∷ rs) h = stand_in t k rs (both_right (may_stand t r) _ h)

pub stand_at : (t : RouteTable) (n : ℕ) (rs : List Route) → may_all_stand t rs ≡ true → may_stand t (route_at n rs) ≡ true
stand_at t zero rs h = refl
stand_at t (suc k) rs h = stand_in t k rs h

same_number : (n m : ℕ) → nat_eq n m ≡ true → m ≡ n
same_number n m h = grind arith

pub same_route : (n : ℕ) (r : Route) → is_same n r ≡ true → r ≡ Same n
same_route n (Same m) h = ap Same (same_number n m h)
same_route n (Stream fd) h = absurd (subst T (sym h) tt)
same_route n (File p) h = absurd (subst T (sym h) tt)
same_route n Null h = absurd (subst T (sym h) tt)
same_route n Closed h = absurd (subst T (sym h) tt)
same_route n Capture h = absurd (subst T (sym h) tt)

-- a `Same` of routes that may stand in place of a table's stands there too
pub same_down : (t : RouteTable) (n : ℕ) (rs : List Route) → may_all_stand t rs ≡ true → has_same n rs ≡ true → has_same n t.routes ≡ true
same_down t n [] h g = absurd (subst T (sym g) tt)
same_down t n (r ∷ rs) h g =
    elim (is_same n r) as (λ b. is_same n r ≡ b → (b || has_same n rs) ≡ true → has_same n t.routes ≡ true) [
      | true ↦ λ s _. subst (λ x. may_stand t x ≡ true) (same_route n r s) (both_left (may_stand t r) _ h)
      | false ↦ λ _ k. same_down t n rs (both_right (may_stand t r) _ h) k
    ] refl g

one_down : (t u : RouteTable) (r : Route) → is_some t.capture ≡ is_some u.capture → ((n : ℕ) → has_same n t.routes ≡ true → has_same n u.routes ≡ true) → may_stand t r ≡ true → may_stand u r ≡ true
one_down t u Capture c f h = sym c ∙ h
one_down t u (Same n) c f h = f n h
one_down t u (Stream fd) c f h = refl
one_down t u (File p) c f h = refl
one_down t u Null c f h = refl
one_down t u Closed c f h = refl

pub stand_down : (t u : RouteTable) (rs : List Route) → is_some t.capture ≡ is_some u.capture → ((n : ℕ) → has_same n t.routes ≡ true → has_same n u.routes ≡ true) → may_all_stand t rs ≡ true → may_all_stand u rs ≡ true
stand_down t u [] c f h = refl
stand_down t u (r ∷ rs) c f h = both_true _ _ (one_down t u r c f (both_left (may_stand t r) _ h)) (stand_down t u rs c f (both_right (may_stand t r) _ h))

-- ---- the end beside a route

-- A `Same` of the innermost table leads where the end beside it says.
pub beside : (k : ℕ) (rs : List Route) (c j : ℕ) (t : RouteTable) (ts : List RouteTable) (e : Route) → ((i : ℕ) → i < length rs → get_or t.routes (i + j) Closed ≡ get_or rs i Closed)
    → end_beside k rs (ends_from c (suc j) (t ∷ ts)) ≡ Some e → seen_in (is_some t.capture) k ts ≡ e
beside k [] c j t ts e at h = absurd (no_some e (sym h))
beside k (r ∷ rs) zero j t ts e at h = absurd (no_some e (sym h))
beside k (r ∷ rs) (suc c) j t ts e at h =
    elim (is_same k r) as (λ b. is_same k r ≡ b → (elim b [ true ↦ Some (seen_in false (suc j) (t ∷ ts)) | false ↦ end_beside k rs (ends_from c (suc (suc j)) (t ∷ ts)) ]) ≡ Some e → seen_in (is_some t.capture) k ts ≡ e) [
      | true ↦ λ s g.
          let here : get_or t.routes j Closed ≡ Same k = ap (λ x. get_or t.routes x Closed) (let z : j ≡ 0 + j = omega arith in z) ∙ at 0 (omega arith) ∙ same_route k r s in
          let led : seen_in false (suc j) (t ∷ ts) ≡ e = cc in
          sym (ap (λ x. elim x [ Same m ↦ seen_in (false || is_some t.capture) m ts | Stream fd ↦ Stream fd | File p ↦ File p | Null ↦ Null | Closed ↦ Closed | Capture ↦ shown_end (not false && is_some t.capture) ]) here) ∙ led
      | false ↦ λ _ g. beside k rs c (suc j) t ts e (λ i l. ap (λ x. get_or t.routes x Closed) (let z : i + suc j ≡ suc i + j = omega arith in z) ∙ at (suc i) (omega (arith, l))) g
    ] refl h

-- It is there where the `Same` stands among as many routes as ends.
pub beside_found : (k : ℕ) (rs : List Route) (c j : ℕ) (ts : List RouteTable) → has_same k rs ≡ true → length rs ≤ c → end_beside k rs (ends_from c j ts) ≡ None → ⊥
beside_found k [] c j ts h l g = subst T (sym h) tt
beside_found k (r ∷ rs) zero j ts h l g = omega (arith, l)
beside_found k (r ∷ rs) (suc c) j ts h l g =
    elim (is_same k r) as (λ b. (b || has_same k rs) ≡ true → ◌≡◌ {A = Option Route} (elim b [ true ↦ Some (seen_in false j ts) | false ↦ end_beside k rs (ends_from c (suc j) ts) ]) None → ⊥) [
      | true ↦ λ _ e. no_some (seen_in false j ts) e
      | false ↦ λ s e. beside_found k rs c (suc j) ts s (omega (arith, l)) e
    ] h g
