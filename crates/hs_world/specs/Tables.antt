-- Tables of routes with what they capture, one above the other, the innermost first (POSIX.1-2017, XCU 2.7).
use Rattle.std.specs.Prelude.{ℕ, zero, suc, List, [], ◌∷◌, ◌++◌, Bool, true, false, not, ◌&&◌, ◌||◌, is_some, length, Option, Some, None, slice_index_or as get_or, leb, nat_eq}
use Rattle.hs_world.specs.declared.effect.Fd.{Fd}
use Rattle.hs_world.specs.declared.effect.Fd.TheVariants.{One, Two}
use Rattle.hs_world.specs.declared.route.Route.{Route}
use Rattle.hs_world.specs.declared.route.RouteTable.{RouteTable}
use Rattle.hs_world.specs.declared.route.Route.TheVariants.{Stream, Same, File, Null, Closed, Capture}
use Rattle.hs_world.specs.Paths.{Path}

abbrev pub fd_number : Fd → ℕ
fd_number One = 1
fd_number Two = 2

-- the route of a descriptor, from 1 on
abbrev pub route_at : ℕ → List Route → Route
route_at zero routes = Closed
route_at (suc n) routes = get_or routes n Closed

-- Where a descriptor leads in the end: each `Same` is followed to the table below. Below the last one all is closed.
abbrev pub end_in : ℕ → List RouteTable → Route
end_in n [] = Closed
end_in n (t ∷ ts) = elim (route_at n t.routes) [ Same m ↦ end_in m ts | Stream fd ↦ Stream fd | File p ↦ File p | Null ↦ Null | Closed ↦ Closed | Capture ↦ Capture ]

abbrev pub shown_end : Bool → Route
shown_end true = Capture
shown_end false = Null

-- The same, as it is seen: a capture is seen as one only where it is the innermost, and else as nowhere. `hidden` says that one stands above.
abbrev pub seen_in : Bool → ℕ → List RouteTable → Route
seen_in hidden n [] = Closed
seen_in hidden n (t ∷ ts) = elim (route_at n t.routes) [
  | Same m ↦ seen_in (hidden || is_some t.capture) m ts
  | Stream fd ↦ Stream fd
  | File p ↦ File p
  | Null ↦ Null
  | Closed ↦ Closed
  | Capture ↦ shown_end (not hidden && is_some t.capture)
]

-- as many descriptors, from this one on
abbrev pub ends_from : ℕ → ℕ → List RouteTable → List Route
ends_from zero n ts = []
ends_from (suc k) n ts = seen_in false n ts ∷ ends_from k (suc n) ts

abbrev pub ends_of : List RouteTable → List Route
ends_of = ends_from 9 1

-- what the innermost capture has taken up
abbrev pub captured_in : List RouteTable → List ℕ
captured_in [] = []
captured_in (t ∷ ts) = elim t.capture [ Some text ↦ text | None ↦ captured_in ts ]

-- the capture that takes up what goes to a descriptor
abbrev pub taker_in : ℕ → List RouteTable → Option (List ℕ)
taker_in n [] = None
taker_in n (t ∷ ts) = elim (route_at n t.routes) [ Same m ↦ taker_in m ts | Stream fd ↦ None | File p ↦ None | Null ↦ None | Closed ↦ None | Capture ↦ t.capture ]

abbrev pub taken_up : Option (List ℕ) → List ℕ → Option (List ℕ)
taken_up None text = None
taken_up (Some old) text = Some (old ++ text)

-- a table after a text went by this route of its
abbrev pub take_up : Route → List ℕ → RouteTable → RouteTable
take_up Capture text t = record t { capture = taken_up t.capture text }
take_up _ text t = t

-- the tables after a text went to a descriptor
abbrev pub emitted_in : ℕ → List ℕ → List RouteTable → List RouteTable
emitted_in n text [] = []
emitted_in n text (t ∷ ts) = elim (route_at n t.routes) [
  | Same m ↦ t ∷ emitted_in m text ts
  | Capture ↦ take_up Capture text t ∷ ts
  | Stream fd ↦ t ∷ ts
  | File p ↦ t ∷ ts
  | Null ↦ t ∷ ts
  | Closed ↦ t ∷ ts
]

-- the tables below one, after a text went by this route of that one
abbrev pub emitted_below : Route → List ℕ → List RouteTable → List RouteTable
emitted_below (Same m) text ts = emitted_in m text ts
emitted_below _ text ts = ts

-- ---- which tables are taken

abbrev pub is_capture : Route → Bool
is_capture Capture = true
is_capture _ = false

abbrev pub has_capture : List Route → Bool
has_capture [] = false
has_capture (r ∷ rs) = is_capture r || has_capture rs

-- A table that holds a `Capture` opens one.
abbrev pub opened : Bool → Option (List ℕ)
opened true = Some []
opened false = None

abbrev pub is_descriptor : ℕ → Bool
is_descriptor n = leb 1 n && leb n 9

abbrev pub is_route : Route → Bool
is_route (Same n) = is_descriptor n
is_route _ = true

abbrev pub are_routes : List Route → Bool
are_routes [] = true
are_routes (r ∷ rs) = is_route r && are_routes rs

-- nine routes, for the descriptors 1 to 9
abbrev pub is_table : List Route → Bool
is_table rs = nat_eq (length rs) 9 && are_routes rs

abbrev pub is_same : ℕ → Route → Bool
is_same n (Same m) = nat_eq n m
is_same n _ = false

abbrev pub has_same : ℕ → List Route → Bool
has_same n [] = false
has_same n (r ∷ rs) = is_same n r || has_same n rs

-- A route that may stand in place of a table's: a `Capture` only where the table opened one, a `Same` only where it stood there.
abbrev pub may_stand : RouteTable → Route → Bool
may_stand t Capture = is_some t.capture
may_stand t (Same n) = has_same n t.routes
may_stand t _ = true

abbrev pub may_all_stand : RouteTable → List Route → Bool
may_all_stand t [] = true
may_all_stand t (r ∷ rs) = may_stand t r && may_all_stand t rs

-- where the descriptors lead when a script begins: 1 and 2 to the two streams, and the others nowhere
abbrev pub first_routes : List Route
first_routes = Stream One ∷ Stream Two ∷ Closed ∷ Closed ∷ Closed ∷ Closed ∷ Closed ∷ Closed ∷ Closed ∷ []
