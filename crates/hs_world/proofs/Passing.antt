-- Passing the reads.
use Rattle.std.proofs.Common.{◌≡◌, ℕ, ◌+◌, ◌<◌, List, [], ◌∷◌, ◌++◌, length, get_or, cond, refl, sym, ap, ◌∙◌, subst, zero, suc, arith}
use Rattle.std.specs.Prelude.{◌≢◌, Some, None}
use Rattle.std.specs.declared.cmp.Ordering.TheVariants.{Less, Equal, Greater}
use Rattle.std.specs.Ordering.{is_eq}
use Rattle.std.specs.Cmp.{tied_itself}
use Rattle.std.specs.FinMap.{FinMap, empty, get, insert, get-empty, get-insert}
use Rattle.std.proofs.lemmas.List.{length-append}
use Rattle.hs_world.specs.Locs.{loc_cmp, locs_total}
use Rattle.hs_world.proofs.LocOrder.{locs_same}
use Rattle.std.specs.List.{AllByRecursion as ByRecursion}
use Rattle.hs_world.specs.World.{WorldData, At, Applied, Apply, AllValid}
use Rattle.hs_world.specs.Reads.{Passes, IsNew, IsRead, Fresh, IsAt, ArePlaces}
use Rattle.hs_world.specs.declared.loc.Loc.{Loc}
use Rattle.hs_world.specs.declared.loc.Value.{Value}
use Rattle.hs_world.specs.declared.effect.Effect.{Effect}

-- a world that passes more reads passes the earlier ones
pub passes_front : (rs ss : List (Loc × Value)) (w : WorldData) → Passes (rs ++ ss) w → Passes rs w
passes_front [] ss w h = tt
passes_front (r ∷ rs) ss w h = (h.0, passes_front rs ss w h.1)

pub passes_back : (rs ss : List (Loc × Value)) (w : WorldData) → Passes (rs ++ ss) w → Passes ss w
passes_back [] ss w h = h
passes_back (r ∷ rs) ss w h = passes_back rs ss w h.1

-- each read is the world's value
pub passes_at : (rs : List (Loc × Value)) (w : WorldData) (k : ℕ) (d : Loc × Value) → k < length rs → Passes rs w → At w (get_or rs k d).0 ≡ (get_or rs k d).1
passes_at [] w k d lt h = absurd (omega arith)
passes_at (r ∷ rs) w zero d lt h = h.0
passes_at (r ∷ rs) w (suc k) d lt h = passes_at rs w k d (omega arith) h.1

pub read_passes : (rs : List (Loc × Value)) (loc : Loc) (value : Value) (w : WorldData) → IsRead rs loc value → Passes rs w → At w loc ≡ value
read_passes rs loc value w h p =
    let e = passes_at rs w h.0 (loc, value) h.1 p in
    ap (At w) (sym (ap (λ r. r.0) h.2)) ∙ e ∙ ap (λ r. r.1) h.2

each : (P : Loc × Value → Type 0) (rs : List (Loc × Value)) (k : ℕ) (d : Loc × Value) → k < length rs → ByRecursion P rs → P (get_or rs k d)
each P [] k d lt a = absurd (omega arith)
each P (r ∷ rs) zero d lt a = a.0
each P (r ∷ rs) (suc k) d lt a = each P rs k d (omega arith) a.1

-- what is true of each read is true of this one
pub read_has : (P : Loc × Value → Type 0) (rs : List (Loc × Value)) (loc : Loc) (value : Value) → IsRead rs loc value → ByRecursion P rs → P (loc, value)
read_has P rs loc value h a = subst P h.2 (each P rs h.0 (loc, value) h.1 a)

pub all_push : (P : Loc × Value → Type 0) (rs : List (Loc × Value)) (r : Loc × Value) → ByRecursion P rs → P r → ByRecursion P (rs ++ r ∷ [])
all_push P [] r a p = (p, tt)
all_push P (x ∷ xs) r a p = (a.0, all_push P xs r a.1 p)

pub new_push : (loc : Loc) (rs : List (Loc × Value)) (r : Loc × Value) → IsNew loc rs → r.0 ≢ loc → IsNew loc (rs ++ r ∷ [])
new_push loc [] r h n = (n, tt)
new_push loc (x ∷ xs) r h n = (h.0, new_push loc xs r h.1 n)

pub fresh_push : (rs : List (Loc × Value)) (r : Loc × Value) → Fresh rs → IsNew r.0 rs → Fresh (rs ++ r ∷ [])
fresh_push [] r f n = (tt, tt)
fresh_push (x ∷ xs) r f n = (new_push x.0 xs r f.0 (λ e. n.0 (sym e)), fresh_push xs r f.1 n.1)

pub applied_append : (es fs : List Effect) (w : WorldData) → Applied (es ++ fs) w ≡ Applied fs (Applied es w)
applied_append [] fs w = refl
applied_append (e ∷ es) fs w = applied_append es fs (Apply e w)

pub valid_append : (es fs : List Effect) (w : WorldData) → AllValid es w → AllValid fs (Applied es w) → AllValid (es ++ fs) w
valid_append [] fs w p q = q
valid_append (e ∷ es) fs w p q = (p.0, valid_append es fs (Apply e w) p.1 q)

-- ---- the places of the reads

get_front : (rs ss : List (Loc × Value)) (k : ℕ) (d : Loc × Value) → k < length rs → get_or (rs ++ ss) k d ≡ get_or rs k d
get_front [] ss k d h = absurd (omega arith)
get_front (r ∷ rs) ss zero d h = refl
get_front (r ∷ rs) ss (suc k) d h = get_front rs ss k d (omega arith)

get_last : (rs : List (Loc × Value)) (r d : Loc × Value) → get_or (rs ++ r ∷ []) (length rs) d ≡ r
get_last [] r d = refl
get_last (x ∷ xs) r d = get_last xs r d

some_none : (k : ℕ) → Some k ≡ None → ⊥
some_none k h = cc

pub no_places : ArePlaces [] empty
no_places = record {
  fresh = tt;
  found = λ loc k h. absurd (some_none k (sym h ∙ get-empty loc_cmp loc));
  missed = λ loc h. tt;
}

pub places_of : (rs ss : List (Loc × Value)) (m n : FinMap loc_cmp ℕ) → ArePlaces rs m → ss ≡ rs → n ≡ m → ArePlaces ss n
places_of rs ss m n p e f = subst (λ (x : List (Loc × Value)). ArePlaces x n) (sym e) (subst (ArePlaces rs) (sym f) p)

at_front : (rs : List (Loc × Value)) (r : Loc × Value) (loc : Loc) (k : ℕ) → IsAt rs loc k → IsAt (rs ++ r ∷ []) loc k
at_front rs r loc k h = record {
  within = let l = length-append rs (r ∷ []) in omega (arith, l, h.within);
  is = λ d. ap (λ (x : Loc × Value). x.0) (get_front rs (r ∷ []) k d h.within) ∙ h.is d;
}

at_last : (rs : List (Loc × Value)) (r : Loc × Value) (k : ℕ) → k ≡ length rs → IsAt (rs ++ r ∷ []) r.0 k
at_last rs r k e = record {
  within = let l = length-append rs (r ∷ []) in omega (arith, l, e);
  is = λ d. ap (λ j. (get_or (rs ++ r ∷ []) j d).0) e ∙ ap (λ (x : Loc × Value). x.0) (get_last rs r d);
}

same_some : (k j : ℕ) → Some k ≡ Some j → k ≡ j
same_some k j h = cc

pub places_push : (rs : List (Loc × Value)) (m : FinMap loc_cmp ℕ) (loc : Loc) (value : Value) (k : ℕ) → ArePlaces rs m → IsNew loc rs → k ≡ length rs
    → ArePlaces (rs ++ (loc, value) ∷ []) (insert m loc k)
places_push rs m loc value k p n e = record {
  fresh = fresh_push rs (loc, value) p.fresh n;
  found = λ q j h.
      let g = sym (get-insert locs_total m loc k q) ∙ h in
      elim (loc_cmp q loc) as (λ r. loc_cmp q loc ≡ r → cond (is_eq r) (Some k) (get m q) ≡ Some j → IsAt (rs ++ (loc, value) ∷ []) q j) [
        | Less ↦ λ _ f. at_front rs (loc, value) q j (p.found q j f)
        | Equal ↦ λ t f. subst (λ x. IsAt (rs ++ (loc, value) ∷ []) x j) (sym (locs_same q loc t)) (at_last rs (loc, value) j (sym (same_some k j f) ∙ e))
        | Greater ↦ λ _ f. at_front rs (loc, value) q j (p.found q j f)
      ] refl g;
  missed = λ q h.
      let g = sym (get-insert locs_total m loc k q) ∙ h in
      elim (loc_cmp q loc) as (λ r. loc_cmp q loc ≡ r → cond (is_eq r) (Some k) (get m q) ≡ None → IsNew q (rs ++ (loc, value) ∷ [])) [
        | Less ↦ λ t f. new_push q rs (loc, value) (p.missed q f) (λ s. let u = tied_itself locs_total q in let v : loc_cmp q q ≡ Less = ap (loc_cmp q) (sym s) ∙ t in cc)
        | Equal ↦ λ _ f. cc
        | Greater ↦ λ t f. new_push q rs (loc, value) (p.missed q f) (λ s. let u = tied_itself locs_total q in let v : loc_cmp q q ≡ Greater = ap (loc_cmp q) (sym s) ∙ t in cc)
      ] refl g;
}
