-- Stacks whose innermost part stands last in the code's list.
use Rattle.std.proofs.Common.{◌≡◌, ℕ, ◌+◌, ◌-◌, ◌<◌, List, [], ◌∷◌, ◌++◌, length, reverse, drop, refl, T, false, append_assoc, subst, sym, ap, ◌∙◌, suc, arith}
use Rattle.std.proofs.lemmas.List.{reverse-append, length-append}
use Rattle.std.specs.FinMap.{insert, empty, from_entries}
use Rattle.hs_world.specs.Names.{name_cmp}
use Rattle.hs_world.specs.Vars.{VarMap}
use Rattle.hs_world.specs.declared.var.Var.{Var}
use Rattle.hs_world.specs.Paths.{Path}
use Rattle.hs_world.specs.Tables.{ends_from, seen_in, end_in, route_at, emitted_in, emitted_below, take_up, is_capture}
use Rattle.hs_world.specs.declared.route.Route.{Route}
use Rattle.hs_world.specs.declared.route.Route.TheVariants.{Stream, Same, File, Null, Closed, Capture}
use Rattle.hs_world.specs.declared.route.RouteTable.{RouteTable}
use Rattle.hs_world.specs.Shells.{deep}

-- one text of standard input taken away
pub one_dropped : (old new : List (List ℕ)) (x top : List ℕ) (d : ℕ) → old ≡ new ++ x ∷ [] → d < length old
    → (deep (length new - d) x (reverse new) ≡ deep (length old - d) top (reverse old)) × (drop (length new - d) (reverse new) ≡ drop (length old - d) (reverse old))
one_dropped old new x top d e h =
    let r : reverse old ≡ x ∷ reverse new = ap reverse e ∙ reverse-append new (x ∷ []) in
    let l = ap length e ∙ length-append new (x ∷ []) in
    let k : length old - d ≡ suc (length new - d) = omega (arith, l, h) in (
      sym (ap (λ j. deep j top (reverse old)) k ∙ ap (deep (suc (length new - d)) top) r),
      sym (ap (λ j. drop j (reverse old)) k ∙ ap (drop (suc (length new - d))) r),
    )

-- a table with these entries put in, from the last one on
abbrev pub inserted : VarMap → List (List ℕ × Var) → VarMap
inserted m [] = m
inserted m (e ∷ es) = insert (inserted m es) e.0 e.1

pub inserted-push : (m : VarMap) (es : List (List ℕ × Var)) (e : List ℕ × Var) → inserted m (es ++ e ∷ []) ≡ inserted (insert m e.0 e.1) es
inserted-push m [] e = refl
inserted-push m (x ∷ xs) e = ap (λ n. insert n x.0 x.1) (inserted-push m xs e)

pub inserted-all : (es : List (List ℕ × Var)) → inserted empty es ≡ from_entries {R = name_cmp} es
inserted-all [] = refl
inserted-all (e ∷ es) = ap (λ n. insert n e.0 e.1) (inserted-all es)

ends_more : (d : ℕ) (ts : List RouteTable) → d < 10 → ends_from (10 - d) d ts ≡ seen_in false d ts ∷ ends_from (10 - (d + 1)) (d + 1) ts
ends_more d ts h =
    let k : 10 - d ≡ suc (10 - (d + 1)) = omega (arith, h) in
    let n : suc d ≡ d + 1 = omega arith in
    ap (λ j. ends_from j d ts) k ∙ ap (λ m. seen_in false d ts ∷ ends_from (10 - (d + 1)) m ts) n

-- one end more
pub ends_push : (items items' : List Route) (r : Route) (d : ℕ) (ts : List RouteTable) (all : List Route) → items' ≡ items ++ r ∷ [] → r ≡ seen_in false d ts → d < 10
    → items ++ ends_from (10 - d) d ts ≡ all → items' ++ ends_from (10 - (d + 1)) (d + 1) ts ≡ all
ends_push items items' r d ts all e f h g =
    let rest = ends_from (10 - (d + 1)) (d + 1) ts in
    ap (λ l. l ++ rest) e ∙ append_assoc items (r ∷ []) rest ∙ ap (λ x. items ++ x ∷ rest) f ∙ ap (λ l. items ++ l) (sym (ends_more d ts h)) ∙ g

-- what goes to a file is taken up nowhere
file_below : (n : ℕ) (text : List ℕ) (ts : List RouteTable) (p : Path) → end_in n ts ≡ File p → emitted_in n text ts ≡ ts
file_below n text [] p h = refl
file_below n text (t ∷ ts) p h =
    elim (route_at n t.routes) as (λ r. (elim r [ Same m ↦ end_in m ts | Stream fd ↦ Stream fd | File q ↦ File q | Null ↦ Null | Closed ↦ Closed | Capture ↦ Capture ]) ≡ File p
    → (elim r [ Same m ↦ t ∷ emitted_in m text ts | Capture ↦ take_up Capture text t ∷ ts | Stream fd ↦ t ∷ ts | File q ↦ t ∷ ts | Null ↦ t ∷ ts | Closed ↦ t ∷ ts ]) ≡ t ∷ ts) [
      | Same m ↦ λ e. ap (λ l. t ∷ l) (file_below m text ts p e)
      | Stream fd ↦ λ e. refl
      | File q ↦ λ e. refl
      | Null ↦ λ e. refl
      | Closed ↦ λ e. refl
      | Capture ↦ λ e. absurd (subst (λ r. T (is_capture r)) e tt)
    ] h

pub file_takes : (n : ℕ) (text : List ℕ) (t : RouteTable) (ts : List RouteTable) (p : Path) → end_in n (t ∷ ts) ≡ File p
    → (take_up (route_at n t.routes) text t ≡ t) × (emitted_below (route_at n t.routes) text ts ≡ ts)
file_takes n text t ts p h =
    elim (route_at n t.routes) as (λ r. (elim r [ Same m ↦ end_in m ts | Stream fd ↦ Stream fd | File q ↦ File q | Null ↦ Null | Closed ↦ Closed | Capture ↦ Capture ]) ≡ File p
    → (take_up r text t ≡ t) × (emitted_below r text ts ≡ ts)) [
      | Same m ↦ λ e. (refl, file_below m text ts p e)
      | Stream fd ↦ λ e. (refl, refl)
      | File q ↦ λ e. (refl, refl)
      | Null ↦ λ e. (refl, refl)
      | Closed ↦ λ e. (refl, refl)
      | Capture ↦ λ e. absurd (subst (λ r. T (is_capture r)) e tt)
    ] h
