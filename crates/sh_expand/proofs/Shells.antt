-- Calls of an expansion with effects of the caller in between.
use Rattle.std.proofs.Common.{◌≡◌, ℕ, List, [], ◌∷◌, ◌++◌, refl, sym, ap, ◌∙◌, subst}
use Rattle.hs_world.specs.World.{WorldData, Applied}
use Rattle.hs_world.specs.declared.effect.Effect.{Effect}
use Rattle.hs_view.specs.Acts.{then_by}
use Rattle.hs_view.specs.Steps.{Done}
use Rattle.sh_param.specs.Plans.{Plan, Reached, behind, does, expanded_by, failed, fails, fields, first, gives, stopped, told, wants}
use Rattle.sh_param.specs.declared.answer.Expanded.{Expanded}
use Rattle.sh_expand.specs.Shells.{AreInTurn, InTurn, LooksAtShell, SameShell}
use Rattle.sh_expand.proofs.Calls.{first_onward, first_told, onward}

-- ---- a plan in two states with the same shell

pub same_expanded : (p : Plan) → LooksAtShell p → (outs : List (List ℕ)) (u v : WorldData) → SameShell u v → expanded_by p outs u ≡ expanded_by p outs v
same_expanded (gives fs) l outs u v s = refl
same_expanded (fails why) l outs u v s = refl
same_expanded (wants n k) l [] u v s = refl
same_expanded (wants n k) l (o ∷ outs) u v s = same_expanded (k o) (l o) outs u v s
same_expanded (does es k) l outs u v s =
    let t = l.0 u v s in
    ap (behind (es u)) (same_expanded (k u) (l.1 u) outs (Applied (es u) u) (Applied (es v) v) t.shell)
    ∙ ap (λ (q : Plan). behind (es u) (expanded_by q outs (Applied (es v) v))) t.later
    ∙ ap (λ (fs : List Effect). behind fs (expanded_by (k v) outs (Applied (es v) v))) t.effects

-- what comes behind a list looks at the shell too
abbrev LaterLooks : Reached → Type 0
LaterLooks (fields fs) = Unit {0}
LaterLooks (failed why) = Unit {0}
LaterLooks (stopped n k) = (out : List ℕ) → LooksAtShell (k out)

later_looks : (p : Plan) → LooksAtShell p → (w : WorldData) → LaterLooks (first p w).answer
later_looks (gives fs) l w = tt
later_looks (fails why) l w = tt
later_looks (wants n k) l w = l
later_looks (does es k) l w = later_looks (k w) (l.1 w) (Applied (es w) w)

stopped_looks : (r : Reached) (n : ℕ) (k : List ℕ → Plan) → r ≡ stopped n k → LaterLooks r → (out : List ℕ) → LooksAtShell (k out)
stopped_looks r n k e l = let m : LaterLooks (stopped n k) = subst LaterLooks e l in m

-- ---- all calls

pub in_turn : AreInTurn
in_turn p l [] w es e t =
    first_told p w
    ∙ ap (λ (fs : List Effect). let d : Done Expanded = record { effects = fs; answer = told (first p w).answer } in d) (sym t.0)
    ∙ ap (λ (x : Expanded). let d : Done Expanded = record { effects = es; answer = x } in d) (sym t.1)
in_turn p l (o ∷ outs) w es e t =
    let d = first p w in
    let v = Applied d.effects w in
    first_onward p (o ∷ outs) w
    ∙ ap (λ (r : Reached). behind d.effects (onward (o ∷ outs) r v)) t.reached
    ∙ ap (behind d.effects) (same_expanded (t.later o) (stopped_looks d.answer t.list t.later t.reached (later_looks p l w) o) outs v t.next t.same)
    ∙ ap (behind d.effects) (in_turn (t.later o) (stopped_looks d.answer t.list t.later t.reached (later_looks p l w) o) outs t.next t.own e t.on)
    ∙ ap (λ (fs : List Effect). let x : Done Expanded = record { effects = fs; answer = e } in x) (sym t.is)
