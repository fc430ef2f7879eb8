-- Subshell environments over a base's state.
use Rattle.std.proofs.Common.{◌≡◌, ℕ, ◌+◌, T, List, [], ◌∷◌, Bool, true, false, not, ◌&&◌, refl, sym, ap, ◌∙◌, subst, suc, length, nat_eq, arith}
use Rattle.std.specs.Prelude.{unwrap_or, None, Some, Option, ltb, ◌||◌}
use Rattle.hs_world.specs.Shells.{held, noted, lowered}
use Rattle.hs_world.specs.World.{WorldData}
use Rattle.hs_world.specs.declared.shell.Shell.{Shell}
use Rattle.hs_overlay.specs.Inputs.{InputsData, input_of}
use Rattle.hs_overlay.specs.Shells.{held_over, noted_over, lowered_over, goes_back, held_in, ShellOver, ShellsOver}
use Rattle.hs_overlay.specs.Stacks.{top_of}
use Rattle.hs_overlay.specs.declared.shells.Saved.{Saved}
use Rattle.hs_overlay.proofs.Piles.{eq_add, lt_add, same_zero, zero_suc}

held_law : (i : Option (Option (List ℕ))) (here : Bool) (top : Option (List ℕ)) (base : List ℕ) → held (held_in i base) here (unwrap_or top base) ≡ held_in (held_over i here top) base
held_law None true top base = refl
held_law None false top base = refl
held_law (Some old) here top base = refl

own_law : (i : Option (Option (List ℕ))) (d : ℕ) (pushed : List (List ℕ)) (input : Option (List ℕ)) → (i ≡ Some None → d ≡ 0) → held_over i (nat_eq d (length pushed)) (top_of pushed input) ≡ Some None → d ≡ 0
own_law (Some y) d pushed input own h = own h
own_law None d [] input own h = elim (nat_eq d 0) as (λ b. nat_eq d 0 ≡ b → held_over None b (top_of [] input) ≡ Some None → d ≡ 0) [ true ↦ λ e _. same_zero d e | false ↦ λ _ x. cc ] refl h
own_law None d (t ∷ ts) input own h = elim (nat_eq d (suc (length ts))) as (λ b. held_over None b (Some t) ≡ Some None → d ≡ 0) [ true ↦ λ x. cc | false ↦ λ x. cc ] h

-- The innermost environment holds a text that is replaced.
pub noted-law : (ss : List Saved) (b : WorldData) (ts : List Shell) (i : InputsData) (top : List ℕ) (below : ℕ) → below ≡ length i.pushed + length b.inputs → top ≡ unwrap_or (input_of i) b.input
    → ShellsOver ss b ts → ShellsOver (noted_over ss (length i.pushed) (input_of i)) b (noted ts below top)
noted-law [] b ts i top below d e s = tt
noted-law (x ∷ xs) b [] i top below d e s = absurd (subst T s tt)
noted-law (x ∷ xs) b (t ∷ ts) i top below d e s =
    let here : nat_eq t.inputs below ≡ nat_eq x.inputs (length i.pushed) = (λ j. nat_eq (s.0.inputs j) (d j)) ∙ eq_add x.inputs (length i.pushed) (length b.inputs) in (
      record {
        scope = s.0.scope;
        routes = s.0.routes;
        tables = s.0.tables;
        lower = s.0.lower;
        inputs = s.0.inputs;
        input = (λ j. held (s.0.input j) (here j) (e j)) ∙ held_law x.input (nat_eq x.inputs (length i.pushed)) (input_of i) b.input;
        own_input = own_law x.input x.inputs i.pushed i.base s.0.own_input;
        own_routes = s.0.own_routes;
        fit = s.0.fit;
        stand = s.0.stand;
      },
      s.1,
    )

-- So many tables stand now.
pub lowered-law : (ss : List Saved) (b : WorldData) (ts : List Shell) (m n : ℕ) → m ≡ n + length b.tables → ShellsOver ss b ts → ShellsOver (lowered_over ss n) b (lowered ts m)
lowered-law [] b ts m n e s = tt
lowered-law (x ∷ xs) b [] m n e s = absurd (subst T s tt)
lowered-law (x ∷ xs) b (t ∷ ts) m n e s =
    let l : ltb m t.tables ≡ ltb n x.tables = (λ i. ltb (e i) (s.0.tables i)) ∙ lt_add n x.tables (length b.tables) in (
      record {
        scope = s.0.scope;
        routes = s.0.routes;
        tables = s.0.tables;
        lower = λ i. s.0.lower i || l i;
        inputs = s.0.inputs;
        input = s.0.input;
        own_input = s.0.own_input;
        own_routes = s.0.own_routes;
        fit = s.0.fit;
        stand = s.0.stand;
      },
      lowered-law xs b ts m n e s.1,
    )

-- whether the routes go back, counted from the base on
pub back_law : (s : Saved) (b : WorldData) (t : Shell) (depth n : ℕ) → ShellOver s b t → depth ≡ n + length b.tables → (nat_eq t.tables depth && not t.lower) ≡ goes_back s n
back_law s b t depth n g d = (λ i. nat_eq (g.tables i) (d i) && not (g.lower i)) ∙ ap (λ c. c && not s.lower) (eq_add s.tables n (length b.tables))

-- Where the routes of the base's own table go back, none was pushed.
pub none_stand : {A : Type 0} (d : ℕ) (lower : Bool) (pushed : List A) → d ≡ 0 → (nat_eq d (length pushed) && not lower) ≡ true → pushed ≡ []
none_stand d lower [] h e = refl
none_stand d lower (t ∷ ts) h e = absurd (subst T (sym e ∙ ap (λ n. nat_eq n (suc (length ts)) && not lower) h ∙ ap (λ c. c && not lower) (zero_suc (length ts))) tt)

left : (a b : Bool) → (a && b) ≡ true → a ≡ true
left true b h = refl
left false b h = h

-- and the begin was at the base
pub base_depth : {A : Type 0} (d : ℕ) (lower : Bool) (pushed : List A) → pushed ≡ [] → (nat_eq d (length pushed) && not lower) ≡ true → d ≡ 0
base_depth d lower [] h e = same_zero d (left (nat_eq d 0) (not lower) e)
base_depth d lower (t ∷ ts) h e = absurd (let n = ap length h in omega (arith, n))
