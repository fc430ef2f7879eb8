-- The table that the tests' names tell.
use Rattle.std.proofs.Common.{◌≡◌, ℕ, ℤ, Bool, true, false, List, [], ◌∷◌, ◌++◌, Option, Some, None, Result, Ok, Err, refl, sym, ap, subst, ◌∙◌}
use Rattle.std.specs.Prelude.{if◌then◌else◌}
use Rattle.std.specs.Result.{IsErr}
use Rattle.std.specs.Str.{bytes_eq}
use Rattle.std.specs.Fmt.{signed_decimal}
use Rattle.sh_arith.specs.declared.names.Assigned.{Assigned}
use Rattle.sh_arith.specs.declared.names.Assigned.TheVariants.{Yes, ReadOnly}
use Rattle.sh_arith.specs.Names.{Table, assigned, Assigns, Sets, yes, kept, halted}
use Rattle.sh_arith.specs.Told.{value_in, listed, assignments, at_start, table_of, newest, told}

-- One assignment more is made in the table.
one-more : (ms : List (List ℕ × ℤ)) (x : List ℕ) (v : ℤ) (w : Table) → Assigns (assignments (ms ++ (x, v) ∷ [])) w ≡ assigned x v (Assigns (assignments ms) w)
one-more [] x v w = refl
one-more (a ∷ ms) x v w = one-more ms x v (assigned a.0 a.1 w)

more-made : (values : List (List ℕ × List ℕ)) (fixed : List (List ℕ)) (ms : List (List ℕ × ℤ)) (x : List ℕ) (v : ℤ) →
    table_of values fixed (ms ++ (x, v) ∷ []) ≡ assigned x v (table_of values fixed ms)
more-made values fixed ms x v = one-more ms x v (at_start values fixed)

-- No assignment changes what is read only.
keeps : (ms : List (List ℕ × ℤ)) (w : Table) (y : List ℕ) → (Assigns (assignments ms) w).read_only y ≡ w.read_only y
keeps [] w y = refl
keeps (a ∷ ms) w y = keeps ms (assigned a.0 a.1 w) y

read-only-is : (values : List (List ℕ × List ℕ)) (fixed : List (List ℕ)) (ms : List (List ℕ × ℤ)) (y : List ℕ) → (table_of values fixed ms).read_only y ≡ listed fixed y
read-only-is values fixed ms y = keeps ms (at_start values fixed) y

-- The newest assignment gives the value.
by-test : (t : Bool) (v : ℤ) (sofar : Option ℤ) (value start : Option (List ℕ)) → value ≡ told sofar start → (if t then Some (signed_decimal v) else value) ≡ told (if t then Some v else sofar) start
by-test true v sofar value start e = refl
by-test false v sofar value start e = e

newest-gives : (ms : List (List ℕ × ℤ)) (sofar : Option ℤ) (w : Table) (y : List ℕ) (start : Option (List ℕ)) → w.value y ≡ told sofar start → (Assigns (assignments ms) w).value y ≡ told (newest sofar ms y) start
newest-gives [] sofar w y start e = e
newest-gives (a ∷ ms) sofar w y start e =
    newest-gives ms (if bytes_eq y a.0 then Some a.1 else sofar) (assigned a.0 a.1 w) y start (by-test (bytes_eq y a.0) a.1 sofar (w.value y) start e)

value-is : (values : List (List ℕ × List ℕ)) (fixed : List (List ℕ)) (ms : List (List ℕ × ℤ)) (y : List ℕ) →
    (table_of values fixed ms).value y ≡ told (newest None ms y) (value_in values y)
value-is values fixed ms y = newest-gives ms None (at_start values fixed) y (value_in values y) refl

-- ---- what a `get` answers

pub some-value : (values : List (List ℕ × List ℕ)) (fixed : List (List ℕ)) (ms : List (List ℕ × ℤ)) (y : List ℕ) (w : Table) (r : Option ℤ) (v : ℤ) (t : List ℕ) →
    w ≡ table_of values fixed ms → r ≡ newest None ms y → r ≡ Some v → t ≡ signed_decimal v → Some t ≡ w.value y
some-value values fixed ms y w r v t e n i d =
    ap Some d ∙ sym (ap (λ (u : Table). u.value y) e ∙ value-is values fixed ms y ∙ ap (λ (o : Option ℤ). told o (value_in values y)) (sym n ∙ i))

pub no-newest : (values : List (List ℕ × List ℕ)) (fixed : List (List ℕ)) (ms : List (List ℕ × ℤ)) (y : List ℕ) (w : Table) (r : Option ℤ) →
    w ≡ table_of values fixed ms → r ≡ newest None ms y → r ≡ None → value_in values y ≡ w.value y
no-newest values fixed ms y w r e n i = sym (ap (λ (u : Table). u.value y) e ∙ value-is values fixed ms y ∙ ap (λ (o : Option ℤ). told o (value_in values y)) (sym n ∙ i))

-- ---- how a `set` leaves the table

pub stays : {H : Type 0} (unmade made : H → Type 0) (values : List (List ℕ × List ℕ)) (fixed : List (List ℕ)) (ms : List (List ℕ × ℤ)) (x : List ℕ) (v : ℤ) (w : Table) (b : Bool) →
    w ≡ table_of values fixed ms → b ≡ listed fixed x → b ≡ true → (before : Table) × (before ≡ table_of values fixed ms) × Sets unmade made (Ok ReadOnly) x v before w
stays unmade made values fixed ms x v w b e l t = (w, e, kept (ap (λ (u : Table). u.read_only x) e ∙ read-only-is values fixed ms x ∙ sym l ∙ t))

pub unmade-stays : {H : Type 0} (unmade made : H → Type 0) (values : List (List ℕ × List ℕ)) (fixed : List (List ℕ)) (ms ns : List (List ℕ × ℤ)) (x : List ℕ) (v : ℤ) (w : Table) (r : Result Assigned H) →
    w ≡ table_of values fixed ns → ns ≡ ms → IsErr r → ((h : H) → unmade h) → (before : Table) × (before ≡ table_of values fixed ms) × Sets unmade made r x v before w
unmade-stays unmade made values fixed ms ns x v w (Ok a) e s i u = absurd cc
unmade-stays unmade made values fixed ms ns x v w (Err h) e s i u = (w, e ∙ ap (table_of values fixed) s, halted h (u h))

pub one-is-made : {H : Type 0} (unmade made : H → Type 0) (values : List (List ℕ × List ℕ)) (fixed : List (List ℕ)) (ms ns : List (List ℕ × ℤ)) (x t : List ℕ) (v u : ℤ) (w : Table) (b : Bool) →
    w ≡ table_of values fixed ns → ns ≡ ms ++ (t, u) ∷ [] → u ≡ v → t ≡ x → b ≡ listed fixed x → b ≡ false →
    (before : Table) × (before ≡ table_of values fixed ms) × Sets unmade made (Ok Yes) x v before w
one-is-made unmade made values fixed ms ns x t v u w b e m z n l f =
    let before = table_of values fixed ms in
    let after : w ≡ assigned x v before = e ∙ ap (table_of values fixed) m ∙ more-made values fixed ms t u ∙ ap (λ (z : ℤ). assigned t z before) z ∙ ap (λ (y : List ℕ). assigned y v before) n in
    (before, refl, subst (λ (t : Table). Sets unmade made (Ok Yes) x v before t) (sym after) (yes (read-only-is values fixed ms x ∙ sym l ∙ f)))
