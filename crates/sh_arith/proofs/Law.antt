-- The instructions of an expression give what the expression gives.
use Rattle.std.proofs.Common.{◌≡◌, ℕ, suc, ℤ, List, [], ◌∷◌, ◌++◌, Some, None, refl, sym, ap, ◌∙◌, append_assoc}
use Rattle.std.specs.Prelude.{not, Bool, true, false, if◌then◌else◌}
use Rattle.sh_arith.specs.declared.token.Logic.{Logic}
use Rattle.sh_arith.specs.declared.token.Logic.TheVariants.{Both, Either}
use Rattle.sh_arith.specs.declared.instr.Part.TheVariants as part
use Rattle.sh_arith.specs.declared.instr.Instr.{Instr}
use Rattle.sh_arith.specs.declared.instr.Instr.TheVariants as instr
use Rattle.sh_arith.specs.Grammar.{Tree, number, read, signed, binary, logic, choice, assign}
use Rattle.sh_arith.specs.Names.{Table}
use Rattle.sh_arith.specs.Number.{value_of}
use Rattle.sh_arith.specs.Machine.{emit}
use Rattle.sh_arith.specs.Value.{Ended, value, stopped, and_then, number_at, Calculated, gives as given, fails, calculate, calculated, with_sign, truth, is_zero, by_zero_or, decides, decided, store, evaluate}
use Rattle.sh_arith.specs.Exec.{Run, going, skipping, and_on, onto, exec, with_table, calculated_on}

-- the instructions of an expression, before others
abbrev pub code : Tree → List Instr → List Instr
code (number n) k = instr.Number n ∷ k
code (read p x) k = instr.Read p x ∷ k
code (signed s t) k = code t (instr.Sign s ∷ k)
code (binary m a b) k = code a (code b (instr.Math m ∷ k))
code (logic l a b) k = code a (instr.Begin (part.Logic l) ∷ code b (instr.End (part.Logic l) ∷ k))
code (choice c a b) k = code c (instr.Begin part.Choice ∷ code a (instr.Otherwise ∷ code b (instr.End part.Choice ∷ k)))
code (assign None p x t) k = code t (instr.Store None p x ∷ k)
code (assign (Some m) p x t) k = instr.Read p x ∷ code t (instr.Store (Some m) p x ∷ k)

emitted : (t : Tree) (is k : List Instr) → emit t is ++ k ≡ is ++ code t k
emitted (number n) is k = append_assoc is (instr.Number n ∷ []) k
emitted (read p x) is k = append_assoc is (instr.Read p x ∷ []) k
emitted (signed s t) is k = append_assoc (emit t is) (instr.Sign s ∷ []) k ∙ emitted t is (instr.Sign s ∷ k)
emitted (binary m a b) is k = append_assoc (emit b (emit a is)) (instr.Math m ∷ []) k ∙ emitted b (emit a is) (instr.Math m ∷ k) ∙ emitted a is (code b (instr.Math m ∷ k))
emitted (logic l a b) is k =
    let i = instr.Begin (part.Logic l) in
    let j = instr.End (part.Logic l) in
    append_assoc (emit b (emit a is ++ i ∷ [])) (j ∷ []) k ∙ emitted b (emit a is ++ i ∷ []) (j ∷ k) ∙ append_assoc (emit a is) (i ∷ []) (code b (j ∷ k)) ∙ emitted a is (i ∷ code b (j ∷ k))
emitted (choice c a b) is k =
    let i = instr.Begin part.Choice in
    let j = instr.End part.Choice in
    let one = emit c is ++ i ∷ [] in
    let two = emit a one ++ instr.Otherwise ∷ [] in
    let rest = code b (j ∷ k) in
    append_assoc (emit b two) (j ∷ []) k ∙ emitted b two (j ∷ k) ∙ append_assoc (emit a one) (instr.Otherwise ∷ []) rest ∙ emitted a one (instr.Otherwise ∷ rest)
    ∙ append_assoc (emit c is) (i ∷ []) (code a (instr.Otherwise ∷ rest)) ∙ emitted c is (i ∷ code a (instr.Otherwise ∷ rest))
emitted (assign None p x t) is k = append_assoc (emit t is) (instr.Store None p x ∷ []) k ∙ emitted t is (instr.Store None p x ∷ k)
emitted (assign (Some m) p x t) is k =
    let j = instr.Store (Some m) p x in
    append_assoc (emit t (is ++ instr.Read p x ∷ [])) (j ∷ []) k ∙ emitted t (is ++ instr.Read p x ∷ []) (j ∷ k) ∙ append_assoc is (instr.Read p x ∷ []) (code t (j ∷ k))

append-nil : (xs : List Instr) → xs ++ [] ≡ xs
append-nil [] = refl
append-nil (x ∷ xs) = ap (λ (ys : List Instr). x ∷ ys) (append-nil xs)

pub emit-code : (t : Tree) → emit t [] ≡ code t []
emit-code t = sym (append-nil (emit t [])) ∙ emitted t [] []

-- ---- what is skipped

skips : (t : Tree) (k : List Instr) (d : ℕ) (vs : List ℤ) (w : Table) → exec (code t k) (skipping d vs) w ≡ exec k (skipping d vs) w
skips (number n) k d vs w = refl
skips (read p x) k d vs w = refl
skips (signed s t) k d vs w = skips t (instr.Sign s ∷ k) d vs w
skips (binary m a b) k d vs w = skips a (code b (instr.Math m ∷ k)) d vs w ∙ skips b (instr.Math m ∷ k) d vs w
skips (logic l a b) k d vs w =
    skips a (instr.Begin (part.Logic l) ∷ code b (instr.End (part.Logic l) ∷ k)) d vs w ∙ skips b (instr.End (part.Logic l) ∷ k) (suc d) vs w
skips (choice c a b) k d vs w =
    let rest = code b (instr.End part.Choice ∷ k) in
    skips c (instr.Begin part.Choice ∷ code a (instr.Otherwise ∷ rest)) d vs w ∙ skips a (instr.Otherwise ∷ rest) (suc d) vs w ∙ skips b (instr.End part.Choice ∷ k) (suc d) vs w
skips (assign None p x t) k d vs w = skips t (instr.Store None p x ∷ k) d vs w
skips (assign (Some m) p x t) k d vs w = skips t (instr.Store (Some m) p x ∷ k) d vs w

-- ---- what is done

assoc : (e : Ended) (f g : ℤ → Table → Ended) → and_then (and_then e f) g ≡ and_then e (λ v w. and_then (f v w) g)
assoc (value v w) f g = refl
assoc (stopped c w) f g = refl

each : (e : Ended) (f g : ℤ → Table → Ended) → ((v : ℤ) (w : Table) → f v w ≡ g v w) → and_then e f ≡ and_then e g
each (value v w) f g h = h v w
each (stopped c w) f g h = refl

put : (vs : List ℤ) (e : Ended) (k : List Instr) → and_on (onto vs e) (λ r w. exec k r w) ≡ and_then e (λ v w. exec k (going (v ∷ vs)) w)
put vs (value v w) k = refl
put vs (stopped c w) k = refl

put_calculated : (vs : List ℤ) (c : Calculated) (w : Table) (k : List Instr) → and_on (with_table (calculated_on c vs) w) (λ r w. exec k r w) ≡ and_then (calculated c w) (λ v w. exec k (going (v ∷ vs)) w)
put_calculated vs (given v) w k = refl
put_calculated vs (fails f) w k = refl

pick : (t : Bool) (x y : Run) (a b : Ended) (f : Run → Ended) (g : Ended → Ended) → f x ≡ g a → f y ≡ g b → f (if t then x else y) ≡ g (if t then a else b)
pick true x y a b f g h k = h
pick false x y a b f g h k = k

fork : (u : ℤ) (x y : Run) (a b : Ended) (f : Run → Ended) (g : Ended → Ended) → f x ≡ g a → f y ≡ g b → f (by_zero_or u x y) ≡ g (by_zero_or u a b)
fork u x y a b f g h k = pick (is_zero u) x y a b f g h k

decide : (l : Logic) (u : ℤ) (x y : Run) (a b : Ended) (f : Run → Ended) (g : Ended → Ended) → f x ≡ g a → f y ≡ g b → f (decides l u x y) ≡ g (decides l u a b)
decide Both u x y a b f g h k = fork u x y a b f g h k
decide Either u x y a b f g h k = fork u y x b a f g k h

pub gives : (t : Tree) (k : List Instr) (vs : List ℤ) (w : Table) → exec (code t k) (going vs) w ≡ and_then (evaluate t w) (λ v w'. exec k (going (v ∷ vs)) w')
gives (number n) k vs w = refl
gives (read p x) k vs w = put vs (number_at p (value_of (w.value x)) w) k
gives (signed s t) k vs w = gives t (instr.Sign s ∷ k) vs w ∙ sym (assoc (evaluate t w) (λ v w'. value (with_sign s v) w') (λ v w'. exec k (going (v ∷ vs)) w'))
gives (binary m a b) k vs w =
    gives a (code b (instr.Math m ∷ k)) vs w
    ∙ each (evaluate a w) _ (λ u w'. and_then (and_then (evaluate b w') (λ v w2. calculated (calculate m u v) w2)) (λ v w'. exec k (going (v ∷ vs)) w')) (λ u w'.
    gives b (instr.Math m ∷ k) (u ∷ vs) w'
    ∙ each (evaluate b w') _ (λ v w2. and_then (calculated (calculate m u v) w2) (λ r w3. exec k (going (r ∷ vs)) w3)) (λ v w2. put_calculated vs (calculate m u v) w2 k)
    ∙ sym (assoc (evaluate b w') (λ v w2. calculated (calculate m u v) w2) (λ v w'. exec k (going (v ∷ vs)) w')))
    ∙ sym (assoc (evaluate a w) (λ u w'. and_then (evaluate b w') (λ v w2. calculated (calculate m u v) w2)) (λ v w'. exec k (going (v ∷ vs)) w'))
gives (logic l a b) k vs w =
    let j = instr.End (part.Logic l) in
    let end = λ (v : ℤ) (w' : Table). exec k (going (v ∷ vs)) w' in
    let right = λ (w' : Table). and_then (evaluate b w') (λ v w2. value (truth (not (is_zero v))) w2) in
    gives a (instr.Begin (part.Logic l) ∷ code b (j ∷ k)) vs w
    ∙ each (evaluate a w) _ (λ u w'. and_then (decides l u (value (decided l) w') (right w')) end) (λ u w'.
    decide l u (skipping 0 (decided l ∷ vs)) (going vs) (value (decided l) w') (right w') (λ r. exec (code b (j ∷ k)) r w') (λ e. and_then e end)
    (skips b (j ∷ k) 0 (decided l ∷ vs) w')
    (gives b (j ∷ k) vs w' ∙ sym (assoc (evaluate b w') (λ v w2. value (truth (not (is_zero v))) w2) end)))
    ∙ sym (assoc (evaluate a w) (λ u w'. decides l u (value (decided l) w') (right w')) end)
gives (choice c a b) k vs w =
    let j = instr.End part.Choice in
    let end = λ (v : ℤ) (w' : Table). exec k (going (v ∷ vs)) w' in
    let rest = code b (j ∷ k) in
    gives c (instr.Begin part.Choice ∷ code a (instr.Otherwise ∷ rest)) vs w
    ∙ each (evaluate c w) _ (λ u w'. and_then (by_zero_or u (evaluate b w') (evaluate a w')) end) (λ u w'.
    fork u (skipping 0 vs) (going vs) (evaluate b w') (evaluate a w') (λ r. exec (code a (instr.Otherwise ∷ rest)) r w') (λ e. and_then e end)
    (skips a (instr.Otherwise ∷ rest) 0 vs w' ∙ gives b (j ∷ k) vs w')
    (gives a (instr.Otherwise ∷ rest) vs w' ∙ each (evaluate a w') _ end (λ v w2. skips b (j ∷ k) 0 (v ∷ vs) w2)))
    ∙ sym (assoc (evaluate c w) (λ u w'. by_zero_or u (evaluate b w') (evaluate a w')) end)
gives (assign None p x t) k vs w =
    let end = λ (v : ℤ) (w' : Table). exec k (going (v ∷ vs)) w' in
    gives t (instr.Store None p x ∷ k) vs w
    ∙ each (evaluate t w) _ (λ v w'. and_then (store p x v w') end) (λ v w'. put vs (store p x v w') k)
    ∙ sym (assoc (evaluate t w) (λ v w'. store p x v w') end)
gives (assign (Some m) p x t) k vs w =
    let j = instr.Store (Some m) p x in
    let end = λ (v : ℤ) (w' : Table). exec k (going (v ∷ vs)) w' in
    let last = λ (u v : ℤ) (w2 : Table). and_then (calculated (calculate m u v) w2) (λ r w3. store p x r w3) in
    let first = number_at p (value_of (w.value x)) w in
    put vs first (code t (j ∷ k))
    ∙ each first _ (λ u w'. and_then (and_then (evaluate t w') (λ v w2. last u v w2)) end) (λ u w'.
    gives t (j ∷ k) (u ∷ vs) w'
    ∙ each (evaluate t w') _ (λ v w2. and_then (last u v w2) end) (λ v w2. put vs (last u v w2) k)
    ∙ sym (assoc (evaluate t w') (λ v w2. last u v w2) end))
    ∙ sym (assoc first (λ u w'. and_then (evaluate t w') (λ v w2. last u v w2)) end)

end-is : (e : Ended) → and_then e (λ v w. value v w) ≡ e
end-is (value v w) = refl
end-is (stopped c w) = refl

pub law : (t : Tree) (w : Table) → exec (emit t []) (going []) w ≡ evaluate t w
law t w = ap (λ (is : List Instr). exec is (going []) w) (emit-code t) ∙ gives t [] [] w ∙ end-is (evaluate t w)
