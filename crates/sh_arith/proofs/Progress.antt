-- A token takes bytes.
use Rattle.std.proofs.Common.{◌≡◌, ℕ, suc, ◌+◌, ◌<◌, ◌≤◌, Bool, true, false, cond, ℤ, List, [], ◌∷◌, length, take, drop, Option, Some, None, refl, subst, arith, length-drop}
use Rattle.std.specs.Prelude.{◌==◌, if◌then◌else◌}
use Rattle.std.specs.List.{prefix_len}
use Rattle.sh_arith.specs.declared.token.Math.{Math}
use Rattle.sh_arith.specs.declared.token.Math.TheVariants as math
use Rattle.sh_arith.specs.declared.token.Logic.TheVariants as logic
use Rattle.sh_arith.specs.declared.token.Op.{Op}
use Rattle.sh_arith.specs.declared.token.Op.TheVariants as op
use Rattle.sh_arith.specs.declared.token.Token.{Token}
use Rattle.sh_arith.specs.declared.token.Token.TheVariants.{Name}
use Rattle.sh_arith.specs.Number.{decimal, word_byte, constant, within, positive, greatest}
use Rattle.sh_arith.specs.Lex.{Lexed, got, done, bad, sign, or_assign, with_equals, angle, ampersand, bar, single, joined, operator, number, run_at, token_at}

pick : {A : Type 0} (P : A → Type 0) (b : Bool) (x y : A) → (b ≡ true → P x) → P y → P (if b then x else y)
pick P true x y f g = f refl
pick P false x y f g = g

-- fewer than n bytes are left
abbrev Leaves : ℕ → Lexed → Type 0
Leaves n (got t rest) = length rest < n
Leaves n done = Unit {0}
Leaves n bad = Unit {0}

more : (n m : ℕ) (l : Lexed) → n ≤ m → Leaves n l → Leaves m l
more n m (got t rest) le h = omega arith
more n m done le h = tt
more n m bad le h = tt

or_assign-leaves : (m : Math) (r : List ℕ) → Leaves (suc (length r)) (or_assign m r)
or_assign-leaves m [] = omega arith
or_assign-leaves m (b ∷ r) = pick (Leaves (suc (suc (length r)))) (b == 61) (sign (op.Assign (Some m)) r) (sign (op.Math m) (b ∷ r)) (λ e. omega arith) (omega arith)

with_equals-leaves : (long short : Op) (r : List ℕ) → Leaves (suc (length r)) (with_equals long short r)
with_equals-leaves long short [] = omega arith
with_equals-leaves long short (b ∷ r) = pick (Leaves (suc (suc (length r)))) (b == 61) (sign long r) (sign short (b ∷ r)) (λ e. omega arith) (omega arith)

angle-leaves : (byte : ℕ) (shift longer alone : Math) (r : List ℕ) → Leaves (suc (length r)) (angle byte shift longer alone r)
angle-leaves byte shift longer alone [] = omega arith
angle-leaves byte shift longer alone (b ∷ r) =
    pick (Leaves (suc (suc (length r)))) (b == byte) (or_assign shift r) (with_equals (op.Math longer) (op.Math alone) (b ∷ r))
    (λ e. more (suc (length r)) (suc (suc (length r))) (or_assign shift r) (omega arith) (or_assign-leaves shift r)) (with_equals-leaves (op.Math longer) (op.Math alone) (b ∷ r))

ampersand-leaves : (r : List ℕ) → Leaves (suc (length r)) (ampersand r)
ampersand-leaves [] = omega arith
ampersand-leaves (b ∷ r) = pick (Leaves (suc (suc (length r)))) (b == 38) (sign (op.Logic logic.Both) r) (or_assign math.And (b ∷ r)) (λ e. omega arith) (or_assign-leaves math.And (b ∷ r))

bar-leaves : (r : List ℕ) → Leaves (suc (length r)) (bar r)
bar-leaves [] = omega arith
bar-leaves (b ∷ r) = pick (Leaves (suc (suc (length r)))) (b == 124) (sign (op.Logic logic.Either) r) (or_assign math.Or (b ∷ r)) (λ e. omega arith) (or_assign-leaves math.Or (b ∷ r))

single-leaves : (b : ℕ) (r : List ℕ) → Leaves (suc (length r)) (single b r)
single-leaves b r = let P = λ (l : Lexed). Leaves (suc (length r)) l in
    pick P (b == 126) _ _ (λ e. omega arith) (pick P (b == 63) _ _ (λ e. omega arith) (pick P (b == 58) _ _ (λ e. omega arith) (pick P (b == 40) _ _ (λ e. omega arith) (pick P (b == 41) _ _ (λ e. omega arith) tt))))

joined-leaves : (b : ℕ) (r : List ℕ) → Leaves (suc (length r)) (joined b r)
joined-leaves b r = let P = λ (l : Lexed). Leaves (suc (length r)) l in
    pick P (b == 43) _ _ (λ e. or_assign-leaves math.Plus r) (pick P (b == 45) _ _ (λ e. or_assign-leaves math.Minus r) (pick P (b == 42) _ _ (λ e. or_assign-leaves math.Times r)
    (pick P (b == 47) _ _ (λ e. or_assign-leaves math.Over r) (pick P (b == 37) _ _ (λ e. or_assign-leaves math.Modulo r) (pick P (b == 94) _ _ (λ e. or_assign-leaves math.Xor r) (single-leaves b r))))))

operator-leaves : (b : ℕ) (r : List ℕ) → Leaves (suc (length r)) (operator b r)
operator-leaves b r = let P = λ (l : Lexed). Leaves (suc (length r)) l in
    pick P (b == 60) _ _ (λ e. angle-leaves 60 math.Left math.AtMost math.Less r) (pick P (b == 62) _ _ (λ e. angle-leaves 62 math.Right math.AtLeast math.Greater r)
    (pick P (b == 61) _ _ (λ e. with_equals-leaves (op.Math math.Equal) (op.Assign None) r) (pick P (b == 33) _ _ (λ e. with_equals-leaves (op.Math math.Unequal) op.Not r)
    (pick P (b == 38) _ _ (λ e. ampersand-leaves r) (pick P (b == 124) _ _ (λ e. bar-leaves r) (joined-leaves b r))))))

-- a run that begins takes a byte
run-takes : (v : Bool) (k b : ℕ) (r : List ℕ) → v ≡ true → length (drop (cond v (1 + k) 0) (b ∷ r)) < suc (length r)
run-takes true k b r e = omega (arith, length-drop (1 + k) (b ∷ r))
run-takes false k b r e = absurd cc

number-leaves : (n : ℕ) (o : Option ℤ) (r : List ℕ) → length r < n → Leaves n (number o r)
number-leaves n None r h = tt
number-leaves n (Some v) r h = h

run-leaves : (p b : ℕ) (r : List ℕ) → word_byte b ≡ true → Leaves (suc (length r)) (run_at p b r)
run-leaves p b r e =
    let n = prefix_len word_byte (b ∷ r) in
    let h = run-takes (word_byte b) (prefix_len word_byte r) b r e in
    pick (Leaves (suc (length r))) (decimal b) (number (positive (within greatest (constant (take n (b ∷ r))))) (drop n (b ∷ r))) (got (Name p (take n (b ∷ r))) (drop n (b ∷ r)))
    (λ f. number-leaves (suc (length r)) (positive (within greatest (constant (take n (b ∷ r))))) (drop n (b ∷ r)) h) h

token-leaves : (p : ℕ) (text : List ℕ) → Leaves (length text) (token_at p text)
token-leaves p [] = tt
token-leaves p (b ∷ r) = pick (Leaves (suc (length r))) (word_byte b) (run_at p b r) (operator b r) (λ e. run-leaves p b r e) (operator-leaves b r)

pub token-smaller : (p : ℕ) (text : List ℕ) (t : Token) (rest : List ℕ) → token_at p text ≡ got t rest → length rest < length text
token-smaller p text t rest e = subst (λ (l : Lexed). Leaves (length text) l) e (token-leaves p text)
