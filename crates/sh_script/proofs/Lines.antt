-- A line is one more than the bytes of the whole text at most.
use Rattle.std.proofs.Common.{◌≡◌, ℕ, zero, suc, ◌+◌, ◌-◌, ◌^◌, ◌<◌, ◌≤◌, ◌==◌, Bool, true, false, cond, if◌then◌else◌, List, [], ◌∷◌, length, take, drop, Option, Some, None, refl, sym, ap, subst, ◌∙◌, arith}
use Rattle.std.specs.Prelude.{nat_lt}
use Rattle.std.specs.List.{fold}
use Rattle.std.proofs.lemmas.List.{length-take}
use Rattle.sh_lexer.specs.declared.token.Mode.{Mode}
use Rattle.sh_lexer.specs.declared.place.Place.{Place}
use Rattle.sh_lexer.specs.declared.place.Outer.{Outer}
use Rattle.sh_lexer.specs.declared.place.Cutting.{Cutting}
use Rattle.sh_lexer.specs.Lex.{Lexed, got, opens, done, bad, lex}
use Rattle.sh_lexer.specs.Trail.{Trail, left, newlines, line_in, line_from, line_ended, line_of, outer_offset, asked, begins, cut_from, ended_by, moved_by, moved}
use Rattle.sh_script.specs.declared.reading.Reader.{Reader}
use Rattle.sh_script.specs.declared.reading.Advance.{Advance}
use Rattle.sh_script.specs.declared.reading.Advance.TheVariants as advance
use Rattle.sh_script.specs.Longest.{longest}
use Rattle.sh_script.specs.Turns.{reader_at, advanced, lexer_after, looked_by, asked_last, looked}

-- the whole text, out of which those were cut that are read
abbrev pub bottom_of : List ℕ → List Outer → List ℕ
bottom_of t [] = t
bottom_of t (o ∷ os) = bottom_of o.text os

abbrev pub bottom : Trail → List ℕ
bottom t = bottom_of t.whole t.outer

one-few : (b : Bool) (a n m : ℕ) → n ≤ (a + cond b 1 0) + m → n ≤ a + suc m
one-few true a n m h = omega arith
one-few false a n m h = omega arith

counted-few : (a : ℕ) (t : List ℕ) → fold (λ (n b : ℕ). n + cond (b == 10) 1 0) a t ≤ a + length t
counted-few a [] = omega arith
counted-few a (b ∷ t) = one-few (b == 10) a _ (length t) (counted-few (a + cond (b == 10) 1 0) t)

newlines-few : (t : List ℕ) → newlines t ≤ length t
newlines-few t = let h = counted-few 0 t in omega (arith, h)

line-in-few : (t : List ℕ) (i : ℕ) (os : List Outer) → line_in t i os ≤ length (bottom_of t os) + 1
line-in-few t i [] = omega (arith, newlines-few (take i t), length-take i t)
line-in-few t i (o ∷ os) = line-in-few o.text (outer_offset o.cutting o.text i) os

line-from-few : (t : List ℕ) (os : List Outer) (n i : ℕ) → line_from t os n i ≤ length (bottom_of t os) + 1
line-from-few t os zero i = line-in-few t i os
line-from-few t [] (suc n) i = line-in-few t i []
line-from-few t (o ∷ os) (suc n) i = line-from-few o.text os n i

line-ended-few : (c : Option Cutting) (t : List ℕ) (i : ℕ) (os : List Outer) → line_ended c t i os ≤ length (bottom_of t os) + 1
line-ended-few None t i os = line-in-few t i os
line-ended-few (Some c) t i os = line-in-few t (outer_offset c t i) os

either : (b : Bool) (x y n : ℕ) → x ≤ n → y ≤ n → (if b then x else y) ≤ n
either true x y n h k = h
either false x y n h k = k

pub line-few : (t : Trail) (p : Place) → line_of t p ≤ length (bottom t) + 1
line-few t p = either (nat_lt (length t.outer) p.depth) _ _ _ (line-ended-few t.closed t.whole p.offset t.outer) (line-from-few t.whole t.outer (length t.outer - p.depth) p.offset)

-- ---- the whole text stays

bottom-closed : (e : Bool) (p : Place) (t : Trail) (o : Outer) (os : List Outer) → t.outer ≡ o ∷ os →
    bottom (if e then record { whole = o.text; at = o.at; outer = os; last = p; closed = Some o.cutting } else asked p t) ≡ bottom t
bottom-closed true p t o os h = ap (λ (x : List Outer). bottom_of t.whole x) (sym h)
bottom-closed false p t o os h = refl

bottom-ended : (p : Place) (t : Trail) (os : List Outer) → t.outer ≡ os → bottom (ended_by p t os) ≡ bottom t
bottom-ended p t [] e = refl
bottom-ended p t (o ∷ os) e = bottom-closed o.ends p t o os e

bottom-moved-by : (m : Mode) (p : Place) (t : Trail) (x : Lexed) → bottom (moved_by m p t x) ≡ bottom t
bottom-moved-by m p t (got k r) = refl
bottom-moved-by m p t (opens k x (Some r)) = refl
bottom-moved-by m p t (opens k x None) = refl
bottom-moved-by m p t done = bottom-ended p t t.outer refl
bottom-moved-by m p t (bad f) = refl

pub bottom-moved : (m : Mode) (t : Trail) → bottom (moved m t) ≡ bottom t
bottom-moved m t = bottom-moved-by m (begins m t) t (lex m (left t))

-- ---- lines that are found

looked-by-few : (f : Reader → ℕ × Bool) (t : Trail) (n : Advance) → ((r : Reader) → (f r).0 ≤ length (bottom r.lexer) + 1) → (looked_by f t n).0 ≤ length (bottom t) + 1
looked-by-few f t (advance.More st m o) h = h (record { lexer = t; machine = st; mode = m; openings = o })
looked-by-few f t (advance.Halts x) h = line-few t t.last

asked-few : (r : Reader) → (asked_last r).0 ≤ length (bottom r.lexer) + 1
asked-few r = line-few r.lexer r.lexer.last

looked-few : (n : ℕ) (r : Reader) → (looked n r).0 ≤ length (bottom r.lexer) + 1
looked-few zero r = subst (λ (t : List ℕ). (looked zero r).0 ≤ length t + 1) (bottom-moved r.mode r.lexer) (looked-by-few asked_last (lexer_after r) (advanced r) asked-few)
looked-few (suc n) r = subst (λ (t : List ℕ). (looked (suc n) r).0 ≤ length t + 1) (bottom-moved r.mode r.lexer) (looked-by-few (looked n) (lexer_after r) (advanced r) (looked-few n))

pub lines_few : (text : List ℕ) (n d : ℕ) → length text ≤ longest → (looked n (reader_at d text)).0 < 2 ^ 32
lines_few text n d h = omega (arith, looked-few n (reader_at d text))
