-- Fixed strings in lines.
use Rattle.std.proofs.Common.{◌≡◌, ℕ, zero, suc, ◌+◌, ◌<◌, ◌≤◌, Bool, true, false, List, [], ◌∷◌, length, get_or, refl, sym, ◌∙◌, ap, inl, inr, arith}
use Rattle.std.specs.Prelude.{Option, None, Some, is_some, ◌&&◌, ◌||◌, ◌==◌}
use Rattle.std.proofs.lemmas.Bool.{and_from, and_parts, cases_Bool, eq-eqb, eqb-true, or_cases, or_left, or_right}
use Rattle.memchr.specs.Find.{FindsNeedle, OccursAt}
use Rattle.util_lines.specs.FixedLines.{begins, occurs}

-- ---- at the beginning

begins_from : (p t : List ℕ) → length p ≤ length t → ((j : ℕ) → j < length p → get_or t j 0 ≡ get_or p j 0) → begins p t ≡ true
begins_from [] t l h = refl
begins_from (b ∷ bs) [] l h = absurd (omega arith)
begins_from (b ∷ bs) (c ∷ cs) l h =
    and_from (b == c) (begins bs cs) (eq-eqb b c (sym (h 0 (omega arith)))) (begins_from bs cs (omega arith) (λ j i. h (suc j) (omega arith)))

reads_more : (b c : ℕ) (bs cs : List ℕ) → b ≡ c → ((j : ℕ) → j < length bs → get_or cs j 0 ≡ get_or bs j 0)
    → (j : ℕ) → j < suc (length bs) → get_or (c ∷ cs) j 0 ≡ get_or (b ∷ bs) j 0
reads_more b c bs cs e h zero i = sym e
reads_more b c bs cs e h (suc j) i = h j (omega arith)

begins_reads : (p t : List ℕ) → begins p t ≡ true → (length p ≤ length t) × ((j : ℕ) → j < length p → get_or t j 0 ≡ get_or p j 0)
begins_reads [] t h = (omega arith, λ j i. absurd (omega arith))
begins_reads (b ∷ bs) [] h = absurd cc
begins_reads (b ∷ bs) (c ∷ cs) h =
    let parts = and_parts (b == c) (begins bs cs) h in
    let rest = begins_reads bs cs parts.1 in
    (omega (arith, rest.0), reads_more b c bs cs (eqb-true b c parts.0) rest.1)

at_start : (p t : List ℕ) → begins p t ≡ true → OccursAt t p 0
at_start p t h =
    let r = begins_reads p t h in
    record { fits = omega (arith, r.0); reads = λ j i. (let e : 0 + j ≡ j = omega arith in ap (λ (n : ℕ). get_or t n 0) e ∙ r.1 j i) }

-- ---- somewhere

some_occurs : (p t : List ℕ) (k : ℕ) → OccursAt t p k → occurs p t ≡ true
some_occurs [] [] k o = refl
some_occurs (b ∷ bs) [] k o = absurd (omega (arith, o.fits))
some_occurs p (c ∷ cs) zero o =
    or_left (begins p (c ∷ cs)) (occurs p cs)
    (begins_from p (c ∷ cs) (omega (arith, o.fits)) (λ j i. (let e : j ≡ 0 + j = omega arith in ap (λ (n : ℕ). get_or (c ∷ cs) n 0) e ∙ o.reads j i)))
some_occurs p (c ∷ cs) (suc k) o =
    or_right (begins p (c ∷ cs)) (occurs p cs)
    (some_occurs p cs k (record {
      fits = omega (arith, o.fits);
      reads = λ j i. (let e : suc (k + j) ≡ suc k + j = omega arith in ap (λ (n : ℕ). get_or (c ∷ cs) n 0) e ∙ o.reads j i);
    }))

shifted : (p : List ℕ) (c : ℕ) (cs : List ℕ) (k : ℕ) → OccursAt cs p k → OccursAt (c ∷ cs) p (suc k)
shifted p c cs k o = record {
  fits = omega (arith, o.fits);
  reads = λ j i. (let e : suc k + j ≡ suc (k + j) = omega arith in ap (λ (n : ℕ). get_or (c ∷ cs) n 0) e ∙ o.reads j i);
}

occurs_somewhere : (p t : List ℕ) → occurs p t ≡ true → (k : ℕ) × OccursAt t p k
occurs_somewhere p [] h = (0, at_start p [] h)
occurs_somewhere p (c ∷ cs) h = elim (or_cases (begins p (c ∷ cs)) (occurs p cs) h) [
  | inl b ↦ (0, at_start p (c ∷ cs) b)
  | inr o ↦ (let found = occurs_somewhere p cs o in (suc found.0, shifted p c cs found.0 found.1))
]

-- what a search finds
pub found_occurs : (hay needle : List ℕ) (r : Option ℕ) → FindsNeedle hay needle 0 r → is_some r ≡ occurs needle hay
found_occurs hay needle None h = elim (cases_Bool (occurs needle hay)) [
  | inl t ↦ (let s = occurs_somewhere needle hay t in absurd (h s.0 (omega arith) (omega (arith, s.1.fits)) s.1))
  | inr f ↦ sym f
]
found_occurs hay needle (Some k) h = sym (some_occurs needle hay k h.1)
