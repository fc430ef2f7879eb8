-- What a token leaves, by the offset at which it ends.
use Rattle.std.proofs.Common.{◌≡◌, ◌≤◌, ◌<◌, suc, ◌+◌, ◌-◌, ◌*◌, ℕ, List, [], ◌∷◌, ◌++◌, Option, Some, None, length, take, drop, reverse, map, Ok, refl, sym, ap, ◌∙◌, subst, arith, length-append, append_assoc}
use Rattle.std.proofs.lemmas.List.{take-append-drop, reverse-append}
use Rattle.std.proofs.Math.Seq.{drop-append_seam}
use Rattle.sh_lexer.specs.declared.token.Token.{Token}
use Rattle.sh_lexer.specs.declared.token.Mode.{Mode}
use Rattle.sh_lexer.specs.declared.place.Outer.{Outer}
use Rattle.sh_lexer.specs.Lex.{Lexed, got, opens, lex}
use Rattle.sh_lexer.specs.Trail.{Trail, after, source_of, size, least, outer_size, line_from}
use Rattle.sh_lexer.specs.Lexes.{source, found, next, in_source}
use Rattle.sh_lexer.specs.Seen.{IsSeen, IsCutFrom}
use Rattle.sh_lexer.specs.declared.place.Place.{Place}
use Rattle.sh_lexer.specs.declared.place.Cutting.{Cutting}
use Rattle.sh_lexer.specs.declared.lexer.Seen.TheVariants as seen
use Rattle.sh_lexer.proofs.Left.{Left}
use Rattle.sh_lexer.proofs.Takes.{Takes, cost, lex_costs, least_small}

pub rest_is : {n : ℕ} (w : List ℕ) (at : ℕ) (r : List ℕ) → Left n r (drop at w) → drop (length w - length r) w ≡ r
rest_is w at r l =
    let before = take at w ++ l.front in
    let whole : w ≡ before ++ r = sym (take-append-drop at w) ∙ (ap (λ x. take at w ++ x) l.is ∙ sym (append_assoc (take at w) l.front r)) in
    let long : length w - length r ≡ length before = omega (arith, ap length whole, length-append before r) in
    ap (λ n. drop n w) long ∙ (ap (λ x. drop (length before) x) whole ∙ drop-append_seam before r)

costs_of : (m : Mode) (t : List ℕ) (l : Lexed) → lex m t ≡ l → Takes (cost l) l t
costs_of m t l e = subst (λ (x : Lexed). Takes (cost x) x t) e (lex_costs m t)

pub got_rest : (m : Mode) (w : List ℕ) (at : ℕ) (k : Token) (r : List ℕ) → lex m (drop at w) ≡ got k r → drop (length w - length r) w ≡ r
got_rest m w at k r e = rest_is w at r (costs_of m (drop at w) (got k r) e)

pub opens_rest : (m : Mode) (w : List ℕ) (at : ℕ) (k : Token) (x r : List ℕ) → lex m (drop at w) ≡ opens k x (Some r) → drop (length w - length r) w ≡ r
opens_rest m w at k x r e = rest_is w at r (costs_of m (drop at w) (opens k x (Some r)) e)

left_size : {n : ℕ} (r t : List ℕ) → Left n r t → n + length r ≤ length t
left_size r t l = omega (arith, l.long, ap length l.is, length-append l.front r)

pub got_size : (m : Mode) (t : List ℕ) (k : Token) (r : List ℕ) → lex m t ≡ got k r → least k + length r ≤ length t
got_size m t k r e = left_size r t (costs_of m t (got k r) e)

pub opens_size : (m : Mode) (t : List ℕ) (k : Token) (x r : List ℕ) → lex m t ≡ opens k x (Some r) → length x + 1 + length r ≤ length t
opens_size m t k x r e = left_size r t (costs_of m t (opens k x (Some r)) e)

pub opens_size_all : (m : Mode) (t : List ℕ) (k : Token) (x : List ℕ) → lex m t ≡ opens k x None → length x + 1 ≤ length t
opens_size_all m t k x e = costs_of m t (opens k x None) e

pub reverse_push : {A : Type 0} (xs : List A) (x : A) → reverse (xs ++ x ∷ []) ≡ x ∷ reverse xs
reverse_push xs x = reverse-append xs (x ∷ [])

pub line_step : (t : List ℕ) (os : List Outer) (o : Outer) (d i : ℕ) → d < length (os ++ o ∷ []) →
    line_from t (reverse (os ++ o ∷ [])) (length (os ++ o ∷ []) - d) i ≡ line_from o.text (reverse os) (length os - d) i
line_step t os o d i less =
    let long : length (os ++ o ∷ []) - d ≡ suc (length os - d) = omega (arith, length-append os (o ∷ [])) in
    rw (reverse_push os o, long) refl

-- ---- after a token

pub got_reads : (m : Mode) (t : Trail) (w : List ℕ) (k : Token) (a : ℕ) (p : Place) → w ≡ t.whole → IsSeen (Ok (seen.Token k a)) (lex m (drop t.at w)) w →
    next m (source_of t) ≡ found k (source_of (record { whole = t.whole; at = a; outer = t.outer; last = p; closed = None }))
got_reads m t w k a p e s =
    let f : lex m (drop t.at t.whole) ≡ got k s.0 = subst (λ x. lex m (drop t.at x) ≡ got k s.0) e s.1 in
    let g : drop a t.whole ≡ s.0 = ap (λ n. drop n t.whole) (s.2 ∙ ap (λ x. length x - length s.0) e) ∙ got_rest m t.whole t.at k s.0 f in
    ap (in_source (map after t.outer)) f ∙ ap (λ x. found k (source x (map after t.outer))) (sym g)

pub got_shrinks : (m : Mode) (t : Trail) (w : List ℕ) (k : Token) (a : ℕ) (p : Place) → w ≡ t.whole → IsSeen (Ok (seen.Token k a)) (lex m (drop t.at w)) w →
    size (source_of (record { whole = t.whole; at = a; outer = t.outer; last = p; closed = None })) + least k ≤ size (source_of t)
got_shrinks m t w k a p e s =
    let f : lex m (drop t.at t.whole) ≡ got k s.0 = subst (λ x. lex m (drop t.at x) ≡ got k s.0) e s.1 in
    let g : drop a t.whole ≡ s.0 = ap (λ n. drop n t.whole) (s.2 ∙ ap (λ x. length x - length s.0) e) ∙ got_rest m t.whole t.at k s.0 f in
    let n = got_size m (drop t.at t.whole) k s.0 f in
    let l : length (drop a t.whole) ≡ length s.0 = ap length g in
    omega (arith, n, l)

pub opens_reads : (m : Mode) (t : Trail) (w : List ℕ) (k : Token) (x : List ℕ) (o : Option ℕ) (u : Outer) (b : Cutting) (p : Place) →
    w ≡ t.whole → IsSeen (Ok (seen.Cut k x o)) (lex m (drop t.at w)) w → IsCutFrom u t.whole o b →
    next m (source_of t) ≡ found k (source_of (record { whole = x; at = 0; outer = u ∷ t.outer; last = p; closed = None }))
opens_reads m t w k x (Some a) u b p e s c =
    let f : lex m (drop t.at t.whole) ≡ opens k x (Some s.0) = subst (λ y. lex m (drop t.at y) ≡ opens k x (Some s.0)) e s.1 in
    let g : drop a t.whole ≡ s.0 = ap (λ i. drop i t.whole) (s.2 ∙ ap (λ y. length y - length s.0) e) ∙ opens_rest m t.whole t.at k x s.0 f in
    let i : after u ≡ Some s.0 = ap after c ∙ ap Some g in
    ap (in_source (map after t.outer)) f ∙ ap (λ y. found k (source x (y ∷ map after t.outer))) (sym i)
opens_reads m t w k x None u b p e s c =
    let f : lex m (drop t.at t.whole) ≡ opens k x None = subst (λ y. lex m (drop t.at y) ≡ opens k x None) e s in
    let i : after u ≡ None = ap after c in
    ap (in_source (map after t.outer)) f ∙ ap (λ y. found k (source x (y ∷ map after t.outer))) (sym i)

pub opens_shrinks : (m : Mode) (t : Trail) (w : List ℕ) (k : Token) (x : List ℕ) (o : Option ℕ) (u : Outer) (b : Cutting) (p : Place) →
    w ≡ t.whole → IsSeen (Ok (seen.Cut k x o)) (lex m (drop t.at w)) w → IsCutFrom u t.whole o b →
    size (source_of (record { whole = x; at = 0; outer = u ∷ t.outer; last = p; closed = None })) + least k ≤ size (source_of t)
opens_shrinks m t w k x (Some a) u b p e s c =
    let f : lex m (drop t.at t.whole) ≡ opens k x (Some s.0) = subst (λ y. lex m (drop t.at y) ≡ opens k x (Some s.0)) e s.1 in
    let g : drop a t.whole ≡ s.0 = ap (λ i. drop i t.whole) (s.2 ∙ ap (λ y. length y - length s.0) e) ∙ opens_rest m t.whole t.at k x s.0 f in
    let i : after u ≡ Some s.0 = ap after c ∙ ap Some g in
    let j : outer_size (after u ∷ map after t.outer) ≡ outer_size (map after t.outer) + 2 * length s.0 + 1 = ap (λ y. outer_size (y ∷ map after t.outer)) i in
    omega (arith, j, opens_size m (drop t.at t.whole) k x s.0 f, least_small k)
opens_shrinks m t w k x None u b p e s c =
    let f : lex m (drop t.at t.whole) ≡ opens k x None = subst (λ y. lex m (drop t.at y) ≡ opens k x None) e s in
    let i : after u ≡ None = ap after c in
    let j : outer_size (after u ∷ map after t.outer) ≡ outer_size (map after t.outer) + 1 = ap (λ y. outer_size (y ∷ map after t.outer)) i in
    omega (arith, j, opens_size_all m (drop t.at t.whole) k x f, least_small k)
