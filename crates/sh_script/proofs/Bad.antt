-- Where the reading of a text halts is its first bad token.
use Rattle.std.proofs.Common.{◌≡◌, ℕ, zero, suc, ◌+◌, ◌≤◌, Bool, true, false, if◌then◌else◌, List, [], ◌∷◌, ◌++◌, length, Option, Some, None, refl, sym, ap, subst, ◌∙◌, arith}
use Rattle.std.specs.Prelude.{option_and_then, nat_lt}
use Rattle.sh_syntax.specs.declared.fault.Fault.{Fault}
use Rattle.sh_syntax.specs.declared.fault.Fault.TheVariants as fault
use Rattle.sh_syntax.specs.declared.fault.Opening.{Opening}
use Rattle.sh_syntax.specs.declared.fault.Opening.TheVariants as opening
use Rattle.sh_syntax.specs.declared.tree.Script.{Script}
use Rattle.sh_lexer.specs.declared.token.Token.{Token}
use Rattle.sh_lexer.specs.declared.token.Mode.{Mode}
use Rattle.sh_lexer.specs.declared.token.Mode.TheVariants.{Command}
use Rattle.sh_lexer.specs.Modes.{Reads}
use Rattle.sh_lexer.specs.Lexes.{Source, source, Next, found, ended, wrong, next, mode_at, Front}
use Rattle.sh_lexer.specs.Trail.{source_of, line_of}
use Rattle.sh_grammar.specs.Grammar.{ParsesWithin, Parses, max_nesting}
use Rattle.sh_grammar.specs.Spells.{Begins, BeginsWithin}
use Rattle.sh_grammar.specs.Machine.{State, step, accept, run, start_within}
use Rattle.sh_grammar.proofs.Complete.{complete}
use Rattle.sh_grammar.proofs.Sound.{sound}
use Rattle.sh_grammar.proofs.Reading.{told-reads}
use Rattle.sh_machine.specs.Taken.{taken}
use Rattle.sh_script.specs.declared.openings.Openings.{Openings}
use Rattle.sh_script.specs.declared.openings.Stop.{Stop}
use Rattle.sh_script.specs.declared.openings.Stop.TheVariants as stop
use Rattle.sh_script.specs.declared.reading.Reader.{Reader}
use Rattle.sh_script.specs.declared.reading.Halt.{Halt}
use Rattle.sh_script.specs.declared.reading.Halt.TheVariants as halt
use Rattle.sh_script.specs.declared.reading.Advance.{Advance}
use Rattle.sh_script.specs.declared.reading.Advance.TheVariants as advance
use Rattle.sh_script.specs.Openings.{opened_from, opened_after, none_open, after_token, last_here, last_opened, top, inner, blamed_on, in_text, unclosed, bad_fault, blamed}
use Rattle.sh_script.specs.Turns.{reader_at, After, one_more, onward, ends_text, refused_at, taken_by, advanced_by, advanced, lexer_after, looked_by, asked_last, looked, line_again}
use Rattle.sh_script.specs.FirstBad.{line_after, line_of_token, Refused, Stops, refused, unformed, ended_early, named, FirstBad, too_deep, stops}
use Rattle.sh_script.specs.Readings.{IsRefused, Stopped, not_taken, no_token, Ended, Halted}
use Rattle.sh_script.proofs.Fits.{Stand, stand-next}
use Rattle.sh_script.proofs.Completes.{Ends, state-ends}
use Rattle.sh_script.proofs.Deeper.{deep}
use Rattle.sh_script.proofs.Text.{reach, run-append, reach-append, append-nil, refused-all, some-reached}
use Rattle.sh_script.proofs.Turns.{Here, here, deep_reader, after-deeper, looked-after, line-at, line-found}
use Rattle.sh_script.proofs.Stands.{count-one, halted-advanced}

-- ---- tokens that begin those of a script

pub reach-begins : (d : ℕ) (ts : List Token) (st : State) → reach (start_within d) ts ≡ Some st → Stand st.now st.room st.below → BeginsWithin d ts
reach-begins d ts st e h =
    let x = state-ends st h in (
      x.more,
      x.script,
      sound d (ts ++ x.more) x.script
          (run-append ts x.more (start_within d) ∙ ap (λ (o : Option State). option_and_then (λ y. run y x.more) o) e ∙ x.is),
    )

pub after-begins : (d : ℕ) (text : List ℕ) (ts : List Token) (r : Reader) → After d text ts r → BeginsWithin d ts
after-begins d text ts r a = let h = here d text ts r a in reach-begins d ts r.machine h.reached h.stand

-- tokens that begin those of a script are read
pub begins-reach : (d : ℕ) (us : List Token) → BeginsWithin d us → (st : State) × (reach (start_within d) us ≡ Some st)
begins-reach d us b =
    let r = some-reached (reach (start_within d) us) b.0 b.1 (sym (run-append us b.0 (start_within d)) ∙ complete b.2) in
    (r.0, r.1)

-- ---- tokens that are refused

pub refused-after : (d : ℕ) (text : List ℕ) (ts : List Token) (r : Reader) (seen : Token) → After d text ts r → step r.machine (taken r.machine seen) ≡ None → Refused d ts seen
refused-after d text ts r seen a e t q b =
    let h = here d text ts r a in
    let x = begins-reach d (ts ++ t ∷ []) b in
    let f : step r.machine t ≡ Some x.0 = sym (reach-append ts t (start_within d) ∙ ap (λ (o : Option State). option_and_then (λ y. step y t) o) h.reached) ∙ x.1 in
    refused-all r.machine seen t e q x.0 f

-- ---- the end of the text

run-after : (d : ℕ) (text : List ℕ) (ts : List Token) (r : Reader) → After d text ts r → run (start_within d) ts ≡ accept r.machine
run-after d text ts r a =
    ap (λ (us : List Token). run (start_within d) us) (sym (append-nil ts)) ∙ run-append ts [] (start_within d)
    ∙ ap (λ (o : Option State). option_and_then (λ y. run y []) o) (here d text ts r a).reached

pub none-parses : (text : List ℕ) (ts : List Token) (r : Reader) → After max_nesting text ts r → accept r.machine ≡ None → (s : Script) → Parses s ts → ⊥
none-parses text ts r a e s p = let two : Some s ≡ None = sym (complete p) ∙ run-after max_nesting text ts r a ∙ e in cc

-- ---- which opening is blamed: it hangs on the lines alone

last-same : (f g : ℕ → ℕ) (h : Option ℕ) (o : Option (Opening × ℕ)) → ((n : ℕ) → f n ≡ g n) → last_opened f h o ≡ last_opened g h o
last-same f g None o e = refl
last-same f g (Some h) None e = refl
last-same f g (Some h) (Some o) e =
    ap (λ (n : ℕ). if nat_lt n (f o.1) then Some o else Some (opening.Here, h)) (e h) ∙ ap (λ (n : ℕ). if nat_lt (g h) n then Some o else Some (opening.Here, h)) (e o.1)

in-text-same : (f g : ℕ → ℕ) (p : Openings) (o : Option (Opening × ℕ)) → ((n : ℕ) → f n ≡ g n) → in_text f p o ≡ in_text g p o
in-text-same f g p None e = refl
in-text-same f g p (Some o) e = ap (λ (x : Option (Opening × ℕ)). blamed_on p.count x) (last-same f g (last_here p) (Some o) e)

bad-same : (f g : ℕ → ℕ) (p : Openings) (x : Fault) → ((n : ℕ) → f n ≡ g n) → bad_fault f p x ≡ bad_fault g p x
bad-same f g p (fault.Unclosed o) e = ap (λ (x : Option (Opening × ℕ)). blamed_on p.count x) (last-same f g (last_here p) (unclosed p o) e)
bad-same f g p x e = refl

blamed-same : (f g : ℕ → ℕ) (p : Openings) (s : Stop) → ((n : ℕ) → f n ≡ g n) → blamed f p s ≡ blamed g p s
blamed-same f g p stop.Refused e = refl
blamed-same f g p stop.EndOfText e = in-text-same f g p (inner (top p.marks)) e
blamed-same f g p (stop.Bad x) e = bad-same f g p x e
blamed-same f g p stop.End e = ap (λ (x : Option (Opening × ℕ)). blamed_on p.count x) (last-same f g (last_here p) (top p.marks) e)

-- nothing more comes
no-more : (r : Reader) (h : Halt) → advanced r ≡ advance.Halts h → (st : State) (m : Mode) (o : Openings) → advanced r ≡ advance.More st m o → ⊥
no-more r h e st m o f = let two : advance.Halts h ≡ advance.More st m o = sym e ∙ f in cc

-- what the code finds is what the definition names
pub named-again : (text : List ℕ) (ts : List Token) (r : Reader) (h : Halt) (s : Stop) (p : Openings) → After max_nesting text ts r → Halted r h → p ≡ r.openings →
    let b = blamed (line_again text) p s in named text ts s ≡ (b.0, line_again text b.1)
named-again text ts r h s p a k e =
    let lines = line-found max_nesting text ts r a (no-more r h (halted-advanced r h k)) in
    let same : blamed (line_of_token text ts) (opened_after ts) s ≡ blamed (line_again text) p s =
    ap (λ (x : Openings). blamed (line_of_token text ts) x s) ((here max_nesting text ts r a).openings ∙ sym e)
    ∙ blamed-same (line_of_token text ts) (line_again text) p s (λ n. sym (lines n)) in
    ap (λ (b : Fault × ℕ). (b.0, line_of_token text ts b.1)) same ∙ ap (λ (n : ℕ). ((blamed (line_again text) p s).0, n)) (sym (lines (blamed (line_again text) p s).1))

-- ---- the first bad token

next-at : (d : ℕ) (text : List ℕ) (ts : List Token) (r : Reader) (n : Next) → After d text ts r → next r.mode (source_of r.lexer) ≡ n →
    next (mode_at Command ts) (source_of r.lexer) ≡ n
next-at d text ts r n a e = ap (λ (m : Mode). next m (source_of r.lexer)) (here d text ts r a).mode ∙ e

count-from : (p : Openings) (ts : List Token) → (opened_from p ts).count ≡ p.count + length ts
count-from p [] = omega arith
count-from p (t ∷ ts) = let h = count-from (after_token t p) ts in omega (arith, h, count-one t p)

-- reading once more with room for one more opening, up to where the reading halts
looked-deep : (text : List ℕ) (ts : List Token) (r : Reader) (p : Openings) → After max_nesting text ts r → p ≡ r.openings →
    looked p.count (reader_at (suc max_nesting) text) ≡ looked_by asked_last (lexer_after r) (advanced (deep_reader r))
looked-deep text ts r p a e =
    let n : p.count ≡ length ts + 0 = omega (arith, ap (λ (x : Openings). x.count) (e ∙ sym (here max_nesting text ts r a).openings), count-from none_open ts) in
    ap (λ (x : ℕ). looked x (reader_at (suc max_nesting) text)) n
    ∙ looked-after (suc max_nesting) text ts (deep_reader r) (after-deeper max_nesting text ts r a) 0

-- the next state, where the token is taken that was refused
abbrev deep_step : Reader → Token → Option State
deep_step r seen = step (deep r.machine) (taken r.machine seen)

looked-seen : (r : Reader) (seen : Token) (q : Source) (o : Option State) → next r.mode (source_of r.lexer) ≡ found seen q → deep_step r seen ≡ o →
    looked_by asked_last (lexer_after r) (advanced (deep_reader r)) ≡ looked_by asked_last (lexer_after r) (taken_by (deep_reader r) seen (taken r.machine seen) o)
looked-seen r seen q o e f =
    ap (λ (n : Next). looked_by asked_last (lexer_after r) (advanced_by (deep_reader r) n)) e
    ∙ ap (λ (x : Option State). looked_by asked_last (lexer_after r) (taken_by (deep_reader r) seen (taken r.machine seen) x)) f

looked-wrong : (r : Reader) (f : Fault) → next r.mode (source_of r.lexer) ≡ wrong f →
    looked_by asked_last (lexer_after r) (advanced (deep_reader r)) ≡ (line_of (lexer_after r) (lexer_after r).last, false)
looked-wrong r f e = ap (λ (n : Next). looked_by asked_last (lexer_after r) (advanced_by (deep_reader r) n)) e

not-both : (l m : ℕ) → ◌≡◌ {A = ℕ × Bool} (l, true) (m, false) → ⊥
not-both l m e = let two : true ≡ false = ap (λ (x : ℕ × Bool). x.1) e in cc

deep-at : (text : List ℕ) (ts : List Token) (r : Reader) (seen : Token) (l : ℕ) (o : Option State) → After max_nesting text ts r →
    next r.mode (source_of r.lexer) ≡ found seen (source_of (lexer_after r)) → step r.machine (taken r.machine seen) ≡ None → deep_step r seen ≡ o →
    looked_by asked_last (lexer_after r) (advanced (deep_reader r)) ≡ (l, true) → FirstBad text fault.TooDeep l
deep-at text ts r seen l None a e n f k = absurd (not-both l (line_of (lexer_after r) (lexer_after r).last) (sym k ∙ looked-seen r seen (source_of (lexer_after r)) None e f))
deep-at text ts r seen l (Some x) a e n f k =
    let t = taken r.machine seen in
    let b : BeginsWithin (suc max_nesting) (ts ++ t ∷ []) =
    after-begins (suc max_nesting) text (ts ++ t ∷ []) (onward (deep_reader r) t x) (one_more seen x (after-deeper max_nesting text ts r a) e f) in
    let line : line_after text ts ≡ l =
    line-at max_nesting text ts r a ∙ ap (λ (y : ℕ × Bool). y.0) (sym (looked-seen r seen (source_of (lexer_after r)) (Some x) e f) ∙ k) in
    subst (λ (y : ℕ). FirstBad text fault.TooDeep y) line
    (too_deep ts seen t (source_of r.lexer) (source_of (lexer_after r)) (here max_nesting text ts r a).front (after-begins max_nesting text ts r a)
    (next-at max_nesting text ts r _ a e) (refused-after max_nesting text ts r seen a n) (told-reads r.machine.now r.machine.below r.machine.script.due seen) b)

-- It is taken where one more thing may be open.
pub deeper-bad : (text : List ℕ) (ts : List Token) (r : Reader) (s : Stop) (p : Openings) (l : ℕ) → After max_nesting text ts r → Stopped r s p → p ≡ r.openings →
    looked p.count (reader_at (suc max_nesting) text) ≡ (l, true) → FirstBad text fault.TooDeep l
deeper-bad text ts r s p l a (not_taken {seen} e h) q k =
    deep-at text ts r seen l (deep_step r seen) a e h.none refl (sym (looked-deep text ts r p a q) ∙ k)
deeper-bad text ts r s p l a (no_token {f} e h u) q k = absurd (not-both l _ (sym k ∙ looked-deep text ts r p a q ∙ looked-wrong r f e))

refused-at-both : (text : List ℕ) (ts : List Token) (r : Reader) (seen : Token) (l : ℕ) (o : Option State) → After max_nesting text ts r →
    next r.mode (source_of r.lexer) ≡ found seen (source_of (lexer_after r)) → step r.machine (taken r.machine seen) ≡ None → deep_step r seen ≡ o →
    looked_by asked_last (lexer_after r) (advanced (deep_reader r)) ≡ (l, false) → Stops ts (source_of r.lexer) (refused_at (ends_text seen))
refused-at-both text ts r seen l (Some x) a e n f k = absurd (not-both _ l (sym (looked-seen r seen (source_of (lexer_after r)) (Some x) e f) ∙ k))
refused-at-both text ts r seen l None a e n f k =
    refused (next-at max_nesting text ts r _ a e) (refused-after max_nesting text ts r seen a n)
    (refused-after (suc max_nesting) text ts (deep_reader r) seen (after-deeper max_nesting text ts r a) f)

stops-at : (text : List ℕ) (ts : List Token) (r : Reader) (s : Stop) (p : Openings) (l : ℕ) → After max_nesting text ts r → Stopped r s p → p ≡ r.openings →
    looked p.count (reader_at (suc max_nesting) text) ≡ (l, false) → Stops ts (source_of r.lexer) s
stops-at text ts r s p l a (not_taken {seen} e h) q k =
    subst (λ (x : Stop). Stops ts (source_of r.lexer) x) (sym h.stop)
    (refused-at-both text ts r seen l (deep_step r seen) a e h.none refl (sym (looked-deep text ts r p a q) ∙ k))
stops-at text ts r s p l a (no_token {f} e h u) q k = subst (λ (x : Stop). Stops ts (source_of r.lexer) x) (sym h) (unformed (next-at max_nesting text ts r _ a e))

stopped-openings : (r : Reader) (s : Stop) (p : Openings) → Stopped r s p → p ≡ r.openings
stopped-openings r s p (not_taken e h) = h.openings
stopped-openings r s p (no_token e h u) = u

-- It is taken by no limit, or it is no token.
pub stopped-bad : (text : List ℕ) (ts : List Token) (r : Reader) (s : Stop) (p : Openings) (l : ℕ) → After max_nesting text ts r → Stopped r s p →
    looked p.count (reader_at (suc max_nesting) text) ≡ (l, false) →
    FirstBad text (blamed (line_again text) p s).0 (line_again text (blamed (line_again text) p s).1)
stopped-bad text ts r s p l a h k =
    let q = stopped-openings r s p h in
    stops ts (source_of r.lexer) s (here max_nesting text ts r a).front (after-begins max_nesting text ts r a) (stops-at text ts r s p l a h q k)
    (named-again text ts r (halt.Stopped s p) s p a h q)

pub too-deep-bad : (text : List ℕ) (ts : List Token) (r : Reader) (s : Stop) (p : Openings) (l : ℕ) → After max_nesting text ts r → Stopped r s p →
    looked p.count (reader_at (suc max_nesting) text) ≡ (l, true) → FirstBad text fault.TooDeep l
too-deep-bad text ts r s p l a h k = deeper-bad text ts r s p l a h (stopped-openings r s p h) k

-- The text ends too early.
pub ended-bad : (text : List ℕ) (ts : List Token) (r : Reader) (st : State) (p : Openings) → After max_nesting text ts r → Ended r st p → accept st ≡ None →
    FirstBad text (blamed (line_again text) p stop.End).0 (line_again text (blamed (line_again text) p stop.End).1)
ended-bad text ts r st p a h n =
    stops ts (source_of r.lexer) stop.End (here max_nesting text ts r a).front (after-begins max_nesting text ts r a)
    (ended_early (next-at max_nesting text ts r ended a h.is_ended) (none-parses text ts r a (ap accept (sym h.machine) ∙ n)))
    (named-again text ts r (halt.Ended st p) stop.End p a h h.openings)
