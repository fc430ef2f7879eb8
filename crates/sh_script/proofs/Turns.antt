-- Reading a text token by token: the tokens so far, and what they say of a reader.
use Rattle.std.proofs.Common.{◌≡◌, ℕ, zero, suc, ◌+◌, ◌≤◌, ◌<◌, Bool, true, false, List, [], ◌∷◌, ◌++◌, length, take, Option, Some, None, refl, sym, ap, subst, ◌∙◌, arith, length-append}
use Rattle.std.proofs.lemmas.List.{take-append-le, take_all, length-take-le}
use Rattle.std.specs.Prelude.{option_and_then}
use Rattle.sh_lexer.specs.declared.token.Token.{Token}
use Rattle.sh_lexer.specs.declared.token.Mode.{Mode}
use Rattle.sh_lexer.specs.declared.token.Mode.TheVariants.{Command}
use Rattle.sh_lexer.specs.Modes.{Reads, mode_after}
use Rattle.sh_lexer.specs.Lexes.{Front, Source, source, Next, found, next, mode_at}
use Rattle.sh_lexer.specs.Trail.{Trail, source_of, beginning, moved, line_of}
use Rattle.sh_grammar.specs.Machine.{State, step, start_within}
use Rattle.sh_machine.specs.Taken.{taken}
use Rattle.sh_script.specs.declared.openings.Openings.{Openings}
use Rattle.sh_script.specs.declared.reading.Reader.{Reader}
use Rattle.sh_script.specs.declared.reading.Advance.{Advance}
use Rattle.sh_script.specs.declared.reading.Advance.TheVariants as advance
use Rattle.sh_script.specs.Openings.{after_token, none_open, opened_from, opened_after}
use Rattle.sh_script.specs.Turns.{reader_at, onward, After, at_start, one_more, taken_by, advanced_by, advanced, lexer_after, looked_by, asked_last, looked}
use Rattle.sh_script.specs.FirstBad.{trail_after, line_after, line_of_token}
use Rattle.sh_script.proofs.Fits.{Stand, stand-start, stand-next}
use Rattle.sh_script.proofs.Deeper.{deep, deep-next}
use Rattle.sh_script.proofs.Text.{reach, reach-append, front-one, mode-one}
use Rattle.sh_grammar.proofs.Reading.{told-reads}

-- ---- what is so after tokens

trail-one : (m : Mode) (t : Trail) (ts : List Token) (k : Token) → trail_after m t (ts ++ k ∷ []) ≡ moved (mode_at m ts) (trail_after m t ts)
trail-one m t [] k = refl
trail-one m t (u ∷ ts) k = trail-one (mode_after m u) (moved m t) ts k

opened-one : (p : Openings) (ts : List Token) (k : Token) → opened_from p (ts ++ k ∷ []) ≡ after_token k (opened_from p ts)
opened-one p [] k = refl
opened-one p (u ∷ ts) k = opened-one (after_token u p) ts k

pub record Here (d : ℕ) (text : List ℕ) (ts : List Token) (r : Reader) : Type 0 where
  pub front : Front Command (source text []) ts (source_of r.lexer)
  pub reached : reach (start_within d) ts ≡ Some r.machine
  pub mode : mode_at Command ts ≡ r.mode
  pub trail : trail_after Command (beginning text) ts ≡ r.lexer
  pub openings : opened_after ts ≡ r.openings
  pub stand : Stand r.machine.now r.machine.room r.machine.below

here-next : (d : ℕ) (text : List ℕ) (ts : List Token) (r : Reader) (seen : Token) (st : State) → Here d text ts r →
    next r.mode (source_of r.lexer) ≡ found seen (source_of (lexer_after r)) → step r.machine (taken r.machine seen) ≡ Some st →
    Here d text (ts ++ taken r.machine seen ∷ []) (onward r (taken r.machine seen) st)
here-next d text ts r seen st h e f = let t = taken r.machine seen in record {
  front = front-one Command (source text []) ts (source_of r.lexer) seen t (source_of (lexer_after r)) h.front
      (ap (λ (x : Mode). next x (source_of r.lexer)) h.mode ∙ e) (told-reads r.machine.now r.machine.below r.machine.script.due seen);
  reached = reach-append ts t (start_within d) ∙ ap (λ (o : Option State). option_and_then (λ x. step x t) o) h.reached ∙ f;
  mode = mode-one Command ts t ∙ ap (λ (x : Mode). mode_after x t) h.mode;
  trail = trail-one Command (beginning text) ts t ∙ ap (λ (x : Mode). moved x (trail_after Command (beginning text) ts)) h.mode ∙ ap (λ (x : Trail). moved r.mode x) h.trail;
  openings = opened-one none_open ts t ∙ ap (λ (x : Openings). after_token t x) h.openings;
  stand = stand-next r.machine st t h.stand f;
}

pub here : (d : ℕ) (text : List ℕ) (ts : List Token) (r : Reader) → After d text ts r → Here d text ts r
here d text _ _ at_start = record { front = refl; reached = refl; mode = refl; trail = refl; openings = refl; stand = stand-start d }
here d text _ _ (one_more {ts} {r} seen st a e f) = here-next d text ts r seen st (here d text ts r a) e f

-- ---- lines, by reading once more

pub line-at : (d : ℕ) (text : List ℕ) (ts : List Token) (r : Reader) → After d text ts r → line_after text ts ≡ line_of (lexer_after r) (lexer_after r).last
line-at d text ts r a = let h = here d text ts r a in
    ap (λ (m : Mode). line_of (moved m (trail_after Command (beginning text) ts)) (moved m (trail_after Command (beginning text) ts)).last) h.mode
    ∙ ap (λ (t : Trail). line_of (moved r.mode t) (moved r.mode t).last) h.trail

looked-line : (f : Reader → ℕ × Bool) (t : Trail) (n : Advance) → ((st : State) (m : Mode) (o : Openings) → n ≡ advance.More st m o → ⊥) → looked_by f t n ≡ (line_of t t.last, false)
looked-line f t (advance.More st m o) h = absurd (h st m o refl)
looked-line f t (advance.Halts x) h = refl

last-line : (t : Trail) (n : Advance) → (looked_by asked_last t n).0 ≡ line_of t t.last
last-line t (advance.More st m o) = refl
last-line t (advance.Halts x) = refl

-- a token that is taken
more-turn : (r : Reader) (seen : Token) (q : Source) (st : State) → next r.mode (source_of r.lexer) ≡ found seen q → step r.machine (taken r.machine seen) ≡ Some st →
    advanced r ≡ advance.More st (mode_after r.mode (taken r.machine seen)) (after_token (taken r.machine seen) r.openings)
more-turn r seen q st e f =
    ap (λ (n : Next). advanced_by r n) e ∙ ap (λ (o : Option State). taken_by r seen (taken r.machine seen) o) f

pub looked-after : (d : ℕ) (text : List ℕ) (ts : List Token) (r : Reader) → After d text ts r → (k : ℕ) → looked (length ts + k) (reader_at d text) ≡ looked k r
looked-after d text _ _ at_start k = ap (λ (n : ℕ). looked n (reader_at d text)) (omega arith)
looked-after d text _ _ (one_more {ts} {r} seen st a e f) k =
    let n : length (ts ++ taken r.machine seen ∷ []) + k ≡ length ts + suc k = omega (arith, length-append ts (taken r.machine seen ∷ [])) in
    ap (λ (x : ℕ). looked x (reader_at d text)) n ∙ looked-after d text ts r a (suc k)
    ∙ ap (λ (x : Advance). looked_by (looked k) (lexer_after r) x) (more-turn r seen (source_of (lexer_after r)) st e f)

-- the reader after the first tokens
record Before (d : ℕ) (text : List ℕ) (ts : List Token) (n : ℕ) : Type 0 where
  pub reader : Reader
  pub after : After d text (take n ts) reader

before-more : (d : ℕ) (text : List ℕ) (ts : List Token) (t : Token) (n : ℕ) → n ≤ length ts → Before d text ts n → Before d text (ts ++ t ∷ []) n
before-more d text ts t n h b = record {
  reader = b.reader;
  after = subst (λ (us : List Token). After d text us b.reader) (sym (take-append-le n ts (t ∷ []) h)) b.after;
}

before-all : (d : ℕ) (text : List ℕ) (ts : List Token) (r : Reader) (n : ℕ) → After d text ts r → length ts ≤ n → Before d text ts n
before-all d text ts r n a h = record { reader = r; after = subst (λ (us : List Token). After d text us r) (sym (take_all n ts h)) a }

-- a number, and how many tokens there are
data Where (n m : ℕ) : Type 0 where
  within : n ≤ m → Where n m
  past : (k : ℕ) → n ≡ m + suc k → Where n m

placed-suc : (n m : ℕ) → Where n m → Where (suc n) (suc m)
placed-suc n m (within h) = within (omega arith)
placed-suc n m (past k e) = past k (omega arith)

placed : (n m : ℕ) → Where n m
placed zero m = within (omega arith)
placed (suc n) zero = past n (omega arith)
placed (suc n) (suc m) = placed-suc n m (placed n m)

before-one : (d : ℕ) (text : List ℕ) (ts : List Token) (t : Token) (r : Reader) (n : ℕ) → After d text (ts ++ t ∷ []) r →
    (n ≤ length ts → Before d text ts n) → Where n (length ts) → Before d text (ts ++ t ∷ []) n
before-one d text ts t r n a f (within h) = before-more d text ts t n h (f h)
before-one d text ts t r n a f (past k e) = before-all d text (ts ++ t ∷ []) r n a (omega (arith, length-append ts (t ∷ [])))

before : (d : ℕ) (text : List ℕ) (ts : List Token) (r : Reader) → After d text ts r → (n : ℕ) → Before d text ts n
before d text _ _ at_start n = before-all d text [] (reader_at d text) n at_start (omega arith)
before d text _ _ (one_more {ts} {r} seen st a e f) n =
    before-one d text ts (taken r.machine seen) (onward r (taken r.machine seen) st) n (one_more seen st a e f) (λ h. before d text ts r a n) (placed n (length ts))

line-within : (d : ℕ) (text : List ℕ) (ts : List Token) (n : ℕ) → n ≤ length ts → Before d text ts n → (looked n (reader_at d text)).0 ≡ line_of_token text ts n
line-within d text ts n h b =
    let q = b.reader in
    let k : length (take n ts) + 0 ≡ n = omega (arith, length-take-le n ts h) in
    ap (λ (x : ℕ). (looked x (reader_at d text)).0) (sym k) ∙ ap (λ (x : ℕ × Bool). x.0) (looked-after d text (take n ts) q b.after 0)
    ∙ last-line (lexer_after q) (advanced q) ∙ sym (line-at d text (take n ts) q b.after)

-- nothing more is taken
abbrev pub Halts : Reader → Type 0
Halts r = (st : State) (m : Mode) (o : Openings) → advanced r ≡ advance.More st m o → ⊥

line-past : (d : ℕ) (text : List ℕ) (ts : List Token) (r : Reader) → After d text ts r → Halts r → (n k : ℕ) → n ≡ length ts + suc k →
    (looked n (reader_at d text)).0 ≡ line_of_token text ts n
line-past d text ts r a h n k e =
    ap (λ (x : ℕ). (looked x (reader_at d text)).0) e ∙ ap (λ (x : ℕ × Bool). x.0) (looked-after d text ts r a (suc k))
    ∙ ap (λ (x : ℕ × Bool). x.0) (looked-line (looked k) (lexer_after r) (advanced r) h) ∙ sym (line-at d text ts r a)
    ∙ ap (λ (us : List Token). line_after text us) (sym (take_all n ts (omega arith)))

line-where : (d : ℕ) (text : List ℕ) (ts : List Token) (r : Reader) → After d text ts r → Halts r → (n : ℕ) → Where n (length ts) →
    (looked n (reader_at d text)).0 ≡ line_of_token text ts n
line-where d text ts r a h n (within l) = line-within d text ts n l (before d text ts r a n)
line-where d text ts r a h n (past k e) = line-past d text ts r a h n k e

-- Reading once more finds the line of each token.
pub line-found : (d : ℕ) (text : List ℕ) (ts : List Token) (r : Reader) → After d text ts r → Halts r → (n : ℕ) →
    (looked n (reader_at d text)).0 ≡ line_of_token text ts n
line-found d text ts r a h n = line-where d text ts r a h n (placed n (length ts))

-- ---- with room for one more opening

abbrev pub deep_reader : Reader → Reader
deep_reader r = record { lexer = r.lexer; machine = deep r.machine; mode = r.mode; openings = r.openings }

pub after-deeper : (d : ℕ) (text : List ℕ) (ts : List Token) (r : Reader) → After d text ts r → After (suc d) text ts (deep_reader r)
after-deeper d text _ _ at_start = at_start
after-deeper d text _ _ (one_more {ts} {r} seen st a e f) = one_more seen (deep st) (after-deeper d text ts r a) e (deep-next r.machine st (taken r.machine seen) f)
