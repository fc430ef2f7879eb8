-- What is so while a text is read. There are few enough of everything, and so they stay until the text ends.
use Rattle.std.proofs.Common.{◌≡◌, ℕ, zero, suc, ◌+◌, ◌*◌, ◌-◌, ◌^◌, ◌<◌, ◌≤◌, Bool, true, false, List, [], ◌∷◌, ◌++◌, length, Option, Some, None, Result, Ok, Err, IfOk, IfSome, refl, sym, ap, subst, ◌∙◌, arith}
use Rattle.std.specs.declared.alloc.AllocError.{AllocError}
use Rattle.sh_lexer.specs.declared.token.Token.{Token}
use Rattle.sh_lexer.specs.declared.token.Mode.{Mode}
use Rattle.sh_lexer.specs.Modes.{mode_after}
use Rattle.sh_lexer.specs.Lexes.{Source, Next, found, ended, wrong, next}
use Rattle.sh_lexer.specs.declared.read.LexError.{LexError}
use Rattle.sh_lexer.specs.declared.read.LexError.TheVariants as error
use Rattle.sh_lexer.specs.Trail.{Trail, source_of, size, least, beginning, moved, line_of, Reads, Moves}
use Rattle.sh_grammar.specs.Grammar.{max_nesting}
use Rattle.sh_grammar.specs.Machine.{State, step, start_within}
use Rattle.sh_machine.specs.Taken.{taken}
use Rattle.sh_machine.specs.Numbered.{Numbered, Within}
use Rattle.sh_script.specs.declared.openings.Change.{Change}
use Rattle.sh_script.specs.declared.openings.Change.TheVariants as change
use Rattle.sh_script.specs.declared.openings.Openings.{Openings}
use Rattle.sh_script.specs.declared.openings.Stop.{Stop}
use Rattle.sh_script.specs.declared.openings.Stop.TheVariants as stop
use Rattle.sh_script.specs.declared.reading.Reader.{Reader}
use Rattle.sh_script.specs.declared.reading.Halt.{Halt}
use Rattle.sh_script.specs.declared.reading.Halt.TheVariants as halt
use Rattle.sh_script.specs.declared.reading.Advance.{Advance}
use Rattle.sh_script.specs.declared.reading.Advance.TheVariants as advance
use Rattle.sh_script.specs.Longest.{longest}
use Rattle.sh_script.specs.Openings.{change_of, changed, counted, after_token}
use Rattle.sh_script.specs.Turns.{reader_at, After, at_start, one_more, onward, refused_at, ends_text, taken_by, advanced_by, advanced, lexer_after, nesting, looked_by, asked_last, looked}
use Rattle.sh_script.specs.Readings.{Goes, IsRefused, Takes, Advances, Stopped, not_taken, no_token, Ended, Halted, IsAdvance, IsMore, HaltOf, IsRead}
use Rattle.sh_script.proofs.Counts.{weight, token-lighter}

-- how much can still be read
abbrev pub measure : Source → State → ℕ
measure q st = 2 * size q + weight st.now

pub record Stands (d : ℕ) (text : List ℕ) (r : Reader) : Type 0 where
  pub tokens : List Token
  pub after : After d text tokens r
  pub numbered : Numbered r.machine
  pub count : ℕ
  pub within : Within count r.machine
  pub opened : r.openings.count ≤ count
  pub few : count + measure (source_of r.lexer) r.machine ≤ 2 ^ 23

pub stands-start : (d : ℕ) (text : List ℕ) → d ≤ 101 → length text ≤ longest → Numbered (start_within d) → Within (suc d) (start_within d) → Stands d text (reader_at d text)
stands-start d text e l n w = record {
  tokens = [];
  after = at_start;
  numbered = n;
  count = suc d;
  within = w;
  opened = omega arith;
  few = omega (arith, l, e);
}

pub smaller : (r : Reader) (st : State) (m : Mode) (o : Openings) → Advances r st m o → measure (source_of (lexer_after r)) st < measure (source_of r.lexer) r.machine
smaller r st m o a = omega (arith, a.smaller, token-lighter r.machine st a.seen a.goes.step)

-- the reader after one more token
abbrev pub further : Reader → State → Mode → Openings → Reader
further r st m o = record { lexer = lexer_after r; machine = st; mode = m; openings = o }

further-is : (r : Reader) (st : State) (m n : Mode) (o p : Openings) → n ≡ m → p ≡ o → further r st n p ≡ further r st m o
further-is r st m n o p e f = ap (λ (x : Mode). further r st x p) e ∙ ap (λ (x : Openings). further r st m x) f

count-same : (c : Change) (p : Openings) → (changed c p).count ≡ p.count
count-same (change.Opens o) p = refl
count-same change.Closes p = refl
count-same change.EndsText p = refl
count-same change.Newline p = refl
count-same change.Operator p = refl
count-same change.Delimiter p = refl
count-same change.Body p = refl
count-same change.Verbatim p = refl
count-same change.Nothing p = refl

pub count-one : (t : Token) (p : Openings) → (after_token t p).count ≡ p.count + 1
count-one t p = ap (λ (n : ℕ). n + 1) (count-same (change_of t) p)

pub stands-next : (d : ℕ) (text : List ℕ) (r : Reader) (st : State) (m : Mode) (o : Openings) → Stands d text r → Advances r st m o → Stands d text (further r st m o)
stands-next d text r st m o s a =
    let t = taken r.machine a.seen in
    let c : o.count ≡ r.openings.count + 1 = ap (λ (x : Openings). x.count) a.goes.openings ∙ count-one t r.openings in
    record {
      tokens = s.tokens ++ t ∷ [];
      after = subst (λ (x : Reader). After d text (s.tokens ++ t ∷ []) x)
          (further-is r st m (mode_after r.mode t) o (after_token t r.openings) (sym a.goes.mode) (sym a.goes.openings)) (one_more a.seen st s.after a.is_found a.goes.step);
      numbered = a.goes.numbered;
      count = suc s.count;
      within = a.goes.counted s.count s.within;
      opened = omega (arith, c, s.opened);
      few = omega (arith, s.few, smaller r st m o a);
    }

within-more : (k n : ℕ) (st : State) → k ≤ n → Within k st → Within n st
within-more k n st h w = record {
  lists = omega (arith, h, w.lists);
  leaves = omega (arith, h, w.leaves);
  bodies = omega (arith, h, w.bodies);
  heres = omega (arith, h, w.heres);
  room = omega (arith, h, w.room);
}

pub stands-within : (d : ℕ) (text : List ℕ) (r : Reader) → Stands d text r → Within (2 ^ 32 - 1) r.machine
stands-within d text r s = within-more s.count (2 ^ 32 - 1) r.machine (omega (arith, s.few)) s.within

pub stands-few : (d : ℕ) (text : List ℕ) (r : Reader) → Stands d text r → r.openings.count < 2 ^ 32
stands-few d text r s = omega (arith, s.few, s.opened)

-- ---- what comes next

pub goes-advanced : (r : Reader) (st : State) (m : Mode) (o : Openings) → Advances r st m o → advanced r ≡ advance.More st m o
goes-advanced r st m o a =
    let t = taken r.machine a.seen in
    ap (λ (n : Next). advanced_by r n) a.is_found ∙ ap (λ (x : Option State). taken_by r a.seen t x) a.goes.step
    ∙ ap (λ (x : Mode). advance.More st x (after_token t r.openings)) (sym a.goes.mode) ∙ ap (λ (x : Openings). advance.More st m x) (sym a.goes.openings)

stopped-advanced : (r : Reader) (s : Stop) (p : Openings) → Stopped r s p → advanced r ≡ advance.Halts (halt.Stopped s p)
stopped-advanced r s p (not_taken {seen} e h) =
    ap (λ (n : Next). advanced_by r n) e ∙ ap (λ (x : Option State). taken_by r seen (taken r.machine seen) x) h.none
    ∙ ap (λ (x : Stop). advance.Halts (halt.Stopped x r.openings)) (sym h.stop) ∙ ap (λ (x : Openings). advance.Halts (halt.Stopped s x)) (sym h.openings)
stopped-advanced r s p (no_token {f} e h k) =
    ap (λ (n : Next). advanced_by r n) e ∙ ap (λ (x : Stop). advance.Halts (halt.Stopped x r.openings)) (sym h) ∙ ap (λ (x : Openings). advance.Halts (halt.Stopped s x)) (sym k)

pub halted-advanced : (r : Reader) (h : Halt) → Halted r h → advanced r ≡ advance.Halts h
halted-advanced r (halt.Ended st p) e =
    ap (λ (n : Next). advanced_by r n) e.is_ended ∙ ap (λ (x : State). advance.Halts (halt.Ended x r.openings)) (sym e.machine)
    ∙ ap (λ (x : Openings). advance.Halts (halt.Ended st x)) (sym e.openings)
halted-advanced r (halt.Stopped s p) e = stopped-advanced r s p e

-- ---- what calls give

-- a token that is seen
pub advance-of : (r : Reader) (seen : Token) (n : Advance) → next r.mode (source_of r.lexer) ≡ found seen (source_of (lexer_after r)) →
    size (source_of (lexer_after r)) + least seen ≤ size (source_of r.lexer) → Takes (Ok n) r.machine r.mode r.openings seen → IsAdvance r n
advance-of r seen (advance.More st m o) e h g = record { seen = seen; is_found = e; smaller = h; goes = g }
advance-of r seen (advance.Halts (halt.Stopped s p)) e h g = not_taken e g
advance-of r seen (advance.Halts (halt.Ended st p)) e h g = absurd g

-- no token
pub halt-of : (r : Reader) (x : LexError) (h : Halt) → Reads (Err x) r.mode r.lexer (lexer_after r) → HaltOf (Ok h) x r.machine r.openings → Halted r h
halt-of r error.Memory h e k = absurd k
halt-of r error.End h e k = subst (λ (y : Halt). Halted r y) (sym k) (record { is_ended = e; machine = refl; openings = refl })
halt-of r (error.Bad f) h e k = subst (λ (y : Halt). Halted r y) (sym k) (no_token e refl refl)

pub moves-of : (x : LexError) (h : Halt) (st : State) (p : Openings) (m : Mode) (old new : Trail) → HaltOf (Ok h) x st p → Moves (Err x) m old new → new ≡ moved m old
moves-of error.Memory h st p m old new k e = absurd k
moves-of error.End h st p m old new k e = e
moves-of (error.Bad f) h st p m old new k e = e

-- a token that was seen, where it is taken
pub takes-more : (r : Result Advance AllocError) (x : Result Openings AllocError) (old st : State) (m after : Mode) (o : Openings) (seen : Token) → IsMore r st after x →
    IfOk x (λ p. p ≡ counted (changed (change_of (taken old seen)) o)) → step old (taken old seen) ≡ Some st → after ≡ mode_after m (taken old seen) → Numbered st →
    ((k : ℕ) → Within k old → Within (suc k) st) → Takes r old m o seen
takes-more (Err e) x old st m after o seen h p s a n w = tt
takes-more (Ok y) (Err e) old st m after o seen h p s a n w = absurd h
takes-more (Ok y) (Ok q) old st m after o seen h p s a n w =
    subst (λ (z : Advance). Takes (Ok z) old m o seen) (sym h) (record { step = s; mode = a; openings = p; numbered = n; counted = w })

pub takes-told : (r : Result Advance AllocError) (x : Result Openings AllocError) (old st : State) (m after : Mode) (o : Openings) (seen tk : Token) (ch : Change) (os : Option State) →
    tk ≡ taken old seen → ch ≡ change_of tk → IsMore r st after x → IfOk x (λ p. p ≡ counted (changed ch o)) → os ≡ step old tk → os ≡ Some st → after ≡ mode_after m tk →
    IfSome os Numbered → ((k : ℕ) → Within k old → IfSome os (Within (suc k))) → Takes r old m o seen
takes-told r x old st m after o seen tk ch os t c h p s i a n w =
    let q = subst (λ (y : Change). IfOk x (λ p. p ≡ counted (changed y o))) c p in
    takes-more r x old st m after o seen h (subst (λ (y : Token). IfOk x (λ p. p ≡ counted (changed (change_of y) o))) t q)
    (ap (λ (y : Token). step old y) (sym t) ∙ (sym s ∙ i)) (a ∙ ap (λ (y : Token). mode_after m y) t)
    (subst (λ (y : Option State). IfSome y Numbered) i n) (λ k u. subst (λ (y : Option State). IfSome y (Within (suc k))) i (w k u))

-- ---- loops

pub stands-begin : (d : ℕ) (text : List ℕ) (r : Reader) → d ≤ 101 → length text ≤ longest → r ≡ reader_at d text → Numbered r.machine → Within (suc d) r.machine → Stands d text r
stands-begin d text r e l i n w =
    subst (λ (x : Reader). Stands d text x) (sym i)
    (stands-start d text e l (subst (λ (x : Reader). Numbered x.machine) i n) (subst (λ (x : Reader). Within (suc d) x.machine) i w))

-- how many things may be open
pub nesting-few : (b : Bool) → nesting b ≤ 101
nesting-few true = omega arith
nesting-few false = omega arith

advances : (r : Reader) (n : Advance) (st : State) (m : Mode) (o : Openings) → IsAdvance r n → n ≡ advance.More st m o → Advances r st m o
advances r n st m o i e = subst (λ (x : Advance). IsAdvance r x) e i

halts : (r : Reader) (n : Advance) (h : Halt) → IsAdvance r n → n ≡ advance.Halts h → Halted r h
halts r n h i e = subst (λ (x : Advance). IsAdvance r x) e i

pub moved-on : (d : ℕ) (text : List ℕ) (r : Reader) (t : Trail) (n : Advance) (st : State) (m : Mode) (o : Openings) → Stands d text r → t ≡ lexer_after r →
    IsAdvance r n → n ≡ advance.More st m o → Stands d text (record { lexer = t; machine = st; mode = m; openings = o })
moved-on d text r t n st m o s e i f =
    subst (λ (x : Trail). Stands d text (record { lexer = x; machine = st; mode = m; openings = o })) (sym e) (stands-next d text r st m o s (advances r n st m o i f))

pub moved-smaller : (r : Reader) (t : Trail) (n : Advance) (st : State) (m : Mode) (o : Openings) → t ≡ lexer_after r → IsAdvance r n → n ≡ advance.More st m o →
    measure (source_of t) st < measure (source_of r.lexer) r.machine
moved-smaller r t n st m o e i f =
    subst (λ (x : Trail). measure (source_of x) st < measure (source_of r.lexer) r.machine) (sym e) (smaller r st m o (advances r n st m o i f))

pub read-halt : (text : List ℕ) (r : Reader) (n : Advance) (h : Halt) → Stands max_nesting text r → IsAdvance r n → n ≡ advance.Halts h → IsRead text h
read-halt text r n h s i e = record { tokens = s.tokens; reader = r; after = s.after; numbered = s.numbered; halted = halts r n h i e }

looked-more : (k : Reader → ℕ × Bool) (r : Reader) (t : Trail) (n : Advance) (st : State) (m : Mode) (o : Openings) → t ≡ lexer_after r → IsAdvance r n → n ≡ advance.More st m o →
    looked_by k (lexer_after r) (advanced r) ≡ k (record { lexer = t; machine = st; mode = m; openings = o })
looked-more k r t n st m o e i f =
    ap (λ (x : Advance). looked_by k (lexer_after r) x) (goes-advanced r st m o (advances r n st m o i f))
    ∙ ap (λ (x : Trail). k (record { lexer = x; machine = st; mode = m; openings = o })) (sym e)

pub looked-last : (left line : ℕ) (r : Reader) (t : Trail) (n : Advance) (st : State) (m : Mode) (o : Openings) → left ≡ 0 → line ≡ line_of t t.last → t ≡ lexer_after r →
    IsAdvance r n → n ≡ advance.More st m o → ◌≡◌ {A = ℕ × Bool} (line, true) (looked left r)
looked-last left line r t n st m o z l e i f =
    ap (λ (x : ℕ). (x, true)) l ∙ sym (ap (λ (x : ℕ). looked x r) z ∙ looked-more asked_last r t n st m o e i f)

pub looked-next : (left : ℕ) (r : Reader) (t : Trail) (n : Advance) (st : State) (m : Mode) (o : Openings) → 0 < left → t ≡ lexer_after r →
    IsAdvance r n → n ≡ advance.More st m o → looked (left - 1) (record { lexer = t; machine = st; mode = m; openings = o }) ≡ looked left r
looked-next zero r t n st m o z e i f = absurd (omega arith)
looked-next (suc k) r t n st m o z e i f =
    let k-is : suc k - 1 ≡ k = omega arith in
    ap (λ (x : ℕ). looked x (record { lexer = t; machine = st; mode = m; openings = o })) k-is ∙ sym (looked-more (looked k) r t n st m o e i f)

looked-by-halts : (k : Reader → ℕ × Bool) (r : Reader) (n : Advance) (h : Halt) → IsAdvance r n → n ≡ advance.Halts h →
    looked_by k (lexer_after r) (advanced r) ≡ (line_of (lexer_after r) (lexer_after r).last, false)
looked-by-halts k r n h i e = ap (λ (x : Advance). looked_by k (lexer_after r) x) (halted-advanced r h (halts r n h i e))

looked-halts : (left : ℕ) (r : Reader) (n : Advance) (h : Halt) → IsAdvance r n → n ≡ advance.Halts h → looked left r ≡ (line_of (lexer_after r) (lexer_after r).last, false)
looked-halts zero r n h i e = looked-by-halts asked_last r n h i e
looked-halts (suc k) r n h i e = looked-by-halts (looked k) r n h i e

pub looked-halt : (left line : ℕ) (r : Reader) (t : Trail) (n : Advance) (h : Halt) → line ≡ line_of t t.last → t ≡ lexer_after r →
    IsAdvance r n → n ≡ advance.Halts h → ◌≡◌ {A = ℕ × Bool} (line, false) (looked left r)
looked-halt left line r t n h l e i f =
    ap (λ (x : ℕ). (x, false)) (l ∙ ap (λ (x : Trail). line_of x x.last) e) ∙ sym (looked-halts left r n h i f)
