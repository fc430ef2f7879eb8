-- A text has one first bad token at most, and then it spells no script.
use Rattle.std.proofs.Common.{◌≡◌, ℕ, suc, List, [], ◌∷◌, ◌++◌, Option, Some, None, refl, sym, ap, subst, ◌∙◌}
use Rattle.std.specs.Prelude.{option_and_then}
use Rattle.sh_syntax.specs.declared.fault.Fault.{Fault}
use Rattle.sh_syntax.specs.declared.fault.Fault.TheVariants.{TooDeep}
use Rattle.sh_syntax.specs.declared.tree.Script.{Script}
use Rattle.sh_lexer.specs.declared.token.Token.{Token}
use Rattle.sh_lexer.specs.declared.token.Mode.{Mode}
use Rattle.sh_lexer.specs.declared.token.Mode.TheVariants.{Command}
use Rattle.sh_lexer.specs.Modes.{Reads, mode_after}
use Rattle.sh_lexer.specs.Lexes.{Source, source, Next, found, ended, wrong, next, mode_at, Front, Lexes}
use Rattle.sh_grammar.specs.Grammar.{Parses, max_nesting}
use Rattle.sh_grammar.specs.Spells.{Spells, Begins, BeginsWithin}
use Rattle.sh_grammar.specs.Machine.{State, step, accept, run, start, start_within}
use Rattle.sh_grammar.proofs.Complete.{complete}
use Rattle.sh_grammar.proofs.Sound.{sound}
use Rattle.sh_script.specs.declared.openings.Stop.{Stop}
use Rattle.sh_script.specs.declared.openings.Stop.TheVariants as stop
use Rattle.sh_script.specs.Turns.{ends_text, refused_at}
use Rattle.sh_script.specs.FirstBad.{line_after, Refused, Stops, refused, unformed, ended_early, named, FirstBad, too_deep, stops}
use Rattle.sh_script.proofs.Told.{reached, told-unique}
use Rattle.sh_script.proofs.Fits.{Stand, stand-start, stand-next}
use Rattle.sh_script.proofs.Text.{told_in, reach, run-append, reach-append, append-nil, same-token, some-of, some-reach, follows}
use Rattle.sh_script.proofs.Bad.{reach-begins, begins-reach}

-- ---- states that are reached stand

reach-stand : (ts : List Token) (from st : State) → Stand from.now from.room from.below → reach from ts ≡ Some st → Stand st.now st.room st.below
reach-stand [] from st h e = let same : from ≡ st = cc in subst (λ (x : State). Stand x.now x.room x.below) same h
reach-stand (t ∷ ts) from st h e =
    let a = some-reach (step from t) ts st e in
    reach-stand ts a.0 st (stand-next from a.0 t h a.1) a.2

-- ---- two ways to read the front of a text

-- what comes after the tokens goes on
record GoesOn (m : Mode) (us : List Token) (left : Source) (from : State) : Type 0 where
  pub seen : Token
  pub token : Token
  pub rest : Source
  pub state : State
  pub is_found : next (mode_at m us) left ≡ found seen rest
  pub reads : Reads seen token
  pub reached : reach from (us ++ token ∷ []) ≡ Some state

data Compare (m : Mode) (ts us : List Token) (left left' : Source) (from : State) : Type 0 where
  same : ts ≡ us → left ≡ left' → Compare m ts us left left' from
  longer : GoesOn m us left' from → Compare m ts us left left' from
  shorter : GoesOn m ts left from → Compare m ts us left left' from

step-one : (from st : State) (t : Token) → step from t ≡ Some st → reach from ([] ++ t ∷ []) ≡ Some st
step-one from st t e = ap (λ (o : Option State). option_and_then (λ x. reach x []) o) e

goes-on-first : (m : Mode) (t : Token) (ts : List Token) (q left left' : Source) (from st : State) → Front m q (t ∷ ts) left → reach from (t ∷ ts) ≡ Some st →
    q ≡ left' → GoesOn m [] left' from
goes-on-first m t ts q left left' from st f e g =
    let a = some-reach (step from t) ts st e in record {
      seen = f.0;
      token = t;
      rest = f.1;
      state = a.0;
      is_found = ap (λ (x : Source). next m x) (sym g) ∙ f.2;
      reads = f.3;
      reached = step-one from a.0 t a.1;
    }

goes-on-more : (m : Mode) (t : Token) (us : List Token) (left : Source) (from to : State) → step from t ≡ Some to → GoesOn (mode_after m t) us left to → GoesOn m (t ∷ us) left from
goes-on-more m t us left from to e g = record {
  seen = g.seen;
  token = g.token;
  rest = g.rest;
  state = g.state;
  is_found = g.is_found;
  reads = g.reads;
  reached = ap (λ (o : Option State). option_and_then (λ x. reach x (us ++ g.token ∷ [])) o) e ∙ g.reached;
}

compare-more : (m : Mode) (t : Token) (ts us : List Token) (left left' : Source) (from to : State) → step from t ≡ Some to →
    Compare (mode_after m t) ts us left left' to → Compare m (t ∷ ts) (t ∷ us) left left' from
compare-more m t ts us left left' from to e (same a b) = same (ap (λ (x : List Token). t ∷ x) a) b
compare-more m t ts us left left' from to e (longer g) = longer (goes-on-more m t us left' from to e g)
compare-more m t ts us left left' from to e (shorter g) = shorter (goes-on-more m t ts left from to e g)

compare : (ts us : List Token) (m : Mode) (q left left' : Source) (from st st' : State) → Front m q ts left → reach from ts ≡ Some st →
    Front m q us left' → reach from us ≡ Some st' → Compare m ts us left left' from
compare [] [] m q left left' from st st' f e g h = same refl (sym f ∙ g)
compare (t ∷ ts) [] m q left left' from st st' f e g h = longer (goes-on-first m t ts q left left' from st f e g)
compare [] (u ∷ us) m q left left' from st st' f e g h = shorter (goes-on-first m u us q left' left from st' g h f)
compare (t ∷ ts) (u ∷ us) m q left left' from st st' f e g h =
    let a = some-reach (step from t) ts st e in
    let c = some-reach (step from u) us st' h in
    let two = same-token (sym f.2 ∙ g.2) in
    let t-is = told-unique from.now from.below from.room from.script f.3 (reached (step from t) a.0 a.1) in
    let u-is = told-unique from.now from.below from.room from.script g.3 (reached (step from u) c.0 c.1) in
    let tu : t ≡ u = t-is ∙ ap (λ (y : Token). told_in from y) two.0 ∙ sym u-is in
    let both : Some a.0 ≡ Some c.0 = sym a.1 ∙ ap (λ (y : Token). step from y) tu ∙ c.1 in
    let states : a.0 ≡ c.0 = cc in
    let g' = subst (λ (y : Source). Front (mode_after m u) y us left') (sym two.1) g.4 in
    let g'' = subst (λ (y : Token). Front (mode_after m y) f.1 us left') (sym tu) g' in
    let h' = subst (λ (y : State). reach y us ≡ Some st') (sym states) c.2 in
    subst (λ (y : Token). Compare m (t ∷ ts) (y ∷ us) left left' from) tu
    (compare-more m t ts us left left' from a.0 a.1 (compare ts us (mode_after m t) f.1 left left' a.0 st st' f.4 a.2 g'' h'))

-- ---- where nothing goes on

-- no token that comes next goes on to a script
abbrev Stuck : List Token → Source → Type 0
Stuck ts left = (seen t : Token) (rest : Source) → next (mode_at Command ts) left ≡ found seen rest → Reads seen t → Begins (ts ++ t ∷ []) → ⊥

stuck-refused : (ts : List Token) (left : Source) (seen : Token) (after : Source) → next (mode_at Command ts) left ≡ found seen after → Refused max_nesting ts seen → Stuck ts left
stuck-refused ts left seen after e r seen' t rest e' q b =
    let two = same-token (sym e ∙ e') in r t (subst (λ (x : Token). Reads x t) (sym two.0) q) b

stuck-stops : (ts : List Token) (left : Source) (s : Stop) → Stops ts left s → Stuck ts left
stuck-stops ts left s (refused {seen} {after} e r k) = stuck-refused ts left seen after e r
stuck-stops ts left s (unformed {f} e) = λ seen t rest e' q b. let two : wrong f ≡ found seen rest = sym e ∙ e' in absurd cc
stuck-stops ts left s (ended_early e n) = λ seen t rest e' q b. let two : ended ≡ found seen rest = sym e ∙ e' in absurd cc

not-on : (ts : List Token) (left : Source) → Stuck ts left → GoesOn Command ts left start → ⊥
not-on ts left k g =
    k g.seen g.token g.rest g.is_found g.reads
    (reach-begins max_nesting (ts ++ g.token ∷ []) g.state g.reached (reach-stand (ts ++ g.token ∷ []) start g.state (stand-start max_nesting) g.reached))

compared : (text : List ℕ) (ts us : List Token) (left left' : Source) → Stuck ts left → Stuck us left' → Compare Command ts us left left' start → (ts ≡ us) × (left ≡ left')
compared text ts us left left' k l (same a b) = (a, b)
compared text ts us left left' k l (longer g) = absurd (not-on us left' l g)
compared text ts us left left' k l (shorter g) = absurd (not-on ts left k g)

one-place : (text : List ℕ) (ts us : List Token) (left left' : Source) → Front Command (source text []) ts left → Begins ts → Stuck ts left →
    Front Command (source text []) us left' → Begins us → Stuck us left' → (ts ≡ us) × (left ≡ left')
one-place text ts us left left' f b k g c l =
    let x = begins-reach max_nesting ts b in
    let y = begins-reach max_nesting us c in
    compared text ts us left left' k l (compare ts us Command (source text []) left left' start x.0 y.0 f x.1 g y.1)

-- ---- one fault

-- why it is the first bad token
data Why (text : List ℕ) (ts : List Token) (left : Source) : Fault → ℕ → Type 0 where
  deep : (seen t : Token) (after : Source) {f : Fault} {line : ℕ} → next (mode_at Command ts) left ≡ found seen after → Refused max_nesting ts seen → Reads seen t →
      BeginsWithin (suc max_nesting) (ts ++ t ∷ []) → f ≡ TooDeep → line ≡ line_after text ts → Why text ts left f line
  halts : (s : Stop) {f : Fault} {line : ℕ} → Stops ts left s → named text ts s ≡ (f, line) → Why text ts left f line

record Place (text : List ℕ) (f : Fault) (line : ℕ) : Type 0 where
  pub tokens : List Token
  pub left : Source
  pub front : Front Command (source text []) tokens left
  pub begins : Begins tokens
  pub stuck : Stuck tokens left
  pub why : Why text tokens left f line

place : (text : List ℕ) (f : Fault) (line : ℕ) → FirstBad text f line → Place text f line
place text _ _ (too_deep ts seen t left after g b e r q d) =
    record { tokens = ts; left = left; front = g; begins = b; stuck = stuck-refused ts left seen after e r; why = deep seen t after e r q d refl refl }
place text f line (stops ts left s g b h n) = record { tokens = ts; left = left; front = g; begins = b; stuck = stuck-stops ts left s h; why = halts s h n }

deep-stops : (ts : List Token) (left : Source) (seen t : Token) (after : Source) (s : Stop) → next (mode_at Command ts) left ≡ found seen after → Reads seen t →
    BeginsWithin (suc max_nesting) (ts ++ t ∷ []) → Stops ts left s → ⊥
deep-stops ts left seen t after s e q d (refused e' r k) =
    let two = same-token (sym e ∙ e') in k t (subst (λ (x : Token). Reads x t) two.0 q) d
deep-stops ts left seen t after s e q d (unformed {f} e') = let two : found seen after ≡ wrong f = sym e ∙ e' in absurd cc
deep-stops ts left seen t after s e q d (ended_early e' n) = let two : found seen after ≡ ended = sym e ∙ e' in absurd cc

one-stop : (ts : List Token) (left : Source) (s u : Stop) → Stops ts left s → Stops ts left u → s ≡ u
one-stop ts left _ _ (refused e r k) (refused e' r' k') = let two = same-token (sym e ∙ e') in ap (λ (x : Token). refused_at (ends_text x)) two.0
one-stop ts left _ _ (refused {seen} {after} e r k) (unformed {f} e') = let two : found seen after ≡ wrong f = sym e ∙ e' in absurd cc
one-stop ts left _ _ (refused {seen} {after} e r k) (ended_early e' n) = let two : found seen after ≡ ended = sym e ∙ e' in absurd cc
one-stop ts left _ _ (unformed {f} e) (refused {seen} {after} e' r k) = let two : wrong f ≡ found seen after = sym e ∙ e' in absurd cc
one-stop ts left _ _ (unformed {f} e) (unformed {f = g} e') = let two : wrong f ≡ wrong g = sym e ∙ e' in let one : f ≡ g = cc in ap (λ (x : Fault). stop.Bad x) one
one-stop ts left _ _ (unformed {f} e) (ended_early e' n) = let two : wrong f ≡ ended = sym e ∙ e' in absurd cc
one-stop ts left _ _ (ended_early e n) (refused {seen} {after} e' r k) = let two : ended ≡ found seen after = sym e ∙ e' in absurd cc
one-stop ts left _ _ (ended_early e n) (unformed {f} e') = let two : ended ≡ wrong f = sym e ∙ e' in absurd cc
one-stop ts left _ _ (ended_early e n) (ended_early e' n') = refl

one-why : (text : List ℕ) (ts : List Token) (left : Source) (f g : Fault) (line k : ℕ) → Why text ts left f line → Why text ts left g k → (f ≡ g) × (line ≡ k)
one-why text ts left f g line k (deep seen t after e r q d a b) (deep seen' t' after' e' r' q' d' a' b') = (a ∙ sym a', b ∙ sym b')
one-why text ts left f g line k (deep seen t after e r q d a b) (halts s h n) = absurd (deep-stops ts left seen t after s e q d h)
one-why text ts left f g line k (halts s h n) (deep seen t after e r q d a b) = absurd (deep-stops ts left seen t after s e q d h)
one-why text ts left f g line k (halts s h n) (halts u i o) =
    let two = sym n ∙ ap (λ (x : Stop). named text ts x) (one-stop ts left s u h i) ∙ o in
    (ap (λ (x : Fault × ℕ). x.0) two, ap (λ (x : Fault × ℕ). x.1) two)

pub one-bad : (text : List ℕ) (f g : Fault) (line k : ℕ) → FirstBad text f line → FirstBad text g k → (f ≡ g) × (line ≡ k)
one-bad text f g line k a b =
    let p = place text f line a in
    let q = place text g k b in
    let w = one-place text p.tokens q.tokens p.left q.left p.front p.begins p.stuck q.front q.begins q.stuck in
    let x = subst (λ (ts : List Token). Why text ts p.left f line) w.0 p.why in
    one-why text q.tokens q.left f g line k (subst (λ (y : Source). Why text q.tokens y f line) w.1 x) q.why

-- ---- no script

none-more : (text : List ℕ) (ts : List Token) (left : Source) (st : State) (f : Fault) (line : ℕ) (u : Script) (more : List Token) → reach start ts ≡ Some st →
    Stuck ts left → Why text ts left f line → Lexes (mode_at Command ts) left more → run st more ≡ Some u → ⊥
none-more text ts left st f line u [] e k (deep seen t after e' r q d a b) x g = let two : found seen after ≡ ended = sym e' ∙ x in absurd cc
none-more text ts left st f line u [] e k (halts _ (refused {seen} {after} e' r q) n) x g = let two : found seen after ≡ ended = sym e' ∙ x in absurd cc
none-more text ts left st f line u [] e k (halts _ (unformed {f = w} e') n) x g = let two : wrong w ≡ ended = sym e' ∙ x in absurd cc
none-more text ts left st f line u [] e k (halts _ (ended_early e' none) n) x g =
    none u (sound max_nesting ts u (ap (λ (us : List Token). run start us) (sym (append-nil ts)) ∙ run-append ts [] start
    ∙ ap (λ (o : Option State). option_and_then (λ y. run y []) o) e ∙ g))
none-more text ts left st f line u (t ∷ more) e k w x g =
    let c = some-of (step st t) more u g in
    let r : reach start (ts ++ t ∷ []) ≡ Some c.0 = reach-append ts t start ∙ ap (λ (o : Option State). option_and_then (λ y. step y t) o) e ∙ c.1 in
    k x.0 t x.1 x.2 x.3 (reach-begins max_nesting (ts ++ t ∷ []) c.0 r (reach-stand (ts ++ t ∷ []) start c.0 (stand-start max_nesting) r))

pub bad-none : (text : List ℕ) (f : Fault) (line : ℕ) (u : Script) → FirstBad text f line → Spells u text → ⊥
bad-none text f line u b p =
    let w = place text f line b in
    let x = begins-reach max_nesting w.tokens w.begins in
    let r = follows w.tokens p.tokens Command (source text []) w.left start x.0 u w.front x.1 p.lexed (complete p.parsed) in
    none-more text w.tokens w.left x.0 f line u r.0 x.1 w.stuck w.why r.1 r.2
