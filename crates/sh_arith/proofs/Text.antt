-- From tokens to bytes.
use Rattle.std.proofs.Common.{◌≡◌, ℕ, ◌-◌, ◌<◌, ◌≤◌, List, [], ◌∷◌, ◌++◌, length, Option, Some, None, refl, sym, ap, subst, ◌∙◌, arith, append_assoc}
use Rattle.std.specs.Prelude.{option_and_then}
use Rattle.sh_arith.specs.declared.token.Token.{Token}
use Rattle.sh_arith.specs.declared.instr.Instr.{Instr}
use Rattle.sh_arith.specs.declared.instr.Now.{Now}
use Rattle.sh_arith.specs.declared.instr.Rest.{Rest}
use Rattle.sh_arith.specs.Grammar.{Tree, Spells, Begins, refused, unformed, unended}
use Rattle.sh_arith.specs.Lex.{lex, Lexed, got, done, bad, Lexes, Front, place, skip, token_at}
use Rattle.sh_arith.specs.Machine.{State, at, step_now, accept_now, run, start, emit}
use Rattle.sh_arith.specs.Compiled.{IsCodeOf, IsNone}
use Rattle.sh_arith.proofs.Complete.{complete}
use Rattle.sh_arith.proofs.Sound.{sound, At, Next, nothing, step-sound, room-small}
use Rattle.sh_arith.proofs.Decode.{same_tree}
use Rattle.sh_arith.proofs.Progress.{token-smaller}
use Rattle.sh_arith.proofs.Viable.{viable}

-- The tokens read so far, after which the machine is in this state.
pub record Known (text left : List ℕ) (now : Now) (r : Rest) : Type 0 where
  pub tokens : List Token
  pub front : Front (length text) text tokens left
  pub led : (more : List Token) → run start (tokens ++ more) ≡ run (at now r) more
  pub stands : (more : List Token) → At (tokens ++ more) now r.stack r.code r.room more

pub known-start : (text : List ℕ) → Known text text start.now start.rest
known-start text = record { tokens = []; front = refl; led = λ more. refl; stands = λ more. nothing }

front-snoc : (n : ℕ) (text : List ℕ) (ts : List Token) (left : List ℕ) (t : Token) (after : List ℕ) → Front n text ts left → lex n left ≡ got t after → Front n text (ts ++ t ∷ []) after
front-snoc n text [] left t after f e = (after, ap (lex n) f ∙ e, refl)
front-snoc n text (u ∷ ts) left t after f e = (f.0, f.1, front-snoc n f.0 ts left t after f.2 e)

pub known-next : (text left : List ℕ) (now : Now) (r : Rest) (t : Token) (after : List ℕ) (now' : Now) (r' : Rest) → Known text left now r → lex (length text) left ≡ got t after →
    step_now now r t ≡ Some (at now' r') → Known text after now' r'
known-next text left now r t after now' r' k e next = record {
  tokens = k.tokens ++ t ∷ [];
  front = front-snoc (length text) text k.tokens left t after k.front e;
  led = λ more. ap (run start) (append_assoc k.tokens (t ∷ []) more) ∙ k.led (t ∷ more) ∙ ap (λ (o : Option State). option_and_then (λ st. run st more) o) next;
  stands = λ more.
      let whole = k.tokens ++ t ∷ more in
      let one = subst (λ (o : Option State). Next whole o more) next (step-sound whole now r.room r.stack r.code t more (k.stands (t ∷ more))) in
      subst (λ (ts : List Token). At ts now' r'.stack r'.code r'.room more) (sym (append_assoc k.tokens (t ∷ []) more)) one;
}

-- there is room for all brackets that are open
pub known-room : (text left : List ℕ) (now : Now) (r : Rest) → Known text left now r → r.room ≤ 100
known-room text left now r k = room-small (k.tokens ++ []) now r.stack r.code r.room [] (k.stands [])

-- the tokens that come before begin an expression
begun : (text left : List ℕ) (now : Now) (r : Rest) (k : Known text left now r) → Begins k.tokens
begun text left now r k =
    let v = viable now r in
    let s = sound (k.tokens ++ v.0) v.1 (k.led v.0 ∙ v.2) in
    (v.0, s.tree, s.parsed)

same-token : {t u : Token} {r q : List ℕ} → got t r ≡ got u q → (t ≡ u) × (r ≡ q)
same-token e = (cc, cc)

-- all tokens of a text are those of its front and of what is left
rest-of : (n : ℕ) (text : List ℕ) (ts : List Token) (left : List ℕ) (us : List Token) → Front n text ts left → Lexes n text us → (more : List Token) × Lexes n left more × (us ≡ ts ++ more)
rest-of n text [] left us f x = (us, subst (λ (l : List ℕ). Lexes n l us) f x, refl)
rest-of n text (t ∷ ts) left [] f x = let wrong : got t f.0 ≡ done = sym f.1 ∙ x in absurd cc
rest-of n text (t ∷ ts) left (u ∷ us) f x =
    let same = same-token (sym x.1 ∙ f.1) in
    let r = rest-of n f.0 ts left us f.2 (subst (λ (l : List ℕ). Lexes n l us) same.1 x.2) in
    (r.0, r.1, let tail = r.2 in let head = same.0 in cc)

none-then : (o : Option State) (more : List Token) → o ≡ None → option_and_then (λ st. run st more) o ≡ None
none-then None more e = refl
none-then (Some st) more e = absurd cc

-- of an expression's tokens, those after the front lead on
led-on : (text left : List ℕ) (now : Now) (r : Rest) (k : Known text left now r) (t : Tree) → Spells t text →
    (more : List Token) × Lexes (length text) left more × (run (at now r) more ≡ Some (emit t []))
led-on text left now r k t s =
    let m = rest-of (length text) text k.tokens left s.tokens k.front s.lexed in
    (m.0, m.1, sym (k.led m.0) ∙ ap (run start) (sym m.2) ∙ complete s.parsed)

refuse : (text left : List ℕ) (now : Now) (r : Rest) (t : Token) (more : List Token) (all : List Instr) → step_now now r t ≡ None → run (at now r) (t ∷ more) ≡ Some all → ⊥
refuse text left now r t more all e h = let wrong : None ≡ Some all = sym (none-then (step_now now r t) more e) ∙ h in cc

pub known-refused : (text left : List ℕ) (now : Now) (r : Rest) (t : Token) (after : List ℕ) → Known text left now r → lex (length text) left ≡ got t after →
    step_now now r t ≡ None → IsNone (place (length text) left) text
known-refused text left now r t after k e refusal = record {
  first = refused left after t k.tokens k.front (begun text left now r k) e (λ b.
      let h : run start ((k.tokens ++ t ∷ []) ++ b.0) ≡ Some (emit b.1 []) = complete b.2 in
      refuse text left now r t b.0 (emit b.1 []) refusal (sym (k.led (t ∷ b.0)) ∙ ap (run start) (sym (append_assoc k.tokens (t ∷ []) b.0)) ∙ h));
  none = λ u s. let l = led-on text left now r k u s in by l.0 l.1 (emit u []) l.2;
}
  where
    by : (more : List Token) → Lexes (length text) left more → (all : List Instr) → run (at now r) more ≡ Some all → ⊥
    by [] x all h = let wrong : got t after ≡ done = sym e ∙ x in cc
    by (u ∷ more) x all h = refuse text left now r u more all (ap (step_now now r) (sym (same-token (sym e ∙ x.1)).0) ∙ refusal) h

pub known-bad : (text left : List ℕ) (now : Now) (r : Rest) → Known text left now r → lex (length text) left ≡ bad → IsNone (place (length text) left) text
known-bad text left now r k e = record {
  first = unformed left k.tokens k.front (begun text left now r k) e;
  none = λ u s. let l = led-on text left now r k u s in by l.0 l.1;
}
  where
    by : (more : List Token) → Lexes (length text) left more → ⊥
    by [] x = let wrong : bad ≡ done = sym e ∙ x in cc
    by (u ∷ more) x = let wrong : bad ≡ got u x.0 = sym e ∙ x.1 in cc

ended : (n : ℕ) (left : List ℕ) (more : List Token) → lex n left ≡ done → Lexes n left more → more ≡ []
ended n left [] e x = refl
ended n left (u ∷ more) e x = let wrong : got u x.0 ≡ done = sym x.1 ∙ e in absurd cc

append-nil : (ts : List Token) → ts ++ [] ≡ ts
append-nil [] = refl
append-nil (t ∷ ts) = ap (λ (us : List Token). t ∷ us) (append-nil ts)

lexed : (n : ℕ) (text : List ℕ) (ts : List Token) (left : List ℕ) → Front n text ts left → lex n left ≡ done → Lexes n text ts
lexed n text [] left f e = ap (lex n) f ∙ e
lexed n text (t ∷ ts) left f e = (f.0, f.1, lexed n f.0 ts left f.2 e)

at-end : (text left : List ℕ) (now : Now) (r : Rest) (k : Known text left now r) → run start k.tokens ≡ accept_now now r
at-end text left now r k = ap (run start) (sym (append-nil k.tokens)) ∙ k.led []

pub known-unended : (text left : List ℕ) (now : Now) (r : Rest) → Known text left now r → lex (length text) left ≡ done → accept_now now r ≡ None → IsNone (length text) text
known-unended text left now r k e refusal = record {
  first = unended left k.tokens k.front (begun text left now r k) e (λ t p. let wrong : None ≡ Some (emit t []) = sym refusal ∙ sym (at-end text left now r k) ∙ complete p in cc);
  none = λ u s.
      let l = led-on text left now r k u s in
      let nil = ended (length text) left l.0 e l.1 in
      let wrong : None ≡ Some (emit u []) = sym refusal ∙ ap (run (at now r)) (sym nil) ∙ l.2 in
      cc;
}

pub known-whole : (text left : List ℕ) (now : Now) (r : Rest) (all : List Instr) → Known text left now r → lex (length text) left ≡ done → accept_now now r ≡ Some all → IsCodeOf all text
known-whole text left now r all k e ok =
    let s = sound k.tokens all (at-end text left now r k ∙ ok) in
    record {
      tree = s.tree;
      of_text = record {
        spelled = record { tokens = k.tokens; lexed = lexed (length text) text k.tokens left k.front e; parsed = s.parsed };
        only = λ u p.
            let l = led-on text left now r k u p in
            let nil = ended (length text) left l.0 e l.1 in
            let one : Some (emit u []) ≡ Some all = sym l.2 ∙ ap (run (at now r)) nil ∙ ok in
            let same : emit u [] ≡ all = cc in
            same_tree u s.tree (same ∙ s.same);
      };
      same = s.same;
    }

-- the next token is the one at the begin of what is left after the gap
pub lexed-here : (text left here : List ℕ) (l : Lexed) → here ≡ skip left → token_at (length text - length here) here ≡ l → lex (length text) left ≡ l
lexed-here text left here l h e = ap (λ (x : List ℕ). token_at (length text - length x) x) (sym h) ∙ e

pub none-here : (text left here : List ℕ) → here ≡ skip left → IsNone (place (length text) left) text → IsNone (length text - length here) text
none-here text left here h n = subst (λ (x : List ℕ). IsNone (length text - length x) text) (sym h) n

-- less is left after a token
pub smaller-here : (p : ℕ) (here left after : List ℕ) (t : Token) → token_at p here ≡ got t after → length here ≤ length left → length after < length left
smaller-here p here left after t e h = let s = token-smaller p here t after e in omega arith
