-- From tokens to bytes.
use Rattle.std.proofs.Common.{◌≡◌, ℕ, List, [], ◌∷◌, ◌++◌, Option, Some, None, refl, sym, ap, subst, ◌∙◌}
use Rattle.std.specs.Prelude.{option_and_then}
use Rattle.sh_syntax.specs.declared.fault.Fault.{Fault}
use Rattle.sh_syntax.specs.declared.tree.Script.{Script}
use Rattle.sh_lexer.specs.declared.token.Token.{Token}
use Rattle.sh_lexer.specs.declared.token.Mode.{Mode}
use Rattle.sh_lexer.specs.declared.token.Mode.TheVariants as mode
use Rattle.sh_lexer.specs.Modes.{Reads, mode_after}
use Rattle.sh_lexer.specs.Lexes.{Lexes, Front, Source, source, Next, found, ended, wrong, next, mode_at}
use Rattle.sh_grammar.specs.Machine.{State, step, accept, run, start}
use Rattle.sh_grammar.specs.Grammar.{max_nesting}
use Rattle.sh_grammar.specs.Told.{told}
use Rattle.sh_grammar.specs.Spells.{Spells}
use Rattle.sh_grammar.proofs.Complete.{complete}
use Rattle.sh_grammar.proofs.Sound.{sound}
use Rattle.sh_grammar.proofs.Reading.{told-reads}
use Rattle.sh_script.proofs.Told.{reached, told-unique}

abbrev pub told_in : State → Token → Token
told_in st t = told st.now st.below st.script.due t

-- ---- states after tokens

abbrev pub reach : State → List Token → Option State
reach st [] = Some st
reach st (t ∷ ts) = option_and_then (λ x. reach x ts) (step st t)

reach-then : (o : Option State) (ts more : List Token) →
    ((st : State) → run st (ts ++ more) ≡ option_and_then (λ x. run x more) (reach st ts)) →
    option_and_then (λ x. run x (ts ++ more)) o ≡ option_and_then (λ x. run x more) (option_and_then (λ x. reach x ts) o)
reach-then None ts more f = refl
reach-then (Some st) ts more f = f st

pub run-append : (ts more : List Token) (st : State) → run st (ts ++ more) ≡ option_and_then (λ x. run x more) (reach st ts)
run-append [] more st = refl
run-append (t ∷ ts) more st = reach-then (step st t) ts more (run-append ts more)

reach-one : (o : Option State) (ts : List Token) (t : Token) →
    ((st : State) → reach st (ts ++ t ∷ []) ≡ option_and_then (λ x. step x t) (reach st ts)) →
    option_and_then (λ x. reach x (ts ++ t ∷ [])) o ≡ option_and_then (λ x. step x t) (option_and_then (λ x. reach x ts) o)
reach-one None ts t f = refl
reach-one (Some st) ts t f = f st

step-is : (o : Option State) → option_and_then (λ x. reach x []) o ≡ o
step-is None = refl
step-is (Some st) = refl

pub reach-append : (ts : List Token) (t : Token) (st : State) → reach st (ts ++ t ∷ []) ≡ option_and_then (λ x. step x t) (reach st ts)
reach-append [] t st = step-is (step st t)
reach-append (u ∷ ts) t st = reach-one (step st u) ts t (reach-append ts t)

-- ---- the tokens so far

pub front-one : (m : Mode) (q : Source) (ts : List Token) (left : Source) (seen t : Token) (after : Source) →
    Front m q ts left → next (mode_at m ts) left ≡ found seen after → Reads seen t → Front m q (ts ++ t ∷ []) after
front-one m q [] left seen t after f e r = (seen, after, ap (λ (x : Source). next m x) f ∙ e, r, refl)
front-one m q (u ∷ ts) left seen t after f e r = (f.0, f.1, f.2, f.3, front-one (mode_after m u) f.1 ts left seen t after f.4 e r)

pub mode-one : (m : Mode) (ts : List Token) (t : Token) → mode_at m (ts ++ t ∷ []) ≡ mode_after (mode_at m ts) t
mode-one m [] t = refl
mode-one m (u ∷ ts) t = mode-one (mode_after m u) ts t

-- The tokens read so far, and the state that they lead to.
pub record Known (q : Source) (m : Mode) (left : Source) (st : State) : Type 0 where
  pub tokens : List Token
  pub front : Front mode.Command q tokens left
  pub reached : reach start tokens ≡ Some st
  pub mode : mode_at mode.Command tokens ≡ m

pub known-start : (q : Source) → Known q mode.Command q start
known-start q = record { tokens = []; front = refl; reached = refl; mode = refl }

pub known-next : (q : Source) (m : Mode) (left : Source) (st : State) (seen : Token) (after : Source) (st' : State) →
    Known q m left st → next m left ≡ found seen after → step st (told_in st seen) ≡ Some st' → Known q (mode_after m (told_in st seen)) after st'
known-next q m left st seen after st' k e f = record {
  tokens = k.tokens ++ told_in st seen ∷ [];
  front = front-one mode.Command q k.tokens left seen (told_in st seen) after k.front (ap (λ (x : Mode). next x left) k.mode ∙ e)
      (told-reads st.now st.below st.script.due seen);
  reached = reach-append k.tokens (told_in st seen) start ∙ ap (λ (o : Option State). option_and_then (λ x. step x (told_in st seen)) o) k.reached ∙ f;
  mode = mode-one mode.Command k.tokens (told_in st seen) ∙ ap (λ (x : Mode). mode_after x (told_in st seen)) k.mode;
}

-- ---- another way to read the text

pub same-token : {t u : Token} {r q : Source} → found t r ≡ found u q → (t ≡ u) × (r ≡ q)
same-token e = (cc, cc)

pub some-of : (o : Option State) (ts : List Token) (all : Script) → option_and_then (λ x. run x ts) o ≡ Some all →
    (st : State) × (o ≡ Some st) × (run st ts ≡ Some all)
some-of None ts all e = absurd cc
some-of (Some st) ts all e = (st, refl, e)

-- the state that is reached on the way to a script
pub some-reached : (o : Option State) (ts : List Token) (all : Script) → option_and_then (λ x. run x ts) o ≡ Some all → (st : State) × (o ≡ Some st)
some-reached None ts all e = absurd cc
some-reached (Some st) ts all e = (st, refl)

pub some-reach : (o : Option State) (ts : List Token) (x : State) → option_and_then (λ y. reach y ts) o ≡ Some x →
    (st : State) × (o ≡ Some st) × (reach st ts ≡ Some x)
some-reach None ts x e = absurd cc
some-reach (Some st) ts x e = (st, refl, e)

-- From a state, two ways to read a text of which one leads to a script: it begins with the other.
pub follows : (ts us : List Token) (m : Mode) (q left : Source) (from st : State) (all : Script) → Front m q ts left → reach from ts ≡ Some st →
    Lexes m q us → run from us ≡ Some all → (more : List Token) × Lexes (mode_at m ts) left more × (run st more ≡ Some all)
follows [] us m q left from st all f e x g =
    let same : from ≡ st = cc in
    (us, subst (λ (t : Source). Lexes m t us) f x, subst (λ (y : State). run y us ≡ Some all) same g)
follows (t ∷ ts) [] m q left from st all f e x g = let no : found f.0 f.1 ≡ ended = sym f.2 ∙ x in absurd cc
follows (t ∷ ts) (u ∷ us) m q left from st all f e x g =
    let a = some-reach (step from t) ts st e in
    let c = some-of (step from u) us all g in
    let same = same-token (sym f.2 ∙ x.2) in
    let t-is = told-unique from.now from.below from.room from.script f.3 (reached (step from t) a.0 a.1) in
    let u-is = told-unique from.now from.below from.room from.script x.3 (reached (step from u) c.0 c.1) in
    let tu : t ≡ u = t-is ∙ ap (λ (y : Token). told_in from y) same.0 ∙ sym u-is in
    let two : Some a.0 ≡ Some c.0 = sym a.1 ∙ ap (λ (y : Token). step from y) tu ∙ c.1 in
    let states : a.0 ≡ c.0 = cc in
    let x' = subst (λ (y : Source). Lexes (mode_after m u) y us) (sym same.1) x.4 in
    let x'' = subst (λ (y : Token). Lexes (mode_after m y) f.1 us) (sym tu) x' in
    follows ts us (mode_after m t) f.1 left a.0 st all f.4 a.2 x'' (subst (λ (y : State). run y us ≡ Some all) (sym states) c.2)

known-spelled : (text : List ℕ) (m : Mode) (left : Source) (st : State) (all : Script) → Known (source text []) m left st → Spells all text →
    (more : List Token) × Lexes m left more × (run st more ≡ Some all)
known-spelled text m left st all k p =
    let r = follows k.tokens p.tokens mode.Command (source text []) left start st all k.front k.reached p.lexed (complete p.parsed) in
    (r.0, subst (λ (x : Mode). Lexes x left r.0) k.mode r.1, r.2)

-- ---- the end

ended-more : (m : Mode) (left : Source) (more : List Token) → Lexes m left more → next m left ≡ ended → more ≡ []
ended-more m left [] x e = refl
ended-more m left (t ∷ ts) x e = let no : found x.0 x.1 ≡ ended = sym x.2 ∙ e in absurd cc

lexes-all : (m : Mode) (q : Source) (ts : List Token) (left : Source) → Front m q ts left → next (mode_at m ts) left ≡ ended → Lexes m q ts
lexes-all m q [] left f e = ap (λ (x : Source). next m x) f ∙ e
lexes-all m q (t ∷ ts) left f e = (f.0, f.1, f.2, f.3, lexes-all (mode_after m t) f.1 ts left f.4 e)

pub append-nil : (ts : List Token) → ts ++ [] ≡ ts
append-nil [] = refl
append-nil (t ∷ ts) = ap (λ (x : List Token). t ∷ x) (append-nil ts)

pub known-run : (q : Source) (m : Mode) (left : Source) (st : State) (k : Known q m left st) → run start k.tokens ≡ accept st
known-run q m left st k =
    ap (λ (x : List Token). run start x) (sym (append-nil k.tokens)) ∙ run-append k.tokens [] start ∙ ap (λ (o : Option State). option_and_then (λ x. run x []) o) k.reached

pub known-spells : (text : List ℕ) (m : Mode) (left : Source) (st : State) (all : Script) → Known (source text []) m left st →
    next m left ≡ ended → accept st ≡ Some all → Spells all text
known-spells text m left st all k e ok = record {
  tokens = k.tokens;
  lexed = lexes-all mode.Command (source text []) k.tokens left k.front (ap (λ (x : Mode). next x left) k.mode ∙ e);
  parsed = sound max_nesting k.tokens all (known-run (source text []) m left st k ∙ ok);
}

pub known-only : (text : List ℕ) (m : Mode) (left : Source) (st : State) (all : Script) → Known (source text []) m left st →
    next m left ≡ ended → accept st ≡ Some all → (u : Script) → Spells u text → u ≡ all
known-only text m left st all k e ok u p =
    let r = known-spelled text m left st u k p in
    let two : Some u ≡ Some all = sym r.2 ∙ ap (λ (x : List Token). run st x) (ended-more m left r.0 r.1 e) ∙ ok in
    cc

pub known-unended : (text : List ℕ) (m : Mode) (left : Source) (st : State) → Known (source text []) m left st →
    next m left ≡ ended → accept st ≡ None → (u : Script) → Spells u text → ⊥
known-unended text m left st k e h u p =
    let r = known-spelled text m left st u k p in
    let two : Some u ≡ None = sym r.2 ∙ ap (λ (x : List Token). run st x) (ended-more m left r.0 r.1 e) ∙ h in
    cc

no-more : (m : Mode) (left : Source) (more : List Token) (f : Fault) → Lexes m left more → next m left ≡ wrong f → ⊥
no-more m left [] f x e = let two : wrong f ≡ ended = sym e ∙ x in cc
no-more m left (t ∷ ts) f x e = let two : wrong f ≡ found x.0 x.1 = sym e ∙ x.2 in cc

pub known-bad : (text : List ℕ) (m : Mode) (left : Source) (st : State) (f : Fault) → Known (source text []) m left st →
    next m left ≡ wrong f → (u : Script) → Spells u text → ⊥
known-bad text m left st f k e u p = let r = known-spelled text m left st u k p in no-more m left r.0 f r.1 e

pub refused-all : (st : State) (seen t : Token) → step st (told_in st seen) ≡ None → Reads seen t → (x : State) → step st t ≡ Some x → ⊥
refused-all st seen t e r x h =
    let same = told-unique st.now st.below st.room st.script r (reached (step st t) x h) in
    let two : Some x ≡ None = sym h ∙ ap (λ (y : Token). step st y) same ∙ e in
    cc

refused-more : (m : Mode) (left : Source) (st : State) (all : Script) (seen : Token) (after : Source) (more : List Token) →
    next m left ≡ found seen after → step st (told_in st seen) ≡ None → Lexes m left more → run st more ≡ Some all → ⊥
refused-more m left st all seen after [] e h x g = let two : found seen after ≡ ended = sym e ∙ x in cc
refused-more m left st all seen after (t ∷ ts) e h x g =
    let c = some-of (step st t) ts all g in
    let same = same-token (sym e ∙ x.2) in
    refused-all st seen t h (subst (λ (y : Token). Reads y t) (sym same.0) x.3) c.0 c.1

pub known-refused : (text : List ℕ) (m : Mode) (left : Source) (st : State) (seen : Token) (after : Source) → Known (source text []) m left st →
    next m left ≡ found seen after → step st (told_in st seen) ≡ None → (u : Script) → Spells u text → ⊥
known-refused text m left st seen after k e h u p =
    let r = known-spelled text m left st u k p in
    refused-more m left st u seen after r.0 e h r.1 r.2
