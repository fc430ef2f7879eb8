-- A text has exactly the expressions that its function gives.
use Rattle.std.proofs.Common.{◌≡◌, ℕ, zero, suc, ◌<◌, ◌≤◌, List, [], ◌∷◌, length, drop, Option, Some, None, refl, sym, ap, subst, ◌∙◌, arith, length-drop}
use Rattle.std.specs.List.{prefix_len}
use Rattle.std.specs.Prelude.{◌↔◌, option_and_then, option_map}
use Rattle.sh_arith.specs.declared.token.Token.{Token}
use Rattle.sh_arith.specs.declared.instr.Instr.{Instr}
use Rattle.sh_arith.specs.Compiled.{IsCodeOf, IsNone}
use Rattle.sh_arith.specs.Grammar.{Tree, Spells}
use Rattle.sh_arith.specs.Lex.{Lexed, got, done, bad, lex, Lexes, gap, place, skip}
use Rattle.sh_arith.specs.Machine.{State, start, step, accept, run, emit}
use Rattle.sh_arith.specs.Trees.{by_token, codes, code_of, top, tree_of, trees}
use Rattle.sh_arith.proofs.Complete.{complete}
use Rattle.sh_arith.proofs.Decode.{decode-all}
use Rattle.sh_arith.proofs.Progress.{token-smaller}
use Rattle.sh_arith.proofs.Sound.{sound, Whole}

-- ---- from the grammar

smaller : (n : ℕ) (text rest : List ℕ) (t : Token) → lex n text ≡ got t rest → length rest < length text
smaller n text rest t e =
    let s : length rest < length (skip text) = token-smaller (place n text) (skip text) t rest e in
    let d = length-drop (prefix_len gap text) text in
    omega (arith, s, d)

each : {A B : Type 0} (o : Option A) (f g : A → Option B) → ((x : A) → f x ≡ g x) → option_and_then f o ≡ option_and_then g o
each None f g h = refl
each (Some x) f g h = h x

-- the tokens of a text are read one by one
lexed-run : (k n : ℕ) (text : List ℕ) (ts : List Token) (st : State) → length text < k → Lexes n text ts → codes k n text st ≡ run st ts
lexed-run zero n text ts st h l = absurd (omega arith)
lexed-run (suc k) n text [] st h l = ap (λ (x : Lexed). by_token x (accept st) (λ t rest. option_and_then (λ next. codes k n rest next) (step st t))) l
lexed-run (suc k) n text (t ∷ ts) st h l =
    let s = smaller n text l.0 t l.1 in
    ap (λ (x : Lexed). by_token x (accept st) (λ t rest. option_and_then (λ next. codes k n rest next) (step st t))) l.1
    ∙ each (step st t) (λ next. codes k n l.0 next) (λ next. run next ts) (λ next. lexed-run k n l.0 ts next (omega (arith, h, s)) l.2)

pub spelled-code : (t : Tree) (text : List ℕ) → Spells t text → code_of text ≡ Some (emit t [])
spelled-code t text s = lexed-run (suc (length text)) (length text) text s.tokens start (omega arith) s.lexed ∙ complete s.parsed

pub spelled-tree : (t : Tree) (text : List ℕ) → Spells t text → tree_of text ≡ Some t
spelled-tree t text s =
    ap (λ (o : Option (List Instr)). option_map (λ code. top (trees [] code)) o) (spelled-code t text s)
    ∙ ap (λ (ts : List Tree). Some (top ts)) (decode-all t)

-- ---- to the grammar

no_some : {A : Type 0} (x : A) → None ≡ Some x → ⊥
no_some x e = cc

-- tokens that are read so
record Tokens (n : ℕ) (text : List ℕ) (st : State) (all : List Instr) : Type 0 where
  tokens : List Token
  lexed : Lexes n text tokens
  same : run st tokens ≡ Some all

run-lexed : (k n : ℕ) (text : List ℕ) (st : State) (all : List Instr) → codes k n text st ≡ Some all → Tokens n text st all
run-lexed zero n text st all e = absurd (no_some all e)
run-lexed (suc k) n text st all e = by (lex n text) refl e (λ rest next f. run-lexed k n rest next all f)
  where
    on : (t : Token) (rest : List ℕ) → lex n text ≡ got t rest → (o : Option State) → step st t ≡ o → option_and_then (λ next. codes k n rest next) o ≡ Some all
        → ((next : State) → codes k n rest next ≡ Some all → Tokens n rest next all) → Tokens n text st all
    on t rest h None g f again = absurd (no_some all f)
    on t rest h (Some next) g f again =
        let r = again next f in
        record {
          tokens = t ∷ r.tokens;
          lexed = (rest, h, r.lexed);
          same = ap (λ (o : Option State). option_and_then (λ st'. run st' r.tokens) o) g ∙ r.same;
        }

    by : (x : Lexed) → lex n text ≡ x → by_token x (accept st) (λ t rest. option_and_then (λ next. codes k n rest next) (step st t)) ≡ Some all
        → ((rest : List ℕ) (next : State) → codes k n rest next ≡ Some all → Tokens n rest next all) → Tokens n text st all
    by (got t rest) h f again = on t rest h (step st t) refl f (λ next q. again rest next q)
    by done h f again = record { tokens = []; lexed = h; same = f }
    by bad h f again = absurd (no_some all f)

some_top : (o : Option (List Instr)) (t : Tree) → option_map (λ code. top (trees [] code)) o ≡ Some t → (all : List Instr) × (o ≡ Some all) × (top (trees [] all) ≡ t)
some_top None t e = absurd (no_some t e)
some_top (Some all) t e = (all, refl, cc)

pub tree-spelled : (t : Tree) (text : List ℕ) → tree_of text ≡ Some t → Spells t text
tree-spelled t text e =
    let s = some_top (code_of text) t e in
    let r = run-lexed (suc (length text)) (length text) text start s.0 s.1 in
    let w = sound r.tokens s.0 r.same in
    let same : w.tree ≡ t = sym (ap (λ (ts : List Tree). top ts) (ap (trees []) w.same ∙ decode-all w.tree)) ∙ s.2 in
    subst (λ (u : Tree). Spells u text) same (record { tokens = r.tokens; lexed = r.lexed; parsed = w.parsed })

pub trees-spelled : (t : Tree) (text : List ℕ) → Spells t text ↔ (tree_of text ≡ Some t)
trees-spelled t text = (spelled-tree t text, tree-spelled t text)

-- ---- what was read

pub read-tree : (code : List Instr) (text : List ℕ) → (c : IsCodeOf code text) → tree_of text ≡ Some c.tree
read-tree code text c = spelled-tree c.tree text c.of_text.spelled

pub no-tree : (p : ℕ) (text : List ℕ) → IsNone p text → tree_of text ≡ None
no-tree p text n = by (tree_of text) refl
  where
    by : (o : Option Tree) → tree_of text ≡ o → tree_of text ≡ None
    by None h = h
    by (Some t) h = absurd (n.none t (tree-spelled t text h))
