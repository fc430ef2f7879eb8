-- Texts that are written in backquotes.
use Rattle.std.proofs.Common.{◌≡◌, ℕ, List, [], ◌∷◌, ◌++◌, refl, ap, sym, ◌∙◌, subst, append_assoc, length, arith}
use Rattle.std.specs.Prelude.{reverse, Result, Ok, Err, IfOk}
use Rattle.std.proofs.lemmas.List.{reverse-append}
use Rattle.sh_syntax.specs.declared.tree.Script.{Script}
use Rattle.sh_grammar.specs.Grammar.{Parses}
use Rattle.sh_grammar.specs.Spells.{Spells}
use Rattle.sh_lexer.specs.declared.token.Token.{Token}
use Rattle.sh_lexer.specs.declared.token.Mode.TheVariants as mode
use Rattle.sh_lexer.specs.Lexes.{Source, source, Lexes}
use Rattle.sh_spell.specs.Layout.{guarded, guard_text, before, onto, source_of}
use Rattle.sh_spell.specs.Tidy.{HasNoHere}
use Rattle.sh_spell.proofs.Grammatical.{tidy}
use Rattle.sh_spell.proofs.Respelled.{tokens-read}

guarded-append : (x y : List ℕ) → guarded (x ++ y) ≡ guarded x ++ guarded y
unfolding guarded
guarded-append [] y = refl
guarded-append (b ∷ x) y = ap (λ (z : List ℕ). guard_text b ++ z) (guarded-append x y) ∙ sym (append_assoc (guard_text b) (guarded x) (guarded y))

guarded-one : (b : ℕ) (c : List ℕ) → guarded (b ∷ []) ++ c ≡ guard_text b ++ c
unfolding guarded
guarded-one b c = append_assoc (guard_text b) [] c

pub guarded-reverse : (b : ℕ) (r c : List ℕ) → guarded (reverse r) ++ (guard_text b ++ c) ≡ guarded (reverse (b ∷ r)) ++ c
guarded-reverse b r c =
    ap (λ (z : List ℕ). guarded (reverse r) ++ z) (sym (guarded-one b c))
    ∙ (sym (append_assoc (guarded (reverse r)) (guarded (b ∷ [])) c)
    ∙ (ap (λ (z : List ℕ). z ++ c) (sym (guarded-append (reverse r) (b ∷ []))) ∙ ap (λ (z : List ℕ). guarded z ++ c) (sym (reverse-append (b ∷ []) r))))

nothing_left : (l : List ℕ) → length l ≡ 0 → (c x : List ℕ) → guarded (reverse l) ++ c ≡ x → c ≡ x
unfolding guarded
nothing_left [] e c x h = h
nothing_left (b ∷ r) e c x h = absurd (omega arith)

pub all-guarded : (l c x : List ℕ) → length l ≡ 0 → guarded (reverse l) ++ c ≡ x → c ≡ x
all-guarded l c x e h = nothing_left l e c x h

-- Tokens that come before others.
pub onto-append : (ts us : List Token) (s : Source) → onto (ts ++ us) s ≡ onto ts (onto us s)
onto-append [] us s = refl
onto-append (t ∷ ts) us s = ap (before t) (onto-append ts us s)

pub all-onto : (ts : List Token) (s x : Source) → length ts ≡ 0 → onto ts s ≡ x → s ≡ x
all-onto [] s x e h = h
all-onto (t ∷ ts) s x e h = absurd (omega arith)

pub if_ok : {A E : Type 0} (r : Result A E) (P Q : A → Type 0) → IfOk r P → ((x : A) → P x → Q x) → IfOk r Q
if_ok (Ok x) P Q h f = f x h
if_ok (Err e) P Q h f = tt

-- The text that is written of a script's tokens spells the script.
pub spells-text : (ts : List Token) (s : Source) (text : List ℕ) → s ≡ source_of ts → text ≡ s.text →
    (script : Script) (other : List ℕ) → Lexes mode.Command (source other []) ts → Parses script ts → HasNoHere ts → Spells script text
spells-text ts s text e f script other l p h = record {
  tokens = ts;
  lexed = subst (λ (x : List ℕ). Lexes mode.Command (source x []) ts) (sym (f ∙ ap (λ (q : Source). q.text) e)) (tokens-read ts other (tidy other p h l) l);
  parsed = p;
}
