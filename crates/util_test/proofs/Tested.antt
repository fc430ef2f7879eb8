-- Paths that words name, and the last word of `[`.
use Rattle.std.proofs.Common.{◌≡◌, ℕ, Bool, true, false, cond, List, [], ◌∷◌, ◌++◌, length, refl, sym, ap, ◌∙◌, arith}
use Rattle.std.specs.Prelude.{Option, None, Some, option_map, codes}
use Rattle.hs_world.specs.Files.{Files}
use Rattle.hs_world.specs.Paths.{Path, resolve}
use Rattle.hs_world.specs.World.{WorldData}
use Rattle.hs_view.specs.Steps.{nothing}
use Rattle.util_test.specs.Operators.{is_word}
use Rattle.util_test.specs.Testing.{bracketed, closed, entry_in, has}
use Rattle.util_test.specs.declared.expression.Property.{Property}
use Rattle.util_test.specs.declared.expression.Property.TheVariants.{Is, HasBytes}
use Rattle.util_test.specs.declared.expression.Sort.TheVariants.{Any, File, Folder}

nowhere : (p : Property) → has p None ≡ false
nowhere (Is Any) = refl
nowhere (Is File) = refl
nowhere (Is Folder) = refl
nowhere HasBytes = refl

pub absent : (p : Property) (w : WorldData) (o : Option Path) → o ≡ None → nothing (has p (entry_in w.tree o)) w ≡ nothing false w
absent p w o e = ap (λ (x : Option Path). nothing (has p (entry_in w.tree x)) w) e ∙ ap (λ (b : Bool). nothing b w) (nowhere p)

pub named : (p : Property) (tree : Files) (at cwd : Path) (word bytes : List ℕ) (o : Option Path) → at ≡ cwd → bytes ≡ word → o ≡ resolve cwd bytes → has p (entry_in tree o) ≡ has p (entry_in tree (resolve at word))
named p tree at cwd word bytes o a b r = ap (λ (x : Option Path). has p (entry_in tree x)) (r ∙ ap (resolve cwd) b ∙ ap (λ (x : Path). resolve x word) (sym a))

-- ---- the last word

map_cond : (b : Bool) (word : List ℕ) (words : List (List ℕ)) → option_map (λ (ws : List (List ℕ)). word ∷ ws) (cond b (Some words) None) ≡ cond b (Some (word ∷ words)) None
map_cond true word words = refl
map_cond false word words = refl

last_word : (front : List (List ℕ)) (last : List ℕ) → bracketed (front ++ last ∷ []) ≡ closed last front
last_word [] last = refl
last_word (word ∷ []) last = map_cond (is_word (codes "]") last) word []
last_word (word ∷ next ∷ more) last = ap (λ (o : Option (List (List ℕ))). option_map (λ (ws : List (List ℕ)). word ∷ ws) o) (last_word (next ∷ more) last) ∙ map_cond (is_word (codes "]") last) word (next ∷ more)

pub some_words : (words front : List (List ℕ)) (last : List ℕ) → words ≡ front ++ last ∷ [] → closed last front ≡ bracketed words
some_words words front last is = sym (last_word front last) ∙ ap bracketed (sym is)

pub no_words : (words : List (List ℕ)) → length words ≡ 0 → None ≡ bracketed words
no_words [] h = refl
no_words (word ∷ words) h = absurd (omega arith)
