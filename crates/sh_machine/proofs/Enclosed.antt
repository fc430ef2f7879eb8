-- What the innermost list was opened for, found from a place on.
use Rattle.std.proofs.Common.{◌≡◌, ℕ, ◌+◌, zero, suc, Bool, true, false, cond, List, [], ◌∷◌, Option, Some, None, refl, sym, ap, ◌∙◌, slice_get, drop, drop-cons, add-one}
use Rattle.std.proofs.lemmas.Option.{slice_get_within, get_or_from_slice_get}
use Rattle.sh_grammar.specs.declared.state.Below.{Below}
use Rattle.sh_grammar.specs.declared.state.Below.TheVariants as below
use Rattle.sh_grammar.specs.Told.{list_mode, list_close}
use Rattle.sh_machine.specs.Enclosing.{in_list, list_frame, mode_in, close_in}

drop_at : {A : Type 0} (xs : List A) (i : ℕ) (x : A) → slice_get xs i ≡ Some x → drop i xs ≡ x ∷ drop (suc i) xs
drop_at xs i x e = drop-cons xs i x (slice_get_within xs i x e) ∙ ap (λ y. y ∷ drop (suc i) xs) (get_or_from_slice_get xs i x x e)

none_past : {A : Type 0} (xs : List A) (i : ℕ) → slice_get xs i ≡ None → drop i xs ≡ []
none_past [] zero e = refl
none_past [] (suc i) e = refl
none_past (x ∷ xs) zero e = absurd cc
none_past (x ∷ xs) (suc i) e = none_past xs i e

frame_at : (b : List Below) (i : ℕ) (f : Below) → slice_get b i ≡ Some f → list_frame (drop i b) ≡ cond (in_list f) (list_frame (drop (suc i) b)) (Some f)
frame_at b i f e = ap list_frame (drop_at b i f e)

pub frame_found : (b : List Below) (i : ℕ) (f : Below) → slice_get b i ≡ Some f → in_list f ≡ false → list_frame (drop i b) ≡ list_frame b → Some f ≡ list_frame b
frame_found b i f e g h = sym (frame_at b i f e ∙ ap (λ x. cond x (list_frame (drop (suc i) b)) (Some f)) g) ∙ h

pub frame_next : (b : List Below) (i : ℕ) (f : Below) → slice_get b i ≡ Some f → in_list f ≡ true → list_frame (drop i b) ≡ list_frame b →
    list_frame (drop (i + 1) b) ≡ list_frame b
frame_next b i f e g h =
    ap (λ x. list_frame (drop x b)) (add-one i) ∙ (sym (frame_at b i f e ∙ ap (λ x. cond x (list_frame (drop (suc i) b)) (Some f)) g) ∙ h)

pub frame_none : (b : List Below) (i : ℕ) → slice_get b i ≡ None → list_frame (drop i b) ≡ list_frame b → None ≡ list_frame b
frame_none b i e h = sym (ap list_frame (none_past b i e)) ∙ h

pub mode_frame : (b : List Below) → list_mode b ≡ mode_in (list_frame b)
mode_frame [] = refl
mode_frame (below.Pipe p ∷ b) = mode_frame b
mode_frame (below.Function x n ∷ b) = mode_frame b
mode_frame (below.Command ps m n ∷ b) = refl
mode_frame (below.Backquote ps m n ∷ b) = refl
mode_frame (f ∷ b) = refl

pub close_frame : (b : List Below) → list_close b ≡ close_in (list_frame b)
close_frame [] = refl
close_frame (below.Pipe p ∷ b) = close_frame b
close_frame (below.Function x n ∷ b) = close_frame b
close_frame (below.Command ps m n ∷ b) = refl
close_frame (f ∷ b) = refl
