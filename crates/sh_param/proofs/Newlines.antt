-- Newlines at the end of a text.
use Rattle.std.proofs.Common.{◌≡◌, ℕ, Bool, false, cond, eqb, List, [], ◌∷◌, ◌++◌, refl, ap, ◌∙◌}
use Rattle.sh_param.specs.Outputs.{before, without_newlines}

-- a newline more
pub newline_more : (bs : List ℕ) → without_newlines (bs ++ 10 ∷ []) ≡ without_newlines bs
newline_more [] = refl
newline_more (b ∷ bs) = ap (λ (u : List ℕ). before b u) (newline_more bs)

before_some : (b : ℕ) (bs : List ℕ) (c : ℕ) → before b (bs ++ c ∷ []) ≡ b ∷ (bs ++ c ∷ [])
before_some b [] c = refl
before_some b (d ∷ ds) c = refl

-- no newline at the end
pub no_newline : (bs : List ℕ) (c : ℕ) → eqb c 10 ≡ false → without_newlines (bs ++ c ∷ []) ≡ bs ++ c ∷ []
no_newline [] c h = ap (λ (e : Bool). cond e [] (c ∷ [])) h
no_newline (b ∷ bs) c h = ap (λ (u : List ℕ). before b u) (no_newline bs c h) ∙ before_some b bs c
