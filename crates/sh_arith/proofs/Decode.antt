-- The instructions of an expression tell the expression.
use Rattle.std.proofs.Common.{◌≡◌, List, [], ◌∷◌, ◌++◌, Some, None, refl, sym, ap, ◌∙◌}
use Rattle.sh_arith.specs.declared.instr.Part.TheVariants as part
use Rattle.sh_arith.specs.declared.instr.Instr.{Instr}
use Rattle.sh_arith.specs.declared.instr.Instr.TheVariants as instr
use Rattle.sh_arith.specs.Grammar.{Tree, number, read, signed, binary, logic, choice, assign}
use Rattle.sh_arith.specs.Machine.{emit}
use Rattle.sh_arith.specs.Trees.{put, trees}

snoc : (is : List Instr) (ts : List Tree) (i : Instr) → trees ts (is ++ i ∷ []) ≡ put (trees ts is) i
snoc [] ts i = refl
snoc (j ∷ is) ts i = snoc is (put ts j) i

decode : (t : Tree) (is : List Instr) → trees [] (emit t is) ≡ t ∷ trees [] is
decode (number n) is = snoc is [] (instr.Number n)
decode (read p x) is = snoc is [] (instr.Read p x)
decode (signed s t) is = snoc (emit t is) [] (instr.Sign s) ∙ ap (λ (ts : List Tree). put ts (instr.Sign s)) (decode t is)
decode (binary m a b) is =
    snoc (emit b (emit a is)) [] (instr.Math m)
    ∙ ap (λ (ts : List Tree). put ts (instr.Math m)) (decode b (emit a is) ∙ ap (λ (ts : List Tree). b ∷ ts) (decode a is))
decode (logic l a b) is =
    let mid = emit a is ++ instr.Begin (part.Logic l) ∷ [] in
    snoc (emit b mid) [] (instr.End (part.Logic l))
    ∙ ap (λ (ts : List Tree). put ts (instr.End (part.Logic l))) (decode b mid ∙ ap (λ (ts : List Tree). b ∷ ts) (snoc (emit a is) [] (instr.Begin (part.Logic l)) ∙ decode a is))
decode (choice c a b) is =
    let one = emit c is ++ instr.Begin part.Choice ∷ [] in
    let two = emit a one ++ instr.Otherwise ∷ [] in
    snoc (emit b two) [] (instr.End part.Choice)
    ∙ ap (λ (ts : List Tree). put ts (instr.End part.Choice)) (decode b two ∙ ap (λ (ts : List Tree). b ∷ ts) (snoc (emit a one) [] instr.Otherwise ∙ decode a one
    ∙ ap (λ (ts : List Tree). a ∷ ts) (snoc (emit c is) [] (instr.Begin part.Choice) ∙ decode c is)))
decode (assign None p x t) is = snoc (emit t is) [] (instr.Store None p x) ∙ ap (λ (ts : List Tree). put ts (instr.Store None p x)) (decode t is)
decode (assign (Some m) p x t) is =
    let mid = is ++ instr.Read p x ∷ [] in
    snoc (emit t mid) [] (instr.Store (Some m) p x)
    ∙ ap (λ (ts : List Tree). put ts (instr.Store (Some m) p x)) (decode t mid ∙ ap (λ (ts : List Tree). t ∷ ts) (snoc is [] (instr.Read p x)))

-- an expression's instructions tell it
pub decode-all : (t : Tree) → trees [] (emit t []) ≡ t ∷ []
decode-all t = decode t []

pub same_tree : (t u : Tree) → emit t [] ≡ emit u [] → t ≡ u
same_tree t u e = let h : t ∷ [] ≡ u ∷ [] = sym (decode t []) ∙ ap (trees []) e ∙ decode u [] in cc
