-- The last steps of an evaluation.
use Rattle.std.proofs.Common.{◌≡◌, ℕ, ℤ, List, [], Result, Err, refl, ap, subst, ◌∙◌}
use Rattle.sh_arith.specs.declared.instr.Instr.{Instr}
use Rattle.sh_arith.specs.declared.names.ArithErr.{ArithErr}
use Rattle.sh_arith.specs.declared.names.ArithErr.TheVariants as err
use Rattle.sh_arith.specs.Names.{Table}
use Rattle.sh_arith.specs.Value.{Ended}
use Rattle.sh_arith.specs.Exec.{going, exec}
use Rattle.sh_arith.specs.Compiled.{IsCodeOf, IsNone}
use Rattle.sh_arith.specs.Answers.{Seen, Says, Caused, Answers, evaluated, no_expression}
use Rattle.sh_arith.proofs.Law.{law}

pub evaluated_code : {S H : Type 0} (seen : Seen S H) (text : List ℕ) (code done : List Instr) (r : Result ℤ (ArithErr H)) (old new : S) → done ≡ code → IsCodeOf code text →
    ((w' : Table) → seen.agrees new w' → (w : Table) × seen.agrees old w × Says seen r (exec done (going []) w) old new w w') → Caused seen r old new → Answers seen text old new r
evaluated_code seen text code done r old new same c f h =
    evaluated c.tree c.of_text (λ w' a. let s = f w' a in
    (s.0, s.1, subst (λ (e : Ended). Says seen r e old new s.0 w') (ap (λ (is : List Instr). exec is (going []) s.0) (same ∙ c.same) ∙ law c.tree s.0) s.2)) h

pub read_error : {S H : Type 0} (seen : Seen S H) (text : List ℕ) (p : ℕ) (s : S) → IsNone p text → Answers seen text s s (Err (err.Bad p))
read_error seen text p s n = no_expression p n.first n.none refl
