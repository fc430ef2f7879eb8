-- What parameter expansions do hangs on the shell alone, as far as their words do.
use Rattle.std.proofs.Common.{◌≡◌, ℕ, Bool, true, false, not, List, [], ◌∷◌, ◌++◌, refl, sym, ap, ◌∙◌, subst}
use Rattle.std.specs.Prelude.{Option, Some, None, if◌then◌else◌}
use Rattle.std.specs.FinMap.{get, insert}
use Rattle.hs_world.specs.World.{WorldData, Applied}
use Rattle.hs_world.specs.declared.effect.Effect.TheVariants.{SetVar}
use Rattle.hs_world.specs.declared.var.Var.{Var}
use Rattle.hs_view.specs.Acts.{only}
use Rattle.hs_view.specs.Steps.{nothing}
use Rattle.sh_arith.specs.declared.names.Assigned.{Assigned}
use Rattle.sh_arith.specs.declared.names.Assigned.TheVariants.{Yes, ReadOnly}
use Rattle.sh_syntax.specs.declared.tree.ParamOp.{ParamOp}
use Rattle.sh_param.specs.Assigns.{assigned, assigned_over, is_readonly, var_with}
use Rattle.sh_param.specs.Messages.{message}
use Rattle.sh_param.specs.Modes.{operand, pattern, text}
use Rattle.sh_param.specs.Parts.{Meaning, Next, after_assignment, alternative_means, assign_means, assigned_word, default_means, error_means, error_word, put_value, trim_means, variable_means, word_means}
use Rattle.sh_param.specs.Pieces.{bytes_of, expanded_all, field_of}
use Rattle.sh_param.specs.Plans.{Plan, fails}
use Rattle.sh_param.specs.Trims.{trimmed}
use Rattle.sh_param.specs.Values.{is_absent}
use Rattle.sh_param.specs.declared.mode.Mode.{Mode}
use Rattle.sh_param.specs.declared.piece.Piece.{Piece}
use Rattle.sh_expand.specs.Shells.{LooksAtShell, SameShell}
use Rattle.sh_expand.proofs.Looks.{EachLooks, NextLooks, look_looks, parts_look, put_looks}

-- ---- parameters

pub if_looks : (b : Bool) (p q : Plan) → LooksAtShell p → LooksAtShell q → LooksAtShell (if b then p else q)
if_looks true p q l k = l
if_looks false p q l k = k

pub word_looks : (m : Mode) (word : List Meaning) (ps : List Piece) (k : Next) → EachLooks word → NextLooks k → LooksAtShell (word_means m word ps k)
word_looks m word ps k e l = parts_look m (not m.quoted) word ps k e l

pub default_looks : (m : Mode) (name : List ℕ) (colon : Bool) (word : List Meaning) (ps : List Piece) (k : Next) → EachLooks word → NextLooks k → LooksAtShell (default_means m name colon word ps k)
default_looks m name colon word ps k e l =
    look_looks m name (λ v. if is_absent colon v then word_means (operand m) word ps k else put_value m v ps k)
    (λ v. if_looks (is_absent colon v) (word_means (operand m) word ps k) (put_value m v ps k) (word_looks (operand m) word ps k e l) (put_looks m v ps k l))

pub alternative_looks : (m : Mode) (name : List ℕ) (colon : Bool) (word : List Meaning) (ps : List Piece) (k : Next) → EachLooks word → NextLooks k → LooksAtShell (alternative_means m name colon word ps k)
alternative_looks m name colon word ps k e l =
    look_looks m name (λ v. if is_absent colon v then k ps else word_means (operand m) word ps k)
    (λ v. if_looks (is_absent colon v) (k ps) (word_means (operand m) word ps k) (l ps) (word_looks (operand m) word ps k e l))

error_word_looks : (m : Mode) (name : List ℕ) (word : List Meaning) → EachLooks word → LooksAtShell (error_word m name word)
error_word_looks m name [] e = tt
error_word_looks m name (x ∷ xs) e = word_looks (text m) (x ∷ xs) [] (λ qs. fails (message name (bytes_of qs))) e (λ qs. tt)

pub error_looks : (m : Mode) (name : List ℕ) (colon : Bool) (word : List Meaning) (ps : List Piece) (k : Next) → EachLooks word → NextLooks k → LooksAtShell (error_means m name colon word ps k)
error_looks m name colon word ps k e l =
    look_looks m name (λ v. if is_absent colon v then error_word m name word else put_value m v ps k)
    (λ v. if_looks (is_absent colon v) (error_word m name word) (put_value m v ps k) (error_word_looks m name word e) (put_looks m v ps k l))

pub trim_looks : (o : ParamOp) (m : Mode) (name : List ℕ) (word : List Meaning) (ps : List Piece) (k : Next) → EachLooks word → NextLooks k → LooksAtShell (trim_means o m name word ps k)
trim_looks o m name word ps k e l =
    look_looks m name (λ v. word_means (pattern m) word [] (λ qs. put_value m (trimmed o (field_of qs) v) ps k))
    (λ v. word_looks (pattern m) word [] (λ qs. put_value m (trimmed o (field_of qs) v) ps k) e (λ qs. put_looks m (trimmed o (field_of qs) v) ps k l))

-- ---- assignments

-- an assignment leaves the same shell
over_shell : (c : Bool) (name : List ℕ) (var : Var) (u v : WorldData) → SameShell u v
    → SameShell (Applied (if c then nothing ReadOnly u else only (SetVar name var) Yes u).effects u) (Applied (if c then nothing ReadOnly v else only (SetVar name var) Yes v).effects v)
over_shell true name var u v s = s
over_shell false name var u v s = record { vars = ap (λ x. insert x name var) s.vars; zero = s.zero; params = s.params }

assigned_shell : (name bytes : List ℕ) (u v : WorldData) → SameShell u v → SameShell (Applied (assigned name bytes u).effects u) (Applied (assigned name bytes v).effects v)
assigned_shell name bytes u v s =
    let b : Option Var = get u.vars name in
    subst (λ (o : Option Var). SameShell (Applied (assigned name bytes u).effects u) (Applied (assigned_over o name bytes v).effects v)) (ap (λ x. get x name) s.vars)
    (over_shell (is_readonly b) name (var_with b bytes) u v s)

assignment_next : (m : Mode) (name bytes : List ℕ) (ps : List Piece) (k : Next) (a : Assigned) → NextLooks k → LooksAtShell (after_assignment m name bytes ps k a)
assignment_next m name bytes ps k Yes l = l (ps ++ expanded_all m bytes)
assignment_next m name bytes ps k ReadOnly l = tt

pub assign_looks : (m : Mode) (name bytes : List ℕ) (ps : List Piece) (k : Next) → NextLooks k → LooksAtShell (assign_means m name bytes ps k)
assign_looks m name bytes ps k l = (
  λ u v s. record {
    effects = ap (λ x. (assigned name bytes (record u { vars = x })).effects) s.vars;
    later = ap (λ x. after_assignment m name bytes ps k (assigned name bytes (record u { vars = x })).answer) s.vars;
    shell = assigned_shell name bytes u v s;
  },
  λ u. assignment_next m name bytes ps k (assigned name bytes u).answer l,
)

pub variable_looks : (m : Mode) (name : List ℕ) (colon : Bool) (word : List Meaning) (ps : List Piece) (k : Next) → EachLooks word → NextLooks k → LooksAtShell (variable_means m name colon word ps k)
variable_looks m name colon word ps k e l =
    look_looks m name (λ v. if is_absent colon v then assigned_word m name word ps k else put_value m v ps k)
    (λ v. if_looks (is_absent colon v) (assigned_word m name word ps k) (put_value m v ps k)
    (word_looks (text m) word [] (λ qs. assign_means m name (bytes_of qs) ps k) e (λ qs. assign_looks m name (bytes_of qs) ps k l)) (put_looks m v ps k l))
