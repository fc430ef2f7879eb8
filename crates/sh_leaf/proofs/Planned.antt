-- Each effect of an expansion is valid where it comes, as far as that is so of the parts of its words.
use Rattle.std.proofs.Common.{ℕ, Bool, true, false, not, List, [], ◌∷◌, ◌++◌, map, refl}
use Rattle.std.specs.Prelude.{Option, Some, None, Result, Ok, Err, codes, if◌then◌else◌}
use Rattle.std.specs.FinMap.{get}
use Rattle.hs_world.proofs.Passing.{valid_append}
use Rattle.hs_world.specs.World.{WorldData, AllValid, Applied, Apply}
use Rattle.hs_world.specs.declared.effect.Effect.TheVariants.{SetVar}
use Rattle.hs_world.specs.declared.var.Var.{Var}
use Rattle.hs_view.specs.Acts.{only}
use Rattle.hs_view.specs.Steps.{nothing}
use Rattle.sh_arith.specs.Grammar.{Tree}
use Rattle.sh_arith.specs.Names.{Assignment}
use Rattle.sh_arith.specs.Trees.{tree_of}
use Rattle.sh_arith.specs.Value.{Ended, evaluate, stopped as ended_early, value}
use Rattle.sh_arith.specs.declared.names.Assigned.{Assigned}
use Rattle.sh_arith.specs.declared.names.Assigned.TheVariants.{Yes, ReadOnly}
use Rattle.sh_syntax.specs.declared.tree.Part.TheOpen as open_part
use Rattle.sh_syntax.specs.declared.tree.Part.TheOpen.{Part-F}
use Rattle.sh_syntax.specs.declared.tree.ParamOp.{ParamOp}
use Rattle.sh_syntax.specs.declared.tree.ParamOp.TheVariants as op
use Rattle.sh_sum.specs.Sums.{sum_of, summed, table_of}
use Rattle.sh_param.specs.Assigns.{assigned, is_readonly, var_with}
use Rattle.sh_param.specs.Kinds.{kind_of}
use Rattle.sh_param.specs.Lookups.{home_of, ifs_of, value_of, with_text, written}
use Rattle.sh_param.specs.Messages.{message}
use Rattle.sh_param.specs.Modes.{operand, pattern, quoted, sum, text}
use Rattle.sh_param.specs.Outputs.{substituted}
use Rattle.sh_param.specs.Parts.{Meaning, Next, after_assignment, after_sum, alternative_means, assign_means, assigned_word, default_means, error_means, error_word, follow_of, is_variable, look, opened, param_means, parts_mean, put_value, quotes_of, start_behind, trim_means, variable_means, word_means, word_of}
use Rattle.sh_param.specs.Pieces.{bytes_of, expanded_all, field_of, split_fields}
use Rattle.sh_param.specs.Plans.{Plan, after, does, expanded_by, fails, gives, wants}
use Rattle.sh_param.specs.Trims.{trimmed}
use Rattle.sh_param.specs.Values.{is_absent, pieces_of, size_text}
use Rattle.sh_param.specs.Words.{ended, words_mean}
use Rattle.sh_param.specs.declared.mode.Context.{Context}
use Rattle.sh_param.specs.declared.mode.Context.TheVariants as context
use Rattle.sh_param.specs.declared.mode.Mode.{Mode}
use Rattle.sh_param.specs.declared.piece.Piece.{Piece}
use Rattle.sh_param.specs.declared.piece.Piece.TheVariants as piece
use Rattle.sh_param.specs.declared.tilde.Follow.{Follow}
use Rattle.sh_param.specs.declared.value.ParamValue.{ParamValue}
use Rattle.sh_expand.specs.Sums.{sums}

abbrev pub PlanValid : Plan → Type 0
PlanValid (gives fs) = Unit {0}
PlanValid (fails why) = Unit {0}
PlanValid (wants n k) = (out : List ℕ) → PlanValid (k out)
PlanValid (does es k) = (u : WorldData) → AllValid (es u) u × PlanValid (k u)

-- whatever the outputs
pub expanded_valid : (p : Plan) → PlanValid p → (outs : List (List ℕ)) (w : WorldData) → AllValid (expanded_by p outs w).effects w
expanded_valid (gives fs) v outs w = tt
expanded_valid (fails why) v outs w = tt
expanded_valid (wants n k) v [] w = tt
expanded_valid (wants n k) v (o ∷ outs) w = expanded_valid (k o) (v o) outs w
expanded_valid (does es k) v outs w =
    let q = v w in
    valid_append (es w) (expanded_by (k w) outs (Applied (es w) w)).effects w q.0 (expanded_valid (k w) q.1 outs (Applied (es w) w))

abbrev pub NextValid : Next → Type 0
NextValid k = (qs : List Piece) → PlanValid (k qs)

abbrev pub MeaningValid : Meaning → Type 0
MeaningValid x = (m : Mode) (start : Bool) (f : Follow) (ps : List Piece) (k : Next) → NextValid k → PlanValid (x.means m start f ps k)

abbrev pub EachValid : List Meaning → Type 0
EachValid [] = Unit {0}
EachValid (x ∷ xs) = MeaningValid x × EachValid xs

-- ---- reads

read_valid : {A : Type 0} (f : WorldData → A) (k : A → Plan) → ((x : A) → PlanValid (k x)) → PlanValid (after (λ w. nothing (f w) w) k)
read_valid f k v = λ u. (tt, v (f u))

look_valid : (m : Mode) (name : List ℕ) (k : ParamValue → Plan) → ((x : ParamValue) → PlanValid (k x)) → PlanValid (look m name k)
look_valid m name k v = read_valid (value_of m.status name) k v

put_valid : (m : Mode) (x : ParamValue) (ps : List Piece) (k : Next) → NextValid k → PlanValid (put_value m x ps k)
put_valid m x ps k v = read_valid (λ (w : WorldData). ps ++ pieces_of m (ifs_of w) x) k v

text_valid : (m : Mode) (start : Bool) (f : Follow) (t : List ℕ) (ps : List Piece) (k : Next) → NextValid k → PlanValid (after (with_text m start f t ps) k)
text_valid m start f t ps k v = read_valid (λ (w : WorldData). ps ++ written m start (home_of w) f t) k v

-- ---- parts and words

parts_valid : (m : Mode) (start : Bool) (xs : List Meaning) (ps : List Piece) (k : Next) → EachValid xs → NextValid k → PlanValid (parts_mean m start xs ps k)
parts_valid m start [] ps k e v = v ps
parts_valid m start (x ∷ xs) ps k e v =
    e.0 m start (follow_of xs) ps (λ qs. parts_mean m (start_behind m start x.bytes) xs qs k) (λ qs. parts_valid m (start_behind m start x.bytes) xs qs k e.1 v)

abbrev pub WordsValid : List (List Meaning) → Type 0
WordsValid [] = Unit {0}
WordsValid (w ∷ ws) = EachValid w × WordsValid ws

pub words_valid : (m : Mode) (ws : List (List Meaning)) (ps : List Piece) (k : Next) → WordsValid ws → NextValid k → PlanValid (words_mean m ws ps k)
words_valid m [] ps k e v = v ps
words_valid m (w ∷ ws) ps k e v = parts_valid m true w ps (λ qs. words_mean m ws (qs ++ piece.End ∷ []) k) e.0 (λ qs. words_valid m ws (qs ++ piece.End ∷ []) k e.1 v)

pub ended_valid : (c : Context) → NextValid (ended c)
ended_valid context.Command ps = read_valid ifs_of (λ (ifs : Option (List ℕ)). gives (split_fields ifs ps)) (λ x. tt)
ended_valid context.Assign ps = tt
ended_valid context.Redirect ps = tt
ended_valid context.Pattern ps = tt
ended_valid context.Here ps = tt

-- ---- parameters

if_valid : (b : Bool) (p q : Plan) → PlanValid p → PlanValid q → PlanValid (if b then p else q)
if_valid true p q v u = v
if_valid false p q v u = u

word_valid : (m : Mode) (word : List Meaning) (ps : List Piece) (k : Next) → EachValid word → NextValid k → PlanValid (word_means m word ps k)
word_valid m word ps k e v = parts_valid m (not m.quoted) word ps k e v

default_valid : (m : Mode) (name : List ℕ) (colon : Bool) (word : List Meaning) (ps : List Piece) (k : Next) → EachValid word → NextValid k → PlanValid (default_means m name colon word ps k)
default_valid m name colon word ps k e v =
    look_valid m name (λ x. if is_absent colon x then word_means (operand m) word ps k else put_value m x ps k)
    (λ x. if_valid (is_absent colon x) (word_means (operand m) word ps k) (put_value m x ps k) (word_valid (operand m) word ps k e v) (put_valid m x ps k v))

alternative_valid : (m : Mode) (name : List ℕ) (colon : Bool) (word : List Meaning) (ps : List Piece) (k : Next) → EachValid word → NextValid k → PlanValid (alternative_means m name colon word ps k)
alternative_valid m name colon word ps k e v =
    look_valid m name (λ x. if is_absent colon x then k ps else word_means (operand m) word ps k)
    (λ x. if_valid (is_absent colon x) (k ps) (word_means (operand m) word ps k) (v ps) (word_valid (operand m) word ps k e v))

error_word_valid : (m : Mode) (name : List ℕ) (word : List Meaning) → EachValid word → PlanValid (error_word m name word)
error_word_valid m name [] e = tt
error_word_valid m name (x ∷ xs) e = word_valid (text m) (x ∷ xs) [] (λ qs. fails (message name (bytes_of qs))) e (λ qs. tt)

error_valid : (m : Mode) (name : List ℕ) (colon : Bool) (word : List Meaning) (ps : List Piece) (k : Next) → EachValid word → NextValid k → PlanValid (error_means m name colon word ps k)
error_valid m name colon word ps k e v =
    look_valid m name (λ x. if is_absent colon x then error_word m name word else put_value m x ps k)
    (λ x. if_valid (is_absent colon x) (error_word m name word) (put_value m x ps k) (error_word_valid m name word e) (put_valid m x ps k v))

trim_valid : (o : ParamOp) (m : Mode) (name : List ℕ) (word : List Meaning) (ps : List Piece) (k : Next) → EachValid word → NextValid k → PlanValid (trim_means o m name word ps k)
trim_valid o m name word ps k e v =
    look_valid m name (λ x. word_means (pattern m) word [] (λ qs. put_value m (trimmed o (field_of qs) x) ps k))
    (λ x. word_valid (pattern m) word [] (λ qs. put_value m (trimmed o (field_of qs) x) ps k) e (λ qs. put_valid m (trimmed o (field_of qs) x) ps k v))

-- ---- assignments

over_valid : (c : Bool) (name : List ℕ) (var : Var) (u : WorldData) → AllValid (if c then nothing ReadOnly u else only (SetVar name var) Yes u).effects u
over_valid true name var u = tt
over_valid false name var u = (refl, tt)

assignment_next : (m : Mode) (name bytes : List ℕ) (ps : List Piece) (k : Next) (a : Assigned) → NextValid k → PlanValid (after_assignment m name bytes ps k a)
assignment_next m name bytes ps k Yes v = v (ps ++ expanded_all m bytes)
assignment_next m name bytes ps k ReadOnly v = tt

assign_valid : (m : Mode) (name bytes : List ℕ) (ps : List Piece) (k : Next) → NextValid k → PlanValid (assign_means m name bytes ps k)
assign_valid m name bytes ps k v = λ u.
    let b : Option Var = get u.vars name in
    (over_valid (is_readonly b) name (var_with b bytes) u, assignment_next m name bytes ps k (assigned name bytes u).answer v)

variable_valid : (m : Mode) (name : List ℕ) (colon : Bool) (word : List Meaning) (ps : List Piece) (k : Next) → EachValid word → NextValid k → PlanValid (variable_means m name colon word ps k)
variable_valid m name colon word ps k e v =
    look_valid m name (λ x. if is_absent colon x then assigned_word m name word ps k else put_value m x ps k)
    (λ x. if_valid (is_absent colon x) (assigned_word m name word ps k) (put_value m x ps k)
    (word_valid (text m) word [] (λ qs. assign_means m name (bytes_of qs) ps k) e (λ qs. assign_valid m name (bytes_of qs) ps k v)) (put_valid m x ps k v))

param_valid : (name : List ℕ) (o : ParamOp) (colon : Bool) (word : List Meaning) (m : Mode) (ps : List Piece) (k : Next) → EachValid word → NextValid k → PlanValid (param_means name o colon word m ps k)
param_valid name op.Value colon word m ps k e v = look_valid m name (λ x. put_value m x ps k) (λ x. put_valid m x ps k v)
param_valid name op.Length colon word m ps k e v = look_valid m name (λ x. k (ps ++ expanded_all m (size_text x))) (λ x. v (ps ++ expanded_all m (size_text x)))
param_valid name op.Default colon word m ps k e v = default_valid m name colon word ps k e v
param_valid name op.Assign colon word m ps k e v =
    if_valid (is_variable (kind_of name)) (variable_means m name colon word ps k) (fails (message name (codes "cannot assign"))) (variable_valid m name colon word ps k e v) tt
param_valid name op.Error colon word m ps k e v = error_valid m name colon word ps k e v
param_valid name op.Alternative colon word m ps k e v = alternative_valid m name colon word ps k e v
param_valid name op.SmallSuffix colon word m ps k e v = trim_valid op.SmallSuffix m name word ps k e v
param_valid name op.LargeSuffix colon word m ps k e v = trim_valid op.LargeSuffix m name word ps k e v
param_valid name op.SmallPrefix colon word m ps k e v = trim_valid op.SmallPrefix m name word ps k e v
param_valid name op.LargePrefix colon word m ps k e v = trim_valid op.LargePrefix m name word ps k e v

-- ---- arithmetic

sets_valid : (f : Assignment → Var) (made : List Assignment) (u : WorldData) → AllValid (map (λ a. SetVar a.name (f a)) made) u
sets_valid f [] u = tt
sets_valid f (a ∷ made) u = (refl, sets_valid f made (Apply (SetVar a.name (f a)) u))

summed_valid : (w : WorldData) (e : Ended) (u : WorldData) → AllValid (summed w e).effects u
summed_valid w (value n t) u = sets_valid _ t.made u
summed_valid w (ended_early c t) u = sets_valid _ t.made u

sum_of_valid : (w : WorldData) (t : Option Tree) (u : WorldData) → AllValid (sum_of t w).effects u
sum_of_valid w None u = tt
sum_of_valid w (Some t) u = summed_valid w (evaluate t (table_of w)) u

sum_next : (m : Mode) (ps : List Piece) (k : Next) (r : Result (List ℕ) (List ℕ)) → NextValid k → PlanValid (after_sum m ps k r)
sum_next m ps k (Ok n) v = v (ps ++ expanded_all m n)
sum_next m ps k (Err why) v = tt

sum_valid : (m : Mode) (bytes : List ℕ) (ps : List Piece) (k : Next) → NextValid k → PlanValid (after (sums bytes) (after_sum m ps k))
sum_valid m bytes ps k v = λ u. (sum_of_valid u (tree_of bytes) u, sum_next m ps k (sums bytes u).answer v)

-- ---- each kind of part

abbrev pub InnerValid : Part-F Meaning (List Meaning) → Type 0
InnerValid p = elim p [
  | open_part.Plain t ↦ Unit {0}
  | open_part.Single t ↦ Unit {0}
  | open_part.Escaped b ↦ Unit {0}
  | open_part.Double parts ↦ EachValid parts
  | open_part.Param name o colon word ↦ EachValid (word_of word)
  | open_part.Command n ↦ Unit {0}
  | open_part.Arith word ↦ EachValid word
]

pub layer_valid : (p : Part-F Meaning (List Meaning)) → InnerValid p → MeaningValid (opened sums p)
layer_valid (open_part.Plain t) e = λ m start f ps k v. text_valid m start f t ps k v
layer_valid (open_part.Single t) e = λ m start f ps k v. v _
layer_valid (open_part.Escaped b) e = λ m start f ps k v. v _
layer_valid (open_part.Double parts) e = λ m start f ps k v. parts_valid (quoted m) false parts (ps ++ quotes_of parts) k e v
layer_valid (open_part.Param name o colon word) e = λ m start f ps k v. param_valid name o colon (word_of word) m ps k e v
layer_valid (open_part.Command n) e = λ m start f ps k v out. v (ps ++ expanded_all m (substituted out))
layer_valid (open_part.Arith word) e = λ m start f ps k v. word_valid (sum m) word [] (λ qs. after (sums (bytes_of qs)) (after_sum m ps k)) e (λ qs. sum_valid m (bytes_of qs) ps k v)
