-- What is written of a part, or of a list, one step after another: a token, a parameter, a part or a list in it.
use Rattle.std.specs.Prelude.{ℕ, Bool, true, false, List, [], ◌∷◌, ◌++◌, map, Option, Some, None, slice_get}
use Rattle.sh_syntax.specs.declared.tree.Part.{Part, out-Part}
use Rattle.sh_syntax.specs.declared.tree.Part.TheOpen as open_part
use Rattle.sh_syntax.specs.declared.tree.Part.TheOpen.{Part-F}
use Rattle.sh_syntax.specs.declared.tree.ParamOp.{ParamOp}
use Rattle.sh_syntax.specs.declared.tree.ParamOp.TheVariants as param_op
use Rattle.sh_syntax.specs.declared.tree.Word.{Word}
use Rattle.sh_syntax.specs.declared.tree.Redir.{Redir}
use Rattle.sh_syntax.specs.declared.tree.Command.{Command}
use Rattle.sh_syntax.specs.declared.tree.Command.TheVariants as command
use Rattle.sh_syntax.specs.declared.tree.Compound.{Compound}
use Rattle.sh_syntax.specs.declared.tree.Compound.TheVariants as compound
use Rattle.sh_syntax.specs.declared.tree.AndOr.{AndOr}
use Rattle.sh_syntax.specs.declared.tree.Join.{Join}
use Rattle.sh_syntax.specs.declared.tree.Pipeline.{Pipeline}
use Rattle.sh_syntax.specs.declared.tree.Script.{Script}
use Rattle.sh_lexer.specs.declared.token.Token.{Token}
use Rattle.sh_lexer.specs.declared.token.Token.TheVariants as token
use Rattle.sh_lexer.specs.declared.token.Op.{Op}
use Rattle.sh_lexer.specs.declared.token.Op.TheVariants as op
use Rattle.sh_lexer.specs.declared.token.Bit.TheVariants as bit
use Rattle.sh_lexer.specs.declared.token.Opener.{Opener}
use Rattle.sh_lexer.specs.declared.token.Opener.TheVariants as opener
use Rattle.sh_lexer.specs.declared.token.End.{End}
use Rattle.sh_lexer.specs.declared.token.End.TheVariants as end
use Rattle.sh_lexer.specs.declared.token.Mode.TheVariants as mode
use Rattle.sh_grammar.specs.Grammar.{loop_op, join_op}
use Rattle.sh_spell.specs.Layout.{written}
use Rattle.sh_spell.specs.Scripts.{value_text, words_list, assigns_list, going, waiting, part_text, list_text}

pub data Step : Type 0 where
  token_step : Token → Step
  value_step : List ℕ → Step
  part_step : Part → Step
  list_step : ℕ → Step

-- a step, where p writes parts and l lists
abbrev pub step_with : (Part → List ℕ → List ℕ) → (ℕ → List ℕ → List ℕ) → Step → List ℕ → List ℕ
step_with p l (token_step t) c = written t c
step_with p l (value_step x) c = value_text x c
step_with p l (part_step q) c = p q c
step_with p l (list_step n) c = l n c

-- a step of what lies so deep at most
abbrev pub step_text : Script → ℕ → Step → List ℕ → List ℕ
step_text s d = step_with (part_text s d) (list_text s d)

abbrev pub op_step : Op → Step
op_step o = token_step (token.Operator o)

abbrev pub open_step : Opener → Step
open_step o = token_step (token.Open o mode.Word)

abbrev pub end_step : End → Step
end_step e = token_step (token.End e mode.Word)

-- the steps of several things
abbrev pub all_steps : {A : Type 0} → (A → List Step) → List A → List Step
all_steps f [] = []
all_steps f (x ∷ xs) = f x ++ all_steps f xs

-- ---- words (POSIX.1-2017, XCU 2.2, 2.6)

-- parts between two signs
abbrev pub parts_steps : Opener → List Part → End → List Step
parts_steps o ps e = open_step o ∷ map part_step ps ++ end_step e ∷ []

abbrev pub alone_steps : ParamOp → List ℕ → List Step
alone_steps param_op.Length x = token_step (token.Param x true) ∷ []
alone_steps o x = value_step x ∷ []

abbrev pub param_steps : List ℕ → ParamOp → Bool → Option Word → List Step
param_steps x o colon None = alone_steps o x
param_steps x o colon (Some w) = parts_steps (opener.Braces x o colon false) w.parts end.Brace

abbrev pub substitution_steps : ℕ → List Step
substitution_steps n = open_step opener.Command ∷ list_step n ∷ end_step end.List ∷ []

abbrev pub opened_steps : Part-F Part Word → List Step
opened_steps o = elim o [
  | open_part.Plain x ↦ token_step (token.Part (bit.Piece x)) ∷ []
  | open_part.Single x ↦ token_step (token.Part (bit.Single x)) ∷ []
  | open_part.Escaped b ↦ token_step (token.Part (bit.Escaped b)) ∷ []
  | open_part.Double ps ↦ parts_steps opener.Double ps end.Quote
  | open_part.Param x o colon w ↦ param_steps x o colon w
  | open_part.Command n ↦ substitution_steps n
  | open_part.Arith w ↦ parts_steps opener.Arith w.parts end.Arith
]

abbrev pub part_steps : Part → List Step
part_steps q = opened_steps (out-Part q)

abbrev pub word_steps : Word → List Step
word_steps w = map part_step w.parts ++ end_step end.Word ∷ []

-- ---- commands (XCU 2.9)

abbrev pub redir_steps : Redir → List Step
redir_steps r = token_step (token.Redirect r.fd r.op) ∷ word_steps r.word

abbrev pub assign_steps : List ℕ × Word → List Step
assign_steps a = token_step (token.Assign a.0) ∷ word_steps a.1

-- a list in a compound command, and the word behind it
abbrev pub listed_steps : ℕ → Op → List Step
listed_steps n o = list_step n ∷ op_step op.Semi ∷ op_step o ∷ []

abbrev pub branch_steps : ℕ × ℕ → List Step
branch_steps a = list_step a.0 ∷ op_step op.Semi ∷ op_step op.Then ∷ list_step a.1 ∷ op_step op.Semi ∷ []

abbrev pub elif_steps : ℕ × ℕ → List Step
elif_steps a = op_step op.Elif ∷ branch_steps a

abbrev pub branches_steps : List (ℕ × ℕ) → List Step
branches_steps [] = []
branches_steps (a ∷ xs) = branch_steps a ++ all_steps elif_steps xs

abbrev pub else_steps : Option ℕ → List Step
else_steps None = op_step op.Fi ∷ []
else_steps (Some n) = op_step op.Else ∷ listed_steps n op.Fi

abbrev pub more_pattern_steps : Word → List Step
more_pattern_steps w = op_step op.PipePattern ∷ word_steps w

abbrev pub patterns_steps : List Word → List Step
patterns_steps [] = []
patterns_steps (w ∷ ws) = word_steps w ++ all_steps more_pattern_steps ws

abbrev pub arm_steps : List Word × ℕ → List Step
arm_steps a = patterns_steps a.0 ++ (op_step op.Close ∷ list_step a.1 ∷ op_step op.DoubleSemi ∷ [])

abbrev pub for_words_steps : Option (List Word) → List Step
for_words_steps None = []
for_words_steps (Some ws) = op_step op.In ∷ all_steps word_steps ws ++ op_step op.Semi ∷ []

abbrev pub group_steps : ℕ → List Step
group_steps n = op_step op.LeftBrace ∷ listed_steps n op.RightBrace

abbrev pub subshell_steps : ℕ → List Step
subshell_steps n = op_step op.Open ∷ list_step n ∷ op_step op.Close ∷ []

abbrev pub if_steps : List (ℕ × ℕ) → Option ℕ → List Step
if_steps arms o = op_step op.If ∷ branches_steps arms ++ else_steps o

abbrev pub loop_steps : Bool → ℕ → ℕ → List Step
loop_steps until n k = op_step (loop_op until) ∷ listed_steps n op.Do ++ listed_steps k op.Done

abbrev pub for_steps : List ℕ → Option (List Word) → ℕ → List Step
for_steps x ws n = op_step op.For ∷ token_step (token.Part (bit.Piece x)) ∷ end_step end.Word ∷ for_words_steps ws ++ (op_step op.Do ∷ listed_steps n op.Done)

abbrev pub case_steps : Word → List (List Word × ℕ) → List Step
case_steps w arms = op_step op.Case ∷ word_steps w ++ (op_step op.CaseIn ∷ all_steps arm_steps arms ++ op_step op.Esac ∷ [])

abbrev pub compound_steps : Compound → List Step
compound_steps (compound.Group n) = group_steps n
compound_steps (compound.Subshell n) = subshell_steps n
compound_steps (compound.If arms o) = if_steps arms o
compound_steps (compound.While until n k) = loop_steps until n k
compound_steps (compound.For x ws n) = for_steps x ws n
compound_steps (compound.Case w arms) = case_steps w arms

-- a compound command with its redirections
abbrev pub body_steps : Command → List Step
body_steps (command.Compound x rs) = compound_steps x ++ all_steps redir_steps rs
body_steps x = []

abbrev pub body_steps_of : Script → ℕ → List Step
body_steps_of s n = elim (slice_get s.bodies n) [ None ↦ [] | Some x ↦ body_steps x ]

-- words, where the redirections wait for the first one
abbrev pub words_steps : List Word → List Redir → List Step
words_steps [] rs = all_steps redir_steps rs
words_steps (w ∷ ws) rs = word_steps w ++ (all_steps redir_steps (going (words_list ws) rs) ++ words_steps ws (waiting (words_list ws) rs))

abbrev pub assigns_steps : List (List ℕ × Word) → List Word → List Redir → List Step
assigns_steps [] ws rs = words_steps ws rs
assigns_steps (a ∷ xs) ws rs =
    assign_steps a ++ (all_steps redir_steps (going (assigns_list xs ws) rs) ++ assigns_steps xs ws (waiting (assigns_list xs ws) rs))

abbrev pub simple_steps : List (List ℕ × Word) → List Word → List Redir → List Step
simple_steps xs ws rs = all_steps redir_steps (going (assigns_list xs ws) rs) ++ assigns_steps xs ws (waiting (assigns_list xs ws) rs)

abbrev pub function_steps : Script → List ℕ → ℕ → List Step
function_steps s x n = token_step (token.Function x) ∷ op_step op.Open ∷ op_step op.Close ∷ body_steps_of s n

abbrev pub command_steps : Script → Command → List Step
command_steps s (command.Simple assigns ws rs) = simple_steps assigns ws rs
command_steps s (command.Compound x rs) = compound_steps x ++ all_steps redir_steps rs
command_steps s (command.Function x n) = function_steps s x n

-- ---- pipelines and lists (XCU 2.9.2, 2.9.3)

abbrev pub piped_steps : Script → Command → List Step
piped_steps s x = op_step op.Pipe ∷ command_steps s x

abbrev pub stages_steps : Script → List Command → List Step
stages_steps s [] = []
stages_steps s (x ∷ xs) = command_steps s x ++ all_steps (piped_steps s) xs

abbrev pub bang_steps : Bool → List Step
bang_steps true = op_step op.Bang ∷ []
bang_steps false = []

abbrev pub leaf_steps : Script → Pipeline → List Step
leaf_steps s x = bang_steps x.bang ++ stages_steps s x.stages

abbrev pub leaf_steps_of : Script → ℕ → List Step
leaf_steps_of s n = elim (slice_get s.leaves n) [ None ↦ [] | Some x ↦ leaf_steps s x ]

abbrev pub join_steps : Script → Join × ℕ → List Step
join_steps s j = op_step (join_op j.0) ∷ leaf_steps_of s j.1

abbrev pub and_or_steps : Script → AndOr → List Step
and_or_steps s a = leaf_steps_of s a.first ++ all_steps (join_steps s) a.rest

abbrev pub next_item_steps : Script → AndOr → List Step
next_item_steps s a = op_step op.Semi ∷ and_or_steps s a

abbrev pub items_steps : Script → List AndOr → List Step
items_steps s [] = []
items_steps s (a ∷ xs) = and_or_steps s a ++ all_steps (next_item_steps s) xs

abbrev pub list_steps : Script → ℕ → List Step
list_steps s n = elim (slice_get s.lists n) [ None ↦ [] | Some x ↦ items_steps s x.items ]
