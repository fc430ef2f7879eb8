-- How scripts are written: each thing is put before the text c that comes behind it. Tokens are written as everywhere; how they
-- are read doesn't tell in their text, and stands here as Word.
use Rattle.std.specs.Prelude.{ℕ, zero, suc, Bool, true, false, not, ◌==◌, ◌&&◌, nat_lt, List, [], ◌∷◌, map, Option, Some, None, slice_get, if◌then◌else◌}
use Rattle.sh_syntax.specs.declared.tree.Part.{Part, out-Part, fold-Part}
use Rattle.sh_syntax.specs.declared.tree.Part.TheOpen as open_part
use Rattle.sh_syntax.specs.declared.tree.Part.TheOpen.{Part-F, Word-F}
use Rattle.sh_syntax.specs.declared.tree.ParamOp.{ParamOp}
use Rattle.sh_syntax.specs.declared.tree.ParamOp.TheVariants as param_op
use Rattle.sh_syntax.specs.declared.tree.Word.{Word}
use Rattle.sh_syntax.specs.declared.tree.Redir.{Redir}
use Rattle.sh_syntax.specs.declared.tree.Command.{Command}
use Rattle.sh_syntax.specs.declared.tree.Command.TheVariants as command
use Rattle.sh_syntax.specs.declared.tree.Compound.{Compound}
use Rattle.sh_syntax.specs.declared.tree.Compound.TheVariants as compound
use Rattle.sh_syntax.specs.declared.tree.AndOr.{AndOr}
use Rattle.sh_syntax.specs.declared.tree.Join.{Join}
use Rattle.sh_syntax.specs.declared.tree.Pipeline.{Pipeline}
use Rattle.sh_syntax.specs.declared.tree.Script.{Script}
use Rattle.sh_lexer.specs.declared.token.Token.TheVariants as token
use Rattle.sh_lexer.specs.declared.token.Op.{Op}
use Rattle.sh_lexer.specs.declared.token.Op.TheVariants as op
use Rattle.sh_lexer.specs.declared.token.Bit.TheVariants as bit
use Rattle.sh_lexer.specs.declared.token.Opener.{Opener}
use Rattle.sh_lexer.specs.declared.token.Opener.TheVariants as opener
use Rattle.sh_lexer.specs.declared.token.End.{End}
use Rattle.sh_lexer.specs.declared.token.End.TheVariants as end
use Rattle.sh_lexer.specs.declared.token.Mode.TheVariants as mode
use Rattle.sh_lexer.specs.Bytes.{begins_name, in_name}
use Rattle.sh_grammar.specs.Grammar.{loop_op, join_op}
use Rattle.sh_spell.specs.Layout.{written}

-- a text before another
abbrev pub Before : Type 0
Before = List ℕ → List ℕ

-- several things, one after another
abbrev pub each : {A : Type 0} → (A → Before) → List A → Before
each f [] c = c
each f (x ∷ xs) c = f x (each f xs c)

abbrev pub operator : Op → Before
operator o c = written (token.Operator o) c

abbrev pub opening : Opener → Before
opening o c = written (token.Open o mode.Word) c

abbrev pub ending : End → Before
ending e c = written (token.End e mode.Word) c

-- ---- words (POSIX.1-2017, XCU 2.2, 2.6)

abbrev pub begins_in_name : List ℕ → Bool
begins_in_name [] = false
begins_in_name (b ∷ r) = in_name b

abbrev pub is_empty : List ℕ → Bool
is_empty [] = true
is_empty (b ∷ r) = false

-- Without braces a name goes on as far as it can, and other parameters are one byte.
abbrev pub needs_braces : List ℕ → List ℕ → Bool
needs_braces [] c = true
needs_braces (b ∷ x) c = if begins_name b then begins_in_name c else not (is_empty x)

abbrev pub value_text : List ℕ → Before
value_text x c = if needs_braces x c then written (token.Param x false) c else written (token.Part (bit.Value x)) c

abbrev pub alone_text : ParamOp → List ℕ → Before
alone_text param_op.Length x c = written (token.Param x true) c
alone_text o x c = value_text x c

abbrev pub param_with : (Part → Before) → List ℕ → ParamOp → Bool → Option Word → Before
param_with p x o colon None c = alone_text o x c
param_with p x o colon (Some w) c = opening (opener.Braces x o colon false) (each p w.parts (ending end.Brace c))

-- a part, where p writes the parts in it and l the list of a number
abbrev pub opened_with : (Part → Before) → (ℕ → Before) → Part-F Part Word → Before
opened_with p l o c = elim o [
  | open_part.Plain x ↦ written (token.Part (bit.Piece x)) c
  | open_part.Single x ↦ written (token.Part (bit.Single x)) c
  | open_part.Escaped b ↦ written (token.Part (bit.Escaped b)) c
  | open_part.Double ps ↦ opening opener.Double (each p ps (ending end.Quote c))
  | open_part.Param x o colon w ↦ param_with p x o colon w c
  | open_part.Command n ↦ opening opener.Command (l n (ending end.List c))
  | open_part.Arith w ↦ opening opener.Arith (each p w.parts (ending end.Arith c))
]

abbrev pub part_with : (Part → Before) → (ℕ → Before) → Part → Before
part_with p l q c = opened_with p l (out-Part q) c

abbrev pub word_with : (Part → Before) → Word → Before
word_with p w c = each p w.parts (ending end.Word c)

-- ---- commands (XCU 2.9)

abbrev pub redir_with : (Part → Before) → Redir → Before
redir_with p r c = written (token.Redirect r.fd r.op) (word_with p r.word c)

abbrev pub assign_with : (Part → Before) → List ℕ × Word → Before
assign_with p a c = written (token.Assign a.0) (word_with p a.1 c)

-- ---- lists in words, which are numbered in the order in which they begin

abbrev pub or_first : Option ℕ → Option ℕ → Option ℕ
or_first None o = o
or_first (Some n) o = Some n

abbrev pub first_of : List (Option ℕ) → Option ℕ
first_of [] = None
first_of (o ∷ os) = or_first o (first_of os)

abbrev pub first_if : Option (Option ℕ) → Option ℕ
first_if None = None
first_if (Some o) = o

-- the first list in a part, where those of the parts in it are known
abbrev pub layer_list : Part-F (Option ℕ) (Option ℕ) → Option ℕ
layer_list o = elim o [
  | open_part.Plain x ↦ None
  | open_part.Single x ↦ None
  | open_part.Escaped b ↦ None
  | open_part.Double os ↦ first_of os
  | open_part.Param x o colon w ↦ first_if w
  | open_part.Command n ↦ Some n
  | open_part.Arith o ↦ o
]

abbrev pub inner_list : Word-F (Option ℕ) (Option ℕ) → Option ℕ
inner_list w = first_of w.parts

abbrev pub part_list : Part → Option ℕ
part_list q = fold-Part (Option ℕ) (Option ℕ) layer_list inner_list q

abbrev pub parts_list : List Part → Option ℕ
parts_list ps = first_of (map part_list ps)

abbrev pub word_list : Word → Option ℕ
word_list w = parts_list w.parts

abbrev pub operand_list : Option Word → Option ℕ
operand_list None = None
operand_list (Some w) = word_list w

abbrev pub words_list : List Word → Option ℕ
words_list [] = None
words_list (w ∷ ws) = or_first (word_list w) (words_list ws)

-- in assignments and the words behind them
abbrev pub assigns_list : List (List ℕ × Word) → List Word → Option ℕ
assigns_list [] ws = words_list ws
assigns_list (a ∷ xs) ws = or_first (word_list a.1) (assigns_list xs ws)

-- ---- where redirections stand among assignments and words

abbrev pub is_backslash : List ℕ → Bool
is_backslash [] = false
is_backslash (b ∷ []) = b == 92
is_backslash (b ∷ c ∷ x) = false

abbrev pub lone_of : Part-F Part Word → Bool
lone_of o = elim o [
  | open_part.Plain x ↦ is_backslash x
  | open_part.Single x ↦ false
  | open_part.Escaped b ↦ false
  | open_part.Double ps ↦ false
  | open_part.Param x o colon w ↦ false
  | open_part.Command n ↦ false
  | open_part.Arith w ↦ false
]

-- a backslash that stands for itself, as it may at the very end of a text
abbrev pub is_lone : Part → Bool
is_lone q = lone_of (out-Part q)

abbrev pub ends_lone : List Part → Bool
ends_lone [] = false
ends_lone (q ∷ []) = is_lone q
ends_lone (q ∷ p ∷ ps) = ends_lone (p ∷ ps)

-- whether a list that begins there, if any does, comes before the other one
abbrev pub is_sooner : Option ℕ → Option ℕ → Bool
is_sooner None o = true
is_sooner (Some n) None = true
is_sooner (Some n) (Some k) = nat_lt n k

-- A redirection stands before what is left of a command, unless a list that is left comes before its first one, or it ends in
-- a backslash behind which nothing may be written.
abbrev pub goes_first : Option ℕ → Redir → Bool
goes_first o r = not (ends_lone r.word.parts) && is_sooner (word_list r.word) o

-- those at the front that stand before what is left, where o is the first list that is left
abbrev pub going : Option ℕ → List Redir → List Redir
going o [] = []
going o (r ∷ rs) = if goes_first o r then r ∷ going o rs else []

abbrev pub front_list : List Redir → Option ℕ
front_list [] = None
front_list (r ∷ rs) = word_list r.word

-- and those that wait
abbrev pub waiting : Option ℕ → List Redir → List Redir
waiting o [] = []
waiting o (r ∷ rs) = if goes_first o r then waiting o rs else r ∷ rs

-- words, where the redirections wait for the first one
abbrev pub words_with : (Part → Before) → List Word → List Redir → Before
words_with p [] rs c = each (redir_with p) rs c
words_with p (w ∷ ws) rs c = word_with p w (each (redir_with p) (going (words_list ws) rs) (words_with p ws (waiting (words_list ws) rs) c))

abbrev pub assigns_with : (Part → Before) → List (List ℕ × Word) → List Word → List Redir → Before
assigns_with p [] ws rs c = words_with p ws rs c
assigns_with p (a ∷ xs) ws rs c =
    assign_with p a (each (redir_with p) (going (assigns_list xs ws) rs) (assigns_with p xs ws (waiting (assigns_list xs ws) rs) c))

abbrev pub simple_with : (Part → Before) → List (List ℕ × Word) → List Word → List Redir → Before
simple_with p xs ws rs c = each (redir_with p) (going (assigns_list xs ws) rs) (assigns_with p xs ws (waiting (assigns_list xs ws) rs) c)

-- a list in a compound command, and the word behind it
abbrev pub listed : (ℕ → Before) → ℕ → Op → Before
listed l n o c = l n (operator op.Semi (operator o c))

abbrev pub branch_with : (ℕ → Before) → ℕ × ℕ → Before
branch_with l a c = listed l a.0 op.Then (l a.1 (operator op.Semi c))

abbrev pub elif_with : (ℕ → Before) → ℕ × ℕ → Before
elif_with l a c = operator op.Elif (branch_with l a c)

abbrev pub branches_with : (ℕ → Before) → List (ℕ × ℕ) → Before
branches_with l [] c = c
branches_with l (a ∷ xs) c = branch_with l a (each (elif_with l) xs c)

abbrev pub else_with : (ℕ → Before) → Option ℕ → Before
else_with l None c = operator op.Fi c
else_with l (Some n) c = operator op.Else (listed l n op.Fi c)

abbrev pub more_pattern : (Part → Before) → Word → Before
more_pattern p w c = operator op.PipePattern (word_with p w c)

abbrev pub patterns_with : (Part → Before) → List Word → Before
patterns_with p [] c = c
patterns_with p (w ∷ ws) c = word_with p w (each (more_pattern p) ws c)

abbrev pub arm_with : (Part → Before) → (ℕ → Before) → List Word × ℕ → Before
arm_with p l a c = patterns_with p a.0 (operator op.Close (l a.1 (operator op.DoubleSemi c)))

abbrev pub for_words_with : (Part → Before) → Option (List Word) → Before
for_words_with p None c = c
for_words_with p (Some ws) c = operator op.In (each (word_with p) ws (operator op.Semi c))

abbrev pub compound_with : (Part → Before) → (ℕ → Before) → Compound → Before
compound_with p l (compound.Group n) c = operator op.LeftBrace (listed l n op.RightBrace c)
compound_with p l (compound.Subshell n) c = operator op.Open (l n (operator op.Close c))
compound_with p l (compound.If arms o) c = operator op.If (branches_with l arms (else_with l o c))
compound_with p l (compound.While until n k) c = operator (loop_op until) (listed l n op.Do (listed l k op.Done c))
compound_with p l (compound.For x ws n) c =
    operator op.For (written (token.Part (bit.Piece x)) (ending end.Word (for_words_with p ws (operator op.Do (listed l n op.Done c)))))
compound_with p l (compound.Case w arms) c = operator op.Case (word_with p w (operator op.CaseIn (each (arm_with p l) arms (operator op.Esac c))))

-- a compound command with its redirections
abbrev pub body_with : (Part → Before) → (ℕ → Before) → Command → Before
body_with p l (command.Compound x rs) c = compound_with p l x (each (redir_with p) rs c)
body_with p l x c = c

abbrev pub body_of : Script → (Part → Before) → (ℕ → Before) → ℕ → Before
body_of s p l n c = elim (slice_get s.bodies n) [ None ↦ c | Some x ↦ body_with p l x c ]

abbrev pub command_with : Script → (Part → Before) → (ℕ → Before) → Command → Before
command_with s p l (command.Simple assigns ws rs) c = simple_with p assigns ws rs c
command_with s p l (command.Compound x rs) c = body_with p l (command.Compound x rs) c
command_with s p l (command.Function x n) c = written (token.Function x) (operator op.Open (operator op.Close (body_of s p l n c)))

-- ---- pipelines and lists (XCU 2.9.2, 2.9.3)

abbrev pub piped : Script → (Part → Before) → (ℕ → Before) → Command → Before
piped s p l x c = operator op.Pipe (command_with s p l x c)

abbrev pub stages_with : Script → (Part → Before) → (ℕ → Before) → List Command → Before
stages_with s p l [] c = c
stages_with s p l (x ∷ xs) c = command_with s p l x (each (piped s p l) xs c)

abbrev pub bang_text : Bool → Before
bang_text true c = operator op.Bang c
bang_text false c = c

abbrev pub leaf_with : Script → (Part → Before) → (ℕ → Before) → Pipeline → Before
leaf_with s p l x c = bang_text x.bang (stages_with s p l x.stages c)

abbrev pub leaf_of : Script → (Part → Before) → (ℕ → Before) → ℕ → Before
leaf_of s p l n c = elim (slice_get s.leaves n) [ None ↦ c | Some x ↦ leaf_with s p l x c ]

abbrev pub join_with : (ℕ → Before) → Join × ℕ → Before
join_with f j c = operator (join_op j.0) (f j.1 c)

abbrev pub and_or_with : (ℕ → Before) → AndOr → Before
and_or_with f a c = f a.first (each (join_with f) a.rest c)

abbrev pub next_item : (ℕ → Before) → AndOr → Before
next_item f a c = operator op.Semi (and_or_with f a c)

-- AND-OR lists, where f writes the pipeline of a number
abbrev pub items_with : (ℕ → Before) → List AndOr → Before
items_with f [] c = c
items_with f (a ∷ xs) c = and_or_with f a (each (next_item f) xs c)

abbrev pub list_of : Script → (Part → Before) → (ℕ → Before) → ℕ → Before
list_of s p l n c = elim (slice_get s.lists n) [ None ↦ c | Some x ↦ items_with (leaf_of s p l) x.items c ]

-- ---- scripts

-- The first number says how deep parts and lists may lie in one another. What lies deeper isn't written.
unfoldable mutual
  pub part_text : Script → ℕ → Part → Before
  part_text s zero q c = c
  part_text s (suc d) q c = part_with (part_text s d) (list_text s d) q c

  pub list_text : Script → ℕ → ℕ → Before
  list_text s zero n c = c
  list_text s (suc d) n c = list_of s (part_text s d) (list_text s d) n c

-- Where 100 things are open at once, parts and lists lie no deeper: each that is open is a part, or a command in a list, and may
-- have a list or double quotes in it.
abbrev pub deepest : ℕ
deepest = 303

abbrev pub script_text : Script → List ℕ
script_text s = list_text s deepest 0 []
