-- The script so far, as rules and machine change it.
use Rattle.std.specs.Prelude.{ℕ, Bool, List, [], ◌∷◌, ◌++◌, length, map, Option, Some, None, slice_get, slice_set}
use Rattle.sh_syntax.specs.declared.tree.Part.{Part}
use Rattle.sh_syntax.specs.declared.tree.Part.TheVariants as part
use Rattle.sh_syntax.specs.declared.tree.Word.{Word}
use Rattle.sh_syntax.specs.declared.tree.Redir.{Redir}
use Rattle.sh_syntax.specs.declared.tree.RedirOp.{RedirOp}
use Rattle.sh_syntax.specs.declared.tree.RedirOp.TheVariants as redir_op
use Rattle.sh_syntax.specs.declared.tree.Command.{Command}
use Rattle.sh_syntax.specs.declared.tree.Command.TheVariants as command
use Rattle.sh_syntax.specs.declared.tree.AndOr.{AndOr}
use Rattle.sh_syntax.specs.declared.tree.Join.{Join}
use Rattle.sh_syntax.specs.declared.tree.Pipeline.{Pipeline}
use Rattle.sh_syntax.specs.declared.tree.Script.{Script}
use Rattle.sh_syntax.specs.Trees.{word}
use Rattle.sh_lexer.specs.declared.token.Mode.{Mode}
use Rattle.sh_lexer.specs.declared.token.Mode.TheVariants as mode
use Rattle.sh_grammar.specs.declared.state.Due.{Due}
use Rattle.sh_grammar.specs.declared.state.Draft.{Draft}

-- ---- numbering: in the order in which they begin

abbrev pub next_list : Draft → ℕ
next_list s = length s.script.lists

abbrev pub begin_list : Draft → Draft
begin_list s = record s { script = record s.script { lists = s.script.lists ++ record { items = [] } ∷ [] } }

abbrev pub end_list : ℕ → List AndOr → Draft → Draft
end_list n items s = record s { script = record s.script { lists = slice_set s.script.lists n (record { items = items }) } }

abbrev pub next_leaf : Draft → ℕ
next_leaf s = length s.script.leaves

abbrev pub begin_leaf : Bool → Draft → Draft
begin_leaf bang s = record s { script = record s.script { leaves = s.script.leaves ++ record { bang = bang; stages = [] } ∷ [] } }

abbrev pub end_leaf : ℕ → Bool → List Command → Draft → Draft
end_leaf n bang stages s =
    record s { script = record s.script { leaves = slice_set s.script.leaves n (record { bang = bang; stages = stages }) } }

abbrev pub next_body : Draft → ℕ
next_body s = length s.script.bodies

abbrev pub begin_body : Draft → Draft
begin_body s = record s { script = record s.script { bodies = s.script.bodies ++ command.Simple [] [] [] ∷ [] } }

abbrev pub end_body : ℕ → Command → Draft → Draft
end_body n c s = record s { script = record s.script { bodies = slice_set s.script.bodies n c } }

-- ---- here-documents

abbrev pub next_here : Draft → ℕ
next_here s = length s.heres

-- a here-document whose body comes after the next newline
abbrev pub begin_here : List ℕ → Bool → Bool → Draft → Draft
begin_here delimiter strip quoted s = record s {
  heres = s.heres ++ word [] ∷ [];
  due = s.due ++ record { number = length s.heres; here = record { delimiter = delimiter; strip = strip; quoted = quoted } } ∷ [];
}

abbrev pub end_here : ℕ → Part → Draft → Draft
end_here n body s = record s { heres = slice_set s.heres n (word (body ∷ [])) }

-- a newline has come
abbrev pub none_due : Draft → Draft
none_due s = record s { due = [] }

-- how what comes next is read, where these bodies come first
abbrev pub cut_mode : Mode → List Due → Mode
cut_mode m [] = m
cut_mode m (h ∷ hs) = mode.Cut h.here

-- ---- trees

abbrev pub redir : ℕ → RedirOp → List Part → Redir
redir fd o parts = record { fd = fd; op = o; word = word parts }

-- the redirection of a here-document whose body isn't put in its place yet
abbrev pub here_redir : ℕ → ℕ → Redir
here_redir fd n = redir fd redir_op.Here (part.Command n ∷ [])

abbrev pub and_or : ℕ → AndOr
and_or leaf = record { first = leaf; rest = [] }

abbrev pub joined : AndOr → Join → ℕ → AndOr
joined a j leaf = record a { rest = a.rest ++ (j, leaf) ∷ [] }

-- ---- the whole script, with the bodies of here-documents in their places

abbrev pub number_in : List Part → ℕ
number_in [] = 0
number_in (part.Command n ∷ ps) = n
number_in (p ∷ ps) = 0

abbrev pub or_empty : Option Word → Word
or_empty None = word []
or_empty (Some w) = w

abbrev pub with_body : List Word → Redir → RedirOp → Redir
with_body bodies r redir_op.Here = record r { word = or_empty (slice_get bodies (number_in r.word.parts)) }
with_body bodies r o = r

abbrev pub filled_redirs : List Word → List Redir → List Redir
filled_redirs bodies rs = map (λ r. with_body bodies r r.op) rs

abbrev pub filled_command : List Word → Command → Command
filled_command bodies (command.Simple assigns words redirs) = command.Simple assigns words (filled_redirs bodies redirs)
filled_command bodies (command.Compound body redirs) = command.Compound body (filled_redirs bodies redirs)
filled_command bodies (command.Function name body) = command.Function name body

abbrev pub filled_leaf : List Word → Pipeline → Pipeline
filled_leaf bodies l = record l { stages = map (filled_command bodies) l.stages }

abbrev pub filled : Draft → Script
filled s = record s.script {
  bodies = map (filled_command s.heres) s.script.bodies;
  leaves = map (filled_leaf s.heres) s.script.leaves;
}

abbrev pub no_draft : Draft
no_draft = record { script = record { lists = []; bodies = []; leaves = [] }; heres = []; due = [] }
