-- Texts and the scripts that they spell.
use Rattle.std.proofs.Common.{◌≡◌, ℕ, true, false, List, [], ◌∷◌, ◌++◌, Option, Some, None, refl}
use Rattle.std.specs.Prelude.{codes}
use Rattle.sh_syntax.specs.declared.tree.Part.{Part}
use Rattle.sh_syntax.specs.declared.tree.Part.TheVariants as part
use Rattle.sh_syntax.specs.declared.tree.ParamOp.TheVariants as param_op
use Rattle.sh_syntax.specs.declared.tree.Word.{Word}
use Rattle.sh_syntax.specs.declared.tree.RedirOp.TheVariants as redir_op
use Rattle.sh_syntax.specs.declared.tree.Command.{Command}
use Rattle.sh_syntax.specs.declared.tree.Command.TheVariants as command
use Rattle.sh_syntax.specs.declared.tree.Compound.{Compound}
use Rattle.sh_syntax.specs.declared.tree.Compound.TheVariants as compound
use Rattle.sh_syntax.specs.declared.tree.AndOr.{AndOr}
use Rattle.sh_syntax.specs.declared.tree.Join.TheVariants.{And, Or}
use Rattle.sh_syntax.specs.declared.tree.List as tree
use Rattle.sh_syntax.specs.declared.tree.Pipeline.{Pipeline}
use Rattle.sh_syntax.specs.declared.tree.Script.{Script}
use Rattle.sh_syntax.specs.Trees.{word}
use Rattle.sh_lexer.specs.declared.token.Mode.TheVariants as mode
use Rattle.sh_lexer.specs.Bytes.{special, peel, comment, skip, piece, single, number}
use Rattle.sh_lexer.specs.Cut.{backquoted, body_of, in_single, in_double, in_delimiter}
use Rattle.sh_lexer.specs.Lex.{text_if, param_op_at, hash, in_braces, dollar, special_at, bit_at, in_word, in_quotes, in_plain_braces, in_quoted_braces, sum, in_arith, in_body, less, greater, plain_at, between, delimiter}
use Rattle.sh_lexer.specs.Lexes.{source}
use Rattle.sh_grammar.specs.Draft.{and_or}
use Rattle.sh_grammar.specs.Machine.{start}
use Rattle.sh_grammar.specs.Spells.{Spells}
use Rattle.sh_grammar.proofs.Reading.{read, spelled}

-- ---- trees

abbrev plain : List ℕ → Word
plain x = word (part.Plain x ∷ [])

abbrev list : List AndOr → tree.List
list is = record { items = is }

abbrev one : ℕ → tree.List
one n = list (and_or n ∷ [])

abbrev two : ℕ → ℕ → tree.List
two n k = list (and_or n ∷ and_or k ∷ [])

abbrev simple : List Word → Command
simple ws = command.Simple [] ws []

abbrev leaf : Command → Pipeline
leaf c = record { bang = false; stages = c ∷ [] }

-- a command of one plain word
abbrev call : List ℕ → Pipeline
call x = leaf (simple (plain x ∷ []))

abbrev echo : List Part → Pipeline
echo ps = leaf (simple (plain (codes "echo") ∷ word ps ∷ []))

abbrev run_compound : Compound → Pipeline
run_compound c = leaf (command.Compound c [])

abbrev script : List tree.List → List Pipeline → Script
script ls ps = record { lists = ls; bodies = []; leaves = ps }

abbrev reading : List ℕ → Option Script
reading text = read 99 start mode.Command (source text [])

abbrev line : List ℕ → List ℕ
line x = x ++ 10 ∷ []

-- ---- simple commands, pipelines, lists

simple_text : reading (codes "echo a; echo 'b c'")
    ≡ Some (script (two 0 1 ∷ []) (echo (part.Plain (codes "a") ∷ []) ∷ echo (part.Single (codes "b c") ∷ []) ∷ []))
unfolding text_if special peel comment skip piece single number backquoted body_of in_single in_double in_delimiter param_op_at hash in_braces dollar special_at bit_at in_word in_quotes in_plain_braces in_quoted_braces sum in_arith in_body less greater plain_at between delimiter
simple_text = refl

pub simple_spelled : Spells (script (two 0 1 ∷ []) (echo (part.Plain (codes "a") ∷ []) ∷ echo (part.Single (codes "b c") ∷ []) ∷ [])) (codes "echo a; echo 'b c'")
simple_spelled = spelled 99 (codes "echo a; echo 'b c'") _ simple_text

assigned : reading (codes "x= y=1 z=2 if >f 2>&1")
    ≡ Some (script (one 0 ∷ []) (leaf (command.Simple
    ((codes "x", word []) ∷ (codes "y", plain (codes "1")) ∷ (codes "z", plain (codes "2")) ∷ []) (plain (codes "if") ∷ [])
    (record { fd = 1; op = redir_op.Write; word = plain (codes "f") } ∷ record { fd = 2; op = redir_op.DupOut; word = plain (codes "1") } ∷ [])) ∷ []))
unfolding text_if special peel comment skip piece single number backquoted body_of in_single in_double in_delimiter param_op_at hash in_braces dollar special_at bit_at in_word in_quotes in_plain_braces in_quoted_braces sum in_arith in_body less greater plain_at between delimiter
assigned = refl

piped : reading (codes "! a | b && c || d # e")
    ≡ Some (script (list (record { first = 0; rest = (And, 1) ∷ (Or, 2) ∷ [] } ∷ []) ∷ [])
    (record { bang = true; stages = simple (plain (codes "a") ∷ []) ∷ simple (plain (codes "b") ∷ []) ∷ [] } ∷ call (codes "c") ∷ call (codes "d") ∷ []))
unfolding text_if special peel comment skip piece single number backquoted body_of in_single in_double in_delimiter param_op_at hash in_braces dollar special_at bit_at in_word in_quotes in_plain_braces in_quoted_braces sum in_arith in_body less greater plain_at between delimiter
piped = refl

-- ---- compound commands

branches : reading (codes "if a; then b; elif c; then d; else e; fi")
    ≡ Some (script (one 0 ∷ one 1 ∷ one 2 ∷ one 3 ∷ one 4 ∷ one 5 ∷ [])
    (run_compound (compound.If ((1, 2) ∷ (3, 4) ∷ []) (Some 5)) ∷ call (codes "a") ∷ call (codes "b") ∷ call (codes "c") ∷ call (codes "d") ∷ call (codes "e") ∷ []))
unfolding text_if special peel comment skip piece single number backquoted body_of in_single in_double in_delimiter param_op_at hash in_braces dollar special_at bit_at in_word in_quotes in_plain_braces in_quoted_braces sum in_arith in_body less greater plain_at between delimiter
branches = refl

loops : reading (codes "until a;do (b);done")
    ≡ Some (script (one 0 ∷ one 1 ∷ one 2 ∷ one 3 ∷ [])
    (run_compound (compound.While true 1 2) ∷ call (codes "a") ∷ run_compound (compound.Subshell 3) ∷ call (codes "b") ∷ []))
unfolding text_if special peel comment skip piece single number backquoted body_of in_single in_double in_delimiter param_op_at hash in_braces dollar special_at bit_at in_word in_quotes in_plain_braces in_quoted_braces sum in_arith in_body less greater plain_at between delimiter
loops = refl

for_words : reading (codes "for in in do a; do b; done")
    ≡ Some (script (one 0 ∷ one 1 ∷ [])
    (run_compound (compound.For (codes "in") (Some (plain (codes "do") ∷ plain (codes "a") ∷ [])) 1) ∷ call (codes "b") ∷ []))
unfolding text_if special peel comment skip piece single number backquoted body_of in_single in_double in_delimiter param_op_at hash in_braces dollar special_at bit_at in_word in_quotes in_plain_braces in_quoted_braces sum in_arith in_body less greater plain_at between delimiter
for_words = refl

for_parameters : reading (codes "for i do { b; } done")
    ≡ Some (script (one 0 ∷ one 1 ∷ one 2 ∷ [])
    (run_compound (compound.For (codes "i") None 1) ∷ run_compound (compound.Group 2) ∷ call (codes "b") ∷ []))
unfolding text_if special peel comment skip piece single number backquoted body_of in_single in_double in_delimiter param_op_at hash in_braces dollar special_at bit_at in_word in_quotes in_plain_braces in_quoted_braces sum in_arith in_body less greater plain_at between delimiter
for_parameters = refl

cases : reading (codes "case in in (a|esac) b;; c) esac")
    ≡ Some (script (one 0 ∷ one 1 ∷ list [] ∷ [])
    (run_compound (compound.Case (plain (codes "in")) ((plain (codes "a") ∷ plain (codes "esac") ∷ [], 1) ∷ (plain (codes "c") ∷ [], 2) ∷ [])) ∷ call (codes "b") ∷ []))
unfolding text_if special peel comment skip piece single number backquoted body_of in_single in_double in_delimiter param_op_at hash in_braces dollar special_at bit_at in_word in_quotes in_plain_braces in_quoted_braces sum in_arith in_body less greater plain_at between delimiter
cases = refl

functions : reading (codes "f ( ) { a; } >b; f")
    ≡ Some (record {
      lists = two 0 2 ∷ one 1 ∷ [];
      bodies = command.Compound (compound.Group 1) (record { fd = 1; op = redir_op.Write; word = plain (codes "b") } ∷ []) ∷ [];
      leaves = leaf (command.Function (codes "f") 0) ∷ call (codes "a") ∷ call (codes "f") ∷ [];
    })
unfolding text_if special peel comment skip piece single number backquoted body_of in_single in_double in_delimiter param_op_at hash in_braces dollar special_at bit_at in_word in_quotes in_plain_braces in_quoted_braces sum in_arith in_body less greater plain_at between delimiter
functions = refl

-- ---- words

quoted : reading (codes "echo a\\ b\"c$x\\$'\"d")
    ≡ Some (script (one 0 ∷ []) (echo
    (part.Plain (codes "a") ∷ part.Escaped 32 ∷ part.Plain (codes "b")
    ∷ part.Double (part.Plain (codes "c") ∷ part.Param (codes "x") param_op.Value false None ∷ part.Escaped 36 ∷ part.Plain (codes "'") ∷ [])
    ∷ part.Plain (codes "d") ∷ []) ∷ []))
unfolding text_if special peel comment skip piece single number backquoted body_of in_single in_double in_delimiter param_op_at hash in_braces dollar special_at bit_at in_word in_quotes in_plain_braces in_quoted_braces sum in_arith in_body less greater plain_at between delimiter
quoted = refl

parameters : reading (codes "echo ${#x}${10}$1${x:-a b}${##}$@")
    ≡ Some (script (one 0 ∷ []) (echo
    (part.Param (codes "x") param_op.Length false None ∷ part.Param (codes "10") param_op.Value false None ∷ part.Param (codes "1") param_op.Value false None
    ∷ part.Param (codes "x") param_op.Default true (Some (plain (codes "a b"))) ∷ part.Param (codes "#") param_op.SmallPrefix false (Some (word []))
    ∷ part.Param (codes "@") param_op.Value false None ∷ []) ∷ []))
unfolding text_if special peel comment skip piece single number backquoted body_of in_single in_double in_delimiter param_op_at hash in_braces dollar special_at bit_at in_word in_quotes in_plain_braces in_quoted_braces sum in_arith in_body less greater plain_at between delimiter
parameters = refl

substitutions : reading (codes "echo \"$(a)\"`b \\`c\\``")
    ≡ Some (script (one 0 ∷ one 1 ∷ one 2 ∷ one 3 ∷ [])
    (echo (part.Double (part.Command 1 ∷ []) ∷ part.Command 2 ∷ []) ∷ call (codes "a")
    ∷ leaf (simple (plain (codes "b") ∷ word (part.Command 3 ∷ []) ∷ [])) ∷ call (codes "c") ∷ []))
unfolding text_if special peel comment skip piece single number backquoted body_of in_single in_double in_delimiter param_op_at hash in_braces dollar special_at bit_at in_word in_quotes in_plain_braces in_quoted_braces sum in_arith in_body less greater plain_at between delimiter
substitutions = refl

sums : reading (codes "echo $((1+(2)*$x))")
    ≡ Some (script (one 0 ∷ []) (echo (part.Arith (word (part.Plain (codes "1+(2)*") ∷ part.Param (codes "x") param_op.Value false None ∷ [])) ∷ []) ∷ []))
unfolding text_if special peel comment skip piece single number backquoted body_of in_single in_double in_delimiter param_op_at hash in_braces dollar special_at bit_at in_word in_quotes in_plain_braces in_quoted_braces sum in_arith in_body less greater plain_at between delimiter
sums = refl

-- ---- here-documents

here : reading (line (codes "a <<E <<-\\F") ++ line (codes "x$y") ++ line (codes "E") ++ 9 ∷ line (codes "z") ++ 9 ∷ codes "F")
    ≡ Some (script (one 0 ∷ []) (leaf (command.Simple [] (plain (codes "a") ∷ [])
    (record { fd = 0; op = redir_op.Here; word = word (part.Double (part.Plain (codes "x") ∷ part.Param (codes "y") param_op.Value false None ∷ part.Plain (10 ∷ []) ∷ []) ∷ []) }
    ∷ record { fd = 0; op = redir_op.Here; word = word (part.Single (line (codes "z")) ∷ []) } ∷ [])) ∷ []))
unfolding text_if special peel comment skip piece single number backquoted body_of in_single in_double in_delimiter param_op_at hash in_braces dollar special_at bit_at in_word in_quotes in_plain_braces in_quoted_braces sum in_arith in_body less greater plain_at between delimiter
here = refl

-- ---- no scripts

not_in_background : reading (codes "a & b") ≡ None
unfolding text_if special peel comment skip piece single number backquoted body_of in_single in_double in_delimiter param_op_at hash in_braces dollar special_at bit_at in_word in_quotes in_plain_braces in_quoted_braces sum in_arith in_body less greater plain_at between delimiter
not_in_background = refl

no_empty_group : reading (codes "{ }") ≡ None
unfolding text_if special peel comment skip piece single number backquoted body_of in_single in_double in_delimiter param_op_at hash in_braces dollar special_at bit_at in_word in_quotes in_plain_braces in_quoted_braces sum in_arith in_body less greater plain_at between delimiter
no_empty_group = refl

no_builtin_function : reading (codes "break () { a; }") ≡ None
unfolding text_if special peel comment skip piece single number backquoted body_of in_single in_double in_delimiter param_op_at hash in_braces dollar special_at bit_at in_word in_quotes in_plain_braces in_quoted_braces sum in_arith in_body less greater plain_at between delimiter
no_builtin_function = refl

no_high_descriptor : reading (codes "a 3>b") ≡ None
unfolding text_if special peel comment skip piece single number backquoted body_of in_single in_double in_delimiter param_op_at hash in_braces dollar special_at bit_at in_word in_quotes in_plain_braces in_quoted_braces sum in_arith in_body less greater plain_at between delimiter
no_high_descriptor = refl

no_bad_parameter : reading (codes "echo ${a$b}") ≡ None
unfolding text_if special peel comment skip piece single number backquoted body_of in_single in_double in_delimiter param_op_at hash in_braces dollar special_at bit_at in_word in_quotes in_plain_braces in_quoted_braces sum in_arith in_body less greater plain_at between delimiter
no_bad_parameter = refl

no_open_quote : reading (codes "echo \"a") ≡ None
unfolding text_if special peel comment skip piece single number backquoted body_of in_single in_double in_delimiter param_op_at hash in_braces dollar special_at bit_at in_word in_quotes in_plain_braces in_quoted_braces sum in_arith in_body less greater plain_at between delimiter
no_open_quote = refl

no_open_body : reading (line (codes "cat <<E") ++ codes "x") ≡ None
unfolding text_if special peel comment skip piece single number backquoted body_of in_single in_double in_delimiter param_op_at hash in_braces dollar special_at bit_at in_word in_quotes in_plain_braces in_quoted_braces sum in_arith in_body less greater plain_at between delimiter
no_open_body = refl

no_nul : reading (codes "echo '" ++ 0 ∷ codes "'") ≡ None
unfolding text_if special peel comment skip piece single number backquoted body_of in_single in_double in_delimiter param_op_at hash in_braces dollar special_at bit_at in_word in_quotes in_plain_braces in_quoted_braces sum in_arith in_body less greater plain_at between delimiter
no_nul = refl
