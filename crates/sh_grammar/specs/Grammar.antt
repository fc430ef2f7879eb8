-- The grammar over tokens (POSIX.1-2017, XCU 2.10.2). Each family reads a front of the tokens: of its two lists of tokens the
-- first is where it begins, the second what it leaves. Its two drafts are the scripts so far, before and after. A list,
-- pipeline or body takes the next number when it begins, and its content when it ends. The number in front is how many
-- compound commands, `${`, `$(`, `$((` and backquotes may still be opened.
use Rattle.std.specs.Prelude.{◌≡◌, ℕ, suc, Bool, true, false, List, [], ◌∷◌, ◌++◌, Option, Some, None}
use Rattle.sh_syntax.specs.declared.tree.Part.{Part}
use Rattle.sh_syntax.specs.declared.tree.Part.TheVariants as part
use Rattle.sh_syntax.specs.declared.tree.ParamOp.{ParamOp}
use Rattle.sh_syntax.specs.declared.tree.ParamOp.TheVariants as param_op
use Rattle.sh_syntax.specs.declared.tree.Word.{Word}
use Rattle.sh_syntax.specs.declared.tree.Redir.{Redir}
use Rattle.sh_syntax.specs.declared.tree.RedirOp.{RedirOp}
use Rattle.sh_syntax.specs.declared.tree.Command.{Command}
use Rattle.sh_syntax.specs.declared.tree.Command.TheVariants as command
use Rattle.sh_syntax.specs.declared.tree.Compound.{Compound}
use Rattle.sh_syntax.specs.declared.tree.Compound.TheVariants as compound
use Rattle.sh_syntax.specs.declared.tree.AndOr.{AndOr}
use Rattle.sh_syntax.specs.declared.tree.Join.{Join}
use Rattle.sh_syntax.specs.declared.tree.Join.TheVariants as join
use Rattle.sh_syntax.specs.declared.tree.Script.{Script}
use Rattle.sh_syntax.specs.Trees.{word}
use Rattle.sh_lexer.specs.declared.token.Token.{Token}
use Rattle.sh_lexer.specs.declared.token.Token.TheVariants.{Operator, Open, End}
use Rattle.sh_lexer.specs.declared.token.Token.TheVariants as token
use Rattle.sh_lexer.specs.declared.token.Op.{Op}
use Rattle.sh_lexer.specs.declared.token.Op.TheVariants as op
use Rattle.sh_lexer.specs.declared.token.Bit.{Bit}
use Rattle.sh_lexer.specs.declared.token.Bit.TheVariants as bit
use Rattle.sh_lexer.specs.declared.token.Opener.TheVariants as opener
use Rattle.sh_lexer.specs.declared.token.End.TheVariants as end
use Rattle.sh_lexer.specs.declared.token.Mode.{Mode}
use Rattle.sh_lexer.specs.declared.token.Mode.TheVariants as mode
use Rattle.sh_lexer.specs.Bytes.{is_name}
use Rattle.sh_grammar.specs.declared.state.Due.{Due}
use Rattle.sh_grammar.specs.declared.state.Draft.{Draft}
use Rattle.sh_grammar.specs.declared.state.Simple.{Simple}
use Rattle.sh_grammar.specs.Draft.{next_list, begin_list, end_list, next_leaf, begin_leaf, end_leaf, next_body, begin_body, end_body, next_here, begin_here, end_here, none_due, cut_mode, redir, here_redir, and_or, joined, filled, no_draft}

abbrev pub NotEmpty : {A : Type 0} → List A → Type 0
NotEmpty [] = ⊥
NotEmpty (x ∷ xs) = Unit {0}

-- ---- parts

abbrev pub part_of : Bit → Part
part_of (bit.Piece x) = part.Plain x
part_of (bit.Sum x n) = part.Plain x
part_of (bit.Escaped b) = part.Escaped b
part_of (bit.Single x) = part.Single x
part_of (bit.Value x) = part.Param x param_op.Value false None

abbrev pub param_of : List ℕ → Bool → Part
param_of x true = part.Param x param_op.Length false None
param_of x false = part.Param x param_op.Value false None

-- ---- simple commands

abbrev pub no_simple : Simple
no_simple = record { assigns = []; words = []; redirs = [] }

abbrev pub with_assign : List ℕ → List Part → Simple → Simple
with_assign x value c = record c { assigns = c.assigns ++ (x, word value) ∷ [] }

abbrev pub with_word : List Part → Simple → Simple
with_word parts c = record c { words = c.words ++ word parts ∷ [] }

abbrev pub with_redir : Redir → Simple → Simple
with_redir r c = record c { redirs = c.redirs ++ r ∷ [] }

abbrev pub simple : Simple → Command
simple c = command.Simple c.assigns c.words c.redirs

-- assignments are recognised before the first word
abbrev pub mode_before : List Word → Mode
mode_before [] = mode.Prefix
mode_before (w ∷ ws) = mode.Arguments

-- There is an assignment, a word or a redirection.
pub data HasElement : Simple → Type 0 where
  has_assign : {c : Simple} → NotEmpty c.assigns → HasElement c
  has_word : {c : Simple} → NotEmpty c.words → HasElement c
  has_redir : {c : Simple} → NotEmpty c.redirs → HasElement c

-- ---- operators

abbrev pub loop_op : Bool → Op
loop_op true = op.Until
loop_op false = op.While

abbrev pub join_op : Join → Op
join_op join.And = op.AndIf
join_op join.Or = op.OrIf

-- the `(` before the patterns of an arm, which may be left out
pub data MayOpen : List Token → List Token → Type 0 where
  not_opened : {ts : List Token} → MayOpen ts ts
  pattern_opened : {ts : List Token} → MayOpen (Operator op.OpenPattern ∷ ts) ts

mutual
  -- the rest of a word, or of what is in it, after the parts before
  pub data Parts : ℕ → Draft → List Part → List Token → List Token → List Part → Draft → Type 0 where
    parts_end : {d : ℕ} {s : Draft} {ps : List Part} {ts : List Token} → Parts d s ps ts ts ps s
    one_bit : {d : ℕ} {s s' : Draft} {ps qs : List Part} {b : Bit} {ts rest : List Token} →
        Parts d s (ps ++ part_of b ∷ []) ts rest qs s' → Parts d s ps (token.Part b ∷ ts) rest qs s'
    -- `${x}` is opened and closed at once
    param : {d : ℕ} {s s' : Draft} {ps qs : List Part} {x : List ℕ} {l : Bool} {ts rest : List Token} →
        Parts (suc d) s (ps ++ param_of x l ∷ []) ts rest qs s' → Parts (suc d) s ps (token.Param x l ∷ ts) rest qs s'
    double : {d : ℕ} {s t s' : Draft} {ps qs inner : List Part} {m : Mode} {ts mid rest : List Token} →
        Parts d s [] ts (End end.Quote m ∷ mid) inner t → Parts d t (ps ++ part.Double inner ∷ []) mid rest qs s' →
        Parts d s ps (Open opener.Double m ∷ ts) rest qs s'
    braces : {d : ℕ} {s t s' : Draft} {ps qs inner : List Part} {x : List ℕ} {o : ParamOp} {c q : Bool} {m : Mode} {ts mid rest : List Token} →
        Parts d s [] ts (End end.Brace m ∷ mid) inner t → Parts (suc d) t (ps ++ part.Param x o c (Some (word inner)) ∷ []) mid rest qs s' →
        Parts (suc d) s ps (Open (opener.Braces x o c q) m ∷ ts) rest qs s'
    arith : {d : ℕ} {s t s' : Draft} {ps qs inner : List Part} {m : Mode} {ts mid rest : List Token} →
        Parts d s [] ts (End end.Arith m ∷ mid) inner t → Parts (suc d) t (ps ++ part.Arith (word inner) ∷ []) mid rest qs s' →
        Parts (suc d) s ps (Open opener.Arith m ∷ ts) rest qs s'
    substitution : {d : ℕ} {s t s' : Draft} {ps qs : List Part} {is : List AndOr} {m : Mode} {ts mid rest : List Token} →
        MayBeList d (begin_list s) ts (End end.List m ∷ mid) is t →
        Parts (suc d) (end_list (next_list s) is t) (ps ++ part.Command (next_list s) ∷ []) mid rest qs s' →
        Parts (suc d) s ps (Open opener.Command m ∷ ts) rest qs s'
    backquotes : {d : ℕ} {s t s' : Draft} {ps qs : List Part} {is : List AndOr} {m : Mode} {ts mid rest : List Token} →
        MayBeList d (begin_list s) ts (End end.Text m ∷ mid) is t →
        Parts (suc d) (end_list (next_list s) is t) (ps ++ part.Command (next_list s) ∷ []) mid rest qs s' →
        Parts (suc d) s ps (Open opener.Backquote m ∷ ts) rest qs s'

  -- the bodies of here-documents, one after another, before what is read in the mode
  pub data Bodies : Mode → List Due → ℕ → Draft → List Token → List Token → Draft → Type 0 where
    no_body : {m : Mode} {d : ℕ} {s : Draft} {ts : List Token} → Bodies m [] d s ts ts s
    quoted_body : {m : Mode} {h : Due} {hs : List Due} {d : ℕ} {s s' : Draft} {x : List ℕ} {ts rest : List Token} →
        Bodies m hs d (end_here h.number (part.Single x) s) ts rest s' → Bodies m (h ∷ hs) d s (token.Verbatim x (cut_mode m hs) ∷ ts) rest s'
    expanded_body : {m : Mode} {h : Due} {hs : List Due} {d : ℕ} {s t s' : Draft} {ps : List Part} {ts mid rest : List Token} →
        Parts d s [] ts (End end.Text (cut_mode m hs) ∷ mid) ps t → Bodies m hs d (end_here h.number (part.Double ps) t) mid rest s' →
        Bodies m (h ∷ hs) d s (token.Body ∷ ts) rest s'

  -- any number of newlines, each with the bodies that are due
  pub data Newlines : Mode → ℕ → Draft → List Token → List Token → Draft → Type 0 where
    no_newline : {m : Mode} {d : ℕ} {s : Draft} {ts : List Token} → Newlines m d s ts ts s
    one_newline : {m : Mode} {d : ℕ} {s t s' : Draft} {ts mid rest : List Token} →
        Bodies m s.due d (none_due s) ts mid t → Newlines m d t mid rest s' →
        Newlines m d s (End end.Newline (cut_mode m s.due) ∷ ts) rest s'

  -- one `;` with any newlines after it, or newlines
  pub data Separator : ℕ → Draft → List Token → List Token → Draft → Type 0 where
    semi : {d : ℕ} {s s' : Draft} {ts rest : List Token} → Newlines mode.Command d s ts rest s' → Separator d s (Operator op.Semi ∷ ts) rest s'
    newline : {d : ℕ} {s t s' : Draft} {ts mid rest : List Token} →
        Bodies mode.Command s.due d (none_due s) ts mid t → Newlines mode.Command d t mid rest s' →
        Separator d s (End end.Newline (cut_mode mode.Command s.due) ∷ ts) rest s'

  -- a separator or nothing
  pub data MaySeparate : ℕ → Draft → List Token → List Token → Draft → Type 0 where
    not_separated : {d : ℕ} {s : Draft} {ts : List Token} → MaySeparate d s ts ts s
    separated : {d : ℕ} {s s' : Draft} {ts rest : List Token} → Separator d s ts rest s' → MaySeparate d s ts rest s'

  -- a redirection, after which tokens are read in the mode
  pub data OneRedir : Mode → ℕ → Draft → List Token → List Token → Redir → Draft → Type 0 where
    file : {m : Mode} {d fd : ℕ} {o : RedirOp} {s t : Draft} {ps : List Part} {ts rest : List Token} →
        Parts d s [] ts (End end.Word m ∷ rest) ps t → NotEmpty ps → OneRedir m d s (token.Redirect fd o ∷ ts) rest (redir fd o ps) t
    here : {m : Mode} {d fd : ℕ} {strip quoted : Bool} {s : Draft} {x : List ℕ} {ts : List Token} →
        OneRedir m d s (token.Here fd strip ∷ token.Delimiter x quoted m ∷ ts) ts (here_redir fd (next_here s)) (begin_here x strip quoted s)

  pub data Redirs : ℕ → Draft → List Redir → List Token → List Token → List Redir → Draft → Type 0 where
    no_redir : {d : ℕ} {s : Draft} {rs : List Redir} {ts : List Token} → Redirs d s rs ts ts rs s
    one_redir : {d : ℕ} {s t s' : Draft} {r : Redir} {rs rs' : List Redir} {ts mid rest : List Token} →
        OneRedir mode.Arguments d s ts mid r t → Redirs d t (rs ++ r ∷ []) mid rest rs' s' → Redirs d s rs ts rest rs' s'

  -- the rest of a simple command, after its elements so far
  pub data Elements : ℕ → Draft → Simple → List Token → List Token → Simple → Draft → Type 0 where
    no_element : {d : ℕ} {s : Draft} {c : Simple} {ts : List Token} → Elements d s c ts ts c s
    -- how tokens are read sees to it that no word is before
    assign : {d : ℕ} {s t s' : Draft} {c c' : Simple} {x : List ℕ} {ps : List Part} {ts mid rest : List Token} →
        Parts d s [] ts (End end.Word mode.Prefix ∷ mid) ps t → Elements d t (with_assign x ps c) mid rest c' s' →
        Elements d s c (token.Assign x ∷ ts) rest c' s'
    argument : {d : ℕ} {s t s' : Draft} {c c' : Simple} {ps : List Part} {ts mid rest : List Token} →
        Parts d s [] ts (End end.Word mode.Arguments ∷ mid) ps t → NotEmpty ps → Elements d t (with_word ps c) mid rest c' s' →
        Elements d s c ts rest c' s'
    redirection : {d : ℕ} {s t s' : Draft} {c c' : Simple} {r : Redir} {ts mid rest : List Token} →
        OneRedir (mode_before c.words) d s ts mid r t → Elements d t (with_redir r c) mid rest c' s' → Elements d s c ts rest c' s'

  -- the words of a `for`
  pub data ForWords : ℕ → Draft → List Word → List Token → List Token → List Word → Draft → Type 0 where
    no_word : {d : ℕ} {s : Draft} {ws : List Word} {ts : List Token} → ForWords d s ws ts ts ws s
    one_word : {d : ℕ} {s t s' : Draft} {ws vs : List Word} {ps : List Part} {ts mid rest : List Token} →
        Parts d s [] ts (End end.Word mode.Arguments ∷ mid) ps t → NotEmpty ps → ForWords d t (ws ++ word ps ∷ []) mid rest vs s' →
        ForWords d s ws ts rest vs s'

  -- the patterns of an arm, one or more, after those before
  pub data Patterns : ℕ → Draft → List Word → List Token → List Token → List Word → Draft → Type 0 where
    last_pattern : {d : ℕ} {s t : Draft} {ws : List Word} {ps : List Part} {ts rest : List Token} →
        Parts d s [] ts (End end.Word mode.Arguments ∷ rest) ps t → NotEmpty ps → Patterns d s ws ts rest (ws ++ word ps ∷ []) t
    more_patterns : {d : ℕ} {s t s' : Draft} {ws vs : List Word} {ps : List Part} {ts mid rest : List Token} →
        Parts d s [] ts (End end.Word mode.Arguments ∷ Operator op.PipePattern ∷ mid) ps t → NotEmpty ps →
        Patterns d t (ws ++ word ps ∷ []) mid rest vs s' → Patterns d s ws ts rest vs s'

  -- the patterns of an arm and its list
  pub data OneArm : ℕ → Draft → List Token → List Token → List Word → ℕ → Draft → Type 0 where
    one_arm : {d : ℕ} {s t u : Draft} {ws : List Word} {is : List AndOr} {ts mid mid' rest : List Token} →
        MayOpen ts mid → Patterns d s [] mid (Operator op.Close ∷ mid') ws t → MayBeList d (begin_list t) mid' rest is u →
        OneArm d s ts rest ws (next_list t) (end_list (next_list t) is u)

  -- the rest of a `case`, after the arms before
  pub data Arms : ℕ → Draft → List (List Word × ℕ) → List Token → List Token → List (List Word × ℕ) → Draft → Type 0 where
    no_arm : {d : ℕ} {s s' : Draft} {arms : List (List Word × ℕ)} {ts rest : List Token} →
        Newlines mode.Pattern d s ts (Operator op.Esac ∷ rest) s' → Arms d s arms ts rest arms s'
    last_arm : {d : ℕ} {s t s' : Draft} {arms : List (List Word × ℕ)} {ws : List Word} {n : ℕ} {ts mid rest : List Token} →
        Newlines mode.Pattern d s ts mid t → OneArm d t mid (Operator op.Esac ∷ rest) ws n s' → Arms d s arms ts rest (arms ++ (ws, n) ∷ []) s'
    more_arms : {d : ℕ} {s t u s' : Draft} {arms arms' : List (List Word × ℕ)} {ws : List Word} {n : ℕ} {ts mid mid' rest : List Token} →
        Newlines mode.Pattern d s ts mid t → OneArm d t mid (Operator op.DoubleSemi ∷ mid') ws n u →
        Arms d u (arms ++ (ws, n) ∷ []) mid' rest arms' s' → Arms d s arms ts rest arms' s'

  -- after `if` or `elif`, with the arms before
  pub data Branches : ℕ → Draft → List (ℕ × ℕ) → List Token → List Token → List (ℕ × ℕ) → Option ℕ → Draft → Type 0 where
    branch : {d : ℕ} {s t u s' : Draft} {bs cs : List (ℕ × ℕ)} {o : Option ℕ} {is js : List AndOr} {ts mid mid' rest : List Token} →
        InList d (begin_list s) ts (Operator op.Then ∷ mid) is t →
        InList d (begin_list (end_list (next_list s) is t)) mid mid' js u →
        MoreBranches d (end_list (next_list t) js u) (bs ++ (next_list s, next_list t) ∷ []) mid' rest cs o s' →
        Branches d s bs ts rest cs o s'

  pub data MoreBranches : ℕ → Draft → List (ℕ × ℕ) → List Token → List Token → List (ℕ × ℕ) → Option ℕ → Draft → Type 0 where
    fi : {d : ℕ} {s : Draft} {bs : List (ℕ × ℕ)} {ts : List Token} → MoreBranches d s bs (Operator op.Fi ∷ ts) ts bs None s
    elif : {d : ℕ} {s s' : Draft} {bs cs : List (ℕ × ℕ)} {o : Option ℕ} {ts rest : List Token} →
        Branches d s bs ts rest cs o s' → MoreBranches d s bs (Operator op.Elif ∷ ts) rest cs o s'
    otherwise : {d : ℕ} {s t : Draft} {bs : List (ℕ × ℕ)} {is : List AndOr} {ts rest : List Token} →
        InList d (begin_list s) ts (Operator op.Fi ∷ rest) is t →
        MoreBranches d s bs (Operator op.Else ∷ ts) rest bs (Some (next_list s)) (end_list (next_list s) is t)

  pub data OneCompound : ℕ → Draft → List Token → List Token → Compound → Draft → Type 0 where
    group : {d : ℕ} {s t : Draft} {is : List AndOr} {ts rest : List Token} →
        InList d (begin_list s) ts (Operator op.RightBrace ∷ rest) is t →
        OneCompound (suc d) s (Operator op.LeftBrace ∷ ts) rest (compound.Group (next_list s)) (end_list (next_list s) is t)
    subshell : {d : ℕ} {s t : Draft} {is : List AndOr} {ts rest : List Token} →
        InList d (begin_list s) ts (Operator op.Close ∷ rest) is t →
        OneCompound (suc d) s (Operator op.Open ∷ ts) rest (compound.Subshell (next_list s)) (end_list (next_list s) is t)
    if_command : {d : ℕ} {s t : Draft} {bs : List (ℕ × ℕ)} {o : Option ℕ} {ts rest : List Token} →
        Branches d s [] ts rest bs o t → OneCompound (suc d) s (Operator op.If ∷ ts) rest (compound.If bs o) t
    loop : {d : ℕ} {s t u : Draft} {until : Bool} {is js : List AndOr} {ts mid rest : List Token} →
        InList d (begin_list s) ts (Operator op.Do ∷ mid) is t →
        InList d (begin_list (end_list (next_list s) is t)) mid (Operator op.Done ∷ rest) js u →
        OneCompound (suc d) s (Operator (loop_op until) ∷ ts) rest (compound.While until (next_list s) (next_list t)) (end_list (next_list t) js u)
    for_words : {d : ℕ} {s t u v s' : Draft} {x : List ℕ} {ws : List Word} {is : List AndOr} {ts mid mid' mid'' rest : List Token} →
        is_name x ≡ true → Newlines mode.Command d s ts (Operator op.In ∷ mid) t → ForWords d t [] mid mid' ws u →
        Separator d u mid' (Operator op.Do ∷ mid'') v → InList d (begin_list v) mid'' (Operator op.Done ∷ rest) is s' →
        OneCompound (suc d) s (Operator op.For ∷ token.Part (bit.Piece x) ∷ End end.Word mode.Command ∷ ts) rest
        (compound.For x (Some ws) (next_list v)) (end_list (next_list v) is s')
    for_parameters : {d : ℕ} {s t s' : Draft} {x : List ℕ} {is : List AndOr} {ts mid rest : List Token} →
        is_name x ≡ true → MaySeparate d s ts (Operator op.Do ∷ mid) t → InList d (begin_list t) mid (Operator op.Done ∷ rest) is s' →
        OneCompound (suc d) s (Operator op.For ∷ token.Part (bit.Piece x) ∷ End end.Word mode.Command ∷ ts) rest
        (compound.For x None (next_list t)) (end_list (next_list t) is s')
    case_command : {d : ℕ} {s t u s' : Draft} {ps : List Part} {arms : List (List Word × ℕ)} {ts mid mid' rest : List Token} →
        Parts d s [] ts (End end.Word mode.Command ∷ mid) ps t → NotEmpty ps → Newlines mode.Command d t mid (Operator op.CaseIn ∷ mid') u →
        Arms d u [] mid' rest arms s' → OneCompound (suc d) s (Operator op.Case ∷ ts) rest (compound.Case (word ps) arms) s'

  pub data OneCommand : ℕ → Draft → List Token → List Token → Command → Draft → Type 0 where
    simple_command : {d : ℕ} {s t : Draft} {c : Simple} {ts rest : List Token} →
        Elements d s no_simple ts rest c t → HasElement c → OneCommand d s ts rest (simple c) t
    compound_command : {d : ℕ} {s t s' : Draft} {x : Compound} {rs : List Redir} {ts mid rest : List Token} →
        OneCompound d s ts mid x t → Redirs d t [] mid rest rs s' → OneCommand d s ts rest (command.Compound x rs) s'
    -- the reading of tokens sees to it that the name may be a function's
    function : {d : ℕ} {s t u s' : Draft} {name : List ℕ} {x : Compound} {rs : List Redir} {ts mid mid' rest : List Token} →
        Newlines mode.Command d s ts mid t → OneCompound d (begin_body t) mid mid' x u → Redirs d u [] mid' rest rs s' →
        OneCommand d s (token.Function name ∷ Operator op.Open ∷ Operator op.Close ∷ ts) rest
        (command.Function name (next_body t)) (end_body (next_body t) (command.Compound x rs) s')

  -- commands joined by `|`, after those before
  pub data Stages : ℕ → Draft → List Command → List Token → List Token → List Command → Draft → Type 0 where
    one_stage : {d : ℕ} {s t s' : Draft} {c : Command} {cs cs' : List Command} {ts mid rest : List Token} →
        OneCommand d s ts mid c t → MoreStages d t (cs ++ c ∷ []) mid rest cs' s' → Stages d s cs ts rest cs' s'

  pub data MoreStages : ℕ → Draft → List Command → List Token → List Token → List Command → Draft → Type 0 where
    last_stage : {d : ℕ} {s : Draft} {cs : List Command} {ts : List Token} → MoreStages d s cs ts ts cs s
    pipe : {d : ℕ} {s t s' : Draft} {cs cs' : List Command} {ts mid rest : List Token} →
        Newlines mode.Command d s ts mid t → Stages d t cs mid rest cs' s' → MoreStages d s cs (Operator op.Pipe ∷ ts) rest cs' s'

  pub data OnePipeline : ℕ → Draft → List Token → List Token → Draft → Type 0 where
    pipeline : {d : ℕ} {s t : Draft} {cs : List Command} {ts rest : List Token} →
        Stages d (begin_leaf false s) [] ts rest cs t → OnePipeline d s ts rest (end_leaf (next_leaf s) false cs t)
    -- a command has to follow without a newline
    bang_pipeline : {d : ℕ} {s t : Draft} {cs : List Command} {ts rest : List Token} →
        Stages d (begin_leaf true s) [] ts rest cs t → OnePipeline d s (Operator op.Bang ∷ ts) rest (end_leaf (next_leaf s) true cs t)

  -- The rest of a list, after a pipeline: `is` are the AND-OR lists before, and `a` is this one.
  pub data ListRest : ℕ → Draft → List AndOr → AndOr → List Token → List Token → List AndOr → Draft → Type 0 where
    list_end : {d : ℕ} {s : Draft} {is : List AndOr} {a : AndOr} {ts : List Token} → ListRest d s is a ts ts (is ++ a ∷ []) s
    list_separator : {d : ℕ} {s s' : Draft} {is : List AndOr} {a : AndOr} {ts rest : List Token} →
        Separator d s ts rest s' → ListRest d s is a ts rest (is ++ a ∷ []) s'
    joins : {d : ℕ} {s t u s' : Draft} {is js : List AndOr} {a : AndOr} {ts mid mid' rest : List Token} (j : Join) →
        Newlines mode.Command d s ts mid t → OnePipeline d t mid mid' u → ListRest d u is (joined a j (next_leaf t)) mid' rest js s' →
        ListRest d s is a (Operator (join_op j) ∷ ts) rest js s'
    next_more : {d : ℕ} {s t u s' : Draft} {is js : List AndOr} {a : AndOr} {ts mid mid' rest : List Token} →
        Separator d s ts mid t → OnePipeline d t mid mid' u → ListRest d u (is ++ a ∷ []) (and_or (next_leaf t)) mid' rest js s' →
        ListRest d s is a ts rest js s'

  pub data InList : ℕ → Draft → List Token → List Token → List AndOr → Draft → Type 0 where
    list : {d : ℕ} {s t u s' : Draft} {is : List AndOr} {ts mid mid' rest : List Token} →
        Newlines mode.Command d s ts mid t → OnePipeline d t mid mid' u → ListRest d u [] (and_or (next_leaf t)) mid' rest is s' →
        InList d s ts rest is s'

  -- a list, which may be empty
  pub data MayBeList : ℕ → Draft → List Token → List Token → List AndOr → Draft → Type 0 where
    empty : {d : ℕ} {s s' : Draft} {ts rest : List Token} → Newlines mode.Command d s ts rest s' → MayBeList d s ts rest [] s'
    some : {d : ℕ} {s s' : Draft} {is : List AndOr} {ts rest : List Token} → InList d s ts rest is s' → MayBeList d s ts rest is s'

-- How many things may be open at once.
abbrev pub max_nesting : ℕ
max_nesting = 100

-- The tokens are those of a script, where at most d things are open at once.
pub data ParsesWithin : ℕ → Script → List Token → Type 0 where
  script : {d : ℕ} {s : Draft} {is : List AndOr} {ts : List Token} →
      MayBeList d (begin_list no_draft) ts [] is s → s.due ≡ [] → ParsesWithin d (filled (end_list 0 is s)) ts

abbrev pub Parses : Script → List Token → Type 0
Parses s ts = ParsesWithin max_nesting s ts
