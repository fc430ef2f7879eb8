-- What the grammar derives, the machine reads.
use Rattle.std.proofs.Common.{◌≡◌, Bool, true, false, cond, ℕ, suc, List, [], ◌∷◌, ◌++◌, Option, Some, None, refl, ◌∙◌, ap}
use Rattle.std.specs.Prelude.{option_and_then}
use Rattle.sh_syntax.specs.declared.tree.Part.{Part}
use Rattle.sh_syntax.specs.declared.tree.Word.{Word}
use Rattle.sh_syntax.specs.declared.tree.Redir.{Redir}
use Rattle.sh_syntax.specs.declared.tree.RedirOp.{RedirOp}
use Rattle.sh_syntax.specs.declared.tree.Command.{Command}
use Rattle.sh_syntax.specs.declared.tree.Command.TheVariants as command
use Rattle.sh_syntax.specs.declared.tree.Compound.{Compound}
use Rattle.sh_syntax.specs.declared.tree.Compound.TheVariants as compound
use Rattle.sh_syntax.specs.declared.tree.AndOr.{AndOr}
use Rattle.sh_syntax.specs.declared.tree.Join.{Join}
use Rattle.sh_syntax.specs.declared.tree.Join.TheVariants as join
use Rattle.sh_syntax.specs.declared.tree.Script.{Script}
use Rattle.sh_syntax.specs.Trees.{word}
use Rattle.sh_lexer.specs.declared.token.Token.{Token}
use Rattle.sh_lexer.specs.declared.token.Token.TheVariants as token
use Rattle.sh_lexer.specs.declared.token.Op.{Op}
use Rattle.sh_lexer.specs.declared.token.Op.TheVariants as op
use Rattle.sh_lexer.specs.declared.token.Bit.{Bit}
use Rattle.sh_lexer.specs.declared.token.Opener.{Opener}
use Rattle.sh_lexer.specs.declared.token.End.{End}
use Rattle.sh_lexer.specs.declared.token.End.TheVariants as end
use Rattle.sh_lexer.specs.declared.token.Mode.{Mode}
use Rattle.sh_lexer.specs.declared.token.Mode.TheVariants as mode
use Rattle.sh_grammar.specs.declared.state.Due.{Due}
use Rattle.sh_grammar.specs.declared.state.Draft.{Draft}
use Rattle.sh_grammar.specs.declared.state.Simple.{Simple}
use Rattle.sh_grammar.specs.declared.state.Pipe.{Pipe}
use Rattle.sh_grammar.specs.declared.state.Case.{Case}
use Rattle.sh_grammar.specs.declared.state.Gap.{Gap}
use Rattle.sh_grammar.specs.declared.state.Gap.TheVariants as gap
use Rattle.sh_grammar.specs.declared.state.Now.TheVariants as now
use Rattle.sh_grammar.specs.declared.state.Below.{Below}
use Rattle.sh_grammar.specs.declared.state.Below.TheVariants as below
use Rattle.sh_grammar.specs.Draft.{next_list, end_list, next_leaf, begin_leaf, end_leaf, next_body, begin_body, end_body, cut_mode}
use Rattle.sh_grammar.specs.Grammar as g
use Rattle.sh_grammar.specs.Grammar.{NotEmpty, Parts, Bodies, Newlines, Separator, MaySeparate, OneRedir, Redirs, Elements, ForWords, Patterns, OneArm, Arms, Branches, MoreBranches, OneCompound, OneCommand, Stages, MoreStages, OnePipeline, ListRest, InList, MayBeList, MayOpen, ParsesWithin, HasElement, no_simple, simple, loop_op, join_op, mode_before}
use Rattle.sh_grammar.specs.Tests.{same_mode, ends_list}
use Rattle.sh_grammar.specs.Machine as m
use Rattle.sh_grammar.specs.Machine.{State, at, if_any, when, gap_mode, next_due, host_mode, redirected, list_ended, open_list, this_and_or, command_ended, piped, pipe, pipeline, end_with, end_command, run, start_within}
use Rattle.sh_grammar.proofs.Tests.{same_mode-refl, same_mode-at, is_end-at}

-- ---- steps

-- a step, and then the tokens after it
abbrev pub next : Option State → List Token → Option Script
next o ts = option_and_then (λ st. run st ts) o

any : {A : Type 0} (xs : List A) (o : Option State) (ts : List Token) → NotEmpty xs → next (if_any xs o) ts ≡ next o ts
any [] o ts h = absurd h
any (x ∷ xs) o ts h = refl

holds : (b : Bool) (o : Option State) (ts : List Token) → b ≡ true → next (when b o) ts ≡ next o ts
holds true o ts e = refl
holds false o ts e = absurd cc

cond-true : (b : Bool) (o p : Option State) (ts : List Token) → b ≡ true → next (cond b o p) ts ≡ next o ts
cond-true true o p ts e = refl
cond-true false o p ts e = absurd cc

cond-false : (b : Bool) (o p : Option State) (ts : List Token) → b ≡ false → next (cond b o p) ts ≡ next p ts
cond-false true o p ts e = absurd cc
cond-false false o p ts e = refl

pub some-append : {A : Type 0} (xs : List A) (x : A) → NotEmpty (xs ++ x ∷ [])
some-append [] x = tt
some-append (y ∷ xs) x = tt

-- ---- where things end and begin

-- where a list ends
data IsEnd : List Token → Type 0 where
  at_text_end : IsEnd []
  at_op : {o : Op} {ts : List Token} → ends_list o ≡ true → IsEnd (token.Operator o ∷ ts)
  at_list_end : {n : Mode} {ts : List Token} → IsEnd (token.End end.List n ∷ ts)
  at_cut_end : {n : Mode} {ts : List Token} → IsEnd (token.End end.Text n ∷ ts)

-- where a pipeline ends
data IsPipelineEnd : List Token → Type 0 where
  at_end : {ts : List Token} → IsEnd ts → IsPipelineEnd ts
  at_semi : {ts : List Token} → IsPipelineEnd (token.Operator op.Semi ∷ ts)
  at_join : (j : Join) {ts : List Token} → IsPipelineEnd (token.Operator (join_op j) ∷ ts)
  at_newline : {n : Mode} {ts : List Token} → IsPipelineEnd (token.End end.Newline n ∷ ts)

-- where a command ends
data IsStop : List Token → Type 0 where
  stop_end : IsStop []
  stop_op : {o : Op} {ts : List Token} → IsStop (token.Operator o ∷ ts)
  stop_at : {e : End} {n : Mode} {ts : List Token} → IsStop (token.End e n ∷ ts)

end-stops : {ts : List Token} → IsEnd ts → IsStop ts
end-stops at_text_end = stop_end
end-stops (at_op e) = stop_op
end-stops at_list_end = stop_at
end-stops at_cut_end = stop_at

pipeline-stops : {ts : List Token} → IsPipelineEnd ts → IsStop ts
pipeline-stops (at_end e) = end-stops e
pipeline-stops at_semi = stop_op
pipeline-stops (at_join j) = stop_op
pipeline-stops at_newline = stop_at

Separator-stops : {d : ℕ} {s s' : Draft} {ts rest : List Token} → Separator d s ts rest s' → IsPipelineEnd ts
Separator-stops (g.semi n) = at_semi
Separator-stops (g.newline b n) = at_newline

ListRest-stops : {d : ℕ} {s s' : Draft} {is js : List AndOr} {a : AndOr} {ts rest : List Token} →
    ListRest d s is a ts rest js s' → IsEnd rest → IsPipelineEnd ts
ListRest-stops g.list_end e = at_end e
ListRest-stops (g.list_separator sep) e = Separator-stops sep
ListRest-stops (g.joins j n p r) e = at_join j
ListRest-stops (g.next_more sep p r) e = Separator-stops sep

MoreStages-stops : {d : ℕ} {s s' : Draft} {cs cs' : List Command} {ts rest : List Token} →
    MoreStages d s cs ts rest cs' s' → IsPipelineEnd rest → IsStop ts
MoreStages-stops g.last_stage e = pipeline-stops e
MoreStages-stops (g.pipe n r) e = stop_op

MoreBranches-ends : {d : ℕ} {s s' : Draft} {bs cs : List (ℕ × ℕ)} {o : Option ℕ} {ts rest : List Token} → MoreBranches d s bs ts rest cs o s' → IsEnd ts
MoreBranches-ends g.fi = at_op refl
MoreBranches-ends (g.elif b) = at_op refl
MoreBranches-ends (g.otherwise l) = at_op refl

-- a part of a word begins
data IsPart : List Token → Type 0 where
  is_bit : {b : Bit} {ts : List Token} → IsPart (token.Part b ∷ ts)
  is_param : {x : List ℕ} {l : Bool} {ts : List Token} → IsPart (token.Param x l ∷ ts)
  is_open : {o : Opener} {n : Mode} {ts : List Token} → IsPart (token.Open o n ∷ ts)

Parts-begin : {d : ℕ} {s t : Draft} {qs : List Part} {ts rest : List Token} → Parts d s [] ts rest qs t → NotEmpty qs → IsPart ts
Parts-begin g.parts_end h = absurd h
Parts-begin (g.one_bit r) h = is_bit
Parts-begin (g.param r) h = is_param
Parts-begin (g.double p r) h = is_open
Parts-begin (g.braces p r) h = is_open
Parts-begin (g.arith p r) h = is_open
Parts-begin (g.substitution l r) h = is_open
Parts-begin (g.backquotes l r) h = is_open

abbrev opens : Op → Bool
opens op.LeftBrace = true
opens op.Open = true
opens op.If = true
opens op.While = true
opens op.Until = true
opens op.For = true
opens op.Case = true
opens o = false

-- a command begins
data IsBegin : List Token → Type 0 where
  begins_part : {ts : List Token} → IsPart ts → IsBegin ts
  begins_op : {o : Op} {ts : List Token} → opens o ≡ true → IsBegin (token.Operator o ∷ ts)
  begins_assign : {x : List ℕ} {ts : List Token} → IsBegin (token.Assign x ∷ ts)
  begins_redirect : {fd : ℕ} {o : RedirOp} {ts : List Token} → IsBegin (token.Redirect fd o ∷ ts)
  begins_here : {fd : ℕ} {strip : Bool} {ts : List Token} → IsBegin (token.Here fd strip ∷ ts)
  begins_function : {x : List ℕ} {ts : List Token} → IsBegin (token.Function x ∷ ts)

OneRedir-begins : {m : Mode} {d : ℕ} {s t : Draft} {r : Redir} {ts rest : List Token} → OneRedir m d s ts rest r t → IsBegin ts
OneRedir-begins (g.file p h) = begins_redirect
OneRedir-begins g.here = begins_here

no-element : HasElement no_simple → ⊥
no-element (g.has_assign h) = h
no-element (g.has_word h) = h
no-element (g.has_redir h) = h

Elements-begin : {d : ℕ} {s t : Draft} {c : Simple} {ts rest : List Token} → Elements d s no_simple ts rest c t → HasElement c → IsBegin ts
Elements-begin g.no_element h = absurd (no-element h)
Elements-begin (g.assign p r) h = begins_assign
Elements-begin (g.argument p k r) h = begins_part (Parts-begin p k)
Elements-begin (g.redirection o r) h = OneRedir-begins o

loop-opens : (u : Bool) → opens (loop_op u) ≡ true
loop-opens true = refl
loop-opens false = refl

OneCompound-begins : {d : ℕ} {s t : Draft} {x : Compound} {ts rest : List Token} → OneCompound d s ts rest x t → IsBegin ts
OneCompound-begins (g.group l) = begins_op refl
OneCompound-begins (g.subshell l) = begins_op refl
OneCompound-begins (g.if_command b) = begins_op refl
OneCompound-begins (g.loop {until = u} k l) = begins_op (loop-opens u)
OneCompound-begins (g.for_words e n w p l) = begins_op refl
OneCompound-begins (g.for_parameters e p l) = begins_op refl
OneCompound-begins (g.case_command p h n a) = begins_op refl

OneCommand-begins : {d : ℕ} {s t : Draft} {c : Command} {ts rest : List Token} → OneCommand d s ts rest c t → IsBegin ts
OneCommand-begins (g.simple_command e h) = Elements-begin e h
OneCommand-begins (g.compound_command x r) = OneCompound-begins x
OneCommand-begins (g.function n x r) = begins_function

Stages-begin : {d : ℕ} {s t : Draft} {cs cs' : List Command} {ts rest : List Token} → Stages d s cs ts rest cs' t → IsBegin ts
Stages-begin (g.one_stage c r) = OneCommand-begins c

-- ---- a state at the start of a command, seen from the states round it

-- the pipeline that has to begin
abbrev run_pipeline : List AndOr → Option (AndOr × Join) → List Below → ℕ → Draft → List Token → Option Script
run_pipeline is before b d s [] = None
run_pipeline is before b d s (t ∷ ts) = next (pipeline is before b d s t) ts

plain-op : (is : List AndOr) (before : Option (AndOr × Join)) (b : List Below) (d : ℕ) (s : Draft) (o : Op) → opens o ≡ true →
    m.pipeline_op is before b d s o ≡ m.plain_pipeline is before b d s (token.Operator o)
plain-op is before b d s op.Bang e = absurd cc
plain-op is before b d s o e = refl

plain-begins : (is : List AndOr) (before : Option (AndOr × Join)) (b : List Below) (d : ℕ) (s : Draft) {ts : List Token} → IsBegin ts →
    run_pipeline is before b d s ts ≡ run (at now.Bang (below.Pipe (pipe is before false s) ∷ b) d (begin_leaf false s)) ts
plain-begins is before b d s (begins_part is_bit) = refl
plain-begins is before b d s (begins_part is_param) = refl
plain-begins is before b d s (begins_part is_open) = refl
plain-begins is before b d s (begins_op {o} {ts} e) = ap (λ x. next x ts) (plain-op is before b d s o e)
plain-begins is before b d s begins_assign = refl
plain-begins is before b d s begins_redirect = refl
plain-begins is before b d s begins_here = refl
plain-begins is before b d s begins_function = refl

-- a pipeline begins
data IsPipeline : List Token → Type 0 where
  is_command : {ts : List Token} → IsBegin ts → IsPipeline ts
  is_bang : {ts : List Token} → IsPipeline (token.Operator op.Bang ∷ ts)

OnePipeline-begins : {d : ℕ} {s t : Draft} {ts rest : List Token} → OnePipeline d s ts rest t → IsPipeline ts
OnePipeline-begins (g.pipeline c) = is_command (Stages-begin c)
OnePipeline-begins (g.bang_pipeline c) = is_bang

no-end : (o : Op) → opens o ≡ true → ends_list o ≡ false
no-end op.LeftBrace e = refl
no-end op.Open e = refl
no-end op.If e = refl
no-end op.While e = refl
no-end op.Until e = refl
no-end op.For e = refl
no-end op.Case e = refl
no-end o e = absurd cc

begin-pipeline : (is : List AndOr) (b : List Below) (d : ℕ) (s : Draft) {ts : List Token} → IsPipeline ts →
    run (at (now.Gap (gap.Begin is)) b d s) ts ≡ run_pipeline is None b d s ts
begin-pipeline is b d s (is_command (begins_part is_bit)) = refl
begin-pipeline is b d s (is_command (begins_part is_param)) = refl
begin-pipeline is b d s (is_command (begins_part is_open)) = refl
begin-pipeline is b d s (is_command (begins_op {o} {ts} e)) = cond-false (ends_list o) _ _ ts (no-end o e)
begin-pipeline is b d s (is_command begins_assign) = refl
begin-pipeline is b d s (is_command begins_redirect) = refl
begin-pipeline is b d s (is_command begins_here) = refl
begin-pipeline is b d s (is_command begins_function) = refl
begin-pipeline is b d s is_bang = refl

join-pipeline : (is : List AndOr) (a : AndOr) (j : Join) (b : List Below) (d : ℕ) (s : Draft) {ts : List Token} → IsPipeline ts →
    run (at (now.Gap (gap.Join is a j)) b d s) ts ≡ run_pipeline is (Some (a, j)) b d s ts
join-pipeline is a j b d s (is_command (begins_part is_bit)) = refl
join-pipeline is a j b d s (is_command (begins_part is_param)) = refl
join-pipeline is a j b d s (is_command (begins_part is_open)) = refl
join-pipeline is a j b d s (is_command (begins_op e)) = refl
join-pipeline is a j b d s (is_command begins_assign) = refl
join-pipeline is a j b d s (is_command begins_redirect) = refl
join-pipeline is a j b d s (is_command begins_here) = refl
join-pipeline is a j b d s (is_command begins_function) = refl
join-pipeline is a j b d s is_bang = refl

stage-begins : (b : List Below) (d : ℕ) (s : Draft) {ts : List Token} → IsBegin ts →
    run (at (now.Gap gap.Stage) b d s) ts ≡ run (at now.Bang b d s) ts
stage-begins b d s (begins_part is_bit) = refl
stage-begins b d s (begins_part is_param) = refl
stage-begins b d s (begins_part is_open) = refl
stage-begins b d s (begins_op e) = refl
stage-begins b d s begins_assign = refl
stage-begins b d s begins_redirect = refl
stage-begins b d s begins_here = refl
stage-begins b d s begins_function = refl

function-begins : (x : List ℕ) (b : List Below) {d : ℕ} (t : Draft) {u : Draft} {c : Compound} {ts rest : List Token} → OneCompound d (begin_body t) ts rest c u →
    run (at (now.Gap (gap.Function x)) b d t) ts ≡ run (at now.Bang (below.Function x (next_body t) ∷ b) d (begin_body t)) ts
function-begins x b t (g.group l) = refl
function-begins x b t (g.subshell l) = refl
function-begins x b t (g.if_command r) = refl
function-begins x b t (g.loop {until = true} k l) = refl
function-begins x b t (g.loop {until = false} k l) = refl
function-begins x b t (g.for_words e n w p l) = refl
function-begins x b t (g.for_parameters e p l) = refl
function-begins x b t (g.case_command p h n r) = refl

function-named : (x : List ℕ) (b : List Below) {d : ℕ} (s : Draft) {t u : Draft} {c : Compound} {mid rest : List Token} (ts : List Token) → OneCompound d t mid rest c u →
    run (at now.Bang b d s) (token.Function x ∷ ts) ≡ run (at (now.Name x) b d s) ts
function-named x b s ts (g.group l) = refl
function-named x b s ts (g.subshell l) = refl
function-named x b s ts (g.if_command r) = refl
function-named x b s ts (g.loop k l) = refl
function-named x b s ts (g.for_words e n w p l) = refl
function-named x b s ts (g.for_parameters e p l) = refl
function-named x b s ts (g.case_command p h n r) = refl

-- ---- what has ended, and the tokens after it

abbrev after_list : List AndOr → List Below → ℕ → Draft → List Token → Option Script
after_list is b d s [] = end_with is b s
after_list is b d s (t ∷ ts) = next (list_ended is b d s t) ts

abbrev after_pipeline : List AndOr → AndOr → List Below → ℕ → Draft → List Token → Option Script
after_pipeline is a b d s [] = end_with (is ++ a ∷ []) b s
after_pipeline is a b d s (t ∷ ts) = next (m.after is a b d s t) ts

abbrev after_command : Command → List Below → ℕ → Draft → List Token → Option Script
after_command c b d s [] = end_command c b s
after_command c b d s (t ∷ ts) = next (command_ended c b d s t) ts

abbrev after_stage : Pipe → List Below → ℕ → Draft → List Token → Option Script
after_stage p b d s [] = end_with (p.items ++ this_and_or p.before p.leaf ∷ []) b (end_leaf p.leaf p.bang p.stages s)
after_stage p b d s (t ∷ ts) = next (piped p b d s t) ts

elements-stop : (c : Simple) (b : List Below) (d : ℕ) (s : Draft) {ts : List Token} → IsStop ts →
    run (at (now.Elements c) b d s) ts ≡ after_command (simple c) b d s ts
elements-stop c b d s stop_end = refl
elements-stop c b d s stop_op = refl
elements-stop c b d s stop_at = refl

redirs-stop : (x : Compound) (rs : List Redir) (b : List Below) (d : ℕ) (s : Draft) {ts : List Token} → IsStop ts →
    run (at (now.Redirs x rs) b d s) ts ≡ after_command (command.Compound x rs) b d s ts
redirs-stop x rs b d s stop_end = refl
redirs-stop x rs b d s stop_op = refl
redirs-stop x rs b d s stop_at = refl

function-ends : (c : Command) (x : List ℕ) (n : ℕ) (b : List Below) (d : ℕ) (s : Draft) (ts : List Token) →
    after_command c (below.Function x n ∷ b) d s ts ≡ after_command (command.Function x n) b d (end_body n c s) ts
function-ends c x n b d s [] = refl
function-ends c x n b d s (t ∷ ts) = refl

stage-ends : (c : Command) (p : Pipe) (b : List Below) (d : ℕ) (s : Draft) (ts : List Token) →
    after_command c (below.Pipe p ∷ b) d s ts ≡ after_stage (m.with_stage c p) b d s ts
stage-ends c p b d s [] = refl
stage-ends c p b d s (t ∷ ts) = refl

piped-op : (p : Pipe) (b : List Below) (d : ℕ) (s : Draft) (o : Op) → ends_list o ≡ true →
    m.piped_op p b d s o ≡ m.after p.items (this_and_or p.before p.leaf) b d (end_leaf p.leaf p.bang p.stages s) (token.Operator o)
piped-op p b d s op.Pipe e = absurd cc
piped-op p b d s o e = refl

pipeline-ends : (p : Pipe) (b : List Below) (d : ℕ) (s : Draft) {ts : List Token} → IsPipelineEnd ts →
    after_stage p b d s ts ≡ after_pipeline p.items (this_and_or p.before p.leaf) b d (end_leaf p.leaf p.bang p.stages s) ts
pipeline-ends p b d s (at_end at_text_end) = refl
pipeline-ends p b d s (at_end (at_op {o} {ts} e)) = ap (λ x. next x ts) (piped-op p b d s o e)
pipeline-ends p b d s (at_end at_list_end) = refl
pipeline-ends p b d s (at_end at_cut_end) = refl
pipeline-ends p b d s at_semi = refl
pipeline-ends p b d s (at_join join.And) = refl
pipeline-ends p b d s (at_join join.Or) = refl
pipeline-ends p b d s at_newline = refl

list-op : (is : List AndOr) (a : AndOr) (b : List Below) (d : ℕ) (s : Draft) (o : Op) → ends_list o ≡ true →
    m.and_or_op is a b d s o ≡ list_ended (is ++ a ∷ []) b d s (token.Operator o)
list-op is a b d s op.AndIf e = absurd cc
list-op is a b d s op.OrIf e = absurd cc
list-op is a b d s op.Semi e = absurd cc
list-op is a b d s o e = refl

pipeline-list : (is : List AndOr) (a : AndOr) (b : List Below) (d : ℕ) (s : Draft) {ts : List Token} → IsEnd ts →
    after_pipeline is a b d s ts ≡ after_list (is ++ a ∷ []) b d s ts
pipeline-list is a b d s at_text_end = refl
pipeline-list is a b d s (at_op {o} {ts} e) = ap (λ x. next x ts) (list-op is a b d s o e)
pipeline-list is a b d s at_list_end = refl
pipeline-list is a b d s at_cut_end = refl

begin-list : (is : List AndOr) (b : List Below) (d : ℕ) (s : Draft) {ts : List Token} → IsEnd ts →
    run (at (now.Gap (gap.Begin is)) b d s) ts ≡ after_list is b d s ts
begin-list is b d s at_text_end = refl
begin-list is b d s (at_op {o} {ts} e) = cond-true (ends_list o) _ _ ts e
begin-list is b d s at_list_end = refl
begin-list is b d s at_cut_end = refl

join-ends : (is : List AndOr) (a : AndOr) (j : Join) (b : List Below) (d : ℕ) (s : Draft) (ts : List Token) →
    after_pipeline is a b d s (token.Operator (join_op j) ∷ ts) ≡ run (at (now.Gap (gap.Join is a j)) b d s) ts
join-ends is a join.And b d s ts = refl
join-ends is a join.Or b d s ts = refl

-- ---- words

argument-begins : (c : Simple) (b : List Below) (d : ℕ) (s : Draft) {ts : List Token} → IsPart ts →
    run (at (now.Elements c) b d s) ts ≡ run (at (now.Parts []) (below.Argument c ∷ b) d s) ts
argument-begins c b d s is_bit = refl
argument-begins c b d s is_param = refl
argument-begins c b d s is_open = refl

for_word-begins : (x : List ℕ) (ws : List Word) (b : List Below) (d : ℕ) (s : Draft) {ts : List Token} → IsPart ts →
    run (at (now.ForWords x ws) b d s) ts ≡ run (at (now.Parts []) (below.ForWord x ws ∷ b) d s) ts
for_word-begins x ws b d s is_bit = refl
for_word-begins x ws b d s is_param = refl
for_word-begins x ws b d s is_open = refl

pattern-begins : (c : Case) (b : List Below) (d : ℕ) (s : Draft) {ts : List Token} → IsPart ts →
    run (at (now.Gap (gap.Arms c)) b d s) ts ≡ run (at (now.Parts []) (below.Pattern c [] ∷ b) d s) ts
pattern-begins c b d s is_bit = refl
pattern-begins c b d s is_param = refl
pattern-begins c b d s is_open = refl

pattern-opens : (c : Case) (b : List Below) (d : ℕ) (s : Draft) {ts mid : List Token} → MayOpen ts mid → IsPart mid →
    run (at (now.Gap (gap.Arms c)) b d s) ts ≡ run (at (now.Parts []) (below.Pattern c [] ∷ b) d s) mid
pattern-opens c b d s g.not_opened h = pattern-begins c b d s h
pattern-opens c b d s g.pattern_opened h = refl

Patterns-begin : {d : ℕ} {s s' : Draft} {ws vs : List Word} {ts rest : List Token} → Patterns d s ws ts rest vs s' → IsPart ts
Patterns-begin (g.last_pattern p h) = Parts-begin p h
Patterns-begin (g.more_patterns p h r) = Parts-begin p h

simple-begins : (b : List Below) (d : ℕ) (s : Draft) {ts : List Token} → IsPart ts →
    run (at now.Bang b d s) ts ≡ run (at (now.Elements no_simple) b d s) ts
simple-begins b d s is_bit = refl
simple-begins b d s is_param = refl
simple-begins b d s is_open = refl

redir-begins : (b : List Below) {m : Mode} {d : ℕ} {s t : Draft} {r : Redir} {ts rest : List Token} → OneRedir m d s ts rest r t →
    run (at now.Bang b d s) ts ≡ run (at (now.Elements no_simple) b d s) ts
redir-begins b (g.file p h) = refl
redir-begins b g.here = refl

elements-begin : (b : List Below) {d : ℕ} {s t : Draft} {c : Simple} {ts rest : List Token} → Elements d s no_simple ts rest c t → HasElement c →
    run (at now.Bang b d s) ts ≡ run (at (now.Elements no_simple) b d s) ts
elements-begin b g.no_element h = absurd (no-element h)
elements-begin b (g.assign p r) h = refl
elements-begin b (g.argument {d} {s} p k r) h = simple-begins b d s (Parts-begin p k)
elements-begin b (g.redirection o r) h = redir-begins b o

-- ---- lists have an item

pub ListRest-some : {d : ℕ} {s s' : Draft} {is js : List AndOr} {a : AndOr} {ts rest : List Token} → ListRest d s is a ts rest js s' → NotEmpty js
ListRest-some (g.list_end {is = is} {a = a}) = some-append is a
ListRest-some (g.list_separator {is = is} {a = a} sep) = some-append is a
ListRest-some (g.joins j n p r) = ListRest-some r
ListRest-some (g.next_more sep p r) = ListRest-some r

pub InList-some : {d : ℕ} {s s' : Draft} {js : List AndOr} {ts rest : List Token} → InList d s ts rest js s' → NotEmpty js
InList-some (g.list n p r) = ListRest-some r

-- ---- the lists of `if` and `case`

abbrev after_then : List (ℕ × ℕ) → List Below → ℕ → Draft → List Token → Option Script
after_then bs b d s [] = None
after_then bs b d s (t ∷ ts) = next (m.on_op (m.after_branch bs b d s) t) ts

then-ends : (js : List AndOr) (bs : List (ℕ × ℕ)) (n k : ℕ) (b : List Below) (d : ℕ) (s : Draft) (ts : List Token) → NotEmpty js →
    after_list js (below.Then bs n k ∷ b) d s ts ≡ after_then (bs ++ (n, k) ∷ []) b d (end_list k js s) ts
then-ends [] bs n k b d s ts h = absurd h
then-ends (j ∷ js) bs n k b d s [] h = refl
then-ends (j ∷ js) bs n k b d s (t ∷ ts) h = refl

abbrev after_arm : Case → List Below → ℕ → Draft → List Token → Option Script
after_arm c b d s [] = None
after_arm c b d s (t ∷ ts) = next (m.on_op (m.after_arm c b d s) t) ts

arm-ends : (is : List AndOr) (c : Case) (ws : List Word) (n : ℕ) (b : List Below) (d : ℕ) (s : Draft) (ts : List Token) →
    after_list is (below.Arm c ws n ∷ b) d s ts ≡ after_arm (m.with_arm ws n c) b d (end_list n is s) ts
arm-ends is c ws n b d s [] = refl
arm-ends is c ws n b d s (t ∷ ts) = refl

-- the gap between `in` and `esac`
abbrev arms_of : Word → List (List Word × ℕ) → Case
arms_of w arms = record { word = w; arms = arms }

same-cut : (k : Gap) (n : Mode) (hs : List Due) → gap_mode k ≡ n → same_mode (cut_mode (gap_mode k) hs) (cut_mode n hs) ≡ true
same-cut k n hs e = same_mode-at _ _ (ap (λ x. cut_mode x hs) e)

mutual
  parts : (b : List Below) {d : ℕ} {s s' : Draft} {ps qs : List Part} {ts rest : List Token} → Parts d s ps ts rest qs s' →
      run (at (now.Parts ps) b d s) ts ≡ run (at (now.Parts qs) b d s') rest
  parts b g.parts_end = refl
  parts b (g.one_bit r) = parts b r
  parts b (g.param r) = parts b r
  parts b (g.double {m = n} p r) = parts _ p ∙ (holds _ _ _ (same_mode-refl n) ∙ parts b r)
  parts b (g.braces {m = n} p r) = parts _ p ∙ (holds _ _ _ (same_mode-refl n) ∙ parts b r)
  parts b (g.arith {m = n} p r) = parts _ p ∙ (holds _ _ _ (same_mode-refl n) ∙ parts b r)
  parts b (g.substitution {m = n} l r) = may_be_list _ l at_list_end ∙ (holds _ _ _ (same_mode-refl n) ∙ parts b r)
  parts b (g.backquotes {m = n} l r) = may_be_list _ l at_cut_end ∙ (holds _ _ _ (same_mode-refl n) ∙ parts b r)

  bodies : (k : Gap) (b : List Below) {n : Mode} {hs : List Due} {d : ℕ} {s s' : Draft} {ts rest : List Token} → Bodies n hs d s ts rest s' → gap_mode k ≡ n →
      run (at (next_due hs k) b d s) ts ≡ run (at (now.Gap k) b d s') rest
  bodies k b g.no_body e = refl
  bodies k b (g.quoted_body {m = n} {hs = hs} r) e = holds _ _ _ (same-cut k n hs e) ∙ bodies k b r e
  bodies k b (g.expanded_body {m = n} {hs = hs} p r) e = parts _ p ∙ (holds _ _ _ (same-cut k n hs e) ∙ bodies k b r e)

  newlines : (k : Gap) (b : List Below) {n : Mode} {d : ℕ} {s s' : Draft} {ts rest : List Token} → Newlines n d s ts rest s' → gap_mode k ≡ n →
      run (at (now.Gap k) b d s) ts ≡ run (at (now.Gap k) b d s') rest
  newlines k b g.no_newline e = refl
  newlines k b (g.one_newline {m = n} {s = s} h r) e = holds _ _ _ (same-cut k n s.due e) ∙ (bodies k b h e ∙ newlines k b r e)

  separator : (is : List AndOr) (a : AndOr) (b : List Below) {d : ℕ} {s s' : Draft} {ts rest : List Token} → Separator d s ts rest s' →
      after_pipeline is a b d s ts ≡ run (at (now.Gap (gap.Begin (is ++ a ∷ []))) b d s') rest
  separator is a b (g.semi r) = newlines _ b r refl
  separator is a b (g.newline {s = s} h r) = holds _ _ _ (same_mode-refl (cut_mode mode.Command s.due)) ∙ (bodies (gap.Begin _) b h refl ∙ newlines _ b r refl)

  for_separator : (x : List ℕ) (ws : List Word) (b : List Below) {d : ℕ} {s s' : Draft} {ts rest : List Token} → Separator d s ts rest s' →
      run (at (now.ForWords x ws) b d s) ts ≡ run (at (now.Gap (gap.Do x (Some ws))) b d s') rest
  for_separator x ws b (g.semi r) = newlines _ b r refl
  for_separator x ws b (g.newline {s = s} h r) = holds _ _ _ (same_mode-refl (cut_mode mode.Command s.due)) ∙ (bodies (gap.Do x (Some ws)) b h refl ∙ newlines _ b r refl)

  simple_redir : (c : Simple) (b : List Below) {n : Mode} {d : ℕ} {s t : Draft} {r : Redir} {ts rest : List Token} → OneRedir n d s ts rest r t → mode_before c.words ≡ n →
      run (at (now.Elements c) b d s) ts ≡ run (at (now.Elements (g.with_redir r c)) b d t) rest
  simple_redir c b (g.file {m = n} p h) e = parts _ p ∙ (holds _ _ _ (is_end-at end.Word (mode_before c.words) n e) ∙ any _ _ _ h)
  simple_redir c b (g.here {m = n}) e = holds _ _ _ (same_mode-at (mode_before c.words) n e)

  redirs : (x : Compound) (b : List Below) {d : ℕ} {s s' : Draft} {rs rs' : List Redir} {ts rest : List Token} → Redirs d s rs ts rest rs' s' →
      run (at (now.Redirs x rs) b d s) ts ≡ run (at (now.Redirs x rs') b d s') rest
  redirs x b g.no_redir = refl
  redirs x b (g.one_redir {rs = rs} r k) = compound_redir x rs b r refl ∙ redirs x b k

  compound_redir : (x : Compound) (rs : List Redir) (b : List Below) {n : Mode} {d : ℕ} {s t : Draft} {r : Redir} {ts rest : List Token} → OneRedir n d s ts rest r t →
      mode.Arguments ≡ n → run (at (now.Redirs x rs) b d s) ts ≡ run (at (now.Redirs x (rs ++ r ∷ [])) b d t) rest
  compound_redir x rs b (g.file {m = n} p h) e = parts _ p ∙ (holds _ _ _ (is_end-at end.Word mode.Arguments n e) ∙ any _ _ _ h)
  compound_redir x rs b (g.here {m = n}) e = holds _ _ _ (same_mode-at mode.Arguments n e)

  elements : (b : List Below) {d : ℕ} {s s' : Draft} {c c' : Simple} {ts rest : List Token} → Elements d s c ts rest c' s' →
      run (at (now.Elements c) b d s) ts ≡ run (at (now.Elements c') b d s') rest
  elements b g.no_element = refl
  elements b (g.assign p r) = parts _ p ∙ elements b r
  elements b (g.argument {d} {s} {c = c} p h r) = argument-begins c b d s (Parts-begin p h) ∙ (parts _ p ∙ (any _ _ _ h ∙ elements b r))
  elements b (g.redirection {c = c} o r) = simple_redir c b o refl ∙ elements b r

  for_words : (x : List ℕ) (b : List Below) {d : ℕ} {s s' : Draft} {ws vs : List Word} {ts rest : List Token} → ForWords d s ws ts rest vs s' →
      run (at (now.ForWords x ws) b d s) ts ≡ run (at (now.ForWords x vs) b d s') rest
  for_words x b g.no_word = refl
  for_words x b (g.one_word {d} {s} {ws = ws} p h r) = for_word-begins x ws b d s (Parts-begin p h) ∙ (parts _ p ∙ (any _ _ _ h ∙ for_words x b r))

  patterns : (c : Case) (b : List Below) {d : ℕ} {s s' : Draft} {ws vs : List Word} {ts rest : List Token} → Patterns d s ws ts rest vs s' →
      run (at (now.Parts []) (below.Pattern c ws ∷ b) d s) ts ≡ run (at (now.Patterns c vs) b d s') rest
  patterns c b (g.last_pattern p h) = parts _ p ∙ any _ _ _ h
  patterns c b (g.more_patterns {mid = mid} p h r) = parts _ p ∙ (any _ _ (token.Operator op.PipePattern ∷ mid) h ∙ patterns c b r)

  one_arm : (c : Case) (b : List Below) {d : ℕ} {s s' : Draft} {ws : List Word} {n : ℕ} {ts rest : List Token} → OneArm d s ts rest ws n s' → IsEnd rest →
      run (at (now.Gap (gap.Arms c)) b d s) ts ≡ after_arm (m.with_arm ws n c) b d s' rest
  one_arm c b {rest = rest} (g.one_arm {d} {s} {t} {u} {ws} {is} o r l) e =
      pattern-opens c b d s o (Patterns-begin r) ∙ (patterns c b r ∙ (may_be_list _ l e ∙ arm-ends is c ws (next_list t) b d u rest))

  arms : (w : Word) (b : List Below) {d : ℕ} {s s' : Draft} {arms arms' : List (List Word × ℕ)} {ts rest : List Token} → Arms d s arms ts rest arms' s' →
      run (at (now.Gap (gap.Arms (arms_of w arms))) b d s) ts ≡ run (at (now.Redirs (compound.Case w arms') []) b (suc d) s') rest
  arms w b (g.no_arm n) = newlines _ b n refl
  arms w b (g.last_arm n a) = newlines _ b n refl ∙ one_arm _ b a (at_op refl)
  arms w b (g.more_arms n a r) = newlines _ b n refl ∙ (one_arm _ b a (at_op refl) ∙ arms w b r)

  branches : (b : List Below) {d : ℕ} {s s' : Draft} {bs cs : List (ℕ × ℕ)} {o : Option ℕ} {ts rest : List Token} → Branches d s bs ts rest cs o s' →
      run (open_list (below.Test bs) b d s) ts ≡ run (at (now.Redirs (compound.If cs o) []) b (suc d) s') rest
  branches b (g.branch {d} {s} {t} {u} {bs = bs} {js = js} {mid' = mid'} k l r) =
      in_list _ k (at_op refl) ∙ (any _ _ _ (InList-some k) ∙ (in_list _ l (MoreBranches-ends r) ∙
      (then-ends js bs (next_list s) (next_list t) b d u mid' (InList-some l) ∙ more_branches b r)))

  more_branches : (b : List Below) {d : ℕ} {s s' : Draft} {bs cs : List (ℕ × ℕ)} {o : Option ℕ} {ts rest : List Token} → MoreBranches d s bs ts rest cs o s' →
      after_then bs b d s ts ≡ run (at (now.Redirs (compound.If cs o) []) b (suc d) s') rest
  more_branches b g.fi = refl
  more_branches b (g.elif r) = branches b r
  more_branches b (g.otherwise l) = in_list _ l (at_op refl) ∙ any _ _ _ (InList-some l)

  one_compound : (b : List Below) {d : ℕ} {s s' : Draft} {x : Compound} {ts rest : List Token} → OneCompound d s ts rest x s' →
      run (at now.Bang b d s) ts ≡ run (at (now.Redirs x []) b d s') rest
  one_compound b (g.group l) = in_list _ l (at_op refl) ∙ any _ _ _ (InList-some l)
  one_compound b (g.subshell l) = in_list _ l (at_op refl) ∙ any _ _ _ (InList-some l)
  one_compound b (g.if_command r) = branches b r
  one_compound b (g.loop {until = true} k l) = in_list _ k (at_op refl) ∙ (any _ _ _ (InList-some k) ∙ (in_list _ l (at_op refl) ∙ any _ _ _ (InList-some l)))
  one_compound b (g.loop {until = false} k l) = in_list _ k (at_op refl) ∙ (any _ _ _ (InList-some k) ∙ (in_list _ l (at_op refl) ∙ any _ _ _ (InList-some l)))
  one_compound b (g.for_words {x = x} {ws = ws} {ts = ts} e n w sep l) =
      holds _ _ (token.End end.Word mode.Command ∷ ts) e ∙ (for_in x b n ∙ (for_words x b w ∙ (for_separator x ws b sep ∙ (in_list _ l (at_op refl) ∙ any _ _ _ (InList-some l)))))
  one_compound b (g.for_parameters {x = x} {ts = ts} e sep l) = holds _ _ (token.End end.Word mode.Command ∷ ts) e ∙ (may_separate x b sep ∙ (in_list _ l (at_op refl) ∙ any _ _ _ (InList-some l)))
  one_compound b (g.case_command {ps = ps} p h n r) = parts _ p ∙ (any _ _ _ h ∙ (newlines (gap.In (word ps)) b n refl ∙ arms (word ps) b r))

  for_in : (x : List ℕ) (b : List Below) {d : ℕ} {s s' : Draft} {ts mid : List Token} → Newlines mode.Command d s ts (token.Operator op.In ∷ mid) s' →
      run (at (now.ForNamed x) b d s) ts ≡ run (at (now.ForWords x []) b d s') mid
  for_in x b g.no_newline = refl
  for_in x b (g.one_newline {s = s} h r) =
      holds _ _ _ (same_mode-refl (cut_mode mode.Command s.due)) ∙ (bodies (gap.For x) b h refl ∙ newlines (gap.For x) b r refl)

  may_separate : (x : List ℕ) (b : List Below) {d : ℕ} {s s' : Draft} {ts mid : List Token} → MaySeparate d s ts (token.Operator op.Do ∷ mid) s' →
      run (at (now.ForNamed x) b d s) ts ≡ run (open_list (below.ForDo x None) b d s') mid
  may_separate x b g.not_separated = refl
  may_separate x b (g.separated (g.semi r)) = newlines (gap.Do x None) b r refl
  may_separate x b (g.separated (g.newline {s = s} h r)) =
      holds _ _ _ (same_mode-refl (cut_mode mode.Command s.due)) ∙ (bodies (gap.For x) b h refl ∙ newlines (gap.For x) b r refl)

  one_command : (b : List Below) {d : ℕ} {s s' : Draft} {c : Command} {ts rest : List Token} → OneCommand d s ts rest c s' → IsStop rest →
      run (at now.Bang b d s) ts ≡ after_command c b d s' rest
  one_command b (g.simple_command {d} {t = t} {c = c} r h) e = elements-begin b r h ∙ (elements b r ∙ elements-stop c b d t e)
  one_command b (g.compound_command {d} {s' = s'} {x = x} {rs = rs} k r) e = one_compound b k ∙ (redirs x b r ∙ redirs-stop x rs b d s' e)
  one_command b {rest = rest} (g.function {d} {s} {t} {u} {s'} {name} {x} {rs} {ts} n k r) e =
      function-named name b s (token.Operator op.Open ∷ token.Operator op.Close ∷ ts) k ∙ (newlines (gap.Function name) b n refl ∙ (function-begins name b t k ∙ (one_compound _ k ∙ (redirs x _ r ∙
      (redirs-stop x rs _ d s' e ∙ function-ends (command.Compound x rs) name (next_body t) b d s' rest)))))

  stages : (p : Pipe) (b : List Below) {d : ℕ} {s s' : Draft} {cs cs' : List Command} {ts rest : List Token} → Stages d s cs ts rest cs' s' → IsPipelineEnd rest →
      run (at now.Bang (below.Pipe (record p { stages = cs }) ∷ b) d s) ts
      ≡ after_pipeline p.items (this_and_or p.before p.leaf) b d (end_leaf p.leaf p.bang cs' s') rest
  stages p b (g.one_stage {d} {t = t} {c = c} {cs = cs} {mid = mid} k r) e =
      one_command _ k (MoreStages-stops r e) ∙ (stage-ends c (record p { stages = cs }) b d t mid ∙ more_stages p b r e)

  more_stages : (p : Pipe) (b : List Below) {d : ℕ} {s s' : Draft} {cs cs' : List Command} {ts rest : List Token} → MoreStages d s cs ts rest cs' s' → IsPipelineEnd rest →
      after_stage (record p { stages = cs }) b d s ts ≡ after_pipeline p.items (this_and_or p.before p.leaf) b d (end_leaf p.leaf p.bang cs' s') rest
  more_stages p b (g.last_stage {d} {s} {cs}) e = pipeline-ends (record p { stages = cs }) b d s e
  more_stages p b (g.pipe {d} {t = t} n r) e = newlines gap.Stage _ n refl ∙ (stage-begins _ d t (Stages-begin r) ∙ stages p b r e)

  one_pipeline : (is : List AndOr) (before : Option (AndOr × Join)) (b : List Below) {d : ℕ} {s s' : Draft} {ts rest : List Token} → OnePipeline d s ts rest s' →
      IsPipelineEnd rest → run_pipeline is before b d s ts ≡ after_pipeline is (this_and_or before (next_leaf s)) b d s' rest
  one_pipeline is before b (g.pipeline {d} {s} r) e = plain-begins is before b d s (Stages-begin r) ∙ stages (pipe is before false s) b r e
  one_pipeline is before b (g.bang_pipeline {d} {s} r) e = stages (pipe is before true s) b r e

  list_rest : (b : List Below) {d : ℕ} {s s' : Draft} {is js : List AndOr} {a : AndOr} {ts rest : List Token} → ListRest d s is a ts rest js s' → IsEnd rest →
      after_pipeline is a b d s ts ≡ after_list js b d s' rest
  list_rest b (g.list_end {d} {s} {is} {a}) e = pipeline-list is a b d s e
  list_rest b (g.list_separator {d} {s' = s'} {is = is} {a = a} sep) e = separator is a b sep ∙ begin-list _ b d s' e
  list_rest b (g.joins {d} {s} {t} {is = is} {a = a} {ts = ts} j n p r) e =
      join-ends is a j b d s ts ∙ (newlines (gap.Join is a j) b n refl ∙ (join-pipeline is a j b d t (OnePipeline-begins p) ∙
      (one_pipeline is (Some (a, j)) b p (ListRest-stops r e) ∙ list_rest b r e)))
  list_rest b (g.next_more {d} {t = t} {is = is} {a = a} sep p r) e =
      separator is a b sep ∙ (begin-pipeline _ b d t (OnePipeline-begins p) ∙ (one_pipeline _ None b p (ListRest-stops r e) ∙ list_rest b r e))

  in_list : (b : List Below) {d : ℕ} {s s' : Draft} {is : List AndOr} {ts rest : List Token} → InList d s ts rest is s' → IsEnd rest →
      run (at (now.Gap (gap.Begin [])) b d s) ts ≡ after_list is b d s' rest
  in_list b (g.list {d} {t = t} n p r) e =
      newlines (gap.Begin []) b n refl ∙ (begin-pipeline [] b d t (OnePipeline-begins p) ∙ (one_pipeline [] None b p (ListRest-stops r e) ∙ list_rest b r e))

  may_be_list : (b : List Below) {d : ℕ} {s s' : Draft} {is : List AndOr} {ts rest : List Token} → MayBeList d s ts rest is s' → IsEnd rest →
      run (at (now.Gap (gap.Begin [])) b d s) ts ≡ after_list is b d s' rest
  may_be_list b (g.empty {d} {s' = s'} n) e = newlines (gap.Begin []) b n refl ∙ begin-list [] b d s' e
  may_be_list b (g.some l) e = in_list b l e

none-due : (q : List Due) (s : Script) → q ≡ [] → m.if_none q s ≡ Some s
none-due [] s e = refl
none-due (h ∷ hs) s e = absurd cc

-- What the grammar derives, the machine reads.
pub complete : {d : ℕ} {s : Script} {ts : List Token} → ParsesWithin d s ts → run (start_within d) ts ≡ Some s
complete (g.script {s = s} l e) = may_be_list [] l at_text_end ∙ none-due s.due _ e
