-- Parts and lists are written step by step.
use Rattle.std.proofs.Common.{◌≡◌, ℕ, suc, Bool, true, false, List, [], ◌∷◌, ◌++◌, Option, Some, None, refl, ap, sym, ◌∙◌}
use Rattle.std.specs.Prelude.{map, slice_get}
use Rattle.sh_syntax.specs.declared.tree.Part.{Part, out-Part}
use Rattle.sh_syntax.specs.declared.tree.Part.TheOpen as open_part
use Rattle.sh_syntax.specs.declared.tree.Part.TheOpen.{Part-F}
use Rattle.sh_syntax.specs.declared.tree.ParamOp.{ParamOp}
use Rattle.sh_syntax.specs.declared.tree.ParamOp.TheVariants as param_op
use Rattle.sh_syntax.specs.declared.tree.Word.{Word}
use Rattle.sh_syntax.specs.declared.tree.Redir.{Redir}
use Rattle.sh_syntax.specs.declared.tree.Command.{Command}
use Rattle.sh_syntax.specs.declared.tree.Command.TheVariants as command
use Rattle.sh_syntax.specs.declared.tree.Compound.{Compound}
use Rattle.sh_syntax.specs.declared.tree.Compound.TheVariants as compound
use Rattle.sh_syntax.specs.declared.tree.AndOr.{AndOr}
use Rattle.sh_syntax.specs.declared.tree.List.{List as TreeList}
use Rattle.sh_syntax.specs.declared.tree.Pipeline.{Pipeline}
use Rattle.sh_syntax.specs.declared.tree.Script.{Script}
use Rattle.sh_lexer.specs.declared.token.Token.TheVariants as token
use Rattle.sh_lexer.specs.declared.token.Op.TheVariants as op
use Rattle.sh_lexer.specs.declared.token.Bit.TheVariants as bit
use Rattle.sh_lexer.specs.declared.token.Opener.{Opener}
use Rattle.sh_lexer.specs.declared.token.Opener.TheVariants as opener
use Rattle.sh_lexer.specs.declared.token.End.{End}
use Rattle.sh_lexer.specs.declared.token.End.TheVariants as end
use Rattle.sh_grammar.specs.Grammar.{join_op}
use Rattle.sh_spell.specs.Scripts.{each, operator, opening, ending, alone_text, opened_with, word_with, redir_with, assign_with, branch_with, elif_with, branches_with, else_with, more_pattern, patterns_with, arm_with, for_words_with, words_list, assigns_list, going, waiting, words_with, assigns_with, simple_with, compound_with, body_with, command_with, piped, stages_with, bang_text, leaf_with, leaf_of, join_with, and_or_with, next_item, items_with, part_text, list_text}
use Rattle.sh_spell.specs.Steps.{Step, token_step, part_step, list_step, step_with, step_text, op_step, end_step, all_steps, parts_steps, alone_steps, opened_steps, part_steps, word_steps, redir_steps, assign_steps, listed_steps, branch_steps, elif_steps, branches_steps, else_steps, more_pattern_steps, patterns_steps, arm_steps, for_words_steps, compound_steps, body_steps, words_steps, assigns_steps, simple_steps, command_steps, piped_steps, stages_steps, bang_steps, leaf_steps, leaf_steps_of, join_steps, and_or_steps, next_item_steps, items_steps, list_steps}

abbrev Writes : Type 0
Writes = List ℕ → List ℕ

pub each-append : {A : Type 0} (f : A → Writes) (xs ys : List A) (c : List ℕ) → each f (xs ++ ys) c ≡ each f xs (each f ys c)
each-append f [] ys c = refl
each-append f (x ∷ xs) ys c = ap (f x) (each-append f xs ys c)

abbrev run : (Part → Writes) → (ℕ → Writes) → List Step → Writes
run p l xs c = each (step_with p l) xs c

-- the steps of a thing before those of another
after : (p : Part → Writes) (l : ℕ → Writes) (xs ys : List Step) (c : List ℕ) → run p l (xs ++ ys) c ≡ run p l xs (run p l ys c)
after p l xs ys c = each-append (step_with p l) xs ys c

parts-run : (p : Part → Writes) (l : ℕ → Writes) (ps : List Part) (c : List ℕ) → run p l (map part_step ps) c ≡ each p ps c
parts-run p l [] c = refl
parts-run p l (q ∷ ps) c = ap (p q) (parts-run p l ps c)

all-run : {A : Type 0} (p : Part → Writes) (l : ℕ → Writes) (f : A → List Step) (h : A → Writes) → ((x : A) (c : List ℕ) → run p l (f x) c ≡ h x c) → (xs : List A) (c : List ℕ) → run p l (all_steps f xs) c ≡ each h xs c
all-run p l f h e [] c = refl
all-run p l f h e (x ∷ xs) c = after p l (f x) (all_steps f xs) c ∙ (e x (run p l (all_steps f xs) c) ∙ ap (h x) (all-run p l f h e xs c))

-- ---- words

quoted-run : (p : Part → Writes) (l : ℕ → Writes) (o : Opener) (ps : List Part) (e : End) (c : List ℕ) → run p l (parts_steps o ps e) c ≡ opening o (each p ps (ending e c))
quoted-run p l o ps e c = ap (opening o) (after p l (map part_step ps) (end_step e ∷ []) c ∙ parts-run p l ps (ending e c))

alone-run : (p : Part → Writes) (l : ℕ → Writes) (o : ParamOp) (x c : List ℕ) → run p l (alone_steps o x) c ≡ alone_text o x c
alone-run p l param_op.Length x c = refl
alone-run p l o x c = refl

opened-run : (p : Part → Writes) (l : ℕ → Writes) (o : Part-F Part Word) (c : List ℕ) → run p l (opened_steps o) c ≡ opened_with p l o c
opened-run p l (open_part.Plain x) c = refl
opened-run p l (open_part.Single x) c = refl
opened-run p l (open_part.Escaped b) c = refl
opened-run p l (open_part.Double ps) c = quoted-run p l opener.Double ps end.Quote c
opened-run p l (open_part.Param x o colon None) c = alone-run p l o x c
opened-run p l (open_part.Param x o colon (Some w)) c = quoted-run p l (opener.Braces x o colon false) w.parts end.Brace c
opened-run p l (open_part.Command n) c = refl
opened-run p l (open_part.Arith w) c = quoted-run p l opener.Arith w.parts end.Arith c

word-run : (p : Part → Writes) (l : ℕ → Writes) (w : Word) (c : List ℕ) → run p l (word_steps w) c ≡ word_with p w c
word-run p l w c = after p l (map part_step w.parts) (end_step end.Word ∷ []) c ∙ parts-run p l w.parts (ending end.Word c)

redir-run : (p : Part → Writes) (l : ℕ → Writes) (r : Redir) (c : List ℕ) → run p l (redir_steps r) c ≡ redir_with p r c
redir-run p l r c = ap (λ (z : List ℕ). step_with p l (token_step (token.Redirect r.fd r.op)) z) (word-run p l r.word c)

assign-run : (p : Part → Writes) (l : ℕ → Writes) (a : List ℕ × Word) (c : List ℕ) → run p l (assign_steps a) c ≡ assign_with p a c
assign-run p l a c = ap (λ (z : List ℕ). step_with p l (token_step (token.Assign a.0)) z) (word-run p l a.1 c)

words-run : (p : Part → Writes) (l : ℕ → Writes) (ws : List Word) (c : List ℕ) → run p l (all_steps word_steps ws) c ≡ each (word_with p) ws c
words-run p l ws c = all-run p l word_steps (word_with p) (word-run p l) ws c

redirs-run : (p : Part → Writes) (l : ℕ → Writes) (rs : List Redir) (c : List ℕ) → run p l (all_steps redir_steps rs) c ≡ each (redir_with p) rs c
redirs-run p l rs c = all-run p l redir_steps (redir_with p) (redir-run p l) rs c

-- ---- compound commands

branches-run : (p : Part → Writes) (l : ℕ → Writes) (bs : List (ℕ × ℕ)) (c : List ℕ) → run p l (branches_steps bs) c ≡ branches_with l bs c
branches-run p l [] c = refl
branches-run p l (a ∷ xs) c = after p l (branch_steps a) (all_steps elif_steps xs) c ∙ ap (branch_with l a) (all-run p l elif_steps (elif_with l) (λ x k. refl) xs c)

else-run : (p : Part → Writes) (l : ℕ → Writes) (o : Option ℕ) (c : List ℕ) → run p l (else_steps o) c ≡ else_with l o c
else-run p l None c = refl
else-run p l (Some n) c = refl

patterns-run : (p : Part → Writes) (l : ℕ → Writes) (ws : List Word) (c : List ℕ) → run p l (patterns_steps ws) c ≡ patterns_with p ws c
patterns-run p l [] c = refl
patterns-run p l (w ∷ ws) c =
    after p l (word_steps w) (all_steps more_pattern_steps ws) c
    ∙ (word-run p l w (run p l (all_steps more_pattern_steps ws) c) ∙ ap (word_with p w) (all-run p l more_pattern_steps (more_pattern p) (λ v k. ap (operator op.PipePattern) (word-run p l v k)) ws c))

arm-run : (p : Part → Writes) (l : ℕ → Writes) (a : List Word × ℕ) (c : List ℕ) → run p l (arm_steps a) c ≡ arm_with p l a c
arm-run p l a c = after p l (patterns_steps a.0) (op_step op.Close ∷ list_step a.1 ∷ op_step op.DoubleSemi ∷ []) c ∙ patterns-run p l a.0 (operator op.Close (l a.1 (operator op.DoubleSemi c)))

for_words-run : (p : Part → Writes) (l : ℕ → Writes) (o : Option (List Word)) (c : List ℕ) → run p l (for_words_steps o) c ≡ for_words_with p o c
for_words-run p l None c = refl
for_words-run p l (Some ws) c = ap (operator op.In) (after p l (all_steps word_steps ws) (op_step op.Semi ∷ []) c ∙ words-run p l ws (operator op.Semi c))

compound-run : (p : Part → Writes) (l : ℕ → Writes) (x : Compound) (c : List ℕ) → run p l (compound_steps x) c ≡ compound_with p l x c
compound-run p l (compound.Group n) c = refl
compound-run p l (compound.Subshell n) c = refl
compound-run p l (compound.If arms o) c =
    ap (operator op.If) (after p l (branches_steps arms) (else_steps o) c ∙ (branches-run p l arms (run p l (else_steps o) c) ∙ ap (branches_with l arms) (else-run p l o c)))
compound-run p l (compound.While until n k) c = refl
compound-run p l (compound.For x ws n) c =
    let k = op_step op.Do ∷ listed_steps n op.Done in
    ap (λ (z : List ℕ). run p l (op_step op.For ∷ token_step (token.Part (bit.Piece x)) ∷ end_step end.Word ∷ []) z) (after p l (for_words_steps ws) k c ∙ for_words-run p l ws (run p l k c))
compound-run p l (compound.Case w arms) c =
    let k = all_steps arm_steps arms ++ op_step op.Esac ∷ [] in
    ap (operator op.Case)
    (after p l (word_steps w) (op_step op.CaseIn ∷ k) c ∙ (word-run p l w (run p l (op_step op.CaseIn ∷ k) c)
    ∙ ap (λ (z : List ℕ). word_with p w (operator op.CaseIn z)) (after p l (all_steps arm_steps arms) (op_step op.Esac ∷ []) c ∙ all-run p l arm_steps (arm_with p l) (arm-run p l) arms (operator op.Esac c))))

-- ---- commands

redirected-run : (p : Part → Writes) (l : ℕ → Writes) (x : Compound) (rs : List Redir) (c : List ℕ) → run p l (compound_steps x ++ all_steps redir_steps rs) c ≡ compound_with p l x (each (redir_with p) rs c)
redirected-run p l x rs c = after p l (compound_steps x) (all_steps redir_steps rs) c ∙ (compound-run p l x (run p l (all_steps redir_steps rs) c) ∙ ap (compound_with p l x) (redirs-run p l rs c))

body-run : (p : Part → Writes) (l : ℕ → Writes) (x : Command) (c : List ℕ) → run p l (body_steps x) c ≡ body_with p l x c
body-run p l (command.Simple xs ws rs) c = refl
body-run p l (command.Compound x rs) c = redirected-run p l x rs c
body-run p l (command.Function x n) c = refl

body-if : (p : Part → Writes) (l : ℕ → Writes) (o : Option Command) (c : List ℕ) →
    run p l (elim o as (λ q. List Step) [ None ↦ [] | Some x ↦ body_steps x ]) c ≡ elim o as (λ q. List ℕ) [ None ↦ c | Some x ↦ body_with p l x c ]
body-if p l None c = refl
body-if p l (Some x) c = body-run p l x c

-- redirections before what is behind them
front-run : (p : Part → Writes) (l : ℕ → Writes) (rs : List Redir) (xs : List Step) (c k : List ℕ) → run p l xs c ≡ k → run p l (all_steps redir_steps rs ++ xs) c ≡ each (redir_with p) rs k
front-run p l rs xs c k e = after p l (all_steps redir_steps rs) xs c ∙ (redirs-run p l rs (run p l xs c) ∙ ap (each (redir_with p) rs) e)

words_with-run : (p : Part → Writes) (l : ℕ → Writes) (ws : List Word) (rs : List Redir) (c : List ℕ) → run p l (words_steps ws rs) c ≡ words_with p ws rs c
words_with-run p l [] rs c = redirs-run p l rs c
words_with-run p l (w ∷ ws) rs c =
    let k = all_steps redir_steps (going (words_list ws) rs) ++ words_steps ws (waiting (words_list ws) rs) in
    after p l (word_steps w) k c ∙ (word-run p l w (run p l k c)
    ∙ ap (word_with p w) (front-run p l (going (words_list ws) rs) (words_steps ws (waiting (words_list ws) rs)) c _ (words_with-run p l ws (waiting (words_list ws) rs) c)))

assigns_with-run : (p : Part → Writes) (l : ℕ → Writes) (xs : List (List ℕ × Word)) (ws : List Word) (rs : List Redir) (c : List ℕ) → run p l (assigns_steps xs ws rs) c ≡ assigns_with p xs ws rs c
assigns_with-run p l [] ws rs c = words_with-run p l ws rs c
assigns_with-run p l (a ∷ xs) ws rs c =
    let o = assigns_list xs ws in
    let k = all_steps redir_steps (going o rs) ++ assigns_steps xs ws (waiting o rs) in
    after p l (assign_steps a) k c ∙ (assign-run p l a (run p l k c) ∙ ap (assign_with p a) (front-run p l (going o rs) (assigns_steps xs ws (waiting o rs)) c _ (assigns_with-run p l xs ws (waiting o rs) c)))

simple-run : (p : Part → Writes) (l : ℕ → Writes) (xs : List (List ℕ × Word)) (ws : List Word) (rs : List Redir) (c : List ℕ) → run p l (simple_steps xs ws rs) c ≡ simple_with p xs ws rs c
simple-run p l xs ws rs c = let o = assigns_list xs ws in front-run p l (going o rs) (assigns_steps xs ws (waiting o rs)) c _ (assigns_with-run p l xs ws (waiting o rs) c)

command-run : (s : Script) (p : Part → Writes) (l : ℕ → Writes) (x : Command) (c : List ℕ) → run p l (command_steps s x) c ≡ command_with s p l x c
command-run s p l (command.Simple xs ws rs) c = simple-run p l xs ws rs c
command-run s p l (command.Compound x rs) c = redirected-run p l x rs c
command-run s p l (command.Function x n) c =
    ap (λ (z : List ℕ). run p l (token_step (token.Function x) ∷ op_step op.Open ∷ op_step op.Close ∷ []) z) (body-if p l (slice_get s.bodies n) c)

-- ---- pipelines and lists

stages-run : (s : Script) (p : Part → Writes) (l : ℕ → Writes) (xs : List Command) (c : List ℕ) → run p l (stages_steps s xs) c ≡ stages_with s p l xs c
stages-run s p l [] c = refl
stages-run s p l (x ∷ xs) c =
    after p l (command_steps s x) (all_steps (piped_steps s) xs) c
    ∙ (command-run s p l x (run p l (all_steps (piped_steps s) xs) c) ∙ ap (command_with s p l x) (all-run p l (piped_steps s) (piped s p l) (λ y k. ap (operator op.Pipe) (command-run s p l y k)) xs c))

leaf-run-at : (s : Script) (p : Part → Writes) (l : ℕ → Writes) (b : Bool) (xs : List Command) (c : List ℕ) → run p l (bang_steps b ++ stages_steps s xs) c ≡ bang_text b (stages_with s p l xs c)
leaf-run-at s p l true xs c = ap (operator op.Bang) (stages-run s p l xs c)
leaf-run-at s p l false xs c = stages-run s p l xs c

leaf-if : (s : Script) (p : Part → Writes) (l : ℕ → Writes) (o : Option Pipeline) (c : List ℕ) →
    run p l (elim o as (λ q. List Step) [ None ↦ [] | Some x ↦ leaf_steps s x ]) c ≡ elim o as (λ q. List ℕ) [ None ↦ c | Some x ↦ leaf_with s p l x c ]
leaf-if s p l None c = refl
leaf-if s p l (Some x) c = leaf-run-at s p l x.bang x.stages c

leaf_of-run : (s : Script) (p : Part → Writes) (l : ℕ → Writes) (n : ℕ) (c : List ℕ) → run p l (leaf_steps_of s n) c ≡ leaf_of s p l n c
leaf_of-run s p l n c = leaf-if s p l (slice_get s.leaves n) c

and_or-run : (s : Script) (p : Part → Writes) (l : ℕ → Writes) (a : AndOr) (c : List ℕ) → run p l (and_or_steps s a) c ≡ and_or_with (leaf_of s p l) a c
and_or-run s p l a c =
    after p l (leaf_steps_of s a.first) (all_steps (join_steps s) a.rest) c
    ∙ (leaf_of-run s p l a.first (run p l (all_steps (join_steps s) a.rest) c)
    ∙ ap (leaf_of s p l a.first) (all-run p l (join_steps s) (join_with (leaf_of s p l)) (λ j k. ap (operator (join_op j.0)) (leaf_of-run s p l j.1 k)) a.rest c))

items-run : (s : Script) (p : Part → Writes) (l : ℕ → Writes) (xs : List AndOr) (c : List ℕ) → run p l (items_steps s xs) c ≡ items_with (leaf_of s p l) xs c
items-run s p l [] c = refl
items-run s p l (a ∷ xs) c =
    after p l (and_or_steps s a) (all_steps (next_item_steps s) xs) c
    ∙ (and_or-run s p l a (run p l (all_steps (next_item_steps s) xs) c)
    ∙ ap (and_or_with (leaf_of s p l) a) (all-run p l (next_item_steps s) (next_item (leaf_of s p l)) (λ b k. ap (operator op.Semi) (and_or-run s p l b k)) xs c))

list-if : (s : Script) (p : Part → Writes) (l : ℕ → Writes) (o : Option TreeList) (c : List ℕ) →
    run p l (elim o as (λ q. List Step) [ None ↦ [] | Some x ↦ items_steps s x.items ]) c ≡ elim o as (λ q. List ℕ) [ None ↦ c | Some x ↦ items_with (leaf_of s p l) x.items c ]
list-if s p l None c = refl
list-if s p l (Some x) c = items-run s p l x.items c

-- A part is written by its steps, where what is in it lies less deep.
pub part-stepwise : (s : Script) (d : ℕ) (q : Part) (c : List ℕ) → part_text s (suc d) q c ≡ each (step_text s d) (part_steps q) c
unfolding part_text
part-stepwise s d q c = sym (opened-run (part_text s d) (list_text s d) (out-Part q) c)

pub list-stepwise : (s : Script) (d n : ℕ) (c : List ℕ) → list_text s (suc d) n c ≡ each (step_text s d) (list_steps s n) c
unfolding list_text
list-stepwise s d n c = sym (list-if s (part_text s d) (list_text s d) (slice_get s.lists n) c)
