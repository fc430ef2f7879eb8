-- What the machine reads, the grammar derives: what a state still wants is said by the grammar.
use Rattle.std.specs.Prelude.{option_and_then}
use Rattle.sh_syntax.specs.declared.tree.Part.{Part}
use Rattle.sh_syntax.specs.declared.tree.Part.TheVariants as part
use Rattle.sh_syntax.specs.declared.tree.Word.{Word}
use Rattle.sh_syntax.specs.declared.tree.Redir.{Redir}
use Rattle.sh_syntax.specs.declared.tree.RedirOp.{RedirOp}
use Rattle.sh_syntax.specs.declared.tree.ParamOp.{ParamOp}
use Rattle.sh_syntax.specs.declared.tree.Command.{Command}
use Rattle.sh_syntax.specs.declared.tree.Command.TheVariants as command
use Rattle.sh_syntax.specs.declared.tree.Compound.{Compound}
use Rattle.sh_syntax.specs.declared.tree.Compound.TheVariants as compound
use Rattle.sh_syntax.specs.declared.tree.AndOr.{AndOr}
use Rattle.sh_syntax.specs.declared.tree.Join.{Join}
use Rattle.sh_syntax.specs.declared.tree.Join.TheVariants as join
use Rattle.sh_syntax.specs.declared.tree.Script.{Script}
use Rattle.sh_syntax.specs.Trees.{word}
use Rattle.sh_lexer.specs.declared.token.Token.{Token}
use Rattle.sh_lexer.specs.declared.token.Token.TheVariants as token
use Rattle.sh_lexer.specs.declared.token.Op.{Op}
use Rattle.sh_lexer.specs.declared.token.Op.TheVariants as op
use Rattle.sh_lexer.specs.declared.token.Bit.{Bit}
use Rattle.sh_lexer.specs.declared.token.Opener.{Opener}
use Rattle.sh_lexer.specs.declared.token.End.{End}
use Rattle.sh_lexer.specs.declared.token.End.TheVariants as end
use Rattle.sh_lexer.specs.declared.token.Mode.{Mode}
use Rattle.sh_lexer.specs.declared.token.Mode.TheVariants as mode
use Rattle.sh_lexer.specs.Bytes.{is_name}
use Rattle.sh_grammar.specs.declared.state.Due.{Due}
use Rattle.sh_grammar.specs.declared.state.Draft.{Draft}
use Rattle.sh_grammar.specs.declared.state.Simple.{Simple}
use Rattle.sh_grammar.specs.declared.state.Pipe.{Pipe}
use Rattle.sh_grammar.specs.declared.state.Case.{Case}
use Rattle.sh_grammar.specs.declared.state.Host.{Host}
use Rattle.sh_grammar.specs.declared.state.Host.TheVariants as host
use Rattle.sh_grammar.specs.declared.state.Gap.{Gap}
use Rattle.sh_grammar.specs.declared.state.Gap.TheVariants as gap
use Rattle.sh_grammar.specs.declared.state.Now.TheVariants as now
use Rattle.sh_grammar.specs.declared.state.Below.{Below}
use Rattle.sh_grammar.specs.declared.state.Below.TheVariants as below
use Rattle.sh_grammar.specs.Grammar as g
use Rattle.sh_grammar.specs.Grammar.{NotEmpty, Parts, Bodies, Newlines, Separator, MaySeparate, OneRedir, Redirs, Elements, ForWords, Patterns, OneArm, Arms, Branches, MoreBranches, OneCompound, OneCommand, Stages, MoreStages, OnePipeline, ListRest, InList, MayBeList, MayOpen, ParsesWithin, HasElement, no_simple, simple, loop_op, join_op, mode_before}
use Rattle.sh_grammar.specs.Tests.{same_mode, is_op, is_end, ends_list}
use Rattle.sh_grammar.specs.Machine as m
use Rattle.std.proofs.Common.{◌≡◌, Bool, true, false, cond, ℕ, zero, suc, List, [], ◌∷◌, ◌++◌, Option, Some, None, refl, sym, subst, ◌⊎◌, inl, inr}
use Rattle.sh_lexer.specs.declared.token.Bit.TheVariants as bit
use Rattle.sh_lexer.specs.declared.token.Opener.TheVariants as opener
use Rattle.sh_grammar.specs.declared.state.Now.{Now}
use Rattle.sh_grammar.specs.Draft.{next_list, begin_list, end_list, next_leaf, begin_leaf, end_leaf, next_body, begin_body, end_body, next_here, begin_here, end_here, none_due, cut_mode, redir, here_redir, filled, no_draft}
use Rattle.sh_grammar.specs.Grammar.{Parses, with_assign, with_word, with_redir, max_nesting}
use Rattle.sh_grammar.specs.Machine.{State, at, if_any, when, gap_mode, next_due, host_mode, list_ended, this_and_or, command_ended, pipe, end_with, end_command, accept_now, step_now, run, start, start_within, opened, case, with_arm}
use Rattle.sh_grammar.proofs.Tests.{same_mode-is, is_op-is, is_end-is}
use Rattle.sh_grammar.proofs.Complete.{some-append}

mutual
  -- the list is complete with these items
  data Finishes : List AndOr → List Below → ℕ → Draft → List Token → Script → Type 0 where
    top : {is : List AndOr} {d : ℕ} {s : Draft} → s.due ≡ [] → Finishes is [] d s [] (filled (end_list 0 is s))
    in_group : {is : List AndOr} {n d : ℕ} {b : List Below} {s : Draft} {ts : List Token} {all : Script} →
        NotEmpty is → RedirsGo (compound.Group n) [] b (suc d) (end_list n is s) ts all → Finishes is (below.Group n ∷ b) d s (token.Operator op.RightBrace ∷ ts) all
    in_subshell : {is : List AndOr} {n d : ℕ} {b : List Below} {s : Draft} {ts : List Token} {all : Script} →
        NotEmpty is → RedirsGo (compound.Subshell n) [] b (suc d) (end_list n is s) ts all → Finishes is (below.Subshell n ∷ b) d s (token.Operator op.Close ∷ ts) all
    in_test : {is js : List AndOr} {bs cs : List (ℕ × ℕ)} {o : Option ℕ} {n d : ℕ} {b : List Below} {s t u : Draft} {ts mid rest : List Token} {all : Script} →
        NotEmpty is → InList d (begin_list (end_list n is s)) ts mid js t → MoreBranches d (end_list (next_list s) js t) (bs ++ (n, next_list s) ∷ []) mid rest cs o u →
        RedirsGo (compound.If cs o) [] b (suc d) u rest all → Finishes is (below.Test bs n ∷ b) d s (token.Operator op.Then ∷ ts) all
    in_then : {is : List AndOr} {bs cs : List (ℕ × ℕ)} {o : Option ℕ} {n k d : ℕ} {b : List Below} {s t : Draft} {ts mid : List Token} {all : Script} →
        NotEmpty is → MoreBranches d (end_list k is s) (bs ++ (n, k) ∷ []) ts mid cs o t → RedirsGo (compound.If cs o) [] b (suc d) t mid all →
        Finishes is (below.Then bs n k ∷ b) d s ts all
    in_else : {is : List AndOr} {bs : List (ℕ × ℕ)} {n d : ℕ} {b : List Below} {s : Draft} {ts : List Token} {all : Script} →
        NotEmpty is → RedirsGo (compound.If bs (Some n)) [] b (suc d) (end_list n is s) ts all → Finishes is (below.Else bs n ∷ b) d s (token.Operator op.Fi ∷ ts) all
    in_while : {is js : List AndOr} {until : Bool} {n d : ℕ} {b : List Below} {s t : Draft} {ts rest : List Token} {all : Script} →
        NotEmpty is → InList d (begin_list (end_list n is s)) ts (token.Operator op.Done ∷ rest) js t →
        RedirsGo (compound.While until n (next_list s)) [] b (suc d) (end_list (next_list s) js t) rest all → Finishes is (below.While until n ∷ b) d s (token.Operator op.Do ∷ ts) all
    in_while_do : {is : List AndOr} {until : Bool} {n k d : ℕ} {b : List Below} {s : Draft} {ts : List Token} {all : Script} →
        NotEmpty is → RedirsGo (compound.While until n k) [] b (suc d) (end_list k is s) ts all → Finishes is (below.WhileDo until n k ∷ b) d s (token.Operator op.Done ∷ ts) all
    in_for : {is : List AndOr} {x : List ℕ} {ws : Option (List Word)} {n d : ℕ} {b : List Below} {s : Draft} {ts : List Token} {all : Script} →
        NotEmpty is → RedirsGo (compound.For x ws n) [] b (suc d) (end_list n is s) ts all → Finishes is (below.ForDo x ws n ∷ b) d s (token.Operator op.Done ∷ ts) all
    in_arm : {is : List AndOr} {c : Case} {ws : List Word} {n d : ℕ} {b : List Below} {s : Draft} {ts : List Token} {all : Script} →
        ArmEnds (with_arm ws n c) b d (end_list n is s) ts all → Finishes is (below.Arm c ws n ∷ b) d s ts all
    in_substitution : {is : List AndOr} {ps : List Part} {n : Mode} {l d : ℕ} {b : List Below} {s : Draft} {ts : List Token} {all : Script} →
        PartsGo (ps ++ part.Command l ∷ []) b (suc d) (end_list l is s) ts all → Finishes is (below.Command ps n l ∷ b) d s (token.End end.List n ∷ ts) all
    in_backquotes : {is : List AndOr} {ps : List Part} {n : Mode} {l d : ℕ} {b : List Below} {s : Draft} {ts : List Token} {all : Script} →
        PartsGo (ps ++ part.Command l ∷ []) b (suc d) (end_list l is s) ts all → Finishes is (below.Backquote ps n l ∷ b) d s (token.End end.Text n ∷ ts) all

  -- after the list of an arm, which is the last one of these
  data ArmEnds : Case → List Below → ℕ → Draft → List Token → Script → Type 0 where
    arm_esac : {c : Case} {b : List Below} {d : ℕ} {s : Draft} {ts : List Token} {all : Script} →
        RedirsGo (case c) [] b (suc d) s ts all → ArmEnds c b d s (token.Operator op.Esac ∷ ts) all
    arm_semis : {c : Case} {arms : List (List Word × ℕ)} {b : List Below} {d : ℕ} {s t : Draft} {ts mid : List Token} {all : Script} →
        Arms d s c.arms ts mid arms t → RedirsGo (compound.Case c.word arms) [] b (suc d) t mid all → ArmEnds c b d s (token.Operator op.DoubleSemi ∷ ts) all

  -- after a compound command
  data RedirsGo : Compound → List Redir → List Below → ℕ → Draft → List Token → Script → Type 0 where
    redirs_go : {x : Compound} {rs rs' : List Redir} {b : List Below} {d : ℕ} {s t : Draft} {ts mid : List Token} {all : Script} →
        Redirs d s rs ts mid rs' t → CommandEnds (command.Compound x rs') b d t mid all → RedirsGo x rs b d s ts all

  -- a command has ended
  data CommandEnds : Command → List Below → ℕ → Draft → List Token → Script → Type 0 where
    ends_function : {c : Command} {x : List ℕ} {n : ℕ} {b : List Below} {d : ℕ} {s : Draft} {ts : List Token} {all : Script} →
        CommandEnds (command.Function x n) b d (end_body n c s) ts all → CommandEnds c (below.Function x n ∷ b) d s ts all
    ends_stage : {c : Command} {cs : List Command} {p : Pipe} {b : List Below} {d : ℕ} {s t : Draft} {ts mid : List Token} {all : Script} →
        MoreStages d s (p.stages ++ c ∷ []) ts mid cs t → Continues p.items (this_and_or p.before p.leaf) b d (end_leaf p.leaf p.bang cs t) mid all →
        CommandEnds c (below.Pipe p ∷ b) d s ts all

  -- a pipeline has ended
  data Continues : List AndOr → AndOr → List Below → ℕ → Draft → List Token → Script → Type 0 where
    continues : {is js : List AndOr} {a : AndOr} {b : List Below} {d : ℕ} {s t : Draft} {ts mid : List Token} {all : Script} →
        ListRest d s is a ts mid js t → Finishes js b d t mid all → Continues is a b d s ts all

  data ElementsGo : Simple → List Below → ℕ → Draft → List Token → Script → Type 0 where
    elements_go : {c c' : Simple} {b : List Below} {d : ℕ} {s t : Draft} {ts mid : List Token} {all : Script} →
        Elements d s c ts mid c' t → CommandEnds (simple c') b d t mid all → ElementsGo c b d s ts all

  data PartsGo : List Part → List Below → ℕ → Draft → List Token → Script → Type 0 where
    parts_go : {ps qs : List Part} {b : List Below} {d : ℕ} {s t : Draft} {ts mid : List Token} {all : Script} →
        Parts d s ps ts mid qs t → PartsEnd qs b d t mid all → PartsGo ps b d s ts all

  -- the parts are complete
  data PartsEnd : List Part → List Below → ℕ → Draft → List Token → Script → Type 0 where
    end_argument : {ps : List Part} {c : Simple} {b : List Below} {d : ℕ} {s : Draft} {ts : List Token} {all : Script} →
        NotEmpty ps → ElementsGo (with_word ps c) b d s ts all → PartsEnd ps (below.Argument c ∷ b) d s (token.End end.Word mode.Arguments ∷ ts) all
    end_assign : {ps : List Part} {x : List ℕ} {c : Simple} {b : List Below} {d : ℕ} {s : Draft} {ts : List Token} {all : Script} →
        ElementsGo (with_assign x ps c) b d s ts all → PartsEnd ps (below.Assign x c ∷ b) d s (token.End end.Word mode.Prefix ∷ ts) all
    end_redirect : {ps : List Part} {fd : ℕ} {o : RedirOp} {c : Simple} {b : List Below} {d : ℕ} {s : Draft} {ts : List Token} {all : Script} →
        NotEmpty ps → ElementsGo (with_redir (redir fd o ps) c) b d s ts all →
        PartsEnd ps (below.Redirect fd o (host.Simple c) ∷ b) d s (token.End end.Word (mode_before c.words) ∷ ts) all
    end_compound_redirect : {ps : List Part} {fd : ℕ} {o : RedirOp} {x : Compound} {rs : List Redir} {b : List Below} {d : ℕ} {s : Draft} {ts : List Token} {all : Script} →
        NotEmpty ps → RedirsGo x (rs ++ redir fd o ps ∷ []) b d s ts all →
        PartsEnd ps (below.Redirect fd o (host.Compound x rs) ∷ b) d s (token.End end.Word mode.Arguments ∷ ts) all
    end_for_word : {ps : List Part} {x : List ℕ} {ws : List Word} {b : List Below} {d : ℕ} {s : Draft} {ts : List Token} {all : Script} →
        NotEmpty ps → ForGoes x (ws ++ word ps ∷ []) b d s ts all → PartsEnd ps (below.ForWord x ws ∷ b) d s (token.End end.Word mode.Arguments ∷ ts) all
    end_case_word : {ps : List Part} {b : List Below} {d : ℕ} {s : Draft} {ts : List Token} {all : Script} →
        NotEmpty ps → GapGoes (gap.In (word ps)) b d s ts all → PartsEnd ps (below.CaseWord ∷ b) d s (token.End end.Word mode.Command ∷ ts) all
    end_pattern : {ps : List Part} {c : Case} {ws : List Word} {b : List Below} {d : ℕ} {s : Draft} {ts : List Token} {all : Script} →
        NotEmpty ps → PatternsGo c (ws ++ word ps ∷ []) b d s ts all → PartsEnd ps (below.Pattern c ws ∷ b) d s (token.End end.Word mode.Arguments ∷ ts) all
    end_double : {ps qs : List Part} {n : Mode} {b : List Below} {d : ℕ} {s : Draft} {ts : List Token} {all : Script} →
        PartsGo (qs ++ part.Double ps ∷ []) b d s ts all → PartsEnd ps (below.Double qs n ∷ b) d s (token.End end.Quote n ∷ ts) all
    end_braces : {ps qs : List Part} {x : List ℕ} {o : ParamOp} {c : Bool} {n : Mode} {b : List Below} {d : ℕ} {s : Draft} {ts : List Token} {all : Script} →
        PartsGo (qs ++ part.Param x o c (Some (word ps)) ∷ []) b (suc d) s ts all → PartsEnd ps (below.Braces qs x o c n ∷ b) d s (token.End end.Brace n ∷ ts) all
    end_arith : {ps qs : List Part} {n : Mode} {b : List Below} {d : ℕ} {s : Draft} {ts : List Token} {all : Script} →
        PartsGo (qs ++ part.Arith (word ps) ∷ []) b (suc d) s ts all → PartsEnd ps (below.Arith qs n ∷ b) d s (token.End end.Arith n ∷ ts) all
    end_here_body : {ps : List Part} {n : ℕ} {hs : List Due} {k : Gap} {b : List Below} {d : ℕ} {s : Draft} {ts : List Token} {all : Script} →
        DueGo hs k b d (end_here n (part.Double ps) s) ts all →
        PartsEnd ps (below.Body n hs k ∷ b) d s (token.End end.Text (cut_mode (gap_mode k) hs) ∷ ts) all

  -- bodies of here-documents come first
  data DueGo : List Due → Gap → List Below → ℕ → Draft → List Token → Script → Type 0 where
    due_go : {hs : List Due} {k : Gap} {b : List Below} {d : ℕ} {s t : Draft} {ts mid : List Token} {all : Script} →
        Bodies (gap_mode k) hs d s ts mid t → GapGoes k b d t mid all → DueGo hs k b d s ts all

  -- newlines may come first
  data GapGoes : Gap → List Below → ℕ → Draft → List Token → Script → Type 0 where
    gap_goes : {k : Gap} {b : List Below} {d : ℕ} {s t : Draft} {ts mid : List Token} {all : Script} →
        Newlines (gap_mode k) d s ts mid t → GapEnds k b d t mid all → GapGoes k b d s ts all

  data GapEnds : Gap → List Below → ℕ → Draft → List Token → Script → Type 0 where
    begin_ends : {is : List AndOr} {b : List Below} {d : ℕ} {s : Draft} {ts : List Token} {all : Script} →
        Finishes is b d s ts all → GapEnds (gap.Begin is) b d s ts all
    begin_goes : {is : List AndOr} {b : List Below} {d : ℕ} {s : Draft} {ts : List Token} {all : Script} →
        PipelineGoes is None b d s ts all → GapEnds (gap.Begin is) b d s ts all
    join_goes : {is : List AndOr} {a : AndOr} {j : Join} {b : List Below} {d : ℕ} {s : Draft} {ts : List Token} {all : Script} →
        PipelineGoes is (Some (a, j)) b d s ts all → GapEnds (gap.Join is a j) b d s ts all
    stage_goes : {b : List Below} {d : ℕ} {s : Draft} {ts : List Token} {all : Script} → CommandGoes b d s ts all → GapEnds gap.Stage b d s ts all
    function_goes : {f : List ℕ} {x : Compound} {rs : List Redir} {b : List Below} {d : ℕ} {s t u : Draft} {ts mid rest : List Token} {all : Script} →
        OneCompound d (begin_body s) ts mid x t → Redirs d t [] mid rest rs u →
        CommandEnds (command.Function f (next_body s)) b d (end_body (next_body s) (command.Compound x rs) u) rest all → GapEnds (gap.Function f) b d s ts all
    in_goes : {w : Word} {arms : List (List Word × ℕ)} {b : List Below} {d : ℕ} {s t : Draft} {ts mid : List Token} {all : Script} →
        Arms d s [] ts mid arms t → RedirsGo (compound.Case w arms) [] b (suc d) t mid all → GapEnds (gap.In w) b d s (token.Operator op.CaseIn ∷ ts) all
    arms_end : {c : Case} {b : List Below} {d : ℕ} {s : Draft} {ts : List Token} {all : Script} →
        RedirsGo (case c) [] b (suc d) s ts all → GapEnds (gap.Arms c) b d s (token.Operator op.Esac ∷ ts) all
    arms_go : {c : Case} {ws : List Word} {n : ℕ} {b : List Below} {d : ℕ} {s t : Draft} {ts mid : List Token} {all : Script} →
        OneArm d s ts mid ws n t → ArmEnds (with_arm ws n c) b d t mid all → GapEnds (gap.Arms c) b d s ts all
    for_in : {x : List ℕ} {b : List Below} {d : ℕ} {s : Draft} {ts : List Token} {all : Script} →
        ForGoes x [] b d s ts all → GapEnds (gap.For x) b d s (token.Operator op.In ∷ ts) all
    for_do : {x : List ℕ} {b : List Below} {d : ℕ} {s : Draft} {ts : List Token} {all : Script} →
        BodyGoes x None b d s ts all → GapEnds (gap.For x) b d s (token.Operator op.Do ∷ ts) all
    do_goes : {x : List ℕ} {ws : Option (List Word)} {b : List Below} {d : ℕ} {s : Draft} {ts : List Token} {all : Script} →
        BodyGoes x ws b d s ts all → GapEnds (gap.Do x ws) b d s (token.Operator op.Do ∷ ts) all

  -- after the `do` of a `for`
  data BodyGoes : List ℕ → Option (List Word) → List Below → ℕ → Draft → List Token → Script → Type 0 where
    body_goes : {x : List ℕ} {ws : Option (List Word)} {is : List AndOr} {b : List Below} {d : ℕ} {s t : Draft} {ts mid : List Token} {all : Script} →
        InList d (begin_list s) ts (token.Operator op.Done ∷ mid) is t → RedirsGo (compound.For x ws (next_list s)) [] b (suc d) (end_list (next_list s) is t) mid all →
        BodyGoes x ws b d s ts all

  -- after the `in` of a `for`
  data ForGoes : List ℕ → List Word → List Below → ℕ → Draft → List Token → Script → Type 0 where
    for_goes : {x : List ℕ} {ws vs : List Word} {b : List Below} {d : ℕ} {s t u : Draft} {ts mid mid' : List Token} {all : Script} →
        ForWords d s ws ts mid vs t → Separator d t mid (token.Operator op.Do ∷ mid') u → BodyGoes x (Some vs) b d u mid' all → ForGoes x ws b d s ts all

  -- after a pattern
  data PatternsGo : Case → List Word → List Below → ℕ → Draft → List Token → Script → Type 0 where
    patterns_end : {c : Case} {ws : List Word} {is : List AndOr} {b : List Below} {d : ℕ} {s t : Draft} {ts mid : List Token} {all : Script} →
        MayBeList d (begin_list s) ts mid is t → ArmEnds (with_arm ws (next_list s) c) b d (end_list (next_list s) is t) mid all →
        PatternsGo c ws b d s (token.Operator op.Close ∷ ts) all
    patterns_go : {c : Case} {ws vs : List Word} {is : List AndOr} {b : List Below} {d : ℕ} {s t u : Draft} {ts mid mid' : List Token} {all : Script} →
        Patterns d s ws ts (token.Operator op.Close ∷ mid) vs t → MayBeList d (begin_list t) mid mid' is u →
        ArmEnds (with_arm vs (next_list t) c) b d (end_list (next_list t) is u) mid' all → PatternsGo c ws b d s (token.Operator op.PipePattern ∷ ts) all

  data CommandGoes : List Below → ℕ → Draft → List Token → Script → Type 0 where
    command_goes : {c : Command} {b : List Below} {d : ℕ} {s t : Draft} {ts mid : List Token} {all : Script} →
        OneCommand d s ts mid c t → CommandEnds c b d t mid all → CommandGoes b d s ts all

  data PipelineGoes : List AndOr → Option (AndOr × Join) → List Below → ℕ → Draft → List Token → Script → Type 0 where
    pipeline_goes : {is : List AndOr} {before : Option (AndOr × Join)} {b : List Below} {d : ℕ} {s t : Draft} {ts mid : List Token} {all : Script} →
        OnePipeline d s ts mid t → Continues is (this_and_or before (next_leaf s)) b d t mid all → PipelineGoes is before b d s ts all

-- a simple command has one more element
data ElementGoes : Simple → List Below → ℕ → Draft → List Token → Script → Type 0 where
  element_goes : {c c' : Simple} {b : List Below} {d : ℕ} {s t : Draft} {ts mid : List Token} {all : Script} →
      Elements d s c ts mid c' t → HasElement c' → CommandEnds (simple c') b d t mid all → ElementGoes c b d s ts all

-- a compound command begins
data CompoundGoes : List Below → ℕ → Draft → List Token → Script → Type 0 where
  compound_goes : {x : Compound} {b : List Below} {d : ℕ} {s t : Draft} {ts mid : List Token} {all : Script} →
      OneCompound d s ts mid x t → RedirsGo x [] b d t mid all → CompoundGoes b d s ts all

data DelimiterGoes : ℕ → Bool → Host → List Below → ℕ → Draft → List Token → Script → Type 0 where
  simple_here : {fd : ℕ} {strip quoted : Bool} {x : List ℕ} {c : Simple} {b : List Below} {d : ℕ} {s : Draft} {ts : List Token} {all : Script} →
      ElementsGo (with_redir (here_redir fd (next_here s)) c) b d (begin_here x strip quoted s) ts all →
      DelimiterGoes fd strip (host.Simple c) b d s (token.Delimiter x quoted (mode_before c.words) ∷ ts) all
  compound_here : {fd : ℕ} {strip quoted : Bool} {x : List ℕ} {c : Compound} {rs : List Redir} {b : List Below} {d : ℕ} {s : Draft} {ts : List Token} {all : Script} →
      RedirsGo c (rs ++ here_redir fd (next_here s) ∷ []) b d (begin_here x strip quoted s) ts all →
      DelimiterGoes fd strip (host.Compound c rs) b d s (token.Delimiter x quoted mode.Arguments ∷ ts) all

data NamedGoes : List ℕ → List Below → ℕ → Draft → List Token → Script → Type 0 where
  named_goes : {x : List ℕ} {b : List Below} {d : ℕ} {s : Draft} {ts : List Token} {all : Script} →
      GapGoes (gap.Function x) b d s ts all → NamedGoes x b d s (token.Operator op.Close ∷ ts) all

data NameGoes : List ℕ → List Below → ℕ → Draft → List Token → Script → Type 0 where
  name_goes : {x : List ℕ} {b : List Below} {d : ℕ} {s : Draft} {ts : List Token} {all : Script} →
      NamedGoes x b d s ts all → NameGoes x b d s (token.Operator op.Open ∷ ts) all

-- after the name of a `for`
data ForNamedGoes : List ℕ → List Below → ℕ → Draft → List Token → Script → Type 0 where
  named_words : {x : List ℕ} {b : List Below} {d : ℕ} {s t : Draft} {ts mid : List Token} {all : Script} →
      Newlines mode.Command d s ts (token.Operator op.In ∷ mid) t → ForGoes x [] b d t mid all → ForNamedGoes x b d s ts all
  named_do : {x : List ℕ} {b : List Below} {d : ℕ} {s t : Draft} {ts mid : List Token} {all : Script} →
      MaySeparate d s ts (token.Operator op.Do ∷ mid) t → BodyGoes x None b d t mid all → ForNamedGoes x b d s ts all

data ForNameGoes : List ℕ → List Below → ℕ → Draft → List Token → Script → Type 0 where
  for_name_goes : {x : List ℕ} {b : List Below} {d : ℕ} {s : Draft} {ts : List Token} {all : Script} →
      ForNamedGoes x b d s ts all → ForNameGoes x b d s (token.End end.Word mode.Command ∷ ts) all

data ForStarts : List Below → ℕ → Draft → List Token → Script → Type 0 where
  for_starts : {x : List ℕ} {b : List Below} {d : ℕ} {s : Draft} {ts : List Token} {all : Script} →
      is_name x ≡ true → ForNameGoes x b d s ts all → ForStarts b d s (token.Part (bit.Piece x) ∷ ts) all

-- what is still wanted
abbrev Wants : Now → List Below → ℕ → Draft → List Token → Script → Type 0
Wants (now.Gap k) b d s ts all = GapGoes k b d s ts all
Wants (now.Due h hs k) b d s ts all = DueGo (h ∷ hs) k b d s ts all
Wants (now.Parts ps) b d s ts all = PartsGo ps b d s ts all
Wants (now.Elements c) b d s ts all = ElementsGo c b d s ts all
Wants (now.Redirs x rs) b d s ts all = RedirsGo x rs b d s ts all
Wants now.Bang b d s ts all = CommandGoes b d s ts all
Wants (now.Delimiter fd strip h) b d s ts all = DelimiterGoes fd strip h b d s ts all
Wants (now.Name x) b d s ts all = NameGoes x b d s ts all
Wants (now.Named x) b d s ts all = NamedGoes x b d s ts all
Wants now.For b d s ts all = ForStarts b d s ts all
Wants (now.ForName x) b d s ts all = ForNameGoes x b d s ts all
Wants (now.ForNamed x) b d s ts all = ForNamedGoes x b d s ts all
Wants (now.ForWords x ws) b d s ts all = ForGoes x ws b d s ts all
Wants (now.Patterns c ws) b d s ts all = PatternsGo c ws b d s ts all

abbrev WantsAt : State → List Token → Script → Type 0
WantsAt st ts all = Wants st.now st.below st.room st.script ts all

-- the state that was reached wants these tokens
abbrev Says : Option State → List Token → Script → Type 0
Says None ts all = ⊥
Says (Some st) ts all = WantsAt st ts all

any-says : {A : Type 0} (xs : List A) (o : Option State) (ts : List Token) (all : Script) → Says (if_any xs o) ts all → NotEmpty xs × Says o ts all
any-says [] o ts all h = absurd h
any-says (x ∷ xs) o ts all h = (tt, h)

when-says : (b : Bool) (o : Option State) (ts : List Token) (all : Script) → Says (when b o) ts all → (b ≡ true) × Says o ts all
when-says true o ts all h = (refl, h)
when-says false o ts all h = absurd h

-- ---- openings

-- the list inside an opening
data Opened : List Below → ℕ → Draft → List Token → Script → Type 0 where
  opened_empty : {b : List Below} {d : ℕ} {s t : Draft} {ts mid : List Token} {all : Script} →
      Newlines mode.Command d s ts mid t → Finishes [] b d t mid all → Opened b d s ts all
  opened_some : {is : List AndOr} {b : List Below} {d : ℕ} {s t : Draft} {ts mid : List Token} {all : Script} →
      InList d s ts mid is t → Finishes is b d t mid all → Opened b d s ts all

opened-list : {b : List Below} {d : ℕ} {s : Draft} {ts : List Token} {all : Script} → GapGoes (gap.Begin []) b d s ts all → Opened b d s ts all
opened-list (gap_goes n (begin_ends f)) = opened_empty n f
opened-list (gap_goes n (begin_goes (pipeline_goes p (continues r f)))) = opened_some (g.list n p r) f

opened-body : {x : List ℕ} {ws : Option (List Word)} {b : List Below} {d : ℕ} (s : Draft) {ts : List Token} {all : Script} →
    Opened (below.ForDo x ws (next_list s) ∷ b) d (begin_list s) ts all → BodyGoes x ws b d s ts all
opened-body s (opened_empty n (in_for h k)) = absurd h
opened-body s (opened_some l (in_for h k)) = body_goes l k

due-of : (hs : List Due) (k : Gap) (b : List Below) (d : ℕ) (s : Draft) (ts : List Token) (all : Script) → Wants (next_due hs k) b d s ts all → DueGo hs k b d s ts all
due-of [] k b d s ts all h = due_go g.no_body h
due-of (x ∷ hs) k b d s ts all h = h

-- a newline, with the bodies that are due
newline-says : (k : Gap) (b : List Below) (d : ℕ) (s : Draft) (n : Mode) (ts : List Token) (all : Script) → Says (m.newline k b d s n) ts all →
    (cut_mode (gap_mode k) s.due ≡ n) × DueGo s.due k b d (none_due s) ts all
newline-says k b d s n ts all h =
    let q = when-says (same_mode (cut_mode (gap_mode k) s.due) n) _ ts all h in
    (same_mode-is _ n q.0, due-of s.due k b d (none_due s) ts all q.1)

-- ---- parts

redirect-ends : (ps : List Part) (fd : ℕ) (o : RedirOp) (h : Host) (b : List Below) (d : ℕ) (s : Draft) (ts : List Token) (all : Script) → NotEmpty ps →
    Wants (m.redirected (redir fd o ps) h) b d s ts all → PartsEnd ps (below.Redirect fd o h ∷ b) d s (token.End end.Word (host_mode h) ∷ ts) all
redirect-ends ps fd o (host.Simple c) b d s ts all h k = end_redirect h k
redirect-ends ps fd o (host.Compound x rs) b d s ts all h k = end_compound_redirect h k

-- what holds of this token holds of the one that was seen
at-end : (P : Token → Type 0) (e : End) (n : Mode) (t : Token) → is_end e n t ≡ true → P (token.End e n) → P t
at-end P e n t q h = subst P (sym (is_end-is e n t q)) h

at-op : (P : Token → Type 0) (o : Op) (t : Token) → is_op o t ≡ true → P (token.Operator o) → P t
at-op P o t q h = subst P (sym (is_op-is o t q)) h

parts_end-says : (ps : List Part) (f : Below) (b : List Below) (d : ℕ) (s : Draft) (t : Token) (ts : List Token) (all : Script) →
    Says (m.parts_end ps f b d s t) ts all → PartsEnd ps (f ∷ b) d s (t ∷ ts) all
parts_end-says ps (below.Argument c) b d s t ts all h =
    let q = when-says (is_end end.Word mode.Arguments t) _ ts all h in let k = any-says ps _ ts all q.1 in
    at-end (λ x. PartsEnd ps (below.Argument c ∷ b) d s (x ∷ ts) all) end.Word mode.Arguments t q.0 (end_argument k.0 k.1)
parts_end-says ps (below.Assign x c) b d s t ts all h =
    let q = when-says (is_end end.Word mode.Prefix t) _ ts all h in
    at-end (λ y. PartsEnd ps (below.Assign x c ∷ b) d s (y ∷ ts) all) end.Word mode.Prefix t q.0 (end_assign q.1)
parts_end-says ps (below.Redirect fd o r) b d s t ts all h =
    let q = when-says (is_end end.Word (host_mode r) t) _ ts all h in let k = any-says ps _ ts all q.1 in
    at-end (λ x. PartsEnd ps (below.Redirect fd o r ∷ b) d s (x ∷ ts) all) end.Word (host_mode r) t q.0 (redirect-ends ps fd o r b d s ts all k.0 k.1)
parts_end-says ps (below.ForWord x ws) b d s t ts all h =
    let q = when-says (is_end end.Word mode.Arguments t) _ ts all h in let k = any-says ps _ ts all q.1 in
    at-end (λ y. PartsEnd ps (below.ForWord x ws ∷ b) d s (y ∷ ts) all) end.Word mode.Arguments t q.0 (end_for_word k.0 k.1)
parts_end-says ps below.CaseWord b d s t ts all h =
    let q = when-says (is_end end.Word mode.Command t) _ ts all h in let k = any-says ps _ ts all q.1 in
    at-end (λ x. PartsEnd ps (below.CaseWord ∷ b) d s (x ∷ ts) all) end.Word mode.Command t q.0 (end_case_word k.0 k.1)
parts_end-says ps (below.Pattern c ws) b d s t ts all h =
    let q = when-says (is_end end.Word mode.Arguments t) _ ts all h in let k = any-says ps _ ts all q.1 in
    at-end (λ x. PartsEnd ps (below.Pattern c ws ∷ b) d s (x ∷ ts) all) end.Word mode.Arguments t q.0 (end_pattern k.0 k.1)
parts_end-says ps (below.Double qs n) b d s t ts all h =
    let q = when-says (is_end end.Quote n t) _ ts all h in
    at-end (λ x. PartsEnd ps (below.Double qs n ∷ b) d s (x ∷ ts) all) end.Quote n t q.0 (end_double q.1)
parts_end-says ps (below.Braces qs x o c n) b d s t ts all h =
    let q = when-says (is_end end.Brace n t) _ ts all h in
    at-end (λ y. PartsEnd ps (below.Braces qs x o c n ∷ b) d s (y ∷ ts) all) end.Brace n t q.0 (end_braces q.1)
parts_end-says ps (below.Arith qs n) b d s t ts all h =
    let q = when-says (is_end end.Arith n t) _ ts all h in
    at-end (λ x. PartsEnd ps (below.Arith qs n ∷ b) d s (x ∷ ts) all) end.Arith n t q.0 (end_arith q.1)
parts_end-says ps (below.Body n hs k) b d s t ts all h =
    let q = when-says (is_end end.Text (cut_mode (gap_mode k) hs) t) _ ts all h in
    at-end (λ x. PartsEnd ps (below.Body n hs k ∷ b) d s (x ∷ ts) all) end.Text (cut_mode (gap_mode k) hs) t q.0
    (end_here_body (due-of hs k b d (end_here n (part.Double ps) s) ts all q.1))
parts_end-says ps f b d s t ts all h = absurd h

parts_ended-says : (ps : List Part) (b : List Below) (d : ℕ) (s : Draft) (t : Token) (ts : List Token) (all : Script) →
    Says (m.parts_ended ps b d s t) ts all → PartsEnd ps b d s (t ∷ ts) all
parts_ended-says ps [] d s t ts all h = absurd h
parts_ended-says ps (f ∷ b) d s t ts all h = parts_end-says ps f b d s t ts all h

double-opens : {ps : List Part} {n : Mode} {b : List Below} {d : ℕ} {s : Draft} {ts : List Token} {all : Script} →
    PartsGo [] (below.Double ps n ∷ b) d s ts all → PartsGo ps b d s (token.Open opener.Double n ∷ ts) all
double-opens (parts_go p (end_double (parts_go r e))) = parts_go (g.double p r) e

braces-open : {ps : List Part} {x : List ℕ} {o : ParamOp} {c q : Bool} {n : Mode} {b : List Below} {d : ℕ} {s : Draft} {ts : List Token} {all : Script} →
    PartsGo [] (below.Braces ps x o c n ∷ b) d s ts all → PartsGo ps b (suc d) s (token.Open (opener.Braces x o c q) n ∷ ts) all
braces-open (parts_go p (end_braces (parts_go r e))) = parts_go (g.braces p r) e

arith-opens : {ps : List Part} {n : Mode} {b : List Below} {d : ℕ} {s : Draft} {ts : List Token} {all : Script} →
    PartsGo [] (below.Arith ps n ∷ b) d s ts all → PartsGo ps b (suc d) s (token.Open opener.Arith n ∷ ts) all
arith-opens (parts_go p (end_arith (parts_go r e))) = parts_go (g.arith p r) e

substitution-opens : {ps : List Part} {n : Mode} {b : List Below} {d : ℕ} (s : Draft) {ts : List Token} {all : Script} →
    Opened (below.Command ps n (next_list s) ∷ b) d (begin_list s) ts all → PartsGo ps b (suc d) s (token.Open opener.Command n ∷ ts) all
substitution-opens s (opened_empty l (in_substitution (parts_go r e))) = parts_go (g.substitution (g.empty l) r) e
substitution-opens s (opened_some l (in_substitution (parts_go r e))) = parts_go (g.substitution (g.some l) r) e

backquotes-open : {ps : List Part} {n : Mode} {b : List Below} {d : ℕ} (s : Draft) {ts : List Token} {all : Script} →
    Opened (below.Backquote ps n (next_list s) ∷ b) d (begin_list s) ts all → PartsGo ps b (suc d) s (token.Open opener.Backquote n ∷ ts) all
backquotes-open s (opened_empty l (in_backquotes (parts_go r e))) = parts_go (g.backquotes (g.empty l) r) e
backquotes-open s (opened_some l (in_backquotes (parts_go r e))) = parts_go (g.backquotes (g.some l) r) e

open_part-says : (ps : List Part) (b : List Below) (d : ℕ) (s : Draft) (n : Mode) (o : Opener) (ts : List Token) (all : Script) →
    Says (m.open_part ps b d s n o) ts all → PartsGo ps b d s (token.Open o n ∷ ts) all
open_part-says ps b d s n opener.Double ts all h = double-opens h
open_part-says ps b zero s n (opener.Braces x o c q) ts all h = absurd h
open_part-says ps b (suc d) s n (opener.Braces x o c q) ts all h = braces-open h
open_part-says ps b zero s n opener.Command ts all h = absurd h
open_part-says ps b (suc d) s n opener.Command ts all h = substitution-opens s (opened-list h)
open_part-says ps b zero s n opener.Arith ts all h = absurd h
open_part-says ps b (suc d) s n opener.Arith ts all h = arith-opens h
open_part-says ps b zero s n opener.Backquote ts all h = absurd h
open_part-says ps b (suc d) s n opener.Backquote ts all h = backquotes-open s (opened-list h)

bit-goes : {ps : List Part} {x : Bit} {b : List Below} {d : ℕ} {s : Draft} {ts : List Token} {all : Script} →
    PartsGo (ps ++ g.part_of x ∷ []) b d s ts all → PartsGo ps b d s (token.Part x ∷ ts) all
bit-goes (parts_go r e) = parts_go (g.one_bit r) e

param-goes : {ps : List Part} {x : List ℕ} {l : Bool} {b : List Below} {d : ℕ} {s : Draft} {ts : List Token} {all : Script} →
    PartsGo (ps ++ g.param_of x l ∷ []) b (suc d) s ts all → PartsGo ps b (suc d) s (token.Param x l ∷ ts) all
param-goes (parts_go r e) = parts_go (g.param r) e

parts-says : (ps : List Part) (b : List Below) (d : ℕ) (s : Draft) (t : Token) (ts : List Token) (all : Script) →
    Says (m.parts ps b d s t) ts all → PartsGo ps b d s (t ∷ ts) all
parts-says ps b d s (token.Part x) ts all h = bit-goes h
parts-says ps b zero s (token.Param x l) ts all h = absurd h
parts-says ps b (suc d) s (token.Param x l) ts all h = param-goes h
parts-says ps b d s (token.Open o n) ts all h = open_part-says ps b d s n o ts all h
parts-says ps b d s (token.End e n) ts all h = parts_go g.parts_end (parts_ended-says ps b d s (token.End e n) ts all h)
parts-says ps b d s t ts all h = absurd h

-- ---- lists that end

-- the list after `then`
then-opens : {is : List AndOr} {bs : List (ℕ × ℕ)} {n : ℕ} {b : List Below} {d : ℕ} (s : Draft) {ts : List Token} {all : Script} → NotEmpty is →
    Opened (below.Then bs n (next_list s) ∷ b) d (begin_list (end_list n is s)) ts all → Finishes is (below.Test bs n ∷ b) d s (token.Operator op.Then ∷ ts) all
then-opens s h (opened_empty l (in_then k r e)) = absurd k
then-opens s h (opened_some l (in_then k r e)) = in_test h l r e

while-opens : {is : List AndOr} {until : Bool} {n : ℕ} {b : List Below} {d : ℕ} (s : Draft) {ts : List Token} {all : Script} → NotEmpty is →
    Opened (below.WhileDo until n (next_list s) ∷ b) d (begin_list (end_list n is s)) ts all → Finishes is (below.While until n ∷ b) d s (token.Operator op.Do ∷ ts) all
while-opens s h (opened_empty l (in_while_do k e)) = absurd k
while-opens s h (opened_some l (in_while_do k e)) = in_while h l e

elif-opens : {is : List AndOr} {bs : List (ℕ × ℕ)} {n k : ℕ} {b : List Below} {d : ℕ} (s : Draft) {ts : List Token} {all : Script} → NotEmpty is →
    Opened (below.Test (bs ++ (n, k) ∷ []) (next_list (end_list k is s)) ∷ b) d (begin_list (end_list k is s)) ts all →
    Finishes is (below.Then bs n k ∷ b) d s (token.Operator op.Elif ∷ ts) all
elif-opens s h (opened_empty l (in_test q j r e)) = absurd q
elif-opens s h (opened_some l (in_test q j r e)) = in_then h (g.elif (g.branch l j r)) e

else-opens : {is : List AndOr} {bs : List (ℕ × ℕ)} {n k : ℕ} {b : List Below} {d : ℕ} (s : Draft) {ts : List Token} {all : Script} → NotEmpty is →
    Opened (below.Else (bs ++ (n, k) ∷ []) (next_list (end_list k is s)) ∷ b) d (begin_list (end_list k is s)) ts all →
    Finishes is (below.Then bs n k ∷ b) d s (token.Operator op.Else ∷ ts) all
else-opens s h (opened_empty l (in_else q e)) = absurd q
else-opens s h (opened_some l (in_else q e)) = in_then h (g.otherwise l) e

branch-says : (is : List AndOr) (bs : List (ℕ × ℕ)) (n k : ℕ) (b : List Below) (d : ℕ) (s : Draft) (o : Op) (ts : List Token) (all : Script) → NotEmpty is →
    Says (m.after_branch (bs ++ (n, k) ∷ []) b d (end_list k is s) o) ts all → Finishes is (below.Then bs n k ∷ b) d s (token.Operator o ∷ ts) all
branch-says is bs n k b d s op.Fi ts all h e = in_then h g.fi e
branch-says is bs n k b d s op.Elif ts all h e = elif-opens s h (opened-list e)
branch-says is bs n k b d s op.Else ts all h e = else-opens s h (opened-list e)
branch-says is bs n k b d s o ts all h e = absurd e

then-says : (is : List AndOr) (bs : List (ℕ × ℕ)) (n k : ℕ) (b : List Below) (d : ℕ) (s : Draft) (t : Token) (ts : List Token) (all : Script) → NotEmpty is →
    Says (m.on_op (m.after_branch (bs ++ (n, k) ∷ []) b d (end_list k is s)) t) ts all → Finishes is (below.Then bs n k ∷ b) d s (t ∷ ts) all
then-says is bs n k b d s (token.Operator o) ts all h e = branch-says is bs n k b d s o ts all h e
then-says is bs n k b d s t ts all h e = absurd e

-- before the next arm
arms-go : {c : Case} {b : List Below} {d : ℕ} {s : Draft} {ts : List Token} {all : Script} → GapGoes (gap.Arms c) b d s ts all →
    ArmEnds c b d s (token.Operator op.DoubleSemi ∷ ts) all
arms-go (gap_goes n (arms_end e)) = arm_semis (g.no_arm n) e
arms-go (gap_goes n (arms_go a (arm_esac e))) = arm_semis (g.last_arm n a) e
arms-go (gap_goes n (arms_go a (arm_semis r e))) = arm_semis (g.more_arms n a r) e

after_arm-says : (c : Case) (b : List Below) (d : ℕ) (s : Draft) (o : Op) (ts : List Token) (all : Script) →
    Says (m.after_arm c b d s o) ts all → ArmEnds c b d s (token.Operator o ∷ ts) all
after_arm-says c b d s op.Esac ts all h = arm_esac h
after_arm-says c b d s op.DoubleSemi ts all h = arms-go h
after_arm-says c b d s o ts all h = absurd h

arm-says : (c : Case) (b : List Below) (d : ℕ) (s : Draft) (t : Token) (ts : List Token) (all : Script) →
    Says (m.on_op (m.after_arm c b d s) t) ts all → ArmEnds c b d s (t ∷ ts) all
arm-says c b d s (token.Operator o) ts all h = after_arm-says c b d s o ts all h
arm-says c b d s t ts all h = absurd h

list_end-says : (is : List AndOr) (f : Below) (b : List Below) (d : ℕ) (s : Draft) (t : Token) (ts : List Token) (all : Script) →
    Says (m.list_end is f b d s t) ts all → Finishes is (f ∷ b) d s (t ∷ ts) all
list_end-says is (below.Group n) b d s t ts all h =
    let q = when-says (is_op op.RightBrace t) _ ts all h in let k = any-says is _ ts all q.1 in
    at-op (λ x. Finishes is (below.Group n ∷ b) d s (x ∷ ts) all) op.RightBrace t q.0 (in_group k.0 k.1)
list_end-says is (below.Subshell n) b d s t ts all h =
    let q = when-says (is_op op.Close t) _ ts all h in let k = any-says is _ ts all q.1 in
    at-op (λ x. Finishes is (below.Subshell n ∷ b) d s (x ∷ ts) all) op.Close t q.0 (in_subshell k.0 k.1)
list_end-says is (below.Test bs n) b d s t ts all h =
    let q = when-says (is_op op.Then t) _ ts all h in let k = any-says is _ ts all q.1 in
    at-op (λ x. Finishes is (below.Test bs n ∷ b) d s (x ∷ ts) all) op.Then t q.0 (then-opens s k.0 (opened-list k.1))
list_end-says is (below.Then bs n l) b d s t ts all h = let k = any-says is _ ts all h in then-says is bs n l b d s t ts all k.0 k.1
list_end-says is (below.Else bs n) b d s t ts all h =
    let q = when-says (is_op op.Fi t) _ ts all h in let k = any-says is _ ts all q.1 in
    at-op (λ x. Finishes is (below.Else bs n ∷ b) d s (x ∷ ts) all) op.Fi t q.0 (in_else k.0 k.1)
list_end-says is (below.While u n) b d s t ts all h =
    let q = when-says (is_op op.Do t) _ ts all h in let k = any-says is _ ts all q.1 in
    at-op (λ x. Finishes is (below.While u n ∷ b) d s (x ∷ ts) all) op.Do t q.0 (while-opens s k.0 (opened-list k.1))
list_end-says is (below.WhileDo u n l) b d s t ts all h =
    let q = when-says (is_op op.Done t) _ ts all h in let k = any-says is _ ts all q.1 in
    at-op (λ x. Finishes is (below.WhileDo u n l ∷ b) d s (x ∷ ts) all) op.Done t q.0 (in_while_do k.0 k.1)
list_end-says is (below.ForDo y ws n) b d s t ts all h =
    let q = when-says (is_op op.Done t) _ ts all h in let k = any-says is _ ts all q.1 in
    at-op (λ x. Finishes is (below.ForDo y ws n ∷ b) d s (x ∷ ts) all) op.Done t q.0 (in_for k.0 k.1)
list_end-says is (below.Arm c ws n) b d s t ts all h = in_arm (arm-says (with_arm ws n c) b d (end_list n is s) t ts all h)
list_end-says is (below.Command ps n l) b d s t ts all h =
    let q = when-says (is_end end.List n t) _ ts all h in
    at-end (λ x. Finishes is (below.Command ps n l ∷ b) d s (x ∷ ts) all) end.List n t q.0 (in_substitution q.1)
list_end-says is (below.Backquote ps n l) b d s t ts all h =
    let q = when-says (is_end end.Text n t) _ ts all h in
    at-end (λ x. Finishes is (below.Backquote ps n l ∷ b) d s (x ∷ ts) all) end.Text n t q.0 (in_backquotes q.1)
list_end-says is f b d s t ts all h = absurd h

list_ended-says : (is : List AndOr) (b : List Below) (d : ℕ) (s : Draft) (t : Token) (ts : List Token) (all : Script) →
    Says (list_ended is b d s t) ts all → Finishes is b d s (t ∷ ts) all
list_ended-says is [] d s t ts all h = absurd h
list_ended-says is (f ∷ b) d s t ts all h = list_end-says is f b d s t ts all h

-- ---- after a pipeline

join-goes : {is : List AndOr} {a : AndOr} {b : List Below} {d : ℕ} {s : Draft} {ts : List Token} {all : Script} (j : Join) →
    GapGoes (gap.Join is a j) b d s ts all → Continues is a b d s (token.Operator (join_op j) ∷ ts) all
join-goes j (gap_goes n (join_goes (pipeline_goes p (continues r f)))) = continues (g.joins j n p r) f

semi-goes : {is : List AndOr} {a : AndOr} {b : List Below} {d : ℕ} {s : Draft} {ts : List Token} {all : Script} →
    GapGoes (gap.Begin (is ++ a ∷ [])) b d s ts all → Continues is a b d s (token.Operator op.Semi ∷ ts) all
semi-goes (gap_goes n (begin_ends f)) = continues (g.list_separator (g.semi n)) f
semi-goes (gap_goes n (begin_goes (pipeline_goes p (continues r f)))) = continues (g.next_more (g.semi n) p r) f

newline-goes : {is : List AndOr} {a : AndOr} {b : List Below} {d : ℕ} {s : Draft} {ts : List Token} {all : Script} →
    DueGo s.due (gap.Begin (is ++ a ∷ [])) b d (none_due s) ts all → Continues is a b d s (token.End end.Newline (cut_mode mode.Command s.due) ∷ ts) all
newline-goes (due_go h (gap_goes n (begin_ends f))) = continues (g.list_separator (g.newline h n)) f
newline-goes (due_go h (gap_goes n (begin_goes (pipeline_goes p (continues r f))))) = continues (g.next_more (g.newline h n) p r) f

and_or_op-says : (is : List AndOr) (a : AndOr) (b : List Below) (d : ℕ) (s : Draft) (o : Op) (ts : List Token) (all : Script) →
    Says (m.and_or_op is a b d s o) ts all → Continues is a b d s (token.Operator o ∷ ts) all
and_or_op-says is a b d s op.AndIf ts all h = join-goes join.And h
and_or_op-says is a b d s op.OrIf ts all h = join-goes join.Or h
and_or_op-says is a b d s op.Semi ts all h = semi-goes h
and_or_op-says is a b d s o ts all h = continues g.list_end (list_ended-says (is ++ a ∷ []) b d s (token.Operator o) ts all h)

and_or_newline-says : (is : List AndOr) (a : AndOr) (b : List Below) (d : ℕ) (s : Draft) (n : Mode) (ts : List Token) (all : Script) →
    Says (m.newline (gap.Begin (is ++ a ∷ [])) b d s n) ts all → Continues is a b d s (token.End end.Newline n ∷ ts) all
and_or_newline-says is a b d s n ts all h =
    let q = newline-says (gap.Begin (is ++ a ∷ [])) b d s n ts all h in
    subst (λ x. Continues is a b d s (token.End end.Newline x ∷ ts) all) q.0 (newline-goes q.1)

and_or_end-says : (is : List AndOr) (a : AndOr) (b : List Below) (d : ℕ) (s : Draft) (n : Mode) (e : End) (ts : List Token) (all : Script) →
    Says (m.and_or_end is a b d s n e) ts all → Continues is a b d s (token.End e n ∷ ts) all
and_or_end-says is a b d s n end.Newline ts all h = and_or_newline-says is a b d s n ts all h
and_or_end-says is a b d s n e ts all h = continues g.list_end (list_ended-says (is ++ a ∷ []) b d s (token.End e n) ts all h)

after-says : (is : List AndOr) (a : AndOr) (b : List Below) (d : ℕ) (s : Draft) (t : Token) (ts : List Token) (all : Script) →
    Says (m.after is a b d s t) ts all → Continues is a b d s (t ∷ ts) all
after-says is a b d s (token.Operator o) ts all h = and_or_op-says is a b d s o ts all h
after-says is a b d s (token.End e n) ts all h = and_or_end-says is a b d s n e ts all h
after-says is a b d s t ts all h = absurd h

-- ---- after a command

pipe-goes : {c : Command} {p : Pipe} {b : List Below} {d : ℕ} {s : Draft} {ts : List Token} {all : Script} →
    GapGoes gap.Stage (below.Pipe (m.with_stage c p) ∷ b) d s ts all → CommandEnds c (below.Pipe p ∷ b) d s (token.Operator op.Pipe ∷ ts) all
pipe-goes (gap_goes n (stage_goes (command_goes c (ends_stage r k)))) = ends_stage (g.pipe n (g.one_stage c r)) k

piped_op-says : (c : Command) (p : Pipe) (b : List Below) (d : ℕ) (s : Draft) (o : Op) (ts : List Token) (all : Script) →
    Says (m.piped_op (m.with_stage c p) b d s o) ts all → CommandEnds c (below.Pipe p ∷ b) d s (token.Operator o ∷ ts) all
piped_op-says c p b d s op.Pipe ts all h = pipe-goes h
piped_op-says c p b d s o ts all h = ends_stage g.last_stage (after-says p.items (this_and_or p.before p.leaf) b d (end_leaf p.leaf p.bang (p.stages ++ c ∷ []) s) (token.Operator o) ts all h)

piped-says : (c : Command) (p : Pipe) (b : List Below) (d : ℕ) (s : Draft) (t : Token) (ts : List Token) (all : Script) →
    Says (m.piped (m.with_stage c p) b d s t) ts all → CommandEnds c (below.Pipe p ∷ b) d s (t ∷ ts) all
piped-says c p b d s (token.Operator o) ts all h = piped_op-says c p b d s o ts all h
piped-says c p b d s t ts all h = ends_stage g.last_stage (after-says p.items (this_and_or p.before p.leaf) b d (end_leaf p.leaf p.bang (p.stages ++ c ∷ []) s) t ts all h)

command_ended-says : (c : Command) (b : List Below) (d : ℕ) (s : Draft) (t : Token) (ts : List Token) (all : Script) →
    Says (command_ended c b d s t) ts all → CommandEnds c b d s (t ∷ ts) all
command_ended-says c [] d s t ts all h = absurd h
command_ended-says c (below.Function x n ∷ b) d s t ts all h = ends_function (command_ended-says (command.Function x n) b d (end_body n c s) t ts all h)
command_ended-says c (below.Pipe p ∷ b) d s t ts all h = piped-says c p b d s t ts all h
command_ended-says c (f ∷ b) d s t ts all h = absurd h

-- ---- simple commands

OneRedir-kept : {c : Simple} (r : Redir) → HasElement c → HasElement (with_redir r c)
OneRedir-kept {c} r h = g.has_redir (some-append c.redirs r)

Elements-has : {d : ℕ} {s s' : Draft} {c c' : Simple} {ts rest : List Token} → Elements d s c ts rest c' s' → HasElement c → HasElement c'
Elements-has g.no_element h = h
Elements-has (g.assign {c = c} {x = x} {ps = ps} p r) h = Elements-has r (g.has_assign (some-append c.assigns (x, word ps)))
Elements-has (g.argument {c = c} {ps = ps} p k r) h = Elements-has r (g.has_word (some-append c.words (word ps)))
Elements-has (g.redirection {c = c} {r = x} o r) h = Elements-has r (g.has_redir (some-append c.redirs x))

argument-goes : {c : Simple} {b : List Below} {d : ℕ} {s : Draft} {ts : List Token} {all : Script} → PartsGo [] (below.Argument c ∷ b) d s ts all → ElementGoes c b d s ts all
argument-goes {c} (parts_go {qs = qs} p (end_argument h (elements_go r k))) = element_goes (g.argument p h r) (Elements-has r (g.has_word (some-append c.words (word qs)))) k

assign-goes : {c : Simple} {x : List ℕ} {b : List Below} {d : ℕ} {s : Draft} {ts : List Token} {all : Script} →
    PartsGo [] (below.Assign x c ∷ b) d s ts all → ElementGoes c b d s (token.Assign x ∷ ts) all
assign-goes {c} {x} (parts_go {qs = qs} p (end_assign (elements_go r k))) = element_goes (g.assign p r) (Elements-has r (g.has_assign (some-append c.assigns (x, word qs)))) k

redirect-goes : {c : Simple} {fd : ℕ} {o : RedirOp} {b : List Below} {d : ℕ} {s : Draft} {ts : List Token} {all : Script} →
    PartsGo [] (below.Redirect fd o (host.Simple c) ∷ b) d s ts all → ElementGoes c b d s (token.Redirect fd o ∷ ts) all
redirect-goes {c} {fd} {o} (parts_go {qs = qs} p (end_redirect h (elements_go r k))) =
    element_goes (g.redirection (g.file p h) r) (Elements-has r (g.has_redir (some-append c.redirs (redir fd o qs)))) k

here-goes : {c : Simple} {fd : ℕ} {strip : Bool} {b : List Below} {d : ℕ} {s : Draft} {ts : List Token} {all : Script} →
    DelimiterGoes fd strip (host.Simple c) b d s ts all → ElementGoes c b d s (token.Here fd strip ∷ ts) all
here-goes {c} {fd} {s = s} (simple_here (elements_go r k)) =
    element_goes (g.redirection g.here r) (Elements-has r (g.has_redir (some-append c.redirs (here_redir fd (next_here s))))) k

element-says : (c : Simple) (b : List Below) (d : ℕ) (s : Draft) (t : Token) (ts : List Token) (all : Script) →
    Says (m.element c b d s t) ts all → ElementGoes c b d s (t ∷ ts) all
element-says c b d s (token.Assign x) ts all h = assign-goes h
element-says c b d s (token.Redirect fd o) ts all h = redirect-goes h
element-says c b d s (token.Here fd strip) ts all h = here-goes h
element-says c b d s t ts all h = argument-goes (parts-says [] (below.Argument c ∷ b) d s t ts all h)

element-elements : {c : Simple} {b : List Below} {d : ℕ} {s : Draft} {ts : List Token} {all : Script} → ElementGoes c b d s ts all → ElementsGo c b d s ts all
element-elements (element_goes r h k) = elements_go r k

elements-says : (c : Simple) (b : List Below) (d : ℕ) (s : Draft) (t : Token) (ts : List Token) (all : Script) →
    Says (m.elements c b d s t) ts all → ElementsGo c b d s (t ∷ ts) all
elements-says c b d s (token.Operator o) ts all h = elements_go g.no_element (command_ended-says (simple c) b d s (token.Operator o) ts all h)
elements-says c b d s (token.End e n) ts all h = elements_go g.no_element (command_ended-says (simple c) b d s (token.End e n) ts all h)
elements-says c b d s t ts all h = element-elements (element-says c b d s t ts all h)

-- ---- redirections of a compound command

compound_redirect-goes : {x : Compound} {rs : List Redir} {fd : ℕ} {o : RedirOp} {b : List Below} {d : ℕ} {s : Draft} {ts : List Token} {all : Script} →
    PartsGo [] (below.Redirect fd o (host.Compound x rs) ∷ b) d s ts all → RedirsGo x rs b d s (token.Redirect fd o ∷ ts) all
compound_redirect-goes (parts_go p (end_compound_redirect h (redirs_go r k))) = redirs_go (g.one_redir (g.file p h) r) k

compound_here-goes : {x : Compound} {rs : List Redir} {fd : ℕ} {strip : Bool} {b : List Below} {d : ℕ} {s : Draft} {ts : List Token} {all : Script} →
    DelimiterGoes fd strip (host.Compound x rs) b d s ts all → RedirsGo x rs b d s (token.Here fd strip ∷ ts) all
compound_here-goes (compound_here (redirs_go r k)) = redirs_go (g.one_redir g.here r) k

redirs-says : (x : Compound) (rs : List Redir) (b : List Below) (d : ℕ) (s : Draft) (t : Token) (ts : List Token) (all : Script) →
    Says (m.redirs x rs b d s t) ts all → RedirsGo x rs b d s (t ∷ ts) all
redirs-says x rs b d s (token.Redirect fd o) ts all h = compound_redirect-goes h
redirs-says x rs b d s (token.Here fd strip) ts all h = compound_here-goes h
redirs-says x rs b d s t ts all h = redirs_go g.no_redir (command_ended-says (command.Compound x rs) b d s t ts all h)

delimited : (fd : ℕ) (strip quoted : Bool) (x : List ℕ) (h : Host) (b : List Below) (d : ℕ) (s : Draft) (ts : List Token) (all : Script) →
    Wants (m.redirected (here_redir fd (next_here s)) h) b d (begin_here x strip quoted s) ts all → DelimiterGoes fd strip h b d s (token.Delimiter x quoted (host_mode h) ∷ ts) all
delimited fd strip quoted x (host.Simple c) b d s ts all k = simple_here k
delimited fd strip quoted x (host.Compound c rs) b d s ts all k = compound_here k

delimiter-says : (fd : ℕ) (strip : Bool) (h : Host) (b : List Below) (d : ℕ) (s : Draft) (t : Token) (ts : List Token) (all : Script) →
    Says (m.delimiter fd strip h b d s t) ts all → DelimiterGoes fd strip h b d s (t ∷ ts) all
delimiter-says fd strip h b d s (token.Delimiter x quoted n) ts all k =
    let q = when-says (same_mode (host_mode h) n) _ ts all k in
    subst (λ y. DelimiterGoes fd strip h b d s (token.Delimiter x quoted y ∷ ts) all) (same_mode-is _ n q.0) (delimited fd strip quoted x h b d s ts all q.1)
delimiter-says fd strip h b d s t ts all k = absurd k

-- ---- compound commands

group-opens : {b : List Below} {d : ℕ} (s : Draft) {ts : List Token} {all : Script} → Opened (below.Group (next_list s) ∷ b) d (begin_list s) ts all →
    CompoundGoes b (suc d) s (token.Operator op.LeftBrace ∷ ts) all
group-opens s (opened_empty n (in_group h k)) = absurd h
group-opens s (opened_some l (in_group h k)) = compound_goes (g.group l) k

subshell-opens : {b : List Below} {d : ℕ} (s : Draft) {ts : List Token} {all : Script} → Opened (below.Subshell (next_list s) ∷ b) d (begin_list s) ts all →
    CompoundGoes b (suc d) s (token.Operator op.Open ∷ ts) all
subshell-opens s (opened_empty n (in_subshell h k)) = absurd h
subshell-opens s (opened_some l (in_subshell h k)) = compound_goes (g.subshell l) k

if-opens : {b : List Below} {d : ℕ} (s : Draft) {ts : List Token} {all : Script} → Opened (below.Test [] (next_list s) ∷ b) d (begin_list s) ts all →
    CompoundGoes b (suc d) s (token.Operator op.If ∷ ts) all
if-opens s (opened_empty n (in_test h l r k)) = absurd h
if-opens s (opened_some l (in_test h j r k)) = compound_goes (g.if_command (g.branch l j r)) k

loop-opens : (until : Bool) {b : List Below} {d : ℕ} (s : Draft) {ts : List Token} {all : Script} → Opened (below.While until (next_list s) ∷ b) d (begin_list s) ts all →
    CompoundGoes b (suc d) s (token.Operator (loop_op until) ∷ ts) all
loop-opens until s (opened_empty n (in_while h l k)) = absurd h
loop-opens until s (opened_some l (in_while h j k)) = compound_goes (g.loop l j) k

for-opens : {b : List Below} {d : ℕ} {s : Draft} {ts : List Token} {all : Script} → ForStarts b d s ts all → CompoundGoes b (suc d) s (token.Operator op.For ∷ ts) all
for-opens (for_starts e (for_name_goes (named_words n (for_goes w p (body_goes l k))))) = compound_goes (g.for_words e n w p l) k
for-opens (for_starts e (for_name_goes (named_do p (body_goes l k)))) = compound_goes (g.for_parameters e p l) k

case-opens : {b : List Below} {d : ℕ} {s : Draft} {ts : List Token} {all : Script} → PartsGo [] (below.CaseWord ∷ b) d s ts all →
    CompoundGoes b (suc d) s (token.Operator op.Case ∷ ts) all
case-opens (parts_go p (end_case_word h (gap_goes n (in_goes r k)))) = compound_goes (g.case_command p h n r) k

open_compound-says : (b : List Below) (d : ℕ) (s : Draft) (o : Op) (ts : List Token) (all : Script) →
    Says (m.open_compound b d s o) ts all → CompoundGoes b d s (token.Operator o ∷ ts) all
open_compound-says b zero s op.LeftBrace ts all h = absurd h
open_compound-says b (suc d) s op.LeftBrace ts all h = group-opens s (opened-list h)
open_compound-says b zero s op.Open ts all h = absurd h
open_compound-says b (suc d) s op.Open ts all h = subshell-opens s (opened-list h)
open_compound-says b zero s op.If ts all h = absurd h
open_compound-says b (suc d) s op.If ts all h = if-opens s (opened-list h)
open_compound-says b zero s op.While ts all h = absurd h
open_compound-says b (suc d) s op.While ts all h = loop-opens false s (opened-list h)
open_compound-says b zero s op.Until ts all h = absurd h
open_compound-says b (suc d) s op.Until ts all h = loop-opens true s (opened-list h)
open_compound-says b zero s op.For ts all h = absurd h
open_compound-says b (suc d) s op.For ts all h = for-opens h
open_compound-says b zero s op.Case ts all h = absurd h
open_compound-says b (suc d) s op.Case ts all h = case-opens h
open_compound-says b d s o ts all h = absurd h

-- ---- commands and pipelines

compound-command : {b : List Below} {d : ℕ} {s : Draft} {ts : List Token} {all : Script} → CompoundGoes b d s ts all → CommandGoes b d s ts all
compound-command (compound_goes x (redirs_go r k)) = command_goes (g.compound_command x r) k

function-command : {f : List ℕ} {b : List Below} {d : ℕ} {s : Draft} {ts : List Token} {all : Script} → NameGoes f b d s ts all → CommandGoes b d s (token.Function f ∷ ts) all
function-command (name_goes (named_goes (gap_goes n (function_goes x r k)))) = command_goes (g.function n x r) k

named-says : (f : List ℕ) (b : List Below) (d : ℕ) (s : Draft) (ts : List Token) (all : Script) →
    Says (m.opened d (λ r. at (now.Name f) b (suc r) s)) ts all → CommandGoes b d s (token.Function f ∷ ts) all
named-says f b zero s ts all h = absurd h
named-says f b (suc d) s ts all h = function-command h

simple-command : {b : List Below} {d : ℕ} {s : Draft} {ts : List Token} {all : Script} → ElementGoes no_simple b d s ts all → CommandGoes b d s ts all
simple-command (element_goes r h k) = command_goes (g.simple_command r h) k

one_command-says : (b : List Below) (d : ℕ) (s : Draft) (t : Token) (ts : List Token) (all : Script) →
    Says (m.one_command b d s t) ts all → CommandGoes b d s (t ∷ ts) all
one_command-says b d s (token.Operator o) ts all h = compound-command (open_compound-says b d s o ts all h)
one_command-says b d s (token.Function x) ts all h = named-says x b d s ts all h
one_command-says b d s t ts all h = simple-command (element-says no_simple b d s t ts all h)

plain-goes : {is : List AndOr} {before : Option (AndOr × Join)} {b : List Below} {d : ℕ} (s : Draft) {ts : List Token} {all : Script} →
    CommandGoes (below.Pipe (pipe is before false s) ∷ b) d (begin_leaf false s) ts all → PipelineGoes is before b d s ts all
plain-goes s (command_goes c (ends_stage r k)) = pipeline_goes (g.pipeline (g.one_stage c r)) k

bang-goes : {is : List AndOr} {before : Option (AndOr × Join)} {b : List Below} {d : ℕ} (s : Draft) {ts : List Token} {all : Script} →
    CommandGoes (below.Pipe (pipe is before true s) ∷ b) d (begin_leaf true s) ts all → PipelineGoes is before b d s (token.Operator op.Bang ∷ ts) all
bang-goes s (command_goes c (ends_stage r k)) = pipeline_goes (g.bang_pipeline (g.one_stage c r)) k

plain_pipeline-says : (is : List AndOr) (before : Option (AndOr × Join)) (b : List Below) (d : ℕ) (s : Draft) (t : Token) (ts : List Token) (all : Script) →
    Says (m.plain_pipeline is before b d s t) ts all → PipelineGoes is before b d s (t ∷ ts) all
plain_pipeline-says is before b d s t ts all h = plain-goes s (one_command-says (below.Pipe (pipe is before false s) ∷ b) d (begin_leaf false s) t ts all h)

pipeline_op-says : (is : List AndOr) (before : Option (AndOr × Join)) (b : List Below) (d : ℕ) (s : Draft) (o : Op) (ts : List Token) (all : Script) →
    Says (m.pipeline_op is before b d s o) ts all → PipelineGoes is before b d s (token.Operator o ∷ ts) all
pipeline_op-says is before b d s op.Bang ts all h = bang-goes s h
pipeline_op-says is before b d s o ts all h = plain_pipeline-says is before b d s (token.Operator o) ts all h

pipeline-says : (is : List AndOr) (before : Option (AndOr × Join)) (b : List Below) (d : ℕ) (s : Draft) (t : Token) (ts : List Token) (all : Script) →
    Says (m.pipeline is before b d s t) ts all → PipelineGoes is before b d s (t ∷ ts) all
pipeline-says is before b d s (token.Operator o) ts all h = pipeline_op-says is before b d s o ts all h
pipeline-says is before b d s t ts all h = plain_pipeline-says is before b d s t ts all h

-- ---- places where newlines may stand

cond-says : (c : Bool) (o p : Option State) (ts : List Token) (all : Script) → Says (cond c o p) ts all → Says o ts all ⊎ Says p ts all
cond-says true o p ts all h = inl h
cond-says false o p ts all h = inr h

begin-says : (is : List AndOr) (b : List Below) (d : ℕ) (s : Draft) (t : Token) (ts : List Token) (all : Script) →
    Says (m.begin is b d s t) ts all → GapEnds (gap.Begin is) b d s (t ∷ ts) all
begin-says is b d s (token.Operator o) ts all h = elim (cond-says (ends_list o) _ _ ts all h) [
  | inl k ↦ begin_ends (list_ended-says is b d s (token.Operator o) ts all k)
  | inr k ↦ begin_goes (pipeline-says is None b d s (token.Operator o) ts all k)
]
begin-says is b d s (token.End e n) ts all h = begin_ends (list_ended-says is b d s (token.End e n) ts all h)
begin-says is b d s t ts all h = begin_goes (pipeline-says is None b d s t ts all h)

function-gap : {f : List ℕ} {b : List Below} {d : ℕ} (s : Draft) {ts : List Token} {all : Script} →
    CompoundGoes (below.Function f (next_body s) ∷ b) d (begin_body s) ts all → GapEnds (gap.Function f) b d s ts all
function-gap s (compound_goes x (redirs_go r (ends_function k))) = function_goes x r k

function-says : (f : List ℕ) (b : List Below) (d : ℕ) (s : Draft) (t : Token) (ts : List Token) (all : Script) →
    Says (m.on_op (m.open_compound (below.Function f (next_body s) ∷ b) d (begin_body s)) t) ts all → GapEnds (gap.Function f) b d s (t ∷ ts) all
function-says f b d s (token.Operator o) ts all h = function-gap s (open_compound-says (below.Function f (next_body s) ∷ b) d (begin_body s) o ts all h)
function-says f b d s t ts all h = absurd h

-- the first pattern of an arm, and what follows it
pattern-goes : {c : Case} {b : List Below} {d : ℕ} {s : Draft} {ts ts' : List Token} {all : Script} → MayOpen ts' ts → PartsGo [] (below.Pattern c [] ∷ b) d s ts all →
    GapEnds (gap.Arms c) b d s ts' all
pattern-goes o (parts_go p (end_pattern h (patterns_end l e))) = arms_go (g.one_arm o (g.last_pattern p h) l) e
pattern-goes o (parts_go p (end_pattern h (patterns_go r l e))) = arms_go (g.one_arm o (g.more_patterns p h r) l) e

arms_op-says : (c : Case) (b : List Below) (d : ℕ) (s : Draft) (o : Op) (ts : List Token) (all : Script) →
    Says (m.arms_op c b d s o) ts all → GapEnds (gap.Arms c) b d s (token.Operator o ∷ ts) all
arms_op-says c b d s op.OpenPattern ts all h = pattern-goes g.pattern_opened h
arms_op-says c b d s op.Esac ts all h = arms_end h
arms_op-says c b d s o ts all h = absurd h

arms-says : (c : Case) (b : List Below) (d : ℕ) (s : Draft) (t : Token) (ts : List Token) (all : Script) →
    Says (m.arms c b d s t) ts all → GapEnds (gap.Arms c) b d s (t ∷ ts) all
arms-says c b d s (token.Operator o) ts all h = arms_op-says c b d s o ts all h
arms-says c b d s t ts all h = pattern-goes g.not_opened (parts-says [] (below.Pattern c [] ∷ b) d s t ts all h)

after_for-says : (x : List ℕ) (b : List Below) (d : ℕ) (s : Draft) (o : Op) (ts : List Token) (all : Script) →
    Says (m.after_for x b d s o) ts all → GapEnds (gap.For x) b d s (token.Operator o ∷ ts) all
after_for-says x b d s op.In ts all h = for_in h
after_for-says x b d s op.Do ts all h = for_do (opened-body s (opened-list h))
after_for-says x b d s o ts all h = absurd h

for_gap-says : (x : List ℕ) (b : List Below) (d : ℕ) (s : Draft) (t : Token) (ts : List Token) (all : Script) →
    Says (m.on_op (m.after_for x b d s) t) ts all → GapEnds (gap.For x) b d s (t ∷ ts) all
for_gap-says x b d s (token.Operator o) ts all h = after_for-says x b d s o ts all h
for_gap-says x b d s t ts all h = absurd h

in-goes : {w : Word} {b : List Below} {d : ℕ} {s : Draft} {ts : List Token} {all : Script} → GapGoes (gap.Arms (record { word = w; arms = [] })) b d s ts all →
    GapEnds (gap.In w) b d s (token.Operator op.CaseIn ∷ ts) all
in-goes (gap_goes n (arms_end e)) = in_goes (g.no_arm n) e
in-goes (gap_goes n (arms_go a (arm_esac e))) = in_goes (g.last_arm n a) e
in-goes (gap_goes n (arms_go a (arm_semis r e))) = in_goes (g.more_arms n a r) e

at_gap-says : (k : Gap) (b : List Below) (d : ℕ) (s : Draft) (t : Token) (ts : List Token) (all : Script) →
    Says (m.at_gap k b d s t) ts all → GapEnds k b d s (t ∷ ts) all
at_gap-says (gap.Begin is) b d s t ts all h = begin-says is b d s t ts all h
at_gap-says (gap.Join is a j) b d s t ts all h = join_goes (pipeline-says is (Some (a, j)) b d s t ts all h)
at_gap-says gap.Stage b d s t ts all h = stage_goes (one_command-says b d s t ts all h)
at_gap-says (gap.Function f) b d s t ts all h = function-says f b d s t ts all h
at_gap-says (gap.In w) b d s t ts all h =
    let q = when-says (is_op op.CaseIn t) _ ts all h in at-op (λ x. GapEnds (gap.In w) b d s (x ∷ ts) all) op.CaseIn t q.0 (in-goes q.1)
at_gap-says (gap.Arms c) b d s t ts all h = arms-says c b d s t ts all h
at_gap-says (gap.For x) b d s t ts all h = for_gap-says x b d s t ts all h
at_gap-says (gap.Do x ws) b d s t ts all h =
    let q = when-says (is_op op.Do t) _ ts all h in at-op (λ y. GapEnds (gap.Do x ws) b d s (y ∷ ts) all) op.Do t q.0 (do_goes (opened-body s (opened-list q.1)))

more-newlines : {k : Gap} {b : List Below} {d : ℕ} {s : Draft} {ts : List Token} {all : Script} → DueGo s.due k b d (none_due s) ts all →
    GapGoes k b d s (token.End end.Newline (cut_mode (gap_mode k) s.due) ∷ ts) all
more-newlines (due_go h (gap_goes n e)) = gap_goes (g.one_newline h n) e

gap_newline-says : (k : Gap) (b : List Below) (d : ℕ) (s : Draft) (n : Mode) (ts : List Token) (all : Script) →
    Says (m.newline k b d s n) ts all → GapGoes k b d s (token.End end.Newline n ∷ ts) all
gap_newline-says k b d s n ts all h =
    let q = newline-says k b d s n ts all h in subst (λ x. GapGoes k b d s (token.End end.Newline x ∷ ts) all) q.0 (more-newlines q.1)

gap_end-says : (k : Gap) (b : List Below) (d : ℕ) (s : Draft) (n : Mode) (e : End) (ts : List Token) (all : Script) →
    Says (m.gap_end k b d s n e) ts all → GapGoes k b d s (token.End e n ∷ ts) all
gap_end-says k b d s n end.Newline ts all h = gap_newline-says k b d s n ts all h
gap_end-says k b d s n e ts all h = gap_goes g.no_newline (at_gap-says k b d s (token.End e n) ts all h)

in_gap-says : (k : Gap) (b : List Below) (d : ℕ) (s : Draft) (t : Token) (ts : List Token) (all : Script) →
    Says (m.in_gap k b d s t) ts all → GapGoes k b d s (t ∷ ts) all
in_gap-says k b d s (token.End e n) ts all h = gap_end-says k b d s n e ts all h
in_gap-says k b d s t ts all h = gap_goes g.no_newline (at_gap-says k b d s t ts all h)

-- ---- the rest of `for` and `case`

for_bit-says : (b : List Below) (d : ℕ) (s : Draft) (x : Bit) (ts : List Token) (all : Script) →
    Says (m.for_bit b d s x) ts all → ForStarts b d s (token.Part x ∷ ts) all
for_bit-says b d s (bit.Piece x) ts all h = let q = when-says (is_name x) _ ts all h in for_starts q.0 q.1
for_bit-says b d s x ts all h = absurd h

for_name-says : (b : List Below) (d : ℕ) (s : Draft) (t : Token) (ts : List Token) (all : Script) → Says (m.for_name b d s t) ts all → ForStarts b d s (t ∷ ts) all
for_name-says b d s (token.Part x) ts all h = for_bit-says b d s x ts all h
for_name-says b d s t ts all h = absurd h

named-newline : {x : List ℕ} {b : List Below} {d : ℕ} {s : Draft} {ts : List Token} {all : Script} → DueGo s.due (gap.For x) b d (none_due s) ts all →
    ForNamedGoes x b d s (token.End end.Newline (cut_mode mode.Command s.due) ∷ ts) all
named-newline (due_go h (gap_goes n (for_in k))) = named_words (g.one_newline h n) k
named-newline (due_go h (gap_goes n (for_do k))) = named_do (g.separated (g.newline h n)) k

named-semi : {x : List ℕ} {b : List Below} {d : ℕ} {s : Draft} {ts : List Token} {all : Script} → GapGoes (gap.Do x None) b d s ts all →
    ForNamedGoes x b d s (token.Operator op.Semi ∷ ts) all
named-semi (gap_goes n (do_goes k)) = named_do (g.separated (g.semi n)) k

named_op-says : (x : List ℕ) (b : List Below) (d : ℕ) (s : Draft) (o : Op) (ts : List Token) (all : Script) →
    Says (m.named_op x b d s o) ts all → ForNamedGoes x b d s (token.Operator o ∷ ts) all
named_op-says x b d s op.Semi ts all h = named-semi h
named_op-says x b d s op.In ts all h = named_words g.no_newline h
named_op-says x b d s op.Do ts all h = named_do g.not_separated (opened-body s (opened-list h))
named_op-says x b d s o ts all h = absurd h

named_end-says : (x : List ℕ) (b : List Below) (d : ℕ) (s : Draft) (n : Mode) (e : End) (ts : List Token) (all : Script) →
    Says (m.named_end x b d s n e) ts all → ForNamedGoes x b d s (token.End e n ∷ ts) all
named_end-says x b d s n end.Newline ts all h =
    let q = newline-says (gap.For x) b d s n ts all h in subst (λ y. ForNamedGoes x b d s (token.End end.Newline y ∷ ts) all) q.0 (named-newline q.1)
named_end-says x b d s n e ts all h = absurd h

for_named-says : (x : List ℕ) (b : List Below) (d : ℕ) (s : Draft) (t : Token) (ts : List Token) (all : Script) →
    Says (m.for_named x b d s t) ts all → ForNamedGoes x b d s (t ∷ ts) all
for_named-says x b d s (token.Operator o) ts all h = named_op-says x b d s o ts all h
for_named-says x b d s (token.End e n) ts all h = named_end-says x b d s n e ts all h
for_named-says x b d s t ts all h = absurd h

for-semi : {x : List ℕ} {ws : List Word} {b : List Below} {d : ℕ} {s : Draft} {ts : List Token} {all : Script} → GapGoes (gap.Do x (Some ws)) b d s ts all →
    ForGoes x ws b d s (token.Operator op.Semi ∷ ts) all
for-semi (gap_goes n (do_goes k)) = for_goes g.no_word (g.semi n) k

for-newline : {x : List ℕ} {ws : List Word} {b : List Below} {d : ℕ} {s : Draft} {ts : List Token} {all : Script} → DueGo s.due (gap.Do x (Some ws)) b d (none_due s) ts all →
    ForGoes x ws b d s (token.End end.Newline (cut_mode mode.Command s.due) ∷ ts) all
for-newline (due_go h (gap_goes n (do_goes k))) = for_goes g.no_word (g.newline h n) k

for-word : {x : List ℕ} {ws : List Word} {b : List Below} {d : ℕ} {s : Draft} {ts : List Token} {all : Script} → PartsGo [] (below.ForWord x ws ∷ b) d s ts all → ForGoes x ws b d s ts all
for-word (parts_go p (end_for_word h (for_goes w sep k))) = for_goes (g.one_word p h w) sep k

for_op-says : (x : List ℕ) (ws : List Word) (b : List Below) (d : ℕ) (s : Draft) (o : Op) (ts : List Token) (all : Script) →
    Says (m.for_op x ws b d s o) ts all → ForGoes x ws b d s (token.Operator o ∷ ts) all
for_op-says x ws b d s op.Semi ts all h = for-semi h
for_op-says x ws b d s o ts all h = absurd h

for_end-says : (x : List ℕ) (ws : List Word) (b : List Below) (d : ℕ) (s : Draft) (n : Mode) (e : End) (ts : List Token) (all : Script) →
    Says (m.for_end x ws b d s n e) ts all → ForGoes x ws b d s (token.End e n ∷ ts) all
for_end-says x ws b d s n end.Newline ts all h =
    let q = newline-says (gap.Do x (Some ws)) b d s n ts all h in subst (λ y. ForGoes x ws b d s (token.End end.Newline y ∷ ts) all) q.0 (for-newline q.1)
for_end-says x ws b d s n e ts all h = absurd h

for_words-says : (x : List ℕ) (ws : List Word) (b : List Below) (d : ℕ) (s : Draft) (t : Token) (ts : List Token) (all : Script) →
    Says (m.for_words x ws b d s t) ts all → ForGoes x ws b d s (t ∷ ts) all
for_words-says x ws b d s (token.Operator o) ts all h = for_op-says x ws b d s o ts all h
for_words-says x ws b d s (token.End e n) ts all h = for_end-says x ws b d s n e ts all h
for_words-says x ws b d s t ts all h = for-word (parts-says [] (below.ForWord x ws ∷ b) d s t ts all h)

more-patterns : {c : Case} {ws : List Word} {b : List Below} {d : ℕ} {s : Draft} {ts : List Token} {all : Script} → PartsGo [] (below.Pattern c ws ∷ b) d s ts all →
    PatternsGo c ws b d s (token.Operator op.PipePattern ∷ ts) all
more-patterns (parts_go p (end_pattern h (patterns_end l e))) = patterns_go (g.last_pattern p h) l e
more-patterns (parts_go p (end_pattern h (patterns_go r l e))) = patterns_go (g.more_patterns p h r) l e

arm-list : {c : Case} {ws : List Word} {b : List Below} {d : ℕ} (s : Draft) {ts : List Token} {all : Script} →
    Opened (below.Arm c ws (next_list s) ∷ b) d (begin_list s) ts all → PatternsGo c ws b d s (token.Operator op.Close ∷ ts) all
arm-list s (opened_empty n (in_arm e)) = patterns_end (g.empty n) e
arm-list s (opened_some l (in_arm e)) = patterns_end (g.some l) e

patterns_op-says : (c : Case) (ws : List Word) (b : List Below) (d : ℕ) (s : Draft) (o : Op) (ts : List Token) (all : Script) →
    Says (m.patterns_op c ws b d s o) ts all → PatternsGo c ws b d s (token.Operator o ∷ ts) all
patterns_op-says c ws b d s op.PipePattern ts all h = more-patterns h
patterns_op-says c ws b d s op.Close ts all h = arm-list s (opened-list h)
patterns_op-says c ws b d s o ts all h = absurd h

patterns-says : (c : Case) (ws : List Word) (b : List Below) (d : ℕ) (s : Draft) (t : Token) (ts : List Token) (all : Script) →
    Says (m.on_op (m.patterns_op c ws b d s) t) ts all → PatternsGo c ws b d s (t ∷ ts) all
patterns-says c ws b d s (token.Operator o) ts all h = patterns_op-says c ws b d s o ts all h
patterns-says c ws b d s t ts all h = absurd h

-- ---- bodies of here-documents

quoted-goes : {h : Due} {hs : List Due} {k : Gap} {x : List ℕ} {b : List Below} {d : ℕ} {s : Draft} {ts : List Token} {all : Script} →
    DueGo hs k b d (end_here h.number (part.Single x) s) ts all → DueGo (h ∷ hs) k b d s (token.Verbatim x (cut_mode (gap_mode k) hs) ∷ ts) all
quoted-goes (due_go r e) = due_go (g.quoted_body r) e

expanded-goes : {h : Due} {hs : List Due} {k : Gap} {b : List Below} {d : ℕ} {s : Draft} {ts : List Token} {all : Script} →
    PartsGo [] (below.Body h.number hs k ∷ b) d s ts all → DueGo (h ∷ hs) k b d s (token.Body ∷ ts) all
expanded-goes (parts_go p (end_here_body (due_go r e))) = due_go (g.expanded_body p r) e

due-says : (h : Due) (hs : List Due) (k : Gap) (b : List Below) (d : ℕ) (s : Draft) (t : Token) (ts : List Token) (all : Script) →
    Says (m.due h hs k b d s t) ts all → DueGo (h ∷ hs) k b d s (t ∷ ts) all
due-says h hs k b d s (token.Verbatim x n) ts all e =
    let q = when-says (same_mode (cut_mode (gap_mode k) hs) n) _ ts all e in
    subst (λ y. DueGo (h ∷ hs) k b d s (token.Verbatim x y ∷ ts) all) (same_mode-is _ n q.0)
    (quoted-goes (due-of hs k b d (end_here h.number (part.Single x) s) ts all q.1))
due-says h hs k b d s token.Body ts all e = expanded-goes e
due-says h hs k b d s t ts all e = absurd e

-- ---- one token

step-says : (n : Now) (b : List Below) (d : ℕ) (s : Draft) (t : Token) (ts : List Token) (all : Script) →
    Says (step_now n b d s t) ts all → Wants n b d s (t ∷ ts) all
step-says (now.Gap k) b d s t ts all h = in_gap-says k b d s t ts all h
step-says (now.Due x hs k) b d s t ts all h = due-says x hs k b d s t ts all h
step-says (now.Parts ps) b d s t ts all h = parts-says ps b d s t ts all h
step-says (now.Elements c) b d s t ts all h = elements-says c b d s t ts all h
step-says (now.Redirs x rs) b d s t ts all h = redirs-says x rs b d s t ts all h
step-says now.Bang b d s t ts all h = one_command-says b d s t ts all h
step-says (now.Delimiter fd strip k) b d s t ts all h = delimiter-says fd strip k b d s t ts all h
step-says (now.Name x) b d s t ts all h =
    let q = when-says (is_op op.Open t) _ ts all h in at-op (λ y. NameGoes x b d s (y ∷ ts) all) op.Open t q.0 (name_goes q.1)
step-says (now.Named x) b d s t ts all h =
    let q = when-says (is_op op.Close t) _ ts all h in at-op (λ y. NamedGoes x b d s (y ∷ ts) all) op.Close t q.0 (named_goes q.1)
step-says now.For b d s t ts all h = for_name-says b d s t ts all h
step-says (now.ForName x) b d s t ts all h =
    let q = when-says (is_end end.Word mode.Command t) _ ts all h in at-end (λ y. ForNameGoes x b d s (y ∷ ts) all) end.Word mode.Command t q.0 (for_name_goes q.1)
step-says (now.ForNamed x) b d s t ts all h = for_named-says x b d s t ts all h
step-says (now.ForWords x ws) b d s t ts all h = for_words-says x ws b d s t ts all h
step-says (now.Patterns c ws) b d s t ts all h = patterns-says c ws b d s t ts all h

-- ---- all tokens

none-due : (q : List Due) (s all : Script) → m.if_none q s ≡ Some all → (q ≡ []) × (s ≡ all)
none-due [] s all e = (refl, cc)
none-due (h ∷ hs) s all e = absurd cc

text_ended : (is : List AndOr) (b : List Below) (d : ℕ) (s : Draft) (all : Script) → end_with is b s ≡ Some all → Finishes is b d s [] all
text_ended is [] d s all e = let k = none-due s.due (filled (end_list 0 is s)) all e in subst (λ (x : Script). Finishes is [] d s [] x) k.1 (top k.0)
text_ended is (f ∷ b) d s all e = absurd cc

command_accepted : (c : Command) (b : List Below) (d : ℕ) (s : Draft) (all : Script) → end_command c b s ≡ Some all → CommandEnds c b d s [] all
command_accepted c [] d s all e = absurd cc
command_accepted c (below.Function x n ∷ b) d s all e = ends_function (command_accepted (command.Function x n) b d (end_body n c s) all e)
command_accepted c (below.Pipe p ∷ b) d s all e = ends_stage g.last_stage (continues g.list_end (text_ended _ b d _ all e))
command_accepted c (f ∷ b) d s all e = absurd cc

gap_accepted : (k : Gap) (b : List Below) (d : ℕ) (s : Draft) (all : Script) → m.end_gap k b s ≡ Some all → GapGoes k b d s [] all
gap_accepted (gap.Begin is) b d s all e = gap_goes g.no_newline (begin_ends (text_ended is b d s all e))
gap_accepted k b d s all e = absurd cc

accepted : (n : Now) (b : List Below) (d : ℕ) (s : Draft) (all : Script) → accept_now n b s ≡ Some all → Wants n b d s [] all
accepted (now.Gap k) b d s all e = gap_accepted k b d s all e
accepted (now.Elements c) b d s all e = elements_go g.no_element (command_accepted (simple c) b d s all e)
accepted (now.Redirs x rs) b d s all e = redirs_go g.no_redir (command_accepted (command.Compound x rs) b d s all e)
accepted n b d s all e = absurd cc

says-of : (o : Option State) (ts : List Token) (all : Script) → ((st : State) → run st ts ≡ Some all → WantsAt st ts all) →
    option_and_then (λ next. run next ts) o ≡ Some all → Says o ts all
says-of None ts all f e = absurd cc
says-of (Some st) ts all f e = f st e

wants : (ts : List Token) (all : Script) (st : State) → run st ts ≡ Some all → WantsAt st ts all
wants [] all st e = accepted st.now st.below st.room st.script all e
wants (t ∷ ts) all st e = step-says st.now st.below st.room st.script t ts all (says-of _ ts all (wants ts all) e)

whole : {d : ℕ} {ts : List Token} {all : Script} → Opened [] d (begin_list no_draft) ts all → ParsesWithin d all ts
whole (opened_empty n (top e)) = g.script (g.empty n) e
whole (opened_some l (top e)) = g.script (g.some l) e

-- What the machine reads, the grammar derives.
pub sound : (d : ℕ) (ts : List Token) (all : Script) → run (start_within d) ts ≡ Some all → ParsesWithin d all ts
sound d ts all e = whole (opened-list (wants ts all (start_within d) e))
