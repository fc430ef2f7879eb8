-- What the grammar derives leaves the lists, pipelines and bodies that were begun before as they were.
use Rattle.std.proofs.Common.{◌≡◌, ℕ, Bool, ◌<◌, ◌≤◌, List, [], ◌∷◌, ◌++◌, length, get_or, set, Option, refl, ◌∙◌, arith, length-append}
use Rattle.std.proofs.lemmas.List.{get_or-set_other, get_or_append_left, length-set}
use Rattle.sh_syntax.specs.declared.tree.Part.{Part}
use Rattle.sh_syntax.specs.declared.tree.Word.{Word}
use Rattle.sh_syntax.specs.declared.tree.Redir.{Redir}
use Rattle.sh_syntax.specs.declared.tree.Command.{Command}
use Rattle.sh_syntax.specs.declared.tree.Compound.{Compound}
use Rattle.sh_syntax.specs.declared.tree.AndOr.{AndOr}
use Rattle.sh_lexer.specs.declared.token.Token.{Token}
use Rattle.sh_lexer.specs.declared.token.Mode.{Mode}
use Rattle.sh_grammar.specs.declared.state.Due.{Due}
use Rattle.sh_grammar.specs.declared.state.Draft.{Draft}
use Rattle.sh_grammar.specs.declared.state.Simple.{Simple}
use Rattle.sh_grammar.specs.Draft.{begin_list, end_list, next_list, begin_leaf, end_leaf, next_leaf, begin_body, end_body, next_body}
use Rattle.sh_grammar.specs.Grammar as g
use Rattle.sh_grammar.specs.Grammar.{Parts, Bodies, Newlines, Separator, MaySeparate, OneRedir, Redirs, Elements, ForWords, Patterns, OneArm, Arms, Branches, MoreBranches, OneCompound, OneCommand, Stages, MoreStages, OnePipeline, ListRest, InList, MayBeList}

-- The second list begins as the first one does, below its length.
pub record Keeps {A : Type 0} (xs ys : List A) : Type 0 where
  pub longer : length xs ≤ length ys
  pub same : (n : ℕ) (d : A) → n < length xs → get_or ys n d ≡ get_or xs n d

pub keeps-refl : {A : Type 0} (xs : List A) → Keeps xs xs
keeps-refl xs = record { longer = omega arith; same = λ n d h. refl }

pub keeps-trans : {A : Type 0} (xs ys zs : List A) → Keeps xs ys → Keeps ys zs → Keeps xs zs
keeps-trans xs ys zs p q = record {
  longer = omega (arith, p.longer, q.longer);
  same = λ n d h. q.same n d (omega (arith, p.longer)) ∙ p.same n d h;
}

pub keeps-append : {A : Type 0} (xs : List A) (x : A) → Keeps xs (xs ++ x ∷ [])
keeps-append xs x = record { longer = omega (arith, length-append xs (x ∷ [])); same = λ n d h. get_or_append_left xs (x ∷ []) d n h }

pub keeps-set : {A : Type 0} (xs ys : List A) (n : ℕ) (v : A) → Keeps xs ys → length xs ≤ n → Keeps xs (set ys n v)
keeps-set xs ys n v p le = record {
  longer = omega (arith, p.longer, length-set ys n v);
  same = λ i d h. get_or-set_other ys n i v d (omega arith) ∙ p.same i d h;
}

pub record Extends (s t : Draft) : Type 0 where
  pub lists : Keeps s.script.lists t.script.lists
  pub leaves : Keeps s.script.leaves t.script.leaves
  pub bodies : Keeps s.script.bodies t.script.bodies

pub same : (s : Draft) → Extends s s
same s = record { lists = keeps-refl s.script.lists; leaves = keeps-refl s.script.leaves; bodies = keeps-refl s.script.bodies }

pub then : {s t u : Draft} → Extends s t → Extends t u → Extends s u
then {s} {t} {u} p q = record {
  lists = keeps-trans s.script.lists t.script.lists u.script.lists p.lists q.lists;
  leaves = keeps-trans s.script.leaves t.script.leaves u.script.leaves p.leaves q.leaves;
  bodies = keeps-trans s.script.bodies t.script.bodies u.script.bodies p.bodies q.bodies;
}

pub new_list : (s : Draft) → Extends s (begin_list s)
new_list s = record { lists = keeps-append s.script.lists _; leaves = keeps-refl s.script.leaves; bodies = keeps-refl s.script.bodies }

pub new_leaf : (b : Bool) (s : Draft) → Extends s (begin_leaf b s)
new_leaf b s = record { lists = keeps-refl s.script.lists; leaves = keeps-append s.script.leaves _; bodies = keeps-refl s.script.bodies }

pub new_body : (s : Draft) → Extends s (begin_body s)
new_body s = record { lists = keeps-refl s.script.lists; leaves = keeps-refl s.script.leaves; bodies = keeps-append s.script.bodies _ }

pub put_list : {s t : Draft} (n : ℕ) (is : List AndOr) → Extends s t → length s.script.lists ≤ n → Extends s (end_list n is t)
put_list {s} {t} n is p le = record { lists = keeps-set s.script.lists t.script.lists n _ p.lists le; leaves = p.leaves; bodies = p.bodies }

pub put_leaf : {s t : Draft} (n : ℕ) (b : Bool) (cs : List Command) → Extends s t → length s.script.leaves ≤ n → Extends s (end_leaf n b cs t)
put_leaf {s} {t} n b cs p le = record { lists = p.lists; leaves = keeps-set s.script.leaves t.script.leaves n _ p.leaves le; bodies = p.bodies }

pub put_body : {s t : Draft} (n : ℕ) (c : Command) → Extends s t → length s.script.bodies ≤ n → Extends s (end_body n c t)
put_body {s} {t} n c p le = record { lists = p.lists; leaves = p.leaves; bodies = keeps-set s.script.bodies t.script.bodies n _ p.bodies le }

-- a list that begins and ends
pub whole : {s t : Draft} (is : List AndOr) → Extends (begin_list s) t → Extends s (end_list (next_list s) is t)
whole {s} is p = put_list (next_list s) is (then (new_list s) p) (omega arith)

-- a second one, behind a first that has ended
pub second : {s u : Draft} (t : Draft) (n : ℕ) (is js : List AndOr) → Extends s (end_list n is t) → Extends (begin_list (end_list n is t)) u → Extends s (end_list (next_list t) js u)
second {s} {u} t n is js p q =
    put_list (next_list t) js (then p (then (new_list (end_list n is t)) q)) (omega (arith, p.lists.longer, length-set t.script.lists n (record { items = is })))

mutual
  pub parts : {d : ℕ} {s t : Draft} {ps qs : List Part} {ts rest : List Token} → Parts d s ps ts rest qs t → Extends s t
  parts (g.parts_end {s}) = same s
  parts (g.one_bit r) = parts r
  parts (g.param r) = parts r
  parts (g.double q r) = then (parts q) (parts r)
  parts (g.braces q r) = then (parts q) (parts r)
  parts (g.arith q r) = then (parts q) (parts r)
  parts (g.substitution l r) = then (whole _ (may_be_list l)) (parts r)
  parts (g.backquotes l r) = then (whole _ (may_be_list l)) (parts r)

  pub bodies : {m : Mode} {hs : List Due} {d : ℕ} {s t : Draft} {ts rest : List Token} → Bodies m hs d s ts rest t → Extends s t
  bodies (g.no_body {s}) = same s
  bodies (g.quoted_body {s} b) = then (record { lists = keeps-refl s.script.lists; leaves = keeps-refl s.script.leaves; bodies = keeps-refl s.script.bodies }) (bodies b)
  bodies (g.expanded_body {s} {t} p b) = let q = parts p in then (record { lists = q.lists; leaves = q.leaves; bodies = q.bodies }) (bodies b)

  pub newlines : {m : Mode} {d : ℕ} {s t : Draft} {ts rest : List Token} → Newlines m d s ts rest t → Extends s t
  newlines (g.no_newline {s}) = same s
  newlines (g.one_newline b r) = let q = bodies b in then (record { lists = q.lists; leaves = q.leaves; bodies = q.bodies }) (newlines r)

  pub separator : {d : ℕ} {s t : Draft} {ts rest : List Token} → Separator d s ts rest t → Extends s t
  separator (g.semi n) = newlines n
  separator (g.newline b n) = let q = bodies b in then (record { lists = q.lists; leaves = q.leaves; bodies = q.bodies }) (newlines n)

  pub may_separate : {d : ℕ} {s t : Draft} {ts rest : List Token} → MaySeparate d s ts rest t → Extends s t
  may_separate (g.not_separated {s}) = same s
  may_separate (g.separated z) = separator z

  pub one_redir : {m : Mode} {d : ℕ} {s t : Draft} {r : Redir} {ts rest : List Token} → OneRedir m d s ts rest r t → Extends s t
  one_redir (g.file p h) = parts p
  one_redir (g.here {s}) = record { lists = keeps-refl s.script.lists; leaves = keeps-refl s.script.leaves; bodies = keeps-refl s.script.bodies }

  pub redirs : {d : ℕ} {s t : Draft} {rs qs : List Redir} {ts rest : List Token} → Redirs d s rs ts rest qs t → Extends s t
  redirs (g.no_redir {s}) = same s
  redirs (g.one_redir o r) = then (one_redir o) (redirs r)

  pub elements : {d : ℕ} {s t : Draft} {c c' : Simple} {ts rest : List Token} → Elements d s c ts rest c' t → Extends s t
  elements (g.no_element {s}) = same s
  elements (g.assign p r) = then (parts p) (elements r)
  elements (g.argument p h r) = then (parts p) (elements r)
  elements (g.redirection o r) = then (one_redir o) (elements r)

  pub for_words : {d : ℕ} {s t : Draft} {ws vs : List Word} {ts rest : List Token} → ForWords d s ws ts rest vs t → Extends s t
  for_words (g.no_word {s}) = same s
  for_words (g.one_word p h r) = then (parts p) (for_words r)

  pub patterns : {d : ℕ} {s t : Draft} {ws vs : List Word} {ts rest : List Token} → Patterns d s ws ts rest vs t → Extends s t
  patterns (g.last_pattern p h) = parts p
  patterns (g.more_patterns p h r) = then (parts p) (patterns r)

  pub one_arm : {d : ℕ} {s t : Draft} {ws : List Word} {n : ℕ} {ts rest : List Token} → OneArm d s ts rest ws n t → Extends s t
  one_arm (g.one_arm o p l) = then (patterns p) (whole _ (may_be_list l))

  pub arms : {d : ℕ} {s t : Draft} {xs ys : List (List Word × ℕ)} {ts rest : List Token} → Arms d s xs ts rest ys t → Extends s t
  arms (g.no_arm n) = newlines n
  arms (g.last_arm n o) = then (newlines n) (one_arm o)
  arms (g.more_arms n o r) = then (newlines n) (then (one_arm o) (arms r))

  pub branches : {d : ℕ} {s t : Draft} {bs cs : List (ℕ × ℕ)} {o : Option ℕ} {ts rest : List Token} → Branches d s bs ts rest cs o t → Extends s t
  branches (g.branch {s = s} {t = t} {is = is} {js = js} l k r) = then (second t (next_list s) is js (whole is (in_list l)) (in_list k)) (more_branches r)

  pub more_branches : {d : ℕ} {s t : Draft} {bs cs : List (ℕ × ℕ)} {o : Option ℕ} {ts rest : List Token} → MoreBranches d s bs ts rest cs o t → Extends s t
  more_branches (g.fi {s}) = same s
  more_branches (g.elif b) = branches b
  more_branches (g.otherwise l) = whole _ (in_list l)

  pub one_compound : {d : ℕ} {s t : Draft} {c : Compound} {ts rest : List Token} → OneCompound d s ts rest c t → Extends s t
  one_compound (g.group l) = whole _ (in_list l)
  one_compound (g.subshell l) = whole _ (in_list l)
  one_compound (g.if_command b) = branches b
  one_compound (g.loop {s = s} {t = t} {is = is} {js = js} l k) = second t (next_list s) is js (whole is (in_list l)) (in_list k)
  one_compound (g.for_words h n w z l) = then (newlines n) (then (for_words w) (then (separator z) (whole _ (in_list l))))
  one_compound (g.for_parameters h z l) = then (may_separate z) (whole _ (in_list l))
  one_compound (g.case_command p h n a) = then (parts p) (then (newlines n) (arms a))

  pub one_command : {d : ℕ} {s t : Draft} {c : Command} {ts rest : List Token} → OneCommand d s ts rest c t → Extends s t
  one_command (g.simple_command e h) = elements e
  one_command (g.compound_command c r) = then (one_compound c) (redirs r)
  one_command (g.function {t} n c r) = then (newlines n) (put_body (next_body t) _ (then (new_body t) (then (one_compound c) (redirs r))) (omega arith))

  pub stages : {d : ℕ} {s t : Draft} {cs cs' : List Command} {ts rest : List Token} → Stages d s cs ts rest cs' t → Extends s t
  stages (g.one_stage c r) = then (one_command c) (more_stages r)

  pub more_stages : {d : ℕ} {s t : Draft} {cs cs' : List Command} {ts rest : List Token} → MoreStages d s cs ts rest cs' t → Extends s t
  more_stages (g.last_stage {s}) = same s
  more_stages (g.pipe n r) = then (newlines n) (stages r)

  pub one_pipeline : {d : ℕ} {s t : Draft} {ts rest : List Token} → OnePipeline d s ts rest t → Extends s t
  one_pipeline (g.pipeline {s} r) = put_leaf (next_leaf s) _ _ (then (new_leaf _ s) (stages r)) (omega arith)
  one_pipeline (g.bang_pipeline {s} r) = put_leaf (next_leaf s) _ _ (then (new_leaf _ s) (stages r)) (omega arith)

  pub list_rest : {d : ℕ} {s t : Draft} {is js : List AndOr} {x : AndOr} {ts rest : List Token} → ListRest d s is x ts rest js t → Extends s t
  list_rest (g.list_end {s}) = same s
  list_rest (g.list_separator z) = separator z
  list_rest (g.joins j n p r) = then (newlines n) (then (one_pipeline p) (list_rest r))
  list_rest (g.next_more z p r) = then (separator z) (then (one_pipeline p) (list_rest r))

  pub in_list : {d : ℕ} {s t : Draft} {is : List AndOr} {ts rest : List Token} → InList d s ts rest is t → Extends s t
  in_list (g.list n p r) = then (newlines n) (then (one_pipeline p) (list_rest r))

  pub may_be_list : {d : ℕ} {s t : Draft} {is : List AndOr} {ts rest : List Token} → MayBeList d s ts rest is t → Extends s t
  may_be_list (g.empty n) = newlines n
  may_be_list (g.some l) = in_list l
