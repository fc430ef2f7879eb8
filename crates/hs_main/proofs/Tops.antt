-- The whole program.
use Rattle.std.proofs.Common.{◌≡◌, ℕ, List, [], ◌∷◌, ◌++◌, Option, Some, None, true, false, T, Result, Ok, Err, OnOk, OnErr, inl, inr, refl, sym, ap, subst, ◌∙◌, ◌≤◌, ◌<◌, ◌⊎◌, zero, suc, length, get_or, arith}
use Rattle.hs_world.specs.Files.{Files, is_over}
use Rattle.hs_view.specs.declared.halt.SpentKind.TheVariants as kind
use Rattle.hs_outside.specs.Streams.{appended, IsCut}
use Rattle.hs_outside.specs.declared.outside.Failed.{Failed}
use Rattle.hs_drive.specs.declared.ending.Ending.{Ending}
use Rattle.hs_drive.specs.declared.ending.Ending.TheVariants as ending
use Rattle.hs_drive.specs.declared.ending.Report.{Report}
use Rattle.hs_drive.specs.Commit.{Streams, IsFault}
use Rattle.hs_drive.specs.Plain.{Runs, IsComplete}
use Rattle.hs_drive.proofs.Runs.{plain-complete}
use Rattle.sh_leaf.specs.Cut.{Serial}
use Rattle.sh_leaf.specs.Built.{is_built}
use Rattle.sh_syntax.specs.declared.fault.Fault.{Fault}
use Rattle.hs_drive.specs.Ending.{IsTold}
use Rattle.hs_outside.specs.Hosts.{one_more}
use Rattle.hs_main.specs.Start.{Environ, default_turns, start}
use Rattle.hs_main.specs.Top.{AskNothing, Asks, IsAsked, IsRefused, IsUnbuilt, Parsed, IsScriptOf, Finds, FilesOf, IsLoaded, IsRun, RunsWords, IsCompleteFor, no_report}
use Rattle.hs_world.specs.World.{WorldData, Applied}
use Rattle.sh_syntax.specs.declared.tree.Script.{Script}
use Rattle.sh_grammar.specs.Spells.{Spells}
use Rattle.sh_script.specs.Answers.{Answers, IsBad, too_long}
use Rattle.sh_script.specs.Longest.{longest}
use Rattle.sh_script.specs.declared.error.ParseErr.{ParseErr}
use Rattle.sh_script.specs.declared.error.ParseErr.TheVariants as err
use Rattle.std.specs.Prelude.{codes, IfSome}

-- a run never ends as unbuilt, by a syntax error, or by a fault of the host
pub run-ran : (host out err : Type 0) (env : Environ) (told : Option Files) (words : List (List ℕ)) (s t : Streams) (ends : Ending) (report : Report) →
    IsRun out err env told words s t ends report → RunsWords host out err env told words s t ends report
run-ran host out err env told words s t (ending.Done status) report r = r
run-ran host out err env told words s t (ending.Syntax line fault) report r = absurd r.runs
run-ran host out err env told words s t ending.Unbuilt report r = absurd r.runs
run-ran host out err env told words s t ending.OutFault report r = r
run-ran host out err env told words s t ending.HostFault report r = absurd r.runs
run-ran host out err env told words s t (ending.Spent kind.Turns) report r = r
run-ran host out err env told words s t (ending.Spent kind.Bytes) report r = r
run-ran host out err env told words s t (ending.Spent kind.Frames) report r = r
run-ran host out err env told words s t (ending.Spent kind.Tree) report r = inr r
run-ran host out err env told words s t ending.NoMemory report r = inr r

pub run-of : (host out err : Type 0) (env : Environ) (told : Option Files) (words : List (List ℕ)) (text text' : List ℕ) (s t : Streams) (ends : Ending) (report : Report) (script script' : Script) (w : WorldData) (files : Files) →
    Asks words text → text' ≡ text → IsLoaded told files → IsScriptOf script text' × (is_built script ≡ true) → script' ≡ script → w ≡ start env files → Runs out err script' w default_turns s t ends report →
    RunsWords host out err env told words s t ends report
run-of host out err env told words text text' s t ends report script script' w files asks same loaded (found, built) is from runs = run-ran host out err env told words s t ends report (record {
  text = text';
  asks = subst (λ (x : List ℕ). Asks words x) (sym same) asks;
  files = files;
  loaded = loaded;
  script = script;
  found = found;
  built = built;
  runs = subst (λ (v : WorldData). Runs out err script v default_turns s t ends report) from (subst (λ (x : Script). Runs out err x w default_turns s t ends report) is runs);
})

-- ---- how often the host is asked

pub asked_once : (words : List (List ℕ)) (text : List ℕ) (old asked new : Option ℕ) → Asks words text → asked ≡ one_more old → new ≡ asked → IsAsked words old new
asked_once words text old asked new asks once still = record { once = λ other also. still ∙ once; never = λ none. absurd (none text asks) }

pub asked_never : (words : List (List ℕ)) (old : Option ℕ) → AskNothing words → IsAsked words old old
asked_never words old none = record { once = λ text asks. absurd (none text asks); never = λ also. refl }

-- files that can't be loaded
pub unloaded-of : (host host' out err : Type 0) (env : Environ) (told : Option Files) (words : List (List ℕ)) (text : List ℕ) (s : Streams) (ends : Ending) → (host → host') →
    Asks words text → FilesOf host told (Err ends) → RunsWords host' out err env told words s s ends no_report
unloaded-of host host' out err env told words text s (ending.Done status) f asks files = absurd files
unloaded-of host host' out err env told words text s (ending.Syntax line fault) f asks files = absurd files
unloaded-of host host' out err env told words text s ending.Unbuilt f asks files = absurd files
unloaded-of host host' out err env told words text s ending.OutFault f asks files = absurd files
unloaded-of host host' out err env told words text s ending.HostFault f asks files =
    (record { text = text; asks = asks; rose = f files }, record { report_is = refl; streams = refl })
unloaded-of host host' out err env told words text s (ending.Spent kind.Turns) f asks files = absurd files
unloaded-of host host' out err env told words text s (ending.Spent kind.Bytes) f asks files = absurd files
unloaded-of host host' out err env told words text s (ending.Spent kind.Frames) f asks files = absurd files
unloaded-of host host' out err env told words text s (ending.Spent kind.Tree) f asks files =
    inl (record { text = text; asks = asks; over = files }, record { report_is = refl; streams = refl })
unloaded-of host host' out err env told words text s ending.NoMemory f asks files = inl (record { report_is = refl; streams = refl })

-- ---- reading a text

short-of : (a n : ℕ) → (n < a → ⊥) → a ≤ n
short-of a n h = omega (arith, h)

one-up : (a n : ℕ) → (n < a) ⊎ (a ≤ n) → (suc n < suc a) ⊎ (suc a ≤ suc n)
one-up a n (inl h) = inl (omega (arith, h))
one-up a n (inr h) = inr (omega (arith, h))

long-or_not : (a n : ℕ) → (n < a) ⊎ (a ≤ n)
long-or_not zero n = inr (omega arith)
long-or_not (suc a) zero = inl (omega arith)
long-or_not (suc a) (suc n) = one-up a n (long-or_not a n)

refused-of : (line : ℕ) (f : Fault) (text : List ℕ) → (longest < length text → Err (err.Syntax line f) ≡ too_long) → (length text ≤ longest → IsBad f line text) →
    (longest < length text) ⊎ (length text ≤ longest) → IsRefused text line f
refused-of line f text long answers (inl l) = let two : Err (err.Syntax line f) ≡ too_long = long l in inl (l, cc, cc)
refused-of line f text long answers (inr s) = inr (s, answers s)

pub parsed-of : (r : Result Script ParseErr) (text : List ℕ) → (longest < length text → r ≡ too_long) → (length text ≤ longest → Answers r text) → Parsed r text
parsed-of (Ok script) text long answers =
    let short = short-of (length text) longest (λ l. let two : Ok script ≡ too_long = long l in absurd cc) in record { short = short; is = answers short }
parsed-of (Err (err.Syntax line f)) text long answers = refused-of line f text long answers (long-or_not (length text) longest)
parsed-of (Err err.NoMemory) text long answers = tt

pub unbuilt_of : (text : List ℕ) (script : Script) → IsScriptOf script text → is_built script ≡ false → IsUnbuilt text
unbuilt_of text script found unbuilt = record { script = script; found = found; unbuilt = unbuilt }

-- a text that ends without a run
pub unrun_of : (host out err : Type 0) (env : Environ) (told : Option Files) (words : List (List ℕ)) (text text' : List ℕ) (s : Streams) (ends : Ending) (files : Files) →
    Asks words text → text' ≡ text → IsLoaded told files → Finds (Err ends) text' → RunsWords host out err env told words s s ends no_report
unrun_of host out err env told words text text' s (ending.Done status) files asks same loaded finds = absurd finds
unrun_of host out err env told words text text' s (ending.Syntax line fault) files asks same loaded finds =
    (record { text = text'; asks = subst (λ (x : List ℕ). Asks words x) (sym same) asks; files = files; loaded = loaded; finds = finds }, record { report_is = refl; streams = refl })
unrun_of host out err env told words text text' s ending.Unbuilt files asks same loaded finds =
    (inr (record { text = text'; asks = subst (λ (x : List ℕ). Asks words x) (sym same) asks; files = files; loaded = loaded; finds = finds }), record { report_is = refl; streams = refl })
unrun_of host out err env told words text text' s ending.OutFault files asks same loaded finds = absurd finds
unrun_of host out err env told words text text' s ending.HostFault files asks same loaded finds = absurd finds
unrun_of host out err env told words text text' s (ending.Spent kind) files asks same loaded finds = absurd finds
unrun_of host out err env told words text text' s ending.NoMemory files asks same loaded finds = inl (record { report_is = refl; streams = refl })

pub unrun_told : (host out err : Type 0) (env : Environ) (told : Option Files) (words : List (List ℕ)) (text text' : List ℕ) (s : Streams) (ends : Ending) (report : Report) (files : Files) →
    Asks words text → text' ≡ text → IsLoaded told files → Finds (Err ends) text' → report ≡ no_report → RunsWords host out err env told words s s ends report
unrun_told host out err env told words text text' s ends report files asks same loaded finds is =
    subst (λ (r : Report). RunsWords host out err env told words s s ends r) (sym is) (unrun_of host out err env told words text text' s ends files asks same loaded finds)

one-text : (a b c : List ℕ) → a ∷ b ∷ [] ≡ a ∷ c ∷ [] → b ≡ c
one-text a b c e = cc

append-nil : (xs : List ℕ) → xs ++ [] ≡ xs
append-nil [] = refl
append-nil (x ∷ xs) = ap (λ (ys : List ℕ). x ∷ ys) (append-nil xs)

-- a line that was sent
pub line-sent : (line : List ℕ) (old new : Option (List ℕ)) (result : Result (Unit {0}) Failed) → OnOk result (new ≡ appended old line) → OnErr result (IsCut old new line) → IsTold line old new
line-sent line old new (Ok u) ok err = record { front = line; rest = []; whole = sym (append-nil line); went = ok }
line-sent line old new (Err e) ok err = record { front = err.front; rest = err.rest; whole = err.whole; went = err.went }

nothing-appended : (old : Option (List ℕ)) → old ≡ appended old []
nothing-appended None = refl
nothing-appended (Some held) = ap Some (sym (append-nil held))

-- a line for which there was no memory
pub line-unsent : (line : List ℕ) (old : Option (List ℕ)) → IsTold line old old
line-unsent line old = record { front = []; rest = line; whole = refl; went = nothing-appended old }

-- ---- a later count of faults

runs-later : (out err err' : Type 0) (script : Script) (w : WorldData) (turns : ℕ) (s t : Streams) (ends : Ending) (report : Report) → (err → err') →
    Runs out err script w turns s t ends report → Runs out err' script w turns s t ends report
runs-later out err err' script w turns s t (ending.Done status) report f r = r
runs-later out err err' script w turns s t (ending.Syntax line fault) report f r = r
runs-later out err err' script w turns s t ending.Unbuilt report f r = r
runs-later out err err' script w turns s t ending.HostFault report f r = absurd r
runs-later out err err' script w turns s t (ending.Spent kind) report f r = r
runs-later out err err' script w turns s t ending.NoMemory report f r = r
runs-later out err err' script w turns s t ending.OutFault report f (done, stopped) =
    (done, record { front = stopped.front; count = stopped.count; state = later stopped.state })
  where
    later : IsFault out err done w (Applied done w) s t → IsFault out err' done w (Applied done w) s t
    later (inl x) = inl x
    later (inr (e, d)) = inr (f e, d)

run-later : (out err err' : Type 0) (env : Environ) (told : Option Files) (words : List (List ℕ)) (s t : Streams) (ends : Ending) (report : Report) → (err → err') →
    IsRun out err env told words s t ends report → IsRun out err' env told words s t ends report
run-later out err err' env told words s t ends report f r = record {
  text = r.text;
  asks = r.asks;
  files = r.files;
  loaded = r.loaded;
  script = r.script;
  found = r.found;
  built = r.built;
  runs = runs-later out err err' r.script (start env r.files) default_turns s t ends report f r.runs;
}

pub words-later : (host out err err' : Type 0) (env : Environ) (told : Option Files) (words : List (List ℕ)) (s t : Streams) (ends : Ending) (report : Report) → (err → err') →
    RunsWords host out err env told words s t ends report → RunsWords host out err' env told words s t ends report
words-later host out err err' env told words s t (ending.Done status) report f r = run-later out err err' env told words s t (ending.Done status) report f r
words-later host out err err' env told words s t (ending.Syntax line fault) report f r = r
words-later host out err err' env told words s t ending.Unbuilt report f r = r
words-later host out err err' env told words s t ending.HostFault report f r = r
words-later host out err err' env told words s t (ending.Spent kind.Turns) report f r = run-later out err err' env told words s t (ending.Spent kind.Turns) report f r
words-later host out err err' env told words s t (ending.Spent kind.Bytes) report f r = run-later out err err' env told words s t (ending.Spent kind.Bytes) report f r
words-later host out err err' env told words s t (ending.Spent kind.Frames) report f r = run-later out err err' env told words s t (ending.Spent kind.Frames) report f r
words-later host out err err' env told words s t (ending.Spent kind.Tree) report f (inl r) = inl r
words-later host out err err' env told words s t (ending.Spent kind.Tree) report f (inr r) = inr (run-later out err err' env told words s t (ending.Spent kind.Tree) report f r)
words-later host out err err' env told words s t ending.OutFault report f r = run-later out err err' env told words s t ending.OutFault report f r
words-later host out err err' env told words s t ending.NoMemory report f (inl r) = inl r
words-later host out err err' env told words s t ending.NoMemory report f (inr r) = inr (run-later out err err' env told words s t ending.NoMemory report f r)

-- ---- two words

pub two-words : (words : List (List ℕ)) (a b : List ℕ) → 2 ≤ length words → length words < 3 → a ≡ get_or words 0 a → b ≡ get_or words 1 b → words ≡ a ∷ b ∷ []
two-words [] a b least most is-a is-b = absurd (omega arith)
two-words (x ∷ []) a b least most is-a is-b = absurd (omega arith)
two-words (x ∷ y ∷ []) a b least most is-a is-b = cc
two-words (x ∷ y ∷ z ∷ rest) a b least most is-a is-b = absurd (omega arith)

-- ---- completeness

-- the words hand over one text
one-asked : (words : List (List ℕ)) (a b : List ℕ) → Asks words a → Asks words b → a ≡ b
one-asked words a b asks asks' = one-text (codes "-c") a b (sym asks ∙ asks')

told-is : (told : Option Files) (a b : Files) → IfSome told (λ f. a ≡ f) → told ≡ Some b → a ≡ b
told-is None a b is e = absurd cc
told-is (Some f) a b is e = let same : f ≡ b = cc in is ∙ same

run-complete : (host out err : Type 0) (env : Environ) (told : Option Files) (words : List (List ℕ)) (s t : Streams) (ends : Ending) (report : Report) → IsRun out err env told words s t ends report →
    IsCompleteFor host out err env told words ends
run-complete host out err env told words s t ends report r text script files asks found built is within no-host =
    let same : r.script ≡ script = found.is.only r.script (subst (λ (x : List ℕ). Spells r.script x) (sym (one-asked words text r.text asks r.asks)) r.found.is.spelled) in
    let over : r.files ≡ files = told-is told r.files files r.loaded.is is in
    subst (λ (f : Files). IsComplete out err (Serial script (start env f) default_turns []) ends) over
    (subst (λ (x : Script). IsComplete out err (Serial x (start env r.files) default_turns []) ends) same (plain-complete out err r.script (start env r.files) default_turns s t ends report r.runs))

-- files within the limit do not pass it
within-over : (told : Option Files) (files : Files) → IfSome told (λ f. is_over f ≡ true) → told ≡ Some files → is_over files ≡ false → ⊥
within-over None files over e within = absurd cc
within-over (Some f) files over e within = let same : f ≡ files = cc in subst T (sym over ∙ ap is_over same ∙ within) tt

refused-spells_none : (text : List ℕ) (line : ℕ) (fault : Fault) (script : Script) → IsRefused text line fault → IsScriptOf script text → ⊥
refused-spells_none text line fault script (inl (long, e, f)) found = absurd (omega (arith, long, found.short))
refused-spells_none text line fault script (inr (short, bad)) found = bad.none script found.is.spelled

pub words-complete : (host out err : Type 0) (env : Environ) (told : Option Files) (words : List (List ℕ)) (s t : Streams) (ends : Ending) (report : Report) →
    RunsWords host out err env told words s t ends report → IsCompleteFor host out err env told words ends
words-complete host out err env told words s t (ending.Done status) report r = run-complete host out err env told words s t (ending.Done status) report r
words-complete host out err env told words s t (ending.Spent kind.Turns) report r = run-complete host out err env told words s t (ending.Spent kind.Turns) report r
words-complete host out err env told words s t (ending.Spent kind.Bytes) report r = run-complete host out err env told words s t (ending.Spent kind.Bytes) report r
words-complete host out err env told words s t (ending.Spent kind.Frames) report r = run-complete host out err env told words s t (ending.Spent kind.Frames) report r
words-complete host out err env told words s t (ending.Spent kind.Tree) report (inl (r, u)) = λ text script files asks found built is within no-host.
    absurd (within-over told files r.over is within)
words-complete host out err env told words s t (ending.Spent kind.Tree) report (inr r) = run-complete host out err env told words s t (ending.Spent kind.Tree) report r
words-complete host out err env told words s t ending.OutFault report r = run-complete host out err env told words s t ending.OutFault report r
words-complete host out err env told words s t ending.HostFault report (r, u) = λ text script files asks found built is within no-host. absurd (no-host r.rose)
words-complete host out err env told words s t (ending.Syntax line fault) report (e, u) = λ text script files asks found built is within no-host.
    absurd (refused-spells_none text line fault script (subst (λ (x : List ℕ). IsRefused x line fault) (one-asked words e.text text e.asks asks) e.finds) found)
words-complete host out err env told words s t ending.Unbuilt report (inl none, u) = λ text script files asks found built is within no-host. absurd (none text asks)
words-complete host out err env told words s t ending.Unbuilt report (inr e, none) = λ text script files asks found built is within no-host.
    let u : IsUnbuilt text = subst IsUnbuilt (one-asked words e.text text e.asks asks) e.finds in
    let same : u.script ≡ script = found.is.only u.script u.found.is.spelled in
    absurd (subst T (sym (ap is_built same) ∙ u.unbuilt) (subst T (sym built) tt))
words-complete host out err env told words s t ending.NoMemory report r = λ text script files asks found built is within no-host status e no-out no-err. inr refl
