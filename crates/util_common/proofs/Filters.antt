-- Operands, one after another.
use Rattle.std.proofs.Common.{◌≡◌, ℕ, ◌+◌, ◌<◌, Bool, true, false, List, [], ◌∷◌, ◌++◌, length, drop, get_or, refl, sym, ap, ◌∙◌, subst}
use Rattle.std.proofs.lemmas.List.{drop_more}
use Rattle.std.specs.Prelude.{Option, Some, None, Result, Ok, Err, IfOk, IsErr, IsErrAnd, if◌then◌else◌}
use Rattle.hs_world.specs.Files.{Files, bytes_of, kind_of}
use Rattle.hs_world.specs.Paths.{Path, resolve}
use Rattle.hs_world.specs.World.{WorldData}
use Rattle.hs_world.specs.declared.effect.Effect.{Effect}
use Rattle.hs_world.specs.declared.entry.Entry.{Entry}
use Rattle.hs_world.specs.declared.entry.Entry.TheVariants.{File, Dir, Other}
use Rattle.hs_world.specs.declared.entry.Kind.TheVariants as kind
use Rattle.hs_view.specs.Acts.{Acts, then_by, answering, only}
use Rattle.hs_view.specs.Seen.{Shows}
use Rattle.hs_view.specs.Steps.{Done, nothing}
use Rattle.hs_view.specs.View.{Viewed}
use Rattle.hs_view.specs.declared.halt.Halt.{Halt}
use Rattle.hs_view.specs.declared.halt.Halt.TheVariants as halt
use Rattle.hs_view.proofs.Acting.{acts_answering, acts_answering_halt, acts_first, acts_memory, acts_then}
use Rattle.hs_view.proofs.Keeping.{keeps_as, keeps_halt}
use Rattle.util_common.specs.Operands.{Progress, Filtered, bytes_content, content_of, content_in, content_taken, input_taken, is_dash, progress_of, status_in, status_of}
use Rattle.util_common.specs.declared.content.Content.{Content}
use Rattle.util_common.specs.declared.content.Content.TheVariants.{Bytes, Refused}
use Rattle.util_common.specs.declared.messages.Why.TheVariants.{NoSuchFile, IsFolder, OtherKind}

-- ---- the content of an operand

pub file_content : (e : Option Entry) → kind_of e ≡ kind.File → bytes_content (bytes_of e) ≡ content_of e
file_content None h = cc
file_content (Some (File bytes)) h = refl
file_content (Some Dir) h = cc
file_content (Some Other) h = cc

pub folder_content : (e : Option Entry) → kind_of e ≡ kind.Dir → content_of e ≡ Refused IsFolder
folder_content None h = cc
folder_content (Some (File bytes)) h = cc
folder_content (Some Dir) h = refl
folder_content (Some Other) h = cc

pub other_content : (e : Option Entry) → kind_of e ≡ kind.Other → content_of e ≡ Refused OtherKind
other_content None h = cc
other_content (Some (File bytes)) h = cc
other_content (Some Dir) h = cc
other_content (Some Other) h = refl

pub no_content : (e : Option Entry) → kind_of e ≡ kind.Absent → content_of e ≡ Refused NoSuchFile
no_content None h = refl
no_content (Some (File bytes)) h = cc
no_content (Some Dir) h = cc
no_content (Some Other) h = cc

pub taken_input : (word : List ℕ) (w : WorldData) → is_dash word ≡ true → input_taken w ≡ content_taken word w
taken_input word w h = ap (λ (b : Bool). if b then input_taken w else nothing (content_in w.tree (resolve w.cwd word)) w) (sym h)

pub taken_named : (word : List ℕ) (w : WorldData) → is_dash word ≡ false → nothing (content_in w.tree (resolve w.cwd word)) w ≡ content_taken word w
taken_named word w h = ap (λ (b : Bool). if b then input_taken w else nothing (content_in w.tree (resolve w.cwd word)) w) (sym h)

-- ---- a text for an operand

ok_err : {A : Type 0} (x : A) (h : Halt) → ◌≡◌ {A = Result A Halt} (Ok x) (Err h) → ⊥
ok_err x h e = cc

same_halt : {A C : Type 0} (h i : Halt) → ◌≡◌ {A = Result C Halt} (Err h) (Err i) → ◌≡◌ {A = Result A Halt} (Err h) (Err i)
same_halt h i e = let x : h ≡ i = cc in ap Err x

-- one effect, and the status that goes with it
pub filtered_emit : {B : Type 0} (stands : List (List ℕ) → Type 0) (seen : Shows B) (e : Effect) (contents : List (List ℕ)) (status : ℕ) (a b : Viewed B) (r : Result ℕ Halt)
    → stands contents → Acts seen (only e status) a b r → Filtered stands seen (only e (progress_of contents status)) a b r
filtered_emit stands seen e contents status a b (Ok x) s t = record {
  progress = Ok (progress_of contents x);
  is = refl;
  acts = acts_answering seen (progress_of contents) (only e status) a b x t;
  behind = s;
}
filtered_emit stands seen e contents status a b (Err h) s t = record {
  progress = Err h;
  is = refl;
  acts = acts_answering_halt seen (progress_of contents) (only e status) a b h t;
  behind = tt;
}

-- behind a first part
pub filtered_then : {B A : Type 0} (stands : List (List ℕ) → Type 0) (seen : Shows B) (one : WorldData → Done A) (rest : A → WorldData → Done Progress) (a b c : Viewed B) (x : A) (r : Result ℕ Halt)
    → Acts seen one a b (Ok x) → Filtered stands seen (rest x) b c r → Filtered stands seen (λ w. then_by (one w) rest w) a c r
filtered_then stands seen one rest a b c x r s f = record { progress = f.progress; is = f.is; acts = acts_then seen one rest a b c x f.progress s f.acts; behind = f.behind }

halt_on : {A : Type 0} (r : Result A Halt) (h : Halt) → IsErr r → IsErrAnd r (λ i. i ≡ h) → r ≡ Err h
halt_on (Err i) h a b = ap Err b
halt_on (Ok x) h a b = absurd b

-- a halt
pub filtered_on : {B : Type 0} (stands : List (List ℕ) → Type 0) (seen : Shows B) (meaning : WorldData → Done Progress) (a b : Viewed B) (h : Halt) (r : Result ℕ Halt)
    → IsErr r → IsErrAnd r (λ i. i ≡ h) → Acts seen meaning a b (Err h) → Filtered stands seen meaning a b r
filtered_on stands seen meaning a b h r e i t = record { progress = Err h; is = halt_on r h e i; acts = t; behind = tt }

-- the same for each state
pub filtered_as : {B : Type 0} (stands : List (List ℕ) → Type 0) (seen : Shows B) (m n : WorldData → Done Progress) (a b : Viewed B) (r : Result ℕ Halt) → m ≡ n → Filtered stands seen m a b r → Filtered stands seen n a b r
filtered_as stands seen m n a b r e f = subst (λ (x : WorldData → Done Progress). Filtered stands seen x a b r) e f

-- ---- what was filtered

answer_of : {B : Type 0} (stands : List (List ℕ) → Type 0) (seen : Shows B) (meaning : WorldData → Done Progress) (a b : Viewed B) (x : ℕ) (p : Result Progress Halt) → ◌≡◌ {A = Result ℕ Halt} (Ok x) (status_in p)
    → Acts seen meaning a b p → IfOk p (λ q. stands q.contents) → (contents : List (List ℕ)) × stands contents × Acts seen meaning a b (Ok (progress_of contents x))
answer_of stands seen meaning a b x (Ok p) e t s =
    let same : p.status ≡ x = cc in
    (p.contents, s, subst (λ (n : ℕ). Acts seen meaning a b (Ok (progress_of p.contents n))) same t)
answer_of stands seen meaning a b x (Err h) e t s = absurd (ok_err x h e)

pub filtered_ok : {B : Type 0} (stands : List (List ℕ) → Type 0) (seen : Shows B) (meaning : WorldData → Done Progress) (a b : Viewed B) (x : ℕ) → Filtered stands seen meaning a b (Ok x)
    → (contents : List (List ℕ)) × stands contents × Acts seen meaning a b (Ok (progress_of contents x))
filtered_ok stands seen meaning a b x f = answer_of stands seen meaning a b x f.progress f.is f.acts f.behind

err_ok : {A : Type 0} (x : A) (h : Halt) → ◌≡◌ {A = Result A Halt} (Err h) (Ok x) → ⊥
err_ok x h e = cc

halt_of : {B : Type 0} (seen : Shows B) (meaning : WorldData → Done Progress) (a b : Viewed B) (h : Halt) (p : Result Progress Halt) → ◌≡◌ {A = Result ℕ Halt} (Err h) (status_in p) → Acts seen meaning a b p → Acts seen meaning a b (Err h)
halt_of seen meaning a b h (Ok p) e t = absurd (err_ok p.status h e)
halt_of {B} seen meaning a b h (Err i) e t = let same : i ≡ h = cc in subst (λ (j : Halt). Acts {A = Progress} seen meaning a b (Err j)) same t

pub filtered_err : {B : Type 0} (stands : List (List ℕ) → Type 0) (seen : Shows B) (meaning : WorldData → Done Progress) (a b : Viewed B) (h : Halt) → Filtered stands seen meaning a b (Err h) → Acts seen meaning a b (Err h)
filtered_err stands seen meaning a b h f = halt_of seen meaning a b h f.progress f.is f.acts

-- the status alone
pub filtered_status : {B : Type 0} (stands : List (List ℕ) → Type 0) (seen : Shows B) (meaning : WorldData → Done Progress) (a b : Viewed B) (r : Result ℕ Halt) → Filtered stands seen meaning a b r
    → Acts seen (λ w. answering status_of (meaning w)) a b r
filtered_status stands seen meaning a b (Ok x) f =
    let t = filtered_ok stands seen meaning a b x f in
    acts_answering seen status_of meaning a b (progress_of t.0 x) t.2
filtered_status stands seen meaning a b (Err h) f = acts_answering_halt seen status_of meaning a b h (filtered_err stands seen meaning a b h f)

pub resolved : (tree : Files) (at cwd : Path) (word bytes : List ℕ) (o p : Option Path) → at ≡ cwd → bytes ≡ word → o ≡ resolve cwd bytes → o ≡ p → content_in tree p ≡ content_in tree (resolve at word)
resolved tree at cwd word bytes o p a b r i = ap (content_in tree) (sym i ∙ r ∙ ap (resolve cwd) b ∙ ap (λ (x : Path). resolve x word) (sym a))

-- the words that are left are the one at hand and those behind it
pub at_hand : (words : List (List ℕ)) (i : ℕ) (word : List ℕ) → i < length words → word ≡ get_or words i word → drop i words ≡ word ∷ drop (i + 1) words
at_hand words i word h is = drop_more words i word h ∙ ap (λ (n : List ℕ). n ∷ drop (i + 1) words) (sym is)
