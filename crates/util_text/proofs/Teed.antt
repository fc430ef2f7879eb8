-- Files that are written, and what a view showed of them.
use Rattle.std.proofs.Common.{◌≡◌, Bool, true, false, not, ℕ, List, [], ◌∷◌, ◌++◌, refl, sym, ap, ◌∙◌, subst, append-nil}
use Rattle.std.specs.Prelude.{◌&&◌, Option, Some, None, Result, Ok}
use Rattle.hs_world.specs.Files.{entry_at, is_dir, is_file, is_other, kind_of}
use Rattle.hs_world.specs.Paths.{Path, parent}
use Rattle.hs_world.specs.World.{WorldData, is_valid}
use Rattle.hs_world.specs.declared.effect.Effect.TheVariants.{Put}
use Rattle.hs_world.specs.declared.entry.Entry.{Entry}
use Rattle.hs_world.specs.declared.entry.Entry.TheVariants.{File, Dir, Other}
use Rattle.hs_world.specs.declared.entry.Kind.{Kind}
use Rattle.hs_world.specs.declared.entry.Kind.TheVariants as kind
use Rattle.hs_view.specs.Seen.{Shows}
use Rattle.hs_view.specs.View.{Viewed, Keeps, Showed}
use Rattle.hs_view.proofs.Keeping.{showed_back, showed_earlier}
use Rattle.util_text.specs.Teeing.{is_folder, is_free}

-- ---- what is at a path

pub folder_kind : (e : Option Entry) → is_folder (kind_of e) ≡ is_dir e
folder_kind None = refl
folder_kind (Some (File bytes)) = refl
folder_kind (Some Dir) = refl
folder_kind (Some Other) = refl

-- whether a folder is for a file
pub folder_told : (path folder at : Path) (k : Kind) (r b : Bool) (u : WorldData) → at ≡ parent folder → folder ≡ path → kind_of (entry_at u.tree at) ≡ k → r ≡ is_folder k → r ≡ b → is_dir (entry_at u.tree (parent path)) ≡ b
folder_told path folder at k r b u e f answer is has =
    sym (folder_kind (entry_at u.tree (parent path)))
    ∙ ap (λ (p : Path). is_folder (kind_of (entry_at u.tree p))) (sym (e ∙ ap parent f))
    ∙ ap is_folder answer
    ∙ sym is
    ∙ has

pub file_kind : (e : Option Entry) → kind_of e ≡ kind.File → is_file e ≡ true
file_kind None h = cc
file_kind (Some (File bytes)) h = refl
file_kind (Some Dir) h = cc
file_kind (Some Other) h = cc

pub absent_free : (e : Option Entry) → kind_of e ≡ kind.Absent → is_free e ≡ true
absent_free None h = refl
absent_free (Some (File bytes)) h = cc
absent_free (Some Dir) h = cc
absent_free (Some Other) h = cc

pub file_free : (e : Option Entry) → is_file e ≡ true → is_free e ≡ true
file_free None h = cc
file_free (Some (File bytes)) h = refl
file_free (Some Dir) h = cc
file_free (Some Other) h = cc

all_three : (a b c : Bool) → a ≡ true → (b && c) ≡ true → (a && b && c) ≡ true
all_three true b c h i = i
all_three false b c h i = h

pub put_valid : (path : Path) (text : List ℕ) (u : WorldData) → is_dir (entry_at u.tree (parent path)) ≡ true → is_free (entry_at u.tree path) ≡ true → is_valid (Put path text) u ≡ true
put_valid path text u h i = all_three (is_dir (entry_at u.tree (parent path))) (not (is_dir (entry_at u.tree path))) (not (is_other (entry_at u.tree path))) h i

-- ---- what was shown

-- what a read told is so in each state that the view shows then
pub told_now : {B A H : Type 0} (seen : Shows B) (a b : Viewed B) (x : A) (P : WorldData → Type 0) → Keeps {H = H} seen a b (Ok x) → b.effects ≡ a.effects → ((u : WorldData) → Showed seen a b u → P u) → (u : WorldData) → Showed seen b b u → P u
told_now {H} seen a b x P k e f u s =
    let (v, shown, same) = showed_back {H = H} seen a b b x [] u k (e ∙ sym (append-nil a.effects)) s in
    subst P (sym same) (f v shown)

-- what was so before a read is so then
pub kept_now : {B A H : Type 0} (seen : Shows B) (a b : Viewed B) (x : A) (P : WorldData → Type 0) → Keeps {H = H} seen a b (Ok x) → b.effects ≡ a.effects → ((u : WorldData) → Showed seen a a u → P u) → (u : WorldData) → Showed seen b b u → P u
kept_now {A} {H} seen a b x P k e f = told_now {H = H} seen a b x P k e (λ u s. f u (showed_earlier {A = A} {H = H} seen a a b (Ok x) u k s))
