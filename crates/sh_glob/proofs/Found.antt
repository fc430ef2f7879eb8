-- What reads tell of places.
use Rattle.std.proofs.Common.{◌≡◌, ℕ, Bool, true, false, List, [], ◌∷◌, length, refl, sym, ap, arith}
use Rattle.std.proofs.lemmas.Bool.{eqb-true}
use Rattle.std.specs.Prelude.{◌==◌, Option, Some, None, if◌then◌else◌}
use Rattle.hs_world.specs.Files.{Files, entry_at, is_absent, is_dir, kind_of}
use Rattle.hs_world.specs.Paths.{Path, begins_at}
use Rattle.hs_world.specs.World.{WorldData}
use Rattle.hs_world.specs.declared.entry.Entry.{Entry}
use Rattle.hs_world.specs.declared.entry.Entry.TheVariants.{File, Dir, Other}
use Rattle.sh_glob.specs.Parts.{begins_with_slash, bytes_of}
use Rattle.sh_glob.specs.Paths.{field_paths, is_noglob, itself, matching, or_itself, pattern_paths}
use Rattle.sh_glob.specs.Parts.{is_pattern}
use Rattle.sh_glob.specs.Places.{is_absent_kind, is_folder_kind}

pub folder_kind : (e : Option Entry) → is_dir e ≡ is_folder_kind (kind_of e)
folder_kind None = refl
folder_kind (Some (File bytes)) = refl
folder_kind (Some Dir) = refl
folder_kind (Some Other) = refl

pub absent_kind : (e : Option Entry) → is_absent e ≡ is_absent_kind (kind_of e)
absent_kind None = refl
absent_kind (Some (File bytes)) = refl
absent_kind (Some Dir) = refl
absent_kind (Some Other) = refl

long : {X : Type 0} (x : X) (xs : List X) → length (x ∷ xs) ≡ 0 → ⊥
long x xs e = omega (arith, e)

pub empty_list : {X : Type 0} (xs : List X) → (length xs == 0) ≡ true → xs ≡ []
empty_list [] h = refl
empty_list (x ∷ xs) h = absurd (long x xs (eqb-true (length (x ∷ xs)) 0 h))

-- the root has a folder
pub root_folder : (t : Files) (at : Path) → at ≡ [] → is_dir (entry_at t at) ≡ true
root_folder t at e = ap (λ (p : Path). is_dir (entry_at t p)) e

pub begins_root : (cwd : Path) (field : List (ℕ × Bool)) → begins_with_slash field ≡ true → begins_at cwd (bytes_of field) ≡ []
begins_root cwd [] h = absurd (let f : false ≡ true = h in cc)
begins_root cwd (x ∷ r) h = ap (λ (b : Bool). if b then [] else cwd) h

pub begins_here : (cwd : Path) (field : List (ℕ × Bool)) → begins_with_slash field ≡ false → begins_at cwd (bytes_of field) ≡ cwd
begins_here cwd [] h = refl
begins_here cwd (x ∷ r) h = ap (λ (b : Bool). if b then [] else cwd) h

-- ---- a field

none_false : false ≡ true → ⊥
none_false e = cc

pub or_none : (paths : List (List ℕ)) (field : List (ℕ × Bool)) → (length paths == 0) ≡ true → itself field ≡ or_itself paths field
or_none paths field h = ap (λ (ps : List (List ℕ)). or_itself ps field) (sym (empty_list paths h))

pub or_some : (paths : List (List ℕ)) (field : List (ℕ × Bool)) → (length paths == 0) ≡ false → paths ≡ or_itself paths field
or_some [] field h = absurd (none_false (sym h))
or_some (p ∷ ps) field h = refl

pub with_noglob : (w : WorldData) (field : List (ℕ × Bool)) → is_noglob w.opts ≡ true → pattern_paths w field ≡ itself field
with_noglob w field h = ap (λ (b : Bool). if b then itself field else or_itself (matching w.tree w.cwd field) field) h

pub without_noglob : (w : WorldData) (field : List (ℕ × Bool)) → is_noglob w.opts ≡ false → pattern_paths w field ≡ or_itself (matching w.tree w.cwd field) field
without_noglob w field h = ap (λ (b : Bool). if b then itself field else or_itself (matching w.tree w.cwd field) field) h

pub of_pattern : (w : WorldData) (field : List (ℕ × Bool)) → is_pattern field ≡ true → field_paths w field ≡ pattern_paths w field
of_pattern w field h = ap (λ (b : Bool). if b then pattern_paths w field else itself field) h

pub of_plain : (w : WorldData) (field : List (ℕ × Bool)) → is_pattern field ≡ false → field_paths w field ≡ itself field
of_plain w field h = ap (λ (b : Bool). if b then pattern_paths w field else itself field) h
