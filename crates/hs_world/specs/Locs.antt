-- An order of locations, for tables of them: first by the part of the state, then by what is asked of it.
use Rattle.std.specs.Prelude.{ℕ, List, [], ◌∷◌, ◌≡◌, refl, nat_eq, cond}
use Rattle.std.specs.Coded.{Coded, code_by, coded×, coded_ℕ}
use Rattle.std.specs.Ordering.{nat_cmp, on, then_cmp}
use Rattle.std.specs.declared.cmp.Ordering.{Ordering}
use Rattle.std.specs.Cmp.{IsTotalOrder, nat_cmp_total}
use Rattle.std.specs.Cmp.Lexicographic.{lists_total, nat_list_cmp_total}
use Rattle.std.proofs.lemmas.Cmp.{on_total, then_total}
use Rattle.hs_world.specs.Names.{path_cmp, texts_code}
use Rattle.hs_world.specs.declared.loc.Loc.{Loc}
use Rattle.hs_world.specs.declared.loc.Loc.TheVariants.{Kind, Bytes, Names, Var, Func, Params, Status, Cwd, Opts, Input, Routes, Ends, Captured, Kept}

-- the number of a part
abbrev pub part_of : Loc → ℕ
part_of (Kind path) = 0
part_of (Bytes path) = 1
part_of (Names path) = 2
part_of (Var name) = 3
part_of (Func name) = 4
part_of Params = 5
part_of Status = 6
part_of Cwd = 7
part_of Opts = 8
part_of Input = 9
part_of Routes = 10
part_of Ends = 11
part_of Captured = 12
part_of (Kept n) = 13

-- the path or the name that is asked for
abbrev pub subject_of : Loc → List (List ℕ)
subject_of (Kind path) = path
subject_of (Bytes path) = path
subject_of (Names path) = path
subject_of (Var name) = name ∷ []
subject_of (Func name) = name ∷ []
subject_of _ = []

abbrev pub descriptor_of : Loc → ℕ
descriptor_of (Kept n) = n
descriptor_of _ = 0

abbrev pub loc_cmp : Loc → Loc → Ordering
loc_cmp = then_cmp (on part_of nat_cmp) (then_cmp (on subject_of path_cmp) (on descriptor_of nat_cmp))

pub locs_total : IsTotalOrder loc_cmp
locs_total = then_total (on_total part_of nat_cmp_total) (then_total (on_total subject_of (lists_total nat_list_cmp_total)) (on_total descriptor_of nat_cmp_total))

abbrev pub first_name : List (List ℕ) → List ℕ
first_name [] = []
first_name (x ∷ xs) = x

-- the location of a part, a subject and a descriptor
abbrev pub loc_at : ℕ → List (List ℕ) → ℕ → Loc
loc_at n p d =
    cond (nat_eq n 0) (Kind p) (cond (nat_eq n 1) (Bytes p) (cond (nat_eq n 2) (Names p) (cond (nat_eq n 3) (Var (first_name p)) (cond (nat_eq n 4) (Func (first_name p))
    (cond (nat_eq n 5) Params (cond (nat_eq n 6) Status (cond (nat_eq n 7) Cwd (cond (nat_eq n 8) Opts (cond (nat_eq n 9) Input (cond (nat_eq n 10) Routes (cond (nat_eq n 11) Ends (cond (nat_eq n 12) Captured (Kept d)))))))))))))

abbrev pub loc_back : (x : Loc) → loc_at (part_of x) (subject_of x) (descriptor_of x) ≡ x
loc_back (Kind p) = refl
loc_back (Bytes p) = refl
loc_back (Names p) = refl
loc_back (Var n) = refl
loc_back (Func n) = refl
loc_back Params = refl
loc_back Status = refl
loc_back Cwd = refl
loc_back Opts = refl
loc_back Input = refl
loc_back Routes = refl
loc_back Ends = refl
loc_back Captured = refl
loc_back (Kept n) = refl

abbrev pub loc_code : Coded Loc
loc_code = code_by (ℕ × (List (List ℕ) × ℕ)) (coded× coded_ℕ (coded× texts_code coded_ℕ)) (λ x. (part_of x, (subject_of x, descriptor_of x))) (λ p. loc_at p.0 p.1.0 p.1.1) loc_back
