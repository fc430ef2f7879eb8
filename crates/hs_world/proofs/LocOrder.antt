-- The order of locations tells all of them apart.
use Rattle.std.proofs.Common.{◌≡◌, refl, sym, ◌∙◌}
use Rattle.std.specs.declared.cmp.Ordering.{Ordering}
use Rattle.std.specs.declared.cmp.Ordering.TheVariants.{Less, Equal, Greater}
use Rattle.std.specs.Ordering.{nat_cmp, ordering_then}
use Rattle.std.specs.FinMap.{IsAntisymmetric, nat_cmp-IsAntisymmetric}
use Rattle.hs_world.specs.Names.{path_cmp}
use Rattle.hs_world.specs.Locs.{part_of, subject_of, descriptor_of, loc_at, loc_back, loc_cmp}
use Rattle.hs_world.specs.declared.loc.Loc.{Loc}
use Rattle.hs_world.proofs.Maps.{paths_same}

tied : (r s : Ordering) → ordering_then r s ≡ Equal → (r ≡ Equal) × (s ≡ Equal)
tied Less s h = cc
tied Equal s h = (refl, h)
tied Greater s h = cc

pub locs_same : IsAntisymmetric loc_cmp
locs_same x y h =
    let t = tied (nat_cmp (part_of x) (part_of y)) (ordering_then (path_cmp (subject_of x) (subject_of y)) (nat_cmp (descriptor_of x) (descriptor_of y))) h in
    let u = tied (path_cmp (subject_of x) (subject_of y)) (nat_cmp (descriptor_of x) (descriptor_of y)) t.1 in
    let a : part_of x ≡ part_of y = nat_cmp-IsAntisymmetric (part_of x) (part_of y) t.0 in
    let b : subject_of x ≡ subject_of y = paths_same (subject_of x) (subject_of y) u.0 in
    let d : descriptor_of x ≡ descriptor_of y = nat_cmp-IsAntisymmetric (descriptor_of x) (descriptor_of y) u.1 in
    sym (loc_back x) ∙ (λ i. loc_at (a i) (b i) (d i)) ∙ loc_back y
