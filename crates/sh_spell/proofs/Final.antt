-- The script at its end has, at the numbers that a part of it took, what that part put there.
use Rattle.std.proofs.Common.{◌≡◌, ℕ, Bool, ◌<◌, ◌≤◌, List, [], ◌∷◌, ◌++◌, length, get_or, set, Some, refl, ap, ◌∙◌, subst, arith, length-append}
use Rattle.std.specs.Prelude.{slice_get}
use Rattle.std.proofs.lemmas.List.{get_or-set_other, get_or-set_same, length-set}
use Rattle.std.proofs.lemmas.Option.{slice_get-get_or}
use Rattle.sh_syntax.specs.declared.tree.AndOr.{AndOr}
use Rattle.sh_syntax.specs.declared.tree.Command.{Command}
use Rattle.sh_grammar.specs.declared.state.Draft.{Draft}
use Rattle.sh_grammar.specs.Draft.{begin_list, end_list, next_list, begin_leaf, end_leaf, next_leaf, begin_body, end_body, next_body}
use Rattle.sh_spell.proofs.Frame.{Keeps, Extends}

-- From the length of xs on zs begins as ys does, below the length of ys.
pub record Within {A : Type 0} (xs ys zs : List A) : Type 0 where
  pub longer : length ys ≤ length zs
  pub same : (n : ℕ) (d : A) → length xs ≤ n → n < length ys → get_or zs n d ≡ get_or ys n d

within-first : {A : Type 0} (xs ys zs es : List A) → Keeps ys zs → Within xs zs es → Within xs ys es
within-first xs ys zs es k w = record {
  longer = omega (arith, k.longer, w.longer);
  same = λ n d l h. w.same n d l (omega (arith, k.longer)) ∙ k.same n d h;
}

within-second : {A : Type 0} (xs ys zs es : List A) → Keeps xs ys → Within xs zs es → Within ys zs es
within-second xs ys zs es k w = record { longer = w.longer; same = λ n d l h. w.same n d (omega (arith, k.longer)) h }

-- what is between, where a thing of the first number begins and ends round it
within-open : {A : Type 0} (xs ys es : List A) (x v : A) → Within xs (set ys (length xs) v) es → Within (xs ++ x ∷ []) ys es
within-open xs ys es x v w = record {
  longer = omega (arith, w.longer, length-set ys (length xs) v);
  same = λ n d l h.
      w.same n d (omega (arith, length-append xs (x ∷ []))) (omega (arith, length-set ys (length xs) v)) ∙ get_or-set_other ys (length xs) n v d (omega (arith, length-append xs (x ∷ [])));
}

-- what is put at the first number
within-at : {A : Type 0} (xs ys es : List A) (x v : A) → Keeps (xs ++ x ∷ []) ys → Within xs (set ys (length xs) v) es → slice_get es (length xs) ≡ Some v
within-at xs ys es x v k w =
    let lt : length xs < length ys = omega (arith, k.longer, length-append xs (x ∷ [])) in
    slice_get-get_or es (length xs) v (omega (arith, w.longer, length-set ys (length xs) v))
    ∙ ap Some (w.same (length xs) v (omega arith) (omega (arith, length-set ys (length xs) v)) ∙ get_or-set_same ys (length xs) v v lt)

pub record From (s t e : Draft) : Type 0 where
  pub lists : Within s.script.lists t.script.lists e.script.lists
  pub leaves : Within s.script.leaves t.script.leaves e.script.leaves
  pub bodies : Within s.script.bodies t.script.bodies e.script.bodies

pub first : {s t u e : Draft} → Extends t u → From s u e → From s t e
first {s} {t} {u} {e} k f = record {
  lists = within-first s.script.lists t.script.lists u.script.lists e.script.lists k.lists f.lists;
  leaves = within-first s.script.leaves t.script.leaves u.script.leaves e.script.leaves k.leaves f.leaves;
  bodies = within-first s.script.bodies t.script.bodies u.script.bodies e.script.bodies k.bodies f.bodies;
}

pub second : {s t u e : Draft} → Extends s t → From s u e → From t u e
second {s} {t} {u} {e} k f = record {
  lists = within-second s.script.lists t.script.lists u.script.lists e.script.lists k.lists f.lists;
  leaves = within-second s.script.leaves t.script.leaves u.script.leaves e.script.leaves k.leaves f.leaves;
  bodies = within-second s.script.bodies t.script.bodies u.script.bodies e.script.bodies k.bodies f.bodies;
}

-- a list that begins and ends
pub in_list : {s t e : Draft} (n : ℕ) → n ≡ next_list s → (is : List AndOr) → From s (end_list n is t) e → From (begin_list s) t e
in_list {s} {t} {e} n q is f = record {
  lists = within-open s.script.lists t.script.lists e.script.lists _ _ (subst (λ (k : ℕ). Within s.script.lists (set t.script.lists k (record { items = is })) e.script.lists) q f.lists);
  leaves = f.leaves;
  bodies = f.bodies;
}

pub list_at : {s t e : Draft} (n : ℕ) → n ≡ next_list s → (is : List AndOr) → Extends (begin_list s) t → From s (end_list n is t) e → slice_get e.script.lists n ≡ Some (record { items = is })
list_at {s} {t} {e} n q is k f =
    ap (slice_get e.script.lists) q
    ∙ within-at s.script.lists t.script.lists e.script.lists _ _ k.lists (subst (λ (k : ℕ). Within s.script.lists (set t.script.lists k (record { items = is })) e.script.lists) q f.lists)

-- a pipeline
pub in_leaf : {s t e : Draft} (b : Bool) (cs : List Command) → From s (end_leaf (next_leaf s) b cs t) e → From (begin_leaf b s) t e
in_leaf {s} {t} {e} b cs f = record {
  lists = f.lists;
  leaves = within-open s.script.leaves t.script.leaves e.script.leaves _ _ f.leaves;
  bodies = f.bodies;
}

pub leaf_at : {s t e : Draft} (b : Bool) (cs : List Command) → Extends (begin_leaf b s) t → From s (end_leaf (next_leaf s) b cs t) e →
    slice_get e.script.leaves (next_leaf s) ≡ Some (record { bang = b; stages = cs })
leaf_at {s} {t} {e} b cs k f = within-at s.script.leaves t.script.leaves e.script.leaves _ _ k.leaves f.leaves

-- what a function runs
pub in_body : {s t e : Draft} (c : Command) → From s (end_body (next_body s) c t) e → From (begin_body s) t e
in_body {s} {t} {e} c f = record {
  lists = f.lists;
  leaves = f.leaves;
  bodies = within-open s.script.bodies t.script.bodies e.script.bodies _ _ f.bodies;
}

pub body_at : {s t e : Draft} (c : Command) → Extends (begin_body s) t → From s (end_body (next_body s) c t) e → slice_get e.script.bodies (next_body s) ≡ Some c
body_at {s} {t} {e} c k f = within-at s.script.bodies t.script.bodies e.script.bodies _ _ k.bodies f.bodies

within-all : {A : Type 0} (xs ys : List A) → Within xs ys ys
within-all xs ys = record { longer = omega arith; same = λ n d l h. refl }

pub whole : (s e : Draft) → From s e e
whole s e = record {
  lists = within-all s.script.lists e.script.lists;
  leaves = within-all s.script.leaves e.script.leaves;
  bodies = within-all s.script.bodies e.script.bodies;
}
