-- Lists in which a property holds somewhere.
use Rattle.std.proofs.Common.{◌≡◌, Bool, true, false, cond, List, [], ◌∷◌, ◌++◌, ◌⊎◌, inl, inr, filter, flat_map, refl, sym, subst}

abbrev pub Somewhere : {A : Type 0} → (A → Type 0) → List A → Type 0
Somewhere P [] = ⊥
Somewhere P (x ∷ xs) = P x ⊎ Somewhere P xs

pub somewhere_as : {A : Type 0} (P Q : A → Type 0) → ((x : A) → P x → Q x) → (xs : List A) → Somewhere P xs → Somewhere Q xs
somewhere_as P Q f [] h = h
somewhere_as P Q f (x ∷ xs) (inl p) = inl (f x p)
somewhere_as P Q f (x ∷ xs) (inr h) = inr (somewhere_as P Q f xs h)

-- where it holds nowhere else
pub somewhere_not : {A : Type 0} (P : A → Type 0) → ((x : A) → P x → ⊥) → (xs : List A) → Somewhere P xs → ⊥
somewhere_not P f [] h = h
somewhere_not P f (x ∷ xs) (inl p) = f x p
somewhere_not P f (x ∷ xs) (inr h) = somewhere_not P f xs h

pub in_front : {A : Type 0} (P : A → Type 0) (xs ys : List A) → Somewhere P xs → Somewhere P (xs ++ ys)
in_front P [] ys h = absurd h
in_front P (x ∷ xs) ys (inl p) = inl p
in_front P (x ∷ xs) ys (inr h) = inr (in_front P xs ys h)

pub in_back : {A : Type 0} (P : A → Type 0) (xs ys : List A) → Somewhere P ys → Somewhere P (xs ++ ys)
in_back P [] ys h = h
in_back P (x ∷ xs) ys h = inr (in_back P xs ys h)

further : {A : Type 0} (P : A → Type 0) (x : A) (xs ys : List A) → Somewhere P xs ⊎ Somewhere P ys → Somewhere P (x ∷ xs) ⊎ Somewhere P ys
further P x xs ys (inl h) = inl (inr h)
further P x xs ys (inr h) = inr h

pub in_either : {A : Type 0} (P : A → Type 0) (xs ys : List A) → Somewhere P (xs ++ ys) → Somewhere P xs ⊎ Somewhere P ys
in_either P [] ys h = inr h
in_either P (x ∷ xs) ys (inl p) = inl (inl p)
in_either P (x ∷ xs) ys (inr h) = further P x xs ys (in_either P xs ys h)

-- ---- lists that are joined

pub joined_from : {A B : Type 0} (P : B → Type 0) (f : A → List B) (xs : List A) → Somewhere P (flat_map f xs) → Somewhere (λ x. Somewhere P (f x)) xs
joined_from P f [] h = h
joined_from {A} {B} P f (x ∷ xs) h = by (joined_from P f xs) (in_either P (f x) (flat_map f xs) h)
  where
    by : (Somewhere P (flat_map f xs) → Somewhere (λ y. Somewhere P (f y)) xs) → Somewhere P (f x) ⊎ Somewhere P (flat_map f xs) → Somewhere (λ y. Somewhere P (f y)) (x ∷ xs)
    by more (inl p) = inl p
    by more (inr r) = inr (more r)

pub joined_to : {A B : Type 0} (P : B → Type 0) (f : A → List B) (xs : List A) → Somewhere (λ x. Somewhere P (f x)) xs → Somewhere P (flat_map f xs)
joined_to P f [] h = h
joined_to P f (x ∷ xs) (inl p) = in_front P (f x) (flat_map f xs) p
joined_to P f (x ∷ xs) (inr h) = in_back P (f x) (flat_map f xs) (joined_to P f xs h)

-- ---- elements that pass a test

pub passed_from : {A : Type 0} (P : A → Type 0) (test : A → Bool) (xs : List A) → Somewhere P (filter test xs) → Somewhere (λ x. (test x ≡ true) × P x) xs
passed_from P test [] h = h
passed_from {A} P test (x ∷ xs) h = by (passed_from P test xs) (test x) refl h
  where
    by : (Somewhere P (filter test xs) → Somewhere (λ y. (test y ≡ true) × P y) xs) → (b : Bool) → test x ≡ b → Somewhere P (cond b (x ∷ filter test xs) (filter test xs)) → Somewhere (λ y. (test y ≡ true) × P y) (x ∷ xs)
    by more true t (inl p) = inl (t, p)
    by more true t (inr r) = inr (more r)
    by more false t r = inr (more r)

pub passed_to : {A : Type 0} (P : A → Type 0) (test : A → Bool) (xs : List A) → Somewhere (λ x. (test x ≡ true) × P x) xs → Somewhere P (filter test xs)
passed_to P test [] h = h
passed_to P test (x ∷ xs) (inl p) = subst (λ (b : Bool). Somewhere P (cond b (x ∷ filter test xs) (filter test xs))) (sym p.0) (inl p.1)
passed_to {A} P test (x ∷ xs) (inr h) = by (passed_to P test xs h) (test x)
  where
    by : Somewhere P (filter test xs) → (b : Bool) → Somewhere P (cond b (x ∷ filter test xs) (filter test xs))
    by r true = inr r
    by r false = r
