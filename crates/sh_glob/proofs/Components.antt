-- Texts and their components.
use Rattle.std.proofs.Common.{◌≡◌, ◌≤◌, ℕ, Bool, true, false, not, ◌&&◌, ◌||◌, leb, length, List, [], ◌∷◌, ◌++◌, T, refl, sym, ap, ◌∙◌, subst, arith}
use Rattle.std.proofs.lemmas.Bool.{eqb-true, eq-eqb, leb-true, le-leb}
use Rattle.std.specs.Prelude.{nat_eq, Some, None, if◌then◌else◌}
use Rattle.std.specs.List.{AllByRecursion as ByRecursion}
use Rattle.std.specs.Str.{is_utf8}
use Rattle.hs_text.proofs.Lists.{equal, names_same}
use Rattle.hs_world.specs.Names.{same_name}
use Rattle.hs_world.specs.Paths.{Path, are_components, begins_at, components, dot, dots, go, go_all, has_byte, is_component, is_step, parent, put_byte, resolve, slash}

abbrev pub Name : Type 0
Name = List ℕ

-- ---- tests

pub no : true ≡ false → ⊥
no e = subst T e tt

pub and_left : (a b : Bool) → (a && b) ≡ true → a ≡ true
and_left true b h = refl
and_left false b h = h

pub and_right : (a b : Bool) → (a && b) ≡ true → b ≡ true
and_right true b h = h
and_right false b h = absurd (no (sym h))

pub and_both : (a b : Bool) → a ≡ true → b ≡ true → (a && b) ≡ true
and_both true b h k = k
and_both false b h k = h

pub or_left : (a b : Bool) → (a || b) ≡ false → a ≡ false
or_left true b h = h
or_left false b h = refl

pub or_right : (a b : Bool) → (a || b) ≡ false → b ≡ false
or_right true b h = absurd (no h)
or_right false b h = h

pub of_not : (b : Bool) → not b ≡ true → b ≡ false
of_not true h = absurd (no (sym h))
of_not false h = refl

pub not_of : (b : Bool) → b ≡ false → not b ≡ true
not_of b h = ap not h

pub not_true : (b : Bool) → (b ≡ true → ⊥) → b ≡ false
not_true true h = absurd (h refl)
not_true false h = refl

pub turned : (a b : ℕ) → nat_eq a b ≡ false → nat_eq b a ≡ false
turned a b h = not_true (nat_eq b a) (λ e. no (sym (eq-eqb a b (sym (eqb-true b a e))) ∙ h))

pub same_is : (a b : Name) → same_name a b ≡ true → a ≡ b
same_is a b s = names_same a b (equal _ (subst T (sym s) tt))

-- ---- components without slashes

abbrev pub IsFree : Name → Type 0
IsFree c = has_byte slash c ≡ false

abbrev pub AreFree : List Name → Type 0
AreFree cs = ByRecursion IsFree cs

-- each behind a slash
abbrev pub joined : List Name → Name
joined [] = []
joined (c ∷ cs) = slash ∷ c ++ joined cs

with_byte : (b : ℕ) (bs : Name) → IsFree (b ∷ bs) → components (b ∷ bs) ≡ put_byte b (components bs)
with_byte b bs f = ap (λ (s : Bool). if s then [] ∷ components bs else put_byte b (components bs)) (turned slash b (or_left (nat_eq slash b) (has_byte slash bs) f))

one_more : (c rest : Name) (cs : List Name) → components rest ≡ [] ∷ cs → IsFree c → components (c ++ rest) ≡ c ∷ cs
one_more [] rest cs e f = e
one_more (b ∷ bs) rest cs e f =
    ap (λ (s : Bool). if s then [] ∷ components (bs ++ rest) else put_byte b (components (bs ++ rest))) (turned slash b (or_left (nat_eq slash b) (has_byte slash bs) f))
    ∙ ap (put_byte b) (one_more bs rest cs e (or_right (nat_eq slash b) (has_byte slash bs) f))

of_joined : (cs : List Name) → AreFree cs → components (joined cs) ≡ [] ∷ cs
of_joined [] f = refl
of_joined (c ∷ cs) f = ap (λ (l : List Name). [] ∷ l) (one_more c (joined cs) cs (of_joined cs f.1) f.0)

pub components_joined : (c : Name) (cs : List Name) → IsFree c → AreFree cs → components (c ++ joined cs) ≡ c ∷ cs
components_joined c cs f fs = one_more c (joined cs) cs (of_joined cs fs) f

pub record Parted (text : Name) : Type 0 where
  pub first : Name
  pub rest : List Name
  pub is : components text ≡ first ∷ rest
  pub text_is : first ++ joined rest ≡ text
  pub free : IsFree first
  pub rest_free : AreFree rest

pub parted : (text : Name) → Parted text
parted [] = record { first = []; rest = []; is = refl; text_is = refl; free = refl; rest_free = tt }
parted (b ∷ bs) = by (parted bs) (nat_eq b slash) refl
  where
    by : Parted bs → (s : Bool) → nat_eq b slash ≡ s → Parted (b ∷ bs)
    by p true e = record {
      first = [];
      rest = p.first ∷ p.rest;
      is = ap (λ (s : Bool). if s then [] ∷ components bs else put_byte b (components bs)) e ∙ ap (λ (l : List Name). [] ∷ l) p.is;
      text_is = ap (λ (l : Name). slash ∷ l) p.text_is ∙ ap (λ (c : ℕ). c ∷ bs) (sym (eqb-true b slash e));
      free = refl;
      rest_free = (p.free, p.rest_free);
    }
    by p false e = record {
      first = b ∷ p.first;
      rest = p.rest;
      is = ap (λ (s : Bool). if s then [] ∷ components bs else put_byte b (components bs)) e ∙ ap (put_byte b) p.is;
      text_is = ap (λ (l : Name). b ∷ l) p.text_is;
      free = ap (λ (s : Bool). s || has_byte slash p.first) (turned b slash e) ∙ p.free;
      rest_free = p.rest_free;
    }

-- ---- one component as a path

pub alone : (c : Name) → IsFree c → components c ≡ c ∷ []
alone [] f = refl
alone (b ∷ bs) f = with_byte b bs f ∙ ap (put_byte b) (alone bs (or_right (nat_eq slash b) (has_byte slash bs) f))

short : (c : Name) → is_component c ≡ true → leb (length c) 4096 ≡ true
short c h =
    let few : leb (length c) 255 ≡ true = and_left (leb (length c) 255) (not (has_byte 0 c)) (and_left (leb (length c) 255 && not (has_byte 0 c)) (is_utf8 c) h) in
    let most : length c ≤ 255 = leb-true (length c) 255 few in
    le-leb (length c) 4096 (omega (arith, most))

begins_here : (at : Path) (b : ℕ) (bs : Name) → IsFree (b ∷ bs) → begins_at at (b ∷ bs) ≡ at
begins_here at b bs f = ap (λ (s : Bool). if s then [] else at) (turned slash b (or_left (nat_eq slash b) (has_byte slash bs) f))

one_of : (c : Name) (r : Bool) → is_component c ≡ r → IsFree c → are_components (components c) ≡ r
one_of c true h f = ap are_components (alone c f) ∙ and_both (is_component c) true h refl
one_of c false h f = ap are_components (alone c f) ∙ ap (λ (s : Bool). s && true) h

-- a component that is right leads on
pub resolve_right : (at : Path) (b : ℕ) (bs : Name) → IsFree (b ∷ bs) → is_component (b ∷ bs) ≡ true → resolve at (b ∷ bs) ≡ Some (go at (b ∷ bs))
resolve_right at b bs f h =
    ap (λ (s : Bool). if s then Some (go_all (begins_at at (b ∷ bs)) (components (b ∷ bs))) else None)
    (and_both (leb (length (b ∷ bs)) 4096) (are_components (components (b ∷ bs))) (short (b ∷ bs) h) (one_of (b ∷ bs) true h f))
    ∙ ap (λ (p : Path). Some (go_all p (components (b ∷ bs)))) (begins_here at b bs f)
    ∙ ap (λ (cs : List Name). Some (go_all at cs)) (alone (b ∷ bs) f)

and_none : (a b : Bool) → b ≡ false → (a && b) ≡ false
and_none true b h = h
and_none false b h = refl

-- no other does
pub resolve_wrong : (at : Path) (b : ℕ) (bs : Name) → IsFree (b ∷ bs) → is_component (b ∷ bs) ≡ false → resolve at (b ∷ bs) ≡ None
resolve_wrong at b bs f h =
    ap (λ (s : Bool). if s then Some (go_all (begins_at at (b ∷ bs)) (components (b ∷ bs))) else None)
    (and_none (leb (length (b ∷ bs)) 4096) (are_components (components (b ∷ bs))) (one_of (b ∷ bs) false h f))

-- ---- steps

pub data Step (c : Name) : Type 0 where
  nothing : c ≡ [] → Step c
  stay : c ≡ dot → Step c
  up : c ≡ dots → Step c

pub steps : (c : Name) → is_step c ≡ true → Step c
steps c h = by (same_name c []) refl (same_name c dot) refl (same_name c dots) refl h
  where
    by : (n : Bool) → same_name c [] ≡ n → (d : Bool) → same_name c dot ≡ d → (u : Bool) → same_name c dots ≡ u → ((n || d) || u) ≡ true → Step c
    by true n d e u f t = nothing (same_is c [] n)
    by false n true e u f t = stay (same_is c dot e)
    by false n false e true f t = up (same_is c dots f)
    by false n false e false f t = absurd (no (sym t))

-- what is none leads to an entry of the folder
pub no_step : (at : Path) (c : Name) → is_step c ≡ false → go at c ≡ at ++ c ∷ []
no_step at c h =
    ap (λ (s : Bool). if s then at else if same_name c dots then parent at else at ++ c ∷ []) (or_left (same_name c [] || same_name c dot) (same_name c dots) h)
    ∙ ap (λ (s : Bool). if s then parent at else at ++ c ∷ []) (or_right (same_name c [] || same_name c dot) (same_name c dots) h)
