-- The walk reaches the texts whose components fit and lead on, and no others.
use Rattle.std.proofs.Common.{◌≡◌, true, not, ◌&&◌, List, [], ◌∷◌, ◌++◌, inl, inr, refl, sym, ◌∙◌, subst, append_assoc, append-nil}
use Rattle.std.specs.Prelude.{Option, Some}
use Rattle.std.specs.List.{AllByRecursion as ByRecursion}
use Rattle.hs_world.specs.Files.{Files, entry_at, is_absent, is_dir}
use Rattle.hs_world.specs.Paths.{Path, go, is_component}
use Rattle.sh_glob.specs.declared.part.Part.{Part}
use Rattle.sh_glob.specs.declared.place.Place.{Place}
use Rattle.sh_glob.specs.Matches.{IsFileTree, fit, fits, lead_from}
use Rattle.sh_glob.specs.Places.{choices, led, on_by, on_from, on_from_all, place, placed, reached, slashed}
use Rattle.sh_glob.proofs.Chosen.{Chosen, IsFreePart, Leads, choosing, chosen, led_there}
use Rattle.sh_glob.proofs.Components.{AreFree, IsFree, Name, and_both, and_left, and_right, joined, no, not_of, of_not}
use Rattle.sh_glob.proofs.Somewhere.{Somewhere, joined_from, joined_to, somewhere_as}

-- By components that fit these parts and lead on, a place becomes one with this text.
pub record Goes (t : Files) (parts : List Part) (text : Name) (from : Place) : Type 0 where
  pub components : List Name
  pub is : from.text ++ joined components ≡ text
  pub fitting : fit parts components ≡ true
  pub leading : lead_from t from.at components ≡ true
  pub free : AreFree components

-- by a first component, behind these bytes
abbrev pub Starts : Files → Name → Part → List Part → Name → Place → Type 0
Starts t before part parts text from = Chosen (λ c. Goes t parts text (place (from.text ++ before ++ c) (go from.at c))) t from.at part

-- ---- one component

-- what stands at the place that it leads to
at_place : (P : Place → Type 0) (text : Name) (at : Path) (c : Name) (o : Option Path) → o ≡ Some (go at c) → Somewhere P (placed text o) → P (place text (go at c))
at_place P text at c o e h = alone (subst (λ (q : Option Path). Somewhere P (placed text q)) e h)
  where
    alone : Somewhere P (place text (go at c) ∷ []) → P (place text (go at c))
    alone (inl p) = p
    alone (inr r) = absurd r

to_place : (P : Place → Type 0) (text : Name) (at : Path) (c : Name) (o : Option Path) → o ≡ Some (go at c) → P (place text (go at c)) → Somewhere P (placed text o)
to_place P text at c o e p = subst (λ (q : Option Path). Somewhere P (placed text q)) (sym e) (inl p)

pub starts : (t : Files) (before : Name) (part : Part) (parts : List Part) (text : Name) (from : Place) → IsFileTree t → IsFreePart part
    → Somewhere (Goes t parts text) (on_from t before part from) → Starts t before part parts text from
starts t before part parts text from tree f h =
    let c = chosen (λ (x : Name). Somewhere (Goes t parts text) (on_by before from x)) t from.at part tree f (joined_from (Goes t parts text) (on_by before from) (choices t from.at part) h) in
    record {
      component = c.component;
      fitting = c.fitting;
      leading = c.leading;
      has = at_place (Goes t parts text) (from.text ++ before ++ c.component) from.at c.component (led from.at c.component) (led_there from.at c.component c.leading.free c.leading.right) c.has;
    }

pub starting : (t : Files) (before : Name) (part : Part) (parts : List Part) (text : Name) (from : Place) → Starts t before part parts text from → Somewhere (Goes t parts text) (on_from t before part from)
starting t before part parts text from s =
    joined_to (Goes t parts text) (on_by before from) (choices t from.at part)
    (choosing (λ (x : Name). Somewhere (Goes t parts text) (on_by before from x)) t from.at part (record {
      component = s.component;
      fitting = s.fitting;
      leading = s.leading;
      has = to_place (Goes t parts text) (from.text ++ before ++ s.component) from.at s.component (led from.at s.component) (led_there from.at s.component s.leading.free s.leading.right) s.has;
    }))

-- ---- a component more

pub lead_more : (t : Files) (at : Path) (c : Name) (cs : List Name) → Leads t at c → lead_from t (go at c) cs ≡ true → lead_from t at (c ∷ cs) ≡ true
lead_more t at c cs l h =
    let a = is_dir (entry_at t at) in
    let b = is_component c in
    let d = not (is_absent (entry_at t (go at c))) in
    and_both (a && b && d) (lead_from t (go at c) cs) (and_both (a && b) d (and_both a b l.folder l.right) (not_of (is_absent (entry_at t (go at c))) l.there)) h

pub lead_first : (t : Files) (at : Path) (c : Name) (cs : List Name) → IsFree c → lead_from t at (c ∷ cs) ≡ true → Leads t at c
lead_first t at c cs f h =
    let a = is_dir (entry_at t at) in
    let b = is_component c in
    let d = not (is_absent (entry_at t (go at c))) in
    let three = and_left (a && b && d) (lead_from t (go at c) cs) h in
    let two = and_left (a && b) d three in
    record { free = f; folder = and_left a b two; right = and_right a b two; there = of_not (is_absent (entry_at t (go at c))) (and_right (a && b) d three) }

pub lead_rest : (t : Files) (at : Path) (c : Name) (cs : List Name) → lead_from t at (c ∷ cs) ≡ true → lead_from t (go at c) cs ≡ true
lead_rest t at c cs h = and_right (is_dir (entry_at t at) && is_component c && not (is_absent (entry_at t (go at c)))) (lead_from t (go at c) cs) h

behind : (front c rest : Name) → (front ++ slashed ++ c) ++ rest ≡ front ++ (slashed ++ (c ++ rest))
behind front c rest = append_assoc (front ++ slashed) c rest ∙ append_assoc front slashed (c ++ rest)

goes_more : (t : Files) (part : Part) (parts : List Part) (text : Name) (from : Place) → Starts t slashed part parts text from → Goes t (part ∷ parts) text from
goes_more t part parts text from s =
    let c = s.component in
    let g = s.has in
    record {
      components = c ∷ g.components;
      is = sym (behind from.text c (joined g.components)) ∙ g.is;
      fitting = and_both (fits part c) (fit parts g.components) s.fitting g.fitting;
      leading = lead_more t from.at c g.components s.leading g.leading;
      free = (s.leading.free, g.free);
    }

goes_first : (t : Files) (part : Part) (parts : List Part) (text : Name) (from : Place) → Goes t (part ∷ parts) text from → Starts t slashed part parts text from
goes_first t part parts text from g = by g.components g.is g.fitting g.leading g.free
  where
    by : (cs : List Name) → from.text ++ joined cs ≡ text → fit (part ∷ parts) cs ≡ true → lead_from t from.at cs ≡ true → AreFree cs → Starts t slashed part parts text from
    by [] e f l s = absurd (no (sym f))
    by (c ∷ cs) e f l s = record {
      component = c;
      fitting = and_left (fits part c) (fit parts cs) f;
      leading = lead_first t from.at c cs s.0 l;
      has = record {
        components = cs;
        is = behind from.text c (joined cs) ∙ e;
        fitting = and_right (fits part c) (fit parts cs) f;
        leading = lead_rest t from.at c cs l;
        free = s.1;
      };
    }

-- ---- all components

abbrev pub HasText : Name → Place → Type 0
HasText text from = from.text ≡ text

goes_last : (t : Files) (text : Name) (from : Place) → HasText text from → Goes t [] text from
goes_last t text from e = record { components = []; is = append-nil from.text ∙ e; fitting = refl; leading = refl; free = tt }

is_last : (t : Files) (text : Name) (from : Place) → Goes t [] text from → HasText text from
is_last t text from g = by g.components g.is g.fitting
  where
    by : (cs : List Name) → from.text ++ joined cs ≡ text → fit [] cs ≡ true → HasText text from
    by [] e f = sym (append-nil from.text) ∙ e
    by (c ∷ cs) e f = absurd (no (sym f))

pub reaches : (t : Files) (parts : List Part) (text : Name) (places : List Place) → IsFileTree t → ByRecursion IsFreePart parts → Somewhere (HasText text) (reached t parts places) → Somewhere (Goes t parts text) places
reaches t [] text places tree f h = somewhere_as (HasText text) (Goes t [] text) (goes_last t text) places h
reaches t (part ∷ parts) text places tree f h =
    somewhere_as (λ (p : Place). Somewhere (Goes t parts text) (on_from t slashed part p)) (Goes t (part ∷ parts) text)
    (λ p g. goes_more t part parts text p (starts t slashed part parts text p tree f.0 g)) places
    (joined_from (Goes t parts text) (on_from t slashed part) places (reaches t parts text (on_from_all t slashed part places) tree f.1 h))

pub reaching : (t : Files) (parts : List Part) (text : Name) (places : List Place) → Somewhere (Goes t parts text) places → Somewhere (HasText text) (reached t parts places)
reaching t [] text places h = somewhere_as (Goes t [] text) (HasText text) (is_last t text) places h
reaching t (part ∷ parts) text places h =
    reaching t parts text (on_from_all t slashed part places)
    (joined_to (Goes t parts text) (on_from t slashed part) places
    (somewhere_as (Goes t (part ∷ parts) text) (λ (p : Place). Somewhere (Goes t parts text) (on_from t slashed part p))
    (λ p g. starting t slashed part parts text p (goes_first t part parts text p g)) places h))
