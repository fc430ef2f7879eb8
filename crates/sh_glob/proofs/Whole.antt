-- The walk is a filter.
use Rattle.std.proofs.Common.{◌≡◌, ℕ, Bool, true, false, not, ◌&&◌, ◌||◌, List, [], ◌∷◌, ◌++◌, inl, inr, map, refl, sym, ap, ◌∙◌, subst}
use Rattle.std.specs.Prelude.{nat_eq, ◌==◌, if◌then◌else◌}
use Rattle.std.specs.List.{AllByRecursion as ByRecursion, list_any}
use Rattle.std.proofs.lemmas.Cmp.{eq_by_cmp_equiv}
use Rattle.hs_text.proofs.Lists.{names_total}
use Rattle.hs_world.specs.Files.{Files}
use Rattle.hs_world.specs.Names.{same_name}
use Rattle.hs_world.specs.Paths.{Path, begins_at, components, has_byte, is_step, slash}
use Rattle.sh_pattern.specs.Items.{items_of}
use Rattle.sh_glob.specs.declared.part.Part.{Part}
use Rattle.sh_glob.specs.declared.part.Part.TheVariants.{Literal, Glob}
use Rattle.sh_glob.specs.declared.place.Place.{Place}
use Rattle.sh_glob.specs.Matches.{ArePaths, IsFileTree, IsFilter, fit, fits, lead_from, leads, matches}
use Rattle.sh_glob.specs.Parts.{bytes_of, is_pattern, part_of, parts_of, put_first, split, takes}
use Rattle.sh_glob.specs.Paths.{matching}
use Rattle.sh_glob.specs.Places.{place, reached_from}
use Rattle.sh_glob.specs.Texts.{texts}
use Rattle.sh_glob.proofs.Chosen.{IsFreePart}
use Rattle.sh_glob.proofs.Components.{IsFree, Name, and_both, and_left, and_right, components_joined, joined, no, or_left, parted, same_is, turned}
use Rattle.sh_glob.proofs.Ordered.{any_in_order, is_in_order, one_list}
use Rattle.sh_glob.proofs.Reaching.{HasText, lead_first, lead_more, lead_rest, reaches, reaching, starting, starts}
use Rattle.sh_glob.proofs.Somewhere.{Somewhere}

-- ---- the components of a field have no slashes

abbrev Component : Type 0
Component = List (ℕ × Bool)

abbrev AreFreeOf : List Component → Type 0
AreFreeOf cs = ByRecursion (λ (c : Component). IsFree (bytes_of c)) cs

put_free : (x : ℕ × Bool) (cs : List Component) → nat_eq x.0 slash ≡ false → AreFreeOf cs → AreFreeOf (put_first x cs)
put_free x [] e f = (ap (λ (s : Bool). s || false) (turned x.0 slash e), tt)
put_free x (c ∷ cs) e f = (ap (λ (s : Bool). s || has_byte slash (bytes_of c)) (turned x.0 slash e) ∙ f.0, f.1)

split_free : (field : Component) → AreFreeOf (split field)
split_free [] = (refl, tt)
split_free (x ∷ r) = by (split_free r) (x.0 == slash) refl
  where
    by : AreFreeOf (split r) → (s : Bool) → (x.0 == slash) ≡ s → AreFreeOf (if s then [] ∷ split r else put_first x (split r))
    by f true e = (refl, f)
    by f false e = put_free x (split r) e f

part_free : (c : Component) → IsFree (bytes_of c) → IsFreePart (part_of c)
part_free c f = elim (is_pattern c) as (λ b. IsFreePart (if b then Glob (items_of c) else Literal (bytes_of c))) [ true ↦ tt | false ↦ f ]

parts_free : (cs : List Component) → AreFreeOf cs → ByRecursion IsFreePart (map part_of cs)
parts_free [] f = tt
parts_free (c ∷ cs) f = (part_free c f.0, parts_free cs f.1)

-- ---- all texts

any_text : (x : Name) (ps : List Place) → list_any (same_name x) (texts ps) ≡ true → Somewhere (HasText x) ps
any_text x [] h = absurd (no (sym h))
any_text x (p ∷ ps) h = by (any_text x ps) (same_name x p.text) refl h
  where
    by : (list_any (same_name x) (texts ps) ≡ true → Somewhere (HasText x) ps) → (s : Bool) → same_name x p.text ≡ s → (s || list_any (same_name x) (texts ps)) ≡ true → Somewhere (HasText x) (p ∷ ps)
    by more true s t = inl (sym (same_is x p.text s))
    by more false s t = inr (more t)

text_any : (x : Name) (ps : List Place) → Somewhere (HasText x) ps → list_any (same_name x) (texts ps) ≡ true
text_any x [] h = absurd h
text_any x (p ∷ ps) (inl e) = ap (λ (s : Bool). s || list_any (same_name x) (texts ps)) (ap (same_name x) e ∙ (eq_by_cmp_equiv names_total).refl x)
text_any x (p ∷ ps) (inr h) = either (same_name x p.text) (list_any (same_name x) (texts ps)) (text_any x ps h)
  where
    either : (a b : Bool) → b ≡ true → (a || b) ≡ true
    either true b e = refl
    either false b e = e

-- a text that is reached leads to an entry by components that fit
walk_passes : (t : Files) (at : Path) (parts : List Part) (text : Name) → IsFileTree t → ByRecursion IsFreePart parts → Somewhere (HasText text) (reached_from t at parts)
    → (lead_from t at (components text) ≡ true) × (fit parts (components text) ≡ true)
walk_passes t at [] text tree f h = absurd h
walk_passes t at (part ∷ parts) text tree f h =
    let s = starts t [] part parts text (place [] at) tree f.0 (reaches t parts text _ tree f.1 h) in
    let c = s.component in
    let g = s.has in
    let cs : components text ≡ c ∷ g.components = ap components (sym g.is) ∙ components_joined c g.components s.leading.free g.free in (
      ap (lead_from t at) cs ∙ lead_more t at c g.components s.leading g.leading,
      ap (fit (part ∷ parts)) cs ∙ and_both (fits part c) (fit parts g.components) s.fitting g.fitting,
    )

passes_walk : (t : Files) (at : Path) (parts : List Part) (text : Name) → lead_from t at (components text) ≡ true → fit parts (components text) ≡ true → Somewhere (HasText text) (reached_from t at parts)
passes_walk t at [] text l f = let p = parted text in absurd (no (sym (ap (fit []) (sym p.is) ∙ f)))
passes_walk t at (part ∷ parts) text l f =
    let p = parted text in
    let leading = ap (lead_from t at) (sym p.is) ∙ l in
    let fitting = ap (fit (part ∷ parts)) (sym p.is) ∙ f in
    reaching t parts text _ (starting t [] part parts text (place [] at) (record {
      component = p.first;
      fitting = and_left (fits part p.first) (fit parts p.rest) fitting;
      leading = lead_first t at p.first p.rest p.free leading;
      has = record {
        components = p.rest;
        is = p.text_is;
        fitting = and_right (fits part p.first) (fit parts p.rest) fitting;
        leading = lead_rest t at p.first p.rest leading;
        free = p.rest_free;
      };
    }))

-- ---- where a text begins

has_no_byte : (b : ℕ) (bs : Name) → b ∷ bs ≡ [] → ⊥
has_no_byte b bs e = no (sym (ap (λ (l : Name). elim l [ [] ↦ false | c ∷ cs ↦ true ]) (sym e)))

-- what fits a component with bytes has bytes
has_bytes : (x : ℕ × Bool) (c : Component) (name : Name) → fits (part_of (x ∷ c)) name ≡ true → name ≡ [] → ⊥
has_bytes x c name h e = by (is_pattern (x ∷ c)) h
  where
    by : (b : Bool) → fits (if b then Glob (items_of (x ∷ c)) else Literal (bytes_of (x ∷ c))) name ≡ true → ⊥
    by true f = no (sym (ap (λ (n : Name). not (is_step n)) (sym e) ∙ and_left (not (is_step name)) (takes (items_of (x ∷ c)) name) f))
    by false f = has_no_byte x.0 (bytes_of c) (same_is (bytes_of (x ∷ c)) name f ∙ e)

begins_there : (cwd : Path) (name : Name) (rest : List Name) (text : Name) → name ++ joined rest ≡ text → (name ≡ [] → ⊥) → IsFree name → begins_at cwd text ≡ cwd
begins_there cwd [] rest text e n f = absurd (n refl)
begins_there cwd (b ∷ bs) rest text e n f = ap (begins_at cwd) (sym e) ∙ ap (λ (s : Bool). if s then [] else cwd) (turned slash b (or_left (nat_eq slash b) (has_byte slash bs) f))

abbrev is_some_list : List Component → Bool
is_some_list [] = false
is_some_list (c ∷ cs) = true

some_put : (x : ℕ × Bool) (cs : List Component) → is_some_list (put_first x cs) ≡ true
some_put x [] = refl
some_put x (c ∷ cs) = refl

some_split : (field : Component) → is_some_list (split field) ≡ true
some_split [] = refl
some_split (x ∷ r) = elim (x.0 == slash) as (λ b. is_some_list (if b then [] ∷ split r else put_first x (split r)) ≡ true) [ true ↦ refl | false ↦ some_put x (split r) ]

begins_root : (cwd : Path) (name : Name) (cs : List Component) (rest : List Name) (text : Name) → name ++ joined rest ≡ text → name ≡ [] → fit (map part_of cs) rest ≡ true → is_some_list cs ≡ true → begins_at cwd text ≡ []
begins_root cwd name [] rest text e n f some = absurd (no (sym some))
begins_root cwd name (c ∷ cs) [] text e n f some = absurd (no (sym f))
begins_root cwd name (c ∷ cs) (r ∷ rs) text e n f some = ap (begins_at cwd) (sym e ∙ ap (λ (l : Name). l ++ joined (r ∷ rs)) n)

begins_put : (cwd : Path) (x : ℕ × Bool) (cs : List Component) (text : Name) → fit (map part_of (put_first x cs)) (components text) ≡ true → begins_at cwd text ≡ cwd
begins_put cwd x [] text h =
    let p = parted text in
    let g : fit (part_of (x ∷ []) ∷ []) (p.first ∷ p.rest) ≡ true = ap (fit (part_of (x ∷ []) ∷ [])) (sym p.is) ∙ h in
    begins_there cwd p.first p.rest text p.text_is (has_bytes x [] p.first (and_left (fits (part_of (x ∷ [])) p.first) (fit [] p.rest) g)) p.free
begins_put cwd x (c ∷ cs) text h =
    let p = parted text in
    let g : fit (part_of (x ∷ c) ∷ map part_of cs) (p.first ∷ p.rest) ≡ true = ap (fit (part_of (x ∷ c) ∷ map part_of cs)) (sym p.is) ∙ h in
    begins_there cwd p.first p.rest text p.text_is (has_bytes x c p.first (and_left (fits (part_of (x ∷ c)) p.first) (fit (map part_of cs) p.rest) g)) p.free

begins_by : (cwd : Path) (x : ℕ × Bool) (r : Component) (text : Name) (s : Bool) → (x.0 == slash) ≡ s → fit (map part_of (if s then [] ∷ split r else put_first x (split r))) (components text) ≡ true
    → begins_at cwd text ≡ begins_at cwd (bytes_of (x ∷ r))
begins_by cwd x r text true e h =
    let p = parted text in
    let g : fit (Literal [] ∷ map part_of (split r)) (p.first ∷ p.rest) ≡ true = ap (fit (Literal [] ∷ map part_of (split r))) (sym p.is) ∙ h in
    let none = sym (same_is [] p.first (and_left (same_name [] p.first) (fit (map part_of (split r)) p.rest) g)) in
    begins_root cwd p.first (split r) p.rest text p.text_is none (and_right (same_name [] p.first) (fit (map part_of (split r)) p.rest) g) (some_split r)
    ∙ sym (ap (λ (s : Bool). if s then [] else cwd) e)
begins_by cwd x r text false e h = begins_put cwd x (split r) text h ∙ sym (ap (λ (s : Bool). if s then [] else cwd) e)

-- A text that matches begins where its field does.
begins_same : (cwd : Path) (field : Component) (text : Name) → matches field text ≡ true → begins_at cwd text ≡ begins_at cwd (bytes_of field)
begins_same cwd [] text h =
    let p = parted text in
    let f : fit (Literal [] ∷ []) (p.first ∷ p.rest) ≡ true = ap (fit (Literal [] ∷ [])) (sym p.is) ∙ h in
    let none : [] ≡ p.first = same_is [] p.first (and_left (same_name [] p.first) (fit [] p.rest) f) in
    ap (begins_at cwd) (sym p.text_is ∙ ap (λ (n : Name). n ++ joined p.rest) (sym none) ∙ ap joined (last p.rest (and_right (same_name [] p.first) (fit [] p.rest) f)))
  where
    last : (rest : List Name) → fit [] rest ≡ true → rest ≡ []
    last [] e = refl
    last (r ∷ rs) e = absurd (no (sym e))
begins_same cwd (x ∷ r) text h = begins_by cwd x r text (x.0 == slash) refl h

-- ---- the law

same_tests : (a b : Bool) → (a ≡ true → b ≡ true) → (b ≡ true → a ≡ true) → a ≡ b
same_tests true true f g = refl
same_tests true false f g = sym (f refl)
same_tests false true f g = g refl
same_tests false false f g = refl

-- What the walk gives are the texts that lead to an entry and match.
are_paths : (t : Files) (cwd : Path) (field : List (ℕ × Bool)) → IsFileTree t → ArePaths t cwd field (matching t cwd field)
are_paths t cwd field tree =
    let at = begins_at cwd (bytes_of field) in
    let found = texts (reached_from t at (parts_of field)) in
    record {
      sorted = is_in_order found;
      each = λ text. any_in_order text found ∙ same_tests (list_any (same_name text) found) (leads t cwd text && matches field text) (λ h.
          let p = walk_passes t at (parts_of field) text tree (parts_free (split field) (split_free field)) (any_text text (reached_from t at (parts_of field)) h) in
          and_both (leads t cwd text) (matches field text) (ap (λ (q : Path). lead_from t q (components text)) (begins_same cwd field text p.1) ∙ p.0) p.1)
          (λ h.
          let m = and_right (leads t cwd text) (matches field text) h in
          let l = and_left (leads t cwd text) (matches field text) h in
          text_any text (reached_from t at (parts_of field)) (passes_walk t at (parts_of field) text (ap (λ (q : Path). lead_from t q (components text)) (sym (begins_same cwd field text m)) ∙ l) m));
    }

pub is_filter : IsFilter
is_filter t cwd field paths tree = (
  λ a.
      let found = are_paths t cwd field tree in
      one_list paths (matching t cwd field) a.sorted found.sorted (λ text. a.each text ∙ sym (found.each text)),
  λ e. subst (ArePaths t cwd field) (sym e) (are_paths t cwd field tree),
)
