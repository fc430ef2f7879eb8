-- What may stand in place of a component is what fits it and leads to an entry.
use Rattle.std.proofs.Common.{◌≡◌, ℕ, Bool, true, false, not, ◌&&◌, List, [], ◌∷◌, inl, inr, refl, sym, ap, ◌∙◌, subst}
use Rattle.std.specs.Prelude.{Some, None, if◌then◌else◌}
use Rattle.std.specs.FinMap.{keys}
use Rattle.std.specs.Str.{chars, is_utf8}
use Rattle.std.proofs.lemmas.Cmp.{eq_by_cmp_equiv}
use Rattle.hs_text.proofs.Lists.{names_total}
use Rattle.hs_world.specs.Files.{Files, entry_at, is_absent, is_dir, names_in}
use Rattle.hs_world.specs.Paths.{Path, dot, dots, go, has_byte, is_component, is_name, is_step, resolve, slash}
use Rattle.sh_glob.specs.declared.part.Part.{Part}
use Rattle.sh_glob.specs.declared.part.Part.TheVariants.{Literal, Glob}
use Rattle.sh_glob.specs.Matches.{IsFileTree, fits}
use Rattle.sh_glob.specs.Parts.{takes}
use Rattle.sh_glob.specs.Places.{choices, is_entry, is_there, led, one_if, taken}
use Rattle.sh_glob.proofs.Components.{IsFree, Name, Step, nothing, stay, up, and_left, and_right, and_both, no, no_step, not_of, of_not, resolve_right, resolve_wrong, same_is, steps}
use Rattle.sh_glob.proofs.Entries.{entry_named, folder_there, in_folder, name_has_entry, named, parent_there}
use Rattle.sh_glob.proofs.Somewhere.{Somewhere, passed_from, passed_to, somewhere_as}

-- A component leads from a folder to an entry.
pub record Leads (t : Files) (at : Path) (c : Name) : Type 0 where
  pub free : IsFree c
  pub folder : is_dir (entry_at t at) ≡ true
  pub right : is_component c ≡ true
  pub there : is_absent (entry_at t (go at c)) ≡ false

-- no slash stands in it
abbrev pub IsFreePart : Part → Type 0
IsFreePart (Literal bytes) = IsFree bytes
IsFreePart (Glob items) = Unit {0}

pub led_there : (at : Path) (c : Name) → IsFree c → is_component c ≡ true → led at c ≡ Some (go at c)
led_there at [] f h = refl
led_there at (b ∷ bs) f h = resolve_right at b bs f h

-- ---- steps

right_nothing : is_component [] ≡ true
unfolding is_utf8 chars
right_nothing = refl

right_dot : is_component dot ≡ true
unfolding is_utf8 chars lib.Utf8.encode
right_dot = refl

right_dots : is_component dots ≡ true
unfolding is_utf8 chars lib.Utf8.encode
right_dots = refl

step_leads : (t : Files) (at : Path) (c : Name) → IsFileTree t → Step c → is_dir (entry_at t at) ≡ true → Leads t at c
step_leads t at c tree (nothing e) h = subst (Leads t at) (sym e) (record { free = refl; folder = h; right = right_nothing; there = folder_there (entry_at t at) h })
step_leads t at c tree (stay e) h = subst (Leads t at) (sym e) (record { free = refl; folder = h; right = right_dot; there = folder_there (entry_at t at) h })
step_leads t at c tree (up e) h = subst (Leads t at) (sym e) (record { free = refl; folder = h; right = right_dots; there = parent_there t at tree.in_folders h })

-- ---- entries

entry_of : (t : Files) (at : Path) (b : ℕ) (bs : Name) → IsFree (b ∷ bs) → is_entry t (resolve at (b ∷ bs)) ≡ true → (is_component (b ∷ bs) ≡ true) × (is_absent (entry_at t (go at (b ∷ bs))) ≡ false)
entry_of t at b bs f h = by (is_component (b ∷ bs)) refl
  where
    by : (r : Bool) → is_component (b ∷ bs) ≡ r → (is_component (b ∷ bs) ≡ true) × (is_absent (entry_at t (go at (b ∷ bs))) ≡ false)
    by true e = (e, of_not (is_absent (entry_at t (go at (b ∷ bs)))) (ap (is_entry t) (sym (resolve_right at b bs f e)) ∙ h))
    by false e = absurd (no (sym (ap (is_entry t) (sym (resolve_wrong at b bs f e)) ∙ h)))

entry_leads : (t : Files) (at : Path) (c : Name) → IsFileTree t → IsFree c → is_step c ≡ false → is_entry t (resolve at c) ≡ true → Leads t at c
entry_leads t at [] tree f s h = absurd (no s)
entry_leads t at (b ∷ bs) tree f s h =
    let e = entry_of t at b bs f h in
    record {
      free = f;
      folder = in_folder t at (b ∷ bs) tree.in_folders (ap (λ (p : Path). is_absent (entry_at t p)) (sym (no_step at (b ∷ bs) s)) ∙ e.1);
      right = e.0;
      there = e.1;
    }

there_leads : (t : Files) (at : Path) (c : Name) → IsFileTree t → IsFree c → is_there t at c ≡ true → Leads t at c
there_leads t at c tree f h = by (is_step c) refl h
  where
    by : (s : Bool) → is_step c ≡ s → (if s then is_dir (entry_at t at) else is_entry t (resolve at c)) ≡ true → Leads t at c
    by true s r = step_leads t at c tree (steps c s) r
    by false s r = entry_leads t at c tree f s r

leads_there : (t : Files) (at : Path) (c : Name) → Leads t at c → is_there t at c ≡ true
leads_there t at c l = by (is_step c) refl
  where
    entry : (x : Name) → Leads t at x → is_step x ≡ false → is_entry t (resolve at x) ≡ true
    entry [] k s = absurd (no s)
    entry (b ∷ bs) k s = ap (is_entry t) (resolve_right at b bs k.free k.right) ∙ not_of (is_absent (entry_at t (go at (b ∷ bs)))) k.there

    by : (s : Bool) → is_step c ≡ s → (if s then is_dir (entry_at t at) else is_entry t (resolve at c)) ≡ true
    by true s = l.folder
    by false s = entry c l s

-- the name of an entry
name_leads : (t : Files) (at : Path) (c : Name) → is_name c ≡ true → is_dir (entry_at t at) ≡ true → Somewhere (λ m. m ≡ c) (names_in at (keys t)) → Leads t at c
name_leads t at c n h s =
    let front = and_left (not (has_byte slash c) && not (is_step c)) (is_component c) n in
    let none = of_not (is_step c) (and_right (not (has_byte slash c)) (not (is_step c)) front) in
    record {
      free = of_not (has_byte slash c) (and_left (not (has_byte slash c)) (not (is_step c)) front);
      folder = h;
      right = and_right (not (has_byte slash c) && not (is_step c)) (is_component c) n;
      there = ap (λ (p : Path). is_absent (entry_at t p)) (no_step at c none) ∙ name_has_entry t at c s;
    }

-- ---- choices

-- a component with a property that fits a part and leads to an entry
pub record Chosen (Q : Name → Type 0) (t : Files) (at : Path) (part : Part) : Type 0 where
  pub component : Name
  pub fitting : fits part component ≡ true
  pub leading : Leads t at component
  pub has : Q component

-- it stands there with all that is known of it
found : (Q : Name → Type 0) (names : List Name) → Somewhere Q names → (n : Name) × Q n × Somewhere (λ m. m ≡ n) names
found Q [] h = absurd h
found Q (n ∷ ns) (inl q) = (n, q, inl refl)
found Q (n ∷ ns) (inr h) = let r = found Q ns h in (r.0, r.1, inr r.2)

at_itself : (Q : Name → Type 0) (n : Name) (names : List Name) → Q n → Somewhere (λ m. m ≡ n) names → Somewhere Q names
at_itself Q n names q h = somewhere_as (λ m. m ≡ n) Q (λ m e. subst Q (sym e) q) names h

pub chosen : (Q : Name → Type 0) (t : Files) (at : Path) (part : Part) → IsFileTree t → IsFreePart part → Somewhere Q (choices t at part) → Chosen Q t at part
chosen Q t at (Literal x) tree f h = by (is_there t at x) refl h
  where
    by : (b : Bool) → is_there t at x ≡ b → Somewhere Q (one_if b x) → Chosen Q t at (Literal x)
    by true e (inl q) = record { component = x; fitting = (eq_by_cmp_equiv names_total).refl x; leading = there_leads t at x tree f e; has = q }
    by true e (inr r) = absurd r
    by false e r = absurd r
chosen Q t at (Glob items) tree f h = by (is_dir (entry_at t at)) refl h
  where
    by : (b : Bool) → is_dir (entry_at t at) ≡ b → Somewhere Q (taken items (if b then Some (names_in at (keys t)) else None)) → Chosen Q t at (Glob items)
    by true e r =
        let kept = passed_from Q (takes items) (names_in at (keys t)) r in
        let one = found (λ n. (is_name n ≡ true) × ((takes items n ≡ true) × Q n)) (names_in at (keys t)) (named (λ n. (takes items n ≡ true) × Q n) at (keys t) tree.named kept) in
        let right = and_left (not (has_byte slash one.0) && not (is_step one.0)) (is_component one.0) one.1.0 in
        record {
          component = one.0;
          fitting = and_both (not (is_step one.0)) (takes items one.0) (and_right (not (has_byte slash one.0)) (not (is_step one.0)) right) one.1.1.0;
          leading = name_leads t at one.0 one.1.0 e one.2;
          has = one.1.1.1;
        }
    by false e r = absurd r

pub choosing : (Q : Name → Type 0) (t : Files) (at : Path) (part : Part) → Chosen Q t at part → Somewhere Q (choices t at part)
choosing Q t at (Literal x) c =
    let is : x ≡ c.component = same_is x c.component c.fitting in
    let q : Q x = subst Q (sym is) c.has in
    subst (λ (b : Bool). Somewhere Q (one_if b x)) (sym (leads_there t at x (subst (Leads t at) (sym is) c.leading))) (inl q)
choosing Q t at (Glob items) c =
    let x = c.component in
    let l = c.leading in
    let none : is_step x ≡ false = of_not (is_step x) (and_left (not (is_step x)) (takes items x) c.fitting) in
    let there = entry_named t at x (ap (λ (p : Path). is_absent (entry_at t p)) (sym (no_step at x none)) ∙ l.there) in
    subst (λ (b : Bool). Somewhere Q (taken items (if b then Some (names_in at (keys t)) else None))) (sym l.folder)
    (passed_to Q (takes items) (names_in at (keys t)) (at_itself (λ n. (takes items n ≡ true) × Q n) x (names_in at (keys t)) (and_right (not (is_step x)) (takes items x) c.fitting, c.has) there))
