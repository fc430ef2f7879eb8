-- Fields, as the marks of a word come.
use Rattle.std.proofs.Common.{◌≡◌, ℕ, ◌+◌, ◌<◌, ◌≤◌, Bool, List, [], ◌∷◌, ◌++◌, length, drop, get_or, map, refl, sym, ap, ◌∙◌, subst, append_assoc, append-nil}
use Rattle.std.proofs.lemmas.List.{drop_all, drop_more}
use Rattle.sh_split.specs.Fields.{fields_from, last_of, mark_of, put_first}
use Rattle.sh_split.specs.Splitter.{IsIdle, before, so_far}
use Rattle.sh_split.specs.declared.mark.Mark.{Mark}
use Rattle.sh_split.specs.declared.place.Place.{Place}
use Rattle.sh_split.specs.declared.place.Place.TheVariants.{Between}

abbrev Text : Type 0
Text = List (ℕ × Bool)

before-add : (field : Text) (x : ℕ × Bool) (fs : List Text) → before (field ++ x ∷ []) fs ≡ before field (put_first x fs)
before-add [] x fs = refl
before-add (y ∷ field) x fs = ap (put_first y) (before-add field x fs)

before-end : (field : Text) (fs : List Text) → before field ([] ∷ fs) ≡ field ∷ fs
before-end [] fs = refl
before-end (y ∷ field) fs = ap (put_first y) (before-end field fs)

-- a byte goes to the end of the field
pub so_far-add : (fields : List Text) (field new : Text) (x : ℕ × Bool) (fs : List Text) → new ≡ field ++ x ∷ [] → so_far fields new fs ≡ so_far fields field (put_first x fs)
so_far-add fields field new x fs e = ap (λ (f : Text). fields ++ before f fs) e ∙ ap (λ (gs : List Text). fields ++ gs) (before-add field x fs)

-- the field ends
pub so_far-end : (fields ended : List Text) (field taken new : Text) (fs : List Text) → ended ≡ fields ++ taken ∷ [] → taken ≡ field → new ≡ [] → so_far ended new fs ≡ so_far fields field ([] ∷ fs)
so_far-end fields ended field taken new fs e t n =
    ap (λ (f : Text). ended ++ before f fs) n
    ∙ ap (λ (gs : List Text). gs ++ fs) (e ∙ ap (λ (f : Text). fields ++ f ∷ []) t)
    ∙ append_assoc fields (field ∷ []) fs
    ∙ ap (λ (gs : List Text). fields ++ gs) (sym (before-end field fs))

-- no byte and no field comes
pub so_far-none : (fields : List Text) (field : Text) → field ≡ [] → so_far fields field [] ≡ fields
so_far-none fields field e = ap (λ (f : Text). fields ++ before f []) e ∙ append-nil fields

-- ---- all marks

-- The splitter stands at a place, and the marks that are left give the rest of the fields.
pub record Splits (ifs : List ℕ) (whole : List Text) (fields : List Text) (field : Text) (p : Place) (rest : List Mark) : Type 0 where
  pub whole_is : so_far fields field (fields_from ifs p rest) ≡ whole
  pub idle : IsIdle p field

pub splits_start : (ifs : List ℕ) (fields : List Text) (field : Text) (p : Place) (ms : List Mark) → fields ≡ [] → field ≡ [] → p ≡ Between → Splits ifs (fields_from ifs Between ms) fields field p ms
splits_start ifs fields field p ms none empty at = record {
  whole_is =
      ap (λ (gs : List Text). gs ++ before field (fields_from ifs p ms)) none
      ∙ ap (λ (f : Text). before f (fields_from ifs p ms)) empty
      ∙ ap (λ (q : Place). fields_from ifs q ms) at;
  idle = subst (λ (q : Place). IsIdle q field) (sym at) empty;
}

-- one mark more
pub splits_step : (ifs : List ℕ) (whole fields fields' : List Text) (field field' : Text) (p p' : Place) (m : Mark) (rest left : List Mark) → left ≡ m ∷ rest → Splits ifs whole fields field p left
    → so_far fields' field' (fields_from ifs p' rest) ≡ so_far fields field (fields_from ifs p (m ∷ rest)) → IsIdle p' field' → Splits ifs whole fields' field' p' rest
splits_step ifs whole fields fields' field field' p p' m rest left is s e idle = record {
  whole_is = e ∙ ap (λ (ms : List Mark). so_far fields field (fields_from ifs p ms)) (sym is) ∙ s.whole_is;
  idle = idle;
}

-- no mark is left
pub splits_end : (ifs : List ℕ) (whole fields : List Text) (field : Text) (p : Place) (left : List Mark) → left ≡ [] → Splits ifs whole fields field p left → so_far fields field (last_of p) ≡ whole
splits_end ifs whole fields field p left none s = ap (λ (ms : List Mark). so_far fields field (fields_from ifs p ms)) (sym none) ∙ s.whole_is

-- the next symbol of a field is the next mark
pub symbol_next : (field : Text) (i : ℕ) (d : ℕ × Bool) (m : Mark) → i < length field → m ≡ mark_of (get_or field i d) → map mark_of (drop i field) ≡ m ∷ map mark_of (drop (i + 1) field)
symbol_next field i d m h is = ap (λ (xs : Text). map mark_of xs) (drop_more field i d h) ∙ ap (λ (n : Mark). n ∷ map mark_of (drop (i + 1) field)) (sym is)

pub no_symbol : (field : Text) (i : ℕ) → length field ≤ i → map mark_of (drop i field) ≡ []
no_symbol field i h = ap (λ (xs : Text). map mark_of xs) (drop_all i field h)
