-- Where IFS and HOME do not matter.
use Rattle.std.proofs.Common.{◌≡◌, ℕ, Bool, true, false, not, ◌&&◌, ◌||◌, cond, eqb, List, [], ◌∷◌, ◌++◌, refl, sym, ap, ◌∙◌}
use Rattle.std.specs.Prelude.{Option}
use Rattle.std.proofs.lemmas.Bool.{true≢false}
use Rattle.sh_param.specs.Lookups.{written, needs_home}
use Rattle.sh_param.specs.Pieces.{quoted_all}
use Rattle.sh_param.specs.Tildes.{byte_pieces, has_tilde, is_prefix, starts, text_pieces}
use Rattle.sh_param.specs.Values.{each_pieces, joined_pieces, needs_ifs, pieces_of, separator}
use Rattle.sh_param.specs.declared.mode.Mode.{Mode}
use Rattle.sh_param.specs.declared.piece.Piece.{Piece}
use Rattle.sh_param.specs.declared.tilde.Follow.{Follow}
use Rattle.sh_param.specs.declared.value.ParamValue.{ParamValue}
use Rattle.sh_param.specs.declared.value.ParamValue.TheVariants.{Unset, One, Each}

-- ---- IFS

free : {A : Type 0} (star q s : Bool) (x : A) (j k : Bool → A) → j false ≡ k false → (star && (q || not s)) ≡ false → cond (s && not (star && q)) x (j star) ≡ cond (s && not (star && q)) x (k star)
free false q s x j k e h = ap (λ y. cond (s && not (false && q)) x y) e
free true true s x j k e h = absurd (true≢false h)
free true false true x j k e h = refl
free true false false x j k e h = absurd (true≢false h)

pub ifs_unread : (m : Mode) (ifs other : Option (List ℕ)) (v : ParamValue) → needs_ifs m v ≡ false → pieces_of m ifs v ≡ pieces_of m other v
ifs_unread m ifs other Unset h = refl
ifs_unread m ifs other (One t) h = refl
ifs_unread m ifs other (Each star ts) h =
    free star m.quoted m.splits (each_pieces m ts) (λ (b : Bool). joined_pieces m (separator b ifs) ts) (λ (b : Bool). joined_pieces m (separator b other) ts) refl h

-- ---- HOME

left_false : (a b : Bool) → (a || b) ≡ false → a ≡ false
left_false false b h = refl
left_false true b h = absurd (true≢false h)

right_false : (a b : Bool) → (a || b) ≡ false → b ≡ false
right_false false b h = h
right_false true b h = absurd (true≢false h)

no_tilde : (s x p : Bool) → x ≡ false → (s && x && p) ≡ false
no_tilde false x p e = refl
no_tilde true x p e = ap (λ y. y && p) e

byte_unread : (m : Mode) (tilde : Bool) (b : ℕ) (home other : Option (List ℕ)) → tilde ≡ false → byte_pieces m tilde b home ≡ byte_pieces m tilde b other
byte_unread m tilde b home other e = ap (λ x. byte_pieces m x b home) e ∙ sym (ap (λ x. byte_pieces m x b other) e)

text_unread : (m : Mode) (start : Bool) (home other : Option (List ℕ)) (follow : Follow) (t : List ℕ) → has_tilde t ≡ false → text_pieces m start home follow t ≡ text_pieces m start other follow t
text_unread m start home other follow [] h = refl
text_unread m start home other follow (b ∷ r) h =
    ap (λ (ps : List Piece). ps ++ text_pieces m (starts m b) home follow r) (byte_unread m (start && eqb b 126 && is_prefix m follow r) b home other (no_tilde start (eqb b 126) (is_prefix m follow r) (left_false (eqb b 126) (has_tilde r) h)))
    ∙ ap (λ (ps : List Piece). byte_pieces m (start && eqb b 126 && is_prefix m follow r) b other ++ ps) (text_unread m (starts m b) home other follow r (right_false (eqb b 126) (has_tilde r) h))

written_by : (q : Bool) (m : Mode) (start : Bool) (home other : Option (List ℕ)) (follow : Follow) (t : List ℕ) → (not q && has_tilde t) ≡ false
    → cond q (quoted_all t) (text_pieces m start home follow t) ≡ cond q (quoted_all t) (text_pieces m start other follow t)
written_by true m start home other follow t h = refl
written_by false m start home other follow t h = text_unread m start home other follow t h

pub home_unread : (m : Mode) (start : Bool) (home other : Option (List ℕ)) (follow : Follow) (t : List ℕ) → needs_home m t ≡ false → written m start home follow t ≡ written m start other follow t
home_unread m start home other follow t h = written_by m.quoted m start home other follow t h
