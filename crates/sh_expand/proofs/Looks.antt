-- What words do hangs on the shell alone, as far as their parts do.
use Rattle.std.proofs.Common.{◌≡◌, ℕ, Bool, true, false, not, List, [], ◌∷◌, ◌++◌, refl, sym, ap, ◌∙◌, codes}
use Rattle.std.specs.Prelude.{Option, Some, None, if◌then◌else◌}
use Rattle.std.specs.FinMap.{get}
use Rattle.hs_world.specs.World.{WorldData}
use Rattle.hs_view.specs.Steps.{nothing}
use Rattle.sh_param.specs.Lookups.{home_of, ifs_of, value_of, with_text, written}
use Rattle.sh_param.specs.Parts.{Meaning, Next, follow_of, look, parts_mean, put_value, start_behind}
use Rattle.sh_param.specs.Plans.{Plan, after, gives}
use Rattle.sh_param.specs.Pieces.{split_fields}
use Rattle.sh_param.specs.Values.{pieces_of}
use Rattle.sh_param.specs.declared.mode.Mode.{Mode}
use Rattle.sh_param.specs.declared.piece.Piece.{Piece}
use Rattle.sh_param.specs.declared.tilde.Follow.{Follow}
use Rattle.sh_param.specs.declared.value.ParamValue.{ParamValue}
use Rattle.sh_param.specs.declared.mode.Context.{Context}
use Rattle.sh_param.specs.declared.mode.Context.TheVariants as context
use Rattle.sh_param.specs.Words.{ended, words_mean}
use Rattle.sh_param.specs.declared.kind.Kind.{Kind}
use Rattle.sh_param.specs.declared.kind.Kind.TheVariants as kind
use Rattle.sh_param.specs.Kinds.{kind_of}
use Rattle.sh_param.specs.Lookups.{value_by}
use Rattle.sh_param.specs.declared.piece.Piece.TheVariants as piece
use Rattle.sh_expand.specs.Shells.{LooksAtShell, SameShell}

-- what follows looks at the shell
abbrev pub NextLooks : Next → Type 0
NextLooks k = (qs : List Piece) → LooksAtShell (k qs)

abbrev pub MeaningLooks : Meaning → Type 0
MeaningLooks x = (m : Mode) (start : Bool) (f : Follow) (ps : List Piece) (k : Next) → NextLooks k → LooksAtShell (x.means m start f ps k)

abbrev pub EachLooks : List Meaning → Type 0
EachLooks [] = Unit {0}
EachLooks (x ∷ xs) = MeaningLooks x × EachLooks xs

-- ---- reads

-- something is read of the shell
pub reads_look : {A : Type 0} (f : WorldData → A) (k : A → Plan) → ((u v : WorldData) → SameShell u v → f u ≡ f v) → ((x : A) → LooksAtShell (k x)) → LooksAtShell (after (λ w. nothing (f w) w) k)
reads_look f k h l = (λ u v s. record { effects = refl; later = ap k (h u v s); shell = s }, λ u. l (f u))

same_ifs : (u v : WorldData) → SameShell u v → ifs_of u ≡ ifs_of v
same_ifs u v s = ap (λ x. ifs_of (record u { vars = x })) s.vars

same_home : (u v : WorldData) → SameShell u v → home_of u ≡ home_of v
same_home u v s = ap (λ x. home_of (record u { vars = x })) s.vars

same_by : (c : Kind) (status : ℕ) (name : List ℕ) (u v : WorldData) → SameShell u v → value_by c status name u ≡ value_by c status name v
same_by kind.At status name u v s = ap (λ x. value_by kind.At status name (record u { params = x })) s.params
same_by kind.Star status name u v s = ap (λ x. value_by kind.Star status name (record u { params = x })) s.params
same_by kind.Count status name u v s = ap (λ x. value_by kind.Count status name (record u { params = x })) s.params
same_by kind.Status status name u v s = refl
same_by kind.Position status name u v s =
    ap (λ x. value_by kind.Position status name (record u { zero = x })) s.zero
    ∙ ap (λ x. value_by kind.Position status name (record v { params = x })) s.params
same_by kind.Variable status name u v s = ap (λ x. value_by kind.Variable status name (record u { vars = x })) s.vars

pub look_looks : (m : Mode) (name : List ℕ) (k : ParamValue → Plan) → ((x : ParamValue) → LooksAtShell (k x)) → LooksAtShell (look m name k)
look_looks m name k l = reads_look (value_of m.status name) k (same_by (kind_of name) m.status name) l

pub put_looks : (m : Mode) (x : ParamValue) (ps : List Piece) (k : Next) → NextLooks k → LooksAtShell (put_value m x ps k)
put_looks m x ps k l = reads_look (λ (w : WorldData). ps ++ pieces_of m (ifs_of w) x) k (λ u v s. ap (λ (i : Option (List ℕ)). ps ++ pieces_of m i x) (same_ifs u v s)) l

pub text_looks : (m : Mode) (start : Bool) (f : Follow) (t : List ℕ) (ps : List Piece) (k : Next) → NextLooks k → LooksAtShell (after (with_text m start f t ps) k)
text_looks m start f t ps k l = reads_look (λ (w : WorldData). ps ++ written m start (home_of w) f t) k (λ u v s. ap (λ (h : Option (List ℕ)). ps ++ written m start h f t) (same_home u v s)) l

-- ---- parts and words

pub parts_look : (m : Mode) (start : Bool) (xs : List Meaning) (ps : List Piece) (k : Next) → EachLooks xs → NextLooks k → LooksAtShell (parts_mean m start xs ps k)
parts_look m start [] ps k e l = l ps
parts_look m start (x ∷ xs) ps k e l =
    e.0 m start (follow_of xs) ps (λ qs. parts_mean m (start_behind m start x.bytes) xs qs k) (λ qs. parts_look m (start_behind m start x.bytes) xs qs k e.1 l)

abbrev pub WordsLook : List (List Meaning) → Type 0
WordsLook [] = Unit {0}
WordsLook (w ∷ ws) = EachLooks w × WordsLook ws

pub words_look : (m : Mode) (ws : List (List Meaning)) (ps : List Piece) (k : Next) → WordsLook ws → NextLooks k → LooksAtShell (words_mean m ws ps k)
words_look m [] ps k e l = l ps
words_look m (w ∷ ws) ps k e l = parts_look m true w ps (λ qs. words_mean m ws (qs ++ piece.End ∷ []) k) e.0 (λ qs. words_look m ws (qs ++ piece.End ∷ []) k e.1 l)

pub ended_looks : (c : Context) → NextLooks (ended c)
ended_looks context.Command ps = reads_look ifs_of (λ (ifs : Option (List ℕ)). gives (split_fields ifs ps)) same_ifs (λ x. tt)
ended_looks context.Assign ps = tt
ended_looks context.Redirect ps = tt
ended_looks context.Pattern ps = tt
ended_looks context.Here ps = tt
