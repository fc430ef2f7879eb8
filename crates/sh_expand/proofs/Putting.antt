-- What goes behind the pieces of an expansion that is under way.
use Rattle.std.proofs.Common.{◌≡◌, Bool, List, ℕ, [], sym, ap, ◌∙◌}
use Rattle.std.specs.Prelude.{Ok, Err}
use Rattle.hs_view.specs.Acts.{Acts, Loops}
use Rattle.hs_view.specs.Seen.{Shows}
use Rattle.hs_view.specs.View.{Viewed}
use Rattle.hs_view.specs.declared.halt.Halt.{Halt}
use Rattle.sh_param.specs.Lookups.{with_text, with_value}
use Rattle.sh_param.specs.Parts.{follow_of, put_value}
use Rattle.sh_param.specs.Plans.{after, first}
use Rattle.sh_param.specs.Tildes.{starts_after}
use Rattle.sh_param.specs.declared.piece.Piece.{Piece}
use Rattle.sh_param.specs.declared.tilde.Follow.{Follow}
use Rattle.sh_param.specs.declared.value.ParamValue.{ParamValue}
use Rattle.sh_expand.specs.Rest.{means, next_of, rest_of, with_start}
use Rattle.sh_expand.specs.declared.machine.Machine.{Machine}
use Rattle.sh_expand.proofs.Moving.{done_into, undone_into}

-- ---- a value, where the pieces were taken out

pub put_moves : {B : Type 0} (seen : Shows B) (x y : Machine) (v : ParamValue) (ps qs : List Piece) (a b : Viewed B) → y ≡ record x { pieces = [] } → ps ≡ x.pieces
    → Acts seen (with_value y.mode v ps) a b (Ok qs) → Loops seen (first (put_value x.mode v x.pieces (next_of x))) (first (rest_of (record y { pieces = qs }))) a b
put_moves {B} seen x y v ps qs a b e i t =
    done_into seen (with_value x.mode v x.pieces) (with_value y.mode v ps) (next_of x) (rest_of (record y { pieces = qs })) a b qs
    (ap (λ (z : Machine). with_value z.mode v x.pieces) (sym e) ∙ ap (λ (ts : List Piece). with_value y.mode v ts) (sym i))
    (ap (λ (z : Machine). rest_of (record z { pieces = qs })) (sym e))
    t

pub put_halts : {B : Type 0} (seen : Shows B) (x y : Machine) (v : ParamValue) (ps : List Piece) (a b : Viewed B) (h : Halt) → y ≡ record x { pieces = [] } → ps ≡ x.pieces
    → Acts seen (with_value y.mode v ps) a b (Err h) → Acts seen (first (put_value x.mode v x.pieces (next_of x))) a b (Err h)
put_halts {B} seen x y v ps a b h e i t =
    undone_into seen (with_value x.mode v x.pieces) (with_value y.mode v ps) (next_of x) a b h
    (ap (λ (z : Machine). with_value z.mode v x.pieces) (sym e) ∙ ap (λ (ts : List Piece). with_value y.mode v ts) (sym i))
    t

-- ---- a text, where the pieces were taken out

text_same : (x y : Machine) (start : Bool) (follow : Follow) (t : List ℕ) (ps : List Piece) → y ≡ record x { pieces = [] } → ps ≡ x.pieces → follow ≡ follow_of (means x.parts.now)
    → with_text x.mode start (follow_of (means x.parts.now)) t x.pieces ≡ with_text y.mode start follow t ps
text_same x y start follow t ps e i f =
    ap (λ (z : Machine). with_text z.mode start (follow_of (means x.parts.now)) t x.pieces) (sym e)
    ∙ ap (λ (ts : List Piece). with_text y.mode start (follow_of (means x.parts.now)) t ts) (sym i)
    ∙ ap (λ (g : Follow). with_text y.mode start g t ps) (sym f)

pub text_moves : {B : Type 0} (seen : Shows B) (x y : Machine) (start behind : Bool) (follow : Follow) (t : List ℕ) (ps qs : List Piece) (a b : Viewed B)
    → y ≡ record x { pieces = [] } → ps ≡ x.pieces → follow ≡ follow_of (means x.parts.now) → behind ≡ starts_after y.mode start t
    → Acts seen (with_text y.mode start follow t ps) a b (Ok qs)
    → Loops seen (first (after (with_text x.mode start (follow_of (means x.parts.now)) t x.pieces) (next_of (with_start (starts_after x.mode start t) x)))) (first (rest_of (record y { pieces = qs; start = behind }))) a b
text_moves {B} seen x y start behind follow t ps qs a b e i f g m =
    done_into seen (with_text x.mode start (follow_of (means x.parts.now)) t x.pieces) (with_text y.mode start follow t ps) (next_of (with_start (starts_after x.mode start t) x)) (rest_of (record y { pieces = qs; start = behind })) a b qs
    (text_same x y start follow t ps e i f)
    (ap (λ (z : Machine). rest_of (record z { pieces = qs; start = starts_after z.mode start t })) (sym e) ∙ ap (λ (s : Bool). rest_of (record y { pieces = qs; start = s })) (sym g))
    m

pub text_halts : {B : Type 0} (seen : Shows B) (x y : Machine) (start : Bool) (follow : Follow) (t : List ℕ) (ps : List Piece) (a b : Viewed B) (h : Halt)
    → y ≡ record x { pieces = [] } → ps ≡ x.pieces → follow ≡ follow_of (means x.parts.now)
    → Acts seen (with_text y.mode start follow t ps) a b (Err h)
    → Acts seen (first (after (with_text x.mode start (follow_of (means x.parts.now)) t x.pieces) (next_of (with_start (starts_after x.mode start t) x)))) a b (Err h)
text_halts {B} seen x y start follow t ps a b h e i f m =
    undone_into seen (with_text x.mode start (follow_of (means x.parts.now)) t x.pieces) (with_text y.mode start follow t ps) (next_of (with_start (starts_after x.mode start t) x)) a b h
    (text_same x y start follow t ps e i f)
    m
