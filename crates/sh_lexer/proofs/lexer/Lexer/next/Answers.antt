use Rattle.std.proofs.Common.{None, ◌≤◌, ◌+◌, ◌∙◌, ap, sym, subst, reverse}
use Rattle.sh_lexer.specs.Lexes.{next, found}
use Rattle.sh_lexer.specs.Trail.{Trail, source_of, size, least}
use Rattle.sh_lexer.proofs.Trails.{got_reads, got_shrinks, opens_reads, opens_shrinks}
use Rattle.sh_lexer.proofs.lexer.Lexer.next.Goals as goal

pub returns-in-Ok-Token-clause-reads : goal.returns-in-Ok-Token-clause-reads
returns-in-Ok-Token-clause-reads c =
    let s = rw c.in-Ok-Token.field-0-is at c.in-Ok-Token.ensures in
    let t : Trail = record { whole = c.self.inside.text; at = c.self.inside.at; outer = reverse c.self.inside.outer.items; last = c.self.inside.last; closed = c.self.inside.closed } in
    ap (λ u. next c.args.mode (source_of u)) (sym c.self.view_is) ∙ got_reads c.args.mode t c.as_slice.result.now c.in-Ok-Token.token c.in-Ok-Token.at c.next_place.result.0 c.as_slice.ensures s

pub returns-in-Ok-Token-clause-shrinks : goal.returns-in-Ok-Token-clause-shrinks
returns-in-Ok-Token-clause-shrinks c =
    let s = rw c.in-Ok-Token.field-0-is at c.in-Ok-Token.ensures in
    let t : Trail = record { whole = c.self.inside.text; at = c.self.inside.at; outer = reverse c.self.inside.outer.items; last = c.self.inside.last; closed = c.self.inside.closed } in
    let n : Trail = record { whole = t.whole; at = c.in-Ok-Token.at; outer = t.outer; last = c.next_place.result.0; closed = None } in
    subst (λ u. size (source_of n) + least c.in-Ok-Token.token ≤ size (source_of u)) c.self.view_is (got_shrinks c.args.mode t c.as_slice.result.now c.in-Ok-Token.token c.in-Ok-Token.at c.next_place.result.0 c.as_slice.ensures s)

pub returns-in_ok-open-in-Ok-Cut-clause-reads : goal.returns-in_ok-open-in-Ok-Cut-clause-reads
returns-in_ok-open-in-Ok-Cut-clause-reads c =
    let s = rw c.in-Ok-Cut.field-0-is at c.in-Ok-Cut.ensures in
    let o = c.in_ok-open-in-Ok-Cut.ensures in
    let t : Trail = record { whole = c.self.inside.text; at = c.self.inside.at; outer = reverse c.self.inside.outer.items; last = c.self.inside.last; closed = c.self.inside.closed } in
    ap (λ u. next c.args.mode (source_of u)) (sym c.self.view_is) ∙
    (opens_reads c.args.mode t c.as_slice.result.now c.in-Ok-Cut.token c.in-Ok-Cut.inside c.in-Ok-Cut.after o.0 c.next_place.result.1 c.next_place.result.0 c.as_slice.ensures s o.1 ∙
    ap (λ u. found c.in-Ok-Cut.token (source_of u)) (sym o.2))

pub returns-in_ok-open-in-Ok-Cut-clause-shrinks : goal.returns-in_ok-open-in-Ok-Cut-clause-shrinks
returns-in_ok-open-in-Ok-Cut-clause-shrinks c =
    let s = rw c.in-Ok-Cut.field-0-is at c.in-Ok-Cut.ensures in
    let o = c.in_ok-open-in-Ok-Cut.ensures in
    let t : Trail = record { whole = c.self.inside.text; at = c.self.inside.at; outer = reverse c.self.inside.outer.items; last = c.self.inside.last; closed = c.self.inside.closed } in
    let h = opens_shrinks c.args.mode t c.as_slice.result.now c.in-Ok-Cut.token c.in-Ok-Cut.inside c.in-Ok-Cut.after o.0 c.next_place.result.1 c.next_place.result.0 c.as_slice.ensures s o.1 in
    let i = subst (λ u. size (source_of u) + least c.in-Ok-Cut.token ≤ size (source_of t)) (sym o.2) h in
    subst (λ u. size (source_of c.open.new.self) + least c.in-Ok-Cut.token ≤ size (source_of u)) c.self.view_is i
