use Rattle.std.proofs.Common.{◌≡◌, ◌+◌, ◌≤◌, Ok, Err, subst}
use Rattle.sh_lexer.specs.declared.token.Mode.{Mode}
use Rattle.sh_lexer.specs.Lexes.{next, found}
use Rattle.sh_lexer.specs.Trail.{Trail, Reads, source_of, size, least}
use Rattle.sh_script.specs.Readings.{Takes}
use Rattle.sh_script.proofs.Stands.{advance-of, halt-of, moves-of}
use Rattle.sh_script.proofs.reading.next_token.Goals as goal

pub take-requires-clause-numbered : goal.take-requires-clause-numbered
take-requires-clause-numbered c = c.requires.numbered

pub take-requires-clause-counted : goal.take-requires-clause-counted
take-requires-clause-counted c = c.requires.counted

pub take-requires-clause-few : goal.take-requires-clause-few
take-requires-clause-few c = c.requires.few

pub returns-in_ok-next-in-Ok-next-clause-lexer : goal.returns-in_ok-next-in-Ok-next-clause-lexer
returns-in_ok-next-in-Ok-next-clause-lexer c = c.in-Ok-next.ensures.moves

pub returns-in_ok-next-in-Ok-next-clause-advance : goal.returns-in_ok-next-in-Ok-next-clause-advance
returns-in_ok-next-in-Ok-next-clause-advance c =
    let r = c.args.reader in
    let e = c.in-Ok-next.ensures.moves in
    advance-of r c.in-Ok-next.seen c.in_ok-next-in-Ok-next.next
    (subst (λ (t : Trail). next r.mode (source_of r.lexer) ≡ found c.in-Ok-next.seen (source_of t)) e c.in-Ok-next.ensures.reads)
    (subst (λ (t : Trail). size (source_of t) + least c.in-Ok-next.seen ≤ size (source_of r.lexer)) e c.in-Ok-next.ensures.shrinks)
    (subst (λ (m : Mode). Takes (Ok c.in_ok-next-in-Ok-next.next) r.machine m r.openings c.in-Ok-next.seen) c.in-Ok.ensures.cases c.in_ok-next-in-Ok-next.ensures)

pub returns-in_ok-halt-in-Err-next-clause-lexer : goal.returns-in_ok-halt-in-Err-next-clause-lexer
returns-in_ok-halt-in-Err-next-clause-lexer c =
    let r = c.args.reader in
    moves-of c.in-Err-next.error c.in_ok-halt-in-Err-next.halt r.machine r.openings r.mode r.lexer _ c.in_ok-halt-in-Err-next.ensures c.in-Err-next.ensures.moves

pub returns-in_ok-halt-in-Err-next-clause-advance : goal.returns-in_ok-halt-in-Err-next-clause-advance
returns-in_ok-halt-in-Err-next-clause-advance c =
    let r = c.args.reader in
    let e = moves-of c.in-Err-next.error c.in_ok-halt-in-Err-next.halt r.machine r.openings r.mode r.lexer _ c.in_ok-halt-in-Err-next.ensures c.in-Err-next.ensures.moves in
    halt-of r c.in-Err-next.error c.in_ok-halt-in-Err-next.halt
    (subst (λ (t : Trail). Reads (Err c.in-Err-next.error) r.mode r.lexer t) e c.in-Err-next.ensures.reads) c.in_ok-halt-in-Err-next.ensures
