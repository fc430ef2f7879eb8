use Rattle.std.proofs.Common.{List, ℕ, sym, ap, ◌∙◌}
use Rattle.std.specs.Prelude.{codes, []}
use Rattle.sh_param.specs.Messages.{message}
use Rattle.sh_param.specs.Parts.{word_means}
use Rattle.sh_param.specs.Pieces.{bytes_of}
use Rattle.sh_param.specs.Plans.{fails}
use Rattle.sh_param.specs.declared.mode.Mode.{Mode}
use Rattle.sh_param.specs.declared.piece.Piece.{Piece}
use Rattle.sh_expand.specs.Rest.{means}
use Rattle.sh_expand.proofs.Looking.{word_none, word_some}
use Rattle.sh_expand.proofs.machine.Machine.error_word.Goals as goal

pub returns-then-is_empty-clause-word : goal.returns-then-is_empty-clause-word
returns-then-is_empty-clause-word c =
    word_none c.args.self.now.mode c.args.name.now c.args.word.now (sym c.is_empty.ensures ∙ c.if-is_empty.true)
    ∙ ap (λ (n : List ℕ). fails (message n (codes "parameter not set"))) (sym c.as_slice.ensures)
    ∙ ap fails (sym c.in_ok-why.ensures)

pub returns-clause-word : goal.returns-clause-word
returns-clause-word c =
    let x = c.args.self.now in
    c.in_ok-enter_aside.ensures.rest
    ∙ ap (λ (m : Mode). word_means m (means c.args.word.now) [] (λ (qs : List Piece). fails (message c.args.name.now (bytes_of qs)))) c.text-mode.ensures
    ∙ sym (word_some x.mode c.args.name.now c.args.word.now (sym c.is_empty.ensures ∙ c.if-is_empty.false))
