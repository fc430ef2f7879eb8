use Rattle.std.proofs.Common.{List, ℕ, sym, ap, refl, ◌∙◌}
use Rattle.std.specs.Prelude.{Result, codes}
use Rattle.hs_view.proofs.Acting.{acts_as}
use Rattle.util_common.specs.Words.{words_of}
use Rattle.util_common.specs.declared.messages.Why.{Why}
use Rattle.util_common.proofs.Refusing.{blamed}
use Rattle.util_opts.specs.declared.options.Options.{Options}
use Rattle.util_print.specs.Components.{no_options}
use Rattle.util_print.specs.Folder.{pwd, pwd_by, pwd_of}
use Rattle.util_print.proofs.folder.pwd.Goals as goal

pub returns-in-Ok : goal.returns-in-Ok
returns-in-Ok g c =
    acts_as g.B.Base.seen (pwd_of c.as_slice.result.now) (pwd c.args.args.now) c.args.view.now c.write_for.new.view c.write_for.result
    (λ u s. ap (λ (ws : List (List ℕ)). pwd_of ws u) c.as_slice.ensures ∙ ap (λ (x : Result Options Why). pwd_by x u) (sym c.in-Ok.ensures)) c.write_for.ensures

pub returns-in-Err : goal.returns-in-Err
returns-in-Err g c =
    c.refuse_words.ensures (pwd c.args.args.now) (blamed pwd_by (codes "pwd") c.in-Err.err (words_of no_options c.args.args.now) (λ why w. refl) c.in-Err.ensures)
