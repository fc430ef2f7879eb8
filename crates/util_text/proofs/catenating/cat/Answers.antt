use Rattle.std.proofs.Common.{sym, ap, refl}
use Rattle.std.specs.Prelude.{Result, codes}
use Rattle.hs_view.proofs.Acting.{acts_as}
use Rattle.util_common.specs.Words.{words_of}
use Rattle.util_common.specs.declared.messages.Why.{Why}
use Rattle.util_common.proofs.Refusing.{blamed}
use Rattle.util_opts.specs.declared.options.Options.{Options}
use Rattle.util_text.specs.Cat.{cat, cat_by, cat_options, files_written}
use Rattle.util_text.proofs.catenating.cat.Goals as goal

pub returns-in-Ok : goal.returns-in-Ok
returns-in-Ok g c =
    acts_as g.B.Base.seen (files_written c.in-Ok.words.operands) (cat c.args.args.now) c.args.view.now c.copy_files.new.view c.copy_files.result (λ u s. ap (λ (x : Result Options Why). cat_by x u) (sym c.in-Ok.ensures)) c.copy_files.ensures

pub returns-in-Err : goal.returns-in-Err
returns-in-Err g c =
    c.refuse_words.ensures (cat c.args.args.now) (blamed cat_by (codes "cat") c.in-Err.err (words_of cat_options c.args.args.now) (λ why w. refl) c.in-Err.ensures)
