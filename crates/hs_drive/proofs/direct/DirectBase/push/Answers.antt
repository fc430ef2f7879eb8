use Rattle.std.proofs.Common.{ap, inl, inr, refl, ◌∙◌}
use Rattle.std.specs.Prelude.{Err, Some}
use Rattle.hs_view.specs.Seen.{spent_of}
use Rattle.hs_drive.proofs.Commits.{short-faults, short-wants}
use Rattle.hs_drive.proofs.Turns.{limit-iff, memory-iff, no-limit}
use Rattle.hs_drive.proofs.direct.DirectBase.push.Goals as goal

pub returns-in-Err-Full-clause-spent : goal.returns-in-Err-Full-clause-spent
returns-in-Err-Full-clause-spent g c = λ l.
    limit-iff c.in-Err-Full.limit l _ _ (c.kind_of.ensures ∙ ap spent_of c.in-Err-Full.limit-is) ((c.apply.ensures.full c.in-Err-Full.limit).0 (c.in-Err-Full.is ∙ ap Err c.in-Err-Full.field-0-is))

pub returns-in-Err-NoMemory-clause-spent : goal.returns-in-Err-NoMemory-clause-spent
returns-in-Err-NoMemory-clause-spent g c = λ l.
    memory-iff l _ (λ p. no-limit l c.apply.result (c.in-Err-NoMemory.is ∙ ap Err c.in-Err-NoMemory.field-0-is) ((c.apply.ensures.full l).1 p))

pub returns-in-Err-NoMemory-write_through-clause-err :
    goal.returns-in-Err-NoMemory-write_through-clause-err
returns-in-Err-NoMemory-write_through-clause-err g c =
    inr (
      ap Some c.in-Ok.ensures.ok,
      record {
        how = inr (
          short-wants _ _ _ _ _ _ _ c.in-Ok.ensures.fits c.in-Ok.ensures.ok c.target_of-to.ensures c.text_of.ensures (rw c.in-Err-NoMemory-write_through.field-0-is at c.in-Err-NoMemory-write_through.ensures.writes),
          refl,
        );
        out_later = c.in-Err-NoMemory-write_through.ensures.out_later;
        err_later = c.in-Err-NoMemory-write_through.ensures.err_later;
      },
    )

pub returns-in-Err-Fault-clause-err : goal.returns-in-Err-Fault-clause-err
returns-in-Err-Fault-clause-err g c =
    inr (
      ap Some c.in-Ok.ensures.ok,
      record {
        how = inl (short-faults _ _ _ _ _ _ _ _ _ c.in-Ok.ensures.fits c.in-Ok.ensures.ok c.target_of-to.ensures c.text_of.ensures (rw c.in-Err-Fault.field-0-is at c.in-Err-Fault.ensures.writes));
        out_later = c.in-Err-Fault.ensures.out_later;
        err_later = c.in-Err-Fault.ensures.err_later;
      },
    )
