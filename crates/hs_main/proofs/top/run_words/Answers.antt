use Rattle.hs_main.proofs.Tops.{run-of, unrun_told}
use Rattle.hs_main.proofs.top.run_words.Goals as goal

pub returns-clause-runs : goal.returns-clause-runs
returns-clause-runs g c =
    run-of _ _ _ _ _ _ _ _ _ _ _ _ _ _ _ _ c.in-Some.ensures c.as_slice.ensures c.in-Ok.ensures.loaded c.in-Ok-built_script.ensures c.in-Ok-new.ensures.ok c.in-Ok-start.ensures c.plain.ensures.runs

pub returns-in-Err-built_script-clause-runs : goal.returns-in-Err-built_script-clause-runs
returns-in-Err-built_script-clause-runs g c =
    unrun_told _ _ _ _ _ _ _ _ _ _ _ _ c.in-Some.ensures c.as_slice.ensures c.in-Ok.ensures.loaded c.in-Err-built_script.ensures c.no_report-in-Err-built_script.ensures
