use Rattle.std.proofs.Common.{◌≡◌, Bool, subst, ℕ, ◌+◌, List, drop, get_or}
use Rattle.std.specs.Prelude.{IfOk, option_copied}
use Rattle.std.proofs.lemmas.List.{drop_all, drop_more}
use Rattle.sh_split.specs.declared.mark.Mark.TheVariants.{Expanded}
use Rattle.sh_split.specs.Fields.{fields_of, ifs_bytes}
use Rattle.sh_split.proofs.SoFar.{splits_end, splits_start, splits_step}
use Rattle.sh_split.proofs.splitting.fields_of_marks.Goals as goal

pub loop-mark-init : goal.loop-mark-init
loop-mark-init c =
    splits_start (ifs_bytes (option_copied c.args.ifs)) c.new-splitter.result.fields c.new-splitter.result.field c.new-splitter.result.place c.args.marks.now c.new-splitter.ensures.fields c.new-splitter.ensures.field
    c.new-splitter.ensures.place

pub loop-mark-preserved : goal.loop-mark-preserved
loop-mark-preserved c =
    let ifs = ifs_bytes (option_copied c.args.ifs) in
    let ms = c.args.marks.now in
    let i = c.loop-mark.mark-index in
    let s = c.loop-mark.splitter in
    let t = c.take.new.self in
    let rest = drop (i + 1) ms in
    splits_step ifs (fields_of (option_copied c.args.ifs) ms) s.fields t.fields s.field t.field s.place t.place (get_or ms i (Expanded 0)) rest (drop i ms) (drop_more ms i (Expanded 0) c.loop-mark-test.true) c.loop-mark.invariant
    (c.in_ok-take.ensures.taken rest ifs c.separators-table.ensures) c.in_ok-take.ensures.idle

pub take-requires : goal.take-requires
take-requires c = record { idle = c.loop-mark.invariant.idle }

pub finish-requires : goal.finish-requires
finish-requires c = record { idle = c.loop-mark.invariant.idle }

pub returns : goal.returns
returns c =
    let ms = c.args.marks.now in
    let s = c.loop-mark.splitter in
    subst (λ (w : List (List (ℕ × Bool))). IfOk c.finish.result (λ fs. fs ≡ w)) (splits_end (ifs_bytes (option_copied c.args.ifs)) (fields_of (option_copied c.args.ifs) ms) s.fields s.field s.place (drop c.loop-mark.mark-index ms) (drop_all c.loop-mark.mark-index ms c.loop-mark-test.false) c.loop-mark.invariant) c.finish.ensures
