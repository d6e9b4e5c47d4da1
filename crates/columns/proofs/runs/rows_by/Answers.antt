-- Each word does what it says.
use Rattle.std.proofs.Common.{◌≡◌, ◌+◌, Bool, sym, ap, ◌∙◌, drop, get_or}
use Rattle.columns.specs.declared.runs.Run.{Run}
use Rattle.columns.specs.Machinery.Plan.{seen_run, run_word, run_plan}
use Rattle.columns.proofs.PlanSteps.{run-next, run_at, word-does}
use Rattle.columns.proofs.runs.rows_by.Goals as goal
use Rattle.columns.proofs.runs.rows_by.Goals.{in-Statement, in-List, in-NegatedList, in-Content}

pub loop-word-preserved : goal.loop-word-preserved
loop-word-preserved g c =
    λ matches is.
    let l = c.loop-word in
    let plan = c.args.plan.now in
    let word = get_or plan l.word-index 0 in
    let step : c.match-of.run ≡ run_word matches l.run word =
    elim c.match-of.branch [
      | in-Statement w ↦ w.run-is ∙ w.row_begun-run.ensures ∙ sym (word-does matches l.run word ∙ ap (run_at matches l.run) (sym c.of.ensures ∙ w.in-Statement.is))
      | in-List w ↦ w.run-is ∙ w.list_opened-run.ensures ∙ sym (word-does matches l.run word ∙ ap (run_at matches l.run) (sym c.of.ensures ∙ w.in-List.is))
      | in-NegatedList w ↦ w.run-is ∙ w.list_opened-run-in-NegatedList.ensures
          ∙ sym (word-does matches l.run word ∙ ap (run_at matches l.run) (sym c.of.ensures ∙ w.in-NegatedList.is))
      | in-Content w ↦ w.run-is ∙ w.value_seen-run.ensures
          ∙ ap (λ (hit : Bool). seen_run hit l.run) (is w.in-Content.content w.hits.result w.hits.ensures)
          ∙ sym (word-does matches l.run word ∙ ap (run_at matches l.run) (sym c.of.ensures ∙ w.in-Content.is))
    ] in
    ap (λ (run : Run). run_plan matches run (drop (l.word-index + 1) plan)) step
    ∙ sym (run-next matches l.run plan l.word-index c.loop-word-test.true)
    ∙ l.invariant matches is
