-- What is found, step after step, is what is answered.
use Rattle.std.proofs.Common.{refl, sym, ◌∙◌, ap, length, lt-ltb, le-ltb}
use Rattle.std.proofs.lemmas.Result.{err_from_is_err_and}
use Rattle.policy.specs.Answers.{JsonAnswer as A}
use Rattle.policy.proofs.Answering.{answers}
use Rattle.policy.proofs.reader.read_json.Goals as goal

pub returns-in-Some : goal.returns-in-Some
returns-in-Some c =
    let a = c.args in
    answers a.text.now a.table.now _ _ (rw (sym c.json_fault.ensures ∙ c.in-Some.is) (record { answers = refl; leaves = refl }))

pub returns-in_err-members_fault : goal.returns-in_err-members_fault
returns-in_err-members_fault c =
    let a = c.args in
    let p = err_from_is_err_and c.from_residual.result c.from_residual.ensures.1 in
    rw (p.1, p.2)
    (answers a.text.now a.table.now _ _
    (rw (sym c.json_fault.ensures ∙ c.in_default.is, ← c.in_err-members_fault.ensures) (record { answers = refl; leaves = refl })))

pub returns-in_err-size : goal.returns-in_err-size
returns-in_err-size c =
    let a = c.args in
    let p = err_from_is_err_and c.from_residual-in_err-size.result c.from_residual-in_err-size.ensures.1 in
    rw (p.1, p.2)
    (answers a.text.now a.table.now _ _
    (rw (sym c.json_fault.ensures ∙ c.in_default.is, ← c.in_ok-members_fault.ensures, ← c.in_err-size.ensures) (record { answers = refl; leaves = refl })))

pub returns-then-size-gt-MOST_BYTES : goal.returns-then-size-gt-MOST_BYTES
returns-then-size-gt-MOST_BYTES c =
    let a = c.args in
    answers a.text.now a.table.now _ _
    (rw (
      sym c.json_fault.ensures ∙ c.in_default.is,
      ← c.in_ok-members_fault.ensures,
      ← c.in_ok-size.ensures,
      lt-ltb 16384 c.in_ok-size.size c.if-size-gt-MOST_BYTES.true,
    ) (record { answers = refl; leaves = refl }))

pub returns-then-table-size : goal.returns-then-table-size
returns-then-table-size c =
    let a = c.args in
    answers a.text.now a.table.now _ _
    (rw (
      sym c.json_fault.ensures ∙ c.in_default.is,
      ← c.in_ok-members_fault.ensures,
      ← c.in_ok-size.ensures,
      le-ltb 16384 c.in_ok-size.size c.if-size-gt-MOST_BYTES.false,
      lt-ltb (length a.table.now) c.in_ok-size.size c.if-table-size.true,
    ) (record { answers = refl; leaves = refl }))

pub returns : goal.returns
returns c =
    let a = c.args in
    answers a.text.now a.table.now _ _
    (rw (
      sym c.json_fault.ensures ∙ c.in_default.is,
      ← c.in_ok-members_fault.ensures,
      ← c.in_ok-size.ensures,
      le-ltb 16384 c.in_ok-size.size c.if-size-gt-MOST_BYTES.false,
      le-ltb (length a.table.now) c.in_ok-size.size c.if-table-size.false,
    ) (record { answers = ap A.Written c.write_all.ensures.size; leaves = c.write_all.ensures.left }))
