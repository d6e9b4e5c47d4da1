-- The judge's answer part by part: the table's refusal, then 9 at the lowest faulty column, then the verdict.
use Rattle.std.proofs.Common.{ℕ, ◌<◌, ◌≤◌, ◌≡◌, List, lt-ltb, le-ltb}
use Rattle.stored.specs.Reading.{ReadAnswer as A, reading}
use Rattle.stored.specs.Tables.{Statement}
use Rattle.judging.specs.Requests.{Value, first_fault, columns}
use Rattle.judging.specs.Meaning.{applies, is_allow}
use Rattle.judging.specs.Machinery.Rows.{rows_word}
use Rattle.judging.specs.Judging.{Judgement as J, rows_of, verdict, judged, judgement}
use Rattle.judging.specs.Machinery.Verdict.{verdict_of_rows}
use Rattle.judging.proofs.RowSets.{verdict-rows}

-- a table that does not read is refused
pub table-refused : (t : List ℕ) (request : List Value) (n place : ℕ) → reading t ≡ A.Refused n place
    → J.Refused n place ≡ judgement t request
unfolding judgement
table-refused t request n place e = rw e

-- by a table that reads the request is judged
pub table-reads : (t : List ℕ) (request : List Value) (n : ℕ) → reading t ≡ A.Accepted n
    → judged request (rows_of t) ≡ judgement t request
unfolding judgement
table-reads t request n e = rw e

-- a faulty column is refused
pub request-refused : (request : List Value) (rows : List Statement) (fault : ℕ) → fault ≡ first_fault 0 request → fault < columns
    → J.Refused 9 fault ≡ judged request rows
request-refused request rows fault e low = rw (← e, lt-ltb fault columns low)

-- without a faulty column the verdict decides
pub request-sound : (request : List Value) (rows : List Statement) (fault : ℕ) → fault ≡ first_fault 0 request → columns ≤ fault
    → verdict request rows ≡ judged request rows
request-sound request rows fault e high = rw (← e, le-ltb fault columns high)

-- words that are the applying and the allowing rows decide as the statements do
pub rows-decide : (request : List Value) (rows : List Statement) (applying allowing : ℕ)
    → applying ≡ rows_word (applies request) rows → allowing ≡ rows_word (λ s. is_allow s.effect) rows
    → verdict_of_rows applying allowing ≡ verdict request rows
rows-decide request rows applying allowing e f = rw (e, f) (verdict-rows request rows)
