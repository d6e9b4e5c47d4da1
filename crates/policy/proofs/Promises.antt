-- What the reader of policies promises, in statements that can be read without their proofs. `JsonAnswered` is its contract: what is answered for
-- a text and a buffer, and what the buffer then holds.
use Rattle.std.proofs.Common.{ℕ, ◌≡◌, refl, sym, ◌∙◌, ap, List, ◌↔◌, arith, length, take, drop, take_at, drop_at}
use Rattle.json_text.specs.Grammar.{Text, FirstFault}
use Rattle.json_text.specs.Trees.{Tree}
use Rattle.json_text.specs.Trees.Shape.{one}
use Rattle.json_text.proofs.Promises.{one-tree}
use Rattle.stored.specs.Machine.{fresh_state}
use Rattle.stored.specs.Reading.{reading}
use Rattle.stored.specs.Tables.{Statement, rows_of}
use Rattle.stored.specs.Reading.{ReadAnswer as R}
use Rattle.stored.proofs.Choosing.{never}
use Rattle.records.specs.Documents.{statements_of}
use Rattle.records.specs.Wishes.{wishes}
use Rattle.policy.specs.Answers.{document_of, table_for, JsonAnswered}
use Rattle.policy.specs.Answers.JsonAnswered.{no_text, wrong_member, wrong_record, too_long, no_room, written}
use Rattle.records.specs.Networks as N
use Rattle.records.specs.Networks.{network_of}
use Rattle.policy.specs.Networks.{IsNetwork}
use Rattle.policy.specs.Answers.{JsonAnswer as A, JsonAnswer}
use Rattle.policy.proofs.Numbers.{member-number, record-number}
use Rattle.policy.proofs.NetworksAre.{says-read, read-says}
use Rattle.policy.proofs.Answering.{some-answer, one_answer, table-reads}

-- "The answer and the buffer are an equation for every text and every buffer": there is an answer, and one only.
pub json-exactly : (t buffer : List ℕ)
    → (r : JsonAnswer) × (left : List ℕ) × JsonAnswered t buffer r left
    × ((q : JsonAnswer) (rest : List ℕ) → JsonAnswered t buffer q rest → (q ≡ r) × (rest ≡ left))
json-exactly t buffer =
    let s = some-answer t buffer in
    (s.answer, s.left, s.answered, λ q rest x. one_answer t buffer q s.answer rest s.left x s.answered)

-- "20 has the place that is said in terms of texts that are accepted": it is answered just where the text is none, and with that place.
pub json-first-fault : (t buffer left : List ℕ) (p : ℕ) → JsonAnswered t buffer (A.Refused 20 p) left ↔ (FirstFault t p × (left ≡ buffer))
json-first-fault t buffer left p = (λ x. by x refl, λ f. rw f.1 (no_text f.0))
  where
    by : {r : JsonAnswer} {rest : List ℕ} → JsonAnswered t buffer r rest → r ≡ A.Refused 20 p → FirstFault t p × (rest ≡ buffer)
    by (no_text {p = q} f) e = let same : q ≡ p = cc in (rw (sym same) f, refl)
    by (wrong_member {k} {p = q} x l) e =
        let same : k ≡ 20 = cc in
        absurd (omega (arith, member-number (document_of x) (length t) k q l))
    by (wrong_record {k} {n} x e f) g =
        let same : k ≡ 20 = cc in
        absurd (omega (arith, record-number (wishes (document_of x)) fresh_state k n f))
    by (too_long x h a) e = absurd (let z : ◌≡◌ {A = ℕ} 1 20 = cc in omega arith)
    by (no_room x h a b) e = absurd (let z : ◌≡◌ {A = ℕ} 14 20 = cc in omega arith)
    by (written x h a b) e = never (cc)

-- "The statements of the written table are those of the document, member by member and in order, and the reader accepts it." The rest of the
-- buffer is as it was.
pub json-means : (t buffer left : List ℕ) (n : ℕ) → JsonAnswered t buffer (A.Written n) left → (x : Text t)
    → (reading (take n left) ≡ R.Accepted (length (statements_of (document_of x))))
    × (rows_of (take n left) ≡ statements_of (document_of x))
    × (drop n left ≡ drop n buffer)
json-means t buffer left n y x = by y refl
  where
    by : {r : JsonAnswer} {rest : List ℕ} → JsonAnswered t buffer r rest → r ≡ A.Written n
        → (reading (take n rest) ≡ R.Accepted (length (statements_of (document_of x)))) × (rows_of (take n rest) ≡ statements_of (document_of x)) × (drop n rest ≡ drop n buffer)
    by (no_text f) e = never (cc)
    by (wrong_member w l) e = never (cc)
    by (wrong_record w f g) e = never (cc)
    by (too_long w h a) e = never (cc)
    by (no_room w h a b) e = never (cc)
    by (written w h a b) e =
        let long : length (table_for w) ≡ n = cc in
        let front = take_at (table_for w) (drop (length (table_for w)) buffer) n long in
        let back = drop_at (table_for w) (drop (length (table_for w)) buffer) n long in
        let reads = table-reads w h a in
        let rows : statements_of (document_of w) ≡ statements_of (document_of x) = ap (λ (v : Tree one). statements_of v) (one-tree w x) in (
          ap reading front ∙ reads.0 ∙ ap (λ (s : List Statement). R.Accepted (length s)) rows,
          ap (λ (s : List ℕ). rows_of s) front ∙ reads.1 ∙ rows,
          back ∙ ap (λ (m : ℕ). drop m buffer) long,
        )

-- "A string is a network: four decimal numbers 0 to 255 with dots, without leading zeros or signs, then nothing (length 32) or `/` and a decimal
-- number without leading zeros." Just the texts that say a network are read as that network.
pub networks-are : (t : List ℕ) (a n : ℕ) → (network_of t ≡ N.Read.network a n) ↔ IsNetwork t a n
networks-are t a n = (read-says t a n, says-read t a n)
