-- What the numbers that `stamenhum_read_json` returns say: the answer is read back from each; and what is written is judged as the document
-- says.
use Prim.Native.Nat.{ℕ, ◌/◌, ◌%◌, ◌^◌, ◌≤◌, ◌<◌}
use mathlib.Core.Path.{◌≡◌, refl, sym, ◌∙◌, ap, subst}
use mathlib.Core.Bool.{Bool, true, false}
use mathlib.Core.List.{List}
use mathlib.Core.Logic.{◌↔◌}
use native.Mathlib.Omega.{arith}
use lib.Dec.{ltb}
use lib.ListN.{length, take}
use borrow.Author.Tests.{ltb-true}
use Rattle.json_text.specs.Grammar.{Text}
use Rattle.stored.specs.Machine.{fresh_state}
use Rattle.stored.specs.Tables.{Statement}
use Rattle.records.specs.Documents.{statements_of}
use Rattle.records.specs.Wishes.{wishes}
use Rattle.judging.specs.Requests.{columns, first_fault}
use Rattle.judging.specs.Meaning.{is_allowed}
use Rattle.policy.specs.Answers.{document_of, JsonAnswered, JsonAnswer, JsonAnswer as R}
use Rattle.policy.specs.Answers.JsonAnswered.{no_text, wrong_member, wrong_record, too_long, no_room, written}
use Rattle.policy.proofs.Numbers.{member-number, record-number}
use Rattle.policy.proofs.Promises.{json-exactly, json-means}
use Rattle.portal.specs.Codes.{given_place, json_code}
use Rattle.portal.specs.Answers.{ReadsJson}
use Rattle.portal.specs.Saying.{JsonSays}
use Rattle.portal.specs.Asked.{Asked, request_asked, judge_returns}
use Rattle.portal.proofs.AskedJudged

-- what fits its code: few bytes; a number of 1 to 255, and then the buffer is as it came
abbrev Fits : List ℕ → JsonAnswer → List ℕ → Type 0
Fits before (R.Written n) after = n ≤ 16384
Fits before (R.Refused k p) after = (1 ≤ k) × (k ≤ 255) × (after ≡ before)

fits : {json before : List ℕ} {a : JsonAnswer} {after : List ℕ} → JsonAnswered json before a after → Fits before a after
fits (no_text f) = (omega arith, omega arith, refl)
fits {json} (wrong_member {k} {p} x l) =
    let n = member-number (document_of x) (length json) k p l in
    (omega (arith, n.0), omega (arith, n.1), refl)
fits (wrong_record {k} {n} x e f) =
    let m = record-number (wishes (document_of x)) fresh_state k n f in
    (omega (arith, m.0), omega (arith, m.1), refl)
fits (too_long x h a) = (omega arith, omega arith, refl)
fits (no_room x h a b) = (omega arith, omega arith, refl)
fits (written x h a b) = a

given-low : (place : ℕ) → given_place place < 0x100000000000000
given-low place = go (ltb place 0xFFFFFFFFFFFFFF) refl
  where
    go : (x : Bool) → ltb place 0xFFFFFFFFFFFFFF ≡ x → given_place place < 0x100000000000000
    go true e = rw e (let h = ltb-true place 0xFFFFFFFFFFFFFF e in omega (arith, h))
    go false e = rw e (omega arith)

pub json-read-back : (json before : List ℕ) (r : ℕ) (after : List ℕ) → ReadsJson json before r after → JsonSays json before r after
json-read-back json before r after (R.Written n, answered, code) =
    let few = fits answered in
    JsonSays.written (omega (arith, few, code)) (subst (λ (i : ℕ). JsonAnswered json before (R.Written i) after) (sym code) answered)
json-read-back json before r after (R.Refused k p, answered, code) =
    let f = fits answered in
    let low = given-low p in
    let number : k ≡ r / 2 ^ 56 = omega (arith, code, low) in
    let place : r % 2 ^ 56 ≡ given_place p = omega (arith, code, low) in
    JsonSays.refused p (omega (arith, code, f.0)) (subst (λ (i : ℕ). JsonAnswered json before (R.Refused i p) after) number answered) place f.2

pub one-answer-json : (json before : List ℕ) (r s : ℕ) (after after' : List ℕ)
    → ReadsJson json before r after → ReadsJson json before s after' → (r ≡ s) × (after ≡ after')
one-answer-json json before r s after after' (a, x, e) (b, y, f) =
    let only = (json-exactly json before).3 in
    let first = only a after x in
    let second = only b after' y in
    (e ∙ ap json_code (first.0 ∙ sym second.0) ∙ sym f, first.1 ∙ sym second.1)

-- the answer where r bytes are written
written_back : (json before : List ℕ) (r : ℕ) (after : List ℕ) → ReadsJson json before r after → r < 2 ^ 56 → JsonAnswered json before (R.Written r) after
written_back json before r after x low = by (json-read-back json before r after x)
  where
    by : JsonSays json before r after → JsonAnswered json before (R.Written r) after
    by (JsonSays.written h a) = a
    by (JsonSays.refused p h a e f) = absurd (omega (arith, h, low))

pub judged : (json before : List ℕ) (r : ℕ) (after : List ℕ) → ReadsJson json before r after → r < 2 ^ 56 → (x : Text json) (q : Asked)
    → (judge_returns (take r after) q ≡ 1)
    ↔ ((first_fault 0 (request_asked q) ≡ columns) × (is_allowed (request_asked q) (statements_of (document_of x)) ≡ true))
judged json before r after reads low x q =
    let m = json-means json before after r (written_back json before r after reads low) x in
    let door = AskedJudged.one-exactly (take r after) q in (
      λ e. let d = door.0 e in (d.1, subst (λ (rows : List Statement). is_allowed (request_asked q) rows ≡ true) m.1 d.2),
      λ d. door.1 ((_, m.0), d.0, subst (λ (rows : List Statement). is_allowed (request_asked q) rows ≡ true) (sym m.1) d.1),
    )
