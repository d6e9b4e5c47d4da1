-- What the number that the judge's entry point returns for a question means: each verdict's number is given exactly for what the
-- statements of a table that reads say, and the number of gaps is 0 exactly where every question with the answer 1 by the first table has it by the second.
use Prim.Native.Nat.{ℕ, suc, ◌+◌, ◌^◌, ◌≤◌, ◌<◌}
use mathlib.Core.Path.{◌≡◌, refl, sym, ◌∙◌, ap}
use mathlib.Core.Bool.{Bool, true, false}
use mathlib.Core.List.{List, [], ◌∷◌}
use mathlib.Core.Logic.{◌↔◌}
use native.Mathlib.Omega.{arith}
use lib.Dec.{ltb}
use lib.ListN.{length, replicate, length-replicate}
use borrow.Author.Tests.{ltb-true, ltb-false}
use Rattle.stored.specs.Choice.{pick, some}
use Rattle.stored.specs.Reading.{reading, ReadAnswer, ReadAnswer as A}
use Rattle.stored.proofs.Choosing.{never}
use Rattle.judging.specs.Requests.{Value, columns, is_faulty, first_fault}
use Rattle.judging.specs.Meaning.{applies, is_allowed, some_denies}
use Rattle.judging.specs.Judging.{rows_of, judgement, Judgement, Judgement as J}
use Rattle.judging.proofs.Promises.{refused-first, refused-request, allowed-exactly, denied-exactly, not-mentioned-exactly}
use Rattle.comparing.specs.Requests.{IsRequest}
use Rattle.comparing.specs.Compared.{value_bytes}
use Rattle.comparing.specs.Outcomes.{IsTable}
use Rattle.comparing.proofs.Promises.{requests-all, none-means}
use Rattle.comparing.proofs.Requests.{sound-taken}
use Rattle.portal.specs.Codes.{present_of, judgement_code}
use Rattle.portal.specs.Answers.{Counts}
use Rattle.portal.specs.Saying.{GapsSay}
use Rattle.portal.specs.Asked.{Asked, CanBeAsked, request_asked, judge_returns, asked_by}
use Rattle.portal.proofs.JudgeBack.{judge-allowed, judge-denied, judge-not-mentioned}
use Rattle.portal.proofs.GapsBack.{gaps-read-back}
use Rattle.portal.proofs.AskedBack.{gap-asked}
use Rattle.portal.proofs.GapsShown.{gap-there}

-- the lowest faulty column is one of the columns, or behind them
fault-high : (column : ℕ) (r : List Value) → first_fault column r ≤ column + length r
fault-high column [] = omega arith
fault-high column (v ∷ r) = by (is_faulty column v) (fault-high (suc column) r)
  where
    by : (t : Bool) → first_fault (suc column) r ≤ suc column + length r → pick t column (first_fault (suc column) r) ≤ column + suc (length r)
    by true h = omega arith
    by false h = omega arith

-- what the judge does not refuse: the table reads, and the request has no faulty column
taken-sound : (table : List ℕ) (r : List Value) → length r ≡ columns → ((n place : ℕ) → judgement table r ≡ J.Refused n place → ⊥)
    → IsTable table × (first_fault 0 r ≡ columns)
taken-sound table r eight taken = by (reading table) refl (ltb (first_fault 0 r) columns) refl
  where
    by : (answer : ReadAnswer) → reading table ≡ answer → (t : Bool) → ltb (first_fault 0 r) columns ≡ t
        → IsTable table × (first_fault 0 r ≡ columns)
    by (A.Refused n place) reads t f = absurd (taken n place (refused-first table r n place reads))
    by (A.Accepted n) reads true f =
        absurd (taken 9 (first_fault 0 r) (refused-request table r n reads (ltb-true (first_fault 0 r) columns f)))
    by (A.Accepted n) reads false f = ((n, reads), omega (arith, ltb-false (first_fault 0 r) columns f, fault-high 0 r))

module _ (table : List ℕ) (q : Asked) where
  -- the table reads, no column of the request is faulty, and the statements say so
  abbrev Sound : Type 0 → Type 0
  Sound Says = IsTable table × (first_fault 0 (request_asked q) ≡ columns) × Says

  -- a verdict's number is returned exactly where the table reads, the request has no fault and the statements say so
  verdict-exactly : (code : ℕ) (j : Judgement) → ((n place : ℕ) → j ≡ J.Refused n place → ⊥)
      → (judge_returns table q ≡ code) ↔ (judgement table (request_asked q) ≡ j) → (Says : Type 0)
      → ((n : ℕ) → reading table ≡ A.Accepted n → first_fault 0 (request_asked q) ≡ columns → (judgement table (request_asked q) ≡ j) ↔ Says)
      → (judge_returns table q ≡ code) ↔ Sound Says
  verdict-exactly code j other coded Says told = (to, from)
    where
      to : judge_returns table q ≡ code → Sound Says
      to e =
          let is = coded.0 e in
          let (reads, sound) = taken-sound table (request_asked q) refl (λ n place f. other n place (sym is ∙ f)) in
          (reads, sound, (told reads.0 reads.1 sound).0 is)

      from : Sound Says → judge_returns table q ≡ code
      from (reads, sound, says) = coded.1 ((told reads.0 reads.1 sound).1 says)

  -- 1 for what is allowed, 2 for what is denied, 0 for what no statement mentions
  pub one-exactly : (judge_returns table q ≡ 1)
      ↔ (IsTable table × (first_fault 0 (request_asked q) ≡ columns) × (is_allowed (request_asked q) (rows_of table) ≡ true))
  one-exactly =
      verdict-exactly 1 J.Allowed (λ n place e. never (cc)) (judge-allowed table (request_asked q) (judge_returns table q) refl)
      (is_allowed (request_asked q) (rows_of table) ≡ true) (allowed-exactly table (request_asked q))

  pub two-exactly : (judge_returns table q ≡ 2)
      ↔ (IsTable table × (first_fault 0 (request_asked q) ≡ columns) × (some_denies (request_asked q) (rows_of table) ≡ true))
  two-exactly =
      verdict-exactly 2 J.DeniedByRule (λ n place e. never (cc)) (judge-denied table (request_asked q) (judge_returns table q) refl)
      (some_denies (request_asked q) (rows_of table) ≡ true) (denied-exactly table (request_asked q))

  pub nought-exactly : (judge_returns table q ≡ 0)
      ↔ (IsTable table × (first_fault 0 (request_asked q) ≡ columns) × (some (applies (request_asked q)) (rows_of table) ≡ false))
  nought-exactly =
      verdict-exactly 0 J.NotMentioned (λ n place e. never (cc)) (judge-not-mentioned table (request_asked q) (judge_returns table q) refl)
      (some (applies (request_asked q)) (rows_of table) ≡ false) (not-mentioned-exactly table (request_asked q))

-- what can be asked and is allowed by some table is a request
asked-request : (table : List ℕ) (q : Asked) → CanBeAsked q → judgement table (request_asked q) ≡ J.Allowed → IsRequest (request_asked q)
asked-request table q can allowed =
    (requests-all (request_asked q)).1 (
      record {
        principal = q.principal;
        action = q.action;
        resource = q.resource;
        present = present_of q.present;
        vpc = q.vpc;
        prefix = q.prefix;
        vpce = q.vpce;
        referer = q.referer;
        address = q.address;
        bytes = (
          can.principal.bytes,
          can.action.bytes,
          can.resource.bytes,
          can.vpc.bytes,
          can.prefix.bytes,
          can.vpce.bytes,
          can.referer.bytes,
        );
        small = can.address;
        is = refl;
      },
      sound-taken (request_asked q) (taken-sound table (request_asked q) refl (λ n place e. refused n place (sym allowed ∙ e))).1,
    )
  where
    refused : (n place : ℕ) → J.Allowed ≡ J.Refused n place → ⊥
    refused n place e = never (cc)

-- The number of gaps is 0 exactly where all that the judge allows by the first table it allows by the second.
pub zero-exactly : (first second : List ℕ) (r : ℕ) → Counts first second r → r < 2 ^ 32
    → (r ≡ 0) ↔ ((q : Asked) → CanBeAsked q → judge_returns first q ≡ 1 → judge_returns second q ≡ 1)
zero-exactly first second r counts low = by (gaps-read-back first second r counts)
  where
    by : GapsSay first second r → (r ≡ 0) ↔ ((q : Asked) → CanBeAsked q → judge_returns first q ≡ 1 → judge_returns second q ≡ 1)
    by (GapsSay.refused high compared positive) = absurd (omega arith)
    by (GapsSay.counted below compared) = (to, from)
      where
        to : r ≡ 0 → (q : Asked) → CanBeAsked q → judge_returns first q ≡ 1 → judge_returns second q ≡ 1
        to none q can one =
            let allowed = (judge-allowed first (request_asked q) 1 (sym one)).0 refl in
            ap judgement_code ((none-means 8192 first second r compared).0 none (request_asked q) (asked-request first q can allowed) allowed)

        -- else gap 0 could be asked about
        from : ((q : Asked) → CanBeAsked q → judge_returns first q ≡ 1 → judge_returns second q ≡ 1) → r ≡ 0
        from all = by-test (ltb 0 r) refl
          where
            long : value_bytes ≤ length {A = ℕ} (replicate value_bytes 0)
            long = omega (arith, length-replicate {A = ℕ} value_bytes 0)

            by-test : (t : Bool) → ltb 0 r ≡ t → r ≡ 0
            by-test true more =
                let (code, after, shown, high) = gap-there first second r compared 0 (ltb-true 0 r more) (replicate value_bytes 0) long in
                let (can, is, not, gap) = gap-asked first second 0 (replicate value_bytes 0) code after shown high in
                absurd (not (all (asked_by code after) can is))
            by-test false none = omega (arith, ltb-false 0 r none)
