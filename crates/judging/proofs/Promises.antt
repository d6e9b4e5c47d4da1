-- What judging promises, in statements that can be read without their proofs. `judgement` is what the judge answers, `reading` what the
-- reader answers, `rows_of` the statements of a table, `first_fault` the lowest faulty column of a request, or 8.
use Rattle.std.proofs.Common.{ℕ, ◌<◌, ◌≡◌, refl, sym, ◌∙◌, Bool, true, false, not, ◌&&◌, ◌||◌, List, [], ◌∷◌, map, ◌↔◌, arith}
use Rattle.stored.specs.Choice.{pick, some}
use Rattle.stored.specs.Reading.{ReadAnswer as A, reading}
use Rattle.stored.specs.Tables.{Listed, Statement}
use Rattle.stored.specs.declared.items.Operator.TheVariants as O
use Rattle.stored.specs.declared.items.Key.TheVariants as K
use Rattle.stored.proofs.Choosing.{never}
use Rattle.matching.specs.Matches.{value_matches}
use Rattle.matching.specs.Network.{agree}
use Rattle.matching.specs.declared.reading.Reading.TheVariants as R
use Rattle.judging.specs.Requests.{Value, absent, columns, column_of, first_fault}
use Rattle.judging.specs.Meaning.{applies, holds, condition_holds, some_allows, some_denies, is_allow, is_allowed}
use Rattle.judging.specs.Judging.{Judgement as J, Judgement, rows_of, verdict, judgement}
use Rattle.judging.proofs.RowSets.{some-split}
use Rattle.judging.proofs.Refusing.{table-refused, table-reads, request-refused, request-sound}
use Rattle.judging.proofs.ByColumn

-- the choices of the verdict, and what each says of the two tests

abbrev choice : Bool → Bool → Judgement
choice denies allows = pick denies J.DeniedByRule (pick allows J.Allowed J.NotMentioned)

chose-allowed : (denies allows : Bool) → (choice denies allows ≡ J.Allowed) ↔ ((allows && not denies) ≡ true)
chose-allowed true true = (λ e. never (cc), λ e. never (cc))
chose-allowed true false = (λ e. never (cc), λ e. never (cc))
chose-allowed false true = (λ e. refl, λ e. refl)
chose-allowed false false = (λ e. never (cc), λ e. never (cc))

chose-denied : (denies allows : Bool) → (choice denies allows ≡ J.DeniedByRule) ↔ (denies ≡ true)
chose-denied true allows = (λ e. refl, λ e. refl)
chose-denied false true = (λ e. never (cc), λ e. never (cc))
chose-denied false false = (λ e. never (cc), λ e. never (cc))

chose_none : (denies allows : Bool) → (choice denies allows ≡ J.NotMentioned) ↔ ((denies || allows) ≡ false)
chose_none true allows = (λ e. never (cc), λ e. never (cc))
chose_none false true = (λ e. never (cc), λ e. never (cc))
chose_none false false = (λ e. refl, λ e. refl)

-- RULES 7.3, the table first. A table that the reader refuses is refused so to every request.
pub refused-first : (table : List ℕ) (request : List Value) (number place : ℕ) → reading table ≡ A.Refused number place
    → judgement table request ≡ J.Refused number place
refused-first table request number place e = sym (table-refused table request number place e)

-- RULES 7.3, 9. By a table that reads, a request with a faulty column is refused with 9 and its lowest faulty column.
pub refused-request : (table : List ℕ) (request : List Value) (n : ℕ) → reading table ≡ A.Accepted n → first_fault 0 request < columns
    → judgement table request ≡ J.Refused 9 (first_fault 0 request)
refused-request table request n e fault =
    sym (request-refused request (rows_of table) (first_fault 0 request) refl fault ∙ table-reads table request n e)

-- any other request is given the verdict of the table's statements
module _ (table : List ℕ) (request : List Value) (n : ℕ) (reads : reading table ≡ A.Accepted n) (sound : first_fault 0 request ≡ columns) where
  judged-by-rows : judgement table request ≡ verdict request (rows_of table)
  judged-by-rows =
      sym (request-sound request (rows_of table) (first_fault 0 request) refl (omega arith) ∙ table-reads table request n reads)

  -- Demand 2, "a request is allowed exactly when some allow statement applies and no deny statement does" (RULES 5.4).
  pub allowed-exactly : (judgement table request ≡ J.Allowed) ↔ (is_allowed request (rows_of table) ≡ true)
  allowed-exactly = rw judged-by-rows (chose-allowed (some_denies request (rows_of table)) (some_allows request (rows_of table)))

  -- DeniedByRule exactly when some deny statement applies.
  pub denied-exactly : (judgement table request ≡ J.DeniedByRule) ↔ (some_denies request (rows_of table) ≡ true)
  denied-exactly = rw judged-by-rows (chose-denied (some_denies request (rows_of table)) (some_allows request (rows_of table)))

  -- NotMentioned exactly when no statement applies.
  pub not-mentioned-exactly : (judgement table request ≡ J.NotMentioned) ↔ (some (applies request) (rows_of table) ≡ false)
  not-mentioned-exactly =
      rw (judged-by-rows, some-split (applies request) (λ s. is_allow s.effect) (rows_of table))
      (chose_none (some_denies request (rows_of table)) (some_allows request (rows_of table)))

-- A statement applies exactly when it holds in each of the eight columns, where a column that it does not restrict holds.
pub by-column : (request : List Value) (s : Statement)
    → applies request s
    ≡ (holds 0 (column_of request 0) s
    && holds 1 (column_of request 1) s
    && holds 2 (column_of request 2) s
    && holds 3 (column_of request 3) s
    && holds 4 (column_of request 4) s
    && holds 5 (column_of request 5) s
    && holds 6 (column_of request 6) s
    && holds 7 (column_of request 7) s)
by-column = ByColumn.by-column

-- The lines marked P of the bench list (RULES 10), each with what it must be; 42 is `*`, 63 is `?`.
abbrev pub bench : List (Bool × Bool)
bench =
    -- `s*s*s*s` refuses `ss`, takes `ssss`
    (value_matches R.Plain (115 ∷ 42 ∷ 115 ∷ 42 ∷ 115 ∷ 42 ∷ 115 ∷ []) (115 ∷ 115 ∷ []), false)
    ∷ (value_matches R.Plain (115 ∷ 42 ∷ 115 ∷ 42 ∷ 115 ∷ 42 ∷ 115 ∷ []) (115 ∷ 115 ∷ 115 ∷ 115 ∷ []), true)
    -- `*` takes the empty string, `?*` does not
    ∷ (value_matches R.Plain (42 ∷ []) [], true)
    ∷ (value_matches R.Plain (63 ∷ 42 ∷ []) [], false)
    -- `a?c` takes `abc`; `?` refuses `ab`
    ∷ (value_matches R.Plain (97 ∷ 63 ∷ 99 ∷ []) (97 ∷ 98 ∷ 99 ∷ []), true)
    ∷ (value_matches R.Plain (63 ∷ []) (97 ∷ 98 ∷ []), false)
    -- on `abbb`, `a*b*b*b` yes, `ab*b*b*b` no
    ∷ (value_matches R.Plain (97 ∷ 42 ∷ 98 ∷ 42 ∷ 98 ∷ 42 ∷ 98 ∷ []) (97 ∷ 98 ∷ 98 ∷ 98 ∷ []), true)
    ∷ (value_matches R.Plain (97 ∷ 98 ∷ 42 ∷ 98 ∷ 42 ∷ 98 ∷ 42 ∷ 98 ∷ []) (97 ∷ 98 ∷ 98 ∷ 98 ∷ []), false)
    -- 11.22.33.0/24 holds for 11.22.33.255, not for 11.22.34.0
    ∷ (agree 0x0B162100 0x0B1621FF 24, true)
    ∷ (agree 0x0B162100 0x0B162200 24, false)
    -- IpAddress with an absent address is false, its IfExists form true
    ∷ (condition_holds absent (record { operator = O.IpAddress; key = K.SourceIp; values = Listed.range 0x0B162100 24 ∷ [] }), false)
    ∷ (condition_holds absent (record { operator = O.IpAddressIfExists; key = K.SourceIp; values = Listed.range 0x0B162100 24 ∷ [] }), true)
    ∷ []

-- Every line of it comes out as it must.
pub bench-matches : map (λ (line : Bool × Bool). line.0) bench ≡ map (λ (line : Bool × Bool). line.1) bench
unfolding value_matches
bench-matches = refl
