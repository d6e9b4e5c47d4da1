-- What the answers mean in the judge's words: a case of `Outcome` that answers says that both tables read, and the judge says of a request
-- what the statements of a table that reads say.
use Rattle.std.proofs.Common.{ℕ, ◌≤◌, ◌<◌, ◌≡◌, refl, sym, ◌∙◌, ap, ap₂, subst, Bool, true, false, List, ◌++◌, ◌⊎◌, inr, ◌↔◌, arith, ltb, length, take, drop, length-append, length-drop, take_at, drop_at, ltb-true, ltb-false}
use Rattle.stored.proofs.Choosing.{never}
use Rattle.judging.specs.Requests.{Value, columns, column_of}
use Rattle.judging.specs.Meaning.{is_allowed}
use Rattle.judging.specs.Judging.{rows_of, judgement, Judgement as J}
use Rattle.comparing.specs.Order.{In}
use Rattle.comparing.specs.Requests.{Admitted, IsRequest}
use Rattle.comparing.specs.Gaps.{FirstOf, Counted, IsGap}
use Rattle.comparing.specs.Compared.{workspace_words, value_bytes, value_room, Compared, bytes_in, laid, shape_of, request_shown, keeps, Shown}
use Rattle.comparing.specs.Outcomes.{IsTable, Comparable, WithinColumns, short, first_table, second_table, wide, crowded, many_kinds, answered, CountOutcome, GapAnswer, behind, shows, GapOutcome}
use Rattle.comparing.specs.Means.{CountMeans, ShownMeans}
use Rattle.comparing.specs.Answers.{Counting as C, Shape, Showing, Showing as S}
use Rattle.comparing.proofs.Unique.{firsts-admitted, counted-unique}
use Rattle.comparing.proofs.Alike.{each-length}
use Rattle.comparing.proofs.Judged.{judged-exactly}
use Rattle.comparing.proofs.GapList.{gaps-once, gap-firsts, gap-request, gap-shows, none-judged}
use Rattle.comparing.proofs.show.ShownRequest.{AllShort, all_short, shown-request, laid-length, column-short}
use Rattle.comparing.proofs.show.ShortValues.{firsts-short}
use Rattle.comparing.proofs.Outcomes.{compared-exactly, shown-exactly}

-- two tables that read, and the number of their gaps
record Answers (a b : List ℕ) (n : ℕ) : Type 0 where
  first : IsTable a
  second : IsTable b
  counted : Counted (rows_of a) (rows_of b) n

module _ (room : ℕ) (a b : List ℕ) (n : ℕ) (c : Compared room a b (C.Gaps n)) where
  answers : Answers a b n
  answers = by ((compared-exactly room a b (C.Gaps n)).0 c)
    where
      by : CountOutcome room a b (C.Gaps n) → Answers a b n
      by (short s e) = never (cc)
      by (first_table long m place f e) = never (cc)
      by (second_table long table m place f e) = never (cc)
      by (wide both d w e) = never (cc)
      by (crowded both narrow d k e) = never (cc)
      by (many_kinds both counts passed over e) = never (cc)
      by (answered both counts passed within (m, counted, e)) =
          let same : m ≡ n = cc in
          record { first = both.first; second = both.second; counted = subst (λ (i : ℕ). Counted (rows_of a) (rows_of b) i) same counted }

  -- what the number of gaps says of requests
  pub counted-means : CountMeans a b n
  counted-means =
      record {
        first = answers.first;
        second = answers.second;
        list = answers.counted.list;
        size = sym answers.counted.size;
        requests = is-request;
        allowed = λ r i. (judged-exactly a answers.first.0 answers.first.1 r (is-request r i)).1 (answers.counted.gaps.gap r i).allowed;
        missed = λ r i e. not-both ((judged-exactly b answers.second.0 answers.second.1 r (is-request r i)).0 e) (answers.counted.gaps.gap r i).missed;
        firsts = answers.counted.gaps.firsts;
        order = answers.counted.gaps.order;
        numbered = λ k low. record { list = answers.counted.list; gaps = answers.counted.gaps; low = low; here = refl };
        apart = λ i j up low. (gaps-once (rows_of a) (rows_of b) answers.counted.list answers.counted.gaps i j up low).1;
        complete = λ r ok is not. answers.counted.gaps.complete r ok
            (record {
              allowed = (judged-exactly a answers.first.0 answers.first.1 r ok).0 is;
              missed = refused r ok not;
            });
      }
    where
      not-both : {t : Bool} → t ≡ true → t ≡ false → ⊥
      not-both e f = never (cc)

      is-request : (r : List Value) → In r answers.counted.list → IsRequest r
      is-request r i = firsts-admitted (rows_of a) (rows_of b) 0 r (answers.counted.gaps.firsts r i)

      refused : (r : List Value) → IsRequest r → (judgement b r ≡ J.Allowed → ⊥) → is_allowed r (rows_of b) ≡ false
      refused r ok not = by (is_allowed r (rows_of b)) refl
        where
          by : (t : Bool) → is_allowed r (rows_of b) ≡ t → t ≡ false
          by true e = absurd (not ((judged-exactly b answers.second.0 answers.second.1 r ok).1 e))
          by false e = refl

  -- no gaps exactly where the second table allows what the first does
  pub none-means : (n ≡ 0) ↔ ((r : List Value) → IsRequest r → judgement a r ≡ J.Allowed → judgement b r ≡ J.Allowed)
  none-means = (
    λ none. judged.0 (subst (λ (i : ℕ). Counted (rows_of a) (rows_of b) i) none answers.counted),
    λ all. counted-unique (rows_of a) (rows_of b) n 0 answers.counted (judged.1 all),
  )
    where
      judged : Counted (rows_of a) (rows_of b) 0 ↔ ((r : List Value) → IsRequest r → judgement a r ≡ J.Allowed → judgement b r ≡ J.Allowed)
      judged = none-judged a b answers.first.0 answers.second.0 answers.first.1 answers.second.1

-- two tables that read, a gap of theirs, and the buffer that holds its values
record ShowsGap (a b : List ℕ) (k : ℕ) (buffer : List ℕ) (shape : Shape) (values : List ℕ) : Type 0 where
  first : IsTable a
  second : IsTable b
  request : List Value
  gap : IsGap (rows_of a) (rows_of b) k request
  all : AllShort request
  long : value_bytes ≤ length buffer
  shaped : shape ≡ shape_of request
  values_laid : values ≡ laid 7 request ++ drop value_bytes buffer

module _ (room : ℕ) (a b : List ℕ) (k : ℕ) (buffer : List ℕ) (shape : Shape) (values : List ℕ)
    (s : Shown room a b k buffer (S.Shown shape, values)) where
  shows-gap : ShowsGap a b k buffer shape values
  shows-gap = by ((shown-exactly k buffer room a b (S.Shown shape, values)).0 s)
    where
      refusal : (n table place : ℕ) → (S.Shown shape, values) ≡ keeps buffer n table place → ShowsGap a b k buffer shape values
      refusal n table place e =
          let shown : S.Shown shape ≡ S.Refused n table place = ap (λ (r : Showing × List ℕ). r.0) e in
          never (cc)

      by_answer : Comparable ((room < workspace_words) ⊎ (length buffer < value_bytes)) a b
          → (counts : List ℕ) → WithinColumns (rows_of a) (rows_of b) counts
          → GapAnswer k buffer (rows_of a) (rows_of b) (S.Shown shape, values) → ShowsGap a b k buffer shape values
      by_answer both counts passed (behind n counted high e) = refusal 13 0 0 e
      by_answer both counts passed (shows n counted low request g e) =
          let shown : S.Shown shape ≡ S.Shown (shape_of request) = ap (λ (r : Showing × List ℕ). r.0) e in
          let firsts = gap-firsts (rows_of a) (rows_of b) k request g in
          record {
            first = both.first;
            second = both.second;
            request = request;
            gap = g;
            all =
                all_short 0 request (each-length (FirstOf (rows_of a) (rows_of b)) 0 request firsts)
                (firsts-short (rows_of a) (rows_of b) passed.narrow passed.few 0 request firsts);
            long = by-test (ltb (length buffer) value_bytes) refl;
            shaped = cc;
            values_laid = ap (λ (r : Showing × List ℕ). r.1) e;
          }
        where
          by-test : (t : Bool) → ltb (length buffer) value_bytes ≡ t → value_bytes ≤ length buffer
          by-test true f = absurd (both.long (inr (ltb-true (length buffer) value_bytes f)))
          by-test false f = ltb-false (length buffer) value_bytes f

      by : GapOutcome room a b k buffer (S.Shown shape, values) → ShowsGap a b k buffer shape values
      by (short is e) = refusal 14 0 0 e
      by (first_table long n place f e) = refusal n 1 place e
      by (second_table long table n place f e) = refusal n 2 place e
      by (wide both c w e) = refusal 10 0 c e
      by (crowded both narrow c few e) = refusal 11 0 c e
      by (many_kinds both counts passed over e) = refusal 12 0 0 e
      by (answered both counts passed within answer) = by_answer both counts passed answer

  -- what is shown is gap k, and a request that the judge allows by the first table alone
  pub shown-means : ShownMeans a b k buffer shape values
  shown-means =
      record {
        first = g.first;
        second = g.second;
        request = subst IsRequest (sym same) ok;
        gap = subst (λ (r : List Value). IsGap (rows_of a) (rows_of b) k r) (sym same) g.gap;
        allowed = subst (λ (r : List Value). judgement a r ≡ J.Allowed) (sym same) judged.0;
        missed = subst (λ (r : List Value). judgement b r ≡ J.Allowed → ⊥) (sym same) judged.1;
        lengths = g.shaped ∙ ap shape_of (sym same);
        short = λ column.
            subst (λ (r : List Value). length (bytes_in (column_of r column)) ≤ value_room) (sym same) (column-short g.request g.all column);
        laid_down =
            ap (take value_bytes) g.values_laid
            ∙ take_at (laid 7 g.request) (drop value_bytes buffer) value_bytes size
            ∙ ap (laid 7) (sym same);
        kept = ap (drop value_bytes) g.values_laid ∙ drop_at (laid 7 g.request) (drop value_bytes buffer) value_bytes size;
        size =
            ap length g.values_laid
            ∙ length-append (laid 7 g.request) (drop value_bytes buffer)
            ∙ omega (arith, size, length-drop value_bytes buffer, g.long);
      }
    where
      g : ShowsGap a b k buffer shape values
      g = shows-gap

      ok : IsRequest g.request
      ok = gap-request (rows_of a) (rows_of b) k g.request g.gap

      eight : length g.request ≡ columns
      eight = omega (arith, each-length Admitted 0 g.request ok)

      same : request_shown shape values ≡ g.request
      same =
          ap₂ request_shown g.shaped g.values_laid
          ∙ shown-request g.request eight ok g.all (drop value_bytes buffer)

      judged : (judgement a g.request ≡ J.Allowed) × (judgement b g.request ≡ J.Allowed → ⊥)
      judged = gap-shows a b g.first.0 g.second.0 g.first.1 g.second.1 k g.request g.gap

      size : length (laid 7 g.request) ≡ value_bytes
      size = laid-length 7 g.request (omega (arith, eight)) g.all
