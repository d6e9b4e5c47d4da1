use Rattle.std.proofs.Common.{ℕ, ◌+◌, ◌-◌, ◌*◌, ◌≡◌, refl, sym, ap, ◌∙◌, subst, List, arith, length, take, drop}
use lib.Seq.{sets}
use Rattle.matching.specs.Machinery.Rows.{first_row}
use Rattle.std.specs.Prelude.{None, Some}
use Rattle.states.specs.Machinery.Rows.{most_states, codes_at, codes_laid, row_at}
use Rattle.states.specs.Machinery.Search.{Partial, Untouched, Explores}
use Rattle.states.proofs.RowsInWords.{row_laid, behind-kept, untouched-same, untouched-both, untouched-first}
use Rattle.states.proofs.Stepping.{search-begins, search-answers, first-length}
use Rattle.states.proofs.TakenRows.{searchable-stays}
use Rattle.states.proofs.explore.explore.Goals as goal

-- the first row is that of the codes laid down
first_laid : (words : List ℕ) (positions : ℕ) → {row : List ℕ} → row ≡ first_row (take (codes_at + positions - codes_at) (drop codes_at words))
    → row ≡ first_row (codes_laid positions words)
first_laid words positions e =
    e ∙ ap (λ (k : ℕ). first_row (take k (drop codes_at words))) {x = codes_at + positions - codes_at} {y = positions} (omega arith)

eight_words : (words : List ℕ) (positions : ℕ) → {row : List ℕ} → row ≡ first_row (codes_laid positions words) → length row ≡ 8
eight_words words positions e = ap length e ∙ first-length (codes_laid positions words)

-- to lay it down changes no code, and nothing else that counts
codes_stay : (words : List ℕ) (positions : ℕ) (laid : List ℕ) → {row : List ℕ} → row ≡ first_row (codes_laid positions words)
    → laid ≡ sets words (0 * 8) row → drop codes_at laid ≡ drop codes_at words
codes_stay words positions laid {row = row} e put =
    ap (drop codes_at) put ∙ behind-kept words 0 codes_at row (eight_words words positions e) (omega arith)

rest_untouched : (words : List ℕ) (positions : ℕ) (laid : List ℕ) → {row : List ℕ} → row ≡ first_row (codes_laid positions words)
    → laid ≡ sets words (0 * 8) row → Untouched words laid 1
rest_untouched words positions laid {row = row} e put =
    subst (λ (l : List ℕ). Untouched words l 1) (sym put) (untouched-first words row (eight_words words positions e))

pub loop-row-init : goal.loop-row-init
loop-row-init c =
    let first = first_laid c.args.words.now c.args.positions c.first_state-first.ensures in
    let stay = codes_stay c.args.words.now c.args.positions c.put_row.new.words first c.put_row.ensures in
    let begun =
    search-begins (codes_laid c.args.positions c.put_row.new.words) c.put_row.new.words
    (ap (λ (l : List ℕ). row_at l 0) c.put_row.ensures
    ∙ row_laid c.args.words.now 0 c.first_state-first.result (eight_words c.args.words.now c.args.positions first) (omega (arith, c.requires.room))
    ∙ first
    ∙ ap (λ (l : List ℕ). first_row (take c.args.positions l)) (sym stay)) in
    (omega arith, refl, refl, begun, untouched-same c.put_row.new.words 1)

pub try_bytes-requires : goal.try_bytes-requires
try_bytes-requires c =
    let first = first_laid c.args.words.now c.args.positions c.first_state-first.ensures in
    let stay = codes_stay c.args.words.now c.args.positions c.put_row.new.words first c.put_row.ensures in
    let l = c.loop-row in
    let a = c.args in (
      searchable-stays a.words.now l.words (l.invariant.2 ∙ stay) a.positions
          (l.invariant.1 ∙ c.put_row.auto.words) c.requires,
      omega arith,
      subst (λ (codes : List ℕ). Partial codes l.words l.n (l.row * 128)) (sym (ap (take a.positions) l.invariant.2)) l.invariant.3,
    )

pub returns-in_err-n : goal.returns-in_err-n
returns-in_err-n c =
    let first = first_laid c.args.words.now c.args.positions c.first_state-first.ensures in
    let stay = codes_stay c.args.words.now c.args.positions c.put_row.new.words first c.put_row.ensures in
    let untouched = rest_untouched c.args.words.now c.args.positions c.put_row.new.words first c.put_row.ensures in
    let l = c.loop-row in
    let a = c.args in
    let laid = c.put_row.new.words in
    let same = l.invariant.2 ∙ stay in
    let searched = c.in_err-n.ensures in
    subst (Explores (codes_laid a.positions a.words.now) a.words.now c.try_bytes.new.words) (sym c.from_residual.ensures)
    record {
      kept = searched.kept ∙ same;
      untouched =
          untouched-both a.words.now laid c.try_bytes.new.words 1 most_states (omega arith) untouched
          (untouched-both laid l.words c.try_bytes.new.words l.n most_states searched.more l.invariant.4 searched.untouched);
      answer = search-answers a.positions a.words.now l.words c.try_bytes.new.words l.n ((l.row + 1) * 128) None same searched;
    }

pub loop-row-preserved : goal.loop-row-preserved
loop-row-preserved c =
    let l = c.loop-row in
    let a = c.args in
    let laid = c.put_row.new.words in (
      omega (arith, c.in_ok-n.ensures.more),
      c.try_bytes.auto.words ∙ l.invariant.1,
      c.in_ok-n.ensures.kept ∙ l.invariant.2,
      search-answers a.positions laid l.words c.try_bytes.new.words l.n ((l.row + 1) * 128) (Some c.in_ok-n.n) l.invariant.2 c.in_ok-n.ensures,
      untouched-both laid l.words c.try_bytes.new.words l.n c.in_ok-n.n c.in_ok-n.ensures.more l.invariant.4 c.in_ok-n.ensures.untouched,
    )

pub returns : goal.returns
returns c =
    let first = first_laid c.args.words.now c.args.positions c.first_state-first.ensures in
    let stay = codes_stay c.args.words.now c.args.positions c.put_row.new.words first c.put_row.ensures in
    let untouched = rest_untouched c.args.words.now c.args.positions c.put_row.new.words first c.put_row.ensures in
    let l = c.loop-row in
    let a = c.args in
    let all : l.row ≡ l.n = omega arith in
    record {
      kept = l.invariant.2 ∙ stay;
      untouched = untouched-both a.words.now c.put_row.new.words l.words 1 l.n l.invariant.3.some untouched l.invariant.4;
      answer =
          subst (λ (k : ℕ). Partial (codes_laid a.positions a.words.now) l.words l.n (k * 128)) all
          (subst (λ (codes : List ℕ). Partial (take a.positions codes) l.words l.n (l.row * 128)) stay l.invariant.3);
    }
