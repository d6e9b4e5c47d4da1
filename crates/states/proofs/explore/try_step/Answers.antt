-- The row that the step leads to is looked for among those that were found; where it is new it goes behind them.
use Rattle.std.proofs.Common.{ℕ, ◌+◌, ◌-◌, ◌*◌, ◌/◌, ◌<◌, ◌≡◌, refl, sym, ap, ap₂, ◌∙◌, subst, List, add-one, arith, length, take, drop, set}
use Rattle.matching.specs.Machinery.Words.{words_row}
use Rattle.states.specs.Machinery.Rows.{IsByte, most_states, keys_at, codes_at, codes_laid, row_at, stars_laid}
use Rattle.states.specs.Machinery.Search.{step_from, Searchable, Partial, Untouched}
use Rattle.states.proofs.RowsInWords.{row_met, row_new, with_row, with-other-row, with-kept, with-untouched, untouched-same}
use Rattle.states.proofs.Stepping.{step-known, step-over, step-new, step-length}
use Rattle.states.proofs.Used.{used-words}
use Rattle.states.proofs.TakenRows.{step-leads}
use Rattle.states.proofs.explore.try_step.Goals as goal

-- the row that the code works out is the one to which the step leads
leads : (words : List ℕ) (positions i b : ℕ) → Searchable positions words → IsByte b → (from : List ℕ) → from ≡ row_at words i → {row : List ℕ} {byte used : ℕ} → byte ≡ b → used ≡ (positions + 63) / 64
    → row ≡ words_row used (take ((607 + byte) * 8 + 8 - (607 + byte) * 8) (drop ((607 + byte) * 8) words)) (stars_laid words) from
    → row ≡ step_from (codes_laid positions words) words i b
leads words positions i b searchable is_byte from same {byte = byte} is all e =
    let at = (607 + b) * 8 in
    e
    ∙ ap (λ (n : ℕ). words_row n (take ((607 + byte) * 8 + 8 - (607 + byte) * 8) (drop ((607 + byte) * 8) words)) (stars_laid words) from) all
    ∙ ap (λ (x : ℕ). words_row ((positions + 63) / 64) (take ((607 + x) * 8 + 8 - (607 + x) * 8) (drop ((607 + x) * 8) words)) (stars_laid words) from) is
    ∙ ap₂ (λ (n : ℕ) (row : List ℕ). words_row ((positions + 63) / 64) (take n (drop at words)) (stars_laid words) row)
    {x = at + 8 - at} {y = 8} (omega arith) same
    ∙ step-leads positions words searchable i b is_byte

pub returns-then-is_some-clause-searched : goal.returns-then-is_some-clause-searched
returns-then-is_some-clause-searched c =
    let a = c.args in
    let words = a.words.now in
    let row = leads words a.positions a.i a.b c.requires.0 c.requires.2 c.args.from c.requires.3 c.from-byte.ensures (c.div_ceil-used.ensures ∙ used-words a.positions) c.step_words-row.ensures in
    let met = row_met words a.n c.step_words-row.result c.find_row.result c.find_row.ensures (sym c.is_some.ensures ∙ c.if-is_some.true) in record {
      kept = refl;
      untouched = untouched-same words a.n;
      more = omega arith;
      answer = step-known (codes_laid a.positions words) words a.n a.i a.b c.requires.4 c.requires.1 c.requires.2 met.0 met.1 (met.2 ∙ row);
    }

pub returns-then-n-ge-MOST_STATES-clause-searched : goal.returns-then-n-ge-MOST_STATES-clause-searched
returns-then-n-ge-MOST_STATES-clause-searched c =
    let a = c.args in
    let words = a.words.now in
    let row = leads words a.positions a.i a.b c.requires.0 c.requires.2 c.args.from c.requires.3 c.from-byte.ensures (c.div_ceil-used.ensures ∙ used-words a.positions) c.step_words-row.ensures in
    let new = row_new words a.n c.step_words-row.result c.find_row.result c.find_row.ensures (sym c.is_some.ensures ∙ c.if-is_some.false) in
    record {
      kept = refl;
      untouched = untouched-same words most_states;
      more = c.requires.4.few;
      answer = step-over (codes_laid a.positions words) words a.n a.i a.b c.requires.4 c.requires.1 c.requires.2 (omega arith) (λ j l same. new j l (same ∙ sym row));
    }

pub returns : goal.returns
returns c =
    let a = c.args in
    let words = a.words.now in
    let codes = codes_laid a.positions words in
    let row = leads words a.positions a.i a.b c.requires.0 c.requires.2 c.args.from c.requires.3 c.from-byte.ensures (c.div_ceil-used.ensures ∙ used-words a.positions) c.step_words-row.ensures in
    let new = row_new words a.n c.step_words-row.result c.find_row.result c.find_row.ensures (sym c.is_some.ensures ∙ c.if-is_some.false) in
    let result = c.step_words-row.result in
    let eight : length result ≡ 8 = ap length row ∙ step-length codes a.b (row_at words a.i) in
    let space : a.n < most_states = omega arith in
    let laid = ap₂ (λ (l : List ℕ) (x : ℕ). set l (keys_at + a.n) (a.i * 128 + x)) c.put_row.ensures c.from-byte.ensures in record {
      searched = record {
        kept = ap (drop codes_at) laid ∙ with-kept words a.n result (a.i * 128 + a.b) eight space (omega (arith, c.requires.0.room));
        untouched =
            subst (λ (l : List ℕ). Untouched words l (a.n + 1)) (sym laid)
            (with-untouched words a.n result (a.i * 128 + a.b) eight space (omega (arith, c.requires.0.room)) c.requires.4.some);
        more = omega arith;
        answer =
            subst (λ (l : List ℕ). Partial codes l (a.n + 1) (a.i * 128 + a.b + 1)) (sym laid)
            (subst (λ (m : ℕ). Partial codes (with_row words a.n result (a.i * 128 + a.b)) m (a.i * 128 + a.b + 1)) (sym (add-one a.n))
            (step-new codes words a.n a.i a.b c.requires.4 c.requires.1 c.requires.2 result row eight space (omega (arith, c.requires.0.room)) new));
      };
      kept = ap (λ (l : List ℕ). row_at l a.i) laid
          ∙ with-other-row words a.n result (a.i * 128 + a.b) eight space (omega (arith, c.requires.0.room)) a.i (omega (arith, c.requires.1, c.requires.4.few)) (λ w. omega (arith, c.requires.1));
    }
