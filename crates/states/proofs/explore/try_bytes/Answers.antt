use Rattle.std.proofs.Common.{◌≡◌, ℕ, ◌+◌, ◌*◌, List, refl, sym, ap, ◌∙◌, subst, arith, take, None, Some}
use Rattle.states.specs.declared.bytes.ByteSet.{ByteSet}
use Rattle.states.specs.declared.bytes.Bytes.{Bytes}
use Rattle.states.specs.Machinery.Rows.{most_states, codes_laid, row_at}
use Rattle.states.specs.Machinery.Search.{Enough, Partial, Searched}
use Rattle.states.proofs.RowsInWords.{untouched-same, untouched-both}
use Rattle.states.proofs.Stepping.{search-later, search-answers}
use Rattle.states.proofs.TakenRows.{searchable-stays}
use Rattle.states.proofs.Trying.{skip-to}
use Rattle.states.proofs.explore.try_bytes.Goals as goal

-- every byte that the iterator does not give leads where a smaller one leads
every : (codes : List ℕ) (to_try set : ByteSet) (from row : List ℕ) → Enough codes from to_try.words → set ≡ to_try → from ≡ row → Enough codes row set.words
every codes to_try set from row enough same there =
    subst (λ (s : ByteSet). Enough codes row s.words) (sym same) (subst (λ (row : List ℕ). Enough codes row to_try.words) there enough)

pub loop-b-init : goal.loop-b-init
loop-b-init c =
    let a = c.args in
    let words = a.words.now in
    let codes = codes_laid a.positions words in
    let first = ap (λ (s : Bytes). s.from) c.into_iter-b-iterator.ensures.into_iter_gives ∙ c.bytes-b-items.ensures.from in
    record {
      set = refl;
      low = omega arith;
      high = omega arith;
      more = omega arith;
      kept = refl;
      row = refl;
      partial =
          search-later codes words a.n (a.i * 128) (a.i * 128 + c.into_iter-b-iterator.result.from) c.requires.2 (omega arith)
          (λ i b is k. omega (arith, is.0));
      untouched = untouched-same words a.n;
    }

pub try_step-requires : goal.try_step-requires
try_step-requires c =
    let l = c.loop-b in
    let a = c.args in
    let codes = codes_laid a.positions a.words.now in
    let set = l.invariant.set ∙ ap (λ (s : Bytes). s.set) c.into_iter-b-iterator.ensures.into_iter_gives ∙ c.bytes-b-items.ensures.set in
    let next = c.in-Some.ensures.steps.0 in
    let up = next.low in
    let high = next.high in (
      searchable-stays a.words.now l.words l.invariant.kept a.positions l.auto.words c.requires.0,
      omega (arith, c.requires.1, l.invariant.more),
      (omega (arith, l.invariant.low), omega arith),
      c.row_at-from.ensures ∙ sym l.invariant.row,
      subst (λ (codes : List ℕ). Partial codes l.words l.found (a.i * 128 + c.in-Some.b)) (sym (ap (take a.positions) l.invariant.kept))
          (skip-to codes l.words l.b-iterator.set.words l.found a.i (omega (arith, c.requires.1, l.invariant.more))
          (every codes c.bytes_from.result l.b-iterator.set c.row_at-from.result (row_at l.words a.i) c.bytes_from.ensures set (c.row_at-from.ensures ∙ sym l.invariant.row))
          l.b-iterator.from c.in-Some.b l.invariant.low up (omega arith) next.between l.invariant.partial),
    )

pub returns-in_err-found : goal.returns-in_err-found
returns-in_err-found c =
    let l = c.loop-b in
    let a = c.args in
    let searched = c.in_err-found.ensures.searched in
    subst (Searched a.positions a.words.now c.try_step.new.words a.n ((a.i + 1) * 128)) (sym c.from_residual.ensures)
    record {
      kept = searched.kept ∙ l.invariant.kept;
      untouched = untouched-both a.words.now l.words c.try_step.new.words l.found most_states searched.more l.invariant.untouched searched.untouched;
      more = omega (arith, searched.more, l.invariant.more);
      answer = search-answers a.positions a.words.now l.words c.try_step.new.words l.found (a.i * 128 + c.in-Some.b + 1) None l.invariant.kept searched;
    }

pub loop-b-preserved : goal.loop-b-preserved
loop-b-preserved c =
    let l = c.loop-b in
    let a = c.args in
    let codes = codes_laid a.positions a.words.now in
    let searched = c.in_ok-found.ensures.searched in
    let next = c.in-Some.ensures.steps in
    let up = next.0.low in
    let high = next.0.high in record {
      set = next.1 ∙ l.invariant.set;
      low = omega (arith, next.2, l.invariant.low);
      high = omega (arith, next.2);
      more = omega (arith, searched.more, l.invariant.more);
      kept = searched.kept ∙ l.invariant.kept;
      row = c.in_ok-found.ensures.kept ∙ l.invariant.row;
      partial =
          subst (Partial codes c.try_step.new.words c.in_ok-found.found) {x = a.i * 128 + c.in-Some.b + 1} {y = a.i * 128 + c.next.new.self.from} (omega (arith, next.2))
          (search-answers a.positions a.words.now l.words c.try_step.new.words l.found (a.i * 128 + c.in-Some.b + 1) (Some c.in_ok-found.found) l.invariant.kept searched);
      untouched = untouched-both a.words.now l.words c.try_step.new.words l.found c.in_ok-found.found searched.more l.invariant.untouched searched.untouched;
    }

pub returns : goal.returns
returns c =
    let l = c.loop-b in
    let a = c.args in
    let codes = codes_laid a.positions a.words.now in
    let set = l.invariant.set ∙ ap (λ (s : Bytes). s.set) c.into_iter-b-iterator.ensures.into_iter_gives ∙ c.bytes-b-items.ensures.set in
    record {
      kept = l.invariant.kept;
      untouched = l.invariant.untouched;
      more = l.invariant.more;
      answer =
          search-later codes l.words l.found (a.i * 128 + 127) ((a.i + 1) * 128)
          (skip-to codes l.words l.b-iterator.set.words l.found a.i (omega (arith, c.requires.1, l.invariant.more))
          (every codes c.bytes_from.result l.b-iterator.set c.row_at-from.result (row_at l.words a.i) c.bytes_from.ensures set (c.row_at-from.ensures ∙ sym l.invariant.row))
          l.b-iterator.from 127 l.invariant.low l.invariant.high (omega arith) c.in-None.ensures.steps.0 l.invariant.partial)
          (omega arith) (λ i b is k. omega (arith, is.1));
    }
