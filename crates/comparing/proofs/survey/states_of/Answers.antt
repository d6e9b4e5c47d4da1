-- The codes of the first table's values and those of the second's lie one behind the other in the workspace, and the search goes by them.
use Rattle.std.proofs.Common.{ℕ, ◌≤◌, ◌≡◌, ◌∙◌, subst, List, arith, length}
use Rattle.judging.specs.Judging.{rows_of}
use Rattle.states.specs.Machinery.Search.{FoundAll}
use Rattle.states.proofs.TakenRows.{codes-stay, searchable-laid}
use Rattle.columns.proofs.Widths.{sum_both}
use Rattle.comparing.proofs.survey.LaidCodes.{with_codes, with-length, part_length, codes-both-laid, prints-stay}
use Rattle.comparing.proofs.survey.states_of.Goals as goal

pub lay_codes-own-requires : goal.lay_codes-own-requires
lay_codes-own-requires c =
    let a = c.args in (
      c.args.tables.both_read.one,
      omega (arith, c.requires.0, sum_both a.column (rows_of a.tables.first.now) (rows_of a.tables.second.now), part_length a.words.now c.requires.1),
    )

pub lay_codes-positions-requires : goal.lay_codes-positions-requires
lay_codes-positions-requires c =
    let a = c.args in
    let size : length c.lay_codes-own.new.codes ≡ 512 = c.lay_codes-own.auto.codes ∙ part_length a.words.now c.requires.1 in
    let long : 5976 ≤ length (with_codes a.words.now c.lay_codes-own.new.codes) = omega (arith, c.requires.1, with-length a.words.now c.lay_codes-own.new.codes c.requires.1 size) in (
      c.args.tables.both_read.two,
      omega (arith, c.requires.0, c.lay_codes-own.ensures.next, sum_both a.column (rows_of a.tables.first.now) (rows_of a.tables.second.now), part_length (with_codes a.words.now c.lay_codes-own.new.codes) long),
    )

pub lay_taken-requires : goal.lay_taken-requires
lay_taken-requires c =
    let a = c.args in
    let size : length c.lay_codes-own.new.codes ≡ 512 = c.lay_codes-own.auto.codes ∙ part_length a.words.now c.requires.1 in
    let same = with-length a.words.now c.lay_codes-own.new.codes c.requires.1 size in
    let long : 5976 ≤ length (with_codes a.words.now c.lay_codes-own.new.codes) = omega (arith, c.requires.1, same) in
    let also : length c.lay_codes-positions.new.codes ≡ 512 = c.lay_codes-positions.auto.codes ∙ part_length (with_codes a.words.now c.lay_codes-own.new.codes) long in
    let all = with-length (with_codes a.words.now c.lay_codes-own.new.codes) c.lay_codes-positions.new.codes long also in
    (omega (arith, c.requires.0, c.lay_codes-own.ensures.next, c.lay_codes-positions.ensures.next, sum_both a.column (rows_of a.tables.first.now) (rows_of a.tables.second.now)), omega (arith, long, all))

pub explore-states-requires : goal.explore-states-requires
explore-states-requires c =
    let a = c.args in
    let size : length c.lay_codes-own.new.codes ≡ 512 = c.lay_codes-own.auto.codes ∙ part_length a.words.now c.requires.1 in
    let same = with-length a.words.now c.lay_codes-own.new.codes c.requires.1 size in
    let long : 5976 ≤ length (with_codes a.words.now c.lay_codes-own.new.codes) = omega (arith, c.requires.1, same) in
    let also : length c.lay_codes-positions.new.codes ≡ 512 = c.lay_codes-positions.auto.codes ∙ part_length (with_codes a.words.now c.lay_codes-own.new.codes) long in
    let all = with-length (with_codes a.words.now c.lay_codes-own.new.codes) c.lay_codes-positions.new.codes long also in
    searchable-laid c.lay_codes-positions.result (with_codes (with_codes a.words.now c.lay_codes-own.new.codes) c.lay_codes-positions.new.codes) c.lay_taken.new.words
    (omega (arith, c.requires.0, c.lay_codes-own.ensures.next, c.lay_codes-positions.ensures.next, sum_both a.column (rows_of a.tables.first.now) (rows_of a.tables.second.now)))
    c.lay_taken.ensures (omega (arith, long, all))

pub returns : goal.returns
returns c =
    let a = c.args in
    let size : length c.lay_codes-own.new.codes ≡ 512 = c.lay_codes-own.auto.codes ∙ part_length a.words.now c.requires.1 in
    let same = with-length a.words.now c.lay_codes-own.new.codes c.requires.1 size in
    let long : 5976 ≤ length (with_codes a.words.now c.lay_codes-own.new.codes) = omega (arith, c.requires.1, same) in
    let also : length c.lay_codes-positions.new.codes ≡ 512 = c.lay_codes-positions.auto.codes ∙ part_length (with_codes a.words.now c.lay_codes-own.new.codes) long in
    let all = with-length (with_codes a.words.now c.lay_codes-own.new.codes) c.lay_codes-positions.new.codes long also in
    let sums = sum_both a.column (rows_of a.tables.first.now) (rows_of a.tables.second.now) in
    let most : c.lay_codes-positions.result ≤ 512 = omega (arith, c.requires.0, c.lay_codes-own.ensures.next, c.lay_codes-positions.ensures.next, sums) in
    let codes =
    codes-stay c.lay_codes-positions.result (with_codes (with_codes a.words.now c.lay_codes-own.new.codes) c.lay_codes-positions.new.codes) c.lay_taken.new.words most c.lay_taken.ensures
    ∙ codes-both-laid a.words.now c.requires.1 a.column (rows_of a.tables.first.now) (rows_of a.tables.second.now) c.requires.0 c.lay_codes-own.new.codes c.lay_codes-positions.new.codes
    c.lay_codes-own.result c.lay_codes-positions.result c.lay_codes-own.ensures.next c.lay_codes-own.ensures.laid c.lay_codes-positions.ensures.next c.lay_codes-positions.ensures.laid in
    record {
      mine = omega (arith, c.lay_codes-own.ensures.next);
      all = omega (arith, c.lay_codes-own.ensures.next, c.lay_codes-positions.ensures.next, sums);
      answer = subst (λ (codes : List ℕ). FoundAll codes c.explore-states.new.words c.explore-states.result) codes c.explore-states.ensures.answer;
      kept = prints-stay a.words.now c.requires.1 c.lay_codes-own.new.codes c.lay_codes-positions.new.codes c.lay_taken.new.words c.explore-states.new.words size also c.lay_taken.ensures.behind c.explore-states.ensures.kept;
      same = c.explore-states.auto.words ∙ c.lay_taken.auto.words ∙ all ∙ same;
    }
