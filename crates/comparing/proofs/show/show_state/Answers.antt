-- The lowest state that shows the footprint is there, and its string is the first value.
use Rattle.std.proofs.Common.{ℕ, ◌*◌, ◌≤◌, refl, ◌∙◌, ap, subst, List, length}
use Rattle.std.proofs.Math.Seq.{sets}
use Rattle.judging.specs.Judging.{rows_of}
use Rattle.comparing.specs.Machinery.ShownValues.{FoundState}
use Rattle.comparing.proofs.show.FirstFound.{codes-few, some-state, string-found, string-short}
use Rattle.comparing.proofs.show.show_state.Goals as goal

pub unwrap-i-requires : goal.unwrap-i-requires
unwrap-i-requires c =
    let a = c.args in
    some-state (rows_of a.tables.first.now) (rows_of a.tables.second.now) a.column (codes-few (rows_of a.tables.first.now) (rows_of a.tables.second.now) a.column c.requires.0.narrow) a.words.now a.states c.requires.0.explored a.from c.requires.1 c.requires.2
    a.print c.requires.5.0 c.requires.5.1 c.find_state.result c.find_state.ensures

pub returns : goal.returns
returns c =
    let a = c.args in
    λ s w.
    let few = codes-few (rows_of a.tables.first.now) (rows_of a.tables.second.now) a.column c.requires.0.narrow in
    let lowest = subst (FoundState (rows_of a.tables.first.now) (rows_of a.tables.second.now) a.column a.words.now a.from a.states a.print) c.unwrap-i.ensures c.find_state.ensures in
    let is =
    string-found (rows_of a.tables.first.now) (rows_of a.tables.second.now) a.column few a.words.now a.states c.requires.0.explored a.from c.requires.1 c.requires.2 a.print s w c.unwrap-i.result lowest in
    record {
      bytes = c.lay_string.ensures.laid ∙ ap (sets a.values.now (a.column * 512)) is;
      there = refl;
      size = c.lay_string.ensures.size ∙ ap length is;
      short =
          subst (λ (x : List ℕ). length x ≤ 512) is
          (string-short (rows_of a.tables.first.now) (rows_of a.tables.second.now) a.column few a.words.now a.states c.requires.0.explored a.from c.requires.1 c.requires.2 c.unwrap-i.result lowest.high);
    }
