-- The steps by the bytes before the next one to be tried were tried, or lead where these led: that is the invariant.
use Rattle.std.proofs.Common.{◌≡◌, ◌+◌, ◌*◌, ◌≤◌, drop}
use Rattle.states.specs.Machinery.Rows.{codes_at, codes_laid, row_at}
use Rattle.states.specs.Machinery.Search.{Partial, Untouched}
use Rattle.states.proofs.explore.try_bytes.Given as goal

abbrev pub invariant-loop-b : goal.invariant-loop-b
invariant-loop-b l = record {
  set : l.b-iterator.set ≡ l.initial.b-iterator.set;
  low : 0x21 ≤ l.b-iterator.from;
  high : l.b-iterator.from ≤ 127;
  more : l.n ≤ l.found;
  kept : drop codes_at l.words ≡ drop codes_at l.initial.words;
  row : row_at l.words l.i ≡ row_at l.initial.words l.i;
  partial : Partial (codes_laid l.positions l.initial.words) l.words l.found (l.i * 128 + l.b-iterator.from);
  untouched : Untouched l.initial.words l.words l.found;
}
