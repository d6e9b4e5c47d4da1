-- Two tables that were read meet what the survey asks of them.
use Rattle.std.proofs.Common.{ℕ, ◌≡◌, List}
use Rattle.stored.specs.Reading.{reading, ReadAnswer as A}
use Rattle.stored.proofs.Accepting.{accepted, counted, few}
use Rattle.columns.specs.Machinery.Both.{BothRead}

pub both_read : (first second : List ℕ) (m n : ℕ) → reading first ≡ A.Accepted m → reading second ≡ A.Accepted n → BothRead first second m
both_read first second m n one two =
    record {
      one = accepted first m one;
      two = accepted second n two;
      few = few first m one;
      more = few second n two;
      rows = counted first m one;
    }
