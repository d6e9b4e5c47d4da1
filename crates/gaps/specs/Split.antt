-- Where the first of two tables that stand one behind the other ends: with the first record 05 met by walking kinds. Kinds and
-- sizes alone are looked at; if the walk meets no 05, all input is the first table (RULES 8).
use Rattle.std.specs.Prelude.{ℕ, zero, suc, ◌+◌, ◌-◌, List, ltb, length, get_or}
use Rattle.stored.specs.Choice.{pick}
use Rattle.stored.specs.Records.{kind_of, size_of}
use Rattle.stored.specs.declared.records.Kind.{Kind}
use Rattle.stored.specs.declared.records.Kind.TheVariants as K
use Rattle.std.specs.declared.ops.ControlFlow.{ControlFlow}
use Rattle.std.specs.declared.ops.ControlFlow.TheVariants.{Continue, Break}

-- Passing a record goes on with the next one at a place, or ends the first table at a place.

-- a record that is no end: the next one stands behind its body; where the bytes end inside it, the walk meets no 05
abbrev pub behind_body : List ℕ → ℕ → ℕ → ControlFlow ℕ ℕ
behind_body t start size = pick (ltb (length t - start) size) (Break (length t)) (Continue (start + size))

-- a record with a body of some size that starts at a place: 05 ends the first table, and an unknown kind ends the walk without one
abbrev pub passed_kind : List ℕ → ℕ → ℕ → Kind → ControlFlow ℕ ℕ
passed_kind t start size K.Start = behind_body t start size
passed_kind t start size K.Statement = behind_body t start size
passed_kind t start size K.Column = behind_body t start size
passed_kind t start size K.Condition = behind_body t start size
passed_kind t start size K.End = Break start
passed_kind t start size K.Network = behind_body t start size
passed_kind t start size (K.Value n) = behind_body t start size
passed_kind t start size K.Unknown = Break (length t)

-- the record at a place
unfoldable pub passed_at : List ℕ → ℕ → ControlFlow ℕ ℕ
passed_at t at = passed_kind t (at + 1) (size_of (kind_of (get_or t at 0))) (kind_of (get_or t at 0))

abbrev pub after_passed : (ℕ → ℕ) → ControlFlow ℕ ℕ → ℕ
after_passed go (Continue next) = go next
after_passed go (Break end) = end

-- every record from a place on, at most as many as the first number says
abbrev pub end_from : ℕ → List ℕ → ℕ → ℕ
end_from zero t at = length t
end_from (suc fuel) t at = pick (ltb at (length t)) (after_passed (end_from fuel t) (passed_at t at)) (length t)

-- where the first table ends; every record takes a byte at least, so that the input's length is enough
unfoldable pub first_end : List ℕ → ℕ
first_end t = end_from (length t) t 0
