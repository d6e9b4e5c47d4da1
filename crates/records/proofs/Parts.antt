-- The parts of a statement, one behind the other.
use Rattle.std.proofs.Common.{ℕ, suc, ◌≡◌, refl, Option, Some, None, List}
use Rattle.json_text.specs.Machinery.Marks.{tokens_at}
use Rattle.members.specs.Members.{row_kind, row_slot}
use Rattle.members.specs.Names.{index_of_row}
use Rattle.members.specs.declared.names.RowName.{RowName}
use Rattle.records.specs.Wishes.{Wish}
use Rattle.records.specs.Machinery.Walkers.{seek}
use Rattle.records.specs.Machinery.Streams.{element_from}
use Rattle.records.specs.Machinery.Cursors.{conditions_left, part_left, element_of}
use Rattle.records.specs.declared.rows.Row.{Row}
use Rattle.records.specs.declared.stages.Part.{Part}
use Rattle.records.specs.declared.stages.Part.TheVariants as P

-- what comes from an element on, with the part behind it; or the conditions
abbrev pub after_part : List ℕ → Row → Option (RowName × Part) → List Wish
after_part t row None = conditions_left t row
after_part t row (Some (like, behind)) =
    element_from (seek row_kind row_slot (row_slot (suc (index_of_row like))) (tokens_at t row.members) 0) (part_left t row behind)

pub part-element : (t : List ℕ) (row : Row) (p : Part) → part_left t row p ≡ after_part t row (element_of p)
part-element t row P.Principal = refl
part-element t row P.Action = refl
part-element t row P.Resource = refl
part-element t row P.Conditions = refl

-- how many elements may still come
abbrev pub rank : Part → ℕ
rank P.Principal = 3
rank P.Action = 2
rank P.Resource = 1
rank P.Conditions = 0
