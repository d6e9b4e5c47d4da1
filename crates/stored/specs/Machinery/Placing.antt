-- What the functions of the writer ask of each other.
use Rattle.std.specs.Prelude.{ℕ, ◌≤◌}
use Rattle.std.specs.Coded.{Unit-prop, le_prop}
use Rattle.stored.specs.declared.items.Item.{Item}
use Rattle.stored.specs.declared.items.Item.TheVariants as I

-- a value has at most 128 bytes, so that its kind is at most BF
abbrev pub HasKind : Item → ℕ → Type 0
HasKind (I.Start n) size = Unit {0}
HasKind (I.Statement e) size = Unit {0}
HasKind (I.Column c) size = Unit {0}
HasKind (I.Condition o k) size = Unit {0}
HasKind (I.Network a n) size = Unit {0}
HasKind I.Value size = size ≤ 128
HasKind I.End size = Unit {0}

-- and in one way only
pub HasKind-prop : (item : Item) (size : ℕ) → IsProp (HasKind item size)
HasKind-prop (I.Start n) size = Unit-prop
HasKind-prop (I.Statement e) size = Unit-prop
HasKind-prop (I.Column c) size = Unit-prop
HasKind-prop (I.Condition o k) size = Unit-prop
HasKind-prop (I.Network a n) size = Unit-prop
HasKind-prop I.Value size = le_prop
HasKind-prop I.End size = Unit-prop
