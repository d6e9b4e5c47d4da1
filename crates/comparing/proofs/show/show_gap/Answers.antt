-- Each column shows the first value with its footprint, and the values lie one behind the other over zeros.
use Rattle.std.proofs.Common.{ℕ, ◌<◌, ◌∙◌, arith, get_or}
use Rattle.judging.specs.Requests.{column_of}
use Rattle.judging.specs.Judging.{rows_of}
use Rattle.columns.proofs.PlansLaid.{addresses-fit}
use Rattle.comparing.specs.Machinery.ShownValues.{FirstWith}
use Rattle.comparing.proofs.show.AlongPath.{first-at}
use Rattle.comparing.proofs.show.LaidValues.{gap-shown}
use Rattle.comparing.proofs.show.show_gap.Goals as goal

pub show_text-principal-requires : goal.show_text-principal-requires
show_text-principal-requires c = (
  c.requires.0 0 (omega arith),
  c.requires.1 0 (omega arith),
  omega arith,
  omega arith,
  omega arith,
  (column_of c.requires.4.0 0, first-at (rows_of c.args.tables.first.now) (rows_of c.args.tables.second.now) c.args.prints c.requires.4.0 c.requires.4.1 0 (omega arith)),
)

pub show_text-action-requires : goal.show_text-action-requires
show_text-action-requires c = (
  c.requires.0 1 (omega arith),
  c.requires.1 1 (omega arith),
  omega arith,
  omega arith,
  omega arith,
  (column_of c.requires.4.0 1, first-at (rows_of c.args.tables.first.now) (rows_of c.args.tables.second.now) c.args.prints c.requires.4.0 c.requires.4.1 1 (omega arith)),
)

pub show_text-resource-requires : goal.show_text-resource-requires
show_text-resource-requires c = (
  c.requires.0 2 (omega arith),
  c.requires.1 2 (omega arith),
  omega arith,
  omega arith,
  omega arith,
  (column_of c.requires.4.0 2, first-at (rows_of c.args.tables.first.now) (rows_of c.args.tables.second.now) c.args.prints c.requires.4.0 c.requires.4.1 2 (omega arith)),
)

pub show_key-vpc-requires : goal.show_key-vpc-requires
show_key-vpc-requires c = (
  c.requires.0 3 (omega arith),
  c.requires.1 3 (omega arith),
  omega arith,
  omega arith,
  omega arith,
  omega arith,
  (column_of c.requires.4.0 3, first-at (rows_of c.args.tables.first.now) (rows_of c.args.tables.second.now) c.args.prints c.requires.4.0 c.requires.4.1 3 (omega arith)),
)

pub show_key-prefix-requires : goal.show_key-prefix-requires
show_key-prefix-requires c = (
  c.requires.0 4 (omega arith),
  c.requires.1 4 (omega arith),
  omega arith,
  omega arith,
  omega arith,
  omega arith,
  (column_of c.requires.4.0 4, first-at (rows_of c.args.tables.first.now) (rows_of c.args.tables.second.now) c.args.prints c.requires.4.0 c.requires.4.1 4 (omega arith)),
)

pub show_key-vpce-requires : goal.show_key-vpce-requires
show_key-vpce-requires c = (
  c.requires.0 5 (omega arith),
  c.requires.1 5 (omega arith),
  omega arith,
  omega arith,
  omega arith,
  omega arith,
  (column_of c.requires.4.0 5, first-at (rows_of c.args.tables.first.now) (rows_of c.args.tables.second.now) c.args.prints c.requires.4.0 c.requires.4.1 5 (omega arith)),
)

pub show_key-referer-requires : goal.show_key-referer-requires
show_key-referer-requires c = (
  c.requires.0 6 (omega arith),
  c.requires.1 6 (omega arith),
  omega arith,
  omega arith,
  omega arith,
  omega arith,
  (column_of c.requires.4.0 6, first-at (rows_of c.args.tables.first.now) (rows_of c.args.tables.second.now) c.args.prints c.requires.4.0 c.requires.4.1 6 (omega arith)),
)

pub lay_plans-plans-requires : goal.lay_plans-plans-requires
lay_plans-plans-requires c =
    let a = c.args in
    let kept = c.show_key-referer.auto.words ∙ c.show_key-vpce.auto.words ∙ c.show_key-prefix.auto.words ∙ c.show_key-vpc.auto.words ∙ c.show_text-resource.auto.words ∙ c.show_text-action.auto.words ∙ c.show_text-principal.auto.words in
    (addresses-fit a.tables.first.now a.tables.second.now c.args.tables.both_read.one c.args.tables.both_read.two c.args.tables.both_read.few c.args.tables.both_read.more c.requires.5, omega arith, omega (arith, c.requires.2, kept))

pub returns : goal.returns
returns c =
    let a = c.args in
    λ request w.
    let at : (i : ℕ) → i < 8 → FirstWith (rows_of a.tables.first.now) (rows_of a.tables.second.now) i (get_or a.prints i 0) (column_of request i) = first-at (rows_of a.tables.first.now) (rows_of a.tables.second.now) a.prints request w in
    gap-shown (rows_of a.tables.first.now) (rows_of a.tables.second.now) request w.firsts a.values.now _ _ _ _ _ _ _ _ _ _ _ _ _ _ _ _ c.clear_values.ensures
    (c.show_text-principal.ensures (column_of request 0) (at 0 (omega arith)))
    (c.show_text-action.ensures (column_of request 1) (at 1 (omega arith)))
    (c.show_text-resource.ensures (column_of request 2) (at 2 (omega arith)))
    (c.show_key-vpc.ensures (column_of request 3) (at 3 (omega arith)))
    (c.show_key-prefix.ensures (column_of request 4) (at 4 (omega arith)))
    (c.show_key-vpce.ensures (column_of request 5) (at 5 (omega arith)))
    (c.show_key-referer.ensures (column_of request 6) (at 6 (omega arith)))
    (c.show_address-address.ensures (column_of request 7) (at 7 (omega arith)))
