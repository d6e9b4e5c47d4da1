-- The networks are the contents that are none of the values.
use Rattle.std.proofs.Common.{arith, inl, ap, length, rules, ◌∙◌}
use Rattle.std.proofs.lemmas.Iterator.Consumers.{count_from_yields_List, YieldsList-from_filter, YieldsList-from_first}
use Rattle.stored.specs.Entries.{entries_of}
use Rattle.columns.specs.Machinery.ContentsLeft.{content_of, contents_left, all_contents}
use Rattle.columns.proofs.LeftInColumn.{all-networks, contents-few, is_range, networks-count}
use Rattle.columns.proofs.contents.networks_in.Goals as goal

pub count-requires-clause-fits : goal.count-requires-clause-fits
count-requires-clause-fits c =
    inl (rw (c.filter.ensures.source, c.contents_of.ensures) (omega (arith, contents-few 7 c.args.table.now, c.well_formed)))

pub returns : goal.returns
returns c =
    count_from_yields_List _ _ c.count.ensures.ran
    (YieldsList-from_filter _ is_range
    (YieldsList-from_first content_of contents_left (all_contents 7 (entries_of c.args.table.now)) (ap contents_left c.filter.ensures.source ∙ c.contents_of.ensures))
    c.filter.ensures.closure
    (λ x b q k. search rules))
    ∙ networks-count (all_contents 7 (entries_of c.args.table.now))
    ∙ ap length (all-networks c.args.table.now c.requires)
