-- A record adds what it adds in front of what is left behind it.
use Rattle.std.proofs.Common.{◌≡◌, ℕ, List, [], ◌∷◌, ◌++◌, length, rules, refl, ap, sym, ◌∙◌}
use Rattle.stored.specs.EntriesLeft.{entries_left}
use Rattle.stored.specs.Entries.{entry_of}
use Rattle.stored.specs.Tables.{Listed}
use Rattle.stored.specs.declared.items.Item.{Item}
use Rattle.matching.specs.declared.reading.Reading.{Reading}
use Rattle.columns.specs.declared.contents.ListAt.{ListAt}
use Rattle.columns.specs.declared.contents.Contents.{Contents}
use Rattle.columns.specs.Machinery.Contents.{contents_from}
use Rattle.columns.specs.Machinery.ContentsLeft.{contents_left}
use Rattle.columns.specs.Machinery.Lists.{moved_of, found_of}
use Rattle.columns.proofs.LeftInColumn.{contents-more}
use Rattle.columns.proofs.contents.ContentsIterator.next.Goals as goal

passed : (s t : Contents) (i : Item) (bytes : List ℕ) → entries_left s.entries ≡ entry_of i bytes ∷ entries_left t.entries → t.list ≡ moved_of s.column s.list i → t.column ≡ s.column
    → contents_left s ≡ found_of s.list i bytes ++ contents_left t
unfolding contents_left
passed s t i bytes left list column =
    ap (contents_from s.column s.list.here s.list.reading) left
    ∙ contents-more s.column (entries_left t.entries) bytes s.list i
    ∙ ap (λ (l : ListAt). found_of s.list i bytes ++ contents_from s.column l.here l.reading (entries_left t.entries)) (sym list)
    ∙ ap (λ (n : ℕ). found_of s.list i bytes ++ contents_from n t.list.here t.list.reading (entries_left t.entries)) (sym column)

none : (s : Contents) → entries_left s.entries ≡ [] → contents_left s ≡ []
unfolding contents_left
none s left = ap (contents_from s.column s.list.here s.list.reading) left

pub returns-in-Some-found-clause-steps : goal.returns-in-Some-found-clause-steps
returns-in-Some-found-clause-steps c =
    let l = c.loop-entry.self in
    let t : Contents = record { entries = c.next.new.self; column = l.column; list = c.moved-self.result } in
    sym c.loop-entry.invariant
    ∙ passed l t c.in-Some.entry.item c.in-Some.entry.bytes.now c.in-Some.ensures.steps c.moved-self.ensures refl
    ∙ ap (λ (found : List (Reading × Listed)). found ++ contents_left t) (sym c.in-Some-found.ensures)

pub returns-in-Some-found-clause-goes : goal.returns-in-Some-found-clause-goes
returns-in-Some-found-clause-goes c = let shorter = ap length (returns-in-Some-found-clause-steps c) in search rules

pub loop-entry-preserved : goal.loop-entry-preserved
loop-entry-preserved c =
    let l = c.loop-entry.self in
    let t : Contents = record { entries = c.next.new.self; column = l.column; list = c.moved-self.result } in
    ap (λ (found : List (Reading × Listed)). found ++ contents_left t) c.in_default-found.ensures
    ∙ sym (passed l t c.in-Some.entry.item c.in-Some.entry.bytes.now c.in-Some.ensures.steps c.moved-self.ensures refl)
    ∙ c.loop-entry.invariant

pub returns-clause-steps : goal.returns-clause-steps
returns-clause-steps c =
    let l = c.loop-entry.self in
    (sym c.loop-entry.invariant ∙ none l c.in_default.ensures.steps.0, none (record { entries = c.next.new.self; column = l.column; list = l.list }) c.in_default.ensures.steps.1)
