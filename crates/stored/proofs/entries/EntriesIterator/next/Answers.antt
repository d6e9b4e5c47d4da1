-- A record that is found is the first entry of those left, and the others are those of the bytes behind it.
use Rattle.std.proofs.Common.{arith, rules, sym, ◌∙◌, ap, length, ◌+◌}
use Rattle.std.proofs.lemmas.List.{take_rest}
use Rattle.std.proofs.Math.Nat.{add-sub_cancel_left}
use Rattle.stored.specs.EntriesLeft.{entries_left}
use Rattle.stored.proofs.EntriesLeft.{entry-first, found-first, none-found}
use Rattle.stored.proofs.Walking.{inside, body-length, record-has-kind}
use Rattle.stored.proofs.entries.EntriesIterator.next.Goals as goal

pub returns-in_err-record-clause-steps : goal.returns-in_err-record-clause-steps
unfolding entries_left
returns-in_err-record-clause-steps c =
    let none = none-found c.args.self.now.rest.now _ c.record_at.ensures (sym c.ok.ensures.value ∙ c.in_err-record.was) in
    rw (c.from_residual.ensures)
    (none, none)

pub overflow_add-end : goal.overflow_add-end
overflow_add-end c =
    let within = inside _ _ _ _ _ (found-first _ _ _ c.record_at.ensures (sym c.ok.ensures.value ∙ c.in_ok-record.was)) in
    omega arith

pub slice_bounds-bytes-end : goal.slice_bounds-bytes-end
slice_bounds-bytes-end c =
    let within = inside _ _ _ _ _ (found-first _ _ _ c.record_at.ensures (sym c.ok.ensures.value ∙ c.in_ok-record.was)) in
    omega arith

pub slice_bounds-self-count : goal.slice_bounds-self-count
slice_bounds-self-count c =
    let within = inside _ _ _ _ _ (found-first _ _ _ c.record_at.ensures (sym c.ok.ensures.value ∙ c.in_ok-record.was)) in
    omega arith

pub slice_bounds-self-start : goal.slice_bounds-self-start
slice_bounds-self-start c =
    let within = inside _ _ _ _ _ (found-first _ _ _ c.record_at.ensures (sym c.ok.ensures.value ∙ c.in_ok-record.was)) in
    search rules

pub invariant_of-result : goal.invariant_of-result
invariant_of-result c =
    let t = c.args.self.now.rest.now in
    let r = c.in_ok-record.record in
    record {
      has_kind =
          rw (add-sub_cancel_left, body-length t 0 r.item r.start r.size (found-first t _ r c.record_at.ensures (sym c.ok.ensures.value ∙ c.in_ok-record.was)))
          (record-has-kind t 0 r.item r.start r.size (found-first t _ r c.record_at.ensures (sym c.ok.ensures.value ∙ c.in_ok-record.was)));
    }

pub returns-clause-steps : goal.returns-clause-steps
unfolding entries_left
returns-clause-steps c =
    let t = c.args.self.now.rest.now in
    let r = c.in_ok-record.record in
    rw (add-sub_cancel_left, take_rest t (r.start + r.size)) (entry-first t r.item r.start r.size (found-first t _ r c.record_at.ensures (sym c.ok.ensures.value ∙ c.in_ok-record.was)))

pub returns-clause-goes : goal.returns-clause-goes
unfolding entries_left
returns-clause-goes c =
    let t = c.args.self.now.rest.now in
    let r = c.in_ok-record.record in
    let shorter = ap length (entry-first t r.item r.start r.size (found-first t _ r c.record_at.ensures (sym c.ok.ensures.value ∙ c.in_ok-record.was))) in
    rw (take_rest t (r.start + r.size)) (search rules)
