use Rattle.std.proofs.Common.{◌≡◌, ◌++◌, length, ap, sym, ◌∙◌}
use Rattle.hub_parts.proofs.OpenedParts.{opened_so, keeps_opened, flusher_opened, meet_opened, when_ok}
use Rattle.hub_parts.proofs.WaitLemmas.{all_counted, none_waits}
use Rattle.hub_parts.proofs.opening.open.Goals as goal

pub invariant_of-result : goal.invariant_of-result
invariant_of-result g c = (
  keeps_opened c.in_ok-replica.field-0.replica c.len-begun.result c.in_ok-replica.ensures.replica (c.len-begun.ensures ∙ ap length c.list-ops.ensures.list),
  none_waits c.in_ok-replica.field-0.replica c.len-begun.result c.new.result.items (c.len-begun.ensures ∙ ap length c.list-ops.ensures.list) c.new.ensures.items,
  all_counted c.in_ok-replica.field-0.replica c.len-begun.result c.records_length-begun_bytes.result (c.len-begun.ensures ∙ ap length c.list-ops.ensures.list) c.records_length-begun_bytes.ensures,
)

pub invariant_of-result-2 : goal.invariant_of-result-2
invariant_of-result-2 g c =
    let same : c.extend_from.new.self ≡ c.in_ok-replica.field-0.replica.list =
    when_ok _ c.extend_from.result c.is_err.result c.is_err.ensures.value c.if-is_err.false c.extend_from.ensures.ok ∙ ap (λ xs. xs ++ c.list-ops.result) c.new-list.ensures ∙ c.list-ops.ensures.list in
    flusher_opened g.D.DiskFacts c.in_ok-replica.field-0.store c.in_ok-replica.field-0.replica.replica c.in_ok-replica.field-0.replica.list c.extend_from.new.self c.in_ok-replica.ensures.loaded.history c.in_ok-replica.ensures.loaded.idle
    (λ told. c.in_ok-replica.ensures.loaded.left (c.in_ok-replica.ensures.looks.tells.0 told)) same

pub returns-clause-opened : goal.returns-clause-opened
returns-clause-opened g c =
    let same : c.extend_from.new.self ≡ c.in_ok-replica.field-0.replica.list =
    when_ok _ c.extend_from.result c.is_err.result c.is_err.ensures.value c.if-is_err.false c.extend_from.ensures.ok ∙ ap (λ xs. xs ++ c.list-ops.result) c.new-list.ensures ∙ c.list-ops.ensures.list in
    record {
      locked = opened_so c.in_ok-replica.field-0.replica c.len-begun.result c.in_ok-replica.ensures.replica (c.len-begun.ensures ∙ ap length c.list-ops.ensures.list);
      idle = c.in_ok-replica.ensures.loaded.idle;
      works = c.in_ok-replica.ensures.loaded.works;
      fits = meet_opened c.in_ok-replica.field-0.replica c.len-begun.result c.in_ok-replica.field-0.store c.extend_from.new.self c.in_ok-replica.ensures.replica (c.len-begun.ensures ∙ ap length c.list-ops.ensures.list) c.in_ok-replica.ensures.loaded.history same;
    }

pub returns-then-is_err-clause-looks_refused : goal.returns-then-is_err-clause-looks_refused
returns-then-is_err-clause-looks_refused g c = rw c.into_disk.ensures (record {
  looked = c.in_ok-replica.ensures.looks;
  alone = λ told is. absurd (cc);
  settled = λ told is file left. c.in_ok-replica.ensures.loaded.settled told file left ∙ sym ((c.in_ok-replica.ensures.looks.looks told).same);
})
