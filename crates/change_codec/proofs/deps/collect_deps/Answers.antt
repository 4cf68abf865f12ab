use Rattle.std.proofs.Common.{◌≡◌, ◌∙◌, sym, inl, inr, arith}
use Rattle.std.proofs.lemmas.Bool.Decides.{nat_tests}
use Rattle.std.proofs.lemmas.Result.{err_from_is_err_and}
use Rattle.change_codec.proofs.Clocks.{count_is_ok, collect_is_ok, collected_clock, collected_deps, no_deps, some_deps}
use Rattle.change_codec.proofs.deps.collect_deps.Goals as goal

pub returns-in_err-count-clause-err : goal.returns-in_err-count-clause-err
returns-in_err-count-clause-err c =
    absurd (count_is_ok c.args.bytes.now c.in_err-count.field-0.0 c.requires c.in_err-count.ensures)

pub returns-in_err-entries-clause-err : goal.returns-in_err-entries-clause-err
returns-in_err-entries-clause-err c =
    let p = err_from_is_err_and c.from_residual-in_err-entries.result c.from_residual-in_err-entries.ensures.1 in
    rw (p.1, p.2)
    (elim c.in_err-entries.ensures [
      | inl read ↦ absurd (collect_is_ok c.args.bytes.now c.in_ok-count.count c.in_ok-count.rest.now c.in_err-entries.field-0.0 c.requires c.in_ok-count.ensures read)
      | inr memory ↦ memory
    ])

pub unwrap-requires : goal.unwrap-requires
unwrap-requires c =
    c.from_entries.ensures.valid.1 (collected_clock c.args.bytes.now c.in_ok-count.count c.in_ok-count.rest.now c.in_ok-entries.entries.items c.in_ok-count.ensures c.in_ok-entries.ensures)

pub returns-clause-ok : goal.returns-clause-ok
returns-clause-ok c =
    let deps = collected_deps c.args.bytes.now c.in_ok-count.count c.in_ok-count.rest.now c.in_ok-entries.entries.items c.in_ok-count.ensures c.in_ok-entries.ensures in
    let same = rw c.unwrap.ensures at c.from_entries.ensures.same in
    same ∙ sym deps

pub returns-in_err-count-clause-none : goal.returns-in_err-count-clause-none
returns-in_err-count-clause-none c = λ none.
    absurd (count_is_ok c.args.bytes.now c.in_err-count.field-0.0 c.requires c.in_err-count.ensures)

pub returns-then-count-eq0-clause-ok : goal.returns-then-count-eq0-clause-ok
returns-then-count-eq0-clause-ok c =
    let zero : c.in_ok-count.count ≡ 0 = c.if-count-eq0.true in
    let number = rw zero at c.in_ok-count.ensures in
    c.new.ensures ∙ sym (no_deps c.args.bytes.now c.in_ok-count.rest.now number)

pub returns-in_err-entries-clause-none : goal.returns-in_err-entries-clause-none
returns-in_err-entries-clause-none c = λ none.
    let other = c.if-count-eq0.false in
    absurd (some_deps c.args.bytes.now c.in_ok-count.count c.in_ok-count.rest.now c.in_ok-count.ensures c.requires (grind (arith, nat_tests)) none)
