use Rattle.std.proofs.Common.{◌-◌, ◌*◌, ◌/◌, ◌++◌, length, take, drop, ap, ◌∙◌, arith, length-drop}
use Rattle.std.proofs.lemmas.List.{take_all}
use Rattle.group_commit.proofs.NextDataPages.{next_behind, next_small}
use Rattle.group_commit.proofs.plan.next_data_pages.Goals as goal

pub returns-clause-all : goal.returns-clause-all
returns-clause-all c =
    c.and-all.ensures
    ∙ ap (λ a. a ++ c.args.news.now) (c.and.ensures ∙ ap (λ n. n ++ take c.args.kept c.args.olds.now) c.new.ensures)

pub returns-clause-entries : goal.returns-clause-entries
returns-clause-entries c =
    let first = 1024 * (c.args.kept / 1024) in
    let rest = drop first c.args.olds.now in
    c.in_ok-entries.ensures
    ∙ ap (λ xs. take (c.args.kept - first) xs ++ c.args.news.now)
    (take_all (length c.args.olds.now - first) rest (omega (arith, length-drop first c.args.olds.now)))
    ∙ next_behind first c.args.kept c.args.olds.now c.args.news.now (omega arith) c.requires

pub returns-clause-small : goal.returns-clause-small
returns-clause-small c =
    next_small c.args.kept c.args.olds.now c.args.news.now c.numbers_are_small.ensures c.numbers_are_small-2.ensures
