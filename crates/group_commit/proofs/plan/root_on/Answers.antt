use Rattle.std.proofs.Common.{◌≡◌, ◌+◌, true, false, ap, sym, ◌∙◌, arith}
use Rattle.page_file.proofs.Apart.{apart_first}
use Rattle.root_slots.specs.Root.{pages_for}
use Rattle.group_commit.proofs.plan.root_on.Goals as goal

not_so : false ≡ true → ⊥
not_so is = absurd cc

pub unreachable-requires : goal.unreachable-requires
unreachable-requires c =
    not_so (c.in-None.ensures.valid.1 (record {
      version = omega arith;
      stream = c.requires.pages.most;
      operations = omega (arith, c.count.ensures.value, c.requires.count);
      tables = c.requires.pages.table_count ∙ ap (pages_for 1024) c.requires.pages.data_count;
      pages = apart_first c.args.tables.items c.args.data_pages.items c.requires.pages.apart;
    }))

pub returns-clause-grown : goal.returns-clause-grown
returns-clause-grown c = λ stream long.
    let is = c.in_ok-next-in-Some.ensures.says ∙ c.in-Some.ensures.value in
    record {
      has = c.in_ok-next-in-Some.ensures.has stream (long ∙ ap (λ h. h.stream_length) (sym c.in-Some.ensures.value));
      has_tables = ap (λ h. h.tables) is;
      format = ap (λ h. h.format) is;
      version = ap (λ h. h.version) is ∙ ap (λ v. v + 1) c.version-version.ensures.value;
      replica = ap (λ h. h.replica) is ∙ c.replica.ensures;
      count = ap (λ h. h.operations) is ∙ ap (λ n. n + c.args.more) c.count.ensures.value;
    }
