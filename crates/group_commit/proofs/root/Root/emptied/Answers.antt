use Rattle.std.proofs.Common.{◌≡◌, false, true, [], length, ap, sym, ◌∙◌, arith}
use Rattle.page_file.specs.Pages.{are_pages}
use Rattle.group_commit.proofs.root.Root.emptied.Goals as goal

not_so : false ≡ true → ⊥
not_so is = absurd cc

pub unreachable-requires : goal.unreachable-requires
unreachable-requires c =
    not_so (c.in-None.ensures.valid.1 (record {
      version = c.version.ensures.least;
      stream = omega arith;
      operations = c.count.ensures.most;
      tables = ap length c.new-none.ensures.items;
      pages = ap are_pages c.new-none.ensures.items;
    }))

pub returns : goal.returns
returns c =
    let is = c.in_ok-empty-in-Some.ensures.says ∙ c.in-Some.ensures.value in
    record {
      version = ap (λ h. h.version) is ∙ c.version.ensures.value;
      replica = ap (λ h. h.replica) is ∙ c.replica.ensures;
      count = ap (λ h. h.operations) is ∙ c.count.ensures.value;
      no_tables = ap (λ h. h.tables) is ∙ c.new-none.ensures.items;
      has = rw (c.new-in-Some.ensures) at (c.in_ok-empty-in-Some.ensures.has [] (ap (λ h. h.stream_length) (sym c.in-Some.ensures.value)));
    }
