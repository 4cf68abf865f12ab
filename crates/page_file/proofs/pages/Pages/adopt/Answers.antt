use Rattle.std.proofs.Common.{◌≡◌, ℕ, ◌+◌, ◌≤◌, ◌++◌, ◌||◌, true, [], List, vec_len, rules, take, drop, length, sym, ap, ◌∙◌, arith, length-drop}
use Rattle.std.proofs.lemmas.List.{length-take-le}
use Rattle.page_file.specs.declared.gaps.Gap.{Gap}
use Rattle.page_file.specs.Gaps.{in_gaps, are_falling}
use Rattle.page_file.specs.Index.{AreOthers}
use Rattle.page_file.specs.Pages.{has}
use Rattle.page_file.proofs.AdoptLemmas.{old_tables, old_data, table_out, data_out, next_others}
use Rattle.page_file.proofs.pages.Pages.adopt.Goals as goal

pub give_pages-requires-clause-apart : goal.give_pages-requires-clause-apart
give_pages-requires-clause-apart c =
    rw (c.behind.ensures, c.deref.ensures.value)
    (old_tables c.args.kept_tables c.self.inside.taken.items c.self.inside.tables.items c.self.inside.data_pages.items c.self.invariant.0.apart)

pub give_pages-requires-clause-lacks : goal.give_pages-requires-clause-lacks
give_pages-requires-clause-lacks c = λ m there.
    table_out m c.args.kept_tables c.self.inside.taken.items c.self.inside.tables.items c.self.inside.data_pages.items c.self.inside.gaps.items c.self.invariant.0
    (ap (λ ns. has m (drop c.args.kept_tables ns)) (sym c.deref.ensures.value) ∙ ap (has m) (sym c.behind.ensures) ∙ there)

pub give_pages-requires-2-clause-apart : goal.give_pages-requires-2-clause-apart
give_pages-requires-2-clause-apart c =
    rw (c.behind-2.ensures, c.deref-2.ensures.value)
    (old_data c.args.kept_data c.self.inside.taken.items c.self.inside.tables.items c.self.inside.data_pages.items c.self.invariant.0.apart)

pub give_pages-requires-2-clause-lacks : goal.give_pages-requires-2-clause-lacks
give_pages-requires-2-clause-lacks c = λ m there.
    c.give_pages.ensures.gains.more m ∙ ap (λ ns. in_gaps m c.self.inside.gaps.items || has m ns) (c.behind.ensures ∙ ap (drop c.args.kept_tables) c.deref.ensures.value)
    ∙ data_out m c.args.kept_tables c.args.kept_data c.self.inside.taken.items c.self.inside.tables.items c.self.inside.data_pages.items c.self.inside.gaps.items c.self.invariant.0
    (ap (λ ns. has m (drop c.args.kept_data ns)) (sym c.deref-2.ensures.value) ∙ ap (has m) (sym c.behind-2.ensures) ∙ there)

others_renewed : (kt kd nd : ℕ) (taken tables named front back new_tables new_named none cut_tables cut_named : List ℕ) (gaps mid new : List Gap) → AreOthers (taken ++ (tables ++ named)) gaps
    → are_falling 4294967296 new ≡ true → ((m : ℕ) → in_gaps m mid ≡ (in_gaps m gaps || has m cut_tables)) → ((m : ℕ) → in_gaps m new ≡ (in_gaps m mid || has m cut_named))
    → cut_tables ≡ drop kt tables → cut_named ≡ drop kd named → front ≡ take nd taken → back ≡ drop nd taken
    → new_tables ≡ take kt tables ++ back → new_named ≡ take kd named ++ front → none ≡ [] → AreOthers (none ++ (new_tables ++ new_named)) new
others_renewed kt kd nd taken tables named front back new_tables new_named none cut_tables cut_named gaps mid new others falls first second is_tables is_named is_front is_back made_tables made_named empty =
    rw (empty, made_tables, made_named, is_front, is_back)
    (next_others nd kt kd taken tables named gaps new others falls
    (λ m. second m ∙ ap (λ b. b || has m cut_named) (first m) ∙ ap (λ ns. (in_gaps m gaps || has m ns) || has m cut_named) is_tables ∙ ap (λ ns. (in_gaps m gaps || has m (drop kt tables)) || has m ns) is_named))

front_long : (n : ℕ) (ns seen part : List ℕ) → part ≡ take n seen → seen ≡ ns → n ≤ length ns → length part ≡ n
front_long n ns seen part is same within = ap length is ∙ ap (λ xs. length (take n xs)) same ∙ length-take-le n ns within

back_long : (n : ℕ) (ns seen part : List ℕ) → part ≡ drop n seen → seen ≡ ns → n ≤ length ns → length part + n ≡ length ns
back_long n ns seen part is same within = omega (arith, ap length is, ap (λ xs. length (drop n xs)) same, length-drop n ns, within)

pub invariant_of-self : goal.invariant_of-self
invariant_of-self c =
    let tables : length c.self.inside.tables.items ≡ vec_len c.self.inside.tables = search rules in
    let named : length c.self.inside.data_pages.items ≡ vec_len c.self.inside.data_pages = search rules in
    let taken : length c.self.inside.taken.items ≡ vec_len c.self.inside.taken = search rules in
    let within_taken : c.args.new_data ≤ length c.self.inside.taken.items = rw (ap (λ v. v.taken) c.self.view_is) c.requires.taken in
    let within_tables : c.args.kept_tables ≤ length c.self.inside.tables.items = rw (ap (λ v. v.tables) c.self.view_is) c.requires.tables in
    let within_named : c.args.kept_data ≤ length c.self.inside.data_pages.items = rw (ap (λ v. v.data_pages) c.self.view_is) c.requires.data_pages in
    let front = front_long c.args.new_data c.self.inside.taken.items c.deref-3.result.now c.split_at.result.0.now c.split_at.ensures.front c.deref-3.ensures.value within_taken in
    let back = back_long c.args.new_data c.self.inside.taken.items c.deref-3.result.now c.split_at.result.1.now c.split_at.ensures.back c.deref-3.ensures.value within_taken in
    let cut_tables = back_long c.args.kept_tables c.self.inside.tables.items c.deref.result.now c.behind.result.now c.behind.ensures c.deref.ensures.value within_tables in
    let cut_named = back_long c.args.kept_data c.self.inside.data_pages.items c.deref-2.result.now c.behind-2.result.now c.behind-2.ensures c.deref-2.ensures.value within_named in
    let rooms = c.self.invariant.1 in (
      others_renewed c.args.kept_tables c.args.kept_data c.args.new_data c.self.inside.taken.items c.self.inside.tables.items c.self.inside.data_pages.items c.split_at.result.0.now c.split_at.result.1.now
          c.renew.new.pages.items c.renew-2.new.pages.items c.clear.new.self.items c.behind.result.now c.behind-2.result.now c.self.inside.gaps.items c.give_pages.new.gaps.items c.give_pages-2.new.gaps.items
          c.self.invariant.0 c.give_pages-2.ensures.gains.falling c.give_pages.ensures.gains.more c.give_pages-2.ensures.gains.more
          (c.behind.ensures ∙ ap (drop c.args.kept_tables) c.deref.ensures.value) (c.behind-2.ensures ∙ ap (drop c.args.kept_data) c.deref-2.ensures.value)
          (c.split_at.ensures.front ∙ ap (take c.args.new_data) c.deref-3.ensures.value) (c.split_at.ensures.back ∙ ap (drop c.args.new_data) c.deref-3.ensures.value)
          c.renew.ensures.items c.renew-2.ensures.items c.clear.ensures.items,
      record {
        for_tables = omega (arith, rooms.for_tables, c.renew.ensures.size, c.renew.ensures.capacity, c.clear.ensures.len, tables, taken, back, cut_tables);
        for_data = omega (arith, rooms.for_data, c.renew-2.ensures.size, c.renew-2.ensures.capacity, c.clear.ensures.len, named, taken, front, back, cut_named);
        for_taken = omega (arith, rooms.for_taken, c.clear.ensures.len, c.clear.ensures.capacity);
        for_gaps = omega (
          arith,
          rooms.for_gaps,
          c.give_pages.ensures.grows.size,
          c.give_pages.ensures.grows.capacity,
          c.give_pages-2.ensures.grows.size,
          c.give_pages-2.ensures.grows.capacity,
          c.renew.ensures.size,
          c.renew-2.ensures.size,
          c.clear.ensures.len,
          tables,
          named,
          taken,
          front,
          back,
          cut_tables,
          cut_named,
        );
      },
    )
