use Rattle.std.proofs.Common.{rules, refl, ◌≡◌, ◌+◌, ◌*◌, ◌/◌, ◌-◌, ◌≤◌, ◌<◌, ◌^◌, ◌++◌, ℕ, List, ap, sym, ◌∙◌, false}
use Rattle.std.proofs.Common.{arith, get_or, take, drop, length, length-append, length-take, length-drop}
use Rattle.std.proofs.lemmas.List.{take-append-drop}
use Rattle.page_file.specs.Pages.{is_zero, number_bytes}
use Rattle.root_slots.specs.Root.{pages_for, tables_of}
use Rattle.group_commit.specs.Saved.{with_stream}
use Rattle.group_commit.specs.Plan.{kept_of}
use Rattle.group_commit.specs.Planning.{padded}
use Rattle.group_commit.proofs.BaseLemmas.{apart_of_base, renews_by}
use Rattle.group_commit.proofs.KeptLemmas.{Grows, grown}
use Rattle.group_commit.proofs.PlanLemmas.{plan_of, next_apart, Follows, drop_both}
use Rattle.group_commit.proofs.Roots.{root_tables}
use Rattle.group_commit.proofs.TailLemmas.{full_stay}
use Rattle.group_commit.proofs.plan.make_plan.Goals as goal

kept_tables : (kept p t : ℕ) → kept ≤ p → t ≡ pages_for 1024 p → kept / 1024 ≤ t
kept_tables kept p t le is = omega (arith, le, is)

-- those of the old ones that are kept and the new ones are all
put_count : (kept : ℕ) (olds news : List ℕ) (all : ℕ) → kept ≤ length olds → kept ≤ all → length news ≡ all - kept → length (take kept olds ++ news) ≡ all
put_count kept olds news all within grows size = omega (arith, length-append (take kept olds) news, length-take kept olds, within, grows, size)

data_fits : (kept p a b l m : ℕ) → p ≡ pages_for 4096 (a + b) → l ≡ a - 4096 * kept → m ≡ b - (4096 * kept - a) → l + m ≤ 4096 * (p - kept)
data_fits kept p a b l m pages_are rest more = omega (arith, pages_are, rest, more)

entries_fit : (p kept t l : ℕ) → t ≡ pages_for 1024 p → l ≡ p - 1024 * (kept / 1024) → l ≤ 1024 * (t - kept / 1024)
entries_fit p kept t l tables_are rest = omega (arith, tables_are, rest)

-- how many of the old pages are kept
grown_by : (stream records : List ℕ) (long kept : ℕ) → long ≡ length stream → kept ≡ kept_of long records → is_zero records ≡ false → length stream + length records ≤ 1073741824
    → Grows (length stream) (length stream + length records) kept
grown_by stream records long kept same is some room = grown (length stream) (length stream + length records) records kept (is ∙ ap (λ n. kept_of n records) same) some refl room

pub overflow_sub-new_data : goal.overflow_sub-new_data
overflow_sub-new_data c =
    let grows = grown_by c.args.stream.now c.args.new.bytes.now _ _ (c.stream_length-old_long.ensures.long ∙ sym c.requires.had.long) c.kept_pages-kept.ensures c.requires.some c.requires.room in
    omega (arith, grows.grows, (c.data_pages.ensures.value ∙ ap (λ n. pages_for 4096 (n + length c.args.new.bytes.now)) (c.stream_length-old_long.ensures.long ∙ sym c.requires.had.long)))

pub overflow_sub-new_tables : goal.overflow_sub-new_tables
overflow_sub-new_tables c =
    let grows = grown_by c.args.stream.now c.args.new.bytes.now _ _ (c.stream_length-old_long.ensures.long ∙ sym c.requires.had.long) c.kept_pages-kept.ensures c.requires.some c.requires.room in
    kept_tables c.kept_pages-kept.result c.data_pages.result c.tables_for.result (omega (arith, grows.grows, (c.data_pages.ensures.value ∙ ap (λ n. pages_for 4096 (n + length c.args.new.bytes.now)) (c.stream_length-old_long.ensures.long ∙ sym c.requires.had.long)))) (c.tables_for.ensures.value ∙ ap (pages_for 1024) (sym c.data_pages.ensures.value))

pub next_data_pages-requires : goal.next_data_pages-requires
next_data_pages-requires c =
    let grows = grown_by c.args.stream.now c.args.new.bytes.now _ _ (c.stream_length-old_long.ensures.long ∙ sym c.requires.had.long) c.kept_pages-kept.ensures c.requires.some c.requires.room in
    let olds : length c.args.olds.now ≡ pages_for 4096 (length c.args.stream.now) =
    c.requires.had.count ∙ ap (pages_for 4096) (sym c.requires.had.long) in
    omega (arith, grows.within, olds)

pub kept_and_new-requires : goal.kept_and_new-requires
kept_and_new-requires c =
    let grows = grown_by c.args.stream.now c.args.new.bytes.now _ _ (c.stream_length-old_long.ensures.long ∙ sym c.requires.had.long) c.kept_pages-kept.ensures c.requires.some c.requires.room in
    let olds : length c.args.olds.now ≡ pages_for 4096 (length c.args.stream.now) =
    c.requires.had.count ∙ ap (pages_for 4096) (sym c.requires.had.long) in
    let old_tables : length c.tables.result.now ≡ pages_for 1024 (length c.args.olds.now) =
    ap length c.tables.ensures ∙ root_tables c.args.base.now.body c.requires.had.valid ∙ ap (pages_for 1024) (sym c.requires.had.count) in
    kept_tables c.kept_pages-kept.result (length c.args.olds.now) (length c.tables.result.now) (omega (arith, grows.within, olds)) old_tables

pub overflow_mul-kept_bytes : goal.overflow_mul-kept_bytes
overflow_mul-kept_bytes c =
    let grows = grown_by c.args.stream.now c.args.new.bytes.now _ _ (c.stream_length-old_long.ensures.long ∙ sym c.requires.had.long) c.kept_pages-kept.ensures c.requires.some c.requires.room in
    record { fits = omega (arith, grows.most) }

pub new_pages-requires : goal.new_pages-requires
new_pages-requires c =
    let grows = grown_by c.args.stream.now c.args.new.bytes.now _ _ (c.stream_length-old_long.ensures.long ∙ sym c.requires.had.long) c.kept_pages-kept.ensures c.requires.some c.requires.room in
    let olds : length c.args.olds.now ≡ pages_for 4096 (length c.args.stream.now) =
    c.requires.had.count ∙ ap (pages_for 4096) (sym c.requires.had.long) in
    let more : c.kept_pages-kept.result ≤ c.data_pages.result = omega (arith, grows.grows, (c.data_pages.ensures.value ∙ ap (λ n. pages_for 4096 (n + length c.args.new.bytes.now)) (c.stream_length-old_long.ensures.long ∙ sym c.requires.had.long))) in
    let counted : length c.in_ok-all.field-0.all.items ≡ c.data_pages.result =
    ap length c.in_ok-all.ensures.all
    ∙ put_count c.kept_pages-kept.result c.args.olds.now c.split_at.result.0.now c.data_pages.result (omega (arith, olds, grows.within)) more c.split_at.ensures.front_len in
    let tables : c.tables_for.result ≡ pages_for 1024 c.data_pages.result = c.tables_for.ensures.value ∙ ap (pages_for 1024) (sym c.data_pages.ensures.value) in
    record {
      few = omega (arith, c.data_pages.ensures.most, c.tables_for.ensures.most);
      data_room = data_fits c.kept_pages-kept.result c.data_pages.result (length c.args.stream.now) (length c.args.new.bytes.now) (length c.rest_behind-old_bytes.result.now) (length c.behind-new_bytes.result.now)
          (c.data_pages.ensures.value ∙ ap (λ n. pages_for 4096 (n + length c.args.new.bytes.now)) (c.stream_length-old_long.ensures.long ∙ sym c.requires.had.long)) (ap length c.rest_behind-old_bytes.ensures ∙ length-drop (4096 * c.kept_pages-kept.result) c.args.stream.now)
          (ap length c.behind-new_bytes.ensures ∙ length-drop c.saturating_sub.result c.args.new.bytes.now ∙ ap (λ k. length c.args.new.bytes.now - k) (c.saturating_sub.ensures ∙ ap (λ n. 4096 * c.kept_pages-kept.result - n) (c.stream_length-old_long.ensures.long ∙ sym c.requires.had.long)));
      table_room = entries_fit c.data_pages.result c.kept_pages-kept.result c.tables_for.result (length c.deref-2.result.now) tables
          (ap length (c.deref-2.ensures.value ∙ c.in_ok-all.ensures.entries) ∙ length-drop (1024 * (c.kept_pages-kept.result / 1024)) (take c.kept_pages-kept.result c.args.olds.now ++ c.split_at.result.0.now)
          ∙ ap (λ n. n - 1024 * (c.kept_pages-kept.result / 1024)) (ap length (sym c.in_ok-all.ensures.all) ∙ counted));
    }

pub rest_behind-old_bytes-requires : goal.rest_behind-old_bytes-requires
rest_behind-old_bytes-requires c = record {
  long = sym (c.stream_length-old_long.ensures.long ∙ sym c.requires.had.long);
  full = full_stay c.stream_length-old_long.result c.args.new.bytes.now c.kept_pages-kept.result c.kept_pages-kept.ensures;
}

pub returns-clause-long : goal.returns-clause-long
returns-clause-long c = c.in_ok-next.ensures.long ∙ ap (λ n. n + length c.args.new.bytes.now) (c.stream_length-old_long.ensures.long ∙ sym c.requires.had.long)

pub root_on-requires-clause-pages : goal.root_on-requires-clause-pages
root_on-requires-clause-pages c =
    let grows = grown_by c.args.stream.now c.args.new.bytes.now _ _ (c.stream_length-old_long.ensures.long ∙ sym c.requires.had.long) c.kept_pages-kept.ensures c.requires.some c.requires.room in
    let olds : length c.args.olds.now ≡ pages_for 4096 (length c.args.stream.now) =
    c.requires.had.count ∙ ap (pages_for 4096) (sym c.requires.had.long) in
    let old_tables : length c.tables.result.now ≡ pages_for 1024 (length c.args.olds.now) =
    ap length c.tables.ensures ∙ root_tables c.args.base.now.body c.requires.had.valid ∙ ap (pages_for 1024) (sym c.requires.had.count) in
    let more : c.kept_pages-kept.result ≤ c.data_pages.result = omega (arith, grows.grows, (c.data_pages.ensures.value ∙ ap (λ n. pages_for 4096 (n + length c.args.new.bytes.now)) (c.stream_length-old_long.ensures.long ∙ sym c.requires.had.long))) in
    let counted : length c.in_ok-all.field-0.all.items ≡ c.data_pages.result =
    ap length c.in_ok-all.ensures.all
    ∙ put_count c.kept_pages-kept.result c.args.olds.now c.split_at.result.0.now c.data_pages.result (omega (arith, olds, grows.within)) more c.split_at.ensures.front_len in
    let tables : c.tables_for.result ≡ pages_for 1024 c.data_pages.result = c.tables_for.ensures.value ∙ ap (pages_for 1024) (sym c.data_pages.ensures.value) in
    let rest : length c.split_at.result.1.now ≡ c.tables_for.result - c.kept_pages-kept.result / 1024 =
    omega (arith, c.split_at.ensures.back_len, ap length c.deref.ensures.value, c.in_ok-numbers.ensures.count) in
    let numbers : c.in_ok-numbers.numbers.items ≡ c.split_at.result.0.now ++ c.split_at.result.1.now =
    sym (ap (λ f. f ++ c.split_at.result.1.now) (c.split_at.ensures.front ∙ ap (take (c.data_pages.result - c.kept_pages-kept.result)) c.deref.ensures.value)
    ∙ ap (λ b. take (c.data_pages.result - c.kept_pages-kept.result) c.in_ok-numbers.numbers.items ++ b) (c.split_at.ensures.back ∙ ap (drop (c.data_pages.result - c.kept_pages-kept.result)) c.deref.ensures.value)
    ∙ take-append-drop (c.data_pages.result - c.kept_pages-kept.result) c.in_ok-numbers.numbers.items) in
    record {
      most = search rules;
      data_count = counted ∙ c.data_pages.ensures.value;
      table_count = ap length c.in_ok-tables.ensures
          ∙ put_count (c.kept_pages-kept.result / 1024) c.tables.result.now c.split_at.result.1.now c.tables_for.result
          (kept_tables c.kept_pages-kept.result (length c.args.olds.now) (length c.tables.result.now) (omega (arith, grows.within, olds)) old_tables)
          (kept_tables c.kept_pages-kept.result c.data_pages.result c.tables_for.result more tables) rest
          ∙ tables ∙ ap (pages_for 1024) (sym counted);
      apart = rw (c.in_ok-tables.ensures, c.in_ok-all.ensures.all, c.tables.ensures)
          (next_apart (with_stream c.args.base.now c.args.stream.now) c.args.olds.now c.split_at.result.0.now c.split_at.result.1.now c.kept_pages-kept.result c.requires.had
          (rw numbers at (apart_of_base c.args.live.root.now c.args.base.now c.in_ok-numbers.numbers.items c.requires.is_base c.in_ok-numbers.ensures.apart)));
    }

pub returns-clause-plan : goal.returns-clause-plan
returns-clause-plan c =
    let grows = grown_by c.args.stream.now c.args.new.bytes.now _ _ (c.stream_length-old_long.ensures.long ∙ sym c.requires.had.long) c.kept_pages-kept.ensures c.requires.some c.requires.room in
    let numbers : c.in_ok-numbers.numbers.items ≡ c.split_at.result.0.now ++ c.split_at.result.1.now =
    sym (ap (λ f. f ++ c.split_at.result.1.now) (c.split_at.ensures.front ∙ ap (take (c.data_pages.result - c.kept_pages-kept.result)) c.deref.ensures.value)
    ∙ ap (λ b. take (c.data_pages.result - c.kept_pages-kept.result) c.in_ok-numbers.numbers.items ++ b) (c.split_at.ensures.back ∙ ap (drop (c.data_pages.result - c.kept_pages-kept.result)) c.deref.ensures.value)
    ∙ take-append-drop (c.data_pages.result - c.kept_pages-kept.result) c.in_ok-numbers.numbers.items) in
    let all : List ℕ = c.args.stream.now ++ c.args.new.bytes.now in
    let on = c.in_ok-next.ensures.grown (c.args.stream.now ++ c.args.new.bytes.now) (length-append c.args.stream.now c.args.new.bytes.now ∙ ap (λ n. n + length c.args.new.bytes.now) (sym (c.stream_length-old_long.ensures.long ∙ sym c.requires.had.long))) in
    let follows : Follows (with_stream c.args.base.now c.args.stream.now) (with_stream c.in_ok-next.next (c.args.stream.now ++ c.args.new.bytes.now)) c.args.new.bytes.now c.args.new.count c.kept_pages-kept.result c.args.olds.now c.split_at.result.0.now c.split_at.result.1.now = record {
      had = c.requires.had;
      is_next = record { format = on.format; stream = refl; version = on.version; replica = on.replica; count = on.count };
      has_data = rw (c.in_ok-all.ensures.all) at on.has;
      tables = on.has_tables ∙ c.in_ok-tables.ensures ∙ ap (λ ts. take (c.kept_pages-kept.result / 1024) ts ++ c.split_at.result.1.now) c.tables.ensures;
      kept_so = c.kept_pages-kept.ensures ∙ ap (λ n. kept_of n c.args.new.bytes.now) (c.stream_length-old_long.ensures.long ∙ sym c.requires.had.long);
      some = c.requires.some;
      free = rw numbers at (apart_of_base c.args.live.root.now c.args.base.now c.in_ok-numbers.numbers.items c.requires.is_base c.in_ok-numbers.ensures.apart);
    } in
    let small : (i : ℕ) → get_or (take c.kept_pages-kept.result c.args.olds.now ++ c.split_at.result.0.now) i 0 < 2 ^ 32 =
    c.in_ok-all.ensures.small in
    let rest : length c.split_at.result.1.now ≡ c.tables_for.result - c.kept_pages-kept.result / 1024 =
    omega (arith, c.split_at.ensures.back_len, ap length c.deref.ensures.value, c.in_ok-numbers.ensures.count) in
    let bytes : c.rest_behind-old_bytes.result.now ++ c.behind-new_bytes.result.now ≡ drop (4096 * c.kept_pages-kept.result) (c.args.stream.now ++ c.args.new.bytes.now) =
    ap (λ a. a ++ c.behind-new_bytes.result.now) c.rest_behind-old_bytes.ensures ∙ ap (λ b. drop (4096 * c.kept_pages-kept.result) c.args.stream.now ++ b) (c.behind-new_bytes.ensures ∙ ap (λ k. drop k c.args.new.bytes.now) (c.saturating_sub.ensures ∙ ap (λ n. 4096 * c.kept_pages-kept.result - n) (c.stream_length-old_long.ensures.long ∙ sym c.requires.had.long)))
    ∙ sym (drop_both (4096 * c.kept_pages-kept.result) c.args.stream.now c.args.new.bytes.now) in
    let entries : c.deref-2.result.now ≡ drop (1024 * (c.kept_pages-kept.result / 1024)) (take c.kept_pages-kept.result c.args.olds.now ++ c.split_at.result.0.now) =
    c.deref-2.ensures.value ∙ c.in_ok-all.ensures.entries in
    let fresh = c.in_ok-fresh.ensures
    ∙ ap (λ n. padded (4096 * n) (c.rest_behind-old_bytes.result.now ++ c.behind-new_bytes.result.now) ++ padded (4096 * (c.tables_for.result - c.kept_pages-kept.result / 1024)) (number_bytes c.deref-2.result.now)) (sym c.split_at.ensures.front_len)
    ∙ ap (λ n. padded (4096 * length c.split_at.result.0.now) (c.rest_behind-old_bytes.result.now ++ c.behind-new_bytes.result.now) ++ padded (4096 * n) (number_bytes c.deref-2.result.now)) (sym rest)
    ∙ ap (λ b. padded (4096 * length c.split_at.result.0.now) b ++ padded (4096 * length c.split_at.result.1.now) (number_bytes c.deref-2.result.now)) bytes
    ∙ ap (λ ns. padded (4096 * length c.split_at.result.0.now) (drop (4096 * c.kept_pages-kept.result) (c.args.stream.now ++ c.args.new.bytes.now)) ++ padded (4096 * length c.split_at.result.1.now) (number_bytes ns)) entries in
    rw (numbers, fresh)
    (plan_of (with_stream c.args.base.now c.args.stream.now) (with_stream c.in_ok-next.next (c.args.stream.now ++ c.args.new.bytes.now)) c.args.new.bytes.now c.args.new.count c.kept_pages-kept.result c.args.olds.now c.split_at.result.0.now c.split_at.result.1.now follows
    c.args.live.root.now.pages (rw numbers at c.in_ok-numbers.ensures.apart) (rw numbers at c.in_ok-numbers.ensures.lowest) small)

pub returns-clause-renews : goal.returns-clause-renews
returns-clause-renews c =
    let grows = grown_by c.args.stream.now c.args.new.bytes.now _ _ (c.stream_length-old_long.ensures.long ∙ sym c.requires.had.long) c.kept_pages-kept.ensures c.requires.some c.requires.room in
    let olds : length c.args.olds.now ≡ pages_for 4096 (length c.args.stream.now) =
    c.requires.had.count ∙ ap (pages_for 4096) (sym c.requires.had.long) in
    let old_tables : length c.tables.result.now ≡ pages_for 1024 (length c.args.olds.now) =
    ap length c.tables.ensures ∙ root_tables c.args.base.now.body c.requires.had.valid ∙ ap (pages_for 1024) (sym c.requires.had.count) in
    let on = c.in_ok-next.ensures.grown (c.args.stream.now ++ c.args.new.bytes.now) (length-append c.args.stream.now c.args.new.bytes.now ∙ ap (λ n. n + length c.args.new.bytes.now) (sym (c.stream_length-old_long.ensures.long ∙ sym c.requires.had.long))) in
    renews_by c.kept_pages-kept.result (c.data_pages.result - c.kept_pages-kept.result) c.in_ok-numbers.numbers.items c.split_at.result.0.now c.split_at.result.1.now
    c.in_ok-tables.tables.items c.in_ok-all.field-0.all.items c.args.olds.now c.args.live.index.now c.args.live.root.now c.args.base.now c.in_ok-next.next c.requires.is_index c.requires.is_base
    c.requires.had.reaches
    (c.split_at.ensures.front ∙ ap (take (c.data_pages.result - c.kept_pages-kept.result)) c.deref.ensures.value)
    (c.split_at.ensures.back ∙ ap (drop (c.data_pages.result - c.kept_pages-kept.result)) c.deref.ensures.value)
    (c.in_ok-tables.ensures ∙ ap (λ ts. take (c.kept_pages-kept.result / 1024) ts ++ c.split_at.result.1.now) c.tables.ensures) c.in_ok-all.ensures.all on.has_tables on.has.reaches
    (kept_tables c.kept_pages-kept.result (length c.args.olds.now) (length (tables_of c.args.base.now.body)) (omega (arith, grows.within, olds)) (ap length (sym c.tables.ensures) ∙ old_tables))
    (omega (arith, grows.within, olds))
    (omega (arith, c.in_ok-numbers.ensures.count))
