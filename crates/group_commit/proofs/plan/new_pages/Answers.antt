use Rattle.std.proofs.Common.{rules, ◌≡◌, ◌+◌, ◌*◌, ◌-◌, ◌≤◌, ◌++◌, ℕ, List, ap, ◌∙◌, arith, take, length, length-append, append_assoc}
use Rattle.std.specs.Prelude.{Vec, vec_len, replicate}
use Rattle.std.specs.declared.alloc.Global.{Global}
use Rattle.std.proofs.lemmas.List.{take_all, length-replicate}
use Rattle.page_file.specs.Pages.{number_bytes}
use Rattle.page_file.proofs.NumberLemmas.{length-number_bytes}
use Rattle.group_commit.specs.Planning.{padded}
use Rattle.group_commit.proofs.plan.new_pages.Goals as goal

counted : (v : Vec ℕ Global) → vec_len v ≡ length v.items
counted v = search rules

-- bytes filled up to a size, and more behind them filled up to a greater one
two_filled : (m n : ℕ) (bytes more a b c d : List ℕ) → length bytes ≤ m → length more ≤ n → a ≡ bytes → b ≡ take m a ++ replicate (m - length a) 0 → c ≡ b ++ more
    → d ≡ take (m + n) c ++ replicate ((m + n) - length c) 0 → d ≡ padded m bytes ++ padded n more
two_filled m n bytes more a b c d fits fits' is_a is_b is_c is_d =
    let same_b : b ≡ padded m bytes = is_b ∙ ap (λ x. take m x ++ replicate (m - length x) 0) is_a
    ∙ ap (λ x. x ++ replicate (m - length bytes) 0) (take_all m bytes fits) in
    let size_b : length b ≡ m = ap length same_b ∙ omega (arith, length-append bytes (replicate (m - length bytes) 0), length-replicate {A = ℕ} (m - length bytes) 0, fits) in
    let size_c : length c ≡ m + length more = ap length is_c ∙ omega (arith, length-append b more, size_b) in
    let left : (m + n) - length c ≡ n - length more = omega (arith, size_c) in
    is_d ∙ ap (λ x. x ++ replicate ((m + n) - length c) 0) (take_all (m + n) c (omega (arith, size_c, fits'))) ∙ ap (λ k. c ++ replicate k 0) left
    ∙ ap (λ x. x ++ replicate (n - length more) 0) is_c ∙ append_assoc b more (replicate (n - length more) 0) ∙ ap (λ x. x ++ padded n more) same_b

pub returns : goal.returns
returns c =
    let both : 4096 * (c.args.counts.of_data + c.args.counts.of_tables) ≡ 4096 * c.args.counts.of_data + 4096 * c.args.counts.of_tables = omega arith in
    two_filled (4096 * c.args.counts.of_data) (4096 * c.args.counts.of_tables) (c.args.old_bytes.now ++ c.args.new_bytes.now) (number_bytes c.args.numbers.now)
    c.extend_from_slice-2.new.self.items c.resize.new.self.items c.put_numbers.new.out.items c.resize-2.new.self.items
    (omega (arith, c.requires.data_room, length-append c.args.old_bytes.now c.args.new_bytes.now)) (omega (arith, length-number_bytes c.args.numbers.now, c.requires.table_room))
    (c.in_ok-extend_from_slice-2.ensures.items ∙ ap (λ x. x ++ c.args.new_bytes.now) (c.in_ok-extend_from_slice.ensures.items ∙ ap (λ x. x ++ c.args.old_bytes.now) c.new-fresh.ensures.items))
    (c.in_ok-resize.ensures.items ∙ ap (λ n. take (4096 * c.args.counts.of_data) c.extend_from_slice-2.new.self.items ++ replicate (4096 * c.args.counts.of_data - n) 0) (counted c.extend_from_slice-2.new.self))
    c.in_ok-put_numbers.ensures.ok
    (c.in_ok-resize-2.ensures.items
    ∙ ap (λ n. take (4096 * (c.args.counts.of_data + c.args.counts.of_tables)) c.put_numbers.new.out.items ++ replicate (4096 * (c.args.counts.of_data + c.args.counts.of_tables) - n) 0) (counted c.put_numbers.new.out)
    ∙ ap (λ k. take k c.put_numbers.new.out.items ++ replicate (k - length c.put_numbers.new.out.items) 0) both)
