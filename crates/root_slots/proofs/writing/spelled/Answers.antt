use Rattle.std.proofs.Common.{◌≡◌, ◌∙◌, ◌++◌, ap, length, vec_len, rules, arith}
use Rattle.root_slots.specs.Body.{Root, root_with, head_bytes, body_bytes}
use Rattle.page_file.specs.Pages.{number_bytes}
use Rattle.root_slots.proofs.SpellingLemmas.{body_is, spells, all_words}
use Rattle.root_slots.proofs.writing.spelled.Goals as goal

abbrev root : goal.In_ok-resize → Root
root c = root_with c.args.head.now c.args.tables.now

made : (c : goal.In_ok-resize) → c.resize.new.self.items ≡ body_bytes (root c)
made c =
    let h = c.args.head.now in
    let front = head_bytes h.format h.version h.replica h.stream_length h.operations (length c.args.tables.now) in
    let head : c.put_head.new.out.items ≡ front = c.in_ok-put_head.ensures ∙ ap (λ xs. xs ++ front) c.in_ok-body.ensures.items in
    let put : c.put_numbers.new.out.items ≡ front ++ number_bytes c.args.tables.now =
    c.in_ok-put_numbers.ensures.ok ∙ ap (λ xs. xs ++ number_bytes c.args.tables.now) head in
    let len : vec_len c.put_numbers.new.out ≡ length c.put_numbers.new.out.items = search rules in
    c.in_ok-resize.ensures.items ∙ (body_is (root c) c.put_numbers.new.out.items (vec_len c.put_numbers.new.out) len c.requires put)

pub returns-clause-bytes : goal.returns-clause-bytes
returns-clause-bytes c = made c

pub returns-clause-read_back : goal.returns-clause-read_back
returns-clause-read_back c =
    rw (made c) (spells (root c) c.requires (record {
      version = omega arith;
      not_nil = c.replica_is_not_nil.ensures;
      replica = c.read_undoes_bytes.ensures;
      stream = omega (arith, c.requires.stream);
      operations = omega (arith, c.requires.operations);
      tables = all_words c.args.tables.now (λ i. omega (arith, c.type_inv.tables i));
    }))
