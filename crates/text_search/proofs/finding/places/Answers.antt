use Rattle.std.proofs.Common.{◌≡◌, ◌<◌, ◌+◌, ◌-◌, ◌++◌, ◌∷◌, [], ℕ, List, Some, suc, arith, sym, ap, ◌∙◌, subst, length, map, drop, take}
use Rattle.std.proofs.Common.{length-append, length-drop}
use Rattle.std.proofs.lemmas.List.{length-take, length-map}
use Rattle.text_search.specs.declared.finding.TheConstants.{MAX_FOUND}
use Rattle.text_search.specs.Ends.{EndsWith, IsLongest}
use Rattle.text_search.specs.Places.{stands_after}
use Rattle.text_search.proofs.EndLemmas.{ends_nothing, ends_within}
use Rattle.text_search.proofs.PlaceLemmas.{all_decided, decided, found_all, found_more, found_most, none_decided, nothing_read, reads_more}
use Rattle.text_search.proofs.PlaceLemmas.{stands_here, stands_not, undecided}
use Rattle.text_search.proofs.finding.places.Goals.{then-count-sought+in_ok-push+else-len-eq-MAX_FOUND, else-count-sought}
use Rattle.text_search.proofs.finding.places.Goals as goal

pub loop-i-init : goal.loop-i-init
loop-i-init c =
    let zero : c.args.from - c.args.from ≡ 0 = omega arith in
    let empty : take (c.args.from - c.args.from) (drop c.args.from c.args.text.now) ≡ [] =
    rw zero (nothing_read (drop c.args.from c.args.text.now)) in (
      omega arith,
      omega arith,
      rw empty (ends_nothing c.args.sought.now),
      ([], c.new-found.ensures.items, omega arith, rw zero (none_decided c.args.sought.now (drop c.args.from c.args.text.now) c.args.from c.requires)),
      omega (arith, c.in_ok-borders.ensures.ticks),
    )

pub next-count-requires-clause-borders : goal.next-count-requires-clause-borders
next-count-requires-clause-borders c = rw c.deref.ensures.value c.in_ok-borders.ensures.borders

pub overflow_sub-i : goal.overflow_sub-i
overflow_sub-i c =
    let (_, _, longest, _, _) = c.loop-i.invariant in
    let read = take (c.loop-i.i - c.args.from) (drop c.args.from c.args.text.now) in
    let more = c.next-count.ensures.longest read longest in
    let most = ends_within c.args.sought.now (read ++ c.index-text-i.result ∷ []) c.next-count.result more.0 in
    omega (arith, most, length-append read (c.index-text-i.result ∷ []), length-take (c.loop-i.i - c.args.from) (drop c.args.from c.args.text.now))

pub returns-then-len-eq-MAX_FOUND-clause-places : goal.returns-then-len-eq-MAX_FOUND-clause-places
returns-then-len-eq-MAX_FOUND-clause-places c =
    let (order, _, longest, (found, are, few, so_far), _) = c.loop-i.invariant in
    let p = c.args.sought.now in
    let t = drop c.args.from c.args.text.now in
    let n = c.loop-i.i - c.args.from in
    let read = reads_more c.args.text.now c.args.from c.loop-i.i c.index-text-i.result order (omega arith) c.index-text-i.is in
    let more : IsLongest p (take (suc n) t) c.next-count.result = rw read (c.next-count.ensures.longest (take n t) longest) in
    let full : c.next-count.result ≡ length p = omega (arith, c.if-count-sought.true) in
    let ends : EndsWith p (take (suc n) t) (length p) = subst (λ k. EndsWith p (take (suc n) t) k) full more.0 in
    let short = ends_within p (take (suc n) t) (length p) ends in
    let at : c.loop-i.i + 1 - c.next-count.result ≡ c.args.from + decided p n =
    omega (arith, order, full, short, length-take (suc n) t) in
    let within : n < length t = omega (arith, order, c.loop-i-test.true, length-drop c.args.from c.args.text.now) in
    let all = stands_here p t found (stands_after c.args.from p t) c.args.from n c.requires within ends so_far in
    let items = found_more c.loop-i.found.items c.push.new.self.items found (c.loop-i.i + 1 - c.next-count.result) (c.args.from + decided p n) are
    c.in_ok-push.ensures.items at in
    let many : length (found ++ (c.args.from + decided p n) ∷ []) ≡ MAX_FOUND =
    omega (arith, c.len.ensures, c.if-len-eq-MAX_FOUND.true, ap length items, length-map (found ++ (c.args.from + decided p n) ∷ []) (λ k. Some k)) in
    items ∙ ap (map (λ k. Some k)) (sym (found_most MAX_FOUND (found ++ (c.args.from + decided p n) ∷ []) _ _ all many))

pub loop-i-preserved : goal.loop-i-preserved
loop-i-preserved c =
    let (order, _, longest, (found, are, few, so_far), steps) = c.loop-i.invariant in
    let p = c.args.sought.now in
    let t = drop c.args.from c.args.text.now in
    let n = c.loop-i.i - c.args.from in
    let same : c.loop-i.i + 1 - c.args.from ≡ suc n = omega (arith, order) in
    let read = reads_more c.args.text.now c.args.from c.loop-i.i c.index-text-i.result order (omega arith) c.index-text-i.is in
    let more : IsLongest p (take (suc n) t) c.next-count.result = rw read (c.next-count.ensures.longest (take n t) longest) in
    let within : n < length t = omega (arith, order, c.loop-i-test.true, length-drop c.args.from c.args.text.now) in
    let known : (xs : List ℕ) × (c.if-count-sought.found.items ≡ map (λ k. Some k) xs) × (length xs < MAX_FOUND)
    × (xs ++ undecided p t c.args.from (suc n) ≡ stands_after c.args.from p t) =
    elim c.if-count-sought.branch [
      | then-count-sought+in_ok-push+else-len-eq-MAX_FOUND w ↦
          let full : c.next-count.result ≡ length p = omega (arith, w.if-count-sought.true) in
          let ends : EndsWith p (take (suc n) t) (length p) = subst (λ k. EndsWith p (take (suc n) t) k) full more.0 in
          let short = ends_within p (take (suc n) t) (length p) ends in
          let at : c.loop-i.i + 1 - c.next-count.result ≡ c.args.from + decided p n = omega (arith, order, full, short, length-take (suc n) t) in
          let items = found_more c.loop-i.found.items w.push.new.self.items found (c.loop-i.i + 1 - c.next-count.result) (c.args.from + decided p n) are
          w.in_ok-push.ensures.items at in (
            found ++ (c.args.from + decided p n) ∷ [],
            rw w.found-is items,
            omega (
              arith,
              few,
              w.len.ensures,
              w.if-len-eq-MAX_FOUND.false,
              ap length items,
              length-map (found ++ (c.args.from + decided p n) ∷ []) (λ k. Some k),
              length-append found ((c.args.from + decided p n) ∷ []),
            ),
            stands_here p t found (stands_after c.args.from p t) c.args.from n c.requires within ends so_far,
          )
      | else-count-sought w ↦ (
        found,
        rw w.found-is are,
        few,
        stands_not p t found (stands_after c.args.from p t) c.args.from n c.requires within
            (λ ends. let most = more.1 (length p) ends in omega (arith, most, more.0.0, w.if-count-sought.false)) so_far,
      )
    ] in (
      omega (arith, order),
      omega (arith, order, c.loop-i-test.true),
      rw same more,
      rw same known,
      omega (arith, steps, same, c.next-count.ensures.ticks),
    )

pub returns-clause-places : goal.returns-clause-places
returns-clause-places c =
    let (order, _, _, (found, are, few, so_far), _) = c.loop-i.invariant in
    let p = c.args.sought.now in
    let t = drop c.args.from c.args.text.now in
    let n = c.loop-i.i - c.args.from in
    let none = all_decided p t c.args.from n c.requires (omega (arith, order, c.loop-i-test.false, length-drop c.args.from c.args.text.now)) in
    are ∙ ap (map (λ k. Some k)) (sym (found_all MAX_FOUND found _ _ so_far none (omega (arith, few))))

pub returns-clause-ticks : goal.returns-clause-ticks
returns-clause-ticks c =
    let (_, within, _, _, steps) = c.loop-i.invariant in omega (arith, within, steps)
