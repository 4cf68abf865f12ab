-- How many bytes the operations of a change take at most, each by itself and while they wait for a commit.
use Rattle.std.proofs.Common.{◌≡◌, ℕ, suc, ◌+◌, ◌*◌, ◌≤◌, true, List, [], ◌∷◌, length, map, take, drop, Option, Some, None, arith, refl, ◌∙◌}
use Rattle.op_ids.specs.Id.{Id}
use Rattle.op_ids.specs.Clock.{advanced}
use Rattle.op_ids.proofs.FullLemmas.{length-le-advanced}
use Rattle.op_model.specs.declared.op.Op.{Op}
use Rattle.op_model.specs.declared.op.Body.{Body}
use Rattle.op_model.specs.declared.op.Body.TheVariants as body
use Rattle.op_model.specs.declared.anchor.Start.{Start}
use Rattle.op_model.specs.declared.anchor.Start.TheVariants as start
use Rattle.op_model.specs.declared.anchor.End.{End}
use Rattle.op_model.specs.declared.anchor.End.TheVariants as end
use Rattle.op_model.specs.declared.character.Character.{Character}
use Rattle.op_model.specs.declared.edit.Edit.{Edit}
use Rattle.op_model.specs.declared.edit.Change.{Change}
use Rattle.op_model.specs.declared.edit.Change.TheVariants as change
use Rattle.op_model.specs.Actions.{head_at_most, stream_at_most, waits_at_most}
use Rattle.op_model.specs.Causality.{clock_of}
use Rattle.op_model.specs.Made.{bodies_of, greatest_counter, end_of, insert_bodies, is_inside, made, numbered, origin_of, start_of}
use Rattle.op_model.specs.Marks.{key_of}
use Rattle.op_model.specs.Records.{body_length, end_length, head_length, origin_length, start_length, stream_length}
use Rattle.op_model.specs.Text.{visible}
use Rattle.op_model.specs.Waiting.{change_length, text_length}
use Rattle.model_laws.proofs.EditLimits.{length-bodies_of, length-insert_bodies, length-numbered}
use Rattle.model_laws.proofs.LimitsMade.{length-advanced_twice}

-- each of these has at most so many bytes of content
abbrev AreAtMost : ℕ → List Body → Type 0
AreAtMost most [] = Unit {0}
AreAtMost most (b ∷ bs) = (body_length b ≤ most) × AreAtMost most bs

-- an id takes at most 25 bytes
origin_at_most : (origin : Option Id) → origin_length origin ≤ 25
origin_at_most None = omega arith
origin_at_most (Some id) = omega arith

start_at_most : (it : Start) → start_length it ≤ 25
start_at_most start.OfText = omega arith
start_at_most (start.From anchor) = omega arith

end_at_most : (it : End) → end_length it ≤ 25
end_at_most (end.To anchor) = omega arith
end_at_most end.OfText = omega arith

inserts_at_most : (replica counter : ℕ) (origin : Option Id) (text : List ℕ) → AreAtMost 29 (insert_bodies replica counter origin text)
inserts_at_most replica counter origin [] = tt
inserts_at_most replica counter origin (c ∷ cs) =
    let named = origin_at_most origin in
    (omega (arith, named), inserts_at_most replica (counter + 1) (Some (record { counter = counter; replica = replica })) cs)

removes_at_most : (cs : List Character) → AreAtMost 24 (map (λ c. body.Remove c.id) cs)
removes_at_most [] = tt
removes_at_most (c ∷ cs) = (omega arith, removes_at_most cs)

-- a clock of no more replicas makes no longer head
head_within : (few many : ℕ) → few ≤ many → head_length few ≤ head_length many
head_within few many less = omega (arith, less)

one_more : (n each : ℕ) → suc n * each ≡ each + n * each
one_more n each = omega arith

-- operations of one replica take at most so many bytes each
stream-numbered : (replica doc : ℕ) (token : Option ℕ) (counter : ℕ) (clock : List (ℕ × ℕ)) (bs : List Body) (replicas most each : ℕ)
    → length (advanced clock replica) ≡ replicas → AreAtMost most bs → each ≡ head_at_most replicas token + most
    → stream_length (numbered replica doc token counter clock bs) ≤ length bs * each
stream-numbered replica doc token counter clock [] replicas most each long small is_each = omega arith
stream-numbered replica doc token counter clock (b ∷ bs) replicas most each long small is_each =
    let rest = stream-numbered replica doc token (counter + 1) (advanced clock replica) bs replicas most each (length-advanced_twice clock replica ∙ long) small.1 is_each in
    let shorter = length-le-advanced clock replica in
    let head = head_within (length clock) replicas (omega (arith, shorter, long)) in
    let content = small.0 in
    rw (one_more (length bs) each) (omega (arith, rest, head, content, is_each))

-- how many bytes the operations of a change take at most
stream_at_most-bodies : (ops : List Op) (replica doc : ℕ) (token : Option ℕ) (c : Change) → is_inside (length (visible ops doc)) c ≡ true
    → stream_length (numbered replica doc token (greatest_counter ops + 1) (clock_of ops) (bodies_of ops replica doc c))
    ≤ stream_at_most (length (advanced (clock_of ops) replica)) token c
stream_at_most-bodies ops replica doc token (change.Insert at text) inside =
    let replicas = length (advanced (clock_of ops) replica) in
    let bodies = insert_bodies replica (greatest_counter ops + 1) (origin_of ops doc at) text in
    let all = stream-numbered replica doc token (greatest_counter ops + 1) (clock_of ops) bodies replicas 29 (head_at_most replicas token + 29) refl
    (inserts_at_most replica (greatest_counter ops + 1) (origin_of ops doc at) text) refl in
    rw (length-insert_bodies replica (greatest_counter ops + 1) (origin_of ops doc at) text) at all
stream_at_most-bodies ops replica doc token (change.Delete at count) inside =
    let replicas = length (advanced (clock_of ops) replica) in
    let bodies = map (λ c. body.Remove c.id) (take count.value (drop at (visible ops doc))) in
    let many : length bodies ≡ count.value = length-bodies_of ops replica doc (change.Delete at count) inside in
    let all = stream-numbered replica doc token (greatest_counter ops + 1) (clock_of ops) bodies replicas 24 (head_at_most replicas token + 24) refl
    (removes_at_most (take count.value (drop at (visible ops doc)))) refl in
    rw many at all
stream_at_most-bodies ops replica doc token (change.Mark from to mark) inside =
    let shorter = length-le-advanced (clock_of ops) replica in
    let head = head_within (length (clock_of ops)) (length (advanced (clock_of ops) replica)) shorter in
    let first = start_at_most (start_of (visible ops doc) from) in
    let last = end_at_most (end_of (visible ops doc) (key_of mark) to) in
    omega (arith, head, first, last)
stream_at_most-bodies ops replica doc token (change.Unmark from to key) inside =
    let shorter = length-le-advanced (clock_of ops) replica in
    let head = head_within (length (clock_of ops)) (length (advanced (clock_of ops) replica)) shorter in
    let first = start_at_most (start_of (visible ops doc) from) in
    let last = end_at_most (end_of (visible ops doc) key to) in
    omega (arith, head, first, last)

pub stream_made-at_most : (ops : List Op) (replica : ℕ) (e : Edit) → is_inside (length (visible ops e.doc)) e.change ≡ true
    → stream_length (made ops replica e) ≤ stream_at_most (length (advanced (clock_of ops) replica)) e.token e.change
stream_made-at_most ops replica e inside = stream_at_most-bodies ops replica e.doc e.token e.change inside

-- a text is one record
text_at_most : (replica doc : ℕ) (token : Option ℕ) (counter : ℕ) (clock : List (ℕ × ℕ)) (origin : Option Id) (text : List ℕ)
    → text_length (numbered replica doc token counter clock (insert_bodies replica counter origin text))
    ≤ head_at_most (length (advanced clock replica)) token + 27 + 4 * length text
text_at_most replica doc token counter clock origin [] = omega arith
text_at_most replica doc token counter clock origin (v ∷ []) =
    let shorter = length-le-advanced clock replica in
    let head = head_within (length clock) (length (advanced clock replica)) shorter in
    let named = origin_at_most origin in
    omega (arith, head, named)
text_at_most replica doc token counter clock origin (v ∷ w ∷ vs) =
    let shorter = length-le-advanced clock replica in
    let head = head_within (length clock) (length (advanced clock replica)) shorter in
    let named = origin_at_most origin in
    let next : Id = record { counter = counter + 1; replica = replica } in
    let bodies = insert_bodies replica (counter + 1 + 1) (Some next) vs in
    let many = length-numbered replica doc token (counter + 1 + 1) (advanced (advanced clock replica) replica) bodies in
    let each = length-insert_bodies replica (counter + 1 + 1) (Some next) vs in
    omega (arith, head, named, many, each)

-- how many bytes a change adds at most to what waits
change_at_most : (ops : List Op) (replica doc : ℕ) (token : Option ℕ) (c : Change) → is_inside (length (visible ops doc)) c ≡ true
    → change_length c (numbered replica doc token (greatest_counter ops + 1) (clock_of ops) (bodies_of ops replica doc c))
    ≤ waits_at_most (length (advanced (clock_of ops) replica)) token c
change_at_most ops replica doc token (change.Insert at text) inside =
    text_at_most replica doc token (greatest_counter ops + 1) (clock_of ops) (origin_of ops doc at) text
change_at_most ops replica doc token (change.Delete at count) inside = stream_at_most-bodies ops replica doc token (change.Delete at count) inside
change_at_most ops replica doc token (change.Mark from to mark) inside = stream_at_most-bodies ops replica doc token (change.Mark from to mark) inside
change_at_most ops replica doc token (change.Unmark from to key) inside = stream_at_most-bodies ops replica doc token (change.Unmark from to key) inside

pub change_made-at_most : (ops : List Op) (replica : ℕ) (e : Edit) → is_inside (length (visible ops e.doc)) e.change ≡ true
    → change_length e.change (made ops replica e) ≤ waits_at_most (length (advanced (clock_of ops) replica)) e.token e.change
change_made-at_most ops replica e inside = change_at_most ops replica e.doc e.token e.change inside
