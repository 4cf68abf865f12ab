-- What is known of the last operation of a piece, and of a piece with one more.
use Rattle.std.proofs.Common.{◌≡◌, ℕ, zero, suc, ◌+◌, true, List, [], ◌∷◌, ◌++◌, length, Option, Some, None}
use Rattle.std.proofs.Common.{arith, ap, refl, sym, ◌∙◌, length-append}
use Rattle.std.specs.Prelude.{nat_lt, nat_le}
use Rattle.std.proofs.lemmas.Bool.{and_parts, eqb-true}
use Rattle.op_ids.specs.Id.{Id}
use Rattle.op_ids.specs.Clock.{advanced, advanced_by, is_clock}
use Rattle.op_ids.proofs.EqualityLemmas.{is_same_clock_tells}
use Rattle.model_laws.proofs.Ids.{same_equal}
use Rattle.op_model.specs.declared.op.Op.{Op}
use Rattle.op_model.specs.declared.op.Body.{Body}
use Rattle.op_model.specs.declared.op.Body.TheVariants.{Insert, Remove, AddMark, RemoveMark}
use Rattle.op_model.specs.Causality.{is_insert}
use Rattle.op_pieces.specs.Pieces.{Run, next_typed, typed_behind, last_typed, end_of, has_room_behind, fits_behind, is_piece, longer}
use Rattle.op_pieces.specs.Cutting.{value_of, is_behind, is_same_token, is_next, goes_on, is_valid}

-- one more is counted at the end
pub advanced_by-more : (clock : List (ℕ × ℕ)) (replica n : ℕ) → advanced_by clock replica (suc n) ≡ advanced (advanced_by clock replica n) replica
advanced_by-more clock replica zero = refl
advanced_by-more clock replica (suc n) = advanced_by-more (advanced clock replica) replica n

pub last_counter : (op : Op) (vs : List ℕ) → (last_typed op vs).id.counter ≡ op.id.counter + length vs
last_counter op [] = omega arith
last_counter op (v ∷ vs) = let rest = last_counter (next_typed op v) vs in omega arith

pub last_replica : (op : Op) (vs : List ℕ) → (last_typed op vs).id.replica ≡ op.id.replica
last_replica op [] = refl
last_replica op (v ∷ vs) = last_replica (next_typed op v) vs

pub last_deps : (op : Op) (vs : List ℕ) → (last_typed op vs).deps ≡ advanced_by op.deps op.id.replica (length vs)
last_deps op [] = refl
last_deps op (v ∷ vs) = last_deps (next_typed op v) vs

-- a character more is the next operation
pub last_more : (op : Op) (vs : List ℕ) (v : ℕ) → last_typed op (vs ++ v ∷ []) ≡ next_typed (last_typed op vs) v
last_more op [] v = refl
last_more op (x ∷ vs) v = last_more (next_typed op x) vs v

pub typed_more : (op : Op) (vs : List ℕ) (v : ℕ) → typed_behind op (vs ++ v ∷ []) ≡ typed_behind op vs ++ next_typed (last_typed op vs) v ∷ []
typed_more op [] v = refl
typed_more op (x ∷ vs) v = ap (λ ops. next_typed op x ∷ ops) (typed_more (next_typed op x) vs v)

pub length-typed : (op : Op) (vs : List ℕ) → length (typed_behind op vs) ≡ length vs
length-typed op [] = refl
length-typed op (v ∷ vs) = ap suc (length-typed (next_typed op v) vs)

-- the parts of the test
record IsNext (last op : Op) : Type 0 where
  pub inserts : is_insert last.body ≡ true
  pub behind : is_behind last.id op.body ≡ true
  pub counter : op.id.counter ≡ last.id.counter + 1
  pub replica : op.id.replica ≡ last.id.replica
  pub doc : op.doc ≡ last.doc
  pub token : is_same_token op.token last.token ≡ true
  pub deps : op.deps ≡ advanced last.deps last.id.replica

next_parts : (last op : Op) → is_next last op ≡ true → IsNext last op
next_parts last op is =
    let a = and_parts _ _ is in
    let b = and_parts _ _ a.1 in
    let c = and_parts _ _ b.1 in
    let d = and_parts _ _ c.1 in
    let e = and_parts _ _ d.1 in
    let f = and_parts _ _ e.1 in
    record {
      inserts = a.0;
      behind = b.0;
      counter = eqb-true _ _ c.0;
      replica = eqb-true _ _ d.0;
      doc = eqb-true _ _ e.0;
      token = f.0;
      deps = (is_same_clock_tells op.deps (advanced last.deps last.id.replica) true (sym f.1)).0 refl;
    }

body_behind : (id : Id) (body : Body) → is_behind id body ≡ true → body ≡ Insert (Some id) (value_of body)
body_behind id (Insert (Some origin) value) is = ap (λ o. Insert (Some o) value) (same_equal origin id is)
body_behind id (Insert None value) is = let never : ⊥ = cc in absurd never
body_behind id (Remove target) is = let never : ⊥ = cc in absurd never
body_behind id (AddMark mark start end) is = let never : ⊥ = cc in absurd never
body_behind id (RemoveMark key start end) is = let never : ⊥ = cc in absurd never

token_same : (a b : Option ℕ) → is_same_token a b ≡ true → a ≡ b
token_same None None is = refl
token_same (Some a) (Some b) is = ap Some (eqb-true a b is)
token_same None (Some b) is = let never : ⊥ = cc in absurd never
token_same (Some a) None is = let never : ⊥ = cc in absurd never

id_is : (a b : Id) → a.counter ≡ b.counter → a.replica ≡ b.replica → a ≡ b
id_is a b c r = λ i. record { counter = c i; replica = r i }

op_is : (a b : Op) → a.id ≡ b.id → a.doc ≡ b.doc → a.token ≡ b.token → a.deps ≡ b.deps → a.body ≡ b.body → a ≡ b
op_is a b id doc token deps body = λ i. record { id = id i; doc = doc i; token = token i; deps = deps i; body = body i }

-- what passes the test is just the next operation
pub next_is : (last op : Op) → is_next last op ≡ true → op ≡ next_typed last (value_of op.body)
next_is last op is =
    let p = next_parts last op is in
    op_is op (next_typed last (value_of op.body)) (id_is op.id _ p.counter p.replica) p.doc (token_same op.token last.token p.token) p.deps
    (body_behind last.id op.body p.behind)

-- an insert begins what is behind an insert
begins : (op : Op) (vs : List ℕ) → is_insert (last_typed op vs).body ≡ true → fits_behind op vs ≡ true → is_insert op.body ≡ true
begins op [] last piece = last
begins op (v ∷ vs) last piece = (and_parts _ _ piece).0

-- room for one more is room for the characters with one more
fits_more : (op : Op) (vs : List ℕ) (v : ℕ) → has_room_behind op (suc (length vs)) ≡ true → fits_behind op (vs ++ v ∷ []) ≡ true
fits_more op [] v room = room
fits_more op (x ∷ vs) v room =
    let long : length (vs ++ v ∷ []) ≡ suc (length vs) = (let l = length-append vs (v ∷ []) in omega arith) in
    ap (λ n. has_room_behind op (suc n)) long ∙ room

-- a piece that goes on is one with the next operation too
pub grown_piece : (p : Run) (last op : Op) → end_of p ≡ last → is_piece p ≡ true → is_valid op ≡ true → goes_on p last op ≡ true
    → is_piece (longer p (value_of op.body)) ≡ true
grown_piece p last op end piece valid on =
    let tests : (nat_lt (length p.others + 1) 256 ≡ true) × (is_next last op ≡ true) = and_parts _ _ on in
    let next = next_parts last op tests.1 in
    let ranges : (nat_le op.id.counter 281474976710655 ≡ true) × (is_clock op.deps ≡ true) = and_parts _ _ valid in
    let count = last_counter p.first p.others in
    let replica : last.id.replica ≡ p.first.id.replica = ap (λ (o : Op). o.id.replica) (sym end) ∙ last_replica p.first p.others in
    let own : op.deps ≡ advanced_by p.first.deps p.first.id.replica (suc (length p.others)) =
    next.deps ∙ ap (λ r. advanced last.deps r) replica
    ∙ ap (λ deps. advanced deps p.first.id.replica) (ap (λ (o : Op). o.deps) (sym end) ∙ last_deps p.first p.others)
    ∙ sym (advanced_by-more p.first.deps p.first.id.replica (length p.others)) in
    let counter : p.first.id.counter + suc (length p.others) ≡ op.id.counter =
    (let same = ap (λ (o : Op). o.id.counter) end in let one = next.counter in omega arith) in
    let inserts = begins p.first p.others (ap (λ (o : Op). is_insert o.body) end ∙ next.inserts) piece in
    fits_more p.first p.others (value_of op.body)
    (room_from p.first (length p.others) inserts tests.0 (rw (sym counter) at ranges.0) (rw own at ranges.1))
  where
    room_from : (first : Op) (n : ℕ) → is_insert first.body ≡ true → nat_lt (n + 1) 256 ≡ true → nat_le (first.id.counter + suc n) 281474976710655 ≡ true
        → is_clock (advanced_by first.deps first.id.replica (suc n)) ≡ true → has_room_behind first (suc n) ≡ true
    room_from first n a b c d = let next : n + 1 ≡ suc n = omega arith in rw (a, rw next at b, c, d) refl
