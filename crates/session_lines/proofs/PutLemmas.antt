-- Bytes that are put one after the other.
use Rattle.std.proofs.Common.{◌≡◌, ◌≢◌, ℕ, ◌+◌, ◌-◌, ◌≤◌, List, [], ◌∷◌, ◌++◌, length, take, Result, Ok, Err, IsErr}
use Rattle.std.proofs.Common.{append_assoc, length-append, refl, sym, ap, subst, ◌∙◌, arith, codes}
use Rattle.std.proofs.Math.Seq.{take-append-add}
use Rattle.std.specs.Prelude.{vec_capacity}
use Rattle.session_lines.specs.Saying.{but_last, said_attributes}
use Rattle.std.proofs.lemmas.Bool.{false≢true}
use Rattle.std.specs.Global.{Vec}
use Rattle.session_lines.specs.Putting.{Puts}

then_puts : {T E U : Type 0} {x : U} (r : Result T E) (old mid new : Vec ℕ) (first later : List ℕ)
    → Puts {E = E} (Ok x) old mid first → Puts r mid new later → Puts r old new (first ++ later)
then_puts (Ok x) old mid new first later p q = record {
  ok = q.ok ∙ ap (λ l. l ++ later) p.ok ∙ append_assoc old.items first later;
  err = tt;
  capacity = omega (arith, p.capacity, q.capacity);
}
then_puts (Err e) old mid new first later p q = record {
  ok = tt;
  err = (first ++ q.err.0, q.err.1 ∙ ap (λ l. l ++ q.err.0) p.ok ∙ append_assoc old.items first q.err.0);
  capacity = omega (arith, p.capacity, q.capacity);
}

puts_err : {T U E : Type 0} {e : E} (r : Result T E) (old new : Vec ℕ) (bytes other : List ℕ) → IsErr r
    → Puts {T = U} (Err e) old new bytes → Puts r old new other
puts_err (Ok x) old new bytes other is p = absurd (false≢true is)
puts_err (Err y) old new bytes other is p = record { ok = tt; err = p.err; capacity = p.capacity }

puts_same : {T E : Type 0} (r : Result T E) (old new : Vec ℕ) (bytes other : List ℕ) → bytes ≡ other → Puts r old new bytes → Puts r old new other
puts_same r old new bytes other same p = subst (λ (l : List ℕ). Puts r old new l) same p

regrouped : (a b c d : List ℕ) → (a ++ (b ++ c)) ++ d ≡ a ++ (b ++ (c ++ d))
regrouped a b c d = append_assoc a (b ++ c) d ∙ ap (λ l. a ++ l) (append_assoc b c d)

-- bytes, and then others
infixr 10 ◌>>◌
pub ◌>>◌ : {T E U : Type 0} {x : U} {r : Result T E} {old mid new : Vec ℕ} {first later : List ℕ}
    → Puts {E = E} (Ok x) old mid first → Puts r mid new later → Puts r old new (first ++ later)
p >> q = then_puts _ _ _ _ _ _ p q

-- a number between bytes, and then others
pub then_after_number : {T E U : Type 0} {x : U} {r : Result T E} {old mid new : Vec ℕ} {later : List ℕ} (before number after : List ℕ)
    → Puts {E = E} (Ok x) old mid (before ++ (number ++ after)) → Puts r mid new later → Puts r old new (before ++ (number ++ (after ++ later)))
then_after_number before number after p q = puts_same _ _ _ _ _ (regrouped before number after _) (p >> q)

-- two numbers, each after bytes, and then others
pub then_after_part : {T E U : Type 0} {x : U} {r : Result T E} {old mid new : Vec ℕ} {later : List ℕ} (before number between limit : List ℕ)
    → Puts {E = E} (Ok x) old mid (before ++ (number ++ (between ++ limit))) → Puts r mid new later
    → Puts r old new (before ++ (number ++ (between ++ (limit ++ later))))
then_after_part before number between limit p q =
    puts_same _ _ _ _ _ (ap (λ l. before ++ (number ++ l)) (append_assoc between limit _)) (then_after_number before number (between ++ limit) p q)

-- if an error ends it, it doesn't matter which bytes were to be put
pub stops : {T U E : Type 0} {e : E} {r : Result T E} {old new : Vec ℕ} {bytes other : List ℕ} → IsErr r
    → Puts {T = U} (Err e) old new bytes → Puts r old new other
stops is p = puts_err _ _ _ _ _ is p

-- the last byte goes again
pub puts_but_last : {T E : Type 0} {x : T} (old mid new : Vec ℕ) (first later : List ℕ) → 1 ≤ length later
    → Puts {E = E} (Ok x) old mid (first ++ later) → new.items ≡ take (length mid.items - 1) mid.items → vec_capacity mid ≤ vec_capacity new
    → Puts {E = E} (Ok x) old new (first ++ but_last later)
puts_but_last old mid new first later some p cut room = record {
  ok =
      let parts : mid.items ≡ (old.items ++ first) ++ later = p.ok ∙ sym (append_assoc old.items first later) in
      let long : length mid.items - 1 ≡ length (old.items ++ first) + (length later - 1) =
      omega (arith, ap (λ l. length l) parts, length-append (old.items ++ first) later) in
      cut ∙ ap (λ n. take n mid.items) long ∙ ap (take (length (old.items ++ first) + (length later - 1))) parts
      ∙ take-append-add (old.items ++ first) later (length later - 1) ∙ append_assoc old.items first (but_last later);
  err = tt;
  capacity = let more = p.capacity in omega (arith, more);
}

-- some members are attributes
pub some_attributes : (members : List ℕ) → members ≢ [] → said_attributes members ≡ codes "{\"attributes\":{" ++ (but_last members ++ codes "},")
some_attributes [] some = absurd (some refl)
some_attributes (b ∷ bs) some = refl

pub some_long : (members : List ℕ) → members ≢ [] → 1 ≤ length members
some_long [] some = absurd (some refl)
some_long (b ∷ bs) some = omega arith
