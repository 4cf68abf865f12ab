-- What operations without their tokens, and these beside them, stand for.
use Rattle.std.proofs.Common.{◌≡◌, ℕ, zero, suc, ◌<◌, List, [], ◌∷◌, ◌++◌}
use Rattle.std.proofs.Common.{length, map, get_or, take, drop, Option, Some, None, refl, sym, ap, subst, ◌∙◌, arith}
use Rattle.std.specs.Prelude.{false, is_some, IfSome}
use Rattle.std.specs.Option.{option_map}
use Rattle.std.proofs.lemmas.List.{map-append, take-map, get_or-map, length-map}
use Rattle.op_model.specs.declared.op.Op.{Op}
use Rattle.op_list.specs.Heads.{head_of, heads}
use Rattle.op_list.proofs.Holding.{fits_take, fits_drop, fits_append}
use Rattle.change_codec.specs.Fits.{IsOperation, IsToken}
use Rattle.change_codec.specs.Stream.{AreOperations}
use Rattle.change_codec.proofs.StreamLaws.{are_more}
use Rattle.run_list.specs.Runs.{last_behind}
use Rattle.run_list.specs.Told.{with_token, bare_of, token_number, token_of, bare_ops, tokens_of, told, HoldsTold, AreTold}

-- a token's number stands for it
pub token_again : (token : Option ℕ) → IsToken token → token_of (token_number token) ≡ token
token_again None fits = refl
token_again (Some zero) fits = absurd (omega (arith, fits.0))
token_again (Some (suc n)) fits = refl

pub told_again : (ops : List Op) → AreOperations ops → told (tokens_of ops) (bare_ops ops) ≡ ops
unfolding told
told_again [] fits = refl
told_again (op ∷ ops) fits =
    ap (λ (t : Option ℕ). with_token op t ∷ told (tokens_of ops) (bare_ops ops)) (token_again op.token fits.0.token)
    ∙ ap (λ (rest : List Op). op ∷ rest) (told_again ops fits.1)

-- what is held is the list
pub told_is : (bare : List Op) (tokens : List ℕ) (ops : List Op) → HoldsTold bare tokens ops → told tokens bare ≡ ops
told_is bare tokens ops holds = ap (told tokens) holds.bare_so ∙ ap (λ (ns : List ℕ). told ns (bare_ops ops)) holds.tokens_so ∙ told_again ops holds.fits

pub are_told : (bare : List Op) (tokens : List ℕ) (ops : List Op) → HoldsTold bare tokens ops → AreTold bare tokens
are_told bare tokens ops holds = subst (λ (read : List Op). HoldsTold bare tokens read) (sym (told_is bare tokens ops holds)) holds

-- the list that a value shows is held
pub shown : (bare : List Op) (tokens : List ℕ) (ops : List Op) → AreTold bare tokens → told tokens bare ≡ ops → HoldsTold bare tokens ops
shown bare tokens ops are is = subst (λ (read : List Op). HoldsTold bare tokens read) is are

pub bare_long : (bare : List Op) (tokens : List ℕ) (ops : List Op) → HoldsTold bare tokens ops → length bare ≡ length ops
bare_long bare tokens ops holds = ap length holds.bare_so ∙ length-map ops bare_of

pub tokens_long : (bare : List Op) (tokens : List ℕ) (ops : List Op) → HoldsTold bare tokens ops → length tokens ≡ length ops
tokens_long bare tokens ops holds = ap length holds.tokens_so ∙ length-map ops (λ op. token_number op.token)

-- what holds the list after each call

pub nothing_told : (bare : List Op) (tokens : List ℕ) → bare ≡ [] → tokens ≡ [] → HoldsTold bare tokens []
nothing_told bare tokens bare_is tokens_are = record { bare_so = bare_is; tokens_so = tokens_are; fits = tt }

pub more_told : (bare : List Op) (tokens : List ℕ) (ops : List Op) (op : Op) (more_bare : List Op) (more_tokens : List ℕ) → HoldsTold bare tokens ops
    → IsOperation op → more_bare ≡ bare ++ bare_of op ∷ [] → more_tokens ≡ tokens ++ token_number op.token ∷ [] → HoldsTold more_bare more_tokens (ops ++ op ∷ [])
more_told bare tokens ops op more_bare more_tokens holds fits bare_is tokens_are = record {
  bare_so = bare_is ∙ ap (λ (b : List Op). b ++ bare_of op ∷ []) holds.bare_so ∙ sym (map-append bare_of ops (op ∷ []));
  tokens_so =
      tokens_are ∙ ap (λ (ns : List ℕ). ns ++ token_number op.token ∷ []) holds.tokens_so
      ∙ sym (map-append (λ o. token_number o.token) ops (op ∷ []));
  fits = are_more ops op holds.fits fits;
}

pub front_told : (bare : List Op) (tokens : List ℕ) (ops : List Op) (n : ℕ) (front_bare : List Op) (front_tokens : List ℕ) → HoldsTold bare tokens ops
    → front_bare ≡ take n bare → front_tokens ≡ take n tokens → HoldsTold front_bare front_tokens (take n ops)
front_told bare tokens ops n front_bare front_tokens holds bare_is tokens_are = record {
  bare_so = bare_is ∙ ap (take n) holds.bare_so ∙ take-map bare_of n ops;
  tokens_so = tokens_are ∙ ap (take n) holds.tokens_so ∙ take-map (λ op. token_number op.token) n ops;
  fits = fits_take n ops holds.fits;
}

-- the same of those of a list that are a front of it
pub front_held : (bare : List Op) (tokens : List ℕ) (list ops : List Op) (n : ℕ) → HoldsTold bare tokens list → n ≡ length ops → take (length ops) list ≡ ops
    → HoldsTold (take n bare) (take n tokens) ops
front_held bare tokens list ops n holds n_is front =
    subst (λ (os : List Op). HoldsTold (take n bare) (take n tokens) os) (ap (λ (m : ℕ). take m list) n_is ∙ front)
    (front_told bare tokens list n (take n bare) (take n tokens) holds refl refl)

-- each list is held in one way, and what is held is one list
pub same_told : (bare other_bare : List Op) (tokens other_tokens : List ℕ) (ops others : List Op) → HoldsTold bare tokens ops
    → HoldsTold other_bare other_tokens others → bare ≡ other_bare → tokens ≡ other_tokens → ops ≡ others
same_told bare other_bare tokens other_tokens ops others a b bare_is tokens_are =
    sym (told_is bare tokens ops a) ∙ ap (told tokens) bare_is ∙ ap (λ (ns : List ℕ). told ns other_bare) tokens_are
    ∙ told_is other_bare other_tokens others b

drop-mapped : {X Y : Type 0} (f : X → Y) (n : ℕ) (xs : List X) → drop n (map f xs) ≡ map f (drop n xs)
drop-mapped f zero xs = refl
drop-mapped f (suc n) [] = refl
drop-mapped f (suc n) (x ∷ xs) = drop-mapped f n xs

-- with the operations of another list, from one on
pub joined_told : (bare : List Op) (tokens : List ℕ) (ops : List Op) (n : ℕ) (others : List Op) (more_bare : List Op) (more_tokens : List ℕ)
    → HoldsTold bare tokens ops → AreOperations others → more_bare ≡ bare ++ drop n (bare_ops others)
    → more_tokens ≡ tokens ++ drop n (tokens_of others) → HoldsTold more_bare more_tokens (ops ++ drop n others)
joined_told bare tokens ops n others more_bare more_tokens holds fits bare_is tokens_are = record {
  bare_so =
      bare_is ∙ ap (λ (b : List Op). b ++ drop n (bare_ops others)) holds.bare_so
      ∙ ap (λ (b : List Op). bare_ops ops ++ b) (drop-mapped bare_of n others) ∙ sym (map-append bare_of ops (drop n others));
  tokens_so =
      tokens_are ∙ ap (λ (ns : List ℕ). ns ++ drop n (tokens_of others)) holds.tokens_so
      ∙ ap (λ (ns : List ℕ). tokens_of ops ++ ns) (drop-mapped (λ op. token_number op.token) n others)
      ∙ sym (map-append (λ op. token_number op.token) ops (drop n others));
  fits = fits_append ops (drop n others) holds.fits (fits_drop n others fits);
}

-- an operation, by what is held of it

some_op : (ops : List Op) (i : ℕ) → i < length ops → Op
some_op [] i lt = absurd (omega arith)
some_op (op ∷ ops) i lt = op

fits_at : (ops : List Op) (i : ℕ) (d : Op) → i < length ops → AreOperations ops → IsOperation (get_or ops i d)
fits_at [] i d lt fits = absurd (omega arith)
fits_at (op ∷ ops) zero d lt fits = fits.0
fits_at (op ∷ ops) (suc i) d lt fits = fits_at ops i d (omega arith) fits.1

pub token_at : (bare : List Op) (tokens : List ℕ) (ops : List Op) (i n : ℕ) (d : Op) → HoldsTold bare tokens ops → i < length ops
    → n ≡ get_or tokens i n → token_of n ≡ (get_or ops i d).token
token_at bare tokens ops i n d holds lt is =
    ap token_of (is ∙ ap (λ (ns : List ℕ). get_or ns i n) holds.tokens_so ∙ get_or-map (λ op. token_number op.token) ops i d n lt)
    ∙ token_again (get_or ops i d).token (fits_at ops i d lt holds.fits).token

pub bare_at : (bare : List Op) (tokens : List ℕ) (ops : List Op) (i : ℕ) (op d : Op) → HoldsTold bare tokens ops → i < length ops
    → op ≡ get_or bare i op → op ≡ bare_of (get_or ops i d)
bare_at bare tokens ops i op d holds lt is =
    is ∙ ap (λ (b : List Op). get_or b i op) holds.bare_so ∙ get_or-map bare_of ops i d op lt

pub told_at : (bare : List Op) (tokens : List ℕ) (ops : List Op) (i n : ℕ) (op d : Op) → HoldsTold bare tokens ops → i < length ops
    → op ≡ get_or bare i op → n ≡ get_or tokens i n → with_token op (token_of n) ≡ get_or ops i d
told_at bare tokens ops i n op d holds lt op_is n_is =
    ap (λ (o : Op). with_token o (token_of n)) (bare_at bare tokens ops i op d holds lt op_is)
    ∙ ap (with_token (get_or ops i d)) (token_at bare tokens ops i n d holds lt n_is)

pub told_token_at : (bare : List Op) (tokens : List ℕ) (ops : List Op) (i n : ℕ) (d : Option ℕ) → HoldsTold bare tokens ops → i < length ops
    → n ≡ get_or tokens i n → token_of n ≡ get_or (map (λ op. op.token) ops) i d
told_token_at bare tokens ops i n d holds lt is =
    let e = some_op ops i lt in
    token_at bare tokens ops i n e holds lt is ∙ sym (get_or-map (λ op. op.token) ops i e d lt)

-- a token is nothing to a head
pub same_heads : (ops : List Op) → heads (bare_ops ops) ≡ heads ops
same_heads [] = refl
same_heads (op ∷ ops) = ap (λ hs. head_of op ∷ hs) (same_heads ops)

-- the last one without its token
pub last_bare : (last : Option Op) (ops : List Op) → last_behind (option_map bare_of last) (bare_ops ops) ≡ option_map bare_of (last_behind last ops)
last_bare last [] = refl
last_bare last (op ∷ ops) = last_bare (Some op) ops

-- without its token it keeps the rules
pub bare_fits : (op : Op) → IsOperation op → IsOperation (bare_of op)
bare_fits op fits = record { id = fits.id; doc = fits.doc; token = tt; deps = fits.deps; replicas = fits.replicas; body = fits.body }

-- and so with another one
pub told_fits : (op : Op) (token : Option ℕ) → IsOperation op → IsToken token → IsOperation (with_token op token)
told_fits op token fits is = record { id = fits.id; doc = fits.doc; token = is; deps = fits.deps; replicas = fits.replicas; body = fits.body }

-- the token that sixteen bytes are is the one that their number stands for
pub token_read : (n read : ℕ) (token : Option ℕ) → (is_some token ≡ false → read ≡ 0) → (read ≡ 0 → is_some token ≡ false) → IfSome token (λ t. t ≡ read) → read ≡ n
    → token ≡ token_of n
token_read n read None nil none some is = rw (sym is ∙ nil refl) refl
token_read n read (Some zero) nil none some is = absurd (let never = none (sym some) in let broken : ⊥ = cc in broken)
token_read n read (Some (suc t)) nil none some is = ap token_of (some ∙ is)

-- an operation that has no token is as it is without
pub same_bare : (op : Op) → op.token ≡ None → op ≡ bare_of op
same_bare op none = ap (with_token op) none

pub last_fits : (ops : List Op) (op : Op) → AreOperations (ops ++ op ∷ []) → IsOperation op
last_fits [] op fits = fits.0
last_fits (o ∷ ops) op fits = last_fits ops op fits.1
