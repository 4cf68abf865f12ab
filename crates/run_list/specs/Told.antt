-- How operations are held: without their tokens, and these beside them.
use Rattle.std.specs.Prelude.{◌≡◌, ℕ, zero, suc, Bool, true, List, [], ◌∷◌, map, Option, Some, None}
use Rattle.op_model.specs.declared.op.Op.{Op}
use Rattle.op_pieces.specs.Cutting.{value_of}
use Rattle.change_codec.specs.Fits.{IsOperation}
use Rattle.change_codec.specs.Stream.{AreOperations}
use Rattle.run_list.specs.Runs.{goes_on, last_behind}

-- the operation with this token in place of its own
abbrev pub with_token : Op → Option ℕ → Op
with_token op token = record op { token = token }

-- the operation without its token
abbrev pub bare_of : Op → Op
bare_of op = with_token op None

-- a token as its number, and 0 for none
abbrev pub token_number : Option ℕ → ℕ
token_number None = 0
token_number (Some token) = token

-- the token that a number stands for
abbrev pub token_of : ℕ → Option ℕ
token_of zero = None
token_of (suc n) = Some (suc n)

-- operations without their tokens
abbrev pub bare_ops : List Op → List Op
bare_ops ops = map bare_of ops

-- the numbers of their tokens
abbrev pub tokens_of : List Op → List ℕ
tokens_of ops = map (λ op. token_number op.token) ops

-- operations with the tokens that these numbers stand for
unfoldable pub told : List ℕ → List Op → List Op
told [] ops = []
told (n ∷ ns) [] = []
told (n ∷ ns) (op ∷ ops) = with_token op (token_of n) ∷ told ns ops

-- these are the operations of a list without their tokens, and the numbers of these
pub record HoldsTold (bare : List Op) (tokens : List ℕ) (ops : List Op) : Type 0 where
  pub bare_so : bare ≡ bare_ops ops
  pub tokens_so : tokens ≡ tokens_of ops
  pub fits : AreOperations ops

-- they are those of the list that they stand for
abbrev pub AreTold : List Op → List ℕ → Type 0
AreTold bare tokens = HoldsTold bare tokens (told tokens bare)

-- the operation goes on with the run of the last one of these, whatever the tokens of both are
abbrev pub continues : List Op → Op → Bool
continues ops op = goes_on (last_behind None (bare_ops ops)) (bare_of op)

-- the operation goes on so, types this character, and has this token
pub record IsTypedOn (ops : List Op) (value : ℕ) (token : Option ℕ) (op : Op) : Type 0 where
  pub on : continues ops op ≡ true
  pub types : value ≡ value_of op.body
  pub token_so : token ≡ op.token
  pub fits : IsOperation op
