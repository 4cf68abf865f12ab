-- Which operations of a list an edit's token names.
use Rattle.std.specs.Prelude.{ℕ, Bool, true, false, List, [], ◌∷◌, ◌++◌, Option, Some, None, ◌==◌, ◌&&◌}
use Rattle.std.specs.Option.{option_map}
use Rattle.op_model.specs.declared.op.Op.{Op}
use Rattle.op_model.specs.Text.{rev}

-- the operation that was found behind one more, or else that one, if it is meant, with none before it
abbrev pub or_here : Bool → Op → Option (List Op × Op) → Option (List Op × Op)
or_here here op (Some p) = Some (op ∷ p.0, p.1)
or_here true op None = Some ([], op)
or_here false op None = None

-- the last operation of which this is so, behind those before it
abbrev pub last_of : (Op → Bool) → List Op → Option (List Op × Op)
last_of is [] = None
last_of is (op ∷ ops) = or_here (is op) op (last_of is ops)

-- this is the token that is there
abbrev pub is_token : ℕ → Option ℕ → Bool
is_token token None = false
is_token token (Some t) = t == token

-- an own operation of this replica, made for the edit with this token
abbrev pub carries : ℕ → ℕ → Op → Bool
carries replica token op = op.id.replica == replica && is_token token op.token

-- how many operations the document of the found one has, up to that one
abbrev pub rev_with : List Op × Op → ℕ
rev_with p = rev (p.0 ++ p.1 ∷ []) p.1.doc

-- the number that the edit with this token was answered first, if it was made
abbrev pub first_of_token : List Op → ℕ → ℕ → Option ℕ
first_of_token ops replica token = option_map rev_with (last_of (carries replica token) ops)
