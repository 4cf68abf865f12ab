-- Changes that are made one after another.
use Rattle.std.specs.Prelude.{◌≡◌, ℕ, ◌+◌, List, [], ◌∷◌, ◌++◌, Option, None}
use Rattle.op_model.specs.declared.edit.Change.{Change}
use Rattle.op_model.specs.declared.op.Body.{Body}
use Rattle.op_model.specs.declared.op.Op.{Op}
use Rattle.op_model.specs.Actions.{Room, edit_of, length_after, room_after, stream_at_most}
use Rattle.op_model.specs.Made.{bodies_of, edit_refusal, made}
use Rattle.model_laws.specs.Changed.{changed}

-- each of these changes, made of what those before it leave, is one that nothing refuses
abbrev pub NoneRefused : List Op → ℕ → ℕ → Option ℕ → List Change → Type 0
NoneRefused ops replica doc token [] = Unit {0}
NoneRefused ops replica doc token (c ∷ cs) =
    (edit_refusal ops replica (edit_of doc token c) ≡ None)
    × NoneRefused (ops ++ made ops replica (edit_of doc token c)) replica doc token cs

-- what the operations of changes do, each made of what those before it leave
abbrev pub bodies_in_turn : List Op → ℕ → ℕ → Option ℕ → List Change → List Body
bodies_in_turn ops replica doc token [] = []
bodies_in_turn ops replica doc token (c ∷ cs) =
    bodies_of ops replica doc c
    ++ bodies_in_turn (ops ++ made ops replica (edit_of doc token c)) replica doc token cs

-- how many characters a text of n has after changes
abbrev pub length_after_all : ℕ → List Change → ℕ
length_after_all n [] = n
length_after_all n (c ∷ cs) = length_after_all (length_after n c) cs

-- a text after changes
abbrev pub all_changed : List ℕ → List Change → List ℕ
all_changed text [] = text
all_changed text (c ∷ cs) = all_changed (changed text c) cs

-- the operation was made by this replica, of this document and under this token
pub record IsMadeFor (replica doc : ℕ) (token : Option ℕ) (op : Op) : Type 0 where
  pub replica_is : op.id.replica ≡ replica
  pub doc_is : op.doc ≡ doc
  pub token_is : op.token ≡ token

-- the room that changes leave
abbrev pub room_after_all : Room → ℕ → Option ℕ → List Change → Room
room_after_all room replicas token [] = room
room_after_all room replicas token (c ∷ cs) = room_after_all (room_after room replicas token c) replicas token cs

-- the most bytes of the records of changes, each by itself
abbrev pub all_stream_at_most : ℕ → Option ℕ → List Change → ℕ
all_stream_at_most replicas token [] = 0
all_stream_at_most replicas token (c ∷ cs) = stream_at_most replicas token c + all_stream_at_most replicas token cs
