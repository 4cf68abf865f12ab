-- The small history is one: each of its steps computes.
use Rattle.std.proofs.Common.{◌≡◌, ℕ, inl, inr, List, [], ◌∷◌, Some, false, true, refl}
use Rattle.op_model.specs.Causality.{clock_of}
use Rattle.op_model.specs.Held.{opened_with, with_edit, with_merge}
use Rattle.op_model.specs.Machine.{State, holding, with_settlement, opened}
use Rattle.op_model.specs.Text.{text}
use Rattle.world_law.specs.World.{Message, operations_told, World, HasMachine, IsBeginning}
use Rattle.world_law.specs.Histories.{IsChanged, History}
use Rattle.world_law.specs.Witness.{both_have_it, both_new, first_edit, first_op, insert_of, new_one, one_tells_and_crashes}

-- the states of replica 1, one after another
abbrev with_a : State
with_a = holding (new_one 1) (with_edit (opened_with 1 []) 1 first_edit)

abbrev with_commit : State
with_commit = record with_a { commit = Some (record { count = 1; through = false }) }

abbrev commit_through : State
commit_through = record with_a { version = 2; commit = Some (record { count = 1; through = true }) }

abbrev with_a_settled : State
with_a_settled = with_settlement commit_through 1

abbrev with_a_told : State
with_a_told = holding with_a_settled (record with_a_settled.held { told = 1 })

abbrev with_b : State
with_b = holding with_a_told (with_edit with_a_told.held 1 (insert_of 1 98))

abbrev reopened_with_a : State
reopened_with_a = opened 1 (first_op ∷ []) 2

abbrev has_merged : State
has_merged = holding (new_one 2) (with_merge (opened_with 2 []) 1 first_op)

abbrev told : List Message
told = operations_told (first_op ∷ []) ∷ []

-- replica 1 goes from a state to the next
abbrev first_changes : (a b : State) → a.held.replica ≡ 1 → IsChanged 1 (a ∷ new_one 2 ∷ []) (b ∷ new_one 2 ∷ [])
first_changes a b is = record { front = []; rest = new_one 2 ∷ []; old = a; next = b; number = is; was = refl; is = refl }

abbrev second_changes : (a b c : State) → b.held.replica ≡ 2 → IsChanged 2 (a ∷ b ∷ []) (a ∷ c ∷ [])
second_changes a b c is = record { front = a ∷ []; rest = []; old = b; next = c; number = is; was = refl; is = refl }

abbrev world_in : State → List Message → World
world_in a bag = record { machines = a ∷ new_one 2 ∷ []; bag = bag }

pub begins : IsBeginning both_new
begins = record {
  apart = ((λ e. absurd (cc), tt), (tt, tt));
  new = each;
  untold = refl;
}
  where
    each : (m : State) → HasMachine both_new.machines m → (version : ℕ) × (m ≡ opened m.held.replica [] version)
    each m (inl e) = (1, rw (← e) refl)
    each m (inr (inl e)) = (1, rw (← e) refl)
    each m (inr (inr h)) = absurd h

pub happens : History both_new one_tells_and_crashes both_have_it
happens = (
  world_in with_a [],
  (first_changes (new_one 1) with_a refl, tt, (refl, refl), refl),
  (
    world_in with_commit [],
    (first_changes with_a with_commit refl, tt, (refl, refl), refl),
    (
      world_in with_commit [],
      (first_changes with_commit with_commit refl, tt, (refl, refl, refl), refl),
      (
        world_in commit_through [],
        (first_changes with_commit commit_through refl, tt, (refl, refl, refl), refl),
        (
          world_in with_a_settled [],
          (first_changes commit_through with_a_settled refl, tt, (refl, refl), refl),
          (
            world_in with_a_told told,
            (first_changes with_a_settled with_a_told refl, tt, (refl, refl), refl),
            (
              world_in with_b told,
              (first_changes with_a_told with_b refl, tt, (refl, refl), refl),
              (
                world_in reopened_with_a told,
                (first_changes with_b reopened_with_a refl, refl, refl),
                (
                  world_in reopened_with_a told,
                  (first_changes reopened_with_a reopened_with_a refl, tt, (refl, refl), refl),
                  (
                    both_have_it,
                    (second_changes reopened_with_a (new_one 2) has_merged refl, inl (inl refl), (refl, refl), refl),
                    refl,
                  ),
                ),
              ),
            ),
          ),
        ),
      ),
    ),
  ),
)

pub shown : (m : State) → HasMachine both_have_it.machines m → (clock_of m.held.list ≡ (1, 1) ∷ []) × (text m.held.list 1 ≡ 97 ∷ [])
shown m (inl e) = rw (← e) (refl, refl)
shown m (inr (inl e)) = rw (← e) (refl, refl)
shown m (inr (inr h)) = absurd h
