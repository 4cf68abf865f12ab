-- What each phase of a commit says.
use Rattle.std.proofs.Common.{◌≡◌, ◌≢◌, ◌+◌, Bool, true, false, nat_lt, length, refl, inl, inr, ◌⊎◌}
use Rattle.std.specs.Prelude.{if◌then◌else◌}
use Rattle.group_commit.specs.Begin.{is_idle}
use Rattle.group_commit.specs.Errors.{number_of}
use Rattle.group_commit.specs.Held.{gone_on, left_at, StoreHeld}
use Rattle.group_commit.specs.Step.{call_in, error_of}
use Rattle.group_commit.specs.declared.phase.Phase.{Phase}
use Rattle.group_commit.specs.declared.phase.Phase.TheVariants.{Idle, Pages, Close, Sync1, Body, Sync2, Gate, Sync3}

-- what a call that succeeds or fails makes of the phase
pub going_busy : {D : Type 0} (p : Phase) (s : StoreHeld D) (disk : D) → is_idle p ≡ false → p ≢ Sync3 → is_idle (gone_on p s disk).phase ≡ false
going_busy Idle s disk busy other = absurd (cc)
going_busy (Pages k) s disk busy other = behind_busy (nat_lt (k + 1) (length s.numbers)) s.stale_open
  where
    behind_busy : (a b : Bool) → is_idle (if a then Pages (k + 1) else if b then Close else Sync1) ≡ false
    behind_busy true b = refl
    behind_busy false true = refl
    behind_busy false false = refl
going_busy Close s disk busy other = refl
going_busy Sync1 s disk busy other = refl
going_busy Body s disk busy other = refl
going_busy Sync2 s disk busy other = refl
going_busy Gate s disk busy other = refl
going_busy Sync3 s disk busy other = absurd (other refl)

-- a phase without a commit, the last one, or one after which the commit goes on
pub kind_of : (p : Phase) → (p ≡ Idle) ⊎ ((p ≡ Sync3) ⊎ ((is_idle p ≡ false) × (p ≢ Sync3)))
kind_of Idle = inl refl
kind_of (Pages k) = inr (inr (refl, (λ is. absurd (cc))))
kind_of Close = inr (inr (refl, (λ is. absurd (cc))))
kind_of Sync1 = inr (inr (refl, (λ is. absurd (cc))))
kind_of Body = inr (inr (refl, (λ is. absurd (cc))))
kind_of Sync2 = inr (inr (refl, (λ is. absurd (cc))))
kind_of Gate = inr (inr (refl, (λ is. absurd (cc))))
kind_of Sync3 = inr (inl refl)

-- a call that fails ends no commit
pub failed_busy : (p : Phase) → is_idle (left_at p) ≡ is_idle p
failed_busy Idle = refl
failed_busy (Pages k) = refl
failed_busy Close = refl
failed_busy Sync1 = refl
failed_busy Body = refl
failed_busy Sync2 = refl
failed_busy Gate = refl
failed_busy Sync3 = refl

-- a call fails with 51 or 52
pub device_number : (p : Phase) → (number_of (error_of (call_in p)) ≡ 51) ⊎ (number_of (error_of (call_in p)) ≡ 52)
device_number Idle = inl refl
device_number (Pages k) = inl refl
device_number Close = inl refl
device_number Sync1 = inr refl
device_number Body = inl refl
device_number Sync2 = inr refl
device_number Gate = inl refl
device_number Sync3 = inr refl

-- before the last call the roots stay
pub kept_current : {D : Type 0} (p : Phase) (s : StoreHeld D) (disk : D) → p ≢ Sync3 → ((gone_on p s disk).current ≡ s.current) × ((gone_on p s disk).next ≡ s.next)
kept_current Idle s disk other = (refl, refl)
kept_current (Pages k) s disk other = (refl, refl)
kept_current Close s disk other = (refl, refl)
kept_current Sync1 s disk other = (refl, refl)
kept_current Body s disk other = (refl, refl)
kept_current Sync2 s disk other = (refl, refl)
kept_current Gate s disk other = (refl, refl)
kept_current Sync3 s disk other = absurd (other refl)

-- a call that succeeds leaves the device working
pub kept_working : {D : Type 0} (p : Phase) (s : StoreHeld D) (disk : D) → (gone_on p s disk).failed ≡ s.failed
kept_working Idle s disk = refl
kept_working (Pages k) s disk = refl
kept_working Close s disk = refl
kept_working Sync1 s disk = refl
kept_working Body s disk = refl
kept_working Sync2 s disk = refl
kept_working Gate s disk = refl
kept_working Sync3 s disk = refl

-- a commit under way is in no idle phase
pub not_idle : (p : Phase) → is_idle p ≡ false → p ≢ Idle
not_idle Idle busy is = absurd (cc)
not_idle (Pages k) busy is = absurd (cc)
not_idle Close busy is = absurd (cc)
not_idle Sync1 busy is = absurd (cc)
not_idle Body busy is = absurd (cc)
not_idle Sync2 busy is = absurd (cc)
not_idle Gate busy is = absurd (cc)
not_idle Sync3 busy is = absurd (cc)

-- and a phase that is not idle is one of a commit
pub is_busy : (p : Phase) → p ≢ Idle → is_idle p ≡ false
is_busy Idle other = absurd (other refl)
is_busy (Pages k) other = refl
is_busy Close other = refl
is_busy Sync1 other = refl
is_busy Body other = refl
is_busy Sync2 other = refl
is_busy Gate other = refl
is_busy Sync3 other = refl
