-- The ranges of a state: what every public call asks first. Document 01's ranges of what is opened, and for the rest
-- bounds within which the calls' arithmetic stays; not every state within them is one that calls leave.
use Rattle.std.specs.Prelude.{ℕ, zero, suc, max, Bool, true, ◌&&◌, List, [], ◌∷◌, eqb, leb, ltb, drop, take}
use Rattle.register.specs.Bits.{without_bits}
use Rattle.slot.specs.Ranges.{flag, slot_good}
use Rattle.state.specs.Plain.{Ehci}
use Rattle.settings.specs.Settings.{settings_good}
use Rattle.state.specs.Slots.{slot_at}
use Rattle.common.specs.Tests.{every, within}

-- no bit but those of a mask
abbrev pub only : ℕ → ℕ → Bool
only w mask = eqb (without_bits w mask) 0

-- n slots, from slot k on
unfoldable pub slots_good : ℕ → ℕ → Ehci → Bool
slots_good k zero s = true
slots_good k (suc n) s = slot_good s.settings.endpoints s.settings.limit k s.unanswered (slot_at s k) && slots_good (suc k) n s

unfoldable pub largest : List ℕ → ℕ
largest [] = 0
largest (x ∷ xs) = max x (largest xs)

-- an owner is a slot's number plus 1, at most E; from D on there is none
unfoldable pub owner_good : List ℕ → ℕ → ℕ → Bool
owner_good owner D E = leb (largest (take D owner)) E && leb (largest (drop D owner)) 0

-- bring-up and the next address
unfoldable pub machine_good : Ehci → Bool
machine_good s =
    every
    (flag s.running ∷ leb s.step 6 ∷ ltb s.waited s.settings.wait ∷ within s.address 1 128 ∷ [])

-- the interrupt registers: what is pending is within 0x37, what is masked within 0x27
unfoldable pub interrupt_good : Ehci → Bool
interrupt_good s = every (flag s.enabled ∷ only s.pending 0x37 ∷ only s.masked 0x27 ∷ [])

-- a note only with the doorbell up, which is up only while an unlink is unanswered; at most 32 are
unfoldable pub doorbell_good : Ehci → Bool
doorbell_good s =
    every
    (flag s.doorbell ∷ leb s.noted s.doorbell ∷ within s.unanswered s.doorbell 32 ∷ [])

unfoldable pub rest_good : Ehci → Bool
rest_good s =
    every
    (machine_good s
    ∷ interrupt_good s
    ∷ doorbell_good s
    ∷ owner_good s.owner s.settings.descriptors s.settings.endpoints
    ∷ slots_good 0 32 s
    ∷ [])

unfoldable pub in_ranges : Ehci → Bool
in_ranges s = settings_good s.settings && rest_good s
