-- The plain state of a controller: numbers, and a list for each field of the 32 slots. The definitions of the calls speak of it; the code keeps
-- words that stand for it.
use Rattle.std.specs.Prelude.{ℕ, List}
use Rattle.settings.specs.declared.settings.Settings.{Settings}

pub record Ehci : Type 0 where
  pub settings : Settings
  pub running : ℕ
  -- bring-up: the step that a reading is awaited for, 0 where none is begun, and the reads of its wait
  pub step : ℕ
  pub waited : ℕ
  -- the address that is allotted next; 128 after the last
  pub address : ℕ
  -- interrupts: the flag, what is acknowledged and not drained, what is masked
  pub enabled : ℕ
  pub pending : ℕ
  pub masked : ℕ
  -- the doorbell: an advance noted since the ring, whether it is up, and how many unlinks are unanswered
  pub noted : ℕ
  pub doorbell : ℕ
  pub unanswered : ℕ
  -- for each descriptor 0 where it is free, else the number of its request's slot plus 1
  pub owner : List ℕ
  pub phases : List ℕ
  pub kinds : List ℕ
  -- the packet sizes, 0 where a slot is closed
  pub sizes : List ℕ
  -- the data toggles of their next packets
  pub toggles : List ℕ
  -- the id that the slot's next request gets
  pub ids : List ℕ
  -- of the slot's request, 0 where it has none
  pub requests : List ℕ
  pub directions : List ℕ
  pub lengths : List ℕ
  pub cancels : List ℕ
  -- where it is unlinking: the advances still to come, or the FRINDEX at which it began
  pub boundaries : List ℕ
