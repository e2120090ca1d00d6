-- Order 4: no packet but a request's last is short, so nothing ends a transfer early (USB 5.8.3).
use Rattle.std.specs.Prelude.{ℕ, ◌-◌, ◌*◌, ◌/◌, ◌≤◌, List, [], ◌∷◌, ◌++◌, map, ◌≢◌, ◌≡◌, replicate}
use Rattle.token.specs.EhciQtd.{total_bytes}
use Rattle.common.specs.declared.kinds.EndpointType.TheVariants.{Control}
use Rattle.settings.specs.declared.settings.Settings.{Settings}
use Rattle.controller.specs.declared.lent.Readings.{Readings}
use Rattle.request.specs.declared.judge.TransferRequest.{TransferRequest}
use Rattle.ehci.specs.declared.call.Call.TheVariants.{Submit}
use Rattle.promises.specs.Runs.{Always, Promise, Rows, rows_of}
use Rattle.promises.specs.Coverage.{records_met}
use Rattle.promises.specs.Rooms.{number_at}
use Rattle.promises.specs.Slots.{Open, Shut, SlotKind, limit_in, size_in, slot_in}
use Rattle.descriptor.specs.EhciQueueHead.{maximum_packet_length}
use Rattle.promises.specs.Submissions.{word_at}

-- ---- USB 5.8.3: so many bytes are so many packets of the size as come before the last byte, and a last one with the rest

abbrev pub packets_of : ℕ → ℕ → List ℕ
packets_of size bytes = replicate ((bytes - 1) / size) size ++ ((bytes - (bytes - 1) / size * size) ∷ [])

-- one descriptor's after the other's
abbrev pub on_wire : ℕ → List ℕ → List ℕ
on_wire size [] = []
on_wire size (bytes ∷ more) = packets_of size bytes ++ on_wire size more

-- ---- the limit

-- a multiple of the packet size, of one packet at least, and no larger one is at or below C
pub record Largest (size limit n : ℕ) : Type 0 where
  pub times : ℕ
  pub multiple : n ≡ times * size
  pub some : 1 ≤ times
  pub not_above : n ≤ limit
  pub largest : (m : ℕ) → m * size ≤ limit → m * size ≤ n

abbrev pub EachButLast : (ℕ → Type 0) → List ℕ → Type 0
EachButLast P [] = Unit {0}
EachButLast P (n ∷ []) = Unit {0}
EachButLast P (n ∷ m ∷ ns) = P n × EachButLast P (m ∷ ns)

-- ---- EHCI 3.6.2: the controller cuts packets by the size that it reads in a slot's head, an open one's own

abbrev pub Sized : SlotKind → ℕ → Type 0
Sized Shut characteristics = Unit {0}
Sized (Open kind size) characteristics = maximum_packet_length characteristics ≡ size

-- ---- of any machine

abbrev pub HeadsSized : Promise
HeadsSized = Always (λ s h w. (k : ℕ) → Sized (slot_in k h) (word_at w.rows k 1))

-- the bytes of each descriptor that slot k's overlay leads through
abbrev pub bytes_met : Settings → Rows → ℕ → List ℕ
bytes_met s rows k = map (λ d. total_bytes d.token) (records_met s rows k)

-- at the exit of an accepted submit: each descriptor but the last has the largest whole number of packets that C has room for, and the packets are
-- those of the whole buffer
pub record Whole (s : Settings) (size limit length : ℕ) (bytes : List ℕ) : Type 0 where
  pub working : Largest size s.limit limit
  pub but_last : EachButLast (λ n. n ≡ limit) bytes
  pub packets : on_wire size bytes ≡ packets_of size length

abbrev pub PacketsWhole : Promise
PacketsWhole =
    Always
    (λ s h w. (k : ℕ) (t : TransferRequest) (readings : Readings) → number_at w (Submit k t readings) ≡ 0 → t.kind ≢ Control
    → Whole s (size_in k h) (limit_in s h k t) t.length (bytes_met s (rows_of (w.does (Submit k t readings))) k))
