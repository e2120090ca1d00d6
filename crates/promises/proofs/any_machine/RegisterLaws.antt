-- Of any machine whose writes are those of the history: what it writes to USBSTS, and that it rings once or not at all.
use Prim.Native.Nat.{ℕ}
use mathlib.Core.Bool.{Bool, true, false, ◌&&◌, not, cond, true≢false}
use mathlib.Core.List.{List, [], ◌∷◌}
use mathlib.Core.Path.{◌≡◌, refl, sym, ap, subst, ◌∙◌}
use borrow.Author.Tests.{eqb-true, ltb-true}
use lib.Dec.{eqb}
use Rattle.register.specs.Bits.{any_of, bit, with_bits, without_bits}
use Rattle.register.specs.Writes.{write_of}
use Rattle.register.specs.declared.writes.Write.{Write}
use Rattle.settings.specs.declared.settings.Settings.{Settings}
use Rattle.pipe.specs.Endpoints.{flag_number}
use Rattle.schedule.specs.Bell.{command_word, ring_word}
use Rattle.schedule.proofs.BellLaws.{command_clear, ring_set}
use Rattle.ehci.specs.declared.call.Call.{Call}
use Rattle.ehci.specs.declared.call.Call.TheVariants.{StartBringUp, BringUpStep, AllocateAddress, OpenEndpoint, Close, SetAddress, SetPacketSize, Submit, Writeback, Cancel, Collect, Acknowledge, Drain, Rearm, Enable, Disable, ClearHalt}
use Rattle.ehci.specs.declared.call.InterruptReadings.{InterruptReadings}
use Rattle.ehci.specs.Replies.{answered_values}
use Rattle.promises.specs.Runs.{EveryRun, Form, History, Machine, Moment, Turn, history_of, moment, turn_by, world_of}
use Rattle.promises.specs.Events.{Event, Other, Reads, Drains, Submits, Unlinks, Parts, Collects, event, first_in, is_done}
use Rattle.promises.specs.Bells.{Answered, Bell, Quiet, Rung, asked, bell, counted, is_answered, is_drains, is_unlinks}
use Rattle.promises.specs.Boundaries.{UpExactly}
use Rattle.promises.specs.Registers.{Access, RingsInTurn, StatusAcknowledged, WritesExactly, access_of, acknowledge_writes, acknowledged, differ, flag_in, is_accepted, is_left, masked_by, masked_in, plainly, read_in, ring, ring_count, ringing, rings_by, set_up, status_for, step_writes, usbintr, values_at, writes_for}
use Rattle.promises.proofs.any_machine.Numbers.{if_none}

-- ---- USBSTS

-- nothing of it, whether the call writes or not
none_at : (b : Bool) (ws : List Write) → values_at 4 ws ≡ [] → values_at 4 (cond b ws []) ≡ []
none_at true ws e = e
none_at false ws e = refl

module _ (s : Settings) (v : ℕ) where
  set_up_status : (b : Bool) → values_at 4 (cond b [] (set_up s)) ≡ cond (true && not b) (0x3F ∷ []) []
  set_up_status true = refl
  set_up_status false = refl

  step_status : (n : ℕ) → values_at 4 (step_writes s n v) ≡ cond (eqb n 4 && not (any_of v 2)) (0x3F ∷ []) []
  step_status n = by (eqb n 1) refl (eqb n 3) refl (eqb n 4) refl (eqb n 5) refl
    where
      Says : ℕ → Type 0
      Says k = values_at 4 (step_writes s k v) ≡ cond (eqb k 4 && not (any_of v 2)) (0x3F ∷ []) []

      at : (k : ℕ) → eqb n k ≡ true → Says k → Says n
      at k e x = subst Says (sym (eqb-true n k e)) x

      by : (a : Bool) → eqb n 1 ≡ a → (b : Bool) → eqb n 3 ≡ b → (c : Bool) → eqb n 4 ≡ c → (d : Bool) → eqb n 5 ≡ d → Says n
      by true p b q c r d t = at 1 p refl
      by false p true q c r d t = at 3 q refl
      by false p false q true r d t = at 4 r (set_up_status (any_of v 2))
      by false p false q false r true t = at 5 t refl
      by false p false q false r false t = rw (p, q, r, t)

  both_conds : (a b : Bool) (n : ℕ) → cond a (cond b (n ∷ []) []) [] ≡ cond (a && b) (n ∷ []) []
  both_conds true b n = refl
  both_conds false b n = refl

at_cond : (b : Bool) (ws : List Write) → values_at 4 (cond b ws []) ≡ cond b (values_at 4 ws) []
at_cond true ws = refl
at_cond false ws = refl

acknowledge_status : (x : InterruptReadings) (p : ℕ) → values_at 4 (acknowledge_writes x p) ≡ cond (not (eqb p 0)) (p ∷ []) []
acknowledge_status x p = by (eqb p 0) (differ x.flag x.again)
  where
    by : (z d : Bool)
        → values_at 4 (cond z [] (write_of 4 p ∷ write_of 8 (masked_by x.flag x.interrupts p) ∷ cond d (usbintr (masked_by x.again x.interrupts p)) []))
        ≡ cond (not z) (p ∷ []) []
    by true d = refl
    by false true = refl
    by false false = refl

module _ (s : Settings) (h : History) (t : Turn) where
  status_by : (x : Access) → values_at 4 (writes_for s h t x) ≡ status_for h t x
  status_by Access.None = refl
  status_by Access.Starts = none_at (is_accepted t) (usbintr 0) refl
  status_by (Access.Steps v) =
      at_cond (is_accepted t) (step_writes s (read_in h) v)
      ∙ ap (λ (l : List ℕ). cond (is_accepted t) l []) (step_status s v (read_in h))
      ∙ both_conds s v (is_accepted t) (eqb (read_in h) 4 && not (any_of v 2)) 0x3F
  status_by (Access.Submits v) = none_at (is_accepted t) (plainly (with_bits v 0x31)) refl
  status_by (Access.Leaves v) = none_at (rings_by s h t) (ring v) refl
  status_by (Access.Acknowledges x) =
      at_cond (is_accepted t) (acknowledge_writes x (acknowledged x))
      ∙ ap (λ (l : List ℕ). cond (is_accepted t) l []) (acknowledge_status x (acknowledged x))
      ∙ both_conds s 0 (is_accepted t) (not (eqb (acknowledged x) 0)) (acknowledged x)
  status_by (Access.Drains v) = none_at (rings_by s h t) (ring v) refl
  status_by Access.Rearms = none_at (is_accepted t && not (eqb (masked_in h) 0)) (usbintr (cond (flag_in h) 0x27 0)) refl
  status_by Access.Enables = none_at (is_accepted t) (usbintr 0x27) refl
  status_by Access.Disables = none_at (is_accepted t) (usbintr 0) refl

pub status_written : {f : Form} (m : Machine f) → EveryRun WritesExactly m → EveryRun StatusAcknowledged m
status_written m exact s w o cs c =
    let h = history_of m w cs in
    let t = turn_by (moment m (world_of m w cs)) c in
    ap (values_at 4) (exact s w o cs c) ∙ status_by s h t (access_of c)

-- ---- rings

-- a call that writes no ring
no_ring : (b : Bool) (ws : List Write) → ring_count ws ≡ 0 → ring_count (cond b ws []) ≡ 0
no_ring true ws e = e
no_ring false ws e = refl

plain_none : (v : ℕ) → ring_count (plainly v) ≡ 0
unfolding command_word
plain_none v = rw (command_clear v)

step_none : (s : Settings) (n v : ℕ) → ring_count (step_writes s n v) ≡ 0
step_none s n v = by (eqb n 1) (eqb n 3) (eqb n 4) (eqb n 5) (any_of v 2)
  where
    by : (a b c d e : Bool)
        → ring_count (cond a (plainly (without_bits v 0x31)) (cond b (plainly (with_bits v 2)) (cond c (cond e [] (set_up s)) (cond d (plainly (with_bits v 0x31)) [])))) ≡ 0
    by true b c d e = plain_none (without_bits v 0x31)
    by false true c d e = plain_none (with_bits v 2)
    by false false true d true = refl
    by false false true d false = refl
    by false false false true e = plain_none (with_bits v 0x31)
    by false false false false e = refl

acknowledge_none : (x : InterruptReadings) (p : ℕ) → ring_count (acknowledge_writes x p) ≡ 0
acknowledge_none x p = by (eqb p 0) (differ x.flag x.again)
  where
    by : (z d : Bool)
        → ring_count (cond z [] (write_of 4 p ∷ write_of 8 (masked_by x.flag x.interrupts p) ∷ cond d (usbintr (masked_by x.again x.interrupts p)) [])) ≡ 0
    by true d = refl
    by false true = refl
    by false false = refl

ring_one : (b : Bool) (v : ℕ) → ring_count (cond b (ring v) []) ≡ flag_number b
unfolding ring_word
ring_one true v = rw (ring_set v)
ring_one false v = refl

-- no unlink, and no drain that counts
pub none_rings : (e : Event) (b : Bell) (remain : Bool) → is_unlinks e ≡ false → (is_drains e && is_answered b) ≡ false → ringing e b remain ≡ false
none_rings Other b remain u d = refl
none_rings Reads b remain u d = refl
none_rings Drains Quiet remain u d = refl
none_rings Drains Rung remain u d = refl
none_rings Drains Answered remain u d = absurd (true≢false d)
none_rings (Submits k id r) b remain u d = refl
none_rings (Unlinks k) b remain u d = absurd (true≢false u)
none_rings (Parts k frame) b remain u d = refl
none_rings (Collects k id frame) b remain u d = refl

module _ (s : Settings) (h : History) (w : Moment) where
  quiet : (c : Call) → is_unlinks (event s (turn_by w c)) ≡ false → is_drains (event s (turn_by w c)) ≡ false → rings_by s h (turn_by w c) ≡ false
  quiet c u d =
      none_rings (event s (turn_by w c)) (bell s h) (is_left s h) u (ap (λ (b : Bool). (b && is_answered (bell s h))) d)

  module _ (b : Bool) (x y : Event) where
    pick_none : is_unlinks x ≡ false → is_drains x ≡ false → is_unlinks y ≡ false → is_drains y ≡ false
        → (is_unlinks (cond b x y) ≡ false) × (is_drains (cond b x y) ≡ false)
    pick_none p q r z = (if_none is_unlinks b x y p r, if_none is_drains b x y q z)

  -- nor of any that neither of two events is
  pub never_rings : (c : Call) (b : Bool) (x y : Event) → event s (turn_by w c) ≡ cond b x y → is_unlinks x ≡ false → is_drains x ≡ false → is_unlinks y ≡ false → is_drains y ≡ false
      → rings_by s h (turn_by w c) ≡ false
  never_rings c b x y is p q r z =
      let e = pick_none b x y p q r z in
      quiet c (ap is_unlinks is ∙ e.0) (ap is_drains is ∙ e.1)

  pub count_by : (c : Call) → ring_count (writes_for s h (turn_by w c) (access_of c)) ≡ flag_number (rings_by s h (turn_by w c))
  count_by StartBringUp = no_ring (is_accepted (turn_by w StartBringUp)) (usbintr 0) refl
  count_by (BringUpStep v) = no_ring (is_accepted (turn_by w (BringUpStep v))) (step_writes s (read_in h) v) (step_none s (read_in h) v)
  count_by AllocateAddress = refl
  count_by (OpenEndpoint x) = refl
  count_by (Close k) = refl
  count_by (SetAddress k a) = refl
  count_by (SetPacketSize k size) = refl
  count_by (Submit k r readings) =
      let c = Submit k r readings in
      let a = (w.does c).reply.answer in
      let e = pick_none (is_done a) (Submits k (first_in (answered_values a)) r) Other refl refl refl refl in
      no_ring (is_accepted (turn_by w c)) (plainly (with_bits readings.command 0x31)) (plain_none (with_bits readings.command 0x31))
      ∙ sym (ap flag_number (quiet c e.0 e.1))
  count_by (Writeback place token) = refl
  count_by (Cancel k id readings) = ring_one (rings_by s h (turn_by w (Cancel k id readings))) readings.command
  count_by (Collect k id readings) = ring_one (rings_by s h (turn_by w (Collect k id readings))) readings.command
  count_by (Acknowledge x) =
      let c = Acknowledge x in
      let e = pick_none (is_done (w.does c).reply.answer && eqb (bit x.status 5) 1) Reads Other refl refl refl refl in
      no_ring (is_accepted (turn_by w c)) (acknowledge_writes x (acknowledged x)) (acknowledge_none x (acknowledged x))
      ∙ sym (ap flag_number (quiet c e.0 e.1))
  count_by (Drain v) = ring_one (rings_by s h (turn_by w (Drain v))) v
  count_by Rearm = no_ring (is_accepted (turn_by w Rearm) && not (eqb (masked_in h) 0)) (usbintr (cond (flag_in h) 0x27 0)) refl
  count_by Enable = no_ring (is_accepted (turn_by w Enable)) (usbintr 0x27) refl
  count_by Disable = no_ring (is_accepted (turn_by w Disable)) (usbintr 0) refl
  count_by (ClearHalt k) = refl

pub ring_once : {f : Form} (m : Machine f) → EveryRun WritesExactly m → EveryRun UpExactly m → EveryRun RingsInTurn m
unfolding history_of world_of bell
ring_once m exact up s w o cs c =
    let now = world_of m w cs in
    let h = history_of m w cs in
    record {
      once = ap ring_count (exact s w o cs c) ∙ count_by s h (moment m now) c;
      owed = λ r. ltb-true (counted s (turn_by (moment m now) c ∷ h)) (asked s (turn_by (moment m now) c ∷ h)) (sym (up s w o (c ∷ cs)).2 ∙ rw r);
    }
