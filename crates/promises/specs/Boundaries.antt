-- The doorbell and the boundaries: what is promised of a run of calls from an accepted opening.
use Rattle.std.specs.Prelude.{ℕ, ◌+◌, ◌-◌, ◌%◌, ◌≤◌, ◌<◌, true, false, List, ◌∷◌, ◌++◌, ◌↔◌, ◌≡◌, ltb, length, take, Result}
use Rattle.settings.specs.declared.settings.Settings.{Settings}
use Rattle.pipe.specs.Endpoints.{flag_number}
use Rattle.common.specs.Kinds.{is_interrupt}
use Rattle.controller.specs.declared.lent.Readings.{Readings}
use Rattle.ehci.specs.declared.call.Call.{Call}
use Rattle.ehci.specs.declared.call.Call.TheVariants.{Collect}
use Rattle.ehci.specs.Replies.{answered_number}
use Rattle.promises.specs.Runs.{History, Run, Turn, turn_by}
use Rattle.promises.specs.Events.{is_collected, rings}
use Rattle.promises.specs.Bells.{Boundary, asked, bell, cancelled, collects, counted, is_answered, is_up, kind_at, linked, newest_id, none, number, parted, parting, parts_of, reads, some_turn, submits, unlinking, unlinks_of}
use Rattle.ehci.specs.declared.reply.Answered.{Answered}
use Rattle.common.specs.declared.answer.Refusal.{Refusal}

-- ---- by numbers: t is turn number n of h, so n turns are older

abbrev pub At : History → ℕ → Turn → Type 0
At h n t = (newer : History) × (older : History) × (h ≡ newer ++ t ∷ older) × (length older ≡ n)

-- between turn u and turn c there are a ring, number i (u itself, perhaps), and its answer, number j: the first turn after i that reads the advance bit
pub record RungAndAnswered (s : Settings) (h : History) (u c : ℕ) : Type 0 where
  pub i : ℕ
  pub j : ℕ
  pub ring : Turn
  pub ack : Turn
  pub in_order : (u ≤ i) × (i < j) × (j < c)
  pub ring_at : At h i ring
  pub rung : rings ring ≡ true
  pub ack_at : At h j ack
  pub read : reads s ack ≡ true
  pub first : (n : ℕ) (t : Turn) → i < n → n < j → At h n t → reads s t ≡ false

-- "(FRINDEX − start) mod 16384 ≥ 9"
abbrev pub NineOn : ℕ → ℕ → Type 0
NineOn start reading = 9 ≤ (reading % 16384 + (16384 - start % 16384)) % 16384

-- ---- of a run from an opening with the settings s

module _ (s : Settings) (run : Run) where
  -- the history of the calls cs; one more call after them; what it answers
  abbrev pub past : List Call → History
  past cs = run.past cs

  abbrev pub turn : List Call → Call → Turn
  turn cs c = turn_by (run.now cs) c

  abbrev pub answer_to : List Call → Call → Result Answered Refusal
  answer_to cs c = ((run.now cs).does c).reply.answer

  -- the collect of k's request of that id collects it: 0, 10 or 11
  abbrev pub Collectable : List Call → ℕ → ℕ → Readings → Type 0
  Collectable cs k id readings = is_collected (answer_to cs (Collect k id readings)) ≡ true

  -- k's request left the ring, and can be collected
  abbrev pub Passes : List Call → ℕ → Type 0
  Passes cs k = (unlinking s k (past cs) ≡ true) × (id : ℕ) × (readings : Readings) × Collectable cs k id readings

  -- a control or bulk request is collected when its head has left the ring, with its boundary behind it
  abbrev pub BoundaryKept : Type 0
  BoundaryKept = (cs : List Call) (k id : ℕ) (readings : Readings) → Collectable cs k id readings
      → is_interrupt (kind_at s k (past cs)) ≡ false → (unlinking s k (past cs) ≡ true) × Boundary s k (past cs)

  -- the same by numbers: turn c collects k, turn u before it unlinks k
  abbrev pub BoundaryNumbered : Type 0
  BoundaryNumbered = (cs : List Call) (k c u : ℕ) (collection unlink : Turn)
      → (at : At (past cs) c collection) → collects s k collection ≡ true → is_interrupt (kind_at s k at.1) ≡ false
      → At (past cs) u unlink → unlinks_of s k unlink ≡ true → u < c
      → RungAndAnswered s (past cs) u c

  -- an interrupt request is collected with FRINDEX 9 or more on from where its head left the frame list
  abbrev pub FramesKept : Type 0
  FramesKept = (cs : List Call) (k id : ℕ) (readings : Readings) → Collectable cs k id readings
      → is_interrupt (kind_at s k (past cs)) ≡ true
      → (parting s k (past cs) ≡ true) × NineOn (parted s k (past cs)) readings.frame

  -- 01's rules, exactly: a control or bulk request whose head left the ring is collected where the advances counted have reached its number;
  -- an interrupt request whose head left the frame list, where FRINDEX is 9 on; by its id; and nothing else is
  abbrev pub Exact : Type 0
  Exact = (cs : List Call) (k id : ℕ) (readings : Readings)
      → (is_interrupt (kind_at s k (past cs)) ≡ false
      → Collectable cs k id readings ↔ ((unlinking s k (past cs) ≡ true) × (id ≡ newest_id s k (past cs)) × (number s k (past cs) ≤ counted s (past cs))))
      × (is_interrupt (kind_at s k (past cs)) ≡ true
      → Collectable cs k id readings ↔ ((parting s k (past cs) ≡ true) × (id ≡ newest_id s k (past cs)) × NineOn (parted s k (past cs)) readings.frame))

  -- so a request that left the ring passes exactly where the advances counted have reached its number
  abbrev pub PassesExactly : Type 0
  PassesExactly = (cs : List Call) (k : ℕ)
      → Passes cs k ↔ ((unlinking s k (past cs) ≡ true) × (number s k (past cs) ≤ counted s (past cs)))

  -- a cancelled request is collected as 10
  abbrev pub CancelledCollects : Type 0
  CancelledCollects = (cs : List Call) (k id : ℕ) (readings : Readings) → cancelled s k (past cs) ≡ true
      → Collectable cs k id readings → answered_number (answer_to cs (Collect k id readings)) ≡ 10

  -- so once its unlink is answered its collect answers 10; an interrupt request's, with FRINDEX 9 on
  abbrev pub CancelledAnswered : Type 0
  CancelledAnswered = (cs : List Call) (k : ℕ) (readings : Readings) → cancelled s k (past cs) ≡ true
      → (is_interrupt (kind_at s k (past cs)) ≡ false → unlinking s k (past cs) ≡ true → number s k (past cs) ≤ counted s (past cs)
      → answered_number (answer_to cs (Collect k (newest_id s k (past cs)) readings)) ≡ 10)
      × (is_interrupt (kind_at s k (past cs)) ≡ true → parting s k (past cs) ≡ true → NineOn (parted s k (past cs)) readings.frame
      → answered_number (answer_to cs (Collect k (newest_id s k (past cs)) readings)) ≡ 10)

  -- each event has its place: only a linked slot leaves the ring or the frame list, by its kind; only a slot with no request is submitted to
  abbrev pub Orderly : Type 0
  Orderly = (cs : List Call) (c : Call) (k : ℕ)
      → (unlinks_of s k (turn cs c) ≡ true → (linked s k (past cs) ≡ true) × (is_interrupt (kind_at s k (past cs)) ≡ false))
      × (parts_of s k (turn cs c) ≡ true → (linked s k (past cs) ≡ true) × (is_interrupt (kind_at s k (past cs)) ≡ true))
      × (submits s k (turn cs c) ≡ true → (linked s k (past cs) ≡ false) × (unlinking s k (past cs) ≡ false) × (parting s k (past cs) ≡ false))

  -- a ring is out exactly while an unlink is unanswered; never more than 32 are
  abbrev pub UpExactly : Type 0
  UpExactly = (cs : List Call)
      → (counted s (past cs) ≤ asked s (past cs))
      × (asked s (past cs) ≤ counted s (past cs) + 32)
      × (is_up (bell s (past cs)) ≡ ltb (counted s (past cs)) (asked s (past cs)))

  -- a linked slot never finds 32 unlinks unanswered
  abbrev pub Uncrowded : Type 0
  Uncrowded = (cs : List Call) (k : ℕ) → linked s k (past cs) ≡ true → asked s (past cs) < counted s (past cs) + 32

  -- what the state says is what the history says: unanswered is the number of control and bulk unlinks not yet answered, at most 32; the doorbell is
  -- up exactly while there is one; a note says that an acknowledgment has read the advance bit since the ring, and that only while it is up
  abbrev pub StateSays : Type 0
  StateSays = (cs : List Call)
      → (asked s (past cs) ≡ counted s (past cs) + (run.now cs).view.unanswered)
      × ((run.now cs).view.unanswered ≤ 32)
      × ((run.now cs).view.doorbell ≡ flag_number (is_up (bell s (past cs))))
      × ((run.now cs).view.doorbell ≡ flag_number (ltb 0 (run.now cs).view.unanswered))
      × ((run.now cs).view.noted ≡ flag_number (is_answered (bell s (past cs))))
      × ((run.now cs).view.noted ≤ (run.now cs).view.doorbell)

  -- the call c, after the calls cs, unlinks k when n unlinks are unanswered: n is at most 31; and after any calls ds that do not collect k,
  -- k's request can be collected where n + 1 advances or more have been counted since, and nowhere else
  abbrev pub Waits : Type 0
  Waits = (cs ds : List Call) (c : Call) (k n : ℕ)
      → unlinks_of s k (turn cs c) ≡ true
      → asked s (past cs) ≡ counted s (past cs) + n
      → (n ≤ 31)
      × (none (collects s k) (take (length ds) (past (ds ++ c ∷ cs)))
      → Passes (ds ++ c ∷ cs) k ↔ (counted s (past cs) + (n + 1) ≤ counted s (past (ds ++ c ∷ cs))))

  -- in a stretch of calls with no ring but in its newest turn, at most one request comes to pass
  abbrev pub OnePasses : Type 0
  OnePasses = (cs ds : List Call) (c : Call) (j k : ℕ)
      → none rings (take (length ds) (past (ds ++ cs)))
      → (Passes cs j → ⊥) → (Passes cs k → ⊥)
      → Passes (c ∷ ds ++ cs) j → Passes (c ∷ ds ++ cs) k
      → j ≡ k

  -- and after a ring, the call r, a request comes to pass only if an acknowledgment since has read the advance bit
  abbrev pub OnlyAnswered : Type 0
  OnlyAnswered = (cs ds : List Call) (r c : Call) (k : ℕ)
      → rings (turn cs r) ≡ true
      → none rings (take (length ds) (past (ds ++ r ∷ cs)))
      → (Passes (r ∷ cs) k → ⊥) → Passes (c ∷ ds ++ r ∷ cs) k
      → some_turn (reads s) (take (length ds) (past (ds ++ r ∷ cs))) ≡ true

  -- one count a ring: before the first ring no request passes; and from a ring, the call r, to the next, the next ring's turn c included, at
  -- most one request comes to pass, and only if an acknowledgment between them has read the advance bit
  pub record OneCount : Type 0 where
    pub none_unrung : (cs : List Call) (k : ℕ) → none rings (past cs) → Passes cs k → ⊥
    pub one_answered : (cs ds : List Call) (r c : Call) (j k : ℕ)
        → rings (turn cs r) ≡ true
        → none rings (take (length ds) (past (ds ++ r ∷ cs)))
        → (Passes (r ∷ cs) j → ⊥) → (Passes (r ∷ cs) k → ⊥)
        → Passes (c ∷ ds ++ r ∷ cs) j → Passes (c ∷ ds ++ r ∷ cs) k
        → (j ≡ k) × (some_turn (reads s) (take (length ds) (past (ds ++ r ∷ cs))) ≡ true)
