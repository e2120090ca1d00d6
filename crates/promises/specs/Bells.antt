-- The doorbell, as the history tells it: rings, their answers, and unlinks by their numbers. No field of the state is read.
use Rattle.std.specs.Prelude.{ℕ, ◌+◌, Bool, true, false, cond, ◌&&◌, ◌||◌, [], ◌∷◌, ◌++◌, ◌≡◌, eqb, Result}
use Rattle.settings.specs.declared.settings.Settings.{Settings}
use Rattle.common.specs.declared.kinds.EndpointType.{EndpointType}
use Rattle.common.specs.declared.kinds.EndpointType.TheVariants.{Control}
use Rattle.pipe.specs.Endpoints.{flag_number}
use Rattle.ehci.specs.declared.call.Call.{Call}
use Rattle.ehci.specs.declared.call.Call.TheVariants.{StartBringUp, BringUpStep, AllocateAddress, OpenEndpoint, Close, SetAddress, SetPacketSize, Submit, Writeback, Cancel, Collect, Acknowledge, Drain, Rearm, Enable, Disable, ClearHalt}
use Rattle.promises.specs.Runs.{History, Turn}
use Rattle.promises.specs.Events.{Event, Other, Reads, Drains, Submits, Unlinks, Parts, Collects, event, is_done, rings}
use Rattle.ehci.specs.declared.reply.Answered.{Answered as Answer}
use Rattle.common.specs.declared.answer.Refusal.{Refusal}

-- ---- what a turn does

abbrev pub is_reads : Event → Bool
is_reads Other = false
is_reads Reads = true
is_reads Drains = false
is_reads (Submits k id r) = false
is_reads (Unlinks k) = false
is_reads (Parts k frame) = false
is_reads (Collects k id frame) = false

abbrev pub is_drains : Event → Bool
is_drains Other = false
is_drains Reads = false
is_drains Drains = true
is_drains (Submits k id r) = false
is_drains (Unlinks k) = false
is_drains (Parts k frame) = false
is_drains (Collects k id frame) = false

abbrev pub is_unlinks : Event → Bool
is_unlinks Other = false
is_unlinks Reads = false
is_unlinks Drains = false
is_unlinks (Submits k id r) = false
is_unlinks (Unlinks k) = true
is_unlinks (Parts k frame) = false
is_unlinks (Collects k id frame) = false

abbrev pub is_unlinks_of : ℕ → Event → Bool
is_unlinks_of k Other = false
is_unlinks_of k Reads = false
is_unlinks_of k Drains = false
is_unlinks_of k (Submits j id r) = false
is_unlinks_of k (Unlinks j) = eqb j k
is_unlinks_of k (Parts j frame) = false
is_unlinks_of k (Collects j id frame) = false

abbrev pub is_submits_of : ℕ → Event → Bool
is_submits_of k Other = false
is_submits_of k Reads = false
is_submits_of k Drains = false
is_submits_of k (Submits j id r) = eqb j k
is_submits_of k (Unlinks j) = false
is_submits_of k (Parts j frame) = false
is_submits_of k (Collects j id frame) = false

abbrev pub is_collects_of : ℕ → Event → Bool
is_collects_of k Other = false
is_collects_of k Reads = false
is_collects_of k Drains = false
is_collects_of k (Submits j id r) = false
is_collects_of k (Unlinks j) = false
is_collects_of k (Parts j frame) = false
is_collects_of k (Collects j id frame) = eqb j k

abbrev pub is_parts_of : ℕ → Event → Bool
is_parts_of k Other = false
is_parts_of k Reads = false
is_parts_of k Drains = false
is_parts_of k (Submits j id r) = false
is_parts_of k (Unlinks j) = false
is_parts_of k (Parts j frame) = eqb j k
is_parts_of k (Collects j id frame) = false

module _ (s : Settings) where
  abbrev pub reads : Turn → Bool
  reads t = is_reads (event s t)

  abbrev pub drains : Turn → Bool
  drains t = is_drains (event s t)

  abbrev pub unlinks : Turn → Bool
  unlinks t = is_unlinks (event s t)

  abbrev pub unlinks_of : ℕ → Turn → Bool
  unlinks_of k t = is_unlinks_of k (event s t)

  abbrev pub parts_of : ℕ → Turn → Bool
  parts_of k t = is_parts_of k (event s t)

  abbrev pub submits : ℕ → Turn → Bool
  submits k t = is_submits_of k (event s t)

  abbrev pub collects : ℕ → Turn → Bool
  collects k t = is_collects_of k (event s t)

  -- k's request is another from here on, or none
  abbrev pub renews : ℕ → Turn → Bool
  renews k t = submits k t || collects k t

-- no turn of the list does it; a turn of the list does it
abbrev pub none : (Turn → Bool) → History → Type 0
none p [] = Unit {0}
none p (t ∷ h) = (p t ≡ false) × none p h

abbrev pub some_turn : (Turn → Bool) → History → Bool
some_turn p [] = false
some_turn p (t ∷ h) = p t || some_turn p h

-- ---- the doorbell

-- no ring is out; a ring waits for its answer; an acknowledgment has read the advance bit since the ring, and no drain has counted it
pub data Bell : Type 0 where
  Quiet Rung Answered : Bell

abbrev pub heard : Bell → Bell
heard Quiet = Quiet
heard Rung = Answered
heard Answered = Answered

abbrev pub drained : Bell → Bell
drained Quiet = Quiet
drained Rung = Rung
drained Answered = Quiet

abbrev pub is_up : Bell → Bool
is_up Quiet = false
is_up Rung = true
is_up Answered = true

abbrev pub is_answered : Bell → Bool
is_answered Quiet = false
is_answered Rung = false
is_answered Answered = true

-- by what the turn does: rings, reads the advance bit, drains
abbrev pub next : Bool → Bool → Bool → Bell → Bell
next true r d b = Rung
next false true d b = heard b
next false false true b = drained b
next false false false b = b

unfoldable pub bell : Settings → History → Bell
bell s [] = Quiet
bell s (t ∷ past) = next (rings t) (reads s t) (drains s t) (bell s past)

-- how many advances were counted: the drains that come upon an answer
unfoldable pub counted : Settings → History → ℕ
counted s [] = 0
counted s (t ∷ past) = flag_number (drains s t && is_answered (bell s past)) + counted s past

-- "unlinks are numbered 1, 2, ..": how many were made, and the number of k's last one
unfoldable pub asked : Settings → History → ℕ
asked s [] = 0
asked s (t ∷ past) = flag_number (unlinks s t) + asked s past

unfoldable pub number : Settings → ℕ → History → ℕ
number s k [] = 0
number s k (t ∷ past) = cond (unlinks_of s k t) (asked s past + 1) (number s k past)

-- ---- a slot's request

-- its kind: that of the last one that was accepted
abbrev pub kind_after : ℕ → Event → EndpointType → EndpointType
kind_after k Other old = old
kind_after k Reads old = old
kind_after k Drains old = old
kind_after k (Submits j id r) old = cond (eqb j k) r.kind old
kind_after k (Unlinks j) old = old
kind_after k (Parts j frame) old = old
kind_after k (Collects j id frame) old = old

unfoldable pub kind_at : Settings → ℕ → History → EndpointType
kind_at s k [] = Control
kind_at s k (t ∷ past) = kind_after k (event s t) (kind_at s k past)

-- its id
abbrev pub id_after : ℕ → Event → ℕ → ℕ
id_after k Other old = old
id_after k Reads old = old
id_after k Drains old = old
id_after k (Submits j id r) old = cond (eqb j k) id old
id_after k (Unlinks j) old = old
id_after k (Parts j frame) old = old
id_after k (Collects j id frame) old = old

unfoldable pub newest_id : Settings → ℕ → History → ℕ
newest_id s k [] = 0
newest_id s k (t ∷ past) = id_after k (event s t) (newest_id s k past)

-- it was accepted, and its head has left no schedule since
unfoldable pub linked : Settings → ℕ → History → Bool
linked s k [] = false
linked s k (t ∷ past) = cond (submits s k t) true (cond (unlinks_of s k t || parts_of s k t) false (linked s k past))

-- its head left the ring, and it has not been collected since
unfoldable pub unlinking : Settings → ℕ → History → Bool
unlinking s k [] = false
unlinking s k (t ∷ past) = cond (unlinks_of s k t) true (cond (renews s k t) false (unlinking s k past))

-- the same of the frame list
unfoldable pub parting : Settings → ℕ → History → Bool
parting s k [] = false
parting s k (t ∷ past) = cond (parts_of s k t) true (cond (renews s k t) false (parting s k past))

-- the FRINDEX at which k's head last left the frame list
abbrev pub parted_at : ℕ → Event → ℕ → ℕ
parted_at k Other old = old
parted_at k Reads old = old
parted_at k Drains old = old
parted_at k (Submits j id r) old = old
parted_at k (Unlinks j) old = old
parted_at k (Parts j frame) old = cond (eqb j k) frame old
parted_at k (Collects j id frame) old = old

unfoldable pub parted : Settings → ℕ → History → ℕ
parted s k [] = 0
parted s k (t ∷ past) = parted_at k (event s t) (parted s k past)

-- a cancel of it was accepted
abbrev pub cancels_by : ℕ → Call → Result Answer Refusal → Bool
cancels_by k StartBringUp a = false
cancels_by k (BringUpStep w) a = false
cancels_by k AllocateAddress a = false
cancels_by k (OpenEndpoint x) a = false
cancels_by k (Close j) a = false
cancels_by k (SetAddress j address) a = false
cancels_by k (SetPacketSize j size) a = false
cancels_by k (Submit j r readings) a = false
cancels_by k (Writeback place token) a = false
cancels_by k (Cancel j id readings) a = eqb j k && is_done a
cancels_by k (Collect j id readings) a = false
cancels_by k (Acknowledge x) a = false
cancels_by k (Drain w) a = false
cancels_by k Rearm a = false
cancels_by k Enable a = false
cancels_by k Disable a = false
cancels_by k (ClearHalt j) a = false

unfoldable pub cancelled : Settings → ℕ → History → Bool
cancelled s k [] = false
cancelled s k (t ∷ past) =
    cond (cancels_by k t.call t.answer) true (cond (renews s k t) false (cancelled s k past))

-- ---- the boundary of a control or bulk request

-- the past of a collection of k, newest first, is since ++ ack ∷ between ++ ring ∷ before: `ring` rings; `ack` is the first
-- after it that reads the advance bit; and k's last unlink is the ringing turn itself, or before it
pub record Boundary (s : Settings) (k : ℕ) (past : History) : Type 0 where
  pub since : History
  pub ack : Turn
  pub between : History
  pub ring : Turn
  pub before : History
  pub picture : past ≡ since ++ ack ∷ between ++ ring ∷ before
  pub rung : rings ring ≡ true
  pub read : reads s ack ≡ true
  pub first : none (reads s) between
  pub unlinked_by_then : none (unlinks_of s k) (since ++ ack ∷ between)
