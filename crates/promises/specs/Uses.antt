-- The requests that are accepted and not collected, and the heads in each schedule, as the history tells them.
use Rattle.std.specs.Prelude.{ℕ, ◌+◌, Bool, true, false, not, cond, ◌&&◌, List, [], ◌∷◌, eqb, ltb, length}
use Rattle.token.specs.Chunks.{need_of, working_limit}
use Rattle.common.specs.Kinds.{is_control, is_interrupt}
use Rattle.common.specs.declared.kinds.Direction.{Direction}
use Rattle.common.specs.declared.kinds.Direction.TheVariants.{Out, In}
use Rattle.settings.specs.declared.settings.Settings.{Settings}
use Rattle.request.specs.declared.judge.TransferRequest.{TransferRequest}
use Rattle.promises.specs.Runs.{History, Turn}
use Rattle.promises.specs.Slots.{size_in}
use Rattle.promises.specs.Walks.{chain_walk}
use Rattle.promises.specs.Events.{Event, Other, Reads, Drains, Submits, Unlinks, Parts, Collects, event}

-- ---- uncollected requests, newest first

-- a request's places are those that its overlay leads to at its submit's exit, its packet size is the one that its slot had then
pub record Use : Type 0 where
  pub slot : ℕ
  pub id : ℕ
  pub request : TransferRequest
  pub size : ℕ
  pub places : List ℕ

-- "bulk and interrupt In requests of more than one descriptor (control stays)"
abbrev pub comes_in : Direction → Bool
comes_in Out = false
comes_in In = true

abbrev pub may_end_short : Use → Bool
may_end_short u = comes_in u.request.direction && (not (is_control u.request.kind) && ltb 1 (length u.places))

abbrev pub is_of : ℕ → ℕ → Use → Bool
is_of k id u = eqb u.slot k && eqb u.id id

abbrev pub without : ℕ → ℕ → List Use → List Use
without k id [] = []
without k id (u ∷ us) = cond (is_of k id u) (without k id us) (u ∷ without k id us)

abbrev pub uses_after : Settings → Turn → History → Event → List Use → List Use
uses_after s t past Other us = us
uses_after s t past Reads us = us
uses_after s t past Drains us = us
uses_after s t past (Submits k id r) us =
    record { slot = k; id = id; request = r; size = size_in k past; places = chain_walk s t.after k } ∷ us
uses_after s t past (Unlinks k) us = us
uses_after s t past (Parts k frame) us = us
uses_after s t past (Collects k id frame) us = without k id us

unfoldable pub uses : Settings → History → List Use
uses s [] = []
uses s (t ∷ past) = uses_after s t past (event s t) (uses s past)

-- "need, chunks and demand 3 read the working limit"
abbrev pub limit_of_use : Settings → Use → ℕ
limit_of_use s u = working_limit u.request.kind s.limit u.size

-- "Need", by kind and length
abbrev pub need_of_use : Settings → Use → ℕ
need_of_use s u = need_of u.request.kind u.request.length (limit_of_use s u)

abbrev pub needs : Settings → List Use → ℕ
needs s [] = 0
needs s (u ∷ us) = need_of_use s u + needs s us

-- ---- the linked slots of each schedule, newest first

abbrev pub remove : ℕ → List ℕ → List ℕ
remove k [] = []
remove k (j ∷ ks) = cond (eqb j k) (remove k ks) (j ∷ remove k ks)

abbrev pub ring_after : Event → List ℕ → List ℕ
ring_after Other ks = ks
ring_after Reads ks = ks
ring_after Drains ks = ks
ring_after (Submits k id r) ks = cond (is_interrupt r.kind) ks (k ∷ ks)
ring_after (Unlinks k) ks = remove k ks
ring_after (Parts k frame) ks = ks
ring_after (Collects k id frame) ks = ks

unfoldable pub ring_slots : Settings → History → List ℕ
ring_slots s [] = []
ring_slots s (t ∷ past) = ring_after (event s t) (ring_slots s past)

abbrev pub frames_after : Event → List ℕ → List ℕ
frames_after Other ks = ks
frames_after Reads ks = ks
frames_after Drains ks = ks
frames_after (Submits k id r) ks = cond (is_interrupt r.kind) (k ∷ ks) ks
frames_after (Unlinks k) ks = ks
frames_after (Parts k frame) ks = remove k ks
frames_after (Collects k id frame) ks = ks

unfoldable pub frame_slots : Settings → History → List ℕ
frame_slots s [] = []
frame_slots s (t ∷ past) = frames_after (event s t) (frame_slots s past)
