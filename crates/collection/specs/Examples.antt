-- Cancel and collect on one controller: the states that proofs/Examples.antt runs the definitions on.
use Rattle.std.specs.Prelude.{ℕ, ◌*◌, List, [], ◌∷◌, ◌++◌, replicate, slice_index}
use Rattle.descriptor.specs.declared.qtd.QueueTransferDescriptor.{QueueTransferDescriptor}
use Rattle.pool.specs.Chains.{Seen, blank, read_of, seen_from, view_of, with_token}
use Rattle.pool.specs.Places.{list_of}
use Rattle.pool.specs.Plain.{Ask}
use Rattle.pool.specs.declared.chain.Standing.{Standing}
use Rattle.pool.specs.declared.chain.View.{View}
use Rattle.settings.specs.declared.settings.Settings.{Settings}
use Rattle.state.specs.Plain.{Ehci}
use Rattle.common.specs.Answers.{number_of}
use Rattle.controller.specs.declared.lent.Readings.{Readings}
use Rattle.collection.specs.Answers.{collected_number, collected_value}
use Rattle.collection.specs.Asks.{ask_of}
use Rattle.collection.specs.Unlinks.{Left}
use Rattle.collection.specs.Calls.{Gathered, cancel_of, collect_of}

abbrev pub few_settings : ℕ → Settings
few_settings limit =
    record {
      descriptors = 4;
      endpoints = 2;
      ports = 1;
      limit = limit;
      wait = 1;
      pool = 0x100000;
      heads = 0x200000;
      frames = 0x300000;
      setups = 0x400000;
    }

-- slot 0 has packets of 512 bytes and request 1, In, in places 0 and 1; the limit, the request's length, phase, kind, cancelled, boundary and
-- unanswered unlinks as given
abbrev pub request_under : ℕ → ℕ → ℕ → ℕ → ℕ → ℕ → ℕ → Ehci
request_under limit length phase kind cancel boundary unanswered =
    record {
      settings = few_settings limit;
      running = 1;
      step = 0;
      waited = 0;
      address = 1;
      enabled = 1;
      pending = 0;
      masked = 0;
      noted = 0;
      doorbell = 0;
      unanswered = unanswered;
      owner = 1 ∷ 1 ∷ replicate 254 0;
      phases = phase ∷ replicate 31 0;
      kinds = kind ∷ replicate 31 0;
      sizes = 512 ∷ replicate 31 0;
      toggles = replicate 32 0;
      ids = 2 ∷ replicate 31 1;
      requests = 1 ∷ replicate 31 0;
      directions = 1 ∷ replicate 31 0;
      lengths = length ∷ replicate 31 0;
      cancels = cancel ∷ replicate 31 0;
      boundaries = boundary ∷ replicate 31 0;
    }

-- 20000 bytes
abbrev pub one_request : ℕ → ℕ → ℕ → ℕ → ℕ → Ehci
one_request phase kind cancel boundary unanswered = request_under 16384 20000 phase kind cancel boundary unanswered

-- bulk, 1000 bytes under a limit of 1000, its boundary passed: the limit is no multiple of the packet
abbrev pub cut_request : Ehci
cut_request = request_under 1000 1000 3 2 0 0 0

-- the ring head leads to slot 0's head, and that back to the ring head
abbrev pub ring_of_one : List ℕ
ring_of_one = 0x200082 ∷ (replicate 16 0 ++ (0x200002 ∷ replicate 33 7))

abbrev pub no_frames : List ℕ
no_frames = replicate 1024 1

abbrev pub reading : ℕ → ℕ → Readings
reading frame overlay = record { command = 0x31; frame = frame; overlay = overlay }

abbrev pub readings : ℕ → Readings
readings frame = reading frame 0

abbrev pub seen : Standing → ℕ → ℕ → View
seen stage failed moved = record { stage = stage; failed = failed; moved = moved; retried = 0 }

abbrev pub cancelled : Ehci → ℕ → ℕ → Left
cancelled s slot id = cancel_of s 5 ring_of_one no_frames 16 (readings 0) slot id

abbrev pub collected : Ehci → ℕ → View → ℕ → ℕ → Gathered
collected s frame view slot id = collect_of s 5 ring_of_one no_frames 16 (readings frame) view slot id

-- ---- what its two descriptors say, inactive and without error, with so many bytes left in each

abbrev pub tokens_left : ℕ → ℕ → List QueueTransferDescriptor
tokens_left a b = with_token blank (0x1_0000 * a) ∷ with_token blank (0x1_0000 * b) ∷ []

abbrev pub seen_with : Ask → ℕ → ℕ → List Seen
seen_with k a b = read_of k.stops (seen_from k.kind k.length k.limit 0 (list_of k.places) (tokens_left a b))

abbrev pub view_left : Ehci → ℕ → ℕ → View
view_left s a b = view_of (seen_with (ask_of s 5 0) a b)

-- the slot's phase, its mark and boundary; unanswered; the owner of place 0
abbrev pub state_row : Ehci → List ℕ
state_row s = slice_index s.phases 0 ∷ slice_index s.cancels 0 ∷ slice_index s.boundaries 0 ∷ s.unanswered ∷ slice_index s.owner 0 ∷ []

abbrev pub cancel_row : Left → List ℕ
cancel_row l = number_of l.came.answer ∷ l.came.writes.count ∷ slice_index l.rows.heads 0 ∷ state_row l.came.state

abbrev pub collect_row : Gathered → List ℕ
collect_row g =
    collected_number g.came.answer ∷ collected_value g.came.answer ∷ g.came.writes.count
    ∷ slice_index g.rows.heads 0 ∷ slice_index g.rows.heads 21 ∷ state_row g.came.state

-- slot 0's toggle after a collect that is given that token of the overlay
abbrev pub toggle_row : Ehci → ℕ → View → ℕ → ℕ
toggle_row s overlay view id = slice_index (collect_of s 5 ring_of_one no_frames 16 (reading 0 overlay) view 0 id).came.state.toggles 0
