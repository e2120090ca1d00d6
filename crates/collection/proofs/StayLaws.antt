-- What cancel and collect leave alone.
use Rattle.std.specs.Prelude.{◌≡◌, ℕ, ◌+◌, ◌*◌, ◌<◌, ◌≤◌, Bool, true, false, ◌≢◌, List, length, set}
use mathlib.Core.Path.{refl}
use native.Mathlib.Omega.{arith}
use lib.ListN.{length-replicate, length-set}
use lib.Seq.{get_or-set_other}
use Rattle.pool.specs.declared.chain.View.{View}
use Rattle.state.specs.Plain.{Ehci}
use Rattle.state.specs.Slots.{slot_at, with_slot}
use Rattle.state.specs.State.{with_bell, with_owner}
use Rattle.pipe.specs.Endpoints.{endpoint_at, with_endpoint}
use Rattle.opening.specs.Heads.{head_word}
use Rattle.pipe.specs.declared.endpoints.Endpoint.{Endpoint}
use Rattle.pipe.specs.declared.endpoints.Pipe.{Pipe}
use Rattle.pipe.specs.declared.endpoints.Request.{Request}
use Rattle.controller.specs.declared.lent.Readings.{Readings}
use Rattle.pipe.proofs.EndpointLaws.{endpoint_other}
use Rattle.schedule.specs.Links.{Links, detach_of, given_link, link_word, links, periodic, predecessor_of}
use Rattle.schedule.specs.declared.links.Predecessor.{Predecessor}
use Rattle.schedule.specs.declared.links.Predecessor.TheVariants.{First, Head, Missing}
use Rattle.collection.specs.Unlinks.{Left, unlink_of, waiting_of}
use Rattle.collection.specs.Calls.{Gathered, cancel_of, collect_of, finish_of, marked}
use Rattle.collection.proofs.Splits.{cancel_split, collect_split, unlink_split}

-- ---- the rows of an unlink

-- lengths, and every word that is no head's link
pub record RowsStay (h f : List ℕ) (rows : Links) : Type 0 where
  pub heads_long : length rows.heads ≡ length h
  pub frames_long : length rows.frames ≡ length f
  pub words_stay : (place i : ℕ) → 1 ≤ i → i < 17 → head_word rows.heads place i ≡ head_word h place i

rows_same : (h f : List ℕ) → RowsStay h f (links h f)
rows_same h f = record { heads_long = refl; frames_long = refl; words_stay = λ place i l m. refl }

link_stays : (h : List ℕ) (at word place i : ℕ) → 1 ≤ i → i < 17 → head_word (set h (17 * at) word) place i ≡ head_word h place i
link_stays h at word place i l m = get_or-set_other h (17 * at) (17 * place + i) word 0 (λ e. omega (arith, l, m, e))

given_stays : (h f : List ℕ) (word : ℕ) (b : Bool) (q : Predecessor) → RowsStay h f (given_link q b h f word)
given_stays h f word true First = record { heads_long = refl; frames_long = length-replicate (length f) word; words_stay = λ place i l m. refl }
given_stays h f word false First =
    record { heads_long = length-set h 0 word; frames_long = refl; words_stay = λ place i l m. link_stays h 0 word place i l m }
given_stays h f word b (Head j) =
    record { heads_long = length-set h (17 * (j + 1)) word; frames_long = refl; words_stay = λ place i l m. link_stays h (j + 1) word place i l m }
given_stays h f word b Missing = rows_same h f

detach_stays : (s : Ehci) (h f : List ℕ) (k : ℕ) → RowsStay h f (detach_of s h f k).rows
unfolding detach_of
detach_stays s h f k = given_stays h f (link_word h k) (periodic s k) (predecessor_of s h f k)

-- ---- the state

-- all but the doorbell, the owners and the slot itself
pub record StateStays (s : Ehci) (k : ℕ) (t : Ehci) : Type 0 where
  pub settings_stay : t.settings ≡ s.settings
  pub running_stays : t.running ≡ s.running
  pub step_stays : t.step ≡ s.step
  pub waited_stays : t.waited ≡ s.waited
  pub address_stays : t.address ≡ s.address
  pub enabled_stays : t.enabled ≡ s.enabled
  pub pending_stays : t.pending ≡ s.pending
  pub masked_stays : t.masked ≡ s.masked
  pub others_stay : (j : ℕ) → j ≢ k → endpoint_at t j ≡ endpoint_at s j

state_same : (s : Ehci) (k : ℕ) → StateStays s k s
state_same s k =
    record {
      settings_stay = refl;
      running_stays = refl;
      step_stays = refl;
      waited_stays = refl;
      address_stays = refl;
      enabled_stays = refl;
      pending_stays = refl;
      masked_stays = refl;
      others_stay = λ j ne. refl;
    }

-- the endpoint of one slot is replaced
endpoint_stays : (s : Ehci) (k : ℕ) (x : Endpoint) → StateStays s k (with_endpoint s k x)
unfolding with_endpoint with_slot
endpoint_stays s k x =
    record {
      settings_stay = refl;
      running_stays = refl;
      step_stays = refl;
      waited_stays = refl;
      address_stays = refl;
      enabled_stays = refl;
      pending_stays = refl;
      masked_stays = refl;
      others_stay = λ j ne. endpoint_other s k x j ne;
    }

bell_stays : (s : Ehci) (n d u k : ℕ) (x : Endpoint) → StateStays s k (with_endpoint (with_bell s n d u) k x)
unfolding with_bell endpoint_at slot_at
bell_stays s n d u k x =
    let e = endpoint_stays (with_bell s n d u) k x in
    record {
      settings_stay = e.settings_stay;
      running_stays = e.running_stays;
      step_stays = e.step_stays;
      waited_stays = e.waited_stays;
      address_stays = e.address_stays;
      enabled_stays = e.enabled_stays;
      pending_stays = e.pending_stays;
      masked_stays = e.masked_stays;
      others_stay = λ j ne. e.others_stay j ne;
    }

owner_stays : (s : Ehci) (o : List ℕ) (k : ℕ) (x : Endpoint) → StateStays s k (with_endpoint (with_owner s o) k x)
unfolding with_owner endpoint_at slot_at
owner_stays s o k x =
    let e = endpoint_stays (with_owner s o) k x in
    record {
      settings_stay = e.settings_stay;
      running_stays = e.running_stays;
      step_stays = e.step_stays;
      waited_stays = e.waited_stays;
      address_stays = e.address_stays;
      enabled_stays = e.enabled_stays;
      pending_stays = e.pending_stays;
      masked_stays = e.masked_stays;
      others_stay = λ j ne. e.others_stay j ne;
    }

waiting_stays : (s : Ehci) (rd : Readings) (k : ℕ) (p : Pipe) (r : Request) → StateStays s k (waiting_of s rd k p r).state
unfolding waiting_of
waiting_stays s rd k p r = bell_stays s _ _ _ k _

-- no descriptor changes hands
waiting_owner : (s : Ehci) (rd : Readings) (k : ℕ) (p : Pipe) (r : Request) → (waiting_of s rd k p r).state.owner ≡ s.owner
unfolding waiting_of with_endpoint with_slot with_bell
waiting_owner s rd k p r = refl

-- ---- the calls

module _ (s : Ehci) (pool : ℕ) (h f : List ℕ) (setups : ℕ) (rd : Readings) (k id : ℕ) where
  pub unlink_state : (p : Pipe) (r : Request) → StateStays s k (unlink_of s h f rd k p r).came.state
  unlink_state p r = unlink_split s h f rd k p r (λ (l : Left). StateStays s k l.came.state) (state_same s k) (λ e. waiting_stays s rd k p r)

  pub unlink_rows : (p : Pipe) (r : Request) → RowsStay h f (unlink_of s h f rd k p r).rows
  unlink_rows p r = unlink_split s h f rd k p r (λ (l : Left). RowsStay h f l.rows) (rows_same h f) (λ e. detach_stays s h f k)

  pub unlink_owner : (p : Pipe) (r : Request) → (unlink_of s h f rd k p r).came.state.owner ≡ s.owner
  unlink_owner p r = unlink_split s h f rd k p r (λ (l : Left). l.came.state.owner ≡ s.owner) refl (λ e. waiting_owner s rd k p r)

  pub cancel_state : StateStays s k (cancel_of s pool h f setups rd k id).came.state
  cancel_state =
      cancel_split s pool h f setups rd k id (λ (l : Left). StateStays s k l.came.state) (λ x. state_same s k)
      (λ p r ok e u i. unlink_state p (marked r)) (λ p r u ok e i. endpoint_stays s k _)

  pub cancel_rows : RowsStay h f (cancel_of s pool h f setups rd k id).rows
  cancel_rows =
      cancel_split s pool h f setups rd k id (λ (l : Left). RowsStay h f l.rows) (λ x. rows_same h f)
      (λ p r ok e u i. unlink_rows p (marked r)) (λ p r u ok e i. rows_same h f)

  pub cancel_owner : (cancel_of s pool h f setups rd k id).came.state.owner ≡ s.owner
  unfolding with_endpoint with_slot
  cancel_owner =
      cancel_split s pool h f setups rd k id (λ (l : Left). l.came.state.owner ≡ s.owner) (λ x. refl)
      (λ p r ok e u i. unlink_owner p (marked r)) (λ p r u ok e i. refl)

  pub collect_state : (v : View) → StateStays s k (collect_of s pool h f setups rd v k id).came.state
  unfolding finish_of
  collect_state v =
      collect_split s pool h f setups rd k id v (λ (l : Gathered). StateStays s k l.came.state) (λ x. state_same s k) (state_same s k)
      (λ p r ok e u i n. unlink_state p r) (λ p r u ok e i t. owner_stays s _ k _)
