-- A collection answers what is due to its request: 10, 11 or 0, from the history, the request and the tokens of its places.
use Prim.Native.Nat.{ℕ, suc, ◌+◌, ◌-◌, ◌*◌, ◌≤◌, min}
use mathlib.Core.Path.{◌≡◌, refl, sym, ap, ap₂, subst, ◌∙◌}
use mathlib.Core.Bool.{Bool, true, false, cond, not, ◌&&◌, false≢true}
use mathlib.Core.List.{List, [], ◌∷◌, map}
use native.Mathlib.Decide.{ℕ_discrete as dec_eq}
use native.Mathlib.Nat.{suc-mul}
use native.Mathlib.Omega.{arith}
use borrow.Author.Tests.{eq-eqb, le-leb, lt-ltb, ne_eqb, eqb-true}
use lib.Dec.{eqb}
use lib.ListN.{get_or, length, take}
use Rattle.token.specs.EhciQtd.{total_bytes, transaction_error}
use Rattle.token.specs.Chunks.{if_empty, need_of, working_limit}
use Rattle.common.specs.Kinds.{is_control}
use Rattle.common.specs.declared.kinds.Direction.{Direction}
use Rattle.common.specs.declared.kinds.Direction.TheVariants.{Out, In}
use Rattle.common.specs.declared.kinds.EndpointType.{EndpointType}
use Rattle.common.specs.declared.kinds.EndpointType.TheVariants.{Control, Isochronous, Bulk, Interrupt}
use Rattle.descriptor.specs.declared.qtd.QueueTransferDescriptor.{QueueTransferDescriptor}
use Rattle.pool.specs.Chains.{Seen, blank, first_error, is_erring, is_retried, is_short, length_of, number_if, read_of, retried_of, seen_from, view_of}
use Rattle.pool.specs.Places.{places_from}
use Rattle.pool.specs.Transfers.{ends_short, requested_at}
use Rattle.pool.specs.Plain.{Ask}
use Rattle.pool.specs.declared.chain.View.{View}
use Rattle.pool.proofs.PlaceLaws.{list_packed}
use Rattle.settings.specs.declared.settings.Settings.{Settings}
use Rattle.settings.specs.Settings.{pool_length}
use Rattle.state.specs.Plain.{Ehci}
use Rattle.controller.specs.Readers.{has_endpoint}
use Rattle.controller.specs.declared.lent.Readings.{Readings}
use Rattle.controller.proofs.ReaderLaws.{open_below}
use Rattle.collection.specs.Answers.{outcome_of}
use Rattle.collection.specs.Asks.{ask_of, askable, request_ask}
use Rattle.ehci.specs.declared.call.Call.TheVariants.{Collect}
use Rattle.ehci.specs.Decides.{asks_of}
use Rattle.ehci.specs.Door.{seen_by}
use Rattle.ehci.specs.Replies.{answered_number, answered_values, collected_answer}
use Rattle.promises.specs.Runs.{EveryRun, History, World, core, history_of, moment, world_of}
use Rattle.promises.specs.Uses.{Use, may_end_short, uses, limit_of_use}
use Rattle.promises.specs.Bells.{cancelled}
use Rattle.promises.specs.Rooms.{Every}
use Rattle.promises.specs.Coverage.{data_of}
use Rattle.promises.specs.Collections.{Answers, CollectsDue, Due, due_of, due_to, erring, moved, piece_of, read_to, records_at, retries, those, tokens_of}
use Rattle.promises.proofs.any_machine.ShortRule.{by_count}
use Rattle.promises.proofs.effects.EffectDoor.{seen}
use Rattle.promises.proofs.invariants.Reached.{reached}
use Rattle.promises.proofs.invariants.Sound.{Sound}
use Rattle.promises.proofs.invariants.UseInv.{Apart, Avoids, Held, Kept, Nobody, Tenant, Waits, tenant_at, tenant_of, tenants_apart}
use Rattle.promises.proofs.invariants.MarkInv.{Marked, mark_in, marked_keeps, marked_opens}
use Rattle.promises.proofs.theorems.RoomPromises.{held}
use Rattle.promises.proofs.theorems.BoundaryCalls.{Found, collect_found}
use Rattle.promises.proofs.theorems.BoundaryCancels.{is_marked, marks_reached}
use Rattle.promises.proofs.theorems.CoverBytes.{by_stage}
use Rattle.pipe.specs.Endpoints.{limit_of}

-- ---- the tokens

-- the first erring token, where there is one
abbrev FirstIs : ℕ → List ℕ → Type 0
FirstIs n [] = n ≡ 0
FirstIs n (token ∷ more) = (n ≡ token) × (token ≡ 0 → ⊥)

erring_some : (token : ℕ) → is_erring token ≡ true → token ≡ 0 → ⊥
erring_some token e z = false≢true (sym (ap is_erring z) ∙ e)

module _ (kind : EndpointType) (len limit : ℕ) (rs : List QueueTransferDescriptor) where
  abbrev tokens_at : List ℕ → List ℕ
  tokens_at ps = tokens_of (map (λ p. get_or rs p blank) ps)

  first_erring : (k : ℕ) (ps : List ℕ) → FirstIs (first_error (seen_from kind len limit k ps rs)) (erring (tokens_at ps))
  unfolding first_error seen_from
  first_erring k [] = refl
  first_erring k (p ∷ ps) = by (is_erring (get_or rs p blank).token) refl (first_erring (suc k) ps)
    where
      by : (b : Bool) → is_erring (get_or rs p blank).token ≡ b → FirstIs (first_error (seen_from kind len limit (suc k) ps rs)) (erring (tokens_at ps))
          → FirstIs (first_error (seen_from kind len limit k (p ∷ ps) rs)) (erring (tokens_at (p ∷ ps)))
      by true e on = rw e (refl, erring_some (get_or rs p blank).token e)
      by false e on = rw e on

-- ---- the length

less_one : (len limit k : ℕ) → len - k * limit - limit ≡ len - suc k * limit
less_one len limit k = omega (arith, suc-mul k limit)

module _ (len limit : ℕ) (rs : List QueueTransferDescriptor) where
  chunks_moved : (kind : EndpointType) → ((k : ℕ) → requested_at kind len limit k ≡ min limit (len - k * limit)) → (k : ℕ) (ps : List ℕ)
      → length_of (seen_from kind len limit k ps rs) ≡ moved limit (len - k * limit) (tokens_of (map (λ p. get_or rs p blank) ps))
  unfolding length_of seen_from
  chunks_moved kind e k [] = refl
  chunks_moved kind e k (p ∷ ps) =
      let left : ℕ = total_bytes (get_or rs p blank).token in
      ap₂ (λ (x y : ℕ). x - left + y) (e k)
      (chunks_moved kind e (suc k) ps ∙ ap (λ (n : ℕ). moved limit n (tokens_of (map (λ q. get_or rs q blank) ps))) (sym (less_one len limit k)))

  chunks_all : (kind : EndpointType) → ((k : ℕ) → requested_at kind len limit k ≡ min limit (len - k * limit)) → (ps : List ℕ)
      → length_of (seen_from kind len limit 0 ps rs) ≡ moved limit len (tokens_of (map (λ p. get_or rs p blank) ps))
  chunks_all kind e ps =
      let none : len - 0 * limit ≡ len = omega arith in
      chunks_moved kind e 0 ps ∙ ap (λ (n : ℕ). moved limit n (tokens_of (map (λ p. get_or rs p blank) ps))) none

  abbrev Says : List ℕ → Type 0
  Says ps = length_of (seen_from Control len limit 0 ps rs) ≡ moved len len (tokens_of (data_of Control (map (λ p. get_or rs p blank) ps)))

  control_moved : (ps : List ℕ) → length ps ≡ if_empty (eqb len 0) 2 3 → Says ps
  unfolding length_of seen_from requested_at
  control_moved ps n = by_stage (λ b qs. eqb len 0 ≡ b → Says qs) (λ a b e. omega (arith, eqb-true len 0 e)) (λ a b c e. omega arith) (eqb len 0) ps n refl

  -- of a request that is read to its end, or in chunks up to some descriptor
  all_moved : (kind : EndpointType) (ps : List ℕ) → (is_control kind ≡ true → length ps ≡ need_of kind len limit)
      → length_of (seen_from kind len limit 0 ps rs) ≡ moved (piece_of kind len limit) len (tokens_of (data_of kind (map (λ p. get_or rs p blank) ps)))
  unfolding need_of requested_at
  all_moved Control ps n = control_moved ps (n refl)
  all_moved Isochronous ps n = chunks_all Isochronous (λ k. refl) ps
  all_moved Bulk ps n = chunks_all Bulk (λ k. refl) ps
  all_moved Interrupt ps n = chunks_all Interrupt (λ k. refl) ps

-- how many were retried
one_bit : (w : ℕ) → number_if (is_retried w) 1 0 ≡ transaction_error w
one_bit w = by (dec_eq (transaction_error w) 0)
  where
    by : Dec (transaction_error w ≡ 0) → number_if (is_retried w) 1 0 ≡ transaction_error w
    by (yes z) = rw z
    by (no ne) = rw (ne_eqb (transaction_error w) 0 ne) (omega (arith, ne))

all_retried : (kind : EndpointType) (len limit : ℕ) (rs : List QueueTransferDescriptor) (k : ℕ) (ps : List ℕ)
    → retried_of (seen_from kind len limit k ps rs) ≡ retries (tokens_of (map (λ p. get_or rs p blank) ps))
unfolding seen_from retried_of
all_retried kind len limit rs k [] = refl
all_retried kind len limit rs k (p ∷ ps) = ap₂ ◌+◌ (one_bit (get_or rs p blank).token) (all_retried kind len limit rs (suc k) ps)

-- ---- up to the first short one

module _ (rs : List QueueTransferDescriptor) where
  abbrev record_of : ℕ → QueueTransferDescriptor
  record_of p = get_or rs p blank

  -- the places that are read
  places_read : Bool → List ℕ → List ℕ
  places_read short [] = []
  places_read short (p ∷ ps) = p ∷ cond (short && is_short (record_of p).token) [] (places_read short ps)

  seen_read : (kind : EndpointType) (len limit k : ℕ) (short : Bool) (ps : List ℕ)
      → read_of short (seen_from kind len limit k ps rs) ≡ seen_from kind len limit k (places_read short ps) rs
  unfolding read_of seen_from places_read
  seen_read kind len limit k short [] = refl
  seen_read kind len limit k short (p ∷ ps) = by (short && is_short (record_of p).token) (seen_read kind len limit (suc k) short ps)
    where
      here : Seen
      here = record { requested = requested_at kind len limit k; token = (record_of p).token }

      by : (b : Bool) → read_of short (seen_from kind len limit (suc k) ps rs) ≡ seen_from kind len limit (suc k) (places_read short ps) rs
          → here ∷ cond b [] (read_of short (seen_from kind len limit (suc k) ps rs)) ≡ here ∷ seen_from kind len limit (suc k) (cond b [] (places_read short ps)) rs
      by true on = refl
      by false on = ap (λ (l : List Seen). here ∷ l) on

  records_read : (short : Bool) (ps : List ℕ) → read_to short (map record_of ps) ≡ map record_of (places_read short ps)
  unfolding places_read
  records_read short [] = refl
  records_read short (p ∷ ps) = by (short && is_short (record_of p).token) (records_read short ps)
    where
      by : (b : Bool) → read_to short (map record_of ps) ≡ map record_of (places_read short ps)
          → record_of p ∷ cond b [] (read_to short (map record_of ps)) ≡ record_of p ∷ map record_of (cond b [] (places_read short ps))
      by true on = refl
      by false on = ap (λ (l : List QueueTransferDescriptor). record_of p ∷ l) on

  all_read : (ps : List ℕ) → places_read false ps ≡ ps
  unfolding places_read
  all_read [] = refl
  all_read (p ∷ ps) = ap (λ (l : List ℕ). p ∷ l) (all_read ps)

  -- of one descriptor the rule says nothing new
  read_alike : (ps : List ℕ) → length ps ≤ 1 → (b c : Bool) → read_to b (map record_of ps) ≡ read_to c (map record_of ps)
  read_alike [] h b c = refl
  read_alike (p ∷ []) h b c = by (b && is_short (record_of p).token) (c && is_short (record_of p).token)
    where
      by : (x y : Bool) → record_of p ∷ cond x [] [] ≡ record_of p ∷ cond y [] []
      by true true = refl
      by true false = refl
      by false true = refl
      by false false = refl
  read_alike (p ∷ q ∷ ps) h b c = absurd (omega (arith, h))

-- ---- the answer

due_outcome : (b : Bool) (ss : List Seen) (failed : List ℕ) (n c : ℕ) → FirstIs (first_error ss) failed → length_of ss ≡ n → retried_of ss ≡ c
    → (answered_number (collected_answer (outcome_of b (view_of ss))) ≡ (due_of b failed n c).number)
    × (answered_values (collected_answer (outcome_of b (view_of ss))) ≡ (due_of b failed n c).values)
unfolding outcome_of view_of
due_outcome true ss failed n c f l r = (refl, refl)
due_outcome false ss [] n c f l r = rw (eq-eqb (first_error ss) 0 f) (refl, ap₂ (λ (m d : ℕ). m ∷ d ∷ []) l r)
due_outcome false ss (token ∷ more) n c f l r =
    rw (ne_eqb (first_error ss) 0 (λ z. f.1 (sym f.0 ∙ z))) (refl, ap (λ (m : ℕ). m ∷ []) f.0)

-- ---- the request

abbrev kind_in : Tenant → EndpointType
kind_in Nobody = Control
kind_in (Waits kind z id d n) = kind

abbrev id_in : Tenant → ℕ
id_in Nobody = 0
id_in (Waits kind z id d n) = id

abbrev ends_in : Tenant → Bool
ends_in Nobody = false
ends_in (Waits kind z id d n) = ends_short kind d

abbrev length_in : Tenant → ℕ
length_in Nobody = 0
length_in (Waits kind z id d n) = n

abbrev limit_from : Settings → Tenant → ℕ
limit_from s Nobody = 0
limit_from s (Waits kind z id d n) = working_limit kind s.limit z

none_those : (k id : ℕ) (us : List Use) → Avoids k us → those k id us ≡ []
none_those k id [] e = refl
none_those k id (u ∷ us) e = rw (ne_eqb u.slot k e.0) (none_those k id us e.1)

module _ (s : Settings) (owner : List ℕ) (tenant : ℕ → Tenant) (pool : List QueueTransferDescriptor) (heads : List ℕ) (k id : ℕ) (here : id_in (tenant k) ≡ id) where
  abbrev KeptHere : Use → Type 0
  KeptHere u = Kept s owner tenant pool heads u

  -- slot k's use, and no other has its slot and id
  pub record Sole (us : List Use) : Type 0 where
    pub found : Use
    pub only : those k id us ≡ found ∷ []
    pub kept : KeptHere found
    pub slot_is : found.slot ≡ k

  sole : (us : List Use) → Every KeptHere us → Apart us → (Avoids k us → ⊥) → Sole us
  sole [] e a some = absurd (some tt)
  sole (u ∷ us) e a some = by (dec_eq u.slot k) (sole us e.1 a.1)
    where
      by : Dec (u.slot ≡ k) → ((Avoids k us → ⊥) → Sole us) → Sole (u ∷ us)
      by (yes q) on =
          let same : u.id ≡ id = sym (ap id_in e.0.holds) ∙ ap (λ (j : ℕ). id_in (tenant j)) q ∙ here in
          record {
            found = u;
            only = rw (eq-eqb u.slot k q, eq-eqb u.id id same) (ap (λ (l : List Use). u ∷ l) (none_those k id us (subst (λ (j : ℕ). Avoids j us) q a.0)));
            kept = e.0;
            slot_is = q;
          }
      by (no ne) on =
          let x = on (λ f. some (ne, f)) in
          record { found = x.found; only = rw (ne_eqb u.slot k ne) x.only; kept = x.kept; slot_is = x.slot_is }

-- ---- a world of a run

same_flag : (a b : Bool) → (a ≡ true → b ≡ true) → (b ≡ true → a ≡ true) → a ≡ b
same_flag true true f g = refl
same_flag true false f g = sym (f refl)
same_flag false true f g = g refl
same_flag false false f g = refl

module _ (w : World) (h : History) (sound : Sound w.state.settings w) (kept : Held w.state.settings h w) (k id : ℕ) (rd : Readings)
    (x : Found w k id rd (core w (Collect k id rd)).reply.answer)
    (same-mark : x.r.cancelled ≡ cancelled w.state.settings k h) where
  abbrev st : Ehci
  st = w.state

  abbrev s : Settings
  s = w.state.settings

  tenant_is : tenant_at st k ≡ Waits x.p.kind x.p.size x.r.id x.r.direction x.r.length
  tenant_is = ap tenant_of x.unlinking

  one : Sole s st.owner (tenant_at st) w.rows.pool w.rows.heads k id (ap id_in tenant_is ∙ x.same) (uses s h)
  one =
      sole s st.owner (tenant_at st) w.rows.pool w.rows.heads k id (ap id_in tenant_is ∙ x.same) (uses s h) kept.each kept.apart
      (λ none. tenants_apart x.p.kind x.p.size x.r.id x.r.direction x.r.length (tenant_at st k) (kept.rest k none).0 tenant_is)

  abbrev u : Use
  u = one.found

  holds_it : Waits u.request.kind u.size u.id u.request.direction u.request.length ≡ Waits x.p.kind x.p.size x.r.id x.r.direction x.r.length
  holds_it = sym one.kept.holds ∙ ap (tenant_at st) one.slot_is ∙ tenant_is

  -- a collect looks at the records of its places
  may_ask : askable s (length w.rows.pool) k ≡ true
  unfolding askable
  may_ask =
      rw (
        le-leb s.descriptors 256 sound.ranges.good.descriptors_most,
        eq-eqb (pool_length s) (length w.rows.pool) (sym sound.pool_fits_lem),
        le-leb s.limit 16384 sound.ranges.good.limit_most,
        lt-ltb k 32 (open_below st k (ap has_endpoint x.unlinking)),
      )

  asks : ask_of st (length w.rows.pool) k ≡ request_ask st k x.p x.r
  unfolding ask_of
  asks = rw (may_ask, x.unlinking)

  abbrev seen_at : EndpointType → Bool → ℕ → ℕ → List ℕ → List Seen
  seen_at kind short n limit ps = read_of short (seen_from kind n limit 0 ps w.rows.pool)

  -- whether it stops at its first short descriptor
  abbrev stops : Bool
  stops = ends_short u.request.kind u.request.direction

  sees : seen w (Collect k id rd) ≡ view_of (seen_at u.request.kind stops u.request.length (limit_of_use s u) u.places)
  unfolding asks_of request_ask
  sees =
      ap (λ (a : Ask). seen_by a w.rows.pool) asks
      ∙ ap (λ (ps : List ℕ). view_of (seen_at x.p.kind (ends_short x.p.kind x.r.direction) x.r.length (limit_of s x.p) ps)) (list_packed (places_from 0 (take s.descriptors st.owner) (k + 1) 256) ∙ places)
      ∙ sym (ap (λ (t : Tenant). view_of (seen_at (kind_in t) (ends_in t) (length_in t) (limit_from s t) u.places)) holds_it)
    where
      places : places_from 0 (take s.descriptors st.owner) (k + 1) 256 ≡ u.places
      places = ap (λ (j : ℕ). places_from 0 (take s.descriptors st.owner) (j + 1) 256) (sym one.slot_is) ∙ sym one.kept.places_are

  -- the places that are read, and their records as the statement reads them
  abbrev read : List ℕ
  read = places_read w.rows.pool stops u.places

  records_are : map (λ p. get_or w.rows.pool p blank) read ≡ read_to (may_end_short u) (records_at w.rows u.places)
  records_are =
      sym (records_read w.rows.pool stops u.places)
      ∙ by_count (λ b. read_to b (records_at w.rows u.places)) u (read_alike w.rows.pool u.places)

  -- of a control request all are
  whole : is_control u.request.kind ≡ true → length read ≡ need_of u.request.kind u.request.length (limit_of_use s u)
  whole c =
      ap (λ (b : Bool). length (places_read w.rows.pool b u.places)) (never u.request.direction)
      ∙ ap length (all_read w.rows.pool u.places) ∙ one.kept.as_needed
    where
      never : (d : Direction) → ends_short u.request.kind d ≡ false
      never Out = refl
      never In = ap not c

  due : (answered_number (core w (Collect k id rd)).reply.answer ≡ (due_to s h w.rows u).number)
      × (answered_values (core w (Collect k id rd)).reply.answer ≡ (due_to s h w.rows u).values)
  due =
      let kind = u.request.kind in
      let n = u.request.length in
      let limit = limit_of_use s u in
      let seen_is = seen_from kind n limit 0 read w.rows.pool in
      let met = map (λ p. get_or w.rows.pool p blank) read in
      let out = due_outcome (cancelled s u.slot h) seen_is (erring (tokens_of met)) (moved (piece_of kind n limit) n (tokens_of (data_of kind met))) (retries (tokens_of met))
      (first_erring kind n limit w.rows.pool 0 read) (all_moved n limit w.rows.pool kind read whole) (all_retried kind n limit w.rows.pool 0 read) in
      let answer : (core w (Collect k id rd)).reply.answer ≡ collected_answer (outcome_of (cancelled s u.slot h) (view_of seen_is))
      = x.answer_is ∙ ap₂ (λ (b : Bool) (v : View). collected_answer (outcome_of b v)) (same-mark ∙ ap (λ (j : ℕ). cancelled s j h) (sym one.slot_is))
      (sees ∙ ap view_of (seen_read w.rows.pool kind n limit 0 stops u.places)) in
      let due_is : due_of (cancelled s u.slot h) (erring (tokens_of met)) (moved (piece_of kind n limit) n (tokens_of (data_of kind met))) (retries (tokens_of met)) ≡ due_to s h w.rows u
      = ap (λ (ds : List QueueTransferDescriptor). due_of (cancelled s u.slot h) (erring (tokens_of ds)) (moved (piece_of kind n limit) n (tokens_of (data_of kind ds))) (retries (tokens_of ds))) records_are in
      (ap answered_number answer ∙ out.0 ∙ ap (λ (d : Due). d.number) due_is, ap answered_values answer ∙ out.1 ∙ ap (λ (d : Due). d.values) due_is)

  answers : Answers s h (moment core w) k id rd
  answers = record { uncollected = u; only = one.only; number_is = due.0; values_are = due.1 }

-- ---- of a run

pub collects_due : EveryRun CollectsDue core
collects_due s w o cs k id rd e =
    let now = world_of core w cs in
    let h = history_of core w cs in
    let at = held s w o cs in
    let x = collect_found now k id rd e in
    let mark : x.r.cancelled ≡ cancelled s k h
    = same_flag x.r.cancelled (cancelled s k h)
    (λ m. (reached Marked marked_opens marked_keeps s w o cs).1 k (ap mark_in x.unlinking ∙ m))
    (λ c. sym (ap is_marked x.unlinking) ∙ marks_reached s w o cs k c) in
    subst (λ (z : Settings). Sound z now → Held z h now → x.r.cancelled ≡ cancelled z k h → Answers z h (moment core now) k id rd) at.0.settings_are
    (λ sound kept same. answers now h sound kept k id rd x same) at.0 at.1 mark
