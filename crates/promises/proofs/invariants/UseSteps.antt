-- Each kind of call that neither takes nor frees a place keeps the tie between uses and world.
use Prim.Native.Nat.{ℕ, ◌+◌, ◌*◌, ◌≤◌, ◌<◌}
use mathlib.Core.Path.{◌≡◌, refl, sym, ap, subst, ◌∙◌}
use mathlib.Core.Logic.{⊎_elim}
use mathlib.Core.Bool.{Bool, true, false}
use mathlib.Core.List.{List, ◌∷◌}
use native.Mathlib.Decide.{ℕ_discrete as dec_eq}
use native.Mathlib.Omega.{arith}
use borrow.Author.Tests.{ltb-true}
use lib.Dec.{ltb}
use lib.ListN.{get_or, length, replicate, set, take}
use lib.Seq.{get_or-set_other, get_or-set_same}
use Rattle.common.specs.declared.kinds.EndpointType.{EndpointType}
use Rattle.descriptor.specs.Descriptors.{terminated}
use Rattle.descriptor.specs.Heads.{endpoint_head, words_of}
use Rattle.descriptor.specs.declared.qtd.QueueTransferDescriptor.{QueueTransferDescriptor}
use Rattle.pool.specs.Chains.{blank, with_token}
use Rattle.pool.proofs.ChainLaws.{fill_token}
use Rattle.settings.specs.declared.settings.Settings.{Settings}
use Rattle.common.proofs.TestLaws.{both_tells}
use Rattle.state.specs.Slots.{with_slot}
use Rattle.state.specs.State.{with_bell, with_boundaries}
use Rattle.state.specs.Plain.{Ehci}
use Rattle.pipe.specs.Endpoints.{with_endpoint, decoded, encoded}
use Rattle.pipe.specs.declared.endpoints.Endpoint.TheVariants.{Closed, Idle, Linked, Unlinking}
use Rattle.pipe.specs.declared.endpoints.Request.{Request}
use Rattle.pipe.specs.declared.endpoints.Endpoint.{Endpoint}
use Rattle.pipe.proofs.EndpointLaws.{direction_there, kind_there}
use Rattle.controller.specs.Readers.{has_endpoint}
use Rattle.controller.proofs.ReaderLaws.{open_within}
use Rattle.opening.proofs.HeadLaws.{other_head}
use Rattle.common.proofs.RowLaws.{Only, put_only}
use Rattle.endpoint.specs.Calls.{with_head}
use Rattle.schedule.specs.Links.{detach_of, given_link, link_word, periodic, predecessor_of}
use Rattle.schedule.specs.declared.links.Predecessor.{Predecessor}
use Rattle.schedule.specs.declared.links.Predecessor.TheVariants.{First, Head, Missing}
use Rattle.request.specs.Writeback.{in_request}
use Rattle.collection.specs.Unlinks.{waiting_of}
use Rattle.ehci.specs.declared.call.Call.{Call}
use Rattle.ehci.specs.Door.{Applied}
use Rattle.promises.specs.Runs.{History, Rows, Turn, World, left_by, rows_of, turn_of}
use Rattle.promises.specs.Events.{Drains, Event, Other, Reads, event, leaving}
use Rattle.promises.specs.Uses.{Use, uses, uses_after}
use Rattle.promises.proofs.effects.Effects.{Closes, Counts, Hears, Joins, Marks, Opens, Passes, Resizes, Rewrites, Still, Unlinked, WritesBack, leaving_by, Effect, still, joins, passes, hears, counts, opens, closes, resizes, rewrites, writes_back, marks, unlinks, Clears, clears}
use Rattle.promises.proofs.effects.SlotViews.{view_kept}
use Rattle.promises.proofs.invariants.Sound.{Sound}
use Rattle.promises.specs.Rooms.{untold}
use Rattle.promises.proofs.invariants.UseInv.{Held, HeldIn, Nobody, Tenant, overlay_next, tenant_at, tenant_of}
use Rattle.promises.proofs.invariants.UseQuiet.{held_quiet}
use Rattle.promises.proofs.invariants.ViewsAfter.{view_after, viewed}

-- ---- events that leave the uses

pub uses_by : (s : Settings) (t : Turn) (h : History) (e : Event) → event s t ≡ e → uses s (t ∷ h) ≡ uses_after s t h e (uses s h)
unfolding uses
uses_by s t h e q = ap (λ (x : Event). uses_after s t h x (uses s h)) q

pub uses_leaving : (s : Settings) (t : Turn) (h : History) (k frame : ℕ) (us : List Use) → uses_after s t h (leaving s k frame t) us ≡ us
uses_leaving s t h k frame us = leaving_by s k frame t (λ e. uses_after s t h e us ≡ us) refl refl refl

-- ---- words and records

pub head_length : (kind : EndpointType) (address number packet : ℕ) → length (words_of (endpoint_head kind address number packet)) ≡ 17
unfolding endpoint_head terminated
head_length kind address number packet = refl

-- detaching writes links only
pub detach_word : (s : Ehci) (heads frames : List ℕ) (k j i : ℕ) → 1 ≤ i → i < 17
    → get_or (detach_of s heads frames k).rows.heads (17 * (j + 1) + i) 0 ≡ get_or heads (17 * (j + 1) + i) 0
unfolding detach_of
detach_word s heads frames k j i some low = by (predecessor_of s heads frames k) (periodic s k)
  where
    by : (p : Predecessor) (b : Bool) → get_or (given_link p b heads frames (link_word heads k)).heads (17 * (j + 1) + i) 0 ≡ get_or heads (17 * (j + 1) + i) 0
    by First true = refl
    by First false = get_or-set_other heads 0 (17 * (j + 1) + i) (link_word heads k) 0 (λ e. omega (arith, e))
    by (Head p) b = get_or-set_other heads (17 * (p + 1)) (17 * (j + 1) + i) (link_word heads k) 0 (λ e. omega (arith, e, some, low))
    by Missing b = refl

-- only a token changes
pub token_written : (place token : ℕ) (rs : List QueueTransferDescriptor) → place < length rs → (p : ℕ)
    → untold (get_or (set rs place (with_token (get_or rs place blank) token)) p blank) ≡ untold (get_or rs p blank)
token_written place token rs h p = by (dec_eq p place)
  where
    by : Dec (p ≡ place) → untold (get_or (set rs place (with_token (get_or rs place blank) token)) p blank) ≡ untold (get_or rs p blank)
    by (yes e) =
        ap (λ (q : ℕ). untold (get_or (set rs place (with_token (get_or rs place blank) token)) q blank)) e
        ∙ ap untold (get_or-set_same rs place (with_token (get_or rs place blank) token) blank h) ∙ ap (λ (q : ℕ). untold (get_or rs q blank)) (sym e)
    by (no ne) = ap untold (get_or-set_other rs place p (with_token (get_or rs place blank) token) blank ne)

-- an endpoint that is encoded and decoded has the same tenant, whatever its boundary
pub tenant_back : (x : Endpoint) → tenant_of (decoded (encoded x)) ≡ tenant_of x
unfolding decoded
tenant_back Closed = refl
tenant_back (Idle p) = refl
tenant_back (Linked p r) = rw (kind_there p.kind, direction_there r.direction)
tenant_back (Unlinking p r b) = rw (kind_there p.kind, direction_there r.direction)

-- ---- the steps

module _ (w : World) (c : Call) (a : Applied) (h : History) where
  abbrev s : Settings
  s = w.state.settings

  abbrev t : Turn
  t = turn_of w.rows c a

  -- the uses stay, and so does all that they are tied to
  pub quiet : uses s (t ∷ h) ≡ uses s h → a.reply.state.owner ≡ w.state.owner → ((k : ℕ) → tenant_at a.reply.state k ≡ tenant_at w.state k)
      → ((p : ℕ) → untold (get_or (rows_of a).pool p blank) ≡ untold (get_or w.rows.pool p blank))
      → ((k : ℕ) → (tenant_at w.state k ≡ Nobody → ⊥) → overlay_next (rows_of a).heads k ≡ overlay_next w.rows.heads k)
      → Held s h w → Held s (t ∷ h) (left_by a)
  quiet same owner tenant records words held =
      subst (λ (us : List Use). HeldIn s us (left_by a)) (sym same)
      (held_quiet s w.state.owner a.reply.state.owner (tenant_at w.state) (tenant_at a.reply.state) w.rows.pool (rows_of a).pool w.rows.heads
      (rows_of a).heads (ap (λ (o : List ℕ). take s.descriptors o) owner) tenant records words (uses s h) held)

  -- no row changes
  rowless : uses s (t ∷ h) ≡ uses s h → a.reply.state.owner ≡ w.state.owner → ((k : ℕ) → tenant_at a.reply.state k ≡ tenant_at w.state k)
      → rows_of a ≡ w.rows → Held s h w → Held s (t ∷ h) (left_by a)
  rowless same owner tenant rows =
      quiet same owner tenant (λ p. ap (λ (r : Rows). untold (get_or r.pool p blank)) rows) (λ k n. ap (λ (r : Rows). overlay_next r.heads k) rows)

  -- the head of a slot without a request is written anew
  rewritten : (k : ℕ) (words : List ℕ) → tenant_at w.state k ≡ Nobody → length words ≡ 17 → 17 * (k + 1) + 17 ≤ length w.rows.heads → (j : ℕ) → (tenant_at w.state j ≡ Nobody → ⊥)
      → overlay_next (with_head w.rows.heads k words) j ≡ overlay_next w.rows.heads j
  rewritten k words vacant long fits j n =
      other_head k w.rows.heads (with_head w.rows.heads k words)
      (subst (λ (m : ℕ). Only (17 * (k + 1)) m w.rows.heads (with_head w.rows.heads k words)) long (put_only w.rows.heads (17 * (k + 1)) words (omega (arith, long, fits))))
      (j + 1) 4 (λ e. n (ap (tenant_at w.state) (one e) ∙ vacant)) (omega arith)
    where
      one : j + 1 ≡ k + 1 → j ≡ k
      one e = omega (arith, e)

  module _ (sound : Sound s w) where
    after : (x : Effect w c a) (k : ℕ) → tenant_at a.reply.state k ≡ viewed tenant_of w c a x k
    after = view_after tenant_of w c a tenant_back (λ p r b d. refl) sound

    pub still_held : Still w c a → Held s h w → Held s (t ∷ h) (left_by a)
    still_held x = rowless (uses_by s t h Other x.nothing) (ap (λ (y : Ehci). y.owner) x.state_is) (after (still x)) x.rows_are

    pub joins_held : Joins w c a → Held s h w → Held s (t ∷ h) (left_by a)
    joins_held x = rowless (uses_by s t h Other x.nothing) (ap (λ (y : Ehci). y.owner) x.state_is) (after (joins x)) x.rows_are

    pub passes_held : Passes w c a → Held s h w → Held s (t ∷ h) (left_by a)
    passes_held x = rowless (uses_by s t h Drains x.drains) (ap (λ (y : Ehci). y.owner) x.state_is) (after (passes x)) x.rows_are

    pub hears_held : Hears w c a → Held s h w → Held s (t ∷ h) (left_by a)
    unfolding with_bell
    hears_held x = rowless (uses_by s t h Reads x.hears) (ap (λ (y : Ehci). y.owner) x.state_is) (after (hears x)) x.rows_are

    pub counts_held : Counts w c a → Held s h w → Held s (t ∷ h) (left_by a)
    unfolding with_bell with_boundaries
    counts_held x = rowless (uses_by s t h Drains x.drains) (ap (λ (y : Ehci). y.owner) x.state_is) (after (counts x)) x.rows_are

    pub opens_held : Opens w c a → Held s h w → Held s (t ∷ h) (left_by a)
    unfolding with_endpoint with_slot
    opens_held x =
        quiet (uses_by s t h Other x.nothing) (ap (λ (y : Ehci). y.owner) x.state_is)
        (λ j. after (opens x) j ∙ view_kept tenant_of w.state x.k _ (sym (ap tenant_of x.closed)) j)
        (λ p. ap (λ (r : Rows). untold (get_or r.pool p blank)) x.rows_are)
        (λ j n. ap (λ (r : Rows). overlay_next r.heads j) x.rows_are
        ∙ rewritten x.k (words_of (endpoint_head x.kind x.address x.endpoint x.packet)) (ap tenant_of x.closed) (head_length x.kind x.address x.endpoint x.packet)
        (omega (arith, x.below, sound.heads_fit)) j n)

    pub closes_held : Closes w c a → Held s h w → Held s (t ∷ h) (left_by a)
    unfolding with_endpoint with_slot
    closes_held x =
        quiet (uses_by s t h Other x.nothing) (ap (λ (y : Ehci). y.owner) x.state_is)
        (λ j. after (closes x) j ∙ view_kept tenant_of w.state x.k _ (sym (ap tenant_of x.idle)) j)
        (λ p. ap (λ (r : Rows). untold (get_or r.pool p blank)) x.rows_are)
        (λ j n. ap (λ (r : Rows). overlay_next r.heads j) x.rows_are
        ∙ rewritten x.k (replicate 17 0) (ap tenant_of x.idle) refl (omega (arith, below, sound.heads_fit)) j n)
      where
        below : x.k < s.endpoints
        below = open_within w.state x.k sound.ranges (ap has_endpoint x.idle)

    pub rewrites_held : Rewrites w c a → Held s h w → Held s (t ∷ h) (left_by a)
    rewrites_held x =
        quiet (uses_by s t h Other x.nothing) (ap (λ (y : Ehci). y.owner) x.state_is) (after (rewrites x))
        (λ p. ap (λ (r : Rows). untold (get_or r.pool p blank)) x.rows_are)
        (λ j n. ap (λ (r : Rows). overlay_next r.heads j) x.rows_are
        ∙ get_or-set_other w.rows.heads (17 * (x.k + 1) + 1) (17 * (j + 1) + 4) x.word 0 (λ e. omega (arith, e)))

    pub resizes_held : Resizes w c a → Held s h w → Held s (t ∷ h) (left_by a)
    unfolding with_endpoint with_slot
    resizes_held x =
        quiet (uses_by s t h Other x.nothing) (ap (λ (y : Ehci). y.owner) x.state_is)
        (λ j. after (resizes x) j ∙ view_kept tenant_of w.state x.k _ (sym (ap tenant_of x.idle)) j)
        (λ p. ap (λ (r : Rows). untold (get_or r.pool p blank)) x.rows_are)
        (λ j n. ap (λ (r : Rows). overlay_next r.heads j) x.rows_are
        ∙ get_or-set_other w.rows.heads (17 * (x.k + 1) + 1) (17 * (j + 1) + 4) x.word 0 (λ e. omega (arith, e)))

    -- the place is one of the pool's
    pub requested_place : (place : ℕ) → in_request w.state place ≡ true → place < length w.rows.pool
    unfolding in_request
    requested_place place e = omega (arith, ltb-true place s.descriptors (both_tells (ltb place s.descriptors) _ e).0, sound.pool_fits_lem)

    pub writes_back_held : WritesBack w c a → Held s h w → Held s (t ∷ h) (left_by a)
    writes_back_held x =
        quiet (uses_by s t h Other x.nothing) (ap (λ (y : Ehci). y.owner) x.state_is) (after (writes_back x))
        (λ p. ap (λ (r : Rows). untold (get_or r.pool p blank)) x.rows_are
        ∙ ap (λ (l : List QueueTransferDescriptor). untold (get_or l p blank)) (fill_token s.pool x.place x.token w.rows.pool)
        ∙ token_written x.place x.token w.rows.pool (requested_place x.place x.in_request_lem) p)
        (λ j n. ap (λ (r : Rows). overlay_next r.heads j) x.rows_are)

    pub clears_held : Clears w c a → Held s h w → Held s (t ∷ h) (left_by a)
    unfolding with_endpoint with_slot
    clears_held x =
        rowless (uses_by s t h Other x.nothing) (ap (λ (y : Ehci). y.owner) x.state_is)
        (λ j. after (clears x) j ∙ view_kept tenant_of w.state x.k _ (sym (ap tenant_of x.idle)) j)
        x.rows_are

    pub marks_held : Marks w c a → Held s h w → Held s (t ∷ h) (left_by a)
    unfolding with_endpoint with_slot
    marks_held x =
        rowless (uses_by s t h Other x.nothing) (ap (λ (y : Ehci). y.owner) x.state_is)
        (λ j. after (marks x) j ∙ view_kept tenant_of w.state x.k _ (sym (ap tenant_of x.unlinking)) j)
        x.rows_are

    pub unlinks_held : Unlinked w c a → Held s h w → Held s (t ∷ h) (left_by a)
    unfolding waiting_of with_endpoint with_slot with_bell
    unlinks_held x =
        quiet (uses_by s t h (leaving s x.k x.readings.frame t) x.leaves ∙ uses_leaving s t h x.k x.readings.frame (uses s h))
        (ap (λ (y : Ehci). y.owner) x.state_is)
        (λ j. after (unlinks x) j ∙ view_kept tenant_of w.state x.k _ (same ∙ sym (ap tenant_of x.linked)) j)
        (λ p. ap (λ (r : Rows). untold (get_or r.pool p blank)) x.rows_are)
        (λ j n. ap (λ (r : Rows). overlay_next r.heads j) x.rows_are ∙ detach_word w.state w.rows.heads w.rows.frames x.k j 4 (omega arith) (omega arith))
      where
        of : Request → Tenant
        of r = tenant_of (Linked x.p r)

        same : of x.asked ≡ of x.r
        same = ⊎_elim (λ e. ap of e) (λ e. ap of e) x.same_request
