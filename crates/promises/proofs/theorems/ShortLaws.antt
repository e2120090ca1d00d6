-- The shared descriptor stands, a short packet leads to it and no further, and a full one goes on as the chain does.
use Prim.Native.Nat.{ℕ, zero, suc, ◌+◌, ◌-◌, ◌/◌, ◌≤◌, ◌<◌}
use mathlib.Core.Path.{◌≡◌, refl, sym, ap, subst, ◌∙◌}
use mathlib.Core.Bool.{Bool, true, false, cond, not, ◌&&◌}
use mathlib.Core.List.{List, [], ◌∷◌}
use mathlib.Core.Logic.{◌⊎◌, ⊎_elim}
use native.Mathlib.Omega.{arith}
use borrow.Author.Tests.{eq-eqb, ltb-false, ltb-true, ne_eqb}
use lib.Dec.{eqb, ltb}
use lib.ListN.{drop, get_or, length, length-take, take}
use Rattle.token.specs.EhciQtd.{active, total_bytes}
use Rattle.token.specs.Plans.{control_plan}
use Rattle.std.specs.Prelude.{Option, Some, None}
use Rattle.token.specs.declared.qtd.QtdToken.{QtdToken}
use Rattle.common.specs.Kinds.{is_control}
use Rattle.common.specs.declared.kinds.Direction.{Direction}
use Rattle.common.specs.declared.kinds.Direction.TheVariants.{Out, In}
use Rattle.common.specs.declared.kinds.EndpointType.{EndpointType}
use Rattle.common.specs.declared.kinds.EndpointType.TheVariants.{Control, Isochronous, Bulk, Interrupt}
use Rattle.common.proofs.TestLaws.{both_tells, false_true}
use Rattle.descriptor.specs.Descriptors.{new_qtd, word_of_next, terminated, with_next}
use Rattle.descriptor.specs.EhciQtd.{qtd_address, terminate}
use Rattle.descriptor.specs.declared.qtd.QueueTransferDescriptor.{QueueTransferDescriptor}
use Rattle.descriptor.proofs.HeadFields.{next_is as address_word, next_reads}
use Rattle.pool.specs.Chains.{blank}
use Rattle.pool.specs.Places.{Each, Within, places_from}
use Rattle.pool.specs.Transfers.{address_of, alternate_of, alternate_word, bare_at, bare_for, chunk_qtd, is_last, later_stage, next_of, qtd_if, record_at, stage_of_place}
use Rattle.pool.specs.declared.transfer.Transfer.{Transfer}
use Rattle.pool.proofs.Each.{each_at, each_map}
use Rattle.pool.proofs.PlaceLaws.{places_within}
use Rattle.settings.specs.declared.settings.Settings.{Settings}
use Rattle.settings.specs.Settings.{shared_address}
use Rattle.settings.proofs.SettingsLaws.{Good as SettingsGood}
use Rattle.promises.specs.Runs.{EveryRun, History, World, core, history_of, world_of}
use Rattle.promises.specs.Uses.{Use, comes_in, may_end_short, uses}
use Rattle.promises.specs.Walks.{Ends, On, Terminated, Walk, chain_walk, next_leads}
use Rattle.promises.specs.Rooms.{places_in_use, transfer_for}
use Rattle.promises.specs.EhciQueue.{Fetched, Queue, begun_at, pointer, visit, visits}
use Rattle.promises.specs.Shorts.{FullGoesOn, SharedStands, ShortStops, ShortToken, StopsAt, done_with, following, memory_of, place_in}
use Rattle.promises.proofs.any_machine.Leads.{next_on, next_stops}
use Rattle.promises.proofs.effects.EffectOf.{effect}
use Rattle.promises.proofs.invariants.Sound.{Sound}
use Rattle.promises.proofs.invariants.UseInv.{Kept, every_map, tenant_at}
use Rattle.promises.proofs.theorems.ExclusiveLaws.{exclusive_holds}
use Rattle.promises.proofs.theorems.RoomPromises.{held}

-- ---- the words of a request's descriptors

later_alternate : (d : Option QtdToken) (status : QtdToken) (address n k : ℕ) → (later_stage d status address n k).alternate ≡ 1
unfolding new_qtd
later_alternate None status address n k = refl
later_alternate (Some token) status address n k = by (eqb k 1)
  where
    by : (b : Bool) → (qtd_if b (new_qtd token address n) (new_qtd status 0 0)).alternate ≡ 1
    by true = refl
    by false = refl

stage_alternate : (t : Transfer) (k : ℕ) → (stage_of_place t k).alternate ≡ 1
unfolding stage_of_place new_qtd
stage_alternate t k = by (eqb k 0)
  where
    later : QueueTransferDescriptor
    later = later_stage (control_plan t.direction t.length).«data» (control_plan t.direction t.length).status t.address t.length k

    by : (b : Bool) → (qtd_if b (new_qtd (control_plan t.direction t.length).setup t.setup 8) later).alternate ≡ 1
    by true = refl
    by false = later_alternate (control_plan t.direction t.length).«data» (control_plan t.direction t.length).status t.address t.length k

alternate_control : (t : Transfer) (k base : ℕ) (rest : List ℕ) (kind : EndpointType) → t.kind ≡ kind → is_control kind ≡ true → (record_at t k rest base).alternate ≡ 1
unfolding record_at with_next bare_at
alternate_control t k base rest Control e c = ap (λ (z : EndpointType). (bare_for z t k (is_last rest)).alternate) e ∙ stage_alternate t k
alternate_control t k base rest Isochronous e c = absurd (false_true c)
alternate_control t k base rest Bulk e c = absurd (false_true c)
alternate_control t k base rest Interrupt e c = absurd (false_true c)

alternate_chunk : (t : Transfer) (k base : ℕ) (rest : List ℕ) (kind : EndpointType) → t.kind ≡ kind → is_control kind ≡ false
    → (record_at t k rest base).alternate ≡ alternate_of t (is_last rest)
unfolding record_at with_next bare_at chunk_qtd new_qtd
alternate_chunk t k base rest Control e c = absurd (false_true (sym c))
alternate_chunk t k base rest Isochronous e c = rw e
alternate_chunk t k base rest Bulk e c = rw e
alternate_chunk t k base rest Interrupt e c = rw e

next_word : (t : Transfer) (k base : ℕ) (rest : List ℕ) → (record_at t k rest base).next ≡ word_of_next (next_of base rest)
unfolding record_at with_next
next_word t k base rest = refl

rest_none : (j : ℕ) (ps : List ℕ) → length ps ≤ j → drop j ps ≡ []
rest_none zero [] h = refl
rest_none (suc j) [] h = refl
rest_none zero (p ∷ ps) h = absurd (omega (arith, h))
rest_none (suc j) (p ∷ ps) h = rest_none j ps (omega (arith, h))

rest_some : (j : ℕ) (ps : List ℕ) → j < length ps → drop j ps ≡ get_or ps j 0 ∷ drop (suc j) ps
rest_some j [] h = absurd (omega (arith, h))
rest_some zero (p ∷ ps) h = refl
rest_some (suc j) (p ∷ ps) h = rest_some j ps (omega (arith, h))

-- ---- one use

module _ (s : Settings) (h : History) (w : World) (sound : Sound s w) (u : Use)
    (kept : Kept s w.state.owner (tenant_at w.state) w.rows.pool w.rows.heads u) where
  good : SettingsGood s
  good = subst SettingsGood sound.settings_are sound.ranges.good

  abbrev front : List ℕ
  front = take s.descriptors w.state.owner

  own_within : Within s.descriptors u.places
  own_within =
      subst (Within s.descriptors) (sym kept.places_are)
      (each_map (λ (p : ℕ). p < length front) (λ (p : ℕ). p < s.descriptors) (λ p l. omega (arith, l, length-take s.descriptors w.state.owner))
      (places_from 0 front (u.slot + 1) 256) (places_within front (u.slot + 1) 256))

  pub met_by_none : Each (λ p. p ≡ s.descriptors → ⊥) (chain_walk s w.rows u.slot)
  unfolding chain_walk
  met_by_none =
      subst (Each (λ p. p ≡ s.descriptors → ⊥)) (sym (ap (λ (x : Walk). x.met) kept.leads))
      (each_map (λ (p : ℕ). p < s.descriptors) (λ (p : ℕ). p ≡ s.descriptors → ⊥) (λ p l e. omega (arith, l, e)) u.places own_within)

  module _ (j token : ℕ) (here : j < length u.places) where
    abbrev rest : List ℕ
    rest = drop (suc j) u.places

    abbrev overlay : Fetched
    overlay = (done_with s w.rows u j token).overlay

    next_is : overlay.next ≡ word_of_next (next_of s.pool rest)
    next_is = ap (λ (d : QueueTransferDescriptor). d.next) (kept.written j here) ∙ next_word (transfer_for s u) j s.pool rest

    alternate_is : overlay.alternate ≡ (record_at (transfer_for s u) j rest s.pool).alternate
    alternate_is = ap (λ (d : QueueTransferDescriptor). d.alternate) (kept.written j here)

    -- ---- a short packet

    module _ (may : may_end_short u ≡ true) (more : suc j < length u.places) where
      inward : comes_in u.request.direction ≡ true
      inward = (both_tells (comes_in u.request.direction) _ may).0

      other : is_control u.request.kind ≡ false
      other = by (is_control u.request.kind) refl (both_tells (not (is_control u.request.kind)) _ (both_tells (comes_in u.request.direction) _ may).1).0
        where
          by : (b : Bool) → is_control u.request.kind ≡ b → not (is_control u.request.kind) ≡ true → is_control u.request.kind ≡ false
          by true e n = absurd (false_true (sym (ap not e) ∙ n))
          by false e n = e

      leads_shared : alternate_of (transfer_for s u) false ≡ shared_address s
      leads_shared = by u.request.direction inward
        where
          by : (d : Direction) → comes_in d ≡ true → alternate_word u.request.kind d (shared_address s) ≡ shared_address s
          by Out e = absurd (false_true e)
          by In e = rw other

      not_last : is_last rest ≡ false
      not_last = ap is_last (rest_some (suc j) u.places more)

      shared_word : overlay.alternate ≡ word_of_next (Some (shared_address s))
      shared_word =
          alternate_is ∙ alternate_chunk (transfer_for s u) j s.pool rest u.request.kind refl other
          ∙ ap (alternate_of (transfer_for s u)) not_last ∙ leads_shared ∙ sym (address_word (shared_address s) (omega (arith, good.pool_aligned)))

      reads : (terminate overlay.alternate ≡ 0) × (qtd_address overlay.alternate ≡ shared_address s)
      reads =
          subst (λ (word : ℕ). (terminate word ≡ 0) × (qtd_address word ≡ shared_address s)) (sym shared_word)
          (next_reads (shared_address s) (omega (arith, good.pool_ends)) (omega (arith, good.pool_aligned)))

      module _ (short : ShortToken token) where
        by_alternate : pointer overlay ≡ overlay.alternate
        by_alternate = rw (ne_eqb (total_bytes token) 0 short.left_over, reads.0)

        at_shared : (memory_of s w.rows (shared_address s)).token ≡ 0
        unfolding terminated
        at_shared =
            let place : (shared_address s - s.pool) / 64 ≡ s.descriptors = omega arith in
            ap (λ (p : ℕ). (get_or w.rows.pool p blank).token) place ∙ ap (λ (d : QueueTransferDescriptor). d.token) sound.shared_stands

        once : visit (memory_of s w.rows) (done_with s w.rows u j token) ≡ done_with s w.rows u j token
        once =
            let q : Queue = done_with s w.rows u j token in
            let aside : eqb (active (memory_of s w.rows (shared_address s)).token) 1 ≡ false = ap (λ (n : ℕ). eqb (active n) 1) at_shared in
            let along : (x : ℕ) → pointer overlay ≡ x → terminate x ≡ 0 → qtd_address x ≡ shared_address s
            → cond (eqb (terminate (pointer overlay)) 1) q (begun_at (qtd_address (pointer overlay)) (memory_of s w.rows (qtd_address (pointer overlay))) q) ≡ q
            = λ x e t a. rw (e, t, a, aside) in
            rw (short.inactive, short.running) (along overlay.alternate by_alternate reads.0 reads.1)

        many : (n : ℕ) → visits (memory_of s w.rows) n (done_with s w.rows u j token) ≡ done_with s w.rows u j token
        many zero = refl
        many (suc n) = ap (visits (memory_of s w.rows) n) once ∙ many n

        pub stops_at : StopsAt s w.rows u j token
        stops_at =
            record {
              leads = ap (next_leads s) by_alternate ∙ (next_on s overlay.alternate s.descriptors).1 (reads.0, reads.1, omega arith);
              stays = many;
            }

    -- ---- by next

    last_alternate : suc j ≡ length u.places → overlay.alternate ≡ 1
    last_alternate e = alternate_is ∙ by (is_control u.request.kind) refl
      where
        ends : is_last rest ≡ true
        ends = ap is_last (rest_none (suc j) u.places (omega (arith, e)))

        by : (b : Bool) → is_control u.request.kind ≡ b → (record_at (transfer_for s u) j rest s.pool).alternate ≡ 1
        by true c = alternate_control (transfer_for s u) j s.pool rest u.request.kind refl c
        by false c =
            alternate_chunk (transfer_for s u) j s.pool rest u.request.kind refl c
            ∙ ap (alternate_of (transfer_for s u)) ends

    -- one that may not end short has alternate 1 throughout
    other_alternate : may_end_short u ≡ false → overlay.alternate ≡ 1
    other_alternate whole = by (is_control u.request.kind) refl u.request.direction refl (ltb 1 (length u.places)) refl
      where
        outward : (b : Bool) → u.request.direction ≡ Out → alternate_of (transfer_for s u) b ≡ 1
        outward true d = refl
        outward false d = rw d

        by : (c : Bool) → is_control u.request.kind ≡ c → (d : Direction) → u.request.direction ≡ d → (m : Bool) → ltb 1 (length u.places) ≡ m → overlay.alternate ≡ 1
        by true c d ed m em = alternate_is ∙ alternate_control (transfer_for s u) j s.pool rest u.request.kind refl c
        by false c Out ed m em =
            alternate_is ∙ alternate_chunk (transfer_for s u) j s.pool rest u.request.kind refl c ∙ outward (is_last rest) ed
        by false c In ed true em = absurd (false_true (sym whole ∙ rw (ed, c, em)))
        by false c In ed false em = last_alternate (omega (arith, here, ltb-false 1 (length u.places) em))

    goes_by_next : (may_end_short u ≡ false) ⊎ ((suc j ≡ length u.places) ⊎ (total_bytes token ≡ 0)) → pointer overlay ≡ overlay.next
    goes_by_next why = ⊎_elim (λ e. terminates (other_alternate e)) (λ x. ⊎_elim (λ e. terminates (last_alternate e)) empty x) why
      where
        either : (b : Bool) → cond (b && false) overlay.alternate overlay.next ≡ overlay.next
        either true = refl
        either false = refl

        terminates : overlay.alternate ≡ 1 → pointer overlay ≡ overlay.next
        terminates e =
            ap (λ (b : Bool). cond (not (eqb (total_bytes token) 0) && b) overlay.alternate overlay.next) (ap (λ (a : ℕ). eqb (terminate a) 0) e)
            ∙ either (not (eqb (total_bytes token) 0))

        empty : total_bytes token ≡ 0 → pointer overlay ≡ overlay.next
        empty e = rw (eq-eqb (total_bytes token) 0 e)

    next_leads_lem : next_leads s overlay.next ≡ following u j
    next_leads_lem = ap (next_leads s) next_is ∙ by (ltb (suc j) (length u.places)) refl
      where
        by : (b : Bool) → ltb (suc j) (length u.places) ≡ b → next_leads s (word_of_next (next_of s.pool rest)) ≡ cond (ltb (suc j) (length u.places)) (On (place_in u (suc j))) (Ends Terminated)
        by true e =
            let more : suc j < length u.places = ltb-true (suc j) (length u.places) e in
            let at : place_in u (suc j) < s.descriptors = each_at (λ (p : ℕ). p < s.descriptors) u.places (suc j) own_within more in
            let read = next_reads (address_of s.pool (place_in u (suc j))) (omega (arith, at, good.pool_ends)) (omega (arith, good.pool_aligned)) in
            ap (λ (l : List ℕ). next_leads s (word_of_next (next_of s.pool l))) (rest_some (suc j) u.places more)
            ∙ (next_on s (word_of_next (Some (address_of s.pool (place_in u (suc j))))) (place_in u (suc j))).1 (read.0, read.1, omega (arith, at))
            ∙ sym (ap (λ (b : Bool). cond b (On (place_in u (suc j))) (Ends Terminated)) e)
        by false e =
            ap (λ (l : List ℕ). next_leads s (word_of_next (next_of s.pool l))) (rest_none (suc j) u.places (ltb-false (suc j) (length u.places) e))
            ∙ (next_stops s (word_of_next None)).1 refl
            ∙ sym (ap (λ (b : Bool). cond b (On (place_in u (suc j))) (Ends Terminated)) e)

-- ---- of a run

pub shared_stands : EveryRun SharedStands core
unfolding terminated
shared_stands s w o cs =
    let now = world_of core w cs in
    let past = history_of core w cs in
    let at = held s w o cs in
    record {
      stands = at.0.shared_stands;
      lent_to_none = each_map (λ (p : ℕ). p < s.descriptors) (λ (p : ℕ). p ≡ s.descriptors → ⊥) (λ p l e. omega (arith, l, e)) (places_in_use (uses s past))
          (exclusive_holds core effect s past now at.0 at.1).within;
      met_by_none = every_map (Kept s now.state.owner (tenant_at now.state) now.rows.pool now.rows.heads) _
          (λ u kept. met_by_none s past now at.0 u kept) (uses s past) at.1.each;
    }

pub short_stops : EveryRun ShortStops core
short_stops s w o cs =
    let now = world_of core w cs in
    let past = history_of core w cs in
    let at = held s w o cs in
    every_map (Kept s now.state.owner (tenant_at now.state) now.rows.pool now.rows.heads) _
    (λ u kept may j token more short. stops_at s past now at.0 u kept j token (omega (arith, more)) may more short) (uses s past) at.1.each

pub full_goes_on : EveryRun FullGoesOn core
full_goes_on s w o cs =
    let now = world_of core w cs in
    let past = history_of core w cs in
    let at = held s w o cs in
    every_map (Kept s now.state.owner (tenant_at now.state) now.rows.pool now.rows.heads) _
    (λ u kept j token here why.
    ap (next_leads s) (goes_by_next s past now at.0 u kept j token here why) ∙ next_leads_lem s past now at.0 u kept j token here)
    (uses s past) at.1.each
