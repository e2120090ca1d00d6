-- What ties the doorbell and the slots to the history; and that it lasts, by kinds of turn.
use Prim.Native.Nat.{ℕ, suc, ◌+◌, ◌-◌, ◌≤◌, ◌<◌}
use mathlib.Core.Bool.{Bool, true, false, not, true≢false, ◌&&◌}
use mathlib.Core.List.{[], ◌∷◌}
use mathlib.Core.Path.{◌≡◌, refl, sym, ap, subst, ◌∙◌}
use native.Mathlib.Decide.{ℕ_discrete as dec_eq}
use native.Mathlib.Omega.{arith}
use borrow.Author.Tests.{eqb-true, eqb-false, le-ltb, leb-false, leb-true, lt-ltb, ltb-false, ltb-true}
use lib.Dec.{eqb, leb, ltb}
use Rattle.settings.specs.declared.settings.Settings.{Settings}
use Rattle.pipe.specs.Endpoints.{flag_number}
use Rattle.pipe.specs.declared.endpoints.Endpoint.{Endpoint}
use Rattle.pipe.specs.declared.endpoints.Endpoint.TheVariants.{Closed}
use Rattle.promises.specs.Runs.{History, Turn}
use Rattle.promises.specs.Events.{event, rings}
use Rattle.promises.specs.Bells.{Answered, Bell, Quiet, Rung, asked, bell, counted, drains, heard, is_answered, is_up, linked, next, parting, reads, unlinking, unlinks}
use Rattle.promises.proofs.invariants.BellWaiting.{fallen, most, waiting, waiting_fall, waiting_none, waiting_same, waiting_set, waits_for}
use Rattle.promises.proofs.invariants.BellSlots.{Aside, Slot, slot_falls, slot_on}

-- of a state: noted, doorbell, unanswered, pending, and each slot's endpoint
pub record BellInv (s : Settings) (h : History) (n d u p : ℕ) (f : ℕ → Endpoint) : Type 0 where
  pub up : d ≡ flag_number (is_up (bell s h))
  pub note : n ≡ flag_number (is_answered (bell s h))
  -- so a drain that would say Nothing has nothing to count
  pub pend : n ≡ 1 → p ≡ 0 → ⊥
  pub owing : asked s h ≡ counted s h + u
  pub owed : is_up (bell s h) ≡ ltb 0 u
  -- each of 1 to u is waited for by exactly one slot
  pub each : (v : ℕ) → waiting (suc v) f 32 ≡ flag_number (ltb v u)
  pub slot : (k : ℕ) → Slot s k h u (f k)

-- ---- a turn that leaves the bell and the numbers alone

pub record Calm (s : Settings) (t : Turn) (h : History) : Type 0 where
  pub no_ring : rings t ≡ false
  pub no_read : reads s t ≡ false
  pub no_count : (drains s t && is_answered (bell s h)) ≡ false
  pub no_unlink : unlinks s t ≡ false

module _ (s : Settings) (t : Turn) (h : History) (calm : Calm s t h) where
  pub calm_bell : bell s (t ∷ h) ≡ bell s h
  unfolding bell
  calm_bell = rw (calm.no_ring, calm.no_read) (go (drains s t) (bell s h) calm.no_count)
    where
      go : (a : Bool) (b : Bell) → (a && is_answered b) ≡ false → next false false a b ≡ b
      go false b e = refl
      go true Quiet e = refl
      go true Rung e = refl
      go true Answered e = absurd (true≢false e)

  pub calm_counted : counted s (t ∷ h) ≡ counted s h
  unfolding counted
  calm_counted = rw calm.no_count (omega arith)

  pub calm_asked : asked s (t ∷ h) ≡ asked s h
  unfolding asked
  calm_asked = rw calm.no_unlink (omega arith)

  -- slots may change where nobody waits
  pub calm_inv : (n d u p p' : ℕ) (f f' : ℕ → Endpoint) → BellInv s h n d u p f → (n ≡ 1 → p' ≡ 0 → ⊥)
      → ((v k : ℕ) → waits_for (suc v) (f' k) ≡ waits_for (suc v) (f k)) → ((k : ℕ) → Slot s k (t ∷ h) u (f' k)) → BellInv s (t ∷ h) n d u p' f'
  calm_inv n d u p p' f f' g pends same slots = record {
    up = g.up ∙ ap (λ (b : Bell). flag_number (is_up b)) (sym calm_bell);
    note = g.note ∙ ap (λ (b : Bell). flag_number (is_answered b)) (sym calm_bell);
    pend = pends;
    owing = omega (arith, calm_asked, calm_counted, g.owing);
    owed = ap is_up calm_bell ∙ g.owed;
    each = λ v. waiting_same (suc v) f' f 32 (same v) ∙ g.each v;
    slot = slots;
  }

  -- no slot changes
  pub still_inv : (n d u p p' : ℕ) (f f' : ℕ → Endpoint) → BellInv s h n d u p f → (n ≡ 1 → p' ≡ 0 → ⊥)
      → ((k : ℕ) → f' k ≡ f k) → ((k : ℕ) → Aside k (event s t)) → BellInv s (t ∷ h) n d u p' f'
  still_inv n d u p p' f f' g pends same aside =
      calm_inv n d u p p' f f' g pends (λ v k. ap (waits_for (suc v)) (same k))
      (λ k. subst (Slot s k (t ∷ h) u) (sym (same k)) (slot_on s k t h (aside k) calm_counted u u (omega arith) (f k) (g.slot k)))

  -- one slot changes
  pub one_inv : (n d u p p' : ℕ) (f f' : ℕ → Endpoint) → BellInv s h n d u p f → (n ≡ 1 → p' ≡ 0 → ⊥)
      → (k : ℕ) (x : Endpoint) → f' k ≡ x → ((j : ℕ) → (j ≡ k → ⊥) → f' j ≡ f j) → ((v : ℕ) → waits_for (suc v) x ≡ waits_for (suc v) (f k))
      → Slot s k (t ∷ h) u x → ((j : ℕ) → (j ≡ k → ⊥) → Aside j (event s t)) → BellInv s (t ∷ h) n d u p' f'
  one_inv n d u p p' f f' g pends k x mine others waits slot aside =
      calm_inv n d u p p' f f' g pends (λ v j. waits_at v j (dec_eq j k)) (λ j. slot_at_lem j (dec_eq j k))
    where
      waits_at : (v j : ℕ) → Dec (j ≡ k) → waits_for (suc v) (f' j) ≡ waits_for (suc v) (f j)
      waits_at v j (yes e) = ap (λ (i : ℕ). waits_for (suc v) (f' i)) e ∙ ap (waits_for (suc v)) mine ∙ waits v ∙ ap (λ (i : ℕ). waits_for (suc v) (f i)) (sym e)
      waits_at v j (no ne) = ap (waits_for (suc v)) (others j ne)

      slot_at_lem : (j : ℕ) → Dec (j ≡ k) → Slot s j (t ∷ h) u (f' j)
      slot_at_lem j (yes e) = subst (λ (i : ℕ). Slot s i (t ∷ h) u (f' i)) (sym e) (subst (Slot s k (t ∷ h) u) (sym mine) slot)
      slot_at_lem j (no ne) = subst (Slot s j (t ∷ h) u) (sym (others j ne)) (slot_on s j t h (aside j ne) calm_counted u u (omega arith) (f j) (g.slot j))

-- ---- an acknowledgment that reads the advance bit

heard_up : (b : Bell) → is_up (heard b) ≡ is_up b
heard_up Quiet = refl
heard_up Rung = refl
heard_up Answered = refl

heard_answered : (b : Bell) → is_answered (heard b) ≡ is_up b
heard_answered Quiet = refl
heard_answered Rung = refl
heard_answered Answered = refl

module _ (s : Settings) (t : Turn) (h : History) (quiet : rings t ≡ false) (read : reads s t ≡ true) (no-drain : drains s t ≡ false) (no_unlink : unlinks s t ≡ false) (aside : (k : ℕ) → Aside k (event s t)) where
  pub read_bell : bell s (t ∷ h) ≡ heard (bell s h)
  unfolding bell
  read_bell = rw (quiet, read)

  read_counted : counted s (t ∷ h) ≡ counted s h
  unfolding counted
  read_counted = rw no-drain (omega arith)

  read_asked : asked s (t ∷ h) ≡ asked s h
  unfolding asked
  read_asked = rw no_unlink (omega arith)

  -- noted, if the doorbell is up
  pub read_inv : (n d u p p' n' : ℕ) (f f' : ℕ → Endpoint) → BellInv s h n d u p f → n' ≡ d → (p' ≡ 0 → ⊥) → ((k : ℕ) → f' k ≡ f k) → BellInv s (t ∷ h) n' d u p' f'
  read_inv n d u p p' n' f f' g note pends same = record {
    up = g.up ∙ ap flag_number (sym (ap is_up read_bell ∙ heard_up (bell s h)));
    note = note ∙ g.up ∙ ap flag_number (sym (ap is_answered read_bell ∙ heard_answered (bell s h)));
    pend = λ _. pends;
    owing = omega (arith, read_asked, read_counted, g.owing);
    owed = ap is_up read_bell ∙ heard_up (bell s h) ∙ g.owed;
    each = λ v. waiting_same (suc v) f' f 32 (λ k. ap (waits_for (suc v)) (same k)) ∙ g.each v;
    slot = λ k. subst (Slot s k (t ∷ h) u) (sym (same k)) (slot_on s k t h (aside k) read_counted u u (omega arith) (f k) (g.slot k));
  }

-- ---- an unlink: slot k takes the number after the last

module _ (s : Settings) (h : History) (n d u p : ℕ) (f f' : ℕ → Endpoint) (g : BellInv s h n d u p f) (k : ℕ) (known : k < 32)
    (others : (j : ℕ) → (j ≡ k → ⊥) → f' j ≡ f j) (was : (v : ℕ) → waits_for v (f k) ≡ false) (is : (v : ℕ) → waits_for v (f' k) ≡ eqb (u + 1) v) where
  joins : (x y a b c e : ℕ) → y + a ≡ x + b → a ≡ 0 → b ≡ c → x ≡ e → y ≡ c + e
  joins x y a b c e q qa qb qx = omega arith

  -- one more waits, for u + 1
  count : (v : ℕ) → waiting (suc v) f' 32 ≡ flag_number (eqb (u + 1) (suc v)) + flag_number (ltb v u)
  count v =
      joins (waiting (suc v) f 32) (waiting (suc v) f' 32) (flag_number (waits_for (suc v) (f k))) (flag_number (waits_for (suc v) (f' k)))
      (flag_number (eqb (u + 1) (suc v))) (flag_number (ltb v u)) (waiting_set (suc v) f f' k others 32 known) (ap flag_number (was (suc v))) (ap flag_number (is (suc v))) (g.each v)

  each_at : (v : ℕ) (b : Bool) → eqb (u + 1) (suc v) ≡ b → waiting (suc v) f' 32 ≡ flag_number (ltb v (u + 1))
  each_at v true e =
      let now : flag_number (ltb v (u + 1)) ≡ 1 = ap flag_number (lt-ltb v (u + 1) (omega (arith, eqb-true (u + 1) (suc v) e))) in
      let before : flag_number (ltb v u) ≡ 0 = ap flag_number (le-ltb v u (omega (arith, eqb-true (u + 1) (suc v) e))) in
      count v ∙ omega (arith, now, before, ap flag_number e)
  each_at v false e = count v ∙ omega (arith, ap flag_number same_test, ap flag_number e)
    where
      go : (b : Bool) → ltb v u ≡ b → ltb v u ≡ ltb v (u + 1)
      go true e' = e' ∙ sym (lt-ltb v (u + 1) (omega (arith, ltb-true v u e')))
      go false e' = e' ∙ sym (le-ltb v (u + 1) (omega (arith, ltb-false v u e', eqb-false (u + 1) (suc v) e)))

      same_test : ltb v u ≡ ltb v (u + 1)
      same_test = go (ltb v u) refl

  -- so there is a number left for it
  pub room : u < 32
  room = omega (arith, most (u + 1) f' 32 (λ v. each_at v (eqb (u + 1) (suc v)) refl))

  module _ (t : Turn) (no_read : reads s t ≡ false) (no-drain : drains s t ≡ false) (one-asked : unlinks s t ≡ true) (rung : rings t ≡ eqb d 0) where
    pub unlink_counted : counted s (t ∷ h) ≡ counted s h
    unfolding counted
    unlink_counted = rw no-drain (omega arith)

    pub unlink_asked : asked s (t ∷ h) ≡ asked s h + 1
    unfolding asked
    unlink_asked = rw one-asked (omega arith)

    down : (b : Bool) → is_up (bell s h) ≡ b → eqb d 0 ≡ not b
    down true e = ap (λ (x : ℕ). eqb x 0) (g.up ∙ ap flag_number e)
    down false e = ap (λ (x : ℕ). eqb x 0) (g.up ∙ ap flag_number e)

    -- nothing was owed: it rings; else it does not, and the bell stays
    pub bell_rung : u ≡ 0 → bell s (t ∷ h) ≡ Rung
    unfolding bell
    bell_rung z = rw (rung ∙ down false (g.owed ∙ le-ltb 0 u (omega arith)))

    pub bell_same : 1 ≤ u → bell s (t ∷ h) ≡ bell s h
    unfolding bell
    bell_same o = rw (rung ∙ down true (g.owed ∙ lt-ltb 0 u o), no_read, no-drain)

    up_after : (b : Bool) → ltb 0 u ≡ b → is_up (bell s (t ∷ h)) ≡ true
    up_after true e = ap is_up (bell_same (ltb-true 0 u e)) ∙ (g.owed ∙ e)
    up_after false e = ap is_up (bell_rung (omega (arith, ltb-false 0 u e)))

    not_up : (b : Bell) → is_up b ≡ false → is_answered b ≡ false
    not_up Quiet e = refl
    not_up Rung e = refl
    not_up Answered e = e

    note_after_lem : (b : Bool) → ltb 0 u ≡ b → is_answered (bell s h) ≡ is_answered (bell s (t ∷ h))
    note_after_lem true e = ap is_answered (sym (bell_same (ltb-true 0 u e)))
    note_after_lem false e = not_up (bell s h) (g.owed ∙ e) ∙ ap is_answered (sym (bell_rung (omega (arith, ltb-false 0 u e))))

    pub unlink_inv : Slot s k (t ∷ h) (u + 1) (f' k) → ((j : ℕ) → (j ≡ k → ⊥) → Aside j (event s t)) → BellInv s (t ∷ h) n 1 (u + 1) p f'
    unlink_inv mine aside = record {
      up = ap flag_number (sym (up_after (ltb 0 u) refl));
      note = g.note ∙ ap flag_number (note_after_lem (ltb 0 u) refl);
      pend = g.pend;
      owing = omega (arith, unlink_asked, unlink_counted, g.owing);
      owed = up_after (ltb 0 u) refl ∙ sym (lt-ltb 0 (u + 1) (omega arith));
      each = λ v. each_at v (eqb (u + 1) (suc v)) refl;
      slot = λ j. slot_at_lem j (dec_eq j k);
    }
      where
        slot_at_lem : (j : ℕ) → Dec (j ≡ k) → Slot s j (t ∷ h) (u + 1) (f' j)
        slot_at_lem j (yes e) = subst (λ (i : ℕ). Slot s i (t ∷ h) (u + 1) (f' i)) (sym e) mine
        slot_at_lem j (no ne) = subst (Slot s j (t ∷ h) (u + 1)) (sym (others j ne)) (slot_on s j t h (aside j ne) unlink_counted u (u + 1) (omega arith) (f j) (g.slot j))

-- ---- a drain that counts an advance

module _ (s : Settings) (t : Turn) (h : History) (n d u p : ℕ) (f f' : ℕ → Endpoint) (g : BellInv s h n d u p f) (noted : n ≡ 0 → ⊥)
    (a-drain : drains s t ≡ true) (no_read : reads s t ≡ false) (no_unlink : unlinks s t ≡ false) (rung : rings t ≡ leb 1 (u - 1))
    (aside : (k : ℕ) → Aside k (event s t)) (falls : (k : ℕ) → f' k ≡ fallen (f k)) where
  pub answered : bell s h ≡ Answered
  answered = go (bell s h) refl
    where
      go : (b : Bell) → bell s h ≡ b → b ≡ Answered
      go Quiet e = absurd (noted (g.note ∙ ap (λ (b : Bell). flag_number (is_answered b)) e))
      go Rung e = absurd (noted (g.note ∙ ap (λ (b : Bell). flag_number (is_answered b)) e))
      go Answered e = refl

  pub some_owed : 1 ≤ u
  some_owed = ltb-true 0 u (sym g.owed ∙ ap is_up answered)

  drain_counted : counted s (t ∷ h) ≡ counted s h + 1
  unfolding counted
  drain_counted = rw (a-drain, answered) (omega arith)

  drain_asked : asked s (t ∷ h) ≡ asked s h
  unfolding asked
  drain_asked = rw no_unlink (omega arith)

  pub bell_again : leb 1 (u - 1) ≡ true → bell s (t ∷ h) ≡ Rung
  unfolding bell
  bell_again e = rw (rung ∙ e)

  pub bell_quiet : leb 1 (u - 1) ≡ false → bell s (t ∷ h) ≡ Quiet
  unfolding bell
  bell_quiet e = rw (rung ∙ e, no_read, a-drain, answered)

  not_answered : (b : Bool) → leb 1 (u - 1) ≡ b → is_answered (bell s (t ∷ h)) ≡ false
  not_answered true e = ap is_answered (bell_again e)
  not_answered false e = ap is_answered (bell_quiet e)

  up_again : (b : Bool) → leb 1 (u - 1) ≡ b → is_up (bell s (t ∷ h)) ≡ leb 1 (u - 1)
  up_again true e = ap is_up (bell_again e) ∙ sym e
  up_again false e = ap is_up (bell_quiet e) ∙ sym e

  fewer : (b : Bool) → leb 1 (u - 1) ≡ b → leb 1 (u - 1) ≡ ltb 0 (u - 1)
  fewer true e = e ∙ sym (lt-ltb 0 (u - 1) (omega (arith, leb-true 1 (u - 1) e)))
  fewer false e = e ∙ sym (le-ltb 0 (u - 1) (omega (arith, leb-false 1 (u - 1) e)))

  fewer_each : (v : ℕ) (b : Bool) → ltb (suc v) u ≡ b → ltb (suc v) u ≡ ltb v (u - 1)
  fewer_each v true e = e ∙ sym (lt-ltb v (u - 1) (omega (arith, ltb-true (suc v) u e)))
  fewer_each v false e = e ∙ sym (le-ltb v (u - 1) (omega (arith, ltb-false (suc v) u e)))

  pub drain_inv : (p' : ℕ) → BellInv s (t ∷ h) 0 (flag_number (leb 1 (u - 1))) (u - 1) p' f'
  drain_inv p' = record {
    up = ap flag_number (sym (up_again (leb 1 (u - 1)) refl));
    note = ap flag_number (sym (not_answered (leb 1 (u - 1)) refl));
    pend = λ e. absurd (omega arith);
    owing = omega (arith, drain_asked, drain_counted, g.owing, some_owed);
    owed = up_again (leb 1 (u - 1)) refl ∙ fewer (leb 1 (u - 1)) refl;
    each = λ v. waiting_fall v f f' falls 32 ∙ (g.each (suc v) ∙ ap flag_number (fewer_each v (ltb (suc v) u) refl));
    slot = λ k. subst (Slot s k (t ∷ h) (u - 1)) (sym (falls k)) (slot_falls s k t h (aside k) drain_counted u (f k) (g.slot k));
  }

-- ---- opening: every slot is closed

pub opening_inv : (s : Settings) (f : ℕ → Endpoint) → ((k : ℕ) → f k ≡ Closed) → BellInv s [] 0 0 0 0 f
unfolding bell counted asked unlinking linked parting
opening_inv s f closed = record {
  up = refl;
  note = refl;
  pend = λ e. absurd (omega arith);
  owing = omega arith;
  owed = sym (le-ltb 0 0 (omega arith));
  each = λ v. waiting_none (suc v) f closed 32 ∙ ap flag_number (sym (le-ltb v 0 (omega arith)));
  slot = λ k. subst (Slot s k [] 0) (sym (closed k)) (record { off = refl; in_ring = refl; in_frames = refl });
}
