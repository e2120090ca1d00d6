-- No place is in two uses, and of the records of uses a call changes only the token of the place that it writes back.
use Prim.Native.Nat.{ℕ, ◌+◌, ◌<◌}
use mathlib.Core.Path.{◌≡◌, refl, sym, ap, subst, ◌∙◌}
use mathlib.Core.Logic.{inl, inr}
use mathlib.Core.List.{List, [], ◌∷◌, ◌++◌}
use native.Mathlib.Decide.{ℕ_discrete as dec_eq}
use native.Mathlib.Omega.{arith}
use lib.ListN.{get_or, length, set, take}
use lib.Seq.{get_or-set_other, get_or-set_same, length-take-le}
use Rattle.descriptor.specs.declared.qtd.QueueTransferDescriptor.{QueueTransferDescriptor}
use Rattle.pool.specs.Chains.{blank, with_token}
use Rattle.pool.specs.Places.{Ascending, Each, Within, places_from}
use Rattle.pool.proofs.ChainLaws.{fill_token}
use Rattle.pool.proofs.Each.{each_map}
use Rattle.pool.proofs.PlaceLaws.{places_ascend, places_hold, places_within}
use Rattle.settings.specs.declared.settings.Settings.{Settings}
use Rattle.request.proofs.SubmitLaws.{submit_records}
use Rattle.ehci.specs.declared.call.Call.{Call}
use Rattle.ehci.specs.Door.{Applied}
use Rattle.ehci.specs.Replies.{answered_number}
use Rattle.promises.specs.Runs.{History, Machine, Rows, Turn, World, in_plain, core, moment, rows_of, turn_of}
use Rattle.promises.specs.Rooms.{Distinct, Every, Exclusive, Led, RecordStays, TokenWritten, places_in_use}
use Rattle.promises.specs.Uses.{Use, uses}
use Rattle.promises.specs.Walks.{Walk, chain_end, chain_walk}
use Rattle.promises.proofs.effects.Effects.{Accepts, Effect, WritesBack, still, hears, joins, passes, counts, opens, closes, resizes, rewrites, accepts, writes_back, marks, unlinks, collects, clears}
use Rattle.promises.proofs.invariants.Sound.{Sound}
use Rattle.promises.proofs.invariants.UseInv.{Apart, Avoids, Held, Kept, every_map, tenant_at}
use Rattle.promises.proofs.invariants.UseQuiet.{each_all}
use Rattle.promises.proofs.invariants.UseSteps.{requested_place}

-- ---- lists

each_append : (P : ℕ → Type 0) (a b : List ℕ) → Each P a → Each P b → Each P (a ++ b)
each_append P [] b ea eb = eb
each_append P (p ∷ a) b ea eb = (ea.0, each_append P a b ea.1 eb)

distinct_append : (a b : List ℕ) → Distinct a → Distinct b → Each (λ p. Each (λ q. p ≡ q → ⊥) b) a → Distinct (a ++ b)
distinct_append [] b da db e = db
distinct_append (p ∷ a) b da db e = (each_append (λ q. p ≡ q → ⊥) a b da.0 e.0, distinct_append a b da.1 db e.1)

distinct_ascending : (ps : List ℕ) → Ascending ps → Distinct ps
distinct_ascending [] up = tt
distinct_ascending (p ∷ ps) up = (each_map (λ q. p < q) (λ q. p ≡ q → ⊥) (λ q l e. omega (arith, l, e)) ps up.0, distinct_ascending ps up.1)

module _ (w : World) (sound : Sound w.state.settings w) where
  abbrev s : Settings
  s = w.state.settings

  abbrev front : List ℕ
  front = take s.descriptors w.state.owner

  abbrev KeptHere : Use → Type 0
  KeptHere u = Kept s w.state.owner (tenant_at w.state) w.rows.pool w.rows.heads u

  -- what holds of the places of each use holds of all
  each_places : (P : ℕ → Type 0) (Q : Use → Type 0) → ((u : Use) → KeptHere u → Q u → Each P (places_from 0 front (u.slot + 1) 256))
      → (us : List Use) → Every KeptHere us → Every Q us → Each P (places_in_use us)
  each_places P Q f [] e q = tt
  each_places P Q f (u ∷ us) e q =
      each_append P u.places (places_in_use us) (subst (Each P) (sym e.0.places_are) (f u e.0 q.0)) (each_places P Q f us e.1 q.1)

  any : (us : List Use) → Every (λ u. Unit {0}) us
  any [] = tt
  any (u ∷ us) = (tt, any us)

  -- no place of a use is free
  owned : (us : List Use) → Every KeptHere us → Each (λ p. get_or front p 0 ≡ 0 → ⊥) (places_in_use us)
  owned us e =
      each_places (λ p. get_or front p 0 ≡ 0 → ⊥) (λ u. Unit {0})
      (λ u kept q. each_map (λ p. get_or front p 0 ≡ u.slot + 1) (λ p. get_or front p 0 ≡ 0 → ⊥) (λ p x z. omega (arith, x, z)) (places_from 0 front (u.slot + 1) 256) (places_hold front (u.slot + 1) 256)) us e (any us)

  -- and none of another slot's
  owned_not : (k : ℕ) (us : List Use) → Every KeptHere us → Avoids k us → Each (λ p. get_or front p 0 ≡ k + 1 → ⊥) (places_in_use us)
  owned_not k us e a =
      each_places (λ p. get_or front p 0 ≡ k + 1 → ⊥) (λ u. u.slot ≡ k → ⊥)
      (λ u kept ne. each_map (λ p. get_or front p 0 ≡ u.slot + 1) (λ p. get_or front p 0 ≡ k + 1 → ⊥) (λ p x z. ne (omega (arith, x, z))) (places_from 0 front (u.slot + 1) 256) (places_hold front (u.slot + 1) 256)) us e a

  all_distinct : (us : List Use) → Every KeptHere us → Apart us → Distinct (places_in_use us)
  all_distinct [] e a = tt
  all_distinct (u ∷ us) e a =
      distinct_append u.places (places_in_use us) (subst Distinct (sym e.0.places_are) (distinct_ascending (places_from 0 front (u.slot + 1) 256) (places_ascend 0 front (u.slot + 1) 256)))
      (all_distinct us e.1 a.1)
      (subst (Each (λ p. Each (λ q. p ≡ q → ⊥) (places_in_use us))) (sym e.0.places_are)
      (each_map (λ p. get_or front p 0 ≡ u.slot + 1) (λ p. Each (λ q. p ≡ q → ⊥) (places_in_use us))
      (λ p x. each_map (λ q. get_or front q 0 ≡ u.slot + 1 → ⊥) (λ q. p ≡ q → ⊥) (λ q n z. n (ap (λ (i : ℕ). get_or front i 0) (sym z) ∙ x)) (places_in_use us) (owned_not u.slot us e.1 a.0))
      (places_from 0 front (u.slot + 1) 256) (places_hold front (u.slot + 1) 256)))

  all_within : (us : List Use) → Every KeptHere us → Within s.descriptors (places_in_use us)
  all_within us e =
      each_places (λ p. p < s.descriptors) (λ u. Unit {0})
      (λ u kept q. subst (λ (n : ℕ). Within n (places_from 0 front (u.slot + 1) 256)) front_length (places_within front (u.slot + 1) 256)) us e (any us)
    where
      front_length : length front ≡ s.descriptors
      front_length = length-take-le s.descriptors w.state.owner (omega (arith, sound.ranges.good.descriptors_most, sound.owners))

  -- ---- records

  module _ (c : Call) (a : Applied) (us : List Use) (e : Every KeptHere us) where
    abbrev t : Turn
    t = turn_of w.rows c a

    -- the pool stays
    pool_stays : (rows : Rows) → rows_of a ≡ rows → rows.pool ≡ w.rows.pool → Each (RecordStays t) (places_in_use us)
    pool_stays rows q z = each_all (RecordStays t) (λ p. inl (ap (λ (r : Rows). get_or r.pool p blank) q ∙ ap (λ (l : List QueueTransferDescriptor). get_or l p blank) z)) (places_in_use us)

    submit_stays : Accepts w c a → Each (RecordStays t) (places_in_use us)
    submit_stays x =
        each_map (λ p. get_or front p 0 ≡ 0 → ⊥) (RecordStays t)
        (λ p n. inl (ap (λ (r : Rows). get_or r.pool p blank) x.rows_are ∙ submit_records w.state x.k p x.t w.rows.pool n)) (places_in_use us) (owned us e)

    token_written : WritesBack w c a → (p : ℕ) → RecordStays t p
    token_written x p = by (dec_eq p x.place)
      where
        after : (q : ℕ) → get_or a.pool q blank ≡ get_or (set w.rows.pool x.place (with_token (get_or w.rows.pool x.place blank) x.token)) q blank
        after q =
            ap (λ (r : Rows). get_or r.pool q blank) x.rows_are
            ∙ ap (λ (l : List QueueTransferDescriptor). get_or l q blank) (fill_token s.pool x.place x.token w.rows.pool)

        here : TokenWritten t x.place
        here =
            record {
              token = x.token;
              call_is = x.call_is;
              accepted = ap answered_number x.accepted;
              only_token = after x.place
                  ∙ get_or-set_same w.rows.pool x.place (with_token (get_or w.rows.pool x.place blank) x.token) blank (requested_place w c a [] sound x.place x.in_request_lem);
            }

        by : Dec (p ≡ x.place) → RecordStays t p
        by (yes q) = inr (subst (TokenWritten t) (sym q) here)
        by (no ne) = inl (after p ∙ get_or-set_other w.rows.pool x.place p (with_token (get_or w.rows.pool x.place blank) x.token) blank ne)

    records_stay : Effect w c a → Each (RecordStays t) (places_in_use us)
    records_stay (still x) = pool_stays _ x.rows_are refl
    records_stay (hears x) = pool_stays _ x.rows_are refl
    records_stay (joins x) = pool_stays _ x.rows_are refl
    records_stay (passes x) = pool_stays _ x.rows_are refl
    records_stay (counts x) = pool_stays _ x.rows_are refl
    records_stay (opens x) = pool_stays _ x.rows_are refl
    records_stay (closes x) = pool_stays _ x.rows_are refl
    records_stay (rewrites x) = pool_stays _ x.rows_are refl
    records_stay (resizes x) = pool_stays _ x.rows_are refl
    records_stay (clears x) = pool_stays _ x.rows_are refl
    records_stay (accepts x) = submit_stays x
    records_stay (writes_back x) = each_all (RecordStays t) (token_written x) (places_in_use us)
    records_stay (marks x) = pool_stays _ x.rows_are refl
    records_stay (unlinks x) = pool_stays _ x.rows_are refl
    records_stay (collects x) = pool_stays _ x.rows_are refl

-- ---- of every machine whose calls have these effects

pub exclusive_holds : (m : Machine in_plain) → ((w : World) (c : Call) → Effect w c (m w c)) → (s : Settings) (h : History) (w : World) → Sound s w → Held s h w → Exclusive s h (moment m w)
exclusive_holds m effect s h w sound = subst (λ (z : Settings). Sound z w → Held z h w → Exclusive z h (moment m w)) sound.settings_are here sound
  where
    here : Sound w.state.settings w → Held w.state.settings h w → Exclusive w.state.settings h (moment m w)
    here good held =
        record {
          distinct = all_distinct w good (uses w.state.settings h) held.each held.apart;
          within = all_within w good (uses w.state.settings h) held.each;
          records = λ c. records_stay w good c (m w c) (uses w.state.settings h) held.each (effect w c);
        }

pub led_holds : (s : Settings) (h : History) (w : World) → Held s h w → Every (Led s (moment core w)) (uses s h)
unfolding chain_walk chain_end
led_holds s h w held =
    every_map (Kept s w.state.owner (tenant_at w.state) w.rows.pool w.rows.heads) (Led s (moment core w))
    (λ u kept. record { leads = ap (λ (x : Walk). x.met) kept.leads; ends = ap (λ (x : Walk). x.end) kept.leads; as_many = kept.as_needed; in_order = kept.written }) (uses s h) held.each
