-- Every world of a run is in its ranges, its rows have the lengths that opening fixed, and the shared descriptor stands.
use Prim.Native.Nat.{ℕ, ◌+◌, ◌*◌, ◌≤◌, ◌<◌}
use mathlib.Core.Bool.{true}
use mathlib.Core.List.{List}
use mathlib.Core.Path.{◌≡◌, sym, ap, subst, ◌∙◌}
use native.Mathlib.Omega.{arith}
use lib.ListN.{get_or, length}
use Rattle.descriptor.specs.Descriptors.{terminated}
use Rattle.pool.specs.Chains.{blank}
use Rattle.settings.specs.declared.settings.Settings.{Settings}
use Rattle.settings.specs.Settings.{pool_length}
use Rattle.state.specs.Slots.{with_slot}
use Rattle.state.specs.Plain.{Ehci}
use Rattle.state.specs.Ranges.{in_ranges}
use Rattle.state.proofs.RangesLaws.{Ranges, ranges_make}
use Rattle.pipe.specs.Endpoints.{encoded, endpoint_at, with_endpoint}
use Rattle.pipe.specs.declared.endpoints.Endpoint.{Endpoint}
use Rattle.pipe.proofs.EndpointLaws.{EndpointGood, Wide, slot_wide}
use Rattle.controller.specs.Readers.{has_endpoint, is_opened}
use Rattle.controller.specs.Lent.{accepts_of, lengths}
use Rattle.controller.proofs.ReaderLaws.{open_below, open_within}
use Rattle.collection.proofs.SlotFacts.{endpoint_good}
use Rattle.ehci.specs.Door.{Applied}
use Rattle.promises.specs.Runs.{Rows, World, left_by, rows_of}
use Rattle.promises.proofs.effects.Effects.{Sides, besides, with_heads}
use Rattle.common.proofs.TestLaws.{both_makes}
use Rattle.opening.specs.Opening.{rows_are_fit}
use Rattle.opening.proofs.OpenLaws.{rows_make}

pub record Sound (s : Settings) (w : World) : Type 0 where
  pub settings_are : w.state.settings ≡ s
  pub ranges : Ranges w.state
  pub wide : Wide w.state
  pub owners : length w.state.owner ≡ 256
  pub pool_fits_lem : length w.rows.pool ≡ pool_length s
  pub shared_stands : get_or w.rows.pool s.descriptors blank ≡ terminated
  pub heads_fit : length w.rows.heads ≡ 17 * (s.endpoints + 1)
  pub frames_fit : length w.rows.frames ≡ 1024
  pub setups_fit : length w.rows.setups ≡ 8 * s.endpoints

-- ---- in two halves: the state, and the rows

pub record StateSound (s : Settings) (st : Ehci) : Type 0 where
  pub settings_are : st.settings ≡ s
  pub ranges : Ranges st
  pub wide : Wide st
  pub owners : length st.owner ≡ 256

pub record RowsSound (s : Settings) (rows : Rows) : Type 0 where
  pub pool_fits_lem : length rows.pool ≡ pool_length s
  pub shared_stands : get_or rows.pool s.descriptors blank ≡ terminated
  pub heads_fit : length rows.heads ≡ 17 * (s.endpoints + 1)
  pub frames_fit : length rows.frames ≡ 1024
  pub setups_fit : length rows.setups ≡ 8 * s.endpoints

pub both_sound : (s : Settings) (a : Applied) (st : Ehci) (rows : Rows) → a.reply.state ≡ st → rows_of a ≡ rows → StateSound s st → RowsSound s rows
    → Sound s (left_by a)
both_sound s a st rows es er x y =
    let x' : StateSound s a.reply.state = subst (λ (z : Ehci). StateSound s z) (sym es) x in
    let y' : RowsSound s (rows_of a) = subst (λ (z : Rows). RowsSound s z) (sym er) y in
    record {
      settings_are = x'.settings_are;
      ranges = x'.ranges;
      wide = x'.wide;
      owners = x'.owners;
      pool_fits_lem = y'.pool_fits_lem;
      shared_stands = y'.shared_stands;
      heads_fit = y'.heads_fit;
      frames_fit = y'.frames_fit;
      setups_fit = y'.setups_fit;
    }

module _ (s : Settings) (w : World) (g : Sound s w) where
  pub state_sound : StateSound s w.state
  state_sound = record { settings_are = g.settings_are; ranges = g.ranges; wide = g.wide; owners = g.owners }

  pub rows_sound : RowsSound s w.rows
  rows_sound = record { pool_fits_lem = g.pool_fits_lem; shared_stands = g.shared_stands; heads_fit = g.heads_fit; frames_fit = g.frames_fit; setups_fit = g.setups_fit }

  -- by the settings that its state has
  pub of_state : Sound w.state.settings w
  of_state = subst (λ (z : Settings). Sound z w) (sym g.settings_are) g

  -- ---- the door lets every call in

  pub rows_fit : rows_are_fit w.state.settings (length w.rows.pool) (length w.rows.heads) (length w.rows.frames) (length w.rows.setups) ≡ true
  rows_fit =
      rows_make w.state.settings _ _ _ _
      (record { pool_fits_lem = of_state.pool_fits_lem; heads_fit = of_state.heads_fit; frames_fit = of_state.frames_fit; setups_fit = of_state.setups_fit })

  pub is_let_in : accepts_of w.state (lengths (length w.rows.pool) (length w.rows.heads) (length w.rows.frames) (length w.rows.setups)) ≡ true
  unfolding accepts_of
  is_let_in = both_makes _ (in_ranges w.state) rows_fit (ranges_make w.state g.ranges)

  -- ---- rows

  pub heads_sound : (hs : List ℕ) → length hs ≡ length w.rows.heads → RowsSound s (with_heads w.rows hs)
  heads_sound hs e =
      record { pool_fits_lem = g.pool_fits_lem; shared_stands = g.shared_stands; heads_fit = e ∙ g.heads_fit; frames_fit = g.frames_fit; setups_fit = g.setups_fit }

  -- ---- states

  -- what stands beside is of no account
  pub sides_wide : (x : Sides) (st : Ehci) → Wide st → Wide (besides st x)
  sides_wide x st v =
      record {
        phases_wide = v.phases_wide;
        kinds_wide = v.kinds_wide;
        sizes_wide = v.sizes_wide;
        toggles_wide = v.toggles_wide;
        ids_wide = v.ids_wide;
        requests_wide = v.requests_wide;
        directions_wide = v.directions_wide;
        lengths_wide = v.lengths_wide;
        cancels_wide = v.cancels_wide;
        boundaries_wide = v.boundaries_wide;
      }

  pub sides_sound : (x : Sides) → Ranges (besides w.state x) → StateSound s (besides w.state x)
  sides_sound x r = record { settings_are = g.settings_are; ranges = r; wide = sides_wide x w.state g.wide; owners = g.owners }

  -- one slot's endpoint is replaced
  pub endpoint_sound : (k : ℕ) (x : Endpoint) → Ranges (with_endpoint w.state k x) → StateSound s (with_endpoint w.state k x)
  unfolding with_endpoint with_slot
  endpoint_sound k x r =
      record { settings_are = g.settings_are; ranges = r; wide = slot_wide w.state k (encoded x) g.wide; owners = g.owners }

  -- a slot that is not closed is one of the controller's
  module _ (k : ℕ) (x : Endpoint) (at : endpoint_at w.state k ≡ x) (held : has_endpoint x ≡ true) where
    is_open : is_opened w.state k ≡ true
    is_open = ap has_endpoint at ∙ held

    pub slot_low : k < 32
    slot_low = open_below w.state k is_open

    pub slot_below : k < w.state.settings.endpoints
    slot_below = open_within w.state k g.ranges is_open

    pub slot_good_lem : EndpointGood w.state.settings.limit w.state.unanswered x
    slot_good_lem = subst (λ (y : Endpoint). EndpointGood w.state.settings.limit w.state.unanswered y) at (endpoint_good w.state k g.ranges slot_low)

    -- its head is in the row
    pub head_within : 17 * (k + 1) + 17 ≤ length w.rows.heads
    head_within =
        let e : w.state.settings.endpoints ≡ s.endpoints = ap (λ (z : Settings). z.endpoints) g.settings_are in
        omega (arith, slot_below, g.heads_fit, e)
