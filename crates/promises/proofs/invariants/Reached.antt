-- A run begins in what opening leaves, and every world of it is sound.
use Prim.Native.Nat.{ℕ, ◌-◌, ◌*◌}
use mathlib.Core.Bool.{Bool, true, false}
use mathlib.Core.List.{List, [], ◌∷◌}
use mathlib.Core.Path.{◌≡◌, refl, sym, ap, subst, ◌∙◌}
use native.Mathlib.Omega.{arith}
use lib.ListN.{length, length-replicate, replicate}
use Rattle.descriptor.specs.Descriptors.{terminated}
use Rattle.pool.proofs.ChainLaws.{row_last, has_row_length}
use Rattle.settings.specs.Settings.{frames_length, heads_length, settings_good, setups_length}
use Rattle.settings.specs.declared.settings.Settings.{Settings}
use Rattle.settings.proofs.SettingsLaws.{good_tells}
use Rattle.state.proofs.RangesLaws.{ranges_tell}
use Rattle.common.specs.declared.answer.Refusal.TheVariants.{InvalidParameter}
use Rattle.common.proofs.CheckLaws.{answers_apart}
use Rattle.opening.specs.Opening.{Opened, accepted_opening, fresh_state, opened_heads, opened_pool, refused_opening, rows_are_fit}
use Rattle.opening.proofs.OpenLaws.{fresh_in_ranges, heads_words, rows_make}
use Rattle.opening.proofs.OpenPool.{accepts, refuses_rows, refuses_settings}
use Rattle.ehci.specs.declared.call.Call.{Call}
use Rattle.promises.specs.Runs.{History, Opening, Rows, World, core, history_of, left_by, turn_of, world_of, world_opened}
use Rattle.ehci.specs.Door.{Applied}
use Rattle.promises.proofs.effects.Effects.{Effect}
use Rattle.promises.proofs.effects.EffectOf.{effect}
use Rattle.promises.proofs.invariants.Sound.{Sound}
use Rattle.promises.proofs.invariants.SoundKeeps.{sound_keeps}

-- the world that an accepted opening leaves
abbrev pub fresh_rows : Settings → Rows
fresh_rows s =
    record {
      pool = opened_pool s.descriptors;
      heads = opened_heads s.heads (heads_length s);
      frames = replicate frames_length 1;
      setups = replicate (setups_length s) 0;
    }

abbrev pub fresh_world : Settings → World
fresh_world s = record { state = fresh_state s; rows = fresh_rows s }

pub opening_is : (s : Settings) (w : World) → Opening s w → (settings_good s ≡ true) × (w ≡ fresh_world s)
unfolding refused_opening accepted_opening
opening_is s w o = by (settings_good s) refl (rows_are_fit s (length l.pool) (length l.heads) (length l.frames) (length l.setups)) refl
  where
    l : Rows
    l = o.lent

    by : (g : Bool) → settings_good s ≡ g → (f : Bool) → rows_are_fit s (length l.pool) (length l.heads) (length l.frames) (length l.setups) ≡ f
        → (settings_good s ≡ true) × (w ≡ fresh_world s)
    by false e f q =
        absurd
        (answers_apart InvalidParameter
        (sym (ap (λ (x : Opened). x.opening.answer) (refuses_settings s l.pool l.heads l.frames l.setups e)) ∙ o.accepted))
    by true e false q =
        absurd
        (answers_apart InvalidParameter
        (sym (ap (λ (x : Opened). x.opening.answer) (refuses_rows s l.pool l.heads l.frames l.setups e q)) ∙ o.accepted))
    by true e true q = (e, o.left ∙ ap world_opened (accepts s l.pool l.heads l.frames l.setups e q))

fresh_sound : (s : Settings) → settings_good s ≡ true → Sound s (fresh_world s)
unfolding fresh_state
fresh_sound s e =
    let g = good_tells s e in
    record {
      settings_are = refl;
      ranges = ranges_tell (fresh_state s) (fresh_in_ranges s e);
      wide = record {
        phases_wide = length-replicate {A = ℕ} 32 0;
        kinds_wide = length-replicate {A = ℕ} 32 0;
        sizes_wide = length-replicate {A = ℕ} 32 0;
        toggles_wide = length-replicate {A = ℕ} 32 0;
        ids_wide = length-replicate {A = ℕ} 32 1;
        requests_wide = length-replicate {A = ℕ} 32 0;
        directions_wide = length-replicate {A = ℕ} 32 0;
        lengths_wide = length-replicate {A = ℕ} 32 0;
        cancels_wide = length-replicate {A = ℕ} 32 0;
        boundaries_wide = length-replicate {A = ℕ} 32 0;
      };
      owners = length-replicate {A = ℕ} 256 0;
      pool_fits_lem = has_row_length s.descriptors terminated;
      shared_stands = row_last s.descriptors terminated;
      heads_fit = ap (λ (x : List ℕ). length x) (heads_words s g) ∙ omega (arith, length-replicate {A = ℕ} (heads_length s - 6) 0, g.endpoints_least);
      frames_fit = length-replicate {A = ℕ} 1024 1;
      setups_fit = length-replicate {A = ℕ} (8 * s.endpoints) 0;
    }

-- lent the rows that it leaves, it is accepted and leaves them so
pub opens_fresh : (s : Settings) → settings_good s ≡ true → Opening s (fresh_world s)
unfolding accepted_opening
opens_fresh s e =
    let g = fresh_sound s e in
    let rows = fresh_rows s in
    let fit =
    rows_make s _ _ _ _ (record { pool_fits_lem = g.pool_fits_lem; heads_fit = g.heads_fit; frames_fit = g.frames_fit; setups_fit = g.setups_fit }) in
    let whole = accepts s rows.pool rows.heads rows.frames rows.setups e fit in
    record { lent = rows; accepted = ap (λ (o : Opened). o.opening.answer) whole; left = sym (ap world_opened whole); fresh = tt }

pub sound_opens : (s : Settings) (w : World) → Opening s w → Sound s w
sound_opens s w o =
    let is = opening_is s w o in
    subst (λ (x : World). Sound s x) (sym is.1) (fresh_sound s is.0)

-- what opening has and every effect on a sound world keeps, every world of a run has
module _ (Inv : Settings → History → World → Type 0) (begins : (s : Settings) (w : World) → Opening s w → Inv s [] w)
    (keeps : (s : Settings) (h : History) (w : World) (c : Call) (a : Applied) → Sound s w → Inv s h w → Effect w c a → Inv s (turn_of w.rows c a ∷ h) (left_by a)) where
  pub reached : (s : Settings) (w : World) → Opening s w → (cs : List Call) → Sound s (world_of core w cs) × Inv s (history_of core w cs) (world_of core w cs)
  unfolding world_of history_of
  reached s w o [] = (sound_opens s w o, begins s w o)
  reached s w o (c ∷ cs) =
      let before = reached s w o cs in
      let now = world_of core w cs in (
        sound_keeps s now c (core now c) before.0 (effect now c),
        keeps s (history_of core w cs) now c (core now c) before.0 before.1 (effect now c),
      )
