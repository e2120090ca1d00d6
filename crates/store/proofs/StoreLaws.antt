-- What is promised of a store.
use Rattle.std.specs.Prelude.{◌≡◌, true, Err, Result, ⊤}
use native.Mathlib.Omega.{arith}
use Rattle.common.specs.declared.answer.Refusal.{Refusal}
use Rattle.settings.specs.declared.settings.Settings.{Settings}
use Rattle.settings.specs.Settings.{heads_length, pool_length, settings_good, setups_length}
use Rattle.settings.proofs.SettingsLaws.{good_tells}
use Rattle.store.specs.Plain.{OpenedRows, Store}
use Rattle.store.specs.Stores.{bytes_lent, open_store, records_lent, words_lent, store_opened}

-- of good settings nothing is clipped: a call is lent rows of the lengths that opening fixed
module _ (s : Settings) (good : settings_good s ≡ true) where
  pub records_lent_lem : records_lent s ≡ pool_length s
  records_lent_lem = omega (arith, (good_tells s good).descriptors_most)

  pub words_lent_lem : words_lent s ≡ heads_length s
  words_lent_lem = omega (arith, (good_tells s good).endpoints_most)

  pub bytes_lent_lem : bytes_lent s ≡ setups_length s
  bytes_lent_lem = omega (arith, (good_tells s good).endpoints_most)

refused_store : (a : (Result ⊤ Refusal)) (w : Store) (o : OpenedRows) (r : Refusal) → a ≡ Err r → store_opened a w o ≡ w
refused_store a w o r e = rw (e)

-- a refused opening leaves the whole store as it was
pub refused_opening_lem : (w : Store) (s : Settings) (r : Refusal) → (open_store w s).answer ≡ Err r → (open_store w s).store ≡ w
unfolding open_store
refused_opening_lem w s r e = refused_store _ w _ r e
