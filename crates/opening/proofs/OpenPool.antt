-- Opening and the pool: where it is accepted every record but the shared one is thirteen zero words, where it is refused every record is as it was.
use Rattle.std.specs.Prelude.{◌≡◌, ℕ, Bool, true, false, List, length, replicate}
use Rattle.descriptor.specs.declared.qtd.QueueTransferDescriptor.{QueueTransferDescriptor as Record}
use Rattle.settings.specs.declared.settings.Settings.{Settings}
use Rattle.settings.specs.Settings.{frames_length, heads_length, settings_good, setups_length}
use Rattle.common.specs.declared.answer.Refusal.TheVariants.{InvalidParameter}
use Rattle.opening.specs.Opening.{Opened, accepted_opening, open_of, opened, opened_heads, opened_pool, refused_opening, rows_are_fit}

-- the opening and its rows, for each of the two ways
module _ (s : Settings) (rs : List Record) (hs fs us : List ℕ) where
  abbrev fits : Bool
  fits = rows_are_fit s (length rs) (length hs) (length fs) (length us)

  abbrev accepted : Opened
  accepted = opened (accepted_opening s) (opened_pool s.descriptors) (opened_heads s.heads (heads_length s)) (replicate frames_length 1) (replicate (setups_length s) 0)

  pub refuses_settings : settings_good s ≡ false → open_of s rs hs fs us ≡ opened (refused_opening InvalidParameter) rs hs fs us
  unfolding open_of
  refuses_settings e = rw e

  pub refuses_rows : settings_good s ≡ true → fits ≡ false → open_of s rs hs fs us ≡ opened (refused_opening InvalidParameter) rs hs fs us
  unfolding open_of
  refuses_rows e f = rw (e, f)

  pub accepts : settings_good s ≡ true → fits ≡ true → open_of s rs hs fs us ≡ accepted
  unfolding open_of
  accepts e f = rw (e, f)
