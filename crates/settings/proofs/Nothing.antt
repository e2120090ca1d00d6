-- Settings of zeros, as `Settings::default` gives them, which no opening accepts.
use Rattle.std.specs.Prelude.{◌≡◌}
use Rattle.settings.specs.declared.settings.Settings.{Settings}

abbrev pub Zeros : Settings → Type 0
Zeros s =
    (s.descriptors ≡ 0)
    × ((s.endpoints ≡ 0) × ((s.ports ≡ 0) × ((s.limit ≡ 0) × ((s.wait ≡ 0) × ((s.pool ≡ 0) × ((s.heads ≡ 0) × ((s.frames ≡ 0) × (s.setups ≡ 0))))))))

pub zeros_are : (s : Settings) → Zeros s
    → s ≡ record { descriptors = 0; endpoints = 0; ports = 0; limit = 0; wait = 0; pool = 0; heads = 0; frames = 0; setups = 0 }
zeros_are s z =
    λ i.
    record {
      descriptors = z.0 i;
      endpoints = z.1.0 i;
      ports = z.1.1.0 i;
      limit = z.1.1.1.0 i;
      wait = z.1.1.1.1.0 i;
      pool = z.1.1.1.1.1.0 i;
      heads = z.1.1.1.1.1.1.0 i;
      frames = z.1.1.1.1.1.1.1.0 i;
      setups = z.1.1.1.1.1.1.1.1 i;
    }
