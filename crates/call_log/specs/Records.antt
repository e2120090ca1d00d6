-- The calls of a log: how each is written as a record, and which record says which call.
use Rattle.std.specs.Prelude.{◌≡◌, ℕ, ◌%◌, ◌^◌, ◌<◌, Bool, true, false, cond, ◌&&◌, Option, Some, None, List, [], ◌∷◌, length, slice_index, ◌==◌, nat_le, nat_lt}
use Rattle.controller.specs.declared.lent.Readings.{Readings}
use Rattle.ehci.specs.declared.call.Call.{Call}
use Rattle.ehci.specs.declared.call.Call.TheVariants as C
use Rattle.pipe.specs.Endpoints.{direction_number, direction_of, flag_number, flag_of, kind_number, kind_of}
use Rattle.settings.specs.declared.settings.Settings.{Settings}
use Rattle.call_log.specs.Fields.{bytes_of, bytes_spare, fields_of, zero_after}
use Rattle.call_log.specs.declared.fields.Fields.{Fields}
use Rattle.call_log.specs.declared.record.Entry.{Entry}
use Rattle.call_log.specs.declared.record.Entry.TheVariants.{Open, Call as ACall, StartScan, ScanStep, PortPower}

-- ---- the writer: the call's number, b1 b2 b3, n1 n2 n3 n4; the others are 0

abbrev pub row : ℕ → ℕ → ℕ → ℕ → ℕ → ℕ → ℕ → ℕ → Fields
row number b1 b2 b3 n1 n2 n3 n4 =
    record {
      number = number;
      bytes = b1 ∷ b2 ∷ b3 ∷ 0 ∷ 0 ∷ 0 ∷ 0 ∷ [];
      numbers = n1 ∷ n2 ∷ n3 ∷ n4 ∷ 0 ∷ 0 ∷ 0 ∷ [];
    }

unfoldable pub call_fields : Call → Fields
call_fields C.StartBringUp = row 2 0 0 0 0 0 0 0
call_fields (C.BringUpStep reading) = row 3 0 0 0 reading 0 0 0
call_fields C.AllocateAddress = row 4 0 0 0 0 0 0 0
call_fields (C.OpenEndpoint e) = row 5 (kind_number e.kind) e.address e.number e.packet 0 0 0
call_fields (C.Close slot) = row 6 slot 0 0 0 0 0 0
call_fields (C.SetAddress slot address) = row 7 slot address 0 0 0 0 0
call_fields (C.SetPacketSize slot size) = row 8 slot size 0 0 0 0 0
call_fields (C.Submit slot t r) = row 9 slot (kind_number t.kind) (direction_number t.direction) t.setup t.address t.length r.command
call_fields (C.Writeback place token) = row 10 0 0 0 place token 0 0
call_fields (C.Cancel slot id r) = row 11 slot 0 0 id r.command r.frame 0
call_fields (C.Collect slot id r) = row 12 slot 0 0 id r.command r.frame r.overlay
call_fields (C.Acknowledge x) = row 13 (flag_number x.flag) (flag_number x.again) 0 x.status x.interrupts 0 0
call_fields (C.Drain command) = row 14 0 0 0 command 0 0 0
call_fields C.Rearm = row 15 0 0 0 0 0 0 0
call_fields C.Enable = row 16 0 0 0 0 0 0 0
call_fields C.Disable = row 17 0 0 0 0 0 0 0
call_fields (C.ClearHalt slot) = row 21 slot 0 0 0 0 0 0

unfoldable pub fields_for : Entry → Fields
fields_for (Open s) =
    record {
      number = 1;
      bytes = s.endpoints ∷ s.ports ∷ 0 ∷ 0 ∷ 0 ∷ 0 ∷ 0 ∷ [];
      numbers = s.descriptors ∷ s.limit ∷ s.wait ∷ s.pool ∷ s.heads ∷ s.frames ∷ s.setups ∷ [];
    }
fields_for (ACall call) = call_fields call
fields_for StartScan = row 18 0 0 0 0 0 0 0
fields_for (ScanStep reading) = row 19 0 0 0 reading 0 0 0
fields_for (PortPower port reading) = row 20 port 0 0 reading 0 0 0

-- the record of an entry that has one
unfoldable pub record_of : Entry → List ℕ
record_of e = bytes_of (fields_for e)

-- ---- the reader

abbrev pub guarded : {A : Type 0} → Bool → A → Option A
guarded true x = Some x
guarded false x = None

abbrev pub spare : Fields → ℕ → ℕ → Bool
spare f bytes numbers = bytes_spare f bytes && zero_after numbers f.numbers

abbrev pub is_word : ℕ → Bool
is_word n = nat_lt n (2 ^ 32)

unfoldable pub plain : Fields → Entry → Option Entry
plain f e = guarded (spare f 0 0) e

abbrev pub settings_of : Fields → Settings
settings_of f =
    record {
      descriptors = slice_index f.numbers 0;
      endpoints = slice_index f.bytes 0;
      ports = slice_index f.bytes 1;
      limit = slice_index f.numbers 1;
      wait = slice_index f.numbers 2;
      pool = slice_index f.numbers 3;
      heads = slice_index f.numbers 4;
      frames = slice_index f.numbers 5;
      setups = slice_index f.numbers 6;
    }

unfoldable pub open_entry : Fields → Option Entry
open_entry f = guarded (spare f 2 7) (Open (settings_of f))

unfoldable pub bring_up_step : Fields → Option Entry
bring_up_step f = guarded (spare f 0 1 && is_word (slice_index f.numbers 0)) (ACall (C.BringUpStep ((slice_index f.numbers 0) % 2 ^ 32)))

unfoldable pub open_endpoint : Fields → Option Entry
open_endpoint f =
    guarded (spare f 3 1 && nat_le (slice_index f.bytes 0) 3 && nat_lt (slice_index f.numbers 0) (2 ^ 16))
    (ACall (C.OpenEndpoint (record { kind = kind_of (slice_index f.bytes 0); address = slice_index f.bytes 1; number = slice_index f.bytes 2; packet = (slice_index f.numbers 0) % 2 ^ 16 })))

unfoldable pub close : Fields → Option Entry
close f = guarded (spare f 1 0) (ACall (C.Close (slice_index f.bytes 0)))

unfoldable pub set_address : Fields → Option Entry
set_address f = guarded (spare f 2 0) (ACall (C.SetAddress (slice_index f.bytes 0) (slice_index f.bytes 1)))

unfoldable pub set_packet_size : Fields → Option Entry
set_packet_size f = guarded (spare f 2 0) (ACall (C.SetPacketSize (slice_index f.bytes 0) (slice_index f.bytes 1)))

unfoldable pub submit : Fields → Option Entry
submit f =
    guarded (spare f 3 4 && nat_le (slice_index f.bytes 1) 3 && nat_le (slice_index f.bytes 2) 1 && (nat_lt (slice_index f.numbers 0) (2 ^ 48) && is_word (slice_index f.numbers 3)))
    (ACall
    (C.Submit (slice_index f.bytes 0)
    (record { kind = kind_of (slice_index f.bytes 1); direction = direction_of (slice_index f.bytes 2); setup = slice_index f.numbers 0; address = slice_index f.numbers 1; length = (slice_index f.numbers 2) })
    (record { command = (slice_index f.numbers 3) % 2 ^ 32; frame = 0; overlay = 0 })))

unfoldable pub writeback : Fields → Option Entry
writeback f = guarded (spare f 0 2 && is_word (slice_index f.numbers 1)) (ACall (C.Writeback (slice_index f.numbers 0) ((slice_index f.numbers 1) % 2 ^ 32)))

-- USBCMD and FRINDEX, n2 and n3; with the overlay's token
abbrev pub readings_of : Fields → ℕ → Readings
readings_of f overlay = record { command = (slice_index f.numbers 1) % 2 ^ 32; frame = (slice_index f.numbers 2) % 2 ^ 32; overlay = overlay }

unfoldable pub cancel : Fields → Option Entry
cancel f = guarded (spare f 1 3 && is_word (slice_index f.numbers 1) && is_word (slice_index f.numbers 2)) (ACall (C.Cancel (slice_index f.bytes 0) (slice_index f.numbers 0) (readings_of f 0)))

-- the overlay's token is n4
unfoldable pub collect : Fields → Option Entry
collect f =
    guarded (spare f 1 4 && is_word (slice_index f.numbers 1) && is_word (slice_index f.numbers 2) && is_word (slice_index f.numbers 3))
    (ACall (C.Collect (slice_index f.bytes 0) (slice_index f.numbers 0) (readings_of f ((slice_index f.numbers 3) % 2 ^ 32))))

unfoldable pub acknowledge : Fields → Option Entry
acknowledge f =
    guarded (spare f 2 2 && (nat_le (slice_index f.bytes 0) 1 && nat_le (slice_index f.bytes 1) 1) && is_word (slice_index f.numbers 0) && is_word (slice_index f.numbers 1))
    (ACall (C.Acknowledge (record { status = (slice_index f.numbers 0) % 2 ^ 32; interrupts = (slice_index f.numbers 1) % 2 ^ 32; flag = flag_of (slice_index f.bytes 0); again = flag_of (slice_index f.bytes 1) })))

unfoldable pub drain : Fields → Option Entry
drain f = guarded (spare f 0 1 && is_word (slice_index f.numbers 0)) (ACall (C.Drain ((slice_index f.numbers 0) % 2 ^ 32)))

unfoldable pub scan_step : Fields → Option Entry
scan_step f = guarded (spare f 0 1 && is_word (slice_index f.numbers 0)) (ScanStep ((slice_index f.numbers 0) % 2 ^ 32))

unfoldable pub port_power : Fields → Option Entry
port_power f = guarded (spare f 1 1 && is_word (slice_index f.numbers 0)) (PortPower (slice_index f.bytes 0) ((slice_index f.numbers 0) % 2 ^ 32))

unfoldable pub clear_halt : Fields → Option Entry
clear_halt f = guarded (spare f 1 0) (ACall (C.ClearHalt (slice_index f.bytes 0)))

unfoldable pub judged_as : ℕ → Fields → Option Entry
judged_as n f =
    cond (n == 1) (open_entry f)
    (cond (n == 2) (plain f (ACall C.StartBringUp))
    (cond (n == 3) (bring_up_step f)
    (cond (n == 4) (plain f (ACall C.AllocateAddress))
    (cond (n == 5) (open_endpoint f)
    (cond (n == 6) (close f)
    (cond (n == 7) (set_address f)
    (cond (n == 8) (set_packet_size f)
    (cond (n == 9) (submit f)
    (cond (n == 10) (writeback f)
    (cond (n == 11) (cancel f)
    (cond (n == 12) (collect f)
    (cond (n == 13) (acknowledge f)
    (cond (n == 14) (drain f)
    (cond (n == 15) (plain f (ACall C.Rearm))
    (cond (n == 16) (plain f (ACall C.Enable))
    (cond (n == 17) (plain f (ACall C.Disable))
    (cond (n == 18) (plain f StartScan)
    (cond (n == 19) (scan_step f)
    (cond (n == 20) (port_power f)
    (cond (n == 21) (clear_halt f)
    None))))))))))))))))))))

abbrev pub entry_from : Fields → Option Entry
entry_from f = judged_as f.number f

unfoldable pub entry_of : List ℕ → Option Entry
entry_of bs = cond (length bs == 64) (entry_from (fields_of bs)) None

-- ---- entries that have a record

-- what the call's own types hold; six setup bytes; submit is given no FRINDEX, and collect alone the overlay's token
abbrev pub OwnCall : Call → Type 0
OwnCall C.StartBringUp = Unit
OwnCall (C.BringUpStep reading) = reading < 2 ^ 32
OwnCall C.AllocateAddress = Unit
OwnCall (C.OpenEndpoint e) = e.packet < 2 ^ 16
OwnCall (C.Close slot) = Unit
OwnCall (C.SetAddress slot address) = Unit
OwnCall (C.SetPacketSize slot size) = Unit
OwnCall (C.Submit slot t r) = (t.setup < 2 ^ 48) × (r.command < 2 ^ 32) × (r.frame ≡ 0) × (r.overlay ≡ 0)
OwnCall (C.Writeback place token) = token < 2 ^ 32
OwnCall (C.Cancel slot id r) = (r.command < 2 ^ 32) × (r.frame < 2 ^ 32) × (r.overlay ≡ 0)
OwnCall (C.Collect slot id r) = (r.command < 2 ^ 32) × (r.frame < 2 ^ 32) × (r.overlay < 2 ^ 32)
OwnCall (C.Acknowledge x) = (x.status < 2 ^ 32) × (x.interrupts < 2 ^ 32)
OwnCall (C.Drain command) = command < 2 ^ 32
OwnCall C.Rearm = Unit
OwnCall C.Enable = Unit
OwnCall C.Disable = Unit
OwnCall (C.ClearHalt slot) = Unit

abbrev pub Own : Entry → Type 0
Own (Open s) = Unit
Own (ACall call) = OwnCall call
Own StartScan = Unit
Own (ScanStep reading) = reading < 2 ^ 32
Own (PortPower port reading) = reading < 2 ^ 32

-- the seven numbers fit 64 bits
pub record NumbersFit (f : Fields) : Type 0 where
  pub fit1 : (slice_index f.numbers 0) < 2 ^ 64
  pub fit2 : (slice_index f.numbers 1) < 2 ^ 64
  pub fit3 : (slice_index f.numbers 2) < 2 ^ 64
  pub fit4 : (slice_index f.numbers 3) < 2 ^ 64
  pub fit5 : (slice_index f.numbers 4) < 2 ^ 64
  pub fit6 : (slice_index f.numbers 5) < 2 ^ 64
  pub fit7 : (slice_index f.numbers 6) < 2 ^ 64

pub record Representable (e : Entry) : Type 0 where
  pub numbers : NumbersFit (fields_for e)
  pub own : Own e
