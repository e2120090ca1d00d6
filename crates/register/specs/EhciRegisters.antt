-- EHCI 1.0, section 2.3: the operational registers by their offset, and the bits of USBCMD (2.3.1), USBSTS (2.3.2) and
-- USBINTR (2.3.3) by their position. Imports nothing of the project.
use Rattle.std.specs.Prelude.{ℕ, ◌+◌, ◌-◌, ◌*◌, ◌^◌, List, [], ◌∷◌, map}

-- USBCMD, USBSTS, USBINTR, FRINDEX, CTRLDSSEGMENT, PERIODICLISTBASE, ASYNCLISTADDR, CONFIGFLAG, PORTSC of port 1
abbrev pub offset_table : List ℕ
offset_table = 0x00 ∷ 0x04 ∷ 0x08 ∷ 0x0c ∷ 0x10 ∷ 0x14 ∷ 0x18 ∷ 0x40 ∷ 0x44 ∷ []

-- PORTSC of port n, counted from 1 (2.3.9)
abbrev pub portsc_of : ℕ → ℕ
portsc_of port = 0x44 + 4 * (port - 1)

-- Run/Stop, HCRESET, Periodic Schedule Enable, Asynchronous Schedule Enable, Interrupt on Async Advance Doorbell
abbrev pub usbcmd_table : List ℕ
usbcmd_table = 0 ∷ 1 ∷ 4 ∷ 5 ∷ 6 ∷ []

-- USBINT, USBERRINT, Port Change Detect, Frame List Rollover, Host System Error, Interrupt on Async Advance, HCHalted
abbrev pub usbsts_table : List ℕ
usbsts_table = 0 ∷ 1 ∷ 2 ∷ 3 ∷ 4 ∷ 5 ∷ 12 ∷ []

-- USB Interrupt Enable, USB Error Interrupt Enable, Port Change Interrupt Enable, Interrupt on Async Advance Enable
abbrev pub usbintr_table : List ℕ
usbintr_table = 0 ∷ 1 ∷ 2 ∷ 5 ∷ []

-- the word that has the bit at each position of the table, alone
abbrev pub masks : List ℕ → List ℕ
masks = map (λ p. 2 ^ p)
