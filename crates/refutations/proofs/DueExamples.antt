-- What is due, on tokens worked out by hand.
use mathlib.Core.Bool.{true, false}
use mathlib.Core.List.{[], ◌∷◌}
use mathlib.Core.Path.{◌≡◌, refl}
use Rattle.common.specs.declared.kinds.EndpointType.TheVariants.{Control, Bulk}
use Rattle.promises.specs.Collections.{due_of, erring, moved, piece_of, retries}

-- 20000 bytes by 16384: all of the first, 600 of the second's 3616 left
two_chunks : moved (piece_of Bulk 20000 16384) 20000 (0x00000C00 ∷ 0x02588C00 ∷ []) ≡ 19400
two_chunks = refl

-- 18 bytes of control data by a limit of 8, 2 left: one descriptor has them all
control_data : moved (piece_of Control 18 8) 18 (0x80020D00 ∷ []) ≡ 16
control_data = refl

-- more left than was asked moves nothing
too_much_left : moved 512 512 (0x03008C00 ∷ []) ≡ 0
too_much_left = refl

-- the first of two that are halted (bit 6); neither active nor a transaction error (bit 3), babble (4) or buffer error (5) alone is one
first_errs : erring (0x00008C80 ∷ 0x00008C38 ∷ 0x00008C48 ∷ 0x00008C40 ∷ []) ≡ 0x00008C48 ∷ 0x00008C40 ∷ []
first_errs = refl

-- bit 3, on active, halted and done ones alike
counts_retried : retries (0x00008C88 ∷ 0x00008C48 ∷ 0x00008C08 ∷ 0x00008C30 ∷ 0x00008C00 ∷ []) ≡ 3
counts_retried = refl

fails : due_of false (0x00008C48 ∷ 0x00008C40 ∷ []) 512 2 ≡ record { number = 11; values = 0x00008C48 ∷ [] }
fails = refl

-- a retried request is whole, and says so
completes : due_of false [] 512 1 ≡ record { number = 0; values = 512 ∷ 1 ∷ [] }
completes = refl

-- a cancelled request fails no more
cancels : due_of true (0x00008C40 ∷ []) 512 1 ≡ record { number = 10; values = [] }
cancels = refl
