-- Document 01, "Tokens and plans": the sum that makes a token, and the tokens of a request.
use Rattle.std.specs.Prelude.{ℕ, ◌+◌, ◌*◌, ◌^◌, min, Bool, true, false}
use Rattle.register.specs.Bits.{with_bits, without_bits}
use Rattle.token.specs.declared.qtd.QtdPid.{QtdPid}
use Rattle.token.specs.declared.qtd.QtdPid.TheVariants.{Out, In, Setup}
use Rattle.token.specs.declared.qtd.QtdToken.{QtdToken}

-- Out 0, In 1, Setup 2
abbrev pub pid_of : QtdPid → ℕ
pid_of Out = 0
pid_of In = 1
pid_of Setup = 2

-- n where it is set, else nothing
abbrev pub only_if : Bool → ℕ → ℕ
only_if true n = n
only_if false n = 0

-- the bits of a mask all set, or all clear
abbrev pub with_flag : ℕ → ℕ → Bool → ℕ
with_flag w mask true = with_bits w mask
with_flag w mask false = without_bits w mask

-- pid·256 + min(bytes, 32767)·65536
abbrev pub new_token : QtdPid → ℕ → ℕ
new_token pid bytes = pid_of pid * 256 + min bytes 32767 * 65536

-- the same plus 3·1024 (error counter) and 128 (active), and 32768 (interrupt on complete) and 2^31 (toggle) where set
unfoldable pub token_of : QtdPid → ℕ → Bool → Bool → QtdToken
token_of pid bytes interrupt toggle =
    record { 0 = new_token pid bytes + 3 * 1024 + 128 + only_if interrupt 32768 + only_if toggle (2 ^ 31) }
