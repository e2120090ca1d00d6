-- The token's steps, each as the field that it replaces, and the sum that they end in.
use Prim.Native.Nat.{ℕ, ◌+◌, ◌-◌, ◌*◌, ◌/◌, ◌%◌, ◌^◌, ◌≤◌, ◌<◌, min}
use mathlib.Core.Path.{◌≡◌, ap, ap₂, ◌∙◌}
use mathlib.Core.Bool.{Bool, true, false}
use native.Mathlib.Nat.{mod-eq_of_lt, add_comm}
use native.Mathlib.Omega.{arith}
use lib.Bits.{bit_and, bit_or, or_shifted_r}
use lib.Pow.{shl-shr}
use Rattle.register.specs.Bits.{with_bits, without_bits, with_field}
use Rattle.register.proofs.FieldLaws.{and_field, set_field, clear_field, replace_field, with_clear}
use Rattle.token.specs.declared.qtd.QtdPid.{QtdPid}
use Rattle.token.specs.declared.qtd.QtdPid.TheVariants.{Out, In, Setup}
use Rattle.token.specs.declared.qtd.QtdToken.{QtdToken}
use Rattle.token.specs.EhciQtd.{total_bytes}
use Rattle.token.specs.Tokens.{pid_of, only_if, with_flag, new_token, token_of}

pub flag_field : (w lo : ℕ) (set : Bool) → w < 2 ^ 32 → lo < 32 → with_flag w (2 ^ (1 + lo) - 2 ^ lo) set ≡ with_field w lo 1 (only_if set 1)
flag_field w lo true hw h = set_field w lo 1
flag_field w lo false hw h = clear_field w lo 1 hw (omega arith)

pub pid_lt : (p : QtdPid) → pid_of p < 4
pid_lt Out = omega arith
pid_lt In = omega arith
pid_lt Setup = omega arith

pub new_sum : (p b : ℕ) → p < 4 → b ≤ 32767 → bit_or (p * 256 % 2 ^ 32) (b * 65536 % 2 ^ 32) ≡ p * 256 + b * 65536
new_sum p b hp hb =
    let l : p * 256 < 2 ^ 32 = omega arith in
    let r : b * 65536 < 2 ^ 32 = omega arith in
    ap₂ bit_or (mod-eq_of_lt l) (mod-eq_of_lt r) ∙ or_shifted_r b 16 (p * 256) (omega arith)
    ∙ add_comm (b * 65536) (p * 256)

pub flag_lt : (set : Bool) → only_if set 1 < 2
flag_lt true = omega arith
flag_lt false = omega arith

pub flag_is : (set : Bool) (n : ℕ) → only_if set 1 * n ≡ only_if set n
flag_is true n = omega arith
flag_is false n = omega arith

-- the four steps over a new token: each field is clear before its step, so the steps add up
pub steps_sum : (p b i t : ℕ) → p < 4 → b ≤ 32767 → i < 2 → t < 2
    → with_field (with_field (with_field (with_field (p * 256 + b * 65536) 10 2 3) 7 1 1) 15 1 i) 31 1 t
    ≡ p * 256 + b * 65536 + 3 * 1024 + 128 + i * 32768 + t * 2 ^ 31
steps_sum p b i t hp hb hi ht =
    rw (with_clear s₀ 10 2 3 (omega arith), with_clear s₁ 7 1 1 (omega arith), with_clear s₂ 15 1 i (omega arith))
    (with_clear s₃ 31 1 t (omega arith))
  where
    s₀ : ℕ
    s₀ = p * 256 + b * 65536

    s₁ : ℕ
    s₁ = s₀ + 3 * 1024

    s₂ : ℕ
    s₂ = s₁ + 128

    s₃ : ℕ
    s₃ = s₂ + i * 32768

-- ---- the functions' returns

pub new_case : (pid : QtdPid) (bytes p t : ℕ) → p ≡ pid_of pid → t ≡ min bytes 32767
    → bit_or (p * 256 % 2 ^ 32) (t * 65536 % 2 ^ 32) ≡ new_token pid bytes
new_case pid bytes p t ep et = rw (ep, et) (new_sum (pid_of pid) (min bytes 32767) (pid_lt pid) (omega arith))

pub counter_case : (w count k h r : ℕ) → w < 2 ^ 32 → k ≡ without_bits w 3072 → h ≡ min count 3
    → r ≡ with_bits k (h * 1024 % 2 ^ 32) → r ≡ with_field w 10 2 (min count 3)
counter_case w count k h r hw ek eh er =
    let small : h * 1024 < 2 ^ 32 = omega arith in
    er ∙ rw (mod-eq_of_lt small, ek, eh) (replace_field w 10 2 (min count 3) hw (omega arith) (omega arith))

pub started_case : (pid : QtdPid) (bytes : ℕ) (i t : Bool) (w₀ w₁ w₂ w₃ w₄ : QtdToken)
    → w₀.0 ≡ new_token pid bytes → w₁.0 ≡ with_field w₀.0 10 2 3 → w₂.0 ≡ with_field w₁.0 7 1 1
    → w₃.0 ≡ with_field w₂.0 15 1 (only_if i 1) → w₄.0 ≡ with_field w₃.0 31 1 (only_if t 1)
    → w₄ ≡ token_of pid bytes i t
unfolding token_of
started_case pid bytes i t w₀ w₁ w₂ w₃ w₄ e₀ e₁ e₂ e₃ e₄ = λ j. record { 0 = sum j }
  where
    sum : w₄.0 ≡ new_token pid bytes + 3 * 1024 + 128 + only_if i 32768 + only_if t (2 ^ 31)
    sum =
        rw (e₄, e₃, e₂, e₁, e₀, ← flag_is i 32768, ← flag_is t (2 ^ 31))
        (steps_sum (pid_of pid) (min bytes 32767) (only_if i 1) (only_if t 1) (pid_lt pid) (omega arith) (flag_lt i) (flag_lt t))

pub total_case : (w : ℕ) → bit_and w 2147418112 / 65536 ≡ total_bytes w
total_case w = ap (λ (x : ℕ). x / 65536) (and_field w 16 15) ∙ shl-shr (total_bytes w) 16
