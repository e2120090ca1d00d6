-- A token of a request, read field by field as EHCI 3.5.3 reads it.
use Prim.Native.Nat.{ℕ, ◌+◌, ◌*◌, ◌^◌, ◌≤◌, ◌<◌, min}
use mathlib.Core.Path.{◌≡◌, refl}
use mathlib.Core.Bool.{Bool}
use native.Mathlib.Omega.{arith}
use Rattle.token.specs.declared.qtd.QtdPid.{QtdPid}
use Rattle.token.specs.declared.qtd.QtdPid.TheVariants.{Out, In, Setup}
use Rattle.token.specs.EhciQtd.{status, pid_code, error_counter, current_page, interrupt_on_complete, total_bytes, data_toggle, out_code, in_code, setup_code}
use Rattle.token.specs.Tokens.{pid_of, only_if, token_of}
use Rattle.token.proofs.TokenLaws.{pid_lt, flag_lt, flag_is}

-- Active alone in the status, three tries, page 0, and what was asked for in the other four
pub record ReadsAs (w pid bytes interrupt toggle : ℕ) : Type 0 where
  pub status_is : status w ≡ 2 ^ 7
  pub pid_is : pid_code w ≡ pid
  pub counter_is : error_counter w ≡ 3
  pub page_is : current_page w ≡ 0
  pub interrupt_is : interrupt_on_complete w ≡ interrupt
  pub bytes_is : total_bytes w ≡ bytes
  pub toggle_is : data_toggle w ≡ toggle

sum_reads : (p b i t : ℕ) → p < 4 → b ≤ 32767 → i < 2 → t < 2
    → ReadsAs (p * 256 + b * 65536 + 3 * 1024 + 128 + i * 32768 + t * 2 ^ 31) p b i t
sum_reads p b i t hp hb hi ht =
    record {
      status_is = omega arith;
      pid_is = omega arith;
      counter_is = omega arith;
      page_is = omega arith;
      interrupt_is = omega arith;
      bytes_is = omega arith;
      toggle_is = omega arith;
    }

pub token_reads : (pid : QtdPid) (bytes : ℕ) (interrupt toggle : Bool)
    → ReadsAs (token_of pid bytes interrupt toggle).0 (pid_of pid) (min bytes 32767) (only_if interrupt 1) (only_if toggle 1)
unfolding token_of
token_reads pid bytes i t =
    rw (← flag_is i 32768, ← flag_is t (2 ^ 31))
    (sum_reads (pid_of pid) (min bytes 32767) (only_if i 1) (only_if t 1) (pid_lt pid) (omega arith) (flag_lt i) (flag_lt t))

pub out_code_lem : pid_of Out ≡ out_code
out_code_lem = refl

pub in_code_lem : pid_of In ≡ in_code
in_code_lem = refl

pub setup_code_lem : pid_of Setup ≡ setup_code
setup_code_lem = refl
