-- The descriptors of a request, read by EHCI 3.5.3, are those of its plan.
use Prim.Native.Nat.{ℕ, zero, suc, ◌+◌, ◌-◌, ◌*◌, ◌/◌, ◌≤◌, ◌<◌, min}
use mathlib.Core.Path.{◌≡◌, refl, sym, ap, ap₂, ◌∙◌}
use mathlib.Core.Bool.{Bool, true, false}
use mathlib.Core.List.{List, [], ◌∷◌, map}
use native.Mathlib.Decide.{ℕ_discrete as dec_eq}
use native.Mathlib.Nat.{suc-mul, zero-div}
use native.Mathlib.Omega.{arith}
use lib.Dec.{eqb}
use lib.ListN.{length, replicate}
use Rattle.token.specs.Chunks.{chunk_at, chunk_count, if_empty, need_of}
use Rattle.token.specs.Plans.{control_plan, pid_for, status_pid}
use Rattle.token.specs.Tokens.{only_if, pid_of, token_of}
use Rattle.token.specs.EhciQtd.{in_code, setup_code}
use Rattle.common.specs.declared.kinds.Direction.{Direction}
use Rattle.common.specs.declared.kinds.Direction.TheVariants.{Out, In}
use Rattle.common.specs.declared.kinds.EndpointType.{EndpointType}
use Rattle.common.specs.declared.kinds.EndpointType.TheVariants.{Control, Isochronous, Bulk, Interrupt}
use Rattle.token.specs.declared.qtd.QtdPid.{QtdPid}
use Rattle.token.specs.declared.qtd.QtdPid.TheVariants.{Out as OutPid, In as InPid, Setup}
use Rattle.token.proofs.ChunkLaws.{chunk_full, count_data, count_empty, covers}
use Rattle.token.proofs.TokenFields.{token_reads}
use Rattle.common.specs.Kinds.{is_control}
use Rattle.descriptor.specs.Descriptors.{new_qtd, with_next}
use Rattle.descriptor.specs.Slots.{page_slots}
use Rattle.pool.specs.Transfers.{alternate_of, alternate_word, bare_at, bare_for, chunk_qtd, is_last, record_at, stage_of_place, with_alternate}
use Rattle.pool.specs.declared.transfer.Transfer.{Transfer}
use Rattle.promises.specs.Submissions.{Fields, alternate_by, chunks, fields_of, pid_by, plan, planned, stages, status_after}
use Rattle.promises.proofs.theorems.CoverBytes.{records_from, by_stage}

-- ---- one descriptor

reads_to : (to : ℕ) (pid : QtdPid) (bytes : ℕ) (i t : Bool) (address : ℕ) → bytes ≤ 32767
    → fields_of (with_alternate (new_qtd (token_of pid bytes i t) address bytes) to) ≡ planned to (pid_of pid) address bytes (only_if t 1) (only_if i 1)
unfolding new_qtd
reads_to to pid bytes i t address h =
    let r = token_reads pid bytes i t in
    let whole : min bytes 32767 ≡ bytes = omega (arith, h) in
    λ x. record {
      alternate = to;
      pages = page_slots address bytes;
      upper = replicate 5 0;
      status = r.status_is x;
      pid = r.pid_is x;
      counter = r.counter_is x;
      page = r.page_is x;
      interrupt = r.interrupt_is x;
      bytes = (r.bytes_is ∙ whole) x;
      toggle = r.toggle_is x;
    }

reads_planned : (pid : QtdPid) (bytes : ℕ) (i t : Bool) (address : ℕ) → bytes ≤ 32767
    → fields_of (new_qtd (token_of pid bytes i t) address bytes) ≡ planned 1 (pid_of pid) address bytes (only_if t 1) (only_if i 1)
unfolding new_qtd
reads_planned pid bytes i t address h = reads_to 1 pid bytes i t address h

pid_by_lem : (d : Direction) → pid_of (pid_for d) ≡ pid_by d
pid_by_lem Out = refl
pid_by_lem In = refl

next_aside : (t : Transfer) (k base : ℕ) (rest : List ℕ) → fields_of (record_at t k rest base) ≡ fields_of (bare_at t k (is_last rest))
unfolding record_at with_next
next_aside t k base rest = refl

-- ---- chunks

module _ (t : Transfer) (base : ℕ) (least : 1 ≤ t.limit) (most : t.limit ≤ 16384) where
  chunk_planned : (k n : ℕ) (last : Bool) → chunk_at k t.length t.limit ≡ n → n ≤ 16384
      → fields_of (chunk_qtd t k last) ≡ planned (alternate_of t last) (pid_by t.direction) (t.address + k * t.limit) n 0 (only_if last 1)
  unfolding chunk_qtd
  chunk_planned k n last e h =
      reads_to (alternate_of t last) (pid_for t.direction) (chunk_at k t.length t.limit) last false (t.address + k * t.limit) (omega (arith, e, h))
      ∙ ap₂ (λ (p b : ℕ). planned (alternate_of t last) p (t.address + k * t.limit) b 0 (only_if last 1)) (pid_by_lem t.direction) e

  chunks_planned : ((i : ℕ) (last : Bool) → bare_at t i last ≡ chunk_qtd t i last) → (n k : ℕ) (ps : List ℕ) → k + suc n ≡ chunk_count t.length t.limit → length ps ≡ suc n
      → map fields_of (records_from t base k ps) ≡ chunks n t.alternate (pid_by t.direction) t.limit (t.address + k * t.limit) (t.length - k * t.limit)
  chunks_planned bare n k [] count size = absurd (omega (arith, size))
  chunks_planned bare zero k (p ∷ []) count size =
      let all : t.length ≤ suc k * t.limit = omega (arith, covers t.length t.limit least, ap (λ (m : ℕ). m * t.limit) (sym count ∙ one)) in
      let rest : t.length - k * t.limit ≤ t.limit = omega (arith, all, suc-mul k t.limit) in
      ap (λ (f : Fields). f ∷ [])
      (next_aside t k base [] ∙ ap fields_of (bare k true)
      ∙ chunk_planned k (t.length - k * t.limit) true (omega (arith, rest)) (omega (arith, rest, most)))
    where
      one : k + 1 ≡ suc k
      one = omega arith
  chunks_planned bare zero k (p ∷ q ∷ ps) count size = absurd (omega (arith, size))
  chunks_planned bare (suc n) k (p ∷ []) count size = absurd (omega (arith, size))
  chunks_planned bare (suc n) k (p ∷ q ∷ ps) count size =
      let more : k + 1 < chunk_count t.length t.limit = omega (arith, count) in
      let more-on : t.address + suc k * t.limit ≡ t.address + k * t.limit + t.limit = omega (arith, suc-mul k t.limit) in
      let less : t.length - suc k * t.limit ≡ t.length - k * t.limit - t.limit = omega (arith, suc-mul k t.limit) in
      ap₂ (λ (f : Fields) (fs : List Fields). f ∷ fs)
      (next_aside t k base (q ∷ ps) ∙ ap fields_of (bare k false) ∙ chunk_planned k t.limit false (chunk_full t.length t.limit least k more) most)
      (chunks_planned bare n (suc k) (q ∷ ps) (omega (arith, count)) (omega (arith, size))
      ∙ ap₂ (chunks n t.alternate (pid_by t.direction) t.limit) more-on less)

  -- as many of the limit as come before the last byte, and the last
  count_is : (t.length - 1) / t.limit + 1 ≡ chunk_count t.length t.limit
  count_is = by (dec_eq t.length 0)
    where
      by : Dec (t.length ≡ 0) → (t.length - 1) / t.limit + 1 ≡ chunk_count t.length t.limit
      by (yes e) =
          let none : t.length - 1 ≡ 0 = omega (arith, e) in
          ap (λ (n : ℕ). n / t.limit + 1) none ∙ ap (λ (n : ℕ). n + 1) (zero-div t.limit) ∙ sym (count_empty t.length t.limit e)
      by (no ne) = sym (count_data t.length t.limit least ne)

  by_chunks : ((i : ℕ) (last : Bool) → bare_at t i last ≡ chunk_qtd t i last) → (ps : List ℕ) → length ps ≡ chunk_count t.length t.limit
      → map fields_of (records_from t base 0 ps) ≡ chunks ((t.length - 1) / t.limit) t.alternate (pid_by t.direction) t.limit t.address t.length
  by_chunks bare ps size =
      let start : t.address + 0 * t.limit ≡ t.address = omega arith in
      let whole : t.length - 0 * t.limit ≡ t.length = omega arith in
      chunks_planned bare ((t.length - 1) / t.limit) 0 ps (omega (arith, count_is)) (omega (arith, count_is, size))
      ∙ ap₂ (chunks ((t.length - 1) / t.limit) t.alternate (pid_by t.direction) t.limit) start whole

-- ---- the stages of a control request

module _ (t : Transfer) where
  setup_planned : fields_of (stage_of_place t 0) ≡ planned 1 setup_code t.setup 8 0 0
  unfolding stage_of_place control_plan
  setup_planned = reads_planned Setup 8 false false t.setup (omega arith)

  bare_planned : eqb t.length 0 ≡ true → fields_of (stage_of_place t 1) ≡ planned 1 in_code 0 0 1 1
  unfolding stage_of_place control_plan
  bare_planned e = rw e (by t.direction)
    where
      by : (d : Direction) → fields_of (new_qtd (token_of (status_pid d true) 0 true true) 0 0) ≡ planned 1 in_code 0 0 1 1
      by Out = reads_planned InPid 0 true true 0 (omega arith)
      by In = reads_planned InPid 0 true true 0 (omega arith)

  data_planned : eqb t.length 0 ≡ false → t.length ≤ 16384 → fields_of (stage_of_place t 1) ≡ planned 1 (pid_by t.direction) t.address t.length 1 0
  unfolding stage_of_place control_plan
  data_planned e short =
      rw e (reads_planned (pid_for t.direction) t.length false true t.address (omega (arith, short)) ∙ ap (λ (p : ℕ). planned 1 p t.address t.length 1 0) (pid_by_lem t.direction))

  status_planned : eqb t.length 0 ≡ false → fields_of (stage_of_place t 2) ≡ planned 1 (status_after t.direction) 0 0 1 1
  unfolding stage_of_place control_plan
  status_planned e = rw e (by t.direction)
    where
      by : (d : Direction) → fields_of (new_qtd (token_of (status_pid d false) 0 true true) 0 0) ≡ planned 1 (status_after d) 0 0 1 1
      by Out = reads_planned InPid 0 true true 0 (omega arith)
      by In = reads_planned OutPid 0 true true 0 (omega arith)

  stage_at : t.kind ≡ Control → (base k : ℕ) (rest : List ℕ) → fields_of (record_at t k rest base) ≡ fields_of (stage_of_place t k)
  unfolding bare_at
  stage_at kind base k rest = next_aside t k base rest ∙ ap (λ (z : EndpointType). fields_of (bare_for z t k (is_last rest))) kind

  by_stages : t.kind ≡ Control → t.length ≤ 16384 → (base : ℕ) (ps : List ℕ) → length ps ≡ if_empty (eqb t.length 0) 2 3
      → map fields_of (records_from t base 0 ps) ≡ stages t.setup t.direction t.address t.length (eqb t.length 0)
  by_stages kind short base ps n =
      by_stage (λ b ps. eqb t.length 0 ≡ b → map fields_of (records_from t base 0 ps) ≡ stages t.setup t.direction t.address t.length b)
      (λ p q e.
      let a = stage_at kind base 0 (q ∷ []) ∙ setup_planned in
      let b = stage_at kind base 1 [] ∙ bare_planned e in
      λ i. a i ∷ b i ∷ [])
      (λ p q r e.
      let a = stage_at kind base 0 (q ∷ r ∷ []) ∙ setup_planned in
      let b = stage_at kind base 1 (r ∷ []) ∙ data_planned e short in
      let c = stage_at kind base 2 [] ∙ status_planned e in
      λ i. a i ∷ b i ∷ c i ∷ [])
      (eqb t.length 0) ps n refl

-- ---- all of them, as many as the request needs

alternate_is : (kind : EndpointType) (d : Direction) (shared : ℕ) → is_control kind ≡ false → alternate_word kind d shared ≡ alternate_by shared d
alternate_is kind Out shared other = refl
alternate_is kind In shared other = rw other

module _ (t : Transfer) (base : ℕ) (ps : List ℕ) (least : 1 ≤ t.limit) (most : t.limit ≤ 16384) (shared : ℕ) (leads : t.alternate ≡ alternate_word t.kind t.direction shared) where
  in_chunks : is_control t.kind ≡ false → ((i : ℕ) (last : Bool) → bare_at t i last ≡ chunk_qtd t i last) → length ps ≡ chunk_count t.length t.limit
      → map fields_of (records_from t base 0 ps) ≡ chunks ((t.length - 1) / t.limit) (alternate_by shared t.direction) (pid_by t.direction) t.limit t.address t.length
  in_chunks other bare n =
      by_chunks t base least most bare ps n
      ∙ ap (λ (a : ℕ). chunks ((t.length - 1) / t.limit) a (pid_by t.direction) t.limit t.address t.length) (leads ∙ alternate_is t.kind t.direction shared other)

  pub all_planned : (kind : EndpointType) → t.kind ≡ kind → (kind ≡ Control → t.length ≤ 16384) → length ps ≡ need_of kind t.length t.limit
      → map fields_of (records_from t base 0 ps) ≡ plan kind t.setup shared t.direction t.address t.length t.limit
  unfolding need_of bare_at
  all_planned Control e short n = by_stages t e (short refl) base ps n
  all_planned Isochronous e short n = in_chunks (ap is_control e) (λ i last. ap (λ (z : EndpointType). bare_for z t i last) e) n
  all_planned Bulk e short n = in_chunks (ap is_control e) (λ i last. ap (λ (z : EndpointType). bare_for z t i last) e) n
  all_planned Interrupt e short n = in_chunks (ap is_control e) (λ i last. ap (λ (z : EndpointType). bare_for z t i last) e) n
