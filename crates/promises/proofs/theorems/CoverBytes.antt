-- The descriptors of a request address its buffer, byte for byte.
use Prim.Native.Nat.{ℕ, zero, suc, ◌+◌, ◌-◌, ◌*◌, ◌^◌, ◌≤◌, ◌<◌}
use mathlib.Core.Path.{◌≡◌, refl, sym, ap, ap₂, ◌∙◌}
use mathlib.Core.Bool.{Bool, true, false}
use mathlib.Core.List.{List, [], ◌∷◌, ◌++◌, append-nil, map}
use native.Mathlib.Decide.{ℕ_discrete as dec_eq}
use native.Mathlib.Nat.{suc-mul}
use native.Mathlib.Omega.{arith}
use borrow.Author.Tests.{eqb-false, eqb-true, ne_eqb}
use lib.Dec.{eqb}
use lib.ListN.{length}
use Rattle.token.specs.Chunks.{chunk_at, chunk_count, if_empty, need_of}
use Rattle.token.specs.EhciQtd.{current_page, total_bytes}
use Rattle.token.specs.Plans.{control_plan, pid_for}
use Rattle.common.specs.declared.kinds.EndpointType.{EndpointType}
use Rattle.common.specs.declared.kinds.EndpointType.TheVariants.{Control, Isochronous, Bulk, Interrupt}
use Rattle.token.proofs.ChunkLaws.{covers}
use Rattle.token.proofs.TokenFields.{token_reads}
use Rattle.descriptor.specs.Descriptors.{new_qtd, with_next}
use Rattle.descriptor.specs.EhciQtd.{byte_address}
use Rattle.descriptor.specs.declared.qtd.QueueTransferDescriptor.{QueueTransferDescriptor}
use Rattle.pool.specs.Places.{up_from}
use Rattle.pool.specs.Transfers.{bare_at, bare_for, chunk_qtd, is_last, record_at, stage_of_place}
use Rattle.pool.specs.declared.transfer.Transfer.{Transfer}
use Rattle.request.proofs.CoverLaws.{chunk_byte, stage_byte}
use Rattle.promises.specs.Coverage.{addressed, between, byte_of, bytes_of, data_of}

-- ---- runs of numbers

up_append : (a c r : ℕ) → up_from a c ++ up_from (a + c) r ≡ up_from a (c + r)
unfolding up_from
up_append a zero r = let x : a + 0 ≡ a = omega arith in let y : 0 + r ≡ r = omega arith in ap₂ up_from x (sym y)
up_append a (suc c) r =
    let x : suc c + r ≡ suc (c + r) = omega arith in
    let y : a + suc c ≡ suc a + c = omega arith in
    ap (λ (n : ℕ). a ∷ (up_from (suc a) c ++ up_from n r)) y ∙ ap (λ (l : List ℕ). a ∷ l) (up_append (suc a) c r) ∙ sym (ap (up_from a) x)

-- a run that begins where another ends, if it has any
up_joins : (a c b r : ℕ) → ((r ≡ 0 → ⊥) → b ≡ a + c) → up_from a c ++ up_from b r ≡ up_from a (c + r)
unfolding up_from
up_joins a c b r f = by (dec_eq r 0)
  where
    by : Dec (r ≡ 0) → up_from a c ++ up_from b r ≡ up_from a (c + r)
    by (yes e) = ap (λ (n : ℕ). up_from a c ++ up_from b n) e ∙ sym (ap (λ (n : ℕ). up_from a c ++ up_from (a + c) n) e) ∙ up_append a c r
    by (no ne) = ap (λ (n : ℕ). up_from a c ++ up_from n r) (f ne) ∙ up_append a c r

map_up : (f : ℕ → ℕ) (a i n : ℕ) → ((j : ℕ) → i ≤ j → j < i + n → f j ≡ a + j) → map f (up_from i n) ≡ up_from (a + i) n
unfolding up_from
map_up f a i zero h = refl
map_up f a i (suc n) h =
    let x : a + suc i ≡ suc (a + i) = omega arith in
    ap₂ (λ (p : ℕ) (l : List ℕ). p ∷ l) (h i (omega arith) (omega arith)) (map_up f a (suc i) n (λ j l m. h j (omega (arith, l)) (omega (arith, m))) ∙ ap (λ (p : ℕ). up_from p n) x)

-- a descriptor of n bytes from its first page on, whose j-th byte is at a + j
pub run_of_lem : (d : QueueTransferDescriptor) (a n : ℕ) → current_page d.token ≡ 0 → total_bytes d.token ≡ n
    → ((j : ℕ) → j < n → byte_address d.pages d.upper j ≡ a + j) → bytes_of d ≡ up_from a n
run_of_lem d a n p e h =
    let x : a + 0 ≡ a = omega arith in
    ap (λ (m : ℕ). map (byte_of d) (up_from 0 m)) e
    ∙ map_up (byte_of d) a 0 n (λ j l m. ap (byte_address d.pages d.upper) (first_page j) ∙ h j (omega (arith, m))) ∙ ap (λ (q : ℕ). up_from q n) x
  where
    first_page : (j : ℕ) → 4096 * current_page d.token + j ≡ j
    first_page j = omega (arith, p)

-- ---- one descriptor

next_aside : (t : Transfer) (k base : ℕ) (rest : List ℕ) → bytes_of (record_at t k rest base) ≡ bytes_of (bare_at t k (is_last rest))
unfolding record_at with_next
next_aside t k base rest = refl

-- what a chunk addresses
chunk_run : (t : Transfer) (k : ℕ) (last : Bool) → t.limit ≤ 16384 → t.length ≤ 2 ^ 32 - t.address
    → bytes_of (chunk_qtd t k last) ≡ up_from (t.address + k * t.limit) (chunk_at k t.length t.limit)
unfolding chunk_qtd new_qtd
chunk_run t k last l e =
    run_of_lem (chunk_qtd t k last) (t.address + k * t.limit) (chunk_at k t.length t.limit)
    (token_reads (pid_for t.direction) (chunk_at k t.length t.limit) last false).page_is
    ((token_reads (pid_for t.direction) (chunk_at k t.length t.limit) last false).bytes_is ∙ omega (arith, l))
    (λ j h. chunk_byte t k j last h (omega (arith, e, h)) l ∙ omega arith)

-- what the data stage of a control request addresses
stage_run : (t : Transfer) → (t.length ≡ 0 → ⊥) → t.length ≤ 16384 → t.length ≤ 2 ^ 32 - t.address → bytes_of (stage_of_place t 1) ≡ up_from t.address t.length
unfolding stage_of_place new_qtd control_plan
stage_run t ne l e =
    run_of_lem (stage_of_place t 1) t.address t.length (rw (ne_eqb t.length 0 ne) (token_reads (pid_for t.direction) t.length false true).page_is)
    (rw (ne_eqb t.length 0 ne) ((token_reads (pid_for t.direction) t.length false true).bytes_is ∙ omega (arith, l)))
    (λ j h. stage_byte t j h (omega (arith, e, h)) l)

-- ---- a request's descriptors

-- its records from the k-th on, at these places
abbrev pub records_from : Transfer → ℕ → ℕ → List ℕ → List QueueTransferDescriptor
records_from t base k [] = []
records_from t base k (p ∷ ps) = record_at t k ps base ∷ records_from t base (suc k) ps

chunks_run : (t : Transfer) (base k : ℕ) (ps : List ℕ) → ((i : ℕ) (last : Bool) → bare_at t i last ≡ chunk_qtd t i last) → t.limit ≤ 16384 → t.length ≤ 2 ^ 32 - t.address
    → t.length ≤ (k + length ps) * t.limit → addressed (records_from t base k ps) ≡ up_from (t.address + k * t.limit) (t.length - k * t.limit)
unfolding up_from
chunks_run t base k [] bare l e all =
    let x : k + 0 ≡ k = omega arith in
    let y : t.length - k * t.limit ≡ 0 = omega (arith, all, ap (λ (n : ℕ). n * t.limit) x) in
    sym (ap (up_from (t.address + k * t.limit)) y)
chunks_run t base k (p ∷ ps) bare l e all =
    let c : ℕ = chunk_at k t.length t.limit in
    let r : ℕ = t.length - suc k * t.limit in
    let x : k + length (p ∷ ps) ≡ suc k + length ps = omega arith in
    let y : c + r ≡ t.length - k * t.limit = omega (arith, suc-mul k t.limit) in
    ap₂ (λ (a b : List ℕ). a ++ b) (next_aside t k base ps ∙ ap bytes_of (bare k (is_last ps)) ∙ chunk_run t k (is_last ps) l e)
    (chunks_run t base (suc k) ps bare l e (omega (arith, all, ap (λ (n : ℕ). n * t.limit) x)))
    ∙ up_joins (t.address + k * t.limit) c (t.address + suc k * t.limit) r (λ ne. omega (arith, ne, suc-mul k t.limit))
    ∙ ap (up_from (t.address + k * t.limit)) y

-- the places of a control request's stages: two without data, three with
pub by_stage : (P : Bool → List ℕ → Type 0) → ((p q : ℕ) → P true (p ∷ q ∷ [])) → ((p q r : ℕ) → P false (p ∷ q ∷ r ∷ []))
    → (b : Bool) (ps : List ℕ) → length ps ≡ if_empty b 2 3 → P b ps
by_stage P two three true [] n = absurd (omega (arith, n))
by_stage P two three true (p ∷ []) n = absurd (omega (arith, n))
by_stage P two three true (p ∷ q ∷ []) n = two p q
by_stage P two three true (p ∷ q ∷ r ∷ ps) n = absurd (omega (arith, n))
by_stage P two three false [] n = absurd (omega (arith, n))
by_stage P two three false (p ∷ []) n = absurd (omega (arith, n))
by_stage P two three false (p ∷ q ∷ []) n = absurd (omega (arith, n))
by_stage P two three false (p ∷ q ∷ r ∷ []) n = three p q r
by_stage P two three false (p ∷ q ∷ r ∷ x ∷ ps) n = absurd (omega (arith, n))

-- all of them, as many as the request needs
module _ (t : Transfer) (base : ℕ) (ps : List ℕ) (least : 1 ≤ t.limit) (most : t.limit ≤ 16384) (ends : t.length ≤ 2 ^ 32 - t.address) where
  by_chunks : ((i : ℕ) (last : Bool) → bare_at t i last ≡ chunk_qtd t i last) → length ps ≡ chunk_count t.length t.limit
      → addressed (records_from t base 0 ps) ≡ up_from t.address t.length
  by_chunks bare count =
      let x : 0 + length ps ≡ chunk_count t.length t.limit = omega (arith, count) in
      let y : t.address + 0 * t.limit ≡ t.address = omega arith in
      let z : t.length - 0 * t.limit ≡ t.length = omega arith in
      chunks_run t base 0 ps bare most ends (omega (arith, covers t.length t.limit least, ap (λ (n : ℕ). n * t.limit) x)) ∙ ap₂ up_from y z

  by_stages : t.kind ≡ Control → t.length ≤ 16384 → length ps ≡ if_empty (eqb t.length 0) 2 3 → addressed (between (records_from t base 0 ps)) ≡ up_from t.address t.length
  unfolding bare_at up_from
  by_stages kind short n =
      by_stage (λ b qs. eqb t.length 0 ≡ b → addressed (between (records_from t base 0 qs)) ≡ up_from t.address t.length)
      (λ p q e. sym (ap (up_from t.address) (eqb-true t.length 0 e)))
      (λ p q r e. append-nil (bytes_of (record_at t 1 (r ∷ []) base)) ∙ next_aside t 1 base (r ∷ []) ∙ ap (λ (z : EndpointType). bytes_of (bare_for z t 1 false)) kind
      ∙ stage_run t (eqb-false t.length 0 e) short ends)
      (eqb t.length 0) ps n refl

  pub all_covered : (kind : EndpointType) → t.kind ≡ kind → (kind ≡ Control → t.length ≤ 16384) → length ps ≡ need_of kind t.length t.limit
      → addressed (data_of kind (records_from t base 0 ps)) ≡ up_from t.address t.length
  unfolding need_of bare_at
  all_covered Control e short n = by_stages e (short refl) n
  all_covered Isochronous e short n = by_chunks (λ i last. ap (λ (z : EndpointType). bare_for z t i last) e) n
  all_covered Bulk e short n = by_chunks (λ i last. ap (λ (z : EndpointType). bare_for z t i last) e) n
  all_covered Interrupt e short n = by_chunks (λ i last. ap (λ (z : EndpointType). bare_for z t i last) e) n
