-- Every descriptor of an accepted bulk or interrupt request but its last has the working limit, and its packets are those of its buffer.
use Prim.Native.Nat.{ℕ, zero, suc, ◌+◌, ◌-◌, ◌*◌, ◌/◌, ◌≤◌}
use mathlib.Core.Path.{◌≡◌, refl, sym, ap, subst, subst₂, ◌∙◌}
use mathlib.Core.Logic.{◌≢◌}
use mathlib.Core.List.{List, [], ◌∷◌, map, map-map}
use native.Mathlib.Decide.{ℕ_discrete as dec_eq}
use native.Mathlib.Nat.{div-add-mod', suc-mul, zero-div}
use native.Mathlib.Omega.{arith}
use Rattle.token.specs.Chunks.{working_limit}
use Rattle.token.proofs.LimitLaws.{working_fits, working_largest, working_most, working_multiple}
use Rattle.common.specs.declared.kinds.Direction.{Direction}
use Rattle.common.specs.declared.kinds.EndpointType.{EndpointType}
use Rattle.common.specs.declared.kinds.EndpointType.TheVariants.{Control, Isochronous, Bulk, Interrupt}
use Rattle.settings.specs.declared.settings.Settings.{Settings}
use Rattle.slot.proofs.SlotLaws.{SizeGood, slot_tells}
use Rattle.state.specs.Slots.{slot_at}
use Rattle.pipe.specs.Endpoints.{kind_number, limit_at}
use Rattle.controller.specs.declared.lent.Readings.{Readings}
use Rattle.controller.proofs.ReaderLaws.{open_below, open_phase}
use Rattle.request.specs.declared.judge.TransferRequest.{TransferRequest}
use Rattle.request.proofs.JudgeLaws.{Judged}
use Rattle.ehci.specs.declared.call.Call.TheVariants.{Submit}
use Rattle.ehci.specs.Replies.{answered_number}
use Rattle.promises.specs.Runs.{EveryRun, History, Rows, World, core, history_of, rows_of, world_of}
use Rattle.promises.specs.Coverage.{records_met}
use Rattle.promises.specs.Packets.{Largest, PacketsWhole, Whole, bytes_met, on_wire, packets_of}
use Rattle.promises.specs.Slots.{limit_in, size_in}
use Rattle.promises.specs.Submissions.{Fields, chunks, fields_of, plan}
use Rattle.promises.proofs.effects.EffectOf.{effect}
use Rattle.promises.proofs.any_machine.WireLaws.{each_full, wire_joins, with_last}
use Rattle.promises.proofs.invariants.OpenedInv.{Told}
use Rattle.promises.proofs.invariants.Sound.{Sound}
use Rattle.promises.proofs.invariants.UseAccepts.{accepted_world, limit_is, limit_told, told_size}
use Rattle.promises.proofs.theorems.CoverHolds.{accepted_by, zero_accepts}
use Rattle.promises.proofs.theorems.RoomPromises.{held, told}
use Rattle.promises.proofs.theorems.SubmissionLaws.{as_planned}

-- ---- the bytes of a plan

abbrev bytes_in : List Fields → List ℕ
bytes_in fs = map (λ (f : Fields). f.bytes) fs

chunk_bytes : (n alternate pid limit address length : ℕ) → bytes_in (chunks n alternate pid limit address length) ≡ with_last n limit (length - n * limit)
chunk_bytes zero alternate pid limit address length =
    let none : length ≡ length - 0 * limit = omega arith in
    ap (λ (m : ℕ). m ∷ []) none
chunk_bytes (suc n) alternate pid limit address length =
    let less : length - limit - n * limit ≡ length - suc n * limit = omega (arith, suc-mul n limit) in
    ap (λ (l : List ℕ). limit ∷ l) (chunk_bytes n alternate pid limit (address + limit) (length - limit) ∙ ap (λ (m : ℕ). with_last n limit m) less)

plan_bytes : (kind : EndpointType) → kind ≢ Control → (packet shared : ℕ) (d : Direction) (address length limit : ℕ)
    → bytes_in (plan kind packet shared d address length limit) ≡ with_last ((length - 1) / limit) limit (length - (length - 1) / limit * limit)
plan_bytes Control ne packet shared d address length limit = absurd (ne refl)
plan_bytes Isochronous ne packet shared d address length limit = chunk_bytes ((length - 1) / limit) _ _ limit address length
plan_bytes Bulk ne packet shared d address length limit = chunk_bytes ((length - 1) / limit) _ _ limit address length
plan_bytes Interrupt ne packet shared d address length limit = chunk_bytes ((length - 1) / limit) _ _ limit address length

-- ---- the limit

kind_some : (k : EndpointType) → k ≢ Control → kind_number k ≢ 0
kind_some Control ne z = ne refl
kind_some Isochronous ne z = omega (arith, z)
kind_some Bulk ne z = omega (arith, z)
kind_some Interrupt ne z = omega (arith, z)

module _ (limit size : ℕ) (least : 1 ≤ size) (fits : size ≤ limit) (kind : EndpointType) (never : kind ≢ Control) where
  some_packets : 1 ≤ limit / size
  some_packets = by (dec_eq (limit / size) 0)
    where
      by : Dec (limit / size ≡ 0) → 1 ≤ limit / size
      by (yes z) =
          let none : limit / size * size ≡ 0 * size = ap (λ (m : ℕ). m * size) z in
          absurd (omega (arith, working_multiple limit size kind never, none, working_fits limit size least kind never fits, least))
      by (no ne) = omega (arith, ne)

  largest_is : Largest size limit (working_limit kind limit size)
  largest_is =
      record {
        times = limit / size;
        multiple = working_multiple limit size kind never;
        some = some_packets;
        not_above = working_most kind limit size;
        largest = working_largest limit size least kind never;
      }

  -- ---- the packets of so many chunks and the rest

  module _ (length : ℕ) where
    abbrev working : ℕ
    working = working_limit kind limit size

    abbrev before : ℕ
    before = (length - 1) / working

    below : before * working ≤ length - 1
    below = omega (arith, div-add-mod' (length - 1) working)

    rest_some : 1 ≤ before → 1 ≤ length - before * working
    rest_some h = by (dec_eq length 0)
      where
        by : Dec (length ≡ 0) → 1 ≤ length - before * working
        by (yes z) =
            let nothing : length - 1 ≡ 0 = omega (arith, z) in
            let none : before ≡ 0 = ap (λ (m : ℕ). m / working) nothing ∙ zero-div working in
            absurd (omega (arith, none, h))
        by (no ne) = omega (arith, ne, below)

    wire_is : on_wire size (with_last before working (length - before * working)) ≡ packets_of size length
    wire_is =
        let q : ℕ = limit / size - 1 in
        let many : limit / size ≡ suc q = omega (arith, some_packets) in
        let so : working ≡ suc q * size = working_multiple limit size kind never ∙ ap (λ (m : ℕ). m * size) many in
        let all : before * working + (length - before * working) ≡ length = omega (arith, below) in
        ap (λ (m : ℕ). on_wire size (with_last before m (length - before * working))) so
        ∙ wire_joins size least q before (length - before * working) rest_some
        ∙ ap (λ (m : ℕ). packets_of size (before * m + (length - before * working))) (sym so)
        ∙ ap (λ (m : ℕ). packets_of size m) all

-- ---- an accepted submit

module _ (w : World) (k : ℕ) (t : TransferRequest) (sound : Sound w.state.settings w) (judged : Judged w.state k t) (never : t.kind ≢ Control) where
  abbrev s : Settings
  s = w.state.settings

  abbrev size : ℕ
  size = (slot_at w.state k).size

  abbrev after : Rows
  after = (accepted_world w k t sound judged).rows

  sized : SizeGood s.limit (slot_at w.state k).kind size
  sized =
      (slot_tells s.endpoints s.limit k w.state.unanswered (slot_at w.state k) (sound.ranges.slots k (open_below w.state k judged.opened))).size_open
      (open_phase w.state k judged.opened)

  fits_limit : size ≤ s.limit
  fits_limit = sized.size_fits (λ z. kind_some t.kind never (judged.same_kind ∙ z))

  abbrev Fits : ℕ → Type 0
  Fits limit = Whole s size limit t.length (bytes_met s after k)

  whole_at : (limit : ℕ) → limit ≡ working_limit t.kind s.limit size → limit ≡ limit_at w.state k → Fits limit
  whole_at limit is at =
      let cut = with_last ((t.length - 1) / limit) limit (t.length - (t.length - 1) / limit * limit) in
      let bytes : bytes_met s after k ≡ cut =
      sym (map-map (λ (f : Fields). f.bytes) fields_of (records_met s after k))
      ∙ ap bytes_in (as_planned w k t sound judged)
      ∙ ap (λ (m : ℕ). bytes_in (plan t.kind (s.setups + 8 * k) (s.pool + 64 * s.descriptors) t.direction t.address t.length m)) (sym at)
      ∙ plan_bytes t.kind never _ _ t.direction t.address t.length limit in
      subst (λ (l : List ℕ). Whole s size limit t.length l) (sym bytes)
      (record {
        working = subst (Largest size s.limit) (sym is) (largest_is s.limit size sized.size_least fits_limit t.kind never);
        but_last = each_full ((t.length - 1) / limit) limit _;
        packets = subst (λ (m : ℕ). on_wire size (with_last ((t.length - 1) / m) m (t.length - (t.length - 1) / m * m)) ≡ packets_of size t.length) (sym is)
            (wire_is s.limit size sized.size_least fits_limit t.kind never t.length);
      })

  pub whole_here : Fits (limit_at w.state k)
  whole_here = whole_at (limit_at w.state k) (limit_is w k t sound judged) refl

-- ---- of a run

whole_holds : (w : World) (h : History) → Sound w.state.settings w → Told h w.state → (k : ℕ) (t : TransferRequest) (rd : Readings)
    → answered_number (core w (Submit k t rd)).reply.answer ≡ 0 → t.kind ≢ Control
    → Whole w.state.settings (size_in k h) (limit_in w.state.settings h k t) t.length (bytes_met w.state.settings (rows_of (core w (Submit k t rd))) k)
whole_holds w h sound knows k t rd done =
    let s = w.state.settings in
    let a = core w (Submit k t rd) in
    let accepted = zero_accepts k t a.reply.answer done in
    accepted_by w (Submit k t rd) a k accepted.0 t accepted.1
    (λ j r. r.kind ≢ Control → Whole s (size_in j h) (limit_in s h j r) r.length (bytes_met s (rows_of a) j))
    (λ x never. subst (λ (rows : Rows). Whole s (size_in x.k h) (limit_in s h x.k x.t) x.t.length (bytes_met s rows x.k)) (sym x.rows_are)
    (subst₂ (λ (z l : ℕ). Whole s z l x.t.length (bytes_met s (accepted_world w x.k x.t sound x.judged).rows x.k))
    (sym (told_size h w.state x.k knows x.judged.opened)) (limit_told w x.k x.t sound x.judged h knows)
    (whole_here w x.k x.t sound x.judged never)))
    (effect w (Submit k t rd))

pub packets_whole : EveryRun PacketsWhole core
packets_whole s w o cs k t rd done never =
    let now = world_of core w cs in
    let h = history_of core w cs in
    let sound = (held s w o cs).0 in
    subst (λ (z : Settings). Sound z now → Whole z (size_in k h) (limit_in z h k t) t.length (bytes_met z (rows_of (core now (Submit k t rd))) k)) sound.settings_are
    (λ good. whole_holds now h good (told s w o cs).1 k t rd done never) sound
