-- The returns of the functions that see a record by its word, and that make a record with the places to come in a cursor.
use Prim.Native.Nat.{ℕ, ◌+◌, ◌-◌, ◌*◌, ◌≤◌, ◌<◌, ◌^◌}
use mathlib.Core.Path.{◌≡◌, refl, sym, ap, subst, ◌∙◌}
use mathlib.Core.Bool.{Bool, true, false, ◌&&◌}
use mathlib.Core.List.{List, [], ◌∷◌}
use native.Mathlib.Omega.{arith}
use lib.Count.{count_trailing_zeros, trailing_le}
use mir.Syntax.{w16, w64}
use mir.Val.{Fits}
use Rattle.bitset.specs.declared.cursor.Cursor.{Cursor}
use Rattle.bitset.specs.Rest.{is_none, place_at, rest_of}
use Rattle.bitset.proofs.CursorLaws.{rest_end, rest_step}
use Rattle.common.specs.declared.kinds.EndpointType.{EndpointType}
use Rattle.common.specs.declared.kinds.EndpointType.TheVariants.{Control, Isochronous, Bulk, Interrupt}
use Rattle.common.specs.Kinds.{is_control}
use Rattle.token.specs.declared.qtd.QtdToken.{QtdToken}
use Rattle.token.specs.Chunks.{chunk_at}
use Rattle.token.specs.EhciQtd.{total_bytes}
use Rattle.token.specs.Plans.{chunk_token}
use Rattle.std.specs.Prelude.{Option, Some, None}
use Rattle.descriptor.specs.declared.qtd.QueueTransferDescriptor.{QueueTransferDescriptor}
use Rattle.descriptor.specs.Descriptors.{new_qtd, word_of_next, with_next}
use Rattle.descriptor.specs.Slots.{page_slots, zero_slots}
use Rattle.pool.specs.declared.asked.AskWords.{AskWords}
use Rattle.pool.specs.declared.asked.Folded.{Folded}
use Rattle.pool.specs.declared.chain.View.{View}
use Rattle.pool.specs.declared.transfer.Transfer.{Transfer}
use Rattle.pool.specs.Transfers.{address_of, alternate_of, bare_at, bare_for, chunk_qtd, is_last, next_of, record_at, requested_at, stage_of_place, with_alternate}
use Rattle.pool.specs.Chains.{is_erring, is_retried, is_short, number_if, or_else, see_of, stage_else, stage_of, view_of}
use Rattle.pool.specs.declared.chain.Standing.{Standing}
use Rattle.pool.specs.Words.{left_if, next_good, seen_next}
use Rattle.pool.proofs.ChainCases.{requested_lt, retried_few, see_made}

-- ---- what is seen

pub word_sum_fits : (kind : EndpointType) (length limit k moved asked left r : ℕ) → asked ≡ requested_at kind length limit k → r ≡ asked - left
    → k < 256 → length < 2 ^ 32 → limit ≤ 16384 → moved ≤ k * 2 ^ 32 → Fits w64 (moved + r)
word_sum_fits kind length limit k moved asked left r ea er hk hl h hm = omega (arith, ea, er, hk, hm, requested_lt kind length limit k hl h)

pub word_count_fits : (k count r w : ℕ) → r ≡ number_if (is_retried w) 1 0 → k < 256 → count ≤ k → Fits w16 (count + r)
word_count_fits k count r w e hk h = omega (arith, e, hk, h, retried_few w)

pub word_seen : (s : Folded) (a : AskWords) (stage : Standing) (w asked failed r m : ℕ) (short : Bool) → asked ≡ requested_at a.kind a.length a.limit s.k
    → stage ≡ stage_else s.view.stage (stage_of w) → failed ≡ or_else s.view.failed (number_if (is_erring w) w 0)
    → r ≡ asked - total_bytes w → m ≡ number_if (is_retried w) 1 0 → short ≡ is_short w
    → record { view = record { stage = stage; failed = failed; moved = s.view.moved + r; retried = s.view.retried + m }; k = s.k + 1; ended = a.stops && short } ≡ seen_next s a w
word_seen s a stage w asked failed r m short ea es ef er em eh =
    ap (λ (v : View). record { view = v; k = s.k + 1; ended = a.stops && short }) (see_made s.view stage asked (requested_at a.kind a.length a.limit s.k) w failed r m ea es ef er em)
    ∙ ap (λ (b : Bool). record { view = see_of s.view (requested_at a.kind a.length a.limit s.k) w; k = s.k + 1; ended = a.stops && b }) eh

pub none_made : (v : View) → v ≡ view_of [] → ◌≡◌ {A = Folded} (record { view = v; k = 0; ended = false }) (record { view = view_of []; k = 0; ended = false })
none_made v e = ap (λ (u : View). record { view = u; k = 0; ended = false }) e

pub place_fits : (j left r : ℕ) → j < 4 → r ≡ count_trailing_zeros 64 left → Fits w64 (64 * j + r)
place_fits j left r h e = omega (arith, h, e, trailing_le 64 left)

pub left_open : (b : Bool) (x r : ℕ) → b ≡ false → r ≡ x → r ≡ left_if b x
left_open b x r e er = rw (e, er)

-- ---- where the chain goes on

module _ (base : ℕ) (c : Cursor) (b : Bool) (e : b ≡ is_none (rest_of c)) where
  pub next_none : b ≡ true → ◌≡◌ {A = Option ℕ} None (next_of base (rest_of c))
  next_none t = rw (rest_end c (sym e ∙ t))

  module _ (p : ℕ) (f : b ≡ false) (ep : p ≡ place_at c) where
    pub next_some : ◌≡◌ {A = Option ℕ} (Some (base + 64 * p)) (next_of base (rest_of c))
    next_some = rw (rest_step c (sym e ∙ f), ep)

    pub next_below : next_good base (rest_of c) → base + 64 * p < 2 ^ 32
    next_below g =
        let at_place : address_of base (place_at c) < 2 ^ 32 = subst (λ (l : List ℕ). next_good base l) (rest_step c (sym e ∙ f)) g in
        omega (arith, at_place, ep)

    pub next_fits : next_good base (rest_of c) → Fits w64 (base + 64 * p)
    next_fits g = omega (arith, next_below g)

-- ---- the records

last_none : (l : List ℕ) → is_none l ≡ is_last l
last_none [] = refl
last_none (q ∷ qs) = refl

control_bare : (kind : EndpointType) (t : Transfer) (k : ℕ) (last : Bool) → is_control kind ≡ true → stage_of_place t k ≡ bare_for kind t k last
control_bare Control t k last e = refl
control_bare Isochronous t k last e = absurd (let z : ◌≡◌ {A = ℕ} 0 1 = cc in omega arith)
control_bare Bulk t k last e = absurd (let z : ◌≡◌ {A = ℕ} 0 1 = cc in omega arith)
control_bare Interrupt t k last e = absurd (let z : ◌≡◌ {A = ℕ} 0 1 = cc in omega arith)

chunk_bare : (kind : EndpointType) (t : Transfer) (k : ℕ) (last : Bool) → is_control kind ≡ false → chunk_qtd t k last ≡ bare_for kind t k last
chunk_bare Control t k last e = absurd (let z : ◌≡◌ {A = ℕ} 0 1 = cc in omega arith)
chunk_bare Isochronous t k last e = refl
chunk_bare Bulk t k last e = refl
chunk_bare Interrupt t k last e = refl

pub stage_made : (t : Transfer) (k base : ℕ) (rest : List ℕ) (to : Option ℕ) (bare r : QueueTransferDescriptor) → is_control t.kind ≡ true
    → to ≡ next_of base rest → bare ≡ stage_of_place t k → r ≡ with_next bare to → r ≡ record_at t k rest base
unfolding record_at bare_at
stage_made t k base rest to bare r c en eb er =
    er ∙ ap (λ (d : QueueTransferDescriptor). with_next d to) (eb ∙ control_bare t.kind t k (is_last rest) c) ∙ ap (with_next (bare_for t.kind t k (is_last rest))) en

pub chunk_laid : (t : Transfer) (k base : ℕ) (rest : List ℕ) (to : Option ℕ) (next other bytes : ℕ) (last : Bool) (token : QtdToken) (pages : List ℕ) → is_control t.kind ≡ false
    → to ≡ next_of base rest → next ≡ word_of_next to → bytes ≡ chunk_at k t.length t.limit → last ≡ is_none rest → token ≡ chunk_token t.direction bytes last
    → other ≡ alternate_of t last → pages ≡ page_slots (t.address + k * t.limit) bytes
    → record { next = next; alternate = other; token = token.0; pages = pages; upper = zero_slots } ≡ record_at t k rest base
unfolding record_at bare_at chunk_qtd new_qtd with_next
chunk_laid t k base rest to next other bytes last token pages c en ew eb el et eo ep =
    let is-last : last ≡ is_last rest = el ∙ last_none rest in
    ap (λ (n : ℕ). record { next = n; alternate = other; token = token.0; pages = pages; upper = zero_slots }) (ew ∙ ap word_of_next en)
    ∙ ap (λ (n : ℕ). record { next = word_of_next (next_of base rest); alternate = n; token = token.0; pages = pages; upper = zero_slots }) (eo ∙ ap (alternate_of t) is-last)
    ∙ ap (λ (l : List ℕ). record { next = word_of_next (next_of base rest); alternate = alternate_of t (is_last rest); token = token.0; pages = l; upper = zero_slots }) ep
    ∙ ap (λ (w : QtdToken). record { next = word_of_next (next_of base rest); alternate = alternate_of t (is_last rest); token = w.0; pages = page_slots (t.address + k * t.limit) bytes; upper = zero_slots })
    (et ∙ ap (chunk_token t.direction bytes) is-last)
    ∙ ap (λ (m : ℕ). with_next (with_alternate (new_qtd (chunk_token t.direction m (is_last rest)) (t.address + k * t.limit) m) (alternate_of t (is_last rest))) (next_of base rest)) eb
    ∙ ap (λ (d : QueueTransferDescriptor). with_next d (next_of base rest)) (chunk_bare t.kind t k (is_last rest) c)
