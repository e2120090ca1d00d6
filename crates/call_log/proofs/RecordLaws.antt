-- A record that is written is read as what was written, and nothing else is read as it.
use Rattle.std.specs.Prelude.{◌≡◌, ℕ, zero, suc, ◌%◌, ◌^◌, ◌<◌, ◌≤◌, Bool, true, false, cond, ◌&&◌, eqb, ltb, leb, List, [], ◌∷◌, length, get_or, min, slice_index, Option, Some, None}
use Rattle.std.specs.List.{list_all}
use Rattle.std.proofs.Math.Nat.{min-le_left, min-le_right}
use mathlib.Core.Path.{refl, sym, ap, ◌∙◌}
use native.Mathlib.Nat.{mod-eq_of_lt}
use native.Mathlib.Omega.{arith}
use borrow.Author.Tests.{eqb-true, leb-true, lt-ltb, ltb-true}
use Rattle.ehci.specs.declared.call.Call.{Call}
use Rattle.ehci.specs.declared.call.Call.TheVariants as C
use Rattle.pipe.specs.Endpoints.{direction_number, direction_of, flag_number, flag_of, kind_number, kind_of}
use Rattle.common.specs.declared.kinds.EndpointType.{EndpointType}
use Rattle.common.specs.declared.kinds.EndpointType.TheVariants as K
use Rattle.common.specs.declared.kinds.Direction.{Direction}
use Rattle.common.specs.declared.kinds.Direction.TheVariants as D
use Rattle.pipe.proofs.EndpointLaws.{direction_back, direction_there, flag_back, flag_there, kind_back, kind_there}
use Rattle.common.proofs.TestLaws.{both_first, both_second, both_tells}
use Rattle.call_log.specs.Fields.{bytes_of, bytes_spare, fields_of, zero_after}
use Rattle.call_log.specs.Records.{row, call_fields, fields_for, record_of, guarded, spare, is_word, plain, settings_of, open_entry, bring_up_step, open_endpoint, close, set_address, set_packet_size, submit, writeback, cancel, collect, acknowledge, drain, scan_step, port_power, clear_halt, judged_as, entry_from, entry_of, OwnCall, Own, Representable}
use Rattle.call_log.specs.declared.fields.Fields.{Fields}
use Rattle.call_log.specs.declared.record.Entry.{Entry}
use Rattle.call_log.specs.declared.record.Entry.TheVariants.{Open, Call as ACall, StartScan, ScanStep, PortPower}
use Rattle.call_log.proofs.FieldsLaws.{Whole, bytes_length, fields_back, fields_ext, fields_read, read_whole}
use Rattle.text.proofs.NumberLaws.{Bytes}

-- ---- what a test that holds says

all_zero_at : (l : List ℕ) (k : ℕ) → list_all (λ x. eqb x 0) l ≡ true → 0 ≡ get_or l k 0
all_zero_at [] k t = refl
all_zero_at (x ∷ l) zero t = sym (eqb-true x 0 (both_first (eqb x 0) (list_all (λ x. eqb x 0) l) t))
all_zero_at (x ∷ l) (suc k) t = all_zero_at l k (both_second (eqb x 0) (list_all (λ x. eqb x 0) l) t)

zero_at : (used : ℕ) (l : List ℕ) (k : ℕ) → zero_after used l ≡ true → used ≤ k → 0 ≡ get_or l k 0
unfolding zero_after
zero_at zero l k t h = all_zero_at l k t
zero_at (suc used) [] k t h = refl
zero_at (suc used) (x ∷ l) zero t h = absurd (omega (arith, h))
zero_at (suc used) (x ∷ l) (suc k) t h = zero_at used l k t (omega (arith, h))

-- of a Fields whose spare parameters are 0, those after the first so many
module _ (f : Fields) (bytes numbers : ℕ) (t : spare f bytes numbers ≡ true) where
  spare_b1 : bytes < 1 → 0 ≡ slice_index f.bytes 0
  spare_b1 h = zero_at (min bytes 3) f.bytes 0 (both_first (bytes_spare f bytes) (zero_after numbers f.numbers) t) (omega (arith, h, min-le_left bytes 3))

  spare_b2 : bytes < 2 → 0 ≡ slice_index f.bytes 1
  spare_b2 h = zero_at (min bytes 3) f.bytes 1 (both_first (bytes_spare f bytes) (zero_after numbers f.numbers) t) (omega (arith, h, min-le_left bytes 3))

  spare_b3 : bytes < 3 → 0 ≡ slice_index f.bytes 2
  spare_b3 h = zero_at (min bytes 3) f.bytes 2 (both_first (bytes_spare f bytes) (zero_after numbers f.numbers) t) (omega (arith, h, min-le_left bytes 3))

  spare_b4 : bytes < 4 → 0 ≡ slice_index f.bytes 3
  spare_b4 h = zero_at (min bytes 3) f.bytes 3 (both_first (bytes_spare f bytes) (zero_after numbers f.numbers) t) (omega (arith, h, min-le_right bytes 3))

  spare_b5 : bytes < 5 → 0 ≡ slice_index f.bytes 4
  spare_b5 h = zero_at (min bytes 3) f.bytes 4 (both_first (bytes_spare f bytes) (zero_after numbers f.numbers) t) (omega (arith, h, min-le_right bytes 3))

  spare_b6 : bytes < 6 → 0 ≡ slice_index f.bytes 5
  spare_b6 h = zero_at (min bytes 3) f.bytes 5 (both_first (bytes_spare f bytes) (zero_after numbers f.numbers) t) (omega (arith, h, min-le_right bytes 3))

  spare_b7 : bytes < 7 → 0 ≡ slice_index f.bytes 6
  spare_b7 h = zero_at (min bytes 3) f.bytes 6 (both_first (bytes_spare f bytes) (zero_after numbers f.numbers) t) (omega (arith, h, min-le_right bytes 3))

  spare_n1 : numbers < 1 → 0 ≡ slice_index f.numbers 0
  spare_n1 h = zero_at numbers f.numbers 0 (both_second (bytes_spare f bytes) (zero_after numbers f.numbers) t) (omega (arith, h))

  spare_n2 : numbers < 2 → 0 ≡ slice_index f.numbers 1
  spare_n2 h = zero_at numbers f.numbers 1 (both_second (bytes_spare f bytes) (zero_after numbers f.numbers) t) (omega (arith, h))

  spare_n3 : numbers < 3 → 0 ≡ slice_index f.numbers 2
  spare_n3 h = zero_at numbers f.numbers 2 (both_second (bytes_spare f bytes) (zero_after numbers f.numbers) t) (omega (arith, h))

  spare_n4 : numbers < 4 → 0 ≡ slice_index f.numbers 3
  spare_n4 h = zero_at numbers f.numbers 3 (both_second (bytes_spare f bytes) (zero_after numbers f.numbers) t) (omega (arith, h))

  spare_n5 : numbers < 5 → 0 ≡ slice_index f.numbers 4
  spare_n5 h = zero_at numbers f.numbers 4 (both_second (bytes_spare f bytes) (zero_after numbers f.numbers) t) (omega (arith, h))

  spare_n6 : numbers < 6 → 0 ≡ slice_index f.numbers 5
  spare_n6 h = zero_at numbers f.numbers 5 (both_second (bytes_spare f bytes) (zero_after numbers f.numbers) t) (omega (arith, h))

  spare_n7 : numbers < 7 → 0 ≡ slice_index f.numbers 6
  spare_n7 h = zero_at numbers f.numbers 6 (both_second (bytes_spare f bytes) (zero_after numbers f.numbers) t) (omega (arith, h))

  -- a row: three small parameters and four numbers
  row_is : Whole f → (n b1 b2 b3 n1 n2 n3 n4 : ℕ) → bytes ≤ 3 → numbers ≤ 4 → f.number ≡ n → b1 ≡ (slice_index f.bytes 0) → b2 ≡ (slice_index f.bytes 1) → b3 ≡ (slice_index f.bytes 2)
      → n1 ≡ (slice_index f.numbers 0) → n2 ≡ (slice_index f.numbers 1) → n3 ≡ (slice_index f.numbers 2) → n4 ≡ (slice_index f.numbers 3) → row n b1 b2 b3 n1 n2 n3 n4 ≡ f
  row_is w n b1 b2 b3 n1 n2 n3 n4 g h e x1 x2 x3 y1 y2 y3 y4 =
      fields_ext f w n b1 b2 b3 0 0 0 0 n1 n2 n3 n4 0 0 0 (sym e) x1 x2 x3 (spare_b4 (omega arith)) (spare_b5 (omega arith)) (spare_b6 (omega arith)) (spare_b7 (omega arith)) y1 y2 y3 y4
      (spare_n5 (omega arith)) (spare_n6 (omega arith)) (spare_n7 (omega arith))

low : (k n : ℕ) → ltb n k ≡ true → n % k ≡ n
low k n t = mod-eq_of_lt (ltb-true n k t)

-- ---- an entry that is read: its fields are those of the record
word_back : (f : Fields) (w : Whole f) (k : ℕ) → f.number ≡ k → (spare f 0 1 && is_word (slice_index f.numbers 0)) ≡ true → row k 0 0 0 ((slice_index f.numbers 0) % 2 ^ 32) 0 0 0 ≡ f
word_back f w k e t =
    let r = both_tells (spare f 0 1) (is_word (slice_index f.numbers 0)) t in
    let s = r.0 in
    row_is f 0 1 s w k _ _ _ _ _ _ _ (omega arith) (omega arith) e (spare_b1 f 0 1 s (omega arith)) (spare_b2 f 0 1 s (omega arith)) (spare_b3 f 0 1 s (omega arith)) (low (2 ^ 32) (slice_index f.numbers 0) r.1) (spare_n2 f 0 1 s (omega arith)) (spare_n3 f 0 1 s (omega arith)) (spare_n4 f 0 1 s (omega arith))

endpoint_back : (f : Fields) (w : Whole f) → f.number ≡ 5 → (spare f 3 1 && leb (slice_index f.bytes 0) 3 && ltb (slice_index f.numbers 0) (2 ^ 16)) ≡ true → fields_for (ACall (C.OpenEndpoint (record { kind = kind_of (slice_index f.bytes 0); address = (slice_index f.bytes 1); number = (slice_index f.bytes 2); packet = (slice_index f.numbers 0) % 2 ^ 16 }))) ≡ f
unfolding fields_for call_fields
endpoint_back f w e t =
    let q = both_tells (spare f 3 1 && leb (slice_index f.bytes 0) 3) (ltb (slice_index f.numbers 0) (2 ^ 16)) t in
    let r = both_tells (spare f 3 1) (leb (slice_index f.bytes 0) 3) q.0 in
    let s = r.0 in
    row_is f 3 1 s w 5 _ _ _ _ _ _ _ (omega arith) (omega arith) e (kind_back (slice_index f.bytes 0) (leb-true (slice_index f.bytes 0) 3 r.1)) refl refl (low (2 ^ 16) (slice_index f.numbers 0) q.1) (spare_n2 f 3 1 s (omega arith)) (spare_n3 f 3 1 s (omega arith)) (spare_n4 f 3 1 s (omega arith))

slot_back : (f : Fields) (w : Whole f) (k : ℕ) → f.number ≡ k → spare f 1 0 ≡ true → row k (slice_index f.bytes 0) 0 0 0 0 0 0 ≡ f
slot_back f w k e t =
    row_is f 1 0 t w k _ _ _ _ _ _ _ (omega arith) (omega arith) e refl (spare_b2 f 1 0 t (omega arith)) (spare_b3 f 1 0 t (omega arith)) (spare_n1 f 1 0 t (omega arith)) (spare_n2 f 1 0 t (omega arith)) (spare_n3 f 1 0 t (omega arith)) (spare_n4 f 1 0 t (omega arith))

pair_back : (f : Fields) (w : Whole f) (k : ℕ) → f.number ≡ k → spare f 2 0 ≡ true → row k (slice_index f.bytes 0) (slice_index f.bytes 1) 0 0 0 0 0 ≡ f
pair_back f w k e t =
    row_is f 2 0 t w k _ _ _ _ _ _ _ (omega arith) (omega arith) e refl refl (spare_b3 f 2 0 t (omega arith)) (spare_n1 f 2 0 t (omega arith)) (spare_n2 f 2 0 t (omega arith)) (spare_n3 f 2 0 t (omega arith)) (spare_n4 f 2 0 t (omega arith))

submit_back : (f : Fields) (w : Whole f) → f.number ≡ 9 → (spare f 3 4 && leb (slice_index f.bytes 1) 3 && leb (slice_index f.bytes 2) 1 && (ltb (slice_index f.numbers 0) (2 ^ 48) && is_word (slice_index f.numbers 3))) ≡ true → fields_for (ACall (C.Submit (slice_index f.bytes 0)
    (record { kind = kind_of (slice_index f.bytes 1); direction = direction_of (slice_index f.bytes 2); setup = (slice_index f.numbers 0); address = (slice_index f.numbers 1); length = (slice_index f.numbers 2) })
    (record { command = (slice_index f.numbers 3) % 2 ^ 32; frame = 0; overlay = 0 }))) ≡ f
unfolding fields_for call_fields
submit_back f w e t =
    let t3 = both_tells (spare f 3 4 && leb (slice_index f.bytes 1) 3 && leb (slice_index f.bytes 2) 1) (ltb (slice_index f.numbers 0) (2 ^ 48) && is_word (slice_index f.numbers 3)) t in
    let t2 = both_tells (spare f 3 4 && leb (slice_index f.bytes 1) 3) (leb (slice_index f.bytes 2) 1) t3.0 in
    let t1 = both_tells (spare f 3 4) (leb (slice_index f.bytes 1) 3) t2.0 in
    let s = t1.0 in
    row_is f 3 4 s w 9 _ _ _ _ _ _ _ (omega arith) (omega arith) e refl (kind_back (slice_index f.bytes 1) (leb-true (slice_index f.bytes 1) 3 t1.1)) (direction_back (slice_index f.bytes 2) (leb-true (slice_index f.bytes 2) 1 t2.1)) refl refl refl (low (2 ^ 32) (slice_index f.numbers 3) (both_second (ltb (slice_index f.numbers 0) (2 ^ 48)) (is_word (slice_index f.numbers 3)) t3.1))

writeback_back : (f : Fields) (w : Whole f) → f.number ≡ 10 → (spare f 0 2 && is_word (slice_index f.numbers 1)) ≡ true → fields_for (ACall (C.Writeback (slice_index f.numbers 0) ((slice_index f.numbers 1) % 2 ^ 32))) ≡ f
unfolding fields_for call_fields
writeback_back f w e t =
    let r = both_tells (spare f 0 2) (is_word (slice_index f.numbers 1)) t in
    let s = r.0 in
    row_is f 0 2 s w 10 _ _ _ _ _ _ _ (omega arith) (omega arith) e (spare_b1 f 0 2 s (omega arith)) (spare_b2 f 0 2 s (omega arith)) (spare_b3 f 0 2 s (omega arith)) refl (low (2 ^ 32) (slice_index f.numbers 1) r.1) (spare_n3 f 0 2 s (omega arith)) (spare_n4 f 0 2 s (omega arith))

cancel_back : (f : Fields) (w : Whole f) → f.number ≡ 11 → (spare f 1 3 && is_word (slice_index f.numbers 1) && is_word (slice_index f.numbers 2)) ≡ true → row 11 (slice_index f.bytes 0) 0 0 (slice_index f.numbers 0) ((slice_index f.numbers 1) % 2 ^ 32) ((slice_index f.numbers 2) % 2 ^ 32) 0 ≡ f
cancel_back f w e t =
    let q = both_tells (spare f 1 3 && is_word (slice_index f.numbers 1)) (is_word (slice_index f.numbers 2)) t in
    let r = both_tells (spare f 1 3) (is_word (slice_index f.numbers 1)) q.0 in
    let s = r.0 in
    row_is f 1 3 s w 11 _ _ _ _ _ _ _ (omega arith) (omega arith) e refl (spare_b2 f 1 3 s (omega arith)) (spare_b3 f 1 3 s (omega arith)) refl (low (2 ^ 32) (slice_index f.numbers 1) r.1) (low (2 ^ 32) (slice_index f.numbers 2) q.1) (spare_n4 f 1 3 s (omega arith))

collect_back : (f : Fields) (w : Whole f) → f.number ≡ 12 → (spare f 1 4 && is_word (slice_index f.numbers 1) && is_word (slice_index f.numbers 2) && is_word (slice_index f.numbers 3)) ≡ true → row 12 (slice_index f.bytes 0) 0 0 (slice_index f.numbers 0) ((slice_index f.numbers 1) % 2 ^ 32) ((slice_index f.numbers 2) % 2 ^ 32) ((slice_index f.numbers 3) % 2 ^ 32) ≡ f
collect_back f w e t =
    let p = both_tells (spare f 1 4 && is_word (slice_index f.numbers 1) && is_word (slice_index f.numbers 2)) (is_word (slice_index f.numbers 3)) t in
    let q = both_tells (spare f 1 4 && is_word (slice_index f.numbers 1)) (is_word (slice_index f.numbers 2)) p.0 in
    let r = both_tells (spare f 1 4) (is_word (slice_index f.numbers 1)) q.0 in
    let s = r.0 in
    row_is f 1 4 s w 12 _ _ _ _ _ _ _ (omega arith) (omega arith) e refl (spare_b2 f 1 4 s (omega arith)) (spare_b3 f 1 4 s (omega arith)) refl (low (2 ^ 32) (slice_index f.numbers 1) r.1) (low (2 ^ 32) (slice_index f.numbers 2) q.1) (low (2 ^ 32) (slice_index f.numbers 3) p.1)

acknowledge_back : (f : Fields) (w : Whole f) → f.number ≡ 13 → (spare f 2 2 && (leb (slice_index f.bytes 0) 1 && leb (slice_index f.bytes 1) 1) && is_word (slice_index f.numbers 0) && is_word (slice_index f.numbers 1)) ≡ true → fields_for (ACall (C.Acknowledge (record { status = (slice_index f.numbers 0) % 2 ^ 32; interrupts = (slice_index f.numbers 1) % 2 ^ 32; flag = flag_of (slice_index f.bytes 0); again = flag_of (slice_index f.bytes 1) }))) ≡ f
unfolding fields_for call_fields
acknowledge_back f w e t =
    let t3 = both_tells (spare f 2 2 && (leb (slice_index f.bytes 0) 1 && leb (slice_index f.bytes 1) 1) && is_word (slice_index f.numbers 0)) (is_word (slice_index f.numbers 1)) t in
    let t2 = both_tells (spare f 2 2 && (leb (slice_index f.bytes 0) 1 && leb (slice_index f.bytes 1) 1)) (is_word (slice_index f.numbers 0)) t3.0 in
    let t1 = both_tells (spare f 2 2) (leb (slice_index f.bytes 0) 1 && leb (slice_index f.bytes 1) 1) t2.0 in
    let s = t1.0 in
    row_is f 2 2 s w 13 _ _ _ _ _ _ _ (omega arith) (omega arith) e (flag_back (slice_index f.bytes 0) (leb-true (slice_index f.bytes 0) 1 (both_first (leb (slice_index f.bytes 0) 1) (leb (slice_index f.bytes 1) 1) t1.1))) (flag_back (slice_index f.bytes 1) (leb-true (slice_index f.bytes 1) 1 (both_second (leb (slice_index f.bytes 0) 1) (leb (slice_index f.bytes 1) 1) t1.1))) (spare_b3 f 2 2 s (omega arith)) (low (2 ^ 32) (slice_index f.numbers 0) t2.1) (low (2 ^ 32) (slice_index f.numbers 1) t3.1) (spare_n3 f 2 2 s (omega arith)) (spare_n4 f 2 2 s (omega arith))

power_back : (f : Fields) (w : Whole f) → f.number ≡ 20 → (spare f 1 1 && is_word (slice_index f.numbers 0)) ≡ true → fields_for (PortPower (slice_index f.bytes 0) ((slice_index f.numbers 0) % 2 ^ 32)) ≡ f
unfolding fields_for call_fields
power_back f w e t =
    let r = both_tells (spare f 1 1) (is_word (slice_index f.numbers 0)) t in
    let s = r.0 in
    row_is f 1 1 s w 20 _ _ _ _ _ _ _ (omega arith) (omega arith) e refl (spare_b2 f 1 1 s (omega arith)) (spare_b3 f 1 1 s (omega arith)) (low (2 ^ 32) (slice_index f.numbers 0) r.1) (spare_n2 f 1 1 s (omega arith)) (spare_n3 f 1 1 s (omega arith)) (spare_n4 f 1 1 s (omega arith))

open_back : (f : Fields) (w : Whole f) → f.number ≡ 1 → spare f 2 7 ≡ true → fields_for (Open (settings_of f)) ≡ f
unfolding fields_for
open_back f w e t =
    fields_ext f w 1 _ _ _ _ _ _ _ _ _ _ _ _ _ _ (sym e) refl refl (spare_b3 f 2 7 t (omega arith)) (spare_b4 f 2 7 t (omega arith)) (spare_b5 f 2 7 t (omega arith))
    (spare_b6 f 2 7 t (omega arith)) (spare_b7 f 2 7 t (omega arith)) refl refl refl refl refl refl refl

plain_back : (f : Fields) (w : Whole f) (k : ℕ) → f.number ≡ k → spare f 0 0 ≡ true → row k 0 0 0 0 0 0 0 ≡ f
plain_back f w k e t =
    row_is f 0 0 t w k _ _ _ _ _ _ _ (omega arith) (omega arith) e (spare_b1 f 0 0 t (omega arith)) (spare_b2 f 0 0 t (omega arith)) (spare_b3 f 0 0 t (omega arith))
    (spare_n1 f 0 0 t (omega arith)) (spare_n2 f 0 0 t (omega arith)) (spare_n3 f 0 0 t (omega arith)) (spare_n4 f 0 0 t (omega arith))

some_same : {x y : Entry} → Some x ≡ Some y → x ≡ y
some_same h = cc

module _ (f : Fields) (w : Whole f) (e : Entry) where
  only : (t : Bool) (m : Entry) → guarded t m ≡ Some e → (t ≡ true → fields_for m ≡ f) → fields_for e ≡ f
  only true m h k = ap fields_for (sym (some_same h)) ∙ k refl
  only false m h k = absurd (cc)

  or_else : (b : Bool) (x y : Option Entry) → cond b x y ≡ Some e → (b ≡ true → x ≡ Some e → fields_for e ≡ f) → (y ≡ Some e → fields_for e ≡ f) → fields_for e ≡ f
  or_else true x y h a b = a refl h
  or_else false x y h a b = b h

  judged_only : entry_from f ≡ Some e → fields_for e ≡ f
  unfolding judged_as plain open_entry bring_up_step open_endpoint close set_address set_packet_size submit writeback cancel collect acknowledge drain scan_step port_power clear_halt fields_for call_fields
  judged_only h =
      or_else (eqb f.number 1) _ _ h (λ q g. only _ _ g (open_back f w (eqb-true f.number 1 q))) (λ h.
      or_else (eqb f.number 2) _ _ h (λ q g. only _ _ g (plain_back f w 2 (eqb-true f.number 2 q))) (λ h.
      or_else (eqb f.number 3) _ _ h (λ q g. only _ _ g (word_back f w 3 (eqb-true f.number 3 q))) (λ h.
      or_else (eqb f.number 4) _ _ h (λ q g. only _ _ g (plain_back f w 4 (eqb-true f.number 4 q))) (λ h.
      or_else (eqb f.number 5) _ _ h (λ q g. only _ _ g (endpoint_back f w (eqb-true f.number 5 q))) (λ h.
      or_else (eqb f.number 6) _ _ h (λ q g. only _ _ g (slot_back f w 6 (eqb-true f.number 6 q))) (λ h.
      or_else (eqb f.number 7) _ _ h (λ q g. only _ _ g (pair_back f w 7 (eqb-true f.number 7 q))) (λ h.
      or_else (eqb f.number 8) _ _ h (λ q g. only _ _ g (pair_back f w 8 (eqb-true f.number 8 q))) (λ h.
      or_else (eqb f.number 9) _ _ h (λ q g. only _ _ g (submit_back f w (eqb-true f.number 9 q))) (λ h.
      or_else (eqb f.number 10) _ _ h (λ q g. only _ _ g (writeback_back f w (eqb-true f.number 10 q))) (λ h.
      or_else (eqb f.number 11) _ _ h (λ q g. only _ _ g (cancel_back f w (eqb-true f.number 11 q))) (λ h.
      or_else (eqb f.number 12) _ _ h (λ q g. only _ _ g (collect_back f w (eqb-true f.number 12 q))) (λ h.
      or_else (eqb f.number 13) _ _ h (λ q g. only _ _ g (acknowledge_back f w (eqb-true f.number 13 q))) (λ h.
      or_else (eqb f.number 14) _ _ h (λ q g. only _ _ g (word_back f w 14 (eqb-true f.number 14 q))) (λ h.
      or_else (eqb f.number 15) _ _ h (λ q g. only _ _ g (plain_back f w 15 (eqb-true f.number 15 q))) (λ h.
      or_else (eqb f.number 16) _ _ h (λ q g. only _ _ g (plain_back f w 16 (eqb-true f.number 16 q))) (λ h.
      or_else (eqb f.number 17) _ _ h (λ q g. only _ _ g (plain_back f w 17 (eqb-true f.number 17 q))) (λ h.
      or_else (eqb f.number 18) _ _ h (λ q g. only _ _ g (plain_back f w 18 (eqb-true f.number 18 q))) (λ h.
      or_else (eqb f.number 19) _ _ h (λ q g. only _ _ g (word_back f w 19 (eqb-true f.number 19 q))) (λ h.
      or_else (eqb f.number 20) _ _ h (λ q g. only _ _ g (power_back f w (eqb-true f.number 20 q))) (λ h.
      or_else (eqb f.number 21) _ _ h (λ q g. only _ _ g (slot_back f w 21 (eqb-true f.number 21 q))) (λ h.
      absurd (cc))))))))))))))))))))))

-- what is read as an entry is its record
pub entry_only : (bs : List ℕ) (e : Entry) → entry_of bs ≡ Some e → Bytes bs → bs ≡ record_of e
unfolding entry_of record_of
entry_only bs e h all = go (eqb (length bs) 64) refl h
  where
    go : (b : Bool) → eqb (length bs) 64 ≡ b → cond b (entry_from (fields_of bs)) None ≡ Some e → bs ≡ bytes_of (fields_for e)
    go true q g = sym (fields_back bs (eqb-true (length bs) 64 q) all) ∙ ap bytes_of (sym (judged_only (fields_of bs) (read_whole bs) e g))
    go false q g = absurd (cc)

-- ---- an entry that is written

word_in : (n : ℕ) → n < 2 ^ 32 → is_word n ≡ true
word_in n h = lt-ltb n (2 ^ 32) h

kind_low : (k : EndpointType) → leb (kind_number k) 3 ≡ true
kind_low K.Control = refl
kind_low K.Isochronous = refl
kind_low K.Bulk = refl
kind_low K.Interrupt = refl

direction_low : (d : Direction) → leb (direction_number d) 1 ≡ true
direction_low D.Out = refl
direction_low D.In = refl

flag_low : (b : Bool) → leb (flag_number b) 1 ≡ true
flag_low true = refl
flag_low false = refl

call_back : (c : Call) → OwnCall c → entry_from (call_fields c) ≡ Some (ACall c)
unfolding judged_as plain bring_up_step open_endpoint close set_address set_packet_size submit writeback cancel collect acknowledge drain clear_halt call_fields zero_after
call_back C.StartBringUp h = refl
call_back (C.BringUpStep v) h = rw (word_in v h, mod-eq_of_lt h)
call_back C.AllocateAddress h = refl
call_back (C.OpenEndpoint e) h = rw (kind_low e.kind, lt-ltb e.packet (2 ^ 16) h, kind_there e.kind, mod-eq_of_lt h)
call_back (C.Close k) h = refl
call_back (C.SetAddress k a) h = refl
call_back (C.SetPacketSize k z) h = refl
call_back (C.Submit k t r) h =
    rw (
      kind_low t.kind,
      direction_low t.direction,
      lt-ltb t.setup (2 ^ 48) h.0,
      word_in r.command h.1,
      kind_there t.kind,
      direction_there t.direction,
      mod-eq_of_lt h.1,
    )
    (ap (λ (z : ℕ). Some (ACall (C.Submit k t (record { command = r.command; frame = z; overlay = 0 })))) (sym h.2)
    ∙ ap (λ (z : ℕ). Some (ACall (C.Submit k t (record { command = r.command; frame = r.frame; overlay = z })))) (sym h.3))
call_back (C.Writeback p t) h = rw (word_in t h, mod-eq_of_lt h)
call_back (C.Cancel k id r) h =
    rw (word_in r.command h.0, word_in r.frame h.1, mod-eq_of_lt h.0, mod-eq_of_lt h.1)
    (ap (λ (z : ℕ). Some (ACall (C.Cancel k id (record { command = r.command; frame = r.frame; overlay = z })))) (sym h.2))
call_back (C.Collect k id r) h =
    rw (
      word_in r.command h.0,
      word_in r.frame h.1,
      word_in r.overlay h.2,
      mod-eq_of_lt h.0,
      mod-eq_of_lt h.1,
      mod-eq_of_lt h.2,
    )
call_back (C.Acknowledge x) h =
    rw (
      flag_low x.flag,
      flag_low x.again,
      word_in x.status h.0,
      word_in x.interrupts h.1,
      flag_there x.flag,
      flag_there x.again,
      mod-eq_of_lt h.0,
      mod-eq_of_lt h.1,
    )
call_back (C.Drain v) h = rw (word_in v h, mod-eq_of_lt h)
call_back C.Rearm h = refl
call_back C.Enable h = refl
call_back C.Disable h = refl
call_back (C.ClearHalt k) h = refl

judged_back : (e : Entry) → Own e → entry_from (fields_for e) ≡ Some e
unfolding judged_as plain open_entry scan_step port_power fields_for zero_after
judged_back (Open s) h = refl
judged_back (ACall c) h = call_back c h
judged_back StartScan h = refl
judged_back (ScanStep v) h = rw (word_in v h, mod-eq_of_lt h)
judged_back (PortPower p v) h = rw (word_in v h, mod-eq_of_lt h)

written_whole : (e : Entry) → Whole (fields_for e)
unfolding fields_for call_fields
written_whole (Open s) = record { seven_bytes = refl; seven_numbers = refl }
written_whole (ACall C.StartBringUp) = record { seven_bytes = refl; seven_numbers = refl }
written_whole (ACall (C.BringUpStep v)) = record { seven_bytes = refl; seven_numbers = refl }
written_whole (ACall C.AllocateAddress) = record { seven_bytes = refl; seven_numbers = refl }
written_whole (ACall (C.OpenEndpoint e)) = record { seven_bytes = refl; seven_numbers = refl }
written_whole (ACall (C.Close k)) = record { seven_bytes = refl; seven_numbers = refl }
written_whole (ACall (C.SetAddress k a)) = record { seven_bytes = refl; seven_numbers = refl }
written_whole (ACall (C.SetPacketSize k z)) = record { seven_bytes = refl; seven_numbers = refl }
written_whole (ACall (C.Submit k t r)) = record { seven_bytes = refl; seven_numbers = refl }
written_whole (ACall (C.Writeback p t)) = record { seven_bytes = refl; seven_numbers = refl }
written_whole (ACall (C.Cancel k id r)) = record { seven_bytes = refl; seven_numbers = refl }
written_whole (ACall (C.Collect k id r)) = record { seven_bytes = refl; seven_numbers = refl }
written_whole (ACall (C.Acknowledge x)) = record { seven_bytes = refl; seven_numbers = refl }
written_whole (ACall (C.Drain v)) = record { seven_bytes = refl; seven_numbers = refl }
written_whole (ACall C.Rearm) = record { seven_bytes = refl; seven_numbers = refl }
written_whole (ACall C.Enable) = record { seven_bytes = refl; seven_numbers = refl }
written_whole (ACall C.Disable) = record { seven_bytes = refl; seven_numbers = refl }
written_whole (ACall (C.ClearHalt k)) = record { seven_bytes = refl; seven_numbers = refl }
written_whole StartScan = record { seven_bytes = refl; seven_numbers = refl }
written_whole (ScanStep v) = record { seven_bytes = refl; seven_numbers = refl }
written_whole (PortPower p v) = record { seven_bytes = refl; seven_numbers = refl }

-- a record that is written is read as what was written
pub entry_reads : (e : Entry) → Representable e → entry_of (record_of e) ≡ Some e
unfolding entry_of record_of
entry_reads e r = rw (bytes_length (fields_for e), fields_read (fields_for e) (written_whole e) r.numbers) (judged_back e r.own)
