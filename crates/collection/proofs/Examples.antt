-- The definitions, run.
use Rattle.std.specs.Prelude.{◌≡◌, true, false, [], ◌∷◌, map, length}
use mathlib.Core.Path.{refl}
use Rattle.register.specs.Bits.{without_bits}
use Rattle.register.specs.Writes.{and_then, no_writes}
use Rattle.pool.specs.declared.chain.Standing.TheVariants.{Inactive, Erring, Active}
use Rattle.pool.specs.Chains.{Seen, first_error, length_of, read_of, retried_of, seen_from, standing_of, view_of}
use Rattle.pool.specs.Places.{clear_of, list_of, packed, places_from}
use Rattle.pool.specs.Transfers.{requested_at}
use Rattle.settings.specs.Settings.{settings_good, numbers_good, each_good, no_overlap, area_good, apart_areas}
use Rattle.slot.specs.Ranges.{slot_good, phase_good, closed_good, no_request, idle_good, linked_good, unlinking_good, boundary_good, open_kind, size_good, size_kept, toggle_kept}
use Rattle.state.specs.Ranges.{in_ranges, rest_good, machine_good, interrupt_good, doorbell_good, owner_good, largest, slots_good}
use Rattle.state.specs.Slots.{slot_at, with_slot}
use Rattle.state.specs.State.{with_bell, with_owner}
use Rattle.pipe.specs.Endpoints.{decoded, endpoint_at, with_endpoint}
use Rattle.controller.specs.Lent.{accepts_of, lengths}
use Rattle.opening.specs.Opening.{rows_are_fit}
use Rattle.common.specs.Rows.{put_at}
use Rattle.schedule.specs.Bell.{ring_of, unlinked_of}
use Rattle.schedule.specs.Links.{detach_of, ended_overlay, predecessor_of}
use Rattle.collection.specs.Answers.{outcome_of}
use Rattle.collection.specs.Asks.{ask_of, askable, request_ask}
use Rattle.collection.specs.Unlinks.{bounded_of, unlink_of, waiting_of}
use Rattle.collection.specs.Calls.{cancel_of, collect_of, finish_of, freed, linked_of, unlinking_of}
use Rattle.collection.specs.Examples.{cancel_row, cancelled, collect_row, collected, cut_request, no_frames, one_request, request_under, ring_of_one, seen, seen_with, toggle_row, view_left}

-- ---- the states are in their ranges, but the last

linked_fits : accepts_of (one_request 2 2 0 0 0) (lengths 5 (length ring_of_one) (length no_frames) 16) ≡ true
unfolding accepts_of rows_are_fit in_ranges rest_good machine_good interrupt_good doorbell_good owner_good largest slots_good slot_good phase_good closed_good idle_good no_request linked_good unlinking_good boundary_good open_kind size_good size_kept toggle_kept settings_good numbers_good each_good no_overlap area_good apart_areas slot_at without_bits
linked_fits = refl

crowded_fits : accepts_of (one_request 2 2 0 0 32) (lengths 5 (length ring_of_one) (length no_frames) 16) ≡ true
unfolding accepts_of rows_are_fit in_ranges rest_good machine_good interrupt_good doorbell_good owner_good largest slots_good slot_good phase_good closed_good idle_good no_request linked_good unlinking_good boundary_good open_kind size_good size_kept toggle_kept settings_good numbers_good each_good no_overlap area_good apart_areas slot_at without_bits
crowded_fits = refl

waiting_fits : accepts_of (one_request 3 2 0 1 1) (lengths 5 (length ring_of_one) (length no_frames) 16) ≡ true
unfolding accepts_of rows_are_fit in_ranges rest_good machine_good interrupt_good doorbell_good owner_good largest slots_good slot_good phase_good closed_good idle_good no_request linked_good unlinking_good boundary_good open_kind size_good size_kept toggle_kept settings_good numbers_good each_good no_overlap area_good apart_areas slot_at without_bits
waiting_fits = refl

passed_fits : accepts_of (one_request 3 2 0 0 0) (lengths 5 (length ring_of_one) (length no_frames) 16) ≡ true
unfolding accepts_of rows_are_fit in_ranges rest_good machine_good interrupt_good doorbell_good owner_good largest slots_good slot_good phase_good closed_good idle_good no_request linked_good unlinking_good boundary_good open_kind size_good size_kept toggle_kept settings_good numbers_good each_good no_overlap area_good apart_areas slot_at without_bits
passed_fits = refl

marked_fits : accepts_of (one_request 3 2 1 0 0) (lengths 5 (length ring_of_one) (length no_frames) 16) ≡ true
unfolding accepts_of rows_are_fit in_ranges rest_good machine_good interrupt_good doorbell_good owner_good largest slots_good slot_good phase_good closed_good idle_good no_request linked_good unlinking_good boundary_good open_kind size_good size_kept toggle_kept settings_good numbers_good each_good no_overlap area_good apart_areas slot_at without_bits
marked_fits = refl

outside : accepts_of (one_request 1 2 0 0 0) (lengths 5 (length ring_of_one) (length no_frames) 16) ≡ false
unfolding accepts_of rows_are_fit in_ranges rest_good machine_good interrupt_good doorbell_good owner_good largest slots_good slot_good phase_good closed_good idle_good no_request linked_good unlinking_good boundary_good open_kind size_good size_kept toggle_kept settings_good numbers_good each_good no_overlap area_good apart_areas slot_at without_bits
outside = refl

-- ---- cancel: answer, writes, the ring head's link; the slot's phase, mark, boundary; unanswered; place 0's owner

-- linked: marked and unlinked, boundary 1, the doorbell rung, the ring head alone again
pub cancel_linked : cancel_row (cancelled (one_request 2 2 0 0 0) 0 1) ≡ 0 ∷ 1 ∷ 0x200002 ∷ 3 ∷ 1 ∷ 1 ∷ 1 ∷ 1 ∷ []
unfolding cancel_of endpoint_at decoded slot_at unlink_of waiting_of bounded_of unlinked_of ring_of detach_of predecessor_of with_endpoint with_slot with_bell no_writes and_then
cancel_linked = rw linked_fits

-- unlinking: marked only
pub cancel_waiting : cancel_row (cancelled (one_request 3 2 0 1 1) 0 1) ≡ 0 ∷ 0 ∷ 0x200082 ∷ 3 ∷ 1 ∷ 1 ∷ 1 ∷ 1 ∷ []
unfolding cancel_of endpoint_at decoded slot_at unlink_of waiting_of bounded_of unlinked_of ring_of detach_of predecessor_of with_endpoint with_slot with_bell no_writes and_then
cancel_waiting = rw waiting_fits

-- a wrong id
pub cancel_wrong_id : cancel_row (cancelled (one_request 2 2 0 0 0) 0 2) ≡ 3 ∷ 0 ∷ 0x200082 ∷ 2 ∷ 0 ∷ 0 ∷ 0 ∷ 1 ∷ []
unfolding cancel_of endpoint_at decoded slot_at unlink_of waiting_of bounded_of unlinked_of ring_of detach_of predecessor_of with_endpoint with_slot with_bell no_writes and_then
cancel_wrong_id = rw linked_fits

-- a closed slot, and one that does not exist
pub cancel_closed_slot : cancel_row (cancelled (one_request 2 2 0 0 0) 1 1) ≡ 3 ∷ 0 ∷ 0x200082 ∷ 2 ∷ 0 ∷ 0 ∷ 0 ∷ 1 ∷ []
unfolding cancel_of endpoint_at decoded slot_at unlink_of waiting_of bounded_of unlinked_of ring_of detach_of predecessor_of with_endpoint with_slot with_bell no_writes and_then
cancel_closed_slot = rw linked_fits

pub cancel_no_slot : cancel_row (cancelled (one_request 2 2 0 0 0) 40 1) ≡ 3 ∷ 0 ∷ 0x200082 ∷ 2 ∷ 0 ∷ 0 ∷ 0 ∷ 1 ∷ []
unfolding cancel_of endpoint_at decoded slot_at unlink_of waiting_of bounded_of unlinked_of ring_of detach_of predecessor_of with_endpoint with_slot with_bell no_writes and_then
cancel_no_slot = rw linked_fits

-- linked, with 32 unlinks unanswered
pub cancel_crowded_slot : cancel_row (cancelled (one_request 2 2 0 0 32) 0 1) ≡ 1 ∷ 0 ∷ 0x200082 ∷ 2 ∷ 0 ∷ 0 ∷ 32 ∷ 1 ∷ []
unfolding cancel_of endpoint_at decoded slot_at unlink_of waiting_of bounded_of unlinked_of ring_of detach_of predecessor_of with_endpoint with_slot with_bell no_writes and_then
cancel_crowded_slot = rw crowded_fits

-- a state outside its ranges
pub cancel_outside : cancel_row (cancelled (one_request 1 2 0 0 0) 0 1) ≡ 1 ∷ 0 ∷ 0x200082 ∷ 1 ∷ 0 ∷ 0 ∷ 0 ∷ 1 ∷ []
unfolding cancel_of endpoint_at decoded slot_at unlink_of waiting_of bounded_of unlinked_of ring_of detach_of predecessor_of with_endpoint with_slot with_bell no_writes and_then
cancel_outside = rw outside

-- ---- collect: answer, its value, writes, the ring head's link, the slot's overlay next; then as above

-- an active descriptor comes first
pub collect_active_first : collect_row (collected (one_request 2 2 0 0 0) 0 (seen Active 0 0) 0 1) ≡ 9 ∷ 0 ∷ 0 ∷ 0x200082 ∷ 7 ∷ 2 ∷ 0 ∷ 0 ∷ 0 ∷ 1 ∷ []
unfolding collect_of linked_of unlinking_of finish_of freed clear_of outcome_of endpoint_at decoded slot_at unlink_of waiting_of bounded_of unlinked_of ring_of detach_of predecessor_of ended_overlay put_at with_endpoint with_slot with_owner with_bell no_writes and_then
collect_active_first = rw linked_fits

-- every descriptor inactive: unlinked
pub collect_all_inactive : collect_row (collected (one_request 2 2 0 0 0) 0 (seen Inactive 0 20000) 0 1) ≡ 9 ∷ 0 ∷ 1 ∷ 0x200002 ∷ 7 ∷ 3 ∷ 0 ∷ 1 ∷ 1 ∷ 1 ∷ []
unfolding collect_of linked_of unlinking_of finish_of freed clear_of outcome_of endpoint_at decoded slot_at unlink_of waiting_of bounded_of unlinked_of ring_of detach_of predecessor_of ended_overlay put_at with_endpoint with_slot with_owner with_bell no_writes and_then
collect_all_inactive = rw linked_fits

-- an error before any active one: unlinked
pub collect_error_first : collect_row (collected (one_request 2 2 0 0 0) 0 (seen Erring 0x48 0) 0 1) ≡ 9 ∷ 0 ∷ 1 ∷ 0x200002 ∷ 7 ∷ 3 ∷ 0 ∷ 1 ∷ 1 ∷ 1 ∷ []
unfolding collect_of linked_of unlinking_of finish_of freed clear_of outcome_of endpoint_at decoded slot_at unlink_of waiting_of bounded_of unlinked_of ring_of detach_of predecessor_of ended_overlay put_at with_endpoint with_slot with_owner with_bell no_writes and_then
collect_error_first = rw linked_fits

-- one advance to come
pub collect_not_answered : collect_row (collected (one_request 3 2 0 1 1) 0 (seen Inactive 0 20000) 0 1) ≡ 9 ∷ 0 ∷ 0 ∷ 0x200082 ∷ 7 ∷ 3 ∷ 0 ∷ 1 ∷ 1 ∷ 1 ∷ []
unfolding collect_of linked_of unlinking_of finish_of freed clear_of outcome_of endpoint_at decoded slot_at unlink_of waiting_of bounded_of unlinked_of ring_of detach_of predecessor_of ended_overlay put_at with_endpoint with_slot with_owner with_bell no_writes and_then
collect_not_answered = rw waiting_fits

-- none to come: complete, freed, idle
pub collect_complete : collect_row (collected (one_request 3 2 0 0 0) 0 (seen Inactive 0 20000) 0 1) ≡ 0 ∷ 20000 ∷ 0 ∷ 0x200082 ∷ 1 ∷ 1 ∷ 0 ∷ 0 ∷ 0 ∷ 0 ∷ []
unfolding collect_of linked_of unlinking_of finish_of freed clear_of outcome_of endpoint_at decoded slot_at unlink_of waiting_of bounded_of unlinked_of ring_of detach_of predecessor_of ended_overlay put_at with_endpoint with_slot with_owner with_bell no_writes and_then
collect_complete = rw passed_fits

-- failed, with the token
pub collect_failed : collect_row (collected (one_request 3 2 0 0 0) 0 (seen Erring 0x48 16384) 0 1) ≡ 11 ∷ 0x48 ∷ 0 ∷ 0x200082 ∷ 1 ∷ 1 ∷ 0 ∷ 0 ∷ 0 ∷ 0 ∷ []
unfolding collect_of linked_of unlinking_of finish_of freed clear_of outcome_of endpoint_at decoded slot_at unlink_of waiting_of bounded_of unlinked_of ring_of detach_of predecessor_of ended_overlay put_at with_endpoint with_slot with_owner with_bell no_writes and_then
collect_failed = rw passed_fits

-- cancelled, whatever the tokens say
pub collect_cancelled : collect_row (collected (one_request 3 2 1 0 0) 0 (seen Erring 0x48 16384) 0 1) ≡ 10 ∷ 0 ∷ 0 ∷ 0x200082 ∷ 1 ∷ 1 ∷ 0 ∷ 0 ∷ 0 ∷ 0 ∷ []
unfolding collect_of linked_of unlinking_of finish_of freed clear_of outcome_of endpoint_at decoded slot_at unlink_of waiting_of bounded_of unlinked_of ring_of detach_of predecessor_of ended_overlay put_at with_endpoint with_slot with_owner with_bell no_writes and_then
collect_cancelled = rw marked_fits

-- a wrong id
pub collect_wrong_id : collect_row (collected (one_request 3 2 0 0 0) 0 (seen Inactive 0 20000) 0 2) ≡ 3 ∷ 0 ∷ 0 ∷ 0x200082 ∷ 7 ∷ 3 ∷ 0 ∷ 0 ∷ 0 ∷ 1 ∷ []
unfolding collect_of linked_of unlinking_of finish_of freed clear_of outcome_of endpoint_at decoded slot_at unlink_of waiting_of bounded_of unlinked_of ring_of detach_of predecessor_of ended_overlay put_at with_endpoint with_slot with_owner with_bell no_writes and_then
collect_wrong_id = rw passed_fits

-- a closed slot
pub collect_closed_slot : collect_row (collected (one_request 3 2 0 0 0) 0 (seen Inactive 0 20000) 1 1) ≡ 3 ∷ 0 ∷ 0 ∷ 0x200082 ∷ 7 ∷ 3 ∷ 0 ∷ 0 ∷ 0 ∷ 1 ∷ []
unfolding collect_of linked_of unlinking_of finish_of freed clear_of outcome_of endpoint_at decoded slot_at unlink_of waiting_of bounded_of unlinked_of ring_of detach_of predecessor_of ended_overlay put_at with_endpoint with_slot with_owner with_bell no_writes and_then
collect_closed_slot = rw passed_fits

-- ---- a limit of 1000 over packets of 512: the chunks of 1000 bytes are 512 and 488, where by the limit alone they would be one of 1000

cut_fits : accepts_of cut_request (lengths 5 (length ring_of_one) (length no_frames) 16) ≡ true
unfolding accepts_of rows_are_fit in_ranges rest_good machine_good interrupt_good doorbell_good owner_good largest slots_good slot_good phase_good closed_good idle_good no_request linked_good unlinking_good boundary_good open_kind size_good size_kept toggle_kept settings_good numbers_good each_good no_overlap area_good apart_areas slot_at without_bits
cut_fits = refl

pub cut_chunks : map (λ (s : Seen). s.requested) (seen_with (ask_of cut_request 5 0) 0 88) ≡ 512 ∷ 488 ∷ []
unfolding ask_of askable request_ask endpoint_at decoded slot_at places_from packed list_of requested_at seen_from read_of
cut_chunks = refl

-- the first full, 88 bytes left in the second: 512 + 400; by the limit alone 1000
cut_second : view_left cut_request 0 88 ≡ seen Inactive 0 912
unfolding ask_of askable request_ask endpoint_at decoded slot_at places_from packed list_of requested_at seen_from read_of view_of standing_of first_error length_of retried_of
cut_second = refl

-- 100 bytes left in the first: 412, and the second is not read; by the limit alone 900
cut_first : view_left cut_request 100 88 ≡ seen Inactive 0 412
unfolding ask_of askable request_ask endpoint_at decoded slot_at places_from packed list_of requested_at seen_from read_of view_of standing_of first_error length_of retried_of
cut_first = refl

pub collect_cut_second : collect_row (collected cut_request 0 (view_left cut_request 0 88) 0 1) ≡ 0 ∷ 912 ∷ 0 ∷ 0x200082 ∷ 1 ∷ 1 ∷ 0 ∷ 0 ∷ 0 ∷ 0 ∷ []
unfolding collect_of linked_of unlinking_of finish_of freed clear_of outcome_of endpoint_at decoded slot_at unlink_of waiting_of bounded_of unlinked_of ring_of detach_of predecessor_of ended_overlay put_at with_endpoint with_slot with_owner with_bell no_writes and_then
collect_cut_second = rw (cut_second, cut_fits)

pub collect_cut_first : collect_row (collected cut_request 0 (view_left cut_request 100 88) 0 1) ≡ 0 ∷ 412 ∷ 0 ∷ 0x200082 ∷ 1 ∷ 1 ∷ 0 ∷ 0 ∷ 0 ∷ 0 ∷ []
unfolding collect_of linked_of unlinking_of finish_of freed clear_of outcome_of endpoint_at decoded slot_at unlink_of waiting_of bounded_of unlinked_of ring_of detach_of predecessor_of ended_overlay put_at with_endpoint with_slot with_owner with_bell no_writes and_then
collect_cut_first = rw (cut_first, cut_fits)

-- ---- the toggle of a passing collect, complete, failed or cancelled, and of control too

pub keeps_odd : (toggle_row (one_request 3 2 0 0 0) 0x80000D00 (seen Inactive 0 20000) 1 ≡ 1) × (toggle_row (one_request 3 2 0 0 0) 0x7FFFFFFF (seen Inactive 0 20000) 1 ≡ 0)
unfolding collect_of linked_of unlinking_of finish_of freed clear_of outcome_of endpoint_at decoded slot_at with_endpoint with_slot with_owner
keeps_odd = (rw passed_fits, rw passed_fits)

pub keeps_failed : toggle_row (one_request 3 2 0 0 0) 0x80000040 (seen Erring 0x48 16384) 1 ≡ 1
unfolding collect_of linked_of unlinking_of finish_of freed clear_of outcome_of endpoint_at decoded slot_at with_endpoint with_slot with_owner
keeps_failed = rw passed_fits

pub keeps_cancelled : toggle_row (one_request 3 2 1 0 0) 0x80000D00 (seen Erring 0x48 16384) 1 ≡ 1
unfolding collect_of linked_of unlinking_of finish_of freed clear_of outcome_of endpoint_at decoded slot_at with_endpoint with_slot with_owner
keeps_cancelled = rw marked_fits

control_fits : accepts_of (request_under 16384 100 3 0 0 0 0) (lengths 5 (length ring_of_one) (length no_frames) 16) ≡ true
unfolding accepts_of rows_are_fit in_ranges rest_good machine_good interrupt_good doorbell_good owner_good largest slots_good slot_good phase_good closed_good idle_good no_request linked_good unlinking_good boundary_good open_kind size_good size_kept toggle_kept settings_good numbers_good each_good no_overlap area_good apart_areas slot_at without_bits
control_fits = refl

pub keeps_control : toggle_row (request_under 16384 100 3 0 0 0 0) 0x80000D00 (seen Inactive 0 100) 1 ≡ 1
unfolding collect_of linked_of unlinking_of finish_of freed clear_of outcome_of endpoint_at decoded slot_at with_endpoint with_slot with_owner
keeps_control = rw control_fits

-- 9, one advance to come; 9, unlinked by it; 3, a wrong id
pub keeps_none : (toggle_row (one_request 3 2 0 1 1) 0x80000D00 (seen Inactive 0 20000) 1 ≡ 0) × (toggle_row (one_request 2 2 0 0 0) 0x80000D00 (seen Inactive 0 20000) 1 ≡ 0)
    × (toggle_row (one_request 3 2 0 0 0) 0x80000D00 (seen Inactive 0 20000) 2 ≡ 0)
unfolding collect_of linked_of unlinking_of finish_of freed clear_of outcome_of endpoint_at decoded slot_at unlink_of waiting_of bounded_of unlinked_of ring_of detach_of predecessor_of with_endpoint with_slot with_owner with_bell no_writes and_then
keeps_none = (rw waiting_fits, rw linked_fits, rw passed_fits)
