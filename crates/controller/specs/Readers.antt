-- What a caller may ask of a state: its free descriptors, whether a slot has an uncollected request, whose a place is.
use Rattle.std.specs.Prelude.{ℕ, ◌+◌, Bool, true, false, List, [], ◌∷◌, take, ◌==◌, slice_index}
use Rattle.pipe.specs.declared.endpoints.Endpoint.{Endpoint}
use Rattle.pipe.specs.declared.endpoints.Endpoint.TheVariants.{Closed, Idle, Linked, Unlinking}
use Rattle.state.specs.Plain.{Ehci}
use Rattle.pipe.specs.Endpoints.{endpoint_at, flag_number}

unfoldable pub count_zero : List ℕ → ℕ
count_zero [] = 0
count_zero (x ∷ xs) = flag_number (x == 0) + count_zero xs

unfoldable pub free_count : Ehci → ℕ
free_count s = count_zero (take s.settings.descriptors s.owner)

abbrev pub has_endpoint : Endpoint → Bool
has_endpoint Closed = false
has_endpoint (Idle p) = true
has_endpoint (Linked p r) = true
has_endpoint (Unlinking p r b) = true

abbrev pub is_opened : Ehci → ℕ → Bool
is_opened s k = has_endpoint (endpoint_at s k)

abbrev pub holds_request : Endpoint → Bool
holds_request Closed = false
holds_request (Idle p) = false
holds_request (Linked p r) = true
holds_request (Unlinking p r b) = true

abbrev pub is_uncollected : Ehci → ℕ → Bool
is_uncollected s k = holds_request (endpoint_at s k)

abbrev pub has_place : Ehci → ℕ → ℕ → Bool
has_place s k place = slice_index s.owner place == k + 1
