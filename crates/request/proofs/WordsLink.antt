-- The returns of the functions that link a head and put a request over words.
use Rattle.std.specs.Prelude.{◌≡◌, ℕ, ◌+◌, ◌*◌, ◌^◌, ◌<◌, ◌≤◌, Bool, false, List, [], ◌∷◌, length, get_or}
use mathlib.Core.Path.{refl, ap, ◌∙◌}
use native.Mathlib.Omega.{arith}
use mir.Syntax.{w32}
use mir.Val.{Fits}
use Rattle.bitset.specs.Places.{set_places}
use Rattle.bitset.specs.Rest.{place_at, rest_of}
use Rattle.bitset.specs.declared.cursor.Cursor.{Cursor}
use Rattle.bitset.proofs.CursorLaws.{place_first}
use Rattle.common.specs.declared.kinds.EndpointType.{EndpointType}
use Rattle.descriptor.specs.Heads.{qh_link}
use Rattle.pipe.specs.Endpoints.{encoded, flag_of}
use Rattle.pipe.specs.declared.endpoints.Endpoint.TheVariants.{Linked}
use Rattle.pipe.proofs.WordsFits.{linked_fits}
use Rattle.schedule.specs.Links.{links}
use Rattle.settings.specs.declared.settings.Settings.{Settings}
use Rattle.slot.specs.Ids.{after_id}
use Rattle.words.specs.Record.{SlotFits, id_in, put_places, put_slot, size_in, toggle_in}
use Rattle.words.proofs.FitLaws.{id_below}
use Rattle.request.specs.Submit.{linked_rows}
use Rattle.request.specs.Words.{first_of, head_of, request_with}
use Rattle.request.specs.declared.judge.TransferRequest.{TransferRequest}
use Rattle.token.specs.Overlay.{overlay_token}

-- ---- `link_rows`

-- the place at which a set's cursor stands is its lowest
lowest_first : (w : List ℕ) (c : Cursor) (p : ℕ) → rest_of c ≡ set_places w → p ≡ place_at c → 1 ≤ length (set_places w) → p ≡ get_or (set_places w) 0 0
lowest_first w c p ec ep h = ep ∙ by (set_places w) ec h
  where
    by : (l : List ℕ) → rest_of c ≡ l → 1 ≤ length l → place_at c ≡ get_or l 0 0
    by [] e g = absurd (omega arith)
    by (q ∷ qs) e g = place_first c q qs e

first_address : (s : Settings) (w : List ℕ) (c : Cursor) (p : ℕ) → rest_of c ≡ set_places w → p ≡ place_at c → 1 ≤ length (set_places w)
    → s.pool + 64 * p ≡ first_of s w
first_address s w c p ec ep h = ap (λ (q : ℕ). s.pool + 64 * q) (lowest_first w c p ec ep h)

pub rows_linked : (s : Settings) (h f h' f' : List ℕ) (kind : EndpointType) (k p link a : ℕ) (w : List ℕ) (c : Cursor)
    → rest_of c ≡ set_places w → p ≡ place_at c → 1 ≤ length (set_places w) → a ≡ head_of s k → link ≡ qh_link a
    → (toggle : Bool) (token : ℕ) → token ≡ overlay_token kind toggle → links h' f' ≡ linked_rows h f kind k link (s.pool + 64 * p) token
    → links h' f' ≡ linked_rows h f kind k (qh_link (head_of s k)) (first_of s w) (overlay_token kind toggle)
rows_linked s h f h' f' kind k p link a w c ec ep some ea el toggle token et e =
    e ∙ rw (first_address s w c p ec ep some, el, ea, et)

pub address_fits : (s : Settings) (w : List ℕ) (c : Cursor) (p : ℕ) → rest_of c ≡ set_places w → p ≡ place_at c → 1 ≤ length (set_places w)
    → first_of s w < 2 ^ 32 → Fits w32 (s.pool + 64 * p)
address_fits s w c p ec ep h b = omega (arith, first_address s w c p ec ep h, b)

-- ---- `put_request`

module _ (t : TransferRequest) (w id : ℕ) where
  pub own_request_fits : id < 2 ^ 64 → t.length < 2 ^ 32 → SlotFits (encoded (request_with t w id))
  own_request_fits h short =
      linked_fits (record { kind = t.kind; size = size_in w; toggle = flag_of (toggle_in w); next = after_id id })
      (record { id = id; direction = t.direction; length = t.length; cancelled = false }) (omega arith) refl (id_below id h) short

  module _ (z g n : ℕ) (ez : z ≡ size_in w) (eg : g ≡ toggle_in w) (en : n ≡ id_in id) where
    pub request_fits_lem : id < 2 ^ 64 → t.length < 2 ^ 32
        → SlotFits (encoded (Linked (record { kind = t.kind; size = z; toggle = flag_of g; next = n }) (record { id = id; direction = t.direction; length = t.length; cancelled = false })))
    request_fits_lem h short = rw (ez, eg, en) (own_request_fits h short)

    pub request_put : (ws ws₁ ws₂ places : List ℕ) (k : ℕ)
        → ws₁ ≡ put_slot ws k (encoded (Linked (record { kind = t.kind; size = z; toggle = flag_of g; next = n }) (record { id = id; direction = t.direction; length = t.length; cancelled = false })))
        → ws₂ ≡ put_places ws₁ k places → ws₂ ≡ put_places (put_slot ws k (encoded (request_with t w id))) k places
    request_put ws ws₁ ws₂ places k e₁ e₂ = e₂ ∙ rw (e₁, ez, eg, en)
