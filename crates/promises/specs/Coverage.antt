-- Coverage: which bytes the descriptors of an accepted request address, as the controller reads them.
use Rattle.std.specs.Prelude.{ℕ, ◌+◌, ◌*◌, List, [], ◌∷◌, ◌++◌, map, ◌≡◌, get_or}
use Rattle.token.specs.EhciQtd.{current_page, total_bytes}
use Rattle.common.specs.declared.kinds.EndpointType.{EndpointType}
use Rattle.common.specs.declared.kinds.EndpointType.TheVariants.{Control, Isochronous, Bulk, Interrupt}
use Rattle.descriptor.specs.EhciQtd.{byte_address}
use Rattle.descriptor.specs.declared.qtd.QueueTransferDescriptor.{QueueTransferDescriptor}
use Rattle.pool.specs.Chains.{blank}
use Rattle.pool.specs.Places.{up_from}
use Rattle.settings.specs.declared.settings.Settings.{Settings}
use Rattle.controller.specs.declared.lent.Readings.{Readings}
use Rattle.request.specs.declared.judge.TransferRequest.{TransferRequest}
use Rattle.ehci.specs.declared.call.Call.TheVariants.{Submit}
use Rattle.ehci.specs.Replies.{answered_number}
use Rattle.promises.specs.Runs.{Always, History, Moment, Promise, Rows, rows_of}
use Rattle.promises.specs.Walks.{chain_walk}

-- EHCI 3.5.3, 3.5.4: byte j of a descriptor, by its page words from the token's current page on, with upper slots times 2^32
abbrev pub byte_of : QueueTransferDescriptor → ℕ → ℕ
byte_of d j = byte_address d.pages d.upper (4096 * current_page d.token + j)

-- as many bytes as the token counts
abbrev pub bytes_of : QueueTransferDescriptor → List ℕ
bytes_of d = map (byte_of d) (up_from 0 (total_bytes d.token))

abbrev pub addressed : List QueueTransferDescriptor → List ℕ
addressed [] = []
addressed (d ∷ ds) = bytes_of d ++ addressed ds

-- all but the last, of a descriptor and those that follow it
abbrev pub all_but_last : QueueTransferDescriptor → List QueueTransferDescriptor → List QueueTransferDescriptor
all_but_last d [] = []
all_but_last d (e ∷ es) = d ∷ all_but_last e es

-- a control request's chain begins with its setup and ends with its status: its data is between
abbrev pub between : List QueueTransferDescriptor → List QueueTransferDescriptor
between [] = []
between (setup ∷ []) = []
between (setup ∷ d ∷ ds) = all_but_last d ds

-- the descriptors for the buffer: of a control request those between setup and status, of any other all
abbrev pub data_of : EndpointType → List QueueTransferDescriptor → List QueueTransferDescriptor
data_of Control ds = between ds
data_of Isochronous ds = ds
data_of Bulk ds = ds
data_of Interrupt ds = ds

-- the records that slot k's overlay leads through
abbrev pub records_met : Settings → Rows → ℕ → List QueueTransferDescriptor
records_met s rows k = map (λ p. get_or rows.pool p blank) (chain_walk s rows k)

-- at the exit of each accepted submit they address the call's own buffer, byte for byte: each byte once, in order, and no other
abbrev pub Covered : Settings → History → Moment → Type 0
Covered s h w =
    (k : ℕ) (t : TransferRequest) (readings : Readings) → answered_number (w.does (Submit k t readings)).reply.answer ≡ 0
    → addressed (data_of t.kind (records_met s (rows_of (w.does (Submit k t readings))) k)) ≡ up_from t.address t.length

abbrev pub Coverage : Promise
Coverage = Always Covered
