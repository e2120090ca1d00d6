-- What a collection answers: 10, 11 or 0, from the history, the request, and the tokens that its places have in the pool at that call.
use Rattle.std.specs.Prelude.{ℕ, ◌+◌, ◌-◌, min, Bool, true, false, cond, ◌&&◌, List, [], ◌∷◌, map, ◌≡◌, get_or}
use Rattle.token.specs.EhciQtd.{total_bytes, transaction_error}
use Rattle.common.specs.declared.kinds.EndpointType.{EndpointType}
use Rattle.common.specs.declared.kinds.EndpointType.TheVariants.{Control, Isochronous, Bulk, Interrupt}
use Rattle.descriptor.specs.declared.qtd.QueueTransferDescriptor.{QueueTransferDescriptor}
use Rattle.pool.specs.Chains.{blank}
use Rattle.settings.specs.declared.settings.Settings.{Settings}
use Rattle.controller.specs.declared.lent.Readings.{Readings}
use Rattle.ehci.specs.declared.call.Call.TheVariants.{Collect}
use Rattle.ehci.specs.Replies.{answered_values}
use Rattle.promises.specs.Runs.{Always, History, Moment, Promise, Rows}
use Rattle.promises.specs.Events.{is_collected}
use Rattle.promises.specs.Tokens.{is_erring, is_short}
use Rattle.promises.specs.Uses.{Use, is_of, limit_of_use, may_end_short, uses}
use Rattle.promises.specs.Bells.{cancelled}
use Rattle.promises.specs.Rooms.{number_at}
use Rattle.promises.specs.Coverage.{data_of}

-- ---- the length

-- a control request's data is one piece; "chunks of C, then the rest", where C reads the working limit
abbrev pub piece_of : EndpointType → ℕ → ℕ → ℕ
piece_of Control length limit = length
piece_of Isochronous length limit = limit
piece_of Bulk length limit = limit
piece_of Interrupt length limit = limit

-- "the sum over data descriptors of max(0, requested − bytes left)": of each a piece is requested, of the last the rest
abbrev pub moved : ℕ → ℕ → List ℕ → ℕ
moved piece length [] = 0
moved piece length (token ∷ tokens) = (min piece length - total_bytes token) + moved piece (length - piece) tokens

-- ---- the tokens

abbrev pub records_at : Rows → List ℕ → List QueueTransferDescriptor
records_at rows places = map (λ p. get_or rows.pool p blank) places

abbrev pub tokens_of : List QueueTransferDescriptor → List ℕ
tokens_of ds = map (λ d. d.token) ds

abbrev pub erring : List ℕ → List ℕ
erring [] = []
erring (token ∷ tokens) = cond (is_erring token) (token ∷ erring tokens) (erring tokens)

-- 02 order 7: "how many of its descriptors have bit 3 set"
abbrev pub retries : List ℕ → ℕ
retries [] = 0
retries (token ∷ tokens) = transaction_error token + retries tokens

-- of a request that may end short "the reported length stops with" the first that is inactive without error and has bytes left: nothing after
-- it is read
abbrev pub read_to : Bool → List QueueTransferDescriptor → List QueueTransferDescriptor
read_to short [] = []
read_to short (d ∷ ds) = d ∷ cond (short && is_short d.token) [] (read_to short ds)

-- ---- what is due

pub record Due : Type 0 where
  pub number : ℕ
  pub values : List ℕ

-- "else Failed with the first erring token; else the sum", and how many were retried
abbrev pub finished_due : List ℕ → ℕ → ℕ → Due
finished_due [] length retried = record { number = 0; values = length ∷ retried ∷ [] }
finished_due (token ∷ more) length retried = record { number = 11; values = token ∷ [] }

-- "Cancelled if cancelled"
abbrev pub due_of : Bool → List ℕ → ℕ → ℕ → Due
due_of true failed length retried = record { number = 10; values = [] }
due_of false failed length retried = finished_due failed length retried

abbrev pub due_to : Settings → History → Rows → Use → Due
due_to s h rows u =
    let r = u.request in
    let records = read_to (may_end_short u) (records_at rows u.places) in
    due_of (cancelled s u.slot h) (erring (tokens_of records))
    (moved (piece_of r.kind r.length (limit_of_use s u)) r.length (tokens_of (data_of r.kind records))) (retries (tokens_of records))

-- ---- of any machine

abbrev pub those : ℕ → ℕ → List Use → List Use
those k id [] = []
those k id (u ∷ us) = cond (is_of k id u) (u ∷ those k id us) (those k id us)

-- one request of that slot and id is uncollected, and the answer has the number and the values that are due to it
pub record Answers (s : Settings) (h : History) (w : Moment) (k id : ℕ) (readings : Readings) : Type 0 where
  pub uncollected : Use
  pub only : those k id (uses s h) ≡ uncollected ∷ []
  pub number_is : number_at w (Collect k id readings) ≡ (due_to s h w.rows uncollected).number
  pub values_are : answered_values (w.does (Collect k id readings)).reply.answer ≡ (due_to s h w.rows uncollected).values

abbrev pub CollectsDue : Promise
CollectsDue =
    Always
    (λ s h w. (k id : ℕ) (readings : Readings) → is_collected (w.does (Collect k id readings)).reply.answer ≡ true → Answers s h w k id readings)
