-- 02 order 6: the token of a head's overlay (EHCI 4.10.2, USB 8.6). Only its toggle outlives a request.
use Rattle.std.specs.Prelude.{ℕ, ◌^◌, Bool, not, cond, eqb}
use Rattle.common.specs.Kinds.{is_control}
use Rattle.common.specs.declared.kinds.EndpointType.{EndpointType}
use Rattle.token.specs.EhciQtd.{data_toggle}
use Rattle.token.specs.Tokens.{only_if}

-- "keeps its bit 31"
abbrev pub kept_toggle : ℕ → Bool
kept_toggle token = not (eqb (data_toggle token) 0)

-- "that bit .. for bulk and interrupt, 0 for control"
unfoldable pub overlay_token : EndpointType → Bool → ℕ
overlay_token kind toggle = cond (is_control kind) 0 (only_if toggle (2 ^ 31))
