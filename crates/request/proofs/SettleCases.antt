-- The returns of the functions that settle an accepted request.
use Rattle.std.specs.Prelude.{◌≡◌, ℕ, ◌*◌, Bool, true, false, List, [], ◌∷◌, get_or}
use mathlib.Core.Path.{refl, sym, ap, ◌∙◌}
use Rattle.common.specs.declared.kinds.EndpointType.{EndpointType}
use Rattle.descriptor.specs.Setups.{setup_packet}
use Rattle.pool.specs.Places.{packed}
use Rattle.state.specs.Plain.{Ehci}
use Rattle.common.specs.Kinds.{is_control, is_interrupt}
use Rattle.common.specs.Rows.{put_at}
use Rattle.controller.specs.declared.lent.Readings.{Readings}
use Rattle.schedule.specs.Links.{Links, attached_frames, attached_ring, links, slot_link, started_overlay}
use Rattle.request.specs.Submit.{accepted_with, first_in, linked_rows, settled_submit, setups_with, submitted, taken_for, toggle_at}
use Rattle.request.specs.Plain.{Submitted}
use Rattle.request.specs.declared.judge.TransferRequest.{TransferRequest}
use Rattle.request.specs.Plain.{Taken}
use Rattle.token.specs.Overlay.{overlay_token}

module _ (h f h' : List ℕ) (kind : EndpointType) (k link first token : ℕ) (i : Bool) (eh : h' ≡ started_overlay h k first token) (ei : i ≡ is_interrupt kind) where
  pub rows_frames : i ≡ true → (h'' f'' : List ℕ) → links h'' f'' ≡ attached_frames h' f k link → links h'' f'' ≡ linked_rows h f kind k link first token
  unfolding linked_rows
  rows_frames t h'' f'' e = e ∙ rw (sym ei ∙ t, eh)

  pub rows_ring : i ≡ false → (h'' : List ℕ) → h'' ≡ attached_ring h' k link → links h'' f ≡ linked_rows h f kind k link first token
  unfolding linked_rows
  rows_ring t h'' e = rw (sym ei ∙ t, e, eh)

module _ (u : List ℕ) (k : ℕ) (t : TransferRequest) (c : Bool) (ec : c ≡ is_control t.kind) where
  pub setup_put : c ≡ true → (p u' : List ℕ) → p ≡ setup_packet t.setup t.length → u' ≡ put_at u (8 * k) p → u' ≡ setups_with u k t
  unfolding setups_with
  setup_put h p u' ep eu = eu ∙ rw (ep, sym ec ∙ h)

  pub setup_kept : c ≡ false → u ≡ setups_with u k t
  unfolding setups_with
  setup_kept h = rw (sym ec ∙ h)

-- the first of a list that is packed
pub packed_first : (ps : List ℕ) → get_or (packed ps).at 0 0 ≡ get_or ps 0 0
unfolding packed
packed_first [] = refl
packed_first (p ∷ ps) = refl

pub settled_is : (s : Ehci) (h f u h' f' u' : List ℕ) (r : Readings) (k : ℕ) (t : TransferRequest) (g : Taken) (x : Submitted)
    → g ≡ taken_for s k t → links h' f' ≡ linked_rows h f t.kind k (slot_link s k) (first_in s g) (overlay_token t.kind (toggle_at s k)) → u' ≡ setups_with u k t
    → x ≡ accepted_with s r k t g → submitted x h' f' u' ≡ settled_submit s h f u r k t
unfolding settled_submit
settled_is s h f u h' f' u' r k t g x eg el eu ex =
    rw (ex, eu, sym eg) (ap (λ (l : Links). submitted (accepted_with s r k t g) l.heads l.frames (setups_with u k t)) el)
