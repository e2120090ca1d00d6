-- Calls that neither take nor free a place keep the tie between uses and world.
use Prim.Native.Nat.{ℕ, ◌+◌}
use mathlib.Core.Path.{◌≡◌, sym, ap, ◌∙◌}
use mathlib.Core.List.{List, [], ◌∷◌}
use lib.ListN.{get_or, take}
use Rattle.descriptor.specs.declared.qtd.QueueTransferDescriptor.{QueueTransferDescriptor}
use Rattle.pool.specs.Chains.{blank}
use Rattle.pool.specs.Places.{Each, count_of, places_from}
use Rattle.settings.specs.declared.settings.Settings.{Settings}
use Rattle.promises.specs.Walks.{next_leads, next_walk}
use Rattle.promises.specs.Uses.{Use, needs}
use Rattle.promises.specs.Rooms.{untold}
use Rattle.promises.proofs.any_machine.Walking.{walk_along}
use Rattle.promises.proofs.invariants.UseInv.{HeldBy, Kept, Nobody, Tenant, every_map, overlay_next, tenants_apart}

pub each_all : (P : ℕ → Type 0) → ((p : ℕ) → P p) → (ps : List ℕ) → Each P ps
each_all P f [] = tt
each_all P f (p ∷ ps) = (f p, each_all P f ps)

-- ---- the same owners, tenants, records but for tokens, and next words of overlays

module _ (s : Settings) (owner owner' : List ℕ) (tenant tenant' : ℕ → Tenant) (pool pool' : List QueueTransferDescriptor) (heads heads' : List ℕ)
    (same-owner : take s.descriptors owner' ≡ take s.descriptors owner) (same-tenant : (k : ℕ) → tenant' k ≡ tenant k)
    (same-record : (p : ℕ) → untold (get_or pool' p blank) ≡ untold (get_or pool p blank))
    (same_word : (k : ℕ) → (tenant k ≡ Nobody → ⊥) → overlay_next heads' k ≡ overlay_next heads k) where
  kept_quiet : (u : Use) → Kept s owner tenant pool heads u → Kept s owner' tenant' pool' heads' u
  kept_quiet u kept =
      record {
        below = kept.below;
        holds = same-tenant u.slot ∙ kept.holds;
        places_are = kept.places_are ∙ ap (λ (o : List ℕ). places_from 0 o (u.slot + 1) 256) (sym same-owner);
        as_needed = kept.as_needed;
        leads = ap (next_walk s pool') word
            ∙ walk_along (next_leads s) (λ p. (get_or pool p blank).next) (λ p. (get_or pool' p blank).next) (s.descriptors + 1) (overlay_next heads u.slot)
            (each_all (λ p. (get_or pool' p blank).next ≡ (get_or pool p blank).next) next (next_walk s pool (overlay_next heads u.slot)).met) ∙ kept.leads;
        written = λ j h. same-record (get_or u.places j 0) ∙ kept.written j h;
      }
    where
      word : overlay_next heads' u.slot ≡ overlay_next heads u.slot
      word = same_word u.slot (λ e. tenants_apart u.request.kind u.size u.id u.request.direction u.request.length (tenant u.slot) e kept.holds)

      next : (p : ℕ) → (get_or pool' p blank).next ≡ (get_or pool p blank).next
      next p = ap (λ (d : QueueTransferDescriptor). d.next) (same-record p)

  pub held_quiet : (us : List Use) → HeldBy s owner tenant pool heads us → HeldBy s owner' tenant' pool' heads' us
  held_quiet us held =
      record {
        each = every_map (Kept s owner tenant pool heads) (Kept s owner' tenant' pool' heads') kept_quiet us held.each;
        apart = held.apart;
        rest = λ k a. (same-tenant k ∙ (held.rest k a).0, ap (λ (o : List ℕ). places_from 0 o (k + 1) 256) same-owner ∙ (held.rest k a).1);
        room = ap (λ (o : List ℕ). count_of 0 o + needs s us) same-owner ∙ held.room;
      }
