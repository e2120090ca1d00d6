use mathlib.Core.Path.{refl}
use Rattle.ehci.proofs.DoorLaws.{may_decide, together, tidied}
use Rattle.ehci.proofs.door.apply.Goals as goal

pub decide-decided-requires : goal.decide-decided-requires
decide-decided-requires c h =
    let a = c.args in
    may_decide a.core a.slots.now a.rows.now a.heads.now a.frames.now a.setups.now a.call c.look-looked.result c.look-looked.ensures h

pub returns-clause-setups_after : goal.returns-clause-setups_after
returns-clause-setups_after c =
    let a = c.args in
    let d = c.decide-decided in
    together a.core a.slots.now a.rows.now a.heads.now a.frames.now a.setups.now a.call c.look-looked.result c.look-looked.result.ask c.fold_places-seen.result c.look-looked.result.good
    d.result c.decide-decided.result.writing d.new.slots d.new.heads d.new.frames d.new.setups
    c.look-looked.ensures refl c.fold_places-seen.ensures refl d.ensures.setups_after d.ensures.words_after d.ensures.writable refl
    c.decide-decided.result.reply c.write.new.rows c.write.ensures refl

pub returns-clause-words_after : goal.returns-clause-words_after
returns-clause-words_after c =
    let a = c.args in
    let d = c.decide-decided in
    tidied a.core a.slots.now a.rows.now a.heads.now a.frames.now a.setups.now a.call c.look-looked.result c.look-looked.result.ask c.fold_places-seen.result c.look-looked.result.good
    d.result c.decide-decided.result.writing d.new.slots d.new.heads d.new.frames d.new.setups
    c.look-looked.ensures refl c.fold_places-seen.ensures refl d.ensures.setups_after d.ensures.words_after d.ensures.writable refl
    c.decide-decided.result.reply c.write.new.rows c.write.ensures refl
