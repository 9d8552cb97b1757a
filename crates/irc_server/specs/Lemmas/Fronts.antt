-- What the loss of a link puts out goes behind what was put out before.
use Rattle.std.proofs.Common.{◌≡◌, ℕ, Bool, true, false, Option, Some, None, List, [], ◌∷◌, refl}
use Rattle.std.proofs.Common.{◌∙◌, ap, if◌then◌else◌}
use Rattle.std.specs.FinMap.{get}
use Rattle.std.specs.Option.{option_map_or}
use Rattle.irc_room.specs.effect.Effect.{Effect}
use Rattle.irc_merge.specs.Deeds.{Deed, loses, effects_of}
use Rattle.irc_routes.specs.Known.{names_behind}
use Rattle.irc_burst_lines.specs.DeedLines.{deed_parts}
use Rattle.irc_stage.specs.Ways.{but, met_links}
use Rattle.irc_stage.specs.View.{End, View}
use Rattle.irc_stage.specs.EffectTold.{Served, all_changed, changed, changed_if, counts, on_links}
use Rattle.irc_stage.specs.Linked.{told_on_all, unlinked}
use Rattle.irc_stage.specs.Lemmas.Steps.{LeavesInFront, changed_behind, sent_behind}
use Rattle.irc_stage.specs.Loops.Parts.{behind_sent}
use Rattle.irc_server.specs.DeedTold.{deed_told, deeds_told, forgotten, link_lost, losses}
use Rattle.irc_server.specs.DeedTold.{lost_behind, split_text}

-- ---- servers that are lost

changed_if_behind : (effect : Effect) → LeavesInFront (changed_if effect)
changed_if_behind effect out s = by (counts s.state effect)
  where
    by : (b : Bool) → (if b then changed effect (behind_sent out s) else behind_sent out s)
        ≡ behind_sent out (if b then changed effect s else s)
    by true = changed_behind effect out s
    by false = refl

all_changed_behind : (effects : List Effect) → LeavesInFront (all_changed effects)
all_changed_behind [] out s = refl
all_changed_behind (effect ∷ effects) out s =
    ap (all_changed effects) (changed_if_behind effect out s)
    ∙ all_changed_behind effects out (changed_if effect s)

loss_behind : (arrival : Option ℕ) (server name text : List ℕ)
    → LeavesInFront (deed_told arrival (loses server name text))
unfolding deed_told
loss_behind arrival server name text out s =
    let parts = deed_parts s.state.room s.state.routes (loses server name text) in
    let effects = effects_of s.state.room (loses server name text) in
    let left = forgotten name (all_changed effects s) in
    ap (λ t. told_on_all arrival parts (forgotten name t)) (all_changed_behind effects out s)
    ∙ sent_behind (on_links (but arrival (met_links left.state.ends)) parts) out left

losses_behind : (arrival : Option ℕ) (own far : List ℕ) (names : List (List ℕ))
    → LeavesInFront (deeds_told arrival (losses own far names))
losses_behind arrival own far [] out s = refl
losses_behind arrival own far (name ∷ names) out s =
    let text = split_text own far in
    ap (deeds_told arrival (losses own far names)) (loss_behind arrival own name text out s)
    ∙ losses_behind arrival own far names out (deed_told arrival (loses own name text) s)

-- ---- a link is lost

all_lost_behind : (arrival : Option ℕ) (view : View) (link : ℕ) (end : Option End)
    → LeavesInFront (deeds_told arrival (lost_behind view link end))
all_lost_behind arrival view link None out s = refl
all_lost_behind arrival view link (Some end) out s = by end.far
  where
    names : List (List ℕ)
    names = names_behind view.routes link

    by : (far : Option (List ℕ)) → (λ (deeds : List Deed).
        deeds_told arrival deeds (behind_sent out s) ≡ behind_sent out (deeds_told arrival deeds s))
        (option_map_or (λ far. losses view.routes.name far names) far [])
    by None = refl
    by (Some far) = losses_behind arrival view.routes.name far names out s

pub lost_link_behind : (link : ℕ) → LeavesInFront (link_lost link)
lost_link_behind link out s =
    ap (λ (t : Served). record t { state = unlinked link t.state })
    (all_lost_behind (Some link) s.state link (get s.state.ends link) out s)
