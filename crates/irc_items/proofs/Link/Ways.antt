-- What is under way just after a link was made: all that its two ends tell each other, and nothing
-- else.
use Rattle.std.proofs.Common.{◌≡◌, ℕ, Bool, true, false, cond, ◌||◌, Option, Some, None, List, []}
use Rattle.std.proofs.Common.{◌++◌, map, refl, sym, ap, subst, ◌∙◌, inl, inr, unwrap_or}
use Rattle.std.proofs.Common.{if◌then◌else◌}
use Rattle.std.proofs.lemmas.List.{map-append}
use Rattle.std.specs.FinMap.{get}
use Rattle.std.specs.List.{list_any}
use Rattle.std.specs.Option.{option_map, option_map_or}
use Rattle.irc_burst_lines.specs.BurstLines.{burst_parts}
use Rattle.irc_line.specs.Messages.{line_text}
use Rattle.irc_relay.specs.Distances.{IsAmong}
use Rattle.irc_relay.specs.Links.{Name, Link, has_ends, joined, linked, same, HasEnds}
use Rattle.irc_relay.specs.Relay.{under_way}
use Rattle.irc_relay.specs.Lemmas.LinkTakenOut.{tests_tell}
use Rattle.irc_stage.specs.View.{End, View, fresh_end}
use Rattle.irc_stage.specs.Ends.{is_met as has_far}
use Rattle.irc_server.specs.LinkServed.{opening_parts, owed_by}
use Rattle.irc_world.specs.World.{World}
use Rattle.irc_follow.specs.Fits.{IsNumberOf, far_of}
use Rattle.irc_follow.specs.SideState.{ItemSetting, number}
use Rattle.irc_follow.specs.Relinked.{SideAfterLink}
use Rattle.irc_follow.specs.Tree.{index_in}
use Rattle.irc_follow.specs.Lemmas.PlacesOfNames.{one_place}
use Rattle.irc_network.specs.Laws.{RestStays}
use Rattle.irc_network.specs.Network.{Network}
use Rattle.irc_items.specs.Relayed.{owed_at, owed_to, relayed, way_at, way_between}
use Rattle.irc_items.specs.SetUp.{no_view, view_at}
use Rattle.irc_items.specs.Sound.{world_now}
use Rattle.irc_items.proofs.Link.Step.{fits_begun, fresh, has_ends_so, link_setting, as_before}
use Rattle.irc_items.proofs.Link.Step.{met_before, IsLinkStep}
use Rattle.irc_items.proofs.Common.Ends.{both_ends}
use Rattle.irc_items.proofs.Common.Reading.{owed_by_none}
use Rattle.irc_items.proofs.Common.Rest.{quiet_ways}
use Rattle.irc_items.specs.Lemmas.SetUpFacts.{viewed_nowhere}

module _ {net new : Network} {near far : Name} (after_link : SideAfterLink) (quiet : RestStays)
    (given : IsLinkStep net new near far) where
  abbrev s : ItemSetting
  s = link_setting net near far

  abbrev world : World
  world = world_now net

  abbrev l : Link
  l = record { near = near; far = far }

  -- all that one end tells the other of its side
  abbrev pub link_lines : Name → Name → List (List ℕ)
  link_lines b t = map line_text (opening_parts (view_at new b) t
      ++ burst_parts (view_at new b).room (view_at new b).routes (number s t))

  end_near : get (view_at new near).ends (number s far) ≡ Some (fresh_end (Some far))
  end_near = ap (λ (v : View). get v.ends (number s far)) given.linked.near_view
      ∙ fresh (view_at net near).ends (number s far) (Some far)

  end_far : get (view_at new far).ends (number s near) ≡ Some (fresh_end None)
  end_far = ap (λ (v : View). get v.ends (number s near)) given.linked.far_view
      ∙ fresh (view_at net far).ends (number s near) None

  module _ (client : ℕ) where
    -- the far end has said nothing yet, and owes all of it
    to_near : under_way (relayed s new client) far near ≡ link_lines far near
    to_near =
        ap (λ o. unwrap_or o [] ++ owed_to s (view_at new far) near) given.linked.waits
        ∙ ap (λ o. option_map_or (owed_at s (view_at new far) near) o []) end_far

    to_far : under_way (relayed s new client) near far ≡ link_lines near far
    to_far =
        ap (λ o. unwrap_or o [] ++ owed_to s (view_at new near) far) given.linked.calls
        ∙ ap (λ o. map line_text (opening_parts (view_at net near) far)
        ++ option_map_or (owed_at s (view_at new near) far) o []) end_near
        ∙ ap (λ parts. map line_text parts ++ map line_text
        (burst_parts (view_at new near).room (view_at new near).routes (number s far)))
        (sym (as_before given (λ v. opening_parts v far) (λ k starts view. refl) near))
        ∙ sym (map-append line_text (opening_parts (view_at new near) far)
        (burst_parts (view_at new near).room (view_at new near).routes (number s far)))

    pub to_end : (t b : Name) → HasEnds l t b
        → under_way (relayed s new client) b t ≡ link_lines b t
    to_end =
        both_ends l (λ t b. under_way (relayed s new client) b t ≡ link_lines b t) to_near to_far

    queue_else : (x y : Name) → (HasEnds l x y → ⊥) → unwrap_or (way_between new x y) [] ≡ []
    queue_else x y none =
        ap (λ names. unwrap_or (way_at new x (index_in names y)) []) given.step.taken.names
        ∙ ap (λ o. unwrap_or o []) (given.linked.other_ways x (number s y)
        (λ e same_place. none
        (inl (sym e, one_place net.names far y given.meeting.far_among (sym same_place))))
        (λ e same_place. none
        (inr (one_place net.names near y given.meeting.near_among (sym same_place), sym e))))
        ∙ quiet_ways quiet net given.step.rest x (number s y)

    -- an end that is there, but that of the new link, is that of a server of the same side, which
    -- has named itself
    met_else : (x z : Name) → IsAmong net.names x → IsAmong net.names z → (HasEnds l x z → ⊥)
        → (end : End) → get (view_at new x).ends (number s z) ≡ Some end → has_far end ≡ true
    met_else x z x_among z_among none end is =
        by (has_ends l x z) refl (linked world.links x z) refl
      where
        by : (b : Bool) → has_ends l x z ≡ b → (c : Bool) → linked world.links x z ≡ c
            → has_far end ≡ true
        by true e c d = absurd (none (has_ends_so given x z e))
        by false e true d = sym (ap (λ o. option_map_or has_far o false) is)
            ∙ met_before given after_link x z ((tests_tell world.links x z x).2.0 d)
        by false e false d = absurd (let no = sym (ap (option_map far_of) is)
            ∙ (fits_begun given after_link x x_among).ends z z_among
            ∙ ap (λ b. if (b || linked world.links x z)
            then Some (if joined world.links z x then Some z else None) else None) e
            ∙ ap (λ b. if b then Some (if joined world.links z x then Some z else None) else None) d
            in cc no)

    owed_else : (x y : Name) → (HasEnds l x y → ⊥) → owed_to s (view_at new x) y ≡ []
    owed_else x y none = among (list_any (same x) net.names) refl
      where
        end_of : IsAmong net.names x → (o : Option End) → get (view_at new x).ends (number s y) ≡ o
            → owed_to s (view_at new x) y ≡ []
        end_of there None is = ap (λ o. option_map_or (owed_at s (view_at new x) y) o []) is
        end_of there (Some end) is =
            ap (λ o. option_map_or (owed_at s (view_at new x) y) o []) is
            ∙ ap (λ b. cond b [] (map line_text (owed_by (view_at new x) (number s y) y end)))
            (by ((fits_begun given after_link x there).no_others (number s y) end is))
          where
            by : IsNumberOf s (number s y) → has_far end ≡ true
            by n = let one = one_place net.names n.server y n.among n.is in
                met_else x n.server there n.among (λ h. none (subst (HasEnds l x) one h)) end
                (ap (λ k. get (view_at new x).ends k) n.is ∙ is)

        among : (b : Bool) → list_any (same x) net.names ≡ b → owed_to s (view_at new x) y ≡ []
        among true e = end_of e (get (view_at new x).ends (number s y)) refl
        among false e =
            ap (λ (v : View). owed_to s v y) (given.linked.other_views x
            (λ n. gone given.meeting.near_among n) (λ n. gone given.meeting.far_among n))
            ∙ ap (λ o. owed_to s (unwrap_or o no_view) y) (viewed_nowhere net x e)
            ∙ owed_by_none s y
          where
            gone : {b : Name} → IsAmong net.names b → x ≡ b → ⊥
            gone b_among n = let no = sym (subst (IsAmong net.names) (sym n) b_among) ∙ e in cc no

    pub nothing_else : (x y : Name) → (HasEnds l x y → ⊥)
        → under_way (relayed s new client) x y ≡ []
    nothing_else x y none = ap (λ lines. lines ++ owed_to s (view_at new x) y) (queue_else x y none)
        ∙ owed_else x y none
