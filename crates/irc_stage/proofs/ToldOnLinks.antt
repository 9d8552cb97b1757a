-- What a server tells on its links: where none is open, nothing.
use Rattle.std.proofs.Common.{◌≡◌, ℕ, true, Option, Some, None, List, [], ◌∷◌, ◌++◌, refl}
use Rattle.std.proofs.Common.{sym, ◌∙◌, ap, subst, append-nil, length, if◌then◌else◌}
use Rattle.std.specs.BTreeMap.{BTreeMap}
use Rattle.std.specs.FinMap.{empty, from_entries, get, get-empty}
use Rattle.std.specs.Global.{Vec}
use Rattle.std.specs.List.{flat_map}
use Rattle.std.specs.Ordering.{nat_cmp}
use Rattle.arrayvec.specs.ArrayVec.{ArrayVec}
use Rattle.irc_batch.specs.Batches.{Sent}
use Rattle.irc_stage.specs.Ways.{told_homes, ways, AreEnds, IsMetEnd}
use Rattle.irc_room.specs.effect.Effect.{Effect}
use Rattle.irc_room.specs.effect.Effect.TheVariants.{Invite}
use Rattle.irc_room.specs.After.{after}
use Rattle.irc_room.specs.Room.{Room}
use Rattle.irc_room.specs.Seen.{seen}
use Rattle.irc_routes.specs.Known.{Known, next_hop}
use Rattle.irc_stage.specs.declared.origin.Origin.{Origin}
use Rattle.irc_stage.specs.declared.origin.Origin.TheVariants.{Client, Link, Own}
use Rattle.irc_stage.specs.declared.ways.Ways.{Ways}
use Rattle.irc_stage.specs.EffectTold.{Served, changed, is_elsewhere, with_sent}
use Rattle.irc_stage.specs.Handle.{to_viewer}
use Rattle.irc_stage.specs.RoomMachine.{RoomMachine}
use Rattle.irc_stage.specs.View.{End, Ends, View}
use Rattle.irc_stage.specs.Lemmas.Alone.{no_ways, none_met}
use Rattle.irc_stage.specs.Loops.Speaking.{arrival_of, IsSaidElsewhere, IsSpoken}
use Rattle.irc_stage.specs.Loops.Parts.{lines_on, numbered}

-- where no link is open, no server is known
nowhere_known : (ends : Ends) (known : Known) → AreEnds ends known → ends ≡ empty → (name : List ℕ)
    → next_hop known name ≡ None
nowhere_known ends known met no_ends name = by (next_hop known name) refl
  where
    by : (o : Option ℕ) → next_hop known name ≡ o → o ≡ None
    by None is = refl
    by (Some link) is =
        absurd (subst IsMetEnd (ap (λ (es : Ends). get es link) no_ends ∙ get-empty nat_cmp link)
        (met name link is))

-- a map without entries has nothing under any number
pub empty_by : (m : BTreeMap ℕ End) → length m.entries ≡ 0 → numbered m ≡ empty
empty_by m none = by m.entries none
  where
    by : (es : List (ℕ × End)) → length es ≡ 0 → from_entries {R = nat_cmp} es ≡ empty
    by [] is = refl
    by (e ∷ es) is = cc is

-- so an effect is told on no link
pub on_none : (ends : BTreeMap ℕ End) (known : Known) → AreEnds (numbered ends) known
    → length ends.entries ≡ 0 → (room : Room) (arrival : Option ℕ) (effect : Effect)
    → ways (numbered ends) known room arrival effect ≡ []
on_none ends known met none room arrival effect =
    let no_ends = empty_by ends none in
    no_ways (numbered ends) known arrival (none_met (numbered ends) no_ends)
    (nowhere_known (numbered ends) known met no_ends) (told_homes room effect)

-- An effect that is elsewhere's changes nothing here.
pub elsewhere_stays : (view : View) (effect : Effect) → is_elsewhere view effect ≡ true
    → (out : List Sent) → record { state = view; out = out }
    ≡ changed effect (record { state = view; out = out })
elsewhere_stays view (Invite who nick channel) is out =
    ap (λ o. record { state = view; out = o }) (sym (append-nil out))
    ∙ ap (λ b. record {
      state = record view {
        room = if b then view.room else after view.room (Invite who nick channel);
      };
      out = out ++ (if b then []
          else flat_map (to_viewer view.clients) (seen view.room (Invite who nick channel)));
    }) (sym is)
elsewhere_stays view other is out = cc is

-- what was put out, and then a line on links
pub told_behind : (s t : Served) → s ≡ t → (lines told : List Sent) → lines ≡ told
    → (out : List Sent) → out ≡ s.out ++ lines → record s { out = out } ≡ with_sent told t
told_behind s t is lines told are out out_is =
    ap (λ o. record s { out = o }) (out_is ∙ ap (λ l. s.out ++ l) are) ∙ ap (with_sent told) is

-- the line at hand is that of an effect still, where its links have not changed
pub still_at_hand : (new old : Ways) → new.links ≡ old.links → (line : ArrayVec ℕ)
    → (told : List Sent) → lines_on old.links.items line.items ≡ told
    → lines_on new.links.items line.items ≡ told
still_at_hand new old links line told is =
    ap (λ (ls : Vec ℕ). lines_on ls.items line.items) links ∙ is

-- an effect that came by a link is no client's
pub spoken_by_link : (origin : Origin) (link : ℕ) → arrival_of origin ≡ Some link
    → (machine : RoomMachine) (effect : Effect) → IsSaidElsewhere machine effect
    → IsSpoken origin machine effect
spoken_by_link (Client speaker) link is machine effect said = cc is
spoken_by_link (Link number) link is machine effect said = said
spoken_by_link Own link is machine effect said = cc is
