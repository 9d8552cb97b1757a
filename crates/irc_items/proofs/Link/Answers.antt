-- The one line that goes back over a new link: the KILL of a nickname that both sides have. Both of
-- its holders are gone then, so nobody at the other end is killed by it.
--
--   bo is at a.net and at b.net, a.net and b.net are linked:
-- NICK bo ... of b.net comes to a.net a.net's bo is killed, and `:a.net KILL bo :Nick collision`
-- goes back
-- it comes to b.net nothing: b.net's own bo was killed upon the NICK of a.net's
use Rattle.std.proofs.Common.{◌≡◌, ◌⊎◌, inl, inr, ℕ, true, cond, ◌&&◌, is_some, Some, None, List}
use Rattle.std.proofs.Common.{◌∷◌, refl, sym, ◌∙◌, ap, subst, if◌then◌else◌}
use Rattle.irc_line.specs.Messages.{line_text}
use Rattle.irc_merge.specs.Lemmas.Clashing.{users_without}
use Rattle.irc_merge.specs.Merge.{either, merge, room_without}
use Rattle.irc_names.specs.Fold.{key}
use Rattle.irc_names.specs.Tables.{row}
use Rattle.irc_names.specs.TableLaws.{row-both}
use Rattle.irc_relay.specs.Links.{Name, Link, joined, part, AreLinked, HasEnds}
use Rattle.irc_room.specs.effect.Effect.TheVariants.{AddUser}
use Rattle.irc_room.specs.Invitations.{of_home}
use Rattle.irc_room.specs.Room.{Room, IsWellFormed}
use Rattle.irc_routes.specs.Known.{Known}
use Rattle.irc_users.specs.declared.user.User.{User}
use Rattle.irc_link_writer.specs.Written.{wire}
use Rattle.irc_world.specs.Stepping.{merged}
use Rattle.irc_world.specs.World.{Hall, World}
use Rattle.irc_follow.specs.SideState.{ItemSetting}
use Rattle.irc_follow.specs.Lemmas.BehindLinks.{joined_test}
use Rattle.irc_follow.specs.Lemmas.Neighbours.{IsKnownOfLines}
use Rattle.irc_items.proofs.Burst.Collisions.{answers_of, kill_introduces_nobody, kill_unheard}
use Rattle.irc_items.proofs.Burst.Collisions.{user_introduces}
use Rattle.irc_items.proofs.Good.GoodLines.{CanAnswer}
use Rattle.irc_items.proofs.Link.Over.{over_link, IsOver}
use Rattle.irc_items.proofs.Link.Starts.{linked_routes, linked_world, IsKnownOfSides, IsSideOfLink}

-- a nickname of both rooms is nobody's once they are one
pub both_are_gone : (one other : Room) → IsWellFormed one → IsWellFormed other
    → (q : List ℕ) → is_some (row one.users q) ≡ true → is_some (row other.users q) ≡ true
    → row (merge one other).users q ≡ None
unfolding merge
both_are_gone one other well well_other q here there =
    row-both either (room_without one other).users (room_without other one).users refl q
    ∙ (λ i. either (gone one other well here there i) (gone other one well_other there here i))
  where
    gone : (room beside : Room) → IsWellFormed room → is_some (row room.users q) ≡ true
        → is_some (row beside.users q) ≡ true → row (room_without room beside).users q ≡ None
    gone room beside well_formed this that =
        users_without room beside well_formed q
        ∙ (λ i. cond (this i && that i) None (row room.users q))

module _ (laws : IsKnownOfLines) (known : IsKnownOfSides) {s : ItemSetting} {l : Link}
    {world : World}
    {routes : Name → Known} {t b : Name}
    (is : IsSideOfLink s l world routes t b) where
  abbrev forest : List Link
  forest = l ∷ world.links

  abbrev both : Hall
  both = merged (world.hall l.near) (world.hall l.far)

  abbrev after : World
  after = linked_world known is

  turned : HasEnds l t b → HasEnds l b t
  turned (inl (e, f)) = inr (e, f)
  turned (inr (e, f)) = inl (e, f)

  back_over : IsOver l world.links s.streams b t
  back_over = subst (λ st. IsOver l world.links st b t) (sym is.streams)
      (over_link l world.links is.forest b t (turned is.ends))

  between : ((b ≡ l.near) × (t ≡ l.far)) ⊎ ((b ≡ l.far) × (t ≡ l.near))
  between = by is.ends
    where
      by : HasEnds l t b → ((b ≡ l.near) × (t ≡ l.far)) ⊎ ((b ≡ l.far) × (t ≡ l.near))
      by (inl (e, f)) = inr (sym f, sym e)
      by (inr (e, f)) = inl (sym e, sym f)

  linked_ends : AreLinked forest b t
  linked_ends = inl (turned is.ends)

  -- the room of both sides is at the other end
  joined_there : joined forest b l.near ≡ true
  joined_there = by is.ends
    where
      by : HasEnds l t b → joined forest b l.near ≡ true
      by (inl (e, f)) = joined_test forest b l.near
          (ap (part forest) (sym f) ∙ sym ((over_link l world.links is.forest l.near l.far
          (inl (refl, refl))).joined l.near l.far refl refl))
      by (inr (e, f)) = joined_test forest b l.near (ap (part forest) (sym e))

  module _ (user holder their : User)
      (here : row (world.hall t).room.users (key user.nick) ≡ Some holder)
      (there : row (world.hall b).room.users (key user.nick) ≡ Some their)
      (same_key : key holder.nick ≡ key user.nick) where
    gone : row both.room.users (key holder.nick) ≡ None
    gone = ap (row both.room.users) same_key ∙ by is.ends
      where
        by : HasEnds l t b → row both.room.users (key user.nick) ≡ None
        by (inl (e, f)) = both_are_gone (world.hall l.near).room (world.hall l.far).room
            (is.holds.sound.well_formed l.near) (is.holds.sound.well_formed l.far)
            (key user.nick) (ap (λ v. is_some (row (world.hall v).room.users (key user.nick))) e
            ∙ ap is_some here)
            (ap (λ v. is_some (row (world.hall v).room.users (key user.nick))) f ∙ ap is_some there)
        by (inr (e, f)) = both_are_gone (world.hall l.near).room (world.hall l.far).room
            (is.holds.sound.well_formed l.near) (is.holds.sound.well_formed l.far)
            (key user.nick) (ap (λ v. is_some (row (world.hall v).room.users (key user.nick))) e
            ∙ ap is_some there)
            (ap (λ v. is_some (row (world.hall v).room.users (key user.nick))) f ∙ ap is_some here)

    gone_there : row (after.hall b).room.users (key holder.nick) ≡ None
    gone_there =
        ap (λ c. row (if c then both else world.hall b).room.users (key holder.nick)) joined_there
        ∙ gone

    pub may_answer : CanAnswer s (answers_of l) after (linked_routes known is) b t holder.nick
        (line_text (wire (of_home b (world.hall b).room) (routes b) (AddUser user)))
    may_answer = record {
      answered = user_introduces (of_home b (world.hall b).room) (routes b) user;
      not_again = kill_introduces_nobody t holder.nick;
      between = between;
      to_end = (back_over.parent, back_over.depth);
      unheard = λ view fits. kill_unheard laws s after
          (linked_routes known is) b t holder.nick view is.fixed fits linked_ends is.t_among
          ((is.holds.within t).room.users (key user.nick) holder here).nick gone_there;
    }
