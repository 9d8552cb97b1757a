-- Which of the updates that effects are can be made, and their places at one row.
use Rattle.std.proofs.Common.{◌≡◌, Bool, true, false, ◌&&◌, None, List}
use Rattle.std.proofs.Common.{refl, sym, ap, ◌∙◌, is_some, true≢false}
use Rattle.std.proofs.Math.Bool.{false≢true}
use Rattle.irc_names.specs.TableLaws.{same_fold, one_fold}
use Rattle.irc_edited_rooms.specs.Writes.{Writes}
use Rattle.irc_edited_rooms.specs.Fates.{Fate, stays, goes, comes, is_coming, is_going}
use Rattle.irc_edited_rooms.specs.Documents.{ChannelName, Document, IsSound, Nick, is_name}
use Rattle.irc_edited_rooms.specs.Crossing.{IsFitting}
use Rattle.irc_room_edits.specs.Edits.{fate_if, of_one_channel, of_one_gone, of_one_member}
use Rattle.irc_room_edits.specs.Edits.{of_one_user}
use Rattle.irc_room_edits.specs.Places.{Place}

second_of : (a b : Bool) → (a && b) ≡ true → b ≡ true
second_of true b is = is
second_of false b is = absurd (false≢true is)

comes_if : (b : Bool) (fate : Fate Place) → is_coming (fate_if b fate) ≡ true → b ≡ true
comes_if true fate is = refl
comes_if false fate is = is

none_comes : (b : Bool) (fate : Fate Place) → is_coming fate ≡ false
    → is_coming (fate_if b fate) ≡ true → ⊥
none_comes true fate stays_so is = true≢false (sym is ∙ stays_so)
none_comes false fate stays_so is = false≢true is

none_goes : (b : Bool) (fate : Fate Place) → is_going fate ≡ false
    → is_going (fate_if b fate) ≡ true → ⊥
none_goes true fate stays_so is = true≢false (sym is ∙ stays_so)
none_goes false fate stays_so is = false≢true is

module _ (names : List Nick) (room : Document Place) (sound : IsSound names room) where
  -- a user stays
  pub user_fits : (nick : Nick) (writes : Writes Place)
      → IsFitting names room (of_one_user nick (stays writes))
  user_fits nick writes = record {
    sound = sound;
    newcomers = λ k is. absurd (none_comes (same_fold k nick) (stays writes) refl is);
    joiners = λ name k is. absurd (false≢true is);
    leavers = λ name k is. absurd (none_goes (same_fold k nick) (stays writes) refl is);
  }

  -- a user comes
  pub comer_fits : (nick : Nick) (writes : Writes Place) → room.user nick ≡ None
      → is_name names nick ≡ true → IsFitting names room (of_one_user nick (comes writes))
  comer_fits nick writes free named = record {
    sound = sound;
    newcomers = λ k is.
        let one = one_fold k nick (comes_if (same_fold k nick) (comes writes) is) in
        (ap room.user one ∙ free, ap (is_name names) one ∙ named);
    joiners = λ name k is. absurd (false≢true is);
    leavers = λ name k is. absurd (none_goes (same_fold k nick) (comes writes) refl is);
  }

  -- a user goes
  pub goer_fits : (nick : Nick) → IsFitting names room (of_one_gone nick)
  goer_fits nick = record {
    sound = sound;
    newcomers = λ k is. absurd (none_comes (same_fold k nick) goes refl is);
    joiners = λ name k is. absurd (none_comes (same_fold k nick) goes refl is);
    leavers = λ name k is. is;
  }

  -- a member goes, or stays
  pub member_fits : (channel : ChannelName) (nick : Nick) (fate : Fate Place)
      (writes : Writes Place) → is_coming fate ≡ false
      → IsFitting names room (of_one_member channel nick fate writes)
  member_fits channel nick fate writes other = record {
    sound = sound;
    newcomers = λ k is. absurd (false≢true is);
    joiners = λ name k is.
        absurd (none_comes (same_fold name channel && same_fold k nick) fate other is);
    leavers = λ name k is. absurd (false≢true is);
  }

  -- a member comes, who is a user
  pub joiner_fits : (channel : ChannelName) (nick : Nick) (fate : Fate Place)
      (writes : Writes Place) → is_some (room.user nick) ≡ true
      → IsFitting names room (of_one_member channel nick fate writes)
  joiner_fits channel nick fate writes there = record {
    sound = sound;
    newcomers = λ k is. absurd (false≢true is);
    joiners = λ name k is. (
      ap (λ it. is_some (room.user it)) (one_fold k nick
          (second_of (same_fold name channel) (same_fold k nick)
          (comes_if (same_fold name channel && same_fold k nick) fate is))) ∙ there,
      refl,
    );
    leavers = λ name k is. absurd (false≢true is);
  }

  -- something is set in a channel
  pub channel_fits : (channel : ChannelName) (writes : Writes Place)
      → IsFitting names room (of_one_channel channel writes)
  channel_fits channel writes = record {
    sound = sound;
    newcomers = λ k is. absurd (false≢true is);
    joiners = λ name k is. absurd (false≢true is);
    leavers = λ name k is. absurd (false≢true is);
  }
