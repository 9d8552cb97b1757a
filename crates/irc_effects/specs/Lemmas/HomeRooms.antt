-- A room with the invitations of one server's users alone.
use Rattle.std.proofs.Common.{◌≡◌, ℕ, Bool, true, false, cond, Option, Some, None, List, refl, sym}
use Rattle.std.proofs.Common.{◌∙◌, ap, subst, is_some, option_map}
use Rattle.std.specs.Option.{option_and_then}
use Rattle.std.specs.FinMap.{retain_keys}
use Rattle.std.proofs.lemmas.Option.{same_Some, none-some}
use Rattle.std.proofs.Math.Bool.{false≢true}
use Rattle.irc_names.specs.Tables.{Table, row, each}
use Rattle.irc_names.specs.TableLaws.{same_table, row-each, row-retain_keys, each-turned}
use Rattle.irc_channels.specs.declared.channel.Channel.{Channel}
use Rattle.irc_effects.specs.Room.{Room, IsSoundRow}
use Rattle.irc_effects.specs.After.{after}
use Rattle.irc_effects.specs.Invitations.{is_at, inviting_only, of_home, HomeIsWellFormed}
use Rattle.irc_effects.specs.Invitations.{HomeOfHome}
use Rattle.irc_effects.specs.Lemmas.InvitingOnly.{keeping}

pub row-of_home : (home : List ℕ) (room : Room) (fold : List ℕ) → row (of_home home room).channels
    fold ≡ option_map (inviting_only (is_at home room.users)) (row room.channels fold)
unfolding of_home
row-of_home home room fold = row-each (keeping (is_at home room.users)) room.channels fold
    ∙ as_map (row room.channels fold)
  where
    as_map : (o : Option Channel) → option_and_then (keeping (is_at home room.users)) o
        ≡ option_map (inviting_only (is_at home room.users)) o
    as_map None = refl
    as_map (Some channel) = refl

fewer_invited : (stays : List ℕ → Bool) (invited : Table (Unit {0})) (q : List ℕ)
    → is_some (row (retain_keys invited stays) q) ≡ true → is_some (row invited q) ≡ true
fewer_invited stays invited q there =
    by_test (stays q) (sym (ap is_some (row-retain_keys invited stays q)) ∙ there)
  where
    by_test : (b : Bool) → is_some (cond b (row invited q) None) ≡ true
        → is_some (row invited q) ≡ true
    by_test true there = there
    by_test false there = absurd (false≢true there)

pub home_is_well_formed : HomeIsWellFormed
unfolding of_home
home_is_well_formed home room well = record {
  users_named = well.users_named;
  channels_sound = λ fold channel at. by_row fold (row room.channels fold) refl channel
      (sym (row-of_home home room fold) ∙ at);
}
  where
    kept_sound : (fold : List ℕ) (before : Channel) → IsSoundRow room.users fold before
        → IsSoundRow room.users fold (inviting_only (is_at home room.users) before)
    kept_sound fold before was = record {
      named = was.named;
      members_known = was.members_known;
      invited_known = λ q there. was.invited_known q
          (fewer_invited (is_at home room.users) before.invited q there);
      some_member = was.some_member;
    }

    by_row : (fold : List ℕ) (o : Option Channel) → row room.channels fold ≡ o
        → (after : Channel) → option_map (inviting_only (is_at home room.users)) o ≡ Some after
        → IsSoundRow room.users fold after
    by_row fold None at after is = absurd (none-some after is)
    by_row fold (Some before) at after is =
        subst (IsSoundRow room.users fold) (same_Some _ after is)
        (kept_sound fold before (well.channels_sound fold before at))

twice_kept : (stays : List ℕ → Bool) (invited : Table (Unit {0}))
    → retain_keys (retain_keys invited stays) stays ≡ retain_keys invited stays
twice_kept stays invited =
    same_table (retain_keys (retain_keys invited stays) stays) (retain_keys invited stays) (λ q.
    row-retain_keys (retain_keys invited stays) stays q
    ∙ ap (λ o. cond (stays q) o None) (row-retain_keys invited stays q)
    ∙ by_test (stays q) (row invited q)
    ∙ sym (row-retain_keys invited stays q))
  where
    by_test : (b : Bool) (o : Option (Unit {0})) → cond b (cond b o None) None ≡ cond b o None
    by_test true o = refl
    by_test false o = refl

pub home_of_home : HomeOfHome
unfolding of_home
home_of_home home room =
    let stays = is_at home room.users in
    ap (λ (channels : Table Channel). record room { channels = channels })
    (each-turned (keeping stays) (keeping stays) Some (keeping stays) room.channels
    (λ fold channel at.
    ap (λ t. Some (record channel { invited = t })) (twice_kept stays channel.invited))
    ∙ each_itself (each (keeping stays) room.channels))
  where
    same_row : (o : Option Channel) → option_and_then Some o ≡ o
    same_row None = refl
    same_row (Some channel) = refl

    each_itself : (table : Table Channel) → each Some table ≡ table
    each_itself table =
        same_table (each Some table) table (λ q. row-each Some table q ∙ same_row (row table q))
