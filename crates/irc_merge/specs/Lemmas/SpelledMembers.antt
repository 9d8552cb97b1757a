-- Who becomes a member of a channel does so however the channel is spelled.
use Rattle.std.proofs.Common.{◌≡◌, ℕ, Bool, true, false, cond, not, ◌&&◌, Option, Some, None, List}
use Rattle.std.proofs.Common.{[], ◌∷◌, ◌++◌, refl, sym, ◌∙◌, ap, option_map, unwrap_or}
use Rattle.std.proofs.Common.{if◌then◌else◌}
use Rattle.std.specs.Option.{option_map_or}
use Rattle.irc_names.specs.Fold.{key}
use Rattle.irc_names.specs.Tables.{alter, row}
use Rattle.irc_names.specs.TableLaws.{row-alter, same_fold}
use Rattle.irc_channels.specs.declared.channel.Channel.{Channel}
use Rattle.irc_channels.specs.declared.flags.Flags.{Flags}
use Rattle.irc_channels.specs.Channels.{all_changed, has_member, joined, new_channel}
use Rattle.irc_modes.specs.declared.modes.ModeLetter.{ModeLetter}
use Rattle.irc_modes.specs.declared.modes.ModeLetter.TheVariants as letter
use Rattle.irc_room.specs.After.{after, alter_channel, titled_by}
use Rattle.irc_room.specs.Effects.{is_member}
use Rattle.irc_room.specs.InTurn.{after_all}
use Rattle.irc_room.specs.Respelled.{unnamed}
use Rattle.irc_room.specs.Room.{Room}
use Rattle.irc_room.specs.Lemmas.RespelledRooms.{all_else_stays}
use Rattle.irc_merge.specs.BurstRead.{new_members}
use Rattle.irc_merge.specs.Bursts.{home_passes}
use Rattle.irc_merge.specs.Deeds.{flag_given, member_comes}

-- two rooms that are one but for how channels are spelled
record AreOneUnnamed (room other : Room) : Type 0 where
  users : room.users ≡ other.users
  channels : (fold : List ℕ)
      → option_map unnamed (row room.channels fold) ≡ option_map unnamed (row other.channels fold)

-- ---- what a member does when it comes

-- a change of a channel that does not look at its name
abbrev LooksAtNoName : (Option Channel → Option Channel) → Type 0
LooksAtNoName change = (found : Option Channel)
    → option_map unnamed (change (option_map unnamed found)) ≡ option_map unnamed (change found)

changed_so : (name : List ℕ) (change : Option Channel → Option Channel)
    → LooksAtNoName change → (room other : Room) → AreOneUnnamed room other
    → AreOneUnnamed (alter_channel name change room) (alter_channel name change other)
changed_so name change blind room other one = record {
  users = one.users;
  channels = λ fold.
      ap (option_map unnamed) (row-alter (key name) change room.channels fold)
      ∙ by fold (same_fold fold (key name))
      ∙ ap (option_map unnamed) (sym (row-alter (key name) change other.channels fold));
}
  where
    here : Option Channel
    here = row room.channels (key name)

    there : Option Channel
    there = row other.channels (key name)

    by : (fold : List ℕ) (b : Bool)
        → option_map unnamed (cond b (change here) (row room.channels fold))
        ≡ option_map unnamed (cond b (change there) (row other.channels fold))
    by fold true = sym (blind here)
        ∙ ap (λ found. option_map unnamed (change found)) (one.channels (key name)) ∙ blind there
    by fold false = one.channels fold

joins_blind : (nick name : List ℕ)
    → LooksAtNoName (λ found. Some (joined (key nick) false (unwrap_or found (new_channel name))))
joins_blind nick name None = refl
joins_blind nick name (Some channel) = by (has_member (key nick) channel)
  where
    with_it : Channel → Channel
    with_it c = record c {
      members = alter (key nick) (λ _. Some (record { op = false; voice = false })) c.members;
      invited = alter (key nick) (λ _. None) c.invited;
    }

    by : (b : Bool) → Some (unnamed (if b then unnamed channel else with_it (unnamed channel)))
        ≡ Some (unnamed (if b then channel else with_it channel))
    by true = refl
    by false = refl

abbrev gives : ModeLetter → List ℕ → Option Channel → Option Channel
gives which nick =
    option_map (all_changed (record { plus = true; letter = which; word = Some nick } ∷ []))

op_blind : (nick : List ℕ) → LooksAtNoName (gives letter.Operator nick)
op_blind nick None = refl
op_blind nick (Some channel) = refl

voice_blind : (nick : List ℕ) → LooksAtNoName (gives letter.Voice nick)
voice_blind nick None = refl
voice_blind nick (Some channel) = refl

flags_so : (name nick : List ℕ) (op voice : Bool) (room other : Room)
    → AreOneUnnamed room other → AreOneUnnamed (after_all room
    (flag_given op letter.Operator name nick ++ flag_given voice letter.Voice name nick))
    (after_all other (flag_given op letter.Operator name nick
    ++ flag_given voice letter.Voice name nick))
unfolding after
flags_so name nick false false room other one = one
flags_so name nick true false room other one =
    changed_so name (gives letter.Operator nick) (op_blind nick) room other one
flags_so name nick false true room other one =
    changed_so name (gives letter.Voice nick) (voice_blind nick) room other one
flags_so name nick true true room other one =
    changed_so name (gives letter.Voice nick) (voice_blind nick)
    (alter_channel name (gives letter.Operator nick) room)
    (alter_channel name (gives letter.Operator nick) other)
    (changed_so name (gives letter.Operator nick) (op_blind nick) room other one)

comes_so : (name : List ℕ) (member : List ℕ × Flags) (room other : Room)
    → AreOneUnnamed room other → AreOneUnnamed (after_all room (member_comes name member))
    (after_all other (member_comes name member))
unfolding after
comes_so name member room other one =
    let joins : Option Channel → Option Channel =
    λ found. Some (joined (key member.0) false (unwrap_or found (new_channel name))) in
    flags_so name member.0 member.1.op member.1.voice (alter_channel name joins room)
    (alter_channel name joins other)
    (changed_so name joins (joins_blind member.0 name) room other one)

-- ---- who is new

has_unnamed : (fold : List ℕ) (found : Option Channel) → option_map_or (has_member fold)
    (option_map unnamed found) false ≡ option_map_or (has_member fold) found false
has_unnamed fold None = refl
has_unnamed fold (Some channel) = refl

is_member_so : (nick name : List ℕ) (room other : Room) → AreOneUnnamed room other
    → is_member room nick name ≡ is_member other nick name
is_member_so nick name room other one =
    sym (has_unnamed (key nick) (row room.channels (key name)))
    ∙ ap (λ found. option_map_or (has_member (key nick)) found false) (one.channels (key name))
    ∙ has_unnamed (key nick) (row other.channels (key name))

new_so : (far : List ℕ → Bool) (name : List ℕ) (members : List (List ℕ × Flags))
    (room other : Room) → AreOneUnnamed room other
    → new_members far room name members ≡ new_members far other name members
new_so far name [] room other one = refl
new_so far name (member ∷ members) room other one = λ i.
    if home_passes far (one.users i) (key member.0)
    && not (is_member_so member.0 name room other one i)
    then member ∷ new_so far name members (after_all room (member_comes name member))
    (after_all other (member_comes name member))
    (comes_so name member room other one) i
    else new_so far name members room other one i

-- those who are new are so in either spelling
pub new_titled : (far : List ℕ → Bool) (name : List ℕ)
    (members : List (List ℕ × Flags)) (room : Room)
    → new_members far (titled_by name room) name members ≡ new_members far room name members
new_titled far name members room =
    new_so far name members (titled_by name room) room
    (record { users = refl; channels = (all_else_stays name room).channels })
