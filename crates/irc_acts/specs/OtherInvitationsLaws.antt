-- What holds of rooms that are alike but for who is invited.
use Rattle.std.proofs.Common.{◌≡◌, ℕ, Bool, true, false, cond, ◌&&◌, is_some, unwrap_or, Option}
use Rattle.std.proofs.Common.{Some, None, List, [], ◌∷◌, ◌++◌, refl, sym, ◌∙◌, ap}
use Rattle.std.specs.Option.{option_map, option_map_or, option_and_then}
use Rattle.std.specs.FinMap.{keys, get-empty}
use Rattle.irc_names.specs.Fold.{key}
use Rattle.irc_names.specs.Tables.{fold_cmp, row, alter}
use Rattle.irc_names.specs.TableLaws.{same_fold, row-alter, row-alter_same}
use Rattle.irc_channels.specs.declared.channel.Channel.{Channel}
use Rattle.irc_channels.specs.Channels.{has_member, is_invited, joined, left, new_channel}
use Rattle.irc_modes.specs.Modes.{is_nil}
use Rattle.irc_room.specs.effect.Effect.{Effect}
use Rattle.irc_room.specs.effect.Effect.TheVariants.{Join, Part, Kick}
use Rattle.irc_room.specs.Room.{Room}
use Rattle.irc_room.specs.Readers.{is_invited_at}
use Rattle.irc_room.specs.After.{after, alter_channel}
use Rattle.irc_room.specs.InTurn.{after_all, EachInTurn}
use Rattle.irc_acts.specs.declared.act.Act.{Act}
use Rattle.irc_acts.specs.Acts.{effects_among}
use Rattle.irc_acts.specs.Ahead.{ahead, in_turn}
use Rattle.irc_acts.specs.OtherInvitations.{uninviting, AreAlike, AreAlikeFor, Keeps}

-- ---- lists that are served

-- an effect of which it is so, whatever the room is
abbrev pub IsKeeping : (Room → Room → Type 0) → Room → Effect → Type 0
IsKeeping R room effect = Keeps R effect

module _ (R : Room → Room → Type 0) where
  kept_by_all : (room other : Room) (effects : List Effect) → R room other
      → EachInTurn (IsKeeping R) room effects
      → R (after_all room effects) (after_all other effects)
  kept_by_all room other [] so all = so
  kept_by_all room other (effect ∷ effects) so all =
      kept_by_all (after room effect) (after other effect) effects (all.now room other so)
      all.later

  -- a list whose entries are served alike is
  pub in_turn_alike : {E : Type 0} (serve : Room → E → List Act)
      → ((room other : Room) (entry : E) → R room other → serve room entry ≡ serve other entry)
      → ((room : Room) (entry : E)
      → EachInTurn (IsKeeping R) room (effects_among (serve room entry)))
      → (room other : Room) → R room other → (entries : List E)
      → in_turn serve room entries ≡ in_turn serve other entries
  in_turn_alike serve same keeps room other so [] = refl
  in_turn_alike serve same keeps room other so (entry ∷ entries) =
      let acts = serve room entry in
      ap (λ later. acts ++ later)
      (in_turn_alike serve same keeps (ahead room acts) (ahead other acts)
      (kept_by_all room other (effects_among acts) so (keeps room entry)) entries)
      ∙ ap (λ steps. steps ++ in_turn serve (ahead other steps) entries) (same room other entry so)

-- ---- rooms that are alike stay so

-- one channel is changed in both
altered_alike : (name : List ℕ) (change : Option Channel → Option Channel)
    → ((one other : Option Channel) → option_map uninviting one ≡ option_map uninviting other
    → option_map uninviting (change one) ≡ option_map uninviting (change other))
    → (room other : Room) → AreAlike room other
    → AreAlike (alter_channel name change room) (alter_channel name change other)
altered_alike name change keeps room other alike = record {
  users = alike.users;
  channels = λ fold.
      ap (option_map uninviting) (row-alter (key name) change room.channels fold)
      ∙ by_fold fold (same_fold fold (key name))
      ∙ sym (ap (option_map uninviting) (row-alter (key name) change other.channels fold));
}
  where
    by_fold : (fold : List ℕ) (b : Bool)
        → option_map uninviting
        (cond b (change (row room.channels (key name))) (row room.channels fold))
        ≡ option_map uninviting
        (cond b (change (row other.channels (key name))) (row other.channels fold))
    by_fold fold true =
        keeps (row room.channels (key name)) (row other.channels (key name))
        (alike.channels (key name))
    by_fold fold false = alike.channels fold

left_aside : (nick : List ℕ) (found : Option Channel)
    → option_map uninviting (option_and_then (left nick) found)
    ≡ option_and_then (left nick) (option_map uninviting found)
left_aside nick None = refl
left_aside nick (Some channel) =
    by_tests (has_member nick channel) (is_nil (keys (alter nick (λ _. None) channel.members)))
  where
    rest : Channel
    rest = record channel { members = alter nick (λ _. None) channel.members }

    by_tests : (member none : Bool)
        → option_map uninviting (cond member (cond none None (Some rest)) (Some channel))
        ≡ cond member (cond none None (Some (uninviting rest))) (Some (uninviting channel))
    by_tests true true = refl
    by_tests true false = refl
    by_tests false none = refl

pub part_keeps_alike : (nick channel text : List ℕ) → Keeps AreAlike (Part nick channel text)
unfolding after
part_keeps_alike nick channel text =
    altered_alike channel (option_and_then (left (key nick))) (λ one other same.
    left_aside (key nick) one
    ∙ ap (option_and_then (left (key nick))) same
    ∙ sym (left_aside (key nick) other))

pub kick_keeps_alike : (by channel nick text : List ℕ) → Keeps AreAlike (Kick by channel nick text)
unfolding after
kick_keeps_alike by channel nick text = part_keeps_alike nick channel text

-- ---- who joins

pub joined_aside : (nick : List ℕ) (op : Bool) (channel : Channel)
    → uninviting (joined nick op channel) ≡ uninviting (joined nick op (uninviting channel))
joined_aside nick op channel = by_member (has_member nick channel)
  where
    enters : Channel → Channel
    enters c = record c {
      members = alter nick (λ _. Some (record { op = op; voice = false })) c.members;
      invited = alter nick (λ _. None) c.invited;
    }

    by_member : (b : Bool)
        → uninviting (cond b channel (enters channel))
        ≡ uninviting (cond b (uninviting channel) (enters (uninviting channel)))
    by_member true = refl
    by_member false = refl

-- the row of a channel that a user joins, which is made where it is not there
abbrev joins_row : List ℕ → List ℕ → Bool → Option Channel → Option Channel
joins_row name nick op found = Some (joined nick op (unwrap_or found (new_channel name)))

row_aside : (name nick : List ℕ) (op : Bool) (found : Option Channel)
    → option_map uninviting (joins_row name nick op found)
    ≡ option_map uninviting (joins_row name nick op (option_map uninviting found))
row_aside name nick op None = refl
row_aside name nick op (Some channel) = ap Some (joined_aside nick op channel)

-- whoever joins is invited no more, and a member that is invited stays so
invited_behind : (nick : List ℕ) (op : Bool) (channel : Channel)
    → is_invited nick (joined nick op channel)
    ≡ (has_member nick channel && is_invited nick channel)
invited_behind nick op channel = by_member (has_member nick channel)
  where
    by_member : (b : Bool)
        → is_invited nick (cond b channel (record channel {
          members = alter nick (λ _. Some (record { op = op; voice = false })) channel.members;
          invited = alter nick (λ _. None) channel.invited;
        })) ≡ (b && is_invited nick channel)
    by_member true = refl
    by_member false = ap is_some (row-alter_same nick (λ _. None) channel.invited)

row_invited : (name nick : List ℕ) (op : Bool) (found : Option Channel)
    → option_map_or (is_invited nick) (joins_row name nick op found) false
    ≡ (option_map_or (has_member nick) found false && option_map_or (is_invited nick) found false)
row_invited name nick op None =
    invited_behind nick op (new_channel name)
    ∙ ap (λ b. b && is_invited nick (new_channel name)) (ap is_some (get-empty fold_cmp nick))
row_invited name nick op (Some channel) = invited_behind nick op channel

-- whether a user is a member, in rooms that are alike
member_aside : (nick : List ℕ) (found : Option Channel)
    → option_map_or (has_member nick) (option_map uninviting found) false
    ≡ option_map_or (has_member nick) found false
member_aside nick None = refl
member_aside nick (Some channel) = refl

pub member_alike : (room other : Room) → AreAlike room other → (nick fold : List ℕ)
    → option_map_or (has_member nick) (row room.channels fold) false
    ≡ option_map_or (has_member nick) (row other.channels fold) false
member_alike room other alike nick fold =
    sym (member_aside nick (row room.channels fold))
    ∙ ap (λ found. option_map_or (has_member nick) found false) (alike.channels fold)
    ∙ member_aside nick (row other.channels fold)

-- whether the user of a nickname is invited to the channel of a fold behind its Join of another
module _ (nick channel : List ℕ) (op : Bool) where
  abbrev changed_row : Option Channel → Option Channel
  changed_row = joins_row channel (key nick) op

  abbrev invited_then : Room → List ℕ → Bool → Bool
  invited_then now fold b =
      cond b
      (option_map_or (has_member (key nick)) (row now.channels (key channel)) false
      && is_invited_at now (key nick) (key channel))
      (is_invited_at now (key nick) fold)

  by_then : (now : Room) (fold : List ℕ)
      → option_map_or (is_invited (key nick))
      (row (alter (key channel) changed_row now.channels) fold) false
      ≡ invited_then now fold (same_fold fold (key channel))
  by_then now fold =
      ap (λ found. option_map_or (is_invited (key nick)) found false)
      (row-alter (key channel) changed_row now.channels fold)
      ∙ by (same_fold fold (key channel))
    where
      by : (b : Bool)
          → option_map_or (is_invited (key nick))
          (cond b (changed_row (row now.channels (key channel))) (row now.channels fold)) false
          ≡ invited_then now fold b
      by true = row_invited channel (key nick) op (row now.channels (key channel))
      by false = refl

  then_alike : (room other : Room) → AreAlikeFor nick room other → (fold : List ℕ) (b : Bool)
      → invited_then room fold b ≡ invited_then other fold b
  then_alike room other so fold true =
      ap (λ b. b && is_invited_at room (key nick) (key channel))
      (member_alike room other so.alike (key nick) (key channel))
      ∙ ap (λ b.
      option_map_or (has_member (key nick)) (row other.channels (key channel)) false && b)
      (so.invited (key channel))
  then_alike room other so fold false = so.invited fold

  pub join_keeps_alike : Keeps (AreAlikeFor nick) (Join nick channel op)
  unfolding after
  join_keeps_alike room other so = record {
    alike = altered_alike channel changed_row
        (λ one two same.
        row_aside channel (key nick) op one
        ∙ ap (λ found. option_map uninviting (changed_row found)) same
        ∙ sym (row_aside channel (key nick) op two)) room other so.alike;
    invited = λ fold.
        by_then room fold
        ∙ then_alike room other so fold (same_fold fold (key channel))
        ∙ sym (by_then other fold);
  }
