-- What follows where each effect of some steps is a move.
use Rattle.std.proofs.Common.{◌≡◌, ℕ, Bool, true, false, cond, is_some, Option, Some, None, List}
use Rattle.std.proofs.Common.{[], ◌∷◌, refl, sym, ◌∙◌, ap, unwrap_or, if◌then◌else◌, true≢false}
use Rattle.std.specs.Option.{option_map_or, option_and_then}
use Rattle.std.specs.FinMap.{keys}
use Rattle.irc_names.specs.Fold.{key, same}
use Rattle.irc_names.specs.FoldLaws.{same-tells}
use Rattle.irc_names.specs.Tables.{row, alter}
use Rattle.irc_names.specs.TableLaws.{same_fold, same_fold-refl, one_fold, row-alter}
use Rattle.irc_names.specs.TableLaws.{row-alter_same}
use Rattle.irc_channels.specs.declared.channel.Channel.{Channel}
use Rattle.irc_channels.specs.Channels.{has_member, joined, left, new_channel}
use Rattle.irc_modes.specs.Modes.{is_nil}
use Rattle.irc_room.specs.effect.Effect.{Effect}
use Rattle.irc_room.specs.effect.Effect.TheVariants.{Join, Part, Kick}
use Rattle.irc_room.specs.Room.{Room, IsWellFormed}
use Rattle.irc_room.specs.Effects.{is_member}
use Rattle.irc_room.specs.After.{after, alter_channel}
use Rattle.irc_room.specs.InTurn.{after_all, EachInTurn}
use Rattle.irc_room.specs.InTurnLaws.{each-so, each-keeps}
use Rattle.irc_acts.specs.declared.act.Act.{Act}
use Rattle.irc_acts.specs.Acts.{effects_among}
use Rattle.irc_acts.specs.Ahead.{ahead}
use Rattle.irc_acts.specs.Moves.{IsMove, AreMoves, IsLeave, AreLeaves, IsOwnJoin, AreOwnJoins}

pub same_is_fold : (channel name : List ℕ) → same_fold (key name) (key channel) ≡ same channel name
same_is_fold channel name =
    by_fold (same_fold (key name) (key channel)) (same channel name) refl refl
  where
    by_fold : (b c : Bool) → same_fold (key name) (key channel) ≡ b → same channel name ≡ c → b ≡ c
    by_fold true true one alike = refl
    by_fold false false one alike = refl
    by_fold true false one alike =
        absurd (true≢false (sym ((same-tells channel name).1
        (sym (one_fold (key name) (key channel) one))) ∙ alike))
    by_fold false true one alike =
        absurd (true≢false (sym (same_fold-refl (key name))
        ∙ ap (same_fold (key name)) (sym ((same-tells channel name).0 alike)) ∙ one))

-- the row of a channel once the row of a channel is changed, by their names
pub row_changed : (room : Room) (channel name : List ℕ) (change : Option Channel → Option Channel)
    → row (alter_channel channel change room).channels (key name)
    ≡ cond (same channel name) (change (row room.channels (key name)))
    (row room.channels (key name))
row_changed room channel name change =
    row-alter (key channel) change room.channels (key name)
    ∙ ap (λ b. cond b (change (row room.channels (key channel))) (row room.channels (key name)))
    (same_is_fold channel name)
    ∙ by_name (same channel name) refl
  where
    by_name : (b : Bool) → same channel name ≡ b
        → cond b (change (row room.channels (key channel))) (row room.channels (key name))
        ≡ cond b (change (row room.channels (key name))) (row room.channels (key name))
    by_name true alike =
        ap (λ fold. change (row room.channels fold)) ((same-tells channel name).0 alike)
    by_name false other = refl

-- the row of a channel that a user joins, which is made where it is not there
abbrev pub joins_row : List ℕ → List ℕ → Bool → Option Channel → Option Channel
joins_row nick channel op c = Some (joined (key nick) op (unwrap_or c (new_channel channel)))

pub joins_in : (nick : List ℕ) (op : Bool) (channel : Channel)
    → has_member nick (joined nick op channel) ≡ true
joins_in nick op channel = by_member (has_member nick channel) refl
  where
    by_member : (b : Bool) → has_member nick channel ≡ b
        → has_member nick (cond b channel (record channel {
          members = alter nick (λ _. Some (record { op = op; voice = false })) channel.members;
          invited = alter nick (λ _. None) channel.invited;
        })) ≡ true
    by_member true e = e
    by_member false e =
        ap is_some
        (row-alter_same nick (λ _. Some (record { op = op; voice = false })) channel.members)

-- ---- members that leave

leave_is_move : (room : Room) (effect : Effect) → IsLeave room effect → IsMove room effect
leave_is_move room (Join nick channel op) there = absurd there
leave_is_move room other there = there

pub leaves_are_moves : (room : Room) (acts : List Act) → AreLeaves room acts → AreMoves room acts
leaves_are_moves room acts = each-so IsLeave IsMove leave_is_move room (effects_among acts)

move_keeps_users : (room : Room) (effect : Effect) → IsMove room effect
    → (after room effect).users ≡ room.users
unfolding after
move_keeps_users room (Join nick channel op) moves = refl
move_keeps_users room (Part nick channel text) moves = refl
move_keeps_users room (Kick by channel nick text) moves = refl
move_keeps_users room other moves = absurd moves

pub moves_keep_users : (room : Room) (acts : List Act) → AreMoves room acts
    → (ahead room acts).users ≡ room.users
moves_keep_users room acts moves =
    each-keeps IsMove (λ now. now.users ≡ room.users)
    (λ now effect is so. move_keeps_users now effect is ∙ so) room (effects_among acts) moves refl

-- ---- a user that joins channels which it is not in

own_join_is_move : (nick : List ℕ) (room : Room) (effect : Effect) → IsOwnJoin nick room effect
    → IsMove room effect
own_join_is_move nick room (Join who channel op) joins =
    ap (λ n. is_member room n channel) joins.0 ∙ joins.1
own_join_is_move nick room (Part who channel text) joins = absurd joins
own_join_is_move nick room (Kick by channel who text) joins = absurd joins
own_join_is_move nick room other joins = joins

pub own_joins_are_moves : (nick : List ℕ) (room : Room) (acts : List Act)
    → AreOwnJoins nick room acts → AreMoves room acts
own_joins_are_moves nick room acts =
    each-so (IsOwnJoin nick) IsMove (own_join_is_move nick) room (effects_among acts)

pub joins_keep_users : (nick : List ℕ) (room : Room) (acts : List Act) → AreOwnJoins nick room acts
    → (ahead room acts).users ≡ room.users
joins_keep_users nick room acts joins =
    moves_keep_users room acts (own_joins_are_moves nick room acts joins)

-- a channel that the user is not in behind its Join is as it was before
join_as_it_was : (nick name : List ℕ) (room : Room) (effect : Effect) → IsOwnJoin nick room effect
    → is_member (after room effect) nick name ≡ false
    → row (after room effect).channels (key name) ≡ row room.channels (key name)
unfolding after
join_as_it_was nick name room (Join who channel op) joins outside =
    changed
    ∙ by_name (same channel name)
    (sym (ap (λ o. option_map_or (has_member (key nick)) o false) changed) ∙ outside)
  where
    changed : row (after room (Join who channel op)).channels (key name)
        ≡ cond (same channel name) (joins_row who channel op (row room.channels (key name)))
        (row room.channels (key name))
    changed = row_changed room channel name (joins_row who channel op)

    joins_it : has_member (key nick)
        (joined (key who) op (unwrap_or (row room.channels (key name)) (new_channel channel)))
        ≡ true
    joins_it =
        ap (λ n.
        has_member (key n)
        (joined (key who) op (unwrap_or (row room.channels (key name)) (new_channel channel))))
        (sym joins.0)
        ∙ joins_in (key who) op (unwrap_or (row room.channels (key name)) (new_channel channel))

    by_name : (b : Bool)
        → option_map_or (has_member (key nick))
        (cond b (joins_row who channel op (row room.channels (key name)))
        (row room.channels (key name)))
        false
        ≡ false
        → cond b (joins_row who channel op (row room.channels (key name)))
        (row room.channels (key name))
        ≡ row room.channels (key name)
    by_name true none = absurd (true≢false (sym joins_it ∙ none))
    by_name false none = refl
join_as_it_was nick name room other joins outside = absurd joins

all_as_it_was : (nick name : List ℕ) (room : Room) (effects : List Effect)
    → EachInTurn (IsOwnJoin nick) room effects
    → is_member (after_all room effects) nick name ≡ false
    → row (after_all room effects).channels (key name) ≡ row room.channels (key name)
all_as_it_was nick name room [] joins outside = refl
all_as_it_was nick name room (effect ∷ effects) joins outside =
    let later = all_as_it_was nick name (after room effect) effects joins.later outside in
    later
    ∙ join_as_it_was nick name room effect joins.now
    (ap (λ o. option_map_or (has_member (key nick)) o false) (sym later) ∙ outside)

-- a channel that such a user is no member of after them is as it was
pub joined_as_it_was : (nick name : List ℕ) (room : Room) (acts : List Act)
    → AreOwnJoins nick room acts → is_member (ahead room acts) nick name ≡ false
    → row (ahead room acts).channels (key name) ≡ row room.channels (key name)
joined_as_it_was nick name room acts = all_as_it_was nick name room (effects_among acts)

-- ---- members leave, and names stay

left_keeps_name : (nick : List ℕ) (before after : Channel) → left nick before ≡ Some after
    → before.name ≡ after.name
left_keeps_name nick before after = by_member (has_member nick before)
  where
    rest : Channel
    rest = record before { members = alter nick (λ _. None) before.members }

    by_rest : (b : Bool) → (if b then None else Some rest) ≡ Some after → before.name ≡ after.name
    by_rest true is = cc is
    by_rest false is = let same : rest ≡ after = cc is in ap (λ (c : Channel). c.name) same

    by_member : (b : Bool)
        → (if b then (if is_nil (keys rest.members) then None else Some rest) else Some before)
        ≡ Some after
        → before.name ≡ after.name
    by_member true is = by_rest (is_nil (keys rest.members)) is
    by_member false is = let same : before ≡ after = cc is in ap (λ (c : Channel). c.name) same

-- the row of a name is that of a channel with this name
abbrev RowIsNamed : List ℕ → Room → Type 0
RowIsNamed name room =
    (channel : Channel) → row room.channels (key name) ≡ Some channel → key channel.name ≡ key name

leave_keeps_name : (name : List ℕ) (room : Room) (who channel : List ℕ) → RowIsNamed name room
    → RowIsNamed name (alter_channel channel (option_and_then (left (key who))) room)
leave_keeps_name name room who channel named now is =
    by_name (same channel name) (row room.channels (key name)) refl
    (sym (row_changed room channel name (option_and_then (left (key who)))) ∙ is)
  where
    by_name : (b : Bool) (found : Option Channel) → row room.channels (key name) ≡ found
        → cond b (option_and_then (left (key who)) found) found ≡ Some now
        → key now.name ≡ key name
    by_name true None at left_is = cc left_is
    by_name true (Some before) at left_is =
        ap key (sym (left_keeps_name (key who) before now left_is)) ∙ named before at
    by_name false found at same = named now (at ∙ same)

pub leaves_keep_names : (name : List ℕ) (room : Room) (acts : List Act) → IsWellFormed room
    → AreLeaves room acts → RowIsNamed name (ahead room acts)
unfolding after
leaves_keep_names name room acts well leaves =
    each-keeps IsLeave (RowIsNamed name) (λ now effect is named. by_effect now effect is named)
    room (effects_among acts) leaves
    (λ channel is. (well.channels_sound (key name) channel is).named)
  where
    by_effect : (now : Room) (effect : Effect) → IsLeave now effect → RowIsNamed name now
        → RowIsNamed name (after now effect)
    by_effect now (Part who channel text) is named = leave_keeps_name name now who channel named
    by_effect now (Kick by channel who text) is named = leave_keeps_name name now who channel named
    by_effect now other is named = absurd is
