-- One nickname of a KICK, after those before it were kicked.
use Rattle.std.proofs.Common.{◌≡◌, ℕ, false, true, Some, List, ◌∷◌, ◌++◌, sym, ◌∙◌, ap, subst}
use Rattle.std.specs.Option.{option_map_or}
use Rattle.irc_names.specs.Fold.{key}
use Rattle.irc_names.specs.Tables.{row}
use Rattle.irc_users.specs.declared.user.User.{User}
use Rattle.irc_channels.specs.declared.channel.Channel.{Channel}
use Rattle.irc_channels.specs.Channels.{has_member}
use Rattle.irc_room.specs.Room.{Room, IsWellFormed}
use Rattle.irc_room.specs.Effects.{is_member}
use Rattle.irc_room.specs.InTurn.{EachInTurn}
use Rattle.irc_acts.specs.declared.act.Act.{Act}
use Rattle.irc_acts.specs.Acts.{effects_among}
use Rattle.irc_acts.specs.Ahead.{ahead, in_turn}
use Rattle.irc_acts.specs.AheadLaws.{each-both, one_served}
use Rattle.irc_acts.specs.Moves.{IsLeave, AreLeaves}
use Rattle.irc_acts.specs.MoveLaws.{leaves_are_moves, leaves_keep_names, moves_keep_users}
use Rattle.irc_channel_commands.specs.Kick.{Kicking, kick_one}
use Rattle.irc_channel_commands.specs.Laws.KickLaw.{one_so}

-- whoever is kicked, by the names that are stored, is a member
member_stored : (room : Room) (before : List Act) (asked : Kicking)
    (channel : Channel) (other : User) → IsWellFormed room → AreLeaves room before
    → row (ahead room before).channels (key asked.channel) ≡ Some channel
    → has_member (key asked.nick) channel ≡ true → row (ahead room before).users (key asked.nick)
    ≡ Some other → is_member (ahead room before) other.nick channel.name ≡ true
member_stored room before asked channel other well leaves is member known =
    let now = ahead room before in
    let at_first = sym (ap (λ users. row users (key asked.nick))
    (moves_keep_users room before (leaves_are_moves room before leaves))) ∙ known in
    ap (λ nick. option_map_or (has_member nick) (row now.channels (key channel.name)) false)
    (well.users_named (key asked.nick) other at_first)
    ∙ ap (λ fold. option_map_or (has_member (key asked.nick)) (row now.channels fold) false)
    (leaves_keep_names asked.channel room before well leaves channel is)
    ∙ ap (λ o. option_map_or (has_member (key asked.nick)) o false) is
    ∙ member

-- the steps so far, and those of one nickname more, let members leave and nothing else
pub kicks_more : (me : User) (text : List ℕ) (room : Room) (before acts : List Act)
    (asked : Kicking) (new : List Act) → IsWellFormed room → AreLeaves room before
    → kick_one me text (ahead room before) asked ≡ acts → new ≡ before ++ acts → AreLeaves room new
kicks_more me text room before acts asked new well leaves served new_is =
    let now = ahead room before in
    subst (AreLeaves room) (sym new_is)
    (each-both IsLeave room before acts leaves
    (subst (λ (steps : List Act). EachInTurn IsLeave now (effects_among steps)) served
    (one_so IsLeave me text now asked (record {
      kicks_it = λ channel other is member known.
          member_stored room before asked channel other well leaves is member known;
    }))))

-- and with what is left they are the steps of all
pub kicked_so_far : (me : User) (text : List ℕ) (room : Room) (before acts new total : List Act)
    (asked : Kicking) (left rest : List Kicking) → left ≡ asked ∷ rest
    → kick_one me text (ahead room before) asked ≡ acts → new ≡ before ++ acts
    → before ++ in_turn (kick_one me text) (ahead room before) left ≡ total
    → new ++ in_turn (kick_one me text) (ahead room new) rest ≡ total
kicked_so_far me text room before acts new total asked left rest left_is served new_is so_far =
    one_served (kick_one me text) room asked rest before new
    (new_is ∙ ap (λ a. before ++ a) (sym served))
    ∙ ap (λ es. before ++ in_turn (kick_one me text) (ahead room before) es) (sym left_is)
    ∙ so_far
