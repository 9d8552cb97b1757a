-- One channel of a PART, after those before it were left.
use Rattle.std.proofs.Common.{◌≡◌, ℕ, false, List, ◌++◌, refl, sym, ◌∙◌, ap, subst}
use Rattle.std.specs.Option.{option_map_or}
use Rattle.irc_names.specs.Fold.{key}
use Rattle.irc_names.specs.Tables.{row}
use Rattle.irc_users.specs.declared.user.User.{User}
use Rattle.irc_channels.specs.Channels.{has_member}
use Rattle.irc_room.specs.Room.{Room, IsWellFormed}
use Rattle.irc_room.specs.InTurn.{EachInTurn}
use Rattle.irc_acts.specs.declared.act.Act.{Act}
use Rattle.irc_acts.specs.Acts.{effects_among}
use Rattle.irc_acts.specs.Ahead.{ahead}
use Rattle.irc_acts.specs.AheadLaws.{each-both}
use Rattle.irc_acts.specs.Moves.{IsLeave, AreLeaves}
use Rattle.irc_acts.specs.MoveLaws.{leaves_keep_names}
use Rattle.irc_channel_commands.specs.Part.{part_one}
use Rattle.irc_channel_commands.specs.Laws.PartLaw.{found_so}

-- the steps so far, and those of one channel more, let members leave and nothing else
pub leaves_more : (me : User) (text : List ℕ) (room : Room) (before acts : List Act)
    (name : List ℕ) (new : List Act) → IsWellFormed room → AreLeaves room before
    → part_one me text (ahead room before) name ≡ acts → new ≡ before ++ acts → AreLeaves room new
leaves_more me text room before acts name new well leaves_before served new_is =
    let now = ahead room before in
    subst (AreLeaves room) (sym new_is)
    (each-both IsLeave room before acts leaves_before
    (subst (λ (steps : List Act). EachInTurn IsLeave now (effects_among steps)) served
    (found_so IsLeave me text now name (record {
      leaves_it = λ channel is member.
          ap (λ fold. option_map_or (has_member (key me.nick)) (row now.channels fold) false)
          (leaves_keep_names name room before well leaves_before channel is)
          ∙ ap (λ o. option_map_or (has_member (key me.nick)) o false) is
          ∙ member;
    }) (row now.channels (key name)) refl)))
