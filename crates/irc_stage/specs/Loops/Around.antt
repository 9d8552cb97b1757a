-- What an effect meets at a server that it is still to change, as the code keeps it.
use Rattle.std.specs.Prelude.{◌≡◌, ℕ, ⊤, Option, List, [], ◌++◌}
use Rattle.std.specs.Global.{Vec}
use Rattle.std.specs.List.{flat_map}
use Rattle.std.specs.Option.{option_and_then, option_copied, option_map}
use Rattle.arrayvec.specs.ArrayVec.{ArrayVec}
use Rattle.irc_names.specs.Fold.{key}
use Rattle.irc_names.specs.Tables.{row}
use Rattle.irc_users.specs.declared.user.User.{User as Person}
use Rattle.irc_batch.specs.Batches.{Batch}
use Rattle.irc_link_writer.specs.Written.{wire}
use Rattle.irc_room.specs.effect.Effect.{Effect}
use Rattle.irc_room.specs.effect.Effect.TheVariants.{Say}
use Rattle.irc_room.specs.effect.Target.TheVariants.{Channel}
use Rattle.irc_room.specs.Loops.Naming.{IsNamed}
use Rattle.irc_room.specs.Room.{Room}
use Rattle.irc_room.specs.Seen.{seen}
use Rattle.irc_routes.specs.Known.{Known, next_hop, place_of}
use Rattle.irc_stage.specs.declared.ways.Around.{Around}
use Rattle.irc_stage.specs.declared.ways.Ways.{Ways}
use Rattle.irc_stage.specs.EffectTold.{on_links}
use Rattle.irc_stage.specs.Handle.{to_viewer}
use Rattle.irc_stage.specs.RoomMachine.{RoomMachine}
use Rattle.irc_stage.specs.View.{KnownPeer, View}
use Rattle.irc_stage.specs.Ways.{AreEnds}
use Rattle.irc_stage.specs.Loops.Branching.{ways_around, IsRightIn}
use Rattle.irc_stage.specs.Loops.Hearing.{hearers}
use Rattle.irc_stage.specs.Loops.Listening.{Lists, AreSo}
use Rattle.irc_stage.specs.Loops.Parts.{clients_of, lines_on, numbered, IsFit, IsIndexed}

-- the room machine that the server is to its clients
abbrev pub machine_in : Around → RoomMachine
machine_in around = record {
  place = place_of around.routes.now;
  clients = clients_of around.clients.now;
  room = around.room.now.room;
}

-- the server, which has these peers
abbrev pub view_in : List KnownPeer → Around → View
view_in peers around = record {
  routes = around.routes.now;
  peers = peers;
  ends = numbered around.ends.now;
  clients = clients_of around.clients.now;
  room = around.room.now.room;
}

-- what an effect names in its room was found
abbrev pub IsNamedIn : Around → Effect → Type 0
IsNamedIn around effect = IsNamed around.room.now.room effect around.named

-- What is lent to who looks before an effect: the clients and their index, a room that is the
-- server's own, and what the effect, which fits, names in it.
pub record IsLent (around : Around) (effect : Effect) : Type 0 where
  pub indexed : IsIndexed around.clients.now
  pub own : around.room.now.own ≡ around.routes.now.name
  pub named : IsNamedIn around effect
  pub fit : IsFit (machine_in around) effect

-- the user that it is for has this nickname, where it is there
abbrev pub IsOther : Around → List ℕ → Type 0
IsOther around nick =
    option_copied around.named.other ≡ row around.room.now.room.users (key nick)

-- each server that is known is behind a link that counts
abbrev pub AreEndsIn : Around → Type 0
AreEndsIn around = AreEnds (numbered around.ends.now) around.routes.now

-- it is known who of its clients listens where
abbrev pub AreSoIn : Lists → Around → Type 0
AreSoIn lists around = AreSo lists around.room.now.room around.clients.now.by_nick

-- the link toward a user, if there is one, where it is one of another server
abbrev pub hop_of : Known → Option Person → Option ℕ
hop_of known user = option_and_then (next_hop known) (option_map (λ (u : Person). u.home) user)

-- The links on which an effect goes are at hand, and its line, where there is such a link.
abbrev pub IsAtHand : Around → Option ℕ → Effect → Vec ℕ → ArrayVec ℕ → Type 0
IsAtHand around arrival effect links line =
    lines_on links.items line.items ≡ on_links (ways_around around arrival effect)
    (wire around.room.now.room around.routes.now effect)

-- It is shown to the clients among its viewers, ..
abbrev pub IsHeard : Around → Effect → Batch → Batch → Type 0
IsHeard around effect out out_after =
    out_after.outs ≡ out.outs ++ flat_map (to_viewer (clients_of around.clients.now))
    (seen around.room.now.room effect)

-- .. and where none of them hears it the batch stays as it was, with the line that was at hand.
abbrev pub IsUnheard : Around → Effect → Batch → Batch → Type 0
IsUnheard around effect out out_after =
    hearers around.room.now.room around.clients.now.by_nick effect ≡ [] → out_after ≡ out

-- somebody says something in a channel
abbrev pub IsSaidInChannel : Effect → Type 0
IsSaidInChannel (Say by notice (Channel channel) words) = ⊤
IsSaidInChannel effect = ⊥

-- what is kept of where members are stays right, as the room changes
abbrev pub StaysRight : Ways → Room → Ways → Room → Type 0
StaysRight old before new now = (known : Known) → IsRightIn old before known
    → IsRightIn new now known
