-- A new server has an empty room, and no clients.
use Rattle.std.proofs.Common.{◌≡◌, ap}
use Rattle.std.specs.Ordering.{nat_cmp}
use Rattle.std.specs.FinMap.{empty, get, get-empty}
use Rattle.irc_names.specs.Tables.{fold_cmp, row}
use Rattle.irc_users.specs.declared.user.User.{User}
use Rattle.irc_room.specs.Room.{Room}
use Rattle.irc_room.specs.Laws.{no_room}
use Rattle.irc_stage.specs.declared.clients.Client.{Client}
use Rattle.irc_stage.specs.RoomMachine.{RoomMachine}
use Rattle.irc_stage.specs.Matched.{IsMatched}

pub is_matched : (machine : RoomMachine) → machine.clients ≡ empty → machine.room ≡ no_room
    → IsMatched machine
is_matched machine none empty_room = record {
  registered_is_user = λ conn nick is. let nobody = get-empty {X = Client} nat_cmp conn in
      let same = ap (λ cs. get cs conn) none in cc;
  user_has_one = λ conn other nick name is is_other same_names. let nobody =
      get-empty {X = Client} nat_cmp conn in let same = ap (λ cs. get cs conn) none in cc;
  spelled = λ conn nick user is there. let nobody = get-empty {X = Client} nat_cmp conn in
      let same = ap (λ cs. get cs conn) none in cc;
  user_has_client = λ fold user is home. let nobody = get-empty {X = User} fold_cmp fold in
      let same = ap (λ (r : Room). row r.users fold) empty_room in cc;
}
