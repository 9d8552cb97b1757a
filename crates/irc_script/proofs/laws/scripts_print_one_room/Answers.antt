use Rattle.irc_script.proofs.OneRoomPrinted.{prints_one_room}
use Rattle.irc_script.proofs.laws.scripts_print_one_room.Goals as goal

pub returns : goal.returns
returns c =
    prints_one_room c.networks_stay_sound.ensures
    (record { owed = c.kept_is_owed.ensures; set_up = c.settings_stay.ensures })
    c.receipts_are_received.ensures c.answers_are_received.ensures
