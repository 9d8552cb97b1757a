use Rattle.irc_daemons.proofs.EachStep.{each_step}
use Rattle.irc_daemons.proofs.Running.{Laws, daemons_are_one_room}
use Rattle.irc_daemons.proofs.Saying.{served_alike}
use Rattle.irc_daemons.proofs.laws.daemons_are_one_room.Goals as goal

pub returns : goal.returns
returns g c =
    let alike = served_alike c.served_alike.ensures c.nothing_is_behind_an_end.ensures
    c.served_keeps_ends.ensures in
    let laws : Laws = record {
      pieces = c.pieces_complete_the_same.ensures.pieces;
      lines_end = c.served_lines_end.ensures;
      own = c.served_goes_to_its_own.ensures;
      connected = c.who_is_connected.ensures;
      keeps_ends = c.served_keeps_ends.ensures;
      alike = alike;
      new_is_whole = c.new_is_whole.ensures;
      rest = c.rest_as_lines.ensures.lines;
      world = c.world_is_sound.ensures;
      taken_out = c.link_taken_out.ensures;
      refusals = c.refusals_are_the_worlds.ensures;
      stays = c.networks_stay_sound.ensures;
      set_up = c.settings_stay.ensures;
      owed = c.kept_is_owed.ensures;
      run_is_kept = c.every_run_is_kept.ensures;
    } in
    daemons_are_one_room g.W.Wire.is_after
    (each_step g.W.Wire.is_after laws.pieces laws.lines_end laws.own laws.connected laws.alike) laws
