-- Whatever deed a line says, the server that takes it is then what it has to be, and its side is
-- sound.
use Rattle.irc_merge.specs.Deeds.{does, gains, loses, kills, brings, sets, tops}
use Rattle.irc_follow.specs.Laws.{DoneStaysSound, SaidDeedFits}
use Rattle.irc_follow.specs.Lemmas.DeedsOnSide.{brings_keeps, kills_keeps, loses_keeps, sets_keeps}
use Rattle.irc_follow.specs.Lemmas.DeedsOnSide.{tops_keeps}
use Rattle.irc_follow.specs.Lemmas.EffectsOnSide.{effect_keeps, gain_keeps}
use Rattle.irc_follow.specs.Lemmas.SaidDeed.{said_brings_fits, said_kills_fits, said_loses_fits}
use Rattle.irc_follow.specs.Lemmas.SaidDeed.{said_sets_fits, said_tops_fits}
use Rattle.irc_follow.specs.Lemmas.SaidEffect.{said_effect_fits}
use Rattle.irc_follow.specs.Lemmas.SaidGain.{said_gain_fits}

pub done_stays_sound : DoneStaysSound
done_stays_sound s w (does effect) fixed sound doable = effect_keeps s w effect sound doable
done_stays_sound s w (gains uplink name info) fixed sound doable =
    gain_keeps s w uplink name info fixed sound doable
done_stays_sound s w (loses server name text) fixed sound doable =
    loses_keeps s w sound server name text doable
done_stays_sound s w (kills server nick) fixed sound doable =
    kills_keeps s w sound server nick doable
done_stays_sound s w (brings server channel members) fixed sound doable =
    brings_keeps s w sound server channel members doable
done_stays_sound s w (sets server channel changes) fixed sound doable =
    sets_keeps s w sound server channel changes doable
done_stays_sound s w (tops server channel topic) fixed sound doable =
    tops_keeps s w sound server channel topic doable

pub said_deed_fits : SaidDeedFits
said_deed_fits s p t w view (does effect) line fixed takes fits says =
    said_effect_fits s p t w view takes fits effect line says
said_deed_fits s p t w view (gains uplink name info) line fixed takes fits says =
    said_gain_fits s fixed p t w view takes fits uplink name info line says
said_deed_fits s p t w view (loses server name text) line fixed takes fits says =
    said_loses_fits s p t w view takes fits server name text line says
said_deed_fits s p t w view (kills server nick) line fixed takes fits says =
    said_kills_fits s p t w view takes fits server nick line says
said_deed_fits s p t w view (brings server channel members) line fixed takes fits says =
    said_brings_fits s p t w view takes fits server channel members line says
said_deed_fits s p t w view (sets server channel changes) line fixed takes fits says =
    said_sets_fits s p t w view takes fits server channel changes line says
said_deed_fits s p t w view (tops server channel topic) line fixed takes fits says =
    said_tops_fits s p t w view takes fits server channel topic line says
