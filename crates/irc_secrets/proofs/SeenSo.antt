-- A user's lines among all that is seen are those that it is shown.
use Rattle.std.proofs.Common.{sym, ◌∙◌, ap, option_to_list}
use Rattle.irc_effects.specs.Viewers.{OneViewersLines}
use Rattle.irc_secrets.specs.Laws.{AreSeenSo}
use Rattle.irc_secrets.proofs.Shown.{channel_shows_nothing}
use Rattle.irc_secrets.proofs.OthersShown.{others_show_alike}

pub are_seen_so : OneViewersLines → AreSeenSo
are_seen_so lines = record {
  channel_not = λ channel viewer room effect well out here not_own.
      lines room effect viewer well
      ∙ ap option_to_list (channel_shows_nothing channel viewer room effect well out here not_own);
  others_alike = λ channel viewer one other effect well other_well alike out other_out two.
      lines one effect viewer well
      ∙ ap option_to_list
      (others_show_alike channel viewer one other effect well alike out other_out two).shows
      ∙ sym (lines other effect viewer other_well);
}
