use Rattle.irc_items.proofs.Client.Items.{AreItemLaws}
use Rattle.irc_items.proofs.Common.Step.{AreStepLaws}
use Rattle.irc_items.proofs.Cut.Item.{AreCutItemLaws}
use Rattle.irc_items.proofs.GivenStaysSound.{given_stays_sound}
use Rattle.irc_items.proofs.Home.Events.{AreDecisionLaws}
use Rattle.irc_items.proofs.Home.Tells.{tells_from_home, AreTellingLaws}
use Rattle.irc_items.proofs.Link.Item.{AreLinkItemLaws}
use Rattle.irc_follow.specs.Lemmas.SidesFollowed.{IsKnownOfLine}
use Rattle.irc_items.proofs.laws.given_stays_sound.Goals as goal

pub returns : goal.returns
returns c = given_stays_sound (record {
  rest = c.rest_is_one_room.ensures;
  world = c.taken_make_world.ensures;
  client = client;
  link = link;
  cut = cut;
})
  where
    line : IsKnownOfLine
    line = record {
      fits = c.said_deed_fits.ensures;
      shows = c.said_deed_shows.ensures;
      goes_on = c.said_deed_goes_on.ensures;
      aside = c.aside_stays.ensures;
      passed = c.passed_by_stays.ensures;
    }

    steps : AreStepLaws
    steps = record {
      step_keeps = c.step_keeps_world.ensures;
      refusals = c.refusals_are_the_worlds.ensures;
    }

    decisions : AreDecisionLaws
    decisions = record {
      decided_at_home = c.decided_at_home.ensures;
      registering_at_home = c.registering_at_home.ensures;
      decided_possible = c.decided_is_possible.ensures;
      registering_possible = c.registering_is_possible.ensures;
      by_itself = c.decided_by_itself.ensures;
      added = c.registered_is_added.ensures;
      unchanging = c.unregistered_changes_nothing.ensures;
    }

    telling : AreTellingLaws
    telling = record {
      spoken = record {
        decisions = decisions;
        does = c.decided_does.ensures;
        decided_sendable = c.decided_is_sendable.ensures;
        registering_sendable = c.registering_is_sendable.ensures;
        words = c.words_are_of_the_line.ensures.words;
      };
      read_back = c.each_is_read_back.ensures;
      line = line;
      done = c.done_stays_sound.ensures;
      source = c.source_tells.ensures;
      far = c.behind_source_is_far.ensures;
    }

    client : AreItemLaws
    client = record {
      client = record {
        events = record {
          decisions = record {
            decided_possible = c.decided_is_possible.ensures;
            registering_possible = c.registering_is_possible.ensures;
            stays = c.who_stays_is_user.ensures;
            closes = c.who_is_closed_quits.ensures;
            added = c.registered_is_added.ensures;
            unchanging = c.unregistered_changes_nothing.ensures;
          };
          at_rest = c.side_at_rest_is_sound.ensures;
        };
        line = line;
        quiet = c.rest_stays.ensures;
        other_parts = c.other_parts_stay.ensures;
        only_connected = c.only_connected_receive.ensures;
      };
      home = record { decisions = decisions; sound = c.side_at_rest_is_sound.ensures };
      tells =
          λ s world after routes h view client_event same_links fixed forest streams among is_world
          of_world right fits place due.
          tells_from_home telling s world routes h view client_event fixed forest streams
          is_world fits
          place due after same_links;
      place = c.place_is_worlds.ensures;
      kept = c.keeps_its_setting.ensures;
      steps = steps;
    }

    cut : AreCutItemLaws
    cut = record {
      cut = record {
        quiet = c.rest_stays.ensures;
        line = line;
        only_connected =
            c.only_connected_receive.ensures;
        behind = c.behind_is_that_side.ensures;
      };
      sides = record {
        at_rest = c.side_at_rest_is_sound.ensures;
        behind = c.behind_is_that_side.ensures;
        after_cut = c.tree_after_cut.ensures;
        squits = c.squits_split.ensures;
      };
      lines =
          record {
            written = c.written_is_read.ensures;
            alone = c.every_line_is_read.ensures.alone;
            as_line = c.written_is_line.ensures;
            names = c.names_are_line_words.ensures;
          };
      done = c.done_stays_sound.ensures;
      kept = c.keeps_its_setting.ensures;
      steps = steps;
    }

    link : AreLinkItemLaws
    link = record {
      link = record {
        after_link = c.side_after_link.ensures;
        quiet = c.rest_stays.ensures;
        line = line;
        only_connected = c.only_connected_receive.ensures;
      };
      rooms = record {
        sides = record {
          handshakes = record {
            lines = record {
              written = c.written_is_read.ensures;
              alone = c.every_line_is_read.ensures.alone;
              as_line = c.written_is_line.ensures;
              names = c.names_are_line_words.ensures;
            };
            passwords = c.lines_fit.ensures.passwords;
            names = c.lines_fit.ensures.names;
          };
          whole = c.whole_side.ensures;
          untold = c.burst_tells_no_invitation.ensures;
        };
        line = line;
        read_back = c.each_is_read_back.ensures;
        doable = c.lines_can_be_done.ensures;
      };
      links = record {
        at_rest = c.side_at_rest_is_sound.ensures;
        reads = c.burst_read_is_merge.ensures;
        shows = c.shown_is_merge_shown.ensures;
        even = c.merge_is_even.ensures;
        told = c.within_limits_is_told.ensures;
      };
      kept = c.keeps_its_setting.ensures;
      steps = steps;
    }
