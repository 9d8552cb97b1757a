-- The examples.
use Rattle.std.proofs.Common.{◌≡◌, ◌≢◌, false, [], ◌∷◌, ◌++◌, inl, inr, refl}
use Rattle.std.specs.Prelude.{codes}
use Rattle.irc_relay.specs.Links.{Name, Link, AreLinked, same, part, links_without}
use Rattle.irc_relay.specs.Lemmas.TellingNames.{same_when}
use Rattle.irc_documents.specs.Examples.{a_net, b_net, c_net, link}
use Rattle.irc_documents.specs.Networks.{AllMayBe, given, read_from, made}
use Rattle.irc_edited_rooms.specs.Writes.{no_writes}
use Rattle.irc_edited_rooms.specs.Documents.{Document, edited, blank_document, IsSound}
use Rattle.irc_edited_rooms.specs.Telling.{told}
use Rattle.irc_edited_rooms.specs.Examples.{Place, topic, key, operator, al, ally, ann, bo, zed}
use Rattle.irc_edited_rooms.specs.Examples.{names}
use Rattle.irc_edited_rooms.specs.Examples.{only, signs_on, joins, makes, leaves, quits, sets}
use Rattle.irc_edited_rooms.specs.Examples.{takes}
use Rattle.irc_edited_rooms.specs.Examples.{Steps, two_after, line_after}
use Rattle.irc_edited_rooms.specs.Lemmas.StaySound.{edited_sound}
use Rattle.irc_edited_rooms.specs.Examples.{rooms, room_of_al, room_of_ann, start_of, start, met}
use Rattle.irc_edited_rooms.specs.Examples.{told_after, both_read, line_crosses, line_parts}
use Rattle.irc_edited_rooms.specs.Examples.{line_apart, again}
use Rattle.irc_edited_rooms.specs.Crossing.{MayBeMade}
use Rattle.irc_edited_rooms.specs.Examples.{bo_joins, both_in, exchanged, line_start, line}
use Rattle.irc_edited_rooms.specs.Examples.{TopicsCross, KickCrosses, NicknamesCross, JoinCrosses}
use Rattle.irc_edited_rooms.specs.Examples.{NextBegins, ThreeRestAlike, WrongOnesDiffer}
use Rattle.irc_edited_rooms.specs.Lemmas.RoomsGoWell.{documents_are_told, blank_sound}
use Rattle.irc_edited_rooms.proofs.EditsMayBeMade.{signs_on_may, enters_may, leaves_may, quits_may}
use Rattle.irc_edited_rooms.proofs.EditsMayBeMade.{sets_may, takes_may, al_sound}
use Rattle.irc_edited_rooms.proofs.EditsMayBeMade.{ann_sound, and_then, sound_at}

differ : (s t : Name) → same s t ≡ false → s ≢ t
differ s t f e = let w = same_when s t e in cc

-- ---- two servers

module _ (at_c : Document Place) (c_sound : IsSound names at_c) where
  told_may : AllMayBe rooms (start_of room_of_al at_c) (made (link a_net b_net) (told room_of_al) []
      ∷ read_from a_net b_net ∷ read_from a_net b_net ∷ [])
  unfolding part
  told_may = (
    record {
      apart = differ a_net b_net refl;
      near_makes = documents_are_told names room_of_al al_sound;
      far_makes = record { may = tt; made = refl };
    },
    (inl (inl (refl, refl)), (inl (inl (refl, refl)), tt)),
  )

  met_may : AllMayBe rooms (start_of room_of_al at_c) met
  met_may = and_then (start_of room_of_al at_c)
      (made (link a_net b_net) (told room_of_al) [] ∷ read_from a_net b_net
      ∷ read_from a_net b_net ∷ [])
      (given b_net (signs_on bo) ∷ read_from b_net a_net ∷ []) told_may (
        signs_on_may bo (sound_at at_c c_sound (made (link a_net b_net) (told room_of_al) []
            ∷ read_from a_net b_net ∷ read_from a_net b_net ∷ []) told_may b_net) refl refl,
        (inl (inr (refl, refl)), tt),
      )

  both_in_may : AllMayBe rooms (start_of room_of_al at_c) both_in
  both_in_may = and_then (start_of room_of_al at_c) met bo_joins met_may (
    enters_may bo no_writes (sound_at at_c c_sound met met_may b_net) refl,
    (inl (inr (refl, refl)), tt),
  )

both_in_sound : (s : Name) → IsSound names ((two_after both_in).doc s)
both_in_sound =
    sound_at blank_document (blank_sound names) both_in
    (both_in_may blank_document (blank_sound names))

-- both are in the channel, and this crosses
crossing_may : (steps : Steps) → AllMayBe rooms (two_after both_in) steps
    → AllMayBe rooms start (both_in ++ steps)
crossing_may steps may =
    and_then start both_in steps (both_in_may blank_document (blank_sound names)) may

pub topics_cross : TopicsCross
topics_cross = record {
  may = crossing_may (given a_net (sets topic (codes "one"))
      ∷ given b_net (sets topic (codes "two")) ∷ exchanged) (
        sets_may topic (codes "one") (both_in_sound a_net),
        (
          sets_may topic (codes "two") (both_in_sound b_net),
          (inl (inl (refl, refl)), (inl (inr (refl, refl)), tt)),
        ),
      );
  topics = refl;
  at_rest = refl;
}

pub kick_crosses : KickCrosses
kick_crosses = record {
  may = crossing_may (given a_net (takes al ally) ∷ given b_net (leaves al) ∷ exchanged) (
    takes_may al ally (both_in_sound a_net) refl refl refl,
    (
      leaves_may al (both_in_sound b_net),
      (inl (inl (refl, refl)), (inl (inr (refl, refl)), tt)),
    ),
  );
  users = refl;
  members = refl;
  at_rest = refl;
}

pub nicknames_cross : NicknamesCross
nicknames_cross = record {
  may = crossing_may (given a_net (takes al zed) ∷ given b_net (takes bo zed) ∷ exchanged) (
    takes_may al zed (both_in_sound a_net) refl refl refl,
    (
      takes_may bo zed (both_in_sound b_net) refl refl refl,
      (inl (inl (refl, refl)), (inl (inr (refl, refl)), tt)),
    ),
  );
  users = refl;
  members = refl;
  at_rest = refl;
}

pub join_crosses : JoinCrosses
join_crosses = record {
  may = and_then start met (given a_net (leaves al) ∷ given b_net (joins bo) ∷ exchanged)
      (met_may blank_document (blank_sound names)) (
        leaves_may al (met_sound a_net),
        (
          enters_may bo no_writes (met_sound b_net) refl,
          (inl (inl (refl, refl)), (inl (inr (refl, refl)), tt)),
        ),
      );
  members = refl;
  topics = refl;
  at_rest = refl;
}
  where
    met_sound : (s : Name) → IsSound names ((two_after met).doc s)
    met_sound = sound_at blank_document (blank_sound names) met
        (met_may blank_document (blank_sound names))

-- ann signs on, and b.net hears of it
ann_in : Steps
ann_in = met ++ given a_net (signs_on ann) ∷ read_from a_net b_net ∷ []

ann_in_may : AllMayBe rooms start ann_in
unfolding ann_in
ann_in_may = and_then start met (given a_net (signs_on ann) ∷ read_from a_net b_net ∷ [])
    (met_may blank_document (blank_sound names)) (
      signs_on_may ann (sound_at blank_document (blank_sound names) met
          (met_may blank_document (blank_sound names)) a_net) refl refl,
      (inl (inl (refl, refl)), tt),
    )

ann_in_sound : (s : Name) → IsSound names ((two_after ann_in).doc s)
ann_in_sound = sound_at blank_document (blank_sound names) ann_in ann_in_may

pub next_begins : NextBegins
unfolding ann_in
next_begins = record {
  may = and_then start ann_in (given a_net (leaves al) ∷ given a_net (makes ann)
      ∷ given b_net (sets key (codes "x")) ∷ read_from a_net b_net ∷ exchanged) ann_in_may (
        leaves_may al (ann_in_sound a_net),
        (
          enters_may ann (only operator (codes "o"))
              (edited_sound names ((two_after ann_in).doc a_net) (leaves al)
              (leaves_may al (ann_in_sound a_net))) refl,
          (
            sets_may key (codes "x") (ann_in_sound b_net),
            (inl (inl (refl, refl)), (inl (inl (refl, refl)), (inl (inr (refl, refl)), tt))),
          ),
        ),
      );
  members = refl;
  keys = refl;
  topics = refl;
  at_rest = refl;
}

-- ---- three servers

-- a - b - c; and so once the link of b and c is made again
ab : {l : Link} → AreLinked (l ∷ link a_net b_net ∷ []) a_net b_net
ab = inr (inl (inl (refl, refl)))

ba : {l : Link} → AreLinked (l ∷ link a_net b_net ∷ []) b_net a_net
ba = inr (inl (inr (refl, refl)))

bc : AreLinked (link b_net c_net ∷ link a_net b_net ∷ []) b_net c_net
bc = inl (inl (refl, refl))

cb : AreLinked (link b_net c_net ∷ link a_net b_net ∷ []) c_net b_net
cb = inl (inr (refl, refl))

line_both_in_may : AllMayBe rooms line_start both_in
line_both_in_may = both_in_may room_of_ann ann_sound

line_sound : (steps : Steps) → AllMayBe rooms line_start steps → (s : Name)
    → IsSound names ((line_after steps).doc s)
line_sound = sound_at room_of_ann ann_sound

line_may : AllMayBe rooms line_start line
unfolding part
line_may = and_then line_start both_in (told_after both_in b_net c_net
    ∷ both_read b_net c_net ++ both_read b_net c_net
    ++ read_from b_net a_net ∷ read_from b_net a_net ∷ []) line_both_in_may (
      record {
        apart = differ a_net c_net refl;
        near_makes = documents_are_told names ((line_after both_in).doc b_net)
            (line_sound both_in line_both_in_may b_net);
        far_makes = documents_are_told names room_of_ann ann_sound;
      },
      (bc, (cb, (bc, (cb, (ba, (ba, tt)))))),
    )

line_crosses_may : AllMayBe rooms line_start (line ++ line_crosses)
line_crosses_may = and_then line_start line line_crosses line_may (
  renamed,
  (
    leaves_may al (line_sound line line_may c_net),
    (
      sets_may topic (codes "one")
          (edited_sound names ((line_after line).doc a_net) (takes al ally) renamed),
      (
        sets_may topic (codes "two") (line_sound line line_may b_net),
        (ab, (ba, (bc, (cb, (ab, (ba, (bc, (cb, (bc, (cb, (ab, (ba, tt)))))))))))),
      ),
    ),
  ),
)
  where
    renamed : MayBeMade names ((line_after line).doc a_net) (takes al ally)
    renamed = takes_may al ally (line_sound line line_may a_net) refl refl refl

crossed_sound : (s : Name) → IsSound names ((line_after (line ++ line_crosses)).doc s)
crossed_sound = line_sound (line ++ line_crosses) line_crosses_may

-- the link is lost; ann has quit at b.net, and ally and bo at c.net
quit_may : MayBeMade names ((line_after (line ++ line_crosses)).doc b_net) (quits ann)
quit_may = quits_may ann (crossed_sound b_net)

first_quit : Document Place
first_quit = edited names ((line_after (line ++ line_crosses)).doc c_net) (quits ally)

first_quit_sound : IsSound names first_quit
unfolding first_quit
first_quit_sound = edited_sound names ((line_after (line ++ line_crosses)).doc c_net) (quits ally)
    (quits_may ally (crossed_sound c_net))

both_quit : Document Place
both_quit = edited names first_quit (quits bo)

both_quit_sound : IsSound names both_quit
unfolding first_quit both_quit
both_quit_sound = edited_sound names first_quit (quits bo) (quits_may bo first_quit_sound)

line_parts_may : AllMayBe rooms (line_after (line ++ line_crosses)) line_parts
unfolding links_without first_quit both_quit
line_parts_may = (
  bc,
  (
    quit_may,
    (
      quits_may ally (crossed_sound c_net),
      (
        quits_may bo first_quit_sound,
        (
          takes_may ally zed (crossed_sound a_net) refl refl refl,
          (
            zed_may,
            (
              sets_may topic (codes "west")
                  (edited_sound names ((line_after (line ++ line_crosses)).doc b_net)
                  (quits ann) quit_may),
              (
                sets_may key (codes "y") (edited_sound names both_quit (signs_on zed) zed_may),
                (inl (inl (refl, refl)), (inl (inr (refl, refl)), (inl (inr (refl, refl)), tt))),
              ),
            ),
          ),
        ),
      ),
    ),
  ),
)
  where
    zed_may : MayBeMade names both_quit (signs_on zed)
    zed_may = signs_on_may zed both_quit_sound refl refl

line_apart_may : AllMayBe rooms line_start line_apart
unfolding links_without
line_apart_may = by (and_then line_start (line ++ line_crosses) line_parts line_crosses_may
    line_parts_may)
  where
    by : AllMayBe rooms line_start ((line ++ line_crosses) ++ line_parts)
        → AllMayBe rooms line_start line_apart
    by may = may

line_again_may : AllMayBe rooms line_start (line_apart ++ again)
unfolding links_without part
line_again_may = and_then line_start line_apart again line_apart_may (
  record {
    apart = differ c_net a_net refl;
    near_makes = documents_are_told names ((line_after line_apart).doc c_net)
        (line_sound line_apart line_apart_may c_net);
    far_makes = documents_are_told names ((line_after line_apart).doc b_net)
        (line_sound line_apart line_apart_may b_net);
  },
  (
    inl (inr (refl, refl)),
    (
      inl (inl (refl, refl)),
      (
        inl (inr (refl, refl)),
        (inl (inl (refl, refl)), (ba, (ba, tt))),
      ),
    ),
  ),
)

pub three_rest_alike : ThreeRestAlike
unfolding links_without
three_rest_alike = record {
  may = line_again_may;
  told_users = refl;
  told_members = refl;
  told_topics = refl;
  told_keys = refl;
  told_waiting = refl;
  users = refl;
  members = refl;
  topics = refl;
  nothing_waits = refl;
  apart_users = refl;
  apart_members = refl;
  apart_topics = refl;
  apart_keys = refl;
  apart_waiting = refl;
  again_users = refl;
  again_members = refl;
  again_topics = refl;
  again_keys = refl;
  again_waiting = refl;
}

pub wrong_ones_differ : WrongOnesDiffer
wrong_ones_differ = record {
  topics = refl;
  topics_as_they_came = refl;
  no_topics = refl;
  members = refl;
  kicked_as_they_came = refl;
  users = refl;
  renamed_as_they_came = refl;
  topics_kept = refl;
  joined_as_they_came = refl;
}
