-- An update and a nickname for another, and two of these: it plays no part which is first.
use Rattle.std.proofs.Common.{◌≡◌, Bool, true, false, ◌||◌, Option, Some, None, List}
use Rattle.std.proofs.Common.{refl, sym, ap, ◌∙◌, is_some, option_map}
use Rattle.std.proofs.Math.Bool.{false≢true}
use Rattle.irc_names.specs.TableLaws.{same_fold, one_fold}
use Rattle.irc_edited_rooms.specs.Writes.{Row, Writes, no_writes, written}
use Rattle.irc_edited_rooms.specs.Writes.{writes_behind}
use Rattle.irc_edited_rooms.specs.Fates.{Fate, stays, goes, comes, untouched, is_going, is_coming}
use Rattle.irc_edited_rooms.specs.Fates.{after_fate, user_behind}
use Rattle.irc_edited_rooms.specs.Documents.{Nick, ChannelName, Document, Update}
use Rattle.irc_edited_rooms.specs.Documents.{lives, pick, row_while}
use Rattle.irc_edited_rooms.specs.Documents.{swapped, updated, renamed, edited, written_at, IsSound}
use Rattle.irc_edited_rooms.specs.Crossing.{IsFitting, MayBeRenamed, both_going, going_if}
use Rattle.irc_edited_rooms.specs.Crossing.{lives_by, nothing, rename_left}
use Rattle.irc_edited_rooms.specs.Crossing.{update_followed}
use Rattle.irc_edited_rooms.specs.Lemmas.FatesMeet.{writes_meet, none_goes, none_stays}
use Rattle.irc_edited_rooms.specs.Lemmas.FatesMeet.{untouched_stays}
use Rattle.irc_edited_rooms.specs.Lemmas.Living.{swapped_live, twice_while}
use Rattle.irc_edited_rooms.specs.Lemmas.Living.{blank_while, more_live}

module _ {Place : Type 0} where
  -- nobody is a member under a nickname that is free
  pub nobody_at : (names : List Nick) (room : Document Place) → IsSound names room
      → (name : ChannelName) (nick : Nick) → room.user nick ≡ None → room.member name nick ≡ None
  nobody_at names room sound name nick free = by (room.member name nick) refl
    where
      by : (member : Option (Row Place)) → room.member name nick ≡ member → member ≡ None
      by None is = refl
      by (Some row) is = absurd (false≢true (sym (ap is_some free)
          ∙ sound.known name nick (ap is_some is)))

  -- ---- a user and a member at one nickname, of an update and a rename

  two_stay : (v w : Writes Place) (row : Option (Row Place))
      → after_fate (user_behind true (stays v) (stays w)) (option_map (written w) row)
      ≡ option_map (written (writes_behind w v)) (after_fate (stays v) row)
  two_stay v w None = refl
  two_stay v w (Some row) = ap Some (writes_meet v w row)

  -- what an update does at the two nicknames
  at_new : (fate : Nick → Fate Place) (rows : Nick → Option (Row Place)) (new nick : Nick)
      → rows new ≡ None → is_coming (fate new) ≡ false → nick ≡ new
      → after_fate (fate nick) (rows nick) ≡ None
  at_new fate rows new nick free other is =
      ap (λ it. after_fate (fate it) (rows it)) is ∙ ap (after_fate (fate new)) free
      ∙ none_stays (fate new) other

  at_old : (fate : Nick → Fate Place) (rows : Nick → Option (Row Place)) (old nick : Nick)
      → is_going (fate old) ≡ true → nick ≡ old → after_fate (fate nick) (rows nick) ≡ None
  at_old fate rows old nick going is =
      ap (λ it. after_fate (fate it) (rows it)) is ∙ none_goes (fate old) (rows old) going

  -- who was to come to the new nickname goes, and so does who has it
  met_at : (fate : Nick → Fate Place) (rows : Nick → Option (Row Place)) (old new nick : Nick)
      (v : Writes Place) → rows new ≡ None → (b c : Bool)
      → after_fate (pick b c goes untouched (fate nick))
      (written_at b v (rows (pick b c old new nick)))
      ≡ after_fate (going_if (c || b)) (after_fate (fate nick) (rows nick))
  met_at fate rows old new nick v free true true = refl
  met_at fate rows old new nick v free true false = refl
  met_at fate rows old new nick v free false true = untouched_stays (rows new) ∙ free
  met_at fate rows old new nick v free false false =
      sym (untouched_stays (after_fate (fate nick) (rows nick)))

  -- the user goes, and so does what was to be written for the rename
  going_behind : (theirs : Fate Place) (v : Writes Place) → is_going theirs ≡ true
      → is_going (user_behind true theirs (stays v)) ≡ true
  going_behind (stays w) v going = absurd (false≢true going)
  going_behind goes v going = refl
  going_behind (comes w) v going = absurd (false≢true going)

  gone_at : (at_once : Fate Place) (fate : Nick → Fate Place) (rows : Nick → Option (Row Place))
      (old new nick : Nick) (v : Writes Place) → rows new ≡ None → is_going at_once ≡ true
      → is_going (fate old) ≡ true → is_coming (fate new) ≡ false → (b c : Bool)
      → (b ≡ true → nick ≡ new) → (c ≡ true → nick ≡ old)
      → after_fate (pick b c at_once untouched (fate nick))
      (written_at b v (rows (pick b c old new nick)))
      ≡ after_fate untouched (after_fate (fate nick) (rows nick))
  gone_at at_once fate rows old new nick v free gone going other true c is_new is_old =
      none_goes at_once (option_map (written v) (rows old)) gone
      ∙ sym (untouched_stays (after_fate (fate nick) (rows nick))
      ∙ at_new fate rows new nick free other (is_new refl))
  gone_at at_once fate rows old new nick v free gone going other false true is_new is_old =
      untouched_stays (rows new) ∙ free
      ∙ sym (untouched_stays (after_fate (fate nick) (rows nick))
      ∙ at_old fate rows old nick going (is_old refl))
  gone_at at_once fate rows old new nick v free gone going other false false is_new is_old =
      sym (untouched_stays (after_fate (fate nick) (rows nick)))

  -- the user stays, and is renamed
  kept_at : (fate : Nick → Fate Place) (rows : Nick → Option (Row Place)) (old new nick : Nick)
      (v w : Writes Place) → rows new ≡ None → is_coming (fate new) ≡ false → fate old ≡ stays w
      → (b c : Bool)
      → after_fate (pick b c (user_behind true (fate old) (stays v)) untouched (fate nick))
      (written_at b v (rows (pick b c old new nick)))
      ≡ written_at b (writes_behind v w)
      (after_fate (fate (pick b c old new nick)) (rows (pick b c old new nick)))
  kept_at fate rows old new nick v w free other is true c =
      ap (λ it. after_fate (user_behind true it (stays v)) (option_map (written v) (rows old))) is
      ∙ two_stay w v (rows old)
      ∙ ap (λ it. option_map (written (writes_behind v w)) (after_fate it (rows old))) (sym is)
  kept_at fate rows old new nick v w free other is false true =
      untouched_stays (rows new) ∙ free
      ∙ sym (ap (after_fate (fate new)) free ∙ none_stays (fate new) other)
  kept_at fate rows old new nick v w free other is false false = refl

  -- and stays a member
  member_kept_at : (fate : Nick → Fate Place) (rows : Nick → Option (Row Place))
      (old new nick : Nick) → rows new ≡ None → is_coming (fate new) ≡ false → (b c : Bool)
      → after_fate (pick b c (fate old) untouched (fate nick)) (rows (pick b c old new nick))
      ≡ after_fate (fate (pick b c old new nick)) (rows (pick b c old new nick))
  member_kept_at fate rows old new nick free other true c = refl
  member_kept_at fate rows old new nick free other false true =
      untouched_stays (rows new) ∙ free
      ∙ sym (ap (after_fate (fate new)) free ∙ none_stays (fate new) other)
  member_kept_at fate rows old new nick free other false false = refl

  -- ---- one channel: a rename leaves it as it is, and with fewer members it is blank the sooner

  pub unnamed : (b : Bool) (row : Option (Row Place)) → written_at b no_writes row ≡ row
  unnamed true None = refl
  unnamed true (Some row) = refl
  unnamed false row = refl

  pub still : (names : List Nick) (room : Document Place) (old new : Nick)
      → MayBeRenamed names room old new → (name : ChannelName)
      → row_while (lives names (λ nick. room.member name (swapped old new nick)))
      (room.channel name) ≡ room.channel name
  still names room old new may name =
      ap (λ there. row_while there (room.channel name))
      (swapped_live names (room.member name) old new (may.sound.named old may.there) may.named)
      ∙ blank_while (lives names (room.member name)) (room.channel name) (may.sound.blank name)

  fewer_goes : (b : Bool) (row : Option (Row Place)) → is_some (after_fate (going_if b) row) ≡ true
      → is_some row ≡ true
  fewer_goes true row there = absurd (false≢true there)
  fewer_goes false row there = ap is_some (sym (untouched_stays row)) ∙ there

  -- ---- an update and a rename

  module _ (names : List Nick) (room : Document Place) (theirs : Update Place) (old new : Nick)
      (v : Writes Place) (their_may : IsFitting names room theirs)
      (our_may : MayBeRenamed names room old new) where
    abbrev once : Document Place
    once = renamed names room old new v

    abbrev behind : Bool → Document Place
    behind is_met = updated names once (update_followed is_met theirs old new v)

    abbrev other_way : Document Place
    other_way = updated names room theirs

    none_joins : (name : ChannelName) → is_coming (theirs.member name new) ≡ false
    none_joins name = by (is_coming (theirs.member name new)) refl
      where
        by : (b : Bool) → is_coming (theirs.member name new) ≡ b → b ≡ false
        by true is = absurd (false≢true (sym (ap is_some our_may.free)
            ∙ (their_may.joiners name new is).0))
        by false is = refl

    free_member : (name : ChannelName) → room.member name new ≡ None
    free_member name = nobody_at names room our_may.sound name new our_may.free

    -- the row of a channel, where it is alike who is there
    one_row : (is_met : Bool) (name : ChannelName) (few : Bool)
        → lives names ((behind is_met).member name) ≡ few
        → (few ≡ true → lives_by names room theirs name ≡ true)
        → (behind is_met).channel name ≡ row_while few (other_way.channel name)
    one_row is_met name few alike then =
        ap (λ there. row_while there (written (theirs.set name) (once.channel name))) alike
        ∙ ap (λ row. row_while few (written (theirs.set name) row))
        (still names room old new our_may name)
        ∙ sym (twice_while few (lives_by names room theirs name)
        (written (theirs.set name) (room.channel name)) then)

    met_member : (name : ChannelName) (nick : Nick)
        → (behind true).member name nick
        ≡ (updated names other_way (both_going old new)).member name nick
    met_member name nick =
        ap (after_fate (pick (same_fold nick new) (same_fold nick old) goes untouched
        (theirs.member name nick)))
        (sym (unnamed (same_fold nick new) (room.member name (swapped old new nick))))
        ∙ met_at (theirs.member name) (room.member name) old new nick no_writes
        (free_member name) (same_fold nick new) (same_fold nick old)

    met : behind true ≡ updated names other_way (both_going old new)
    met i = record {
      user = λ nick. met_at theirs.user room.user old new nick v our_may.free
          (same_fold nick new) (same_fold nick old) i;
      member = λ name nick. met_member name nick i;
      channel = λ name. one_row true name
          (lives names ((updated names other_way (both_going old new)).member name))
          (λ j. lives names (λ nick. met_member name nick j))
          (more_live names ((updated names other_way (both_going old new)).member name)
          (other_way.member name) (λ nick. fewer_goes
          (same_fold nick old || same_fold nick new) (other_way.member name nick))) i;
    }

    gone_member : is_going (theirs.user old) ≡ true → (name : ChannelName) (nick : Nick)
        → (behind false).member name nick ≡ (updated names other_way nothing).member name nick
    gone_member going name nick =
        ap (after_fate (pick (same_fold nick new) (same_fold nick old) (theirs.member name old)
        untouched (theirs.member name nick)))
        (sym (unnamed (same_fold nick new) (room.member name (swapped old new nick))))
        ∙ gone_at (theirs.member name old) (theirs.member name) (room.member name) old new nick
        no_writes (free_member name) (their_may.leavers name old going)
        (their_may.leavers name old going) (none_joins name) (same_fold nick new)
        (same_fold nick old) (one_fold nick new) (one_fold nick old)

    gone : is_coming (theirs.user new) ≡ false → is_going (theirs.user old) ≡ true
        → behind false ≡ updated names other_way nothing
    gone other going i = record {
      user = λ nick. gone_at (user_behind true (theirs.user old) (stays v)) theirs.user room.user
          old new nick v our_may.free (going_behind (theirs.user old) v going) going other
          (same_fold nick new) (same_fold nick old) (one_fold nick new) (one_fold nick old) i;
      member = λ name nick. gone_member going name nick i;
      channel = λ name. one_row false name
          (lives names ((updated names other_way nothing).member name))
          (λ j. lives names (λ nick. gone_member going name nick j))
          (more_live names ((updated names other_way nothing).member name)
          (other_way.member name)
          (λ nick. fewer_goes false (other_way.member name nick))) i;
    }

    kept_member : (w : Writes Place) (name : ChannelName) (nick : Nick)
        → (behind false).member name nick
        ≡ (renamed names other_way old new (writes_behind v w)).member name nick
    kept_member w name nick = member_kept_at (theirs.member name) (room.member name) old new nick
        (free_member name) (none_joins name) (same_fold nick new) (same_fold nick old)

    kept : is_coming (theirs.user new) ≡ false → (w : Writes Place) → theirs.user old ≡ stays w
        → behind false ≡ renamed names other_way old new (writes_behind v w)
    kept other w is i = record {
      user = λ nick. kept_at theirs.user room.user old new nick v w our_may.free other is
          (same_fold nick new) (same_fold nick old) i;
      member = λ name nick. kept_member w name nick i;
      channel = λ name. one_row false name
          (lives names (λ nick. other_way.member name (swapped old new nick)))
          (λ j. lives names (λ nick. kept_member w name nick j))
          (λ there. sym (swapped_live names (other_way.member name) old new
          (our_may.sound.named old our_may.there) our_may.named) ∙ there) i;
    }

    pub update_meets : (is_met : Bool) → is_coming (theirs.user new) ≡ is_met
        → (fate : Fate Place) → theirs.user old ≡ fate
        → behind is_met ≡ edited names other_way (rename_left is_met old new v fate)
    update_meets true is fate at = met
    update_meets false is (stays w) at = kept is w at
    update_meets false is goes at = gone is (ap is_going at)
    update_meets false is (comes w) at =
        absurd (false≢true (sym (ap is_some (their_may.newcomers old (ap is_coming at)).0)
        ∙ our_may.there))
