-- Each word that is written of an effect is bytes that a line can carry: names keep their rules,
-- numbers are digits, and texts were looked at before.
use Rattle.std.proofs.Common.{◌≡◌, ℕ, Bool, true, false, if◌then◌else◌, Option, Some, None}
use Rattle.std.proofs.Common.{unwrap_or, List, [], ◌∷◌, codes, decimal, sym, subst, ◌∙◌, ap, refl}
use Rattle.std.specs.List.{filter_map, cons_option, AllByRecursion}
use Rattle.std.specs.Option.{IfSome}
use Rattle.std.specs.Prelude.{◌≤◌, ◌&&◌}
use Rattle.std.proofs.lemmas.List.Folds.{list_all-append}
use Rattle.irc_line.specs.Carried.{is_carried, is_carried_byte, AreCarriedParts, IsCarried}
use Rattle.irc_users.specs.declared.user.User.{User}
use Rattle.irc_users.specs.declared.user_change.UserChange.{UserChange}
use Rattle.irc_modes.specs.declared.modes.ModeChange.{ModeChange}
use Rattle.irc_room.specs.effect.By.TheVariants as by
use Rattle.irc_room.specs.effect.Effect.{Effect}
use Rattle.irc_room.specs.effect.Effect.TheVariants.{AddUser, Rename, Quit, Join, Part, Kick}
use Rattle.irc_room.specs.effect.Effect.TheVariants.{ChangeModes, SetTopic, Say, Invite, ChangeUser}
use Rattle.irc_room.specs.effect.Target.{Target}
use Rattle.irc_room.specs.effect.Target.TheVariants as target
use Rattle.irc_room.specs.Laws.{NamesAreLineWords}
use Rattle.irc_room.specs.Limits.{IsChangeWithin, IsWithinLimits}
use Rattle.irc_room.specs.Room.{Room}
use Rattle.irc_room.specs.Seen.{changes_words, names_member, stored_channel, stored_nick}
use Rattle.irc_room.specs.Seen.{target_name}
use Rattle.irc_room.specs.Sendable.{IsChannelOrNew, IsSendable, IsSentChange, IsSentTarget}
use Rattle.irc_room.specs.Sendable.{IsSentWord, IsStoredNick}
use Rattle.irc_routes.specs.Known.{Known}
use Rattle.irc_readback.specs.ReadBack.{IsPlainEffect}
use Rattle.irc_readback.specs.WholeLines.{IsTellable, IsToldUser, ToldIsCarried}
use Rattle.irc_link_words.specs.Lemmas.UserChangesRead.{are_change_words}
use Rattle.irc_link_words.specs.UserChanges.{change_letters, change_text}
use Rattle.irc_link_words.specs.Words.{marked, no_mode, op_mark, with_i}
use Rattle.irc_link_writer.specs.Written.{from, introduction, next_distance, wire, wire_change}
use Rattle.irc_link_writer.specs.Written.{written_token}
use Rattle.irc_readback.specs.Lemmas.ModeWords.{digits_carried, letters_carried}
use Rattle.irc_readback.specs.Lemmas.ModesRead.{words_written}
use Rattle.irc_readback.specs.Lemmas.NumberText.{number_digits}
use Rattle.irc_readback.specs.Lemmas.StoredNames.{channel_kept, channel_there, nick_kept}

pub from_carried : (name command : List ℕ) (middle : List (List ℕ)) (last : Option (List ℕ))
    → IsCarried name → IsCarried command → (command ≡ [] → ⊥) → AllByRecursion IsCarried middle
    → IsCarried (unwrap_or last []) → AreCarriedParts (from name command middle last)
from_carried name command middle last named commanded some words text =
    record { sender = named; command = commanded; command_some = some; middle = words; last = text }

marked_carried : (channel : List ℕ) (op : Bool) → IsCarried channel → IsCarried (marked channel op)
marked_carried channel false carried = carried
marked_carried channel true carried =
    list_all-append is_carried_byte channel op_mark ∙ ap (λ b. b && is_carried op_mark) carried

pub number_carried : (n : ℕ) → n ≤ 4294967295 → IsCarried (decimal n)
number_carried n most = digits_carried (decimal n) (number_digits n most)

-- ---- names as they are written

module _ (names : NamesAreLineWords) (room : Room) (within : IsWithinLimits room) where
  nick_word : (nick : List ℕ) → IsStoredNick room nick → IsCarried (stored_nick room nick)
  nick_word nick is =
      let known = nick_kept room nick within is in
      subst IsCarried (sym known.as_is) (names.nick nick known.kept).carried

  channel_word : (name : List ℕ) → IsChannelOrNew room name → IsCarried (stored_channel room name)
  channel_word name is =
      let known = channel_kept room name within is in
      subst IsCarried (sym known.as_is) (names.channel name known.kept).carried

  target_carried : (to : Target) → IsSentTarget room to → IsCarried (target_name room to)
  target_carried (target.User nick) is = nick_word nick is
  target_carried (target.Channel channel) is = channel_word channel (channel_there room channel is)

  -- ---- words of changes

  sent_carried : (nick : Bool) (word : List ℕ) → IsSentWord room nick word → IsCarried word
  sent_carried true word is = (names.nick word (nick_kept room word within is).kept).carried
  sent_carried false word is = is

  one_carried : (nick : Bool) (word : Option (List ℕ)) (rest : List (List ℕ))
      → IfSome word (IsSentWord room nick) → AllByRecursion IsCarried rest
      → AllByRecursion IsCarried (cons_option word rest)
  one_carried nick None rest sent all = all
  one_carried nick (Some word) rest sent all = (sent_carried nick word sent, all)

  pub parameters_carried : (changes : List ModeChange) → AllByRecursion (IsSentChange room) changes
      → AllByRecursion IsCarried (filter_map (λ (c : ModeChange). c.word) changes)
  parameters_carried [] sent = tt
  parameters_carried (change ∷ changes) sent =
      one_carried (names_member change.letter) change.word (filter_map
      (λ (c : ModeChange). c.word) changes) sent.0 (parameters_carried changes sent.1)

  words_carried : (changes : List ModeChange) → AllByRecursion (IsSentChange room) changes
      → AllByRecursion IsCarried (changes_words room changes)
  words_carried changes sent =
      subst (AllByRecursion IsCarried) (sym (words_written room changes sent))
      (letters_carried changes, parameters_carried changes sent)

  -- ---- a user who comes

  mode_carried : (invisible : Bool) → IsCarried (if invisible then with_i else no_mode)
  mode_carried true = refl
  mode_carried false = refl

  user_carried : (known : Known) (user : User) → IsToldUser known user
      → AreCarriedParts (introduction known user)
  user_carried known user told = record {
    sender = refl;
    command = refl;
    command_some = λ e. cc e;
    middle = (
      (names.nick user.nick told.within.nick).carried,
      (
        number_carried (next_distance known user.home) told.distance,
        (
          (names.user user.user told.within.name told.within.name_some).carried,
          (
            (names.host user.host told.within.host).carried,
            (
              number_carried (written_token known user.home) told.number,
              (mode_carried user.invisible, tt),
            ),
          ),
        ),
      ),
    );
    last = told.within.real_carried;
  }

  -- ---- each effect

  say_carried : (notice : Bool) → IsCarried (if notice then codes "NOTICE" else codes "PRIVMSG")
  say_carried true = refl
  say_carried false = refl

  say_some : (notice : Bool) → (if notice then codes "NOTICE" else codes "PRIVMSG") ≡ [] → ⊥
  say_some true e = cc e
  say_some false e = cc e

  change_carried : (nick : List ℕ) (change : UserChange) → IsCarried nick → IsChangeWithin change
      → AreCarriedParts (wire_change nick change)
  change_carried nick change named keeps =
      let words = are_change_words change keeps in
      from_carried nick (codes "MODE") (nick ∷ change_letters change ∷ []) (change_text change)
      named refl (λ e. cc e) (named, (words.letters_carried, tt)) words.text_carried

  pub told_carried : (known : Known) (effect : Effect) → IsTellable room known effect
      → AreCarriedParts (wire room known effect)
  told_carried known (AddUser user) told = user_carried known user told
  told_carried known (Rename nick new) told =
      from_carried (stored_nick room nick) (codes "NICK") (new ∷ []) None
      (nick_word nick told.nick_stored) refl (λ e. cc e)
      ((names.nick new told.new_named).carried, tt) refl
  told_carried known (Quit nick text) told =
      from_carried (stored_nick room nick) (codes "QUIT") [] (Some text)
      (nick_word nick told.nick_stored) refl (λ e. cc e) tt told.text_within.carried
  told_carried known (Join nick channel op) told =
      from_carried (stored_nick room nick) (codes "JOIN") (marked (stored_channel room channel) op
      ∷ []) None (nick_word nick told.nick_stored) refl (λ e. cc e) (
        marked_carried (stored_channel room channel) op (channel_word channel told.channel_named),
        tt,
      ) refl
  told_carried known (Part nick channel text) told =
      from_carried (stored_nick room nick) (codes "PART") (stored_channel room channel ∷ [])
      (Some text) (nick_word nick told.nick_stored) refl (λ e. cc e) (
        channel_word channel (channel_there room channel told.channel_stored),
        tt,
      ) told.text_within.carried
  told_carried known (Kick by channel nick text) told =
      from_carried (stored_nick room by) (codes "KICK") (stored_channel room channel
      ∷ stored_nick room nick ∷ []) (Some text) (nick_word by told.by_stored)
      refl (λ e. cc e) (
        channel_word channel (channel_there room channel told.channel_stored),
        (nick_word nick told.nick_stored, tt),
      ) told.text_within.carried
  told_carried known (ChangeModes by.Home channel changes) told =
      from_carried known.name (codes "MODE") (stored_channel room channel
      ∷ changes_words room changes) None (names.server known.name told.named).carried refl
      (λ e. cc e) (
        channel_word channel (channel_there room channel told.channel_stored),
        words_carried changes told.words_sent,
      ) refl
  told_carried known (ChangeModes (by.User nick) channel changes) told =
      from_carried (stored_nick room nick) (codes "MODE") (stored_channel room channel
      ∷ changes_words room changes) None (nick_word nick told.by_stored) refl
      (λ e. cc e) (
        channel_word channel (channel_there room channel told.channel_stored),
        words_carried changes told.words_sent,
      ) refl
  told_carried known (SetTopic by.Home channel topic) told =
      from_carried known.name (codes "TOPIC") (stored_channel room channel ∷ []) (Some topic)
      (names.server known.name told.named).carried refl (λ e. cc e) (
        channel_word channel (channel_there room channel told.channel_stored),
        tt,
      ) told.topic_within.carried
  told_carried known (SetTopic (by.User nick) channel topic) told =
      from_carried (stored_nick room nick) (codes "TOPIC") (stored_channel room channel ∷ [])
      (Some topic) (nick_word nick told.by_stored) refl (λ e. cc e) (
        channel_word channel (channel_there room channel told.channel_stored),
        tt,
      ) told.text_within.carried
  told_carried known (Say by notice to text) told =
      from_carried (stored_nick room by) (if notice then codes "NOTICE" else codes "PRIVMSG")
      (target_name room to ∷ []) (Some (text.items))
      (nick_word by told.by_stored) (say_carried notice) (say_some notice)
      (target_carried to told.target_stored, tt) told.text_carried
  told_carried known (Invite by nick channel) told =
      from_carried (stored_nick room by) (codes "INVITE") (stored_nick room nick
      ∷ stored_channel room channel ∷ []) None (nick_word by told.by_stored) refl
      (λ e. cc e) (
        nick_word nick told.nick_stored,
        (channel_word channel told.channel_named, tt),
      ) refl
  told_carried known (ChangeUser nick change) told =
      change_carried (stored_nick room nick) change (nick_word nick told.nick_stored) told.keeps

pub told_is_carried : NamesAreLineWords → ToldIsCarried
told_is_carried names room known effect within told =
    told_carried names room within known effect told

-- what can be sent, but for a user who comes and for changes of modes, can be told
pub plain_tellable : (room : Room) (known : Known) (effect : Effect) → IsPlainEffect effect
    → IsSendable room effect → IsTellable room known effect
plain_tellable room known (AddUser user) plain sent = absurd plain
plain_tellable room known (ChangeModes by channel changes) plain sent = absurd plain
plain_tellable room known (SetTopic by.Home channel text) plain sent = absurd sent
plain_tellable room known other plain sent = sent
