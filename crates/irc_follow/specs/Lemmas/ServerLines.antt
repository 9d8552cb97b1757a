-- Lines of a server about a channel (NJOIN, MODE and TOPIC): each is one plain message, none of
-- which is cut; and a server that has their writer behind the link by which they come reads them as
-- a line of a burst is read. Only the reader's room and routes are asked for.
use Rattle.std.proofs.Common.{◌≡◌, ◌≢◌, ℕ, suc, ◌+◌, ◌*◌, ◌≤◌, Bool, true, false, ◌&&◌, ◌||◌}
use Rattle.std.proofs.Common.{is_some, Option, Some, None, Result, Ok, List, [], ◌∷◌, ◌++◌, codes}
use Rattle.std.proofs.Common.{count_by, length, lit≤, append-nil, arith, nat_le, filter_map, map}
use Rattle.std.proofs.Common.{refl, sym, ◌∙◌, ap, subst, option_map, if◌then◌else◌}
use Rattle.std.proofs.lemmas.Bool.{and_from, le-leb, or_right}
use Rattle.std.proofs.lemmas.Bool.Decides.{nat_tests}
use Rattle.std.specs.Cmp.{first_so, second_so}
use Rattle.std.specs.FinMap.{keys}
use Rattle.std.specs.List.{list_all, list_any, AllByRecursion}
use Rattle.std.specs.Option.{option_map_or}
use Rattle.irc_line.specs.Bytes.{has_nul}
use Rattle.irc_line.specs.Laws.{WrittenIsRead, IsReadSoAlone}
use Rattle.irc_line.specs.Messages.{IsPlain, Parsed, Written, joined_text, line_text, message_of}
use Rattle.irc_line.specs.Messages.{named, prefix_of, prefix_text}
use Rattle.irc_line.specs.Reading.{read_of}
use Rattle.irc_line.specs.Lemmas.Lengths.{length-joined_text, length-named, words_size}
use Rattle.irc_names.specs.Lemmas.RuleFacts.{channel-fits, server-fits}
use Rattle.irc_names.specs.Fold.{key}
use Rattle.irc_names.specs.Limits.{max_words}
use Rattle.irc_names.specs.Names.{IsChannel, IsServer, is_channel, is_nick, is_server}
use Rattle.irc_names.specs.Tables.{row}
use Rattle.irc_users.specs.declared.user.User.{User}
use Rattle.irc_channels.specs.declared.channel.Channel.{Channel}
use Rattle.irc_channels.specs.declared.flags.Flags.{Flags}
use Rattle.irc_batch.specs.declared.close_reason.CloseReason.{CloseReason}
use Rattle.irc_modes.specs.declared.modes.ModeChange.{ModeChange}
use Rattle.irc_modes.specs.ModeWritten.{changes_written, letters_text}
use Rattle.irc_modes.specs.Readable.{AreReadable, has_its_word, is_worded}
use Rattle.irc_modes.specs.Lemmas.WrittenRead.{written_is_read}
use Rattle.irc_room.specs.effect.By.{By}
use Rattle.irc_room.specs.effect.By.TheVariants as by
use Rattle.irc_room.specs.effect.Effect.{Effect}
use Rattle.irc_room.specs.effect.Effect.TheVariants.{ChangeModes, SetTopic}
use Rattle.irc_room.specs.Laws.{IsWhole, NamesAreLineWords}
use Rattle.irc_room.specs.Limits.{IsCarriedText}
use Rattle.irc_room.specs.Readers.{home_under}
use Rattle.irc_room.specs.Room.{Room}
use Rattle.irc_room.specs.Seen.{names_member}
use Rattle.irc_room.specs.Sendable.{IsSentChange}
use Rattle.irc_merge.specs.BurstRead.{brought, new_members, read_deed, some_far}
use Rattle.irc_merge.specs.Bursts.{home_passes, members_a_line}
use Rattle.irc_merge.specs.Deeds.{Deed, brings, sets, tops}
use Rattle.irc_routes.specs.Known.{Known}
use Rattle.irc_burst.specs.DeedsMeant.{Told, a_deed, as_stored, collided, deeds_meant, effects_told}
use Rattle.irc_burst.specs.DeedsMeant.{first_reason, members_of, of_server}
use Rattle.irc_burst.specs.GoingOn.{line_from}
use Rattle.irc_burst.specs.HandshakeMeant.{handshake_meant}
use Rattle.irc_burst_lines.specs.DeedLines.{members_text, mode_parts, njoin_parts, topic_parts}
use Rattle.irc_burst_lines.specs.Lemmas.WholeLines.{members_fit}
use Rattle.irc_link_reader.specs.Means.{Checked, first_fault, if_there, of_either, user_mode_line}
use Rattle.irc_link_reader.specs.Reader.{Reader, is_behind_link, may_come, reader_of}
use Rattle.irc_link_words.specs.Words.{are_changes, are_members_named, are_words, changes_of}
use Rattle.irc_link_words.specs.Words.{is_mode_word, names_nick}
use Rattle.irc_stage.specs.View.{End, View}
use Rattle.irc_server.specs.Heard.{heard, of_met, opened}
use Rattle.irc_readback.specs.Lemmas.LinesReadBack.{carried_no_nul, command_plain, from_plain}
use Rattle.irc_readback.specs.Lemmas.ModesRead.{changes_again, changes_taken, nick_so}
use Rattle.irc_modes.specs.Lemmas.FewChanges.{letters_few}
use Rattle.irc_readback.specs.Lemmas.ModeWords.{mode_words, worded_counted, words_plain}
use Rattle.irc_readback.specs.Lemmas.NameKinds.{channel-for_channel}
use Rattle.irc_follow.specs.Lemmas.MemberLines.{AreNicks, all_nicks, members_back, members_no_nul}

-- what a message is heard as by a link whose other end has named itself
pub met_heard : (view : View) (link : ℕ) (end : End) (line : List ℕ) (message : Parsed)
    → read_of line ≡ Ok message → is_some end.far ≡ true
    → heard view link end (read_of line) ≡ of_met (deeds_meant view.room view.routes link message)
unfolding heard
met_heard view link end line message is met =
    ap (heard view link end) is
    ∙ ap (λ b. if b then of_met (deeds_meant view.room view.routes link message)
    else opened view end
    (handshake_meant (is_some end.password) view.room view.routes link message)) met

pub line_heard : WrittenIsRead → IsReadSoAlone → (view : View) (link : ℕ) (end : End)
    (parts : Written) → IsPlain parts → IsWhole parts → is_some end.far ≡ true → heard view link end
    (read_of (line_text parts)) ≡ of_met (deeds_meant view.room view.routes link (message_of parts))
line_heard written alone view link end parts plain whole =
    met_heard view link end (line_text parts) (message_of parts)
    (sym (alone (line_text parts) (Ok (message_of parts)) (written parts plain whole)))

-- all that is looked at in a line of a server is so
pub all_so : (parameters direction names : Bool) (deeds : List Deed) → parameters ≡ true
    → direction ≡ true → names ≡ true → first_reason (record {
      parameters = parameters;
      token = true;
      direction = direction;
      names = names;
      late = None;
      told = map a_deed deeds;
    })
    ≡ Ok (map a_deed deeds)
all_so false direction names deeds parameters_so direction_so names_so = cc parameters_so
all_so true false names deeds parameters_so direction_so names_so = cc direction_so
all_so true true false deeds parameters_so direction_so names_so = cc names_so
all_so true true true deeds parameters_so direction_so names_so = refl

-- and in a line of an effect
all_checked : (parameters direction names : Bool) (effects : List Effect) → parameters ≡ true
    → direction ≡ true → names ≡ true → first_fault (record {
      parameters = parameters;
      token = true;
      direction = direction;
      names = names;
      effects = effects;
    }) ≡ Ok effects
all_checked false direction names effects parameters_so direction_so names_so = cc parameters_so
all_checked true false names effects parameters_so direction_so names_so = cc direction_so
all_checked true true false effects parameters_so direction_so names_so = cc names_so
all_checked true true true effects parameters_so direction_so names_so = refl

-- ---- changes of modes

members_named : (changes : List ModeChange) → list_all has_its_word changes ≡ true
    → are_members_named changes ≡ true
members_named [] all = refl
members_named (c ∷ changes) all =
    and_from (names_nick c) _
    (nick_so (names_member c.letter) (has_its_word c) (first_so (has_its_word c) _ all))
    (members_named changes (second_so (has_its_word c) _ all))

mode_word_short : (word : List ℕ) → is_mode_word word ≡ true → length word ≤ 90
mode_word_short word is = grind (arith, nat_tests)

more_size : (word rest count : ℕ) → word ≤ 90 → rest ≤ 91 * count → 1 + word + rest ≤ 91 * suc count
more_size word rest count word_fits rest_fits = omega arith

words_short : (words : List (List ℕ)) → list_all is_mode_word words ≡ true
    → words_size words ≤ 91 * length words
words_short [] so = omega arith
words_short (word ∷ words) so =
    more_size (length word) (words_size words) (length words)
    (mode_word_short word (first_so (is_mode_word word) _ so))
    (words_short words (second_so (is_mode_word word) _ so))

modes_size : (all prefix server channel letters words count : ℕ)
    → all ≡ prefix + (4 + (1 + channel + (1 + letters + words) + 0)) → prefix ≡ server + 2
    → server ≤ 63 → channel ≤ 50 → letters ≤ 22 → words ≤ 91 * count → count ≤ 3 → all ≤ 510
modes_size all prefix server channel letters words count all_is prefix_is server_fits channel_fits
    letters_fit words_fit few = omega arith

topic_size : (all prefix server channel topic : ℕ)
    → all ≡ prefix + (5 + (1 + channel + 0 + (2 + topic))) → prefix ≡ server + 2 → server ≤ 63
    → channel ≤ 50 → topic ≤ 160 → all ≤ 510
topic_size all prefix server channel topic all_is prefix_is server_fits channel_fits topic_fits =
    omega arith

-- ---- the lines are plain, and fit

module _ (names : NamesAreLineWords) (server : List ℕ) (named_so : IsServer server) where
  pub topic_plain : (channel topic : List ℕ) → IsChannel channel → IsCarriedText topic
      → IsPlain (topic_parts server channel topic)
  topic_plain channel topic channel_so carried = from_plain server (codes "TOPIC") (channel ∷ [])
      (Some topic) (names.server server named_so).plain
      (command_plain _ _ refl refl refl) ((names.channel channel channel_so).plain, tt)
      (carried_no_nul topic carried.carried) (lit≤ tt)

  pub topic_whole : (channel topic : List ℕ) → IsChannel channel → IsCarriedText topic
      → IsWhole (topic_parts server channel topic)
  topic_whole channel topic channel_so carried =
      let parts = topic_parts server channel topic in
      topic_size (length (joined_text parts)) (length (prefix_text (prefix_of (named server))))
      (length server) (length channel) (length topic)
      (length-joined_text parts) (length-named server) (server-fits server named_so)
      (channel-fits channel channel_so) carried.fits

  pub modes_plain : (channel : List ℕ) (changes : List ModeChange) (room : Room)
      → IsChannel channel → AreReadable changes → AllByRecursion (IsSentChange room) changes
      → IsPlain (mode_parts server channel changes)
  modes_plain channel changes room channel_so readable sent =
      from_plain server (codes "MODE") (channel ∷ changes_written changes) None
      (names.server server named_so).plain (command_plain _ _ refl refl refl)
      ((names.channel channel channel_so).plain, words_plain names room changes readable sent) refl
      (subst (λ (ws : List (List ℕ)). length ws ≤ 15)
      (sym (append-nil (channel ∷ changes_written changes)))
      (count (filter_map (λ (c : ModeChange). c.word) changes) (worded_counted changes)))
    where
      count : (more : List (List ℕ)) → length more ≡ count_by is_worded changes
          → length (channel ∷ channel ∷ more) ≤ 15
      count more same = let few : count_by is_worded changes ≤ 3 = readable.few in
          omega (arith, same, few)

  pub modes_whole : (channel : List ℕ) (changes : List ModeChange) → IsChannel channel
      → AreReadable changes → IsWhole (mode_parts server channel changes)
  modes_whole channel changes channel_so readable =
      let parts = mode_parts server channel changes in
      let parameters = filter_map (λ (c : ModeChange). c.word) changes in
      modes_size (length (joined_text parts)) (length (prefix_text (prefix_of (named server))))
      (length server) (length channel) (length (letters_text changes))
      (words_size parameters) (length parameters) (length-joined_text parts) (length-named server)
      (server-fits server named_so)
      (channel-fits channel channel_so)
      (letters_few changes readable)
      (words_short parameters (second_so (is_mode_word (letters_text changes))
      (list_all is_mode_word parameters) (mode_words names changes readable)))
      (subst (λ n. n ≤ 3) (sym (worded_counted changes)) readable.few)

  no_nuls : (members : List (List ℕ × Flags)) → AreNicks members
      → AllByRecursion (λ (member : List ℕ × Flags). has_nul member.0 ≡ false) members
  no_nuls [] all = tt
  no_nuls (member ∷ members) all = ((names.nick member.0 all.0).plain.no_nul, no_nuls members all.1)

  pub members_plain : (channel : List ℕ) (members : List (List ℕ × Flags)) → IsChannel channel
      → AreNicks members → IsPlain (njoin_parts server channel members)
  members_plain channel members channel_so nicks =
      from_plain server (codes "NJOIN") (channel ∷ []) (Some (members_text members))
      (names.server server named_so).plain (command_plain _ _ refl refl refl)
      ((names.channel channel channel_so).plain, tt)
      (members_no_nul members (no_nuls members nicks)) (lit≤ tt)

  pub members_whole : (channel : List ℕ) (members : List (List ℕ × Flags))
      → IsChannel channel → AreNicks members → length members ≤ members_a_line
      → IsWhole (njoin_parts server channel members)
  members_whole channel members channel_so nicks few =
      members_fit server channel members named_so channel_so (all_nicks members nicks) few

-- ---- they are read as lines of a burst

pub brought_some : (server channel : List ℕ) (members : List (List ℕ × Flags)) → members ≢ []
    → brought server channel members ≡ brings server channel members ∷ []
brought_some server channel [] some = absurd (some refl)
brought_some server channel (member ∷ members) some = refl

module _ (names : NamesAreLineWords) (room : Room) (routes : Known) (link : ℕ) (server : List ℕ)
    (named_so : IsServer server)
    (behind : is_behind_link routes link server ≡ true) where
  abbrev far : List ℕ → Bool
  far = is_behind_link routes link

  abbrev reader : Reader
  reader = reader_of room routes link

  comes : may_come reader server ≡ true
  comes =
      ap (λ b. if b then far server else (if is_nick server
      then option_map_or far (reader.home server) true else true)) named_so
      ∙ behind

  -- a channel with a member behind the link
  passed : (o : Option User) → option_map_or far (option_map (λ (user : User). user.home) o) false
      ≡ option_map_or (λ (user : User). far user.home) o false
  passed None = refl
  passed (Some user) = refl

  members_far : (folds : List (List ℕ)) → list_any (λ fold. option_map_or far
      (home_under room fold) false) folds ≡ list_any (home_passes far room.users) folds
  members_far [] = refl
  members_far (fold ∷ folds) = λ i. passed (row room.users fold) i || members_far folds i

  far_channel : (channel : List ℕ) → reader.has_far channel ≡ some_far far room channel
  far_channel channel = by (row room.channels (key channel))
    where
      by : (o : Option Channel) → option_map_or (λ (c : Channel). list_any
          (λ fold. option_map_or far (home_under room fold) false) (keys c.members)) o false
          ≡ option_map_or
          (λ (c : Channel). list_any (home_passes far room.users) (keys c.members)) o false
      by None = refl
      by (Some c) = members_far (keys c.members)

  -- what is read of a change of a channel
  either_read : (parameters spelled : Bool) (channel : List ℕ) (effect : By → Effect) (deed : Deed)
      → parameters ≡ true → spelled ≡ true → collided routes.name room (Some server)
      (effect by.Home) ≡ deed ∷ [] → effects_told routes.name room (Some server)
      (first_fault (of_either reader server parameters spelled channel effect))
      ≡ Ok (map a_deed (if some_far far room channel then deed ∷ [] else []))
  either_read parameters spelled channel effect deed parameters_so spelled_so is =
      ap (effects_told routes.name room (Some server))
      (all_checked parameters (may_come reader server)
      ((is_nick server || is_server server) && spelled) _ parameters_so comes
      (and_from (is_nick server || is_server server) spelled
      (or_right (is_nick server) (is_server server) named_so) spelled_so)
      ∙ ap Ok
      (ap (λ b. if b then (if reader.has_far channel then effect by.Home ∷ [] else [])
      else if_there reader (effect (by.User server))) named_so
      ∙ ap (λ b. if b then effect by.Home ∷ [] else []) (far_channel channel)))
      ∙ told_so (some_far far room channel)
    where
      told_so : (b : Bool)
          → effects_told routes.name room (Some server) (Ok (if b then effect by.Home ∷ [] else []))
          ≡ Ok (map a_deed (if b then deed ∷ [] else []))
      told_so true =
          ap (λ b. Ok (map a_deed (collided routes.name room (if b then Some server else None)
          (effect by.Home) ++ []))) named_so
          ∙ ap (λ (deeds : List Deed). Ok (map a_deed (deeds ++ []))) is
      told_so false = refl

  pub topic_read : (own channel topic : List ℕ) → IsChannel channel → IsCarriedText topic
      → deeds_meant room routes link (message_of (topic_parts server channel topic))
      ≡ Ok
      (map a_deed (read_deed own (is_behind_link routes link) room (tops server channel topic)))
  unfolding deeds_meant
  topic_read own channel topic channel_so carried = either_read (are_words topic)
      (is_channel channel) channel (λ doer. SetTopic doer channel topic)
      (tops server channel topic) (le-leb (length topic) max_words carried.fits) channel_so refl

  pub modes_read : (own channel : List ℕ) (changes : List ModeChange)
      → IsChannel channel → AreReadable changes
      → deeds_meant room routes link (message_of (mode_parts server channel changes))
      ≡ Ok (map a_deed
      (read_deed own (is_behind_link routes link) room (sets server channel changes)))
  unfolding deeds_meant
  modes_read own channel changes channel_so readable =
      let words = changes_written changes in
      let reads : List (List ℕ) → Result (List Told) CloseReason =
      λ ws. deeds_meant room routes link (line_from (codes "MODE") server (channel ∷ ws)) in
      let doing : List ModeChange → By → Effect = λ cs doer. ChangeModes doer channel cs in
      let changing : List ModeChange → Checked =
      λ cs. of_either reader server (are_changes words)
      (is_channel channel && are_members_named cs) channel (doing cs) in
      ap reads (append-nil words)
      ∙ ap (λ b. effects_told routes.name room (Some server)
      (first_fault (if b then changing (changes_of words) else user_mode_line reader server channel
      words))) (channel-for_channel channel channel_so)
      ∙ ap (λ cs. effects_told routes.name room (Some server) (first_fault (changing cs)))
      (changes_again written_is_read changes readable)
      ∙ either_read (are_changes words) (is_channel channel && are_members_named changes) channel
      (doing changes) (sets server channel changes)
      (changes_taken written_is_read names changes readable)
      (and_from (is_channel channel) (are_members_named changes) channel_so
      (members_named changes readable.worded)) refl

  pub members_read : (channel : List ℕ) (members : List (List ℕ × Flags))
      → IsChannel channel → members ≢ [] → AreNicks members → length members ≤ members_a_line
      → deeds_meant room routes link (message_of (njoin_parts server channel members))
      ≡ Ok (map a_deed (brought server channel (map (as_stored room)
      (new_members (is_behind_link routes link) room channel members))))
  unfolding deeds_meant
  members_read channel members channel_so some nicks few =
      let deeds : List (List ℕ × Flags) → List Deed = λ more.
      brought server channel (map (as_stored room) (new_members far room channel more)) in
      ap (λ more. first_reason (of_server reader server (nat_le (length more) members_a_line) true
      (is_channel channel && list_all (λ (member : List ℕ × Flags). is_nick member.0) more)
      (deeds more))) (read_as members some nicks)
      ∙ all_so (nat_le (length members) members_a_line) (may_come reader server && true)
      (is_server server && (is_channel channel
      && list_all (λ (member : List ℕ × Flags). is_nick member.0) members)) (deeds members)
      (le-leb (length members) members_a_line few)
      (and_from (may_come reader server) true comes refl)
      (and_from (is_server server) _ named_so
      (and_from (is_channel channel) _ channel_so (all_nicks members nicks)))
    where
      -- a line of some members is read as them
      read_as : (more : List (List ℕ × Flags)) → more ≢ [] → AreNicks more
          → members_of (members_text more) ≡ more
      read_as [] some all = absurd (some refl)
      read_as (member ∷ more) some all = members_back member more all
