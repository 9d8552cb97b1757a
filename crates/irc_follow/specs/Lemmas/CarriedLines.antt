-- A line can carry each word of the lines by which a server tells of what servers do: names keep
-- their rules, numbers are digits, and texts were looked at before.
use Rattle.std.proofs.Common.{◌≡◌, ℕ, ◌≤◌, Bool, true, false, not, ◌&&◌, ◌||◌, ◌++◌, Some, None}
use Rattle.std.proofs.Common.{List, [], ◌∷◌, codes, decimal, refl, ◌∙◌, ap, nat_eq}
use Rattle.std.specs.Cmp.{first_so, second_so}
use Rattle.std.specs.List.{list_all, AllByRecursion}
use Rattle.std.proofs.lemmas.Bool.{and_from}
use Rattle.std.proofs.lemmas.List.Folds.{list_all-append}
use Rattle.irc_line.specs.Carried.{is_carried, is_carried_byte, AreCarriedParts, IsCarried}
use Rattle.irc_names.specs.Names.{IsChannel, IsNick, IsServer}
use Rattle.irc_channels.specs.declared.flags.Flags.{Flags}
use Rattle.irc_modes.specs.declared.modes.ModeChange.{ModeChange}
use Rattle.irc_modes.specs.ModeWritten.{changes_written}
use Rattle.irc_room.specs.Laws.{NamesAreLineWords}
use Rattle.irc_room.specs.Limits.{IsCarriedText, IsWithinLimits}
use Rattle.irc_room.specs.Room.{Room}
use Rattle.irc_room.specs.Sendable.{IsSentChange}
use Rattle.irc_routes.specs.Info.{IsInfo, is_text_byte}
use Rattle.irc_routes.specs.Known.{Known}
use Rattle.irc_burst_lines.specs.DeedLines.{kill_parts, members_text, mode_parts, more_text}
use Rattle.irc_burst_lines.specs.DeedLines.{member_text, njoin_parts, server_parts, squit_parts}
use Rattle.irc_burst_lines.specs.DeedLines.{topic_parts}
use Rattle.irc_link_words.specs.Numbers.{max_number}
use Rattle.irc_link_writer.specs.Written.{next_distance, written_token}
use Rattle.irc_readback.specs.Lemmas.CarriedParts.{from_carried, number_carried, parameters_carried}
use Rattle.irc_readback.specs.Lemmas.ModeWords.{letters_carried}
use Rattle.irc_follow.specs.Lemmas.MemberLines.{AreNicks}

both_carried : (xs ys : List ℕ) → IsCarried xs → IsCarried ys → IsCarried (xs ++ ys)
both_carried xs ys first second =
    list_all-append is_carried_byte xs ys ∙ ap (λ b. b && is_carried ys) first ∙ second

-- ---- members

member_carried : (op voice : Bool) (nick : List ℕ) → IsCarried nick
    → IsCarried (member_text (nick, record { op = op; voice = voice }))
member_carried true true nick carried = carried
member_carried true false nick carried = carried
member_carried false true nick carried = carried
member_carried false false nick carried = carried

-- ---- what a server says of itself

text_byte : (byte : ℕ) → is_text_byte byte ≡ true → is_carried_byte byte ≡ true
text_byte byte is = by (nat_eq byte 0) (nat_eq byte 13) (nat_eq byte 10) is
  where
    by : (nul return feed : Bool) → not (nul || (return || (feed || false))) ≡ true
        → not (nul || (return || feed)) ≡ true
    by true return feed is = is
    by false true feed is = is
    by false false true is = is
    by false false false is = refl

text_carried : (bytes : List ℕ) → list_all is_text_byte bytes ≡ true → IsCarried bytes
text_carried [] all = refl
text_carried (byte ∷ bytes) all =
    and_from (is_carried_byte byte) _ (text_byte byte (first_so (is_text_byte byte) _ all))
    (text_carried bytes (second_so (is_text_byte byte) _ all))

pub info_carried : (info : List ℕ) → IsInfo info → IsCarried info
info_carried info is = text_carried info (first_so (list_all is_text_byte info) _ is)

-- ---- lines

module _ (names : NamesAreLineWords) where
  more_carried : (members : List (List ℕ × Flags)) → AreNicks members
      → IsCarried (more_text members)
  more_carried [] all = refl
  more_carried (member ∷ members) all =
      both_carried (codes "," ++ member_text member) (more_text members)
      (member_carried member.1.op member.1.voice member.0 (names.nick member.0 all.0).carried)
      (more_carried members all.1)

  all_members_carried : (members : List (List ℕ × Flags)) → AreNicks members
      → IsCarried (members_text members)
  all_members_carried [] all = refl
  all_members_carried (member ∷ members) all =
      both_carried (member_text member) (more_text members)
      (member_carried member.1.op member.1.voice member.0 (names.nick member.0 all.0).carried)
      (more_carried members all.1)

  module _ (server : List ℕ) (named : IsServer server) where
    server_word : IsCarried server
    server_word = (names.server server named).carried

    pub squit_carried : (name text : List ℕ) → IsServer name → IsCarriedText text
        → AreCarriedParts (squit_parts server name text)
    squit_carried name text name_named carried =
        from_carried server (codes "SQUIT") (name ∷ []) (Some text) server_word refl (λ e. cc e)
        ((names.server name name_named).carried, tt) carried.carried

    pub kill_carried : (nick : List ℕ) → IsNick nick → AreCarriedParts (kill_parts server nick)
    kill_carried nick nick_named =
        from_carried server (codes "KILL") (nick ∷ [])
        (Some (codes "Nick collision")) server_word refl (λ e. cc e)
        ((names.nick nick nick_named).carried, tt) refl

    pub topic_carried : (channel topic : List ℕ) → IsChannel channel → IsCarriedText topic
        → AreCarriedParts (topic_parts server channel topic)
    topic_carried channel topic channel_so carried =
        from_carried server (codes "TOPIC") (channel ∷ []) (Some topic) server_word refl (λ e. cc e)
        ((names.channel channel channel_so).carried, tt)
        carried.carried

    pub modes_carried : (room : Room) → IsWithinLimits room → (channel : List ℕ)
        (changes : List ModeChange) → IsChannel channel → AllByRecursion (IsSentChange room) changes
        → AreCarriedParts (mode_parts server channel changes)
    modes_carried room within channel changes channel_so sent =
        from_carried server (codes "MODE") (channel ∷ changes_written changes) None server_word refl
        (λ e. cc e) (
          (names.channel channel channel_so).carried,
          (letters_carried changes, parameters_carried names room within changes sent),
        ) refl

    pub members_carried : (channel : List ℕ) (members : List (List ℕ × Flags)) → IsChannel channel
        → AreNicks members → AreCarriedParts (njoin_parts server channel members)
    members_carried channel members channel_so nicks =
        from_carried server (codes "NJOIN") (channel ∷ [])
        (Some (members_text members)) server_word refl (λ e. cc e)
        ((names.channel channel channel_so).carried, tt) (all_members_carried members nicks)

    pub server_carried : (known : Known) (name info : List ℕ) → IsServer name → IsInfo info
        → next_distance known name ≤ max_number → written_token known name ≤ max_number
        → AreCarriedParts (server_parts known server name info)
    server_carried known name info name_named described distance token =
        from_carried server (codes "SERVER") (name ∷ decimal (next_distance known name) ∷ decimal
        (written_token known name) ∷ []) (Some info) server_word refl
        (λ e. cc e) (
          (names.server name name_named).carried,
          (
            number_carried (next_distance known name)
                distance,
            (number_carried (written_token known name) token, tt),
          ),
        )
        (info_carried info described)
