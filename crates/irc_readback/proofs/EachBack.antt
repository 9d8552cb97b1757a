-- The lines of introductions and of changes of modes are read as the messages that they were
-- written from, and so each effect is read back.
use Rattle.std.proofs.Common.{◌≡◌, ◌≢◌, ℕ, ◌≤◌, Bool, true, false, None, List, [], ◌∷◌, codes}
use Rattle.std.proofs.Common.{count_by, decimal, length, is_some, if◌then◌else◌, subst, refl, sym}
use Rattle.std.proofs.Common.{ap, ◌∙◌, arith, append-nil, lit≤, Ok}
use Rattle.std.specs.Cmp.{first_so}
use Rattle.std.specs.List.{filter_map, AllByRecursion}
use Rattle.irc_line.specs.Messages.{IsPlain, IsPlainWord}
use Rattle.irc_users.specs.declared.user.User.{User}
use Rattle.irc_modes.specs.declared.modes.ModeChange.{ModeChange}
use Rattle.irc_modes.specs.ModeWritten.{changes_written}
use Rattle.irc_modes.specs.Readable.{AreReadable, is_worded}
use Rattle.irc_room.specs.effect.By.TheVariants as by
use Rattle.irc_room.specs.effect.Effect.TheVariants.{AddUser}
use Rattle.irc_room.specs.effect.Effect.TheVariants.{ChangeModes}
use Rattle.irc_room.specs.Laws.{NamesAreLineWords}
use Rattle.irc_room.specs.Room.{Room}
use Rattle.irc_room.specs.Seen.{changes_words, stored_channel, stored_nick}
use Rattle.irc_routes.specs.Known.{Known}
use Rattle.irc_readback.specs.EachReadBack.{EachIsReadBack}
use Rattle.irc_readback.specs.Introductions.{IntroducedIsRead, IsIntroduced}
use Rattle.irc_readback.specs.ModesTaken.{WrittenChangesAreRead}
use Rattle.irc_link_words.specs.Numbers.{is_number}
use Rattle.irc_readback.specs.ReadBack.{IsReadable, IsReadBack, WrittenIsReadBack, is_user_far}
use Rattle.irc_link_reader.specs.Reader.{Reader, reader_of}
use Rattle.irc_readback.specs.WholeLines.{IsToldUser, ToldFitsItsLine}
use Rattle.irc_link_words.specs.Words.{no_mode, with_i}
use Rattle.irc_link_writer.specs.Written.{from, introduction, next_distance, wire, written_token}
use Rattle.irc_readback.specs.Lemmas.CarriedParts.{told_is_carried}
use Rattle.irc_readback.proofs.EffectsRead.{far_may_come}
use Rattle.irc_readback.specs.Lemmas.LinesReadBack.{IsKnownBelow, carried_no_nul, command_plain}
use Rattle.irc_readback.specs.Lemmas.LinesReadBack.{from_plain, read_again}
use Rattle.irc_readback.specs.Lemmas.ModesRead.{words_written}
use Rattle.irc_readback.specs.Lemmas.ModeWords.{digits_plain, worded_counted, words_plain}
use Rattle.irc_readback.specs.Lemmas.NumberText.{number_digits, number_taken}
use Rattle.irc_readback.specs.Lemmas.StoredNames.{channel_kept, channel_there, nick_kept}

-- what is known in the crates below, and of what this crate writes
pub record IsKnown : Type 0 where
  pub lines : IsKnownBelow
  pub fits : ToldFitsItsLine
  pub others : WrittenIsReadBack
  pub introduced : IntroducedIsRead
  pub changes : WrittenChangesAreRead

-- ---- an introduction

some_digits : (digits : List ℕ) → is_number digits ≡ true → digits ≢ []
unfolding is_number
some_digits [] is = cc is
some_digits (digit ∷ digits) is = λ e. cc e

number_plain : (n : ℕ) → 1 ≤ n → n ≤ 4294967295 → IsPlainWord (decimal n)
number_plain n least most =
    let is = number_taken n least most in
    digits_plain (decimal n) (number_digits n most) (some_digits (decimal n) is)

mode_plain : (invisible : Bool) → IsPlainWord (if invisible then with_i else no_mode)
mode_plain true = command_plain _ _ refl refl refl
mode_plain false = command_plain _ _ refl refl refl

next_some : (known : Known) (home : List ℕ) → 1 ≤ next_distance known home
next_some known home = omega arith

introduction_plain : NamesAreLineWords → (known : Known) (reader : Reader) (user : User)
    → IsIntroduced known reader user → IsPlain (introduction known user)
introduction_plain names known reader user is = record {
  prefix_no_space = refl;
  prefix_no_nul = refl;
  command = command_plain _ _ refl refl refl;
  middle = (
    (names.nick user.nick is.within.nick).plain,
    (
      number_plain (next_distance known user.home) (next_some known user.home) is.distance_most,
      (
        (names.user user.user is.within.name is.within.name_some).plain,
        (
          (names.host user.host is.within.host).plain,
          (
            number_plain (written_token known user.home) is.number_some is.number_most,
            (mode_plain user.invisible, tt),
          ),
        ),
      ),
    ),
  );
  last_no_nul = carried_no_nul user.real is.within.real_carried;
  count = lit≤ tt;
}

user_back : IsKnown → (room : Room) (known : Known) (other : Room) (others : Known) (link : ℕ)
    (user : User) → IsReadable room known (reader_of other others link) (AddUser user)
    → IsIntroduced known (reader_of other others link) user
    → IsReadBack room known other others link (AddUser user)
user_back below room known other others link user is agrees =
    let reader = reader_of other others link in
    let told : IsToldUser known user = record {
      within = agrees.within;
      number = agrees.number_most;
      distance = agrees.distance_most;
    } in
    record {
      is_line = below.lines.as_line (introduction known user)
          (told_is_carried below.lines.names room known (AddUser user) is.room_within told);
      line =
          read_again below.lines (introduction known user)
          (introduction_plain below.lines.names known reader user agrees)
          (below.fits room known (AddUser user) is.room_within told);
      meaning = below.introduced known reader user agrees
          ∙ ap (λ (u : User). Ok (AddUser u ∷ [])) is.sendable.whole;
    }

-- ---- changes of modes

modes_plain : NamesAreLineWords → (name channel : List ℕ) (changes : List ModeChange)
    → IsPlainWord name → IsPlainWord channel → AreReadable changes
    → AllByRecursion IsPlainWord (changes_written changes)
    → IsPlain (from name (codes "MODE") (channel ∷ changes_written changes) None)
modes_plain names name channel changes name_plain channel_plain readable words =
    from_plain name (codes "MODE") (channel ∷ changes_written changes) None name_plain
    (command_plain _ _ refl refl refl) (channel_plain, words) refl
    (subst (λ (ws : List (List ℕ)). length ws ≤ 15)
    (sym (append-nil (channel ∷ changes_written changes)))
    (count (filter_map (λ (c : ModeChange). c.word) changes) (worded_counted changes)))
  where
    count : (words : List (List ℕ)) → length words ≡ count_by is_worded changes
        → length (channel ∷ channel ∷ words) ≤ 15
    count words same =
        let few : count_by is_worded changes ≤ 3 = readable.few in omega (arith, same, few)

line_as : (name nick there channel : List ℕ) (others words : List (List ℕ)) → name ≡ nick
    → there ≡ channel → others ≡ words → from name (codes "MODE") (there ∷ others) None
    ≡ from nick (codes "MODE") (channel ∷ words) None
line_as name nick there channel others words one two three =
    ap (λ n. from n (codes "MODE") (there ∷ others) None) one
    ∙ ap (λ c. from nick (codes "MODE") (c ∷ others) None) two
    ∙ ap (λ ws. from nick (codes "MODE") (channel ∷ ws) None) three

modes_back : IsKnown → (room : Room) (known : Known) (other : Room) (others : Known)
    (link : ℕ) (nick channel : List ℕ) (changes : List ModeChange) → IsReadable room known
    (reader_of other others link) (ChangeModes (by.User nick) channel changes)
    → IsReadBack room known other others link (ChangeModes (by.User nick) channel changes)
modes_back below room known other others link nick channel changes is =
    let reader = reader_of other others link in
    let sent = is.sendable in
    let doer = nick_kept room nick is.room_within sent.by_stored in
    let name =
    channel_kept room channel is.room_within (channel_there room channel sent.channel_stored) in
    let parts = line_as (stored_nick room nick) nick (stored_channel room channel) channel
    (changes_words room changes) (changes_written changes)
    doer.as_is name.as_is
    (words_written room changes sent.words_sent) in
    let far = subst (λ n. is_user_far reader n ≡ true) doer.as_is is.doer_far in
    record {
      is_line =
          below.lines.as_line (wire room known (ChangeModes (by.User nick) channel changes))
          (told_is_carried below.lines.names room known
          (ChangeModes (by.User nick) channel changes) is.room_within sent);
      line =
          read_again below.lines (wire room known (ChangeModes (by.User nick) channel changes))
          (subst IsPlain (sym parts)
          (modes_plain below.lines.names nick channel changes (below.lines.names.nick nick
          doer.kept).plain (below.lines.names.channel channel name.kept).plain
          sent.changes_readable
          (words_plain below.lines.names room changes sent.changes_readable sent.words_sent)))
          (below.fits room known (ChangeModes (by.User nick) channel changes) is.room_within sent);
      meaning =
          below.changes room known reader nick channel changes
          (record {
            sent = sent;
            nick_named = doer.kept;
            channel_named = name.kept;
            known_there = first_so (is_some (reader.home nick)) _ is.users_known;
            comes_so = far_may_come reader nick doer.kept far;
          });
    }

-- ---- each effect

pub each_is_read_back : IsKnown → EachIsReadBack
each_is_read_back below room known other others link (AddUser user) is agrees =
    user_back below room known other others link user is agrees
each_is_read_back below room known other others link
    (ChangeModes (by.User nick) channel changes) is agrees =
    modes_back below room known other others link nick channel changes is
each_is_read_back below room known other others link
    (ChangeModes by.Home channel changes) is agrees = absurd is.sendable
each_is_read_back below room known other others link effect is agrees =
    below.others room known other others link effect tt is
