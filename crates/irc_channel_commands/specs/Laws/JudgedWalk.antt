-- What is so of each change that may be made is so of each change that is made: one walk over what
-- comes of a letter.
use Rattle.std.proofs.Common.{◌≡◌, ℕ, Bool, true, false, not, ◌&&◌, cond, is_some, nat_eq, nat_le}
use Rattle.std.proofs.Common.{find, length, Option, Some, None, List, refl}
use Rattle.std.specs.Prelude.{⊤}
use Rattle.std.specs.Option.{option_map_or}
use Rattle.irc_names.specs.Fold.{key, same}
use Rattle.irc_names.specs.Names.{is_key, is_ban_mask}
use Rattle.irc_names.specs.Tables.{Table, row}
use Rattle.irc_users.specs.declared.user.User.{User}
use Rattle.irc_channels.specs.declared.channel.Channel.{Channel}
use Rattle.irc_channels.specs.declared.flags.Flags.{Flags}
use Rattle.irc_modes.specs.declared.modes.ModeChange.{ModeChange}
use Rattle.irc_modes.specs.declared.modes.ModeLetter.{ModeLetter}
use Rattle.irc_modes.specs.declared.modes.ModeLetter.TheVariants as letter
use Rattle.irc_names.specs.Digits.{number_of}
use Rattle.irc_modes.specs.Modes.{is_limit, mask_in}
use Rattle.irc_modes.specs.Limits.{max_bans}
use Rattle.irc_numerics.specs.declared.replies.Reply.TheVariants.{KeySet, BanListFull}
use Rattle.irc_acts.specs.ByTest.{by_test}
use Rattle.irc_channel_commands.specs.declared.verdict.Verdict.{Verdict}
use Rattle.irc_channel_commands.specs.declared.verdict.Verdict.TheVariants.{Says, Keeps, Nothing}
use Rattle.irc_channel_commands.specs.Judging.{change_made, kept_if, turns_private, turns_secret}
use Rattle.irc_channel_commands.specs.Judging.{key_judged, without_zeros, limit_judged, ban_judged}
use Rattle.irc_channel_commands.specs.Judging.{mask_judged, flag_of, flag_judged, member_judged}
use Rattle.irc_channel_commands.specs.Judging.{word_judged, judge, differs}

abbrev pub IsSo : (ModeChange → Type 0) → Verdict → Type 0
IsSo Q (Keeps change) = Q change
IsSo Q other = ⊤

-- a change as it was asked for, with its sign and its letter
pub record IsAskedFor (Q : ModeChange → Type 0) (plus : Bool) (which : ModeLetter)
    (change : ModeChange) : Type 0 where
  pub so : Q change
  pub plus_is : change.plus ≡ plus
  pub letter_is : change.letter ≡ which

-- the changes that may be made of a channel, each with what is known then; a ban is set as the word
-- was given
pub record IsSoMade (Q : ModeChange → Type 0) (users : Table User) (now : Channel)
    (given : Option (List ℕ)) : Type 0 where
  pub invite_only : (plus : Bool) → differs plus now.modes.invite_only ≡ true
      → Q (change_made plus letter.InviteOnly None)
  pub moderated : (plus : Bool) → differs plus now.modes.moderated ≡ true
      → Q (change_made plus letter.Moderated None)
  pub no_outside : (plus : Bool) → differs plus now.modes.no_outside ≡ true
      → Q (change_made plus letter.NoOutside None)
  pub topic_locked : (plus : Bool) → differs plus now.modes.topic_locked ≡ true
      → Q (change_made plus letter.TopicLocked None)
  pub private : (plus : Bool) → turns_private plus now.modes.privacy ≡ true
      → Q (change_made plus letter.Private None)
  pub secret : (plus : Bool) → turns_secret plus now.modes.privacy ≡ true
      → Q (change_made plus letter.Secret None)
  pub key_set : (word : List ℕ) → is_key word ≡ true → now.modes.key ≡ None
      → Q (change_made true letter.Key (Some word))
  pub key_cleared : (word : List ℕ) → now.modes.key ≡ Some word
      → Q (change_made false letter.Key (Some word))
  pub limit_set : (word : List ℕ) → is_limit word ≡ true
      → option_map_or (nat_eq (number_of word)) now.modes.limit false ≡ false
      → Q (change_made true letter.Limit (Some (without_zeros word)))
  pub limit_cleared : is_some now.modes.limit ≡ true → Q (change_made false letter.Limit None)
  pub ban_set : (mask : List ℕ) → given ≡ Some mask → is_ban_mask mask ≡ true
      → find (same mask) now.modes.bans ≡ None → Q (change_made true letter.Ban (Some mask))
  pub ban_taken : (mask there : List ℕ) → is_ban_mask mask ≡ true
      → find (same mask) now.modes.bans ≡ Some there
      → Q (change_made false letter.Ban (Some there))
  pub operator : (plus : Bool) (word : List ℕ) (user : User) (flags : Flags)
      → row users (key word) ≡ Some user → row now.members (key word) ≡ Some flags
      → differs plus flags.op ≡ true → Q (change_made plus letter.Operator (Some (user.nick)))
  pub voice : (plus : Bool) (word : List ℕ) (user : User) (flags : Flags)
      → row users (key word) ≡ Some user → row now.members (key word) ≡ Some flags
      → differs plus flags.voice ≡ true → Q (change_made plus letter.Voice (Some (user.nick)))

as_asked : (Q : ModeChange → Type 0) (plus : Bool) (which : ModeLetter) (word : Option (List ℕ))
    → Q (change_made plus which word) → IsAskedFor Q plus which (change_made plus which word)
as_asked Q plus which word so = record { so = so; plus_is = refl; letter_is = refl }

if_so : (Q : ModeChange → Type 0) (plus : Bool) (which : ModeLetter) (word : Option (List ℕ))
    (test : Bool)
    → (test ≡ true → Q (change_made plus which word))
    → IsSo (IsAskedFor Q plus which) (kept_if test (change_made plus which word))
if_so Q plus which word true so = as_asked Q plus which word (so refl)
if_so Q plus which word false so = tt

-- what is so of a key that is set, of one that is taken away, and of limits alike
key_so : (Q : ModeChange → Type 0) (name : List ℕ) (plus : Bool) (word before : Option (List ℕ))
    → ((given : List ℕ) → is_key given ≡ true → before ≡ None
    → Q (change_made true letter.Key (Some given)))
    → ((given : List ℕ) → before ≡ Some given → Q (change_made false letter.Key (Some given)))
    → IsSo (IsAskedFor Q plus letter.Key) (key_judged name plus word before)
key_so Q name true None before set cleared = tt
key_so Q name true (Some given) (Some there) set cleared =
    by_test (IsSo (IsAskedFor Q true letter.Key)) (not (is_key given)) Nothing (Says (KeySet name))
    (λ none. tt) (λ some. tt)
key_so Q name true (Some given) None set cleared = by (is_key given) refl
  where
    by : (test : Bool) → is_key given ≡ test
        → IsSo (IsAskedFor Q true letter.Key)
        (cond (not test) Nothing (Keeps (change_made true letter.Key (Some given))))
    by true is = as_asked Q true letter.Key (Some given) (set given is refl)
    by false is = tt
key_so Q name false word None set cleared = tt
key_so Q name false word (Some there) set cleared =
    as_asked Q false letter.Key (Some there) (cleared there refl)

limit_so : (Q : ModeChange → Type 0) (plus : Bool) (word : Option (List ℕ)) (before : Option ℕ)
    → ((given : List ℕ) → is_limit given ≡ true
    → option_map_or (nat_eq (number_of given)) before false ≡ false
    → Q (change_made true letter.Limit (Some (without_zeros given))))
    → (is_some before ≡ true → Q (change_made false letter.Limit None))
    → IsSo (IsAskedFor Q plus letter.Limit) (limit_judged plus word before)
limit_so Q true None before set cleared = tt
limit_so Q true (Some given) before set cleared =
    by (is_limit given) (option_map_or (nat_eq (number_of given)) before false) refl refl
  where
    by : (fits alike : Bool) → is_limit given ≡ fits → option_map_or
        (nat_eq (number_of given)) before false ≡ alike → IsSo (IsAskedFor Q true letter.Limit)
        (kept_if (fits && not alike) (change_made true letter.Limit (Some (without_zeros given))))
    by true false is other =
        as_asked Q true letter.Limit (Some (without_zeros given)) (set given is other)
    by true true is other = tt
    by false alike is other = tt
limit_so Q false word before set cleared = if_so Q false letter.Limit None (is_some before) cleared

ban_so : (Q : ModeChange → Type 0) (name : List ℕ) (plus : Bool)
    (mask : List ℕ) (there : Option (List ℕ)) (count : ℕ)
    → (there ≡ None → Q (change_made true letter.Ban (Some mask)))
    → ((stored : List ℕ) → there ≡ Some stored → Q (change_made false letter.Ban (Some stored)))
    → IsSo (IsAskedFor Q plus letter.Ban) (ban_judged name plus mask there count)
ban_so Q name true mask (Some stored) count set taken = tt
ban_so Q name true mask None count set taken =
    by_test (IsSo (IsAskedFor Q true letter.Ban)) (nat_le max_bans count) (Says (BanListFull name))
    (Keeps (change_made true letter.Ban (Some mask))) (λ full. tt)
    (λ room. as_asked Q true letter.Ban (Some mask) (set refl))
ban_so Q name false mask (Some stored) count set taken =
    as_asked Q false letter.Ban (Some stored) (taken stored refl)
ban_so Q name false mask None count set taken = tt

mask_so : (Q : ModeChange → Type 0) (users : Table User) (now : Channel)
    (plus : Bool) (word : Option (List ℕ)) → IsSoMade Q users now word
    → IsSo (IsAskedFor Q plus letter.Ban) (mask_judged now.name plus (mask_in word) now.modes.bans)
mask_so Q users now plus None so = tt
mask_so Q users now plus (Some word) so = by (is_ban_mask word) refl
  where
    by : (test : Bool) → is_ban_mask word ≡ test
        → IsSo (IsAskedFor Q plus letter.Ban)
        (mask_judged now.name plus (cond test (Some word) None) now.modes.bans)
    by true is =
        ban_so Q now.name plus word (find (same word) now.modes.bans) (length now.modes.bans)
        (λ none. so.ban_set word refl is none)
        (λ stored there. so.ban_taken word stored is there)
    by false is = tt

-- o and v alike
flag_so : (Q : ModeChange → Type 0) (users : Table User) (now : Channel) (plus : Bool)
    (which : ModeLetter) → ((word : List ℕ) (user : User) (flags : Flags) → row users (key word)
    ≡ Some user → row now.members (key word) ≡ Some flags → differs plus (flag_of which flags)
    ≡ true → Q (change_made plus which (Some (user.nick)))) → (word : Option (List ℕ))
    → IsSo (IsAskedFor Q plus which) (word_judged users now plus which word)
flag_so Q users now plus which so None = tt
flag_so Q users now plus which so (Some word) = by_user (row users (key word)) refl
  where
    by_flags : (user : User) → row users (key word) ≡ Some user
        → (found : Option Flags) → row now.members (key word) ≡ found
        → IsSo (IsAskedFor Q plus which) (flag_judged now.name user.nick plus which found)
    by_flags user is None at = tt
    by_flags user is (Some flags) at = if_so Q plus which (Some (user.nick))
        (differs plus (flag_of which flags)) (so word user flags is at)

    by_user : (found : Option User) → row users (key word) ≡ found
        → IsSo (IsAskedFor Q plus which) (member_judged now.members now.name plus which word found)
    by_user None is = tt
    by_user (Some user) is = by_flags user is (row now.members (key word)) refl

pub judged_for : (Q : ModeChange → Type 0) (users : Table User) (now : Channel)
    (plus : Bool) (which : ModeLetter) (word : Option (List ℕ)) → IsSoMade Q users now word
    → IsSo (IsAskedFor Q plus which) (judge users now plus which word)
judged_for Q users now plus letter.InviteOnly word so =
    if_so Q plus letter.InviteOnly None (differs plus now.modes.invite_only) (so.invite_only plus)
judged_for Q users now plus letter.Moderated word so =
    if_so Q plus letter.Moderated None (differs plus now.modes.moderated) (so.moderated plus)
judged_for Q users now plus letter.NoOutside word so =
    if_so Q plus letter.NoOutside None (differs plus now.modes.no_outside) (so.no_outside plus)
judged_for Q users now plus letter.TopicLocked word so = if_so Q plus letter.TopicLocked None
    (differs plus now.modes.topic_locked) (so.topic_locked plus)
judged_for Q users now plus letter.Private word so =
    if_so Q plus letter.Private None (turns_private plus now.modes.privacy) (so.private plus)
judged_for Q users now plus letter.Secret word so =
    if_so Q plus letter.Secret None (turns_secret plus now.modes.privacy) (so.secret plus)
judged_for Q users now plus letter.Key word so =
    key_so Q now.name plus word now.modes.key so.key_set so.key_cleared
judged_for Q users now plus letter.Limit word so =
    limit_so Q plus word now.modes.limit so.limit_set so.limit_cleared
judged_for Q users now plus letter.Ban word so = mask_so Q users now plus word so
judged_for Q users now plus letter.Operator word so =
    flag_so Q users now plus letter.Operator (so.operator plus) word
judged_for Q users now plus letter.Voice word so =
    flag_so Q users now plus letter.Voice (so.voice plus) word

without_asked : (Q : ModeChange → Type 0) (plus : Bool) (which : ModeLetter) (verdict : Verdict)
    → IsSo (IsAskedFor Q plus which) verdict → IsSo Q verdict
without_asked Q plus which (Says reply) so = tt
without_asked Q plus which (Keeps change) so = so.so
without_asked Q plus which Nothing so = tt

pub judged_so : (Q : ModeChange → Type 0) (users : Table User) (now : Channel)
    (plus : Bool) (which : ModeLetter) (word : Option (List ℕ)) → IsSoMade Q users now word
    → IsSo Q (judge users now plus which word)
judged_so Q users now plus which word so = without_asked Q plus which
    (judge users now plus which word) (judged_for Q users now plus which word so)
