-- Of which channels a test holds after each change of the table of channels, and what an index
-- beside it tells then.
use Rattle.std.specs.Prelude.{OnOk, OnErr}
use Rattle.std.proofs.Common.{Result, Ok, Err, subst, ◌≡◌, ℕ, Bool, true, false, cond, not, ◌&&◌}
use Rattle.std.proofs.Common.{◌||◌, Option, Some, None, List, refl, sym}
use Rattle.std.proofs.Common.{◌∙◌, ap, is_some, option_map, unwrap_or}
use Rattle.std.specs.Option.{option_and_then, option_map_or}
use Rattle.std.specs.FinMap.{empty, get-empty}
use Rattle.std.proofs.Math.Bool.{and-false, and-true}
use Rattle.std.proofs.lemmas.Bool.{cond-true}
use Rattle.irc_names.specs.Fold.{key, same}
use Rattle.irc_names.specs.FoldLaws.{same-tells}
use Rattle.irc_names.specs.Tables.{Table, fold_cmp, row, alter, each, moved}
use Rattle.irc_names.specs.TableLaws.{same_fold, one_fold, row-alter, row-each}
use Rattle.irc_channels.specs.declared.channel.Channel.{Channel}
use Rattle.irc_channels.specs.Channels.{has_member, is_invited, new_channel, joined, left}
use Rattle.irc_channels.specs.Channels.{without_user, renamed}
use Rattle.irc_users.specs.declared.user.User.{User}
use Rattle.irc_effects.specs.declared.effect.Effect.{Effect}
use Rattle.irc_effects.specs.declared.effect.Effect.TheVariants.{Rename}
use Rattle.irc_effects.specs.Effects.{brings_free}
use Rattle.irc_effects.specs.Room.{IsSoundRow, IsWellFormed}
use Rattle.irc_room.specs.Indexes.{Names, Index, is_among, stands, holds, AreIndexed}
use Rattle.irc_room.specs.Indexes.{AreInhabited, IsAlike, Tells, Adds, Drops, DropsWhere}
use Rattle.irc_room.specs.Indexes.{IsFreeOf}
use Rattle.irc_effects.specs.Lemmas.Members.{member_while, moved_row, taken_out}
use Rattle.irc_effects.specs.Lemmas.Rows.{alter_same}
use Rattle.irc_room.proofs.IndexChanges.{forgotten, stands-moved}

-- ---- a test of the channels

abbrev pub Test : Type 0
Test = List ℕ → Channel → Bool

-- what it says of one channel, if there is one
abbrev pub said : Test → List ℕ → Option Channel → Bool
said test nick o = option_map_or (test nick) o false

pub holds-alter : (test : Test) (name : List ℕ) (change : Option Channel → Option Channel)
    (channels : Table Channel) (n c : List ℕ) → holds test (alter name change channels) n c
    ≡ cond (same_fold c name) (said test n (change (row channels name))) (holds test channels n c)
holds-alter test name change channels n c = ap (said test n) (row-alter name change channels c)
    ∙ by_test (same_fold c name)
  where
    by_test : (b : Bool) → said test n (cond b (change (row channels name)) (row channels c))
        ≡ cond b (said test n (change (row channels name))) (holds test channels n c)
    by_test true = refl
    by_test false = refl

pub holds-each : (test : Test) (change : Channel → Option Channel)
    (channels : Table Channel) (n c : List ℕ)
    → holds test (each change channels) n c ≡ said test n (option_and_then change (row channels c))
holds-each test change channels n c = ap (said test n) (row-each change channels c)

-- ---- what an index tells when one channel is changed

-- of channels that are equal
pub tells_at : (test : Test) (index : Index) (channels other : Table Channel) → channels ≡ other
    → Tells index (holds test other) → Tells index (holds test channels)
tells_at test index channels other is tells = subst (λ t. Tells index (holds test t)) (sym is) tells

-- whichever way a call went
pub tells_either : {U E : Type 0} (test : Test) (index : Index) (result : Result U E)
    (channels done left : Table Channel) → OnOk result (channels ≡ done)
    → OnErr result (channels ≡ left) → Tells index (holds test done) → Tells index (holds test left)
    → Tells index (holds test channels)
tells_either test index (Ok u) channels done left ok refused after before =
    tells_at test index channels done ok after
tells_either test index (Err e) channels done left ok refused after before =
    tells_at test index channels left refused before

-- a name that was put in where the test does not hold, and taken out again
pub tells_restored : (test : List ℕ → List ℕ → Bool) (before between after : Index)
    (nick name : List ℕ) → Tells before test → test nick name ≡ false
    → Adds before between nick name → Drops between after nick name → Tells after test
tells_restored test before between after nick name tells out adds drops = record {
  at = λ n c.
      drops.at n c
      ∙ ap (λ b. not (same_fold n nick && same_fold c name) && b)
      (adds.at n c ∙ ap (λ b. (same_fold n nick && same_fold c name) || b) (tells.at n c))
      ∙ by_tests n c (same_fold n nick) (same_fold c name) refl refl;
}
  where
    by_tests : (n c : List ℕ) (a b : Bool) → same_fold n nick ≡ a → same_fold c name ≡ b
        → (not (a && b) && ((a && b) || test n c)) ≡ test n c
    by_tests n c true true one other = sym (ap (λ q. test q c) (one_fold n nick one)
        ∙ ap (test nick) (one_fold c name other) ∙ out)
    by_tests n c true false one other = refl
    by_tests n c false b one other = refl

module _ (test : Test) (index : Index) (name : List ℕ) (change : Option Channel → Option Channel)
    (channels : Table Channel) (tells : Tells index (holds test channels)) where
  -- the test holds as it did
  pub tells_kept : ((n : List ℕ) → said test n (change (row channels name))
      ≡ holds test channels n name) → Tells index (holds test (alter name change channels))
  tells_kept here = record {
    at = λ n c. tells.at n c ∙ by_name n c (same_fold c name) refl
        ∙ sym (holds-alter test name change channels n c);
  }
    where
      by_name : (n c : List ℕ) (b : Bool) → same_fold c name ≡ b → holds test channels n c
          ≡ cond b (said test n (change (row channels name))) (holds test channels n c)
      by_name n c true one = ap (holds test channels n) (one_fold c name one) ∙ sym (here n)
      by_name n c false two = refl

  -- it holds of one nickname more
  pub tells_added : (after : Index) (nick : List ℕ) → Adds index after nick name
      → ((n : List ℕ) → said test n (change (row channels name)) ≡ (same_fold n nick
      || holds test channels n name)) → Tells after (holds test (alter name change channels))
  tells_added after nick adds here = record {
    at = λ n c.
        adds.at n c
        ∙ ap (λ b. (same_fold n nick && same_fold c name) || b) (tells.at n c)
        ∙ by_name n c (same_fold c name) refl
        ∙ sym (holds-alter test name change channels n c);
  }
    where
      by_name : (n c : List ℕ) (b : Bool) → same_fold c name ≡ b
          → ((same_fold n nick && b) || holds test channels n c)
          ≡ cond b (said test n (change (row channels name))) (holds test channels n c)
      by_name n c true one =
          ap (λ b. b || holds test channels n c) (and-true (same_fold n nick))
          ∙ ap (λ q. same_fold n nick || holds test channels n q) (one_fold c name one)
          ∙ sym (here n)
      by_name n c false two = ap (λ b. b || holds test channels n c) (and-false (same_fold n nick))

  -- it holds of some nicknames less
  pub tells_dropped : (after : Index) (gone : List ℕ → Bool)
      → DropsWhere gone index after name → ((n : List ℕ)
      → said test n (change (row channels name)) ≡ (not (gone n) && holds test channels n name))
      → Tells after (holds test (alter name change channels))
  tells_dropped after gone drops here = record {
    at = λ n c.
        drops.at n c
        ∙ ap (λ b. not (gone n && same_fold c name) && b) (tells.at n c)
        ∙ by_name n c (same_fold c name) refl
        ∙ sym (holds-alter test name change channels n c);
  }
    where
      by_name : (n c : List ℕ) (b : Bool) → same_fold c name ≡ b
          → (not (gone n && b) && holds test channels n c)
          ≡ cond b (said test n (change (row channels name))) (holds test channels n c)
      by_name n c true one =
          ap (λ b. not b && holds test channels n c) (and-true (gone n))
          ∙ ap (λ q. not (gone n) && holds test channels n q) (one_fold c name one)
          ∙ sym (here n)
      by_name n c false two = ap (λ b. not b && holds test channels n c) (and-false (gone n))

-- whatever keeps the members
pub mapped_said : (test : Test) (change : Channel → Channel)
    → ((n : List ℕ) (channel : Channel) → test n (change channel) ≡ test n channel)
    → (o : Option Channel) (n : List ℕ) → said test n (option_map change o) ≡ said test n o
mapped_said test change same None n = refl
mapped_said test change same (Some channel) n = same n channel

-- ---- all channels

-- a user is gone from all of them
pub tells_without : (before after : Index) (nick : List ℕ) (channels : Table Channel)
    → Tells before (holds has_member channels) → after ≡ alter nick (λ _. None) before
    → Tells after (holds has_member (each (without_user nick) channels))
tells_without before after nick channels tells is = record {
  at = λ n c.
      forgotten before after nick is n c
      ∙ ap (λ b. not (same_fold n nick) && b) (tells.at n c)
      ∙ by_row n (row channels c)
      ∙ sym (holds-each has_member (without_user nick) channels n c);
}
  where
    by_row : (n : List ℕ) (o : Option Channel) → (not (same_fold n nick) && said has_member n o)
        ≡ said has_member n (option_and_then (without_user nick) o)
    by_row n None = and-false (not (same_fold n nick))
    by_row n (Some channel) =
        sym (member_while (record channel {
          members = alter nick (λ _. None) channel.members;
          invited = alter nick (λ _. None) channel.invited;
        }) n
        ∙ taken_out nick channel.members n)

-- a user has another nickname in all of them
tells_moved : (test : Test) (before after : Index) (nick new : List ℕ)
    (channels : Table Channel) → Tells before (holds test channels)
    → ((name : List ℕ) → holds test channels new name ≡ true → new ≡ nick) → ((channel : Channel)
    (n : List ℕ) → (test new channel ≡ true → new ≡ nick) → test n (renamed nick new channel)
    ≡ cond (same_fold n new) (test nick channel) (cond (same_fold n nick) false (test n channel)))
    → after ≡ moved nick new (λ names. names) before
    → Tells after (holds test (each (λ channel. Some (renamed nick new channel)) channels))
tells_moved test before after nick new channels tells free one is = record {
  at = λ n c.
      stands-moved before after nick new is (λ q there. free q (sym (tells.at new q) ∙ there)) n c
      ∙ ap (λ b. cond (same_fold n new) b (cond (same_fold n nick) false (stands before n c)))
      (tells.at nick c)
      ∙ ap (λ b. cond (same_fold n new) (holds test channels nick c)
      (cond (same_fold n nick) false b)) (tells.at n c)
      ∙ by_row n (row channels c) (free c)
      ∙ sym (holds-each test (λ channel. Some (renamed nick new channel)) channels n c);
}
  where
    nothing : (a b : Bool) → cond a false (cond b false false) ≡ false
    nothing true b = refl
    nothing false true = refl
    nothing false false = refl

    by_row : (n : List ℕ) (o : Option Channel) → (said test new o ≡ true → new ≡ nick)
        → cond (same_fold n new) (said test nick o) (cond (same_fold n nick) false (said test n o))
        ≡ said test n (option_and_then (λ channel. Some (renamed nick new channel)) o)
    by_row n None free = nothing (same_fold n new) (same_fold n nick)
    by_row n (Some channel) free = sym (one channel n free)

pub tells_renamed : (before after : Index) (nick new : List ℕ) (channels : Table Channel)
    → Tells before (holds has_member channels) → IsFreeOf channels nick new
    → after ≡ moved nick new (λ names. names) before
    → Tells after (holds has_member (each (λ channel. Some (renamed nick new channel)) channels))
tells_renamed before after nick new channels tells free =
    tells_moved has_member before after nick new channels tells free.member
    (λ channel n out. moved_row nick new channel.members n out)

pub tells_reinvited : (before after : Index) (nick new : List ℕ) (channels : Table Channel)
    → Tells before (holds is_invited channels) → IsFreeOf channels nick new
    → after ≡ moved nick new (λ names. names) before
    → Tells after (holds is_invited (each (λ channel. Some (renamed nick new channel)) channels))
tells_reinvited before after nick new channels tells free =
    tells_moved is_invited before after nick new channels tells free.invited
    (λ channel n out. moved_row nick new channel.invited n out)

-- ---- where nobody is in any channel

pub tells_empty : (test : Test) (index : Index) (channels : Table Channel) → index ≡ empty
    → channels ≡ empty → Tells index (holds test channels)
tells_empty test index channels none nothing = record {
  at = λ n c.
      ap (λ i. stands i n c) none
      ∙ ap (is_among c) (get-empty {X = Names} fold_cmp n)
      ∙ sym (ap (said test n) (get-empty {X = Channel} fold_cmp c))
      ∙ ap (λ cs. holds test cs n c) (sym nothing);
}

-- who joins a channel that it is in changes nothing
pub joined_already : (nick name : List ℕ) (op : Bool) (channels : Table Channel)
    → holds has_member channels nick (key name) ≡ true → alter (key name)
    (λ c. Some (joined nick op (unwrap_or c (new_channel name)))) channels ≡ channels
joined_already nick name op channels there =
    alter_same (key name) _ channels (by_row (row channels (key name)) there)
  where
    by_row : (o : Option Channel) → said has_member nick o ≡ true
        → Some (joined nick op (unwrap_or o (new_channel name))) ≡ o
    by_row None there = cc
    by_row (Some channel) there = ap Some (cond-true (has_member nick channel) channel _ there)

-- in a well-formed room the nickname that a Rename brings is no other member's, and nobody else is
-- invited by it
pub free_in_room : (users : Table User) (channels : Table Channel) (effect : Effect)
    (nick new : List ℕ) → IsWellFormed (record { users = users; channels = channels }) → effect
    ≡ Rename nick new → brings_free (record { users = users; channels = channels }) effect ≡ true
    → IsFreeOf channels (key nick) (key new)
free_in_room users channels effect nick new well is free = record {
  member = λ name there. by_row has_member
      (λ fold channel sound. sound.members_known (key new)) name (row channels name) refl there;
  invited = λ name there. by_row is_invited
      (λ fold channel sound. sound.invited_known (key new)) name (row channels name) refl there;
}
  where
    by_test : (b : Bool) → same nick new ≡ b → is_some (row users (key new)) ≡ true
        → (not (is_some (row users (key new))) || b) ≡ true → key new ≡ key nick
    by_test true one there free = sym ((same-tells nick new).0 one)
    by_test false two there free = cc (there, free)

    by_row : (test : Test) → ((fold : List ℕ) (channel : Channel) → IsSoundRow users fold channel
        → test (key new) channel ≡ true → is_some (row users (key new)) ≡ true)
        → (name : List ℕ) (o : Option Channel) → row channels name ≡ o
        → said test (key new) o ≡ true → key new ≡ key nick
    by_row test known name None at there = cc
    by_row test known name (Some channel) at there =
        by_test (same nick new) refl
        (known name channel (well.channels_sound name channel at) there)
        (ap (brings_free (record { users = users; channels = channels })) (sym is) ∙ free)

pub inhabited_room : (users : Table User) (channels : Table Channel)
    → IsWellFormed (record { users = users; channels = channels }) → AreInhabited channels
inhabited_room users channels well =
    record { at = λ name channel there. (well.channels_sound name channel there).some_member }

-- where the indexes tell the same
pub still_indexed : (channels : Table Channel) (joined invited joined_after invited_after : Index)
    → AreIndexed channels joined invited → IsAlike joined joined_after
    → IsAlike invited invited_after → AreIndexed channels joined_after invited_after
still_indexed channels joined invited joined_after invited_after indexed one other = record {
  joined = record { at = λ n c. one.at n c ∙ indexed.joined.at n c };
  invited = record { at = λ n c. other.at n c ∙ indexed.invited.at n c };
}
