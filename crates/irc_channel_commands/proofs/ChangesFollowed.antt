-- What is asked of the changes so far is so in the channel as they leave it, with each change that
-- is made too.
use Rattle.std.proofs.Common.{◌≡◌, ℕ, Bool, true, false, cond, Option, Some, None, List, [], ◌∷◌}
use Rattle.std.proofs.Common.{◌++◌, length, find, fold, refl, sym, ◌∙◌, ap, subst, append-nil}
use Rattle.std.proofs.Common.{option_map, Result, Ok, Err, OnOk}
use Rattle.std.proofs.lemmas.List.Sums.{fold-append}
use Rattle.irc_names.specs.Fold.{key, same}
use Rattle.irc_names.specs.FoldLaws.{same-tells}
use Rattle.irc_names.specs.Tables.{Table, row, alter}
use Rattle.irc_names.specs.TableLaws.{row-alter}
use Rattle.irc_users.specs.declared.user.User.{User}
use Rattle.irc_channels.specs.declared.channel.Channel.{Channel}
use Rattle.irc_channels.specs.declared.flags.Flags.{Flags}
use Rattle.irc_modes.specs.declared.modes.Modes.{Modes}
use Rattle.irc_modes.specs.declared.modes.ModeChange.{ModeChange}
use Rattle.irc_modes.specs.declared.modes.ModeLetter.{ModeLetter}
use Rattle.irc_modes.specs.declared.modes.ModeLetter.TheVariants as letter
use Rattle.irc_modes.specs.Bans.{rises}
use Rattle.irc_modes.specs.Modes.{ban_mask, with_ban, without_ban}
use Rattle.irc_channels.specs.Channels.{letter_changed, changed, all_changed}
use Rattle.irc_modes.specs.Loops.ManyChanges.{bans_by_mask, setting_changed, setting_step}
use Rattle.irc_acts.specs.MoveLaws.{same_is_fold}
use Rattle.irc_channel_commands.specs.declared.verdict.Verdict.{Verdict}
use Rattle.irc_channel_commands.specs.declared.verdict.Verdict.TheVariants.{Says, Keeps, Nothing}
use Rattle.irc_channel_commands.specs.ChannelMode.{outcome_of}
use Rattle.irc_channel_commands.specs.Judging.{judge}
use Rattle.irc_channel_commands.specs.Laws.JudgedWalk.{IsSo, judged_so}
use Rattle.irc_channel_commands.specs.Loops.KeptChanges.{op_set, voice_set, flags_changed}
use Rattle.irc_channel_commands.specs.Loops.KeptChanges.{flags_by, ban_by, count_by, without_bans}
use Rattle.irc_channel_commands.specs.Loops.KeptChanges.{Follows}
use Rattle.irc_channel_commands.specs.Laws.BansFound.{stored_is_mask}
use Rattle.irc_channel_commands.proofs.BansBehind.{found_behind, rises_behind, one_more, one_less}
use Rattle.irc_channel_commands.proofs.BansBehind.{by_mask}

-- ---- one change, letter by letter

settings_behind : (plus : Bool) (which : ModeLetter) (word : Option (List ℕ)) (now : Channel)
    → setting_changed plus which word (without_bans now.modes) ≡ without_bans
    (letter_changed plus which word now).modes
settings_behind plus letter.InviteOnly word now = refl
settings_behind plus letter.Moderated word now = refl
settings_behind plus letter.NoOutside word now = refl
settings_behind plus letter.TopicLocked word now = refl
settings_behind plus letter.Private word now = refl
settings_behind plus letter.Secret word now = refl
settings_behind plus letter.Key word now = refl
settings_behind plus letter.Limit word now = refl
settings_behind plus letter.Ban word now = refl
settings_behind plus letter.Operator None now = refl
settings_behind plus letter.Operator (Some word) now = refl
settings_behind plus letter.Voice None now = refl
settings_behind plus letter.Voice (Some word) now = refl

name_behind : (plus : Bool) (which : ModeLetter) (word : Option (List ℕ)) (now : Channel)
    → (letter_changed plus which word now).name ≡ now.name
name_behind plus letter.InviteOnly word now = refl
name_behind plus letter.Moderated word now = refl
name_behind plus letter.NoOutside word now = refl
name_behind plus letter.TopicLocked word now = refl
name_behind plus letter.Private word now = refl
name_behind plus letter.Secret word now = refl
name_behind plus letter.Key word now = refl
name_behind plus letter.Limit word now = refl
name_behind plus letter.Ban word now = refl
name_behind plus letter.Operator None now = refl
name_behind plus letter.Operator (Some word) now = refl
name_behind plus letter.Voice None now = refl
name_behind plus letter.Voice (Some word) now = refl

-- one row of the members is changed
row_behind : (word nick : List ℕ) (f : Flags → Flags) (members : Table Flags)
    → cond (same word nick) (option_map f (row members (key nick))) (row members (key nick))
    ≡ row (alter (key word) (option_map f) members) (key nick)
row_behind word nick f members =
    by (same word nick) refl
    ∙ ap (λ b. cond b (option_map f (row members (key word))) (row members (key nick)))
    (sym (same_is_fold word nick))
    ∙ sym (row-alter (key word) (option_map f) members (key nick))
  where
    by : (test : Bool) → same word nick ≡ test
        → cond test (option_map f (row members (key nick))) (row members (key nick))
        ≡ cond (same word nick) (option_map f (row members (key word))) (row members (key nick))
    by true alike =
        ap (λ fold. option_map f (row members fold)) (sym ((same-tells word nick).0 alike))
        ∙ sym (ap
        (λ b. cond b (option_map f (row members (key word))) (row members (key nick))) alike)
    by false other = sym
        (ap (λ b. cond b (option_map f (row members (key word))) (row members (key nick))) other)

flags_behind : (nick : List ℕ) (plus : Bool) (which : ModeLetter) (word : Option (List ℕ))
    (now : Channel) → flags_changed nick plus which word (row now.members (key nick))
    ≡ row (letter_changed plus which word now).members (key nick)
flags_behind nick plus letter.InviteOnly word now = refl
flags_behind nick plus letter.Moderated word now = refl
flags_behind nick plus letter.NoOutside word now = refl
flags_behind nick plus letter.TopicLocked word now = refl
flags_behind nick plus letter.Private word now = refl
flags_behind nick plus letter.Secret word now = refl
flags_behind nick plus letter.Key word now = refl
flags_behind nick plus letter.Limit word now = refl
flags_behind nick plus letter.Ban word now = refl
flags_behind nick plus letter.Operator None now = refl
flags_behind nick plus letter.Operator (Some word) now =
    row_behind word nick (op_set plus) now.members
flags_behind nick plus letter.Voice None now = refl
flags_behind nick plus letter.Voice (Some word) now =
    row_behind word nick (voice_set plus) now.members

bans_behind : (plus : Bool) (which : ModeLetter) (word : Option (List ℕ)) (now : Channel)
    → (letter_changed plus which word now).modes.bans ≡ bans_by_mask plus
    (ban_mask which word) now.modes.bans
bans_behind plus letter.InviteOnly word now = refl
bans_behind plus letter.Moderated word now = refl
bans_behind plus letter.NoOutside word now = refl
bans_behind plus letter.TopicLocked word now = refl
bans_behind plus letter.Private word now = refl
bans_behind plus letter.Secret word now = refl
bans_behind plus letter.Key word now = refl
bans_behind plus letter.Limit word now = refl
bans_behind plus letter.Ban word now = by_mask plus word now.modes.bans
bans_behind plus letter.Operator None now = refl
bans_behind plus letter.Operator (Some word) now = refl
bans_behind plus letter.Voice None now = refl
bans_behind plus letter.Voice (Some word) now = refl

-- ---- one change more

pub all_changed-append : (a b : List ModeChange) (channel : Channel)
    → all_changed (a ++ b) channel ≡ all_changed b (all_changed a channel)
all_changed-append [] b channel = refl
all_changed-append (change ∷ a) b channel = all_changed-append a b (changed change channel)

-- that a change of a ban adds one or takes one out
abbrev IsCounted : Channel → ModeChange → Type 0
IsCounted now change =
    count_by (length now.modes.bans) change ≡ length (changed change now).modes.bans

follows_one : (start : Channel) (changes : List ModeChange) (behind : Modes) (change : ModeChange)
    → Follows start changes behind → IsCounted (all_changed changes start) change
    → Follows start (changes ++ change ∷ []) (setting_step behind change)
follows_one start changes behind change so counted =
    let now = all_changed changes start in
    let is = all_changed-append changes (change ∷ []) start in
    let bans_are = ap (λ (c : Channel). c.modes.bans) is
    ∙ bans_behind change.plus change.letter change.word now in
    record {
      settings =
          ap (λ m. setting_step m change) so.settings
          ∙ settings_behind change.plus change.letter change.word now
          ∙ ap (λ (c : Channel). without_bans c.modes) (sym is);
      named = ap (λ (c : Channel). c.name) is
          ∙ name_behind change.plus change.letter change.word now ∙ so.named;
      members = λ nick.
          fold-append (flags_by nick) (row start.members (key nick)) changes (change ∷ [])
          ∙ ap (λ o. flags_by nick o change) (so.members nick)
          ∙ flags_behind nick change.plus change.letter change.word now
          ∙ ap (λ (c : Channel). row c.members (key nick)) (sym is);
      bans = λ mask.
          fold-append (ban_by mask) (find (same mask) start.modes.bans) changes (change ∷ [])
          ∙ ap (λ o. ban_by mask o change) (so.bans mask)
          ∙ found_behind mask change.plus
          (ban_mask change.letter change.word) now.modes.bans so.rising
          ∙ ap (find (same mask)) (sym bans_are);
      counted =
          fold-append count_by (length start.modes.bans) changes (change ∷ [])
          ∙ ap (λ n. count_by n change) so.counted
          ∙ counted
          ∙ ap (λ (c : Channel). length c.modes.bans) (sym is);
      rising = ap rises bans_are
          ∙ rises_behind change.plus (ban_mask change.letter change.word) now.modes.bans so.rising;
    }

-- each change that is made of a ban is counted
made_counted : (users : Table User) (now : Channel) → rises now.modes.bans ≡ true
    → (plus : Bool) (which : ModeLetter) (word : Option (List ℕ))
    → IsSo (IsCounted now) (judge users now plus which word)
made_counted users now rising plus which word =
    judged_so (IsCounted now) users now plus which word (record {
      invite_only = λ sign differs. refl;
      moderated = λ sign differs. refl;
      no_outside = λ sign differs. refl;
      topic_locked = λ sign differs. refl;
      private = λ sign turns. refl;
      secret = λ sign turns. refl;
      key_set = λ key is none. refl;
      key_cleared = λ key is. refl;
      limit_set = λ digits is other. refl;
      limit_cleared = λ there. refl;
      ban_set = λ mask given is none.
          one_more mask now.modes.bans rising none
          ∙ ap (λ b. length (cond b (with_ban mask now.modes.bans) now.modes.bans)) (sym is);
      ban_taken = λ mask there is found.
          one_less mask there now.modes.bans rising found
          ∙ ap (λ b. length (cond b (without_ban there now.modes.bans) now.modes.bans))
          (sym (stored_is_mask mask there now.modes.bans is found));
      operator = λ sign name user flags is at differs. refl;
      voice = λ sign name user flags is at differs. refl;
    })

-- what came of a letter is followed
pub follows_verdict : (users : Table User) (start : Channel) (changes : List ModeChange)
    (behind : Modes) (plus : Bool) (which : ModeLetter) (word : Option (List ℕ))
    (verdict : Verdict) → Follows start changes behind
    → verdict ≡ judge users (all_changed changes start) plus which word
    → Follows start (changes ++ (outcome_of verdict).changes)
    (fold setting_step behind (outcome_of verdict).changes)
follows_verdict users start changes behind plus which word verdict so is =
    by verdict (subst (IsSo (IsCounted (all_changed changes start))) (sym is)
    (made_counted users (all_changed changes start) so.rising plus which word))
  where
    by : (verdict : Verdict) → IsSo (IsCounted (all_changed changes start)) verdict
        → Follows start (changes ++ (outcome_of verdict).changes)
        (fold setting_step behind (outcome_of verdict).changes)
    by (Says reply) counted = subst (λ cs. Follows start cs behind) (sym (append-nil changes)) so
    by (Keeps change) counted = follows_one start changes behind change so counted
    by Nothing counted = subst (λ cs. Follows start cs behind) (sym (append-nil changes)) so

-- the same, as the call that does what came of a letter finds it
pub follows_taken : {X E : Type 0} (users : Table User) (start : Channel)
    (changes made : List ModeChange) (behind after : Modes) (plus : Bool) (which : ModeLetter)
    (word : Option (List ℕ)) (verdict : Verdict) (result : Result X E)
    → Follows start changes behind
    → verdict ≡ judge users (all_changed changes start) plus which word
    → OnOk result (made ≡ changes ++ (outcome_of verdict).changes)
    → OnOk result (after ≡ fold setting_step behind (outcome_of verdict).changes)
    → OnOk result (Follows start made after)
follows_taken users start changes made behind after plus which word verdict
    (Ok x) so is made_is after_is =
    subst (λ cs. Follows start cs after) (sym made_is)
    (subst (Follows start (changes ++ (outcome_of verdict).changes)) (sym after_is)
    (follows_verdict users start changes behind plus which word verdict so is))
follows_taken users start changes made behind after plus which word verdict
    (Err e) so is made_is after_is = tt

-- before any change
pub follows_none : (start : Channel) (changes : List ModeChange) (behind : Modes)
    → changes ≡ [] → behind ≡ without_bans start.modes → rises start.modes.bans ≡ true
    → Follows start changes behind
follows_none start changes behind none is rising =
    subst (λ cs. Follows start cs behind) (sym none) (record {
      settings = is;
      named = refl;
      members = λ nick. refl;
      bans = λ mask. refl;
      counted = refl;
      rising = rising;
    })
