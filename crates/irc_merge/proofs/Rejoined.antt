-- Where both halves have the same of each channel, a link shows who comes and nothing more.
use Rattle.std.proofs.Common.{◌≡◌, ℕ, Bool, true, false, cond, Option, Some, None, List, [], ◌∷◌}
use Rattle.std.proofs.Common.{◌++◌, refl, sym, ◌∙◌, ap, subst, map, if◌then◌else◌}
use Rattle.std.proofs.lemmas.List.{append-nil}
use Rattle.std.specs.declared.cmp.Ordering.{Ordering}
use Rattle.std.specs.declared.cmp.Ordering.TheVariants.{Less, Equal, Greater}
use Rattle.std.specs.Cmp.Lexicographic.{nat_list_cmp_total}
use Rattle.std.specs.List.{flat_map, AllByRecursion}
use Rattle.std.specs.Option.{option_map_or}
use Rattle.std.specs.Ordering.{is_lt, ordering_reverse}
use Rattle.std.specs.FinMap.{entries, entries_sorted, get-entries}
use Rattle.std.proofs.lemmas.Option.{same_Some}
use Rattle.irc_names.specs.Lemmas.PlainFacts.{is_true}
use Rattle.irc_names.specs.Fold.{key}
use Rattle.irc_names.specs.Greater.{bytes_cmp, greater}
use Rattle.irc_names.specs.Tables.{row}
use Rattle.irc_users.specs.declared.user.User.{User}
use Rattle.irc_modes.specs.declared.modes.Modes.{Modes}
use Rattle.irc_modes.specs.declared.modes.ModeChange.{ModeChange}
use Rattle.irc_modes.specs.Modes.{mode_step, modes_after}
use Rattle.irc_modes.specs.ModesSet.{AreWithinLimits}
use Rattle.irc_modes.specs.Raised.{raises, raising}
use Rattle.irc_modes.specs.RaisedLaws.{nothing_raised}
use Rattle.irc_channels.specs.declared.channel.Channel.{Channel}
use Rattle.irc_channels.specs.Channels.{has_member}
use Rattle.irc_room.specs.Room.{Room, IsWellFormed}
use Rattle.irc_merge.specs.ShownAlong.{shown_along}
use Rattle.irc_merge.specs.Quits.{quits_of, collision_text}
use Rattle.irc_merge.specs.Merge.{AreAlike, clash, room_without}
use Rattle.irc_merge.specs.MergeShown.{member_arrival, mode_lines, raised_line, raised_lines}
use Rattle.irc_merge.specs.MergeShown.{raised_topic, channel_seen, channel_arrivals, arrivals}
use Rattle.irc_merge.specs.MergeShown.{merge_shown}
use Rattle.irc_merge.specs.Split.{split}
use Rattle.irc_merge.specs.Laws.{ComesOf, CanBeTold, ShareNoNickname}
use Rattle.irc_merge.specs.Rejoined.{comers, all_comers, comers_shown, AgreedShowComers}
use Rattle.irc_merge.specs.Rejoined.{SidesAgree}
use Rattle.irc_merge.specs.Rejoined.{RejoinShowsComers, RejoinShowsOnlyComers}
use Rattle.irc_merge.specs.Lemmas.Clashing.{without_well}
use Rattle.irc_merge.specs.Lemmas.TableWords.{entries_all}
use Rattle.irc_merge.proofs.EvenMerge.{all_stay, apart_turned, none_clash}
use Rattle.irc_merge.proofs.GivenBack.{sides_share_no_nickname}
use Rattle.irc_merge.proofs.Lines.{joined_lines}
use Rattle.irc_merge.proofs.ChannelTold.{all_mode_lines}
use Rattle.irc_merge.proofs.NothingNew.{split_has_nothing_new, without_comes}
use Rattle.irc_merge.specs.Lemmas.SplitInTurn.{split_is_well_formed}

-- ---- a channel's own modes and topic raise nothing

parts_raise_nothing : (front rest : List ModeChange) (modes : Modes)
    → raising (front ++ rest) modes ≡ [] → (raising front modes ≡ []) × (raising rest modes ≡ [])
parts_raise_nothing [] rest modes none = (refl, none)
parts_raise_nothing (change ∷ front) rest modes none =
    by (raises change.plus change.letter change.word modes)
    (parts_raise_nothing front rest modes) none
  where
    by : (b : Bool) → (raising (front ++ rest) modes ≡ []
        → (raising front modes ≡ []) × (raising rest modes ≡ [])) → cond b
        (change ∷ raising (front ++ rest) (mode_step modes change)) (raising (front ++ rest) modes)
        ≡ [] → (cond b (change ∷ raising front (mode_step modes change)) (raising front modes) ≡ [])
        × (raising rest modes ≡ [])
    by true later is = absurd (cc is)
    by false later is = later is

lines_raise_nothing : (viewer : User) (channel : List ℕ) (lines : List (List ModeChange))
    (modes : Modes) → raising (joined_lines lines) modes ≡ []
    → raised_lines viewer channel lines modes ≡ []
lines_raise_nothing viewer channel [] modes none = refl
lines_raise_nothing viewer channel (line ∷ lines) modes none =
    let parts = parts_raise_nothing line (joined_lines lines) modes none in
    (λ i. raised_line viewer channel (parts.0 i) ++ raised_lines viewer channel lines
    (modes_after (parts.0 i) modes))
    ∙ lines_raise_nothing viewer channel lines modes parts.1

own_modes : (viewer : User) (channel : List ℕ) (modes : Modes) → AreWithinLimits modes
    → raised_lines viewer channel (mode_lines modes) modes ≡ []
own_modes viewer channel modes within =
    lines_raise_nothing viewer channel (mode_lines modes) modes
    (ap (λ changes. raising changes modes) (all_mode_lines modes) ∙ nothing_raised modes within)

not_less : (one : List ℕ) → is_lt (bytes_cmp one one) ≡ false
not_less one = by (bytes_cmp one one) (nat_list_cmp_total.antisymm one one)
  where
    by : (r : Ordering) → r ≡ ordering_reverse r → is_lt r ≡ false
    by Less is = cc
    by Equal is = refl
    by Greater is = refl

shown_never : (lines : List (List ℕ)) (b : Bool) → b ≡ false → cond b lines [] ≡ []
shown_never lines true never = absurd (cc never)
shown_never lines false never = refl

own_topic : (viewer : User) (channel topic : List ℕ) → raised_topic viewer channel topic topic ≡ []
own_topic viewer channel topic = shown_never _ (is_lt (bytes_cmp topic topic)) (not_less topic)

-- ---- one channel, and all of them

module _ (other : Room) (viewer : User) where
  abbrev come : List ℕ → Channel → List (List ℕ)
  come name theirs = flat_map (member_arrival other.users viewer name) (entries theirs.members)

  alike_seen : (name : List ℕ) (theirs ours : Channel) → AreAlike ours theirs
      → AreWithinLimits ours.modes → channel_seen other viewer name theirs ours ≡ come name theirs
  alike_seen name theirs ours alike within =
      (λ i. come name theirs
      ++ (raised_lines viewer name (mode_lines (sym alike.modes i)) ours.modes
      ++ raised_topic viewer name ours.topic (sym alike.topic i)))
      ∙ (λ i. come name theirs
      ++ (own_modes viewer name ours.modes within i ++ own_topic viewer name ours.topic i))
      ∙ append-nil (come name theirs)

  alike_arrive : (theirs ours : Channel) → AreAlike ours theirs → AreWithinLimits ours.modes
      → channel_arrivals other viewer theirs ours ≡ comers other viewer theirs ours
  alike_arrive theirs ours alike within =
      ap (λ lines. if has_member (key viewer.nick) ours then lines else [])
      (alike_seen (greater bytes_cmp ours.name theirs.name) theirs ours alike within)

-- what is so of each channel of both
record AreAllAlike (room other : Room) : Type 0 where
  pub named : (fold : List ℕ) (theirs : Channel) → row other.channels fold ≡ Some theirs
      → key theirs.name ≡ fold
  pub alike : (fold : List ℕ) (ours theirs : Channel) → row room.channels fold ≡ Some ours
      → row other.channels fold ≡ Some theirs → AreAlike ours theirs
  pub within : (fold : List ℕ) (ours : Channel) → row room.channels fold ≡ Some ours
      → AreWithinLimits ours.modes

module _ (room other : Room) (all : AreAllAlike room other) (viewer : User) where
  abbrev ArriveAlike : Channel → Type 0
  ArriveAlike theirs =
      option_map_or (channel_arrivals other viewer theirs) (row room.channels (key theirs.name)) []
      ≡ option_map_or (comers other viewer theirs) (row room.channels (key theirs.name)) []

  one_arrives : (fold : List ℕ) (theirs : Channel) → row other.channels fold ≡ Some theirs
      → ArriveAlike theirs
  one_arrives fold theirs there = by (row room.channels (key theirs.name)) refl
    where
      by : (o : Option Channel) → row room.channels (key theirs.name) ≡ o
          → option_map_or (channel_arrivals other viewer theirs) o []
          ≡ option_map_or (comers other viewer theirs) o []
      by None here = refl
      by (Some ours) here =
          let fold_is = all.named fold theirs there in
          alike_arrive other viewer theirs ours
          (all.alike (key theirs.name) ours theirs here (ap (row other.channels) fold_is ∙ there))
          (all.within (key theirs.name) ours here)

  all_arrive : (es : List (List ℕ × Channel)) → AllByRecursion (λ e. ArriveAlike e.1) es
      → flat_map (λ (theirs : Channel). option_map_or (channel_arrivals other viewer theirs)
      (row room.channels (key theirs.name)) []) (map (λ e. e.1) es)
      ≡ flat_map (λ (theirs : Channel). option_map_or (comers other viewer theirs)
      (row room.channels (key theirs.name)) []) (map (λ e. e.1) es)
  all_arrive [] each = refl
  all_arrive (e ∷ es) each = λ i. each.0 i ++ all_arrive es each.1 i

  arrivals_are_comers : arrivals room other viewer ≡ all_comers room other viewer
  arrivals_are_comers =
      all_arrive (entries other.channels)
      (entries_all (λ fold theirs. ArriveAlike theirs) (entries other.channels)
      (λ fold theirs is. one_arrives fold theirs (get-entries other.channels fold ∙ is))
      (is_true _ (entries_sorted other.channels)))

pub agreed_show_comers : AgreedShowComers
unfolding merge_shown
agreed_show_comers room other well well_other told agreed viewer =
    ap (λ lines. shown_along viewer room (quits_of collision_text (clash room other)) ++ lines)
    (by_user (row (room_without room other).users (key viewer)))
  where
    left : ComesOf room (room_without room other)
    left = without_comes room other well

    all : AreAllAlike (room_without room other) (room_without other room)
    all = record {
      named = λ fold theirs there.
          ((without_well other room well_other).channels_sound fold theirs there).named;
      alike = agreed.alike;
      within = λ fold ours here.
          let before = left.channels fold ours here in
          subst AreWithinLimits (sym ((before.1.1).modes)) (told.modes fold before.0 before.1.0);
    }

    by_user : (o : Option User)
        → option_map_or (arrivals (room_without room other) (room_without other room)) o []
        ≡ option_map_or (all_comers (room_without room other) (room_without other room)) o []
    by_user None = refl
    by_user (Some user) =
        arrivals_are_comers (room_without room other) (room_without other room) all user

-- ---- the sides of one room

-- a channel of one side, with what it was of in the room
side_channel : (text : List ℕ) (homes : List (List ℕ)) (room other : Room)
    → IsWellFormed room → (fold : List ℕ) (channel : Channel)
    → row (room_without (split text homes room) other).channels fold ≡ Some channel
    → (before : Channel) × ((row room.channels fold ≡ Some before) × AreAlike channel before)
side_channel text homes room other well fold channel is =
    let left = (without_comes (split text homes room) other
    (split_is_well_formed text homes room well)).channels fold channel is in
    let was = (split_has_nothing_new text homes room well).channels fold left.0 left.1.0 in (
      was.0,
      (
        was.1.0,
        record {
          name = (left.1.1).name ∙ (was.1.1).name;
          modes = (left.1.1).modes ∙ (was.1.1).modes;
          topic = (left.1.1).topic ∙ (was.1.1).topic;
        },
      ),
    )

pub sides_agree : SidesAgree
sides_agree near_text far_text lost others room well = record {
  alike = λ fold c d here there.
      let ours = side_channel near_text lost room (split far_text others room) well fold c here in
      let theirs =
      side_channel far_text others room (split near_text lost room) well fold d there in
      let one = same_Some ours.0 theirs.0 (sym ours.1.0 ∙ theirs.1.0) in
      record {
        name = (ours.1.1).name ∙ ap (λ (x : Channel). x.name) one ∙ sym (theirs.1.1).name;
        modes = (ours.1.1).modes ∙ ap (λ (x : Channel). x.modes) one ∙ sym (theirs.1.1).modes;
        topic = (ours.1.1).topic ∙ ap (λ (x : Channel). x.topic) one ∙ sym (theirs.1.1).topic;
      };
}

side_told : (text : List ℕ) (homes : List (List ℕ)) (room : Room) → IsWellFormed room
    → CanBeTold room → CanBeTold (split text homes room)
side_told text homes room well told = record {
  modes = λ fold channel is.
      let was = (split_has_nothing_new text homes room well).channels fold channel is in
      subst AreWithinLimits (sym ((was.1.1).modes)) (told.modes fold was.0 was.1.0);
}

pub rejoin_shows_comers : RejoinShowsComers
rejoin_shows_comers near_text far_text lost others room well told =
    agreed_show_comers (split near_text lost room) (split far_text others room)
    (split_is_well_formed near_text lost room well) (split_is_well_formed far_text others room well)
    (side_told near_text lost room well told) (sides_agree near_text far_text lost others room well)

-- ---- nobody quits

none_quit : (room other : Room) → IsWellFormed room → IsWellFormed other
    → ShareNoNickname room other → (viewer : List ℕ) → comers_shown room other viewer
    ≡ option_map_or (all_comers room other) (row room.users (key viewer)) []
none_quit room other well well_other apart viewer = λ i.
    shown_along viewer room (quits_of collision_text (none_clash room other well apart i))
    ++ option_map_or (all_comers (all_stay room other well apart i)
    (all_stay other room well_other (apart_turned room other apart) i))
    (row (all_stay room other well apart i).users (key viewer)) []

pub rejoin_shows_only_comers : RejoinShowsOnlyComers
rejoin_shows_only_comers near_text far_text lost others room well told sides viewer =
    rejoin_shows_comers near_text far_text lost others room well told viewer
    ∙ none_quit (split near_text lost room) (split far_text others room)
    (split_is_well_formed near_text lost room well) (split_is_well_formed far_text others room well)
    (sides_share_no_nickname near_text far_text lost others room well sides) viewer
