-- What is asked of two rooms as they are is what is asked of them once whoever clashes has quit.
use Rattle.std.proofs.Common.{◌≡◌, ℕ, Bool, true, false, cond, not, ◌&&◌, ◌||◌, Option, Some, None}
use Rattle.std.proofs.Common.{List, [], ◌∷◌, refl, sym, ◌∙◌, ap, map, filter, is_some, option_map}
use Rattle.std.proofs.Common.{filter_map}
use Rattle.std.specs.Option.{option_and_then, option_map_or, is_none}
use Rattle.std.specs.List.{cons_option, list_all, list_any, AllByRecursion}
use Rattle.std.specs.FinMap.{entries, entries_sorted, keys, retain_keys, get-entries}
use Rattle.irc_names.specs.Lemmas.PlainFacts.{is_true}
use Rattle.irc_names.specs.Tables.{row, each}
use Rattle.irc_names.specs.TableLaws.{same_table, row-each}
use Rattle.irc_channels.specs.declared.channel.Channel.{Channel}
use Rattle.irc_modes.specs.Modes.{is_nil}
use Rattle.irc_room.specs.Room.{Room, IsWellFormed, IsSoundRow}
use Rattle.irc_merge.specs.Merge.{clash, room_without}
use Rattle.irc_merge.specs.Agreeing.{are_alike, agree}
use Rattle.irc_merge.specs.Lemmas.Clashing.{clashing, channels_without}
use Rattle.irc_merge.specs.Lemmas.Quitting.{among, thinned}
use Rattle.irc_merge.specs.Lemmas.TableWords.{entries_all, entries_each, entries_kept}
use Rattle.irc_forest.specs.Loops.AsTheyAre.{agrees_on, alike_if_left, is_left, survives}

-- ---- which channels are left

none_passes : {X : Type 0} (p : List ℕ × X → Bool) (es : List (List ℕ × X))
    → is_nil (map (λ e. e.0) (filter p es)) ≡ not (list_any p es)
none_passes p [] = refl
none_passes {X} p (e ∷ es) = by_test (p e) (none_passes p es)
  where
    by_test : (b : Bool) → is_nil (map (λ e. e.0) (filter p es)) ≡ not (list_any p es) → is_nil
        (map (λ e. e.0) (cond b (e ∷ filter p es) (filter p es))) ≡ not (b || list_any p es)
    by_test true rest = refl
    by_test false rest = rest

any_alike : {X : Type 0} (p r : List ℕ × X → Bool) (es : List (List ℕ × X))
    → AllByRecursion (λ e. p e ≡ r e) es → list_any p es ≡ list_any r es
any_alike p r [] all = refl
any_alike p r (e ∷ es) all = λ i. all.0 i || any_alike p r es all.1 i

-- whoever of a half has a nickname of the other too
abbrev gone : Room → Room → List ℕ → Bool
gone room other q = among (clash room other) q

-- a channel without them
abbrev thin : Room → Room → Channel → Channel
thin room other channel = record channel {
  members = retain_keys channel.members (λ q. not (gone room other q));
  invited = retain_keys channel.invited (λ q. not (gone room other q));
}

module _ (room other : Room) (well : IsWellFormed room) (fold : List ℕ) (channel : Channel)
    (sound : IsSoundRow room.users fold channel) where
  -- a member has a user, so only the other half's users count
  stays : (q : List ℕ) → is_some (row channel.members q) ≡ true
      → not (gone room other q) ≡ is_none (row other.users q)
  stays q there = ap not (clashing room other well q
      ∙ ap (λ b. b && is_some (row other.users q)) (sound.members_known q there))

  each_stays : AllByRecursion (λ e. not (gone room other e.0) ≡ survives other e)
      (entries channel.members)
  each_stays =
      entries_all (λ q flags. not (gone room other q) ≡ is_none (row other.users q))
      (entries channel.members)
      (λ q flags is. stays q (ap is_some (get-entries channel.members q ∙ is)))
      (is_true _ (entries_sorted channel.members))

  none_left : is_nil (keys (thin room other channel).members) ≡ not (is_left other channel)
  none_left =
      ap (λ es. is_nil (map (λ e. e.0) es))
      (entries_kept channel.members (λ q. not (gone room other q)))
      ∙ none_passes (λ e. not (gone room other e.0)) (entries channel.members)
      ∙ ap not (any_alike (λ e. not (gone room other e.0)) (survives other)
      (entries channel.members) each_stays)

  left_tells : thinned (gone room other) channel ≡ cond (is_left other channel)
      (Some (thin room other channel)) None
  left_tells = ap (λ b. cond b None (Some (thin room other channel))) none_left
      ∙ by_test (is_left other channel)
    where
      by_test : (b : Bool) → cond (not b) None (Some (thin room other channel))
          ≡ cond b (Some (thin room other channel)) None
      by_test true = refl
      by_test false = refl

-- ---- what is asked of each

kept_entry : (test : List ℕ × Channel → Bool) (fold : List ℕ)
    (b : Bool) (channel : Channel) (rest : List (List ℕ × Channel))
    → list_all test (cons_option (option_map (λ c. (fold, c)) (cond b (Some channel) None)) rest)
    ≡ cond b (test (fold, channel) && list_all test rest) (list_all test rest)
kept_entry test fold true channel rest = refl
kept_entry test fold false channel rest = refl

none_asked : (b rest : Bool) → cond b (true && rest) rest ≡ (true && rest)
none_asked true rest = refl
none_asked false rest = refl

both_asked : (b c : Bool) (test : Channel → Bool) (channel : Channel) (rest : Bool)
    → cond b (option_map_or test (cond c (Some channel) None) true && rest) rest
    ≡ (cond (b && c) (test channel) true && rest)
both_asked true true test channel rest = refl
both_asked true false test channel rest = refl
both_asked false c test channel rest = refl

module _ (one other : Room) (well_one : IsWellFormed one) (well_other : IsWellFormed other) where
  abbrev tested : List ℕ × Channel → Bool
  tested e = option_map_or (are_alike e.1) (row (room_without other one).channels e.0) true

  abbrev left_entry : List ℕ × Channel → Option (List ℕ × Channel)
  left_entry e = option_map (λ c. (e.0, c)) (thinned (gone one other) e.1)

  entry_tested : (e : List ℕ × Channel) (rest : List (List ℕ × Channel))
      → IsSoundRow one.users e.0 e.1 → list_all tested (cons_option (left_entry e) rest)
      ≡ (agrees_on one other e && list_all tested rest)
  entry_tested e rest sound =
      ap (λ o. list_all tested (cons_option (option_map (λ c. (e.0, c)) o) rest))
      (left_tells one other well_one e.0 e.1 sound)
      ∙ kept_entry tested e.0 (is_left other e.1) (thin one other e.1) rest
      ∙ ap (λ found. cond (is_left other e.1) (option_map_or (are_alike e.1) found true
      && list_all tested rest) (list_all tested rest))
      (channels_without other one well_other e.0)
      ∙ by_row (row other.channels e.0) refl
    where
      by_row : (o : Option Channel) → row other.channels e.0 ≡ o → cond (is_left other e.1)
          (option_map_or (are_alike e.1) (option_and_then (thinned (gone other one)) o) true
          && list_all tested rest) (list_all tested rest)
          ≡ (option_map_or (alike_if_left one other e.1) o true && list_all tested rest)
      by_row None at = none_asked (is_left other e.1) (list_all tested rest)
      by_row (Some there) at =
          ap (λ found. cond (is_left other e.1) (option_map_or (are_alike e.1) found true
          && list_all tested rest) (list_all tested rest))
          (left_tells other one well_other e.0 there (well_other.channels_sound e.0 there at))
          ∙ both_asked (is_left other e.1) (is_left one there) (are_alike e.1)
          (thin other one there) (list_all tested rest)

  all_tested : (es : List (List ℕ × Channel))
      → AllByRecursion (λ (e : List ℕ × Channel). IsSoundRow one.users e.0 e.1) es
      → list_all tested (filter_map left_entry es) ≡ list_all (agrees_on one other) es
  all_tested [] sound = refl
  all_tested (e ∷ es) sound =
      entry_tested e (filter_map left_entry es) sound.0
      ∙ ap (λ b. agrees_on one other e && b) (all_tested es sound.1)

  -- the halves agree just where they agree on each channel of the first
  pub agree_now : agree one other ≡ list_all (agrees_on one other) (entries one.channels)
  agree_now =
      ap (list_all tested) (ap entries left_channels
      ∙ entries_each (thinned (gone one other)) one.channels)
      ∙ all_tested (entries one.channels)
      (entries_all (λ fold channel. IsSoundRow one.users fold channel) (entries one.channels)
      (λ fold channel is. well_one.channels_sound fold channel (get-entries one.channels fold ∙ is))
      (is_true _ (entries_sorted one.channels)))
    where
      left_channels : (room_without one other).channels
          ≡ each (thinned (gone one other)) one.channels
      left_channels = same_table (room_without one other).channels
          (each (thinned (gone one other)) one.channels) (λ fold.
          channels_without one other well_one fold
          ∙ sym (row-each (thinned (gone one other)) one.channels fold))
