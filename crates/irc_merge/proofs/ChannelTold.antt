-- What the lines about one channel make of its row. Those of its members come whose homes are
-- behind the link; where any does, the channel takes the greater spelling, and its modes, its bans
-- and its topic are joined with what is told.
use Rattle.std.proofs.Common.{◌≡◌, ℕ, Bool, true, false, cond, not, ◌&&◌, ◌||◌, Option, Some, None}
use Rattle.std.proofs.Common.{List, [], ◌∷◌, ◌++◌, refl, sym, ◌∙◌, ap, subst, map, fold, filter}
use Rattle.std.proofs.Common.{is_some, option_map, filter_map, arith, if◌then◌else◌}
use Rattle.std.proofs.lemmas.Bool.{and_from, or_from, or_right, or_parts}
use Rattle.std.proofs.lemmas.List.{map-append}
use Rattle.std.proofs.lemmas.List.Folds.{list_all-append, list_any-append}
use Rattle.std.proofs.lemmas.List.Sums.{fold-append}
use Rattle.std.specs.List.{list_all, list_any, cons_option, AllByRecursion}
use Rattle.std.specs.FinMap.{empty, entries, keys, retain_keys, find, get-empty, get-entries}
use Rattle.std.proofs.Math.Bool.{false≢true}
use Rattle.irc_names.specs.Lemmas.PlainFacts.{none_if_not_some, same_either_way}
use Rattle.irc_names.specs.Fold.{key}
use Rattle.irc_names.specs.Greater.{bytes_cmp, greater}
use Rattle.irc_names.specs.GreaterLaws.{greater_associates, greater_with_itself}
use Rattle.irc_names.specs.Tables.{Table, fold_cmp, row, alter, both}
use Rattle.irc_names.specs.TableLaws.{same_fold, same_fold-refl, one_fold, same_table, row-alter}
use Rattle.irc_names.specs.TableLaws.{row-keys}
use Rattle.irc_users.specs.declared.user.User.{User}
use Rattle.irc_channels.specs.declared.flags.Flags.{Flags}
use Rattle.irc_modes.specs.declared.modes.Modes.{Modes}
use Rattle.irc_modes.specs.declared.modes.ModeChange.{ModeChange}
use Rattle.irc_modes.specs.Bans.{IsBanList}
use Rattle.irc_modes.specs.Joined.{joined_bans, joined_modes}
use Rattle.irc_modes.specs.Lemmas.BansByFold.{same_found}
use Rattle.irc_modes.specs.Lemmas.JoinedBans.{rises-joined_bans, find-joined_bans}
use Rattle.irc_modes.specs.Modes.{is_nil, no_modes}
use Rattle.irc_modes.specs.ModesSet.{AreWithinLimits, set_changes, ban_changes}
use Rattle.irc_modes.specs.Raised.{raising}
use Rattle.irc_modes.specs.RaisedLaws.{all_set, line_raised, raised_is_joined}
use Rattle.irc_channels.specs.declared.channel.Channel.{Channel}
use Rattle.irc_channels.specs.Channels.{new_channel, while_members}
use Rattle.irc_room.specs.Lemmas.Rows.{some_key, some_row, no_row, alter_same}
use Rattle.irc_merge.specs.Bursts.{in_lines, members_a_line, bans_a_line, stored_member}
use Rattle.irc_merge.specs.Bursts.{stored_members}
use Rattle.irc_merge.specs.Merge.{either, joined_channel}
use Rattle.irc_merge.specs.MergeShown.{letters_line, mode_lines}
use Rattle.irc_merge.specs.Lemmas.TableWords.{row-kept, entries_kept}
use Rattle.irc_merge.specs.Lemmas.Quitting.{peopled}
use Rattle.irc_merge.specs.Lemmas.Joining.{row-either, either_second}
use Rattle.irc_merge.proofs.Lines.{joined_lines, all_in_lines, each_line}
use Rattle.irc_merge.proofs.PlainChanges.{is_plain, only_modes, set_plain, bans_plain}
use Rattle.irc_merge.proofs.PlainChanges.{raising_plain}
use Rattle.irc_merge.specs.Lemmas.ChannelRows.{with_member, comes_to, entry_joins, member_joins}
use Rattle.irc_merge.specs.Lemmas.ChannelRows.{row_new, row_spelled, line_in, row_far, all_raised}
use Rattle.irc_merge.specs.Lemmas.ChannelRows.{topic_raised, row_set, topic_row, members_row}
use Rattle.irc_merge.specs.Lemmas.ChannelRows.{modes_row, channel_row}
use Rattle.irc_merge.specs.Lemmas.BooleanTests.{and_not}

-- a table without a key has no row
pub no_rows : {X : Type 0} (table : Table X) → is_nil (keys table) ≡ true → (q : List ℕ)
    → row table q ≡ None
no_rows {X} table none q = by_row (row table q) refl
  where
    by_row : (o : Option X) → row table q ≡ o → o ≡ None
    by_row None at = refl
    by_row (Some x) at = absurd (false≢true (sym (sym none ∙ some_key table q (ap is_some at))))

pub either_none : {X : Type 0} (x : Option X) → either x None ≡ x
either_none None = refl
either_none (Some x) = refl

-- tables that are joined with an empty one
pub with_empty : {X : Type 0} (table other : Table X) → ((q : List ℕ) → row other q ≡ None)
    → both either table other ≡ table
with_empty table other none = same_table (both either table other) table (λ q.
    row-either table other q ∙ ap (either (row table q)) (none q) ∙ either_none (row table q))

empty_with : {X : Type 0} (table : Table X) → both either empty table ≡ table
empty_with {X} table = same_table (both either empty table) table (λ q.
    row-either empty table q ∙ ap (λ o. either o (row table q)) (get-empty {X = X} fold_cmp q))

not_new : (b : Bool) → (b && true) ≡ false → b ≡ false
not_new true e = cc
not_new false e = refl

-- the user under a fold, whose fold it is
pub record StandsThere (users : Table User) (fold : List ℕ) : Type 0 where
  pub holder : User
  pub at : row users fold ≡ Some holder
  pub named : key holder.nick ≡ fold

-- what is told of a channel can be told: its modes keep their limits, and its members are users
pub record IsTellable (users : Table User) (channel : Channel) : Type 0 where
  pub modes : AreWithinLimits channel.modes
  pub members : (q : List ℕ) → is_some (row channel.members q) ≡ true → is_some (row users q) ≡ true
  pub named : (q : List ℕ) (user : User) → row users q ≡ Some user → key user.nick ≡ q

pub entries_pass : {X : Type 0} (P : List ℕ → Type 0) (es : List (List ℕ × X)) → ((q : List ℕ)
    → list_any (same_fold q) (map (λ e. e.0) es) ≡ true → P q) → AllByRecursion (λ e. P e.0) es
entries_pass P [] so = tt
entries_pass P (e ∷ es) so = (
  so e.0 (ap (λ b. b || list_any (same_fold e.0) (map (λ e. e.0) es)) (same_fold-refl e.0)),
  entries_pass P es (λ q there. so q (or_right (same_fold q e.0) _ there)),
)

pub stands : (users : Table User) (channel : Channel) → IsTellable users channel → (q : List ℕ)
    → is_some (row channel.members q) ≡ true → StandsThere users q
stands users channel told q there = by_row (row users q) refl (told.members q there)
  where
    by_row : (o : Option User) → row users q ≡ o → is_some o ≡ true → StandsThere users q
    by_row None at some = absurd (false≢true some)
    by_row (Some user) at some = record { holder = user; at = at; named = told.named q user at }

-- members, by their folds
abbrev pub folded : List (List ℕ × Flags) → List (List ℕ × Flags)
folded members = map (λ (m : List ℕ × Flags). (key m.0, m.1)) members

stored_folded : (users : Table User) (es : List (List ℕ × Flags)) → AllByRecursion
    (λ e. StandsThere users e.0) es → folded (filter_map (stored_member users) es) ≡ es
stored_folded users [] there = refl
stored_folded users (e ∷ es) there =
    ap (λ o. folded (cons_option (option_map (λ (user : User). (user.nick, e.1)) o)
    (filter_map (stored_member users) es))) (there.0).at
    ∙ (λ i. ((there.0).named i, e.1) ∷ stored_folded users es there.1 i)

-- ---- modes and topic, joined

-- the lines of modes say all that is set
pub all_mode_lines : (modes : Modes) → joined_lines (mode_lines modes) ≡ all_set modes
all_mode_lines modes = by (set_changes modes)
  where
    by : (changes : List ModeChange) → joined_lines (letters_line changes
        ++ in_lines bans_a_line (ban_changes modes.bans)) ≡ changes ++ ban_changes modes.bans
    by [] = all_in_lines bans_a_line (ban_changes modes.bans) (omega arith)
    by (change ∷ changes) = ap (λ rest. change ∷ changes ++ rest)
        (all_in_lines bans_a_line (ban_changes modes.bans) (omega arith))

pub lines_plain : (modes : Modes)
    → AllByRecursion (λ line. list_all is_plain line ≡ true) (mode_lines modes)
lines_plain modes =
    each_line is_plain (mode_lines modes)
    (ap (list_all is_plain) (all_mode_lines modes)
    ∙ list_all-append is_plain (set_changes modes) (ban_changes modes.bans)
    ∙ and_from _ _ (set_plain modes) (bans_plain modes.bans))

-- where nothing was set, what is told is what is then set
none_joined : (modes : Modes) → AreWithinLimits modes → joined_modes no_modes modes ≡ modes
none_joined modes within =
    ap (λ (bans : List (List ℕ)). record modes { bans = bans })
    (same_found (joined_bans [] modes.bans) modes.bans
    (rises-joined_bans [] modes.bans) within.in_order (find-joined_bans [] modes.bans))

over_nothing : (topic : List ℕ) → greater bytes_cmp [] topic ≡ topic
over_nothing [] = refl
over_nothing (byte ∷ topic) = refl

module _ (passes : List ℕ → Bool) where
  -- ---- the members of a row

  -- one entry more, where it passes and none is there
  abbrev row_in : Table Flags → List ℕ × Flags → Table Flags
  row_in table e =
      if passes e.0 && not (is_some (row table e.0)) then alter e.0 (λ _. Some e.1) table else table

  row-in : (es : List (List ℕ × Flags)) (table : Table Flags) (q : List ℕ) → row
      (fold row_in table es) q ≡ either (row table q) (cond (passes q) (find fold_cmp q es) None)
  row-in [] table q =
      sym (ap (either (row table q)) (same_either_way (passes q) None) ∙ either_none (row table q))
  row-in (e ∷ es) table q =
      row-in es (row_in table e) q
      ∙ by_test (passes e.0 && not (is_some (row table e.0))) refl (same_fold q e.0) refl
    where
      taken : (o : Option Flags) → row table e.0 ≡ o → (passes e.0 && not (is_some o)) ≡ false
          → same_fold q e.0 ≡ true → either o (cond (passes q) (find fold_cmp q es) None)
          ≡ either o (cond (passes q) (Some e.1) None)
      taken None at old one =
          let out = ap passes (one_fold q e.0 one) ∙ not_new (passes e.0) old in
          ap (λ b. cond b (find fold_cmp q es) None) out
          ∙ sym (ap (λ b. cond b (Some e.1) None) out)
      taken (Some flags) at old one = refl

      by_test : (c : Bool) → (passes e.0 && not (is_some (row table e.0))) ≡ c → (b : Bool)
          → same_fold q e.0 ≡ b → either (row (cond c (alter e.0 (λ _. Some e.1) table) table) q)
          (cond (passes q) (find fold_cmp q es) None)
          ≡ either (row table q) (cond (passes q) (cond b (Some e.1) (find fold_cmp q es)) None)
      by_test true new true one =
          let parts = and_not _ _ new in
          ap (λ o. either o (cond (passes q) (find fold_cmp q es) None))
          (row-alter e.0 (λ _. Some e.1) table q ∙ ap (λ b. cond b (Some e.1) (row table q)) one)
          ∙ sym (ap (λ o. either o (cond (passes q) (Some e.1) None))
          (ap (row table) (one_fold q e.0 one) ∙ none_if_not_some (row table e.0) parts.1)
          ∙ ap (λ b. cond b (Some e.1) None) (ap passes (one_fold q e.0 one) ∙ parts.0))
      by_test true new false two =
          ap (λ o. either o (cond (passes q) (find fold_cmp q es) None))
          (row-alter e.0 (λ _. Some e.1) table q ∙ ap (λ b. cond b (Some e.1) (row table q)) two)
      by_test false old true one =
          ap (λ o. either o (cond (passes q) (find fold_cmp q es) None))
          (ap (row table) (one_fold q e.0 one))
          ∙ taken (row table e.0) refl old one
          ∙ sym (ap (λ o. either o (cond (passes q) (Some e.1) None))
          (ap (row table) (one_fold q e.0 one)))
      by_test false old false two = refl

  -- all entries of a table
  table_in : (members table : Table Flags)
      → fold row_in table (entries members) ≡ both either table (retain_keys members passes)
  table_in members table = same_table (fold row_in table (entries members))
      (both either table (retain_keys members passes)) (λ q.
      row-in (entries members) table q
      ∙ ap (λ o. either (row table q) (cond (passes q) o None)) (sym (get-entries members q))
      ∙ sym (row-either table (retain_keys members passes) q
      ∙ ap (either (row table q)) (row-kept members passes q)))

  -- ---- the row of a channel to which they come

  abbrev IsFree : Table (Unit {0}) → Type 0
  IsFree invited = (q : List ℕ) → passes q ≡ true → row invited q ≡ None

  some_joins : (name : List ℕ) (es : List (List ℕ × Flags)) (channel : Channel)
      → IsFree channel.invited → fold (entry_joins passes name) (Some channel) es
      ≡ Some (record channel { members = fold row_in channel.members es })
  some_joins name [] channel free = refl
  some_joins name (e ∷ es) channel free =
      by_test (passes e.0 && not (is_some (row channel.members e.0))) refl
      (some_joins name es (record channel { members = alter e.0 (λ _. Some e.1) channel.members })
      free) (some_joins name es channel free)
    where
      by_test : (b : Bool) → (passes e.0 && not (is_some (row channel.members e.0))) ≡ b
          → fold (entry_joins passes name)
          (Some (record channel { members = alter e.0 (λ _. Some e.1) channel.members })) es
          ≡ Some (record channel {
            members = fold row_in
                (alter e.0 (λ _. Some e.1) channel.members) es;
          })
          → fold (entry_joins passes name) (Some channel) es
          ≡ Some (record channel { members = fold row_in channel.members es })
          → fold (entry_joins passes name)
          (cond b (Some (with_member e.0 e.1 channel)) (Some channel)) es
          ≡ Some (record channel {
            members = fold row_in
                (cond b (alter e.0 (λ _. Some e.1) channel.members) channel.members) es;
          })
      by_test true new more less =
          ap (λ (t : Table (Unit {0})). fold (entry_joins passes name) (Some (record channel
          { members = alter e.0 (λ _. Some e.1) channel.members; invited = t })) es)
          (alter_same e.0 (λ _. None) channel.invited (sym (free e.0 (and_not _ _ new).0)))
          ∙ more
      by_test false old more less = less

  new_free : (fold : List ℕ) → alter fold (λ _. None) empty ≡ empty {X = Unit {0}} {R = fold_cmp}
  new_free fold = alter_same fold (λ _. None) empty (sym (get-empty fold_cmp fold))

  empty_free : IsFree empty
  empty_free q pass = get-empty fold_cmp q

  -- where there was no channel, one is made by the first who comes
  none_joins : (name : List ℕ) (es : List (List ℕ × Flags)) → fold (entry_joins passes name) None es
      ≡ while_members (record (new_channel name) { members = fold row_in empty es })
  none_joins name [] = sym (ap (λ b. cond b None (Some (new_channel name)))
      (no_row {X = Flags} empty (λ q. get-empty fold_cmp q)))
  none_joins name (e ∷ es) = by_test (passes e.0) (none_joins name es)
    where
      by_new : (b : Bool) → is_some (row (empty {X = Flags} {R = fold_cmp}) e.0) ≡ b
          → b ≡ false → fold (entry_joins passes name)
          (Some (record (new_channel name) { members = alter e.0 (λ _. Some e.1) empty })) es
          ≡ while_members (record (new_channel name) {
            members = fold row_in
                (cond (not b) (alter e.0 (λ _. Some e.1) empty) empty) es;
          })
      by_new true is none = cc
      by_new false is none =
          some_joins name es
          (record (new_channel name) { members = alter e.0 (λ _. Some e.1) empty }) empty_free
          ∙ sym (ap (λ b. cond b None (Some (record (new_channel name) {
            members = fold row_in
                (alter e.0 (λ _. Some e.1) empty) es;
          })))
          (some_key (fold row_in (alter e.0 (λ _. Some e.1) empty) es) e.0
          (ap is_some (row-in es (alter e.0 (λ _. Some e.1) empty) e.0
          ∙ ap (λ o. either o (cond (passes e.0) (find fold_cmp e.0 es) None))
          (row-alter e.0 (λ _. Some e.1) empty e.0
          ∙ ap (λ b. cond b (Some e.1) (row empty e.0)) (same_fold-refl e.0))))))

      by_test : (b : Bool) → fold (entry_joins passes name) None es
          ≡ while_members (record (new_channel name) { members = fold row_in empty es })
          → fold (entry_joins passes name) (cond (b && true) (comes_to name e.0 e.1 None) None) es
          ≡ while_members (record (new_channel name) {
            members = fold row_in
                (cond (b && not (is_some (row (empty {X = Flags} {R = fold_cmp}) e.0)))
                (alter e.0 (λ _. Some e.1) empty) empty) es;
          })
      by_test true rest =
          ap (λ (t : Table (Unit {0})). fold (entry_joins passes name) (Some (record (new_channel
          name) { members = alter e.0 (λ _. Some e.1) empty; invited = t })) es)
          (new_free e.0)
          ∙ by_new (is_some (row (empty {X = Flags} {R = fold_cmp}) e.0)) refl
          (ap is_some (get-empty {X = Flags} fold_cmp e.0))
      by_test false rest = rest

  -- ---- the members that a burst tells

  by_folds : (name : List ℕ) (members : List (List ℕ × Flags)) (x : Option Channel) → fold
      (member_joins passes name) x members ≡ fold (entry_joins passes name) x (folded members)
  by_folds name [] x = refl
  by_folds name (member ∷ members) x = by_folds name members (member_joins passes name x member)

  -- whether one of these is new in a table
  abbrev any_new : Table Flags → List (List ℕ × Flags) → Bool
  any_new table es =
      list_any (λ (e : List ℕ × Flags). passes e.0 && not (is_some (row table e.0))) es

  none_new : (es : List (List ℕ × Flags)) (table : Table Flags) → any_new table es ≡ false
      → fold row_in table es ≡ table
  none_new [] table none = refl
  none_new (e ∷ es) table none =
      let parts = or_parts _ _ none in
      ap (λ b. fold row_in (cond b (alter e.0 (λ _. Some e.1) table) table) es) parts.0
      ∙ none_new es table parts.1

  -- the spelling of a line counts where one of its members is new
  spelled_where_new : (name : List ℕ) (members : List (List ℕ × Flags)) (channel : Channel)
      → row_spelled name (row_new passes name (Some channel) members) (Some channel)
      ≡ Some (record channel {
        name = cond (any_new channel.members (folded members))
            (greater bytes_cmp channel.name name) channel.name;
      })
  spelled_where_new name [] channel = refl
  spelled_where_new name (member ∷ members) channel =
      by_test (passes (key member.0) && not (is_some (row channel.members (key member.0))))
      (spelled_where_new name members channel)
    where
      by_test : (b : Bool)
          → row_spelled name (row_new passes name (Some channel) members) (Some channel)
          ≡ Some (record channel {
            name = cond (any_new channel.members (folded members))
                (greater bytes_cmp channel.name name) channel.name;
          })
          → row_spelled name (cond b (member ∷ row_new passes name
          (comes_to name (key member.0) member.1 (Some channel)) members)
          (row_new passes name (Some channel) members)) (Some channel)
          ≡ Some (record channel {
            name = cond (b || any_new channel.members (folded members))
                (greater bytes_cmp channel.name name) channel.name;
          })
      by_test true rest = refl
      by_test false rest = rest

  -- a channel where these come
  abbrev with_all : List ℕ → List (List ℕ × Flags) → Channel → Channel
  with_all name es channel = record channel {
    name = cond (any_new channel.members es) (greater bytes_cmp channel.name name) channel.name;
    members = fold row_in channel.members es;
  }

  line_comes : (name : List ℕ) (line : List (List ℕ × Flags)) (channel : Channel)
      → IsFree channel.invited
      → line_in passes name (Some channel) line ≡ Some (with_all name (folded line) channel)
  line_comes name line channel free =
      ap (λ x. fold (member_joins passes name) x line) (spelled_where_new name line channel)
      ∙ by_folds name line _
      ∙ some_joins name (folded line)
      (record channel {
        name = cond (any_new channel.members (folded line))
            (greater bytes_cmp channel.name name) channel.name;
      }) free

  greater_again : (one other : List ℕ)
      → greater bytes_cmp (greater bytes_cmp one other) other ≡ greater bytes_cmp one other
  greater_again one other =
      greater_associates one other other ∙ ap (greater bytes_cmp one) (greater_with_itself other)

  -- one line after another is all of them at once
  both_come : (name : List ℕ) (a b : List (List ℕ × Flags)) (channel : Channel)
      → with_all name b (with_all name a channel) ≡ with_all name (a ++ b) channel
  both_come name a b channel = λ i. record channel {
    name = (by_test (any_new channel.members a) refl
        ∙ ap (λ c. cond c (greater bytes_cmp channel.name name) channel.name)
        (sym (list_any-append (λ (e : List ℕ × Flags). passes e.0
        && not (is_some (row channel.members e.0))) a b))) i;
    members = sym (fold-append row_in channel.members a b) i;
  }
    where
      by_test : (c : Bool) → any_new channel.members a ≡ c
          → cond (any_new (fold row_in channel.members a) b)
          (greater bytes_cmp (cond c (greater bytes_cmp channel.name name) channel.name) name)
          (cond c (greater bytes_cmp channel.name name) channel.name)
          ≡ cond (c || any_new channel.members b) (greater bytes_cmp channel.name name) channel.name
      by_test true some =
          ap (λ t. cond (any_new (fold row_in channel.members a) b) t
          (greater bytes_cmp channel.name name)) (greater_again channel.name name)
          ∙ same_either_way (any_new (fold row_in channel.members a) b)
          (greater bytes_cmp channel.name name)
      by_test false none =
          ap (λ t. cond (any_new t b) (greater bytes_cmp channel.name name) channel.name)
          (none_new a channel.members none)

  lines_come : (name : List ℕ) (lines : List (List (List ℕ × Flags))) (channel : Channel)
      → IsFree channel.invited → fold (line_in passes name) (Some channel) lines
      ≡ Some (with_all name (folded (joined_lines lines)) channel)
  lines_come name [] channel free = refl
  lines_come name (line ∷ lines) channel free =
      ap (λ x. fold (line_in passes name) x lines) (line_comes name line channel free)
      ∙ lines_come name lines (with_all name (folded line) channel) free
      ∙ ap Some (both_come name (folded line) (folded (joined_lines lines)) channel)
      ∙ ap (λ es. Some (with_all name es channel))
      (sym (map-append (λ (m : List ℕ × Flags). (key m.0, m.1)) line (joined_lines lines)))

  -- a channel that is made by those lines has their spelling
  abbrev IsTheirs : List ℕ → Option Channel → Type 0
  IsTheirs name None = Unit {0}
  IsTheirs name (Some channel) = (channel.name ≡ name) × IsFree channel.invited

  theirs_come : (name : List ℕ) (lines : List (List (List ℕ × Flags))) (x : Option Channel)
      → IsTheirs name x → fold (line_in passes name) x lines ≡ fold (entry_joins passes name) x
      (folded (joined_lines lines))
  theirs_come name [] x theirs = refl
  theirs_come name (line ∷ lines) x theirs =
      ap (λ y. fold (line_in passes name) y lines) (one_line x theirs)
      ∙ theirs_come name lines (fold (entry_joins passes name) x (folded line))
      (still_theirs x theirs)
      ∙ sym (ap (fold (entry_joins passes name) x)
      (map-append (λ (m : List ℕ × Flags). (key m.0, m.1)) line (joined_lines lines))
      ∙ fold-append (entry_joins passes name) x (folded line) (folded (joined_lines lines)))
    where
      spelled_none : (news : List (List ℕ × Flags)) → row_spelled name news None ≡ None
      spelled_none [] = refl
      spelled_none (member ∷ news) = refl

      one_line : (x : Option Channel) → IsTheirs name x
          → line_in passes name x line ≡ fold (entry_joins passes name) x (folded line)
      one_line None theirs =
          ap (λ y. fold (member_joins passes name) y line)
          (spelled_none (row_new passes name None line)) ∙ by_folds name line None
      one_line (Some channel) theirs =
          line_comes name line channel theirs.1
          ∙ ap (λ t. Some (record channel {
            name = cond (any_new channel.members (folded line)) t
                channel.name;
            members = fold row_in channel.members (folded line);
          }))
          (ap (greater bytes_cmp channel.name) (sym theirs.0) ∙ greater_with_itself channel.name)
          ∙ ap (λ t. Some
          (record channel { name = t; members = fold row_in channel.members (folded line) }))
          (same_either_way (any_new channel.members (folded line)) channel.name)
          ∙ sym (some_joins name (folded line) channel theirs.1)

      made : (members : Table Flags)
          → IsTheirs name (while_members (record (new_channel name) { members = members }))
      made members = by_test (is_nil (keys members))
        where
          by_test : (b : Bool)
              → IsTheirs name (cond b None (Some (record (new_channel name) { members = members })))
          by_test true = tt
          by_test false = (refl, empty_free)

      still_theirs : (x : Option Channel) → IsTheirs name x
          → IsTheirs name (fold (entry_joins passes name) x (folded line))
      still_theirs None theirs = subst (IsTheirs name) (sym (none_joins name (folded line)))
          (made (fold row_in empty (folded line)))
      still_theirs (Some channel) theirs =
          subst (IsTheirs name) (sym (some_joins name (folded line) channel theirs.1)) theirs

  -- ---- lines that count, and lines that do not

  none_pass : (ks : List (List ℕ)) → ((q : List ℕ) → list_any (same_fold q) ks ≡ true
      → passes q ≡ false) → list_any passes ks ≡ false
  none_pass [] fail = refl
  none_pass (k ∷ ks) fail =
      or_from (passes k) (list_any passes ks)
      (fail k (ap (λ b. b || list_any (same_fold k) ks) (same_fold-refl k)))
      (none_pass ks (λ q there. fail q (or_right (same_fold q k) _ there)))

  pub one_passes : (q : List ℕ) (ks : List (List ℕ)) → list_any (same_fold q) ks ≡ true
      → passes q ≡ true → list_any passes ks ≡ true
  one_passes q [] there pass = there
  one_passes q (k ∷ ks) there pass =
      by_fold (same_fold q k) refl there (λ rest. one_passes q ks rest pass)
    where
      by_fold : (b : Bool) → same_fold q k ≡ b → (b || list_any (same_fold q) ks) ≡ true
          → (list_any (same_fold q) ks ≡ true → list_any passes ks ≡ true)
          → (passes k || list_any passes ks) ≡ true
      by_fold true one there rest =
          ap (λ b. b || list_any passes ks) (ap passes (sym (one_fold q k one)) ∙ pass)
      by_fold false two there rest = or_right (passes k) (list_any passes ks) (rest there)

  sets_stay : (x : Option Channel) (lines : List (List ModeChange)) → row_far passes x ≡ false
      → fold (row_set passes) x lines ≡ x
  sets_stay x [] near = refl
  sets_stay x (line ∷ lines) near =
      ap (λ b. fold (row_set passes) (cond b (option_map (all_raised line) x) x) lines) near
      ∙ sets_stay x lines near

  topic_stays : (x : Option Channel) (topic : List ℕ) → row_far passes x ≡ false
      → topic_row passes topic x ≡ x
  topic_stays x [] near = refl
  topic_stays x (byte ∷ topic) near =
      ap (λ b. cond b (option_map (topic_raised (byte ∷ topic)) x) x) near

  -- where nobody is behind the link, modes, bans and topic are left as they are
  left_alone : (modes : Modes) (topic : List ℕ) (x : Option Channel) → row_far passes x ≡ false
      → topic_row passes topic (modes_row passes modes x) ≡ x
  left_alone modes topic x near =
      ap (topic_row passes topic) (sets_stay x (mode_lines modes) near) ∙ topic_stays x topic near

  -- where somebody is, what raises something is set
  pub lines_count : (lines : List (List ModeChange)) (channel : Channel)
      → list_any passes (keys channel.members) ≡ true
      → AllByRecursion (λ line. list_all is_plain line ≡ true) lines → fold (row_set passes)
      (Some channel) lines ≡ Some (record channel { modes = fold line_raised channel.modes lines })
  lines_count [] channel far plain = refl
  lines_count (line ∷ lines) channel far plain =
      ap (λ b. fold (row_set passes)
      (cond b (Some (all_raised line channel)) (Some channel)) lines) far
      ∙ ap (λ c. fold (row_set passes) (Some c) lines)
      (only_modes (raising line channel.modes) channel (raising_plain line channel.modes plain.0))
      ∙ lines_count lines (record channel { modes = line_raised channel.modes line }) far plain.1

  topic_counts : (topic : List ℕ) (channel : Channel) → list_any passes (keys channel.members)
      ≡ true → topic_row passes topic (Some channel) ≡ Some (topic_raised topic channel)
  topic_counts [] channel far =
      ap (λ t. Some (record channel { topic = t })) (sym (over_none channel.topic))
    where
      over_none : (topic : List ℕ) → greater bytes_cmp topic [] ≡ topic
      over_none [] = refl
      over_none (byte ∷ topic) = refl
  topic_counts (byte ∷ topic) channel far =
      ap (λ b. cond b (Some (topic_raised (byte ∷ topic) channel)) (Some channel)) far

  all_joined : (modes : Modes) (topic : List ℕ) (channel : Channel)
      → list_any passes (keys channel.members) ≡ true → IsBanList channel.modes.bans
      → AreWithinLimits modes → topic_row passes topic (modes_row passes modes (Some channel))
      ≡ Some (record channel {
        modes = joined_modes channel.modes modes;
        topic = greater bytes_cmp channel.topic topic;
      })
  all_joined modes topic channel far rising within =
      ap (topic_row passes topic)
      (lines_count (mode_lines modes) channel far (lines_plain modes)
      ∙ ap (λ (m : Modes). Some (record channel { modes = m })) (raised_is_joined
      (mode_lines modes) channel.modes modes rising within (all_mode_lines modes)))
      ∙ topic_counts topic (record channel { modes = joined_modes channel.modes modes }) far

  -- ---- a channel that is told where it may be already

  -- somebody is in it, of those who pass nobody is in it or invited to it, and its bans are in
  -- order
  pub record IsNear (channel : Channel) : Type 0 where
    pub members : (q : List ℕ) → passes q ≡ true → row channel.members q ≡ None
    pub invited : (q : List ℕ) → passes q ≡ true → row channel.invited q ≡ None
    pub some_member : is_nil (keys channel.members) ≡ false
    pub rising : IsBanList channel.modes.bans

  abbrev pub IsNearRow : Option Channel → Type 0
  IsNearRow None = Unit {0}
  IsNearRow (Some channel) = IsNear channel

  told_folds : (users : Table User) (channel : Channel) → IsTellable users channel
      → folded (joined_lines (in_lines members_a_line (stored_members users channel)))
      ≡ entries channel.members
  told_folds users channel told =
      ap folded (all_in_lines members_a_line (stored_members users channel) (omega arith))
      ∙ stored_folded users (entries channel.members)
      (entries_pass (StandsThere users) (entries channel.members)
      (λ q there. stands users channel told q (sym (row-keys channel.members q) ∙ there)))

  -- those who are kept of its members are those who pass
  any_kept : (es : List (List ℕ × Flags)) → is_nil (map (λ e. e.0) (filter (λ e. passes e.0) es))
      ≡ not (list_any (λ (e : List ℕ × Flags). passes e.0) es)
  any_kept [] = refl
  any_kept (e ∷ es) = by_test (passes e.0) (any_kept es)
    where
      by_test : (b : Bool) → is_nil (map (λ e. e.0) (filter (λ e. passes e.0) es)) ≡ not (list_any
          (λ (e : List ℕ × Flags). passes e.0) es) → is_nil (map (λ (e : List ℕ × Flags). e.0)
          (cond b (e ∷ filter (λ e. passes e.0) es) (filter (λ e. passes e.0) es)))
          ≡ not (b || list_any (λ (e : List ℕ × Flags). passes e.0) es)
      by_test true rest = refl
      by_test false rest = rest

  near_new : (table : Table Flags) → ((q : List ℕ) → passes q ≡ true → row table q ≡ None)
      → (es : List (List ℕ × Flags))
      → any_new table es ≡ list_any (λ (e : List ℕ × Flags). passes e.0) es
  near_new table near [] = refl
  near_new table near (e ∷ es) = λ i. by_test (passes e.0) refl i || near_new table near es i
    where
      by_test : (b : Bool) → passes e.0 ≡ b → (b && not (is_some (row table e.0))) ≡ b
      by_test true pass = ap (λ o. not (is_some o)) (near e.0 pass)
      by_test false fails = refl

  -- the channel when the members have come
  abbrev pub come : Channel → Channel → Channel
  come channel ours = record ours {
    name = if is_nil (keys (retain_keys channel.members passes)) then ours.name
        else greater bytes_cmp ours.name channel.name;
    members = both either ours.members (retain_keys channel.members passes);
  }

  pub some_come : (users : Table User) (channel ours : Channel) → IsTellable users channel
      → IsNear ours → members_row passes users channel (Some ours) ≡ Some (come channel ours)
  some_come users channel ours told near =
      lines_come channel.name
      (in_lines members_a_line (stored_members users channel)) ours near.invited
      ∙ ap (λ es. Some (with_all channel.name es ours)) (told_folds users channel told)
      ∙ (λ i. Some (record ours {
        name = cond (near_new ours.members near.members (entries channel.members) i)
            (greater bytes_cmp ours.name channel.name) ours.name;
        members = table_in channel.members ours.members i;
      }))
      ∙ ap (λ t. Some (record ours {
        name = t;
        members = both either ours.members (retain_keys channel.members passes);
      }))
      (turned (list_any (λ (e : List ℕ × Flags). passes e.0) (entries channel.members))
      ∙ ap (λ b. cond b ours.name (greater bytes_cmp ours.name channel.name))
      (sym (ap (λ (es : List (List ℕ × Flags)). is_nil (map (λ e. e.0) es))
      (entries_kept channel.members passes) ∙ any_kept (entries channel.members))))
    where
      turned : (b : Bool) → cond b (greater bytes_cmp ours.name channel.name) ours.name
          ≡ cond (not b) ours.name (greater bytes_cmp ours.name channel.name)
      turned true = refl
      turned false = refl

  pub none_come : (users : Table User) (channel : Channel) → IsTellable users channel
      → members_row passes users channel None ≡ while_members
      (record (new_channel channel.name) { members = retain_keys channel.members passes })
  none_come users channel told =
      theirs_come channel.name (in_lines members_a_line (stored_members users channel)) None tt
      ∙ ap (fold (entry_joins passes channel.name) None) (told_folds users channel told)
      ∙ none_joins channel.name (entries channel.members)
      ∙ ap (λ (t : Table Flags). while_members (record (new_channel channel.name) { members = t }))
      (table_in channel.members empty ∙ empty_with (retain_keys channel.members passes))

  kept_pass : (table : Table Flags) (q : List ℕ) → is_some (row (retain_keys table passes) q) ≡ true
      → passes q ≡ true
  kept_pass table q there = by_test (passes q) (sym (ap is_some (row-kept table passes q)) ∙ there)
    where
      by_test : (b : Bool) → is_some (cond b (row table q) None) ≡ true → b ≡ true
      by_test true there = refl
      by_test false there = there

  -- where one is kept, somebody of the channel is behind the link
  pub kept_far : (table more : Table Flags) → is_nil (keys (retain_keys table passes)) ≡ false
      → list_any passes (keys (both either more (retain_keys table passes))) ≡ true
  kept_far table more some =
      let found = some_row (retain_keys table passes) some in
      one_passes found.0 (keys (both either more (retain_keys table passes)))
      (row-keys (both either more (retain_keys table passes)) found.0
      ∙ ap is_some (row-either more (retain_keys table passes) found.0)
      ∙ either_second (row more found.0) (row (retain_keys table passes) found.0) found.1)
      (kept_pass table found.0 found.1)

  -- and where nobody who passes is in it, nobody is
  pub near_alone : (channel : Channel) → IsNear channel
      → list_any passes (keys channel.members) ≡ false
  near_alone channel near = none_pass (keys channel.members)
      (λ q there. out q (sym (row-keys channel.members q) ∙ there) (passes q) refl)
    where
      out : (q : List ℕ) → is_some (row channel.members q) ≡ true → (b : Bool) → passes q ≡ b
          → b ≡ false
      out q there true pass = absurd (false≢true (sym (ap is_some (near.members q pass)) ∙ there))
      out q there false fails = refl

  pub channel_told : (users : Table User) (channel : Channel) (x : Option Channel)
      → IsTellable users channel → IsNearRow x → channel_row passes users channel x
      ≡ joined_channel x (peopled channel (retain_keys channel.members passes) empty)
  channel_told users channel None told near =
      ap (λ y. topic_row passes channel.topic (modes_row passes channel.modes y))
      (none_come users channel told)
      ∙ by_test (is_nil (keys (retain_keys channel.members passes))) refl
    where
      by_test : (b : Bool) → is_nil (keys (retain_keys channel.members passes)) ≡ b
          → topic_row passes channel.topic (modes_row passes channel.modes
          (cond b None (Some (record
          (new_channel channel.name) { members = retain_keys channel.members passes }))))
          ≡ cond b None (Some
          (record channel { members = retain_keys channel.members passes; invited = empty }))
      by_test true none = left_alone channel.modes channel.topic None refl
      by_test false some =
          all_joined channel.modes channel.topic
          (record (new_channel channel.name) { members = retain_keys channel.members passes })
          (ap (λ (t : Table Flags). list_any passes (keys t)) (sym (empty_with
          (retain_keys channel.members passes))) ∙ kept_far channel.members empty some)
          refl told.modes
          ∙ (λ i. Some (record channel {
            modes = none_joined channel.modes told.modes i;
            topic = over_nothing channel.topic i;
            members = retain_keys channel.members passes;
            invited = empty;
          }))
  channel_told users channel (Some ours) told near =
      ap (λ y. topic_row passes channel.topic (modes_row passes channel.modes y))
      (some_come users channel ours told near)
      ∙ by_test (is_nil (keys (retain_keys channel.members passes))) refl
    where
      by_test : (b : Bool) → is_nil (keys (retain_keys channel.members passes)) ≡ b
          → topic_row passes channel.topic (modes_row passes channel.modes (Some (record ours {
            name = cond b ours.name (greater bytes_cmp ours.name channel.name);
            members = both either ours.members (retain_keys channel.members passes);
          })))
          ≡ joined_channel (Some ours) (cond b None (Some (record channel
          { members = retain_keys channel.members passes; invited = empty })))
      by_test true none =
          ap (λ (t : Table Flags). topic_row passes channel.topic
          (modes_row passes channel.modes (Some (record ours { members = t }))))
          (with_empty ours.members (retain_keys channel.members passes)
          (no_rows (retain_keys channel.members passes) none))
          ∙ left_alone channel.modes channel.topic (Some ours) (near_alone ours near)
      by_test false some =
          all_joined channel.modes channel.topic (record ours {
            name = greater bytes_cmp ours.name channel.name;
            members = both either ours.members (retain_keys channel.members passes);
          })
          (kept_far channel.members ours.members some) near.rising told.modes
          ∙ ap (λ (t : Table (Unit {0})). Some (record {
            name = greater bytes_cmp ours.name channel.name;
            modes = joined_modes ours.modes channel.modes;
            topic = greater bytes_cmp ours.topic channel.topic;
            members = both either ours.members (retain_keys channel.members passes);
            invited = t;
          }))
          (sym (with_empty ours.invited empty (λ q. get-empty fold_cmp q)))
