-- What an index of invitations tells after each change of the table of channels.
use Rattle.std.proofs.Common.{◌≡◌, ℕ, Bool, true, false, cond, not, ◌&&◌, ◌||◌, if◌then◌else◌}
use Rattle.std.proofs.Common.{Option, Some, None, List, [], ◌∷◌, ◌++◌, refl, sym, subst, ◌∙◌, ap}
use Rattle.std.proofs.Common.{is_some, option_map, unwrap_or, map, take, get_or, length, ◌+◌, ◌<◌}
use Rattle.std.proofs.lemmas.List.{map-append, take_more}
use Rattle.std.proofs.lemmas.List.Folds.{list_any-append}
use Rattle.std.specs.Option.{option_and_then}
use Rattle.std.specs.FinMap.{keys, entries, get-empty}
use Rattle.std.proofs.lemmas.Bool.{not-true, cond-true}
use Rattle.std.proofs.Math.Bool.{and-false, false≢true}
use Rattle.irc_names.specs.Lemmas.PlainFacts.{none_if_not_some}
use Rattle.irc_names.specs.Fold.{key}
use Rattle.irc_names.specs.Tables.{Table, fold_cmp, row, alter, each, moved}
use Rattle.irc_names.specs.TableLaws.{same_fold, same_fold-refl, one_fold, row-alter, row-keys}
use Rattle.irc_names.specs.TableLaws.{row-moved, row-moved_none, row-alter_same, same_table}
use Rattle.irc_tables.specs.declared.table.Row.{Row}
use Rattle.irc_tables.specs.RowViews.{row_entry}
use Rattle.irc_channels.specs.declared.channel.Channel.{Channel}
use Rattle.irc_modes.specs.declared.modes.ModeChange.{ModeChange}
use Rattle.irc_modes.specs.Modes.{is_nil}
use Rattle.irc_channels.specs.Channels.{has_member, is_invited, new_channel, joined, left}
use Rattle.irc_channels.specs.Channels.{without_user, while_members, renamed, invited_too, changed}
use Rattle.irc_channels.specs.Channels.{all_changed}
use Rattle.irc_effects.specs.Lemmas.Rows.{if_not, alter_same}
use Rattle.irc_effects.specs.Lemmas.ModesKept.{letter_folk}
use Rattle.irc_room.specs.Indexes.{Index, stands, names_in, folds_of, holds, is_alone}
use Rattle.irc_room.specs.Indexes.{is_ended_with, is_named, is_uninvited, invited_beside}
use Rattle.irc_room.specs.Indexes.{AreIndexed, AreInhabited, Tells, Drops, DropsWhere}
use Rattle.irc_room.specs.Indexes.{TellsOfOthers}
use Rattle.irc_room.specs.Loops.InTurn.{in_turn}
use Rattle.irc_room.proofs.EachInTurn.{all_in_turn, named_told}
use Rattle.irc_room.proofs.IndexChanges.{forgotten}
use Rattle.irc_effects.specs.Lemmas.Members.{taken_out}
use Rattle.irc_room.proofs.Memberships.{said, holds-each}

-- ---- names that are dropped one after another

pub none_dropped : (before : Index) (name : List ℕ) → DropsWhere (is_named []) before before name
none_dropped before name = record { at = λ n c. refl }

pub one_dropped : (names : List (List ℕ)) (nick : List ℕ) (before between after : Index)
    (name : List ℕ) → DropsWhere (is_named names) before between name
    → Drops between after nick name → DropsWhere (is_named (names ++ nick ∷ [])) before after name
one_dropped names nick before between after name drops one = record {
  at = λ n c.
      one.at n c
      ∙ ap (λ b. not (same_fold n nick && same_fold c name) && b) (drops.at n c)
      ∙ by_tests (is_named names n) (same_fold n nick) (same_fold c name) (stands before n c)
      ∙ ap (λ b. not (b && same_fold c name) && stands before n c)
      (sym (list_any-append (same_fold n) names (nick ∷ [])));
}
  where
    by_tests : (a b c d : Bool)
        → (not (b && c) && (not (a && c) && d)) ≡ (not ((a || (b || false)) && c) && d)
    by_tests true true true d = refl
    by_tests true true false d = refl
    by_tests true false true d = refl
    by_tests true false false d = refl
    by_tests false true true d = refl
    by_tests false true false d = refl
    by_tests false false true d = refl
    by_tests false false false d = refl

-- where it is said of the same nicknames
pub dropped_alike : (one other : List ℕ → Bool) (before after : Index) (name : List ℕ)
    → ((n : List ℕ) → one n ≡ other n) → DropsWhere one before after name
    → DropsWhere other before after name
dropped_alike one other before after name alike drops = record {
  at = λ n c. drops.at n c ∙ ap (λ b. not (b && same_fold c name) && stands before n c) (alike n);
}

-- and where it is said of none
pub dropped_none : (gone : List ℕ → Bool) (before : Index) (name : List ℕ)
    → ((n : List ℕ) → gone n ≡ false) → DropsWhere gone before before name
dropped_none gone before name none =
    record { at = λ n c. sym (ap (λ b. not (b && same_fold c name) && stands before n c) (none n)) }

-- ---- one channel

-- who joins is invited no longer
pub joined_asked : (nick name : List ℕ) (op : Bool) (o : Option Channel)
    → said has_member nick o ≡ false → (n : List ℕ)
    → said is_invited n (Some (joined nick op (unwrap_or o (new_channel name))))
    ≡ (not (same_fold n nick) && said is_invited n o)
joined_asked nick name op o out n = by_row o out
  where
    one : (channel : Channel) → has_member nick channel ≡ false
        → is_invited n (joined nick op channel) ≡ (not (same_fold n nick) && is_invited n channel)
    one channel out =
        ap (is_invited n) (if_not (has_member nick channel) channel
        (record channel {
          members = alter nick (λ _. Some (record { op = op; voice = false }))
              channel.members;
          invited = alter nick (λ _. None) channel.invited;
        }) (ap not out))
        ∙ taken_out nick channel.invited n

    by_row : (o : Option Channel) → said has_member nick o ≡ false
        → said is_invited n (Some (joined nick op (unwrap_or o (new_channel name))))
        ≡ (not (same_fold n nick) && said is_invited n o)
    by_row None out =
        one (new_channel name) (ap is_some (get-empty fold_cmp nick))
        ∙ ap (λ b. not (same_fold n nick) && b) (ap is_some (get-empty fold_cmp n))
    by_row (Some channel) out = one channel out

-- who is invited
pub invited_asked : (nick : List ℕ) (o : Option Channel) → said is_uninvited nick o ≡ true
    → (n : List ℕ) → said is_invited n (option_map (invited_too nick) o)
    ≡ (same_fold n nick || said is_invited n o)
invited_asked nick None there n = absurd (false≢true there)
invited_asked nick (Some channel) there n =
    ap is_some (row-alter nick (λ _. Some tt) channel.invited n) ∙ by_fold (same_fold n nick)
  where
    by_fold : (b : Bool) → is_some (cond b (Some tt) (row channel.invited n))
        ≡ (b || is_some (row channel.invited n))
    by_fold true = refl
    by_fold false = refl

-- who cannot be invited is so already, or there is no channel
pub invited_already : (nick : List ℕ) (o : Option Channel) → said is_uninvited nick o ≡ false
    → option_map (invited_too nick) o ≡ o
invited_already nick None out = refl
invited_already nick (Some channel) out =
    ap (λ t. Some (record channel { invited = t }))
    (alter_same nick (λ _. Some tt) channel.invited (by_row (row channel.invited nick) out))
  where
    by_row : (o : Option (Unit {0})) → not (is_some o) ≡ false → Some tt ≡ o
    by_row None out = absurd (false≢true (sym out))
    by_row (Some tt) out = refl

-- the invitations to a channel that ends with a member are gone
pub left_asked : (nick : List ℕ) (o : Option Channel) → said has_member nick o ≡ true
    → (n : List ℕ) → said is_invited n (option_and_then (left nick) o)
    ≡ (not (said (is_ended_with nick) n o) && said is_invited n o)
left_asked nick None there n = absurd (false≢true there)
left_asked nick (Some channel) there n =
    ap (said is_invited n) (cond-true (has_member nick channel)
    (while_members (record channel { members = alter nick (λ _. None) channel.members }))
    (Some channel) there)
    ∙ by_test (is_alone nick channel) (is_invited n channel)
  where
    by_test : (a b : Bool) → said is_invited n (if a then None
        else Some (record channel { members = alter nick (λ _. None) channel.members }))
        ≡ (not (a && is_invited n channel) && is_invited n channel)
    by_test true b = not_both (is_invited n channel)
      where
        not_both : (b : Bool) → false ≡ (not b && b)
        not_both true = refl
        not_both false = refl
    by_test false b = refl

-- a user is gone from a channel, and others are invited to it as they were, if it does not end
pub gone_asked : (nick : List ℕ) (o : Option Channel) (n : List ℕ)
    → said (invited_beside nick) n (option_and_then (without_user nick) o)
    ≡ (not (said (is_ended_with nick) n o) && said (invited_beside nick) n o)
gone_asked nick None n = refl
gone_asked nick (Some channel) n =
    by_test (is_alone nick channel) (is_invited n channel) refl (same_fold n nick) refl
  where
    by_test : (a b : Bool) → is_invited n channel ≡ b → (s : Bool) → same_fold n nick ≡ s → said
        (invited_beside nick) n (if a then None else Some (record channel {
          members = alter nick
              (λ _. None) channel.members;
          invited = alter nick (λ _. None) channel.invited;
        }))
        ≡ (not (a && b) && (not s && b))
    by_test true true is true one = refl
    by_test true true is false one = refl
    by_test true false is true one = refl
    by_test true false is false one = refl
    by_test false b is true one =
        ap (λ s. not s && is_some (row (alter nick (λ _. None) channel.invited) n)) one
    by_test false b is false one =
        ap (λ s. not s && is_some (row (alter nick (λ _. None) channel.invited) n)) one
        ∙ taken_out nick channel.invited n
        ∙ ap (λ s. not s && is_invited n channel) one
        ∙ is

pub invited_changed_modes : (changes : List ModeChange) (n : List ℕ) (channel : Channel)
    → is_invited n (all_changed changes channel) ≡ is_invited n channel
invited_changed_modes [] n channel = refl
invited_changed_modes (c ∷ changes) n channel =
    invited_changed_modes changes n (changed c channel)
    ∙ ap (λ t. is_some (row t n)) (letter_folk c.plus c.letter c.word channel).invited

-- ---- all channels

-- the names by a user are taken out of the index
pub others_at_first : (before after : Index) (nick : List ℕ) (channels : Table Channel)
    → Tells before (holds is_invited channels) → after ≡ alter nick (λ _. None) before
    → TellsOfOthers nick channels after
others_at_first before after nick channels tells is = record {
  at = λ n c. forgotten before after nick is n c
      ∙ ap (λ b. not (same_fold n nick) && b) (tells.at n c) ∙ by_row n (row channels c);
}
  where
    by_row : (n : List ℕ) (o : Option Channel)
        → (not (same_fold n nick) && said is_invited n o) ≡ said (invited_beside nick) n o
    by_row n None = and-false (not (same_fold n nick))
    by_row n (Some channel) = refl

-- where it is invited nowhere the others are all
pub others_are_all : (nick : List ℕ) (channels : Table Channel) (index : Index)
    → TellsOfOthers nick (each (without_user nick) channels) index
    → Tells index (holds is_invited (each (without_user nick) channels))
others_are_all nick channels index tells = record {
  at = λ n c.
      tells.at n c
      ∙ holds-each (invited_beside nick) (without_user nick) channels n c
      ∙ by_row n (row channels c)
      ∙ sym (holds-each is_invited (without_user nick) channels n c);
}
  where
    twice : (s x : Bool) → (not s && (not s && x)) ≡ (not s && x)
    twice true x = refl
    twice false x = refl

    by_test : (n : List ℕ) (channel : Channel) (a : Bool) → said (invited_beside nick) n (if a
        then None else Some (record channel {
          members = alter nick (λ _. None) channel.members;
          invited = alter nick (λ _. None) channel.invited;
        }))
        ≡ said is_invited n (if a then None else Some (record channel {
          members = alter nick
              (λ _. None) channel.members;
          invited = alter nick (λ _. None) channel.invited;
        }))
    by_test n channel true = refl
    by_test n channel false =
        ap (λ b. not (same_fold n nick) && b) (taken_out nick channel.invited n)
        ∙ twice (same_fold n nick) (is_invited n channel)
        ∙ sym (taken_out nick channel.invited n)

    by_row : (n : List ℕ) (o : Option Channel) → said (invited_beside nick) n (option_and_then
        (without_user nick) o) ≡ said is_invited n (option_and_then (without_user nick) o)
    by_row n None = refl
    by_row n (Some channel) = by_test n channel (is_alone nick channel)

-- ---- a user who is in no channel, and invited to none, is gone from it, or has another nickname
-- in it

pub gone_once : (nick : List ℕ) (channel : Channel)
    → option_and_then (without_user nick) (without_user nick channel) ≡ without_user nick channel
gone_once nick channel = by_test (is_alone nick channel) refl
  where
    rest : Channel
    rest = record channel {
      members = alter nick (λ _. None) channel.members;
      invited = alter nick (λ _. None) channel.invited;
    }

    by_test : (a : Bool) → is_alone nick channel ≡ a → option_and_then (without_user nick)
        (if a then None else Some rest) ≡ (if a then None else Some rest)
    by_test true is = refl
    by_test false is =
        (λ i. while_members (record rest {
          members = alter_same nick (λ _. None) rest.members
              (sym (row-alter_same nick (λ _. None) channel.members)) i;
          invited = alter_same nick (λ _. None) rest.invited
              (sym (row-alter_same nick (λ _. None) channel.invited)) i;
        }))
        ∙ if_not (is_alone nick channel) None (Some rest) (ap not is)

pub gone_elsewhere : (nick : List ℕ) (channels : Table Channel) → AreInhabited channels
    → (q : List ℕ) → holds has_member channels nick q ≡ false → holds is_invited channels nick q
    ≡ false → option_and_then (without_user nick) (row channels q) ≡ row channels q
gone_elsewhere nick channels some q out unasked = by_row (row channels q) refl out unasked
  where
    by_row : (o : Option Channel) → row channels q ≡ o → said has_member nick o ≡ false
        → said is_invited nick o ≡ false → option_and_then (without_user nick) o ≡ o
    by_row None at out unasked = refl
    by_row (Some channel) at out unasked =
        (λ i. while_members (record channel {
          members = alter_same nick (λ _. None) channel.members
              (sym (none_if_not_some (row channel.members nick) out)) i;
          invited = alter_same nick (λ _. None) channel.invited
              (sym (none_if_not_some (row channel.invited nick) unasked)) i;
        }))
        ∙ if_not (is_nil (keys channel.members)) None (Some channel) (ap not (some.at q channel at))

module _ {X : Type 0} (nick new : List ℕ) (table : Table X) where
  unmoved : row table nick ≡ None → moved nick new (λ x. x) table ≡ table
  unmoved none = same_table (moved nick new (λ x. x) table) table
      (λ q. row-moved_none nick new (λ x. x) table none q)

  moved_away : same_fold nick new ≡ false → row (moved nick new (λ x. x) table) nick ≡ None
  moved_away two = by_row (row table nick) refl
    where
      by_row : (o : Option X) → row table nick ≡ o → row (moved nick new (λ x. x) table) nick ≡ None
      by_row None none = row-moved_none nick new (λ x. x) table none nick ∙ none
      by_row (Some x) here =
          row-moved nick new (λ x. x) table x here nick
          ∙ ap (λ b. cond b (Some x) (cond (same_fold nick nick) None (row table nick))) two
          ∙ ap (λ b. cond b None (row table nick)) (same_fold-refl nick)

moved_to_itself : {X : Type 0} (nick : List ℕ) (table : Table X)
    → moved nick nick (λ x. x) table ≡ table
moved_to_itself {X} nick table = by_row (row table nick) refl
  where
    by_fold : (x : X) → row table nick ≡ Some x → (q : List ℕ) (b : Bool) → same_fold q nick ≡ b
        → cond b (Some x) (cond b None (row table q)) ≡ row table q
    by_fold x here q true one = sym (ap (row table) (one_fold q nick one) ∙ here)
    by_fold x here q false two = refl

    by_row : (o : Option X) → row table nick ≡ o → moved nick nick (λ x. x) table ≡ table
    by_row None none = unmoved nick nick table none
    by_row (Some x) here =
        same_table (moved nick nick (λ x. x) table) table (λ q. row-moved nick nick
        (λ x. x) table x here q ∙ by_fold x here q (same_fold q nick) refl)

moved_once : {X : Type 0} (nick new : List ℕ) (table : Table X)
    → moved nick new (λ x. x) (moved nick new (λ x. x) table) ≡ moved nick new (λ x. x) table
moved_once {X} nick new table = by_fold (same_fold nick new) refl
  where
    by_fold : (b : Bool) → same_fold nick new ≡ b
        → moved nick new (λ x. x) (moved nick new (λ x. x) table) ≡ moved nick new (λ x. x) table
    by_fold true one =
        ap (λ n. moved nick n (λ x. x) (moved nick new (λ x. x) table))
        (sym (one_fold nick new one))
        ∙ moved_to_itself nick (moved nick new (λ x. x) table)
    by_fold false two =
        unmoved nick new (moved nick new (λ x. x) table) (moved_away nick new table two)

pub renamed_once : (nick new : List ℕ) (channel : Channel)
    → Some (renamed nick new (renamed nick new channel)) ≡ Some (renamed nick new channel)
renamed_once nick new channel = λ i. Some (record channel {
  members = moved_once nick new channel.members i;
  invited = moved_once nick new channel.invited i;
})

pub renamed_elsewhere : (nick new : List ℕ) (channels : Table Channel) (q : List ℕ)
    → holds has_member channels nick q ≡ false → holds is_invited channels nick q ≡ false
    → option_and_then (λ c. Some (renamed nick new c)) (row channels q) ≡ row channels q
renamed_elsewhere nick new channels q out unasked = by_row (row channels q) out unasked
  where
    by_row : (o : Option Channel) → said has_member nick o ≡ false → said is_invited nick o ≡ false
        → option_and_then (λ c. Some (renamed nick new c)) o ≡ o
    by_row None out unasked = refl
    by_row (Some channel) out unasked = λ i. Some (record channel {
      members =
          unmoved nick new channel.members (none_if_not_some (row channel.members nick) out) i;
      invited =
          unmoved nick new channel.invited (none_if_not_some (row channel.invited nick) unasked) i;
    })

-- who is not a member does not leave
pub out_left : (nick : List ℕ) (o : Option Channel) → said has_member nick o ≡ false
    → option_and_then (left nick) o ≡ o
out_left nick None out = refl
out_left nick (Some channel) out =
    if_not (has_member nick channel)
    (while_members (record channel { members = alter nick (λ _. None) channel.members }))
    (Some channel) (ap not out)

pub uninvited_out : (nick : List ℕ) (o : Option Channel) → said is_uninvited nick o ≡ true
    → said is_invited nick o ≡ false
uninvited_out nick None there = refl
uninvited_out nick (Some channel) there = not-true (is_invited nick channel) there

-- ---- what the code goes through, and what it leaves out

module _ (rows : List (Row (Unit {0}))) (i : ℕ) (d : Row (Unit {0}))
    (within : i < length rows) where
  folds_more : folds_of (map row_entry (take (i + 1) rows)) ≡ folds_of (map row_entry (take i rows))
      ++ key (get_or rows i d).name.items ∷ []
  folds_more =
      ap (λ (rs : List (Row (Unit {0}))). folds_of (map row_entry rs)) (take_more rows i d within)
      ∙ ap folds_of (map-append (row_entry {V = Unit {0}}) (take i rows) (get_or rows i d ∷ []))
      ∙ map-append (λ (e : List ℕ × Unit {0}). e.0) (map row_entry (take i rows))
      (row_entry (get_or rows i d) ∷ [])

  pub row_dropped : (before between after : Index) (name bytes : List ℕ)
      → bytes ≡ (get_or rows i d).name.items
      → DropsWhere (is_named (folds_of (map row_entry (take i rows)))) before between name
      → Drops between after (key bytes) name
      → DropsWhere (is_named (folds_of (map row_entry (take (i + 1) rows)))) before after name
  row_dropped before between after name bytes is drops one =
      subst (λ folds. DropsWhere (is_named folds) before after name) (sym folds_more)
      (one_dropped (folds_of (map row_entry (take i rows)))
      (key (get_or rows i d).name.items) before between after name drops
      (subst (λ b. Drops between after (key b) name) is one))

-- where a channel ends with a user, all invitations to it are dropped, and else none is
pub ended_rows : (channels : Table Channel) (nick name : List ℕ) (channel : Channel)
    (es : List (List ℕ × Unit {0})) → Some channel ≡ row channels name
    → is_alone nick channel ≡ true → es ≡ entries channel.invited → (n : List ℕ)
    → is_named (folds_of es) n ≡ holds (is_ended_with nick) channels n name
ended_rows channels nick name channel es is alone are n =
    ap (λ xs. is_named (folds_of xs) n) are
    ∙ row-keys channel.invited n
    ∙ sym (ap (said (is_ended_with nick) n) (sym is) ∙ ap (λ b. b && is_invited n channel) alone)

pub not_ended : (channels : Table Channel) (nick name : List ℕ) (channel : Channel)
    → Some channel ≡ row channels name → is_alone nick channel ≡ false → (n : List ℕ)
    → holds (is_ended_with nick) channels n name ≡ false
not_ended channels nick name channel is others n = ap (said (is_ended_with nick) n) (sym is)
    ∙ ap (λ b. b && is_invited n channel) others

pub none_ended : (channels : Table Channel) (nick name : List ℕ) → None ≡ row channels name
    → (n : List ℕ) → holds (is_ended_with nick) channels n name ≡ false
none_ended channels nick name is n = ap (said (is_ended_with nick) n) (sym is)

module _ (channels : Table Channel) (of_members of_invited : Index) (nick : List ℕ)
    (indexed : AreIndexed channels of_members of_invited)
    (one other : List (List ℕ × Unit {0})) (one_is : one ≡ names_in (row of_members nick))
    (other_is : other ≡ names_in (row of_invited nick)) where
  is_member_of : (q : List ℕ) → is_named (folds_of one) q ≡ holds has_member channels nick q
  is_member_of = named_told has_member of_members channels nick one indexed.joined one_is

  is_invited_to : (q : List ℕ) → is_named (folds_of other) q ≡ holds is_invited channels nick q
  is_invited_to = named_told is_invited of_invited channels nick other indexed.invited other_is

  -- a user is gone from all channels when it is gone from its own
  pub gone_in_turn : AreInhabited channels → in_turn (without_user nick) (folds_of other)
      (in_turn (without_user nick) (folds_of one) channels) ≡ each (without_user nick) channels
  gone_in_turn some =
      all_in_turn (without_user nick) (gone_once nick) (folds_of one) (folds_of other) channels
      (λ q x y. gone_elsewhere nick channels some q (sym (is_member_of q) ∙ x)
      (sym (is_invited_to q) ∙ y))

  -- and so it is with its nickname
  pub renamed_in_turn : (new : List ℕ) → in_turn (λ c. Some (renamed nick new c)) (folds_of other)
      (in_turn (λ c. Some (renamed nick new c)) (folds_of one) channels)
      ≡ each (λ c. Some (renamed nick new c)) channels
  renamed_in_turn new =
      all_in_turn (λ c. Some (renamed nick new c)) (renamed_once nick new) (folds_of one)
      (folds_of other) channels
      (λ q x y. renamed_elsewhere nick new channels q (sym (is_member_of q) ∙ x)
      (sym (is_invited_to q) ∙ y))

-- the same name by the same nickname
pub drops_of : (before after : Index) (one nick other name : List ℕ) → one ≡ nick → other ≡ name
    → Drops before after (key one) (key other) → Drops before after (key nick) (key name)
drops_of before after one nick other name is too drops =
    subst (λ n. Drops before after (key n) (key name)) is
    (subst (λ q. Drops before after (key one) (key q)) too drops)
