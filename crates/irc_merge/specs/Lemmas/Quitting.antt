-- What is left in a room where several users have quit.
use Rattle.std.proofs.Common.{◌≡◌, ℕ, Bool, true, false, cond, ◌||◌, not, Option, Some, None, List}
use Rattle.std.proofs.Common.{[], ◌∷◌, refl, sym, ◌∙◌, ap, map, filter, is_some}
use Rattle.std.proofs.lemmas.Bool.{and_parts}
use Rattle.std.specs.List.{list_any, AllByRecursion}
use Rattle.std.specs.Option.{option_and_then, option_map_or}
use Rattle.std.specs.FinMap.{entries, entries_sorted, values, keys, retain_keys, find, is_sorted}
use Rattle.std.specs.FinMap.{get-entries}
use Rattle.std.specs.FinMap.Entries.{below_all}
use Rattle.std.proofs.Math.Bool.{false≢true}
use Rattle.std.proofs.lemmas.Option.{none-some}
use Rattle.irc_names.specs.Lemmas.PlainFacts.{is_true}
use Rattle.irc_names.specs.Fold.{key}
use Rattle.irc_names.specs.Tables.{Table, fold_cmp, row, alter}
use Rattle.irc_names.specs.TableLaws.{same_fold, one_fold, same_table, row-alter, row-each}
use Rattle.irc_users.specs.declared.user.User.{User}
use Rattle.irc_channels.specs.declared.channel.Channel.{Channel}
use Rattle.irc_channels.specs.declared.flags.Flags.{Flags}
use Rattle.irc_modes.specs.Modes.{is_nil}
use Rattle.irc_channels.specs.Channels.{while_members, without_user}
use Rattle.irc_room.specs.effect.Effect.TheVariants.{Quit}
use Rattle.irc_room.specs.Room.{Room, IsWellFormed, IsSoundRow}
use Rattle.irc_room.specs.After.{after}
use Rattle.irc_room.specs.InTurn.{after_all}
use Rattle.irc_room.specs.Lemmas.Rows.{no_row, some_key}
use Rattle.irc_room.specs.Lemmas.SoundRows.{without_sound}
use Rattle.irc_room.specs.Lemmas.ViewerLaws.{IsNamed, table_named}
use Rattle.irc_merge.specs.Quits.{quits_of}
use Rattle.irc_merge.specs.Lemmas.TableWords.{row-kept, absent}

-- whether the user with a fold is one of these
abbrev pub among : List User → List ℕ → Bool
among users fold = list_any (λ (user : User). same_fold fold (key user.nick)) users

twice_gone : {X : Type 0} (b c : Bool) (o : Option X)
    → cond b None (cond c None o) ≡ cond (c || b) None o
twice_gone true true o = refl
twice_gone true false o = refl
twice_gone false true o = refl
twice_gone false false o = refl

pub users_left : (room : Room) (text : List ℕ) (users : List User) (q : List ℕ) → row
    (after_all room (quits_of text users)).users q ≡ cond (among users q) None (row room.users q)
unfolding after
users_left room text [] q = refl
users_left room text (user ∷ users) q =
    users_left (after room (Quit user.nick text)) text users q
    ∙ ap (cond (among users q) None) (row-alter (key user.nick) (λ _. None) room.users q)
    ∙ twice_gone (among users q) (same_fold q (key user.nick)) (row room.users q)

-- ---- a room stays well formed when anybody quits

pub quit_well : (room : Room) (nick text : List ℕ) → IsWellFormed room
    → IsWellFormed (after room (Quit nick text))
unfolding after
quit_well room nick text well = record {
  users_named = λ fold user is. by_fold fold user (same_fold fold (key nick))
      (sym (row-alter (key nick) (λ _. None) room.users fold) ∙ is);
  channels_sound = λ fold channel is. by_row fold channel (row room.channels fold) refl
      (sym (row-each (without_user (key nick)) room.channels fold) ∙ is);
}
  where
    by_fold : (fold : List ℕ) (user : User) (b : Bool)
        → cond b None (row room.users fold) ≡ Some user → key user.nick ≡ fold
    by_fold fold user true is = absurd (none-some user is)
    by_fold fold user false is = well.users_named fold user is

    by_row : (fold : List ℕ) (channel : Channel) (o : Option Channel)
        → row room.channels fold ≡ o → option_and_then (without_user (key nick)) o ≡ Some channel
        → IsSoundRow (alter (key nick) (λ _. None) room.users) fold channel
    by_row fold channel None at is = absurd (none-some channel is)
    by_row fold channel (Some before) at is = without_sound room.users fold
        (key nick) before channel (well.channels_sound fold before at) is

pub quits_well : (room : Room) (text : List ℕ) (users : List User) → IsWellFormed room
    → IsWellFormed (after_all room (quits_of text users))
quits_well room text [] well = well
quits_well room text (user ∷ users) well =
    quits_well (after room (Quit user.nick text)) text users (quit_well room user.nick text well)

-- ---- a channel that several users have left

-- a channel with these members and these invited, if there is a member
abbrev pub peopled : Channel → Table Flags → Table (Unit {0}) → Option Channel
peopled channel members invited =
    while_members (record channel { members = members; invited = invited })

-- without all whose folds pass a test
abbrev pub thinned : (List ℕ → Bool) → Channel → Option Channel
thinned gone channel = peopled channel (retain_keys channel.members (λ q. not (gone q)))
    (retain_keys channel.invited (λ q. not (gone q)))

not_kept : {X : Type 0} (b : Bool) (o : Option X) → cond (not b) o None ≡ cond b None o
not_kept true o = refl
not_kept false o = refl

-- one row is taken out, and then all that pass a test
pub thin_rows : {X : Type 0} (fold : List ℕ) (gone : List ℕ → Bool) (table : Table X)
    → retain_keys (alter fold (λ _. None) table) (λ q. not (gone q)) ≡ retain_keys table
    (λ q. not (same_fold q fold || gone q))
thin_rows fold gone table = same_table (retain_keys (alter fold (λ _. None) table)
    (λ q. not (gone q))) (retain_keys table (λ q. not (same_fold q fold || gone q))) (λ q.
    row-kept (alter fold (λ _. None) table) (λ q. not (gone q)) q
    ∙ not_kept (gone q) (row (alter fold (λ _. None) table) q)
    ∙ ap (cond (gone q) None) (row-alter fold (λ _. None) table q)
    ∙ twice_gone (gone q) (same_fold q fold) (row table q)
    ∙ sym (not_kept (same_fold q fold || gone q) (row table q))
    ∙ sym (row-kept table (λ q. not (same_fold q fold || gone q)) q))

-- a table that is empty has nothing to keep
none_kept : {X : Type 0} (table : Table X) (p : List ℕ → Bool) → is_nil (keys table) ≡ true
    → is_nil (keys (retain_keys table p)) ≡ true
none_kept {X} table p none =
    no_row (retain_keys table p) (λ q. row-kept table p q ∙ by_row q (p q) (row table q) refl)
  where
    by_row : (q : List ℕ) (b : Bool) (o : Option X) → row table q ≡ o
        → cond b (row table q) None ≡ None
    by_row q true None at = at
    by_row q true (Some x) at =
        absurd (false≢true (sym (sym none ∙ some_key table q (ap is_some at))))
    by_row q false o at = refl

thin_after : (fold : List ℕ) (gone : List ℕ → Bool) (channel : Channel) → option_and_then
    (thinned gone) (without_user fold channel) ≡ thinned (λ q. same_fold q fold || gone q) channel
thin_after fold gone channel = by_test (is_nil (keys (alter fold (λ _. None) channel.members))) refl
  where
    rest : Option Channel
    rest =
        peopled channel (retain_keys (alter fold (λ _. None) channel.members) (λ q. not (gone q)))
        (retain_keys (alter fold (λ _. None) channel.invited) (λ q. not (gone q)))

    same_rest : peopled channel
        (retain_keys (alter fold (λ _. None) channel.members) (λ q. not (gone q)))
        (retain_keys (alter fold (λ _. None) channel.invited) (λ q. not (gone q)))
        ≡ thinned (λ q. same_fold q fold || gone q) channel
    same_rest = λ i. peopled channel (thin_rows fold gone channel.members i)
        (thin_rows fold gone channel.invited i)

    by_test : (b : Bool) → is_nil (keys (alter fold (λ _. None) channel.members)) ≡ b
        → option_and_then (thinned gone) (without_user fold channel)
        ≡ thinned (λ q. same_fold q fold || gone q) channel
    by_test true none =
        ap (λ b. option_and_then (thinned gone)
        (cond b None (Some (record channel {
          members = alter fold (λ _. None) channel.members;
          invited = alter fold (λ _. None) channel.invited;
        })))) none
        ∙ sym (ap (λ b. cond b None (Some (record channel {
          members = retain_keys (alter fold (λ _. None) channel.members) (λ q. not (gone q));
          invited = retain_keys (alter fold (λ _. None) channel.invited) (λ q. not (gone q));
        }))) (none_kept (alter fold (λ _. None) channel.members) (λ q. not (gone q)) none))
        ∙ same_rest
    by_test false some =
        ap (λ b. option_and_then (thinned gone)
        (cond b None (Some (record channel {
          members = alter fold (λ _. None) channel.members;
          invited = alter fold (λ _. None) channel.invited;
        })))) some
        ∙ same_rest

kept_all : {X : Type 0} (table : Table X) → retain_keys table (λ q. not false) ≡ table
kept_all table =
    same_table (retain_keys table (λ q. not false)) table (λ q. row-kept table (λ q. not false) q)

-- where nobody is gone, a channel with a member is as it was
none_thinned : (channel : Channel) → is_nil (keys channel.members) ≡ false
    → thinned (λ q. false) channel ≡ Some channel
none_thinned channel some =
    (λ i. peopled channel (kept_all channel.members i) (kept_all channel.invited i))
    ∙ ap (λ b. cond b None (Some channel)) some

pub channels_left : (room : Room) (text : List ℕ) (users : List User) → IsWellFormed room
    → (fold : List ℕ) → row (after_all room (quits_of text users)).channels fold
    ≡ option_and_then (thinned (among users)) (row room.channels fold)
unfolding after
channels_left room text [] well fold = by_row (row room.channels fold) refl
  where
    by_row : (o : Option Channel) → row room.channels fold ≡ o
        → o ≡ option_and_then (thinned (λ q. false)) o
    by_row None at = refl
    by_row (Some channel) at =
        sym (none_thinned channel (well.channels_sound fold channel at).some_member)
channels_left room text (user ∷ users) well fold =
    channels_left (after room (Quit user.nick text)) text users
    (quit_well room user.nick text well) fold
    ∙ ap (option_and_then (thinned (among users)))
    (row-each (without_user (key user.nick)) room.channels fold)
    ∙ by_row (row room.channels fold)
  where
    by_row : (o : Option Channel)
        → option_and_then (thinned (among users)) (option_and_then (without_user (key user.nick)) o)
        ≡ option_and_then (thinned (among (user ∷ users))) o
    by_row None = refl
    by_row (Some channel) = thin_after (key user.nick) (among users) channel

-- ---- who is among the users that pass a test

apart_below : (q : List ℕ) (e : List ℕ × User) (p : User → Bool) (es : List (List ℕ × User))
    → same_fold q e.0 ≡ true → below_all fold_cmp e.0 es ≡ true
    → option_map_or p (find fold_cmp q es) false ≡ false
apart_below q e p es one below = ap (λ o. option_map_or p o false)
    (ap (λ f. find fold_cmp f es) (one_fold q e.0 one) ∙ absent e.0 es below)

among_entries : (p : User → Bool) (q : List ℕ) (es : List (List ℕ × User))
    → is_sorted fold_cmp es ≡ true → AllByRecursion IsNamed es
    → among (filter p (map (λ e. e.1) es)) q ≡ option_map_or p (find fold_cmp q es) false
among_entries p q [] rise named = refl
among_entries p q (e ∷ es) rise named =
    let parts = and_parts _ _ rise in
    by_test (p e.1) refl (same_fold q e.0) refl parts.0 (among_entries p q es parts.1 named.1)
  where
    by_test : (c : Bool) → p e.1 ≡ c → (b : Bool) → same_fold q e.0 ≡ b → below_all fold_cmp e.0 es
        ≡ true → among (filter p (map (λ e. e.1) es)) q ≡ option_map_or p (find fold_cmp q es) false
        → among (cond c (e.1 ∷ filter p (map (λ e. e.1) es)) (filter p (map (λ e. e.1) es))) q
        ≡ option_map_or p (cond b (Some e.1) (find fold_cmp q es)) false
    by_test true passes true one below rest =
        ap (λ f. same_fold q f || among (filter p (map (λ e. e.1) es)) q) named.0
        ∙ ap (λ b. b || among (filter p (map (λ e. e.1) es)) q) one ∙ sym passes
    by_test true passes false two below rest =
        ap (λ f. same_fold q f || among (filter p (map (λ e. e.1) es)) q) named.0
        ∙ ap (λ b. b || among (filter p (map (λ e. e.1) es)) q) two ∙ rest
    by_test false fails true one below rest = rest ∙ apart_below q e p es one below ∙ sym fails
    by_test false fails false two below rest = rest

-- one is among those of a table who pass a test just where its user passes it
pub among_values : (users : Table User)
    → ((q : List ℕ) (user : User) → row users q ≡ Some user → key user.nick ≡ q) → (p : User → Bool)
    (q : List ℕ) → among (filter p (values users)) q ≡ option_map_or p (row users q) false
among_values users named p q =
    among_entries p q (entries users) (is_true _ (entries_sorted users)) (table_named users named)
    ∙ ap (λ o. option_map_or p o false) (sym (get-entries users q))
