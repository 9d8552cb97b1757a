-- A channel ends with its last member, and is made by a Join, which uses up an invitation.
use Rattle.std.proofs.Common.{◌≡◌, ℕ, Bool, true, false, cond, not, ◌||◌, Option, Some, None, List}
use Rattle.std.proofs.Common.{[], ◌∷◌, refl, sym, ◌∙◌, ap, subst, is_some, unwrap_or, if◌then◌else◌}
use Rattle.std.specs.List.{list_any}
use Rattle.std.specs.Option.{option_and_then, option_map_or}
use Rattle.std.specs.FinMap.{empty, insert, keys, get-empty, get-insert}
use Rattle.std.specs.Cmp.Lexicographic.{nat_list_cmp_total}
use Rattle.irc_names.specs.Lemmas.PlainFacts.{none_if_not_some}
use Rattle.irc_names.specs.Fold.{key}
use Rattle.irc_names.specs.Tables.{Table, fold_cmp, row, alter}
use Rattle.irc_names.specs.TableLaws.{same_fold, same_fold-refl, row-alter, row-alter_same}
use Rattle.irc_names.specs.TableLaws.{row-each, row-keys, same_table}
use Rattle.irc_channels.specs.declared.flags.Flags.{Flags}
use Rattle.irc_channels.specs.declared.channel.Channel.{Channel}
use Rattle.irc_channels.specs.Channels.{has_member, is_invited, new_channel, joined, left}
use Rattle.irc_channels.specs.Channels.{without_user, while_members}
use Rattle.irc_modes.specs.Modes.{is_nil}
use Rattle.irc_effects.specs.declared.effect.Effect.TheVariants.{Quit, Part, Kick}
use Rattle.irc_effects.specs.After.{after}
use Rattle.irc_effects.specs.Laws.{LastMemberEndsChannel, JoinMakesChannel, InvitationUsedUp}
use Rattle.irc_effects.specs.Lemmas.Rows.{no_row, if_not}

-- whose only key is taken out, that table has no row
nobody_left : {X : Type 0} (nick : List ℕ) (table : Table X) → keys table ≡ nick ∷ [] → (q : List ℕ)
    → row (alter nick (λ _. None) table) q ≡ None
nobody_left nick table alone q =
    row-alter nick (λ _. None) table q ∙ by_fold (same_fold q nick) refl
  where
    by_fold : (b : Bool) → same_fold q nick ≡ b → cond b None (row table q) ≡ None
    by_fold true one = refl
    by_fold false two = none_if_not_some (row table q) (sym (row-keys table q)
        ∙ ap (list_any (same_fold q)) alone ∙ ap (λ b. b || false) two)

ends : (channel : Channel) → is_nil (keys channel.members) ≡ true → while_members channel ≡ None
ends channel none = ap (λ b. if b then None else Some channel) none

only_member : (nick : List ℕ) (channel : Channel) → keys channel.members ≡ nick ∷ []
    → has_member nick channel ≡ true
only_member nick channel alone =
    sym (row-keys channel.members nick) ∙ ap (list_any (same_fold nick)) alone
    ∙ ap (λ b. b || false) (same_fold-refl nick)

left_ends : (nick : List ℕ) (channel : Channel) → keys channel.members ≡ nick ∷ []
    → left nick channel ≡ None
left_ends nick channel alone =
    ap (λ b. if b then while_members (record channel {
      members = alter nick
          (λ _. None) channel.members;
    }) else Some channel) (only_member nick channel alone)
    ∙ ends (record channel { members = alter nick (λ _. None) channel.members })
    (no_row _ (nobody_left nick channel.members alone))

without_ends : (nick : List ℕ) (channel : Channel) → keys channel.members ≡ nick ∷ []
    → without_user nick channel ≡ None
without_ends nick channel alone =
    ends (record channel {
      members = alter nick (λ _. None) channel.members;
      invited = alter nick (λ _. None) channel.invited;
    })
    (no_row _ (nobody_left nick channel.members alone))

-- the row after a change of the row that is there
altered : (fold : List ℕ) (change : Channel → Option Channel) (table : Table Channel)
    (channel : Channel) → row table fold ≡ Some channel → change channel ≡ None
    → row (alter fold (option_and_then change) table) fold ≡ None
altered fold change table channel is gone = row-alter_same fold (option_and_then change) table
    ∙ ap (option_and_then change) is ∙ gone

pub last_member_ends_channel : LastMemberEndsChannel
unfolding after
last_member_ends_channel room nick name channel (Part who place reason) is alone leaves =
    subst (λ p. row (alter p (option_and_then (left (key who))) room.channels) (key name) ≡ None)
    (sym leaves.1)
    (altered (key name) (left (key who)) room.channels channel is
    (ap (λ n. left n channel) leaves.0 ∙ left_ends (key nick) channel alone))
last_member_ends_channel room nick name channel (Kick by place who reason) is alone leaves =
    subst (λ p. row (alter p (option_and_then (left (key who))) room.channels) (key name) ≡ None)
    (sym leaves.1)
    (altered (key name) (left (key who)) room.channels channel is
    (ap (λ n. left n channel) leaves.0 ∙ left_ends (key nick) channel alone))
last_member_ends_channel room nick name channel (Quit who reason) is alone leaves =
    row-each (without_user (key who)) room.channels (key name)
    ∙ ap (option_and_then (without_user (key who))) is
    ∙ ap (λ n. without_user n channel) leaves
    ∙ without_ends (key nick) channel alone
last_member_ends_channel room nick name channel other is alone leaves = absurd leaves

-- a table with one row, made in two ways
one_row : {X : Type 0} (fold : List ℕ) (x : X)
    → alter fold (λ _. Some x) (empty {R = fold_cmp}) ≡ insert empty fold x
one_row fold x = same_table _ _ (λ q. row-alter fold (λ _. Some x) empty q
    ∙ sym (get-insert nat_list_cmp_total empty fold x q))

none_taken : {X : Type 0} (fold : List ℕ)
    → alter fold (λ _. None) (empty {X = X} {R = fold_cmp}) ≡ empty
none_taken {X} fold = same_table _ _ (λ q. row-alter fold (λ _. None) (empty {X = X}) q
    ∙ by_fold q (same_fold q fold))
  where
    by_fold : (q : List ℕ) (b : Bool)
        → cond b None (row (empty {X = X} {R = fold_cmp}) q) ≡ row (empty {X = X} {R = fold_cmp}) q
    by_fold q true = sym (get-empty fold_cmp q)
    by_fold q false = refl

-- a channel as its maker finds it
abbrev pub made_by : List ℕ → Bool → List ℕ → Channel
made_by nick op name =
    record (new_channel name) { members = insert empty nick (record { op = op; voice = false }) }

pub joined_new : (nick : List ℕ) (op : Bool) (name : List ℕ)
    → joined nick op (new_channel name) ≡ made_by nick op name
joined_new nick op name =
    let flags : Flags = record { op = op; voice = false } in
    ap (λ b. if b then new_channel name else record (new_channel name) {
      members = alter nick
          (λ _. Some flags) empty;
      invited = alter nick (λ _. None) empty;
    })
    (ap is_some (get-empty fold_cmp nick))
    ∙ ap (λ (t : Table Flags). record (new_channel name) {
      members = t;
      invited = alter nick (λ _. None) empty;
    }) (one_row nick flags)
    ∙ ap (λ (t : Table (Unit {0})). record (new_channel name) {
      members = insert empty nick flags;
      invited = t;
    }) (none_taken nick)

pub join_makes_channel : JoinMakesChannel
unfolding after
join_makes_channel room nick name op none =
    row-alter_same (key name)
    (λ c. Some (joined (key nick) op (unwrap_or c (new_channel name)))) room.channels
    ∙ ap (λ c. Some (joined (key nick) op (unwrap_or c (new_channel name)))) none
    ∙ ap Some (joined_new (key nick) op name)

used_up : (nick : List ℕ) (op : Bool) (channel : Channel) → has_member nick channel ≡ false
    → is_invited nick (joined nick op channel) ≡ false
used_up nick op channel out =
    ap (is_invited nick) (if_not (has_member nick channel) _ _ (ap not out))
    ∙ ap is_some (row-alter_same nick (λ _. None) channel.invited)

pub invitation_used_up : InvitationUsedUp
unfolding after
invitation_used_up room nick name op busy =
    ap (λ o. option_map_or (is_invited (key nick)) o false)
    (row-alter_same (key name)
    (λ c. Some (joined (key nick) op (unwrap_or c (new_channel name)))) room.channels)
    ∙ by_channel (row room.channels (key name)) busy
  where
    by_channel : (o : Option Channel) → option_map_or (has_member (key nick)) o false ≡ false
        → is_invited (key nick) (joined (key nick) op (unwrap_or o (new_channel name))) ≡ false
    by_channel None out =
        used_up (key nick) op (new_channel name) (ap is_some (get-empty fold_cmp (key nick)))
    by_channel (Some channel) out = used_up (key nick) op channel out
