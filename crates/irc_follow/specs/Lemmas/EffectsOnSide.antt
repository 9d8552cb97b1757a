-- A side is sound still after an effect of one of its users, or of one who comes.
use Rattle.std.proofs.Common.{◌≡◌, ℕ, Bool, true, false, cond, not, ◌||◌, Option, Some, None, refl}
use Rattle.std.proofs.Common.{sym, ◌∙◌, ap, option_map, List, if◌then◌else◌}
use Rattle.std.specs.Cmp.Lexicographic.{bytes_decides}
use Rattle.std.specs.FinMap.{get, retain_keys}
use Rattle.std.specs.Option.{option_and_then, option_map_or}
use Rattle.std.proofs.lemmas.Option.{same_Some}
use Rattle.irc_names.specs.Fold.{key, same}
use Rattle.irc_names.specs.TableLaws.{same_fold, same_fold-refl, one_fold}
use Rattle.irc_room.specs.effect.Effect.{Effect}
use Rattle.irc_room.specs.effect.Effect.TheVariants.{AddUser, Rename, Quit}
use Rattle.irc_room.specs.After.{after}
use Rattle.irc_room.specs.Effects.{IsPossible}
use Rattle.irc_room.specs.Limits.{KeepsLimits}
use Rattle.irc_room.specs.Readers.{home_under}
use Rattle.irc_room.specs.Lemmas.WellFormedLaw.{after_is_well_formed}
use Rattle.irc_room.specs.Lemmas.LimitsKept.{after_is_within_limits, sent_keeps_limits}
use Rattle.irc_stage.specs.declared.clients.Client.{Client}
use Rattle.irc_stage.specs.declared.clients.Client.TheVariants.{Registering, Registered}
use Rattle.irc_stage.specs.EffectTold.{is_another}
use Rattle.irc_stage.specs.Handle.{is_client, renamed_in}
use Rattle.irc_stage.specs.RoomMachine.{Clients, each_client}
use Rattle.irc_stage.specs.Lemmas.Counting.{get-kept}
use Rattle.irc_stage.specs.Lemmas.Numbers.{get-each}
use Rattle.irc_world.specs.ClientsUsers.{fold_of, registered_as}
use Rattle.irc_merge.specs.Deeds.{does, gains}
use Rattle.irc_relay.specs.Links.{same as same_server}
use Rattle.irc_follow.specs.SideState.{ItemSetting, clients_left, hall_after, done, info_in}
use Rattle.irc_follow.specs.SideState.{IsItemSetting}
use Rattle.irc_follow.specs.SideState.{IsSoundSide}
use Rattle.irc_follow.specs.SideState as of_side
use Rattle.irc_follow.specs.Says.{IsDoableEffect, IsDoableGain}
use Rattle.irc_follow.specs.Lemmas.TreeGains.{gained_is_sound}
use Rattle.irc_follow.specs.Lemmas.UsersAfter.{fold_after, home_stays, takes_out}
use Rattle.irc_world.specs.Lemmas.HomesPassing.{NewPasses, pass_after}

-- one test for two nicknames, and for their folds
pub same_folds : (a b : List ℕ) → same_fold (key a) (key b) ≡ same a b
same_folds a b = by (same a b) (same_fold (key a) (key b)) refl refl
  where
    by : (one two : Bool) → same a b ≡ one → same_fold (key a) (key b) ≡ two → two ≡ one
    by true true e f = refl
    by false false e f = refl
    by true false e f = cc (sym f ∙ ap (same_fold (key a))
        (sym ((bytes_decides (key a) (key b)).0 e)) ∙ same_fold-refl (key a))
    by false true e f = cc (sym e ∙ (bytes_decides (key a) (key b)).1 (one_fold (key a) (key b) f))

-- a client that is registered afterwards was so, and its user stays
pub record WasRegistered (clients : Clients) (effect : Effect) (client : ℕ)
    (fold_now : List ℕ) : Type 0 where
  pub fold : List ℕ
  pub was : registered_as clients client ≡ Some fold
  pub moved : fold_after effect fold ≡ fold_now
  pub stays : takes_out effect fold ≡ false

module _ (clients : Clients) (client : ℕ) (fold_now : List ℕ) where
  still : (effect : Effect) → ((fold : List ℕ) → fold_after effect fold ≡ fold)
      → ((fold : List ℕ) → takes_out effect fold ≡ false)
      → registered_as clients client ≡ Some fold_now → WasRegistered clients effect client fold_now
  still effect same_one nobody is =
      record { fold = fold_now; was = is; moved = same_one fold_now; stays = nobody fold_now }

  renamed : (nick new : List ℕ) → registered_as (each_client (renamed_in nick new) clients) client
      ≡ Some fold_now → WasRegistered clients (Rename nick new) client fold_now
  renamed nick new is = by (get clients client) refl
      (sym (ap (option_and_then fold_of) (get-each (renamed_in nick new) clients client)) ∙ is)
    where
      by_name : (name : List ℕ) → get clients client ≡ Some (Registered name) → (b : Bool)
          → same name nick ≡ b → fold_of (if b then Registered new else Registered name)
          ≡ Some fold_now → WasRegistered clients (Rename nick new) client fold_now
      by_name name there true one now = record {
        fold = key name;
        was = ap (option_and_then fold_of) there;
        moved = ap (λ c. if c then key new else key name) (same_folds name nick ∙ one)
            ∙ same_Some (key new) fold_now now;
        stays = refl;
      }
      by_name name there false two now = record {
        fold = key name;
        was = ap (option_and_then fold_of) there;
        moved = ap (λ c. if c then key new else key name) (same_folds name nick ∙ two)
            ∙ same_Some (key name) fold_now now;
        stays = refl;
      }

      by : (o : Option Client) → get clients client ≡ o
          → option_and_then fold_of (option_map (renamed_in nick new) o) ≡ Some fold_now
          → WasRegistered clients (Rename nick new) client fold_now
      by None there now = absurd (cc now)
      by (Some (Registering pending)) there now = absurd (cc now)
      by (Some (Registered name)) there now = by_name name there (same name nick) refl now

  quitted : (nick text : List ℕ)
      → registered_as (retain_keys clients (is_another clients nick)) client ≡ Some fold_now
      → WasRegistered clients (Quit nick text) client fold_now
  quitted nick text is = by (get clients client) refl
      (sym (ap (option_and_then fold_of) (get-kept clients (is_another clients nick) client)) ∙ is)
    where
      by_name : (name : List ℕ) → get clients client ≡ Some (Registered name)
          → (b : Bool) → same name nick ≡ b
          → option_and_then fold_of (cond (not b) (Some (Registered name)) None) ≡ Some fold_now
          → WasRegistered clients (Quit nick text) client fold_now
      by_name name there true one now = absurd (cc now)
      by_name name there false two now = record {
        fold = key name;
        was = ap (option_and_then fold_of) there;
        moved = same_Some (key name) fold_now now;
        stays = same_folds name nick ∙ two;
      }

      by : (o : Option Client) → get clients client ≡ o → option_and_then fold_of
          (cond (is_another clients nick client) (get clients client) None) ≡ Some fold_now
          → WasRegistered clients (Quit nick text) client fold_now
      by None there now = absurd (cc (sym now ∙ ap
          (λ o. option_and_then fold_of (cond (is_another clients nick client) o None)) there
          ∙ none (is_another clients nick client)))
        where
          none : (b : Bool) → option_and_then fold_of (cond b None None) ≡ None
          none true = refl
          none false = refl
      by (Some (Registering pending)) there now =
          absurd (cc (sym now ∙ ap (λ o. option_and_then fold_of (cond (is_another clients nick
          client) o None)) there ∙ none (is_another clients nick client)))
        where
          none : (b : Bool)
              → option_and_then fold_of (cond b (Some (Registering pending)) None) ≡ None
          none true = refl
          none false = refl
      by (Some (Registered name)) there now =
          by_name name there (same name nick) refl
          (sym (ap (λ o. option_and_then fold_of (cond
          (option_map_or (λ c. not (is_client nick c)) o true) o None)) there) ∙ now)

  pub was_registered : (effect : Effect) → registered_as (clients_left effect clients) client
      ≡ Some fold_now → WasRegistered clients effect client fold_now
  was_registered (Rename nick new) is = renamed nick new is
  was_registered (Quit nick text) is = quitted nick text is
  was_registered effect is = still effect (λ _. refl) (λ _. refl) is

-- what an effect has to be so that a side stays sound by it
pub record KeepsSide (w : of_side.SideState) (effect : Effect) : Type 0 where
  pub possible : IsPossible w.hall.room effect
  pub limits : KeepsLimits effect
  pub known : NewPasses w.tree.knows effect

pub kept_by_effect : (s : ItemSetting) (w : of_side.SideState) (effect : Effect) → IsSoundSide s w
    → KeepsSide w effect → IsSoundSide s (record w { hall = hall_after effect w.hall })
kept_by_effect s w effect sound keeps = record {
  tree = sound.tree;
  parents = sound.parents;
  well = after_is_well_formed w.hall.room effect sound.well keeps.possible;
  within = after_is_within_limits w.hall.room effect sound.within keeps.limits;
  at_known = pass_after w.tree.knows w.hall.room effect sound.at_known keeps.known;
  registered = λ client fold is.
      let before = was_registered w.hall.clients client fold effect is in
      let old = sound.registered client before.fold before.was in
      record {
        home = old.home;
        of_client = old.of_client;
        of_user = ap (home_under (after w.hall.room effect)) (sym before.moved)
            ∙ home_stays w.hall.room effect before.fold old.home keeps.possible.nick_free
            before.stays old.of_user;
      };
}

new_known : (s : ItemSetting) (w : of_side.SideState) (effect : Effect) → IsDoableEffect s w effect
    → NewPasses w.tree.knows effect
new_known s w (AddUser user) doable = doable.comes.known
new_known s w effect doable = tt

pub effect_keeps : (s : ItemSetting) (w : of_side.SideState) (effect : Effect) → IsSoundSide s w
    → IsDoableEffect s w effect → IsSoundSide s (done s w (does effect))
unfolding done
effect_keeps s w effect sound doable =
    kept_by_effect s w effect sound (record {
      possible = doable.possible;
      limits = sent_keeps_limits w.hall.room effect sound.within doable.sendable;
      known = new_known s w effect doable;
    })

-- and after a server more is known
pub gain_keeps : (s : ItemSetting) (w : of_side.SideState) (uplink name words : List ℕ)
    → IsItemSetting s → IsSoundSide s w → IsDoableGain s w uplink name words
    → IsSoundSide s (done s w (gains uplink name words))
unfolding done
gain_keeps s w uplink name words fixed sound doable = record {
  tree = gained_is_sound s.names
      (info_in s.settings) fixed.servers fixed.few w.tree sound.tree uplink name words doable.can;
  parents = sound.parents;
  well = sound.well;
  within = sound.within;
  at_known =
      λ fold user is. ap (λ b. b || same_server user.home name) (sound.at_known fold user is);
  registered = sound.registered;
}
