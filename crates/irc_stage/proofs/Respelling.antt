-- A server whose channel is spelled in the greater of two ways.
use Rattle.std.specs.Prelude.{OnOk, OnErr}
use Rattle.std.proofs.Common.{◌≡◌, ℕ, false, Option, Some, None, Result, Ok, Err, List, refl, sym}
use Rattle.std.proofs.Common.{◌∙◌, ap, subst, is_some, option_map, if◌then◌else◌}
use Rattle.std.specs.Result.{result_err}
use Rattle.std.proofs.lemmas.Option.{none-some}
use Rattle.irc_names.specs.Fold.{key}
use Rattle.irc_names.specs.Tables.{Table, row}
use Rattle.irc_channels.specs.declared.channel.Channel.{Channel}
use Rattle.irc_channels.specs.Channels.{respelled}
use Rattle.irc_room.specs.fault.RoomFault.{RoomFault}
use Rattle.irc_room.specs.fault.RoomFault.TheVariants.{Failed, NoSuchChannel}
use Rattle.irc_room.specs.After.{titled_by}
use Rattle.irc_room.specs.Applying.{ServerRoom, respelling_fault}
use Rattle.irc_room.specs.Effects.{has_channel}
use Rattle.irc_room.specs.Lemmas.RespelledRooms.{respelled_is_well_formed}
use Rattle.irc_room.specs.Lemmas.Rows.{alter_same}
use Rattle.irc_stage.specs.Loops.Branching.{KnowsNothing}
use Rattle.irc_stage.specs.declared.ways.Ways.{Ways}
use Rattle.irc_stage.specs.declared.parts.ServerParts.{ServerParts}
use Rattle.irc_stage.specs.Loops.Parts.{IsServing}
use Rattle.irc_stage.proofs.ListsKept.{titled_so}

-- a channel that is not there has no other spelling
none_respelled : (name : List ℕ) (found : Option Channel) (fault : RoomFault) → (if is_some found
    then None else Some NoSuchChannel) ≡ Some fault → option_map (respelled name) found ≡ found
none_respelled name None fault is = refl
none_respelled name (Some channel) fault is = absurd (none-some fault is)

-- whichever way the room answers, it has the greater spelling
pub room_respelled : {U : Type 0} (result : Result U RoomFault) (kept now : ServerRoom)
    (name : List ℕ) → kept.failed ≡ false → result_err result ≡ respelling_fault kept name
    → OnOk result (now ≡ record kept { room = titled_by name kept.room })
    → OnErr result (now ≡ kept) → now ≡ record kept { room = titled_by name kept.room }
room_respelled (Ok done) kept now name serves fault ok refused = ok
room_respelled (Err why) kept now name serves fault ok refused =
    refused
    ∙ ap (λ (channels : Table Channel).
    record kept { room = record kept.room { channels = channels } })
    (sym (alter_same (key name) (option_map (respelled name)) kept.room.channels
    (none_respelled name (row kept.room.channels (key name)) why
    (sym (fault ∙ ap (λ b. if b then Some Failed
    else (if has_channel kept.room name then None else Some NoSuchChannel)) serves)))))

-- a server that serves goes on to: the same clients listen, and no way is known
pub serves_respelled : (stage : ServerParts) → IsServing stage → (name : List ℕ) (now : ServerRoom)
    (ways : Ways) → now ≡ record stage.room { room = titled_by name stage.room.room }
    → KnowsNothing ways → IsServing (record stage { room = now; ways = ways })
serves_respelled stage serving name now ways is known =
    subst (λ (kept : ServerRoom). IsServing (record stage { room = kept; ways = ways })) (sym is)
    (record {
      ready = record {
        own_is = serving.ready.own_is;
        sound = record {
          serves = serving.ready.sound.serves;
          well_formed =
              respelled_is_well_formed name stage.room.room serving.ready.sound.well_formed;
        };
        indexed = serving.ready.indexed;
        heard = titled_so stage.listeners.lists stage.room.room stage.clients.by_nick name
            serving.ready.heard;
        branches = λ channel one. cc (sym known ∙ one);
        met = serving.ready.met;
      };
      matched = record {
        registered_is_user = serving.matched.registered_is_user;
        user_has_one = serving.matched.user_has_one;
        spelled = serving.matched.spelled;
        user_has_client = serving.matched.user_has_client;
      };
    })
