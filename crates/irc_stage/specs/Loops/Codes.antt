-- How a server is stored.
use Rattle.std.specs.Prelude.{ℕ, Option, List, [], refl}
use Rattle.std.specs.Coded.{Coded, code_by, coded×, coded_ℕ, coded_list, coded_option}
use Rattle.std.specs.FinMap.{code}
use Rattle.irc_names.specs.Tables.{Table}
use Rattle.irc_batch.specs.Batches.{Batch, batch_of}
use Rattle.irc_routes.specs.Known.{Known}
use Rattle.irc_users.specs.declared.user.User.{User}
use Rattle.irc_channels.specs.declared.channel.Channel.{Channel}
use Rattle.irc_stage.specs.declared.clients.Client.{Client}
use Rattle.irc_stage.specs.RoomMachine.{Clients}
use Rattle.irc_stage.specs.EffectTold.{Served}
use Rattle.irc_stage.specs.View.{KnownPeer, End, Ends, View}

abbrev pub peer_code : Coded KnownPeer
peer_code =
    code_by (List ℕ × List ℕ) (coded× (coded_list coded_ℕ) (coded_list coded_ℕ))
    (λ p. (p.name, p.password)) (λ p. record { name = p.0; password = p.1 }) (λ _. refl)

abbrev pub end_code : Coded End
end_code =
    code_by (Option (List ℕ) × (Option (List ℕ) × Option (List ℕ)))
    (coded× (coded_option (coded_list coded_ℕ))
    (coded× (coded_option (coded_list coded_ℕ)) (coded_option (coded_list coded_ℕ))))
    (λ e. (e.starts, (e.password, e.far)))
    (λ p. record { starts = p.0; password = p.1.0; far = p.1.1 }) (λ _. refl)

-- as its parts
abbrev pub view_code : Coded Known → Coded Client → Coded (Table User) → Coded Channel → Coded View
view_code routes client users channel =
    code_by (Known × (List KnownPeer × (Ends × (Clients × (Table User × Table Channel)))))
    (coded× routes (coded× (coded_list peer_code) (coded× (code coded_ℕ end_code)
    (coded× (code coded_ℕ client) (coded× users (code (coded_list coded_ℕ) channel))))))
    (λ v. (v.routes, (v.peers, (v.ends, (v.clients, (v.room.users, v.room.channels))))))
    (λ p. record {
      routes = p.0;
      peers = p.1.0;
      ends = p.1.1.0;
      clients = p.1.1.1.0;
      room = record { users = p.1.1.1.1.0; channels = p.1.1.1.1.1 };
    })
    (λ _. refl)

-- with what it has put out
abbrev pub served_code : Coded View → Coded Batch → Coded Served
served_code view batch =
    code_by (View × Batch) (coded× view batch) (λ s. (s.state, batch_of s.out []))
    (λ p. record { state = p.0; out = p.1.outs }) (λ _. refl)
