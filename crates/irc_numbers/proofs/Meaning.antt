-- What a line of a link tells servers that are alike: what is looked at of a row that another
-- server has is whether it is behind the link.
use Rattle.std.proofs.Common.{◌≡◌, ℕ, Bool, true, false, bytes_eq, cond, not, ◌&&◌, ◌||◌, is_some}
use Rattle.std.proofs.Common.{Option, Some, None, Result, Ok, Err, List, [], ◌∷◌, find, refl, ◌∙◌}
use Rattle.std.proofs.Common.{ap, subst, option_map, unwrap_or, if◌then◌else◌}
use Rattle.std.proofs.Math.Path.{fun_ext}
use Rattle.std.specs.FinMap.{keys}
use Rattle.std.specs.List.{AllByRecursion, list_any}
use Rattle.std.specs.Option.{option_map_or}
use Rattle.std.proofs.lemmas.Option.{same_Some}
use Rattle.irc_line.specs.declared.reading.LineFault.{LineFault}
use Rattle.irc_line.specs.declared.reading.LineFault.TheVariants as fault
use Rattle.irc_line.specs.Messages.{Parsed}
use Rattle.irc_names.specs.Tables.{row}
use Rattle.irc_batch.specs.declared.close_reason.CloseReason.{CloseReason}
use Rattle.irc_batch.specs.declared.close_reason.CloseReason.TheVariants as reason
use Rattle.irc_names.specs.Fold.{key}
use Rattle.irc_names.specs.Names.{is_server}
use Rattle.irc_channels.specs.declared.channel.Channel.{Channel}
use Rattle.irc_merge.specs.Deeds.{loses}
use Rattle.irc_room.specs.Readers.{home_under}
use Rattle.irc_room.specs.Room.{Room}
use Rattle.irc_routes.specs.Known.{distance_of, is_full, is_known, token_in}
use Rattle.irc_link_words.specs.Words.{are_words, is_command}
use Rattle.irc_link_reader.specs.Means.{read_by}
use Rattle.irc_link_reader.specs.Reader.{Reader, is_behind_link, reader_of}
use Rattle.irc_link_words.specs.declared.openings.Opening.{Opening}
use Rattle.irc_link_words.specs.declared.openings.Opening.TheVariants as opening
use Rattle.irc_link_words.specs.Openings.{opening_of}
use Rattle.irc_link_words.specs.Peers.{not_taken, refusal}
use Rattle.irc_stage.specs.Ends.{is_met}
use Rattle.irc_burst.specs.DeedsMeant.{BurstRow, burst_row_of, burst_table, deeds_meant}
use Rattle.irc_burst.specs.DeedsMeant.{effects_told, first_reason, later_server, of_server}
use Rattle.irc_burst.specs.DeedsMeant.{read_burst_row, server_line, squit_line}
use Rattle.irc_burst.specs.HandshakeMeant.{handshake_meant, out_of_place}
use Rattle.irc_stage.specs.View.{End, KnownPeer, View, is_named, password_for}
use Rattle.irc_server.specs.Heard.{heard, message_heard, met_unless, of_met, opened}
use Rattle.irc_numbers.specs.Alike.{AreAlike, AreApart, Numbers}
use Rattle.irc_numbers.specs.Meaning.{LinesAreHeardAlike}
use Rattle.irc_numbers.proofs.Effects.{known_of}
use Rattle.irc_numbers.proofs.KnownAlike.{AreKnownAlike, behind_same, distance_same, full_same}
use Rattle.irc_numbers.proofs.KnownAlike.{known_same, token_same}

module _ (numbers : Numbers) (own other : View) (place conn : ℕ) (apart : AreApart numbers)
    (alike : AreAlike numbers own other)
    (is_end : numbers.link place ≡ Some conn) where
  abbrev known : AreKnownAlike numbers own.routes other.routes
  known = known_of numbers own other alike

  -- ---- the reader

  abbrev mine : Reader
  mine = reader_of own.room own.routes conn

  abbrev theirs : Reader
  theirs = reader_of other.room other.routes place

  far_same : is_behind_link other.routes place ≡ is_behind_link own.routes conn
  far_same = fun_ext (behind_same numbers own.routes other.routes known apart place conn is_end)

  reader_same : theirs ≡ mine
  reader_same =
      ap (λ (room : Room). reader_of room other.routes place) alike.room
      ∙ (λ i. record {
        home = mine.home;
        is_far = far_same i;
        server = token_path i;
        distance = distance_path i;
        has_far =
            λ name. option_map_or (some_far (far_same i)) (row own.room.channels (key name)) false;
        tells_away = (known.about i).tells_away;
      })
    where
      some_far : (List ℕ → Bool) → Channel → Bool
      some_far far channel = list_any (λ fold. option_map_or far (home_under own.room fold) false)
          (keys channel.members)

      token_path : token_in other.routes place ≡ token_in own.routes conn
      token_path =
          fun_ext (token_same numbers own.routes other.routes known apart place conn is_end)

      distance_path : distance_of other.routes ≡ distance_of own.routes
      distance_path = fun_ext (distance_same numbers own.routes other.routes known)

  -- ---- lines that are judged

  not_taken_same : (name : List ℕ) → not_taken other.routes name ≡ not_taken own.routes name
  not_taken_same name =
      ap (λ b. if b then Some reason.AlreadyKnown
      else (if is_full other.routes then Some reason.Full else None))
      (known_same numbers own.routes other.routes known name)
      ∙ ap (λ b. if is_known own.routes name then Some reason.AlreadyKnown else (if b
      then Some reason.Full else None)) (full_same numbers own.routes other.routes known)

  server_same : (reader : Reader) (prefix : Option (List ℕ)) (params : List (List ℕ))
      → server_line reader other.routes prefix params ≡ server_line reader own.routes prefix params
  server_same reader None params = refl
  server_same reader (Some uplink) [] = refl
  server_same reader (Some uplink) (name ∷ []) = refl
  server_same reader (Some uplink) (name ∷ distance ∷ []) = refl
  server_same reader (Some uplink) (name ∷ distance ∷ token ∷ []) = refl
  server_same reader (Some uplink) (name ∷ distance ∷ token ∷ info ∷ []) =
      ap (λ (late : Option CloseReason). record (later_server reader own.routes uplink name distance
      token info) { late = late }) (not_taken_same name)
  server_same reader (Some uplink) (name ∷ distance ∷ token ∷ info ∷ one ∷ more) = refl

  squit_same : (reader : Reader) (prefix : Option (List ℕ)) (params : List (List ℕ))
      → squit_line reader other.routes prefix params ≡ squit_line reader own.routes prefix params
  squit_same reader None params = refl
  squit_same reader (Some server) [] = refl
  squit_same reader (Some server) (name ∷ []) = refl
  squit_same reader (Some server) (name ∷ text ∷ []) =
      ap (λ b. of_server reader server (are_words text) (not b || reader.is_far name)
      (is_server name && b) (loses server name text ∷ []))
      (known_same numbers own.routes other.routes known name)
  squit_same reader (Some server) (name ∷ text ∷ one ∷ more) = refl

  -- what judges a line looks at nothing else of the routes
  abbrev JudgesAlike : BurstRow → Type 0
  JudgesAlike r =
      (reader : Reader) (room : Room) (prefix : Option (List ℕ)) (params : List (List ℕ))
      → r.judge reader other.routes room prefix params
      ≡ r.judge reader own.routes room prefix params

  judged_alike : AllByRecursion JudgesAlike burst_table
  judged_alike = (
    λ reader room prefix params. server_same reader prefix params,
    (
      λ reader room prefix params. squit_same reader prefix params,
      (
        λ reader room prefix params. refl,
        (λ reader room prefix params. refl, (λ reader room prefix params. refl, tt)),
      ),
    ),
  )

  row_alike : (message : Parsed) (rows : List BurstRow) → AllByRecursion JudgesAlike rows
      → (r : BurstRow) → find (λ (s : BurstRow). is_command s.command message.command) rows ≡ Some r
      → JudgesAlike r
  row_alike message [] all r is = cc is
  row_alike message (first ∷ rows) all r is =
      by (is_command first.command message.command) (row_alike message rows all.1 r) is
    where
      by : (b : Bool) → (find (λ (s : BurstRow). is_command s.command message.command) rows ≡ Some r
          → JudgesAlike r) → cond b (Some first) (find
          (λ (s : BurstRow). is_command s.command message.command) rows) ≡ Some r → JudgesAlike r
      by true later is = subst JudgesAlike (same_Some first r is) all.0
      by false later is = later is

  read_same : (message : Parsed) (found : Option BurstRow) → burst_row_of message.command ≡ found
      → read_burst_row other.room other.routes place message found
      ≡ read_burst_row own.room own.routes conn message found
  read_same message None is =
      ap (λ name. effects_told name other.room message.prefix (read_by theirs message)) alike.name
      ∙ ap (λ room. effects_told own.routes.name room message.prefix (read_by theirs message))
      alike.room
      ∙ ap (λ reader. effects_told own.routes.name own.room message.prefix
      (read_by reader message)) reader_same
  read_same message (Some r) is =
      ap first_reason
      (row_alike message burst_table judged_alike r is theirs other.room message.prefix
      message.params
      ∙ ap (λ room. r.judge theirs own.routes room message.prefix message.params) alike.room
      ∙ ap (λ reader. r.judge reader own.routes own.room message.prefix message.params) reader_same)

  meant_same : (message : Parsed) → deeds_meant other.room other.routes place message
      ≡ deeds_meant own.room own.routes conn message
  unfolding deeds_meant
  meant_same message = read_same message (burst_row_of message.command) refl

  -- ---- the handshake

  handshake_same : (has_password : Bool) (message : Parsed)
      → handshake_meant has_password other.room other.routes place message
      ≡ handshake_meant has_password own.room own.routes conn message
  unfolding handshake_meant
  handshake_same has_password message = ap (λ told. unwrap_or (opening_of has_password message)
      (Err (out_of_place told))) (meant_same message)

  password_same : (name : List ℕ) → password_for other name ≡ password_for own name
  password_same name = ap (λ (peers : List KnownPeer).
      option_map (λ (peer : KnownPeer). peer.password) (find (is_named name) peers)) alike.peers

  refusal_same : (kept : Option (List ℕ)) (given name : List ℕ)
      → refusal kept given other.routes name ≡ refusal kept given own.routes name
  refusal_same None given name = refl
  refusal_same (Some kept) given name =
      ap (λ late. if bytes_eq kept given then late else Some reason.Password) (not_taken_same name)

  opened_same : (end : End) (begins : Result Opening CloseReason)
      → opened other end begins ≡ opened own end begins
  opened_same end (Err why) = refl
  opened_same end (Ok (opening.Password word)) = refl
  opened_same end (Ok (opening.Greeting name info)) =
      ap (λ kept. met_unless (refusal kept (unwrap_or end.password []) other.routes name) name info)
      (password_same name)
      ∙ ap (λ late. met_unless late name info)
      (refusal_same (password_for own name) (unwrap_or end.password []) name)

  -- ---- what is heard

  message_same : (end : End) (message : Parsed)
      → message_heard other place end message ≡ message_heard own conn end message
  message_same end message =
      ap
      (λ told. if is_met end then of_met told else opened other end
      (handshake_meant (is_some end.password) other.room other.routes place message))
      (meant_same message)
      ∙ ap (λ begins. if is_met end then of_met (deeds_meant own.room own.routes conn message)
      else opened other end begins)
      (handshake_same (is_some end.password) message)
      ∙ ap (λ heard_so. if is_met end then of_met (deeds_meant own.room own.routes conn message)
      else heard_so)
      (opened_same end (handshake_meant (is_some end.password) own.room own.routes conn message))

  heard_same : (end : End) (read : Result Parsed LineFault)
      → heard other place end read ≡ heard own conn end read
  unfolding heard
  heard_same end (Ok message) = message_same end message
  heard_same end (Err fault.Empty) = refl
  heard_same end (Err fault.NoCommand) = refl
  heard_same end (Err fault.HasNul) = refl

pub lines_are_heard_alike : LinesAreHeardAlike
lines_are_heard_alike numbers own other place conn end read apart alike is_end =
    heard_same numbers own other place conn apart alike is_end end read
